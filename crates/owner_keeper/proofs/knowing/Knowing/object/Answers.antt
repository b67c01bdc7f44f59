use Rattle.std.proofs.Common.{rules, ◌≡◌, Some}
use Rattle.owner_keeper.specs.Keeping.{draft_in}
use Rattle.owner_keeper.proofs.Acting.{objected}
use Rattle.owner_keeper.proofs.knowing.Knowing.object.Goals as goal

pub returns : goal.returns
returns c =
    let found : Some c.in-Some.cert.now ≡ draft_in c.self.inside.certs.items c.args.draft = search rules in
    objected c.args.self.now c.self.inside.owner c.object.new.self c.self.inside.certs.items c.self.inside.stapler c.args.draft c.in-Some.cert.now c.object.result c.sent_reply.result c.self.view_is found
    c.object.ensures c.sent_reply.ensures
