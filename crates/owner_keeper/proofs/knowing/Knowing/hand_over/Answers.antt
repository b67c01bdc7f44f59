use Rattle.std.proofs.Common.{rules, ◌≡◌, Some}
use Rattle.std.specs.Option.{option_map}
use Rattle.ar_cert.specs.Certificate.{digest_of}
use Rattle.owner_keeper.specs.Keeping.{draft_in}
use Rattle.owner_keeper.proofs.Acting.{handed}
use Rattle.owner_keeper.proofs.knowing.Knowing.hand_over.Goals as goal

pub returns : goal.returns
returns c =
    let found : Some c.in-Some.digest ≡ option_map digest_of (draft_in c.self.inside.certs.items c.args.draft) = search rules in
    handed c.args.self.now c.self.inside.owner c.hand.new.owner c.self.inside.certs.items c.self.inside.stapler c.args.draft c.in-Some.digest c.hand.result c.handed_reply.result c.self.view_is found
    c.hand.ensures c.handed_reply.ensures
