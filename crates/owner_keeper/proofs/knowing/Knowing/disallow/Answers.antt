use Rattle.std.proofs.Common.{rules, ◌≡◌, Ok}
use Rattle.owner_keeper.specs.Keeping.{need_known}
use Rattle.owner_keeper.proofs.Stapled.{disallowed}
use Rattle.owner_keeper.proofs.knowing.Knowing.disallow.Goals as goal

pub returns : goal.returns
returns c =
    let known : need_known c.self.inside.certs.items c.args.permit.now.draft ≡ Ok tt = search rules in
    disallowed c.args.self.now c.self.inside.owner c.self.inside.certs.items c.self.inside.stapler c.disallow.new.self c.args.permit.now c.silence.result c.self.view_is known c.disallow.ensures c.silence.ensures
