use Rattle.std.proofs.Common.{rules, ◌≡◌, Ok}
use Rattle.owner_keeper.specs.Keeping.{need_known}
use Rattle.owner_keeper.specs.Stapling.{allowing}
use Rattle.owner_keeper.proofs.Stapled.{allowed}
use Rattle.owner_keeper.proofs.knowing.Knowing.allow.Goals as goal

pub returns : goal.returns
returns c =
    let known : need_known c.self.inside.certs.items c.args.permit.now.draft ≡ Ok tt = search rules in
    let later : c.allow.new.self ≡ allowing c.args.permit.now c.self.inside.stapler = search rules in
    allowed c.args.self.now c.self.inside.owner c.self.inside.certs.items c.self.inside.stapler c.allow.new.self c.args.permit.now c.silence.result c.self.view_is known later c.silence.ensures
