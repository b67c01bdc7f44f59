use Rattle.std.proofs.Common.{rules, ◌≡◌, Some, Ok}
use Rattle.owner_keeper.specs.Keeping.{draft_in}
use Rattle.owner_keeper.specs.Stapling.{confirmed_epoch}
use Rattle.owner_keeper.proofs.Stapled.{stapled}
use Rattle.owner_keeper.proofs.knowing.Knowing.staple.Goals as goal

pub returns : goal.returns
returns c =
    let found : Some c.in-Some.cert.now ≡ draft_in c.self.inside.certs.items c.args.permit.now.draft = search rules in
    let epoch : confirmed_epoch c.self.inside.stapler.keys c.in-Some.cert.now c.args.confirmation.now ≡ Ok c.in_ok-epoch.epoch = search rules in
    stapled c.args.self.now c.self.inside.owner c.self.inside.certs.items c.self.inside.stapler c.args.permit.now c.args.confirmation.now c.in-Some.cert.now c.in_ok-epoch.epoch c.new.result
    c.restaple.new.self c.restaple.result c.self.view_is found epoch c.new.ensures c.restaple.ensures
