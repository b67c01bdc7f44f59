use Rattle.std.proofs.Common.{rules, ◌≡◌, Ok, Err}
use Rattle.ar_message.specs.declared.sent.Sent.{Sent}
use Rattle.owner_core.specs.Rows.{Answers, step_row}
use Rattle.owner_keeper.specs.Stapling.{keys_behind}
use Rattle.owner_keeper.proofs.Stapled.{not_taken, took}
use Rattle.owner_keeper.proofs.knowing.Knowing.take.Goals as goal

pub returns-in-Ok : goal.returns-in-Ok
returns-in-Ok c =
    let row : step_row c.self.inside.owner c.args.bytes.now ≡ Ok (c.in-Ok.sent, c.step.new.self) = search rules in
    let keys : c.in_ok-keys.keys ≡ keys_behind c.self.inside.stapler.keys c.args.bytes.now = search rules in
    took c.args.self.now c.self.inside.owner c.step.new.self c.self.inside.certs.items c.self.inside.stapler c.go_on_with.new.self c.args.bytes.now c.in-Ok.sent c.in_ok-keys.keys c.self.view_is row keys
    c.go_on_with.ensures

pub returns-in-Err : goal.returns-in-Err
returns-in-Err c =
    let answer : Answers {T = Sent} (λ s. s) c.self.inside.owner c.step.new.self (Err c.in-Err.refusal) (step_row c.self.inside.owner c.args.bytes.now) = search rules in
    not_taken c.args.self.now c.self.inside.owner c.step.new.self c.self.inside.certs.items c.self.inside.stapler c.args.bytes.now c.in-Err.refusal c.self.view_is answer
