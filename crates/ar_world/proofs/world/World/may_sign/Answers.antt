use Rattle.std.proofs.Common.{rules, ◌∙◌, sym, ap}
use Rattle.std.specs.Prelude.{position}
use Rattle.ar_nodes.specs.Finding.{is_forger}
use Rattle.ar_world.specs.State.{World}
use Rattle.ar_world.proofs.Forgers.{sign_uncomposed}
use Rattle.ar_world.proofs.world.World.may_sign.Goals as goal

pub returns-in_err-text-clause-err : goal.returns-in_err-text-clause-err
returns-in_err-text-clause-err g c =
    let forgers = c.deref.ensures.value ∙ ap (λ (w : World). w.forgers) c.self.view_is in
    let here = ap (position (is_forger c.args.party)) (sym forgers) ∙ sym c.forger_place.ensures ∙ c.in-Some.is in
    let fails = sign_uncomposed c.args.self.now c.args.party c.args.pieces.now c.in-Some.place c.in_err-text.field-0.0 here c.in_err-text.ensures in
    search (rules, fails)
