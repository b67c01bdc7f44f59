use Rattle.std.proofs.Common.{◌∙◌, ap, arith, ◌<◌, ◌^◌}
use Rattle.ar_statement.specs.Claims.{roll}
use Rattle.key_roll.specs.Rolls.{is_roll, named_generation}
use Rattle.key_roll.proofs.Books.{is_roll-kind, named-roll}
use Rattle.key_roll.proofs.book.RollBook.roll.Goals as goal

pub announce-requires-clause-roll : goal.announce-requires-clause-roll
announce-requires-clause-roll c =
    ap is_roll c.of.ensures ∙ is_roll-kind (roll c.args.party c.self.inside.newest c.bytes.result)

pub announce-requires-clause-named : goal.announce-requires-clause-named
announce-requires-clause-named c =
    let small : c.self.inside.newest < 2 ^ 32 = omega (arith, c.self.invariant.0.last) in
    ap named_generation c.of.ensures ∙ named-roll c.args.party c.self.inside.newest c.bytes.result small ∙ ap (λ k. k.book.newest) c.self.view_is
