use Rattle.std.proofs.Common.{◌∙◌, sym, arith}
use Rattle.ar_statement.specs.Claims.{claim_of}
use Rattle.ar_statement.proofs.OneText.{is_found, is_read, not_read, not_valid}
use Rattle.ar_statement.proofs.statement.Statement.read.Goals as goal

pub returns-in_err-statement-clause-only : goal.returns-in_err-statement-clause-only
returns-in_err-statement-clause-only c = λ claim valid is. absurd (not_read c.args.bytes.now claim valid.held is c.in_err-statement.ensures)

pub returns-then-is_in_range-clause-found : goal.returns-then-is_in_range-clause-found
returns-then-is_in_range-clause-found c =
    let found = is_found c.args.bytes.now (claim_of c.in_ok-statement.statement) (λ i. omega (arith, c.type_inv.bytes i)) c.in_ok-statement.ensures in
    (record { held = found.0; ranges = sym c.is_in_range.ensures ∙ c.if-is_in_range.true }, found.1)

pub returns-then-is_in_range-clause-only : goal.returns-then-is_in_range-clause-only
returns-then-is_in_range-clause-only c = λ claim valid is. c.in_ok-statement.ensures ∙ is_read c.args.bytes.now claim valid.held is

pub returns-else-is_in_range-clause-only : goal.returns-else-is_in_range-clause-only
returns-else-is_in_range-clause-only c =
    λ claim valid is. absurd (not_valid c.args.bytes.now (claim_of c.in_ok-statement.statement) claim c.in_ok-statement.ensures (sym c.is_in_range.ensures ∙ c.if-is_in_range.false) valid is)
