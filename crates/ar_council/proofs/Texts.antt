-- A text of a statement that is valid and of which something holds.
use Rattle.std.proofs.Common.{refl}
use Rattle.ar_statement.specs.Claims.{Claim, text_of}
use Rattle.ar_statement.specs.Ranges.{IsTextOf, IsValid}

pub own-text : (P : Claim → Type 0) (claim : Claim) → IsValid claim → P claim → IsTextOf P (text_of claim)
own-text P claim valid holds = record { claim = claim; valid = valid; holds = holds; is = refl }
