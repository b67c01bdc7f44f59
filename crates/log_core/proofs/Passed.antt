-- What it says that a row answers, or refuses.
use Rattle.std.proofs.Common.{◌≡◌, List, ◌∷◌, ◌++◌, refl, ap}
use Rattle.std.specs.Result.{result_and}
use Rattle.std.specs.Prelude.{All, Ok, Err}
use Rattle.std.specs.List.{AllByRecursion}
use Rattle.std.proofs.lemmas.List.Elements.{recursion_from_All}
use Rattle.log_sending.specs.Checks.{Check}
use Rattle.ar_base.specs.FirstFailing.{first_error}
use Rattle.log_core.specs.Steps.{given}
use Rattle.log_core.specs.State.{LogAnswer, LogStep}
use Rattle.log_sending.specs.declared.refusal.LogRefusal.{LogRefusal}
use Rattle.ar_base.proofs.Failing.{all-good, error-behind, none-bad}

abbrev reply-in : LogAnswer → LogStep → LogStep
reply-in (Ok reply) other = reply
reply-in (Err refusal) other = other

-- where a row answers, each check holds, and the answer is the row's reply
pub passed : (checks : List Check) (reply r : LogStep) → given checks reply ≡ Ok r → AllByRecursion (λ c. c ≡ Ok tt) checks × (reply ≡ r)
passed checks reply r is = by (first_error checks) refl is
  where
    by : (c : Check) → first_error checks ≡ c → result_and c (Ok reply) ≡ Ok r → AllByRecursion (λ c. c ≡ Ok tt) checks × (reply ≡ r)
    by (Ok u) was same = (all-good checks was, ap (λ a. reply-in a reply) same)
    by (Err refusal) was same = absurd cc

pub first-refused : (holding behind : List Check) (refusal : LogRefusal) (reply : LogStep) → All (λ c. c ≡ Ok tt) holding → given (holding ++ Err refusal ∷ behind) reply ≡ Err refusal
first-refused holding behind refusal reply all =
    ap (λ c. result_and c (Ok reply)) (error-behind holding behind refusal (recursion_from_All (λ (c : Check). c ≡ Ok tt) holding all))

pub none-refused : (checks : List Check) (reply : LogStep) → All (λ c. c ≡ Ok tt) checks → given checks reply ≡ Ok reply
none-refused checks reply all = ap (λ c. result_and c (Ok reply)) (none-bad checks (recursion_from_All (λ (c : Check). c ≡ Ok tt) checks all))
