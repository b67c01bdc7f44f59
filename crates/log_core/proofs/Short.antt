-- A log takes no message that is too long.
use Rattle.std.proofs.Common.{◌≡◌, ℕ, ◌≤◌, List, length, refl, arith, Bool, true, false, cond, nat_lt, Ok, Err}
use Rattle.ar_base.proofs.Places.{not-less}
use Rattle.ar_bytes.specs.Reading.{whole}
use Rattle.ar_message.specs.Messages.{longest, message_at, message_in}
use Rattle.log_core.specs.Row.{read_row, row}
use Rattle.log_core.specs.State.{CoreState, LogStep, takes}

pub row-short : (s : CoreState) (bytes : List ℕ) (reply : LogStep) → row s (takes bytes) ≡ Ok reply → length bytes ≤ longest
unfolding row message_in
row-short s bytes reply answer = by (nat_lt longest (length bytes)) refl answer
  where
    by : (long : Bool) → nat_lt longest (length bytes) ≡ long
        → read_row s (cond long (Err longest) (whole message_at bytes)) ≡ Ok reply → length bytes ≤ longest
    by true e answer = absurd cc
    by false e answer = omega (arith, not-less longest (length bytes) e)
