-- The line `ask`: a client asks a log, and two authorities, for a name.
use Rattle.std.specs.Prelude.{ℕ, List, [], ◌∷◌, Ok}
use Rattle.ar_base.specs.Chaining.{◌>>=◌}
use Rattle.ar_message.specs.declared.address.Address.TheVariants.{One}
use Rattle.ar_message.specs.declared.message.Message.TheVariants.{ConfirmAsk}
use Rattle.ar_message.specs.declared.sent.Sent.{Sent}
use Rattle.ar_statement.specs.Claims.{client_party, log_party}
use Rattle.ar_statement.specs.declared.party.Role.TheVariants.{Authority, LogServer}
use Rattle.owner_core.specs.Rows.{letter, sent}
use Rattle.ar_world.specs.Finding.{Effect, existing, room}
use Rattle.ar_world.specs.Sending.{posted}
use Rattle.ar_world.specs.State.{World}

-- what the client sends to the log
abbrev pub question : ℕ → List ℕ → ℕ → ℕ → ℕ → Sent
question log name first second client =
    sent (letter (One (log_party log)) (ConfirmAsk client name first second) ∷ [])

-- word 1 names a log, and words 3 and 4 authorities, each honest or not; the two may be one
abbrev pub ask_line : World → ℕ → List ℕ → ℕ → ℕ → ℕ → Effect
ask_line w log name first second client = do
  asked ← existing w 1 LogServer log
  one ← existing w 3 Authority first
  other ← existing w 4 Authority second
  free ← room w
  Ok (posted w (client_party client) (question log name first second client))
