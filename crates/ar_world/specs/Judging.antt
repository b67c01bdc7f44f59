-- The line `judge`: a client judges a message.
use Rattle.std.specs.Prelude.{ℕ, ◌+◌, Bool, false, true, if◌then◌else◌, List, [], ◌∷◌, ◌++◌, Option, Some, None, Ok}
use Rattle.ar_base.specs.Chaining.{◌>>=◌}
use Rattle.ar_records.specs.ar_safety.Held.{AcceptedBytes, verdict_on}
use Rattle.ar_statement.specs.declared.party.Role.{Role}
use Rattle.ar_statement.specs.declared.party.Role.TheVariants as role
use Rattle.client_rule.specs.declared.judgement.Judgement.{Judgement}
use Rattle.client_rule.specs.declared.judgement.Judgement.TheVariants as judgement
use Rattle.report_text.specs.declared.happening.Happening.TheVariants.{Judged}
use Rattle.report_text.specs.declared.happening.Target.{Target}
use Rattle.report_text.specs.declared.happening.Target.TheVariants.{Logs, Nobody, One}
use Rattle.report_text.specs.Verdicts.{said_of}
use Rattle.ar_world.specs.Finding.{Effect, message_at}
use Rattle.ar_nodes.specs.Finding.{named}
use Rattle.ar_nodes.specs.Pool.{Pooled}
use Rattle.ar_world.specs.State.{Moved, World}

-- ---- which message

-- a role is that of clients
abbrev pub is_client : Role → Bool
is_client role.LogServer = false
is_client role.Authority = false
is_client role.Owner = false
is_client role.Client = true

-- a message goes to a client
abbrev pub is_to_client : Target → Bool
is_to_client Nobody = false
is_to_client Logs = false
is_to_client (One who) = is_client who.role

-- the last of two numbers, where there is one
abbrev pub later_or : Option ℕ → Bool → ℕ → Option ℕ
later_or (Some later) holds number = Some later
later_or None holds number = if holds then Some number else None

-- the number of the newest message to a client, of messages the first of which has this number
unfoldable pub newest_from : ℕ → List Pooled → Option ℕ
newest_from number [] = None
newest_from number (p ∷ more) = later_or (newest_from (number + 1) more) (is_to_client p.to) number

-- the number of the message that a line names; where it names none, of the newest to a client
abbrev pub judged_number : World → Option ℕ → Option ℕ
judged_number w (Some message) = Some message
judged_number w None = newest_from 1 w.pool

-- ---- what the client holds

-- the client acts on it: there is a certificate, or it is shown that there is none
abbrev pub is_accepted : Judgement → Bool
is_accepted (judgement.Accepted certificate digest epoch root) = true
is_accepted (judgement.Absent epoch root) = true
is_accepted (judgement.Refused check) = false

-- what was accepted so far, with this where it is
abbrev pub accepted_with : List AcceptedBytes → AcceptedBytes → Judgement → List AcceptedBytes
accepted_with judged t verdict = if is_accepted verdict then judged ++ t ∷ [] else judged

-- a client says this of a message
abbrev pub judging : World → ℕ → AcceptedBytes → Judgement → Moved
judging w message t verdict = (record w { judged = accepted_with w.judged t verdict }, Judged message (said_of t.name verdict) ∷ [])

-- the client's rule, by the directory that all clients share
abbrev pub judged_by_rule : World → ℕ → AcceptedBytes → Moved
judged_by_rule w message t = judging w message t (verdict_on w.clients t)

-- word 1 names a message, or there is one to a client
abbrev pub judge_line : World → Option ℕ → List ℕ → ℕ → ℕ → Effect
judge_line w which name now age = do
  message ← named 1 (judged_number w which)
  p ← named 1 (message_at w message)
  Ok (judged_by_rule w message (record { name = name; now = now; age = age; bytes = p.bytes }))
