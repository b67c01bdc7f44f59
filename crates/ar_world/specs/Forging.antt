-- The lines of bytes that a script composes: what dishonest parties sign (`sign`), and what is put into the pool (`inject`).
use Rattle.std.specs.Prelude.{ℕ, ◌+◌, nat_lt, Bool, true, false, List, [], ◌∷◌, Option, Some, None, Result, Ok}
use Rattle.ar_base.specs.Chaining.{◌>>=◌}
use Rattle.ar_statement.specs.declared.party.Party.{Party}
use Rattle.report_text.specs.declared.happening.Happening.TheVariants.{SignRefused}
use Rattle.report_text.specs.declared.happening.Target.{Target}
use Rattle.report_text.specs.declared.happening.Target.TheVariants.{Logs, Nobody, One}
use Rattle.ar_nodes.specs.Composing.{composed}
use Rattle.ar_nodes.specs.Finding.{named}
use Rattle.ar_nodes.specs.Forging.{forged}
use Rattle.ar_nodes.specs.Parties.{Forger}
use Rattle.lms_tree.specs.LmsKind.{leaves_of}
use Rattle.ar_nodes.specs.Pool.{raw}
use Rattle.ar_nodes.specs.declared.fault.WorldFault.{WorldFault}
use Rattle.ar_world.specs.Finding.{Effect, existing, forger_at, room, with_forger}
use Rattle.ar_world.specs.State.{Moved, World, with_messages}

-- ---- pieces

-- the same of a line, where there is room for a message
abbrev pub composed_in : World → List (List ℕ) → Result (List ℕ) WorldFault
composed_in w pieces = do
  bytes ← composed w.pool pieces
  free ← room w
  Ok bytes

-- ---- `sign`

-- it is put into the pool, addressed to nobody, where a leaf is left; else nothing is signed
abbrev pub signing_if : Bool → World → Forger → List ℕ → Moved
signing_if true w forger text =
    with_messages (with_forger w (record forger { next = forger.next + 1 })) (raw (Some forger.party) Nobody (forged forger text) ∷ [])
signing_if false w forger text = (w, SignRefused forger.party ∷ [])

abbrev pub signing : World → Forger → List ℕ → Moved
signing w forger text = signing_if (nat_lt forger.next (leaves_of forger.key.lms)) w forger text

-- word 1 names a dishonest party
abbrev pub sign_line : World → Party → List (List ℕ) → Effect
sign_line w who pieces = do
  forger ← named 1 (forger_at w who)
  text ← composed_in w pieces
  Ok (signing w forger text)

-- ---- `inject`

-- to whom bytes go: to a party that is there, or to all logs
abbrev pub receiver_in : World → Option Party → Result Target WorldFault
receiver_in w None = Ok Logs
receiver_in w (Some who) = do
  there ← existing w 1 who.role who.number
  Ok (One who)

-- word 1 names a party, or `logs`
abbrev pub inject_line : World → Option Party → List (List ℕ) → Effect
inject_line w who pieces = do
  to ← receiver_in w who
  bytes ← composed_in w pieces
  Ok (with_messages w (raw None to bytes ∷ []))
