-- The parties of a world, as plain data.
use Rattle.std.specs.Prelude.{ℕ, List, map, Option, slice_get, ◌-◌, length}
use Rattle.std.specs.Option.{option_map}
use Rattle.ar_statement.specs.declared.party.Party.{Party}
use Rattle.authority_core.specs.State.{AuthorityState}
use Rattle.key_roll.specs.Ring.{next_key}
use Rattle.lms_tree.specs.KeyParts.{KeyParts}
use Rattle.log_core.specs.State.{CoreState}
use Rattle.owner_check.specs.Answers.{Told}
use Rattle.owner_check.specs.declared.answer.CheckAnswer.{CheckAnswer}
use Rattle.ar_nodes.specs.Pool.{Pooled}
use Rattle.ar_nodes.specs.declared.event.LogEvent.{LogEvent}

-- an honest log: where it stands, its key of each generation, and what it did without refusing, in order
pub record LogNode : Type 0 where
  pub core : CoreState
  pub keys : List KeyParts
  pub taken : List LogEvent

-- a check of owners: its book and the numbers of its asks that fail, where it tells them, and the answers that it gave
pub record CheckParts : Type 0 where
  pub told : Option Told
  pub answers : List CheckAnswer

-- a check that tells this of itself, and has answered this
abbrev pub check_told : {C : Type 0} → (C → Option Told) → (C → List CheckAnswer) → C → CheckParts
check_told told answers = λ check. record { told = told check; answers = answers check }

-- the same of checks
abbrev pub checks_told : {C : Type 0} → (C → Option Told) → (C → List CheckAnswer) → List C → List CheckParts
checks_told told answers checks = map (check_told told answers) checks

-- an honest authority: where it stands, its key of each generation, and its check, until it retires
pub record AuthorityNode : Type 0 where
  pub state : AuthorityState
  pub keys : List KeyParts
  pub check : Option CheckParts

-- a dishonest log or authority: its key of generation 0, and the leaf by which it signs next
pub record Forger : Type 0 where
  pub party : Party
  pub key : KeyParts
  pub next : ℕ

-- the messages of a pool, and for how many more there is room in memory
pub record PoolParts : Type 0 where
  pub messages : List Pooled
  pub room : ℕ

-- ---- what a party has

-- the key behind the newest of these
abbrev pub next_of : List KeyParts → Option KeyParts
next_of keys = option_map next_key (slice_get keys (length keys - 1))
