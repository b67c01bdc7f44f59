-- The lines of the setup: the secret, the types of keys, the logs, the authorities, and who is dishonest.
use Rattle.std.specs.Prelude.{◌++◌, ℕ, ◌==◌, nat_le, nat_lt, Bool, List, [], ◌∷◌, slice_set, Option, None, option_and_then, Ok}
use Rattle.ar_base.specs.Chaining.{◌>>=◌, need}
use Rattle.ar_base.specs.Ranges.{is_from_to}
use Rattle.ar_statement.specs.declared.party.Party.{Party}
use Rattle.ar_statement.specs.declared.party.Role.{Role}
use Rattle.ar_statement.specs.declared.party.Role.TheVariants.{LogServer, Authority, Owner, Client}
use Rattle.lm_ots.specs.OtsKind.{type_of_number}
use Rattle.lms_tree.specs.Key.{type_to_make}
use Rattle.lms_tree.specs.KeyParts.{KeyParts}
use Rattle.party_keys.specs.Directory.{Directory, is_party_count, is_quorum}
use Rattle.report_text.specs.declared.happening.Happening.TheVariants.{Dishonest}
use Rattle.ar_nodes.specs.Finding.{named}
use Rattle.ar_nodes.specs.declared.fault.WorldFault.TheVariants.{Absent, Order}
use Rattle.ar_founding.specs.FirstKeys.{keys_made, first_key}
use Rattle.ar_founding.specs.Founded.{Founded, authorities_of, log_rings, logs_of}
use Rattle.ar_founding.specs.Founding.{genesis_of, fresh_logs, new_authorities}
use Rattle.ar_world.specs.Finding.{Effect, authority_at, log_at}
use Rattle.ar_world.specs.State.{Moved, World, silent}
use Rattle.ar_world.specs.declared.phase.Phase.{Phase}
use Rattle.ar_world.specs.declared.phase.Phase.TheVariants as phase

-- ---- order

-- how far a phase is
abbrev pub place_of : Phase → ℕ
place_of phase.Beginning = 0
place_of phase.SecretTold = 1
place_of phase.KeysTold = 2
place_of phase.LogsMade = 3
place_of phase.AuthoritiesMade = 4
place_of phase.DishonestTold = 5
place_of phase.Running = 6

-- whether the logs and authorities are there
abbrev pub is_peopled : Phase → Bool
is_peopled now = nat_le (place_of phase.AuthoritiesMade) (place_of now)

-- Whether a line that leads to the second phase may come in the first. `secret`, `keys` and `logs` come in this order, each
-- at most once; `authorities` comes directly behind `logs`; then come the lines `dishonest`, where there are any, and then all
-- others.
abbrev pub may_come : Phase → Phase → Bool
may_come now phase.AuthoritiesMade = place_of now == place_of phase.LogsMade
may_come now phase.DishonestTold = is_from_to (place_of phase.AuthoritiesMade) (place_of phase.DishonestTold) (place_of now)
may_come now phase.Running = is_peopled now
may_come now next = nat_lt (place_of now) (place_of next)

-- what a line makes that leads to a phase
abbrev pub led_to : Phase → Effect → Effect
led_to next effect = do
  made ← effect
  Ok (record made.0 { phase = next }, made.1)

-- the same, where it may come
abbrev pub in_order : World → Phase → Effect → Effect
in_order w next effect = do
  comes ← need (may_come w.phase next) Order
  led_to next effect

-- ---- `secret`, `keys`, `logs`

-- all keys are made of this secret
abbrev pub secret_line : World → List ℕ → Moved
secret_line w secret = silent (record w { setup = record w.setup { secret = secret } })

-- words 1 and 2 are the numbers of types of keys, which those of logs and authorities have
abbrev pub keys_line : World → ℕ → ℕ → Effect
keys_line w lms ots = do
  tree ← named 1 (type_to_make lms)
  one_time ← named 2 (type_of_number ots)
  Ok (silent (record w { setup = record w.setup { lms = tree; ots = one_time } }))

-- word 1 says how many logs there are, and word 2 how many of them are a quorum; their keys are made
abbrev pub logs_line : World → ℕ → ℕ → Effect
logs_line w count quorum = do
  counted ← need (is_party_count count) (Absent 1)
  bound ← need (is_quorum quorum count) (Absent 2)
  Ok (record w { setup = record w.setup { logs = count; quorum = quorum } }, keys_made w.setup LogServer count)

-- ---- `authorities`

-- the logs and so many authorities are there, all honest, and know the first keys, as the clients do; checks that no authority
-- takes are dropped
abbrev pub peopled : World → ℕ → Directory → Moved
peopled w count genesis = (
  record w {
    checks = [];
    logs = fresh_logs w.setup genesis;
    authorities = new_authorities w.setup genesis w.checks count;
    genesis = genesis;
    clients = genesis;
  },
  keys_made w.setup Authority count,
)

-- the same of what the program founds, in the phase to which the line leads
abbrev pub with_parties : World → Founded → World
with_parties w founded = record w {
  phase = phase.AuthoritiesMade;
  checks = [];
  logs = logs_of founded.cores (log_rings w.setup);
  authorities = authorities_of founded.states founded.rings w.checks;
  genesis = founded.genesis;
  clients = founded.genesis;
}

-- word 1 says how many authorities there are
abbrev pub authorities_line : World → ℕ → Effect
authorities_line w count = do
  genesis ← named 1 (genesis_of w.setup count)
  Ok (peopled w count genesis)

-- ---- `dishonest`

-- the first key of an honest log or authority
abbrev pub honest_key : World → Role → ℕ → Option KeyParts
honest_key w LogServer number = option_and_then (λ node. first_key node.keys) (log_at w number)
honest_key w Authority number = option_and_then (λ node. first_key node.keys) (authority_at w number)
honest_key w Owner number = None
honest_key w Client number = None

-- the world without the honest party
abbrev pub without : World → Role → ℕ → World
without w LogServer number = record w { logs = slice_set w.logs number None }
without w Authority number = record w { authorities = slice_set w.authorities number None }
without w Owner number = w
without w Client number = w

-- the party is dishonest from here on, and signs from its first leaf on
abbrev pub turned : World → Party → KeyParts → World
turned w who key =
    let others = without w who.role who.number
    in record others { forgers = w.forgers ++ record { party = who; key = key; next = 0 } ∷ [] }

-- word 1 names an honest log or authority
abbrev pub dishonest_line : World → Party → Effect
dishonest_line w who = do
  key ← named 1 (honest_key w who.role who.number)
  Ok (turned w who key, Dishonest who ∷ [])
