-- The world in which the logs and authorities are there.
use Rattle.std.proofs.Common.{refl, ap, subst, ◌∙◌, sym, ◌≡◌, ℕ, List, []}
use Rattle.std.specs.Prelude.{true, map, Option, Err, Ok, Result}
use Rattle.ar_base.specs.Chaining.{◌>>=◌}
use Rattle.ar_statement.specs.declared.party.Role.TheVariants.{Authority}
use Rattle.key_roll.specs.Ring.{RingParts}
use Rattle.party_keys.specs.Directory.{Directory}
use Rattle.ar_nodes.specs.Finding.{named}
use Rattle.ar_nodes.specs.Parties.{AuthorityNode, CheckParts, LogNode}
use Rattle.ar_nodes.specs.declared.fault.WorldFault.{WorldFault}
use Rattle.ar_founding.specs.FirstKeys.{first_ring, keys_made, keys_for}
use Rattle.ar_founding.specs.Founded.{Founded, authorities_of, founded_of, founded_with, fresh_states, log_rings, logs_of}
use Rattle.ar_founding.specs.Founding.{fresh_logs, genesis_of}
use Rattle.ar_founding.proofs.FirstParties.{logs-from, authorities-from}
use Rattle.ar_world.specs.Founding.{authorities_line, is_peopled, led_to, may_come, peopled, with_parties}
use Rattle.ar_world.specs.State.{Moved, World}
use Rattle.ar_world.specs.declared.phase.Phase.{Phase}
use Rattle.ar_world.specs.declared.phase.Phase.TheVariants as phase

-- ---- the line

-- the phase in which the authorities may come
pub logs-made : (now : Phase) → may_come now phase.AuthoritiesMade ≡ true → now ≡ phase.LogsMade
logs-made phase.Beginning comes = absurd cc
logs-made phase.SecretTold comes = absurd cc
logs-made phase.KeysTold comes = absurd cc
logs-made phase.LogsMade comes = refl
logs-made phase.AuthoritiesMade comes = absurd cc
logs-made phase.DishonestTold comes = absurd cc
logs-made phase.Running comes = absurd cc

pub came : (now : Phase) → may_come now phase.DishonestTold ≡ true → is_peopled now ≡ true
came phase.Beginning comes = absurd cc
came phase.SecretTold comes = absurd cc
came phase.KeysTold comes = absurd cc
came phase.LogsMade comes = absurd cc
came phase.AuthoritiesMade comes = refl
came phase.DishonestTold comes = refl
came phase.Running comes = absurd cc

with-made : (w : World) (count : ℕ) (genesis : Directory)
    → ◌≡◌ {A = Moved} (with_parties w (founded_with w.setup count genesis), keys_made w.setup Authority count) (record (peopled w count genesis).0 { phase = phase.AuthoritiesMade }, (peopled w count genesis).1)
with-made w count genesis =
    ap (λ (logs : List (Option LogNode)). made logs (authorities_of (fresh_states w.setup genesis count) (map first_ring (keys_for w.setup Authority count)) w.checks))
    (logs-from w.setup genesis 0 w.setup.logs)
    ∙ ap (made (fresh_logs w.setup genesis)) (authorities-from w.setup genesis w.checks 0 count)
  where
    made : List (Option LogNode) → List (Option AuthorityNode) → Moved
    made logs authorities = (
      record w { phase = phase.AuthoritiesMade; checks = []; logs = logs; authorities = authorities; genesis = genesis; clients = genesis },
      keys_made w.setup Authority count,
    )

pub joined-world : (w seen : World) (f told : Founded) (clients : Directory) (rings : List RingParts) (checks left : List CheckParts) (logs : List (Option LogNode)) (authorities : List (Option AuthorityNode))
    → logs ≡ logs_of told.cores rings → authorities ≡ authorities_of told.states told.rings checks
    → rings ≡ log_rings seen.setup → checks ≡ seen.checks → clients ≡ told.genesis → left ≡ [] → seen ≡ w → told ≡ f
    → record seen { phase = phase.AuthoritiesMade; checks = left; logs = logs; authorities = authorities; genesis = told.genesis; clients = clients } ≡ with_parties w f
joined-world w seen f told clients rings checks left logs authorities logs-are authorities-are rings-are checks-are clients-are left-is seen-is told-is =
    ap (λ (l : List (Option LogNode)). made left l authorities clients) (logs-are ∙ ap (logs_of told.cores) rings-are)
    ∙ ap (λ (a : List (Option AuthorityNode)). made left (logs_of told.cores (log_rings seen.setup)) a clients) (authorities-are ∙ ap (authorities_of told.states told.rings) checks-are)
    ∙ ap (made left (logs_of told.cores (log_rings seen.setup)) (authorities_of told.states told.rings seen.checks)) clients-are
    ∙ ap (λ (n : List CheckParts). made n (logs_of told.cores (log_rings seen.setup)) (authorities_of told.states told.rings seen.checks) told.genesis) left-is
    ∙ ap (λ (x : World). with_parties x told) seen-is
    ∙ ap (with_parties w) told-is
  where
    made : List CheckParts → List (Option LogNode) → List (Option AuthorityNode) → Directory → World
    made n l a d = record seen { phase = phase.AuthoritiesMade; checks = n; logs = l; authorities = a; genesis = told.genesis; clients = d }

pub line-done : (w : World) (count : ℕ) (founded : Founded) → founded_of w.setup count ≡ Ok founded
    → led_to phase.AuthoritiesMade (authorities_line w count) ≡ Ok (with_parties w founded, founded.said)
line-done w count founded is = by (named 1 (genesis_of w.setup count)) is
  where
    by : (g : Result Directory WorldFault) → g >>= (λ genesis. Ok (founded_with w.setup count genesis)) ≡ Ok founded
        → led_to phase.AuthoritiesMade (g >>= (λ genesis. Ok (peopled w count genesis))) ≡ Ok (with_parties w founded, founded.said)
    by (Ok genesis) made =
        let same : founded_with w.setup count genesis ≡ founded = cc in
        subst (λ (f : Founded). led_to phase.AuthoritiesMade (Ok (peopled w count genesis)) ≡ Ok (with_parties w f, f.said)) same (ap Ok (sym (with-made w count genesis)))
    by (Err fault) made = absurd cc

pub line-refused : (w : World) (count : ℕ) (fault : WorldFault) → founded_of w.setup count ≡ Err fault
    → led_to phase.AuthoritiesMade (authorities_line w count) ≡ Err fault
line-refused w count fault is = by (named 1 (genesis_of w.setup count)) is
  where
    by : (g : Result Directory WorldFault) → g >>= (λ genesis. Ok (founded_with w.setup count genesis)) ≡ Err fault
        → led_to phase.AuthoritiesMade (g >>= (λ genesis. Ok (peopled w count genesis))) ≡ Err fault
    by (Ok genesis) made = absurd cc
    by (Err other) made = cc

pub ruleset line_steps = (logs-made, line-done, line-refused)
