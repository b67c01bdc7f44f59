-- What ripens, name by name.
use Rattle.std.proofs.Common.{◌≡◌, ℕ, ◌+◌, List, [], ◌∷◌, ◌++◌, refl, ap, ◌∙◌, true, false, cond, Option, Some, None, ◌↔◌}
use Rattle.std.specs.Prelude.{unwrap_or}
use Rattle.std.specs.Option.{option_map}
use Rattle.std.specs.FinMap.{get}
use Rattle.std.proofs.lemmas.Bool.{leb-true, le-leb}
use Rattle.ar_cert.specs.Certificate.{Certificate}
use Rattle.domain_table.specs.Tables.{Pending, Table, chain_of, newest}
use Rattle.domain_table.specs.Applying.{is_over, is_ripe, is_ripe_behind, ripened, change_list, ripen, IsRipe}
use Rattle.domain_table.specs.Sound.{Waits, IsSound}
use Rattle.domain_table.proofs.Maps.{get-ripen, waiting-ripen}
use Rattle.domain_table.proofs.Applied.{chain_there}
use Rattle.domain_table.proofs.Once.{not_ripened}

-- the chain behind which what is ripe waits, with it behind
pub ripe_chain : (t : Table) (e : ℕ) (name : List ℕ) (p : Pending) (old : Certificate) → newest (chain_of t name) ≡ Some old → get t.waiting name ≡ Some p → is_ripe t e name ≡ true
    → chain_of (ripen t e) name ≡ chain_of t name ++ p.change ∷ []
ripe_chain t e name p old is_newest there ripe =
    ap (λ o. unwrap_or o []) (get-ripen t e name ∙ ap (option_map (ripened t e name)) (chain_there (get t.chains name) old is_newest)
    ∙ ap (λ b. Some (cond b (chain_of t name ++ change_list (get t.waiting name)) (chain_of t name))) ripe
    ∙ ap (λ o. Some (chain_of t name ++ change_list o)) there)

pub ripe_appended : (t : Table) (e : ℕ) (name : List ℕ) (p : Pending) → IsSound t → get t.waiting name ≡ Some p → is_ripe t e name ≡ true
    → (chain_of (ripen t e) name ≡ chain_of t name ++ p.change ∷ []) × (get (ripen t e).waiting name ≡ None)
ripe_appended t e name p sound there ripe =
    let waits : Waits name (chain_of t name) p = sound.waits name p there in (
      ripe_chain t e name p waits.old waits.is_newest there ripe,
      waiting-ripen t e name ∙ ap (λ b. cond b None (get t.waiting name)) ripe,
    )

pub others_stay : (t : Table) (e : ℕ) (name : List ℕ) → is_ripe t e name ≡ false
    → (get (ripen t e).chains name ≡ get t.chains name) × (get (ripen t e).waiting name ≡ get t.waiting name)
others_stay t e name not_ripe =
    (get-ripen t e name ∙ not_ripened t e name not_ripe (get t.chains name), waiting-ripen t e name ∙ ap (λ b. cond b None (get t.waiting name)) not_ripe)

from_test : (t : Table) (e : ℕ) (name : List ℕ) (o : Option Certificate) (w : Option Pending) → newest (chain_of t name) ≡ o → get t.waiting name ≡ w → is_ripe_behind e o w ≡ true → IsRipe t e name
from_test t e name None w is_newest waits ripe = absurd (cc)
from_test t e name (Some old) None is_newest waits ripe = absurd (cc)
from_test t e name (Some old) (Some p) is_newest waits ripe = by old.policy.wait refl ripe where
  by : (o : Option ℕ) → old.policy.wait ≡ o → is_over e p.since o ≡ true → IsRipe t e name
  by None is over = absurd (cc)
  by (Some n) is over = record { pending = p; waits = waits; old = old; is_newest = is_newest; wait = n; is_wait = is; over = leb-true (p.since + n) e over }

pub ripe_when : (t : Table) (e : ℕ) (name : List ℕ) → (is_ripe t e name ≡ true) ↔ IsRipe t e name
ripe_when t e name = (
  λ ripe. from_test t e name (newest (chain_of t name)) (get t.waiting name) refl refl ripe,
  λ is.
      ap (λ o. is_ripe_behind e o (get t.waiting name)) is.is_newest
      ∙ ap (λ w. is_ripe_behind e (Some is.old) w) is.waits
      ∙ ap (is_over e is.pending.since) is.is_wait
      ∙ le-leb (is.pending.since + is.wait) e is.over,
)
