-- Parties that leave their places, one after another.
use Rattle.std.proofs.Common.{◌≡◌, ◌∙◌, ℕ, zero, suc, ◌+◌, ◌<◌, ◌≤◌, List, [], ◌∷◌, ◌++◌, drop, length, map, get_or, Option, Some, true, refl, sym, ap, subst, append_assoc, arith}
use Rattle.std.specs.Prelude.{is_some}
use Rattle.std.specs.List.{AllByRecursion}
use Rattle.std.proofs.lemmas.List.{append-nil}
use Rattle.ar_nodes.specs.Finding.{honest_in}
use Rattle.ar_nodes.specs.Parties.{AuthorityNode, LogNode}
use Rattle.ar_nodes.specs.declared.event.LogEvent.{LogEvent}
use Rattle.ar_nodes.proofs.Spots.{honest_spot}
use Rattle.ar_statement.specs.Claims.{party}
use Rattle.ar_statement.specs.declared.party.Party.{Party}
use Rattle.ar_statement.specs.declared.party.Role.{Role}
use Rattle.ar_statement.specs.declared.party.Role.TheVariants as role
use Rattle.authority_core.specs.State as authority
use Rattle.lms_tree.specs.KeyParts.{KeyParts}
use Rattle.log_core.specs.State as log
use Rattle.station.specs.Station.{StationState, a_log, an_authority}
use Rattle.burst_run.specs.Laying.{AreAway, Away, CanLeave, Homes, StandsIn, StandsSo, authority_alone, is_in, left_by, left_by_all, log_alone}

-- ---- one leaves

-- a party as it stands apart
abbrev pub away_as : Party → StationState → List KeyParts → List LogEvent → Away
away_as p state keys taken = record { party = p; state = state; keys = keys; taken = taken }

log_is_alone : (p : Party) (state : StationState) (keys : List KeyParts) (taken : List LogEvent) (node : LogNode) → p.role ≡ role.LogServer → state ≡ a_log node.core → keys ≡ node.keys
    → taken ≡ node.taken → away_as p state keys taken ≡ log_alone p.number node
log_is_alone p state keys taken node is stands signs took =
    ap (λ (r : Role). away_as (party r p.number) state keys taken) is
    ∙ ap (λ (s : StationState). record (log_alone p.number node) { state = s; keys = keys; taken = taken }) stands
    ∙ ap (λ (k : List KeyParts). record (log_alone p.number node) { keys = k; taken = taken }) signs
    ∙ ap (λ (l : List LogEvent). record (log_alone p.number node) { taken = l }) took

pub log_stands : (logs : List (Option LogNode)) (authorities : List (Option AuthorityNode)) (p : Party) (slot : Option LogNode) (node : LogNode) (state : StationState) (keys : List KeyParts)
    (taken : List LogEvent) → p.role ≡ role.LogServer → is_some (honest_in logs p.number) ≡ true → get_or logs p.number slot ≡ slot → slot ≡ Some node → state ≡ a_log node.core → keys ≡ node.keys
    → taken ≡ node.taken → StandsIn (record { logs = logs; authorities = authorities }) role.LogServer p.number (away_as p state keys taken)
log_stands logs authorities p slot node state keys taken is there at some stands signs took =
    (node, honest_spot logs p.number slot slot there (sym at) ∙ some, log_is_alone p state keys taken node is stands signs took)

authority_is_alone : (p : Party) (state : StationState) (keys : List KeyParts) (taken : List LogEvent) (node : AuthorityNode) → p.role ≡ role.Authority → state ≡ an_authority node.state node.check
    → keys ≡ node.keys → taken ≡ [] → away_as p state keys taken ≡ authority_alone p.number node
authority_is_alone p state keys taken node is stands signs none =
    ap (λ (r : Role). away_as (party r p.number) state keys taken) is
    ∙ ap (λ (s : StationState). record (authority_alone p.number node) { state = s; keys = keys; taken = taken }) stands
    ∙ ap (λ (k : List KeyParts). record (authority_alone p.number node) { keys = k; taken = taken }) signs
    ∙ ap (λ (l : List LogEvent). record (authority_alone p.number node) { taken = l }) none

pub authority_stands : (logs : List (Option LogNode)) (authorities : List (Option AuthorityNode)) (p : Party) (slot : Option AuthorityNode) (node : AuthorityNode) (state : StationState)
    (keys : List KeyParts) (taken : List LogEvent) → p.role ≡ role.Authority → is_some (honest_in authorities p.number) ≡ true → get_or authorities p.number slot ≡ slot → slot ≡ Some node
    → state ≡ an_authority node.state node.check → keys ≡ node.keys → taken ≡ []
    → StandsIn (record { logs = logs; authorities = authorities }) role.Authority p.number (away_as p state keys taken)
authority_stands logs authorities p slot node state keys taken is there at some stands signs none =
    (node, honest_spot authorities p.number slot slot there (sym at) ∙ some, authority_is_alone p state keys taken node is stands signs none)

-- ---- one after another

drop_here : {A : Type 0} (xs : List A) (i : ℕ) (x : A) → i < length xs → get_or xs i x ≡ x → drop i xs ≡ x ∷ drop (i + 1) xs
drop_here [] i x within is = absurd (omega (arith, within))
drop_here (y ∷ ys) zero x within is = ap (λ z. z ∷ ys) is ∙ ap (λ k. x ∷ drop k (y ∷ ys)) (let e : suc zero ≡ zero + 1 = omega arith in e)
drop_here (y ∷ ys) (suc i) x within is =
    drop_here ys i x (omega (arith, within)) is ∙ ap (λ k. x ∷ drop k (y ∷ ys)) (let e : suc (i + 1) ≡ suc i + 1 = omega arith in e)

drop_past : {A : Type 0} (xs : List A) (i : ℕ) → length xs ≤ i → drop i xs ≡ []
drop_past [] zero past = refl
drop_past [] (suc i) past = refl
drop_past (y ∷ ys) zero past = absurd (omega (arith, past))
drop_past (y ∷ ys) (suc i) past = drop_past ys i (omega (arith, past))

all_more : {D : Type 0} (K : D → Type 0) (old : List D) (d : D) → AllByRecursion K old → K d → AllByRecursion K (old ++ d ∷ [])
all_more K [] d all more = (more, tt)
all_more K (x ∷ old) d all more = (all.0, all_more K old d all.1 more)

map_more : {D : Type 0} (f : D → Away) (old : List D) (d : D) → map f (old ++ d ∷ []) ≡ map f old ++ f d ∷ []
map_more f [] d = refl
map_more f (x ∷ old) d = ap (λ l. f x ∷ l) (map_more f old d)

module _ {D : Type 0} (f : D → Away) (K : D → Type 0) where
  -- Of these parties those that are left are still in their places, and the others stand apart, as these desks are.
  pub record StillLeaves (start : Homes) (stations : List Party) (now : Homes) (rest : List Party) (desks : List D) : Type 0 where
    pub away : (all : List Away) → AreAway now rest all → AreAway start stations (map f desks ++ all)
    pub can : CanLeave now rest
    pub left : left_by_all now rest ≡ left_by_all start stations
    pub kept : AllByRecursion K desks

  leaves_on : (start : Homes) (stations : List Party) (now : Homes) (who : Party) (more : List Party) (desks : List D) (d : D) → StandsSo now who (f d) → K d
      → StillLeaves start stations now (who ∷ more) desks → StillLeaves start stations (left_by now who) more (desks ++ d ∷ [])
  leaves_on start stations now who more desks d stands keeps still = record {
    away = λ all are.
        subst (λ l. AreAway start stations l) (sym (append_assoc (map f desks) (f d ∷ []) all) ∙ ap (λ l. l ++ all) (sym (map_more f desks d))) (still.away (f d ∷ all) (stands, are));
    can = still.can.1;
    left = still.left;
    kept = all_more K desks d still.kept keeps;
  }

  pub leaves_start : (start : Homes) (stations : List Party) → CanLeave start stations → StillLeaves start stations start stations []
  leaves_start start stations can = record { away = λ all are. are; can = can; left = refl; kept = tt }

  -- the next is in its place
  pub leaves_can : (start : Homes) (stations : List Party) (now : Homes) (i : ℕ) (who : Party) (desks : List D) → i < length stations → get_or stations i who ≡ who
      → StillLeaves start stations now (drop i stations) desks → is_in now who.role who.number ≡ true
  leaves_can start stations now i who desks within is still = (subst (CanLeave now) (drop_here stations i who within is) still.can).0

  pub leaves_next : (start : Homes) (stations : List Party) (now next : Homes) (i : ℕ) (who : Party) (desks more : List D) (d : D) → i < length stations → get_or stations i who ≡ who
      → StandsSo now who (f d) → K d → next ≡ left_by now who → more ≡ desks ++ d ∷ [] → StillLeaves start stations now (drop i stations) desks
      → StillLeaves start stations next (drop (i + 1) stations) more
  leaves_next start stations now next i who desks more d within is stands keeps left pushed still =
      subst (λ l. StillLeaves start stations next (drop (i + 1) stations) l) (sym pushed)
      (subst (λ (p : Homes). StillLeaves start stations p (drop (i + 1) stations) (desks ++ d ∷ [])) (sym left)
      (leaves_on start stations now who (drop (i + 1) stations) desks d stands keeps
      (subst (λ l. StillLeaves start stations now l desks) (drop_here stations i who within is) still)))

  pub leaves_away : (start : Homes) (stations : List Party) (now : Homes) (i : ℕ) (desks : List D) → length stations ≤ i → StillLeaves start stations now (drop i stations) desks
      → AreAway start stations (map f desks)
  leaves_away start stations now i desks past still =
      let last = subst (λ l. StillLeaves start stations now l desks) (drop_past stations i past) still in
      subst (λ l. AreAway start stations l) (append-nil (map f desks)) (last.away [] refl)

  pub leaves_left : (start : Homes) (stations : List Party) (now : Homes) (i : ℕ) (desks : List D) → length stations ≤ i → StillLeaves start stations now (drop i stations) desks
      → now ≡ left_by_all start stations
  leaves_left start stations now i desks past still =
      let last = subst (λ l. StillLeaves start stations now l desks) (drop_past stations i past) still in last.left

pub ruleset leaving_laws = (leaves_start, leaves_can, leaves_next, leaves_away, leaves_left)
