-- A table that ripened at an epoch, and what the epoch's changes make of it, has nothing more to ripen: so
-- changes are applied one by one as they are together.
use Rattle.std.proofs.Common.{◌≡◌, ℕ, ◌+◌, ◌≤◌, List, [], ◌∷◌, ◌++◌, refl, sym, ap, ◌∙◌, arith, Bool, true, false, cond, Option, Some, None, Ok, Err}
use Rattle.std.specs.Prelude.{unwrap_or, Result, option_and_then, nat_le, IfSome}
use Rattle.std.specs.Option.{option_map}
use Rattle.std.specs.Ordering.{eq_by_cmp}
use Rattle.std.specs.FinMap.{get, same_map, get-insert, get-remove}
use Rattle.std.proofs.lemmas.Bool.{leb-true}
use Rattle.hash_tree.specs.Entries.{key_cmp}
use Rattle.hash_tree.proofs.Maps.{total, exact}
use Rattle.hash_tree.proofs.Changed.{same_key}
use Rattle.cert_policy.specs.declared.manner.Manner.{Manner}
use Rattle.cert_policy.specs.declared.manner.Manner.TheVariants.{Full, Recovery, Objected}
use Rattle.ar_cert.specs.Certificate.{Certificate, IsCertificate, IsWait}
use Rattle.ar_cert.specs.Changes.{Change}
use Rattle.domain_table.specs.declared.refusal.ChangeRefusal.{ChangeRefusal}
use Rattle.domain_table.specs.Tables.{Pending, Table, chain_of, newest}
use Rattle.domain_table.specs.Applying.{is_over, is_ripe, is_ripe_behind, ripened, change_list, ripen, judge_ripe, taking_change, after_answer, apply_each, apply}
use Rattle.domain_table.specs.Sound.{IsSound}
use Rattle.domain_table.proofs.Maps.{get-ripen, waiting-ripen}
use Rattle.domain_table.proofs.Newest.{newest_has}
use Rattle.domain_table.proofs.Judged.{IsJudged, judged}
use Rattle.domain_table.proofs.Steps.{unit_holds}
use Rattle.domain_table.proofs.Applied.{chain_there, ripe_follows}

-- nothing is ripe at the epoch
abbrev pub NoneRipe : Table → ℕ → Type 0
NoneRipe t e = (name : List ℕ) → is_ripe t e name ≡ false

-- whether a name is ripe goes by its newest certificate and what waits
ripe_by : (t : Table) (e : ℕ) (name : List ℕ) (o : Option (List Change)) (w : Option Pending) → get t.chains name ≡ o → get t.waiting name ≡ w → is_ripe t e name ≡ is_ripe_behind e (newest (unwrap_or o [])) w
ripe_by t e name o w chain waits = λ i. is_ripe_behind e (newest (unwrap_or (chain i) [])) (waits i)

pub nothing_waits : (e : ℕ) (o : Option Certificate) → is_ripe_behind e o None ≡ false
nothing_waits e None = refl
nothing_waits e (Some old) = refl

-- what is not ripe changes no chain
pub not_ripened : (t : Table) (e : ℕ) (name : List ℕ) → is_ripe t e name ≡ false → (before : Option (List Change)) → option_map (ripened t e name) before ≡ before
not_ripened t e name not_ripe None = refl
not_ripened t e name not_ripe (Some chain) = ap (λ b. Some (cond b (chain ++ change_list (get t.waiting name)) chain)) not_ripe

pub ripened_once : (t : Table) (e : ℕ) → NoneRipe (ripen t e) e
ripened_once t e name = at (is_ripe t e name) refl where
  at : (b : Bool) → is_ripe t e name ≡ b → is_ripe (ripen t e) e name ≡ false
  at true ripe = ripe_by (ripen t e) e name (get (ripen t e).chains name) None refl (waiting-ripen t e name ∙ ap (λ b. cond b None (get t.waiting name)) ripe) ∙ nothing_waits e (newest (chain_of (ripen t e) name))
  at false ripe =
      ripe_by (ripen t e) e name (get t.chains name) (get t.waiting name) (get-ripen t e name ∙ not_ripened t e name ripe (get t.chains name)) (waiting-ripen t e name ∙ ap (λ b. cond b None (get t.waiting name)) ripe)
      ∙ ripe

-- then ripening changes nothing
pub ripen_none : (t : Table) (e : ℕ) → NoneRipe t e → ripen t e ≡ t
ripen_none t e none =
    let chains : (ripen t e).chains ≡ t.chains = same_map total exact (ripen t e).chains t.chains (λ q. get-ripen t e q ∙ not_ripened t e q (none q) (get t.chains q)) in
    let waiting : (ripen t e).waiting ≡ t.waiting = same_map total exact (ripen t e).waiting t.waiting (λ q. waiting-ripen t e q ∙ ap (λ b. cond b None (get t.waiting q)) (none q)) in
    λ i. record { chains = chains i; waiting = waiting i }

-- what began to wait at the epoch is not ripe in it, since a wait is at least one epoch
begun_now : (e : ℕ) (wait : Option ℕ) → IfSome wait IsWait → is_over e e wait ≡ false
begun_now e None fits = refl
begun_now e (Some n) fits = at (nat_le (e + n) e) refl where
  at : (b : Bool) → nat_le (e + n) e ≡ b → b ≡ false
  at false is = refl
  at true is = let past : e + n ≤ e = leb-true (e + n) e is in absurd (omega (arith, past, fits.0))

-- a newest certificate is that of a chain
-- the newest certificate of a sound table is one
fits : (t : Table) → IsSound t → (name : List ℕ) (old : Certificate) → newest (chain_of t name) ≡ Some old → IsCertificate old
fits t sound name old is =
    let there : get t.chains name ≡ Some (chain_of t name) = chain_there (get t.chains name) old is in
    newest_has IsCertificate (chain_of t name) old (λ k d l. ((sound.chains name (chain_of t name) there).each k d l).cert) is

pub still_none : (t : Table) (e : ℕ) (c : Change) (m : Manner) → IsSound t → IsJudged (newest (chain_of t c.cert.name)) c m → NoneRipe t e → NoneRipe (taking_change t e c m) e
unfolding taking_change
still_none t e c Full sound judged none name = at (eq_by_cmp key_cmp name c.cert.name) refl where
  at : (b : Bool) → eq_by_cmp key_cmp name c.cert.name ≡ b → is_ripe (taking_change t e c Full) e name ≡ false
  at true tied =
      ripe_by (taking_change t e c Full) e name (get (taking_change t e c Full).chains name) None refl (get-remove total t.waiting c.cert.name name ∙ ap (λ b. cond b None (get t.waiting name)) tied)
      ∙ nothing_waits e (newest (chain_of (taking_change t e c Full) name))
  at false apart =
      ripe_by (taking_change t e c Full) e name (get t.chains name) (get t.waiting name)
      (get-insert total t.chains c.cert.name (chain_of t c.cert.name ++ c ∷ []) name ∙ ap (λ b. cond b (Some (chain_of t c.cert.name ++ c ∷ [])) (get t.chains name)) apart)
      (get-remove total t.waiting c.cert.name name ∙ ap (λ b. cond b None (get t.waiting name)) apart)
      ∙ none name
still_none t e c Objected sound judged none name = at (eq_by_cmp key_cmp name c.cert.name) refl where
  at : (b : Bool) → eq_by_cmp key_cmp name c.cert.name ≡ b → is_ripe (taking_change t e c Objected) e name ≡ false
  at true tied =
      ripe_by (taking_change t e c Objected) e name (get t.chains name) None refl (get-remove total t.waiting c.cert.name name ∙ ap (λ b. cond b None (get t.waiting name)) tied)
      ∙ nothing_waits e (newest (chain_of t name))
  at false apart =
      ripe_by (taking_change t e c Objected) e name (get t.chains name) (get t.waiting name) refl
      (get-remove total t.waiting c.cert.name name ∙ ap (λ b. cond b None (get t.waiting name)) apart)
      ∙ none name
still_none t e c Recovery sound judged none name = at (eq_by_cmp key_cmp name c.cert.name) refl where
  pair : Pending
  pair = record { change = c; since = e }

  at : (b : Bool) → eq_by_cmp key_cmp name c.cert.name ≡ b → is_ripe (taking_change t e c Recovery) e name ≡ false
  at true tied =
      let same : name ≡ c.cert.name = same_key name c.cert.name tied in
      let newest_is : newest (chain_of t name) ≡ Some judged.0 = ap (λ k. newest (chain_of t k)) same ∙ judged.1 in
      ripe_by (taking_change t e c Recovery) e name (get t.chains name) (Some (record { change = c; since = e })) refl
      (get-insert total t.waiting c.cert.name (record { change = c; since = e }) name ∙ ap (λ b. cond b (Some (record { change = c; since = e })) (get t.waiting name)) tied)
      ∙ ap (λ o. is_ripe_behind e o (Some (record { change = c; since = e }))) newest_is
      ∙ begun_now e judged.0.policy.wait (fits t sound c.cert.name judged.0 judged.1).policy.wait
  at false apart =
      ripe_by (taking_change t e c Recovery) e name (get t.chains name) (get t.waiting name) refl
      (get-insert total t.waiting c.cert.name (record { change = c; since = e }) name ∙ ap (λ b. cond b (Some (record { change = c; since = e })) (get t.waiting name)) apart)
      ∙ none name

-- one change, and then the others
pub one_by_one : (t : Table) (e : ℕ) (c : Change) (changes : List Change) → IsSound t → apply t e (c ∷ changes) ≡ option_and_then (λ u. apply u e changes) (apply t e (c ∷ []))
unfolding apply_each
one_by_one t e c changes sound = by (judge_ripe (ripen t e) c) refl where
  by : (answer : Result Manner ChangeRefusal) → judge_ripe (ripen t e) c ≡ answer
      → option_and_then (λ u. apply_each u e changes) (after_answer (ripen t e) e c answer)
      ≡ option_and_then (λ u. apply u e changes) (option_and_then (λ u. apply_each u e []) (after_answer (ripen t e) e c answer))
  by (Err refusal) is = refl
  by (Ok m) is =
      ap (λ u. apply_each u e changes)
      (sym (ripen_none (taking_change (ripen t e) e c m) e
      (still_none (ripen t e) e c m (ripe_follows (λ name d. Unit {0}) t e sound (unit_holds t)).sound
      (judged (ripen t e) c m is) (ripened_once t e))))
