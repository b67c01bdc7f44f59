-- Ripening and each change that is taken are steps, and so what applying makes of a sound table is sound.
use Rattle.std.proofs.Common.{◌≡◌, ℕ, ◌^◌, ◌<◌, List, [], ◌∷◌, ◌++◌, refl, sym, ap, ◌∙◌, subst, ◌⊎◌, inl, inr, Bool, true, false, cond, Option, Some, None, Ok, Err}
use Rattle.std.specs.Prelude.{unwrap_or, All, Result, option_and_then}
use Rattle.std.specs.Option.{option_map}
use Rattle.std.specs.Ordering.{eq_by_cmp}
use Rattle.std.specs.FinMap.{get, insert, remove, get-empty, get-insert, get-remove}
use Rattle.std.proofs.lemmas.List.Elements.{All-head, All-tail}
use Rattle.hash_tree.specs.Entries.{key_cmp}
use Rattle.hash_tree.proofs.Maps.{total}
use Rattle.hash_tree.proofs.Changed.{same_key, own_key}
use Rattle.cert_policy.specs.declared.manner.Manner.{Manner}
use Rattle.cert_policy.specs.declared.manner.Manner.TheVariants.{Full, Recovery, Objected}
use Rattle.ar_cert.specs.Certificate.{Certificate}
use Rattle.ar_cert.specs.Changes.{Change, IsChange}
use Rattle.ar_cert.specs.Judging.{IsAccepted}
use Rattle.domain_table.specs.declared.refusal.ChangeRefusal.{ChangeRefusal}
use Rattle.domain_table.specs.Tables.{Pending, Table, no_table, chain_of, newest}
use Rattle.domain_table.specs.Applying.{is_ripe, is_ripe_behind, ripened, change_list, ripen, judge_ripe, taking_change, after_answer, apply_each, apply}
use Rattle.domain_table.specs.Sound.{Waits, IsSound}
use Rattle.domain_table.proofs.Maps.{get-ripen, waiting-ripen}
use Rattle.domain_table.proofs.Judged.{IsJudged, judged}
use Rattle.domain_table.proofs.Steps.{Fits, Grows, Begun, Stayed, Steps, Holds, Follows, steps_on, follows_itself, follows_on}

-- ---- ripening

-- what is ripe waits behind a certificate
pub ripe_there : (epoch : ℕ) (old : Option Certificate) (pending : Option Pending) → is_ripe_behind epoch old pending ≡ true → (p : Pending) × (pending ≡ Some p)
ripe_there epoch None pending e = absurd (cc)
ripe_there epoch (Some old) None e = absurd (cc)
ripe_there epoch (Some old) (Some p) e = (p, refl)

-- what waits is accepted behind the newest certificate
waits_fit : (P : List ℕ → Change → Type 0) (name : List ℕ) (chain : List Change) (p : Pending) → Waits name chain p → P name p.change → Fits P name chain p.change
unfolding IsAccepted
waits_fit P name chain p waits holds = record {
  accepted = subst (λ o. IsAccepted o p.change) (sym waits.is_newest) (inr waits.recovers);
  change = waits.change;
  named = waits.named;
  holds = holds;
}

-- what waits, waits behind a chain
pub chain_there : (before : Option (List Change)) (old : Certificate) → newest (unwrap_or before []) ≡ Some old → before ≡ Some (unwrap_or before [])
chain_there None old e = absurd (cc)
chain_there (Some chain) old e = refl

ripens : (P : List ℕ → Change → Type 0) (t : Table) (e : ℕ) (name : List ℕ) → IsSound t → Holds P t → (b : Bool) → is_ripe t e name ≡ b
    → Grows P name (get t.chains name) (get (ripen t e).chains name)
ripens P t e name sound holds false not_ripe =
    inl (get-ripen t e name ∙ stays (get t.chains name)) where
      stays : (before : Option (List Change)) → option_map (ripened t e name) before ≡ before
      stays None = refl
      stays (Some chain) = ap (λ b. Some (cond b (chain ++ change_list (get t.waiting name)) chain)) not_ripe
ripens P t e name sound holds true is_ripe =
    let there = ripe_there e (newest (chain_of t name)) (get t.waiting name) is_ripe in
    let waits : Waits name (chain_of t name) there.0 = sound.waits name there.0 there.1 in
    let before : get t.chains name ≡ Some (chain_of t name) = chain_there (get t.chains name) waits.old waits.is_newest in
    inr (
      there.0.change,
      get-ripen t e name ∙ ap (option_map (ripened t e name)) before
          ∙ ap (λ b. Some (cond b (chain_of t name ++ change_list (get t.waiting name)) (chain_of t name))) is_ripe
          ∙ ap (λ o. Some (chain_of t name ++ change_list o)) there.1,
      waits_fit P name (chain_of t name) there.0 waits (holds.waiting name there.0 there.1),
    )

pub still_waits : (t : Table) (e : ℕ) (name : List ℕ) (p : Pending) → get (ripen t e).waiting name ≡ Some p → (b : Bool) → is_ripe t e name ≡ b → Stayed t (ripen t e) name p
still_waits t e name p there true is =
    let gone : None ≡ Some p = sym (ap (λ b. cond b None (get t.waiting name)) is) ∙ sym (waiting-ripen t e name) ∙ there in
    absurd (cc)
still_waits t e name p there false is = record {
  waited = sym (ap (λ b. cond b None (get t.waiting name)) is) ∙ sym (waiting-ripen t e name) ∙ there;
  behind = get-ripen t e name ∙ stays (get t.chains name);
} where
  stays : (before : Option (List Change)) → option_map (ripened t e name) before ≡ before
  stays None = refl
  stays (Some chain) = ap (λ b. Some (cond b (chain ++ change_list (get t.waiting name)) chain)) is

pub ripe_steps : (P : List ℕ → Change → Type 0) (t : Table) (e : ℕ) → IsSound t → Holds P t → Steps P t (ripen t e)
ripe_steps P t e sound holds = record {
  chains = λ name. ripens P t e name sound holds (is_ripe t e name) refl;
  waiting = λ name p there. inl (still_waits t e name p there (is_ripe t e name) refl);
}

-- ---- a change that is taken

-- what waits where the pair of another name is taken out
pub left_waiting : (P : List ℕ → Change → Type 0) (t u : Table) (c : Change) (name : List ℕ) (p : Pending) → u.waiting ≡ remove t.waiting c.cert.name → get u.waiting name ≡ Some p
    → (eq_by_cmp key_cmp name c.cert.name ≡ false → get u.chains name ≡ get t.chains name) → Stayed t u name p
left_waiting P t u c name p is there behind = at (eq_by_cmp key_cmp name c.cert.name) refl where
  found : get (remove t.waiting c.cert.name) name ≡ Some p
  found = ap (λ m. get m name) (sym is) ∙ there

  at : (b : Bool) → eq_by_cmp key_cmp name c.cert.name ≡ b → Stayed t u name p
  at true e =
      let gone : None ≡ Some p = sym (ap (λ b. cond b None (get t.waiting name)) e) ∙ sym (get-remove total t.waiting c.cert.name name) ∙ found in
      absurd (cc)
  at false e = record {
    waited = sym (ap (λ b. cond b None (get t.waiting name)) e) ∙ sym (get-remove total t.waiting c.cert.name name) ∙ found;
    behind = behind e;
  }

pub step_steps : (P : List ℕ → Change → Type 0) (t : Table) (e : ℕ) (c : Change) (m : Manner) → IsJudged (newest (chain_of t c.cert.name)) c m → e < 2 ^ 64 → P c.cert.name c → IsChange c
    → Steps P t (taking_change t e c m)
unfolding taking_change
step_steps P t e c Full judged low holds is = record {
  chains = λ name. at name (eq_by_cmp key_cmp name c.cert.name) refl;
  waiting = λ name p there. inl (left_waiting P t (taking_change t e c Full) c name p refl there
      (λ apart. get-insert total t.chains c.cert.name (chain_of t c.cert.name ++ c ∷ []) name ∙ ap (λ b. cond b (Some (chain_of t c.cert.name ++ c ∷ [])) (get t.chains name)) apart));
} where
  at : (name : List ℕ) (b : Bool) → eq_by_cmp key_cmp name c.cert.name ≡ b → Grows P name (get t.chains name) (get (taking_change t e c Full).chains name)
  at name true tied =
      let same : c.cert.name ≡ name = sym (same_key name c.cert.name tied) in
      subst (λ k. Grows P k (get t.chains k) (get (taking_change t e c Full).chains k)) same
      (inr (
        c,
        get-insert total t.chains c.cert.name (chain_of t c.cert.name ++ c ∷ []) c.cert.name ∙ ap (λ b. cond b (Some (chain_of t c.cert.name ++ c ∷ [])) (get t.chains c.cert.name)) (own_key c.cert.name),
        record { accepted = judged; change = is; named = refl; holds = holds },
      ))
  at name false apart = inl (get-insert total t.chains c.cert.name (chain_of t c.cert.name ++ c ∷ []) name ∙ ap (λ b. cond b (Some (chain_of t c.cert.name ++ c ∷ [])) (get t.chains name)) apart)
step_steps P t e c Recovery judged low holds is = record {
  chains = λ name. inl refl;
  waiting = λ name p there. at name p there (eq_by_cmp key_cmp name c.cert.name) refl;
} where
  pair : Pending
  pair = record { change = c; since = e }

  at : (name : List ℕ) (p : Pending) → get (insert t.waiting c.cert.name (record { change = c; since = e })) name ≡ Some p → (b : Bool) → eq_by_cmp key_cmp name c.cert.name ≡ b
      → Stayed t (taking_change t e c Recovery) name p ⊎ Begun P (taking_change t e c Recovery) name p
  at name p there true tied =
      let same : c.cert.name ≡ name = sym (same_key name c.cert.name tied) in
      let found : Some (record { change = c; since = e }) ≡ Some p =
      sym (ap (λ b. cond b (Some (record { change = c; since = e })) (get t.waiting name)) tied) ∙ sym (get-insert total t.waiting c.cert.name (record { change = c; since = e }) name) ∙ there in
      let is_pair : record { change = c; since = e } ≡ p = cc in
      inr (subst (λ q. Begun P (taking_change t e c Recovery) name q) is_pair
      (subst (λ k. Begun P (taking_change t e c Recovery) k (record { change = c; since = e })) same
      (record { waits = record { old = judged.0; is_newest = judged.1; recovers = judged.2; change = is; named = refl; since = low }; holds = holds })))
  at name p there false apart = inl (record {
    waited = sym (ap (λ b. cond b (Some (record { change = c; since = e })) (get t.waiting name)) apart) ∙ sym (get-insert total t.waiting c.cert.name (record { change = c; since = e }) name) ∙ there;
    behind = refl;
  })
step_steps P t e c Objected judged low holds is = record {
  chains = λ name. inl refl;
  waiting = λ name p there. inl (left_waiting P t (taking_change t e c Objected) c name p refl there (λ apart. refl));
}

-- ---- a list of changes

pub none_sound : IsSound no_table
none_sound = record {
  chains = λ name chain e. let none : None ≡ Some chain = sym (get-empty key_cmp name) ∙ e in absurd (cc);
  waits = λ name p e. let none : None ≡ Some p = sym (get-empty key_cmp name) ∙ e in absurd (cc);
}

pub none_holds : (P : List ℕ → Change → Type 0) → Holds P no_table
none_holds P = record {
  chains = λ name chain e. let none : None ≡ Some chain = sym (get-empty key_cmp name) ∙ e in absurd (cc);
  waiting = λ name p e. let none : None ≡ Some p = sym (get-empty key_cmp name) ∙ e in absurd (cc);
}

pub applied_each : (P : List ℕ → Change → Type 0) (changes : List Change) (e : ℕ) (t u : Table) → e < 2 ^ 64 → apply_each t e changes ≡ Some u → IsSound t → Holds P t
    → All IsChange changes → All (λ c. P c.cert.name c) changes → Follows P t u
unfolding apply_each
applied_each P [] e t u low is sound holds are each =
    let same : t ≡ u = cc in
    subst (Follows P t) same (follows_itself P t sound holds)
applied_each P (c ∷ changes) e t u low is sound holds are each =
    by (judge_ripe t c) refl is (λ v. applied_each P changes e v u low) where
      by : (answer : Result Manner ChangeRefusal) → judge_ripe t c ≡ answer → option_and_then (λ v. apply_each v e changes) (after_answer t e c answer) ≡ Some u
          → ((v : Table) → apply_each v e changes ≡ Some u → IsSound v → Holds P v → All IsChange changes → All (λ c. P c.cert.name c) changes → Follows P v u) → Follows P t u
      by (Err refusal) answers rest next = absurd (cc)
      by (Ok m) answers rest next =
          let first : Follows P t (taking_change t e c m) =
          steps_on P t (taking_change t e c m) (step_steps P t e c m (judged t c m answers) low (All-head (λ c. P c.cert.name c) c changes each) (All-head IsChange c changes are)) sound holds in
          follows_on P t (taking_change t e c m) u first
          (next (taking_change t e c m) rest first.sound first.holds (All-tail IsChange c changes are) (All-tail (λ c. P c.cert.name c) c changes each))

pub ripe_follows : (P : List ℕ → Change → Type 0) (t : Table) (e : ℕ) → IsSound t → Holds P t → Follows P t (ripen t e)
ripe_follows P t e sound holds = steps_on P t (ripen t e) (ripe_steps P t e sound holds) sound holds

pub applied : (P : List ℕ → Change → Type 0) (changes : List Change) (e : ℕ) (t u : Table) → e < 2 ^ 64 → apply t e changes ≡ Some u → IsSound t → Holds P t
    → All IsChange changes → All (λ c. P c.cert.name c) changes → Follows P t u
applied P changes e t u low is sound holds are each =
    let first : Follows P t (ripen t e) = ripe_follows P t e sound holds in
    follows_on P t (ripen t e) u first (applied_each P changes e (ripen t e) u low is first.sound first.holds are each)
