-- Behind an objection nothing waits for its name, or since this epoch.
use Rattle.std.proofs.Common.{◌≡◌, ℕ, zero, suc, ◌<◌, ◌⊎◌, length, get_or, arith, List, [], ◌∷◌, sym, ap, ◌∙◌, subst, inl, inr, refl, Bool, true, false, cond, Option, Some, None, Ok, Err}
use Rattle.std.specs.Prelude.{Contains, IsSome, Result, is_some, option_and_then}
use Rattle.std.specs.Option.{option_map}
use Rattle.std.specs.Ordering.{eq_by_cmp}
use Rattle.std.specs.FinMap.{get, get-insert, get-remove, remove}
use Rattle.hash_tree.specs.Entries.{key_cmp}
use Rattle.hash_tree.proofs.Maps.{total}
use Rattle.hash_tree.proofs.Changed.{own_key}
use Rattle.ar_base.specs.FirstFailing.{first_failing}
use Rattle.cert_policy.specs.declared.refusal.PolicyRefusal.{PolicyRefusal}
use Rattle.cert_policy.specs.declared.refusal.PolicyRefusal.TheVariants.{NotPending}
use Rattle.cert_policy.specs.declared.manner.Manner.{Manner}
use Rattle.cert_policy.specs.declared.manner.Manner.TheVariants.{Full, Recovery, Objected}
use Rattle.cert_policy.specs.Clauses.{in_manner, update_answer}
use Rattle.ar_cert.specs.Certificate.{Certificate}
use Rattle.ar_cert.specs.Changes.{Change}
use Rattle.ar_cert.specs.Judging.{cert_terms_of, change_judgement, endorsers_of, is_handed_over, objection_clauses}
use Rattle.domain_table.specs.declared.refusal.ChangeRefusal.{ChangeRefusal}
use Rattle.domain_table.specs.Tables.{Pending, Table, chain_of, newest, size, waiting_digest}
use Rattle.domain_table.specs.Applying.{after_answer, apply_each, judge_ripe, manner_of, taking_change}
use Rattle.domain_table.proofs.Judged.{roomy}

-- what waits for the name, if something does, does so since this epoch
abbrev pub Since : ℕ → List ℕ → Table → Type 0
Since epoch name t = (p : Pending) → get t.waiting name ≡ Some p → p.since ≡ epoch

-- ---- each change leaves that

removed-since : (epoch : ℕ) (name other : List ℕ) (t : Table) → Since epoch name t → (p : Pending) → get (remove t.waiting other) name ≡ Some p → p.since ≡ epoch
removed-since epoch name other t since p there = at (eq_by_cmp key_cmp name other) refl
  where
    at : (b : Bool) → eq_by_cmp key_cmp name other ≡ b → p.since ≡ epoch
    at true tied =
        let gone : None ≡ Some p = sym (ap (λ b. cond b None (get t.waiting name)) tied) ∙ sym (get-remove total t.waiting other name) ∙ there in
        absurd cc
    at false apart = since p (sym (ap (λ b. cond b None (get t.waiting name)) apart) ∙ sym (get-remove total t.waiting other name) ∙ there)

take-since : (epoch : ℕ) (name : List ℕ) (t : Table) (c : Change) (m : Manner) → Since epoch name t → Since epoch name (taking_change t epoch c m)
unfolding taking_change
take-since epoch name t c Full since = removed-since epoch name c.cert.name t since
take-since epoch name t c Objected since = removed-since epoch name c.cert.name t since
take-since epoch name t c Recovery since = λ p there. at p there (eq_by_cmp key_cmp name c.cert.name) refl
  where
    pair : Pending
    pair = record { change = c; since = epoch }

    found : get (taking_change t epoch c Recovery).waiting name ≡ cond (eq_by_cmp key_cmp name c.cert.name) (Some (record { change = c; since = epoch })) (get t.waiting name)
    found = get-insert total t.waiting c.cert.name (record { change = c; since = epoch }) name

    at : (p : Pending) → get (taking_change t epoch c Recovery).waiting name ≡ Some p → (b : Bool) → eq_by_cmp key_cmp name c.cert.name ≡ b → p.since ≡ epoch
    at p there true tied =
        let some : Some (record { change = c; since = epoch }) ≡ Some p = sym (ap (λ b. cond b (Some (record { change = c; since = epoch })) (get t.waiting name)) tied) ∙ sym found ∙ there in
        let is_pair : record { change = c; since = epoch } ≡ p = cc in
        sym (ap (λ (q : Pending). q.since) is_pair)
    at p there false apart = since p (sym (ap (λ b. cond b (Some (record { change = c; since = epoch })) (get t.waiting name)) apart) ∙ sym found ∙ there)

each-since : (epoch : ℕ) (name : List ℕ) (changes : List Change) (t u : Table) → apply_each t epoch changes ≡ Some u → Since epoch name t → Since epoch name u
unfolding apply_each
each-since epoch name [] t u is since =
    let same : t ≡ u = cc in
    subst (Since epoch name) same since
each-since epoch name (c ∷ changes) t u is since = by (judge_ripe t c) is (λ v. each-since epoch name changes v u)
  where
    by : (answer : Result Manner ChangeRefusal) → option_and_then (λ v. apply_each v epoch changes) (after_answer t epoch c answer) ≡ Some u
        → ((v : Table) → apply_each v epoch changes ≡ Some u → Since epoch name v → Since epoch name u) → Since epoch name u
    by (Err refusal) rest next = absurd cc
    by (Ok m) rest next = next (taking_change t epoch c m) rest (take-since epoch name t c m since)

-- ---- an objection that is taken

only-objected : (m : Manner) (answer : Result (Unit {0}) PolicyRefusal) → in_manner Objected answer ≡ Ok m → m ≡ Objected
only-objected m (Ok u) e = cc
only-objected m (Err refusal) e = absurd cc

objected-behind : (old : Option Certificate) (pending : Option Pending) (c : Change) (m : Manner) → IsSome c.objection → manner_of old pending c ≡ Ok m → m ≡ Objected
objected-behind None pending c m objects e =
    let refused : ◌≡◌ {A = Result Manner PolicyRefusal} (Err NotPending) (Ok m) = subst (λ b. cond {A = Result Manner PolicyRefusal} b (Err NotPending) (in_manner Full (change_judgement None c)) ≡ Ok m) objects e in
    absurd cc
objected-behind (Some old) pending c m objects e =
    only-objected m (first_failing (objection_clauses old (option_map waiting_digest pending) c))
    (subst (λ b. cond {A = Result Manner PolicyRefusal} b (in_manner Objected (first_failing (objection_clauses old (option_map waiting_digest pending) c)))
    (update_answer (cert_terms_of old) (cert_terms_of c.cert) (endorsers_of c) (is_handed_over old c) (is_some (option_map waiting_digest pending))) ≡ Ok m) objects e)

judged-objected : (t : Table) (c : Change) (m : Manner) → judge_ripe t c ≡ Ok m → IsSome c.objection → m ≡ Objected
unfolding judge_ripe
judged-objected t c m e objects = objected-behind (newest (chain_of t c.cert.name)) (get t.waiting c.cert.name) c m objects (roomy (size t) _ m e)

taken-since : (epoch : ℕ) (t : Table) (c : Change) → Since epoch c.cert.name (taking_change t epoch c Objected)
unfolding taking_change
taken-since epoch t c p there =
    let gone : None ≡ Some p = sym (ap (λ b. cond b None (get t.waiting c.cert.name)) (own_key c.cert.name)) ∙ sym (get-remove total t.waiting c.cert.name c.cert.name) ∙ there in
    absurd cc

-- what a list contains is its first or is contained in the others
first-or : (c o : Change) (changes : List Change) → Contains (c ∷ changes) o → (c ≡ o) ⊎ Contains changes o
first-or c o changes there = at there.0 there.1 there.2
  where
    at : (k : ℕ) → k < length (c ∷ changes) → get_or (c ∷ changes) k o ≡ o → (c ≡ o) ⊎ Contains changes o
    at zero less is = inl is
    at (suc k) less is = inr (k, omega (arith, less), is)

pub objected-since : (epoch : ℕ) (o : Change) (changes : List Change) (t u : Table) → apply_each t epoch changes ≡ Some u → Contains changes o → IsSome o.objection → Since epoch o.cert.name u
unfolding apply_each
objected-since epoch o [] t u is there objects =
    let less : there.0 < 0 = there.1 in
    absurd (omega (arith, less))
objected-since epoch o (c ∷ changes) t u is there objects = by (judge_ripe t c) refl is (first-or c o changes there) (λ v rest later. objected-since epoch o changes v u rest later objects)
  where
    by : (answer : Result Manner ChangeRefusal) → judge_ripe t c ≡ answer → option_and_then (λ v. apply_each v epoch changes) (after_answer t epoch c answer) ≡ Some u → (c ≡ o) ⊎ Contains changes o
        → ((v : Table) → apply_each v epoch changes ≡ Some u → Contains changes o → Since epoch o.cert.name u) → Since epoch o.cert.name u
    by (Err refusal) answers rest there next = absurd cc
    by (Ok m) answers rest (inr later) next = next (taking_change t epoch c m) rest later
    by (Ok m) answers rest (inl same) next =
        let objected : m ≡ Objected = judged-objected t c m answers (subst (λ (k : Change). IsSome k.objection) (sym same) objects) in
        let here : Since epoch c.cert.name (taking_change t epoch c m) = subst (λ n. Since epoch c.cert.name (taking_change t epoch c n)) (sym objected) (taken-since epoch t c) in
        each-since epoch o.cert.name changes (taking_change t epoch c m) u rest (subst (λ (k : Change). Since epoch k.cert.name (taking_change t epoch c m)) same here)
