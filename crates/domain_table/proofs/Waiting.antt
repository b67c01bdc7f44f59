-- Recoveries wait: what is kept of tables, epoch by epoch, so that each change of a chain is a full update or waited.
use Rattle.std.proofs.Common.{◌≡◌, ℕ, zero, suc, ◌+◌, ◌<◌, ◌≤◌, List, [], ◌∷◌, ◌++◌, length, length-append, get_or, refl, sym, ap, ◌∙◌, subst, arith, ◌⊎◌, inl, inr, Bool, true, false, cond, Option, Some, None, Ok, Err}
use Rattle.std.specs.Prelude.{Contains, unwrap_or, Result, option_and_then}
use Rattle.std.specs.List.{last_or}
use Rattle.std.specs.Option.{option_map}
use Rattle.std.specs.Ordering.{eq_by_cmp}
use Rattle.std.specs.FinMap.{get, get-empty, get-insert}
use Rattle.std.proofs.Math.ListN.{get_or-append}
use Rattle.std.proofs.Math.Seq.{get_or-append_seam}
use Rattle.std.proofs.lemmas.Bool.{cases_lt}
use Rattle.std.proofs.lemmas.List.{get_or-map, length-map}
use Rattle.std.proofs.lemmas.List.Elements.{Contains-get_or}
use Rattle.hash_tree.specs.Entries.{key_cmp}
use Rattle.hash_tree.proofs.Maps.{total}
use Rattle.hash_tree.proofs.Changed.{same_key}
use Rattle.cert_policy.specs.declared.manner.Manner.{Manner}
use Rattle.cert_policy.specs.declared.manner.Manner.TheVariants.{Full, Recovery, Objected}
use Rattle.ar_cert.specs.Certificate.{Certificate}
use Rattle.ar_cert.specs.Changes.{Change}
use Rattle.ar_cert.specs.Judging.{IsTakenIn}
use Rattle.domain_table.specs.declared.refusal.ChangeRefusal.{ChangeRefusal}
use Rattle.domain_table.specs.Tables.{Pending, SameTable, Table, certificates, chain_of, newest, no_table, pair_of, pairs}
use Rattle.domain_table.specs.Applying.{after_answer, apply, apply_each, is_ripe, judge_ripe, ripen, taking_change, IsRipe}
use Rattle.domain_table.specs.Waiting.{EachWaited, Leads, Waited}
use Rattle.domain_table.proofs.Applied.{left_waiting, still_waits}
use Rattle.domain_table.proofs.Judged.{judged_full}
use Rattle.domain_table.proofs.Newest.{newest_is}
use Rattle.domain_table.proofs.Ripe.{others_stay, ripe_chain, ripe_when}
use Rattle.domain_table.proofs.Steps.{Stayed}

-- ---- pairs of a chain

-- each change that stands behind another has the property, with the certificate of that one
abbrev EachPair : (Certificate → Change → Type 0) → List Change → Type 0
EachPair Q chain = (k : ℕ) (d : Change) → k + 1 < length chain → Q (get_or chain k d).cert (get_or chain (k + 1) d)

pairs-push : (Q : Certificate → Change → Type 0) (chain : List Change) (c : Change) → EachPair Q chain
    → ((old : Certificate) → newest chain ≡ Some old → Q old c) → EachPair Q (chain ++ c ∷ [])
pairs-push Q chain c each last k d less = elim (cases_lt (k + 1) (length chain)) [
  | inl before ↦
      subst (λ x. Q x.cert (get_or (chain ++ c ∷ []) (k + 1) d)) (sym (get_or-append chain (c ∷ []) d k (omega (arith, before))))
      (subst (Q (get_or chain k d).cert) (sym (get_or-append chain (c ∷ []) d (k + 1) before)) (each k d before))
  | inr past ↦
      let at : k + 1 ≡ length chain = omega (arith, past, less, length-append chain (c ∷ [])) in
      let behind : get_or (chain ++ c ∷ []) (k + 1) d ≡ c = ap (λ n. get_or (chain ++ c ∷ []) n d) at ∙ get_or-append_seam chain c [] d in
      subst (λ x. Q x.cert (get_or (chain ++ c ∷ []) (k + 1) d)) (sym (get_or-append chain (c ∷ []) d k (omega (arith, at))))
      (subst (Q (get_or chain k d).cert) (sym behind) (last (get_or chain k d).cert (newest_is chain k d at)))
]

-- ---- what is kept

-- a change waits since an epoch up to this one, in each of their tables, behind what the name has as its newest
record Since (InEpoch : ℕ → Table → Type 0) (n : ℕ) (top : Option Certificate) (name : List ℕ) (p : Pending) : Type 0 where
  low : p.since ≤ n
  began : (table : Table) × InEpoch p.since table
  during : (e : ℕ) (table : Table) → p.since ≤ e → e ≤ n → InEpoch e table
      → (newest (chain_of table name) ≡ top) × (pairs table name ≡ Some (pair_of p))

-- what a table behind an epoch keeps
pub record AllWait (InEpoch : ℕ → Table → Type 0) (n : ℕ) (t : Table) : Type 0 where
  waiting : (name : List ℕ) (p : Pending) → get t.waiting name ≡ Some p → Since InEpoch n (newest (chain_of t name)) name p
  pub chains : (name : List ℕ) → EachWaited InEpoch n name (chain_of t name)

-- a change that is ripe in the epoch behind this one
record Ripened (InEpoch : ℕ → Table → Type 0) (n : ℕ) (name : List ℕ) (old : Certificate) (c : Change) : Type 0 where
  pending : Pending
  is_change : pending.change ≡ c
  waited : Since InEpoch n (Some old) name pending
  wait : ℕ
  is_wait : old.policy.wait ≡ Some wait
  over : pending.since + wait ≤ suc n

-- what each change of a chain is inside the epoch behind this one
abbrev Passed : (ℕ → Table → Type 0) → ℕ → List ℕ → Certificate → Change → Type 0
Passed InEpoch n name old c = IsTakenIn Full old false c ⊎ (Waited InEpoch n name old c.cert ⊎ Ripened InEpoch n name old c)

-- what a table inside the epoch behind this one keeps
record Within (InEpoch : ℕ → Table → Type 0) (n : ℕ) (t : Table) : Type 0 where
  waiting : (name : List ℕ) (p : Pending) → get t.waiting name ≡ Some p → (p.since ≡ suc n) ⊎ Since InEpoch n (newest (chain_of t name)) name p
  chains : (name : List ℕ) → EachPair (Passed InEpoch n name) (chain_of t name)

-- ---- inside an epoch

-- a step inside the epoch: a chain stays or has one more change, and what waits did so behind the same chain, or begins to
record Passes (InEpoch : ℕ → Table → Type 0) (n : ℕ) (t u : Table) : Type 0 where
  chains : (name : List ℕ) → (chain_of u name ≡ chain_of t name)
      ⊎ ((c : Change) × (chain_of u name ≡ chain_of t name ++ c ∷ []) × ((old : Certificate) → newest (chain_of t name) ≡ Some old → Passed InEpoch n name old c))
  waiting : (name : List ℕ) (p : Pending) → get u.waiting name ≡ Some p → Stayed t u name p ⊎ (p.since ≡ suc n)

within-on : (InEpoch : ℕ → Table → Type 0) (n : ℕ) (t u : Table) → Within InEpoch n t → Passes InEpoch n t u → Within InEpoch n u
within-on InEpoch n t u is step = record {
  waiting = λ name p there. elim (step.waiting name p there) [
    | inl stayed ↦ subst (λ o. (p.since ≡ suc n) ⊎ Since InEpoch n (newest (unwrap_or o [])) name p) (sym stayed.behind) (is.waiting name p stayed.waited)
    | inr now ↦ inl now
  ];
  chains = λ name. elim (step.chains name) [
    | inl same ↦ subst (EachPair (Passed InEpoch n name)) (sym same) (is.chains name)
    | inr more ↦ subst (EachPair (Passed InEpoch n name)) (sym more.1) (pairs-push (Passed InEpoch n name) (chain_of t name) more.0 (is.chains name) more.2)
  ];
}

-- the table behind an epoch, as the next one begins
begins : (InEpoch : ℕ → Table → Type 0) (n : ℕ) (t : Table) → AllWait InEpoch n t → Within InEpoch n t
begins InEpoch n t is = record {
  waiting = λ name p there. inr (is.waiting name p there);
  chains = λ name k d less. elim (is.chains name k d less) [ inl full ↦ inl full | inr waited ↦ inr (inl waited) ];
}

-- ripening
ripen-passes : (InEpoch : ℕ → Table → Type 0) (n : ℕ) (t : Table) → AllWait InEpoch n t → Passes InEpoch n t (ripen t (suc n))
ripen-passes InEpoch n t is = record {
  chains = λ name. at name (is_ripe t (suc n) name) refl;
  waiting = λ name p there. inl (still_waits t (suc n) name p there (is_ripe t (suc n) name) refl);
} where
  at : (name : List ℕ) (b : Bool) → is_ripe t (suc n) name ≡ b → (chain_of (ripen t (suc n)) name ≡ chain_of t name)
      ⊎ ((c : Change) × (chain_of (ripen t (suc n)) name ≡ chain_of t name ++ c ∷ []) × ((old : Certificate) → newest (chain_of t name) ≡ Some old → Passed InEpoch n name old c))
  at name false not_ripe = inl (ap (λ o. unwrap_or o []) (others_stay t (suc n) name not_ripe).0)
  at name true ripe =
      let r : IsRipe t (suc n) name = (ripe_when t (suc n) name).0 ripe in
      inr (
        r.pending.change,
        ripe_chain t (suc n) name r.pending r.old r.is_newest r.waits ripe,
        λ old is_newest.
            let same : r.old ≡ old = let some : Some r.old ≡ Some old = sym r.is_newest ∙ is_newest in cc in
            inr (inr (record {
              pending = r.pending;
              is_change = refl;
              waited = subst (λ o. Since InEpoch n o name r.pending) is_newest (is.waiting name r.pending r.waits);
              wait = r.wait;
              is_wait = subst (λ (o : Certificate). o.policy.wait ≡ Some r.wait) same r.is_wait;
              over = r.over;
            })),
      )

-- a change that is taken
take-passes : (InEpoch : ℕ → Table → Type 0) (n : ℕ) (t : Table) (c : Change) (m : Manner) → judge_ripe t c ≡ Ok m → Passes InEpoch n t (taking_change t (suc n) c m)
unfolding taking_change
take-passes InEpoch n t c Full judged = record {
  chains = λ name. at name (eq_by_cmp key_cmp name c.cert.name) refl;
  waiting = λ name p there. inl (left_waiting (λ _ _. Unit {0}) t (taking_change t (suc n) c Full) c name p refl there (λ apart. found name ∙ ap (λ b. cond b (Some (chain_of t c.cert.name ++ c ∷ [])) (get t.chains name)) apart));
} where
  found : (name : List ℕ) → get (taking_change t (suc n) c Full).chains name ≡ cond (eq_by_cmp key_cmp name c.cert.name) (Some (chain_of t c.cert.name ++ c ∷ [])) (get t.chains name)
  found name = get-insert total t.chains c.cert.name (chain_of t c.cert.name ++ c ∷ []) name

  at : (name : List ℕ) (b : Bool) → eq_by_cmp key_cmp name c.cert.name ≡ b → (chain_of (taking_change t (suc n) c Full) name ≡ chain_of t name)
      ⊎ ((x : Change) × (chain_of (taking_change t (suc n) c Full) name ≡ chain_of t name ++ x ∷ []) × ((old : Certificate) → newest (chain_of t name) ≡ Some old → Passed InEpoch n name old x))
  at name false apart = inl (ap (λ o. unwrap_or o []) (found name ∙ ap (λ b. cond b (Some (chain_of t c.cert.name ++ c ∷ [])) (get t.chains name)) apart))
  at name true tied =
      let same : c.cert.name ≡ name = sym (same_key name c.cert.name tied) in
      inr (
        c,
        ap (λ o. unwrap_or o []) (found name ∙ ap (λ b. cond b (Some (chain_of t c.cert.name ++ c ∷ [])) (get t.chains name)) tied) ∙ ap (λ k. chain_of t k ++ c ∷ []) same,
        λ old is_newest. inl (judged_full t c old judged (ap (λ k. newest (chain_of t k)) same ∙ is_newest)),
      )
take-passes InEpoch n t c Recovery judged = record {
  chains = λ name. inl refl;
  waiting = λ name p there. at name p there (eq_by_cmp key_cmp name c.cert.name) refl;
} where
  found : (name : List ℕ) → get (taking_change t (suc n) c Recovery).waiting name ≡ cond (eq_by_cmp key_cmp name c.cert.name) (Some (record { change = c; since = suc n })) (get t.waiting name)
  found name = get-insert total t.waiting c.cert.name (record { change = c; since = suc n }) name

  at : (name : List ℕ) (p : Pending) → get (taking_change t (suc n) c Recovery).waiting name ≡ Some p → (b : Bool) → eq_by_cmp key_cmp name c.cert.name ≡ b → Stayed t (taking_change t (suc n) c Recovery) name p ⊎ (p.since ≡ suc n)
  at name p there true tied =
      let some : Some (record { change = c; since = suc n }) ≡ Some p = sym (ap (λ b. cond b (Some (record { change = c; since = suc n })) (get t.waiting name)) tied) ∙ sym (found name) ∙ there in
      let is_pair : record { change = c; since = suc n } ≡ p = cc in
      inr (sym (ap (λ (q : Pending). q.since) is_pair))
  at name p there false apart = inl (record {
    waited = sym (ap (λ b. cond b (Some (record { change = c; since = suc n })) (get t.waiting name)) apart) ∙ sym (found name) ∙ there;
    behind = refl;
  })
take-passes InEpoch n t c Objected judged = record {
  chains = λ name. inl refl;
  waiting = λ name p there. inl (left_waiting (λ _ _. Unit {0}) t (taking_change t (suc n) c Objected) c name p refl there (λ apart. refl));
}

-- all changes
each-within : (InEpoch : ℕ → Table → Type 0) (n : ℕ) (changes : List Change) (t u : Table) → apply_each t (suc n) changes ≡ Some u → Within InEpoch n t → Within InEpoch n u
unfolding apply_each
each-within InEpoch n [] t u is here =
    let same : t ≡ u = cc in
    subst (Within InEpoch n) same here
each-within InEpoch n (c ∷ changes) t u is here = by (judge_ripe t c) refl is (λ v. each-within InEpoch n changes v u)
  where
    by : (answer : Result Manner ChangeRefusal) → judge_ripe t c ≡ answer → option_and_then (λ v. apply_each v (suc n) changes) (after_answer t (suc n) c answer) ≡ Some u
        → ((v : Table) → apply_each v (suc n) changes ≡ Some u → Within InEpoch n v → Within InEpoch n u) → Within InEpoch n u
    by (Err refusal) answers rest next = absurd cc
    by (Ok m) answers rest next = next (taking_change t (suc n) c m) rest (within-on InEpoch n t (taking_change t (suc n) c m) here (take-passes InEpoch n t c m answers))

-- ---- behind an epoch

-- what waits in the next table does so in each table of the epoch
at-end : (table u : Table) → SameTable table u → (name : List ℕ) (p : Pending) → get u.waiting name ≡ Some p
    → (newest (chain_of table name) ≡ newest (chain_of u name)) × (pairs table name ≡ Some (pair_of p))
at-end table u same name p there = (ap (last_or None) (same name).0, (same name).1 ∙ ap (option_map pair_of) there)

-- what waited goes on to wait, where its chain is as it was
goes-on : (InEpoch : ℕ → Table → Type 0) (n : ℕ) (u : Table) → ((table : Table) → InEpoch (suc n) table → SameTable table u) → (name : List ℕ) (p : Pending) → get u.waiting name ≡ Some p
    → Since InEpoch n (newest (chain_of u name)) name p → Since InEpoch (suc n) (newest (chain_of u name)) name p
goes-on InEpoch n u same name p there s = record {
  low = omega (arith, s.low);
  began = s.began;
  during = λ e table from to is. elim (cases_lt e (suc n)) [
    | inl before ↦ s.during e table from (omega (arith, before)) is
    | inr now ↦
        let at : e ≡ suc n = omega (arith, now, to) in
        at-end table u (same table (subst (λ x. InEpoch x table) at is)) name p there
  ];
}

-- what begins to wait in the epoch
begins-now : (InEpoch : ℕ → Table → Type 0) (n : ℕ) (u : Table) → ((table : Table) × InEpoch (suc n) table) → ((table : Table) → InEpoch (suc n) table → SameTable table u)
    → (name : List ℕ) (p : Pending) → get u.waiting name ≡ Some p → p.since ≡ suc n → Since InEpoch (suc n) (newest (chain_of u name)) name p
begins-now InEpoch n u some same name p there now = record {
  low = omega (arith, now);
  began = (some.0, subst (λ x. InEpoch x some.0) (sym now) some.1);
  during = λ e table from to is.
      let at : e ≡ suc n = omega (arith, now, from, to) in
      at-end table u (same table (subst (λ x. InEpoch x table) at is)) name p there;
}

-- what waited by an epoch waited by the next
by-later : (InEpoch : ℕ → Table → Type 0) (n : ℕ) (name : List ℕ) (old new : Certificate) → Waited InEpoch n name old new → Waited InEpoch (suc n) name old new
by-later InEpoch n name old new w = record {
  wait = w.wait;
  is_wait = w.is_wait;
  since = w.since;
  taken = w.taken;
  later = w.later;
  long = w.long;
  by_now = omega (arith, w.by_now);
  began = w.began;
  waits = w.waits;
  ended = w.ended;
  stands = w.stands;
}

-- what ripened in the epoch waited
ripened-waited : (InEpoch : ℕ → Table → Type 0) (n : ℕ) (u : Table) → ((table : Table) × InEpoch (suc n) table) → ((table : Table) → InEpoch (suc n) table → SameTable table u)
    → (name : List ℕ) (old : Certificate) (c : Change) → Contains (certificates u name) c.cert → Ripened InEpoch n name old c → Waited InEpoch (suc n) name old c.cert
ripened-waited InEpoch n u some same name old c there r =
    let pair : pair_of r.pending ≡ (c.cert, r.pending.since) = ap (λ (x : Change). (x.cert, r.pending.since)) r.is_change in
    record {
      wait = r.wait;
      is_wait = r.is_wait;
      since = r.pending.since;
      taken = suc n;
      later = omega (arith, r.waited.low);
      long = r.over;
      by_now = omega arith;
      began = r.waited.began;
      waits = λ e table from to is.
          let d = r.waited.during e table from (omega (arith, to)) is in
          (d.0, d.1 ∙ ap (λ (x : Certificate × ℕ). Some x) pair);
      ended = some;
      stands = λ table is. subst (λ xs. Contains xs c.cert) (sym (same table is name).0) there;
    }

-- a change of a chain has its certificate there
cert-there : (u : Table) (name : List ℕ) (k : ℕ) (d : Change) → k < length (chain_of u name) → Contains (certificates u name) (get_or (chain_of u name) k d).cert
cert-there u name k d less =
    let f : Change → Certificate = λ c. c.cert in
    let chain : List Change = chain_of u name in
    subst (Contains (certificates u name)) (get_or-map f chain k d (f d) less)
    (Contains-get_or (certificates u name) k (f d) (omega (arith, less, length-map chain f)))

-- an epoch keeps it all
pub leads-on : (InEpoch : ℕ → Table → Type 0) (n : ℕ) (t u : Table) → AllWait InEpoch n t → Leads InEpoch (suc n) t u → AllWait InEpoch (suc n) u
leads-on InEpoch n t u is moves = by moves.how
  where
    by : (t ≡ u) ⊎ ((changes : List Change) × (apply t (suc n) changes ≡ Some u) × ((table : Table) × InEpoch (suc n) table)) → AllWait InEpoch (suc n) u
    by (inl same) =
        let here : AllWait InEpoch n u = subst (AllWait InEpoch n) same is in
        record {
          waiting = λ name p there. goes-on InEpoch n u moves.same name p there (here.waiting name p there);
          chains = λ name k d less. elim (here.chains name k d less) [ inl full ↦ inl full | inr w ↦ inr (by-later InEpoch n name _ _ w) ];
        }
    by (inr applied) =
        let first : Within InEpoch n (ripen t (suc n)) = within-on InEpoch n t (ripen t (suc n)) (begins InEpoch n t is) (ripen-passes InEpoch n t is) in
        let here : Within InEpoch n u = each-within InEpoch n applied.0 (ripen t (suc n)) u applied.1 first in
        record {
          waiting = λ name p there. elim (here.waiting name p there) [
            | inl now ↦ begins-now InEpoch n u applied.2 moves.same name p there now
            | inr s ↦ goes-on InEpoch n u moves.same name p there s
          ];
          chains = λ name k d less. elim (here.chains name k d less) [
            | inl full ↦ inl full
            | inr (inl w) ↦ inr (by-later InEpoch n name _ _ w)
            | inr (inr r) ↦ inr (ripened-waited InEpoch n u applied.2 moves.same name _ _ (cert-there u name (k + 1) d less) r)
          ];
        }

-- the table without names
pub none-waits : (InEpoch : ℕ → Table → Type 0) (n : ℕ) → AllWait InEpoch n no_table
none-waits InEpoch n = record {
  waiting = λ name p there. let none : None ≡ Some p = sym (get-empty key_cmp name) ∙ there in absurd cc;
  chains = λ name k d less. let none : chain_of no_table name ≡ [] = ap (λ (o : Option (List Change)). unwrap_or o []) (get-empty key_cmp name) in absurd (omega (arith, less, ap length none));
}

-- tables one behind another
pub all-waited : (InEpoch : ℕ → Table → Type 0) (behind : ℕ → Table) (last : ℕ) → behind 0 ≡ no_table
    → ((e : ℕ) → e < last → Leads InEpoch (e + 1) (behind e) (behind (e + 1))) → AllWait InEpoch last (behind last)
all-waited InEpoch behind zero first each = subst (AllWait InEpoch 0) (sym first) (none-waits InEpoch 0)
all-waited InEpoch behind (suc n) first each =
    let next : n + 1 ≡ suc n = omega arith in
    leads-on InEpoch n (behind n) (behind (suc n)) (all-waited InEpoch behind n first (λ e less. each e (omega (arith, less))))
    (subst (λ m. Leads InEpoch m (behind n) (behind m)) next (each n (omega arith)))
