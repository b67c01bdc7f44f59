-- A recovery waited in the agreed tables: by induction over the epochs of an honest log, as far as the agreed table's.
use Rattle.std.proofs.Common.{◌≡◌, ℕ, zero, suc, ◌≤◌, List, length, ◌⊎◌, inl, inr, refl, sym, ap, ◌∙◌, subst, arith, Some, None}
use Rattle.ar_cert.specs.Changes.{Change}
use Rattle.domain_table.specs.Applying.{apply}
use Rattle.domain_table.specs.Tables.{Table, chain_of}
use Rattle.domain_table.specs.Waiting.{EachWaited, Leads}
use Rattle.domain_table.proofs.Waiting.{AllWait, leads-on, none-waits}
use Rattle.epoch_log.specs.Record.{base_of, ending}
use Rattle.epoch_log.specs.Right.{IsRightDecision}
use Rattle.epoch_log.specs.declared.entries.Ended.{Ended}
use Rattle.epoch_log.specs.declared.entries.How.{How}
use Rattle.epoch_log.specs.declared.entries.How.TheVariants.{Decided, Skipped}
use Rattle.epoch_log.proofs.Endings.{ending-none}
use Rattle.ar_safety.specs.Agreed.{Agreed}
use Rattle.ar_safety.specs.Records.{IsHonestLog, Records}
use Rattle.ar_safety.specs.Theorem.{AreHonest, Few, NoCollision, NoForgery}
use Rattle.ar_safety.proofs.Agreement.{agreed-decided, agreed-range, base-decided, base-first, base-open, base-skipped, ending-some, one-agreed}
use Rattle.ar_safety.proofs.Confirming.{backed-agreed}
use Rattle.ar_safety.proofs.Votes.{decided-backed}

-- an epoch that an honest log ended leads from its base to the next one, over the agreed tables: a decided one has an agreed
-- table, and in a skipped one none is agreed
base-leads : (r : Records) → AreHonest r → Few r → NoForgery r → NoCollision r → (j : ℕ) → IsHonestLog r j → (e : ℕ) → 1 ≤ e → e ≤ length (r.logs j).ended
    → Leads (Agreed r) e (base_of (r.logs j).ended e) (base_of (r.logs j).ended (suc e))
base-leads r honest few forged clean j is e least most =
    let some = ending-some ended (honest.logs j is).ends_in_order e least most in
    record { how = by some.0 some.1; same = λ table agreed. agreed-decided r honest few forged clean e table agreed j is most }
  where
    ended : List Ended
    ended = (r.logs j).ended

    by : (how : How) → ending ended e ≡ Some how
        → (base_of ended e ≡ base_of ended (suc e)) ⊎ ((changes : List Change) × (apply (base_of ended e) e changes ≡ Some (base_of ended (suc e))) × ((table : Table) × Agreed r e table))
    by (Skipped statuses) at = inl (sym (base-skipped ended e statuses at))
    by (Decided changes to) at =
        let right : IsRightDecision r.council (r.logs j).seen ended e changes to = (honest.logs j is).decides_rightly e changes to at in
        let leads : apply (base_of ended e) e changes ≡ Some right.leads.reaches.table = right.leads.reaches.applied in
        let next : base_of ended (suc e) ≡ right.leads.reaches.table = base-decided ended e changes to right.leads.reaches.table at leads in
        let agreed = backed-agreed r honest few e to (decided-backed r honest forged j is e changes to at) in
        inr (changes, leads ∙ ap (λ t. Some t) (sym next), (agreed.table, agreed.agreed))

-- what the bases of an honest log keep
bases-wait : (r : Records) → AreHonest r → Few r → NoForgery r → NoCollision r → (j : ℕ) → IsHonestLog r j → (n : ℕ) → n ≤ length (r.logs j).ended
    → AllWait (Agreed r) n (base_of (r.logs j).ended (suc n))
bases-wait r honest few forged clean j is zero most =
    let ended : List Ended = (r.logs j).ended in
    let none : ending ended 0 ≡ None = ending-none ended (honest.logs j is).ends_in_order 0 (inl refl) in
    subst (AllWait (Agreed r) 0) (sym (base-open ended 0 none ∙ base-first ended)) (none-waits (Agreed r) 0)
bases-wait r honest few forged clean j is (suc n) most =
    leads-on (Agreed r) n (base_of (r.logs j).ended (suc n)) (base_of (r.logs j).ended (suc (suc n)))
    (bases-wait r honest few forged clean j is n (omega (arith, most)))
    (base-leads r honest few forged clean j is (suc n) (omega arith) most)

-- an agreed table is led to from the base of its epoch
pub recoveries-waited : (r : Records) → AreHonest r → Few r → NoForgery r → NoCollision r → (e : ℕ) (t : Table) → Agreed r e t → (name : List ℕ) → EachWaited (Agreed r) e name (chain_of t name)
recoveries-waited r honest few forged clean zero t a name = absurd (omega (arith, (agreed-range r honest 0 t a).0))
recoveries-waited r honest few forged clean (suc n) t a name =
    let j : ℕ = a.log in
    let range = agreed-range r honest (suc n) t a in
    let leads : Leads (Agreed r) (suc n) (base_of (r.logs j).ended (suc n)) t =
    record { how = inr (a.ballot.changes, a.leads, (t, a)); same = λ other b. one-agreed r honest few clean (suc n) other t b a } in
    (leads-on (Agreed r) n (base_of (r.logs j).ended (suc n)) t (bases-wait r honest few forged clean j a.honest n (omega (arith, range.1))) leads).chains name
