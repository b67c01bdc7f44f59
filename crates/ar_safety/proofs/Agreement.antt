-- Honest logs agree: on the table of an epoch, on how it ended, on the base of the next; and chains only grow.
use Rattle.std.proofs.Common.{◌≡◌, ℕ, zero, suc, ◌+◌, ◌-◌, ◌<◌, ◌≤◌, ◌^◌, ◌⊎◌, inl, inr, List, [], length, get_or, refl, sym, ap, ◌∙◌, subst, arith, append-nil, true, ◌==◌, eqb, Option, Some, None}
use Rattle.std.specs.Prelude.{All, Contains, unwrap_or}
use Rattle.std.specs.List.{find}
use Rattle.std.specs.Option.{option_map}
use Rattle.std.proofs.lemmas.Bool.{cases_lt, eq-eqb}
use Rattle.std.proofs.lemmas.List.{map-append}
use Rattle.std.proofs.lemmas.List.Elements.{All-contains}
use Rattle.ar_base.specs.Prefixes.{BeginsWith}
use Rattle.ar_base.proofs.Prefixes.{begins_on}
use Rattle.ar_cert.specs.Changes.{Change, IsChange}
use Rattle.ar_statement.specs.declared.text.SeenText.{SeenText}
use Rattle.vote_quorum.specs.Statuses.{Status}
use Rattle.domain_table.specs.Applying.{apply}
use Rattle.domain_table.specs.Sound.{IsSound}
use Rattle.domain_table.specs.Tables.{SameTable, Table, certificates, certificates_of, chain_of, no_table}
use Rattle.domain_table.specs.Tree.{root_of}
use Rattle.domain_table.proofs.Applied.{applied, none_holds, none_sound}
use Rattle.domain_table.proofs.Steps.{Follows, Holds, follows_itself}
use Rattle.domain_table.proofs.Trees.{Listed, same_tables}
use Rattle.epoch_log.specs.Honest.{EndsInOrder, IsOfHonestLog}
use Rattle.epoch_log.specs.Record.{after_ending, base_of, current, ending}
use Rattle.ar_council.proofs.Lists.{find-nothing}
use Rattle.epoch_log.specs.Right.{IsRightDecision, IsRightVote, SawEndorsements}
use Rattle.epoch_log.specs.declared.entries.Ended.{Ended}
use Rattle.epoch_log.specs.declared.entries.How.{How}
use Rattle.epoch_log.specs.declared.entries.How.TheVariants.{Decided, Skipped}
use Rattle.epoch_log.specs.declared.entries.Voted.{Voted}
use Rattle.epoch_log.proofs.Endings.{ending-none, ending-within, epochs-within}
use Rattle.ar_safety.specs.Agreed.{Agreed, SameEnding}
use Rattle.ar_safety.specs.Hashed.{hashed, listed_tables}
use Rattle.ar_safety.specs.Records.{IsHonestLog, Records}
use Rattle.ar_safety.specs.Theorem.{AreHonest, Few, NoCollision, NoForgery}
use Rattle.ar_safety.proofs.Listed.{decided-listed, table-hashed, voted-listed}
use Rattle.ar_safety.proofs.Votes.{backed-not-skipped, decided-backed, one-root}

-- ---- what an epoch of an honest log makes of a sound table

-- the endorsements of a change were seen
abbrev pub Endorsed : List SeenText → List ℕ → Change → Type 0
Endorsed seen name change = SawEndorsements seen change

follows : (seen : List SeenText) (t u : Table) (epoch : ℕ) (changes : List Change) → epoch < 2 ^ 64 → apply t epoch changes ≡ Some u → All IsChange changes → All (SawEndorsements seen) changes
    → IsSound t → Holds (Endorsed seen) t → Follows (Endorsed seen) t u
follows seen t u epoch changes less is are endorsed sound holds = applied (Endorsed seen) changes epoch t u less is sound holds are endorsed

-- the base behind a decided epoch
pub base-decided : (ended : List Ended) (e : ℕ) (changes : List Change) (to : List ℕ) (t : Table) → ending ended e ≡ Some (Decided changes to) → apply (base_of ended e) e changes ≡ Some t → base_of ended (suc e) ≡ t
unfolding base_of
base-decided ended e changes to t is leads = ap (λ o. after_ending e o (base_of ended e)) is ∙ ap (λ o. unwrap_or o (base_of ended e)) leads

pub base-skipped : (ended : List Ended) (e : ℕ) (statuses : List Status) → ending ended e ≡ Some (Skipped statuses) → base_of ended (suc e) ≡ base_of ended e
unfolding base_of
base-skipped ended e statuses is = ap (λ o. after_ending e o (base_of ended e)) is

pub base-open : (ended : List Ended) (e : ℕ) → ending ended e ≡ None → base_of ended (suc e) ≡ base_of ended e
unfolding base_of
base-open ended e is = ap (λ o. after_ending e o (base_of ended e)) is

pub base-first : (ended : List Ended) → base_of ended 0 ≡ no_table
unfolding base_of
base-first ended = refl

-- each base of an honest log is sound, its endorsements were seen, and its chains begin those of the next
base-next : (r : Records) → AreHonest r → (j : ℕ) → IsHonestLog r j → (e : ℕ) → IsSound (base_of (r.logs j).ended e) → Holds (Endorsed (r.logs j).seen) (base_of (r.logs j).ended e)
    → Follows (Endorsed (r.logs j).seen) (base_of (r.logs j).ended e) (base_of (r.logs j).ended (suc e))
base-next r honest j is e sound holds = by (ending (r.logs j).ended e) refl
  where
    ended : List Ended
    ended = (r.logs j).ended

    seen : List SeenText
    seen = (r.logs j).seen

    h : IsOfHonestLog r.council j (r.logs j)
    h = honest.logs j is

    stays : base_of ended (suc e) ≡ base_of ended e → Follows (Endorsed seen) (base_of ended e) (base_of ended (suc e))
    stays same = subst (Follows (Endorsed seen) (base_of ended e)) (sym same) (follows_itself (Endorsed seen) (base_of ended e) sound holds)

    by : (o : Option How) → ending ended e ≡ o → Follows (Endorsed seen) (base_of ended e) (base_of ended (suc e))
    by None at = stays (base-open ended e at)
    by (Some (Skipped statuses)) at = stays (base-skipped ended e statuses at)
    by (Some (Decided changes to)) at =
        let right : IsRightDecision r.council seen ended e changes to = h.decides_rightly e changes to at in
        let within = ending-within ended h.ends_in_order e (Decided changes to) at in
        let less : e < 2 ^ 64 = omega (arith, within.1, h.ends_in_order.in_range) in
        let t : Table = right.leads.reaches.table in
        subst (Follows (Endorsed seen) (base_of ended e)) (sym (base-decided ended e changes to t at right.leads.reaches.applied))
        (follows seen (base_of ended e) t e changes less right.leads.reaches.applied right.leads.are_changes right.leads.endorsed sound holds)

pub base-kept : (r : Records) → AreHonest r → (j : ℕ) → IsHonestLog r j → (e : ℕ) → IsSound (base_of (r.logs j).ended e) × Holds (Endorsed (r.logs j).seen) (base_of (r.logs j).ended e)
base-kept r honest j is zero =
    subst (λ t. IsSound t × Holds (Endorsed (r.logs j).seen) t) (sym (base-first (r.logs j).ended)) (none_sound, none_holds (Endorsed (r.logs j).seen))
base-kept r honest j is (suc e) =
    let before = base-kept r honest j is e in
    let f = base-next r honest j is e before.0 before.1 in
    (f.sound, f.holds)

-- the chains of a base begin those of each later one
pub base-extends : (r : Records) → AreHonest r → (j : ℕ) → IsHonestLog r j → (e n : ℕ) (name : List ℕ) → BeginsWith (chain_of (base_of (r.logs j).ended (e + n)) name) (chain_of (base_of (r.logs j).ended e) name)
base-extends r honest j is e zero name =
    let same : e + 0 ≡ e = omega arith in
    ([], ap (λ m. chain_of (base_of (r.logs j).ended m) name) same ∙ sym (append-nil (chain_of (base_of (r.logs j).ended e) name)))
base-extends r honest j is e (suc n) name =
    let next : e + suc n ≡ suc (e + n) = omega arith in
    let here = base-extends r honest j is e n name in
    let before = base-kept r honest j is (e + n) in
    let step = (base-next r honest j is (e + n) before.0 before.1).begins name in
    subst (λ m. BeginsWith (chain_of (base_of (r.logs j).ended m) name) (chain_of (base_of (r.logs j).ended e) name)) (sym next)
    (begins_on (chain_of (base_of (r.logs j).ended e) name) (chain_of (base_of (r.logs j).ended (e + n)) name) (chain_of (base_of (r.logs j).ended (suc (e + n))) name) step here)

-- ---- agreed and decided tables

-- a table that is sound, listed, and has the root
pub record Fine (r : Records) (table : Table) : Type 0 where
  pub sound : IsSound table
  pub listed : Listed (hashed r) table

one-of-root : (r : Records) → NoCollision r → (one other : Table) → Fine r one → Fine r other → root_of one ≡ root_of other → SameTable one other
one-of-root r clean one other a b same = same_tables (hashed r) clean.strings one other a.sound b.sound a.listed b.listed same

pub agreed-range : (r : Records) → AreHonest r → (e : ℕ) (t : Table) (a : Agreed r e t) → (1 ≤ e) × (e ≤ current (r.logs a.log).ended)
agreed-range r honest e t a =
    let h : IsOfHonestLog r.council a.log (r.logs a.log) = honest.logs a.log a.honest in
    let up = All-contains (λ (v : Voted). (1 ≤ v.epoch) × (v.epoch ≤ current (r.logs a.log).ended)) (r.logs a.log).voted a.ballot h.votes_once.up_to_now a.is_cast in
    (omega (arith, up.0, a.of_epoch), omega (arith, up.1, a.of_epoch))

pub agreed-follows : (r : Records) → AreHonest r → (e : ℕ) (t : Table) (a : Agreed r e t) → Follows (Endorsed (r.logs a.log).seen) (base_of (r.logs a.log).ended e) t
agreed-follows r honest e t a =
    let h : IsOfHonestLog r.council a.log (r.logs a.log) = honest.logs a.log a.honest in
    let range = agreed-range r honest e t a in
    let right : IsRightVote (r.logs a.log).seen (r.logs a.log).ended a.ballot = All-contains (IsRightVote (r.logs a.log).seen (r.logs a.log).ended) (r.logs a.log).voted a.ballot h.votes_rightly a.is_cast in
    let before = base-kept r honest a.log a.honest e in
    follows (r.logs a.log).seen (base_of (r.logs a.log).ended e) t e a.ballot.changes (omega (arith, range.1, h.ends_in_order.in_range)) a.leads right.leads.are_changes right.leads.endorsed before.0 before.1

pub agreed-listed : (r : Records) (e : ℕ) (t : Table) → Agreed r e t → Contains (listed_tables r) t
agreed-listed r e t a = voted-listed r a.log a.honest a.ballot a.is_cast t (subst (λ n. apply (base_of (r.logs a.log).ended n) n a.ballot.changes ≡ Some t) (sym a.of_epoch) a.leads)

pub agreed-fine : (r : Records) → AreHonest r → (e : ℕ) (t : Table) (a : Agreed r e t) → Fine r t
agreed-fine r honest e t a = record { sound = (agreed-follows r honest e t a).sound; listed = table-hashed r t (agreed-listed r e t a) }

-- one table alone is agreed in an epoch
pub one-agreed : (r : Records) → AreHonest r → Few r → NoCollision r → (e : ℕ) (one other : Table) → Agreed r e one → Agreed r e other → SameTable one other
one-agreed r honest few clean e one other a b =
    one-of-root r clean one other (agreed-fine r honest e one a) (agreed-fine r honest e other b) (one-root r honest few e (root_of one) (root_of other) a.backed b.backed)

-- the table of a decided epoch
record IsDecidedBy (r : Records) (j e : ℕ) (to : List ℕ) : Type 0 where
  table : Table
  fine : Fine r table
  is_root : root_of table ≡ to
  is_base : base_of (r.logs j).ended (suc e) ≡ table

decided-by : (r : Records) → AreHonest r → (j : ℕ) → IsHonestLog r j → (e : ℕ) (changes : List Change) (to : List ℕ) → ending (r.logs j).ended e ≡ Some (Decided changes to) → IsDecidedBy r j e to
decided-by r honest j is e changes to at =
    let ended : List Ended = (r.logs j).ended in
    let h : IsOfHonestLog r.council j (r.logs j) = honest.logs j is in
    let right : IsRightDecision r.council (r.logs j).seen ended e changes to = h.decides_rightly e changes to at in
    let within = ending-within ended h.ends_in_order e (Decided changes to) at in
    let t : Table = right.leads.reaches.table in
    let before = base-kept r honest j is e in
    let f = follows (r.logs j).seen (base_of ended e) t e changes (omega (arith, within.1, h.ends_in_order.in_range)) right.leads.reaches.applied right.leads.are_changes right.leads.endorsed before.0 before.1 in
    record {
      table = t;
      fine = record { sound = f.sound; listed = table-hashed r t (decided-listed r j is e changes to at t right.leads.reaches.applied) };
      is_root = right.leads.reaches.is_root;
      is_base = base-decided ended e changes to t at right.leads.reaches.applied;
    }

-- ---- endings

-- an epoch below the current one has an ending
find-none-of : (ended : List Ended) (e : ℕ) → ending ended e ≡ None → find (λ (x : Ended). x.epoch == e) ended ≡ None
unfolding ending
find-none-of ended e is = by (find (λ (x : Ended). x.epoch == e) ended) refl
  where
    by : (o : Option Ended) → find (λ (x : Ended). x.epoch == e) ended ≡ o → o ≡ None
    by None at = refl
    by (Some x) at = let some : ◌≡◌ {A = Option How} (Some x.how) None = sym (ap (option_map (λ (y : Ended). y.how)) at) ∙ is in absurd cc

pub ending-some : (ended : List Ended) → EndsInOrder ended → (e : ℕ) → 1 ≤ e → e ≤ length ended → (how : How) × (ending ended e ≡ Some how)
ending-some ended order zero least most = absurd (omega (arith, least))
ending-some ended order (suc k) least most = by (ending ended (suc k)) refl
  where
    by : (o : Option How) → ending ended (suc k) ≡ o → (how : How) × (o ≡ Some how)
    by (Some how) at = (how, refl)
    by None at =
        let none = find-nothing (λ (x : Ended). x.epoch == suc k) ended (find-none-of ended (suc k) at) in
        let d : Ended = record { epoch = 0; how = Skipped [] } in
        let less : k < length ended = omega (arith, most) in
        let fails = none k d less in
        let is : (get_or ended k d).epoch ≡ suc k = omega (arith, epochs-within ended order k d less) in
        let passes : eqb (get_or ended k d).epoch (suc k) ≡ true = eq-eqb (get_or ended k d).epoch (suc k) is in
        absurd cc

-- two honest logs end an epoch alike
pub same-ending : (r : Records) → AreHonest r → Few r → NoForgery r → (j k : ℕ) → IsHonestLog r j → IsHonestLog r k → (e : ℕ) (one other : How)
    → ending (r.logs j).ended e ≡ Some one → ending (r.logs k).ended e ≡ Some other → SameEnding one other
same-ending r honest few forged j k is_j is_k e (Skipped ss) (Skipped ts) a b = tt
same-ending r honest few forged j k is_j is_k e (Decided cs to) (Decided ds root) a b =
    one-root r honest few e to root (decided-backed r honest forged j is_j e cs to a) (decided-backed r honest forged k is_k e ds root b)
same-ending r honest few forged j k is_j is_k e (Skipped ss) (Decided ds root) a b =
    backed-not-skipped r honest few forged j is_j e root ss (decided-backed r honest forged k is_k e ds root b) a
same-ending r honest few forged j k is_j is_k e (Decided cs to) (Skipped ts) a b =
    backed-not-skipped r honest few forged k is_k e to ts (decided-backed r honest forged j is_j e cs to a) b

-- what a step makes of equal bases
same-step : (r : Records) → AreHonest r → Few r → NoForgery r → NoCollision r → (j k : ℕ) → IsHonestLog r j → IsHonestLog r k → (e : ℕ)
    → SameTable (base_of (r.logs j).ended e) (base_of (r.logs k).ended e) → (one other : How)
    → ending (r.logs j).ended e ≡ Some one → ending (r.logs k).ended e ≡ Some other → SameTable (base_of (r.logs j).ended (suc e)) (base_of (r.logs k).ended (suc e))
same-step r honest few forged clean j k is_j is_k e same (Skipped ss) (Skipped ts) a b =
    subst (λ t. SameTable t (base_of (r.logs k).ended (suc e))) (sym (base-skipped (r.logs j).ended e ss a))
    (subst (SameTable (base_of (r.logs j).ended e)) (sym (base-skipped (r.logs k).ended e ts b)) same)
same-step r honest few forged clean j k is_j is_k e same (Decided cs to) (Decided ds root) a b =
    let one = decided-by r honest j is_j e cs to a in
    let other = decided-by r honest k is_k e ds root b in
    let roots : to ≡ root = same-ending r honest few forged j k is_j is_k e (Decided cs to) (Decided ds root) a b in
    subst (λ t. SameTable t (base_of (r.logs k).ended (suc e))) (sym one.is_base)
    (subst (SameTable one.table) (sym other.is_base) (one-of-root r clean one.table other.table one.fine other.fine (one.is_root ∙ roots ∙ sym other.is_root)))
same-step r honest few forged clean j k is_j is_k e same (Skipped ss) (Decided ds root) a b =
    absurd (same-ending r honest few forged j k is_j is_k e (Skipped ss) (Decided ds root) a b)
same-step r honest few forged clean j k is_j is_k e same (Decided cs to) (Skipped ts) a b =
    absurd (same-ending r honest few forged j k is_j is_k e (Decided cs to) (Skipped ts) a b)

-- the bases of two honest logs are equal, up to the current epochs of both
pub same-bases : (r : Records) → AreHonest r → Few r → NoForgery r → NoCollision r → (j k : ℕ) → IsHonestLog r j → IsHonestLog r k → (e : ℕ)
    → e ≤ current (r.logs j).ended → e ≤ current (r.logs k).ended → SameTable (base_of (r.logs j).ended e) (base_of (r.logs k).ended e)
same-bases r honest few forged clean j k is_j is_k zero up_j up_k =
    subst (λ t. SameTable t (base_of (r.logs k).ended 0)) (sym (base-first (r.logs j).ended))
    (subst (SameTable no_table) (sym (base-first (r.logs k).ended)) (λ name. (refl, refl)))
same-bases r honest few forged clean j k is_j is_k (suc e) up_j up_k = by (cases_lt 0 e) (same-bases r honest few forged clean j k is_j is_k e (omega (arith, up_j)) (omega (arith, up_k)))
  where
    order_j : EndsInOrder (r.logs j).ended
    order_j = (honest.logs j is_j).ends_in_order

    order_k : EndsInOrder (r.logs k).ended
    order_k = (honest.logs k is_k).ends_in_order

    by : (0 < e) ⊎ (e ≤ 0) → SameTable (base_of (r.logs j).ended e) (base_of (r.logs k).ended e) → SameTable (base_of (r.logs j).ended (suc e)) (base_of (r.logs k).ended (suc e))
    by (inl more) same =
        let one = ending-some (r.logs j).ended order_j e (omega (arith, more)) (omega (arith, up_j)) in
        let other = ending-some (r.logs k).ended order_k e (omega (arith, more)) (omega (arith, up_k)) in
        same-step r honest few forged clean j k is_j is_k e same one.0 other.0 one.1 other.1
    by (inr none) same =
        let first_j = base-open (r.logs j).ended e (ending-none (r.logs j).ended order_j e (inl (omega (arith, none)))) in
        let first_k = base-open (r.logs k).ended e (ending-none (r.logs k).ended order_k e (inl (omega (arith, none)))) in
        subst (λ t. SameTable t (base_of (r.logs k).ended (suc e))) (sym first_j) (subst (SameTable (base_of (r.logs j).ended e)) (sym first_k) same)

-- ---- chains only grow

-- the table of an agreed epoch, as an honest log that went past it has it
pub agreed-decided : (r : Records) → AreHonest r → Few r → NoForgery r → NoCollision r → (e : ℕ) (one : Table) → Agreed r e one → (k : ℕ) → IsHonestLog r k → e ≤ length (r.logs k).ended
    → SameTable one (base_of (r.logs k).ended (suc e))
agreed-decided r honest few forged clean e one a k is up =
    let range = agreed-range r honest e one a in
    let some = ending-some (r.logs k).ended (honest.logs k is).ends_in_order e range.0 up in
    by some.0 some.1
  where
    by : (how : How) → ending (r.logs k).ended e ≡ Some how → SameTable one (base_of (r.logs k).ended (suc e))
    by (Skipped statuses) at = absurd (backed-not-skipped r honest few forged k is e (root_of one) statuses a.backed at)
    by (Decided changes to) at =
        let d = decided-by r honest k is e changes to at in
        let roots = one-root r honest few e (root_of one) to a.backed (decided-backed r honest forged k is e changes to at) in
        subst (SameTable one) (sym d.is_base) (one-of-root r clean one d.table (agreed-fine r honest e one a) d.fine (roots ∙ sym d.is_root))

certificates-begin : (one other : List Change) → BeginsWith other one → BeginsWith (certificates_of other) (certificates_of one)
certificates-begin one other b = (certificates_of b.0, ap certificates_of b.1 ∙ map-append (λ (c : Change). c.cert) one b.0)

pub agreed-stays : (r : Records) → AreHonest r → Few r → NoForgery r → NoCollision r → (e f : ℕ) (one other : Table) → Agreed r e one → Agreed r f other → e < f → (name : List ℕ)
    → BeginsWith (certificates other name) (certificates one name)
agreed-stays r honest few forged clean e f one other a b less name =
    let k : ℕ = b.log in
    let up = agreed-range r honest f other b in
    let same = agreed-decided r honest few forged clean e one a k b.honest (omega (arith, less, up.1)) in
    let n : ℕ = f - suc e in
    let at : suc e + n ≡ f = omega (arith, less) in
    let mid = base-extends r honest k b.honest (suc e) n name in
    let mid-f : BeginsWith (chain_of (base_of (r.logs k).ended f) name) (chain_of (base_of (r.logs k).ended (suc e)) name) =
    subst (λ m. BeginsWith (chain_of (base_of (r.logs k).ended m) name) (chain_of (base_of (r.logs k).ended (suc e)) name)) at mid in
    let last = (agreed-follows r honest f other b).begins name in
    let whole = begins_on (chain_of (base_of (r.logs k).ended (suc e)) name) (chain_of (base_of (r.logs k).ended f) name) (chain_of other name) last mid-f in
    subst (BeginsWith (certificates other name)) (sym (same name).0) (certificates-begin (chain_of (base_of (r.logs k).ended (suc e)) name) (chain_of other name) whole)
