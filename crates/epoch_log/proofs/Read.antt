-- What the clauses mean: an honest log's votes and statuses are single, its signatures are exactly its entries, and its
-- statuses exclude each root by a test.
use Rattle.std.proofs.Common.{◌≡◌, ◌≢◌, ℕ, suc, ◌+◌, ◌-◌, ◌<◌, ◌↔◌, ◌⊎◌, inl, inr, List, [], ◌∷◌, length, get_or, refl, sym, ap, ◌∙◌, subst, arith, Bool, true, false, cond, ◌==◌, Option, Some, None}
use Rattle.std.specs.Prelude.{AllPairs, Contains, unwrap_or}
use Rattle.std.specs.List.{list_all, list_any}
use Rattle.std.specs.Cmp.Derive.{both_true}
use Rattle.std.proofs.lemmas.Bool.{cases_lt, leb-false, lt-ltb}
use Rattle.std.proofs.lemmas.List.{length-append, get_or_default}
use Rattle.std.proofs.lemmas.List.Elements.{All-contains}
use Rattle.ar_cert.specs.Changes.{Change}
use Rattle.ar_statement.specs.Claims.{Claim, text_of}
use Rattle.ar_statement.specs.Ranges.{IsTextOf, IsValid}
use Rattle.ar_statement.proofs.OneText.{text_is}
use Rattle.key_roll.specs.Book.{texts_of}
use Rattle.domain_table.specs.Applying.{apply}
use Rattle.domain_table.specs.Tables.{Table}
use Rattle.vote_quorum.specs.Ballots.{has_ballot, log_count}
use Rattle.vote_quorum.specs.Statuses.{Excludes, Status, report_count}
use Rattle.vote_quorum.specs.declared.value.Value.{Value}
use Rattle.ar_council.specs.Council.{Council}
use Rattle.ar_council.specs.Values.{confirm_claim, status_claim, vote_claim}
use Rattle.epoch_log.specs.Ending.{closed, closed_by, closed_by_statuses, decided, excludes_all, falls_short, has_quorum, is_excluded, may_end, own_vote, skipped, votes_for}
use Rattle.epoch_log.specs.State.{CountedStatus, CountedVote, LogState, ballots_of, epoch_of, reports_of, table_of}
use Rattle.epoch_log.specs.Calls.{with_status, with_vote}
use Rattle.ar_base.proofs.Adding.{placed-exactly}
use Rattle.epoch_log.specs.declared.entries.Closing.{Closing}
use Rattle.epoch_log.specs.declared.entries.Closing.TheVariants as closings
use Rattle.epoch_log.specs.Honest.{EndsInOrder, IsOfHonestLog}
use Rattle.epoch_log.specs.Record.{LogRecord, after_ending, base_of, current}
use Rattle.epoch_log.specs.Right.{FitsVotes}
use Rattle.epoch_log.specs.Told.{HasConfirmed, HasStated, HasVoted, ToldByLog, value_of}
use Rattle.epoch_log.specs.declared.entries.Confirmed.{Confirmed}
use Rattle.epoch_log.specs.declared.entries.Ended.{Ended}
use Rattle.epoch_log.specs.declared.entries.How.{How}
use Rattle.epoch_log.specs.declared.entries.How.TheVariants.{Decided, Skipped}
use Rattle.epoch_log.specs.declared.entries.Stated.{Stated}
use Rattle.epoch_log.specs.declared.entries.Voted.{Voted}
use Rattle.epoch_log.proofs.Endings.{base-stays, ending-here, with}

-- ---- one entry of each epoch

-- of a list without two elements that have the same
pub one-of : {X : Type 0} (f : X → ℕ) (xs : List X) (x y : X) → AllPairs (λ a b. f a ≢ f b) xs → Contains xs x → Contains xs y → f x ≡ f y → x ≡ y
one-of {X} f xs x y apart a b same =
    let at-a : get_or xs a.0 x ≡ x = a.2 in
    let at-b : get_or xs b.0 x ≡ y = outside b.0 b.1 ∙ b.2 in
    elim (cases_lt a.0 b.0) [
      | inl before ↦ absurd (apart a.0 b.0 x before b.1 (ap f at-a ∙ same ∙ ap f (sym at-b)))
      | inr behind ↦ elim (cases_lt b.0 a.0) [
        | inl before ↦ absurd (apart b.0 a.0 x before a.1 (ap f at-b ∙ sym same ∙ ap f (sym at-a)))
        | inr here ↦
            let place : a.0 ≡ b.0 = omega (arith, behind, here) in
            sym at-a ∙ ap (λ k. get_or xs k x) place ∙ at-b
      ]
    ]
  where
    outside : (k : ℕ) → k < length xs → get_or xs k x ≡ get_or xs k y
    outside k within = get_or_default xs k x y within

-- ---- what is signed

pub signed-told : (council : Council) (me : ℕ) (r : LogRecord) (claim : Claim) → IsOfHonestLog council me r → IsValid claim → Contains (texts_of r.signed) (text_of claim) → ToldByLog me r.voted r.stated r.confirmed claim
signed-told council me r claim h valid there =
    text_is (ToldByLog me r.voted r.stated r.confirmed) claim valid.held
    (All-contains (IsTextOf (ToldByLog me r.voted r.stated r.confirmed)) (texts_of r.signed) (text_of claim) h.signs_what_it_tells.told there)

told-vote : (me : ℕ) (r : LogRecord) (epoch : ℕ) (value : Value) → ToldByLog me r.voted r.stated r.confirmed (vote_claim me epoch value) → HasVoted r.voted epoch value
unfolding ToldByLog
told-vote me r epoch value t = t.1

told-status : (me : ℕ) (r : LogRecord) (epoch : ℕ) (value : Option Value) → ToldByLog me r.voted r.stated r.confirmed (status_claim me epoch value) → HasStated r.stated epoch value
unfolding ToldByLog
told-status me r epoch None t = t.1
told-status me r epoch (Some value) t = t.1

told-confirm : (me : ℕ) (r : LogRecord) (epoch : ℕ) (name : List ℕ) (certificate : Option (List ℕ)) (root : List ℕ) → ToldByLog me r.voted r.stated r.confirmed (confirm_claim me epoch name certificate root)
    → HasConfirmed r.confirmed epoch name certificate root
unfolding ToldByLog
told-confirm me r epoch name None root t = t.1
told-confirm me r epoch name (Some certificate) root t = t.1

pub votes-signed : (council : Council) (me : ℕ) (r : LogRecord) (epoch : ℕ) (value : Value) → IsOfHonestLog council me r → IsValid (vote_claim me epoch value)
    → Contains (texts_of r.signed) (text_of (vote_claim me epoch value)) ↔ HasVoted r.voted epoch value
votes-signed council me r epoch value h valid = (
  λ there. told-vote me r epoch value (signed-told council me r (vote_claim me epoch value) h valid there),
  λ has.
      let there = All-contains (λ v. Contains (texts_of r.signed) (text_of (vote_claim me v.epoch (value_of v)))) r.voted has.0 h.signs_what_it_tells.votes has.1.0 in
      subst (λ w. Contains (texts_of r.signed) (text_of (vote_claim me epoch w))) has.1.2
      (subst (λ e. Contains (texts_of r.signed) (text_of (vote_claim me e (value_of has.0)))) has.1.1 there),
)

pub statuses-signed : (council : Council) (me : ℕ) (r : LogRecord) (epoch : ℕ) (value : Option Value) → IsOfHonestLog council me r → IsValid (status_claim me epoch value)
    → Contains (texts_of r.signed) (text_of (status_claim me epoch value)) ↔ HasStated r.stated epoch value
statuses-signed council me r epoch value h valid = (
  λ there. told-status me r epoch value (signed-told council me r (status_claim me epoch value) h valid there),
  λ has. All-contains (λ (s : Stated). Contains (texts_of r.signed) (text_of (status_claim me s.epoch s.value))) r.stated (record { epoch = epoch; value = value }) h.signs_what_it_tells.statuses has,
)

pub confirmations-signed : (council : Council) (me : ℕ) (r : LogRecord) (epoch : ℕ) (name : List ℕ) (certificate : Option (List ℕ)) (root : List ℕ) → IsOfHonestLog council me r
    → IsValid (confirm_claim me epoch name certificate root)
    → Contains (texts_of r.signed) (text_of (confirm_claim me epoch name certificate root)) ↔ HasConfirmed r.confirmed epoch name certificate root
confirmations-signed council me r epoch name certificate root h valid = (
  λ there. told-confirm me r epoch name certificate root (signed-told council me r (confirm_claim me epoch name certificate root) h valid there),
  λ has. All-contains (λ (c : Confirmed). Contains (texts_of r.signed) (text_of (confirm_claim me c.epoch c.name c.certificate c.root))) r.confirmed
      (record { epoch = epoch; name = name; certificate = certificate; root = root }) h.signs_what_it_tells.confirmations has,
)

-- ---- votes and statuses

pub one-vote : (council : Council) (me : ℕ) (r : LogRecord) (epoch : ℕ) (value other : Value) → IsOfHonestLog council me r → HasVoted r.voted epoch value → HasVoted r.voted epoch other → value ≡ other
one-vote council me r epoch value other h a b =
    let same : a.0 ≡ b.0 = one-of (λ (v : Voted). v.epoch) r.voted a.0 b.0 h.votes_once.once a.1.0 b.1.0 (a.1.1 ∙ sym b.1.1) in
    sym a.1.2 ∙ ap value_of same ∙ b.1.2

pub status-tells : (council : Council) (me : ℕ) (r : LogRecord) (epoch : ℕ) (value : Option Value) → IsOfHonestLog council me r → HasStated r.stated epoch value → FitsVotes r.voted epoch value
status-tells council me r epoch value h has =
    All-contains (λ (s : Stated). FitsVotes r.voted s.epoch s.value) r.stated (record { epoch = epoch; value = value }) h.states_its_vote.fits has

-- what a log states of an epoch in which it voted is what it voted for
pub status-is-vote : (council : Council) (me : ℕ) (r : LogRecord) (epoch : ℕ) (value : Option Value) (cast : Value) → IsOfHonestLog council me r → HasStated r.stated epoch value → HasVoted r.voted epoch cast → value ≡ Some cast
status-is-vote council me r epoch None cast h has voted =
    absurd (All-contains (λ (v : Voted). v.epoch ≢ epoch) r.voted voted.0 (status-tells council me r epoch None h has) voted.1.0 voted.1.1)
status-is-vote council me r epoch (Some value) cast h has voted =
    let fits = status-tells council me r epoch (Some value) h has in
    let base : fits.0.base ≡ value.base = fits.1.2 in
    let root : fits.0.root ≡ value.root = fits.1.3 in
    let is : value_of fits.0 ≡ value = λ i. record { base = base i; root = root i } in
    ap (λ v. Some v) (one-vote council me r epoch value cast h (fits.0, (fits.1.0, fits.1.1, is)) voted)

-- ---- a test of all roots

falls : (council : Council) (statuses : List Status) (count : ℕ) → count + (council.logs - length statuses) + 2 < council.quorum → falls_short council statuses count ≡ true
falls council statuses count less = lt-ltb (count + (council.logs - length statuses) + 2) council.quorum less

all-excluded : (council : Council) (statuses front : List Status) → Excludes council.logs council.quorum statuses → falls_short council statuses 0 ≡ true → list_all (λ s. is_excluded council statuses s.1) front ≡ true
all-excluded council statuses [] excludes none = refl
all-excluded council statuses (s ∷ front) excludes none =
    both_true (by s.1) (all-excluded council statuses front excludes none)
  where
    by : (ballot : Option Value) → is_excluded council statuses ballot ≡ true
    by None = none
    by (Some value) = falls council statuses (report_count value.root statuses) (excludes value.root)

pub excludes-tested : (council : Council) (statuses : List Status) → Excludes council.logs council.quorum statuses → excludes_all council statuses ≡ true
excludes-tested council statuses excludes =
    let none : falls_short council statuses 0 ≡ true = falls council statuses 0 (omega (arith, excludes [])) in
    both_true none (all-excluded council statuses statuses excludes none)

-- ---- what is seen

-- ---- what an ending makes of the table

table-after : (ended : List Ended) (how : How) → EndsInOrder ended → base_of (with ended (current ended) how) (current (with ended (current ended) how)) ≡ after_ending (current ended) (Some how) (base_of ended (current ended))
unfolding base_of
table-after ended how order =
    let e : ℕ = current ended in
    let later : List Ended = with ended e how in
    let next : current later ≡ suc e = omega (arith, length-append ended (record { epoch = e; how = how } ∷ [])) in
    ap (base_of later) next
    ∙ ap (λ o. after_ending e o (base_of later e)) (ending-here ended how order)
    ∙ ap (after_ending e (Some how)) (base-stays ended e how e (omega arith))

pub table-decided : (s : LogState) (changes : List Change) (value : Value) (votes : List (ℕ × Option (List ℕ))) (table : Table) → EndsInOrder s.past.ended → apply (table_of s) (epoch_of s) changes ≡ Some table
    → table_of (decided s changes value votes) ≡ table
table-decided s changes value votes table order is =
    table-after s.past.ended (Decided changes value.root) order ∙ ap (λ o. unwrap_or o (table_of s)) is

pub table-skipped : (s : LogState) (statuses : List Status) → EndsInOrder s.past.ended → table_of (skipped s statuses) ≡ table_of s
table-skipped s statuses order = table-after s.past.ended (Skipped statuses) order

-- ---- the closing rule

open-statuses : (s : LogState) → (closed_by_statuses s).1 ≡ closings.Open → excludes_all s.council (reports_of s.statuses) ≡ false
open-statuses s is = by (excludes_all s.council (reports_of s.statuses)) refl
  where
    by : (b : Bool) → excludes_all s.council (reports_of s.statuses) ≡ b → b ≡ false
    by true e =
        let skips : closed_by_statuses s ≡ (skipped s (reports_of s.statuses), closings.Skipped s.statuses) =
        ap (λ b. cond {A = LogState × Closing} b (skipped s (reports_of s.statuses), closings.Skipped s.statuses) (s, closings.Open)) e in
        let both : closings.Skipped s.statuses ≡ closings.Open = sym (ap (λ (r : LogState × Closing). r.1) skips) ∙ is in
        absurd cc
    by false e = refl

closed-is : (s : LogState) → may_end s.past ≡ true → closed s ≡ closed_by s (own_vote s.past.voted (epoch_of s))
unfolding closed
closed-is s may = ap (λ b. cond {A = LogState × Closing} b (closed_by s (own_vote s.past.voted (epoch_of s))) (s, closings.Open)) may

few : (s : LogState) (v : Voted) → (closed_by s (Some v)).1 ≡ closings.Open → (has_quorum s v ≡ false) × ((closed_by_statuses s).1 ≡ closings.Open)
few s v is = by (has_quorum s v) refl
  where
    end : LogState × Closing
    end = (decided s v.changes (value_of v) (votes_for s.votes (value_of v)), closings.Decided)

    by : (b : Bool) → has_quorum s v ≡ b → (b ≡ false) × ((closed_by_statuses s).1 ≡ closings.Open)
    by true e =
        let decides : closed_by s (Some v) ≡ end = ap (λ b. cond {A = LogState × Closing} b end (closed_by_statuses s)) e in
        let both : closings.Decided ≡ closings.Open = sym (ap (λ (r : LogState × Closing). r.1) decides) ∙ is in
        absurd cc
    by false e =
        let goes : closed_by s (Some v) ≡ closed_by_statuses s = ap (λ b. cond {A = LogState × Closing} b end (closed_by_statuses s)) e in
        (refl, sym (ap (λ (r : LogState × Closing). r.1) goes) ∙ is)

by-open : (s : LogState) (own : Option Voted) → (closed_by s own).1 ≡ closings.Open → (closed_by_statuses s).1 ≡ closings.Open
by-open s None is = is
by-open s (Some v) is = (few s v is).1

-- where an epoch that may end goes on, the counted statuses leave a root
pub open-excludes : (s : LogState) → may_end s.past ≡ true → (closed s).1 ≡ closings.Open → Excludes s.council.logs s.council.quorum (reports_of s.statuses) → ⊥
open-excludes s may is excludes =
    let by-own = sym (ap (λ (r : LogState × Closing). r.1) (closed-is s may)) ∙ is in
    let left = open-statuses s (by-open s (own_vote s.past.voted (epoch_of s)) by-own) in
    let tested = excludes-tested s.council (reports_of s.statuses) excludes in
    absurd cc

-- and there is no quorum for the own vote
pub open-quorum : (s : LogState) (v : Voted) → may_end s.past ≡ true → (closed s).1 ≡ closings.Open → own_vote s.past.voted (epoch_of s) ≡ Some v → log_count (ballots_of s.votes) (value_of v) < s.council.quorum
open-quorum s v may is own =
    let by-own : (closed_by s (own_vote s.past.voted (epoch_of s))).1 ≡ closings.Open = sym (ap (λ (r : LogState × Closing). r.1) (closed-is s may)) ∙ is in
    let f = few s v (subst (λ o. (closed_by s o).1 ≡ closings.Open) own by-own) in
    leb-false s.council.quorum (log_count (ballots_of s.votes) (value_of v)) f.0

-- ---- what is counted

-- the counted ballots, where the ballot is not among them
pub votes-exactly : (votes : List CountedVote) (v x : CountedVote) → has_ballot (ballots_of votes) (v.0, v.1) ≡ false → Contains (with_vote votes v) x ↔ (Contains votes x ⊎ (v ≡ x))
votes-exactly votes v x none = rw none (placed-exactly (λ (w : CountedVote). w.0) v votes x)

pub votes-again : (votes : List CountedVote) (v : CountedVote) → has_ballot (ballots_of votes) (v.0, v.1) ≡ true → with_vote votes v ≡ votes
votes-again votes v there = rw there refl

pub statuses-exactly : (statuses : List CountedStatus) (s x : CountedStatus) → list_any (λ (t : CountedStatus). t.0 == s.0) statuses ≡ false → Contains (with_status statuses s) x ↔ (Contains statuses x ⊎ (s ≡ x))
statuses-exactly statuses s x none = rw none (placed-exactly (λ (t : CountedStatus). t.0) s statuses x)
