-- What each check asks that holds.
use Rattle.std.proofs.Common.{◌≡◌, ◌≢◌, ℕ, ◌+◌, ◌<◌, ◌≤◌, List, [], ◌∷◌, length, refl, Bool, true, false, not, ◌||◌, eqb, nat_le, nat_lt, Option, Some, None}
use Rattle.std.specs.Prelude.{All, Ok, bytes_eq}
use Rattle.std.specs.List.{AllByRecursion, list_any}
use Rattle.std.proofs.lemmas.Bool.{eq-eqb, eqb-true, leb-true, ltb-true, not-true}
use Rattle.std.proofs.lemmas.Slice.Eq.{bytes_eq-Decides}
use Rattle.std.proofs.lemmas.List.Elements.{All-from_recursion, All-weaker}
use Rattle.ar_base.specs.Chaining.{need}
use Rattle.ar_cert.specs.Changes.{Change}
use Rattle.key_roll.specs.Book.{RollBook}
use Rattle.key_roll.specs.Rolls.{plain_count}
use Rattle.vote_quorum.specs.Statuses.{Excludes, Status}
use Rattle.domain_table.specs.Tree.{root_of}
use Rattle.ar_council.proofs.Lists.{find-nothing}
use Rattle.ar_council.specs.Council.{Council}
use Rattle.ar_council.specs.Room.{HasRoom, new_count}
use Rattle.epoch_log.proofs.Counted.{excludes-each}
use Rattle.epoch_log.specs.Ending.{excludes_all, own_vote}
use Rattle.epoch_log.specs.State.{LogState, epoch_of, table_of}
use Rattle.epoch_log.specs.declared.entries.Stated.{Stated}
use Rattle.epoch_log.specs.declared.entries.Voted.{Voted}
use Rattle.log_sending.specs.Checks.{enough, leaves_left, has_next, has_place, in_epoch, in_turn, no_vote, none_can_win, not_stated, not_voted, same_base, turn_of}
use Rattle.log_sending.specs.Reported.{most_reported}
use Rattle.log_sending.specs.declared.refusal.LogRefusal.{LogRefusal}
use Rattle.log_sending.specs.declared.refusal.LogRefusal.TheVariants as refusals

pub holds : (b : Bool) (refusal : LogRefusal) → need b refusal ≡ Ok tt → b ≡ true
holds true refusal is = refl
holds false refusal is = absurd cc

pub same-epoch : (s : LogState) (epoch : ℕ) → in_epoch s epoch ≡ Ok tt → epoch ≡ epoch_of s
same-epoch s epoch is = eqb-true epoch (epoch_of s) (holds (eqb epoch (epoch_of s)) (refusals.WrongEpoch (epoch_of s)) is)

pub its-turn : (council : Council) (epoch log : ℕ) → in_turn council epoch log ≡ Ok tt → log ≡ turn_of council epoch
its-turn council epoch log is =
    eqb-true log (turn_of council epoch) (holds (eqb log (turn_of council epoch)) (refusals.NotCoordinator (turn_of council epoch)) is)

no-own-vote : (own : Option Voted) → no_vote own ≡ Ok tt → own ≡ None
no-own-vote None is = refl
no-own-vote (Some v) is = absurd cc

pub none-voted : (s : LogState) → not_voted s ≡ Ok tt → All (λ v. v.epoch ≢ epoch_of s) s.past.voted
none-voted s is =
    All-weaker (λ (v : Voted). eqb v.epoch (epoch_of s) ≡ false) (λ (v : Voted). v.epoch ≢ epoch_of s)
    (λ (v : Voted) no same. let yes : eqb v.epoch (epoch_of s) ≡ true = eq-eqb v.epoch (epoch_of s) same in absurd cc) s.past.voted
    (find-nothing (λ (v : Voted). eqb v.epoch (epoch_of s)) s.past.voted (no-own-vote (own_vote s.past.voted (epoch_of s)) is))

none-passes : {X : Type 0} (p : X → Bool) (xs : List X) → list_any p xs ≡ false → AllByRecursion (λ x. p x ≡ false) xs
none-passes p [] is = tt
none-passes p (x ∷ xs) is = by (p x) refl is (none-passes p xs)
  where
    by : (b : Bool) → p x ≡ b → (b || list_any p xs) ≡ false → (list_any p xs ≡ false → AllByRecursion (λ x. p x ≡ false) xs)
        → (p x ≡ false) × AllByRecursion (λ x. p x ≡ false) xs
    by true was none rest = absurd cc
    by false was none rest = (was, rest none)

pub none-stated : (s : LogState) → not_stated s ≡ Ok tt → All (λ t. t.epoch ≢ epoch_of s) s.past.stated
none-stated s is =
    let none = not-true (list_any (λ t. eqb t.epoch (epoch_of s)) s.past.stated)
    (holds (not (list_any (λ t. eqb t.epoch (epoch_of s)) s.past.stated)) refusals.AlreadyStated is) in
    All-weaker (λ (t : Stated). eqb t.epoch (epoch_of s) ≡ false) (λ (t : Stated). t.epoch ≢ epoch_of s)
    (λ (t : Stated) no same. let yes : eqb t.epoch (epoch_of s) ≡ true = eq-eqb t.epoch (epoch_of s) same in absurd cc) s.past.stated
    (All-from_recursion (λ (t : Stated). eqb t.epoch (epoch_of s) ≡ false) s.past.stated (none-passes (λ (t : Stated). eqb t.epoch (epoch_of s)) s.past.stated none))

pub its-base : (s : LogState) (base : List ℕ) → same_base s base ≡ Ok tt → base ≡ root_of (table_of s)
its-base s base is =
    (bytes_eq-Decides base (root_of (table_of s))).0 (holds (bytes_eq base (root_of (table_of s))) (refusals.WrongBase (root_of (table_of s))) is)

pub a-quorum : (council : Council) (count : ℕ) → enough council count ≡ Ok tt → council.quorum ≤ count
a-quorum council count is = leb-true council.quorum count (holds (nat_le council.quorum count) (refusals.FewVotes count) is)

pub a-place : (queue : List Change) → has_place queue ≡ Ok tt → length queue < 256
a-place queue is = ltb-true (length queue) 256 (holds (nat_lt (length queue) 256) refusals.QueueFull is)

pub none-wins : (council : Council) (statuses : List Status) → none_can_win council statuses ≡ Ok tt → Excludes council.logs council.quorum statuses
none-wins council statuses is =
    excludes-each council statuses
    (holds (excludes_all council statuses) (refusals.CouldBeDecided (most_reported statuses).0 (most_reported statuses).1) is)

pub room : (book : RollBook) (texts : List (List ℕ)) → leaves_left book texts ≡ Ok tt → HasRoom book texts
room book texts is =
    leb-true (plain_count book.newest book.list + new_count book texts + 1) book.leaves
    (holds (nat_le (plain_count book.newest book.list + new_count book texts + 1) book.leaves) refusals.Spent is)

pub not-last : (book : RollBook) → has_next book ≡ Ok tt → book.newest ≢ 999
not-last book is same =
    let no = not-true (eqb book.newest 999) (holds (not (eqb book.newest 999)) refusals.LastGeneration is) in
    let yes : eqb book.newest 999 ≡ true = eq-eqb book.newest 999 same in absurd cc
