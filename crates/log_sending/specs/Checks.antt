-- The checks of rows: an ordered list, whose first error is the answer.
use Rattle.std.specs.Prelude.{ℕ, ◌%◌, ◌==◌, nat_le, nat_lt, not, List, length, Option, Some, None, Result, Ok, Err}
use Rattle.std.specs.List.{list_any}
use Rattle.std.specs.Result.{result_map_both}
use Rattle.std.specs.Str.{bytes_eq}
use Rattle.ar_base.specs.Chaining.{need}
use Rattle.ar_cert.specs.Changes.{Change}
use Rattle.key_roll.specs.Book.{RollBook, last_generation}
use Rattle.ar_statement.specs.declared.fault.BookFault.{BookFault}
use Rattle.ar_statement.specs.declared.fault.BookFault.TheVariants as book_fault
use Rattle.vote_quorum.specs.Statuses.{Status}
use Rattle.domain_table.specs.Tree.{root_of}
use Rattle.ar_council.specs.Council.{Council}
use Rattle.ar_council.specs.Room.{has_leaves}
use Rattle.epoch_log.specs.Ending.{excludes_all, own_vote}
use Rattle.epoch_log.specs.State.{LogState, epoch_of, table_of}
use Rattle.epoch_log.specs.declared.entries.Newest.{Newest}
use Rattle.epoch_log.specs.declared.entries.Voted.{Voted}
use Rattle.log_sending.specs.Judged.{TableJudgement, bad_change}
use Rattle.log_sending.specs.Reported.{most_reported}
use Rattle.log_sending.specs.declared.refusal.LogRefusal.{LogRefusal}
use Rattle.log_sending.specs.declared.refusal.LogRefusal.TheVariants as refusals

-- a check holds, or refuses
abbrev pub Check : Type 0
Check = Result (Unit {0}) LogRefusal

-- ---- L5: the epoch

-- the epoch is the log's own
abbrev pub in_epoch : LogState → ℕ → Check
in_epoch s epoch = need (epoch == epoch_of s) (refusals.WrongEpoch (epoch_of s))

-- there is a newest decision
abbrev pub has_decision : LogState → Option Newest → Check
has_decision s (Some w) = Ok tt
has_decision s None = Err (refusals.WrongEpoch (epoch_of s))

-- ---- L6: turns

-- the log whose turn it is in an epoch
abbrev pub turn_of : Council → ℕ → ℕ
turn_of council epoch = epoch % council.logs

-- it is this log's turn in this epoch
abbrev pub in_turn : Council → ℕ → ℕ → Check
in_turn council epoch log = need (log == turn_of council epoch) (refusals.NotCoordinator (turn_of council epoch))

-- ---- L7, L8: what the log did in the epoch

-- the log has not voted, as far as its vote is known
abbrev pub no_vote : Option Voted → Check
no_vote None = Ok tt
no_vote (Some v) = Err (refusals.AlreadyVoted v.root)

-- the log has not voted in the epoch
abbrev pub not_voted : LogState → Check
not_voted s = no_vote (own_vote s.past.voted (epoch_of s))

-- the log has stated nothing in the epoch
abbrev pub not_stated : LogState → Check
not_stated s = need (not (list_any (λ t. t.epoch == epoch_of s) s.past.stated)) refusals.AlreadyStated

-- ---- L9 to L11: what is proposed or decided

-- the base is the root of the log's table, as it is before it ripens
abbrev pub same_base : LogState → List ℕ → Check
same_base s base = need (bytes_eq base (root_of (table_of s))) (refusals.WrongBase (root_of (table_of s)))

-- no change is refused
abbrev pub all_taken : TableJudgement → Check
all_taken = result_map_both (λ table. tt) bad_change

-- the table after the changes has the root
abbrev pub same_root : TableJudgement → List ℕ → Check
same_root (Ok table) root = need (bytes_eq root (root_of table)) (refusals.WrongRoot (root_of table))
same_root (Err _) root = Ok tt

-- ---- L12, L13, L15: how many

-- so many votes are a quorum
abbrev pub enough : Council → ℕ → Check
enough council count = need (nat_le council.quorum count) (refusals.FewVotes count)

-- the most changes that are queued
abbrev pub most_queued : ℕ
most_queued = 256

-- the queue has a place left
abbrev pub has_place : List Change → Check
has_place queue = need (nat_lt (length queue) most_queued) refusals.QueueFull

-- by the statuses no root can have a quorum
abbrev pub none_can_win : Council → List Status → Check
none_can_win council statuses =
    need (excludes_all council statuses) (refusals.CouldBeDecided (most_reported statuses).0 (most_reported statuses).1)

-- ---- L14, L17: leaves and keys

-- the newest key has a leaf, beside its last, for each of these texts that none serves yet
abbrev pub leaves_left : RollBook → List (List ℕ) → Check
leaves_left book texts = need (has_leaves book texts) refusals.Spent

-- there is a next generation
abbrev pub has_next : RollBook → Check
has_next book = need (not (book.newest == last_generation)) refusals.LastGeneration

-- the refusal of a statement that is not entered
abbrev pub book_refusal : BookFault → LogRefusal
book_refusal book_fault.Spent = refusals.Spent
book_refusal book_fault.Memory = refusals.Memory
