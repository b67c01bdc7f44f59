-- A vote for another log's proposal is its row.
use Rattle.std.proofs.Common.{◌≡◌, None, refl, sym, ap, ◌∙◌, subst, ◌⊎◌, inl, inr}
use Rattle.std.specs.Result.{result_and}
use Rattle.std.specs.Prelude.{All, IsOk, Result, Ok, Err, OnOk, OnErr}
use Rattle.std.specs.List.{AllByRecursion}
use Rattle.ar_cert.specs.Changes.{IsChange}
use Rattle.ar_statement.specs.Ranges.{IsValue}
use Rattle.ar_message.specs.Lists.{AreChanges}
use Rattle.ar_message.specs.declared.address.Address.TheVariants.{One}
use Rattle.ar_message.specs.declared.message.Message.TheVariants.{Ballot}
use Rattle.ar_message.specs.declared.unsigned.Unsigned.{Unsigned}
use Rattle.ar_message.specs.Filling.{zeros}
use Rattle.key_roll.specs.Book.{RollBook}
use Rattle.key_roll.specs.Due.{DueParts}
use Rattle.ar_statement.specs.declared.fault.BookFault.{BookFault}
use Rattle.ar_statement.specs.declared.fault.BookFault.TheVariants as book_fault
use Rattle.ar_statement.specs.Claims.{log_party}
use Rattle.epoch_log.proofs.Leaves.{enters}
use Rattle.epoch_log.proofs.Texts.{plain-vote}
use Rattle.epoch_log.specs.Answers.{voted}
use Rattle.epoch_log.specs.Calls.{IsProposed, after_vote, own_vote_text, IsOpenTo}
use Rattle.epoch_log.specs.Log.{LogParts, moved}
use Rattle.epoch_log.specs.State.{epoch_of}
use Rattle.log_core.specs.Steps.{IsStep}
use Rattle.log_sending.specs.Checks.{book_refusal, turn_of}
use Rattle.ar_base.specs.FirstFailing.{first_error}
use Rattle.log_core.specs.Kept.{IsKeptCore}
use Rattle.log_core.specs.Proposed.{Proposal, ballot_draft, proposed_checks, proposed_judged, proposed_reply, proposed_row}
use Rattle.log_sending.specs.Sending.{Composed, none_composed, sealed, with_draft}
use Rattle.log_core.specs.State.{CoreState}
use Rattle.log_sending.specs.declared.refusal.LogRefusal.{LogRefusal}
use Rattle.log_sending.specs.declared.refusal.LogRefusal.TheVariants as refusals
use Rattle.log_sending.proofs.Checked.{holds}
use Rattle.ar_base.proofs.Failing.{all-good}
use Rattle.log_core.proofs.KeptRows.{kept-proposed, proposed-is, proposed-may}
use Rattle.log_sending.proofs.Sealing.{sealed-one}
use Rattle.log_core.proofs.Stepping.{core-with, log-in}
use Rattle.log_core.proofs.Submitted.{given-holds, given-refused}
use Rattle.log_core.proofs.Replies.{made}

-- ---- what is judged

judged-holds : (s : CoreState) (p : Proposal) (composed : Composed) → proposed_judged s p ≡ Ok composed
    → (first_error (proposed_checks s p) ≡ Ok tt) × (with_draft none_composed (ballot_draft s p.value) ≡ composed)
unfolding proposed_judged
judged-holds s p composed is = given-holds (first_error (proposed_checks s p)) (with_draft none_composed (ballot_draft s p.value)) composed is

each-holds : (s : CoreState) (p : Proposal) (composed : Composed) → proposed_judged s p ≡ Ok composed → AllByRecursion (λ c. c ≡ Ok tt) (proposed_checks s p)
each-holds s p composed is = all-good (proposed_checks s p) (judged-holds s p composed is).0

judged-row : (s : CoreState) (p : Proposal) (composed : Composed) → proposed_judged s p ≡ Ok composed → proposed_row s p ≡ Ok (proposed_reply s p)
unfolding proposed_row
judged-row s p composed is = ap (λ c. result_and c (Ok (proposed_reply s p))) (judged-holds s p composed is).0

judged-refused : (s : CoreState) (p : Proposal) (refusal : LogRefusal) → proposed_judged s p ≡ Err refusal → proposed_row s p ≡ Err refusal
unfolding proposed_row proposed_judged
judged-refused s p refusal is =
    given-refused (first_error (proposed_checks s p)) (with_draft none_composed (ballot_draft s p.value)) (proposed_reply s p) refusal is

pub vote-refused : (s : CoreState) (p : Proposal) (refusal : LogRefusal) → (refusal ≡ refusals.Memory) ⊎ (proposed_judged s p ≡ Err refusal)
    → IsStep (Err refusal) s s (proposed_row s p)
vote-refused s p refusal (inl wants) = (refl, inl wants)
vote-refused s p refusal (inr is) = (refl, inr (judged-refused s p refusal is))

-- ---- what the log needs for the vote

pub may-vote : (s : CoreState) (p : Proposal) (composed : Composed) → IsValue p.value → All IsChange p.changes → proposed_judged s p ≡ Ok composed
    → IsOpenTo s.log p.value p.changes
may-vote s p composed digests are is =
    (proposed-may s p digests are (each-holds s p composed is)).open_to

pub may-propose : (s : CoreState) (p : Proposal) (composed : Composed) → IsKeptCore s → proposed_judged s p ≡ Ok composed → IsProposed s.log p.log p.changes
may-propose s p composed kept is = proposed-is s p kept (each-holds s p composed is)

-- there is a leaf for the vote
has-leaf : (s : CoreState) (p : Proposal) (composed : Composed) → IsKeptCore s → proposed_judged s p ≡ Ok composed → IsOk (voted s.log p.value)
has-leaf s p composed kept is =
    enters s.log.past.signed (own_vote_text s.log p.value) kept.log.honest.signs_what_it_tells.sound (plain-vote s.log.me (epoch_of s.log) p.value)
    (holds _ refusals.Spent (each-holds s p composed is).1.1.1.1.1.1.1.1.0)

-- ---- the step

-- what the log is behind the vote
abbrev log-voted : CoreState → Proposal → LogParts
log-voted s p = moved (log-in s) (after_vote s.log p.log p.value p.changes)

pub vote-keeps : (s : CoreState) (p : Proposal) (composed : Composed) (r : Result DueParts BookFault) (new : LogParts) → IsKeptCore s → IsValue p.value → AreChanges p.changes
    → proposed_judged s p ≡ Ok composed → OnOk r (new ≡ log-voted s p) → OnErr r (new ≡ log-in s) → IsKeptCore (core-with s new)
vote-keeps s p composed (Ok due) new kept digests are is ok err =
    subst (λ (n : LogParts). IsKeptCore (core-with s n)) (sym ok) (kept-proposed s p (proposed_reply s p) kept digests are (judged-row s p composed is))
vote-keeps s p composed (Err fault) new kept digests are is ok err = subst (λ (n : LogParts). IsKeptCore (core-with s n)) (sym err) kept

pub vote-sends : (s : CoreState) (p : Proposal) (composed : Composed) (new : LogParts) (unsigned : Unsigned) → proposed_judged s p ≡ Ok composed → new ≡ log-voted s p
    → unsigned ≡ sealed new.state.past.signed composed None → proposed_row s p ≡ Ok (record { unsigned = unsigned; after = core-with s new })
vote-sends s p composed new unsigned is news sends =
    judged-row s p composed is ∙ sym (ap (λ (u : Unsigned). made u (core-with s new)) all ∙ ap (λ (n : LogParts). made (proposed_reply s p).unsigned (core-with s n)) news)
  where
    book : RollBook
    book = (after_vote s.log p.log p.value p.changes).past.signed

    one : sealed book (with_draft none_composed (ballot_draft s p.value)) None ≡ (proposed_reply s p).unsigned
    one = sealed-one book (One (log_party (turn_of s.log.council (epoch_of s.log)))) (Ballot s.log.me (epoch_of s.log) p.value.base p.value.root (zeros s.signature_len)) _ None

    all : unsigned ≡ (proposed_reply s p).unsigned
    all =
        sends ∙ ap (λ (n : LogParts). sealed n.state.past.signed composed None) news
        ∙ ap (λ (c : Composed). sealed book c None) (sym (judged-holds s p composed is).1) ∙ one

pub vote-wants : (s : CoreState) (p : Proposal) (composed : Composed) (fault : BookFault) (new : LogParts) → IsKeptCore s → proposed_judged s p ≡ Ok composed
    → ((fault ≡ book_fault.Memory) × IsOk (voted s.log p.value)) ⊎ (voted s.log p.value ≡ Err fault) → new ≡ log-in s
    → IsStep (Err (book_refusal fault)) s (core-with s new) (proposed_row s p)
vote-wants s p composed fault new kept is (inl wants) err = (ap (λ (n : LogParts). core-with s n) err, inl (ap book_refusal wants.0))
vote-wants s p composed fault new kept is (inr spent) err =
    let some : IsOk (voted s.log p.value) = has-leaf s p composed kept is in
    let none : IsOk {T = DueParts} {E = BookFault} (Err fault) = subst (λ (r : Result DueParts BookFault). IsOk r) spent some in
    absurd cc
