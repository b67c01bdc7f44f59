-- That the check failed is said by no row but that of a request to endorse.
use Rattle.std.proofs.Common.{◌≡◌, ℕ, ◌==◌, not, nat_le, inl, inr, List, [], ◌∷◌, Bool, true, false, Result, Ok, Err}
use Rattle.std.specs.Result.{result_and}
use Rattle.ar_base.specs.FirstFailing.{first_failing}
use Rattle.ar_base.specs.Gives.{with_error}
use Rattle.ar_message.specs.declared.fault.MessageFault.{MessageFault}
use Rattle.ar_message.specs.declared.fault.MessageFault.TheVariants as message
use Rattle.ar_message.specs.declared.message.Confirming.{Confirming}
use Rattle.ar_message.specs.declared.message.Message.{Message}
use Rattle.ar_message.specs.declared.unsigned.Unsigned.{Unsigned}
use Rattle.ar_statement.specs.declared.party.Party.{Party}
use Rattle.key_roll.specs.Due.{DueParts}
use Rattle.ar_statement.specs.declared.fault.BookFault.{BookFault}
use Rattle.ar_statement.specs.declared.fault.BookFault.TheVariants as book
use Rattle.owner_check.specs.declared.answer.Outcome.{Outcome}
use Rattle.party_keys.specs.Learning.{Announced, learned}
use Rattle.party_keys.specs.Signers.{Claimed, signers_answer}
use Rattle.party_keys.specs.declared.fault.LearnFault.{LearnFault}
use Rattle.party_keys.specs.declared.fault.LearnFault.TheVariants as learn
use Rattle.party_keys.specs.declared.fault.SignerFault.{SignerFault}
use Rattle.party_keys.specs.declared.fault.SignerFault.TheVariants as signer
use Rattle.party_keys.specs.declared.learning.Learned.{Learned}
use Rattle.authority_core.specs.ConfirmRows.{half_claims, half_confirmed_row, log_claims, log_confirmed_row}
use Rattle.ar_message.specs.Shown.{shows}
use Rattle.authority_core.specs.Confirming.{confirming_checks, confirming_with, content_tests, meant_for, parties_of, vote_count}
use Rattle.authority_core.specs.Refusals.{of_book, of_message, of_signers}
use Rattle.authority_core.specs.RollRows.{roll_note_by, roll_note_row}
use Rattle.authority_core.specs.Row.{message_row}
use Rattle.authority_core.specs.State.{AuthorityAnswer, AuthorityState, StepsBy, if_due}
use Rattle.authority_core.specs.declared.refusal.AuthorityRefusal.{AuthorityRefusal}
use Rattle.authority_core.specs.declared.refusal.AuthorityRefusal.TheVariants.{BadPath, CheckFault, FewVotes, NotForAuthority, SameAuthority}
use Rattle.authority_core.proofs.EachRow.{answer-has}

-- the answer is not that the check failed
abbrev pub IsNoFault : {A : Type 0} → Result A AuthorityRefusal → Type 0
IsNoFault answer = answer ≡ Err CheckFault → ⊥

ordered : {A : Type 0} (checks : Result (Unit {0}) AuthorityRefusal) (later : Result A AuthorityRefusal) → IsNoFault checks → IsNoFault later → IsNoFault (result_and checks later)
ordered (Ok u) later so later_so e = later_so e
ordered (Err refusal) later so later_so e = so cc

entered : {A : Type 0} (r : Result DueParts BookFault) (f : DueParts → A) → IsNoFault (if_due (with_error of_book r) f)
entered (Ok due) f e = absurd cc
entered (Err book.Spent) f e = absurd cc
entered (Err book.Memory) f e = absurd cc

by-signers : (r : Result (Unit {0}) SignerFault) → IsNoFault (with_error of_signers r)
by-signers (Ok u) e = absurd cc
by-signers (Err (signer.Unknown party)) e = absurd cc
by-signers (Err (signer.Bad party k)) e = absurd cc

-- of tests none of which is of the check
first : (refusal : AuthorityRefusal) (b : Bool) (tests : List (AuthorityRefusal × Bool)) → IsNoFault {A = Unit {0}} (Err refusal) → IsNoFault (first_failing tests) → IsNoFault (first_failing ((refusal, b) ∷ tests))
first refusal true tests so later_so = later_so
first refusal false tests so later_so = so

meant : (me chosen : ℕ) → IsNoFault (first_failing (meant_for me chosen))
meant me chosen = first NotForAuthority (chosen == me) [] (λ e. absurd cc) (λ e. absurd cc)

content : (quorum : ℕ) (part : Confirming) → IsNoFault (first_failing (content_tests quorum part))
content quorum part =
    first (FewVotes (vote_count part)) (nat_le quorum (vote_count part)) ((BadPath, shows part) ∷ ((SameAuthority, not (part.first == part.second)) ∷ [])) (λ e. absurd cc)
    (first BadPath (shows part) ((SameAuthority, not (part.first == part.second)) ∷ []) (λ e. absurd cc)
    (first SameAuthority (not (part.first == part.second)) [] (λ e. absurd cc) (λ e. absurd cc)))

checks : (s : AuthorityState) (chosen : ℕ) (parties : List Party) (claims : List Claimed) (part : Confirming) → IsNoFault (confirming_checks s chosen parties claims part)
unfolding confirming_checks
checks s chosen parties claims part =
    ordered (first_failing (meant_for s.me chosen)) _ (meant s.me chosen)
    (ordered (with_error of_signers (signers_answer s.keys parties claims)) (first_failing (content_tests s.keys.quorum part)) (by-signers (signers_answer s.keys parties claims)) (content s.keys.quorum part))

log-row : (s : AuthorityState) (part : Confirming) → IsNoFault (log_confirmed_row s part)
unfolding log_confirmed_row confirming_with
log-row s part =
    ordered (confirming_checks s part.first (parties_of part part.second) (log_claims part) part) _ (checks s part.first (parties_of part part.second) (log_claims part) part)
    (entered _ _)

half-row : (s : AuthorityState) (part : Confirming) (first_signature : List ℕ) → IsNoFault (half_confirmed_row s part first_signature)
unfolding half_confirmed_row confirming_with
half-row s part first_signature =
    ordered (confirming_checks s part.second (parties_of part part.first) (half_claims part first_signature) part) _ (checks s part.second (parties_of part part.first) (half_claims part first_signature) part)
    (entered _ _)

note-row : (s : AuthorityState) (a : Announced) → IsNoFault (roll_note_row s a)
unfolding roll_note_row
note-row s a = by (learned s.keys a)
  where
    by : (r : Result Learned LearnFault) → IsNoFault (roll_note_by s a r)
    by (Ok l) = λ e. absurd cc
    by (Err learn.Unknown) = λ e. absurd cc
    by (Err (learn.Bad k)) = λ e. absurd cc
    by (Err learn.Other) = λ e. absurd cc
    by (Err learn.Memory) = λ e. absurd cc

-- no row of an authority that has retired
pub retired_row : (s : AuthorityState) (m : Message) (said : Outcome) → IsNoFault (message_row s true m said)
retired_row s m said = answer-has (λ n answer. IsNoFault answer) s true said (record {
  endorses = λ owner cert e. absurd cc;
  first = log-row s;
  second = half-row s;
  notes = note-row s;
  other = λ n e. absurd cc;
}) m

-- a call that steps by such an answer does not say so
pub stepped_no_fault : (result : Result Unsigned AuthorityRefusal) (old new : AuthorityState) (answer : AuthorityAnswer) → StepsBy result old new answer → IsNoFault answer → IsNoFault result
stepped_no_fault (Ok sent) old new answer steps so e = absurd cc
stepped_no_fault (Err refusal) old new answer steps so e = elim steps.1 [
  | inl wants ↦ absurd cc
  | inr is ↦ so cc
]

pub read_no_fault : (fault : MessageFault) → of_message fault ≡ CheckFault → ⊥
read_no_fault (message.Form place) e = absurd cc
read_no_fault message.Memory e = absurd cc
