-- Whatever an authority newly sees is a claim of what it takes, and it verified it.
use Rattle.std.proofs.Common.{◌≡◌, ℕ, List, Bool, Result, Ok, refl, inl}
use Rattle.ar_base.specs.FirstFailing.{first_failing}
use Rattle.ar_base.specs.Gives.{with_error}
use Rattle.ar_base.proofs.Giving.{no-error, order-first, order-then}
use Rattle.ar_claims.specs.Claimed.{claimed_by}
use Rattle.ar_claims.specs.Verified.{SeesClaimed}
use Rattle.ar_claims.proofs.Verified.{sees-claims, sees-learnt}
use Rattle.ar_message.specs.declared.message.Confirming.{Confirming}
use Rattle.ar_message.specs.declared.message.Message.{Message}
use Rattle.ar_statement.specs.declared.party.Party.{Party}
use Rattle.lms_tree.specs.declared.public_key.LmsPublic.{LmsPublic}
use Rattle.owner_check.specs.declared.answer.Outcome.{Outcome}
use Rattle.party_keys.specs.Signers.{Claimed, all_known, all_signed, signers_answer}
use Rattle.authority_core.specs.ConfirmRows.{half_claims, log_claims}
use Rattle.authority_core.specs.Confirming.{confirming_checks, content_tests, meant_for, parties_of}
use Rattle.authority_core.specs.Refusals.{of_signers}
use Rattle.authority_core.specs.RollRows.{roll_row}
use Rattle.authority_core.specs.Row.{row}
use Rattle.authority_core.specs.State.{AuthorityState}
use Rattle.authority_core.proofs.Keeping.{Passed}
use Rattle.authority_core.proofs.EachRow.{AnswersWith, rolled-with, row-gives}

passed-signed : (s : AuthorityState) (chosen : ℕ) (parties : List Party) (claims : List Claimed) (part : Confirming) → Passed s chosen parties claims part
    → all_signed s.keys claims ≡ Ok tt
unfolding confirming_checks
passed-signed s chosen parties claims part is =
    let signers = with_error of_signers (signers_answer s.keys parties claims) in
    order-then (all_known s.keys parties) (all_signed s.keys claims) tt
    (no-error of_signers (signers_answer s.keys parties claims) tt
    (order-first signers (first_failing (content_tests s.keys.quorum part)) tt (order-then (first_failing (meant_for s.me chosen)) _ tt is)))

pub row-sees : (s : AuthorityState) (retired : Bool) (read : Result Message ℕ) (said : Outcome)
    → AnswersWith (λ later sent. SeesClaimed s.keys (claimed_by read) s.past.seen later.past.seen) (row s retired read said)
row-sees s retired read said = row-gives (λ m later sent. SeesClaimed s.keys (claimed_by m) s.past.seen later.past.seen) s retired read said (record {
  endorses = λ owner cert due stays yes entered t there. inl there;
  first = λ part due passed entered.
      sees-claims s.keys (log_claims part) s.past.seen (passed-signed s part.first (parties_of part part.second) (log_claims part) part passed);
  second = λ part signature due passed entered.
      sees-claims s.keys (half_claims part signature) s.past.seen (passed-signed s part.second (parties_of part part.first) (half_claims part signature) part passed);
  notes = λ a how learnt. sees-learnt s.keys a how s.past.seen learnt;
})

pub roll-row-sees : (s : AuthorityState) (next : LmsPublic) → AnswersWith (λ later sent. later.past.seen ≡ s.past.seen) (roll_row s next)
roll-row-sees s next = rolled-with (λ later sent. later.past.seen ≡ s.past.seen) s next (λ due rolls. refl)
