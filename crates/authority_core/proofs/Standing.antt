-- Whatever an authority is asked, it stays the authority with its number, and its directory's council the same.
use Rattle.std.proofs.Common.{◌≡◌, ℕ, Bool, Result, refl}
use Rattle.ar_council.proofs.Members.{council-adopting, council-learning}
use Rattle.ar_council.specs.Council.{council_of}
use Rattle.ar_message.specs.declared.message.Message.{Message}
use Rattle.ar_statement.specs.Claims.{authority_party}
use Rattle.lms_tree.specs.declared.public_key.LmsPublic.{LmsPublic}
use Rattle.owner_check.specs.declared.answer.Outcome.{Outcome}
use Rattle.authority_core.specs.RollRows.{roll_row}
use Rattle.authority_core.specs.Row.{row}
use Rattle.authority_core.specs.State.{AuthorityState}
use Rattle.authority_core.proofs.EachRow.{AnswersWith, rolled-with, row-gives}

-- one is the same authority as another: its number is, and its directory's council
abbrev IsSame : AuthorityState → AuthorityState → Type 0
IsSame s later = (later.me ≡ s.me) × (council_of later.keys ≡ council_of s.keys)

pub row-stays : (s : AuthorityState) (retired : Bool) (m : Result Message ℕ) (said : Outcome) → AnswersWith (λ later sent. IsSame s later) (row s retired m said)
row-stays s retired m said = row-gives (λ read later sent. IsSame s later) s retired m said (record {
  endorses = λ owner cert due stays yes entered. (refl, refl);
  first = λ part due passed entered. (refl, refl);
  second = λ part signature due passed entered. (refl, refl);
  notes = λ a how learnt. (refl, council-learning s.keys a);
})

pub rolling-stays : (s : AuthorityState) (next : LmsPublic) → AnswersWith (λ later sent. IsSame s later) (roll_row s next)
rolling-stays s next =
    rolled-with (λ later sent. IsSame s later) s next (λ due rolls. (refl, council-adopting s.keys (authority_party s.me) s.past.signed.newest next))
