-- Whatever an authority newly notes that its check said yes to is what a message asks for.
use Rattle.std.proofs.Common.{◌≡◌, ◌⊎◌, ℕ, List, [], ◌∷◌, ◌++◌, Bool, true, false, cond, Result, Ok, refl, inl, inr}
use Rattle.std.specs.Prelude.{Contains}
use Rattle.std.specs.List.{list_any}
use Rattle.std.proofs.lemmas.List.Elements.{All-cons, All-contains, All-nil, Contains-append_cases}
use Rattle.ar_base.specs.Adding.{with_one}
use Rattle.ar_cert.specs.Certificate.{Certificate}
use Rattle.ar_message.specs.declared.message.Message.{Message}
use Rattle.ar_message.specs.declared.message.Message.TheVariants.{EndorseAsk}
use Rattle.lms_tree.specs.declared.public_key.LmsPublic.{LmsPublic}
use Rattle.owner_check.specs.declared.answer.Outcome.{Outcome}
use Rattle.owner_check.specs.declared.answer.Outcome.TheVariants.{Yes}
use Rattle.authority_core.specs.Calls.{is_same_asked}
use Rattle.authority_core.specs.EndorseRow.{asked_of}
use Rattle.authority_core.specs.RollRows.{roll_row}
use Rattle.authority_core.specs.Row.{row}
use Rattle.authority_core.specs.State.{AuthorityState}
use Rattle.authority_core.specs.declared.entries.Approved.{Approved}
use Rattle.authority_core.proofs.EachRow.{AnswersWith, rolled-with, row-gives}

-- what is in a list with one more was in it, or is that one
one-new : {X : Type 0} (is_same : X → X → Bool) (items : List X) (more x : X) → Contains (with_one is_same items more) x → Contains items x ⊎ (x ≡ more)
one-new {X} is_same items more x = by (list_any (λ item. is_same item more) items)
  where
    that : Contains (more ∷ []) x → x ≡ more
    that there = All-contains (λ y. y ≡ more) (more ∷ []) x (All-cons (λ y. y ≡ more) more [] refl (All-nil (λ y. y ≡ more))) there

    by : (b : Bool) → Contains (cond b items (items ++ more ∷ [])) x → Contains items x ⊎ (x ≡ more)
    by true there = inl there
    by false there = elim (Contains-append_cases items (more ∷ []) x there) [
      | inl old ↦ inl old
      | inr new ↦ inr (that new)
    ]

-- an authority that has not retired was asked for it, and its check said yes
abbrev pub IsAskedFor : Bool → Result Message ℕ → Outcome → Approved → Type 0
IsAskedFor retired m said a =
    (owner : ℕ) × (cert : Certificate) × (m ≡ Ok (EndorseAsk owner cert)) × (a ≡ asked_of cert) × (said ≡ Yes) × (retired ≡ false)

abbrev NotesAsked : AuthorityState → Bool → Result Message ℕ → Outcome → AuthorityState → Type 0
NotesAsked s retired m said later = (a : Approved) → Contains later.past.asked a → Contains s.past.asked a ⊎ IsAskedFor retired m said a

pub row-asked : (s : AuthorityState) (retired : Bool) (m : Result Message ℕ) (said : Outcome) → AnswersWith (λ later sent. NotesAsked s retired m said later) (row s retired m said)
row-asked s retired m said = row-gives (λ read later sent. NotesAsked s retired read said later) s retired m said (record {
  endorses = λ owner cert due stays yes entered a there. elim (one-new is_same_asked s.past.asked (asked_of cert) a there) [
    | inl old ↦ inl old
    | inr new ↦ inr (owner, cert, refl, new, yes, stays)
  ];
  first = λ part due passed entered a there. inl there;
  second = λ part signature due passed entered a there. inl there;
  notes = λ note how learnt a there. inl there;
})

pub roll-row-asked : (s : AuthorityState) (next : LmsPublic) → AnswersWith (λ later sent. later.past.asked ≡ s.past.asked) (roll_row s next)
roll-row-asked s next = rolled-with (λ later sent. later.past.asked ≡ s.past.asked) s next (λ due rolls. refl)
