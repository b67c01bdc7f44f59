-- What a confirmation shows is what is accepted of it, where a client does not refuse it.
use Rattle.std.proofs.Common.{◌≡◌, ◌⊎◌, inl, inr, ℕ, List, Option, Some, None, Result, Ok, Err, refl, sym, ap, ◌∙◌}
use Rattle.std.specs.Result.{result_ok}
use Rattle.ar_bytes.specs.Reading.{whole}
use Rattle.ar_cert.specs.Changes.{Change}
use Rattle.ar_message.specs.Confirmation.{Body, Confirmation, Subject, absent, certificate_in, confirmation_at, present}
use Rattle.client_memory.specs.Answers.{pinned_by, pinned_on}
use Rattle.client_memory.specs.Book.{Pin}
use Rattle.client_rule.specs.Rule.{Asked, judgement, judgement_on, refusal_of, accepted_body, unless_refused}
use Rattle.client_rule.specs.declared.judgement.Judgement.{Judgement}
use Rattle.client_memory.specs.declared.answers.Pinned.{Pinned}
use Rattle.arpki_c.specs.Following.{following, following_by, shown_in, shown_on, shown_with}
use Rattle.arpki_c.specs.Stored.{book_stored, changes_in}
use Rattle.arpki_c.specs.declared.followed.Followed.{Followed}
use Rattle.arpki_c.specs.declared.pins.PinFault.{PinFault}
use Rattle.arpki_c.specs.declared.pins.PinFault.TheVariants as pin_fault

shown-taken : (about : Subject) (body : Body) → shown_with about (certificate_in body) ≡ accepted_body about body
shown-taken about (present certificate) = refl
shown-taken about (absent bottom) = refl

pub shown_as_judged : (asked : Asked) (bytes : List ℕ) (book : List Pin) (links : List Change)
    → following (pinned_by book asked bytes links).0 (shown_in bytes) ≡ following (pinned_by book asked bytes links).0 (judgement asked bytes)
unfolding judgement
shown_as_judged asked bytes book links = by (result_ok (whole confirmation_at bytes))
  where
    of-one : (c : Confirmation) (r : Result (Unit {0}) ℕ)
        → following (pinned_on (unless_refused r c) book asked links).0 (shown_with c.about (certificate_in c.body))
        ≡ following (pinned_on (unless_refused r c) book asked links).0 (unless_refused r c)
    of-one c (Ok u) = ap (λ (j : Judgement). following (pinned_on (accepted_body c.about c.body) book asked links).0 j) (shown-taken c.about c.body)
    of-one c (Err number) = refl

    by : (o : Option Confirmation) → following (pinned_on (judgement_on asked o) book asked links).0 (shown_on o)
        ≡ following (pinned_on (judgement_on asked o) book asked links).0 (judgement_on asked o)
    by None = refl
    by (Some c) = of-one c (refusal_of asked c)

-- ---- what is told, by the steps that lead to it

pub told_by : (asked : Asked) (confirmation pin links : List ℕ) (book later : List Pin) (changes given : List Change) (answer : Pinned) (shown : Judgement) (told : Followed)
    → book_stored asked.name pin ≡ Ok book → changes_in pin_fault.Links links ≡ Ok changes → given ≡ changes
    → pinned_by book asked confirmation given ≡ (answer, later) → shown ≡ shown_in confirmation → told ≡ following answer shown
    → following_by asked confirmation pin links ≡ Ok told
unfolding following_by
told_by asked confirmation pin links book later changes given answer shown told stored read same is shown_is told_is =
    let judged : pinned_by book asked confirmation changes ≡ (answer, later) =
    ap (λ (l : List Change). pinned_by book asked confirmation l) (sym same) ∙ is in
    let whole : following (pinned_by book asked confirmation changes).0 (judgement asked confirmation) ≡ told =
    sym (shown_as_judged asked confirmation book changes) ∙ ap (λ (p : Pinned × List Pin). following p.0 (shown_in confirmation)) judged
    ∙ ap (λ (j : Judgement). following answer j) (sym shown_is) ∙ sym told_is in
    rw (stored, read) (ap (λ (f : Followed). Ok f) whole)

pub no_book : (asked : Asked) (confirmation pin links : List ℕ) (fault want : PinFault) → (fault ≡ want) ⊎ (book_stored asked.name pin ≡ Err fault)
    → (fault ≡ want) ⊎ (following_by asked confirmation pin links ≡ Err fault)
unfolding following_by
no_book asked confirmation pin links fault want (inl ran_out) = inl ran_out
no_book asked confirmation pin links fault want (inr e) = inr (rw e refl)

pub no_links : (asked : Asked) (confirmation pin links : List ℕ) (book : List Pin) (fault want : PinFault) → book_stored asked.name pin ≡ Ok book
    → (fault ≡ want) ⊎ (changes_in pin_fault.Links links ≡ Err fault) → (fault ≡ want) ⊎ (following_by asked confirmation pin links ≡ Err fault)
unfolding following_by
no_links asked confirmation pin links book fault want stored (inl ran_out) = inl ran_out
no_links asked confirmation pin links book fault want stored (inr e) = inr (rw (stored, e) refl)
