-- The draft at the place of a digest.
use Rattle.std.proofs.Common.{◌≡◌, ℕ, List, length, get_or, Some, None, Result, Ok, Err, inl, inr, refl, ap, sym, ◌∙◌, Option}
use Rattle.std.specs.List.{slice_get, slice_set}
use Rattle.std.specs.Option.{ok_or, option_and_then}
use Rattle.std.proofs.lemmas.List.{set-get_or}
use Rattle.std.proofs.lemmas.List.Quantifiers.{position-Some}
use Rattle.std.proofs.lemmas.Option.{slice_get_read}
use Rattle.ar_base.specs.Chaining.{◌>>=◌}
use Rattle.ar_base.specs.Gives.{StepsUnless}
use Rattle.ar_cert.specs.Changes.{Change}
use Rattle.owner_core.specs.declared.refusal.OwnerRefusal.{OwnerRefusal}
use Rattle.owner_core.specs.declared.refusal.OwnerRefusal.TheVariants.{NoDraft, Memory}
use Rattle.owner_core.specs.State.{Owner}
use Rattle.owner_core.specs.Drafts.{changed_draft, is_draft_of, place_of_draft}
use Rattle.owner_core.specs.Rows.{draft_of}

-- what stands there
spot : (drafts : List Change) (digest : List ℕ) (place : ℕ) (d : Change) → place_of_draft drafts digest ≡ Some place → get_or drafts place d ≡ d → slice_get drafts place ≡ Some d
spot drafts digest place d here is = slice_get_read drafts (length drafts) place d refl (position-Some (is_draft_of digest) drafts place d here).0 (sym is)

-- what a change of the draft at a place makes of the drafts
abbrev pub put_at : List Change → ℕ → Result Change OwnerRefusal → Result (List Change) OwnerRefusal
put_at drafts place answer = answer >>= λ changed. Ok (slice_set drafts place changed)

abbrev pub changed_at : List Change → (Change → Result Change OwnerRefusal) → ℕ → Option Change → Result (List Change) OwnerRefusal
changed_at drafts change place there = ok_or there NoDraft >>= λ draft. put_at drafts place (change draft)

abbrev pub changed_if : List Change → (Change → Result Change OwnerRefusal) → Option ℕ → Result (List Change) OwnerRefusal
changed_if drafts change found = ok_or found NoDraft >>= λ place. changed_at drafts change place (slice_get drafts place)

-- a change of what stands there
pub changed_there : (drafts : List Change) (digest : List ℕ) (change : Change → Result Change OwnerRefusal) (place : ℕ) (d : Change) (answer : Result Change OwnerRefusal)
    → place_of_draft drafts digest ≡ Some place → get_or drafts place d ≡ d → change d ≡ answer → changed_draft drafts digest change ≡ put_at drafts place answer
changed_there drafts digest change place d answer here is was =
    ap (changed_if drafts change) here ∙ ap (changed_at drafts change place) (spot drafts digest place d here is) ∙ ap (put_at drafts place) was

-- and of none
pub changed_nowhere : (drafts : List Change) (digest : List ℕ) (change : Change → Result Change OwnerRefusal)
    → place_of_draft drafts digest ≡ None → changed_draft drafts digest change ≡ Err NoDraft
changed_nowhere drafts digest change here = ap (changed_if drafts change) here

-- the draft, where there is one
abbrev pub found : Option Change → Result Change OwnerRefusal
found draft = ok_or draft NoDraft

-- the draft that was found
pub found_there : (me : Owner) (digest : List ℕ) (place : ℕ) (d : Change) → place_of_draft me.drafts digest ≡ Some place → get_or me.drafts place d ≡ d → draft_of me digest ≡ Ok d
found_there me digest place d here is =
    ap (λ p. found (option_and_then (slice_get me.drafts) p)) here ∙ ap found (spot me.drafts digest place d here is)

-- and none
pub found_nowhere : (me : Owner) (digest : List ℕ) → place_of_draft me.drafts digest ≡ None → draft_of me digest ≡ Err NoDraft
found_nowhere me digest here = ap (λ p. found (option_and_then (slice_get me.drafts) p)) here

-- the same draft put there changes nothing
pub unchanged : (drafts : List Change) (place : ℕ) (d e : Change) → get_or drafts place d ≡ d → e ≡ d → slice_set drafts place e ≡ drafts
unchanged drafts place d e is same = ap (slice_set drafts place) (same ∙ sym is) ∙ set-get_or drafts place d

-- a step of the draft that stands there is one of the drafts
pub stepped_there : (drafts : List Change) (digest : List ℕ) (change : Change → Result Change OwnerRefusal) (place : ℕ) (d new : Change) (result : Result (Unit {0}) OwnerRefusal)
    → place_of_draft drafts digest ≡ Some place → get_or drafts place d ≡ d → StepsUnless Memory (λ draft _. draft) result d new (change d)
    → StepsUnless Memory (λ drafts _. drafts) result drafts (slice_set drafts place new) (changed_draft drafts digest change)
stepped_there drafts digest change place d new (Ok u) here is h = changed_there drafts digest change place d (Ok new) here is h
stepped_there drafts digest change place d new (Err e) here is h =
    (unchanged drafts place d new is h.0, elim h.1 [ inl m ↦ inl m | inr was ↦ inr (changed_there drafts digest change place d (Err e) here is was) ])

pub ruleset spots = (changed_there, changed_nowhere)

pub ruleset searched = (found_there, found_nowhere)
