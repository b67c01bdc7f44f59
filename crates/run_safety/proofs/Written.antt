-- A front of what is written of a run is the lines of a front of what happened, and a part of the next line.
use Rattle.std.proofs.Common.{◌≡◌, ◌∙◌, ◌⊎◌, inl, inr, ℕ, List, [], ◌∷◌, ◌++◌, append_assoc, refl, sym, ap}
use Rattle.std.specs.Prelude.{map}
use Rattle.std.specs.List.{concat}
use Rattle.std.proofs.lemmas.List.Folds.{concat-append}
use Rattle.ar_world.specs.Run.{Run, refused_lines, text_of_run}
use Rattle.report_text.specs.Lines.{line_of}
use Rattle.report_text.specs.declared.happening.Happening.{Happening}
use Rattle.run_safety.specs.Headline.{IsCut}

-- a front ends within the first of two lists, or it has all of that, and ends within the second
abbrev EndsWithin : List ℕ → List ℕ → List ℕ → List ℕ → Type 0
EndsWithin one other front rest =
    ((byte : ℕ) × ((others : List ℕ) × (one ≡ front ++ byte ∷ others))) ⊎ ((more : List ℕ) × ((front ≡ one ++ more) × (other ≡ more ++ rest)))

ends-within : (one other front rest : List ℕ) → one ++ other ≡ front ++ rest → EndsWithin one other front rest
ends-within [] other front rest is = inr (front, (refl, is))
ends-within (x ∷ one) other [] rest is = inl (x, (one, refl))
ends-within (x ∷ one) other (y ∷ front) rest is =
    let first : x ≡ y = cc in
    let later : one ++ other ≡ front ++ rest = cc in
    elim (ends-within one other front rest later) [
      | inl w ↦ inl (w.0, (w.1.0, ap (λ n. n ∷ one) first ∙ ap (λ l. y ∷ l) w.1.1))
      | inr w ↦ inr (w.0, (ap (λ n. n ∷ front) (sym first) ∙ ap (λ l. x ∷ l) w.1.0, w.1.1))
    ]

said-cut : (said : List Happening) (refusal : List (List ℕ)) (bytes others : List ℕ) → concat (map line_of said) ++ concat refusal ≡ bytes ++ others → IsCut said refusal bytes
said-cut [] refusal bytes others is = record { front = []; rest = []; part = bytes; happened = refl; is = refl; next = (others, is) }
said-cut (h ∷ said) refusal bytes others is =
    elim (ends-within (line_of h) (concat (map line_of said) ++ concat refusal) bytes others (sym (append_assoc (line_of h) (concat (map line_of said)) (concat refusal)) ∙ is)) [
      | inl within ↦ record { front = []; rest = h ∷ said; part = bytes; happened = refl; is = refl; next = within }
      | inr w ↦
          let c = said-cut said refusal w.0 others w.1.1 in
          record {
            front = h ∷ c.front;
            rest = c.rest;
            part = c.part;
            happened = ap (λ (l : List Happening). h ∷ l) c.happened;
            is = w.1.0 ∙ ap (λ l. line_of h ++ l) c.is ∙ sym (append_assoc (line_of h) (concat (map line_of c.front)) c.part);
            next = c.next;
          }
    ]

pub written-cut : (r : Run) (bytes others : List ℕ) → text_of_run r ≡ bytes ++ others → IsCut r.said (refused_lines r.refused) bytes
written-cut r bytes others is =
    said-cut r.said (refused_lines r.refused) bytes others (sym (concat-append (map line_of r.said) (refused_lines r.refused)) ∙ is)
