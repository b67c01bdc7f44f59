-- Journals with one text more, and what stands behind their records.
use Rattle.std.proofs.Common.{◌≡◌, ◌≢◌, ◌⊎◌, inl, inr, ℕ, List, [], ◌∷◌, ◌++◌, length, refl, sym, ◌∙◌, ap, append_assoc, Bool, true, false}
use Rattle.std.specs.Str.{bytes_eq}
use Rattle.std.proofs.lemmas.Slice.Eq.{bytes_eq-Decides}
use Rattle.chained_journal.specs.Appending.{staged_text}
use Rattle.chained_journal.specs.Journal.{AreShort, IsBeforeOrAfter, IsShort, Stands, chained, journal, link, open_gate, record_text, records, shut_gate, start}
use Rattle.chained_journal.specs.declared.title.Title.{Title}
use Rattle.chained_journal.proofs.Readings.{more-parts}

-- ---- one text more

pub records-push : (chain : List ℕ) (texts : List (List ℕ)) (text rest : List ℕ)
    → records chain (texts ++ text ∷ []) ++ rest ≡ records chain texts ++ (open_gate ++ (record_text (chained chain texts) text ++ rest))
records-push chain [] text rest = more-parts chain text [] rest
records-push chain (t ∷ texts) text rest =
    more-parts chain t (texts ++ text ∷ []) rest
    ∙ ap (λ (l : List ℕ). open_gate ++ (record_text chain t ++ l)) (records-push (link chain t) texts text rest)
    ∙ sym (more-parts chain t texts (open_gate ++ (record_text (chained (link chain t) texts) text ++ rest)))

pub short-push : (texts : List (List ℕ)) (text : List ℕ) → AreShort texts → IsShort text → AreShort (texts ++ text ∷ [])
short-push [] text short fits = (fits, tt)
short-push (t ∷ texts) text short fits = (short.0, short-push texts text short.1 fits)

pub chained-push : (chain : List ℕ) (texts : List (List ℕ)) (text : List ℕ) → chained chain (texts ++ text ∷ []) ≡ link (chained chain texts) text
chained-push chain [] text = refl
chained-push chain (t ∷ texts) text = chained-push (link chain t) texts text

-- ---- two lists are one or not

told : (a b : List ℕ) (test : Bool) → test ≡ bytes_eq a b → (a ≡ b) ⊎ (a ≢ b)
told a b true is = inl ((bytes_eq-Decides a b).0 (sym is))
told a b false is = inr (λ (e : a ≡ b). let yes : bytes_eq a b ≡ true = (bytes_eq-Decides a b).1 e in absurd cc)

pub one_or_two : (a b : List ℕ) → (a ≡ b) ⊎ (a ≢ b)
one_or_two a b = told a b (bytes_eq a b) refl

-- ---- what stands behind the records

module _ (title : Title) (texts : List (List ℕ)) (short : AreShort texts) where
  abbrev front : List ℕ
  front = title.header ++ records (start title) texts

  pub shut_stands : (behind c : List ℕ) → c ≡ front ++ (shut_gate ++ behind) → Stands title texts c
  shut_stands behind c is = record { short = short; behind = behind; is = is ∙ append_assoc title.header (records (start title) texts) (shut_gate ++ behind) }

  module _ (text : List ℕ) (fits : IsShort text) where
    abbrev staged : List ℕ
    staged = staged_text (chained (start title) texts) text

    pub more-is : (behind : List ℕ) → front ++ (open_gate ++ (record_text (chained (start title) texts) text ++ behind)) ≡ journal title (texts ++ text ∷ []) behind
    more-is behind =
        append_assoc title.header (records (start title) texts) (open_gate ++ (record_text (chained (start title) texts) text ++ behind))
        ∙ ap (λ (l : List ℕ). title.header ++ l) (sym (records-push (start title) texts text behind))

    pub open_stands : (c : List ℕ) → c ≡ front ++ (open_gate ++ staged) → Stands title (texts ++ text ∷ []) c
    open_stands c is = record { short = short-push texts text short fits; behind = []; is = is ∙ more-is shut_gate }

    -- a whole record behind any gate counts, or does not, or is the one torn end
    pub gate_stands : (gate c : List ℕ) → length gate ≡ 8 → c ≡ front ++ (gate ++ staged) → IsBeforeOrAfter title texts text c
    gate_stands gate c eight is = elim (one_or_two gate open_gate) [
      | inl opened ↦ inr (inl (open_stands c (is ∙ ap (λ (g : List ℕ). front ++ (g ++ staged)) opened)))
      | inr not_open ↦ elim (one_or_two gate shut_gate) [
        | inl shut ↦ inl (shut_stands staged c (is ∙ ap (λ (g : List ℕ). front ++ (g ++ staged)) shut))
        | inr not_shut ↦ inr (inr (record {
          short = short;
          fits = fits;
          gate = gate;
          unsure = record { size = eight; not_open = not_open; not_shut = not_shut };
          is = is ∙ append_assoc title.header (records (start title) texts) (gate ++ staged);
        }))
      ]
    ]
