-- A file with a gate behind its front, and what a write behind the gate and one of the gate leave.
use Rattle.std.proofs.Common.{◌≡◌, ℕ, ◌+◌, ◌<◌, List, [], ◌∷◌, ◌++◌, length, get_or, take, drop, sym, ◌∙◌, ap, arith, append_assoc, length-append, take-append-drop}
use Rattle.std.proofs.lemmas.List.{take_at, drop_at, drop_more, take_all, drop_all, append-nil}
use Rattle.kept_disk.specs.Disk.{Cut, Holds, Torn}

module _ (front : List ℕ) (gate end : ℕ) (size : length front ≡ end) where
  -- with nothing behind the gate, and with these bytes
  abbrev rest : List ℕ
  rest = front ++ gate ∷ []

  length-rest : length rest ≡ end + 1
  length-rest = omega (arith, size, length-append front (gate ∷ []))

  rest-more : (bytes : List ℕ) → rest ++ bytes ≡ front ++ gate ∷ bytes
  rest-more bytes = append_assoc front (gate ∷ []) bytes

  -- the gate stands in each outcome of a write behind it
  pub torn_behind : (n : ℕ) (c : List ℕ) → Torn (end + 1) n rest c → c ≡ front ++ gate ∷ drop (end + 1) c
  torn_behind n c torn =
      let first : take (end + 1) c ≡ rest = torn.before ∙ take_all (end + 1) rest (omega (arith, length-rest)) in
      sym (take-append-drop (end + 1) c) ∙ ap (λ (l : List ℕ). l ++ drop (end + 1) c) first ∙ rest-more (drop (end + 1) c)

  pub written_behind : (bytes c : List ℕ) → Holds rest (end + 1) bytes c → c ≡ front ++ gate ∷ bytes
  written_behind bytes c holds =
      holds
      ∙ ap (λ (l : List ℕ). l ++ (bytes ++ drop (end + 1 + length bytes) rest)) (take_all (end + 1) rest (omega (arith, length-rest)))
      ∙ ap (λ (l : List ℕ). rest ++ (bytes ++ l)) (drop_all (end + 1 + length bytes) rest (omega (arith, length-rest)))
      ∙ ap (λ (l : List ℕ). rest ++ l) (append-nil bytes)
      ∙ rest-more bytes

  before-gate : (bytes : List ℕ) → take end (front ++ gate ∷ bytes) ≡ front
  before-gate bytes = take_at front (gate ∷ bytes) end size

  behind-gate : (bytes : List ℕ) → drop (end + 1) (front ++ gate ∷ bytes) ≡ bytes
  behind-gate bytes = ap (λ (l : List ℕ). drop (end + 1) l) (sym (rest-more bytes)) ∙ drop_at rest bytes (end + 1) length-rest

  pub to-gate : (bytes : List ℕ) → take (end + 1) (front ++ gate ∷ bytes) ≡ rest
  to-gate bytes = ap (λ (l : List ℕ). take (end + 1) l) (sym (rest-more bytes)) ∙ take_at rest bytes (end + 1) length-rest

  pub length-staged : (bytes : List ℕ) → length (front ++ gate ∷ bytes) ≡ end + 1 + length bytes
  length-staged bytes = omega (arith, size, length-append front (gate ∷ bytes))

  -- what stands around the gate stays in each outcome of a write of it
  pub torn_gate : (bytes c : List ℕ) → Torn end 1 (front ++ gate ∷ bytes) c → c ≡ front ++ get_or c end 0 ∷ bytes
  torn_gate bytes c torn =
      let long : end < length c = omega (arith, length-staged bytes, torn.no_shorter) in
      let back : drop end c ≡ get_or c end 0 ∷ bytes =
      drop_more c end 0 long ∙ ap (λ (l : List ℕ). get_or c end 0 ∷ l) (torn.after ∙ behind-gate bytes) in
      sym (take-append-drop end c) ∙ ap (λ (l : List ℕ). l ++ drop end c) (torn.before ∙ before-gate bytes) ∙ ap (λ (l : List ℕ). front ++ l) back

  pub written_gate : (bytes c : List ℕ) → Holds (front ++ gate ∷ bytes) end (1 ∷ []) c → c ≡ front ++ 1 ∷ bytes
  written_gate bytes c holds =
      holds
      ∙ ap (λ (l : List ℕ). l ++ ((1 ∷ []) ++ drop (end + 1) (front ++ gate ∷ bytes))) (before-gate bytes)
      ∙ ap (λ (l : List ℕ). front ++ 1 ∷ l) (behind-gate bytes)

  -- the gate stands in each outcome of a cut behind it
  pub cut_behind : (bytes c : List ℕ) → Cut (end + 1) (front ++ gate ∷ bytes) c → c ≡ front ++ gate ∷ drop (end + 1) c
  cut_behind bytes c cut =
      let first : take (end + 1) c ≡ rest = cut.front ∙ to-gate bytes in
      sym (take-append-drop (end + 1) c) ∙ ap (λ (l : List ℕ). l ++ drop (end + 1) c) first ∙ rest-more (drop (end + 1) c)
