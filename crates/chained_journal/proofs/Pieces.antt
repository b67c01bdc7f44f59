-- A file with a gate of 8 bytes behind its front, and what a write behind the gate and one of the gate leave.
use Rattle.std.proofs.Common.{◌≡◌, ℕ, ◌+◌, ◌≤◌, List, ◌++◌, length, take, drop, sym, ◌∙◌, ap, arith, append_assoc, length-append, take-append-drop}
use Rattle.std.proofs.lemmas.List.{take_at, drop_at, take_all, drop_all, append-nil, drop-drop, length-take, length-drop}
use Rattle.kept_disk.specs.Disk.{Cut, Holds, Torn}

module _ (front gate : List ℕ) (end : ℕ) (size : length front ≡ end) (eight : length gate ≡ 8) where
  -- with nothing behind the gate, and with these bytes
  abbrev rest : List ℕ
  rest = front ++ gate

  length-rest : length rest ≡ end + 8
  length-rest = omega (arith, size, eight, length-append front gate)

  rest-more : (bytes : List ℕ) → rest ++ bytes ≡ front ++ (gate ++ bytes)
  rest-more bytes = append_assoc front gate bytes

  -- the gate stands in each outcome of a write behind it
  pub torn_behind : (n : ℕ) (c : List ℕ) → Torn (end + 8) n rest c → c ≡ front ++ (gate ++ drop (end + 8) c)
  torn_behind n c torn =
      let first : take (end + 8) c ≡ rest = torn.before ∙ take_all (end + 8) rest (omega (arith, length-rest)) in
      sym (take-append-drop (end + 8) c) ∙ ap (λ (l : List ℕ). l ++ drop (end + 8) c) first ∙ rest-more (drop (end + 8) c)

  pub written_behind : (bytes c : List ℕ) → Holds rest (end + 8) bytes c → c ≡ front ++ (gate ++ bytes)
  written_behind bytes c holds =
      holds
      ∙ ap (λ (l : List ℕ). l ++ (bytes ++ drop (end + 8 + length bytes) rest)) (take_all (end + 8) rest (omega (arith, length-rest)))
      ∙ ap (λ (l : List ℕ). rest ++ (bytes ++ l)) (drop_all (end + 8 + length bytes) rest (omega (arith, length-rest)))
      ∙ ap (λ (l : List ℕ). rest ++ l) (append-nil bytes)
      ∙ rest-more bytes

  before-gate : (bytes : List ℕ) → take end (front ++ (gate ++ bytes)) ≡ front
  before-gate bytes = take_at front (gate ++ bytes) end size

  pub behind-gate : (bytes : List ℕ) → drop (end + 8) (front ++ (gate ++ bytes)) ≡ bytes
  behind-gate bytes = ap (λ (l : List ℕ). drop (end + 8) l) (sym (rest-more bytes)) ∙ drop_at rest bytes (end + 8) length-rest

  pub to-gate : (bytes : List ℕ) → take (end + 8) (front ++ (gate ++ bytes)) ≡ rest
  to-gate bytes = ap (λ (l : List ℕ). take (end + 8) l) (sym (rest-more bytes)) ∙ take_at rest bytes (end + 8) length-rest

  pub length-staged : (bytes : List ℕ) → length (front ++ (gate ++ bytes)) ≡ end + 8 + length bytes
  length-staged bytes = omega (arith, size, eight, length-append front (gate ++ bytes), length-append gate bytes)

  -- what stands around the gate stays in each outcome of a write of it
  pub torn_gate : (bytes c : List ℕ) → Torn end 8 (front ++ (gate ++ bytes)) c
      → (c ≡ front ++ (take 8 (drop end c) ++ bytes)) × (length (take 8 (drop end c)) ≡ 8)
  torn_gate bytes c torn =
      let long : end + 8 ≤ length c = omega (arith, length-staged bytes, torn.no_shorter) in
      let behind : drop (end + 8) c ≡ bytes = torn.after ∙ behind-gate bytes in
      let back : drop end c ≡ take 8 (drop end c) ++ bytes =
      sym (take-append-drop 8 (drop end c)) ∙ ap (λ (l : List ℕ). take 8 (drop end c) ++ l) (drop-drop 8 end c ∙ ap (λ (n : ℕ). drop n c) (omega arith) ∙ behind) in (
        sym (take-append-drop end c) ∙ ap (λ (l : List ℕ). l ++ drop end c) (torn.before ∙ before-gate bytes) ∙ ap (λ (l : List ℕ). front ++ l) back,
        omega (arith, long, length-take 8 (drop end c), length-drop end c),
      )

  pub written_gate : (bytes new c : List ℕ) → length new ≡ 8 → Holds (front ++ (gate ++ bytes)) end new c → c ≡ front ++ (new ++ bytes)
  written_gate bytes new c many holds =
      holds
      ∙ ap (λ (l : List ℕ). l ++ (new ++ drop (end + length new) (front ++ (gate ++ bytes)))) (before-gate bytes)
      ∙ ap (λ (l : List ℕ). front ++ (new ++ l)) (ap (λ (n : ℕ). drop (end + n) (front ++ (gate ++ bytes))) many ∙ behind-gate bytes)

  -- the gate stands in each outcome of a cut behind it
  pub cut_behind : (bytes c : List ℕ) → Cut (end + 8) (front ++ (gate ++ bytes)) c → c ≡ front ++ (gate ++ drop (end + 8) c)
  cut_behind bytes c cut =
      let first : take (end + 8) c ≡ rest = cut.front ∙ to-gate bytes in
      sym (take-append-drop (end + 8) c) ∙ ap (λ (l : List ℕ). l ++ drop (end + 8) c) first ∙ rest-more (drop (end + 8) c)
