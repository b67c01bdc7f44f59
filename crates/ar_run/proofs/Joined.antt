-- Lines that are written one behind the other, and what was written where one of them failed.
use Rattle.std.proofs.Common.{◌≡◌, ℕ, zero, suc, ◌<◌, List, [], ◌∷◌, ◌++◌, length, take, drop, get_or, refl, sym, ap, ◌∙◌, append_assoc, length-append, arith}
use Rattle.std.specs.List.{flat_map}
use Rattle.ar_io.specs.Wrote.{Appended, AppendedFront}
use Rattle.ar_io.proofs.WroteLemmas.{Appended-trans}

-- those before one, it, and those behind it
joined-at : {X : Type 0} (f : X → List ℕ) (xs : List X) (i : ℕ) (d : X) → i < length xs → flat_map f xs ≡ flat_map f (take i xs) ++ (f (get_or xs i d) ++ flat_map f (drop (suc i) xs))
joined-at f [] i d lt = absurd (omega arith)
joined-at f (x ∷ xs) zero d lt = refl
joined-at f (x ∷ xs) (suc i) d lt =
    ap (λ rest. f x ++ rest) (joined-at f xs i d (omega arith))
    ∙ sym (append_assoc (f x) (flat_map f (take i xs)) (f (get_or xs i d) ++ flat_map f (drop (suc i) xs)))

-- where a front of one was written, a front of all was
pub cut_off : {X T : Type 0} (wrote : T → List ℕ → Type 0) (old mid new : T) (f : X → List ℕ) (xs : List X) (i : ℕ) (d : X) → i < length xs → Appended wrote old mid (flat_map f (take i xs)) → AppendedFront wrote mid new (f (get_or xs i d)) → AppendedFront wrote old new (flat_map f xs)
cut_off wrote old mid new f xs i d lt so_far cut =
    let so = flat_map f (take i xs) in
    let behind = flat_map f (drop (suc i) xs) in
    let whole : flat_map f xs ≡ (so ++ cut.0) ++ (cut.1.0 ++ behind) =
    joined-at f xs i d lt
    ∙ ap (λ line. so ++ (line ++ behind)) cut.1.1
    ∙ ap (λ l. so ++ l) (append_assoc cut.0 cut.1.0 behind)
    ∙ sym (append_assoc so cut.0 (cut.1.0 ++ behind)) in (
      so ++ cut.0,
      (cut.1.0 ++ behind, whole, omega (arith, length-append cut.1.0 behind, cut.1.2), Appended-trans wrote old mid new so cut.0 so_far cut.1.3),
    )

-- ---- a text, of which a front was written

-- the front was written of a text before the rest
abbrev pub Before : {T : Type 0} → (T → List ℕ → Type 0) → T → T → List ℕ → List ℕ → Type 0
Before wrote old new text rest = (front : List ℕ) × (text ≡ front ++ rest) × Appended wrote old new front

-- one more line was written
pub more_written : {T : Type 0} (wrote : T → List ℕ → Type 0) (old mid new : T) (text rest line behind : List ℕ) → Before wrote old mid text rest → rest ≡ line ++ behind → Appended wrote mid new line → Before wrote old new text behind
more_written wrote old mid new text rest line behind so cut went =
    let whole : text ≡ (so.0 ++ line) ++ behind = so.1 ∙ ap (λ r. so.0 ++ r) cut ∙ sym (append_assoc so.0 line behind) in
    (so.0 ++ line, whole, Appended-trans wrote old mid new so.0 line so.2 went)

-- where a front of a line was written, a front of the text was
pub broken_off : {T : Type 0} (wrote : T → List ℕ → Type 0) (old mid new : T) (text rest line behind : List ℕ) → Before wrote old mid text rest → rest ≡ line ++ behind → AppendedFront wrote mid new line → AppendedFront wrote old new text
broken_off wrote old mid new text rest line behind so here cut =
    let whole : text ≡ (so.0 ++ cut.0) ++ (cut.1.0 ++ behind) =
    so.1
    ∙ ap (λ r. so.0 ++ r) (here ∙ ap (λ l. l ++ behind) cut.1.1 ∙ append_assoc cut.0 cut.1.0 behind)
    ∙ sym (append_assoc so.0 cut.0 (cut.1.0 ++ behind)) in (
      so.0 ++ cut.0,
      (cut.1.0 ++ behind, whole, omega (arith, length-append cut.1.0 behind, cut.1.2), Appended-trans wrote old mid new so.0 cut.0 so.2 cut.1.3),
    )
