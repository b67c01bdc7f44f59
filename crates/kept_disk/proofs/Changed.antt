-- A write and a cut of a disk in memory: what undoes them, and what a crash makes of them.
use Rattle.std.proofs.Common.{◌≡◌, ⊎_elim, ℕ, ◌+◌, ◌≤◌, List, ◌∷◌, ◌++◌, length, take, drop, sym, ◌∙◌, ap, subst, arith, append_assoc, length-append, length-drop, length-take, take-append-drop}
use Rattle.std.proofs.lemmas.List.{drop-drop, drop_at, take-take, take_at}
use Rattle.kept_disk.specs.Disk.{Cut, ArisesBy, Torn}
use Rattle.kept_disk.specs.Memory.{Event, MayLeave, over_at, undone}
use Rattle.kept_disk.specs.MemoryLaws.{left-now}
use Rattle.kept_disk.specs.declared.past.DiskChange.TheVariants as changes

module _ (file : List ℕ) (at : ℕ) (bytes : List ℕ) (inside : at ≤ length file) where
  abbrev pub written : List ℕ
  written = take at file ++ (bytes ++ drop (at + length bytes) file)

  size : length (take at file) ≡ at
  size = omega (arith, length-take at file, inside)

  pub write-front : take at written ≡ take at file
  write-front = take_at (take at file) (bytes ++ drop (at + length bytes) file) at size

  pub write-back : drop (at + length bytes) written ≡ drop (at + length bytes) file
  write-back =
      ap (λ (l : List ℕ). drop (at + length bytes) l) (sym (append_assoc (take at file) bytes (drop (at + length bytes) file)))
      ∙ drop_at (take at file ++ bytes) (drop (at + length bytes) file) (at + length bytes) (omega (arith, size, length-append (take at file) bytes))

  -- what stood there, put back
  pub write-undone : (over : ℕ) → undone written (changes.Wrote at (length bytes) over, over_at file at (length bytes)) ≡ file
  write-undone over =
      ap (λ (l : List ℕ). l ++ (over_at file at (length bytes) ++ drop (at + length bytes) written)) write-front
      ∙ ap (λ (l : List ℕ). take at file ++ (over_at file at (length bytes) ++ l)) (write-back ∙ sym (drop-drop (length bytes) at file))
      ∙ ap (λ (l : List ℕ). take at file ++ l) (take-append-drop (length bytes) (drop at file))
      ∙ take-append-drop at file

  write-torn : Torn at (length bytes) file written
  write-torn =
      let long : length written ≡ length (take at file) + length (bytes ++ drop (at + length bytes) file) =
      length-append (take at file) (bytes ++ drop (at + length bytes) file) in
      let more = length-append bytes (drop (at + length bytes) file) in
      let rest = length-drop (at + length bytes) file in
      record {
        before = write-front;
        after = write-back;
        no_shorter = omega (arith, long, more, rest, size, inside);
        no_longer = omega (arith, long, more, rest, size, inside);
      }

  -- a crash leaves what the write made of what a crash left before
  pub write-crash : (es : List Event) (over : ℕ)
      → ArisesBy (Torn at (length bytes)) (MayLeave file es) (MayLeave written ((changes.Wrote at (length bytes) over, over_at file at (length bytes)) ∷ es))
  write-crash es over c left = ⊎_elim
      (λ now. (file, left-now file es, subst (λ (l : List ℕ). Torn at (length bytes) file l) (sym now) write-torn))
      (λ before. (before.0, subst (λ (l : List ℕ). MayLeave l es before.0) (write-undone over) before.1, before.2))
      left

module _ (file : List ℕ) (len : ℕ) (inside : len ≤ length file) where
  pub cut-undone : undone (take len file) (changes.Cut (length (drop len file)), drop len file) ≡ file
  cut-undone = take-append-drop len file

  cut-whole : Cut len file (take len file)
  cut-whole = record {
    front = take-take len len file (omega arith);
    no_shorter = omega (arith, length-take len file);
    no_longer = omega (arith, length-take len file);
  }

  pub cut-crash : (es : List Event) → ArisesBy (Cut len) (MayLeave file es) (MayLeave (take len file) ((changes.Cut (length (drop len file)), drop len file) ∷ es))
  cut-crash es c left = ⊎_elim
      (λ now. (file, left-now file es, subst (λ (l : List ℕ). Cut len file l) (sym now) cut-whole))
      (λ before. (
        before.0,
        subst (λ (l : List ℕ). MayLeave l es before.0) cut-undone before.1,
        subst (λ (n : ℕ). Cut n before.0 c) (omega (arith, length-take len file, inside)) before.2,
      ))
      left
