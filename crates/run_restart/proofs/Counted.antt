-- The number of the next line of an input, and how many lines are left.
use Rattle.std.proofs.Common.{◌≡◌, ℕ, ◌+◌, ◌<◌, List, [], ◌∷◌, length, ap, arith, Ok, Err}
use Rattle.ar_lines.specs.Readings.{LineCursor, WordAt, line_at, next_of}
use Rattle.ar_lines.specs.declared.refusal.Reason.TheVariants.{Words}
use Rattle.ar_lines.specs.declared.refusal.Refusal.{Refusal}

-- A line was taken: the number behind the last that is left is the same, and fewer are left.
pub record IsLater (at new : LineCursor) : Type 0 where
  pub ends : new.next + length new.ahead ≡ at.next + length at.ahead
  pub fewer : length new.ahead < length at.ahead

next-later : (next : ℕ) (ahead : List (List ℕ)) (word : WordAt) (new : LineCursor) → next_of next ahead ≡ Ok (word, new) → IsLater (record { next = next; ahead = ahead }) new
next-later next [] word new is = absurd (cc)
next-later next (line ∷ ahead) word new is =
    let behind : LineCursor = record { next = next + 1; ahead = ahead } in
    let at : WordAt = record { line = next; number = 0; text = line } in
    let read : WordAt × LineCursor = (at, behind) in
    let given : WordAt × LineCursor = (word, new) in
    let both : read ≡ given = cc in
    let number : next + 1 ≡ new.next = ap (λ (p : WordAt × LineCursor). p.1.next) both in
    let left : length ahead ≡ length new.ahead = ap (λ (p : WordAt × LineCursor). length p.1.ahead) both in
    record { ends = omega (arith, number, left); fewer = omega (arith, left) }

pub line-later : (at new : LineCursor) (word : WordAt) → line_at at ≡ Ok (word, new) → IsLater at new
unfolding line_at
line-later at new word is = next-later at.next at.ahead word new is

next-missing : (next : ℕ) (ahead : List (List ℕ)) (refusal : Refusal) → next_of next ahead ≡ Err refusal → refusal.line ≡ next + length ahead
next-missing next [] refusal is =
    let missing : Refusal = record { line = next; reason = Words } in
    let same : missing ≡ refusal = cc in
    omega (arith, ap (λ (r : Refusal). r.line) same)
next-missing next (line ∷ ahead) refusal is = absurd (cc)

-- the number of a line that is missing is the one behind the last
pub line-missing : (at : LineCursor) (refusal : Refusal) → line_at at ≡ Err refusal → refusal.line ≡ at.next + length at.ahead
unfolding line_at
line-missing at refusal is = next-missing at.next at.ahead refusal is
