-- The bytes of a kept text, and the text in them.
use Rattle.std.proofs.Common.{◌≡◌, ℕ, ◌+◌, ◌-◌, ◌<◌, ◌^◌, List, [], ◌∷◌, ◌++◌, length, take, drop, sym, ◌∙◌, ap, arith, append_assoc}
use Rattle.std.proofs.lemmas.List.{drop_at, take_at}
use Rattle.std.specs.Int.{w32}
use Rattle.ar_bytes.specs.RoundTrip.{number_text}
use Rattle.chained_journal.specs.Appending.{staged_front}
use Rattle.chained_journal.specs.Journal.{complement, filling, head}
use Rattle.chained_journal.proofs.Splits.{length-head}

pub staged_made : (kind : ℕ) (body a b c d e : List ℕ) → a ≡ number_text w32 (length body + 1) → b ≡ a ++ number_text w32 (4294967295 - (length body + 1))
    → c ≡ b ++ kind ∷ [] → d ≡ c ++ body → e ≡ d ++ filling (length body + 1) → e ≡ staged_front (kind ∷ body)
staged_made kind body a b c d e first second third fourth fifth =
    let n : ℕ = length body + 1 in
    let heads : b ≡ head n = second ∙ ap (λ (l : List ℕ). l ++ number_text w32 (complement n)) first in
    let text : d ≡ head n ++ (kind ∷ body) =
    fourth ∙ ap (λ (l : List ℕ). l ++ body) (third ∙ ap (λ (l : List ℕ). l ++ kind ∷ []) heads) ∙ append_assoc (head n) (kind ∷ []) body in
    let size : length (kind ∷ body) ≡ n = omega arith in
    fifth ∙ ap (λ (l : List ℕ). l ++ filling n) text ∙ append_assoc (head n) (kind ∷ body) (filling n)
    ∙ ap (λ (m : ℕ). head m ++ ((kind ∷ body) ++ filling m)) (sym size)

pub front_again : (kind : ℕ) (body e : List ℕ) → e ≡ staged_front (kind ∷ body) → take (length body + 1) (drop 8 e) ≡ kind ∷ body
front_again kind body e is =
    let size : length (kind ∷ body) ≡ length body + 1 = omega arith in
    ap (λ (l : List ℕ). take (length body + 1) (drop 8 l)) is
    ∙ ap (λ (l : List ℕ). take (length body + 1) l) (drop_at (head (length (kind ∷ body))) ((kind ∷ body) ++ filling (length (kind ∷ body))) 8 (length-head (length (kind ∷ body))))
    ∙ take_at (kind ∷ body) (filling (length (kind ∷ body))) (length body + 1) size

-- and it is short
pub front_short : (kind : ℕ) (body e : List ℕ) → e ≡ staged_front (kind ∷ body) → length body + 1 < 2 ^ 32 → length (take (length body + 1) (drop 8 e)) < 2 ^ 32
front_short kind body e is short = omega (arith, ap length (front_again kind body e is), short)
