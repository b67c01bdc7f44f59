-- The bytes of a record, and the text in them.
use Rattle.std.proofs.Common.{◌≡◌, ℕ, ◌+◌, ◌-◌, ◌<◌, ◌^◌, List, [], ◌∷◌, ◌++◌, length, take, drop, sym, ◌∙◌, ap, arith, append_assoc, length-append}
use Rattle.std.proofs.lemmas.List.{drop_at, take_at}
use Rattle.std.specs.Int.{w32}
use Rattle.ar_bytes.proofs.Passing.{length-number_text}
use Rattle.ar_bytes.specs.RoundTrip.{number_text}
use Rattle.kept_journal.specs.Appending.{staged_text, text_of_staged}

pub staged_made : (kind : ℕ) (body a b c d : List ℕ) → a ≡ number_text w32 (length body + 1) → b ≡ a ++ kind ∷ [] → c ≡ b ++ body → d ≡ c ++ 0 ∷ []
    → d ≡ staged_text (kind ∷ body)
staged_made kind body a b c d head first rest last =
    let whole : c ≡ number_text w32 (length body + 1) ++ (kind ∷ body) =
    rest ∙ ap (λ (l : List ℕ). l ++ body) (first ∙ ap (λ (l : List ℕ). l ++ kind ∷ []) head) ∙ append_assoc (number_text w32 (length body + 1)) (kind ∷ []) body in
    let n : length (kind ∷ body) ≡ length body + 1 = omega arith in
    last ∙ ap (λ (l : List ℕ). l ++ 0 ∷ []) (whole ∙ ap (λ (k : ℕ). number_text w32 k ++ (kind ∷ body)) (sym n))

pub length-staged_text : (text : List ℕ) → length (staged_text text) ≡ length text + 5
length-staged_text text =
    omega (arith, length-append (number_text w32 (length text) ++ text) (0 ∷ []), length-append (number_text w32 (length text)) text, length-number_text w32 (length text))

pub text_again : (text : List ℕ) → text_of_staged (staged_text text) ≡ text
text_again text =
    let many : length (staged_text text) - 5 ≡ length text = omega (arith, length-staged_text text) in
    let behind : drop 4 (staged_text text) ≡ text ++ 0 ∷ [] =
    ap (λ (l : List ℕ). drop 4 l) (append_assoc (number_text w32 (length text)) text (0 ∷ []))
    ∙ drop_at (number_text w32 (length text)) (text ++ 0 ∷ []) 4 (length-number_text w32 (length text)) in
    ap (λ (n : ℕ). take n (drop 4 (staged_text text))) many ∙ ap (λ (l : List ℕ). take (length text) l) behind
    ∙ take_at text (0 ∷ []) (length text) (omega arith)

pub short_staged : (kind : ℕ) (body bytes : List ℕ) → bytes ≡ staged_text (kind ∷ body) → length body + 1 < 2 ^ 32 → length (text_of_staged bytes) < 2 ^ 32
short_staged kind body bytes is short =
    omega (arith, ap length (ap text_of_staged is ∙ text_again (kind ∷ body)), short)
