-- Bytes that are composed piece by piece.
use Rattle.std.proofs.Common.{◌≡◌, ℕ, ◌+◌, Bool, true, false, cond, leb, List, [], ◌∷◌, ◌++◌, length, Option, Some, None, Result, Ok, Err, refl, sym, ap, ◌∙◌, append_assoc, arith, length-append}
use Rattle.std.specs.Option.{ok_or}
use Rattle.std.proofs.lemmas.Bool.{leb-false, lt-leb}
use Rattle.ar_base.specs.Chaining.{◌>>=◌, need}
use Rattle.ar_message.specs.Messages.{longest}
use Rattle.script_text.proofs.Parts.{words_counted}
use Rattle.ar_nodes.specs.Composing.{all_of, grown, grown_by, composed, composed_from, piece_of}
use Rattle.ar_nodes.specs.Finding.{named}
use Rattle.ar_nodes.specs.Pool.{Pooled}
use Rattle.ar_nodes.specs.declared.fault.WorldFault.{WorldFault}
use Rattle.ar_nodes.specs.declared.fault.WorldFault.TheVariants.{Absent, Limit}

-- bytes behind others are as many as both parts of them, one behind the other
grown-twice : (t : Option (List ℕ)) (a b : List ℕ) → grown t (a ++ b) ≡ grown (grown t a) b
grown-twice None a b = refl
grown-twice (Some bytes) a b = by (leb (length bytes + length a) longest) refl
  where
    long : length bytes + length (a ++ b) ≡ length (bytes ++ a) + length b
    long = omega (arith, length-append a b, length-append bytes a)

    by : (fits : Bool) → leb (length bytes + length a) longest ≡ fits → grown (Some bytes) (a ++ b) ≡ grown (grown (Some bytes) a) b
    by true fits =
        let first : grown (Some bytes) a ≡ Some (bytes ++ a) = rw fits refl in
        ap (λ n. cond (leb n longest) (Some (bytes ++ (a ++ b))) None) long
        ∙ ap (λ all. cond (leb (length (bytes ++ a) + length b) longest) (Some all) None) (sym (append_assoc bytes a b))
        ∙ sym (ap (λ t. grown t b) first)
    by false over =
        let first : grown (Some bytes) a ≡ None = rw over refl in
        let all : leb (length bytes + length (a ++ b)) longest ≡ false = lt-leb _ _ (omega (arith, leb-false _ _ over, length-append a b)) in
        let whole : grown (Some bytes) (a ++ b) ≡ None = rw all refl in
        whole ∙ sym (ap (λ t. grown t b) first)

all-more : (t : Option (List ℕ)) (a : List ℕ) (rest : Result (List ℕ) WorldFault) → all_of t (rest >>= (λ b. Ok (a ++ b))) ≡ all_of (grown t a) rest
all-more t a (Ok b) = ap (λ l. ok_or l Limit) (grown-twice t a b)
all-more t a (Err fault) = refl

-- what is composed of bytes and of a piece with others behind it
pub all-taken : (pool : List Pooled) (number : ℕ) (word : List ℕ) (more : List (List ℕ)) (t new : Option (List ℕ)) → grown_by t number (piece_of pool word) ≡ Ok new
    → all_of t (composed_from pool number (word ∷ more)) ≡ all_of new (composed_from pool (number + 1) more)
all-taken pool number word more t new = by (piece_of pool word)
  where
    by : (found : Option (List ℕ)) → grown_by t number found ≡ Ok new
        → all_of t (named number found >>= (λ a. composed_from pool (number + 1) more >>= (λ b. Ok (a ++ b)))) ≡ all_of new (composed_from pool (number + 1) more)
    by None h = absurd cc
    by (Some a) h = all-more t a (composed_from pool (number + 1) more) ∙ ap (λ x. all_of x (composed_from pool (number + 1) more)) (let e : grown t a ≡ new = cc in e)

pub all-refused : (pool : List Pooled) (number : ℕ) (word : List ℕ) (more : List (List ℕ)) (t : Option (List ℕ)) (fault : WorldFault) → grown_by t number (piece_of pool word) ≡ Err fault
    → all_of t (composed_from pool number (word ∷ more)) ≡ Err fault
all-refused pool number word more t fault = by (piece_of pool word)
  where
    by : (found : Option (List ℕ)) → grown_by t number found ≡ Err fault
        → all_of t (named number found >>= (λ a. composed_from pool (number + 1) more >>= (λ b. Ok (a ++ b)))) ≡ Err fault
    by None h = let e : Absent number ≡ fault = cc in ap (λ f. Err f) e
    by (Some a) h = absurd cc

-- and of no bytes yet and all pieces
fits-first : (fits : Bool) (bytes : List ℕ) → (need fits Limit >>= (λ _. Ok bytes)) ≡ ok_or (cond fits (Some bytes) None) Limit
fits-first true bytes = refl
fits-first false bytes = refl

pub all-first : (pool : List Pooled) (pieces : List (List ℕ)) → composed pool pieces ≡ all_of (Some []) (composed_from pool 2 pieces)
all-first pool pieces = by (composed_from pool 2 pieces)
  where
    by : (made : Result (List ℕ) WorldFault) → (made >>= (λ bytes. need (leb (length bytes) longest) Limit >>= (λ _. Ok bytes))) ≡ all_of (Some []) made
    by (Ok bytes) =
        let same : length bytes ≡ 0 + length bytes = omega arith in
        fits-first (leb (length bytes) longest) bytes ∙ ap (λ n. ok_or (cond (leb n longest) (Some bytes) None) Limit) same
    by (Err fault) = refl

pub ruleset piece_laws = (all-taken, all-refused, all-first, words_counted)
