-- Things that are dealt to workers one after another.
use Rattle.std.proofs.Common.{◌≡◌, ℕ, suc, ◌+◌, ◌%◌, ◌<◌, ◌==◌, Bool, true, false, if◌then◌else◌, List, [], ◌∷◌, ◌++◌, length, drop, get_or, ap, sym, ◌∙◌, refl, arith}
use Rattle.std.proofs.lemmas.List.{append-nil, drop_more}
use Rattle.serve_run.specs.Serving.{dealt}

-- the next thing is the worker's own
pub dealt_own : {A : Type 0} (workers worker number : ℕ) (thing : A) (things : List A) → (number % workers == worker) ≡ true → dealt workers worker number (thing ∷ things) ≡ thing ∷ dealt workers worker (number + 1) things
dealt_own workers worker number thing things e = rw e refl

-- the next thing is another worker's
pub dealt_other : {A : Type 0} (workers worker number : ℕ) (thing : A) (things : List A) → (number % workers == worker) ≡ false → dealt workers worker number (thing ∷ things) ≡ dealt workers worker (number + 1) things
dealt_other workers worker number thing things e = rw e refl

-- the same, of what is left of a list
pub left_own : {A : Type 0} (workers worker number : ℕ) (things : List A) (d : A) → number < length things → (number % workers == worker) ≡ true → dealt workers worker number (drop number things) ≡ get_or things number d ∷ dealt workers worker (number + 1) (drop (number + 1) things)
left_own {A = A} workers worker number things d lt e =
    ap (λ (l : List A). dealt workers worker number l) (drop_more things number d lt)
    ∙ dealt_own workers worker number (get_or things number d) (drop (number + 1) things) e

pub left_other : {A : Type 0} (workers worker number : ℕ) (things : List A) (d : A) → number < length things → (number % workers == worker) ≡ false → dealt workers worker number (drop number things) ≡ dealt workers worker (number + 1) (drop (number + 1) things)
left_other {A = A} workers worker number things d lt e =
    ap (λ (l : List A). dealt workers worker number l) (drop_more things number d lt)
    ∙ dealt_other workers worker number (get_or things number d) (drop (number + 1) things) e

if-append : {A : Type 0} (b : Bool) (first : A) (xs ys more : List A) → xs ≡ ys ++ more → (if b then first ∷ xs else xs) ≡ (if b then first ∷ ys else ys) ++ more
if-append true first xs ys more e = ap (λ l. first ∷ l) e
if-append false first xs ys more e = e

-- one thing more behind the others is the worker's own
pub dealt_last : {A : Type 0} (workers worker number : ℕ) (things : List A) (thing : A) → ((number + length things) % workers == worker) ≡ true → dealt workers worker number (things ++ thing ∷ []) ≡ dealt workers worker number things ++ thing ∷ []
dealt_last {A = A} workers worker number [] thing e =
    let place : number + length {A = A} [] ≡ number = omega arith in
    dealt_own workers worker number thing [] (ap (λ n. n % workers == worker) (sym place) ∙ e)
dealt_last workers worker number (first ∷ things) thing e =
    let place : number + 1 + length things ≡ number + suc (length things) = omega arith in
    let others = dealt_last workers worker (number + 1) things thing (ap (λ n. n % workers == worker) place ∙ e) in
    if-append (number % workers == worker) first _ _ (thing ∷ []) others

-- or another worker's
pub dealt_last_other : {A : Type 0} (workers worker number : ℕ) (things : List A) (thing : A) → ((number + length things) % workers == worker) ≡ false → dealt workers worker number (things ++ thing ∷ []) ≡ dealt workers worker number things
dealt_last_other {A = A} workers worker number [] thing e =
    let place : number + length {A = A} [] ≡ number = omega arith in
    dealt_other workers worker number thing [] (ap (λ n. n % workers == worker) (sym place) ∙ e)
dealt_last_other workers worker number (first ∷ things) thing e =
    let place : number + 1 + length things ≡ number + suc (length things) = omega arith in
    let others = dealt_last_other workers worker (number + 1) things thing (ap (λ n. n % workers == worker) place ∙ e) in
    let same = if-append (number % workers == worker) first _ _ [] (others ∙ sym (append-nil (dealt workers worker (number + 1) things))) in
    same ∙ append-nil _
