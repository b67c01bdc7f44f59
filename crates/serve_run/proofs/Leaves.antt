-- What all workers drew is what stands in the replies to all challenges.
use Rattle.std.proofs.Common.{◌≡◌, ℕ, zero, suc, ◌+◌, ◌%◌, ◌<◌, ◌≤◌, ◌==◌, ◌⊎◌, inl, inr, min, Bool, true, false, if◌then◌else◌, List, [], ◌∷◌, ◌++◌, length, get_or, refl, sym, ap, ◌∙◌, subst, arith}
use Rattle.std.proofs.lemmas.Bool.Decides.{nat_tests}
use Rattle.ar_base.specs.Counting.{one_if}
use Rattle.ar_seats.specs.Numbers.{HasEachBelow, once_below, times}
use Rattle.serve_run.specs.Serving.{dealt, drawn_in, serving_leaves}
use Rattle.serve_run.specs.Workers.{flat, missing_in}
use Rattle.serve_run.specs.declared.reply.Reply.{Reply}
use Rattle.serve_run.specs.declared.reply.Reply.TheVariants.{Signed, Exhausted}

-- ---- sums

sum_from : (ℕ → ℕ) → ℕ → ℕ → ℕ
sum_from f k zero = 0
sum_from f k (suc more) = f k + sum_from f (k + 1) more

sum-same : (f h : ℕ → ℕ) (k more : ℕ) → ((n : ℕ) → f n ≡ h n) → sum_from f k more ≡ sum_from h k more
unfolding sum_from
sum-same f h k zero e = refl
sum-same f h k (suc more) e = let here = e k in let others = sum-same f h (k + 1) more e in omega (arith, here, others)

sum-both : (f h : ℕ → ℕ) (k more : ℕ) → sum_from (λ n. f n + h n) k more ≡ sum_from f k more + sum_from h k more
unfolding sum_from
sum-both f h k zero = refl
sum-both f h k (suc more) = let others = sum-both f h (k + 1) more in omega (arith, others)

sum-none : (k more : ℕ) → sum_from (λ n. 0) k more ≡ 0
unfolding sum_from
sum-none k zero = refl
sum-none k (suc more) = let others = sum-none (k + 1) more in omega (arith, others)

abbrev only : ℕ → ℕ → ℕ → ℕ
only number weight n = if number == n then weight else 0

only-here : (number weight n : ℕ) → number ≡ n → only number weight n ≡ weight
only-here number weight n e = let t : (number == n) ≡ true = grind (arith, nat_tests) in rw t refl

only-else : (number weight n : ℕ) → (number < n) ⊎ (n < number) → only number weight n ≡ 0
only-else number weight n (inl lt) = let t : (number == n) ≡ false = grind (arith, nat_tests) in rw t refl
only-else number weight n (inr lt) = let t : (number == n) ≡ false = grind (arith, nat_tests) in rw t refl

sum-before : (number weight k more : ℕ) → number < k → sum_from (only number weight) k more ≡ 0
unfolding sum_from
sum-before number weight k zero lt = refl
sum-before number weight k (suc more) lt =
    let here = only-else number weight k (inl lt) in
    let others = sum-before number weight (k + 1) more (omega arith) in
    omega (arith, here, others)

sum-one-at : (number weight k more : ℕ) (b : Bool) → (number == k) ≡ b → k ≤ number → (k + 1 ≤ number → sum_from (only number weight) (k + 1) more ≡ weight) → only number weight k + sum_from (only number weight) (k + 1) more ≡ weight
sum-one-at number weight k more true e le others =
    let same : number ≡ k = grind (arith, nat_tests) in
    let here = only-here number weight k same in
    let none = sum-before number weight (k + 1) more (omega arith) in
    omega (arith, here, none)
sum-one-at number weight k more false e le others =
    let later : k < number = grind (arith, nat_tests) in
    let here = only-else number weight k (inr later) in
    let rest = others (omega arith) in
    omega (arith, here, rest)

sum-one : (number weight k more : ℕ) → k ≤ number → number < k + more → sum_from (only number weight) k more ≡ weight
unfolding sum_from
sum-one number weight k zero le lt = absurd (omega arith)
sum-one number weight k (suc more) le lt = sum-one-at number weight k more (number == k) refl le (λ later. sum-one number weight (k + 1) more later (omega arith))

-- ---- weights

abbrev weigh : (Reply → ℕ) → List Reply → ℕ
weigh g [] = 0
weigh g (reply ∷ replies) = g reply + weigh g replies

weigh-append : (g : Reply → ℕ) (replies more : List Reply) → weigh g (replies ++ more) ≡ weigh g replies + weigh g more
weigh-append g [] more = omega arith
weigh-append g (reply ∷ replies) more = let others = weigh-append g replies more in omega (arith, others)

weigh-if : (g : Reply → ℕ) (b : Bool) (reply : Reply) (replies : List Reply) → weigh g (if b then reply ∷ replies else replies) ≡ (if b then g reply else 0) + weigh g replies
weigh-if g true reply replies = refl
weigh-if g false reply replies = omega arith

-- what is dealt to all workers weighs what it weighs together
dealt-weighs : (g : Reply → ℕ) (workers number : ℕ) (replies : List Reply) → ((n : ℕ) → n % workers < workers) → sum_from (λ worker. weigh g (dealt workers worker number replies)) 0 workers ≡ weigh g replies
dealt-weighs g workers number [] turn = sum-none 0 workers
dealt-weighs g workers number (reply ∷ replies) turn =
    let split = sum-same (λ worker. weigh g (dealt workers worker number (reply ∷ replies))) (λ worker. only (number % workers) (g reply) worker + weigh g (dealt workers worker (number + 1) replies)) 0 workers
    (λ worker. weigh-if g (number % workers == worker) reply (dealt workers worker (number + 1) replies)) in
    let both = sum-both (only (number % workers) (g reply)) (λ worker. weigh g (dealt workers worker (number + 1) replies)) 0 workers in
    let here = sum-one (number % workers) (g reply) 0 workers (omega arith) (let t = turn number in omega arith) in
    let others = dealt-weighs g workers (number + 1) replies turn in
    omega (arith, split, both, here, others)

-- the rows one behind another weigh what they weigh by number
flat-weighs : (g : Reply → ℕ) (f : ℕ → ℕ) (k : ℕ) (rows : List (List Reply)) → ((n : ℕ) → n < length rows → f (k + n) ≡ weigh g (get_or rows n [])) → weigh g (flat rows) ≡ sum_from f k (length rows)
unfolding sum_from
flat-weighs g f k [] e = refl
flat-weighs g f k (row ∷ rows) e =
    let first = e 0 (omega arith) in
    let none : k + 0 ≡ k = omega arith in
    let here : f k ≡ weigh g row = ap f (sym none) ∙ first in
    let others = flat-weighs g f (k + 1) rows (λ n lt. let place : k + 1 + n ≡ k + suc n = omega arith in ap f place ∙ e (suc n) (omega arith)) in
    let both = weigh-append g row (flat rows) in
    omega (arith, here, others, both)

-- the replies weigh what the rows of all workers weigh
rows-weigh : (g : Reply → ℕ) (workers : ℕ) (rows : List (List Reply)) (replies : List Reply) → ((n : ℕ) → n % workers < workers) → length rows ≡ workers → ((worker : ℕ) → worker < workers → dealt workers worker 0 replies ≡ get_or rows worker []) → weigh g (flat rows) ≡ weigh g replies
rows-weigh g workers rows replies turn wide own =
    flat-weighs g (λ worker. weigh g (dealt workers worker 0 replies)) 0 rows (λ worker lt. let place : 0 + worker ≡ worker = omega arith in ap (λ w. weigh g (dealt workers w 0 replies)) place ∙ ap (λ (l : List Reply). weigh g l) (own worker (omega (arith, wide))))
    ∙ ap (λ n. sum_from (λ worker. weigh g (dealt workers worker 0 replies)) 0 n) wide
    ∙ dealt-weighs g workers 0 replies turn

-- ---- leaves

abbrev stands : ℕ → Reply → ℕ
stands number (Signed leaf digest) = one_if (number == leaf)
stands number Exhausted = 0

abbrev draws : Reply → ℕ
draws (Signed leaf digest) = 1
draws Exhausted = 0

abbrev lacks : Reply → ℕ
lacks (Signed leaf digest) = 0
lacks Exhausted = 1

times-is : (number : ℕ) (replies : List Reply) → times number (drawn_in replies) ≡ weigh (stands number) replies
times-is number [] = refl
times-is number (Signed leaf digest ∷ replies) = ap (λ n. one_if (number == leaf) + n) (times-is number replies)
times-is number (Exhausted ∷ replies) = let others = times-is number replies in omega (arith, others)

length-is : (replies : List Reply) → length (drawn_in replies) ≡ weigh draws replies
length-is [] = refl
length-is (Signed leaf digest ∷ replies) = let others = length-is replies in omega (arith, others)
length-is (Exhausted ∷ replies) = let others = length-is replies in omega (arith, others)

missing-is : (replies : List Reply) → missing_in replies ≡ weigh lacks replies
missing-is [] = refl
missing-is (Signed leaf digest ∷ replies) = let others = missing-is replies in omega (arith, others)
missing-is (Exhausted ∷ replies) = let others = missing-is replies in omega (arith, others)

all-is : (replies : List Reply) → length replies ≡ length (drawn_in replies) + missing_in replies
all-is [] = refl
all-is (Signed leaf digest ∷ replies) = let others = all-is replies in omega (arith, others)
all-is (Exhausted ∷ replies) = let others = all-is replies in omega (arith, others)

least-of : (n count leaves missing : ℕ) → n ≡ count + missing → count ≤ leaves → (0 < missing → count ≡ leaves) → min n leaves ≡ count
least-of n count leaves zero e le full = let same : n ≡ count = omega (arith, e) in omega arith
least-of n count leaves (suc missing) e le full = let same = full (omega arith) in omega arith

-- The leaves of the replies are the numbers below the lesser of how many replies and how many leaves there are, where all leaves
-- that were drawn are the numbers below their count.
pub each_leaf : (workers count seen : ℕ) (rows : List (List Reply)) (replies : List Reply) (drawn : List ℕ)
    → ((n : ℕ) → n % workers < workers) → length rows ≡ workers → ((worker : ℕ) → worker < workers → dealt workers worker 0 replies ≡ get_or rows worker [])
    → drawn ≡ drawn_in (flat rows) → (0 < missing_in (flat rows) → serving_leaves ≤ seen)
    → count ≡ length drawn → HasEachBelow count drawn → count ≤ serving_leaves → (serving_leaves ≤ seen → count ≡ serving_leaves)
    → HasEachBelow (min (length replies) serving_leaves) (drawn_in replies)
each_leaf workers count seen rows replies drawn turn wide own is past many each most full number =
    let drew = rows-weigh draws workers rows replies turn wide own in
    let lacked = rows-weigh lacks workers rows replies turn wide own in
    let stood = rows-weigh (stands number) workers rows replies turn wide own in
    let as_many : count ≡ length (drawn_in replies) = many ∙ ap length is ∙ length-is (flat rows) ∙ drew ∙ sym (length-is replies) in
    let missing : missing_in (flat rows) ≡ missing_in replies = missing-is (flat rows) ∙ lacked ∙ sym (missing-is replies) in
    let least = least-of (length replies) count serving_leaves (missing_in replies) (all-is replies ∙ ap (λ n. n + missing_in replies) (sym as_many)) most (λ some. full (past (subst (λ n. 0 < n) (sym missing) some))) in
    times-is number replies ∙ sym stood ∙ sym (times-is number (flat rows)) ∙ ap (times number) (sym is) ∙ each number ∙ ap (λ n. once_below n number) (sym least)
