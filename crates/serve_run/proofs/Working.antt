-- One reply more of a worker.
use Rattle.std.proofs.Common.{◌≡◌, ℕ, zero, suc, ◌+◌, ◌<◌, ◌≤◌, List, [], ◌∷◌, ◌++◌, refl, sym, ap, ◌∙◌, subst, arith}
use Rattle.std.proofs.lemmas.List.{append-nil}
use Rattle.std.specs.List.{AllByRecursion, AllZip}
use Rattle.ar_seats.specs.Numbers.{IsBelowEach}
use Rattle.leaf_book.specs.Book.{Draws, FindsNone, LeafSeatParts}
use Rattle.serve_run.specs.Reading.{Service}
use Rattle.serve_run.specs.Serving.{IsInTurn, IsReply, drawn_in, serving_leaves}
use Rattle.serve_run.specs.Workers.{Draws_for, Replies, missing_in}
use Rattle.serve_run.specs.declared.reply.Reply.{Reply}
use Rattle.serve_run.specs.declared.reply.Reply.TheVariants.{Signed, Exhausted}

missing-none : (n : ℕ) → (0 < n → ⊥) → n ≡ 0
missing-none zero never = refl
missing-none (suc n) never = absurd (never (omega arith))

pub zip_last : {A B : Type 0} (R : A → B → Type 0) (xs : List A) (ys : List B) (x : A) (y : B) → AllZip R xs ys → R x y → AllZip R (xs ++ x ∷ []) (ys ++ y ∷ [])
zip_last R [] [] x y all here = (here, tt)
zip_last R [] (b ∷ ys) x y all here = absurd all
zip_last R (a ∷ xs) [] x y all here = absurd all
zip_last R (a ∷ xs) (b ∷ ys) x y all here = (all.0, zip_last R xs ys x y all.1 here)

pub drawn_in-append : (replies more : List Reply) → drawn_in (replies ++ more) ≡ drawn_in replies ++ drawn_in more
drawn_in-append [] more = refl
drawn_in-append (Signed leaf digest ∷ replies) more = ap (λ (l : List ℕ). leaf ∷ l) (drawn_in-append replies more)
drawn_in-append (Exhausted ∷ replies) more = drawn_in-append replies more

pub missing_in-append : (replies more : List Reply) → missing_in (replies ++ more) ≡ missing_in replies + missing_in more
missing_in-append [] more = omega arith
missing_in-append (Signed leaf digest ∷ replies) more = missing_in-append replies more
missing_in-append (Exhausted ∷ replies) more = let others = missing_in-append replies more in omega (arith, others)

below-last : (bound leaf : ℕ) (leaves : List ℕ) → AllByRecursion (λ l. l < bound) leaves → bound ≤ leaf → AllByRecursion (λ l. l < leaf + 1) (leaves ++ leaf ∷ [])
below-last bound leaf [] all le = (omega arith, tt)
below-last bound leaf (first ∷ leaves) all le = let here = all.0 in (omega arith, below-last bound leaf leaves all.1 le)

below-more : (bound more : ℕ) (leaves : List ℕ) → AllByRecursion (λ l. l < bound) leaves → bound ≤ more → AllByRecursion (λ l. l < more) leaves
below-more bound more [] all le = tt
below-more bound more (first ∷ leaves) all le = let here = all.0 in (omega arith, below-more bound more leaves all.1 le)

each-last : (number bound leaf : ℕ) (leaves : List ℕ) → IsBelowEach number leaves → number < leaf → IsBelowEach number (leaves ++ leaf ∷ [])
each-last number bound leaf [] each lt = (lt, tt)
each-last number bound leaf (first ∷ leaves) each lt = (each.0, each-last number bound leaf leaves each.1 lt)

-- a leaf behind those that were drawn
turn-signed : (replies : List Reply) (bound leaf : ℕ) (digest : List ℕ) → IsInTurn replies → AllByRecursion (λ l. l < bound) (drawn_in replies) → bound ≤ leaf → missing_in replies ≡ 0 → IsInTurn (replies ++ Signed leaf digest ∷ [])
turn-signed [] bound leaf digest turn below le none = (tt, tt)
turn-signed (Signed first d ∷ replies) bound leaf digest turn below le none =
    let here = below.0 in
    let each = each-last first bound leaf (drawn_in replies) turn.0 (omega arith) in (
      subst (λ l. IsBelowEach first l) (sym (drawn_in-append replies (Signed leaf digest ∷ []))) each,
      turn-signed replies bound leaf digest turn.1 below.1 le none,
    )
turn-signed (Exhausted ∷ replies) bound leaf digest turn below le none = absurd (omega (arith, none))

-- no leaf was left
turn-none : (replies : List Reply) → IsInTurn replies → IsInTurn (replies ++ Exhausted ∷ [])
turn-none [] turn = refl
turn-none (Signed first d ∷ replies) turn =
    let same : drawn_in replies ≡ drawn_in (replies ++ Exhausted ∷ []) = sym (drawn_in-append replies (Exhausted ∷ []) ∙ append-nil (drawn_in replies)) in
    (subst (λ l. IsBelowEach first l) same turn.0, turn-none replies turn.1)
turn-none (Exhausted ∷ replies) turn = (drawn_in-append replies (Exhausted ∷ []) ∙ append-nil (drawn_in replies)) ∙ turn

replied-signed : (service : Service) (own : List (List ℕ)) (old new : LeafSeatParts) (replies : List Reply) (challenge : List ℕ) (leaf : ℕ) (digest : List ℕ) → Replies service own old replies → old.book.leaves ≡ serving_leaves → IsReply service challenge (Signed leaf digest) → Draws old leaf new → Replies service (own ++ challenge ∷ []) new (replies ++ Signed leaf digest ∷ [])
replied-signed service own old new replies challenge leaf digest so_far book reply draws =
    let seen : new.seen ≡ leaf + 1 = ap (λ (s : LeafSeatParts). s.seen) draws.after in
    let drawn : new.drawn ≡ old.drawn ++ leaf ∷ [] = ap (λ (s : LeafSeatParts). s.drawn) draws.after in
    let low = draws.below in
    let later = draws.later in
    let none : missing_in replies ≡ 0 = missing-none (missing_in replies) (λ some. let past = so_far.past some in absurd (omega (arith, book))) in record {
      signed = zip_last (IsReply service) own replies challenge (Signed leaf digest) so_far.signed reply;
      drawn = drawn ∙ ap (λ (l : List ℕ). l ++ leaf ∷ []) so_far.drawn ∙ sym (drawn_in-append replies (Signed leaf digest ∷ []));
      turns = turn-signed replies old.seen leaf digest so_far.turns so_far.below later none;
      below = subst (λ l. AllByRecursion (λ n. n < new.seen) l) (sym (drawn_in-append replies (Signed leaf digest ∷ [])))
          (subst (λ bound. AllByRecursion (λ n. n < bound) (drawn_in replies ++ leaf ∷ [])) (sym seen) (below-last old.seen leaf (drawn_in replies) so_far.below later));
      past = λ some. absurd (omega (arith, some, none, missing_in-append replies (Signed leaf digest ∷ [])));
    }

replied-none : (service : Service) (own : List (List ℕ)) (old new : LeafSeatParts) (replies : List Reply) (challenge : List ℕ) (word : ℕ) → Replies service own old replies → old.book.leaves ≡ serving_leaves → FindsNone old word new → Replies service (own ++ challenge ∷ []) new (replies ++ Exhausted ∷ [])
replied-none service own old new replies challenge word so_far book none =
    let seen : new.seen ≡ word = ap (λ (s : LeafSeatParts). s.seen) none.after in
    let drawn : new.drawn ≡ old.drawn = ap (λ (s : LeafSeatParts). s.drawn) none.after in
    let past = none.past in
    let same : drawn_in replies ≡ drawn_in (replies ++ Exhausted ∷ []) = sym (drawn_in-append replies (Exhausted ∷ []) ∙ append-nil (drawn_in replies)) in record {
      signed = zip_last (IsReply service) own replies challenge Exhausted so_far.signed tt;
      drawn = drawn ∙ so_far.drawn ∙ same;
      turns = turn-none replies so_far.turns;
      below = subst (λ l. AllByRecursion (λ n. n < new.seen) l) same
          (subst (λ bound. AllByRecursion (λ n. n < bound) (drawn_in replies)) (sym seen) (below-more old.seen word (drawn_in replies) so_far.below none.later));
      past = λ some. omega (arith, book, seen);
    }

-- one reply more
pub replied : (service : Service) (own : List (List ℕ)) (old new : LeafSeatParts) (replies : List Reply) (challenge : List ℕ) (reply : Reply) → Replies service own old replies → old.book.leaves ≡ serving_leaves → IsReply service challenge reply → Draws_for old reply new → Replies service (own ++ challenge ∷ []) new (replies ++ reply ∷ [])
replied service own old new replies challenge (Signed leaf digest) so_far book is draws = replied-signed service own old new replies challenge leaf digest so_far book is draws
replied service own old new replies challenge Exhausted so_far book is none = replied-none service own old new replies challenge none.0 so_far book none.1
