-- What a worker has done before and behind each challenge.
use Rattle.std.proofs.Common.{◌≡◌, ◌≢◌, ℕ, ◌+◌, ◌%◌, ◌<◌, ◌==◌, true, false, List, [], ◌∷◌, ◌++◌, length, drop, get_or, refl, sym, ap, ◌∙◌, subst, append_assoc, arith}
use Rattle.std.proofs.lemmas.List.{append-nil}
use Rattle.std.proofs.Math.Seq.{drop-length}
use Rattle.std.proofs.lemmas.Bool.Decides.{nat_tests}
use Rattle.leaf_book.specs.Book.{LeafBookParts, LeafSeatParts}
use Rattle.serve_run.specs.Reading.{Service}
use Rattle.serve_run.specs.Serving.{IsReply, dealt, serving_leaves}
use Rattle.serve_run.specs.Workers.{Draws_for, Replies, Works}
use Rattle.serve_run.specs.declared.reply.Reply.{Reply}
use Rattle.serve_run.specs.declared.reply.Reply.TheVariants.{Signed, Exhausted}
use Rattle.serve_run.proofs.Dealing.{left_own, left_other}
use Rattle.serve_run.proofs.Working.{replied}

book-kept : (old new : LeafSeatParts) (reply : Reply) → Draws_for old reply new → new.book ≡ old.book
book-kept old new (Signed leaf digest) draws = ap (λ (s : LeafSeatParts). s.book) draws.after
book-kept old new Exhausted none = let found = none.1 in ap (λ (s : LeafSeatParts). s.book) found.after

share-kept : (old new : LeafSeatParts) (reply : Reply) → Draws_for old reply new → new.share ≡ old.share
share-kept old new (Signed leaf digest) draws = ap (λ (s : LeafSeatParts). s.share) draws.after
share-kept old new Exhausted none = let found = none.1 in ap (λ (s : LeafSeatParts). s.share) found.after

-- before the first challenge
pub works_first : (service : Service) (workers worker : ℕ) (book : LeafBookParts) (seat : LeafSeatParts) → seat.book ≡ book → seat.drawn ≡ [] → Works service workers worker book seat.share 0 seat []
works_first service workers worker book seat own none = record {
  own = [];
  front = refl;
  replied = record { signed = tt; drawn = none; turns = tt; below = tt; past = λ some. absurd (omega (arith, some)) };
  book_is = own;
  share_is = refl;
}

-- one of its own
pub works_own : (service : Service) (workers worker : ℕ) (book : LeafBookParts) (share number : ℕ) (old new : LeafSeatParts) (replies : List Reply) (challenge : List ℕ) (reply : Reply)
    → number < length service.challenges → number % workers ≡ worker → challenge ≡ get_or service.challenges number challenge → book.leaves ≡ serving_leaves
    → IsReply service challenge reply → Draws_for old reply new
    → Works service workers worker book share number old replies → Works service workers worker book share (number + 1) new (replies ++ reply ∷ [])
works_own service workers worker book share number old new replies challenge reply lt turn at leaves is draws works =
    let test : (number % workers == worker) ≡ true = grind (arith, nat_tests) in
    let left = left_own workers worker number service.challenges challenge lt test in record {
      own = works.own ++ challenge ∷ [];
      front = append_assoc works.own (challenge ∷ []) _
          ∙ ap (λ c. works.own ++ c ∷ dealt workers worker (number + 1) (drop (number + 1) service.challenges)) at
          ∙ ap (λ l. works.own ++ l) (sym left) ∙ works.front;
      replied = replied service works.own old new replies challenge reply works.replied (ap (λ (b : LeafBookParts). b.leaves) works.book_is ∙ leaves) is draws;
      book_is = book-kept old new reply draws ∙ works.book_is;
      share_is = share-kept old new reply draws ∙ works.share_is;
    }

-- one of another worker
pub works_other : (service : Service) (workers worker : ℕ) (book : LeafBookParts) (share number : ℕ) (seat : LeafSeatParts) (replies : List Reply)
    → number < length service.challenges → number % workers ≢ worker
    → Works service workers worker book share number seat replies → Works service workers worker book share (number + 1) seat replies
works_other service workers worker book share number seat replies lt other works =
    let test : (number % workers == worker) ≡ false = grind (arith, nat_tests) in record {
      own = works.own;
      front = ap (λ l. works.own ++ l) (sym (left_other workers worker number service.challenges [] lt test)) ∙ works.front;
      replied = works.replied;
      book_is = works.book_is;
      share_is = works.share_is;
    }

-- behind the last one
pub works_all : (service : Service) (workers worker : ℕ) (book : LeafBookParts) (share number : ℕ) (seat : LeafSeatParts) (replies : List Reply)
    → number ≡ length service.challenges → Works service workers worker book share number seat replies → Replies service (dealt workers worker 0 service.challenges) seat replies
works_all service workers worker book share number seat replies end works =
    let none : dealt workers worker number (drop number service.challenges) ≡ [] = ap (λ l. dealt workers worker number l) (ap (λ n. drop n service.challenges) end ∙ drop-length service.challenges) in
    let own = sym (append-nil works.own) ∙ ap (λ l. works.own ++ l) (sym none) ∙ works.front in
    subst (λ l. Replies service l seat replies) own works.replied

pub ruleset work_laws = (works_first, works_own, works_other, works_all)
