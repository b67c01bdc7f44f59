-- What all workers bring back, from their posts to the joined seat.
use Rattle.std.proofs.Common.{◌≡◌, ℕ, zero, suc, ◌+◌, ◌-◌, ◌/◌, ◌%◌, ◌<◌, ◌≤◌, List, [], ◌∷◌, ◌++◌, length, map, get_or, All, Result, Ok, Err, IfOk, refl, sym, ap, ◌∙◌, subst, append_assoc, length-append, arith}
use Rattle.std.proofs.lemmas.List.{append-nil}
use Rattle.std.proofs.lemmas.List.Elements.{All-nil, All-cons}
use Rattle.std.specs.List.{AllByRecursion, AllZip}
use Rattle.ar_seats.specs.Shares.{given_of, left_of, whole}
use Rattle.ar_seats.specs.Totals.{total}
use Rattle.ar_seats.proofs.TotalsLemmas.{total-append}
use Rattle.leaf_book.specs.Book.{LeafBookParts, LeafSeatParts, given_seat, joined_seat, left_seat}
use Rattle.serve_run.specs.Reading.{Service}
use Rattle.serve_run.specs.Serving.{IsInTurn, IsReply, dealt, drawn_in, serving_leaves}
use Rattle.serve_run.specs.Workers.{AreNumbered, Brings, IsFresh, MayTell, Post, Posted, Tells, Told, flat, joined_all, missing_in}
use Rattle.serve_run.specs.declared.reply.Reply.{Reply}
use Rattle.serve_run.proofs.Working.{drawn_in-append, missing_in-append}

pub map_front : {A B : Type 0} (f : A → B) (xs : List A) (x : A) (rest : List B) → map f (xs ++ x ∷ []) ++ rest ≡ map f xs ++ f x ∷ rest
map_front f [] x rest = refl
map_front f (first ∷ xs) x rest = ap (λ l. f first ∷ l) (map_front f xs x rest)

-- a fact at each place of two lists
pub zip_places : {A B : Type 0} (R : A → B → Type 0) (xs : List A) (ys : List B) → length ys ≡ length xs → ((i : ℕ) (x : A) (y : B) → i < length xs → R (get_or xs i x) (get_or ys i y)) → AllZip R xs ys
zip_places R [] [] e each = tt
zip_places R [] (y ∷ ys) e each = absurd (omega (arith, e))
zip_places R (x ∷ xs) [] e each = absurd (omega (arith, e))
zip_places R (x ∷ xs) (y ∷ ys) e each = (each 0 x y (omega arith), zip_places R xs ys (omega (arith, e)) (λ i a b lt. each (suc i) a b (omega arith)))

-- ---- posts

numbered-last : (book : LeafBookParts) (number : ℕ) (posts : List Post) (post : Post) → AreNumbered book number posts → post.worker ≡ number + length posts → IsFresh book post.seat → AreNumbered book number (posts ++ post ∷ [])
numbered-last book number [] post all e fresh = (omega (arith, e), fresh, tt)
numbered-last book number (first ∷ posts) post all e fresh = (all.0, all.1, numbered-last book (number + 1) posts post all.2 (omega (arith, e)) fresh)

pub posted_none : (book : LeafBookParts) (seat : LeafSeatParts) → IsFresh book seat → Posted book seat.share 0 seat []
posted_none book seat fresh = record { own = fresh; length_is = refl; numbered = tt; shares = omega arith }

halves : (share : ℕ) → left_of share + given_of share ≡ share
halves share = omega arith

pub posted_next : (book : LeafBookParts) (share many : ℕ) (seat new given : LeafSeatParts) (posts : List Post) → Posted book share many seat posts → new ≡ left_seat seat → given ≡ given_seat seat → Posted book share (many + 1) new (posts ++ record { worker = many; seat = given } ∷ [])
posted_next book share many seat new given posts posted left gave =
    let post : Post = record { worker = many; seat = given } in
    let fresh = posted.own in
    let given_book : given.book ≡ book = ap (λ (s : LeafSeatParts). s.book) gave ∙ fresh.own in
    let given_none : given.drawn ≡ [] = ap (λ (s : LeafSeatParts). s.drawn) gave in
    let half : new.share ≡ left_of seat.share = ap (λ (s : LeafSeatParts). s.share) left in
    let other : given.share ≡ given_of seat.share = ap (λ (s : LeafSeatParts). s.share) gave in
    let both = halves seat.share in
    let as_before = posted.shares in
    let many_is = posted.length_is in
    let sum = total-append (λ (p : Post). p.seat.share) posts (post ∷ []) in record {
      own = record { own = ap (λ (s : LeafSeatParts). s.book) left ∙ fresh.own; none = ap (λ (s : LeafSeatParts). s.drawn) left ∙ fresh.none };
      length_is = omega (arith, many_is, length-append posts (post ∷ []));
      numbered = numbered-last book 0 posts post posted.numbered (omega (arith, many_is)) (record { own = given_book; none = given_none });
      shares = omega (arith, sum, half, other, both, as_before);
    }

pub all_fresh : (book : LeafBookParts) (number : ℕ) (posts : List Post) → AreNumbered book number posts → All (λ (post : Post). IsFresh book post.seat) posts
all_fresh book number [] all = All-nil (λ (post : Post). IsFresh book post.seat)
all_fresh book number (post ∷ posts) all = All-cons (λ (post : Post). IsFresh book post.seat) post posts all.1 (all_fresh book (number + 1) posts all.2)

-- ---- what was told

pub told_all : (E : Type 0) (service : Service) (workers : ℕ) (posts : List Post) (told : List Told) → AllZip (MayTell {E = E} service workers) posts (map Ok told) → AllZip (Tells service workers) posts told
told_all E service workers [] [] all = tt
told_all E service workers [] (t ∷ told) all = absurd all
told_all E service workers (p ∷ posts) [] all = absurd all
told_all E service workers (p ∷ posts) (t ∷ told) all = (all.0, told_all E service workers posts told all.1)

ok-then : {T E : Type 0} (P Q : T → Type 0) (result : Result T E) → IfOk result P → ((x : T) → P x → Q x) → IfOk result Q
ok-then P Q (Ok x) is then = then x is
ok-then P Q (Err error) is then = tt

-- all told, where none lacked the memory
pub told_each : {D E F : Type 0} (items_of : D → List Told) (service : Service) (workers : ℕ) (posts : List Post) (results : List (Result Told E)) (result : Result D F)
    → AllZip (MayTell service workers) posts results → IfOk result (λ all. results ≡ map Ok (items_of all)) → IfOk result (λ all. AllZip (Tells service workers) posts (items_of all))
told_each {E = E} items_of service workers posts results result each is =
    ok-then (λ all. results ≡ map Ok (items_of all)) (λ all. AllZip (Tells service workers) posts (items_of all)) result is
    (λ all same. told_all E service workers posts (items_of all) (subst (λ l. AllZip (MayTell {E = E} service workers) posts l) same each))

pub told_books : (service : Service) (workers : ℕ) (book : LeafBookParts) (number : ℕ) (posts : List Post) (told : List Told) → AreNumbered book number posts → AllZip (Tells service workers) posts told → AllByRecursion (λ (t : Told). t.seat.book ≡ book) told
told_books service workers book number [] [] numbered all = tt
told_books service workers book number [] (t ∷ told) numbered all = absurd all
told_books service workers book number (p ∷ posts) [] numbered all = absurd all
told_books service workers book number (p ∷ posts) (t ∷ told) numbered all =
    let tells = all.0 in let fresh = numbered.1 in
    (tells.book ∙ fresh.own, told_books service workers book (number + 1) posts told numbered.2 all.1)

told-share : (service : Service) (workers : ℕ) (posts : List Post) (told : List Told) → AllZip (Tells service workers) posts told → total (λ (t : Told). t.seat.share) told ≡ total (λ (p : Post). p.seat.share) posts
told-share service workers [] [] all = refl
told-share service workers [] (t ∷ told) all = absurd all
told-share service workers (p ∷ posts) [] all = absurd all
told-share service workers (p ∷ posts) (t ∷ told) all =
    let tells = all.0 in let here = tells.share in let more = told-share service workers posts told all.1 in omega (arith, here, more)

told-length : (service : Service) (workers : ℕ) (posts : List Post) (told : List Told) → AllZip (Tells service workers) posts told → length (map (λ (t : Told). t.replies) told) ≡ length posts
told-length service workers [] [] all = refl
told-length service workers [] (t ∷ told) all = absurd all
told-length service workers (p ∷ posts) [] all = absurd all
told-length service workers (p ∷ posts) (t ∷ told) all = ap suc (told-length service workers posts told all.1)

told-rows : (service : Service) (workers : ℕ) (book : LeafBookParts) (number : ℕ) (posts : List Post) (told : List Told) → AreNumbered book number posts → AllZip (Tells service workers) posts told
    → (n : ℕ) → n < length posts → AllZip (IsReply service) (dealt workers (number + n) 0 service.challenges) (get_or (map (λ (t : Told). t.replies) told) n [])
told-rows service workers book number [] told numbered all n lt = absurd (omega arith)
told-rows service workers book number (p ∷ posts) [] numbered all n lt = absurd all
told-rows service workers book number (p ∷ posts) (t ∷ told) numbered all zero lt =
    let tells = all.0 in let replied = tells.replied in
    let place : p.worker ≡ number + 0 = omega (arith, numbered.0) in
    subst (λ w. AllZip (IsReply service) (dealt workers w 0 service.challenges) t.replies) place replied.signed
told-rows service workers book number (p ∷ posts) (t ∷ told) numbered all (suc n) lt =
    let place : number + 1 + n ≡ number + suc n = omega arith in
    subst (λ w. AllZip (IsReply service) (dealt workers w 0 service.challenges) (get_or (map (λ (t : Told). t.replies) told) n [])) place
    (told-rows service workers book (number + 1) posts told numbered.2 all.1 n (omega arith))

told-turns : (service : Service) (workers : ℕ) (posts : List Post) (told : List Told) → AllZip (Tells service workers) posts told
    → (n : ℕ) → n < length posts → IsInTurn (get_or (map (λ (t : Told). t.replies) told) n [])
told-turns service workers [] told all n lt = absurd (omega arith)
told-turns service workers (p ∷ posts) [] all n lt = absurd all
told-turns service workers (p ∷ posts) (t ∷ told) all zero lt = let tells = all.0 in let replied = tells.replied in replied.turns
told-turns service workers (p ∷ posts) (t ∷ told) all (suc n) lt = told-turns service workers posts told all.1 n (omega arith)

-- ---- the joined seat

joined-book : (seat : LeafSeatParts) (told : List Told) → (joined_all seat told).book ≡ seat.book
joined-book seat [] = refl
joined-book seat (t ∷ told) = joined-book (joined_seat seat t.seat) told

joined-share : (seat : LeafSeatParts) (told : List Told) → (joined_all seat told).share ≡ seat.share + total (λ (t : Told). t.seat.share) told
joined-share seat [] = omega arith
joined-share seat (t ∷ told) = let more = joined-share (joined_seat seat t.seat) told in omega (arith, more)

joined-seen : (seat : LeafSeatParts) (told : List Told) → seat.seen ≤ (joined_all seat told).seen
joined-seen seat [] = omega arith
joined-seen seat (t ∷ told) = let more = joined-seen (joined_seat seat t.seat) told in omega (arith, more)

joined-drawn : (service : Service) (workers : ℕ) (seat : LeafSeatParts) (posts : List Post) (told : List Told) → AllZip (Tells service workers) posts told
    → (joined_all seat told).drawn ≡ seat.drawn ++ drawn_in (flat (map (λ (t : Told). t.replies) told))
joined-drawn service workers seat [] [] all = sym (append-nil seat.drawn)
joined-drawn service workers seat [] (t ∷ told) all = absurd all
joined-drawn service workers seat (p ∷ posts) [] all = absurd all
joined-drawn service workers seat (p ∷ posts) (t ∷ told) all =
    let tells = all.0 in let replied = tells.replied in
    let rest = flat (map (λ (t : Told). t.replies) told) in
    joined-drawn service workers (joined_seat seat t.seat) posts told all.1
    ∙ append_assoc seat.drawn t.seat.drawn (drawn_in rest)
    ∙ ap (λ l. seat.drawn ++ l) (ap (λ l. l ++ drawn_in rest) replied.drawn ∙ sym (drawn_in-append t.replies rest))

past-one : (n m limit seen : ℕ) → (0 < n → limit ≤ seen) → (0 < m → limit ≤ seen) → 0 < n + m → limit ≤ seen
past-one zero m limit seen here more some = more (omega (arith, some))
past-one (suc n) m limit seen here more some = here (omega arith)

joined-past : (service : Service) (workers : ℕ) (seat : LeafSeatParts) (posts : List Post) (told : List Told) → AllZip (Tells service workers) posts told
    → 0 < missing_in (flat (map (λ (t : Told). t.replies) told)) → serving_leaves ≤ (joined_all seat told).seen
joined-past service workers seat [] [] all some = absurd (omega (arith, some))
joined-past service workers seat [] (t ∷ told) all some = absurd all
joined-past service workers seat (p ∷ posts) [] all some = absurd all
joined-past service workers seat (p ∷ posts) (t ∷ told) all some =
    let tells = all.0 in let replied = tells.replied in
    let rest = flat (map (λ (t : Told). t.replies) told) in
    let up = joined-seen (joined_seat seat t.seat) told in
    past-one (missing_in t.replies) (missing_in rest) serving_leaves (joined_all (joined_seat seat t.seat) told).seen
    (λ here. let past = replied.past here in omega (arith, past, up))
    (joined-past service workers (joined_seat seat t.seat) posts told all.1)
    (subst (λ n. 0 < n) (missing_in-append t.replies rest) some)

-- all that is brought back
pub brings : (service : Service) (workers : ℕ) (book : LeafBookParts) (left final : LeafSeatParts) (posts : List Post) (told : List Told) (rows : List (List Reply))
    → Posted book whole workers left posts → AllZip (Tells service workers) posts told → final ≡ joined_all left told → rows ≡ map (λ (t : Told). t.replies) told
    → Brings service workers book final rows
brings service workers book left final posts told rows posted all final_is rows_is =
    let joined = joined_all left told in
    let brought_rows = map (λ (t : Told). t.replies) told in
    let fresh = posted.own in
    let many = posted.length_is in
    let shares = posted.shares in
    let sum = joined-share left told in
    let same = told-share service workers posts told all in
    let none = fresh.none in
    let built : Brings service workers book joined brought_rows = record {
      own = joined-book left told ∙ fresh.own;
      all = omega (arith, sum, same, shares);
      wide = told-length service workers posts told all ∙ many;
      has_rows = λ worker lt. let place : 0 + worker ≡ worker = omega arith in
          subst (λ w. AllZip (IsReply service) (dealt workers w 0 service.challenges) (get_or brought_rows worker [])) place
          (told-rows service workers book 0 posts told posted.numbered all worker (omega (arith, many)));
      turns = λ worker lt. told-turns service workers posts told all worker (omega (arith, many));
      drawn = joined-drawn service workers left posts told all ∙ ap (λ l. l ++ drawn_in (flat brought_rows)) none;
      past = joined-past service workers left posts told all;
    } in
    subst (λ r. Brings service workers book final r) (sym rows_is) (subst (λ s. Brings service workers book s brought_rows) (sym final_is) built)

-- the same, where the rows are of any kind that has replies, and perhaps none are handed out
pub brings_ok : {D F : Type 0} (rows_of : D → List (List Reply)) (service : Service) (workers : ℕ) (book : LeafBookParts) (left final : LeafSeatParts) (posts : List Post) (told : List Told) (result : Result D F)
    → Posted book whole workers left posts → AllZip (Tells service workers) posts told → IfOk result (λ rows. final ≡ joined_all left told) → IfOk result (λ rows. rows_of rows ≡ map (λ (t : Told). t.replies) told)
    → IfOk result (λ rows. Brings service workers book final (rows_of rows))
brings_ok rows_of service workers book left final posts told (Ok rows) posted all seat_is rows_are = brings service workers book left final posts told (rows_of rows) posted all seat_is rows_are
brings_ok rows_of service workers book left final posts told (Err error) posted all seat_is rows_are = tt
