-- That what is replied is as the clause of `serve` says.
use Rattle.std.proofs.Common.{◌≡◌, ℕ, suc, ◌%◌, ◌<◌, ◌≤◌, min, List, [], ◌∷◌, length, map, Result, Ok, Err, IfOk, refl, sym, ap, ◌∙◌, subst, arith}
use Rattle.std.proofs.lemmas.List.{length-map}
use Rattle.std.proofs.Math.Nat.{mod-lt}
use Rattle.std.specs.List.{AllZip}
use Rattle.ar_seats.specs.Numbers.{HasEachBelow}
use Rattle.leaf_book.specs.Book.{LeafBookParts, LeafSeatParts}
use Rattle.serve_run.specs.Reading.{Service}
use Rattle.serve_run.specs.Serving.{IsInTurn, IsReply, IsServed, drawn_in, serving_leaves}
use Rattle.serve_run.specs.Workers.{Brings, HasRows, IsWoven}
use Rattle.serve_run.specs.declared.reply.Reply.{Reply}
use Rattle.serve_run.proofs.Leaves.{each_leaf}

zip-length : {A B : Type 0} (R : A → B → Type 0) (xs : List A) (ys : List B) → AllZip R xs ys → length xs ≡ length ys
zip-length R [] [] all = refl
zip-length R [] (y ∷ ys) all = absurd all
zip-length R (x ∷ xs) [] all = absurd all
zip-length R (x ∷ xs) (y ∷ ys) all = ap suc (zip-length R xs ys all.1)

pub is_served : (service : Service) (workers many count : ℕ) (book : LeafBookParts) (seat : LeafSeatParts) (rows : List (List Reply)) (replies : List Reply)
    → 0 < workers → book.leaves ≡ serving_leaves → Brings service workers book seat rows → many ≡ workers → IsWoven service many rows replies
    → count ≡ length seat.drawn → HasEachBelow count seat.drawn → count ≤ book.leaves → (book.leaves ≤ seat.seen → count ≡ book.leaves)
    → IsServed service workers replies
is_served service workers many count book seat rows replies some leaves brought same woven count_is each most full =
    let is : IsWoven service workers rows replies = subst (λ n. IsWoven service n rows replies) same woven in record {
      signed = is.signed;
      leaves = subst (λ n. HasEachBelow (min n serving_leaves) (drawn_in replies)) (sym (zip-length (IsReply service) service.challenges replies is.signed))
          (each_leaf workers count seat.seen rows replies seat.drawn (λ n. mod-lt n some) brought.wide is.own brought.drawn brought.past count_is each (omega (arith, most, leaves))
          (λ past. full (omega (arith, past, leaves)) ∙ leaves));
      turns = λ worker lt. subst IsInTurn (sym (is.own worker lt)) (brought.turns worker lt);
    }

-- as many rows as workers, where the rows are of any kind that has replies
pub rows_many : {D : Type 0} (items_of : D → List Reply) (service : Service) (workers : ℕ) (book : LeafBookParts) (seat : LeafSeatParts) (rows : List D) → Brings service workers book seat (map items_of rows) → length rows ≡ workers
rows_many items_of service workers book seat rows brought = sym (length-map rows items_of) ∙ brought.wide

pub rows_some : {D : Type 0} (items_of : D → List Reply) (service : Service) (workers : ℕ) (book : LeafBookParts) (seat : LeafSeatParts) (rows : List D) → 0 < workers → Brings service workers book seat (map items_of rows) → 0 < length rows
rows_some items_of service workers book seat rows some brought = subst (λ n. 0 < n) (sym (rows_many items_of service workers book seat rows brought)) some

pub rows_there : {D : Type 0} (items_of : D → List Reply) (service : Service) (workers : ℕ) (book : LeafBookParts) (seat : LeafSeatParts) (rows : List D) → Brings service workers book seat (map items_of rows) → HasRows service (length rows) (map items_of rows)
rows_there items_of service workers book seat rows brought = subst (λ n. HasRows service n (map items_of rows)) (sym (rows_many items_of service workers book seat rows brought)) brought.has_rows

pub served_ok : {D F A : Type 0} (row_of : A → List Reply) (items_of : D → List Reply) (service : Service) (workers count : ℕ) (book : LeafBookParts) (seat : LeafSeatParts) (rows shown : List A) (result : Result D F)
    → 0 < workers → book.leaves ≡ serving_leaves → Brings service workers book seat (map row_of rows) → shown ≡ rows → IfOk result (λ replies. IsWoven service (length shown) (map row_of shown) (items_of replies))
    → count ≡ length seat.drawn → HasEachBelow count seat.drawn → count ≤ book.leaves → (book.leaves ≤ seat.seen → count ≡ book.leaves)
    → IfOk result (λ replies. IsServed service workers (items_of replies))
served_ok row_of items_of service workers count book seat rows shown (Ok replies) some leaves brought same woven count_is each most full =
    let is = subst (λ l. IsWoven service (length l) (map row_of l) (items_of replies)) same woven in
    is_served service workers (length rows) count book seat (map row_of rows) (items_of replies) some leaves brought (rows_many row_of service workers book seat rows brought) is count_is each most full
served_ok row_of items_of service workers count book seat rows shown (Err error) some leaves brought same woven count_is each most full = tt
