-- What a worker does with its seat, and what all workers have together.
use Rattle.std.specs.Prelude.{ℕ, ◌≡◌, ◌<◌, ◌≤◌, ◌+◌, ◌%◌, List, [], ◌∷◌, ◌++◌, length, take, drop, get_or, set, Option, Some, None, Result, Ok, Err}
use Rattle.std.specs.List.{AllByRecursion, AllZip}
use Rattle.ar_seats.specs.Shares.{whole}
use Rattle.ar_seats.specs.Totals.{total}
use Rattle.leaf_book.specs.Book.{LeafBookParts, Draws, FindsNone, LeafSeatParts, joined_seat}
use Rattle.serve_run.specs.Reading.{Service}
use Rattle.serve_run.specs.Serving.{IsInTurn, IsReply, dealt, drawn_in, serving_leaves}
use Rattle.serve_run.specs.declared.reply.Reply.{Reply}
use Rattle.serve_run.specs.declared.reply.Reply.TheVariants.{Signed, Exhausted}

-- how the seat changed for a reply: it drew the leaf, or found that none is left
abbrev pub Draws_for : LeafSeatParts → Reply → LeafSeatParts → Type 0
Draws_for old (Signed leaf digest) new = Draws old leaf new
Draws_for old Exhausted new = (word : ℕ) × FindsNone old word new

-- how many of some replies say that no leaf was left
abbrev pub missing_in : List Reply → ℕ
missing_in [] = 0
missing_in (Signed leaf digest ∷ replies) = missing_in replies
missing_in (Exhausted ∷ replies) = 1 + missing_in replies

-- A worker replied to these challenges: by the leaves of its seat, which it drew in turn; where it found none, the seat has seen
-- that all leaves are gone.
pub record Replies (service : Service) (own : List (List ℕ)) (seat : LeafSeatParts) (replies : List Reply) : Type 0 where
  pub signed : AllZip (IsReply service) own replies
  pub drawn : seat.drawn ≡ drawn_in replies
  pub turns : IsInTurn replies
  pub below : AllByRecursion (λ leaf. leaf < seat.seen) (drawn_in replies)
  pub past : 0 < missing_in replies → serving_leaves ≤ seat.seen

-- a worker's post before it begins: its number, and a seat that drew nothing
pub record Post : Type 0 where
  pub worker : ℕ
  pub seat : LeafSeatParts

-- what a worker brings back: its seat, and its replies
pub record Told : Type 0 where
  pub seat : LeafSeatParts
  pub replies : List Reply

-- a seat of this book that drew nothing
pub record IsFresh (book : LeafBookParts) (seat : LeafSeatParts) : Type 0 where
  pub own : seat.book ≡ book
  pub none : seat.drawn ≡ []

-- what this worker of so many told with the seat of its post
pub record Tells (service : Service) (workers : ℕ) (post : Post) (told : Told) : Type 0 where
  pub book : told.seat.book ≡ post.seat.book
  pub share : told.seat.share ≡ post.seat.share
  pub replied : Replies service (dealt workers post.worker 0 service.challenges) told.seat told.replies

-- A worker of the number has replied to those of the first challenges, as many as this, that are its own, by a seat of this book and
-- this share.
pub record Works (service : Service) (workers worker : ℕ) (book : LeafBookParts) (share number : ℕ) (seat : LeafSeatParts) (replies : List Reply) : Type 0 where
  pub own : List (List ℕ)
  pub front : own ++ dealt workers worker number (drop number service.challenges) ≡ dealt workers worker 0 service.challenges
  pub replied : Replies service own seat replies
  pub book_is : seat.book ≡ book
  pub share_is : seat.share ≡ share

-- what a worker told, where it had the memory to
abbrev pub MayTell : {E : Type 0} → Service → ℕ → Post → Result Told E → Type 0
MayTell service workers post (Ok told) = Tells service workers post told
MayTell service workers post (Err error) = Unit {0}

-- these posts are numbered one after another, from this number on, and their seats are fresh
abbrev pub AreNumbered : LeafBookParts → ℕ → List Post → Type 0
AreNumbered book number [] = Unit {0}
AreNumbered book number (post ∷ posts) = (post.worker ≡ number) × IsFresh book post.seat × AreNumbered book (number + 1) posts

-- So many posts, whose seats are split from one that had this share, and what is left of it.
pub record Posted (book : LeafBookParts) (share many : ℕ) (seat : LeafSeatParts) (posts : List Post) : Type 0 where
  pub own : IsFresh book seat
  pub length_is : length posts ≡ many
  pub numbered : AreNumbered book 0 posts
  pub shares : seat.share + total (λ (post : Post). post.seat.share) posts ≡ share

-- a seat that took in the seats of all that was told
abbrev pub joined_all : LeafSeatParts → List Told → LeafSeatParts
joined_all seat [] = seat
joined_all seat (told ∷ more) = joined_all (joined_seat seat told.seat) more

-- The replies to the first of the challenges, as many as this number, taken from the rows of all workers, one of each in turn: what
-- is left in the rows is to the challenges that are left, and what each worker told is what was taken of it, and what is left.
pub record Weaves (service : Service) (workers number : ℕ) (told : ℕ → List Reply) (rows : List (List Reply)) (replies : List Reply) : Type 0 where
  pub signed : AllZip (IsReply service) (take number service.challenges) replies
  pub left : (worker : ℕ) → worker < workers → AllZip (IsReply service) (dealt workers worker number (drop number service.challenges)) (get_or rows worker [])
  pub woven : (worker : ℕ) → worker < workers → dealt workers worker 0 replies ++ get_or rows worker [] ≡ told worker
  pub wide : length rows ≡ workers
  pub many : length replies ≡ number

-- the replies of all rows, one row behind another
abbrev pub flat : List (List Reply) → List Reply
flat [] = []
flat (row ∷ rows) = row ++ flat rows

-- the row of each worker has a reply to each of its challenges
abbrev pub HasRows : Service → ℕ → List (List Reply) → Type 0
HasRows service workers rows =
    (worker : ℕ) → worker < workers → AllZip (IsReply service) (dealt workers worker 0 service.challenges) (get_or rows worker [])

-- the replies to all challenges, in order: each worker's own are those of its row
pub record IsWoven (service : Service) (workers : ℕ) (rows : List (List Reply)) (replies : List Reply) : Type 0 where
  pub signed : AllZip (IsReply service) service.challenges replies
  pub own : (worker : ℕ) → worker < workers → dealt workers worker 0 replies ≡ get_or rows worker []

-- the first reply of a row is taken, where the row has one
abbrev pub TakesNext : List (List Reply) → ℕ → Option Reply → List (List Reply) → Type 0
TakesNext old row None new = get_or old row [] ≡ []
TakesNext old row (Some reply) new = (rest : List Reply) × (get_or old row [] ≡ reply ∷ rest) × (new ≡ set old row rest)

-- What so many workers brought back: a row of replies each, and a seat with all shares and with the leaves of all rows; where a reply
-- says that no leaf was left, the seat has seen that all leaves are gone.
pub record Brings (service : Service) (workers : ℕ) (book : LeafBookParts) (seat : LeafSeatParts) (rows : List (List Reply)) : Type 0 where
  pub own : seat.book ≡ book
  pub all : seat.share ≡ whole
  pub wide : length rows ≡ workers
  pub has_rows : HasRows service workers rows
  pub turns : (worker : ℕ) → worker < workers → IsInTurn (get_or rows worker [])
  pub drawn : seat.drawn ≡ drawn_in (flat rows)
  pub past : 0 < missing_in (flat rows) → serving_leaves ≤ seat.seen
