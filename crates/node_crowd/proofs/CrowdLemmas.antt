-- From the desks to what is taken: the steps of a crowd, one behind the other.
use Rattle.std.proofs.Common.{◌≡◌, ℕ, zero, suc, ◌+◌, ◌<◌, ◌≤◌, ◌^◌, List, [], ◌∷◌, All, length, map, refl, sym, ap, ◌∙◌, subst, arith}
use Rattle.std.specs.List.{AllByRecursion, AllZip, range_with_len}
use Rattle.std.proofs.lemmas.Nat.{pow_below}
use mathlib.Core.Logic.{dite}
use native.Mathlib.Decide.{dec_lt}
use Rattle.std.proofs.lemmas.List.Elements.{All-nil, All-cons}
use Rattle.ar_seats.specs.Numbers.{times}
use Rattle.ar_seats.specs.Shares.{whole}
use Rattle.ar_seats.specs.Totals.{total}
use Rattle.seat_orders.specs.Carrying.{inputs_of}
use Rattle.seat_orders.specs.Orders.{IsInterleaving}
use Rattle.seat_orders.proofs.DealingLemmas.{dealt_distinct}
use Rattle.shared_node.specs.Seats.{NodeParts}
use Rattle.node_crowd.specs.Along.{Abreast, EachFrom}
use Rattle.node_crowd.specs.Bringing.{AreNumbered, TakesDealt, brought_to, goes_to, own_of}
use Rattle.node_crowd.specs.Stalls.{CanBeSplit, HasGathered, HasServed, IsIdle, IsStallOf, StallParts, share_at}
use Rattle.node_crowd.specs.Working.{Gathers, HasWorked, IsOpened, IsReady, IsTaken, RowGathers, RowServes}
use Rattle.node_crowd.specs.declared.errand.Errand.{Errand}
use Rattle.node_crowd.proofs.BroughtLemmas.{inputs_of_errands, own_all}
use Rattle.node_crowd.proofs.SharingLemmas.{brings_all}

-- ---- what is opened

module _ {C S F B D : Type 0} (state : C → S) (core_of : D → C) (finish_of : D → F) (node_of : B → NodeParts S) (finishes : B → F) {I N T : Type 0} where
  abbrev pub AreOpened : List D → List B → List (StallParts S I N T) → Type 0
  AreOpened desks booths base = Abreast (λ desk booth stall. IsOpened state (core_of desk) (finish_of desk) (node_of booth) (finishes booth) stall) desks booths base

  pub opened_idle : (desks : List D) (booths : List B) (base : List (StallParts S I N T)) → AreOpened desks booths base → AllZip (λ b s. IsIdle (node_of b) s) booths base
  opened_idle [] booths base all = subst (λ l. AllZip (λ b s. IsIdle (node_of b) s) l base) (sym all.0) (subst (λ l. AllZip (λ b s. IsIdle (node_of b) s) [] l) (sym all.1) tt)
  opened_idle (d ∷ desks) [] base all = absurd all
  opened_idle (d ∷ desks) (b ∷ booths) [] all = absurd all
  opened_idle (d ∷ desks) (b ∷ booths) (s ∷ base) all = let here = all.0 in (here.idle, opened_idle desks booths base all.1)

  pub opened_fits : (fits : F → S → Type 0) (desks : List D) (booths : List B) (base : List (StallParts S I N T)) → AreOpened desks booths base
      → AllByRecursion (λ d. fits (finish_of d) (state (core_of d))) desks → AllByRecursion (λ b. fits (finishes b) (node_of b).first) booths
  opened_fits fits [] booths base all each = subst (λ l. AllByRecursion (λ b. fits (finishes b) (node_of b).first) l) (sym all.0) tt
  opened_fits fits (d ∷ desks) [] base all each = absurd all
  opened_fits fits (d ∷ desks) (b ∷ booths) [] all each = absurd all
  opened_fits fits (d ∷ desks) (b ∷ booths) (s ∷ base) all each =
      let here = all.0 in (
        subst (λ f. fits f (node_of b).first) (sym here.finish_is) (subst (λ x. fits (finish_of d) x) (sym here.first) each.0),
        opened_fits fits desks booths base all.1 each.1,
      )

  pub opened_share : (desks : List D) (booths : List B) (base : List (StallParts S I N T)) (place : ℕ) → AreOpened desks booths base → place < length booths → share_at place base ≡ whole
  opened_share [] booths base place all lt = absurd (let none = ap length all.0 in omega (arith, none, lt))
  opened_share (d ∷ desks) [] base place all lt = absurd all
  opened_share (d ∷ desks) (b ∷ booths) [] place all lt = absurd all
  opened_share (d ∷ desks) (b ∷ booths) (s ∷ base) zero all lt = let here = all.0 in here.share
  opened_share (d ∷ desks) (b ∷ booths) (s ∷ base) (suc place) all lt = opened_share desks booths base place all.1 (omega arith)

  -- the whole share can be halved 32 times
  pub opened_wide : (many : ℕ) → many ≤ 32 → (desks : List D) (booths : List B) (base : List (StallParts S I N T)) → AreOpened desks booths base → CanBeSplit many base
  opened_wide many le [] booths base all = subst (λ l. CanBeSplit {S = S} {I = I} {N = N} {T = T} many l) (sym all.1) tt
  opened_wide many le (d ∷ desks) [] base all = absurd all
  opened_wide many le (d ∷ desks) (b ∷ booths) [] all = absurd all
  opened_wide many le (d ∷ desks) (b ∷ booths) (s ∷ base) all =
      let here = all.0 in (subst (λ n. 2 ^ many ≤ n) (sym here.share) (pow_le many le), opened_wide many le desks booths base all.1)
    where
      pow_le : (many : ℕ) → many ≤ 32 → 2 ^ many ≤ whole
      pow_le many le = dite (dec_lt many 32) (λ lt. let below = pow_below many 32 lt in omega (arith, below)) (λ other. let same : many ≡ 32 = omega (arith, le, other) in subst (λ n. 2 ^ n ≤ whole) (sym same) (omega arith))

  pub opened_long : (desks : List D) (booths : List B) (base : List (StallParts S I N T)) → AreOpened desks booths base → length booths ≡ length desks
  opened_long [] booths base all = ap length all.0
  opened_long (d ∷ desks) [] base all = absurd all
  opened_long (d ∷ desks) (b ∷ booths) [] all = absurd all
  opened_long (d ∷ desks) (b ∷ booths) (s ∷ base) all = let rest = opened_long desks booths base all.1 in omega (arith, rest)

-- ---- the tasks

abbrev head_or : {A : Type 0} → A → List A → A
head_or a [] = a
head_or a (x ∷ xs) = x

abbrev tail_of : {A : Type 0} → List A → List A
tail_of [] = []
tail_of (x ∷ xs) = xs

first_is : {A : Type 0} (x y : A) (xs ys : List A) → x ∷ xs ≡ y ∷ ys → x ≡ y
first_is x y xs ys same = ap (head_or x) same

rest_is : {A : Type 0} (x y : A) (xs ys : List A) → x ∷ xs ≡ y ∷ ys → xs ≡ ys
rest_is x y xs ys same = ap tail_of same

module _ {S I N T B Row Task : Type 0} (node_of : B → NodeParts S) (stalls_of : Row → List (StallParts S I N T)) (row_of : Task → List (StallParts S I N T)) (errands_of : Task → List (Errand I)) where
  -- each task can begin
  pub tasks_ready : (workers : ℕ) (booths : List B) (errands : List (Errand I)) (rows : List Row) (tasks : List Task)
      → AllByRecursion (λ row. AllZip (λ b s. IsIdle (node_of b) s) booths (stalls_of row)) rows
      → AllByRecursion (λ e. e.place < length booths) errands
      → map row_of tasks ≡ map stalls_of rows → (workers' : List ℕ) → map errands_of tasks ≡ map (λ worker. own_of workers worker errands) workers'
      → All (λ task. IsReady node_of booths (row_of task) (errands_of task)) tasks
  tasks_ready workers booths errands rows [] idle there same workers' shared = All-nil _
  tasks_ready workers booths errands [] (t ∷ tasks) idle there same workers' shared = absurd (let no = ap length same in omega (arith, no))
  tasks_ready workers booths errands (r ∷ rows) (t ∷ tasks) idle there same [] shared = absurd (let no = ap length shared in omega (arith, no))
  tasks_ready workers booths errands (r ∷ rows) (t ∷ tasks) idle there same (w ∷ workers') shared =
      let row : row_of t ≡ stalls_of r = first_is (row_of t) (stalls_of r) (map row_of tasks) (map stalls_of rows) same in
      let own : errands_of t ≡ own_of workers w errands = first_is (errands_of t) (own_of workers w errands) (map errands_of tasks) (map (λ worker. own_of workers worker errands) workers') shared in
      All-cons (λ task. IsReady node_of booths (row_of task) (errands_of task)) t tasks
      (record {
        there = subst (λ l. AllByRecursion (λ e. e.place < length booths) l) (sym own) (own_all (λ e. e.place < length booths) workers w errands there);
        idle = subst (λ l. AllZip (λ b s. IsIdle (node_of b) s) booths l) (sym row) idle.0;
      })
      (tasks_ready workers booths errands rows tasks idle.1 there
      (rest_is (row_of t) (stalls_of r) (map row_of tasks) (map stalls_of rows) same) workers'
      (rest_is (errands_of t) (own_of workers w errands) (map errands_of tasks) (map (λ worker. own_of workers worker errands) workers') shared))

-- ---- what the workers did

module _ {S I N R T B Row Task : Type 0} (node_of : B → NodeParts S) (next : S → I → N → R × S) (finish_of : B → R → T)
    (stalls_of : Row → List (StallParts S I N T)) (row_of : Task → List (StallParts S I N T)) (errands_of : Task → List (Errand I)) where
  abbrev pub AllWorked : List B → List Task → List Row → Type 0
  AllWorked booths tasks rows = AllZip (λ task row. HasWorked node_of next finish_of booths (row_of task) (stalls_of row) (errands_of task)) tasks rows

  served_own : (place : ℕ) (booths : List B) (row : List (StallParts S I N T)) (list : ℕ → List I)
      → EachFrom (λ place b s. HasServed next (node_of b) (finish_of b) s (list place)) place booths row → AllZip (λ b s. IsStallOf (node_of b) s) booths row
  served_own place [] [] list each = tt
  served_own place [] (s ∷ row) list each = each
  served_own place (b ∷ booths) [] list each = each
  served_own place (b ∷ booths) (s ∷ row) list each = let here = each.0 in (here.own, served_own (place + 1) booths row list each.1)

  -- each row that came back has a stall at each node
  pub worked_own : (booths : List B) (tasks : List Task) (rows : List Row) → AllWorked booths tasks rows
      → AllByRecursion (λ row. AllZip (λ b s. IsStallOf (node_of b) s) booths (stalls_of row)) rows
  worked_own booths [] [] all = tt
  worked_own booths [] (r ∷ rows) all = absurd all
  worked_own booths (t ∷ tasks) [] all = absurd all
  worked_own booths (t ∷ tasks) (r ∷ rows) all =
      let here = all.0 in (served_own 0 booths (stalls_of r) (λ place. brought_to place (errands_of t)) here.served, worked_own booths tasks rows all.1)

  -- the rows have the shares that they had
  pub worked_shares : (booths : List B) (tasks : List Task) (rows old : List Row) (place : ℕ) → AllWorked booths tasks rows → map row_of tasks ≡ map stalls_of old
      → total (λ row. share_at place (stalls_of row)) rows ≡ total (λ row. share_at place (stalls_of row)) old
  worked_shares booths [] [] [] place all same = refl
  worked_shares booths [] [] (o ∷ old) place all same = absurd (let no = ap length same in omega (arith, no))
  worked_shares booths [] (r ∷ rows) old place all same = absurd all
  worked_shares booths (t ∷ tasks) [] old place all same = absurd all
  worked_shares booths (t ∷ tasks) (r ∷ rows) [] place all same = absurd (let no = ap length same in omega (arith, no))
  worked_shares booths (t ∷ tasks) (r ∷ rows) (o ∷ old) place all same =
      let here = all.0 in
      let first : share_at place (stalls_of r) ≡ share_at place (stalls_of o) =
      here.shares place ∙ ap (λ l. share_at place l) (first_is (row_of t) (stalls_of o) (map row_of tasks) (map stalls_of old) same) in
      let rest = worked_shares booths tasks rows old place all.1 (rest_is (row_of t) (stalls_of o) (map row_of tasks) (map stalls_of old) same) in
      omega (arith, first, rest)

  -- what the rows served, by the errands of the tasks
  lists_served : (booths : List B) (tasks : List Task) (rows : List Row) → AllWorked booths tasks rows
      → AllZip (λ row list. RowServes node_of next finish_of booths (stalls_of row) list) rows (map (λ task place. brought_to place (errands_of task)) tasks)
  lists_served booths [] [] all = tt
  lists_served booths [] (r ∷ rows) all = absurd all
  lists_served booths (t ∷ tasks) [] all = absurd all
  lists_served booths (t ∷ tasks) (r ∷ rows) all = let here = all.0 in (here.served, lists_served booths tasks rows all.1)

  lists_are : (workers : ℕ) (errands : List (Errand I)) (tasks : List Task) (ws : List ℕ) (place : ℕ) → map errands_of tasks ≡ map (λ worker. own_of workers worker errands) ws
      → map (λ (list : ℕ → List I). list place) (map (λ task place. brought_to place (errands_of task)) tasks) ≡ map (λ worker. brought_to place (own_of workers worker errands)) ws
  lists_are workers errands [] [] place same = refl
  lists_are workers errands [] (w ∷ ws) place same = absurd (let no = ap length same in omega (arith, no))
  lists_are workers errands (t ∷ tasks) [] place same = absurd (let no = ap length same in omega (arith, no))
  lists_are workers errands (t ∷ tasks) (w ∷ ws) place same =
      let first = first_is (errands_of t) (own_of workers w errands) (map errands_of tasks) (map (λ worker. own_of workers worker errands) ws) same in
      let rest = lists_are workers errands tasks ws place (rest_is (errands_of t) (own_of workers w errands) (map errands_of tasks) (map (λ worker. own_of workers worker errands) ws) same) in
      ap (λ l. brought_to place l ∷ map (λ (list : ℕ → List I). list place) (map (λ task place. brought_to place (errands_of task)) tasks)) first
      ∙ ap (λ l. brought_to place (own_of workers w errands) ∷ l) rest

  each_lists : (place : ℕ) (booths : List B) (base : List (StallParts S I N T)) (one other : ℕ → List (List I)) → ((place : ℕ) → one place ≡ other place)
      → EachFrom (λ place b s. HasGathered next (node_of b) (finish_of b) s (one place)) place booths base
      → EachFrom (λ place b s. HasGathered next (node_of b) (finish_of b) s (other place)) place booths base
  each_lists place [] [] one other same each = tt
  each_lists place [] (s ∷ base) one other same each = each
  each_lists place (b ∷ booths) [] one other same each = each
  each_lists place (b ∷ booths) (s ∷ base) one other same each =
      (subst (λ l. HasGathered next (node_of b) (finish_of b) s l) (same place) each.0, each_lists (place + 1) booths base one other same each.1)

  -- what the base gathered, by the errands of the workers
  pub gathered_all : (workers : ℕ) (errands : List (Errand I)) (booths : List B) (base : List (StallParts S I N T)) (tasks : List Task) (rows : List Row) → AllWorked booths tasks rows
      → map errands_of tasks ≡ map (λ worker. own_of workers worker errands) (range_with_len 0 workers) → Gathers node_of next finish_of stalls_of booths base rows
      → RowGathers node_of next finish_of booths base (λ place. map (λ worker. brought_to place (own_of workers worker errands)) (range_with_len 0 workers))
  gathered_all workers errands booths base tasks rows all same gathers =
      each_lists 0 booths base (λ place. map (λ (list : ℕ → List I). list place) (map (λ task place. brought_to place (errands_of task)) tasks))
      (λ place. map (λ worker. brought_to place (own_of workers worker errands)) (range_with_len 0 workers))
      (λ place. lists_are workers errands tasks (range_with_len 0 workers) place same)
      (gathers (map (λ task place. brought_to place (errands_of task)) tasks) (lists_served booths tasks rows all))

-- ---- what is closed

module _ {S I N T B : Type 0} (node_of : B → NodeParts S) where
  -- each stall of the base gathered something, and has the whole share
  pub wholes : {R : Type 0} (next : S → I → N → R × S) (finish_of : B → R → T) (from : ℕ) (lists : ℕ → List (List I)) (booths : List B) (base : List (StallParts S I N T))
      → EachFrom (λ place b s. HasGathered next (node_of b) (finish_of b) s (lists place)) from booths base → ((place : ℕ) → place < length booths → share_at place base ≡ whole)
      → AllZip (λ b s. ((some_lists : List (List I)) × HasGathered next (node_of b) (finish_of b) s some_lists) × (s.seat.share ≡ whole)) booths base
  wholes next finish_of from lists [] [] gathered shares = tt
  wholes next finish_of from lists [] (s ∷ base) gathered shares = gathered
  wholes next finish_of from lists (b ∷ booths) [] gathered shares = gathered
  wholes next finish_of from lists (b ∷ booths) (s ∷ base) gathered shares =
      (((lists from, gathered.0), shares 0 (omega arith)), wholes next finish_of (from + 1) lists booths base gathered.1 (λ place lt. shares (suc place) (omega arith)))

module _ {C S I N R T F B D K : Type 0} (state : C → S) (core_of : D → C) (finish_of : D → F) (node_of : B → NodeParts S) (finishes : B → F)
    (next : S → I → N → R × S) (legal : S → I → N → Type 0) (finished : F → R → T) (history_of : K → List (I × N)) (now_of : K → S) (replies_of : K → List T) (kept : K → F) where
  abbrev pub AreClosed : List B → List (StallParts S I N T) → List K → Type 0
  AreClosed booths base all = Abreast (λ booth stall taken. (kept taken ≡ finishes booth) × ((lists : List (List I)) → HasGathered next (node_of booth) (finished (finishes booth)) stall lists
      → IsTaken next legal (finished (finishes booth)) (node_of booth).first lists (history_of taken) (now_of taken) (replies_of taken))) booths base all

  pub kept_finish : (desks : List D) (booths : List B) (first base : List (StallParts S I N T)) (all : List K) → AreOpened state core_of finish_of node_of finishes desks booths first → AreClosed booths base all
      → map kept all ≡ map finish_of desks
  kept_finish [] booths first base all opened closed =
      let none : AreClosed [] base all = subst (λ l. AreClosed l base all) opened.0 closed in
      ap (map kept) none.1
  kept_finish (d ∷ desks) [] first base all opened closed = absurd opened
  kept_finish (d ∷ desks) (b ∷ booths) [] base all opened closed = absurd opened
  kept_finish (d ∷ desks) (b ∷ booths) (f ∷ first) [] all opened closed = absurd closed
  kept_finish (d ∷ desks) (b ∷ booths) (f ∷ first) (s ∷ base) [] opened closed = absurd closed
  kept_finish (d ∷ desks) (b ∷ booths) (f ∷ first) (s ∷ base) (k ∷ all) opened closed =
      let here = opened.0 in
      let there = closed.0 in
      ap (λ x. x ∷ map kept all) (there.0 ∙ here.finish_is) ∙ ap (λ l. finish_of d ∷ l) (kept_finish desks booths first base all opened.1 closed.1)

  -- what is taken, by the lists that were brought to each place
  pub taken_each : (place : ℕ) (lists : ℕ → List (List I)) (desks : List D) (booths : List B) (first base : List (StallParts S I N T)) (all : List K)
      → AreOpened state core_of finish_of node_of finishes desks booths first → AreClosed booths base all
      → EachFrom (λ place b s. HasGathered next (node_of b) (finished (finishes b)) s (lists place)) place booths base
      → EachFrom (λ place d k. IsTaken next legal (finished (finish_of d)) (state (core_of d)) (lists place) (history_of k) (now_of k) (replies_of k)) place desks all
  taken_each place lists [] booths first base all opened closed gathered =
      let none : AreClosed [] base all = subst (λ l. AreClosed l base all) opened.0 closed in
      subst (λ l. EachFrom (λ place d k. IsTaken next legal (finished (finish_of d)) (state (core_of d)) (lists place) (history_of k) (now_of k) (replies_of k)) place [] l) (sym none.1) tt
  taken_each place lists (d ∷ desks) [] first base all opened closed gathered = absurd opened
  taken_each place lists (d ∷ desks) (b ∷ booths) [] base all opened closed gathered = absurd opened
  taken_each place lists (d ∷ desks) (b ∷ booths) (f ∷ first) [] all opened closed gathered = absurd closed
  taken_each place lists (d ∷ desks) (b ∷ booths) (f ∷ first) (s ∷ base) [] opened closed gathered = absurd closed
  taken_each place lists (d ∷ desks) (b ∷ booths) (f ∷ first) (s ∷ base) (k ∷ all) opened closed gathered =
      let here = opened.0 in
      let there = closed.0 in
      let taken = there.1 (lists place) gathered.0 in (
        subst (λ x. IsTaken next legal (finished (finish_of d)) x (lists place) (history_of k) (now_of k) (replies_of k)) here.first
            (subst (λ x. IsTaken next legal (finished x) (node_of b).first (lists place) (history_of k) (now_of k) (replies_of k)) here.finish_is taken),
        taken_each (place + 1) lists desks booths first base all opened.1 closed.1 gathered.1,
      )

module _ {C S I N R T F D K : Type 0} (state : C → S) (core_of : D → C) (finish_of : D → F) (next : S → I → N → R × S) (legal : S → I → N → Type 0) (finished : F → R → T)
    (history_of : K → List (I × N)) (now_of : K → S) (replies_of : K → List T) where
  -- the orders, where the inputs are numbered
  pub orders_each : (number : I → ℕ) (workers : ℕ) (errands : List (Errand I)) (place : ℕ) (desks : List D) (all : List K) → AreNumbered number 0 errands
      → EachFrom (λ place d k. IsTaken next legal (finished (finish_of d)) (state (core_of d)) (map (λ worker. brought_to place (own_of workers worker errands)) (range_with_len 0 workers))
      (history_of k) (now_of k) (replies_of k)) place desks all
      → EachFrom (λ place d k. TakesDealt number workers errands place (inputs_of (history_of k))) place desks all
  orders_each number workers errands place [] [] numbered each = tt
  orders_each number workers errands place [] (k ∷ all) numbered each = each
  orders_each number workers errands place (d ∷ desks) [] numbered each = each
  orders_each number workers errands place (d ∷ desks) (k ∷ all) numbered each =
      let here = each.0 in
      let dealt = brings_all workers number place errands numbered in (
        record {
          order = subst (λ l. IsInterleaving (map number (inputs_of (history_of k))) l) dealt
              (here.order number (λ x. subst (λ l. total (times x) l ≤ 1) (sym dealt) (dealt_distinct workers (goes_to place) x errands)));
          inputs_are = inputs_of_errands number workers errands place (range_with_len 0 workers) (inputs_of (history_of k)) numbered here.brought;
        },
        orders_each number workers errands (place + 1) desks all numbered each.1,
      )
