-- Rows of all workers: dealt one after another, and gathered one after another.
use Rattle.std.proofs.Common.{◌≡◌, ℕ, ◌+◌, List, [], ◌∷◌, ◌++◌, map, sym, subst, arith}
use Rattle.std.proofs.lemmas.List.{map_push}
use Rattle.std.specs.List.{AllByRecursion, AllZip}
use Rattle.ar_base.proofs.Lists.{both-lists}
use Rattle.ar_seats.specs.Totals.{total}
use Rattle.ar_seats.proofs.TotalsLemmas.{total-append}
use Rattle.shared_node.specs.Seats.{NodeParts}
use Rattle.seat_orders.specs.Carrying.{Carries}
use Rattle.seat_orders.proofs.CarriesLemmas.{carries_none}
use Rattle.node_crowd.specs.Along.{Along, EachFrom}
use Rattle.node_crowd.specs.Stalls.{HasGathered, IsIdle, IsJoined, IsSplit, StallParts, share_at}
use Rattle.node_crowd.specs.Working.{Gathers, RowServes}
use Rattle.node_crowd.proofs.AlongLemmas.{each_then, zip_unlast}
use Rattle.node_crowd.proofs.StallsLemmas.{joined_gathers, joined_shares, split_shares}

module _ {L Row : Type 0} (stalls_of : Row → L) where
  -- what holds of the stalls of each row
  pub rows_more : (P : L → Type 0) (rows more : List Row) (row : Row) → more ≡ rows ++ row ∷ [] → P (stalls_of row)
      → AllByRecursion (λ r. P (stalls_of r)) rows → AllByRecursion (λ r. P (stalls_of r)) more
  rows_more P rows more row is here all =
      subst (λ l. AllByRecursion (λ r. P (stalls_of r)) l) (sym is) (both-lists (λ r. P (stalls_of r)) rows (row ∷ []) all (here, tt))

module _ {S I N T B Row : Type 0} (node_of : B → NodeParts S) (stalls_of : Row → List (StallParts S I N T)) where
  -- one row more is dealt
  pub deals_more : (booths : List B) (old base new : List (StallParts S I N T)) (rows : List Row) (row : Row)
      → Along (λ b o n g. IsSplit (node_of b) o n g) booths base new (stalls_of row)
      → ((place : ℕ) → share_at place base + total (λ r. share_at place (stalls_of r)) rows ≡ share_at place old)
      → (place : ℕ) → share_at place new + total (λ r. share_at place (stalls_of r)) (rows ++ row ∷ []) ≡ share_at place old
  deals_more booths old base new rows row along shares place =
      let sum = total-append (λ r. share_at place (stalls_of r)) rows (row ∷ []) in
      let split = split_shares node_of booths base new (stalls_of row) place along in
      let before = shares place in
      omega (arith, sum, split, before)

  -- the same of the rows with it behind them
  pub deals_shares : (booths : List B) (old base new : List (StallParts S I N T)) (rows more : List Row) (row : Row) → more ≡ rows ++ row ∷ []
      → Along (λ b o n g. IsSplit (node_of b) o n g) booths base new (stalls_of row)
      → ((place : ℕ) → share_at place base + total (λ r. share_at place (stalls_of r)) rows ≡ share_at place old)
      → (place : ℕ) → share_at place new + total (λ r. share_at place (stalls_of r)) more ≡ share_at place old
  deals_shares booths old base new rows more row is along shares place =
      subst (λ l. share_at place new + total (λ r. share_at place (stalls_of r)) l ≡ share_at place old) (sym is) (deals_more booths old base new rows row along shares place)

  module _ {R : Type 0} (next : S → I → N → R × S) where
    -- one row more is joined
    pub gathers_shares : (booths : List B) (old base new : List (StallParts S I N T)) (rows : List Row) (row : Row)
        → Along (λ b o e n. IsJoined next (node_of b) o e n) booths base (stalls_of row) new
        → ((place : ℕ) → share_at place base ≡ share_at place old + total (λ r. share_at place (stalls_of r)) rows)
        → (place : ℕ) → share_at place new ≡ share_at place old + total (λ r. share_at place (stalls_of r)) (rows ++ row ∷ [])
    gathers_shares booths old base new rows row along shares place =
        let sum = total-append (λ r. share_at place (stalls_of r)) rows (row ∷ []) in
        let join = joined_shares node_of next booths base (stalls_of row) new place along in
        let before = shares place in
        omega (arith, sum, join, before)

    module _ (finish_of : B → R → T) where
      idle_gathers : (from : ℕ) (booths : List B) (base : List (StallParts S I N T)) → AllZip (λ b s. IsIdle (node_of b) s) booths base
          → EachFrom (λ place b s. HasGathered next (node_of b) (finish_of b) s []) from booths base
      idle_gathers from [] [] idle = tt
      idle_gathers from [] (s ∷ base) idle = absurd idle
      idle_gathers from (b ∷ booths) [] idle = absurd idle
      idle_gathers from (b ∷ booths) (s ∷ base) idle =
          let here = idle.0 in (
            record {
              own = here.own;
              carried = subst (λ told. Carries next (finish_of b) (node_of b).first s.seat.seen s.seat.own told []) (sym here.untold)
                  (subst (λ own. Carries next (finish_of b) (node_of b).first s.seat.seen own [] []) (sym here.none) (carries_none next (finish_of b) (node_of b).first s.seat.seen));
            },
            idle_gathers (from + 1) booths base idle.1,
          )

      pub gathers_none : (booths : List B) (base : List (StallParts S I N T)) → AllZip (λ b s. IsIdle (node_of b) s) booths base → Gathers node_of next finish_of stalls_of booths base []
      gathers_none booths base idle = none
        where
          none : (lists : List (ℕ → List I)) → AllZip (λ row list. RowServes node_of next finish_of booths (stalls_of row) list) [] lists
              → EachFrom (λ place b s. HasGathered next (node_of b) (finish_of b) s (map (λ list. list place) lists)) 0 booths base
          none [] all = idle_gathers 0 booths base idle
          none (list ∷ lists) all = absurd all

      pub gathers_next : (booths : List B) (base new : List (StallParts S I N T)) (rows : List Row) (row : Row)
          → Along (λ b o e n. IsJoined next (node_of b) o e n) booths base (stalls_of row) new → Gathers node_of next finish_of stalls_of booths base rows → Gathers node_of next finish_of stalls_of booths new (rows ++ row ∷ [])
      gathers_next booths base new rows row along gathers lists all =
          let parts = zip_unlast (λ row list. RowServes node_of next finish_of booths (stalls_of row) list) rows row lists all in
          let front = parts.0 in
          let last = parts.1 in
          let joined = joined_gathers node_of next finish_of 0 (λ place. map (λ list. list place) front) last booths base (stalls_of row) new along (gathers front parts.3) parts.4 in
          let whole = each_then
          (λ place b s. HasGathered next (node_of b) (finish_of b) s (map (λ list. list place) front ++ last place ∷ []))
          (λ place b s. HasGathered next (node_of b) (finish_of b) s (map (λ list. list place) (front ++ last ∷ [])))
          0 booths new
          (λ place b s le has. subst (λ l. HasGathered next (node_of b) (finish_of b) s l) (sym (map_push (λ (list : ℕ → List I). list place) front last)) has)
          joined in
          subst (λ l. EachFrom (λ place b s. HasGathered next (node_of b) (finish_of b) s (map (λ list. list place) l)) 0 booths new) (sym parts.2) whole

-- where there are no rows yet; the list that there will be says what a row is
pub gathers_start : {S I N T B Row R : Type 0} (rows : List Row) (node_of : B → NodeParts S) (stalls_of : Row → List (StallParts S I N T)) (next : S → I → N → R × S) (finish_of : B → R → T) (booths : List B)
    (base : List (StallParts S I N T)) → AllZip (λ b s. IsIdle (node_of b) s) booths base → Gathers node_of next finish_of stalls_of booths base []
gathers_start rows node_of stalls_of next finish_of booths base idle = gathers_none node_of stalls_of next finish_of booths base idle
