-- Rows of stalls: what a row that is dealt leaves, and what a row that is joined brings.
use Rattle.std.proofs.Common.{◌≡◌, ℕ, zero, suc, ◌+◌, ◌-◌, ◌^◌, ◌<◌, ◌≤◌, List, [], ◌∷◌, ◌++◌, refl, sym, subst, arith}
use Rattle.std.specs.List.{AllZip}
use Rattle.std.proofs.lemmas.Grind.{pow_more}
use Rattle.std.proofs.lemmas.Nat.{pow_below}
use Rattle.seat_orders.proofs.CarriesLemmas.{carries_one}
use Rattle.shared_node.specs.Seats.{NodeParts}
use Rattle.node_crowd.specs.Along.{Along, EachFrom}
use Rattle.node_crowd.specs.Stalls.{CanBeSplit, HasGathered, HasServed, IsIdle, IsJoined, IsSplit, IsStallOf, StallParts, share_at}

two_at_least : (many : ℕ) → 0 < many → 2 ^ 1 ≤ 2 ^ many
two_at_least many some = let below = pow_below 0 many some in omega (arith, below)

halved : (many old new given : ℕ) → new + given ≡ old → given ≤ new → 2 ^ (many + 1) ≤ old → 2 ^ many ≤ new
halved many old new given sum half wide = let more = pow_more 2 many in omega (arith, sum, half, wide, more)

module _ {S I N T : Type 0} where
  -- what can be split some times can be split once
  pub wide_once : (many : ℕ) (row : List (StallParts S I N T)) → 0 < many → CanBeSplit many row → CanBeSplit 1 row
  wide_once many [] some wide = tt
  wide_once many (s ∷ row) some wide = ((let two = two_at_least many some in let here = wide.0 in omega (arith, two, here)), wide_once many row some wide.1)

module _ {S I N T B : Type 0} (node_of : B → NodeParts S) where
  -- ---- a row that is dealt

  Splits : B → StallParts S I N T → StallParts S I N T → StallParts S I N T → Type 0
  Splits booth old new given = IsSplit (node_of booth) old new given

  pub base_idle : (booths : List B) (old new row : List (StallParts S I N T)) → Along (λ b o n g. IsSplit (node_of b) o n g) booths old new row
      → AllZip (λ b s. IsIdle (node_of b) s) booths new
  base_idle [] old new row along = subst (λ l. AllZip (λ b s. IsIdle (node_of b) s) [] l) (sym along.1) tt
  base_idle (b ∷ booths) [] new row along = absurd along
  base_idle (b ∷ booths) (o ∷ old) [] row along = absurd along
  base_idle (b ∷ booths) (o ∷ old) (n ∷ new) [] along = absurd along
  base_idle (b ∷ booths) (o ∷ old) (n ∷ new) (g ∷ row) along = let here = along.0 in (here.kept, base_idle booths old new row along.1)

  pub row_idle : (booths : List B) (old new row : List (StallParts S I N T)) → Along (λ b o n g. IsSplit (node_of b) o n g) booths old new row
      → AllZip (λ b s. IsIdle (node_of b) s) booths row
  row_idle [] old new row along = subst (λ l. AllZip (λ b s. IsIdle (node_of b) s) [] l) (sym along.2) tt
  row_idle (b ∷ booths) [] new row along = absurd along
  row_idle (b ∷ booths) (o ∷ old) [] row along = absurd along
  row_idle (b ∷ booths) (o ∷ old) (n ∷ new) [] along = absurd along
  row_idle (b ∷ booths) (o ∷ old) (n ∷ new) (g ∷ row) along = let here = along.0 in (here.idle, row_idle booths old new row along.1)

  pub split_shares : (booths : List B) (old new row : List (StallParts S I N T)) (place : ℕ) → Along (λ b o n g. IsSplit (node_of b) o n g) booths old new row
      → share_at place new + share_at place row ≡ share_at place old
  split_shares [] old new row place along =
      subst (λ l. share_at place new + share_at place row ≡ share_at place l) (sym along.0)
      (subst (λ l. share_at place l + share_at place row ≡ 0) (sym along.1) (subst (λ l. 0 + share_at {S = S} {I = I} {N = N} {T = T} place l ≡ 0) (sym along.2) refl))
  split_shares (b ∷ booths) [] new row place along = absurd along
  split_shares (b ∷ booths) (o ∷ old) [] row place along = absurd along
  split_shares (b ∷ booths) (o ∷ old) (n ∷ new) [] place along = absurd along
  split_shares (b ∷ booths) (o ∷ old) (n ∷ new) (g ∷ row) zero along = let here = along.0 in here.shares
  split_shares (b ∷ booths) (o ∷ old) (n ∷ new) (g ∷ row) (suc place) along = split_shares booths old new row place along.1

  -- what is left of a row that could be split once more
  pub split_wide : (many : ℕ) (booths : List B) (old new row : List (StallParts S I N T)) → Along (λ b o n g. IsSplit (node_of b) o n g) booths old new row
      → CanBeSplit (many + 1) old → CanBeSplit many new
  split_wide many [] old new row along wide = subst (λ l. CanBeSplit {S = S} {I = I} {N = N} {T = T} many l) (sym along.1) tt
  split_wide many (b ∷ booths) [] new row along wide = absurd along
  split_wide many (b ∷ booths) (o ∷ old) [] row along wide = absurd along
  split_wide many (b ∷ booths) (o ∷ old) (n ∷ new) [] along wide = absurd along
  split_wide many (b ∷ booths) (o ∷ old) (n ∷ new) (g ∷ row) along wide =
      let here = along.0 in (halved many o.seat.share n.seat.share g.seat.share here.shares here.half wide.0, split_wide many booths old new row along.1 wide.1)

  -- the same of a loop that has dealt so many rows
  pub split_left : (workers done : ℕ) (booths : List B) (old new row : List (StallParts S I N T)) → done < workers → Along (λ b o n g. IsSplit (node_of b) o n g) booths old new row
      → CanBeSplit (workers - done) old → CanBeSplit (workers - (done + 1)) new
  split_left workers done booths old new row lt along wide =
      let more : workers - done ≡ workers - (done + 1) + 1 = omega (arith, lt) in
      split_wide (workers - (done + 1)) booths old new row along (subst (λ n. CanBeSplit n old) more wide)

  -- where nothing was done, each stall is one of its node
  pub idle_own : (booths : List B) (base : List (StallParts S I N T)) → AllZip (λ b s. IsIdle (node_of b) s) booths base → AllZip (λ b s. IsStallOf (node_of b) s) booths base
  idle_own [] [] idle = tt
  idle_own [] (s ∷ base) idle = idle
  idle_own (b ∷ booths) [] idle = idle
  idle_own (b ∷ booths) (s ∷ base) idle = let here = idle.0 in (here.own, idle_own booths base idle.1)

  -- ---- a row that is joined

  module _ {R : Type 0} (next : S → I → N → R × S) where
    pub joined_own : (booths : List B) (old row new : List (StallParts S I N T)) → Along (λ b o e n. IsJoined next (node_of b) o e n) booths old row new
        → AllZip (λ b s. IsStallOf (node_of b) s) booths new
    joined_own [] old row new along = subst (λ l. AllZip (λ b s. IsStallOf (node_of b) s) [] l) (sym along.2) tt
    joined_own (b ∷ booths) [] row new along = absurd along
    joined_own (b ∷ booths) (o ∷ old) [] new along = absurd along
    joined_own (b ∷ booths) (o ∷ old) (e ∷ row) [] along = absurd along
    joined_own (b ∷ booths) (o ∷ old) (e ∷ row) (n ∷ new) along = let here = along.0 in (here.own, joined_own booths old row new along.1)

    pub joined_shares : (booths : List B) (old row new : List (StallParts S I N T)) (place : ℕ) → Along (λ b o e n. IsJoined next (node_of b) o e n) booths old row new
        → share_at place new ≡ share_at place old + share_at place row
    joined_shares [] old row new place along =
        subst (λ l. share_at place new ≡ share_at place l + share_at place row) (sym along.0)
        (subst (λ l. share_at place new ≡ 0 + share_at {S = S} {I = I} {N = N} {T = T} place l) (sym along.1) (subst (λ l. share_at {S = S} {I = I} {N = N} {T = T} place l ≡ 0) (sym along.2) refl))
    joined_shares (b ∷ booths) [] row new place along = absurd along
    joined_shares (b ∷ booths) (o ∷ old) [] new place along = absurd along
    joined_shares (b ∷ booths) (o ∷ old) (e ∷ row) [] place along = absurd along
    joined_shares (b ∷ booths) (o ∷ old) (e ∷ row) (n ∷ new) zero along = let here = along.0 in here.shares
    joined_shares (b ∷ booths) (o ∷ old) (e ∷ row) (n ∷ new) (suc place) along = joined_shares booths old row new place along.1

    module _ (finish_of : B → R → T) where
      pub joined_gathers : (place : ℕ) (lists : ℕ → List (List I)) (list : ℕ → List I) (booths : List B) (old row new : List (StallParts S I N T))
          → Along (λ b o e n. IsJoined next (node_of b) o e n) booths old row new
          → EachFrom (λ k b s. HasGathered next (node_of b) (finish_of b) s (lists k)) place booths old
          → EachFrom (λ k b s. HasServed next (node_of b) (finish_of b) s (list k)) place booths row
          → EachFrom (λ k b s. HasGathered next (node_of b) (finish_of b) s (lists k ++ list k ∷ [])) place booths new
      joined_gathers place lists list [] old row new along gathered served =
          subst (λ l. EachFrom (λ k b s. HasGathered next (node_of b) (finish_of b) s (lists k ++ list k ∷ [])) place [] l) (sym along.2) tt
      joined_gathers place lists list (b ∷ booths) [] row new along gathered served = absurd along
      joined_gathers place lists list (b ∷ booths) (o ∷ old) [] new along gathered served = absurd along
      joined_gathers place lists list (b ∷ booths) (o ∷ old) (e ∷ row) [] along gathered served = absurd along
      joined_gathers place lists list (b ∷ booths) (o ∷ old) (e ∷ row) (n ∷ new) along gathered served =
          let here = along.0 in
          let had = gathered.0 in
          let brings = served.0 in (
            record { own = here.own; carried = here.carries (finish_of b) (lists place) (list place ∷ []) had.carried (carries_one next (finish_of b) (node_of b).first e.seat.seen e.seat.own e.told (list place) brings.served) },
            joined_gathers (place + 1) lists list booths old row new along.1 gathered.1 served.1,
          )
