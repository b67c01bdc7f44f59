-- What keeps the rule of a node: one view changes, is split, or takes in another.
use Rattle.std.proofs.Common.{◌≡◌, ◌≢◌, ℕ, ◌+◌, ◌<◌, ◌≤◌, ⊎_elim, true, false, Option, Some, List, [], ◌∷◌, ◌++◌, set, length, ap, sym, refl, subst, ◌∙◌, arith}
use mathlib.Core.Option.{some}
use mathlib.Core.Option as home
use lib.ListN.{get_elem?}
use Rattle.ar_seats.specs.Shares.{whole}
use Rattle.ar_base.specs.Counting.{one_if}
use Rattle.ar_seats.specs.Numbers.{HasEachBelow, times, once_below, merged}
use Rattle.ar_base.specs.Prefixes.{BeginsWith}
use Rattle.ar_seats.proofs.TotalsLemmas.{total-set, total_split, total_join, two-le-total, total_owner}
use Rattle.ar_seats.proofs.NumbersLemmas.{once_below-le-1}
use Rattle.ar_seats.proofs.RisingLemmas.{times-merged, rising_merged}
use Rattle.ar_base.proofs.Prefixes.{begins_on}
use Rattle.ar_seats.proofs.PrefixLemmas.{longer_is_one, longer_begins}
use Rattle.ar_seats.specs.Prefixes.{longer}
use Rattle.atomic_table.proofs.Lists.{at_set, at_snoc}
use Rattle.node_core.specs.History.{IsLegal}
use Rattle.shared_node.specs.Rule.{Fits, IsHome, Keeps}
use Rattle.shared_node.specs.Steps.{left_view, given_view, joined_view, spent_view}
use Rattle.shared_node.proofs.Shorter.{shorter_is_one}
use Rattle.shared_node.specs.declared.held.Held.{Held}
use Rattle.shared_node.specs.declared.node.Node.{Node}

module _ {S I N : Type 0} where
  -- what fits a history fits one that goes on, where the seat has not the core or has seen all
  pub fits_on : (first : S) (history after : List (I × N)) (seat : Held S I N) → BeginsWith after history → (seat.holds ≡ true → seat.seen ≡ after)
      → Fits first history seat → Fits first after seat
  fits_on first history after seat on holding fits = record {
    node = fits.node;
    seen = begins_on seat.seen history after on fits.seen;
    shorter = fits.shorter;
    rising = fits.rising;
    holding = holding;
    idle = fits.idle;
  }

  pub spent_fits : (first : S) (history : List (I × N)) → Fits first history spent_view
  spent_fits first history = record {
    node = λ some_share. absurd (omega arith);
    seen = (history, refl);
    shorter = ([], refl);
    rising = tt;
    holding = λ holds. cc;
    idle = λ none. (refl, refl);
  }

module _ {C S I N R : Type 0} (state : C → S) (next : S → I → N → R × S) (legal : S → I → N → Type 0) where
  -- no other seat has the core
  pub other_is_free : (first : S) (history : List (I × N)) (holders : ℕ) (slots : List (home.Option (Option (Node C I N)))) (seats : List (Held S I N)) (i j : ℕ) (v u : Held S I N)
      → Keeps state next legal first history holders slots seats → get_elem? seats i ≡ some v → v.holds ≡ true → j ≢ i → get_elem? seats j ≡ some u → u.holds ≡ true → ⊥
  other_is_free first history holders slots seats i j v u kept at holds apart there too =
      let both = two-le-total (λ (seat : Held S I N). one_if seat.holds) seats j i u v apart there at in
      let one = ap one_if holds in
      let two = ap one_if too in
      let all = kept.held in
      let most = kept.one in
      omega arith

  -- one view changes, with the history, the holders and the slot
  pub keeps_changed : (first : S) (history after : List (I × N)) (holders holders' : ℕ) (slots slots' : List (home.Option (Option (Node C I N)))) (seats : List (Held S I N)) (i : ℕ) (v w : Held S I N)
      → Keeps state next legal first history holders slots seats → get_elem? seats i ≡ some v
      → IsLegal next legal first after → BeginsWith after history
      → ((j : ℕ) (u : Held S I N) → j ≢ i → get_elem? seats j ≡ some u → u.holds ≡ true → u.seen ≡ after)
      → w.share ≡ v.share → Fits first after w
      → ((place : ℕ) → times place w.own + once_below (length history) place ≡ times place v.own + once_below (length after) place)
      → holders + one_if w.holds ≡ holders' + one_if v.holds → holders' ≤ 1 → length slots' ≡ 1 → (holders' ≡ 0 → IsHome state next legal first after slots')
      → Keeps state next legal first after holders' slots' (set seats i w)
  keeps_changed first history after holders holders' slots slots' seats i v w kept at legally on others share fits own held one slot home = record {
    legally = legally;
    shares = let before = kept.shares in omega (arith, total-set (λ (seat : Held S I N). seat.share) seats i v w at);
    fits = λ j u there. ⊎_elim
        (λ (here : (j ≡ i) × (w ≡ u)). subst (Fits first after) here.1 fits)
        (λ (else : (j ≢ i) × (get_elem? seats j ≡ some u)). fits_on first history after u on (others j u else.0 else.1) (kept.fits j u else.1))
        (at_set seats i j w u there);
    once = λ place. omega (arith, kept.once place, own place, total-set (λ (seat : Held S I N). times place seat.own) seats i v w at);
    held = let before = kept.held in omega (arith, total-set (λ (seat : Held S I N). one_if seat.holds) seats i v w at);
    one = one;
    slot = slot;
    home = home;
  }

  -- a view that is split
  pub keeps_split : (first : S) (history : List (I × N)) (holders : ℕ) (slots : List (home.Option (Option (Node C I N)))) (seats : List (Held S I N)) (i : ℕ) (v : Held S I N)
      → Keeps state next legal first history holders slots seats → get_elem? seats i ≡ some v → 1 < v.share
      → Keeps state next legal first history holders slots (set seats i (left_view v) ++ given_view v ∷ [])
  keeps_split first history holders slots seats i v kept at wide =
      let fits : Fits first history v = kept.fits i v at in
      let left_fits : Fits first history (left_view v) = record {
        node = λ some_share. fits.node (omega arith);
        seen = fits.seen;
        shorter = fits.shorter;
        rising = fits.rising;
        holding = fits.holding;
        idle = λ none. absurd (omega arith);
      } in
      let given_fits : Fits first history (given_view v) = record {
        node = λ some_share. fits.node (omega arith);
        seen = fits.seen;
        shorter = (v.seen, refl);
        rising = tt;
        holding = λ holds. cc;
        idle = λ none. (refl, refl);
      } in
      record {
        legally = kept.legally;
        shares = let before = kept.shares in omega (arith, total_split (λ (seat : Held S I N). seat.share) seats i v (left_view v) (given_view v) at);
        fits = λ j u there. ⊎_elim
            (λ old. ⊎_elim
            (λ (here : (j ≡ i) × (left_view v ≡ u)). subst (Fits first history) here.1 left_fits)
            (λ (else : (j ≢ i) × (get_elem? seats j ≡ some u)). kept.fits j u else.1)
            (at_set seats i j (left_view v) u old))
            (λ (new : given_view v ≡ u). subst (Fits first history) new given_fits)
            (at_snoc (set seats i (left_view v)) (given_view v) u j there);
        once = λ place. omega (arith, kept.once place, total_split (λ (seat : Held S I N). times place seat.own) seats i v (left_view v) (given_view v) at);
        held = let before = kept.held in omega (arith, total_split (λ (seat : Held S I N). one_if seat.holds) seats i v (left_view v) (given_view v) at);
        one = kept.one;
        slot = kept.slot;
        home = kept.home;
      }

  -- a view that takes in another, where neither has the core
  pub keeps_joined : (first : S) (history : List (I × N)) (holders : ℕ) (slots : List (home.Option (Option (Node C I N)))) (seats : List (Held S I N)) (i j : ℕ) (v w : Held S I N)
      → Keeps state next legal first history holders slots seats → get_elem? seats i ≡ some v → j ≢ i → get_elem? (set seats i (joined_view v w)) j ≡ some w
      → v.first ≡ Some first → v.holds ≡ false → w.holds ≡ false
      → Keeps state next legal first history holders slots (set (set seats i (joined_view v w)) j spent_view)
  keeps_joined first history holders slots seats i j v w kept at apart there node free other_free =
      let both : Held S I N = joined_view v w in
      let was : get_elem? seats j ≡ some w = ⊎_elim
      (λ (here : (j ≡ i) × (both ≡ w)). absurd (apart here.0))
      (λ (else : (j ≢ i) × (get_elem? seats j ≡ some w)). else.1)
      (at_set seats i j both w there) in
      let fits : Fits first history v = kept.fits i v at in
      let others : Fits first history w = kept.fits j w was in
      let once : (place : ℕ) → times place v.own + times place w.own ≤ 1 = λ place.
      omega (arith, two-le-total (λ (seat : Held S I N). times place seat.own) seats j i w v apart was at, kept.once place, once_below-le-1 (length history) place) in
      let both_fits : Fits first history both = record {
        node = λ some_share. node;
        seen = longer_is_one v.seen w.seen (BeginsWith history) fits.seen others.seen;
        shorter = let begins = longer_begins history v.seen w.seen fits.seen others.seen in shorter_is_one v.seen w.seen (BeginsWith (longer v.seen w.seen)) begins.0 begins.1;
        rising = rising_merged v.own w.own fits.rising others.rising once;
        holding = λ holds. cc;
        idle = λ none.
            let own = (fits.idle (omega arith)).0 in
            let more = (others.idle (omega arith)).0 in
            (ap (merged v.own) more ∙ own, free);
      } in
      let sum = λ (f : Held S I N → ℕ). total_join f seats i j v w both spent_view at there in
      record {
        legally = kept.legally;
        shares = let before = kept.shares in omega (arith, sum (λ (seat : Held S I N). seat.share));
        fits = λ k u at_k. ⊎_elim
            (λ (here : (k ≡ j) × (spent_view ≡ u)). subst (Fits first history) here.1 (spent_fits first history))
            (λ (else : (k ≢ j) × (get_elem? (set seats i both) k ≡ some u)). ⊎_elim
            (λ (here : (k ≡ i) × (both ≡ u)). subst (Fits first history) here.1 both_fits)
            (λ (old : (k ≢ i) × (get_elem? seats k ≡ some u)). kept.fits k u old.1)
            (at_set seats i k both u else.1))
            (at_set (set seats i both) j k spent_view u at_k);
        once = λ place. omega (arith, kept.once place, sum (λ (seat : Held S I N). times place seat.own), times-merged place v.own w.own);
        held = let before = kept.held in omega (arith, sum (λ (seat : Held S I N). one_if seat.holds), ap one_if other_free);
        one = kept.one;
        slot = kept.slot;
        home = kept.home;
      }

  -- a view with all shares has all calls
  pub whole_has_each : (first : S) (history : List (I × N)) (holders : ℕ) (slots : List (home.Option (Option (Node C I N)))) (seats : List (Held S I N)) (i : ℕ) (v : Held S I N)
      → Keeps state next legal first history holders slots seats → get_elem? seats i ≡ some v → v.share ≡ whole → HasEachBelow (length history) v.own
  whole_has_each first history holders slots seats i v kept at all place =
      let owner = total_owner (λ (seat : Held S I N). seat.share) (λ (seat : Held S I N). times place seat.own) seats i v at (kept.shares ∙ sym all)
      (λ j w there none. ap (times place) ((kept.fits j w there).idle none).0) in
      sym owner ∙ kept.once place

  -- where such a view has not the core, it is home
  pub whole_is_home : (first : S) (history : List (I × N)) (holders : ℕ) (slots : List (home.Option (Option (Node C I N)))) (seats : List (Held S I N)) (i : ℕ) (v : Held S I N)
      → Keeps state next legal first history holders slots seats → get_elem? seats i ≡ some v → v.share ≡ whole → v.holds ≡ false
      → IsHome state next legal first history slots
  whole_is_home first history holders slots seats i v kept at all free =
      let owner = total_owner (λ (seat : Held S I N). seat.share) (λ (seat : Held S I N). one_if seat.holds) seats i v at (kept.shares ∙ sym all)
      (λ j w there none. ap one_if ((kept.fits j w there).idle none).1) in
      kept.home (sym kept.held ∙ owner ∙ ap one_if free)
