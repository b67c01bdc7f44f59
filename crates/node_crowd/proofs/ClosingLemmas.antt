-- What is taken where a node is closed.
use Rattle.std.proofs.Common.{◌≡◌, ℕ, List, Some, length, map, sym, ◌∙◌, subst}
use Rattle.std.specs.Prelude.{slice_get}
use Rattle.std.specs.List.{AllByRecursion}
use Rattle.std.proofs.lemmas.List.{length-map}
use Rattle.ar_base.specs.Prefixes.{BeginsWith}
use Rattle.ar_seats.specs.Numbers.{HasEachBelow}
use Rattle.ar_seats.proofs.NumbersLemmas.{length_each}
use Rattle.node_core.specs.History.{Replays, replies}
use Rattle.node_core.proofs.Histories.{many_replies}
use Rattle.seat_orders.specs.Carrying.{places_of}
use Rattle.seat_orders.proofs.CarriesLemmas.{carries_closed, told_closed}
use Rattle.shared_node.specs.Seats.{NodeParts}
use Rattle.node_crowd.specs.Stalls.{HasGathered, StallParts}
use Rattle.node_crowd.specs.Working.{IsTaken}
use Rattle.node_crowd.proofs.BroughtLemmas.{carries_brought}

module _ {S I N R T : Type 0} (next : S → I → N → R × S) (node : NodeParts S) (finish : R → T) (stall : StallParts S I N T) (history : List (I × N)) where
  -- as many were told as calls are in the history
  told_many : (lists : List (List I)) → HasGathered next node finish stall lists → BeginsWith history stall.seat.seen → HasEachBelow (length history) stall.seat.own → length history ≡ length stall.told
  told_many lists gathered begins all =
      let told = told_closed next finish node.first stall.seat.seen history stall.seat.own stall.told lists gathered.carried begins all in
      sym (length_each (length history) (places_of stall.told) told.1) ∙ length-map stall.told (λ (t : ℕ × T). t.0)

  -- each place was told once
  pub told_each : (lists : List (List I)) → HasGathered next node finish stall lists → BeginsWith history stall.seat.seen → HasEachBelow (length history) stall.seat.own
      → HasEachBelow (length stall.told) (places_of stall.told)
  told_each lists gathered begins all =
      let told = told_closed next finish node.first stall.seat.seen history stall.seat.own stall.told lists gathered.carried begins all in
      subst (λ n. HasEachBelow n (places_of stall.told)) (told_many lists gathered begins all) told.1

  pub is_taken : (legal : S → I → N → Type 0) (now : S) (laid : List T) (lists : List (List I)) → HasGathered next node finish stall lists → Replays next legal node.first history now
      → BeginsWith history stall.seat.seen → HasEachBelow (length history) stall.seat.own
      → ((values : List T) → length values ≡ length stall.told → AllByRecursion (λ t. slice_get values t.0 ≡ Some t.1) stall.told → laid ≡ values)
      → IsTaken next legal finish node.first lists history now laid
  is_taken legal now laid lists gathered replays begins all put =
      let told = told_closed next finish node.first stall.seat.seen history stall.seat.own stall.told lists gathered.carried begins all in
      let many : length (map finish (replies next node.first history)) ≡ length stall.told =
      length-map (replies next node.first history) finish ∙ many_replies next node.first history ∙ told_many lists gathered begins all in
      record {
        replays = replays;
        replied = put (map finish (replies next node.first history)) many told.0;
        brought = carries_brought next finish node.first stall.seat.seen history stall.seat.own stall.told lists gathered.carried begins all;
        order = λ number apart. carries_closed next finish node.first stall.seat.seen history stall.seat.own stall.told lists number gathered.carried begins all apart;
      }
