use Rattle.std.proofs.Common.{ap, ◌∙◌}
use mathlib.Core.Option.{some}
use Rattle.shared_node.specs.Seats.{SeatParts}
use Rattle.shared_node.proofs.StepsKeep.{closed_with, closed_has_core}
use Rattle.shared_node.proofs.shared.SharedNode.close.Goals as goal

pub unreachable-requires : goal.unreachable-requires
unreachable-requires g c =
    closed_has_core _ _ _ _ _ _ _ _ c.close_with-closed.ensures.values.2 (ap (λ (s : SeatParts _ _ _). s.share) c.seat.view_is ∙ c.requires.all) c.seat.invariant.1
    (c.take-slot.ensures.value ∙ ap some c.in-None.is)

pub returns-clause-replays : goal.returns-clause-replays
returns-clause-replays g c =
    rw (← c.self.view_is)
    (closed_with _ _ _ _ _ _ _ _ _ c.close_with-closed.ensures.values.2 (ap (λ (s : SeatParts _ _ _). s.share) c.seat.view_is ∙ c.requires.all) c.seat.invariant.1
    (c.take-slot.ensures.value ∙ ap some c.in-Some.is)).0

pub returns-clause-seen : goal.returns-clause-seen
returns-clause-seen g c =
    rw (← c.seat.view_is)
    (closed_with _ _ _ _ _ _ _ _ _ c.close_with-closed.ensures.values.2 (ap (λ (s : SeatParts _ _ _). s.share) c.seat.view_is ∙ c.requires.all) c.seat.invariant.1
    (c.take-slot.ensures.value ∙ ap some c.in-Some.is)).1

pub returns-clause-own : goal.returns-clause-own
returns-clause-own g c =
    rw (← c.seat.view_is)
    (closed_with _ _ _ _ _ _ _ _ _ c.close_with-closed.ensures.values.2 (ap (λ (s : SeatParts _ _ _). s.share) c.seat.view_is ∙ c.requires.all) c.seat.invariant.1
    (c.take-slot.ensures.value ∙ ap some c.in-Some.is)).2
