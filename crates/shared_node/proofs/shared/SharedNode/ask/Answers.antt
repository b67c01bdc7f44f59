use Rattle.std.proofs.Common.{ap, sym, ◌∙◌, refl}
use Rattle.shared_node.proofs.HistoryLemmas.{adds_replays}
use Rattle.shared_node.proofs.shared.SharedNode.ask.Goals as goal

pub count-requires-clause-call : goal.count-requires-clause-call
count-requires-clause-call g c κs within =
    let adds = c.in-Ok.ensures.ok in
    ((c.args.input, adds.note), rw c.take-node.ensures.taken adds.history_is)

pub count-requires-clause-replays : goal.count-requires-clause-replays
count-requires-clause-replays g c κs within = adds_replays _ _ _ _ _ _ _ _ c.in-Ok.ensures.ok c.take-node.ensures.replays

pub returns-in-Ok-clause-ok : goal.returns-in-Ok-clause-ok
returns-in-Ok-clause-ok g c =
    let adds = c.in-Ok.ensures.ok in
    let took = c.take-node.ensures in record {
      before = c.take-node.result.history.items;
      note = adds.note;
      later = rw (← c.seat.view_is) took.later;
      place_is = rw (c.new-place.ensures, c.count.ensures.place, took.taken) refl;
      legally = rw (← adds.history_is) (adds_replays _ _ _ _ _ _ _ _ adds took.replays).legally;
      reply_is = sym (ap (λ s. (g.C.Core.next s c.args.input adds.note).0) took.replays.state ∙ ap (λ made. made.0) adds.next_is);
      after = rw (← c.seat.view_is, c.new-place.ensures, c.count.ensures.own, c.count.ensures.left, took.own, took.taken, adds.history_is) refl;
    }

pub returns-clause-err : goal.returns-clause-err
returns-clause-err g c =
    let took = c.take-node.ensures in record {
      later = rw (← c.seat.view_is, c.leave.ensures.left, took.taken) took.later;
      after = rw (← c.seat.view_is, c.leave.ensures.own, c.leave.ensures.left, took.own, took.taken) refl;
    }
