use Rattle.std.proofs.Common.{◌≡◌, ap, subst, sym, ◌∙◌, arith, [], ◌∷◌, Ok}
use Rattle.ar_council.specs.Room.{HasRoom}
use Rattle.key_roll.specs.Entry.{entered}
use Rattle.epoch_log.specs.Calls.{own_status_text, stating}
use Rattle.epoch_log.specs.Log.{LogParts, moved}
use Rattle.epoch_log.specs.State.{LogState}
use Rattle.epoch_log.proofs.parts.Parts.state_only.Goals as goal

pub take_status-requires-clause-can : goal.take_status-requires-clause-can
take_status-requires-clause-can c = record {
  leaf = subst (λ (s : LogState). HasRoom s.past.signed (own_status_text s ∷ [])) (sym (ap (λ (l : LogParts). l.state) c.in_ok-reserve.ensures.same)) c.in_ok-status_leaf.ensures.room;
  room = c.in_ok-reserve.ensures.room.past_room.signed_room;
  stated = omega (arith, c.in_ok-reserve.ensures.room.past_room.stated_room);
}

pub returns-clause-answer : goal.returns-clause-answer
returns-clause-answer c =
    subst (λ (s : LogState). entered s.past.signed (own_status_text s) ≡ Ok c.take_status.result) (ap (λ (l : LogParts). l.state) c.in_ok-reserve.ensures.same)
    c.take_status.ensures.signed.due

pub returns-clause-ok : goal.returns-clause-ok
returns-clause-ok c = c.take_status.ensures.signed.parts ∙ ap (λ (l : LogParts). moved l (stating l.state)) c.in_ok-reserve.ensures.same
