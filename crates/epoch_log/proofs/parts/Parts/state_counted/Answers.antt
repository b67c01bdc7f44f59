use Rattle.std.proofs.Common.{◌≡◌, ap, subst, sym, ◌∙◌, arith, [], ◌∷◌, None, Ok, Option}
use Rattle.ar_council.specs.Room.{HasRoom}
use Rattle.key_roll.specs.Entry.{entered}
use Rattle.vote_quorum.specs.declared.value.Value.{Value}
use Rattle.epoch_log.specs.Answers.{beside}
use Rattle.epoch_log.specs.Calls.{own_status_text, own_value, stating, with_report}
use Rattle.epoch_log.specs.Ending.{closed}
use Rattle.epoch_log.specs.Log.{LogParts, moved, parts_of, state_in}
use Rattle.epoch_log.specs.Plans.{IsPlanIn}
use Rattle.epoch_log.specs.State.{LogState}
use Rattle.epoch_log.specs.declared.entries.Closing.{Closing}
use Rattle.epoch_log.proofs.parts.Parts.state_counted.Goals as goal

pub take_status-due-requires-clause-can : goal.take_status-due-requires-clause-can
take_status-due-requires-clause-can c = record {
  leaf = subst (λ (s : LogState). HasRoom s.past.signed (own_status_text s ∷ [])) (sym (ap (λ (l : LogParts). l.state) c.in_ok-reserve.ensures.same)) c.in_ok-status_leaf.ensures.room;
  room = c.in_ok-reserve.ensures.room.past_room.signed_room;
  stated = omega (arith, c.in_ok-reserve.ensures.room.past_room.stated_room);
}

-- where the log stands before the closing rule
counted : (c : goal.After-finish) → parts_of c.take_report.new.self
    ≡ moved (parts_of c.args.self.now) (with_report (stating (state_in c.args.self.now)) c.args.self.now.number (own_value (state_in c.args.self.now)) None)
counted c =
    c.take_report.ensures.counted.parts ∙ ap (λ (l : LogParts). moved l (with_report l.state c.args.self.now.number c.own_value-value.result None)) c.take_status-due.ensures.signed.parts
    ∙ ap (λ (l : LogParts). moved l (with_report (stating l.state) c.args.self.now.number c.own_value-value.result None)) c.in_ok-reserve.ensures.same
    ∙ ap (λ (v : Option Value). moved (parts_of c.args.self.now) (with_report (stating (state_in c.args.self.now)) c.args.self.now.number v None)) c.own_value-value.ensures

pub returns-clause-answer : goal.returns-clause-answer
returns-clause-answer c =
    ap (beside (closed (with_report (stating (state_in c.args.self.now)) c.args.self.now.number (own_value (state_in c.args.self.now)) None)).1)
    (subst (λ (s : LogState). entered s.past.signed (own_status_text s) ≡ Ok c.take_status-due.result) (ap (λ (l : LogParts). l.state) c.in_ok-reserve.ensures.same) c.take_status-due.ensures.signed.due)
    ∙ ap (λ (k : Closing). Ok (c.take_status-due.result, k)) (sym (c.finish.ensures.answer ∙ ap (λ (l : LogParts). (closed l.state).1) (counted c)))

pub returns-clause-ok : goal.returns-clause-ok
returns-clause-ok c = c.finish.ensures.parts ∙ ap (λ (l : LogParts). moved l (closed l.state).0) (counted c)

pub finish-requires-clause-plan : goal.finish-requires-clause-plan
finish-requires-clause-plan c =
    subst (λ (s : LogState). IsPlanIn s c.in_ok-plan.plan)
    (sym (ap (λ (l : LogParts). l.state) (c.take_report.ensures.counted.parts
    ∙ ap (λ (l : LogParts). moved l (with_report l.state c.args.self.now.number c.own_value-value.result None))
    (c.take_status-due.ensures.signed.parts ∙ ap (λ (l : LogParts). moved l (stating l.state)) c.in_ok-reserve.ensures.same))))
    (c.in_ok-plan.ensures None)
