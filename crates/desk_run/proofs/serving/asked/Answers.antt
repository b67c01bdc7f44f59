use Rattle.std.proofs.Common.{◌≡◌, inl, inr, refl, ap, Err, ◌∙◌, subst, ◌++◌, Some}
use Rattle.desk_run.proofs.Asked.{did_refusal, did_reply}
use Rattle.desk_run.proofs.serving.asked.Goals as goal

pub returns-in_err-replied-in-Ok-clause-memory : goal.returns-in_err-replied-in-Ok-clause-memory
returns-in_err-replied-in-Ok-clause-memory g c _ =
    let reply = c.in-Ok.reply in
    let written = g.D.LineParty.sent_text reply ++ g.D.LineParty.told_text c.step.new.self.party c.args.number c.args.order.now reply in
    inr (
      written,
      did_reply g.D.LineParty.asked g.D.Keeper.says g.D.Keeper.takes g.D.Keeper.tells g.D.Keeper.refuses g.D.LineParty.sent_text g.D.LineParty.told_text g.D.LineParty.refused_text
          c.args.kept.now c.step.new.self c.args.number c.args.order.now reply written c.in-Ok.ensures.replied refl,
    )

pub returns-in_err-declined-in-Err-Refused-clause-memory : goal.returns-in_err-declined-in-Err-Refused-clause-memory
returns-in_err-declined-in-Err-Refused-clause-memory g c _ =
    let r = c.in-Err-Refused.ensures.refused c.in-Err-Refused.refusal (ap Err c.in-Err-Refused.field-0-is) in
    inl r.0

pub returns-in_ok-replied-in-Ok-clause-did : goal.returns-in_ok-replied-in-Ok-clause-did
returns-in_ok-replied-in-Ok-clause-did g c =
    let text = c.in_ok-replied-in-Ok.field-0.items in
    let reply = c.in-Ok.reply in
    did_reply g.D.LineParty.asked g.D.Keeper.says g.D.Keeper.takes g.D.Keeper.tells g.D.Keeper.refuses g.D.LineParty.sent_text g.D.LineParty.told_text g.D.LineParty.refused_text
    c.args.kept.now c.step.new.self c.args.number c.args.order.now reply text c.in-Ok.ensures.replied
    (subst (λ party. text ≡ g.D.LineParty.sent_text reply ++ g.D.LineParty.told_text party c.args.number c.args.order.now reply) c.party.ensures c.in_ok-replied-in-Ok.ensures)

pub returns-in_ok-declined-in-Err-Refused-clause-did : goal.returns-in_ok-declined-in-Err-Refused-clause-did
returns-in_ok-declined-in-Err-Refused-clause-did g c =
    let r = c.in-Err-Refused.ensures.refused c.in-Err-Refused.refusal (ap Err c.in-Err-Refused.field-0-is) in
    let text = c.in_ok-declined-in-Err-Refused.field-0.items in
    let refusal = c.in-Err-Refused.refusal in
    did_refusal g.D.LineParty.asked g.D.Keeper.says g.D.Keeper.takes g.D.Keeper.tells g.D.Keeper.refuses g.D.LineParty.sent_text g.D.LineParty.told_text g.D.LineParty.refused_text
    c.args.kept.now c.step.new.self c.args.number c.args.order.now refusal text r.0 r.1
    (subst (λ party. g.D.LineParty.refused_text party c.args.number c.args.order.now refusal ≡ Some text) c.party-in-Err-Refused.ensures c.in_ok-declined-in-Err-Refused.ensures)

pub returns-in_ok-declined-in-Err-Refused-clause-goes_on : goal.returns-in_ok-declined-in-Err-Refused-clause-goes_on
returns-in_ok-declined-in-Err-Refused-clause-goes_on g c _ runs =
    let r = c.in-Err-Refused.ensures.refused c.in-Err-Refused.refusal (ap Err c.in-Err-Refused.field-0-is) in
    ap (λ k. k.journal.stopped) r.0 ∙ runs

pub returns-in_ok-declined-in-Err-Refused-clause-uncounted : goal.returns-in_ok-declined-in-Err-Refused-clause-uncounted
returns-in_ok-declined-in-Err-Refused-clause-uncounted g c _ =
    let r = c.in-Err-Refused.ensures.refused c.in-Err-Refused.refusal (ap Err c.in-Err-Refused.field-0-is) in
    ap (λ k. g.K.Disk.faults k.journal.disk) r.0

pub returns-in_ok-declined-in-Err-Refused-clause-durable : goal.returns-in_ok-declined-in-Err-Refused-clause-durable
returns-in_ok-declined-in-Err-Refused-clause-durable g c =
    let r = c.in-Err-Refused.ensures.refused c.in-Err-Refused.refusal (ap Err c.in-Err-Refused.field-0-is) in
    inl (ap (λ k. k.journal) r.0)

pub returns-in_err-declined-in-Err-Refused-clause-goes_on : goal.returns-in_err-declined-in-Err-Refused-clause-goes_on
returns-in_err-declined-in-Err-Refused-clause-goes_on g c _ runs =
    let r = c.in-Err-Refused.ensures.refused c.in-Err-Refused.refusal (ap Err c.in-Err-Refused.field-0-is) in
    ap (λ k. k.journal.stopped) r.0 ∙ runs

pub returns-in_err-declined-in-Err-Refused-clause-uncounted : goal.returns-in_err-declined-in-Err-Refused-clause-uncounted
returns-in_err-declined-in-Err-Refused-clause-uncounted g c _ =
    let r = c.in-Err-Refused.ensures.refused c.in-Err-Refused.refusal (ap Err c.in-Err-Refused.field-0-is) in
    ap (λ k. g.K.Disk.faults k.journal.disk) r.0
