use Rattle.std.proofs.Common.{ap, sym, subst, ◌∙◌, Option}
use Rattle.std.specs.Prelude.{unwrap_or}
use Rattle.std.specs.Option.{option_map}
use Rattle.ar_message.specs.Messages.{message_in}
use Rattle.authority_core.specs.Row.{asked_in}
use Rattle.owner_check.specs.declared.answer.Outcome.{Outcome}
use Rattle.owner_check.specs.declared.answer.Outcome.TheVariants.{No}
use Rattle.ar_nodes.specs.Parties.{CheckParts, check_told}
use Rattle.station.specs.Station.{IsAnswerOf, Unfilled, an_authority, authority_took}
use Rattle.station.proofs.Noting.{note-of, took-so}
use Rattle.station.proofs.taking.authority_takes.Goals as goal

pub returns-clause-note : goal.returns-clause-note
returns-clause-note g c =
    subst (IsAnswerOf (option_map (check_told g.C.OwnerCheck.told g.C.OwnerCheck.answers) c.args.core.now.check) (asked_in (message_in c.args.bytes.now))) (sym c.note_by-note.ensures)
    (note-of g.C.OwnerCheck.told g.C.OwnerCheck.answers c.args.core.now.check c.step-answer.new.self.check c.args.core.now.state c.step-answer.new.self.state c.args.bytes.now c.step-answer.result
    c.are_bytes.ensures c.in_ok-reply.ensures.ok.0 c.step-answer.ensures.checks c.step-answer.ensures.row)

pub returns-clause-ok : goal.returns-clause-ok
returns-clause-ok g c =
    let old : Option CheckParts = option_map (check_told g.C.OwnerCheck.told g.C.OwnerCheck.answers) c.args.core.now.check in
    let new : Option CheckParts = option_map (check_told g.C.OwnerCheck.told g.C.OwnerCheck.answers) c.step-answer.new.self.check in
    ap (λ (note : Option Outcome). authority_took (unwrap_or note No) c.args.core.now.state old (message_in c.args.bytes.now)) c.note_by-note.ensures
    ∙ took-so g.C.OwnerCheck.told g.C.OwnerCheck.answers c.args.core.now.check c.step-answer.new.self.check c.args.core.now.state c.step-answer.new.self.state c.args.bytes.now
    c.step-answer.result c.are_bytes.ensures c.in_ok-reply.ensures.ok.0 c.step-answer.ensures.checks c.step-answer.ensures.row
    ∙ ap (λ (reply : Unfilled). (reply, an_authority c.step-answer.new.self.state new)) (sym c.in_ok-reply.ensures.ok.1)
