use Rattle.std.proofs.Common.{◌≡◌, ap, sym, ◌∙◌, List, Some, true}
use Rattle.std.specs.Option.{option_map}
use Rattle.ar_cert.specs.Changes.{Change}
use Rattle.epoch_log.specs.Ending.{own_vote}
use Rattle.epoch_log.specs.Record.{LogRecord}
use Rattle.epoch_log.specs.State.{LogState, epoch_of}
use Rattle.epoch_log.specs.declared.entries.Voted.{Voted}
use Rattle.log_sending.specs.Queued.{are_same_changes}
use Rattle.log_sending.proofs.Tried.{tried-leads}
use Rattle.log_sending.proofs.judging.tried_for.Goals as goal

pub returns-then-are_same : goal.returns-then-are_same
returns-then-are_same c =
    let s : LogState = c.args.log.now.state in
    let voted : c.deref.result.now ≡ s.past.voted = c.deref.ensures.value ∙ ap (λ (r : LogRecord). r.voted) c.record.ensures in
    let own : own_vote s.past.voted (epoch_of s) ≡ Some c.in-Some.vote.now =
    sym (c.in-Some.ensures ∙ ap (λ (l : List Voted). own_vote l c.epoch.result) voted ∙ ap (own_vote s.past.voted) c.epoch.ensures) in
    let same : are_same_changes c.in-Some.vote.now.changes c.args.changes.now ≡ true =
    ap (λ (l : List Change). are_same_changes l c.args.changes.now) (sym c.as_slice.ensures) ∙ sym c.are_same.ensures ∙ c.if-are_same.true in
    tried-leads s c.in-Some.vote.now c.args.changes.now (option_map (λ t. t.now) c.tried.result) c.told.ensures.kept own c.requires same c.tried.ensures
