use Rattle.std.proofs.Common.{ap, ◌∙◌, List, Some}
use Rattle.std.specs.Option.{option_map}
use Rattle.epoch_log.specs.Ending.{own_vote}
use Rattle.epoch_log.specs.Log.{state_in}
use Rattle.epoch_log.specs.declared.entries.Voted.{Voted}
use Rattle.epoch_log.proofs.Foretold.{foreseen-status}
use Rattle.epoch_log.proofs.parts.Parts.foresee_status.Goals as goal

pub returns : goal.returns
returns c =
    foreseen-status (state_in c.args.self.now) c.args.log c.args.value.now (Some c.args.signature.now) (option_map (λ v. v.now) c.own_vote-own.result) c.foresee_with_status.result
    (c.own_vote-own.ensures ∙ ap (λ (l : List Voted). own_vote l c.epoch.result) c.deref.ensures.value ∙ ap (own_vote c.args.self.now.past.voted.items) c.epoch.ensures)
    c.foresee_with_status.ensures
