use Rattle.std.proofs.Common.{ap, sym, subst, ◌∙◌, List, Option}
use Rattle.std.specs.Prelude.{IfSome, IsSome}
use Rattle.std.specs.Option.{option_map}
use Rattle.domain_table.specs.Tables.{Table}
use Rattle.epoch_log.specs.Ending.{own_vote}
use Rattle.epoch_log.specs.Log.{state_in}
use Rattle.epoch_log.specs.declared.entries.Voted.{Voted}
use Rattle.epoch_log.specs.declared.parts.Tables.{Tables}
use Rattle.epoch_log.proofs.Plans.{own-has-tried}
use Rattle.epoch_log.proofs.parts.Parts.plan.Goals as goal

pub plan_for-requires-clause-tried : goal.plan_for-requires-clause-tried
plan_for-requires-clause-tried c =
    subst (λ (o : Option Table). IfSome (option_map (λ v. v.now) c.own_vote.result) (λ (v : Voted). IsSome o)) (sym (c.as_ref.ensures.value ∙ ap (λ (t : Tables). t.tried) c.requires.kept.tables))
    (own-has-tried (state_in c.args.self.now) (option_map (λ v. v.now) c.own_vote.result) c.requires.kept.kept
    (sym (c.own_vote.ensures ∙ ap (λ (l : List Voted). own_vote l c.epoch-epoch.result) c.deref.ensures.value ∙ ap (own_vote c.args.self.now.past.voted.items) c.epoch-epoch.ensures)))
