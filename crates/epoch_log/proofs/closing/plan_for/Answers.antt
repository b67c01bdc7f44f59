use Rattle.std.proofs.Common.{ap, arith, sym, ◌∙◌, List}
use Rattle.std.specs.Option.{option_map}
use Rattle.ar_council.specs.Council.{council_of}
use Rattle.vote_quorum.specs.Statuses.{Status}
use Rattle.epoch_log.specs.Plans.{verdict_of}
use Rattle.epoch_log.proofs.Plans.{planned-decided, planned-late, planned-open, planned-skipped}
use Rattle.epoch_log.proofs.closing.plan_for.Goals as goal

pub returns-then-epoch-ge-LAST_EPOCH : goal.returns-then-epoch-ge-LAST_EPOCH
returns-then-epoch-ge-LAST_EPOCH c =
    planned-late (council_of c.args.directory.now) c.args.epoch (option_map (λ v. v.now) c.args.own) (option_map (λ t. t.now) c.args.tried) c.args.ballots.now c.args.reports.items
    (omega (arith, c.if-epoch-ge-LAST_EPOCH.true))

pub returns-in-Open : goal.returns-in-Open
returns-in-Open c =
    planned-open (council_of c.args.directory.now) c.args.epoch (option_map (λ v. v.now) c.args.own) (option_map (λ t. t.now) c.args.tried) c.args.ballots.now c.args.reports.items
    (omega (arith, c.if-epoch-ge-LAST_EPOCH.false))
    (ap (λ (l : List Status). verdict_of (council_of c.args.directory.now) (option_map (λ v. v.now) c.args.own) c.args.ballots.now l) (sym c.deref.ensures.value)
    ∙ sym c.in_ok-verdict_on.ensures ∙ c.in-Open.is)

pub returns-in-Skipped : goal.returns-in-Skipped
returns-in-Skipped c =
    planned-skipped (council_of c.args.directory.now) c.args.epoch (option_map (λ v. v.now) c.args.own) (option_map (λ t. t.now) c.args.tried) c.args.ballots.now c.args.reports
    (omega (arith, c.if-epoch-ge-LAST_EPOCH.false))
    (ap (λ (l : List Status). verdict_of (council_of c.args.directory.now) (option_map (λ v. v.now) c.args.own) c.args.ballots.now l) (sym c.deref.ensures.value)
    ∙ sym c.in_ok-verdict_on.ensures ∙ c.in-Skipped.is)

pub returns-in_ok-decision-in-Decided : goal.returns-in_ok-decision-in-Decided
returns-in_ok-decision-in-Decided c =
    planned-decided (council_of c.args.directory.now) c.args.epoch (option_map (λ v. v.now) c.args.own) (option_map (λ t. t.now) c.args.tried) c.args.ballots.now c.args.reports.items c.in_ok-decision-in-Decided.decision
    (omega (arith, c.if-epoch-ge-LAST_EPOCH.false))
    (ap (λ (l : List Status). verdict_of (council_of c.args.directory.now) (option_map (λ v. v.now) c.args.own) c.args.ballots.now l) (sym c.deref.ensures.value)
    ∙ sym c.in_ok-verdict_on.ensures ∙ c.in-Decided.is) c.in_ok-decision-in-Decided.ensures
