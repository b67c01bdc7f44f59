use Rattle.std.proofs.Common.{rules, ◌-◌, List, ℕ, ◌++◌, None, length, take, drop, subst, sym}
use Rattle.kept_disk.specs.Memory.{synced}
use Rattle.kept_journal.specs.Journal.{Stands}
use Rattle.kept_journal.specs.Replays.{ReachesBy}
use Rattle.log_journal.specs.Inputs.{mark}
use Rattle.log_journal.specs.Steps.{standing_of, takes}
use Rattle.log_restart.specs.Inputs.{texts_of}
use Rattle.log_restart.proofs.Ran.{HasRoom, never_fails, rest-whole}
use Rattle.log_restart.proofs.restarting.ask_rest.Goals as goal

pub ask_all-requires : goal.ask_all-requires
ask_all-requires c =
    let whole = rest-whole c.args.inputs.now c.args.from in
    record {
      going = c.requires.going;
      replays = (
        c.requires.replays.0,
        subst (λ (ts : List (List ℕ)). ReachesBy takes (standing_of c.args.kept.now.log) ts c.requires.replays.0) (sym whole) c.requires.replays.1,
      );
    }

pub unreachable-requires : goal.unreachable-requires
unreachable-requires c =
    let whole = rest-whole c.args.inputs.now c.args.from in
    let texts = texts_of (take (length c.args.inputs.now - c.args.from) (drop c.args.from c.args.inputs.now)) in
    let has : HasRoom texts None c.args.kept.now = subst (λ (ts : List (List ℕ)). HasRoom ts None c.args.kept.now) (sym whole)
    (record { fused = c.requires.unlimited; room = c.requires.room; changes = c.requires.changes }) in
    never_fails texts c.args.kept.now c.ask_all.new.kept has (c.in_ok-ask_all.ensures.failed (search rules))

pub returns-clause-became : goal.returns-clause-became
returns-clause-became c =
    let all = c.in_ok-ask_all.ensures.took (search rules) in
    subst (λ (ts : List (List ℕ)). ReachesBy takes (standing_of c.args.kept.now.log) ts (standing_of c.ask_all.new.kept.log)) (rest-whole c.args.inputs.now c.args.from) all.took.became

pub returns-clause-stands : goal.returns-clause-stands
returns-clause-stands c =
    let all = c.in_ok-ask_all.ensures.took (search rules) in
    subst (λ (ts : List (List ℕ)). Stands mark (c.args.kept.now.journal.texts ++ ts) c.ask_all.new.kept.journal.disk.seen) (rest-whole c.args.inputs.now c.args.from) all.whole

pub returns-clause-lasts : goal.returns-clause-lasts
returns-clause-lasts c =
    let all = c.in_ok-ask_all.ensures.took (search rules) in
    let disk = c.ask_all.new.kept.journal.disk in
    subst (λ (ts : List (List ℕ)). Stands mark (c.args.kept.now.journal.texts ++ ts) (synced disk.seen disk.events)) (rest-whole c.args.inputs.now c.args.from) all.kept
