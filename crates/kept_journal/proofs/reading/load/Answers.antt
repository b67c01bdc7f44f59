use Rattle.std.proofs.Common.{rules, ◌≡◌, ◌∷◌, List, ℕ, length, ap, ◌∙◌, arith, subst, sym}
use Rattle.kept_journal.specs.Journal.{BeginsShut}
use Rattle.kept_journal.specs.Replays.{IsBad}
use Rattle.kept_journal.proofs.Loading.{ends_reading, few_read, is_bad, is_refused, reads_on}
use Rattle.kept_journal.proofs.reading.load.Goals as goal

pub returns-in_err-replay_at-clause-bad : goal.returns-in_err-replay_at-clause-bad
returns-in_err-replay_at-clause-bad g c place is =
    let marked : length c.args.mark.now ≡ 8 = search rules in
    let bad = c.in_err-replay_at.ensures.bad place (search rules) in
    let stuck = is_refused g.P.Replay.takes c.args.mark.now c.args.file.now c.args.party.now marked c.loop-ahead.party c.in-Some-record_in.text.now c.in-Some-record_in.behind.now c.in-Some-record_in.ensures.whole.2 c.in-Some-record_in.ensures.whole.1 bad.1 _ c.in-Some-record_in.ensures.whole.0 in
    subst (λ (n : ℕ). IsBad g.P.Replay.takes c.args.mark.now c.args.party.now c.args.file.now n) (sym bad.0)
    (is_bad g.P.Replay.takes c.args.mark.now c.args.file.now c.args.party.now marked c.loop-ahead.party c.loop-ahead.rest.now _ c.loop-ahead.end c.loop-ahead.count c.loop-ahead.invariant c.requires.long c.in-Some.ensures.open_gate stuck)

pub overflow_add-count : goal.overflow_add-count
overflow_add-count g c =
    let marked : length c.args.mark.now ≡ 8 = search rules in
    let few = few_read g.P.Replay.takes c.args.mark.now c.args.file.now c.args.party.now marked c.loop-ahead.party c.loop-ahead.rest.now c.loop-ahead.end c.loop-ahead.count c.loop-ahead.invariant in
    let fits = c.loop-ahead.auto.end-fits in
    omega (arith, few, fits)

pub loop-ahead-preserved : goal.loop-ahead-preserved
loop-ahead-preserved g c =
    let marked : length c.args.mark.now ≡ 8 = search rules in
    reads_on g.P.Replay.takes c.args.mark.now c.args.file.now c.args.party.now marked c.loop-ahead.party c.replay_at.new.party c.loop-ahead.rest.now c.in-Some-record_in.text.now c.in-Some-record_in.behind.now c.loop-ahead.end c.loop-ahead.count
    c.loop-ahead.invariant (c.in-Some.ensures.open_gate ∙ ap (λ (l : List ℕ). 1 ∷ l) c.in-Some-record_in.ensures.whole.0) c.in-Some-record_in.ensures.whole.1 c.in-Some-record_in.ensures.whole.2
    c.in_ok-replay_at.ensures.taken

pub returns-clause-ok : goal.returns-clause-ok
returns-clause-ok g c =
    let marked : length c.args.mark.now ≡ 8 = search rules in
    let shut : BeginsShut c.loop-ahead.rest.now = search rules in
    ends_reading g.P.Replay.takes c.args.mark.now c.args.file.now c.args.party.now marked c.loop-ahead.party c.loop-ahead.rest.now shut.1 shut.0 c.loop-ahead.end c.loop-ahead.count c.loop-ahead.invariant shut.3 shut.2
