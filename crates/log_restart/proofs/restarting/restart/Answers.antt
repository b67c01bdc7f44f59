use Rattle.std.proofs.Common.{ℕ, length, sym, ◌∙◌, ap, subst}
use Rattle.std.proofs.lemmas.List.{length-map}
use Rattle.kept_journal.specs.Replays.{ReachesBy}
use Rattle.log_journal.specs.Steps.{LogStanding, takes}
use Rattle.log_restart.specs.Inputs.{text_of, texts_of}
use Rattle.log_restart.specs.Restarted.{recovered_of, told_of}
use Rattle.log_restart.proofs.TwoRuns.{few_recovered, same_new}
use Rattle.log_restart.proofs.restarting.restart.Goals as goal

pub returns-clause-told : goal.returns-clause-told
returns-clause-told c = λ last replays.
    let inputs = c.args.inputs.now in
    let ran = c.in_ok-before.ensures in
    let mine = subst (λ (s : LogStanding). ReachesBy takes s (texts_of inputs) last) (sym (same_new c.args.number c.args.again c.args.first c.requires.same)) replays in
    let again = c.in_ok-told.ensures (recovered_of (length (texts_of inputs)) c.args.calls) last (few_recovered inputs c.args.calls) ran.lost mine in
    again.tells ∙ ap (λ (n : ℕ). told_of (recovered_of n c.args.calls) n last.core.log.past.signed) (length-map inputs text_of)

pub returns-clause-disks : goal.returns-clause-disks
returns-clause-disks c =
    let inputs = c.args.inputs.now in
    let ran = c.in_ok-before.ensures in
    let last = c.requires.replays.0 in
    let mine = subst (λ (s : LogStanding). ReachesBy takes s (texts_of inputs) last) (sym (same_new c.args.number c.args.again c.args.first c.requires.same)) c.requires.replays.1 in
    let again = c.in_ok-told.ensures (recovered_of (length (texts_of inputs)) c.args.calls) last (few_recovered inputs c.args.calls) ran.lost mine in
    record { first = ran; second = again.stands; lasts = again.lasts }
