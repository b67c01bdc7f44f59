use Rattle.std.proofs.Common.{◌≡◌, ◌≤◌, ℕ, ◌++◌, length, take, drop, sym, ◌∙◌, ap, subst, arith}
use Rattle.std.proofs.lemmas.List.{length-map}
use Rattle.epoch_log.specs.Record.{LogRecord}
use Rattle.kept_disk.specs.Memory.{DiskState, synced}
use Rattle.kept_journal.specs.Journal.{Stands}
use Rattle.log_journal.specs.Inputs.{mark}
use Rattle.log_journal.specs.Steps.{LogStanding, standing_of}
use Rattle.log_restart.specs.Inputs.{text_of, texts_of}
use Rattle.log_restart.specs.Restarted.{new_log_of}
use Rattle.log_restart.proofs.Costs.{few_inputs}
use Rattle.log_restart.proofs.TwoRuns.{all_stand, found_counts, found_replays, found_stands, found_unlimited, last_is, rest_replays_on, rest_room, told_same}
use Rattle.log_restart.proofs.restarting.run_again.Goals as goal

pub open_for-requires : goal.open_for-requires
open_for-requires c =
    let new = new_log_of c.args.number c.args.beginning in
    let lost = c.requires.lost in
    let image = synced c.args.before.now.seen c.args.before.now.events in
    record {
      few = omega (arith, few_inputs c.args.inputs.now, c.requires.total);
      small = c.requires.small;
      stands = found_stands c.args.inputs.now lost.0 c.in_ok-lost.lost image lost.1 c.in_ok-lost.ensures lost.2 new;
      replays = found_replays c.args.inputs.now lost.0 c.in_ok-lost.lost image lost.1 c.in_ok-lost.ensures lost.2 new c.requires.replays.0 c.requires.replays.1;
      unlimited = found_unlimited c.args.inputs.now lost.0 c.in_ok-lost.lost image lost.1 c.in_ok-lost.ensures lost.2 new;
    }

pub ask_rest-requires : goal.ask_rest-requires
ask_rest-requires c =
    let new = new_log_of c.args.number c.args.beginning in
    let lost = c.requires.lost in
    let image = synced c.args.before.now.seen c.args.before.now.events in
    let r = c.inputs-recovered.result in
    let is : r ≡ lost.0 =
    c.inputs-recovered.ensures ∙ found_counts c.args.inputs.now lost.0 c.in_ok-lost.lost image lost.1 c.in_ok-lost.ensures lost.2 new _ _ c.in_ok-kept.kept c.in_ok-kept.ensures in
    let within : r ≤ length c.args.inputs.now = omega (arith, is, lost.1) in
    let stands : Stands mark (take r (texts_of c.args.inputs.now)) image = subst (λ (n : ℕ). Stands mark (take n (texts_of c.args.inputs.now)) image) (sym is) lost.2 in
    let room = rest_room c.args.inputs.now r c.in_ok-lost.lost image within c.in_ok-lost.ensures stands new c.args.total c.requires.total c.in_ok-kept.kept c.in_ok-kept.ensures in
    record {
      within = within;
      going = c.in_ok-kept.ensures.going;
      replays = (
        c.requires.replays.0,
        rest_replays_on c.args.inputs.now r c.in_ok-lost.lost image within c.in_ok-lost.ensures stands new c.args.total c.requires.total c.in_ok-kept.kept c.in_ok-kept.ensures
            c.requires.replays.0 c.requires.replays.1,
      );
      unlimited = c.in_ok-kept.ensures.unlimited;
      room = room.room;
      changes = room.changes;
    }

pub returns : goal.returns
returns c = λ many last few stood replays.
    let new = new_log_of c.args.number c.args.beginning in
    let image = synced c.args.before.now.seen c.args.before.now.events in
    let inputs = c.args.inputs.now in
    let r = c.inputs-recovered.result in
    let later = c.ask_rest.new.kept in
    let is : r ≡ many =
    c.inputs-recovered.ensures ∙ found_counts inputs many c.in_ok-lost.lost image few c.in_ok-lost.ensures stood new _ _ c.in_ok-kept.kept c.in_ok-kept.ensures in
    let within : r ≤ length inputs = omega (arith, is, few) in
    let stands : Stands mark (take r (texts_of inputs)) image = subst (λ (n : ℕ). Stands mark (take n (texts_of inputs)) image) (sym is) stood in
    let ends = last_is inputs r c.in_ok-lost.lost image within c.in_ok-lost.ensures stands new c.args.total c.requires.total c.in_ok-kept.kept c.in_ok-kept.ensures
    last (standing_of later.log) replays c.in_ok-ask_rest.ensures.became in
    record {
      tells = told_same c.in_ok-told.told r many (length inputs) (length (texts_of inputs)) _ last.core.log.past.signed c.in_ok-told.ensures is (sym (length-map inputs text_of))
          (ap (λ (p : LogRecord). p.signed) c.record.ensures.value ∙ ap (λ (s : LogStanding). s.core.log.past.signed) ends);
      stands = all_stand inputs r c.in_ok-lost.lost image within c.in_ok-lost.ensures stands new c.args.total c.requires.total c.in_ok-kept.kept c.in_ok-kept.ensures
          c.into_disk.result.seen
          (subst (λ (d : DiskState). Stands mark (c.in_ok-kept.kept.journal.texts ++ texts_of (drop r inputs)) d.seen) (sym c.into_disk.ensures) c.in_ok-ask_rest.ensures.stands);
      lasts = all_stand inputs r c.in_ok-lost.lost image within c.in_ok-lost.ensures stands new c.args.total c.requires.total c.in_ok-kept.kept c.in_ok-kept.ensures
          (synced c.into_disk.result.seen c.into_disk.result.events)
          (subst (λ (d : DiskState). Stands mark (c.in_ok-kept.kept.journal.texts ++ texts_of (drop r inputs)) (synced d.seen d.events)) (sym c.into_disk.ensures)
          c.in_ok-ask_rest.ensures.lasts);
    }
