use Rattle.std.proofs.Common.{◌≡◌, length, Ok, sym, ap, subst, arith}
use Rattle.kept_disk.specs.Memory.{DiskState}
use Rattle.std.proofs.lemmas.List.{length-map}
use Rattle.log_restart.specs.Inputs.{text_of, texts_of}
use Rattle.log_restart.specs.Restarted.{RanFirst, new_log_of}
use Rattle.log_restart.proofs.Costs.{few_inputs}
use Rattle.log_restart.proofs.TwoRuns.{empty_replays, empty_stands, fused_going, fused_replays, runs_first}
use Rattle.log_restart.proofs.restarting.run_first.Goals as goal

pub open_for-requires : goal.open_for-requires
open_for-requires c =
    let new = new_log_of c.args.number c.args.beginning in
    record {
      few = omega (arith, few_inputs c.args.inputs.now, c.requires.total);
      small = c.requires.small;
      stands = empty_stands c.args.disk c.requires.empty new;
      replays = empty_replays c.args.disk c.requires.empty new;
      unlimited = ap (λ (d : DiskState). d.fuel.fuse) c.requires.empty;
    }

pub ask_all-requires : goal.ask_all-requires
ask_all-requires c =
    let new = new_log_of c.args.number c.args.beginning in
    let many : length c.args.inputs.now ≡ length (texts_of c.args.inputs.now) = sym (length-map c.args.inputs.now text_of) in
    record {
      going = fused_going c.args.disk c.requires.empty new (texts_of c.args.inputs.now) c.args.total (length c.args.inputs.now) c.args.calls c.in_ok-kept.kept c.fuse.new.self
          c.in_ok-kept.ensures c.requires.total many c.fuse.ensures.log c.fuse.ensures.journal;
      replays = (
        c.requires.replays.0,
        fused_replays c.args.disk c.requires.empty new (texts_of c.args.inputs.now) c.args.total (length c.args.inputs.now) c.args.calls c.in_ok-kept.kept c.fuse.new.self
            c.in_ok-kept.ensures c.requires.total many c.fuse.ensures.log c.fuse.ensures.journal c.requires.replays.0 c.requires.replays.1,
      );
    }

pub returns : goal.returns
returns c =
    let new = new_log_of c.args.number c.args.beginning in
    let many : length c.args.inputs.now ≡ length (texts_of c.args.inputs.now) = sym (length-map c.args.inputs.now text_of) in
    let ran = runs_first c.args.disk c.requires.empty new (texts_of c.args.inputs.now) c.args.total (length c.args.inputs.now) c.args.calls c.in_ok-kept.kept c.fuse.new.self
    c.in_ok-kept.ensures c.requires.total many c.fuse.ensures.log c.fuse.ensures.journal c.ask_all.new.kept c.in_ok-ask_all.field-0
    (λ is. c.in_ok-ask_all.ensures.took (ap Ok is)) (λ is. c.in_ok-ask_all.ensures.failed (ap Ok is)) in
    subst (λ (d : DiskState). RanFirst (texts_of c.args.inputs.now) c.args.calls d) (sym c.into_disk.ensures) ran
