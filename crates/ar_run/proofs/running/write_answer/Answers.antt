-- All lines were written; or what was written before the failing line, and the front of that line, are a front of all lines.
use Rattle.std.proofs.Common.{rules, ◌≡◌, ℕ, List, map, Vec, ap, subst, sym, ◌∙◌}
use Rattle.std.specs.declared.alloc.Global.{Global}
use Rattle.ar_run.specs.Answers.{bytes_of}
use Rattle.std.specs.List.{concat, flat_map}
use Rattle.std.proofs.lemmas.List.{take_all}
use Rattle.ar_base.specs.Faults.{HasRisen}
use Rattle.ar_base.proofs.Joined.{concat_map}
use Rattle.ar_io.specs.Wrote.{Appended, AppendedFront}
use Rattle.ar_run.proofs.Joined.{cut_off}
use Rattle.ar_run.proofs.running.write_answer.Goals as goal

-- what is written one behind the other is written of the answer
all_of : (lines : List (List ℕ)) (items : List (Vec ℕ Global)) → map bytes_of items ≡ lines → flat_map bytes_of items ≡ concat lines
all_of lines items is = sym (concat_map bytes_of items) ∙ ap concat is

pub returns : goal.returns
returns g c =
    let items = c.lines-line-items.result.now in
    let Whole : List ℕ → Type 0 = λ bytes. Appended g.K.Sink.wrote c.args.sink.now c.loop-line.sink bytes in
    let whole = subst Whole (ap (flat_map bytes_of) (take_all c.loop-line.line-index items c.loop-line-test.false) ∙ all_of c.args.answer.now.lines items c.lines-line-items.ensures) c.loop-line.invariant.0 in
    search (rules, whole)

pub returns-in_err-write_line : goal.returns-in_err-write_line
returns-in_err-write_line g c =
    let wrote = g.K.Sink.wrote in
    let old = c.args.sink.now in
    let new = c.write_line.new.sink in
    let items = c.lines-line-items.result.now in
    let failed = c.in_err-write_line.ensures.front in
    let Cut : List ℕ → Type 0 = λ line. AppendedFront wrote c.loop-line.sink new line in
    let Whole : List ℕ → Type 0 = λ bytes. AppendedFront wrote old new bytes in
    let Risen : ℕ → Type 0 = λ count. HasRisen count (g.K.Sink.faults new) in
    let cut = subst Cut (c.as_slice.ensures.value ∙ ap bytes_of c.line-item.is) failed.1 in
    let whole = subst Whole (all_of c.args.answer.now.lines items c.lines-line-items.ensures) (cut_off wrote old c.loop-line.sink new bytes_of items c.loop-line.line-index c.line-item.result c.loop-line-test.true c.loop-line.invariant.0 cut) in
    let risen = subst Risen c.loop-line.invariant.1 failed.0 in
    search (rules, risen, whole)
