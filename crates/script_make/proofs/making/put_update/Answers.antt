use Rattle.std.proofs.Common.{◌≡◌, ℕ, ◌∙◌, ap, codes}
use Rattle.std.specs.List.{range_with_len}
use Rattle.ar_base.proofs.Appending.{appends-then}
use Rattle.script_make.specs.Numbers.{batch}
use Rattle.script_make.specs.Script.{updates_of}
use Rattle.script_make.proofs.making.put_update.Goals as goal

pub returns : goal.returns
returns c =
    let e : range_with_len c.batch_of-batch.result.first c.batch_of-batch.result.count ≡ batch (updates_of c.args.domains) c.args.k =
    c.batch_of-batch.ensures.numbers ∙ ap (λ (n : ℕ). batch n c.args.k) c.updates_of.ensures.value in
    rw (← e) (appends-then _ _ _ _ _ _ c.in_ok-put_rows.ensures
    (appends-then (codes "flush\n") _ _ _ _ _ c.in_ok-append.ensures.appends
    (appends-then _ _ _ _ _ _ c.in_ok-put_rows-2.ensures
    (appends-then _ _ _ _ _ _ c.in_ok-put_rows-3.ensures
    (rw (← c.batches_of.ensures) c.put_ending.ensures)))))
