use Rattle.std.proofs.Common.{codes}
use Rattle.ar_base.proofs.Appending.{appends-then}
use Rattle.script_make.proofs.making.put_setup.Goals as goal

pub returns : goal.returns
returns c =
    appends-then (codes "keys 6 3\nlogs 5 4\nauthorities 4\n") _ _ _ _ _ c.in_ok-append.ensures.appends
    (appends-then _ _ _ _ _ _ c.in_ok-put_rows.ensures c.put_rows-2.ensures)
