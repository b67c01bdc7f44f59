use Rattle.std.proofs.Common.{arith, ◌≡◌, ◌+◌, ◌%◌}
use Rattle.std.specs.Fmt.{digits}
use Rattle.script_make.proofs.rows.trusted_list.Goals as goal

pub returns-in-0 : goal.returns-in-0
unfolding digits
returns-in-0 c = rw c.in-0.is

pub returns-in-1 : goal.returns-in-1
unfolding digits
returns-in-1 c = rw c.in-1.is

pub returns-in-2 : goal.returns-in-2
unfolding digits
returns-in-2 c = rw c.in-2.is

pub returns-in_default : goal.returns-in_default
unfolding digits
returns-in_default c = let e : (c.args.domain + 3) % 4 ≡ 3 = omega arith in rw e
