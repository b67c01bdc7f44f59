use Rattle.std.proofs.Common.{◌≡◌, length, map, get_or, []}
use Rattle.serve_run.specs.Workers.{Weaves}
use Rattle.serve_run.proofs.weaving.woven.Given as goal

abbrev pub invariant-loop-number : goal.invariant-loop-number
invariant-loop-number l = Weaves l.service (length l.initial.rows) l.number (λ worker. get_or (map (λ r. r.items) l.initial.rows) worker []) (map (λ r. r.items) l.rows) l.replies.items
