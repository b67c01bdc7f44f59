use Rattle.serve_run.specs.Workers.{Works}
use Rattle.serve_run.proofs.worker.work.Given as goal

abbrev pub invariant-loop-number : goal.invariant-loop-number
invariant-loop-number g l = Works l.service l.workers l.worker l.server.book l.initial.seat.share l.number l.seat l.replies.items
