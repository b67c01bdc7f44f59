use Rattle.serve_run.specs.Workers.{Posted}
use Rattle.serve_run.proofs.serving.posts.Given as goal

abbrev pub invariant-loop-worker : goal.invariant-loop-worker
invariant-loop-worker l = Posted l.server.book l.initial.seat.share l.worker l.seat l.posts.items
