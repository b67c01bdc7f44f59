use Rattle.std.proofs.Common.{◌+◌, sym, subst}
use Rattle.serve_run.specs.Workers.{Posted}
use Rattle.serve_run.proofs.Bringing.{posted_next}
use Rattle.serve_run.proofs.serving.posts.Goals as goal

pub loop-worker-preserved : goal.loop-worker-preserved
loop-worker-preserved c =
    subst (λ posts. Posted c.args.server.now.book c.args.seat.now.share (c.loop-worker.worker + 1) c.split.new.seat posts) (sym c.in_ok-push.ensures.items)
    (posted_next _ _ _ _ _ _ _ c.loop-worker.invariant c.in-Ok.ensures.left c.in-Ok.ensures.given)
