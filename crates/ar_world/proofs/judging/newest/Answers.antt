use Rattle.std.proofs.Common.{◌≡◌, ◌-◌, true, sym, arith}
use Rattle.ar_world.specs.Judging.{is_to_client}
use Rattle.ar_world.proofs.Newest.{newest_here}
use Rattle.ar_world.proofs.judging.newest.Goals as goal

pub returns-then-is_to_client : goal.returns-then-is_to_client
returns-then-is_to_client c =
    let x = c.index-messages-place.result in
    let here : is_to_client x.to ≡ true = cc in
    sym (newest_here c.loop-place.place (c.loop-place.place - 1) c.args.messages.now x (omega arith) c.loop-place.invariant.0 (sym c.index-messages-place.is) c.loop-place.invariant.1 here)
