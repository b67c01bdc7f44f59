use Rattle.std.proofs.Common.{◌≡◌, ℕ, List, Ok, ap, ◌∙◌, arith}
use Rattle.std.specs.Int.{w16}
use Rattle.ar_base.specs.Chaining.{◌>>=◌}
use Rattle.ar_base.specs.Gives.{with_error}
use Rattle.ar_bytes.specs.Lists.{counted_list_at, list_at}
use Rattle.ar_bytes.specs.Reading.{Reading, number_at}
use Rattle.ar_bytes.specs.Tested.{count_at}
use Rattle.ar_bytes.proofs.Lists.{list_ends}
use Rattle.kept_journal.specs.declared.fault.ReplayFault.TheVariants.{Stuck}
use Rattle.owner_keeper.specs.Texts.{most_asks}
use Rattle.owner_keeper.proofs.reading.read_asks.Goals as goal

pub returns : goal.returns
unfolding counted_list_at
returns c =
    let read : count_at most_asks c.args.fields.now ≡ Ok (c.in-Ok.count, c.take_count.new.self) = c.in-Ok.ensures.field in
    let all = list_ends (number_at w16) c.loop.asks.items c.in-Ok.count c.loop.counter c.loop.fields (list_at (number_at w16) c.in-Ok.count c.take_count.new.self) (omega arith) c.loop.invariant in
    ap (λ (r : Reading ℕ). with_error (λ (place : ℕ). Stuck) (r >>= λ k. list_at (number_at w16) k.0 k.1)) read
    ∙ ap (λ (r : Reading (List ℕ)). with_error (λ (place : ℕ). Stuck) r) all
