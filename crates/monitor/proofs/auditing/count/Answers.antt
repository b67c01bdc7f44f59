use Rattle.std.proofs.Common.{rules, ◌≡◌, length, ◌-◌, ◌<◌, ◌≤◌, ap, arith, get_or}
use Rattle.monitor.specs.declared.item.Item.{Item}
use Rattle.monitor.proofs.Loops.{few}
use Rattle.monitor.proofs.auditing.count.Goals as goal

pub overflow_cast-result : goal.overflow_cast-result
overflow_cast-result c =
    let some : 0 < length c.args.items.now = search rules in
    let most = few c.args._directory.now c.args.items.now c.index-items-items.result c.requires.ascend some in
    let line : c.index-items-items.result.line ≡ (get_or c.args.items.now (length c.args.items.now - 1) c.index-items-items.result).line = ap (λ (i : Item). i.line) c.index-items-items.is in
    let bound : length c.args.sworn.now ≤ c.index-items-items.result.line = omega (arith, most, ap length c.requires.sworn, line) in
    search (rules, bound)
