use Rattle.std.proofs.Common.{rules}
use Rattle.party_desk.proofs.Refusals.{log_refusal_told}
use Rattle.party_desk.proofs.log_desk.LogKeeperLineParty.put_refused.Goals as goal

pub returns-in_default : goal.returns-in_default
returns-in_default c =
    rw (log_refusal_told c.args.self.now.core.log.me c.args.number c.args.order.now c.args.refusal.now c.in_default.not-Memory) (search rules)
