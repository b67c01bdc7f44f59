use Rattle.node_core.proofs.Histories.{legal_both, legal_front, legal_rest, reply_parts, state_parts}
use Rattle.node_core.proofs.laws.a_history_goes_on_where_its_front_ends.Goals as goal

pub returns-clause-state : goal.returns-clause-state
returns-clause-state g c = state_parts g.C.Core.next

pub returns-clause-replies : goal.returns-clause-replies
returns-clause-replies g c = reply_parts g.C.Core.next

pub returns-clause-legal : goal.returns-clause-legal
returns-clause-legal g c first front rest = (
  λ is. (legal_front g.C.Core.next g.C.Core.legal first front rest is, legal_rest g.C.Core.next g.C.Core.legal first front rest is),
  λ both. legal_both g.C.Core.next g.C.Core.legal first front rest both.0 both.1,
)
