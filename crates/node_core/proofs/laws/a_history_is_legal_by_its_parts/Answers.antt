use Rattle.node_core.proofs.Histories.{legal_parts, legal_with}
use Rattle.node_core.proofs.laws.a_history_is_legal_by_its_parts.Goals as goal

pub returns : goal.returns
returns g c first front input note = (
  legal_parts g.C.Core.next g.C.Core.legal first front input note,
  λ both. legal_with g.C.Core.next g.C.Core.legal first front input note both.0 both.1,
)
