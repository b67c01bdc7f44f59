use Rattle.ar_names.proofs.Least.{short}
use Rattle.ar_names.proofs.view.NameView.text.Goals as goal

pub returns-clause-short : goal.returns-clause-short
returns-clause-short c = rw (← c.self.view_is) (short c.self.inside.text.now c.self.invariant)
