use Rattle.domain_table.specs.Applying.{ripen}
use Rattle.domain_table.proofs.Objections.{objected-since}
use Rattle.domain_table.proofs.laws.an_objection_ends_the_wait.Goals as goal

pub returns : goal.returns
returns c = λ table after epoch changes objection is there objects. objected-since epoch objection changes (ripen table epoch) after is there objects
