use Rattle.std.specs.Prelude.{IsTrue}
use Rattle.ar_statement.proofs.OneText.{text_is}
use Rattle.ar_statement.proofs.laws.a_text_tells_its_statement.Goals as goal

pub returns : goal.returns
returns c = λ holds. text_is (λ c. IsTrue (holds c))
