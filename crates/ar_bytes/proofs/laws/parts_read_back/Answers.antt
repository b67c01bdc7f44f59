use Rattle.ar_bytes.proofs.Parts.{such_that_again, within_again, whole_again}
use Rattle.ar_bytes.proofs.laws.parts_read_back.Goals as goal

pub returns-clause-tested : goal.returns-clause-tested
returns-clause-tested g c = λ field test value text reads passes. such_that_again test field value text reads passes

pub returns-clause-part : goal.returns-clause-part
returns-clause-part g c = λ field value text reads. within_again field value text reads

pub returns-clause-input : goal.returns-clause-input
returns-clause-input g c = λ field value text reads. whole_again field value text reads
