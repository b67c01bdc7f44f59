use Rattle.std.proofs.Common.{◌≡◌, true}
use Rattle.ar_bytes.proofs.Ascending.{ascending_again, numbers_again}
use Rattle.ar_bytes.proofs.laws.ascending_entries_read_back.Goals as goal

pub returns-clause-entries : goal.returns-clause-entries
returns-clause-entries g c = λ number entry text fits. ascending_again number entry text (λ x. fits x ≡ true)

pub returns-clause-numbers : goal.returns-clause-numbers
returns-clause-numbers g c = λ count ns len ascend. numbers_again count 0 ns len ascend
