use Rattle.std.proofs.Common.{◌≡◌, true}
use Rattle.ar_bytes.proofs.Ascending.{ascending_pass, numbers_pass}
use Rattle.ar_bytes.proofs.laws.ascending_entries_are_spelled.Goals as goal

pub returns-clause-entries : goal.returns-clause-entries
returns-clause-entries g c = λ number entry text fits. ascending_pass number entry text (λ x. fits x ≡ true)

pub returns-clause-numbers : goal.returns-clause-numbers
returns-clause-numbers g c = λ count. numbers_pass count 0
