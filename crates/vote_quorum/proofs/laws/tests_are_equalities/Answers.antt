use Rattle.vote_quorum.proofs.Adding.{has_ballot-from, Contains-from_test}
use Rattle.vote_quorum.proofs.laws.tests_are_equalities.Goals as goal

pub returns-clause-ballots : goal.returns-clause-ballots
returns-clause-ballots c = λ ballots ballot. (Contains-from_test ballots ballot, has_ballot-from ballots ballot)
