use Rattle.std.proofs.Common.{◌≡◌, ◌++◌, ◌∷◌, [], refl, ap, ◌∙◌, false, cond}
use Rattle.std.proofs.lemmas.Bool.{false_from_ne_true, cond_both}
use Rattle.vote_quorum.specs.Ballots.{has_ballot, log_count}
use Rattle.vote_quorum.proofs.Adding.{has_ballot-from, Contains-from_test, log_count-new, log_count-other}
use Rattle.vote_quorum.proofs.laws.a_count_grows_with_a_new_ballot.Goals as goal

pub returns-clause-new : goal.returns-clause-new
returns-clause-new c ballots log value absent =
    let none : has_ballot ballots (log, value) ≡ false = false_from_ne_true _ (λ h. absent (Contains-from_test ballots (log, value) h)) in
    ap (λ t. log_count (cond t ballots (ballots ++ (log, value) ∷ [])) value) none ∙ log_count-new ballots log value none

pub returns-clause-again : goal.returns-clause-again
returns-clause-again c ballots ballot there =
    ap (λ t. cond t ballots (ballots ++ ballot ∷ [])) (has_ballot-from ballots ballot there)

pub returns-clause-others : goal.returns-clause-others
returns-clause-others c ballots log value other apart =
    cond_both (has_ballot ballots (log, value)) ballots (ballots ++ (log, value) ∷ []) (λ bs. log_count bs other ≡ log_count ballots other)
    (λ _. refl) (λ _. log_count-other ballots log value other apart)
