use Rattle.run_safety.proofs.RealKeys.{adopting-real, claim-signed, learning-real}
use Rattle.run_safety.proofs.laws.what_is_learnt_stays_real.Goals as goal

pub returns-clause-learnt : goal.returns-clause-learnt
returns-clause-learnt c = λ own claims keys a none each noted verified knows. learning-real own claims claims keys a none (λ x has. has) each noted verified knows

pub returns-clause-adopted : goal.returns-clause-adopted
returns-clause-adopted c = adopting-real

pub returns-clause-seen : goal.returns-clause-seen
returns-clause-seen c = λ own claims keys t p none knows is verified. claim-signed own claims claims keys t p none (λ x has. has) knows is verified
