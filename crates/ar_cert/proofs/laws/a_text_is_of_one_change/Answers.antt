use Rattle.ar_cert.specs.Changes.{change_at, change_text}
use Rattle.ar_cert.proofs.ChangeLaws.{change_again, one_text}
use Rattle.ar_cert.proofs.laws.a_text_is_of_one_change.Goals as goal

pub returns : goal.returns
returns c = λ a b x y is_a is_b e. one_text change_at a b (change_text a) (change_text b) x y (change_again a is_a) (change_again b is_b) e
