use Rattle.party_desk.proofs.Lessons.{forgotten, taught}
use Rattle.party_desk.proofs.laws.a_lesson_is_read_as_it_is_written.Goals as goal

pub returns-clause-teach : goal.returns-clause-teach
returns-clause-teach c = taught

pub returns-clause-forget : goal.returns-clause-forget
returns-clause-forget c = forgotten
