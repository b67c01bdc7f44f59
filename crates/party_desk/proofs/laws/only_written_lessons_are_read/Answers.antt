use Rattle.party_desk.proofs.Lessons.{only_forget, only_teach}
use Rattle.party_desk.proofs.laws.only_written_lessons_are_read.Goals as goal

pub returns-clause-teach : goal.returns-clause-teach
returns-clause-teach c = only_teach

pub returns-clause-forget : goal.returns-clause-forget
returns-clause-forget c = only_forget
