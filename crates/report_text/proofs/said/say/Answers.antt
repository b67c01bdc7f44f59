use Rattle.std.proofs.Common.{append-nil}
use Rattle.hex.specs.Hex.{encode_lower}
use Rattle.report_text.proofs.said.say.Goals as goal

pub returns-in-Accepted-clause-appends : goal.returns-in-Accepted-clause-appends
returns-in-Accepted-clause-appends c = rw c.in-Accepted.is (rw (← c.text.ensures.text, ← append-nil (encode_lower c.in-Accepted.certificate)) c.append.ensures.appends)
