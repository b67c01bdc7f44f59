-- What is said of a client's judgement, as it is printed.
use Rattle.std.specs.Prelude.{ℕ, List}
use Rattle.client_rule.specs.declared.judgement.Judgement.{Judgement}
use Rattle.client_rule.specs.declared.judgement.Judgement.TheVariants as judgement
use Rattle.report_text.specs.declared.happening.Said.{Said}
use Rattle.report_text.specs.declared.happening.Said.TheVariants as said

-- what is said of a name, by the judgement on it
abbrev pub said_of : List ℕ → Judgement → Said
said_of name (judgement.Accepted certificate digest epoch root) = said.Accepted name certificate.serial epoch root digest
said_of name (judgement.Absent epoch root) = said.Absent name epoch root
said_of name (judgement.Refused check) = said.Refused check
