-- What an honest authority answers, by what its check says.
use Rattle.std.specs.Prelude.{ℕ, is_none, unwrap_or, Option, Some, None, Result}
use Rattle.std.specs.Option.{option_map}
use Rattle.ar_message.specs.declared.message.Message.{Message}
use Rattle.authority_core.specs.Row.{answers_behind, asked_in, row}
use Rattle.authority_core.specs.State.{AuthorityAnswer, AuthorityState}
use Rattle.authority_core.specs.declared.entries.Approved.{Approved}
use Rattle.owner_check.specs.Answers.{outcome_of}
use Rattle.owner_check.specs.declared.answer.Outcome as said
use Rattle.owner_check.specs.declared.answer.Outcome.TheVariants.{No}
use Rattle.ar_nodes.specs.Parties.{AuthorityNode, CheckParts}

-- ---- what checks answer

-- what a check answers: by its book and failing numbers, where it tells them, and else what it says
abbrev pub check_says : said.Outcome → CheckParts → Approved → said.Outcome
check_says says check asked = unwrap_or (option_map (λ told. outcome_of told check.answers asked.name asked.key) check.told) says

-- what is answered to a message that asks the check; of one that does not, the row does not look at it
abbrev pub says_to : said.Outcome → Option CheckParts → Option Approved → said.Outcome
says_to says (Some check) (Some asked) = check_says says check asked
says_to says (Some check) None = No
says_to says None asked = No

-- a check behind a step that came to this answer
abbrev pub check_behind : Option Approved → AuthorityAnswer → CheckParts → CheckParts
check_behind asked answer check = record check { answers = answers_behind check.answers asked answer }

-- ---- what an authority answers

-- the answer to a message of an authority that stands so, by what its check answers
abbrev pub authority_reply : said.Outcome → AuthorityState → Option CheckParts → Result Message ℕ → AuthorityAnswer
authority_reply says state check message = row state (is_none check) message (says_to says check (asked_in message))

-- its check behind an answer to a message
abbrev pub check_after : Option CheckParts → Result Message ℕ → AuthorityAnswer → Option CheckParts
check_after check message answer = option_map (check_behind (asked_in message) answer) check

-- the authority with its check behind an answer to a message
abbrev pub node_behind : AuthorityNode → Result Message ℕ → AuthorityAnswer → AuthorityNode
node_behind node message answer = record node { check = check_after node.check message answer }
