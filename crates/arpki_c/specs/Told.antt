-- What a caller is told of a confirmation, and of a server.
use Rattle.std.specs.Prelude.{◌≡◌, ◌⊎◌, ℕ, List, replicate, Result, Ok, Err}
use Rattle.ar_cert.specs.Certificate.{Certificate}
use Rattle.client_rule.specs.Rule.{Asked, judgement as judgement_of}
use Rattle.client_rule.specs.declared.judgement.Judgement.{Judgement}
use Rattle.client_rule.specs.declared.judgement.Judgement.TheVariants as judgement
use Rattle.lms_tree.specs.PublicKey.{key_text}
use Rattle.party_keys.specs.Directory.{Directory}
use Rattle.possession.specs.Connections.{connection_of, stapled_connection_of}
use Rattle.possession.specs.declared.connection.Connection.{Connection}
use Rattle.possession.specs.declared.connection.Connection.TheVariants as connection
use Rattle.arpki_c.specs.declared.answers.CallAnswer.{CallAnswer}
use Rattle.arpki_c.specs.declared.keys.KeysFault.{KeysFault}
use Rattle.arpki_c.specs.declared.keys.KeysFault.TheVariants as fault
use Rattle.arpki_c.specs.declared.questions.CallQuestion.{CallQuestion}

-- ---- the outcomes: 0 accepted, 1 absent, 2 refused, 3 no memory, 4 bad keys, 5 no possession

-- an outcome with a number, and nothing else
abbrev pub said : ℕ → ℕ → CallAnswer
said outcome check = record {
  epoch = 0;
  serial = 0;
  subject = replicate 56 0;
  certificate = replicate 32 0;
  root = replicate 32 0;
  outcome = outcome;
  check = check;
}

abbrev pub no_memory : CallAnswer
no_memory = said 3 0

-- a certificate that is accepted
abbrev pub accepted_answer : Certificate → List ℕ → ℕ → List ℕ → CallAnswer
accepted_answer certificate digest epoch root = record {
  epoch = epoch;
  serial = certificate.serial;
  subject = key_text certificate.subject;
  certificate = digest;
  root = root;
  outcome = 0;
  check = 0;
}

-- that the name has none
abbrev pub absent_answer : ℕ → List ℕ → CallAnswer
absent_answer epoch root = record (said 1 0) { epoch = epoch; root = root }

-- keys that make no directory
abbrev pub fault_answer : KeysFault → CallAnswer
fault_answer fault.Memory = no_memory
fault_answer fault.Logs = said 4 1
fault_answer fault.Authorities = said 4 2
fault_answer fault.Quorum = said 4 3
fault_answer fault.LogKey = said 4 4
fault_answer fault.AuthorityKey = said 4 5
fault_answer fault.Entry = said 4 6

-- ---- what is told

abbrev pub judgement_answer : Judgement → CallAnswer
judgement_answer (judgement.Accepted certificate digest epoch root) = accepted_answer certificate digest epoch root
judgement_answer (judgement.Absent epoch root) = absent_answer epoch root
judgement_answer (judgement.Refused check) = said 2 check

abbrev pub connection_answer : Connection → CallAnswer
connection_answer (connection.Open certificate digest epoch root) = accepted_answer certificate digest epoch root
connection_answer (connection.Absent epoch root) = absent_answer epoch root
connection_answer (connection.Refused check) = said 2 check
connection_answer (connection.NoPossession condition) = said 5 condition

-- what is asked, by who trusts the directory
abbrev pub asked_by : Directory → CallQuestion → Asked
asked_by keys question = record { keys = keys; name = question.name.now; epoch = question.epoch; age = question.age }

-- of a confirmation, to who trusts the directory, or whose keys make none
abbrev pub judgement_told : Result Directory KeysFault → CallQuestion → CallAnswer
judgement_told (Err wrong) question = fault_answer wrong
judgement_told (Ok keys) question = judgement_answer (judgement_of (asked_by keys question) question.confirmation.now)

-- of a server, by the confirmation that it shows, and its response to a challenge
abbrev pub connection_told : Result Directory KeysFault → CallQuestion → List ℕ → List ℕ → CallAnswer
connection_told (Err wrong) question challenge response = fault_answer wrong
connection_told (Ok keys) question challenge response =
    connection_answer (connection_of (asked_by keys question) question.confirmation.now challenge response)

-- of a server, by the confirmation that it shows, the channel that the caller sees, and its staple
abbrev pub stapled_told : Result Directory KeysFault → CallQuestion → List ℕ → List ℕ → CallAnswer
stapled_told (Err wrong) question channel staple = fault_answer wrong
stapled_told (Ok keys) question channel staple =
    connection_answer (stapled_connection_of (asked_by keys question) question.confirmation.now channel staple)

-- the answer is this one, or that memory ran out
abbrev pub IsUnlessMemory : CallAnswer → CallAnswer → Type 0
IsUnlessMemory answer told = (answer ≡ no_memory) ⊎ (answer ≡ told)
