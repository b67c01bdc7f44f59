-- The line of each happening. Its words stand with one space between them, and a newline ends it.
use Rattle.std.specs.Prelude.{ℕ, List, [], ◌++◌, codes, flat_map, Option, Some, None}
use Rattle.std.specs.Fmt.{decimal}
use Rattle.hex.specs.Hex.{encode_lower}
use Rattle.ar_lines.specs.Parties.{member_word, party_word}
use Rattle.ar_statement.specs.declared.party.Party.{Party}
use Rattle.ar_statement.specs.declared.party.Role.{Role}
use Rattle.ar_statement.specs.declared.party.Role.TheVariants.{LogServer, Authority, Owner, Client}
use Rattle.report_text.specs.declared.happening.Code.{Code}
use Rattle.report_text.specs.declared.happening.Happening.{Happening}
use Rattle.report_text.specs.declared.happening.Happening.TheVariants as happening
use Rattle.report_text.specs.declared.happening.Kind.{Kind}
use Rattle.report_text.specs.declared.happening.Kind.TheVariants as kind
use Rattle.report_text.specs.declared.happening.Said.{Said}
use Rattle.report_text.specs.declared.happening.Said.TheVariants as said
use Rattle.report_text.specs.declared.happening.CodeValue.{CodeValue}
use Rattle.report_text.specs.declared.happening.CodeValue.TheVariants as shown
use Rattle.report_text.specs.declared.happening.Target.{Target}
use Rattle.report_text.specs.declared.happening.Target.TheVariants as target
use Rattle.report_text.specs.declared.happening.Unlearnt.{Unlearnt}
use Rattle.report_text.specs.declared.happening.Unlearnt.TheVariants as unlearnt
use Rattle.report_text.specs.declared.happening.Values.{Values}
use Rattle.report_text.specs.declared.happening.Values.TheVariants as values
use Rattle.report_text.specs.declared.happening.What.{What}
use Rattle.report_text.specs.declared.happening.What.TheVariants as what

-- ---- words

-- the letter of whose rule it is
abbrev pub rule_letter : Role → List ℕ
rule_letter LogServer = codes "L"
rule_letter Authority = codes "A"
rule_letter Owner = codes "O"
rule_letter Client = codes "C"

-- the word of a kind of messages
abbrev pub kind_text : Kind → List ℕ
kind_text kind.Raw = codes "Raw"
kind_text kind.EndorseAsk = codes "EndorseAsk"
kind_text kind.Endorsed = codes "Endorsed"
kind_text kind.Submit = codes "Submit"
kind_text kind.Propose = codes "Propose"
kind_text kind.Ballot = codes "Ballot"
kind_text kind.StatusNote = codes "StatusNote"
kind_text kind.Decision = codes "Decision"
kind_text kind.SkipNote = codes "SkipNote"
kind_text kind.ConfirmAsk = codes "ConfirmAsk"
kind_text kind.LogConfirmed = codes "LogConfirmed"
kind_text kind.HalfConfirmed = codes "HalfConfirmed"
kind_text kind.Confirmation = codes "Confirmation"
kind_text kind.RollNote = codes "RollNote"

-- who sent a message
abbrev pub sender_text : Option Party → List ℕ
sender_text (Some party) = party_word party
sender_text None = codes "none"

-- to whom a message goes
abbrev pub target_text : Target → List ℕ
target_text target.Nobody = codes "none"
target_text target.Logs = codes "logs"
target_text (target.One party) = party_word party

-- what a party does
abbrev pub what_text : What → List ℕ
what_text (what.Take message) = codes "take " ++ decimal message
what_text what.Propose = codes "propose"
what_text what.Pass = codes "pass"
what_text what.Roll = codes "roll"
what_text (what.Submit draft) = codes "submit " ++ decimal draft
what_text (what.Handover draft) = codes "handover " ++ decimal draft
what_text (what.Object draft) = codes "object " ++ decimal draft

-- a value of a code behind a space
abbrev pub value_text : CodeValue → List ℕ
value_text (shown.Number number) = codes " " ++ decimal number
value_text (shown.Party party) = codes " " ++ party_word party
value_text (shown.Digest digest) = codes " " ++ encode_lower digest
value_text shown.Full = codes " full"
value_text shown.NoRoot = codes " none"

-- the values of a code
abbrev pub values_text : Values → List ℕ
values_text values.Nothing = []
values_text (values.One value) = value_text value
values_text (values.Two first second) = value_text first ++ value_text second

-- a code: the letter of whose rule it is, its number and its values
abbrev pub code_text : Code → List ℕ
code_text code = (rule_letter code.role ++ decimal code.number) ++ values_text code.values

-- ---- how a line ends

-- whether a step succeeds
abbrev pub outcome_text : Option Code → List ℕ
outcome_text None = codes " ok\n"
outcome_text (Some code) = codes " refused " ++ (code_text code ++ codes "\n")

-- how an epoch ends
abbrev pub ending_text : Option (List ℕ) → List ℕ
ending_text (Some root) = codes " decided " ++ (encode_lower root ++ codes "\n")
ending_text None = codes " skipped\n"

-- whether a message is learnt
abbrev pub learning_text : Option Unlearnt → List ℕ
learning_text None = codes " ok\n"
learning_text (Some unlearnt.Form) = codes " refused form\n"
learning_text (Some unlearnt.Unknown) = codes " refused unknown\n"
learning_text (Some (unlearnt.Bad condition)) = codes " refused bad " ++ (decimal condition ++ codes "\n")
learning_text (Some unlearnt.Other) = codes " refused other\n"

-- what a client says of a confirmation: the name has this certificate, in the table with this root that was agreed
-- for the epoch; or it has none; or a check fails. Digests are 64 digits of hex
abbrev pub said_text : Said → List ℕ
said_text (said.Accepted name serial epoch root certificate) =
    codes "accepted " ++ (name ++ (codes " serial " ++ (decimal serial ++ (codes " epoch " ++ (decimal epoch
    ++ (codes " root " ++ (encode_lower root ++ (codes " certificate " ++ encode_lower certificate))))))))
said_text (said.Absent name epoch root) =
    codes "absent " ++ (name ++ (codes " epoch " ++ (decimal epoch ++ (codes " root " ++ encode_lower root))))
said_text (said.Refused check) = codes "refused " ++ decimal check

-- the numbers of deliveries in a burst, each behind a space
abbrev pub taken_text : List ℕ → List ℕ
taken_text taken = flat_map (λ delivery. codes " " ++ decimal delivery) taken

-- a digest at the end of a line
abbrev pub digest_text : List ℕ → List ℕ
digest_text digest = codes " " ++ (encode_lower digest ++ codes "\n")

-- ---- lines

-- a key of the party is made
abbrev pub made_text : Party → List ℕ → List ℕ
made_text party digest = codes "party " ++ (party_word party ++ digest_text digest)

-- a party is made dishonest
abbrev pub dishonest_text : Party → List ℕ
dishonest_text party = codes "dishonest " ++ (party_word party ++ codes "\n")

-- the check of an authority is changed
abbrev pub check_text : ℕ → List ℕ → List ℕ
check_text authority done = member_word Authority authority ++ done

-- a draft is made
abbrev pub draft_text : ℕ → List ℕ → List ℕ
draft_text draft digest = codes "draft " ++ (decimal draft ++ digest_text digest)

-- a party makes a step
abbrev pub step_line : Party → What → Option Code → List ℕ
step_line party what refused = party_word party ++ (codes " " ++ (what_text what ++ outcome_text refused))

-- an epoch ends
abbrev pub ended_text : ℕ → ℕ → Option (List ℕ) → List ℕ
ended_text log epoch root = member_word LogServer log ++ (codes " ended " ++ (decimal epoch ++ ending_text root))

-- which message enters the pool
abbrev pub message_text : ℕ → Kind → List ℕ
message_text message kind = codes "message " ++ (decimal message ++ (codes " " ++ kind_text kind))

-- who sent it and to whom it goes
abbrev pub route_text : Option Party → Target → List ℕ
route_text from to = codes " from " ++ (sender_text from ++ (codes " to " ++ target_text to))

-- a message enters the pool
abbrev pub entry_text : ℕ → Kind → Option Party → Target → ℕ → List ℕ → List ℕ
entry_text message kind from to length digest =
    message_text message kind ++ (route_text from to ++ (codes " " ++ (decimal length ++ digest_text digest)))

-- a party took these deliveries of a burst, in this order
abbrev pub order_text : Party → List ℕ → List ℕ
order_text party taken = codes "order " ++ (party_word party ++ (taken_text taken ++ codes "\n"))

-- the line of a happening
abbrev pub line_of : Happening → List ℕ
line_of (happening.Made party digest) = made_text party digest
line_of (happening.Dishonest party) = dishonest_text party
line_of (happening.Taught authority) = check_text authority (codes " taught\n")
line_of (happening.Forgot authority) = check_text authority (codes " forgot\n")
line_of (happening.Retired authority) = check_text authority (codes " retired\n")
line_of (happening.Draft draft digest) = draft_text draft digest
line_of (happening.Step party what refused) = step_line party what refused
line_of (happening.Ended log epoch root) = ended_text log epoch root
line_of (happening.Learnt message refused) = codes "learn " ++ (decimal message ++ learning_text refused)
line_of (happening.Entered message kind from to length digest) = entry_text message kind from to length digest
line_of (happening.SignRefused party) = party_word party ++ codes " sign refused\n"
line_of (happening.Judged message said) = codes "judge " ++ (decimal message ++ (codes " " ++ (said_text said ++ codes "\n")))
line_of (happening.Order party taken) = order_text party taken
