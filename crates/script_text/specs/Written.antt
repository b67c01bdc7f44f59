-- Lines of scripts as they are written.
use Rattle.std.specs.Prelude.{ℕ, Bool, if◌then◌else◌, List, [], ◌∷◌, ◌++◌, codes, map, Option, Some, None}
use Rattle.std.specs.Fmt.{decimal}
use Rattle.std.specs.List.{join_with_byte}
use Rattle.hex.specs.Hex.{encode_lower}
use Rattle.ar_lines.specs.Parties.{member_word, party_word}
use Rattle.ar_statement.specs.declared.party.Party.{Party}
use Rattle.ar_statement.specs.declared.party.Role.TheVariants as role
use Rattle.script_text.specs.declared.line.EventLine.{EventLine}
use Rattle.script_text.specs.declared.line.EventLine.TheVariants as event
use Rattle.script_text.specs.declared.line.Line.{Line}
use Rattle.script_text.specs.declared.line.Line.TheVariants as line
use Rattle.script_text.specs.declared.line.PolicyWords.{PolicyWords}
use Rattle.script_text.specs.declared.line.SetupLine.{SetupLine}
use Rattle.script_text.specs.declared.line.SetupLine.TheVariants as setup

-- ---- words

-- a party, or all logs
abbrev pub receiver_word : Option Party → List ℕ
receiver_word None = codes "logs"
receiver_word (Some party) = party_word party

-- a message, or the newest that goes to a client
abbrev pub judged_word : Option ℕ → List ℕ
judged_word None = codes "last"
judged_word (Some message) = decimal message

-- a list of numbers
abbrev pub list_word : List ℕ → List ℕ
list_word numbers = join_with_byte 44 (map decimal numbers)

-- the authorities that a policy trusts
abbrev pub trusted_word : List ℕ → List ℕ
trusted_word [] = codes "-"
trusted_word (number ∷ numbers) = list_word (number ∷ numbers)

-- the wait of a recovery
abbrev pub wait_word : Option ℕ → List ℕ
wait_word None = []
wait_word (Some wait) = 47 ∷ decimal wait

-- whether a domain is bound to its key, and the wait
abbrev pub binding_word : Bool × Option ℕ → List ℕ
binding_word binding = (if binding.0 then codes "keyed" else codes "free") ++ wait_word binding.1

-- ---- lines

-- the words of a policy, before others
abbrev pub policy_then : PolicyWords → List (List ℕ) → List (List ℕ)
policy_then policy more =
    decimal policy.threshold ∷ binding_word (policy.keyed, policy.wait) ∷ decimal policy.max_age ∷ decimal policy.until
    ∷ trusted_word policy.trusted ∷ more

-- the words of a line of the setup
abbrev pub words_of_setup_line : SetupLine → List (List ℕ)
words_of_setup_line (setup.Secret secret) = codes "secret" ∷ encode_lower secret ∷ []
words_of_setup_line (setup.Keys lms ots) = codes "keys" ∷ decimal lms ∷ decimal ots ∷ []
words_of_setup_line (setup.Logs n q) = codes "logs" ∷ decimal n ∷ decimal q ∷ []
words_of_setup_line (setup.Authorities m) = codes "authorities" ∷ decimal m ∷ []
words_of_setup_line (setup.Dishonest party) = codes "dishonest" ∷ party_word party ∷ []

-- the words of a line of what happens
abbrev pub words_of_event_line : EventLine → List (List ℕ)
words_of_event_line (event.Owner owner) = codes "owner" ∷ member_word role.Owner owner ∷ []
words_of_event_line (event.Teach authority name owner) = codes "teach" ∷ member_word role.Authority authority ∷ name ∷ member_word role.Owner owner ∷ []
words_of_event_line (event.Forget authority name owner) = codes "forget" ∷ member_word role.Authority authority ∷ name ∷ member_word role.Owner owner ∷ []
words_of_event_line (event.Retire authority) = codes "retire" ∷ member_word role.Authority authority ∷ []
words_of_event_line (event.Register owner name policy asks) = codes "register" ∷ member_word role.Owner owner ∷ name ∷ policy_then policy (list_word asks ∷ [])
words_of_event_line (event.Update owner draft policy asks) = codes "update" ∷ member_word role.Owner owner ∷ decimal draft ∷ policy_then policy (list_word asks ∷ [])
words_of_event_line (event.Revoke owner draft asks) = codes "revoke" ∷ member_word role.Owner owner ∷ decimal draft ∷ list_word asks ∷ []
words_of_event_line (event.Handover owner draft) = codes "handover" ∷ member_word role.Owner owner ∷ decimal draft ∷ []
words_of_event_line (event.Object owner draft) = codes "object" ∷ member_word role.Owner owner ∷ decimal draft ∷ []
words_of_event_line (event.Submit draft) = codes "submit" ∷ decimal draft ∷ []
words_of_event_line (event.Propose log) = codes "propose" ∷ member_word role.LogServer log ∷ []
words_of_event_line (event.Pass log) = codes "pass" ∷ member_word role.LogServer log ∷ []
words_of_event_line (event.Roll party) = codes "roll" ∷ party_word party ∷ []
words_of_event_line (event.Learn message) = codes "learn" ∷ decimal message ∷ []
words_of_event_line (event.Ask log name first second client) =
    codes "ask" ∷ member_word role.LogServer log ∷ name ∷ member_word role.Authority first ∷ member_word role.Authority second
    ∷ member_word role.Client client ∷ []
words_of_event_line (event.Deliver message party) = codes "deliver" ∷ decimal message ∷ party_word party ∷ []
words_of_event_line event.Flush = codes "flush" ∷ []
words_of_event_line (event.Judge message name now age) = codes "judge" ∷ judged_word message ∷ name ∷ decimal now ∷ decimal age ∷ []
words_of_event_line (event.Sign party pieces) = codes "sign" ∷ party_word party ∷ pieces
words_of_event_line (event.Inject to pieces) = codes "inject" ∷ receiver_word to ∷ pieces

-- the words of a line
abbrev pub words_of_line : Line → List (List ℕ)
words_of_line (line.Setup l) = words_of_setup_line l
words_of_line (line.Event l) = words_of_event_line l
words_of_line line.Burst = codes "burst" ∷ []
words_of_line line.End = codes "end" ∷ []

-- a line as it is written: its words, with one space between each two
abbrev pub text_of_line : Line → List ℕ
text_of_line line = join_with_byte 32 (words_of_line line)
