-- What is written of what a party replies.
use Rattle.std.specs.Prelude.{◌≡◌, ℕ, List, [], ◌++◌, Option, None, Some, Result, Vec, OnOk, codes}
use Rattle.std.specs.List.{flat_map}
use Rattle.std.specs.declared.alloc.AllocError.{AllocError}
use Rattle.std.specs.Fmt.{decimal}
use Rattle.ar_lines.specs.Parties.{party_word}
use Rattle.ar_lines.specs.Refusals.{reason_text}
use Rattle.ar_message.specs.Sending.{Letter}
use Rattle.ar_message.specs.declared.address.Address.{Address}
use Rattle.ar_message.specs.declared.address.Address.TheVariants.{Logs, One}
use Rattle.ar_message.specs.declared.sent.Sent.{Sent}
use Rattle.ar_nodes.specs.Codes.{authority_code, log_code}
use Rattle.ar_statement.specs.Claims.{authority_party, log_party}
use Rattle.ar_statement.specs.declared.party.Party.{Party}
use Rattle.authority_core.specs.declared.refusal.AuthorityRefusal.TheVariants.{Memory}
use Rattle.authority_keeper.specs.declared.order.AuthorityOrder.{AuthorityOrder}
use Rattle.authority_keeper.specs.declared.order.AuthorityOrder.TheVariants as authority
use Rattle.authority_keeper.specs.declared.refusal.AuthorityOrderRefusal.{AuthorityOrderRefusal}
use Rattle.authority_keeper.specs.declared.refusal.AuthorityOrderRefusal.TheVariants as refusals
use Rattle.hex.specs.Hex.{encode_lower}
use Rattle.log_keeper.specs.declared.order.LogOrder.{LogOrder}
use Rattle.log_keeper.specs.declared.order.LogOrder.TheVariants as log
use Rattle.log_sending.specs.declared.refusal.LogRefusal.{LogRefusal}
use Rattle.log_sending.specs.declared.refusal.LogRefusal.TheVariants as log_refusals
use Rattle.report_text.specs.Lines.{line_of}
use Rattle.report_text.specs.declared.happening.Code.{Code}
use Rattle.report_text.specs.declared.happening.Happening.TheVariants.{Ended, Forgot, Retired, Step, Taught}
use Rattle.report_text.specs.declared.happening.What.{What}
use Rattle.report_text.specs.declared.happening.What.TheVariants as what
use Rattle.party_desk.specs.declared.unread.Cause.{Cause}
use Rattle.party_desk.specs.declared.unread.Cause.TheVariants as cause

-- A call that may want memory put this text behind what stood there.
abbrev pub Puts : {Z : Type 0} → List ℕ → Vec ℕ Z → Vec ℕ Z → Result (Unit {0}) AllocError → Type 0
Puts text old new result = OnOk result (new.items ≡ old.items ++ text)

-- The same of a text, where there is one; where there is none, memory was wanting.
abbrev pub PutsAny : {Z : Type 0} → Option (List ℕ) → Vec ℕ Z → Vec ℕ Z → Result (Unit {0}) AllocError → Type 0
PutsAny (Some text) old new result = Puts text old new result
PutsAny None old new result = OnOk result ⊥

-- to whom a message goes
abbrev pub address_text : Address → List ℕ
address_text Logs = codes "logs"
address_text (One party) = party_word party

-- `send <party> <hex>`
abbrev pub letter_line : Letter → List ℕ
letter_line letter = codes "send " ++ (address_text letter.to ++ (codes " " ++ (encode_lower letter.bytes ++ codes "\n")))

-- what is sent, a line each
abbrev pub sent_lines : Sent → List ℕ
sent_lines sent = flat_map letter_line sent.messages

-- `handed <digest> <hex>`
abbrev pub handed_line : List ℕ → List ℕ → List ℕ
handed_line digest signature = codes "handed " ++ (encode_lower digest ++ (codes " " ++ (encode_lower signature ++ codes "\n")))

-- `stapled <digest> <epoch> <64 hex> <hex>`: the certificate, the epoch, the TLS key and the staple
abbrev pub stapled_line : List ℕ → ℕ → List ℕ → List ℕ → List ℕ
stapled_line digest epoch channel signature =
    codes "stapled " ++ (encode_lower digest ++ (codes " " ++ (decimal epoch ++ (codes " " ++ (encode_lower channel ++ (codes " " ++ (encode_lower signature ++ codes "\n")))))))

-- `<D> leaves <free> of <all> kept <kept>`
abbrev pub leaves_line : Party → ℕ → ℕ → ℕ → List ℕ
leaves_line who free leaves kept =
    party_word who ++ (codes " leaves " ++ (decimal free ++ (codes " of " ++ (decimal leaves ++ (codes " kept " ++ (decimal kept ++ codes "\n"))))))

-- the front of a line that tells a step of a draft: `<D> <word> <draft>`
abbrev pub draft_step : Party → List ℕ → ℕ → List ℕ
draft_step who word draft = party_word who ++ (codes " " ++ (word ++ (codes " " ++ decimal draft)))

-- the number of a check, behind a space, where there is one
abbrev pub check_text : Option ℕ → List ℕ
check_text None = []
check_text (Some check) = codes " " ++ decimal check

-- the end of a line that tells that an owner refused, by the number of the refusal
abbrev pub refused_so : ℕ → Option ℕ → List ℕ
refused_so number check = codes " refused O" ++ (decimal number ++ (check_text check ++ codes "\n"))

-- the end of an epoch at a log, where one ended
abbrev pub ended_line : ℕ → Option (ℕ × Option (List ℕ)) → List ℕ
ended_line number None = []
ended_line number (Some ended) = line_of (Ended number ended.0 ended.1)

-- the step of a party
abbrev pub step_told : Party → What → Option Code → List ℕ
step_told party done refused = line_of (Step party done refused)

-- ---- refused lines

abbrev pub unread_text : Cause → List ℕ
unread_text (cause.Form reason) = reason_text reason
unread_text cause.Order = codes "order"
unread_text (cause.Absent word) = codes "none " ++ decimal word
unread_text cause.Limit = codes "limit"

-- `line <n>: <reason>`
abbrev pub unread_line : ℕ → Cause → List ℕ
unread_line number why = codes "line " ++ (decimal number ++ (codes ": " ++ (unread_text why ++ codes "\n")))

-- ---- logs

-- what a log does for an order in the line with this number
abbrev pub log_what : ℕ → LogOrder → What
log_what number (log.Take bytes) = what.Take number
log_what number log.Propose = what.Propose
log_what number log.Pass = what.Pass
log_what number log.Roll = what.Roll

-- what is told of a step that it did, and of one that it refused: nothing, where memory was wanting
abbrev pub log_told : ℕ → ℕ → LogOrder → Sent → List ℕ
log_told me number order sent = ended_line me sent.ended ++ step_told (log_party me) (log_what number order) None

abbrev pub log_refused : ℕ → ℕ → LogOrder → LogRefusal → Option (List ℕ)
log_refused me number order log_refusals.Memory = None
log_refused me number order refusal = Some (step_told (log_party me) (log_what number order) (Some (log_code refusal)))

-- ---- authorities

-- what is told of a step that an authority did
abbrev pub authority_told : ℕ → ℕ → AuthorityOrder → List ℕ
authority_told me number (authority.Take bytes) = step_told (authority_party me) (what.Take number) None
authority_told me number authority.Roll = step_told (authority_party me) what.Roll None
authority_told me number (authority.Learn name key) = line_of (Taught me)
authority_told me number (authority.Forget name key) = line_of (Forgot me)
authority_told me number authority.Retire = line_of (Retired me)

-- what it did that it refused
abbrev pub authority_what : ℕ → AuthorityOrder → What
authority_what number (authority.Take bytes) = what.Take number
authority_what number order = what.Roll

-- what is told of that: nothing, where memory was wanting
abbrev pub authority_refused : ℕ → ℕ → AuthorityOrder → AuthorityOrderRefusal → Option (List ℕ)
authority_refused me number order (refusals.Authority Memory) = None
authority_refused me number order (refusals.Authority refusal) =
    Some (step_told (authority_party me) (authority_what number order) (Some (authority_code refusal)))
authority_refused me number order refusals.Retired = Some (unread_line number (cause.Absent 1))
