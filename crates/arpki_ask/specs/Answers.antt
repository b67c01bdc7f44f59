-- What the program answers to words and an input: the line that it writes, and its status.
use Rattle.std.specs.Prelude.{ℕ, nat_lt, if◌then◌else◌, List, ◌++◌, codes, length, Result, Ok, Err}
use Rattle.std.specs.Fmt.{decimal}
use Rattle.lms_tree.specs.declared.validity.Verdict.{Verdict}
use Rattle.lms_tree.specs.declared.validity.Verdict.TheVariants as verdict
use Rattle.lms_tree.specs.Validity.{verdict_of}
use Rattle.client_rule.specs.Rule.{judgement}
use Rattle.report_text.specs.Lines.{said_text}
use Rattle.report_text.specs.declared.happening.Said.{Said}
use Rattle.report_text.specs.declared.happening.Said.TheVariants as said
use Rattle.ar_lines.specs.Readings.{start_of_lines}
use Rattle.ar_lines.specs.Refusals.{refusal_text}
use Rattle.ar_lines.specs.declared.refusal.Reason.TheVariants.{Limit}
use Rattle.ar_lines.specs.declared.refusal.Refusal.{Refusal}
use Rattle.ar_run.specs.Answers.{Answer, one_line}
use Rattle.ar_run.specs.Runs.{most_read_bytes}
use Rattle.report_text.specs.Verdicts.{said_of}
use Rattle.arpki_ask.specs.Inquiries.{Inquiry, inquiry_at}
use Rattle.arpki_ask.specs.Questions.{Question, question_at}
use Rattle.arpki_ask.specs.declared.command.Command.{Command}
use Rattle.arpki_ask.specs.declared.command.Command.TheVariants.{Sig, Check}

-- ---- the verdict on a signature

abbrev pub verdict_text : Verdict → List ℕ
verdict_text verdict.Valid = codes "valid"
verdict_text (verdict.Invalid condition) = codes "invalid " ++ decimal condition

abbrev pub verdict_status : Verdict → ℕ
verdict_status verdict.Valid = 0
verdict_status (verdict.Invalid condition) = 1

-- whether the signature of the message is valid under the key
abbrev pub judged : Question → Answer
judged question =
    let found = verdict_of question.key question.message question.signature
    in one_line (verdict_text found) (verdict_status found)

-- ---- the judgement on a confirmation

abbrev pub said_status : Said → ℕ
said_status (said.Accepted name serial epoch root certificate) = 0
said_status (said.Absent name epoch root) = 0
said_status (said.Refused check) = 1

-- what the client's rule makes of the confirmation
abbrev pub found : Inquiry → Answer
found inquiry =
    let told = said_of inquiry.asked.name (judgement inquiry.asked inquiry.confirmation)
    in one_line (said_text told) (said_status told)

-- ---- answers

-- a line of the input is refused
abbrev pub refused_line : Refusal → Answer
refused_line refusal = one_line (refusal_text refusal) 3

-- the input is too long
abbrev pub too_long : Refusal
too_long = record { line = 0; reason = Limit }

-- the answer to what was read, or the first refused line alone
abbrev pub unless_refused : {T : Type 0} → (T → Answer) → Result T Refusal → Answer
unless_refused answer (Ok input) = answer input
unless_refused answer (Err refusal) = refused_line refusal

-- the answer of a command to an input that is not too long
abbrev pub answer_of : Command → List ℕ → Answer
answer_of Sig input = unless_refused judged (question_at (start_of_lines input))
answer_of Check input = unless_refused found (inquiry_at (start_of_lines input))

-- this answer to an input, where the input is not too long
abbrev pub unless_long : List ℕ → Answer → Answer
unless_long input answer = if nat_lt most_read_bytes (length input) then refused_line too_long else answer

-- the answer of a command to an input
abbrev pub answer_to : Command → List ℕ → Answer
answer_to command input = unless_long input (answer_of command input)
