-- What `serve` answers to an input: the lines that it writes, and its status.
use Rattle.std.specs.Prelude.{ℕ, ◌≡◌, ◌+◌, nat_lt, MatchBool, List, [], ◌∷◌, ◌++◌, codes, length, Option, Result, Ok, Err}
use Rattle.std.specs.Fmt.{decimal}
use Rattle.hex.specs.Hex.{encode_lower}
use Rattle.ar_io.specs.Wrote.{Appended, AppendedFront}
use Rattle.ar_lines.specs.Readings.{start_of_lines}
use Rattle.ar_lines.specs.declared.refusal.Refusal.{Refusal}
use Rattle.ar_run.specs.Answers.{Answer, written_of}
use Rattle.ar_run.specs.Runs.{TakesAll, most_read_bytes}
use Rattle.arpki_ask.specs.Answers.{refused_line, too_long}
use Rattle.lms_tree.specs.Key.{public_of}
use Rattle.lms_tree.specs.PublicKey.{key_text}
use Rattle.serve_run.specs.Reading.{Service, service_at}
use Rattle.serve_run.specs.Serving.{IsServed, serving_key}
use Rattle.serve_run.specs.declared.reply.Reply.{Reply}
use Rattle.serve_run.specs.declared.reply.Reply.TheVariants.{Signed, Exhausted}

-- ---- lines

-- the public key that serves
abbrev pub key_line : List ℕ → List ℕ
key_line secret = codes "key " ++ (encode_lower (key_text (public_of (serving_key secret))) ++ codes "\n")

-- what was replied to the challenge of this number, from 0
abbrev pub reply_line : ℕ → Reply → List ℕ
reply_line number (Signed leaf digest) =
    codes "answer " ++ (decimal number ++ (codes " leaf " ++ (decimal leaf ++ (codes " " ++ (encode_lower digest ++ codes "\n")))))
reply_line number Exhausted = codes "answer " ++ (decimal number ++ codes " exhausted\n")

-- a line for each of these replies, the first of which is to the challenge of this number
abbrev pub reply_lines : ℕ → List Reply → List (List ℕ)
reply_lines number [] = []
reply_lines number (reply ∷ replies) = reply_line number reply ∷ reply_lines (number + 1) replies

-- ---- answers

-- the key, and the replies in the order of their challenges
abbrev pub served : Service → List Reply → Answer
served service replies = record { lines = key_line service.secret ∷ reply_lines 0 replies; status = 0 }

-- an answer of so many workers to a service: the replies that they drew leaves for
abbrev pub Serves : ℕ → Service → Answer → Type 0
Serves workers service answer = (replies : List Reply) × IsServed service workers replies × (answer ≡ served service replies)

-- an answer to what was read of an input: that to the service, or the first refused line alone
abbrev pub IsAnswerTo : ℕ → Result Service Refusal → Answer → Type 0
IsAnswerTo workers (Err refusal) answer = answer ≡ refused_line refusal
IsAnswerTo workers (Ok service) answer = Serves workers service answer

-- an answer of so many workers to an input
abbrev pub IsAnswer : ℕ → List ℕ → Answer → Type 0
IsAnswer workers input answer =
    MatchBool (nat_lt most_read_bytes (length input)) (answer ≡ refused_line too_long) (IsAnswerTo workers (service_at (start_of_lines input)) answer)

-- ---- a run of the program

-- An input was taken, an answer of so many workers to it was written whole, and the status is the answer's.
pub record ServesWhole {K : Type 0} (workers : ℕ) (old new : Option (List ℕ)) (wrote : K → List ℕ → Type 0) (sink written : K) (status : ℕ) : Type 0 where
  pub input : List ℕ
  pub answer : Answer
  pub taken : TakesAll old new input
  pub is_answer : IsAnswer workers input answer
  pub status_is : status ≡ answer.status
  pub written_is : Appended wrote sink written (written_of answer)

-- An input was taken, and of an answer of so many workers to it a front was written, and not all.
pub record ServesFront {K : Type 0} (workers : ℕ) (old new : Option (List ℕ)) (wrote : K → List ℕ → Type 0) (sink written : K) : Type 0 where
  pub input : List ℕ
  pub answer : Answer
  pub taken : TakesAll old new input
  pub is_answer : IsAnswer workers input answer
  pub front : AppendedFront wrote sink written (written_of answer)
