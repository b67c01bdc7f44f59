-- What `follow` is asked: a directory, and groups of lines, each of which asks for a name and has a confirmation, with the
-- changes that lead to it; and what is told of them, group by group, with one client that remembers.
use Rattle.std.specs.Prelude.{◌≡◌, ◌⊎◌, ℕ, zero, suc, nat_lt, if◌then◌else◌, List, [], ◌∷◌, ◌++◌, codes, Option, option_and_then, Result, Ok, Err}
use Rattle.std.specs.Fmt.{decimal}
use Rattle.std.specs.Result.{result_ok}
use Rattle.ar_base.specs.Chaining.{◌>>=◌}
use Rattle.ar_base.specs.Gives.{with_error}
use Rattle.ar_bytes.specs.Reading.{whole}
use Rattle.ar_cert.specs.Changes.{Change, change_at}
use Rattle.ar_lines.specs.Forms.{bytes_of_hex}
use Rattle.ar_lines.specs.Readings.{LineCursor, LineReading}
use Rattle.ar_lines.specs.Refusals.{refused}
use Rattle.ar_lines.specs.Rows.{is_next, value_at}
use Rattle.ar_lines.specs.declared.refusal.LineFault.{LineFault}
use Rattle.ar_lines.specs.declared.refusal.LineFault.TheVariants as line_fault
use Rattle.ar_lines.specs.declared.refusal.Reason.TheVariants.{Limit}
use Rattle.ar_lines.specs.declared.refusal.Refusal.{Refusal}
use Rattle.arpki_ask.specs.Inquiries.{confirmation_at, name_at, number_at}
use Rattle.cert_policy.specs.Refusals.{number_of}
use Rattle.client_memory.specs.Answers.{pinned_by}
use Rattle.client_memory.specs.Book.{Pin}
use Rattle.client_memory.specs.declared.answers.LinkFault.{LinkFault}
use Rattle.client_memory.specs.declared.answers.LinkFault.TheVariants as link_fault
use Rattle.client_memory.specs.declared.answers.Pinned.{Pinned}
use Rattle.client_memory.specs.declared.answers.Pinned.TheVariants as pinned
use Rattle.client_rule.specs.Rule.{Asked}
use Rattle.party_keys.specs.Directory.{Directory}
use Rattle.review.specs.Audits.{is_over}

-- ---- the lines that may be read

-- how many lines an input may have
abbrev pub most_lines : ℕ
most_lines = 20000

-- a line behind these is refused as `limit`, before it is read; a missing one is not
abbrev pub room_of : ℕ → List (List ℕ) → Result (Unit {0}) Refusal
room_of next [] = Ok tt
room_of next (line ∷ ahead) = if nat_lt most_lines next then refused next Limit else Ok tt

-- the next line may be read
abbrev pub room_at : LineCursor → Result (Unit {0}) Refusal
room_at at = room_of at.next at.ahead

-- what is read of the next line, where it may be read
abbrev pub within : {T : Type 0} → (LineCursor → LineReading T) → LineCursor → LineReading T
within reading at = room_at at >>= λ u. reading at

-- ---- one group

-- what a client asks of a name, the confirmation that it was given, and the changes that lead to it
pub record Group : Type 0 where
  pub name : List ℕ
  pub epoch : ℕ
  pub age : ℕ
  pub links : List Change
  pub confirmation : List ℕ

-- the change of which the bytes that hex spells are the text
abbrev pub change_of_hex : List ℕ → Option Change
change_of_hex word = option_and_then (λ bytes. result_ok (whole change_at bytes)) (bytes_of_hex word)

-- `link <hex of a change>`: the next change
abbrev pub link_at : LineCursor → LineReading Change
link_at at = within (value_at (codes "link") change_of_hex) at

-- these changes, and behind them those of at most so many lines; the first line that is none is left
unfoldable pub links_at : ℕ → List Change → LineCursor → LineReading (List Change)
links_at zero links at = Ok (links, at)
links_at (suc more) links at =
    if is_next (codes "link") at then (link_at at >>= λ next. links_at more (links ++ next.0 ∷ []) next.1) else Ok (links, at)

-- how many there may be
abbrev pub most_link_lines : ℕ
most_link_lines = 65

-- the name, the epoch, the age, the links and the confirmation
unfoldable pub group_at : LineCursor → LineReading Group
group_at at = do
  name ← within name_at at
  epoch ← within (number_at (codes "now")) name.1
  age ← within (number_at (codes "age")) epoch.1
  links ← links_at most_link_lines [] age.1
  confirmation ← within confirmation_at links.1
  Ok (record { name = name.0; epoch = epoch.0; age = age.0; links = links.0; confirmation = confirmation.0 }, confirmation.1)

-- ---- what is told of it

-- why a change is no link: an endorsement by the number of its authority, or a clause of the policy rule
abbrev pub fault_text : LinkFault → List ℕ
fault_text (link_fault.Endorsement authority) = codes " e " ++ (decimal authority ++ codes "\n")
fault_text (link_fault.Policy refusal) = codes " p " ++ (decimal (number_of refusal) ++ codes "\n")

-- the line of an answer, with its newline
abbrev pub pinned_line : Pinned → List ℕ
pinned_line (pinned.Refused check) = codes "refused " ++ (decimal check ++ codes "\n")
pinned_line pinned.Gone = codes "gone\n"
pinned_line pinned.Absent = codes "absent\n"
pinned_line pinned.Same = codes "same\n"
pinned_line pinned.Long = codes "long\n"
pinned_line pinned.Full = codes "full\n"
pinned_line pinned.First = codes "first\n"
pinned_line pinned.NoLinks = codes "nolinks\n"
pinned_line (pinned.Link place why) = codes "link " ++ (decimal place ++ fault_text why)
pinned_line pinned.WrongEnd = codes "wrongend\n"
pinned_line (pinned.Moved count) = codes "moved " ++ (decimal count ++ codes "\n")

-- what a client that trusts these keys asks
abbrev pub asked_of : Directory → Group → Asked
asked_of keys group = record { keys = keys; name = group.name; epoch = group.epoch; age = group.age }

-- what the client answers to a group, and what it keeps then
abbrev pub judged : Directory → List Pin → Group → Pinned × List Pin
judged keys book group = pinned_by book (asked_of keys group) group.confirmation group.links

-- the line of an answer, and the book behind it
abbrev pub told_with : Pinned × List Pin → List ℕ × List Pin
told_with judged = (pinned_line judged.0, judged.1)

-- the next group: its line, and the book behind it
unfoldable pub answered_at : Directory → List Pin → LineCursor → LineReading (List ℕ × List Pin)
answered_at keys book at = group_at at >>= λ group. Ok (told_with (judged keys book group.0), group.1)

-- ---- all groups

-- the lines that are told, and the line behind them that is refused, if one is
pub record Told : Type 0 where
  pub lines : List (List ℕ)
  pub end : Result (Unit {0}) Refusal

-- what is told behind these lines: the rest, or the refusal of the group that is read next
abbrev pub told_behind : {T : Type 0} → List (List ℕ) → LineReading T → (T × LineCursor → Told) → Told
told_behind lines (Ok next) rest = rest next
told_behind lines (Err refusal) rest = record { lines = lines; end = Err refusal }

-- these lines, and behind them those of at most so many groups, up to the end of the input
unfoldable pub groups_at : ℕ → Directory → List Pin → List (List ℕ) → LineCursor → Told
groups_at zero keys book lines at = record { lines = lines; end = Ok tt }
groups_at (suc more) keys book lines at =
    if is_over at then record { lines = lines; end = Ok tt } else
    told_behind lines (answered_at keys book at) (λ next. groups_at more keys next.0.1 (lines ++ next.0.0 ∷ []) next.1)

-- no input has so many groups, since a group has four lines
abbrev pub most_groups : ℕ
most_groups = 5000

-- ---- answers of the reader

-- The call told these lines and ended as the definition says, or memory ran out.
abbrev pub TellsUnless : Result (Unit {0}) LineFault → List (List ℕ) → Told → Type 0
TellsUnless (Ok u) lines told = told ≡ record { lines = lines; end = Ok tt }
TellsUnless (Err fault) lines told =
    (fault ≡ line_fault.Memory) ⊎ ((told.lines ≡ lines) × (with_error line_fault.Refused told.end ≡ Err fault))
