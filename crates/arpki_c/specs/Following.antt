-- What a caller is told who pins names.
use Rattle.std.specs.Prelude.{◌≡◌, ◌⊎◌, ℕ, ◌==◌, if◌then◌else◌, List, ◌++◌, drop, length, replicate, take, Option, Some, None, Result, Ok, Err}
use Rattle.std.specs.Result.{result_ok}
use Rattle.ar_base.specs.Chaining.{◌>>=◌}
use Rattle.ar_bytes.specs.Reading.{whole}
use Rattle.ar_cert.specs.Certificate.{Certificate, digest_of}
use Rattle.ar_cert.specs.Changes.{change_text}
use Rattle.ar_message.specs.Confirmation.{Confirmation, Subject, certificate_in, confirmation_at}
use Rattle.cert_policy.specs.Refusals.{number_of}
use Rattle.client_memory.specs.Answers.{first_change, pinned_by}
use Rattle.client_memory.specs.declared.answers.LinkFault.{LinkFault}
use Rattle.client_memory.specs.declared.answers.LinkFault.TheVariants as link_fault
use Rattle.client_memory.specs.declared.answers.Pinned.{Pinned}
use Rattle.client_memory.specs.declared.answers.Pinned.TheVariants as pinned
use Rattle.client_rule.specs.Rule.{Asked, judgement as judgement_of}
use Rattle.client_rule.specs.declared.judgement.Judgement.{Judgement}
use Rattle.client_rule.specs.declared.judgement.Judgement.TheVariants as judgement
use Rattle.party_keys.specs.Directory.{Directory}
use Rattle.arpki_c.specs.Stored.{book_stored, changes_in}
use Rattle.arpki_c.specs.Told.{accepted_answer, asked_by, fault_answer, judgement_answer, no_memory, said}
use Rattle.arpki_c.specs.declared.answers.CallAnswer.{CallAnswer}
use Rattle.arpki_c.specs.declared.followed.Followed.{Followed}
use Rattle.arpki_c.specs.declared.keys.KeysFault.{KeysFault}
use Rattle.arpki_c.specs.declared.pins.PinFault.{PinFault}
use Rattle.arpki_c.specs.declared.pins.PinFault.TheVariants as pin_fault
use Rattle.arpki_c.specs.declared.questions.CallQuestion.{CallQuestion}

-- ---- what a confirmation shows, whether or not it is accepted

-- the certificate, or that there is none
abbrev pub shown_with : Subject → Option Certificate → Judgement
shown_with about None = judgement.Absent about.epoch about.root
shown_with about (Some certificate) = judgement.Accepted certificate (digest_of certificate) about.epoch about.root

-- what was read, where it is a confirmation
abbrev pub shown_on : Option Confirmation → Judgement
shown_on None = judgement.Refused 1
shown_on (Some c) = shown_with c.about (certificate_in c.body)

-- what bytes show, where they are a confirmation
abbrev pub shown_in : List ℕ → Judgement
shown_in bytes = shown_on (result_ok (whole confirmation_at bytes))

-- ---- the first bytes of a pin

-- the text of the change that pins a certificate for which nothing vouched but the confirmation
abbrev pub first_text : Certificate → List ℕ
first_text certificate = change_text (first_change certificate)

-- this text, at the front of 412 zero bytes
abbrev pub at_front : List ℕ → List ℕ
at_front text = text ++ drop (length text) (replicate 412 0)

-- ---- the outcomes: 0 to 4 as for a confirmation, 6 gone, 7 no links, 8 bad endorsement, 9 bad update, 10 wrong end, 11 long,
-- ---- 12 full, 13 bad pin, 14 bad links

-- an answer behind so many links, and nothing to keep
abbrev pub keeping_nothing : CallAnswer → ℕ → Followed
keeping_nothing answer links = record { answer = answer; first_len = 0; links = links; keep = 0; first = replicate 412 0 }

-- an outcome with a number, behind so many links
abbrev pub said_behind : ℕ → ℕ → ℕ → Followed
said_behind outcome check links = keeping_nothing (said outcome check) links

-- a certificate that is pinned now, with the text to keep
abbrev pub pinning : Judgement → Followed
pinning (judgement.Accepted certificate digest epoch root) = record {
  answer = accepted_answer certificate digest epoch root;
  first_len = length (first_text certificate);
  links = 0;
  keep = 1;
  first = at_front (first_text certificate);
}
pinning (judgement.Absent epoch root) = keeping_nothing (judgement_answer (judgement.Absent epoch root)) 0
pinning (judgement.Refused check) = keeping_nothing (judgement_answer (judgement.Refused check)) 0

-- of a link that fails, behind so many that hold
abbrev pub link_following : ℕ → LinkFault → Followed
link_following links (link_fault.Endorsement authority) = said_behind 8 authority links
link_following links (link_fault.Policy refusal) = said_behind 9 (number_of refusal) links

-- of what a client answers to a confirmation that shows this
abbrev pub following : Pinned → Judgement → Followed
following (pinned.Refused check) shown = said_behind 2 check 0
following pinned.Gone shown = keeping_nothing (record (judgement_answer shown) { outcome = 6 }) 0
following pinned.Absent shown = keeping_nothing (judgement_answer shown) 0
following pinned.Same shown = keeping_nothing (judgement_answer shown) 0
following pinned.Long shown = said_behind 11 0 0
following pinned.Full shown = said_behind 12 0 0
following pinned.First shown = pinning shown
following pinned.NoLinks shown = said_behind 7 0 0
following (pinned.Link place why) shown = link_following place why
following pinned.WrongEnd shown = said_behind 10 0 0
following (pinned.Moved count) shown = record (keeping_nothing (judgement_answer shown) count) { keep = 2 }

-- of what was stored, or of links, where something is wrong with them
abbrev pub fault_following : PinFault → Followed
fault_following pin_fault.Form = said_behind 13 1 0
fault_following pin_fault.Name = said_behind 13 2 0
fault_following pin_fault.Chain = said_behind 13 3 0
fault_following pin_fault.Links = said_behind 14 0 0
fault_following pin_fault.Memory = said_behind 3 0 0

-- ---- what is told

-- of a confirmation, a pin and links, or what is wrong with these two
unfoldable pub following_by : Asked → List ℕ → List ℕ → List ℕ → Result Followed PinFault
following_by asked confirmation pin links = do
  book ← book_stored asked.name pin
  changes ← changes_in pin_fault.Links links
  Ok (following (pinned_by book asked confirmation changes).0 (judgement_of asked confirmation))

-- of both
abbrev pub unless_wrong : Result Followed PinFault → Followed
unless_wrong (Ok told) = told
unless_wrong (Err wrong) = fault_following wrong

-- to who trusts the directory, or whose keys make none
abbrev pub following_told : Result Directory KeysFault → CallQuestion → List ℕ → List ℕ → Followed
following_told (Err wrong) question pin links = keeping_nothing (fault_answer wrong) 0
following_told (Ok keys) question pin links = unless_wrong (following_by (asked_by keys question) question.confirmation.now pin links)

-- what is told is this, or that memory ran out
abbrev pub IsFollowingUnlessMemory : Followed → Followed → Type 0
IsFollowingUnlessMemory given told = (given ≡ keeping_nothing no_memory 0) ⊎ (given ≡ told)

-- ---- what is kept then

-- the bytes of a pin behind what was told: the first text, or the links behind what was there, or what was there
abbrev pub keeping_pin : List ℕ → List ℕ → Followed → List ℕ
keeping_pin pin links told =
    if told.keep == 1 then take told.first_len told.first else (if told.keep == 2 then pin ++ links else pin)
