-- How many messages a step sends, before it is signed and then.
use Rattle.std.proofs.Common.{ℕ, ◌≤◌, length, Bool, Result, arith}
use Rattle.ar_message.specs.declared.message.Message.{Message}
use Rattle.lms_tree.specs.declared.public_key.LmsPublic.{LmsPublic}
use Rattle.owner_check.specs.declared.answer.Outcome.{Outcome}
use Rattle.authority_core.specs.RollRows.{roll_row}
use Rattle.authority_core.specs.Row.{row}
use Rattle.authority_core.specs.State.{AuthorityAnswer, AuthorityState, most_sent}
use Rattle.authority_core.proofs.EachRow.{AnswersWith, rolled-with, row-gives}

-- where a row answers, it sends few messages
abbrev SendsFew : AuthorityAnswer → Type 0
SendsFew answer = AnswersWith (λ later sent. length sent.sent.messages ≤ most_sent) answer

pub row-few : (s : AuthorityState) (retired : Bool) (m : Result Message ℕ) (said : Outcome) → SendsFew (row s retired m said)
row-few s retired m said = row-gives (λ read later sent. length sent.sent.messages ≤ most_sent) s retired m said (record {
  endorses = λ owner cert due stays yes entered. omega arith;
  first = λ part due passed entered. omega arith;
  second = λ part signature due passed entered. omega arith;
  notes = λ a how learnt. omega arith;
})

pub rolling-few : (s : AuthorityState) (next : LmsPublic) → SendsFew (roll_row s next)
rolling-few s next = rolled-with (λ later sent. length sent.sent.messages ≤ most_sent) s next (λ due rolls. omega arith)
