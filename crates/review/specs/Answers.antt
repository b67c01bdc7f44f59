-- What is answered to an input: the lines that are written, and the status.
use Rattle.std.specs.Prelude.{ℕ, List, [], ◌∷◌, ◌++◌, length, Result, Ok, Err}
use Rattle.ar_lines.specs.Readings.{LineCursor, start_of_lines}
use Rattle.ar_lines.specs.Refusals.{refusal_text}
use Rattle.ar_lines.specs.declared.refusal.Refusal.{Refusal}
use Rattle.ar_run.specs.Answers.{Answer, line_of}
use Rattle.arpki_ask.specs.Answers.{unless_long, unless_refused}
use Rattle.arpki_ask.specs.Inquiries.{directory_at}
use Rattle.monitor.specs.Reports.{report_of}
use Rattle.party_keys.specs.Directory.{Directory}
use Rattle.review.specs.Audits as audits
use Rattle.review.specs.Follows.{groups_at, most_groups}
use Rattle.review.specs.Telling.{told_of}
use Rattle.review.specs.declared.reviews.Review.{Review}
use Rattle.review.specs.declared.reviews.Review.TheVariants.{Audit, Follow}

-- what is told of the report on the items
abbrev pub audited : audits.Audit → Answer
audited asked = told_of (length asked.items) (report_of asked.keys asked.items)

-- these lines, and behind them, where a line is refused, that refusal
abbrev pub ended : List (List ℕ) → Result (Unit {0}) Refusal → Answer
ended lines (Ok u) = record { lines = lines; status = 0 }
ended lines (Err refusal) = record { lines = lines ++ line_of (refusal_text refusal) ∷ []; status = 3 }

-- what is told of the groups behind a directory, by a client that remembers nothing at first
abbrev pub followed : Directory × LineCursor → Answer
followed read =
    let told = groups_at most_groups read.0 [] [] read.1
    in ended told.lines told.end

-- the answer of a review to an input that is not too long
abbrev pub review_of : Review → List ℕ → Answer
review_of Audit input = unless_refused audited (audits.audit_at (start_of_lines input))
review_of Follow input = unless_refused followed (directory_at (start_of_lines input))

-- the answer of a review to an input
abbrev pub answer_to : Review → List ℕ → Answer
answer_to review input = unless_long input (review_of review input)
