-- What is written of a report: a line for each item that is ignored, one for each party that contradicts itself, and one of
-- the totals, each with its newline.
use Rattle.std.specs.Prelude.{ℕ, List, [], ◌∷◌, ◌++◌, codes, length, map}
use Rattle.std.specs.Fmt.{decimal}
use Rattle.ar_lines.specs.Parties.{party_word}
use Rattle.ar_run.specs.Answers.{Answer}
use Rattle.monitor.specs.declared.report.Conflict.{Conflict}
use Rattle.monitor.specs.declared.report.Ignored.{Ignored}
use Rattle.monitor.specs.declared.report.Ignored.TheVariants.{Form, Unknown, Bad}
use Rattle.monitor.specs.declared.report.Report.{Report}

-- why an item is ignored
abbrev pub reason_text : Ignored → List ℕ
reason_text Form = codes " form\n"
reason_text Unknown = codes " unknown\n"
reason_text (Bad k) = codes " bad " ++ (decimal k ++ codes "\n")

-- `ignored <line> ..`
abbrev pub ignored_line : ℕ × Ignored → List ℕ
ignored_line item = codes "ignored " ++ (decimal item.0 ++ reason_text item.1)

-- `conflict <P> <first> <second> <rule>`
abbrev pub conflict_line : Conflict → List ℕ
conflict_line c =
    codes "conflict " ++ (party_word c.party ++ (codes " " ++ (decimal c.first ++ (codes " " ++ (decimal c.second
    ++ (codes " " ++ (decimal c.rule ++ codes "\n")))))))

-- `audited <items> valid <v> conflicts <c>`
abbrev pub total_line : ℕ → ℕ → ℕ → List ℕ
total_line items valid conflicts =
    codes "audited " ++ (decimal items ++ (codes " valid " ++ (decimal valid ++ (codes " conflicts " ++ (decimal conflicts ++ codes "\n")))))

-- all lines of a report on so many items
abbrev pub report_lines : ℕ → Report → List (List ℕ)
report_lines items report =
    map ignored_line report.ignored ++ (map conflict_line report.conflicts ++ total_line items report.valid (length report.conflicts) ∷ [])

-- the answer that tells it
abbrev pub told_of : ℕ → Report → Answer
told_of items report = record { lines = report_lines items report; status = 0 }
