-- What is printed of a step of a party, beside the step and the messages that it sends.
use Rattle.std.specs.Prelude.{ℕ, List, [], ◌∷◌, Option, Some, None}
use Rattle.report_text.specs.declared.happening.Happening.{Happening}
use Rattle.report_text.specs.declared.happening.Happening.TheVariants.{Ended}

-- an epoch ended at a log
abbrev pub ending_of : ℕ → Option (ℕ × Option (List ℕ)) → List Happening
ending_of log None = []
ending_of log (Some ended) = Ended log ended.0 ended.1 ∷ []
