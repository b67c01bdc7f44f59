-- What a check of owners tells of itself behind a lesson, and what is printed of the lesson.
use Rattle.std.specs.Prelude.{ℕ, List, Some}
use Rattle.std.specs.Option.{option_map}
use Rattle.owner_check.specs.Answers.{Told, forgotten, learnt}
use Rattle.report_text.specs.declared.happening.Happening.{Happening}
use Rattle.report_text.specs.declared.happening.Happening.TheVariants.{Forgot, Taught}
use Rattle.ar_nodes.specs.Parties.{AuthorityNode, CheckParts}
use Rattle.ar_nodes.specs.declared.lesson.Lesson.{Lesson}
use Rattle.ar_nodes.specs.declared.lesson.Lesson.TheVariants as lesson

-- a check that tells this of itself from here on, where it told something
abbrev pub retelling : (Told → Told) → CheckParts → CheckParts
retelling tells check = record check { told = option_map tells check.told }

-- an authority with such a check
abbrev pub retold : (Told → Told) → AuthorityNode × CheckParts → AuthorityNode
retold tells found = record found.0 { check = Some (retelling tells found.1) }

-- what a check tells of itself behind a lesson on a name and a key
abbrev pub told_behind : Lesson → List ℕ → List ℕ → Told → Told
told_behind lesson.Learn name = learnt name
told_behind lesson.Forget name = forgotten name

-- what is printed of the lesson
abbrev pub lesson_said : Lesson → ℕ → Happening
lesson_said lesson.Learn authority = Taught authority
lesson_said lesson.Forget authority = Forgot authority
