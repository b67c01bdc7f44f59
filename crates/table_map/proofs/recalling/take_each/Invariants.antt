use Rattle.std.proofs.Common.{◌≡◌, drop}
use Rattle.table_map.specs.Recalling.{after_lessons}
use Rattle.table_map.proofs.recalling.take_each.Given as goal

-- the lessons that are left make of the directory what all make of the first
abbrev pub invariant-loop-lesson : goal.invariant-loop-lesson
invariant-loop-lesson l =
    after_lessons l.digest l.directory (drop l.lesson-index l.lessons) ≡ after_lessons l.digest l.initial.directory l.lessons
