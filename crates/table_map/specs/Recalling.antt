-- What a client recalls of what it learnt: the notes that it learnt under this directory, and no other's.
use Rattle.std.specs.Prelude.{ℕ, if◌then◌else◌, List, [], ◌∷◌}
use Rattle.std.specs.Str.{bytes_eq}
use Rattle.party_keys.specs.Directory.{Directory}
use Rattle.party_keys.specs.Learning.{Announced, after_learning}
use Rattle.table_map.specs.Digests.{directory_digest}
use Rattle.table_map.specs.declared.recalling.Lesson.{Lesson}

-- the directory behind a lesson, where this is the digest of the directory that learns
abbrev pub after_lesson : List ℕ → Directory → Lesson → Directory
after_lesson digest keys lesson = if bytes_eq lesson.under digest then after_learning keys lesson.note.now else keys

-- behind all of these, in their order
unfoldable pub after_lessons : List ℕ → Directory → List Lesson → Directory
after_lessons digest keys [] = keys
after_lessons digest keys (lesson ∷ lessons) = after_lessons digest (after_lesson digest keys lesson) lessons

-- the directory behind the lessons that were learnt under it
unfoldable pub recalled : Directory → List Lesson → Directory
recalled keys lessons = after_lessons (directory_digest keys) keys lessons

-- of lessons, what was announced to the directory with this digest
unfoldable pub lessons_under : List ℕ → List Lesson → List Announced
lessons_under digest [] = []
lessons_under digest (lesson ∷ lessons) =
    if bytes_eq lesson.under digest then lesson.note.now ∷ lessons_under digest lessons else lessons_under digest lessons
