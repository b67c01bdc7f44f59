-- What the code reads of a text.
use Rattle.std.specs.Prelude.{◌≡◌, ℕ, List, Option, None, Some}
use Rattle.owner_check.specs.Book.{with_pair, without_pair}
use Rattle.owner_check.specs.declared.pair.Pair.{Pair}
use Rattle.authority_keeper.specs.Inputs.{Input, forgets, learns, retires, rolls, takes}
use Rattle.authority_keeper.specs.declared.text.Lesson.{Lesson}
use Rattle.authority_keeper.specs.declared.text.Lesson.TheVariants as lessons
use Rattle.authority_keeper.specs.declared.text.Said.{Said}
use Rattle.authority_keeper.specs.declared.text.Said.TheVariants as saids

-- the input by which a check takes a lesson
abbrev pub lesson_input : Lesson → List ℕ → List ℕ → Input
lesson_input lessons.Learn name key = learns name key
lesson_input lessons.Forget name key = forgets name key

-- the book of a check behind a lesson
abbrev pub taught : Lesson → List Pair → List ℕ → List ℕ → List Pair
taught lessons.Learn book name key = with_pair book name key
taught lessons.Forget book name key = without_pair book name key

-- it is what the text says
abbrev pub IsSaid : Said → Option Input → Type 0
IsSaid (saids.Take bytes) says = says ≡ Some (takes bytes.now)
IsSaid (saids.Roll key) says = says ≡ Some (rolls key)
IsSaid (saids.Lesson lesson name key) says = says ≡ Some (lesson_input lesson name.now key.now)
IsSaid saids.Retire says = says ≡ Some retires
IsSaid saids.Nothing says = says ≡ None
