-- Things that are dealt to workers one after another, of which each goes to one of several nodes.
use Rattle.std.specs.Prelude.{ℕ, ◌+◌, ◌%◌, ◌==◌, ◌&&◌, Bool, if◌then◌else◌, List, [], ◌∷◌, map}
use Rattle.std.specs.List.{range_with_len}

module _ {D : Type 0} (workers : ℕ) (here : D → Bool) where
  -- The numbers of those things of a worker that go here, where the first of all has this number. The workers take things in turn:
  -- a thing is that worker's whose number is the remainder of its own by the number of workers.
  abbrev pub dealt_from : ℕ → ℕ → List D → List ℕ
  dealt_from number worker [] = []
  dealt_from number worker (thing ∷ things) =
      if here thing && (number % workers == worker) then number ∷ dealt_from (number + 1) worker things
      else dealt_from (number + 1) worker things

  -- those of each worker
  abbrev pub dealt_lists : List D → List (List ℕ)
  dealt_lists things = map (λ worker. dealt_from 0 worker things) (range_with_len 0 workers)
