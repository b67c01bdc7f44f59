-- What is queued, and what is not; which lists of changes are the same.
use Rattle.std.specs.Prelude.{Bool, true, false, not, ◌&&◌, List, [], ◌∷◌, filter}
use Rattle.std.specs.List.{list_any}
use Rattle.std.specs.Str.{bytes_eq}
use Rattle.ar_cert.specs.Changes.{Change, change_text}

-- whether both are of the same changes, in one order and with the same signatures
abbrev pub are_same_changes : List Change → List Change → Bool
are_same_changes [] [] = true
are_same_changes [] (other ∷ others) = false
are_same_changes (change ∷ changes) [] = false
are_same_changes (change ∷ changes) (other ∷ others) = bytes_eq (change_text change) (change_text other) && are_same_changes changes others

-- whether an equal change is queued, with the same signatures
abbrev pub is_queued : List Change → Change → Bool
is_queued queue change = list_any (λ other. bytes_eq (change_text other) (change_text change)) queue

-- the changes of which no equal one is queued
abbrev pub unqueued : List Change → List Change → List Change
unqueued queue changes = filter (λ change. not (is_queued queue change)) changes
