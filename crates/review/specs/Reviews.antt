-- The reviews by their names.
use Rattle.std.specs.Prelude.{ℕ, if◌then◌else◌, List, codes, Option, Some, None}
use Rattle.std.specs.Str.{bytes_eq}
use Rattle.review.specs.declared.reviews.Review.{Review}
use Rattle.review.specs.declared.reviews.Review.TheVariants.{Audit, Follow}

-- the review of a name
abbrev pub review_named : List ℕ → Option Review
review_named word =
    if bytes_eq word (codes "audit") then Some Audit else (if bytes_eq word (codes "follow") then Some Follow else None)
