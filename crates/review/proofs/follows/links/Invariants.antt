use Rattle.std.proofs.Common.{◌≡◌, ◌-◌, []}
use Rattle.review.specs.Follows.{links_at, most_link_lines}
use Rattle.review.proofs.follows.links.Given as goal

-- what is read behind these links is what is read from the start
abbrev pub invariant-loop : goal.invariant-loop
invariant-loop l = links_at (most_link_lines - l.counter) l.links.items l.lines ≡ links_at most_link_lines [] l.initial.lines
