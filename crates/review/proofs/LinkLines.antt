-- Lines of links, one after another.
use Rattle.std.proofs.Common.{◌≡◌, ℕ, ◌+◌, ◌-◌, ◌<◌, ◌≤◌, true, false, List, [], ◌∷◌, ◌++◌, Ok, refl, sym, ◌∙◌, codes, add-one, arith}
use Rattle.ar_base.specs.Chaining.{◌>>=◌}
use Rattle.ar_cert.specs.Changes.{Change}
use Rattle.ar_lines.specs.Readings.{LineCursor, LineReading}
use Rattle.ar_lines.specs.Rows.{is_next}
use Rattle.ar_lines.specs.declared.refusal.LineFault.{LineFault}
use Rattle.ar_lines.proofs.Faults.{GivesUp, gives_up-chained}
use Rattle.review.specs.Follows.{link_at, links_at}

links-none : (most : ℕ) (links : List Change) (at : LineCursor) → most ≡ 0 → links_at most links at ≡ Ok (links, at)
unfolding links_at
links-none most links at e = rw e refl

links-end : (most more : ℕ) (links : List Change) (at : LineCursor) → most ≡ more + 1 → is_next (codes "link") at ≡ false → links_at most links at ≡ Ok (links, at)
unfolding links_at
links-end most more links at e no_more = rw (e, add-one, no_more) refl

links-more : (most more : ℕ) (links : List Change) (at : LineCursor) → most ≡ more + 1 → is_next (codes "link") at ≡ true
    → links_at most links at ≡ (link_at at >>= λ next. links_at more (links ++ next.0 ∷ []) next.1)
unfolding links_at
links-more most more links at e is = rw (e, add-one, is) refl

-- the loop's next line
pub link_more : (most i : ℕ) (links : List Change) (next : Change) (at new : LineCursor) (all : LineReading (List Change)) → i < most → is_next (codes "link") at ≡ true
    → link_at at ≡ Ok (next, new) → links_at (most - i) links at ≡ all → links_at (most - (i + 1)) (links ++ next ∷ []) new ≡ all
link_more most i links next at new all lt is read so_far =
    let step = links-more (most - i) (most - (i + 1)) links at (omega arith) is in
    let here : links_at (most - i) links at ≡ links_at (most - (i + 1)) (links ++ next ∷ []) new = step ∙ rw read refl in
    sym here ∙ so_far

-- a line that is refused, or finds no memory
pub link_gives_up : (most i : ℕ) (links : List Change) (at : LineCursor) (fault : LineFault) (all : LineReading (List Change)) → i < most → is_next (codes "link") at ≡ true
    → GivesUp fault (link_at at) → links_at (most - i) links at ≡ all → GivesUp fault all
link_gives_up most i links at fault all lt is fails so_far =
    let step = links-more (most - i) (most - (i + 1)) links at (omega arith) is in
    let same : all ≡ (link_at at >>= λ next. links_at (most - (i + 1)) (links ++ next.0 ∷ []) next.1) = sym so_far ∙ step in
    rw same (gives_up-chained (link_at at) _ fault fails)

-- a line of another name
pub no_link : (most i : ℕ) (links : List Change) (at : LineCursor) (all : LineReading (List Change)) → i < most → is_next (codes "link") at ≡ false
    → links_at (most - i) links at ≡ all → all ≡ Ok (links, at)
no_link most i links at all lt no_more so_far = sym so_far ∙ links-end (most - i) (most - (i + 1)) links at (omega arith) no_more

-- behind as many as there may be
pub links_all : (most i : ℕ) (links : List Change) (at : LineCursor) (all : LineReading (List Change)) → most ≤ i
    → links_at (most - i) links at ≡ all → all ≡ Ok (links, at)
links_all most i links at all le so_far = sym so_far ∙ links-none (most - i) links at (omega arith)

pub ruleset link_lines = (link_more, link_gives_up, no_link, links_all)
