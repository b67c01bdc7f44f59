-- Groups of lines, one after another.
use Rattle.std.proofs.Common.{◌≡◌, ℕ, ◌+◌, ◌-◌, ◌<◌, ◌≤◌, true, false, List, [], ◌∷◌, ◌++◌, Vec, Global, map, Ok, Err, refl, inl, inr, sym, ap, ◌∙◌, add-one, arith}
use Rattle.ar_lines.specs.Readings.{LineCursor, LineReading}
use Rattle.ar_lines.specs.declared.refusal.LineFault.{LineFault}
use Rattle.ar_lines.specs.declared.refusal.LineFault.TheVariants.{Refused}
use Rattle.ar_lines.proofs.Faults.{GivesUp}
use Rattle.ar_run.specs.Answers.{bytes_of}
use Rattle.client_memory.specs.Book.{Pin}
use Rattle.party_keys.specs.Directory.{Directory}
use Rattle.review.specs.Audits.{is_over}
use Rattle.review.specs.Follows.{TellsUnless, Told, answered_at, groups_at, told_behind}
use Rattle.review.proofs.Behind.{one_behind}

groups-none : (most : ℕ) (keys : Directory) (book : List Pin) (lines : List (List ℕ)) (at : LineCursor) → most ≡ 0
    → groups_at most keys book lines at ≡ record { lines = lines; end = Ok tt }
unfolding groups_at
groups-none most keys book lines at e = rw e refl

groups-end : (most more : ℕ) (keys : Directory) (book : List Pin) (lines : List (List ℕ)) (at : LineCursor) → most ≡ more + 1 → is_over at ≡ true
    → groups_at most keys book lines at ≡ record { lines = lines; end = Ok tt }
unfolding groups_at
groups-end most more keys book lines at e over = rw (e, add-one, over) refl

groups-more : (most more : ℕ) (keys : Directory) (book : List Pin) (lines : List (List ℕ)) (at : LineCursor) → most ≡ more + 1 → is_over at ≡ false
    → groups_at most keys book lines at
    ≡ told_behind lines (answered_at keys book at) (λ next. groups_at more keys next.0.1 (lines ++ next.0.0 ∷ []) next.1)
unfolding groups_at
groups-more most more keys book lines at e left = rw (e, add-one, left) refl

told-gives-up : {T : Type 0} (lines : List (List ℕ)) (read : LineReading T) (rest : T × LineCursor → Told) (fault : LineFault) → GivesUp fault read
    → TellsUnless (Err fault) lines (told_behind lines read rest)
told-gives-up lines (Ok next) rest fault (inl e) = inl e
told-gives-up lines (Ok next) rest fault (inr e) = absurd cc
told-gives-up lines (Err refusal) rest fault (inl e) = inl e
told-gives-up lines (Err refusal) rest fault (inr e) = let same : Refused refusal ≡ fault = cc in inr (refl, ap Err same)

-- the loop's next group
pub group_more : (most i : ℕ) (keys : Directory) (book later : List Pin) (told longer : List (Vec ℕ Global)) (line : Vec ℕ Global) (at new : LineCursor) (all : Told)
    → i < most → is_over at ≡ false → answered_at keys book at ≡ Ok ((line.items, later), new) → longer ≡ told ++ line ∷ []
    → groups_at (most - i) keys book (map bytes_of told) at ≡ all → groups_at (most - (i + 1)) keys later (map bytes_of longer) new ≡ all
group_more most i keys book later told longer line at new all lt left read behind so_far =
    let step = groups-more (most - i) (most - (i + 1)) keys book (map bytes_of told) at (omega arith) left in
    let lines : map bytes_of longer ≡ map bytes_of told ++ line.items ∷ [] = one_behind told longer line line.items behind refl in
    let here : groups_at (most - i) keys book (map bytes_of told) at ≡ groups_at (most - (i + 1)) keys later (map bytes_of told ++ line.items ∷ []) new = step ∙ rw read refl in
    ap (λ l. groups_at (most - (i + 1)) keys later l new) lines ∙ sym here ∙ so_far

-- a group that is refused, or finds no memory
pub group_gives_up : (most i : ℕ) (keys : Directory) (book : List Pin) (lines : List (List ℕ)) (at : LineCursor) (fault : LineFault) (all : Told)
    → i < most → is_over at ≡ false → GivesUp fault (answered_at keys book at) → groups_at (most - i) keys book lines at ≡ all → TellsUnless (Err fault) lines all
group_gives_up most i keys book lines at fault all lt left fails so_far =
    let step = groups-more (most - i) (most - (i + 1)) keys book lines at (omega arith) left in
    let same : all ≡ told_behind lines (answered_at keys book at) (λ next. groups_at (most - (i + 1)) keys next.0.1 (lines ++ next.0.0 ∷ []) next.1) = sym so_far ∙ step in
    rw same (told-gives-up lines (answered_at keys book at) _ fault fails)

-- no line is left
pub no_group : (most i : ℕ) (keys : Directory) (book : List Pin) (lines : List (List ℕ)) (at : LineCursor) (all : Told) → i < most → is_over at ≡ true
    → groups_at (most - i) keys book lines at ≡ all → all ≡ record { lines = lines; end = Ok tt }
no_group most i keys book lines at all lt over so_far = sym so_far ∙ groups-end (most - i) (most - (i + 1)) keys book lines at (omega arith) over

-- behind as many as there may be
pub groups_all : (most i : ℕ) (keys : Directory) (book : List Pin) (lines : List (List ℕ)) (at : LineCursor) (all : Told) → most ≤ i
    → groups_at (most - i) keys book lines at ≡ all → all ≡ record { lines = lines; end = Ok tt }
groups_all most i keys book lines at all le so_far = sym so_far ∙ groups-none (most - i) keys book lines at (omega arith)

pub ruleset group_lines = (group_more, group_gives_up, no_group, groups_all)
