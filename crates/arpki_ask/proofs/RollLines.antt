-- Lines of RollNotes, one after another.
use Rattle.std.proofs.Common.{◌≡◌, ℕ, ◌+◌, ◌-◌, ◌<◌, ◌≤◌, true, false, Ok, refl, sym, ◌∙◌, codes, add-one, arith}
use Rattle.party_keys.specs.Directory.{Directory}
use Rattle.arpki_ask.specs.Inquiries.{roll_at, rolls_at}
use Rattle.ar_base.specs.Chaining.{◌>>=◌}
use Rattle.ar_lines.specs.Readings.{LineCursor, LineReading}
use Rattle.ar_lines.specs.Rows.{is_next}
use Rattle.ar_lines.specs.declared.refusal.LineFault.{LineFault}
use Rattle.ar_lines.proofs.Faults.{GivesUp, gives_up-chained}

rolls-none : (most : ℕ) (keys : Directory) (at : LineCursor) → most ≡ 0 → rolls_at most keys at ≡ Ok (keys, at)
unfolding rolls_at
rolls-none most keys at e = rw e refl

rolls-end : (most more : ℕ) (keys : Directory) (at : LineCursor) → most ≡ more + 1 → is_next (codes "roll") at ≡ false → rolls_at most keys at ≡ Ok (keys, at)
unfolding rolls_at
rolls-end most more keys at e no_more = rw (e, add-one, no_more) refl

rolls-more : (most more : ℕ) (keys : Directory) (at : LineCursor) → most ≡ more + 1 → is_next (codes "roll") at ≡ true → rolls_at most keys at ≡ (roll_at keys at >>= λ learnt. rolls_at more learnt.0 learnt.1)
unfolding rolls_at
rolls-more most more keys at e is = rw (e, add-one, is) refl

-- the loop's next line
pub roll_more : (most i : ℕ) (keys learnt : Directory) (at new : LineCursor) (all : LineReading Directory) → i < most → is_next (codes "roll") at ≡ true → roll_at keys at ≡ Ok (learnt, new) → rolls_at (most - i) keys at ≡ all → rolls_at (most - (i + 1)) learnt new ≡ all
roll_more most i keys learnt at new all lt is read so_far =
    let step = rolls-more (most - i) (most - (i + 1)) keys at (omega arith) is in
    let here : rolls_at (most - i) keys at ≡ rolls_at (most - (i + 1)) learnt new = step ∙ rw read refl in
    sym here ∙ so_far

-- a line that is refused, or finds no memory
pub roll_gives_up : (most i : ℕ) (keys : Directory) (at : LineCursor) (fault : LineFault) (all : LineReading Directory) → i < most → is_next (codes "roll") at ≡ true → GivesUp fault (roll_at keys at) → rolls_at (most - i) keys at ≡ all → GivesUp fault all
roll_gives_up most i keys at fault all lt is fails so_far =
    let step = rolls-more (most - i) (most - (i + 1)) keys at (omega arith) is in
    let same : all ≡ (roll_at keys at >>= λ learnt. rolls_at (most - (i + 1)) learnt.0 learnt.1) = sym so_far ∙ step in
    rw same (gives_up-chained (roll_at keys at) _ fault fails)

-- a line of another name
pub no_roll : (most i : ℕ) (keys : Directory) (at : LineCursor) (all : LineReading Directory) → i < most → is_next (codes "roll") at ≡ false → rolls_at (most - i) keys at ≡ all → all ≡ Ok (keys, at)
no_roll most i keys at all lt no_more so_far = sym so_far ∙ rolls-end (most - i) (most - (i + 1)) keys at (omega arith) no_more

-- the loop's end
pub rolls_all : (most i : ℕ) (keys : Directory) (at : LineCursor) (all : LineReading Directory) → most ≤ i → rolls_at (most - i) keys at ≡ all → all ≡ Ok (keys, at)
rolls_all most i keys at all le so_far = sym so_far ∙ rolls-none (most - i) keys at (omega arith)

pub ruleset roll_lines = (roll_more, roll_gives_up, no_roll, rolls_all)
