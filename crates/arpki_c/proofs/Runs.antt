-- Texts of changes, one behind the other: the loop that reads them, what is read is spelled so, and what is put is read again.
use Rattle.std.proofs.Common.{◌≡◌, ◌⊎◌, inl, inr, ◌==◌, ℕ, zero, suc, ◌+◌, ◌-◌, ◌<◌, ◌≤◌, Bool, true, false, if◌then◌else◌, List, [], ◌∷◌, ◌++◌, length, Result, Ok, Err, refl, sym, ap, ◌∙◌, append_assoc, add-one, arith}
use Rattle.std.specs.List.{AllByRecursion, flat_map}
use Rattle.std.proofs.lemmas.Bool.{eqb-true}
use Rattle.std.proofs.lemmas.List.{append-nil, length-append, nil_from_length}
use Rattle.ar_base.specs.Bytes.{AreBytes}
use Rattle.ar_base.specs.Chaining.{◌>>=◌}
use Rattle.ar_base.specs.Gives.{with_error}
use Rattle.ar_base.proofs.Shown.{bind_ok, ok_is}
use Rattle.ar_bytes.specs.Reading.{Cursor, Reading}
use Rattle.ar_bytes.proofs.Steps.{AreBytes-behind, between}
use Rattle.ar_cert.specs.Changes.{Change, IsChange, change_at, change_text}
use Rattle.ar_cert.proofs.ChangeLaws.{change_again, change_pass}
use Rattle.ar_cert.proofs.Lengths.{length-change_text}
use Rattle.arpki_c.specs.Stored.{changes_behind, next_change}
use Rattle.arpki_c.specs.declared.pins.PinFault.{PinFault}

-- ---- the loop

-- nothing is left
run-ends : (wrong : PinFault) (most : ℕ) (front : List Change) (at : Cursor) → (length at.ahead == 0) ≡ true
    → changes_behind wrong most front at ≡ Ok front
unfolding changes_behind
run-ends wrong zero front at e = rw e refl
run-ends wrong (suc more) front at e = rw e refl

-- something is left, and no more may stand there
run-full : (wrong : PinFault) (most : ℕ) (front : List Change) (at : Cursor) → most ≡ 0 → (length at.ahead == 0) ≡ false
    → changes_behind wrong most front at ≡ Err wrong
unfolding changes_behind
run-full wrong most front at none e = rw (none, e) refl

-- something is left, and more may stand there
run-more : (wrong : PinFault) (most more : ℕ) (front : List Change) (at : Cursor) → most ≡ more + 1 → (length at.ahead == 0) ≡ false
    → changes_behind wrong most front at ≡ (next_change wrong at >>= λ next. changes_behind wrong more (front ++ next.0 ∷ []) next.1)
unfolding changes_behind
run-more wrong most more front at is e = rw (is, add-one, e) refl

pub run_goes_on : (wrong : PinFault) (most i : ℕ) (front : List Change) (next : Change) (at new : Cursor) (all : Result (List Change) PinFault)
    → i < most → (length at.ahead == 0) ≡ false → next_change wrong at ≡ Ok (next, new) → changes_behind wrong (most - i) front at ≡ all
    → changes_behind wrong (most - (i + 1)) (front ++ next ∷ []) new ≡ all
run_goes_on wrong most i front next at new all lt left read so_far =
    let step = run-more wrong (most - i) (most - (i + 1)) front at (omega arith) left in
    let here : changes_behind wrong (most - i) front at ≡ changes_behind wrong (most - (i + 1)) (front ++ next ∷ []) new = step ∙ rw read refl in
    sym here ∙ so_far

pub run_fails : (wrong fault : PinFault) (most i : ℕ) (front : List Change) (at : Cursor) (all : Result (List Change) PinFault)
    → i < most → (length at.ahead == 0) ≡ false → next_change wrong at ≡ Err fault → changes_behind wrong (most - i) front at ≡ all → all ≡ Err fault
run_fails wrong fault most i front at all lt left fails so_far =
    sym so_far ∙ run-more wrong (most - i) (most - (i + 1)) front at (omega arith) left ∙ rw fails refl

-- the same, where memory may have run out
pub run_gives_up : (wrong fault want : PinFault) (most i : ℕ) (front : List Change) (at : Cursor) (all : Result (List Change) PinFault)
    → i < most → (length at.ahead == 0) ≡ false → (fault ≡ want) ⊎ (next_change wrong at ≡ Err fault) → changes_behind wrong (most - i) front at ≡ all
    → (fault ≡ want) ⊎ (all ≡ Err fault)
run_gives_up wrong fault want most i front at all lt left (inl ran_out) so_far = inl ran_out
run_gives_up wrong fault want most i front at all lt left (inr fails) so_far = inr (run_fails wrong fault most i front at all lt left fails so_far)

pub run_ends : (wrong : PinFault) (most i : ℕ) (front : List Change) (at : Cursor) (all : Result (List Change) PinFault)
    → (length at.ahead == 0) ≡ true → changes_behind wrong (most - i) front at ≡ all → all ≡ Ok front
run_ends wrong most i front at all ended so_far = sym so_far ∙ run-ends wrong (most - i) front at ended

pub run_is_full : (wrong : PinFault) (most i : ℕ) (front : List Change) (at : Cursor) (all : Result (List Change) PinFault)
    → most ≤ i → (length at.ahead == 0) ≡ false → changes_behind wrong (most - i) front at ≡ all → all ≡ Err wrong
run_is_full wrong most i front at all le left so_far = sym so_far ∙ run-full wrong (most - i) front at (omega arith) left

pub ruleset change_runs = (run_goes_on, run_fails, run_ends, run_is_full)

-- ---- a change that stands next

next-read : (wrong : PinFault) (at : Cursor) (x : Change × Cursor) → next_change wrong at ≡ Ok x → change_at at ≡ Ok x
unfolding next_change
next-read wrong at x e = by (change_at at) e
  where
    by : (r : Reading Change) → with_error (λ place. wrong) r ≡ Ok x → r ≡ Ok x
    by (Ok y) h = ap Ok (ok_is {A = Change × Cursor} {E = PinFault} y x h)
    by (Err place) h = absurd cc

next-again : (wrong : PinFault) (at : Cursor) (x : Change × Cursor) → change_at at ≡ Ok x → next_change wrong at ≡ Ok x
unfolding next_change
next-again wrong at x e = rw e refl

-- ---- what is read is spelled so

-- behind a front stand these changes, whose texts are all that was ahead
pub record Run (most : ℕ) (front : List Change) (ahead : List ℕ) (all : List Change) : Type 0 where
  pub changes : List Change
  pub all_are : all ≡ front ++ changes
  pub spelled : flat_map change_text changes ≡ ahead
  pub each : AllByRecursion IsChange changes
  pub few : length changes ≤ most

none-left : (most : ℕ) (front : List Change) (at : Cursor) (all : List Change) → (length at.ahead == 0) ≡ true → front ≡ all → Run most front at.ahead all
none-left most front at all e is = record {
  changes = [];
  all_are = sym is ∙ sym (append-nil front);
  spelled = sym (nil_from_length at.ahead (eqb-true (length at.ahead) 0 e));
  each = tt;
  few = omega arith;
}

one-more : (most : ℕ) (front : List Change) (at new : Cursor) (next : Change) (all : List Change) → AreBytes at.ahead → change_at at ≡ Ok (next, new)
    → (AreBytes new.ahead → Run most (front ++ next ∷ []) new.ahead all) → Run (suc most) front at.ahead all
one-more most front at new next all are read rest =
    let p = change_pass at new next are read in
    let r = rest (AreBytes-behind at new (change_text next) p.0 are) in
    record {
      changes = next ∷ r.changes;
      all_are = r.all_are ∙ append_assoc front (next ∷ []) r.changes;
      spelled = ap (λ (t : List ℕ). change_text next ++ t) r.spelled ∙ sym p.0.bytes;
      each = (p.1, r.each);
      few = omega (arith, r.few);
    }

pub run_spelled : (wrong : PinFault) (most : ℕ) (front : List Change) (at : Cursor) (all : List Change) → AreBytes at.ahead
    → changes_behind wrong most front at ≡ Ok all → Run most front at.ahead all
unfolding changes_behind
run_spelled wrong zero front at all are e = by (length at.ahead == 0) refl e
  where
    by : (b : Bool) → (length at.ahead == 0) ≡ b → (if b then Ok front else Err wrong) ≡ Ok all → Run zero front at.ahead all
    by true ends h = none-left zero front at all ends (ok_is {A = List Change} {E = PinFault} front all h)
    by false ends h = absurd cc
run_spelled wrong (suc more) front at all are e =
    by (length at.ahead == 0) refl (λ longer new left h. run_spelled wrong more longer new all left h) e
  where
    by : (b : Bool) → (length at.ahead == 0) ≡ b
        → ((longer : List Change) (new : Cursor) → AreBytes new.ahead → changes_behind wrong more longer new ≡ Ok all → Run more longer new.ahead all)
        → (if b then Ok front else (next_change wrong at >>= λ next. changes_behind wrong more (front ++ next.0 ∷ []) next.1)) ≡ Ok all
        → Run (suc more) front at.ahead all
    by true ends rest h = none-left (suc more) front at all ends (ok_is {A = List Change} {E = PinFault} front all h)
    by false ends rest h =
        let b = bind_ok (next_change wrong at) (λ next. changes_behind wrong more (front ++ next.0 ∷ []) next.1) all h in
        one-more more front at b.0.1 b.0.0 all are (next-read wrong at b.0 b.1)
        (λ left. rest (front ++ b.0.0 ∷ []) b.0.1 left b.2)

-- ---- what is put is read again

-- what has a byte is not empty
pub has-some : (n : ℕ) → 1 ≤ n → (n == 0) ≡ false
has-some n h = by (n == 0) refl
  where
    by : (b : Bool) → (n == 0) ≡ b → b ≡ false
    by false e = refl
    by true e = absurd (omega (arith, h, eqb-true n 0 e))

-- a text of a change is not empty
pub some-text : (change : Change) → (length (change_text change) == 0) ≡ false
some-text change = has-some (length (change_text change)) (omega (arith, length-change_text change))

some-bytes : (change : Change) (rest : List ℕ) → (length (change_text change ++ rest) == 0) ≡ false
some-bytes change rest =
    has-some (length (change_text change ++ rest)) (omega (arith, length-append (change_text change) rest, length-change_text change))

pub run_again : (wrong : PinFault) (most : ℕ) (front changes : List Change) (at : Cursor) → at.ahead ≡ flat_map change_text changes
    → AllByRecursion IsChange changes → length changes ≤ most → changes_behind wrong most front at ≡ Ok (front ++ changes)
run_again wrong most front [] at ahead each few = run-ends wrong most front at (rw ahead refl) ∙ ap Ok (sym (append-nil front))
run_again wrong zero front (change ∷ changes) at ahead each few = absurd (omega (arith, few))
run_again wrong (suc more) front (change ∷ changes) at ahead each few =
    let new : Cursor = between at (change_text change) (flat_map change_text changes) in
    let read = change_again change each.0 at new (record { bytes = ahead; place = refl }) in
    let left : (length at.ahead == 0) ≡ false = rw ahead (some-bytes change (flat_map change_text changes)) in
    run-more wrong (suc more) more front at (omega arith) left ∙ rw (next-again wrong at (change, new) read) refl
    ∙ run_again wrong more (front ++ change ∷ []) changes new refl each.1 (omega (arith, few))
    ∙ ap Ok (append_assoc front (change ∷ []) changes)
