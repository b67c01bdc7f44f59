-- What opening a file takes, by the kind of the file.
use Rattle.std.proofs.Common.{◌≡◌, ℕ, ◌+◌, ◌<◌, ◌≤◌, Bool, true, false, cond, nat_eq, nat_le, List, length, refl, sym, ap, subst, arith, ne_eqb, Option}
use Rattle.std.proofs.lemmas.Bool.{le-leb, lt-leb}
use Rattle.kept_disk.specs.Fuel.{Fuel}
use Rattle.kept_journal.specs.Appending.{SpendsAll, WantsAll}
use Rattle.kept_journal.specs.Opening.{Cost, SpendsCost, WantsCost, behind_gate, behind_reading, cutting, opening}
use Rattle.kept_journal.proofs.Spending.{then_spent, then_wants}

abbrev pub cost : ℕ → ℕ → ℕ → Cost
cost calls bytes changes = record { calls = calls; bytes = bytes; changes = changes }

-- ---- by the kind of the file

pub cutting_some : (bytes : ℕ) → 0 < bytes → cutting bytes ≡ cost 2 bytes 2
cutting_some bytes some = ap (λ (b : Bool). cond b (cost 1 0 1) (cost 2 bytes 2)) (ne_eqb bytes 0 (omega (arith, some)))

pub cutting_none : (bytes : ℕ) → bytes ≡ 0 → cutting bytes ≡ cost 1 0 1
cutting_none bytes none = ap cutting none

pub opening_short : (file : List ℕ) → length file ≤ 9 → opening file ≡ cost 5 9 3
unfolding opening
opening_short file short = ap (λ (b : Bool). behind_reading (cond b (cost 2 9 2) (cutting (behind_gate file)))) (le-leb (length file) 9 short)

pub opening_long : (file : List ℕ) → 9 < length file → opening file ≡ behind_reading (cutting (behind_gate file))
unfolding opening
opening_long file long = ap (λ (b : Bool). behind_reading (cond b (cost 2 9 2) (cutting (behind_gate file)))) (lt-leb (length file) 9 long)

-- ---- bounds

-- a cost is no more and no less than these
pub record IsAround (cost : Cost) (len : ℕ) : Type 0 where
  pub least_calls : 4 ≤ cost.calls
  pub calls : cost.calls ≤ 5
  pub bytes : cost.bytes ≤ len + 9
  pub least_changes : 2 ≤ cost.changes
  pub changes : cost.changes ≤ 3

cut-around : (bytes len : ℕ) → bytes ≤ len → (b : Bool) → IsAround (behind_reading (cond b (cost 1 0 1) (cost 2 bytes 2))) len
cut-around bytes len within true = record { least_calls = omega arith; calls = omega arith; bytes = omega arith; least_changes = omega arith; changes = omega arith }
cut-around bytes len within false =
    record { least_calls = omega arith; calls = omega arith; bytes = omega (arith, within); least_changes = omega arith; changes = omega arith }

opened-around : (file : List ℕ) (b : Bool) → IsAround (behind_reading (cond b (cost 2 9 2) (cutting (behind_gate file)))) (length file)
opened-around file true = record { least_calls = omega arith; calls = omega arith; bytes = omega arith; least_changes = omega arith; changes = omega arith }
opened-around file false = cut-around (behind_gate file) (length file) (omega arith) (nat_eq (behind_gate file) 0)

pub opening_around : (file : List ℕ) → IsAround (opening file) (length file)
unfolding opening
opening_around file = opened-around file (nat_le (length file) 9)

-- ---- what is taken

-- the first three calls, and what comes behind them
pub opened_spends : (f0 f1 f2 : Option Fuel) (file : List ℕ) (last : Cost) → SpendsAll f0 f1 3 0 1 → SpendsCost f1 f2 last → opening file ≡ behind_reading last
    → SpendsCost f0 f2 (opening file)
opened_spends f0 f1 f2 file last first second is =
    subst (λ (c : Cost). SpendsCost f0 f2 c) (sym is)
    (then_spent f0 f1 f2 3 0 1 last.calls last.bytes last.changes (3 + last.calls) last.bytes (1 + last.changes) first second refl (omega arith) refl)

pub opened_wants : (f0 f1 : Option Fuel) (file : List ℕ) (last : Cost) → SpendsAll f0 f1 3 0 1 → WantsCost f1 last → opening file ≡ behind_reading last
    → WantsCost f0 (opening file)
opened_wants f0 f1 file last first second is =
    subst (λ (c : Cost). WantsCost f0 c) (sym is)
    (then_wants f0 f1 3 0 1 last.calls last.bytes last.changes (3 + last.calls) last.bytes (1 + last.changes) first second (omega arith) (omega arith) (omega arith))

-- one of the first three
pub early_wants : (f0 f1 : Option Fuel) (file : List ℕ) (a c x z : ℕ) → SpendsAll f0 f1 a 0 c → WantsAll f1 x 0 z → a + x ≤ 3 → c + z ≤ 1
    → WantsCost f0 (opening file)
early_wants f0 f1 file a c x z so_far wants calls changes =
    let around = opening_around file in
    then_wants f0 f1 a 0 c x 0 z (opening file).calls (opening file).bytes (opening file).changes so_far wants
    (omega (arith, calls, around.least_calls)) (omega arith) (omega (arith, changes, around.least_changes))
