-- What each call of a disk in memory owes to each disk.
use Rattle.std.proofs.Common.{◌≡◌, ℕ, ◌≤◌, List, [], length, drop, Result, Ok, Err, refl, sym, ap, subst}
use Rattle.kept_disk.specs.Disk.{Cut, ArisesBy, Torn}
use Rattle.kept_disk.specs.Memory.{Becomes, DiskState, LeftSince, MayLeave, after_cut, after_look, after_sync, after_write, over_at, synced}
use Rattle.kept_disk.specs.MemoryLaws.{cut-none, left-now, torn-none}
use Rattle.kept_disk.specs.Moments.{Elapses}
use Rattle.kept_disk.specs.declared.past.DiskChange.TheVariants as changes
use Rattle.kept_disk.proofs.Changed.{cut-crash, cut-undone, write-crash, write-undone}
use Rattle.kept_disk.proofs.Events.{elapses-event, elapses-look}

-- time goes on from the one disk to the other
abbrev Passes : DiskState → DiskState → Type 0
Passes s new = Elapses (length s.events) (length new.events) (LeftSince s.seen s.events) (LeftSince new.seen new.events) (MayLeave new.seen new.events)

-- what a crash leaves now is what it left before, after this step
abbrev Crashes : (List ℕ → List ℕ → Type 0) → DiskState → DiskState → Type 0
Crashes step s new = ArisesBy step (MayLeave s.seen s.events) (MayLeave new.seen new.events)

-- what a crash leaves now it left before
abbrev Shrinks : DiskState → DiskState → Type 0
Shrinks s new = (c : List ℕ) → MayLeave new.seen new.events c → MayLeave s.seen s.events c

abbrev Holds : DiskState → List ℕ → Type 0
Holds s file = synced s.seen s.events ≡ file

module _ {A E : Type 0} (result : Result A E) (s new : DiskState) where
  pub look-passes : Becomes result s (after_look s) new 0 0 → Passes s new
  look-passes became = by result became
    where
      by : (r : Result A E) → Becomes r s (after_look s) new 0 0 → Passes s new
      by (Ok _) b = subst (Passes s) (sym b.1) (elapses-look s.seen s.events)
      by (Err _) b = subst (Passes s) (sym b.1) (elapses-look s.seen s.events)

  pub look-shrinks : Becomes result s (after_look s) new 0 0 → Shrinks s new
  look-shrinks became = by result became
    where
      by : (r : Result A E) → Becomes r s (after_look s) new 0 0 → Shrinks s new
      by (Ok _) b = subst (Shrinks s) (sym b.1) (λ c left. left)
      by (Err _) b = subst (Shrinks s) (sym b.1) (λ c left. left)

  pub look-holds : Becomes result s (after_look s) new 0 0 → Holds new (synced s.seen s.events)
  look-holds became = by result became
    where
      by : (r : Result A E) → Becomes r s (after_look s) new 0 0 → Holds new (synced s.seen s.events)
      by (Ok _) b = subst (λ (d : DiskState). Holds d (synced s.seen s.events)) (sym b.1) refl
      by (Err _) b = subst (λ (d : DiskState). Holds d (synced s.seen s.events)) (sym b.1) refl

  module _ (at : ℕ) (bytes : List ℕ) (inside : at ≤ length s.seen) where
    abbrev IsPut : Result A E → Type 0
    IsPut r = Becomes r s (after_write s at bytes) new (length bytes) 1

    over : ℕ
    over = length (over_at s.seen at (length bytes))

    pub write-passes : IsPut result → Passes s new
    write-passes became = by result became
      where
        by : (r : Result A E) → IsPut r → Passes s new
        by (Ok _) b = subst (Passes s) (sym b.1) (elapses-event s.seen (after_write s at bytes).seen s.events
            (changes.Wrote at (length bytes) over, over_at s.seen at (length bytes)) (write-undone s.seen at bytes inside over))
        by (Err _) b = subst (Passes s) (sym b.1) (elapses-look s.seen s.events)

    pub write-crashes : IsPut result → Crashes (Torn at (length bytes)) s new
    write-crashes became = by result became
      where
        by : (r : Result A E) → IsPut r → Crashes (Torn at (length bytes)) s new
        by (Ok _) b = subst (Crashes (Torn at (length bytes)) s) (sym b.1) (write-crash s.seen at bytes inside s.events over)
        by (Err _) b = subst (Crashes (Torn at (length bytes)) s) (sym b.1) (λ c left. (c, left, torn-none at (length bytes) c))

    pub write-holds : IsPut result → Holds new (synced s.seen s.events)
    write-holds became = by result became
      where
        by : (r : Result A E) → IsPut r → Holds new (synced s.seen s.events)
        by (Ok _) b = subst (λ (d : DiskState). Holds d (synced s.seen s.events)) (sym b.1)
            (ap (λ (f : List ℕ). synced f s.events) (write-undone s.seen at bytes inside over))
        by (Err _) b = subst (λ (d : DiskState). Holds d (synced s.seen s.events)) (sym b.1) refl

  module _ (len : ℕ) (inside : len ≤ length s.seen) where
    abbrev IsShort : Result A E → ℕ → Type 0
    IsShort r bytes = Becomes r s (after_cut s len) new bytes 1

    pub cut-passes : (bytes : ℕ) → IsShort result bytes → Passes s new
    cut-passes bytes became = by result became
      where
        by : (r : Result A E) → IsShort r bytes → Passes s new
        by (Ok _) b = subst (Passes s) (sym b.1) (elapses-event s.seen (after_cut s len).seen s.events (changes.Cut (length (drop len s.seen)), drop len s.seen) (cut-undone s.seen len inside))
        by (Err _) b = subst (Passes s) (sym b.1) (elapses-look s.seen s.events)

    pub cut-crashes : (bytes : ℕ) → IsShort result bytes → Crashes (Cut len) s new
    cut-crashes bytes became = by result became
      where
        by : (r : Result A E) → IsShort r bytes → Crashes (Cut len) s new
        by (Ok _) b = subst (Crashes (Cut len) s) (sym b.1) (cut-crash s.seen len inside s.events)
        by (Err _) b = subst (Crashes (Cut len) s) (sym b.1) (λ c left. (c, left, cut-none len c))

    pub cut-holds : (bytes : ℕ) → IsShort result bytes → Holds new (synced s.seen s.events)
    cut-holds bytes became = by result became
      where
        by : (r : Result A E) → IsShort r bytes → Holds new (synced s.seen s.events)
        by (Ok _) b = subst (λ (d : DiskState). Holds d (synced s.seen s.events)) (sym b.1)
            (ap (λ (f : List ℕ). synced f s.events) (cut-undone s.seen len inside))
        by (Err _) b = subst (λ (d : DiskState). Holds d (synced s.seen s.events)) (sym b.1) refl

  abbrev IsKept : Result A E → Type 0
  IsKept r = Becomes r s (after_sync s) new 0 1

  pub sync-passes : IsKept result → Passes s new
  sync-passes became = by result became
    where
      by : (r : Result A E) → IsKept r → Passes s new
      by (Ok _) b = subst (Passes s) (sym b.1) (elapses-event s.seen s.seen s.events (changes.Synced, []) refl)
      by (Err _) b = subst (Passes s) (sym b.1) (elapses-look s.seen s.events)

  pub sync-shrinks : IsKept result → Shrinks s new
  sync-shrinks became = by result became
    where
      by : (r : Result A E) → IsKept r → Shrinks s new
      by (Ok _) b = subst (Shrinks s) (sym b.1) (λ c left. subst (MayLeave s.seen s.events) (sym left) (left-now s.seen s.events))
      by (Err _) b = subst (Shrinks s) (sym b.1) (λ c left. left)
