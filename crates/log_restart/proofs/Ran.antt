-- What the two runs of a log that restarts leave.
use Rattle.std.proofs.Common.{◌≡◌, ◌⊎◌, inl, inr, ℕ, ◌+◌, ◌-◌, ◌*◌, ◌<◌, ◌≤◌, Bool, true, false, List, [], ◌++◌, length, take, drop, refl, sym, ◌∙◌, ap, subst, arith, length-drop, Option, None, Some}
use Rattle.std.specs.Prelude.{IfSome}
use Rattle.std.specs.Option.{option_map}
use Rattle.std.proofs.Math.Seq.{take-length}
use Rattle.std.proofs.lemmas.List.{length-take-le, take-append-drop, take_all}
use Rattle.std.proofs.lemmas.List.Sums.{sum_by-take-le}
use Rattle.ar_base.specs.Faults.{HasRisen}
use Rattle.kept_disk.specs.Fuel.{Fuel}
use Rattle.kept_disk.specs.Memory.{DiskState, synced}
use Rattle.kept_journal.specs.Appending.{WantsAll}
use Rattle.kept_journal.specs.Journal.{Stands, recovered}
use Rattle.kept_journal.specs.Opening.{SpendsCost, WantsCost, opening}
use Rattle.kept_journal.specs.Replays.{ReachesBy}
use Rattle.kept_journal.proofs.Costs.{opening_around}
use Rattle.kept_journal.proofs.Rereading.{stands_recovered}
use Rattle.log_journal.specs.Inputs.{mark}
use Rattle.log_journal.specs.Kept.{KeptParts}
use Rattle.log_journal.specs.Steps.{LogStanding, standing_of, takes}
use Rattle.log_core.specs.declared.step.LogInput.{LogInput}
use Rattle.log_restart.specs.Inputs.{record_cost, records_cost, texts_of, total_len}
use Rattle.log_restart.specs.Restarted.{IsOpened, RanFirst, StandsNext, recovered_of}
use Rattle.log_restart.specs.Running.{FailedAt, TookAll}
use Rattle.log_restart.proofs.Costs.{records_total}
use Rattle.log_restart.proofs.Replaying.{front_replays, rest_replays}

-- ---- a disk in memory

abbrev pub seen : DiskState → List ℕ
seen d = d.seen

abbrev pub held : DiskState → List ℕ
held d = synced d.seen d.events

abbrev pub fuel : DiskState → Option Fuel
fuel d = Some d.fuel

abbrev pub faults : DiskState → ℕ
faults d = d.faults

same-number : (a b : ℕ) → Some a ≡ Some b → a ≡ b
same-number a b e = cc

same-fuel : (a b : Fuel) → Some a ≡ Some b → a ≡ b
same-fuel a b e = cc

-- ---- room

-- A log has room for these texts, of which so many calls pass, where that has an end.
pub record HasRoom (texts : List (List ℕ)) (fuse : Option ℕ) (kept : KeptParts DiskState) : Type 0 where
  pub fused : kept.journal.disk.fuel.fuse ≡ fuse
  pub room : records_cost texts ≤ kept.journal.disk.fuel.room
  pub changes : 4 * length texts ≤ kept.journal.disk.fuel.changes

-- where the disk failed the fuse was at its end
too-few : (texts : List (List ℕ)) (fuse : Option ℕ) (old : KeptParts DiskState) (many : ℕ) → HasRoom texts fuse old → many < length texts
    → WantsAll (Some old.journal.disk.fuel) (4 * (many + 1)) (records_cost (take (many + 1) texts)) (4 * (many + 1))
    → (k : ℕ) × (fuse ≡ Some k) × (k < 4 * (many + 1))
too-few texts fuse old many has within (inl short) = (short.0, sym has.fused ∙ short.1, short.2)
too-few texts fuse old many has within (inr (inl room)) = absurd (omega (arith, room, has.room, sum_by-take-le record_cost texts (many + 1)))
too-few texts fuse old many has within (inr (inr few)) = absurd (omega (arith, few, has.changes, within))

module _ (texts : List (List ℕ)) (old new : KeptParts DiskState) where
  -- without an end it does not fail
  pub never_fails : HasRoom texts None old → FailedAt seen held fuel faults old new texts → ⊥
  never_fails has failed =
      let short = too-few texts None old failed.many has failed.some_left failed.wanting in
      let never : None ≡ Some short.0 = short.1 in absurd cc

  module _ (calls : ℕ) (has : HasRoom texts (Some calls) old) (empty : old.journal.texts ≡ []) (none : old.journal.disk.faults ≡ 0) where
    all-texts : (ts : List (List ℕ)) → old.journal.texts ++ ts ≡ ts
    all-texts ts = ap (λ (front : List (List ℕ)). front ++ ts) empty

    enough : (many : ℕ) → IfSome old.journal.disk.fuel.fuse (λ k. 4 * many ≤ k) → 4 * many ≤ calls
    enough many some = subst (λ (o : Option ℕ). IfSome o (λ k. 4 * many ≤ k)) has.fused some

    ran-whole : TookAll seen held fuel faults old new texts → RanFirst texts calls new.journal.disk
    ran-whole all =
        let passed : 4 * length texts ≤ calls = enough (length texts) all.took.spent.0 in
        let many : recovered_of (length texts) calls ≡ length texts = omega (arith, passed) in
        let faultless : new.journal.disk.faults ≡ 0 = all.took.uncounted ∙ none in
        record {
          lost = subst (λ (ts : List (List ℕ)). Stands mark ts (held new.journal.disk))
              (all-texts texts ∙ sym (ap (λ (n : ℕ). take n texts) many ∙ take-length texts)) all.kept;
          kept = inl (subst (λ (ts : List (List ℕ)). Stands mark ts (seen new.journal.disk))
              (all-texts texts ∙ sym (ap (λ (n : ℕ). take n texts) many ∙ take-length texts)) all.whole);
          failed = (λ some. absurd (omega (arith, some, faultless)), λ few. absurd (omega (arith, few, passed)));
        }

    rose : HasRisen old.journal.disk.faults new.journal.disk.faults → 0 < new.journal.disk.faults
    rose (inl more) = omega (arith, more)
    rose (inr most) = omega (arith, most)

    given-next : (many : ℕ) → recovered_of (length texts) calls ≡ many → Stands mark (old.journal.texts ++ take many texts) (seen new.journal.disk)
        ⊎ Stands mark (old.journal.texts ++ take (many + 1) texts) (seen new.journal.disk) → StandsNext (recovered_of (length texts) calls) texts (seen new.journal.disk)
    given-next many is (inl stands) =
        inl (subst (λ (ts : List (List ℕ)). Stands mark ts (seen new.journal.disk)) (all-texts (take many texts) ∙ sym (ap (λ (n : ℕ). take n texts) is)) stands)
    given-next many is (inr stands) =
        inr (subst (λ (ts : List (List ℕ)). Stands mark ts (seen new.journal.disk)) (all-texts (take (many + 1) texts) ∙ sym (ap (λ (n : ℕ). take (n + 1) texts) is)) stands)

    ran-stopped : FailedAt seen held fuel faults old new texts → RanFirst texts calls new.journal.disk
    ran-stopped at =
        let passed : 4 * at.many ≤ calls = enough at.many at.spent.0 in
        let short = too-few texts (Some calls) old at.many has at.some_left at.wanting in
        let is : calls ≡ short.0 = same-number calls short.0 short.1 in
        let few : calls < 4 * (at.many + 1) = omega (arith, is, short.2) in
        let many : recovered_of (length texts) calls ≡ at.many = omega (arith, passed, few, at.some_left) in
        record {
          lost = subst (λ (ts : List (List ℕ)). Stands mark ts (held new.journal.disk))
              (all-texts (take at.many texts) ∙ sym (ap (λ (n : ℕ). take n texts) many)) at.kept;
          kept = given-next at.many many at.given;
          failed = (λ some. omega (arith, few, at.some_left), λ less. rose at.risen);
        }

    -- the first run
    pub ran_first : (whole : Bool) → (whole ≡ true → TookAll seen held fuel faults old new texts) → (whole ≡ false → FailedAt seen held fuel faults old new texts)
        → RanFirst texts calls new.journal.disk
    ran_first true all at = ran-whole (all refl)
    ran_first false all at = ran-stopped (at refl)

-- ---- opening

-- with no fuse, and room for what opening takes, it does not fail
pub opens : (first disk : DiskState) (bytes changes : ℕ) → disk.seen ≡ first.seen → disk.fuel.fuse ≡ first.fuel.fuse → first.fuel.fuse ≡ None
    → length first.seen + 9 + bytes ≤ disk.fuel.room → changes + 3 ≤ disk.fuel.changes → ¬ WantsCost (Some disk.fuel) (opening disk.seen)
opens first disk bytes changes same fuse unlimited room few (inl short) = let never : None ≡ Some short.0 = sym (fuse ∙ unlimited) ∙ short.1 in absurd cc
opens first disk bytes changes same fuse unlimited room few (inr (inl small)) =
    absurd (omega (arith, small, room, (opening_around disk.seen).bytes, ap (λ (file : List ℕ). length file) same))
opens first disk bytes changes same fuse unlimited room few (inr (inr less)) = absurd (omega (arith, less, few, (opening_around disk.seen).changes))

-- and leaves the rest of the room
pub opened : (new : LogStanding) (bytes changes : ℕ) (first disk : DiskState) (kept : KeptParts DiskState)
    → disk.seen ≡ first.seen → disk.fuel.fuse ≡ first.fuel.fuse → disk.faults ≡ first.faults → first.fuel.fuse ≡ None
    → length first.seen + 9 + bytes ≤ disk.fuel.room → changes + 3 ≤ disk.fuel.changes
    → (kept.journal.texts ≡ recovered disk.seen) × (kept.journal.count ≡ length (recovered disk.seen)) × (kept.journal.stopped ≡ false)
    → ReachesBy takes new (recovered disk.seen) (standing_of kept.log)
    → SpendsCost (Some disk.fuel) (Some kept.journal.disk.fuel) (opening disk.seen) → kept.journal.disk.faults ≡ disk.faults
    → IsOpened new (recovered first.seen) bytes changes first kept
opened new bytes changes first disk kept same fuse faultless unlimited room few journal became spends uncounted =
    let is = same-fuel kept.journal.disk.fuel _ spends.3 in
    let around = opening_around disk.seen in
    record {
      going = journal.2;
      stand = journal.0 ∙ ap recovered same;
      counts = journal.1 ∙ ap (λ (file : List ℕ). length (recovered file)) same;
      became = subst (λ (file : List ℕ). ReachesBy takes new (recovered file) (standing_of kept.log)) same became;
      unlimited = ap (λ (f : Fuel). f.fuse) is ∙ ap (λ (o : Option ℕ). option_map (λ k. k - (opening disk.seen).calls) o) (fuse ∙ unlimited);
      room = omega (arith, ap (λ (f : Fuel). f.room) is, room, around.bytes, ap (λ (file : List ℕ). length file) same);
      changes = omega (arith, ap (λ (f : Fuel). f.changes) is, few, around.changes);
      uncounted = uncounted ∙ faultless;
    }

-- what an open log has room for
pub has_room : (texts : List (List ℕ)) (total many : ℕ) (new : LogStanding) (before : List (List ℕ)) (disk : DiskState) (kept : KeptParts DiskState)
    → IsOpened new before (total + 6 * many) (4 * many) disk kept → total_len texts ≤ total → length texts ≤ many
    → HasRoom texts None kept
has_room texts total many new before disk kept is within few = record {
  fused = is.unlimited;
  room = omega (arith, is.room, records_total texts, within, few);
  changes = omega (arith, is.changes, few);
}

-- a part up to the end is all of it
pub rest-whole : (list : List LogInput) (from : ℕ) → texts_of (take (length list - from) (drop from list)) ≡ texts_of (drop from list)
rest-whole list from = ap texts_of (take_all (length list - from) (drop from list) (omega (arith, length-drop from list)))

-- ---- what was lost

module _ (texts : List (List ℕ)) (many : ℕ) (image : List ℕ) (within : many ≤ length texts) (stands : Stands mark (take many texts) image) where
  pub lost_is : recovered image ≡ take many texts
  lost_is = stands_recovered mark image (take many texts) refl stands

  pub lost_stands : Stands mark (recovered image) image
  lost_stands = subst (λ (ts : List (List ℕ)). Stands mark ts image) (sym lost_is) stands

  pub lost_counts : length (recovered image) ≡ many
  lost_counts = ap length lost_is ∙ length-take-le many texts within

  module _ (new last : LogStanding) (all : ReachesBy takes new texts last) where
    split-all : ReachesBy takes new (take many texts ++ drop many texts) last
    split-all = subst (λ (ts : List (List ℕ)). ReachesBy takes new ts last) (sym (take-append-drop many texts)) all

    pub lost_replays : (here : LogStanding) × ReachesBy takes new (recovered image) here
    lost_replays =
        let front = front_replays new last (take many texts) (drop many texts) split-all in
        (front.0, subst (λ (ts : List (List ℕ)). ReachesBy takes new ts front.0) (sym lost_is) front.1)

    pub rest_of : (here : LogStanding) → ReachesBy takes new (recovered image) here → ReachesBy takes here (drop many texts) last
    rest_of here became =
        rest_replays new here last (take many texts) (drop many texts) split-all (subst (λ (ts : List (List ℕ)). ReachesBy takes new ts here) lost_is became)
