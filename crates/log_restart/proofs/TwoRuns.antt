-- The two runs of a log, one behind the other.
use Rattle.std.proofs.Common.{◌≡◌, inl, ℕ, ◌+◌, ◌*◌, ◌≤◌, Bool, true, false, List, [], ◌++◌, length, take, drop, refl, sym, ◌∙◌, ap, subst, arith, length-drop, None, Some}
use Rattle.std.proofs.lemmas.List.{drop-map, length-map, take-append-drop}
use Rattle.std.proofs.lemmas.List.Sums.{sum_by-take-drop}
use Rattle.kept_disk.specs.Memory.{DiskState, fresh_disk}
use Rattle.kept_journal.specs.Fused.{with_fuse}
use Rattle.kept_journal.specs.Journal.{Stands, recovered}
use Rattle.kept_journal.specs.Replays.{ReachesBy}
use Rattle.kept_journal.specs.Settled.{JournalParts}
use Rattle.log_core.specs.Keyed.{KeyedLogParts}
use Rattle.log_core.specs.declared.step.LogInput.{LogInput}
use Rattle.log_journal.specs.Inputs.{mark}
use Rattle.log_journal.specs.Kept.{KeptParts}
use Rattle.log_journal.specs.Steps.{LogStanding, new_standing, standing_of, takes}
use Rattle.lms_tree.specs.KeyParts.{KeyParts}
use Rattle.party_keys.specs.Directory.{Directory}
use Rattle.log_restart.specs.Inputs.{text_of, texts_of, total_len}
use Rattle.key_roll.specs.Book.{RollBook}
use Rattle.log_restart.specs.Restarted.{IsOpened, RanFirst, new_log_of, recovered_of, told_of}
use Rattle.log_restart.specs.Running.{FailedAt, TookAll}
use Rattle.log_restart.specs.declared.beginning.Beginning.{Beginning}
use Rattle.log_restart.specs.declared.told.RestartReport.{RestartReport}
use Rattle.log_restart.proofs.Ran.{HasRoom, faults, fuel, has_room, held, lost_counts, lost_is, lost_replays, lost_stands, ran_first, rest_of, seen}
use Rattle.log_restart.proofs.Replaying.{one_last}

-- ---- the first run

module _ (disk : DiskState) (empty : disk ≡ fresh_disk []) (new : LogStanding) where
  pub empty_stands : Stands mark (recovered disk.seen) disk.seen
  empty_stands = subst (λ (d : DiskState). Stands mark (recovered d.seen) d.seen) (sym empty) (tt, inl (omega arith, refl))

  pub empty_replays : (last : LogStanding) × ReachesBy takes new (recovered disk.seen) last
  empty_replays = (new, subst (λ (d : DiskState). ReachesBy takes new (recovered d.seen) new) (sym empty) refl)

  pub begun : (here : LogStanding) → ReachesBy takes new (recovered disk.seen) here → here ≡ new
  begun here became = subst (λ (d : DiskState). ReachesBy takes new (recovered d.seen) here) empty became

  module _ (texts : List (List ℕ)) (total many calls : ℕ) (kept old : KeptParts DiskState) (is : IsOpened new (recovered disk.seen) (total + 6 * many) (4 * many) disk kept)
      (total_is : total ≡ total_len texts) (many_is : many ≡ length texts) (log : old.log ≡ kept.log) (journal : old.journal ≡ with_fuse kept.journal calls) where
    pub fused_going : old.journal.stopped ≡ false
    fused_going = ap (λ (j : JournalParts DiskState). j.stopped) journal ∙ is.going

    pub fused_replays : (last : LogStanding) → ReachesBy takes new texts last → ReachesBy takes (standing_of old.log) texts last
    fused_replays last replays =
        subst (λ (s : LogStanding). ReachesBy takes s texts last) (sym (ap (λ (l : KeyedLogParts). standing_of l) log ∙ begun (standing_of kept.log) is.became)) replays

    fused-room : HasRoom texts (Some calls) old
    fused-room =
        let has = has_room texts total many new (recovered disk.seen) disk kept is (omega (arith, total_is)) (omega (arith, many_is)) in
        record {
          fused = ap (λ (j : JournalParts DiskState). j.disk.fuel.fuse) journal;
          room = omega (arith, has.room, ap (λ (j : JournalParts DiskState). j.disk.fuel.room) journal);
          changes = omega (arith, has.changes, ap (λ (j : JournalParts DiskState). j.disk.fuel.changes) journal);
        }

    pub runs_first : (later : KeptParts DiskState) (whole : Bool) → (whole ≡ true → TookAll seen held fuel faults old later texts)
        → (whole ≡ false → FailedAt seen held fuel faults old later texts) → RanFirst texts calls later.journal.disk
    runs_first later whole all at =
        ran_first texts old later calls fused-room
        (ap (λ (j : JournalParts DiskState). j.texts) journal ∙ is.stand ∙ ap (λ (d : DiskState). recovered d.seen) empty)
        (ap (λ (j : JournalParts DiskState). j.disk.faults) journal ∙ is.uncounted ∙ ap (λ (d : DiskState). d.faults) empty)
        whole all at

-- ---- the second run

module _ (inputs : List LogInput) (many : ℕ) (lost : DiskState) (image : List ℕ) (within : many ≤ length inputs) (is_lost : lost ≡ fresh_disk image)
    (stands : Stands mark (take many (texts_of inputs)) image) (new : LogStanding) where
  within-texts : many ≤ length (texts_of inputs)
  within-texts = omega (arith, within, length-map inputs text_of)

  here-stands : Stands mark (take many (texts_of inputs)) lost.seen
  here-stands = subst (λ (d : DiskState). Stands mark (take many (texts_of inputs)) d.seen) (sym is_lost) stands

  pub found_stands : Stands mark (recovered lost.seen) lost.seen
  found_stands = lost_stands (texts_of inputs) many lost.seen within-texts here-stands

  pub found_replays : (last : LogStanding) → ReachesBy takes new (texts_of inputs) last → (here : LogStanding) × ReachesBy takes new (recovered lost.seen) here
  found_replays last all = lost_replays (texts_of inputs) many lost.seen within-texts here-stands new last all

  pub found_unlimited : lost.fuel.fuse ≡ None
  found_unlimited = ap (λ (d : DiskState). d.fuel.fuse) is_lost

  pub found_counts : (bytes changes : ℕ) (kept : KeptParts DiskState) → IsOpened new (recovered lost.seen) bytes changes lost kept → kept.journal.count ≡ many
  found_counts bytes changes kept is = is.counts ∙ lost_counts (texts_of inputs) many lost.seen within-texts here-stands

  -- the inputs that are left
  rest-texts : texts_of (drop many inputs) ≡ drop many (texts_of inputs)
  rest-texts = sym (drop-map text_of many inputs)

  module _ (total : ℕ) (total_is : total ≡ total_len (texts_of inputs))
      (kept : KeptParts DiskState) (is : IsOpened new (recovered lost.seen) (total + 6 * length inputs) (4 * length inputs) lost kept) where
    pub rest_replays_on : (last : LogStanding) → ReachesBy takes new (texts_of inputs) last → ReachesBy takes (standing_of kept.log) (texts_of (drop many inputs)) last
    rest_replays_on last all =
        subst (λ (ts : List (List ℕ)). ReachesBy takes (standing_of kept.log) ts last) (sym rest-texts)
        (rest_of (texts_of inputs) many lost.seen within-texts here-stands new last all (standing_of kept.log) is.became)

    few-left : length (texts_of (drop many inputs)) ≤ length inputs
    few-left = omega (arith, length-map (drop many inputs) text_of, length-drop many inputs)

    small-left : total_len (texts_of (drop many inputs)) ≤ total
    small-left = omega (arith, total_is, ap total_len rest-texts, sum_by-take-drop (λ (t : List ℕ). length t) (texts_of inputs) many)

    pub rest_room : HasRoom (texts_of (drop many inputs)) None kept
    rest_room = has_room (texts_of (drop many inputs)) total (length inputs) new (recovered lost.seen) lost kept is small-left few-left

    -- the texts for which its file stands, in the end
    pub all_stand : (file : List ℕ) → Stands mark (kept.journal.texts ++ texts_of (drop many inputs)) file → Stands mark (texts_of inputs) file
    all_stand file stands_then =
        subst (λ (ts : List (List ℕ)). Stands mark ts file)
        (ap (λ (ts : List (List ℕ)). ts ++ texts_of (drop many inputs)) (is.stand ∙ lost_is (texts_of inputs) many lost.seen within-texts here-stands)
        ∙ ap (λ (ts : List (List ℕ)). take many (texts_of inputs) ++ ts) rest-texts
        ∙ take-append-drop many (texts_of inputs))
        stands_then

    -- where it stands, in the end
    pub last_is : (last later : LogStanding) → ReachesBy takes new (texts_of inputs) last → ReachesBy takes (standing_of kept.log) (texts_of (drop many inputs)) later → later ≡ last
    last_is last later all took = one_last (standing_of kept.log) later last (texts_of (drop many inputs)) took (rest_replays_on last all)

-- what is told, by what it comes to
pub told_same : (told : RestartReport) (recovered many inputs all : ℕ) (book last : RollBook) → told ≡ told_of recovered inputs book → recovered ≡ many → inputs ≡ all → book ≡ last
    → told ≡ told_of many all last
told_same told recovered many inputs all book last tells is_many is_all is_last =
    tells ∙ ap (λ (n : ℕ). told_of n inputs book) is_many ∙ ap (λ (n : ℕ). told_of many n book) is_all ∙ ap (λ (b : RollBook). told_of many all b) is_last

-- two beginnings that are one
pub same_new : (number : ℕ) (again first : Beginning) → (again.directory ≡ first.directory) × (again.key ≡ first.key) → new_log_of number again ≡ new_log_of number first
same_new number again first same =
    ap (λ (d : Directory). new_standing number d again.key) same.0 ∙ ap (λ (k : KeyParts). new_standing number first.directory k) same.1

-- how many are recovered
pub few_recovered : (inputs : List LogInput) (calls : ℕ) → recovered_of (length (texts_of inputs)) calls ≤ length inputs
few_recovered inputs calls = omega (arith, length-map inputs text_of)
