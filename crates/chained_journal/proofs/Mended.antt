-- The one torn end, and what the write of its gate leaves.
use Rattle.std.proofs.Common.{◌≡◌, ◌≢◌, ◌⊎◌, inl, inr, ℕ, ◌<◌, ◌≤◌, ◌^◌, List, ◌++◌, length, take, drop, refl, sym, ◌∙◌, ap, subst, arith, append_assoc, length-append, take-append-drop, Bool}
use Rattle.kept_disk.specs.Disk.{ArisesBy, Holds, Only, Torn}
use Rattle.kept_disk.specs.Moments.{Elapses, LeavesOnly}
use Rattle.kept_journal.proofs.Moments.{goes_on, started}
use Rattle.chained_journal.specs.Appending.{staged_text}
use Rattle.chained_journal.specs.Journal.{IsBeforeOrAfter, IsShort, IsTornEnd, Stands, chained, header_len, journal, open_gate, record_text, records, recovered, shut_gate, start}
use Rattle.chained_journal.specs.Loaded.{IsLoaded, IsOfRecords}
use Rattle.chained_journal.specs.Mending.{IsTornAt, Mends, RefusesMend, TakesAny}
use Rattle.chained_journal.specs.Refusals.{IsBlank, IsNoJournal, IsOfAnother, IsPiece, Refusal}
use Rattle.chained_journal.specs.declared.fault.OpenFault.{OpenFault}
use Rattle.chained_journal.specs.declared.fault.OpenFault.TheVariants as faults
use Rattle.chained_journal.specs.declared.standing.Standing.{Standing}
use Rattle.chained_journal.specs.declared.title.Title.{Title}
use Rattle.chained_journal.specs.declared.title.Witness.{Witness}
use Rattle.chained_journal.proofs.Ended.{gate_unsure, is_unsure, rest_is, same, texts_stand}
use Rattle.chained_journal.proofs.Journals.{gate_stands, open_stands}
use Rattle.std.proofs.lemmas.List.{drop_at}
use Rattle.chained_journal.proofs.Readings.{closed_ends, in_journal, one_reading, unsure_ends}
use Rattle.chained_journal.proofs.Splits.{one_record}
use Rattle.chained_journal.proofs.Pieces.{length-staged, torn_gate, written_gate}

-- ---- what was read

module _ {P : Type 0} (takes : P → List ℕ → Bool → P → Type 0) (first last : P) (title : Title) (witness : Witness) (file : List ℕ) (standing : Standing) (at_witness : List ℕ)
    (sized : length title.header ≡ header_len) (loaded : IsLoaded takes first last title witness.count file standing at_witness) where
  pub is_whole : (behind : List ℕ) → drop standing.end file ≡ shut_gate ++ behind → Stands title (recovered file) file
  is_whole behind shut =
      subst (λ (ts : List (List ℕ)). Stands title ts file)
      (sym (same takes first last title witness file standing at_witness sized loaded behind shut))
      (texts_stand takes first last title witness file standing at_witness sized loaded behind shut)

  -- a whole record stands behind a gate that is not shut
  pub is_torn : ((behind : List ℕ) → drop standing.end file ≢ shut_gate ++ behind)
      → (text : List ℕ) × (length text < 2 ^ 32) × (drop 8 (drop standing.end file) ≡ record_text standing.chain text ++ shut_gate)
      → IsTornAt title file standing.end
  is_torn not_shut end =
      let unsure = gate_unsure takes first last title witness file standing at_witness sized loaded not_shut in
      let rest : drop standing.end file ≡ loaded.rest = rest_is takes first last title witness file standing at_witness sized loaded in
      let behind : drop 8 loaded.rest ≡ record_text (chained (start title) loaded.texts) end.0 ++ shut_gate =
      ap (drop 8) (sym rest) ∙ end.2 ∙ ap (λ (x : List ℕ). record_text x end.0 ++ shut_gate) loaded.chain_is in
      record {
        texts = loaded.texts;
        text = end.0;
        torn = record {
          short = loaded.short;
          fits = end.1;
          gate = take 8 loaded.rest;
          unsure = unsure;
          is = loaded.is ∙ ap (λ (l : List ℕ). journal title loaded.texts l) (sym (take-append-drop 8 loaded.rest) ∙ ap (λ (l : List ℕ). take 8 loaded.rest ++ l) behind);
        };
        place_is = loaded.end_is;
      }

  -- no whole record with a shut gate and no more stands behind a gate that is not shut
  pub is_not_torn : ((behind : List ℕ) → drop standing.end file ≢ shut_gate ++ behind)
      → ((text : List ℕ) → length text < 2 ^ 32 → drop 8 (drop standing.end file) ≢ record_text standing.chain text ++ shut_gate)
      → RefusesMend title file (faults.Unsure standing.end)
  is_not_torn not_shut none = (
    is_unsure takes first last title witness file standing at_witness sized loaded not_shut,
    λ texts text torn.
        let behind : List ℕ = record_text (chained (start title) texts) text ++ shut_gate in
        let one = one_reading (start title) loaded.texts texts loaded.rest (torn.gate ++ behind) loaded.short torn.short loaded.some
        (omega (arith, torn.unsure.size, length-append torn.gate behind))
        (closed_ends (chained (start title) loaded.texts) loaded.rest loaded.not_open) (unsure_ends (chained (start title) texts) torn.gate behind torn.unsure)
        (in_journal title loaded.texts texts loaded.rest (torn.gate ++ behind) file loaded.is torn.is) in
        let rest : drop standing.end file ≡ loaded.rest = rest_is takes first last title witness file standing at_witness sized loaded in
        let back : drop 8 (drop standing.end file) ≡ behind = ap (drop 8) (rest ∙ one.rest) ∙ drop_at torn.gate behind 8 torn.unsure.size in
        let chains : chained (start title) texts ≡ standing.chain = ap (chained (start title)) (sym one.texts) ∙ sym loaded.chain_is in
        none text torn.fits (back ∙ ap (λ (x : List ℕ). record_text x text ++ shut_gate) chains),
  )

-- what refuses a file to a party that takes each text
pub load_refused : {P : Type 0} → (title : Title) (witness : Witness) (first : P) (file : List ℕ) (e : OpenFault) → Refusal TakesAny title witness first file e → IsOfRecords e
    → RefusesMend title file e
load_refused title witness first file faults.NotBegun is from = absurd from
load_refused title witness first file faults.NotJournal is from = absurd from
load_refused title witness first file faults.NotOwn is from = absurd from
load_refused title witness first file (faults.Damaged place) is from = is
load_refused title witness first file (faults.Unsure place) is from = absurd from
load_refused title witness first file (faults.NotTaken place) is from = is.stuck is.party refl
load_refused title witness first file (faults.Older count) is from = absurd from
load_refused title witness first file faults.Memory is from = tt
load_refused title witness first file faults.DiskFault is from = absurd from

pub header_unmended : (title : Title) (file : List ℕ) (e : OpenFault)
    → ((e ≡ faults.NotBegun) × IsBlank file) ⊎ (((e ≡ faults.Damaged 0) × IsPiece file) ⊎ (((e ≡ faults.NotJournal) × IsNoJournal title file) ⊎ ((e ≡ faults.NotOwn) × IsOfAnother title file)))
    → RefusesMend title file e
header_unmended title file e (inl is) = subst (RefusesMend title file) (sym is.0) is.1
header_unmended title file e (inr (inl is)) = subst (RefusesMend title file) (sym is.0) (inl (refl, is.1))
header_unmended title file e (inr (inr (inl is))) = subst (RefusesMend title file) (sym is.0) is.1
header_unmended title file e (inr (inr (inr is))) = subst (RefusesMend title file) (sym is.0) is.1

-- ---- a whole end

pub not_whole_end : (chain bytes text found behind : List ℕ) → IsShort found → bytes ≡ record_text chain found ++ behind → IsShort text
    → bytes ≡ record_text chain text ++ shut_gate → behind ≡ shut_gate
not_whole_end chain bytes text found behind fits is short other = (one_record chain found text behind shut_gate fits short (sym is ∙ other)).rest

-- ---- the calls

module _ {D : Type 0} (seen : D → List ℕ) (may_leave : D → List ℕ → Type 0) (moment : D → ℕ) (left_since : D → ℕ → List ℕ → Type 0)
    (only_now : (d : D) (c : List ℕ) → left_since d (moment d) c → may_leave d c) (title : Title) (place : ℕ) (d0 : D)
    (sized : length title.header ≡ header_len) (at : IsTornAt title (seen d0) place) (only : Only (seen d0) (may_leave d0)) where
  abbrev P : List ℕ → Type 0
  P c = (texts : List (List ℕ)) × (text : List ℕ) × IsTornEnd title texts text (seen d0) × IsBeforeOrAfter title texts text c

  abbrev front : List ℕ
  front = title.header ++ records (start title) at.texts

  abbrev staged : List ℕ
  staged = staged_text (chained (start title) at.texts) at.text

  size : length front ≡ place
  size = omega (arith, sized, at.place_is, length-append title.header (records (start title) at.texts))

  front-is : seen d0 ≡ front ++ (at.torn.gate ++ staged)
  front-is = at.torn.is ∙ sym (append_assoc title.header (records (start title) at.texts) (at.torn.gate ++ staged))

  at_start : LeavesOnly moment left_since d0 d0 P
  at_start = started moment left_since d0 P (λ c left.
      (at.texts, at.text, at.torn, inr (inr (subst (λ (f : List ℕ). IsTornEnd title at.texts at.text f) (sym (only c (only_now d0 c left))) at.torn))))

  stands_opened : (d1 : D) → ArisesBy (Torn place 8) (may_leave d0) (may_leave d1) → (c : List ℕ) → may_leave d1 c → P c
  stands_opened d1 follows c left =
      let from = follows c left in
      let torn = subst (λ (f : List ℕ). Torn place 8 f c) (only from.0 from.1 ∙ front-is) from.2 in
      let is = torn_gate front at.torn.gate place size at.torn.unsure.size staged c torn in
      (at.texts, at.text, at.torn, gate_stands title at.texts at.torn.short at.text at.torn.fits (take 8 (drop place c)) c is.1 is.0)

  pub first_mended : (d1 : D) → ArisesBy (Torn place 8) (may_leave d0) (may_leave d1)
      → Elapses (moment d0) (moment d1) (left_since d0) (left_since d1) (may_leave d1) → LeavesOnly moment left_since d0 d1 P
  first_mended d1 follows time = goes_on moment left_since d0 d0 d1 P (may_leave d1) at_start time (stands_opened d1 follows)

  pub second_mended : (d1 d2 : D) → LeavesOnly moment left_since d0 d1 P → ArisesBy (Torn place 8) (may_leave d0) (may_leave d1)
      → ((c : List ℕ) → may_leave d2 c → may_leave d1 c) → Elapses (moment d1) (moment d2) (left_since d1) (left_since d2) (may_leave d2)
      → LeavesOnly moment left_since d0 d2 P
  second_mended d1 d2 so_far follows crash time =
      goes_on moment left_since d0 d1 d2 P (may_leave d2) so_far time (λ c now. stands_opened d1 follows c (crash c now))

  pub place_within : place ≤ length (seen d0)
  place_within = omega (arith, ap length front-is, length-staged front at.torn.gate place size at.torn.unsure.size staged)

  pub is_mended : (new : List ℕ) → Holds (seen d0) place open_gate new → Mends title (seen d0) new
  is_mended new holds =
      let opened : new ≡ front ++ (open_gate ++ staged) =
      written_gate front at.torn.gate place size at.torn.unsure.size staged open_gate new refl (subst (λ (f : List ℕ). Holds f place open_gate new) front-is holds) in
      inr (at.texts, at.text, at.torn, open_stands title at.texts at.torn.short at.text at.torn.fits new opened)
