-- The calls of an append, one behind the other: what a crash leaves at each, and what stands at the end.
use Rattle.std.proofs.Common.{◌≡◌, inl, ℕ, ◌+◌, ◌<◌, ◌≤◌, ◌^◌, List, [], ◌∷◌, ◌++◌, length, take, drop, refl, sym, ◌∙◌, ap, subst, arith, append_assoc, length-append}
use Rattle.kept_disk.specs.Disk.{ArisesBy, Holds, Only, Torn}
use Rattle.kept_disk.specs.Moments.{Elapses, LeavesOnly}
use Rattle.kept_journal.proofs.Moments.{goes_on, started}
use Rattle.chained_journal.specs.Appending.{staged_text}
use Rattle.chained_journal.specs.Journal.{AreShort, IsBeforeOrAfter, IsShort, Stands, chained, journal, link, open_gate, records, recovered, shut_gate, start}
use Rattle.chained_journal.specs.Settled.{IsSettled}
use Rattle.chained_journal.specs.declared.title.Title.{Title}
use Rattle.chained_journal.proofs.Journals.{chained-push, gate_stands, more-is, short-push, shut_stands}
use Rattle.chained_journal.proofs.Pieces.{length-staged, torn_behind, torn_gate, written_behind, written_gate}
use Rattle.chained_journal.proofs.Rereading.{fewer, journal-length, journal_recovered}

-- there are fewer texts than bytes
pub few_settled : (title : Title) (end count : ℕ) (chain seen : List ℕ) (may_leave : List ℕ → Type 0) → IsSettled title end count chain seen may_leave → count < 2 ^ 64
few_settled title end count chain seen may_leave s =
    omega (arith, s.counts, fewer (start title) (recovered seen), ap length s.is, journal-length title (recovered seen) shut_gate s.titled, s.last, s.within)

module _ {D : Type 0} (seen : D → List ℕ) (may_leave : D → List ℕ → Type 0) (moment : D → ℕ) (left_since : D → ℕ → List ℕ → Type 0)
    (only_now : (d : D) (c : List ℕ) → left_since d (moment d) c → may_leave d c) (title : Title) (end count : ℕ) (chain bytes : List ℕ)
    (d0 : D) (s : IsSettled title end count chain (seen d0) (may_leave d0)) where
  abbrev texts : List (List ℕ)
  texts = recovered (seen d0)

  abbrev front : List ℕ
  front = title.header ++ records (start title) texts

  rest-is : seen d0 ≡ front ++ shut_gate
  rest-is = s.is ∙ sym (append_assoc title.header (records (start title) texts) shut_gate)

  size : length front ≡ end
  size = omega (arith, s.last, ap length rest-is, length-append front shut_gate)

  pub stands_now : (c : List ℕ) → may_leave d0 c → Stands title texts c
  stands_now c left = shut_stands title texts s.short [] c (s.durable c left ∙ rest-is)

  -- behind the first write
  pub stands_written : (d1 : D) → ArisesBy (Torn (end + 8) (length bytes)) (may_leave d0) (may_leave d1) → (c : List ℕ) → may_leave d1 c → Stands title texts c
  stands_written d1 follows c left =
      let from = follows c left in
      let torn = subst (λ (f : List ℕ). Torn (end + 8) (length bytes) f c) (s.durable from.0 from.1 ∙ rest-is) from.2 in
      shut_stands title texts s.short (drop (end + 8) c) c (torn_behind front shut_gate end size refl (length bytes) c torn)

  pub is_staged : (d1 : D) → Holds (seen d0) (end + 8) bytes (seen d1) → seen d1 ≡ front ++ (shut_gate ++ bytes)
  is_staged d1 holds =
      written_behind front shut_gate end size refl bytes (seen d1) (subst (λ (f : List ℕ). Holds f (end + 8) bytes (seen d1)) rest-is holds)

  pub staged_long : (d1 : D) → seen d1 ≡ front ++ (shut_gate ++ bytes) → end ≤ length (seen d1)
  staged_long d1 staged = omega (arith, ap length staged, length-staged front shut_gate end size refl bytes)

  -- what was kept by the first sync
  pub staged_stands : (d1 : D) (c : List ℕ) → seen d1 ≡ front ++ (shut_gate ++ bytes) → c ≡ seen d1 → Stands title texts c
  staged_stands d1 c staged is = shut_stands title texts s.short bytes c (is ∙ staged)

  module _ (text : List ℕ) (fits : IsShort text) (bytes_are : bytes ≡ staged_text chain text) where
    abbrev P : List ℕ → Type 0
    P = IsBeforeOrAfter title texts text

    is-staged : bytes ≡ staged_text (chained (start title) texts) text
    is-staged = bytes_are ∙ ap (λ (x : List ℕ). staged_text x text) s.chain_is

    at_start : LeavesOnly moment left_since d0 d0 P
    at_start = started moment left_since d0 P (λ c left. inl (stands_now c (only_now d0 c left)))

    pub first : (d1 : D) → ArisesBy (Torn (end + 8) (length bytes)) (may_leave d0) (may_leave d1)
        → Elapses (moment d0) (moment d1) (left_since d0) (left_since d1) (may_leave d1) → LeavesOnly moment left_since d0 d1 P
    first d1 follows time = goes_on moment left_since d0 d0 d1 P (may_leave d1) at_start time (λ c now. inl (stands_written d1 follows c now))

    -- behind the first sync
    pub second : (d1 d2 : D) → LeavesOnly moment left_since d0 d1 P → ArisesBy (Torn (end + 8) (length bytes)) (may_leave d0) (may_leave d1)
        → ((c : List ℕ) → may_leave d2 c → may_leave d1 c) → Elapses (moment d1) (moment d2) (left_since d1) (left_since d2) (may_leave d2)
        → LeavesOnly moment left_since d0 d2 P
    second d1 d2 so_far follows crash time =
        goes_on moment left_since d0 d1 d2 P (may_leave d2) so_far time (λ c now. inl (stands_written d1 follows c (crash c now)))

    -- behind the write of the gate
    stands_opened : (d1 d2 d3 : D) → seen d1 ≡ front ++ (shut_gate ++ bytes) → Only (seen d1) (may_leave d2) → ArisesBy (Torn end 8) (may_leave d2) (may_leave d3)
        → (c : List ℕ) → may_leave d3 c → P c
    stands_opened d1 d2 d3 staged only follows c left =
        let from = follows c left in
        let torn = subst (λ (f : List ℕ). Torn end 8 f c) (only from.0 from.1 ∙ staged) from.2 in
        let is = torn_gate front shut_gate end size refl bytes c torn in
        gate_stands title texts s.short text fits (take 8 (drop end c)) c is.1 (is.0 ∙ ap (λ (l : List ℕ). front ++ (take 8 (drop end c) ++ l)) is-staged)

    pub third : (d1 d2 d3 : D) → LeavesOnly moment left_since d0 d2 P → seen d1 ≡ front ++ (shut_gate ++ bytes) → Only (seen d1) (may_leave d2)
        → ArisesBy (Torn end 8) (may_leave d2) (may_leave d3) → Elapses (moment d2) (moment d3) (left_since d2) (left_since d3) (may_leave d3)
        → LeavesOnly moment left_since d0 d3 P
    third d1 d2 d3 so_far staged only follows time =
        goes_on moment left_since d0 d2 d3 P (may_leave d3) so_far time (stands_opened d1 d2 d3 staged only follows)

    -- behind the second sync
    pub fourth : (d1 d2 d3 d4 : D) → LeavesOnly moment left_since d0 d3 P → seen d1 ≡ front ++ (shut_gate ++ bytes) → Only (seen d1) (may_leave d2)
        → ArisesBy (Torn end 8) (may_leave d2) (may_leave d3) → ((c : List ℕ) → may_leave d4 c → may_leave d3 c)
        → Elapses (moment d3) (moment d4) (left_since d3) (left_since d4) (may_leave d4) → LeavesOnly moment left_since d0 d4 P
    fourth d1 d2 d3 d4 so_far staged only follows crash time =
        goes_on moment left_since d0 d3 d4 P (may_leave d4) so_far time (λ c now. stands_opened d1 d2 d3 staged only follows c (crash c now))

    -- ---- the end

    opened-is : (d1 d3 : D) → seen d1 ≡ front ++ (shut_gate ++ bytes) → Holds (seen d1) end open_gate (seen d3) → seen d3 ≡ front ++ (open_gate ++ bytes)
    opened-is d1 d3 staged holds =
        written_gate front shut_gate end size refl bytes open_gate (seen d3) refl (subst (λ (f : List ℕ). Holds f end open_gate (seen d3)) staged holds)

    opened-journal : (d1 d3 : D) → seen d1 ≡ front ++ (shut_gate ++ bytes) → Holds (seen d1) end open_gate (seen d3) → seen d3 ≡ journal title (texts ++ text ∷ []) shut_gate
    opened-journal d1 d3 staged holds =
        opened-is d1 d3 staged holds ∙ ap (λ (l : List ℕ). front ++ (open_gate ++ l)) is-staged ∙ more-is title texts s.short text fits shut_gate

    pub texts_more : (d1 d3 d4 : D) → seen d1 ≡ front ++ (shut_gate ++ bytes) → Holds (seen d1) end open_gate (seen d3) → seen d4 ≡ seen d3
        → recovered (seen d4) ≡ texts ++ text ∷ []
    texts_more d1 d3 d4 staged holds same =
        ap recovered (same ∙ opened-journal d1 d3 staged holds)
        ∙ journal_recovered title (texts ++ text ∷ []) [] s.titled (short-push texts text s.short fits)

    pub settles : (d1 d3 d4 : D) → seen d1 ≡ front ++ (shut_gate ++ bytes) → Holds (seen d1) end open_gate (seen d3) → seen d4 ≡ seen d3
        → Only (seen d3) (may_leave d4) → end + 8 + length bytes < 2 ^ 64
        → IsSettled title (end + length bytes) (count + 1) (link chain text) (seen d4) (may_leave d4)
    settles d1 d3 d4 staged holds same only within =
        let more : recovered (seen d4) ≡ texts ++ text ∷ [] = texts_more d1 d3 d4 staged holds same in
        let long : length (seen d4) ≡ end + 8 + length bytes =
        ap length (same ∙ opened-is d1 d3 staged holds) ∙ length-staged front open_gate end size refl bytes in
        record {
          titled = s.titled;
          is = same ∙ opened-journal d1 d3 staged holds ∙ ap (λ (ts : List (List ℕ)). journal title ts shut_gate) (sym more);
          short = subst AreShort (sym more) (short-push texts text s.short fits);
          last = omega (arith, long);
          within = omega (arith, within);
          counts = omega (arith, s.counts, ap length more, length-append texts (text ∷ []));
          chain_is =
              ap (λ (x : List ℕ). link x text) s.chain_is ∙ sym (chained-push (start title) texts text) ∙ ap (chained (start title)) (sym more);
          durable = subst (λ (f : List ℕ). Only f (may_leave d4)) (sym same) only;
        }
