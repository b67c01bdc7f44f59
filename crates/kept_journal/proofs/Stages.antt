-- The calls of an append, one behind the other: what a crash leaves at each, and what stands at the end.
use Rattle.std.proofs.Common.{◌≡◌, ◌≢◌, inl, inr, ℕ, ◌+◌, ◌<◌, ◌≤◌, ◌^◌, List, [], ◌∷◌, ◌++◌, length, get_or, sym, ◌∙◌, ap, subst, arith, append_assoc, length-append}
use Rattle.std.proofs.lemmas.Bool.{cases_eq}
use Rattle.kept_disk.specs.Disk.{ArisesBy, Holds, Only, Torn}
use Rattle.kept_disk.specs.Moments.{Elapses, LeavesOnly}
use Rattle.kept_journal.specs.Appending.{staged_text}
use Rattle.kept_journal.specs.Journal.{AreShort, IsBeforeOrAfter, Stands, journal, record_text, records, recovered}
use Rattle.kept_journal.specs.Settled.{IsSettled}
use Rattle.kept_journal.proofs.Moments.{goes_on, started}
use Rattle.kept_journal.proofs.Pieces.{length-staged, torn_behind, torn_gate, written_behind, written_gate}
use Rattle.kept_journal.proofs.Rereading.{fewer, journal-length, journal_recovered}

-- ---- one text more

pub records-push : (texts : List (List ℕ)) (text rest : List ℕ) → records (texts ++ text ∷ []) ++ rest ≡ records texts ++ 1 ∷ (record_text text ++ rest)
records-push [] text rest = ap (λ (l : List ℕ). 1 ∷ l) (append_assoc (record_text text) [] rest)
records-push (t ∷ texts) text rest =
    ap (λ (l : List ℕ). 1 ∷ l)
    (append_assoc (record_text t) (records (texts ++ text ∷ [])) rest
    ∙ ap (λ (l : List ℕ). record_text t ++ l) (records-push texts text rest)
    ∙ sym (append_assoc (record_text t) (records texts) (1 ∷ (record_text text ++ rest))))

pub short-push : (texts : List (List ℕ)) (text : List ℕ) → AreShort texts → length text < 2 ^ 32 → AreShort (texts ++ text ∷ [])
short-push [] text short fits = (fits, tt)
short-push (t ∷ texts) text short fits = (short.0, short-push texts text short.1 fits)

module _ (mark : List ℕ) (texts : List (List ℕ)) (text : List ℕ) (short : AreShort texts) (fits : length text < 2 ^ 32) where
  -- what stands behind the texts, whatever the gate is
  pub shut_stands : (gate : ℕ) (behind c : List ℕ) → gate ≢ 1 → c ≡ (mark ++ records texts) ++ gate ∷ behind → Stands mark texts c
  shut_stands gate behind c shut is =
      (short, inr (record { gate = gate; behind = behind; shut = shut; is = is ∙ append_assoc mark (records texts) (gate ∷ behind) }))

  more-is : (mark ++ records texts) ++ 1 ∷ staged_text text ≡ journal mark (texts ++ text ∷ []) 0 []
  more-is =
      append_assoc mark (records texts) (1 ∷ staged_text text) ∙ ap (λ (l : List ℕ). mark ++ l) (sym (records-push texts text (0 ∷ [])))

  pub open_stands : (c : List ℕ) → c ≡ (mark ++ records texts) ++ 1 ∷ staged_text text → Stands mark (texts ++ text ∷ []) c
  open_stands c is =
      (short-push texts text short fits, inr (record { gate = 0; behind = []; shut = omega arith; is = is ∙ more-is }))

  -- a whole record behind any gate counts or it does not
  pub gate_stands : (gate : ℕ) (c : List ℕ) → c ≡ (mark ++ records texts) ++ gate ∷ staged_text text → IsBeforeOrAfter mark texts text c
  gate_stands gate c is = elim (cases_eq gate 1) [
    | inl opened ↦ inr (open_stands c (is ∙ ap (λ (g : ℕ). (mark ++ records texts) ++ g ∷ staged_text text) opened))
    | inr shut ↦ inl (shut_stands gate (staged_text text) c shut is)
  ]

-- there are fewer texts than bytes
pub few_settled : (mark : List ℕ) (end count : ℕ) (seen : List ℕ) (may_leave : List ℕ → Type 0) → IsSettled mark end count seen may_leave → count < 2 ^ 64
few_settled mark end count seen may_leave s =
    omega (arith, s.counts, fewer (recovered seen), ap length s.is, journal-length mark (recovered seen) s.gate [], s.last, s.within)

-- ---- the calls

module _ {D : Type 0} (seen : D → List ℕ) (may_leave : D → List ℕ → Type 0) (moment : D → ℕ) (left_since : D → ℕ → List ℕ → Type 0)
    (only_now : (d : D) (c : List ℕ) → left_since d (moment d) c → may_leave d c) (mark : List ℕ) (end count : ℕ) (text bytes : List ℕ)
    (fits : length text < 2 ^ 32) (bytes_are : bytes ≡ staged_text text) (d0 : D) (s : IsSettled mark end count (seen d0) (may_leave d0)) where
  abbrev texts : List (List ℕ)
  texts = recovered (seen d0)

  abbrev front : List ℕ
  front = mark ++ records texts

  abbrev P : List ℕ → Type 0
  P = IsBeforeOrAfter mark texts text

  rest-is : seen d0 ≡ front ++ s.gate ∷ []
  rest-is = s.is ∙ sym (append_assoc mark (records texts) (s.gate ∷ []))

  size : length front ≡ end
  size = omega (arith, s.last, ap length rest-is, length-append front (s.gate ∷ []))

  pub stands_now : (c : List ℕ) → may_leave d0 c → Stands mark texts c
  stands_now c left = shut_stands mark texts text s.short fits s.gate [] c s.shut (s.durable c left ∙ rest-is)

  at_start : LeavesOnly moment left_since d0 d0 P
  at_start = started moment left_since d0 P (λ c left. inl (stands_now c (only_now d0 c left)))

  -- behind the first write
  pub stands_written : (d1 : D) → ArisesBy (Torn (end + 1) (length bytes)) (may_leave d0) (may_leave d1) → (c : List ℕ) → may_leave d1 c → Stands mark texts c
  stands_written d1 follows c left =
      let from = follows c left in
      let torn = subst (λ (f : List ℕ). Torn (end + 1) (length bytes) f c) (s.durable from.0 from.1 ∙ rest-is) from.2 in
      shut_stands mark texts text s.short fits s.gate _ c s.shut (torn_behind front s.gate end size (length bytes) c torn)

  pub first : (d1 : D) → ArisesBy (Torn (end + 1) (length bytes)) (may_leave d0) (may_leave d1)
      → Elapses (moment d0) (moment d1) (left_since d0) (left_since d1) (may_leave d1) → LeavesOnly moment left_since d0 d1 P
  first d1 follows time = goes_on moment left_since d0 d0 d1 P (may_leave d1) at_start time (λ c now. inl (stands_written d1 follows c now))

  pub is_staged : (d1 : D) → Holds (seen d0) (end + 1) bytes (seen d1) → seen d1 ≡ front ++ s.gate ∷ bytes
  is_staged d1 holds = written_behind front s.gate end size bytes (seen d1) (subst (λ (f : List ℕ). Holds f (end + 1) bytes (seen d1)) rest-is holds)

  pub staged_long : (d1 : D) → seen d1 ≡ front ++ s.gate ∷ bytes → end ≤ length (seen d1)
  staged_long d1 staged = omega (arith, ap length staged, length-staged front s.gate end size bytes)

  -- behind the first sync
  pub second : (d1 d2 : D) → LeavesOnly moment left_since d0 d1 P → ArisesBy (Torn (end + 1) (length bytes)) (may_leave d0) (may_leave d1)
      → ((c : List ℕ) → may_leave d2 c → may_leave d1 c) → Elapses (moment d1) (moment d2) (left_since d1) (left_since d2) (may_leave d2)
      → LeavesOnly moment left_since d0 d2 P
  second d1 d2 so_far follows crash time =
      goes_on moment left_since d0 d1 d2 P (may_leave d2) so_far time (λ c now. inl (stands_written d1 follows c (crash c now)))

  -- what was kept by it
  pub staged_stands : (d1 : D) (c : List ℕ) → seen d1 ≡ front ++ s.gate ∷ bytes → c ≡ seen d1 → Stands mark texts c
  staged_stands d1 c staged is = shut_stands mark texts text s.short fits s.gate bytes c s.shut (is ∙ staged)

  -- behind the write of the gate
  stands_opened : (d1 d2 d3 : D) → seen d1 ≡ front ++ s.gate ∷ bytes → Only (seen d1) (may_leave d2) → ArisesBy (Torn end 1) (may_leave d2) (may_leave d3)
      → (c : List ℕ) → may_leave d3 c → P c
  stands_opened d1 d2 d3 staged only follows c left =
      let from = follows c left in
      let torn = subst (λ (f : List ℕ). Torn end 1 f c) (only from.0 from.1 ∙ staged) from.2 in
      let is : c ≡ front ++ get_or c end 0 ∷ bytes = torn_gate front s.gate end size bytes c torn in
      gate_stands mark texts text s.short fits (get_or c end 0) c (is ∙ ap (λ (l : List ℕ). front ++ get_or c end 0 ∷ l) bytes_are)

  pub third : (d1 d2 d3 : D) → LeavesOnly moment left_since d0 d2 P → seen d1 ≡ front ++ s.gate ∷ bytes → Only (seen d1) (may_leave d2)
      → ArisesBy (Torn end 1) (may_leave d2) (may_leave d3) → Elapses (moment d2) (moment d3) (left_since d2) (left_since d3) (may_leave d3)
      → LeavesOnly moment left_since d0 d3 P
  third d1 d2 d3 so_far staged only follows time =
      goes_on moment left_since d0 d2 d3 P (may_leave d3) so_far time (stands_opened d1 d2 d3 staged only follows)

  -- behind the second sync
  pub fourth : (d1 d2 d3 d4 : D) → LeavesOnly moment left_since d0 d3 P → seen d1 ≡ front ++ s.gate ∷ bytes → Only (seen d1) (may_leave d2)
      → ArisesBy (Torn end 1) (may_leave d2) (may_leave d3) → ((c : List ℕ) → may_leave d4 c → may_leave d3 c)
      → Elapses (moment d3) (moment d4) (left_since d3) (left_since d4) (may_leave d4) → LeavesOnly moment left_since d0 d4 P
  fourth d1 d2 d3 d4 so_far staged only follows crash time =
      goes_on moment left_since d0 d3 d4 P (may_leave d4) so_far time (λ c now. stands_opened d1 d2 d3 staged only follows c (crash c now))

  -- ---- the end

  opened-is : (d1 d3 : D) → seen d1 ≡ front ++ s.gate ∷ bytes → Holds (seen d1) end (1 ∷ []) (seen d3) → seen d3 ≡ front ++ 1 ∷ bytes
  opened-is d1 d3 staged holds = written_gate front s.gate end size bytes (seen d3) (subst (λ (f : List ℕ). Holds f end (1 ∷ []) (seen d3)) staged holds)

  opened-journal : (d1 d3 : D) → seen d1 ≡ front ++ s.gate ∷ bytes → Holds (seen d1) end (1 ∷ []) (seen d3) → seen d3 ≡ journal mark (texts ++ text ∷ []) 0 []
  opened-journal d1 d3 staged holds =
      opened-is d1 d3 staged holds ∙ ap (λ (l : List ℕ). front ++ 1 ∷ l) bytes_are ∙ more-is mark texts text s.short fits

  pub texts_more : (d1 d3 d4 : D) → seen d1 ≡ front ++ s.gate ∷ bytes → Holds (seen d1) end (1 ∷ []) (seen d3) → seen d4 ≡ seen d3
      → recovered (seen d4) ≡ texts ++ text ∷ []
  texts_more d1 d3 d4 staged holds same =
      ap recovered (same ∙ opened-journal d1 d3 staged holds)
      ∙ journal_recovered mark (texts ++ text ∷ []) 0 [] s.marked (short-push texts text s.short fits) (omega arith)

  pub settles : (d1 d3 d4 : D) → seen d1 ≡ front ++ s.gate ∷ bytes → Holds (seen d1) end (1 ∷ []) (seen d3) → seen d4 ≡ seen d3
      → Only (seen d3) (may_leave d4) → end + 1 + length bytes < 2 ^ 64
      → IsSettled mark (end + length (staged_text text)) (count + 1) (seen d4) (may_leave d4)
  settles d1 d3 d4 staged holds same only within =
      let more : recovered (seen d4) ≡ texts ++ text ∷ [] = texts_more d1 d3 d4 staged holds same in
      let long : length (seen d4) ≡ end + 1 + length bytes =
      ap length (same ∙ opened-is d1 d3 staged holds) ∙ omega (arith, size, length-append front (1 ∷ bytes)) in
      let same_bytes : length bytes ≡ length (staged_text text) = ap length bytes_are in
      record {
        marked = s.marked;
        gate = 0;
        shut = omega arith;
        is = same ∙ opened-journal d1 d3 staged holds ∙ ap (λ (ts : List (List ℕ)). journal mark ts 0 []) (sym more);
        short = subst AreShort (sym more) (short-push texts text s.short fits);
        last = omega (arith, long, same_bytes);
        within = omega (arith, within, same_bytes);
        counts = omega (arith, s.counts, ap length more, length-append texts (text ∷ []));
        durable = subst (λ (f : List ℕ). Only f (may_leave d4)) (sym same) only;
      }
