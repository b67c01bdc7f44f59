-- A gate lies in one sector, so a write of it leaves it as it was or as it was to be.
use Rattle.std.proofs.Common.{◌≡◌, ◌⊎◌, inl, inr, ⊎_elim, ℕ, zero, suc, ◌+◌, ◌*◌, ◌-◌, ◌/◌, ◌<◌, ◌≤◌, List, [], ◌∷◌, ◌++◌, length, take, drop, refl, sym, ◌∙◌, ap, subst, arith, append_assoc, length-append, length-drop, take-append-drop}
use Rattle.std.proofs.lemmas.Bool.{cases_lt}
use Rattle.std.proofs.lemmas.List.{take-append-le, drop-append-le}
use Rattle.std.proofs.Math.Seq.{drop-append-add}
use Rattle.chained_journal.specs.Appending.{staged_text}
use Rattle.chained_journal.specs.Damage.{InSectors}
use Rattle.chained_journal.specs.Journal.{AreShort, IsShort, Stands, chained, header_len, journal, link, open_gate, record_text, records, shut_gate, start, wanting}
use Rattle.chained_journal.specs.declared.title.Title.{Title}
use Rattle.chained_journal.proofs.Journals.{open_stands, shut_stands}
use Rattle.chained_journal.proofs.Splits.{length-record}

rejoined : (n : ℕ) (new front back : List ℕ) → take n new ≡ front → drop n new ≡ back → new ≡ front ++ back
rejoined n new front back one two = sym (take-append-drop n new) ∙ ap (λ (l : List ℕ). l ++ drop n new) one ∙ ap (λ (l : List ℕ). front ++ l) two

-- where nothing was to change nothing changes
still : (size n : ℕ) (old to new : List ℕ) → old ≡ to → InSectors size n old to new → new ≡ old
still size zero old to new same is = is
still size (suc n) old to new same is =
    let first : take size new ≡ take size old = ⊎_elim (λ (e : take size new ≡ take size old). e) (λ (e : take size new ≡ take size to). e ∙ ap (take size) (sym same)) is.0 in
    let later : drop size new ≡ drop size old = still size n (drop size old) (drop size to) (drop size new) (ap (drop size) same) is.1 in
    rejoined size new (take size old) (drop size old) first later ∙ take-append-drop size old

-- the parts behind a sector that has the gate
behind-sector : (size : ℕ) (front gate rest : List ℕ) → length gate ≡ 8 → length front + 8 ≤ size → drop size (front ++ (gate ++ rest)) ≡ drop (size - (length front + 8)) rest
behind-sector size front gate rest eight fits =
    let many : length (front ++ gate) + (size - (length front + 8)) ≡ size = omega (arith, fits, eight, length-append front gate) in
    ap (λ (l : List ℕ). drop size l) (sym (append_assoc front gate rest))
    ∙ ap (λ (n : ℕ). drop n ((front ++ gate) ++ rest)) (sym many)
    ∙ drop-append-add (front ++ gate) rest (size - (length front + 8))

module _ (eighths n a : ℕ) (front gate new_gate rest new : List ℕ) (aligned : length front ≡ 8 * a) (eight : length gate ≡ 8) (long : length new_gate ≡ 8) where
  abbrev size : ℕ
  size = 8 * eighths

  abbrev old : List ℕ
  old = front ++ (gate ++ rest)

  abbrev to : List ℕ
  to = front ++ (new_gate ++ rest)

  -- the gate lies in the first sector
  here : InSectors size (suc n) old to new → length front < size → (new ≡ old) ⊎ (new ≡ to)
  here is within =
      let fits : length front + 8 ≤ size = omega (arith, within, aligned) in
      let same : drop size old ≡ drop size to = behind-sector size front gate rest eight fits ∙ sym (behind-sector size front new_gate rest long fits) in
      let later : drop size new ≡ drop size old = still size n (drop size old) (drop size to) (drop size new) same is.1 in
      ⊎_elim
      (λ (e : take size new ≡ take size old). inl (rejoined size new (take size old) (drop size old) e later ∙ take-append-drop size old))
      (λ (e : take size new ≡ take size to). inr (rejoined size new (take size to) (drop size to) e (later ∙ same) ∙ take-append-drop size to))
      is.0

  whole : (g : List ℕ) → take size front ++ (drop size front ++ (g ++ rest)) ≡ front ++ (g ++ rest)
  whole g = sym (append_assoc (take size front) (drop size front) (g ++ rest)) ∙ ap (λ (l : List ℕ). l ++ (g ++ rest)) (take-append-drop size front)

  abbrev Later : Type 0
  Later = length (drop size front) ≡ 8 * (a - eighths) → InSectors size n (drop size front ++ (gate ++ rest)) (drop size front ++ (new_gate ++ rest)) (drop size new)
      → (drop size new ≡ drop size front ++ (gate ++ rest)) ⊎ (drop size new ≡ drop size front ++ (new_gate ++ rest))

  -- it lies in a later one
  beyond : InSectors size (suc n) old to new → Later → size ≤ length front → (new ≡ old) ⊎ (new ≡ to)
  beyond is later far =
      let first : take size new ≡ take size front = ⊎_elim
      (λ (e : take size new ≡ take size old). e ∙ take-append-le size front (gate ++ rest) far)
      (λ (e : take size new ≡ take size to). e ∙ take-append-le size front (new_gate ++ rest) far)
      is.0 in
      let olds : drop size old ≡ drop size front ++ (gate ++ rest) = drop-append-le size front (gate ++ rest) far in
      let tos : drop size to ≡ drop size front ++ (new_gate ++ rest) = drop-append-le size front (new_gate ++ rest) far in
      let left : length (drop size front) ≡ 8 * (a - eighths) = omega (arith, length-drop size front, aligned, far) in
      let inside : InSectors size n (drop size front ++ (gate ++ rest)) (drop size front ++ (new_gate ++ rest)) (drop size new) =
      subst (λ (l : List ℕ). InSectors size n l (drop size front ++ (new_gate ++ rest)) (drop size new)) olds
      (subst (λ (l : List ℕ). InSectors size n (drop size old) l (drop size new)) tos is.1) in
      ⊎_elim
      (λ (e : drop size new ≡ drop size front ++ (gate ++ rest)). inl (rejoined size new (take size front) (drop size front ++ (gate ++ rest)) first e ∙ whole gate))
      (λ (e : drop size new ≡ drop size front ++ (new_gate ++ rest)). inr (rejoined size new (take size front) (drop size front ++ (new_gate ++ rest)) first e ∙ whole new_gate))
      (later left inside)

pub one_sector : (eighths n a : ℕ) (front gate new_gate rest new : List ℕ) → length front ≡ 8 * a → length gate ≡ 8 → length new_gate ≡ 8
    → InSectors (8 * eighths) n (front ++ (gate ++ rest)) (front ++ (new_gate ++ rest)) new
    → (new ≡ front ++ (gate ++ rest)) ⊎ (new ≡ front ++ (new_gate ++ rest))
one_sector eighths zero a front gate new_gate rest new aligned eight long is = inl is
one_sector eighths (suc n) a front gate new_gate rest new aligned eight long is = ⊎_elim
    (here eighths n a front gate new_gate rest new aligned eight long is)
    (beyond eighths n a front gate new_gate rest new aligned eight long is
    (λ left inside. one_sector eighths n (a - eighths) (drop (8 * eighths) front) gate new_gate rest (drop (8 * eighths) new) left eight long inside))
    (cases_lt (length front) (8 * eighths))

-- ---- each gate begins at a multiple of 8

padded : (n : ℕ) → n + wanting n ≡ 8 * ((n + 7) / 8)
padded n = omega arith

aligned-records : (chain : List ℕ) (texts : List (List ℕ)) → (a : ℕ) × (length (records chain texts) ≡ 8 * a)
aligned-records chain [] = (0, refl)
aligned-records chain (t ∷ ts) =
    let later = aligned-records (link chain t) ts in
    let q : ℕ = (length t + 7) / 8 in (
      6 + q + later.0,
      omega (arith, later.1, padded (length t), length-record chain t, length-append open_gate (record_text chain t ++ records (link chain t) ts), length-append (record_text chain t) (records (link chain t) ts)),
    )

pub aligned_front : (title : Title) (texts : List (List ℕ)) → length title.header ≡ header_len → (a : ℕ) × (length (title.header ++ records (start title) texts) ≡ 8 * a)
aligned_front title texts sized =
    let at = aligned-records (start title) texts in
    (5 + at.0, omega (arith, sized, at.1, length-append title.header (records (start title) texts)))

-- ---- so no end is torn

pub none_torn : (title : Title) (texts : List (List ℕ)) (text : List ℕ) (eighths n : ℕ) (new : List ℕ) → length title.header ≡ header_len → AreShort texts → IsShort text
    → InSectors (8 * eighths) n (journal title texts (shut_gate ++ staged_text (chained (start title) texts) text))
    (journal title texts (open_gate ++ staged_text (chained (start title) texts) text)) new
    → Stands title texts new ⊎ Stands title (texts ++ text ∷ []) new
none_torn title texts text eighths n new sized short fits is =
    let front : List ℕ = title.header ++ records (start title) texts in
    let staged : List ℕ = staged_text (chained (start title) texts) text in
    let at = aligned_front title texts sized in
    let old : journal title texts (shut_gate ++ staged) ≡ front ++ (shut_gate ++ staged) = sym (append_assoc title.header (records (start title) texts) (shut_gate ++ staged)) in
    let to : journal title texts (open_gate ++ staged) ≡ front ++ (open_gate ++ staged) = sym (append_assoc title.header (records (start title) texts) (open_gate ++ staged)) in
    let inside : InSectors (8 * eighths) n (front ++ (shut_gate ++ staged)) (front ++ (open_gate ++ staged)) new =
    subst (λ (l : List ℕ). InSectors (8 * eighths) n l (front ++ (open_gate ++ staged)) new) old
    (subst (λ (l : List ℕ). InSectors (8 * eighths) n (journal title texts (shut_gate ++ staged)) l new) to is) in
    ⊎_elim
    (λ (e : new ≡ front ++ (shut_gate ++ staged)). inl (shut_stands title texts short staged new e))
    (λ (e : new ≡ front ++ (open_gate ++ staged)). inr (open_stands title texts short text fits new e))
    (one_sector eighths n at.0 front shut_gate open_gate staged new at.1 refl refl inside)
