-- What a crash leaves of a file that is opened, and what it is then.
use Rattle.std.proofs.Common.{◌≡◌, ◌⊎◌, inl, inr, ⊎_elim, ℕ, ◌+◌, ◌-◌, ◌<◌, ◌≤◌, ◌^◌, min, List, [], ◌∷◌, ◌++◌, length, take, drop, refl, sym, ◌∙◌, ap, subst, arith, append_assoc, length-append}
use Rattle.std.proofs.lemmas.List.{append-nil, drop_all, take_all}
use Rattle.kept_disk.specs.Disk.{Cut, Holds, Only, Torn}
use Rattle.kept_journal.specs.Journal.{AreShort, IsAsBefore, IsJournal, Stands, journal, records, recovered}
use Rattle.kept_journal.specs.Loaded.{IsLoaded}
use Rattle.kept_journal.specs.Settled.{IsSettled}
use Rattle.kept_journal.specs.declared.standing.Standing.{Standing}
use Rattle.kept_journal.proofs.Pieces.{cut_behind, length-staged, to-gate}
use Rattle.kept_journal.proofs.Rereading.{journal_recovered, short_recovered}

-- ---- a read of all

pub read_all : (file old new : List ℕ) (n : ℕ) → length old ≡ length file → n ≡ min (length old) (length file - 0)
    → new ≡ take n (drop 0 file) ++ drop n old → new ≡ file
read_all file old new n size count is =
    let all : n ≡ length file = omega (arith, size, count) in
    is ∙ ap (λ (l : List ℕ). l ++ drop n old) (take_all n file (omega (arith, all)))
    ∙ ap (λ (l : List ℕ). file ++ l) (drop_all n old (omega (arith, all, size))) ∙ append-nil file

-- what a crash leaves behind the read is what one before might have left
pub as_before : (may_leave : List ℕ → Type 0) (mark seen file c : List ℕ) → file ≡ seen → may_leave seen
    → (c ≡ file) ⊎ (Stands mark (recovered file) file × Stands mark (recovered file) c) → IsAsBefore may_leave mark seen c
as_before may_leave mark seen file c same now how = ⊎_elim
    (λ is. inl (subst may_leave (sym (is ∙ same)) now))
    (λ both. inr (subst (λ (f : List ℕ). Stands mark (recovered f) f × Stands mark (recovered f) c) same both))
    how

-- ---- a file that is written anew

pub fresh_short : (old c : List ℕ) (n : ℕ) → n ≡ 9 → length old ≤ 9 → Torn 0 n old c → length c ≤ 9
fresh_short old c n nine short torn = omega (arith, nine, short, torn.no_longer)

pub fresh_holds : (old bytes new : List ℕ) → length bytes ≡ 9 → length old ≤ 9 → Holds old 0 bytes new → new ≡ bytes
fresh_holds old bytes new nine short holds =
    holds ∙ ap (λ (l : List ℕ). bytes ++ l) (drop_all (0 + length bytes) old (omega (arith, nine, short))) ∙ append-nil bytes

pub fresh_stands : (mark file c : List ℕ) → length file ≤ 9 → length c ≤ 9 → Stands mark (recovered file) c
fresh_stands mark file c short few = subst (λ (ts : List (List ℕ)). Stands mark ts c) (sym (short_recovered file short)) (tt, inl (few, refl))

pub fresh_settled : (mark file seen : List ℕ) (may_leave : List ℕ → Type 0) → length mark ≡ 8 → length file ≤ 9 → seen ≡ mark ++ 0 ∷ []
    → Only seen may_leave → IsSettled mark 8 0 seen may_leave × (recovered seen ≡ recovered file)
fresh_settled mark file seen may_leave marked short is only =
    let none : recovered seen ≡ [] = ap recovered is ∙ journal_recovered mark [] 0 [] marked tt (omega arith) in (
      record {
        marked = marked;
        gate = 0;
        shut = omega arith;
        is = is ∙ ap (λ (ts : List (List ℕ)). journal mark ts 0 []) (sym none);
        short = subst AreShort (sym none) tt;
        last = omega (arith, ap length is, marked, length-append mark (0 ∷ []));
        within = omega arith;
        counts = ap length (sym none);
        durable = only;
      },
      none ∙ sym (short_recovered file short),
    )

-- ---- a file that is cut

module _ (mark : List ℕ) (texts : List (List ℕ)) (file : List ℕ) (end : ℕ) (marked : length mark ≡ 8) (is : IsJournal mark texts file)
    (ends : end ≡ 8 + length (records texts)) where
  abbrev front : List ℕ
  front = mark ++ records texts

  size : length front ≡ end
  size = omega (arith, marked, ends, length-append mark (records texts))

  front-is : file ≡ front ++ is.gate ∷ is.behind
  front-is = is.is ∙ sym (append_assoc mark (records texts) (is.gate ∷ is.behind))

  pub cut_journal : (c : List ℕ) → Cut (end + 1) file c → IsJournal mark texts c
  cut_journal c cut =
      let from : c ≡ front ++ is.gate ∷ drop (end + 1) c =
      cut_behind front is.gate end size is.behind c (subst (λ (f : List ℕ). Cut (end + 1) f c) front-is cut) in
      record { gate = is.gate; behind = drop (end + 1) c; shut = is.shut; is = from ∙ append_assoc mark (records texts) (is.gate ∷ drop (end + 1) c) }

  pub ends_within : end + 1 ≤ length file
  ends_within = omega (arith, ap length front-is, length-staged front is.gate end size is.behind)

  trimmed-is : (seen : List ℕ) → seen ≡ take (end + 1) file → seen ≡ journal mark texts is.gate []
  trimmed-is seen cut =
      cut ∙ ap (λ (l : List ℕ). take (end + 1) l) front-is ∙ to-gate front is.gate end size is.behind ∙ append_assoc mark (records texts) (is.gate ∷ [])

  pub trimmed : (seen : List ℕ) (count : ℕ) (may_leave : List ℕ → Type 0) → seen ≡ take (end + 1) file → AreShort texts → count ≡ length texts
      → length file < 2 ^ 64 → Only seen may_leave → IsSettled mark end count seen may_leave × (recovered seen ≡ texts)
  trimmed seen count may_leave cut short counts within only =
      let at_end : seen ≡ journal mark texts is.gate [] = trimmed-is seen cut in
      let same : recovered seen ≡ texts = ap recovered at_end ∙ journal_recovered mark texts is.gate [] marked short is.shut in (
        record {
          marked = marked;
          gate = is.gate;
          shut = is.shut;
          is = at_end ∙ ap (λ (ts : List (List ℕ)). journal mark ts is.gate []) (sym same);
          short = subst AreShort (sym same) short;
          last = omega (arith, ap length at_end, size, length-append mark (records texts ++ is.gate ∷ []), length-append (records texts) (is.gate ∷ []), length-append mark (records texts));
          within = omega (arith, ends_within, within);
          counts = counts ∙ ap length (sym same);
          durable = only;
        },
        same,
      )

-- ---- a file whose texts a party took

module _ {P : Type 0} (takes : P → List ℕ → P → Type 0) (first last : P) (mark file seen : List ℕ) (standing : Standing)
    (marked : length mark ≡ 8) (loaded : IsLoaded takes first last mark file standing) (is : file ≡ seen) where
  pub loaded_marked : length standing.mark ≡ 8
  loaded_marked = ap length loaded.mark_is ∙ marked

  pub loaded_journal : IsJournal standing.mark (recovered seen) seen
  loaded_journal =
      subst (λ (m : List ℕ). IsJournal m (recovered seen) seen) (sym loaded.mark_is)
      (subst (λ (f : List ℕ). IsJournal mark (recovered f) f) is loaded.journal)

  pub loaded_end : standing.end ≡ 8 + length (records (recovered seen))
  loaded_end = loaded.end_is ∙ ap (λ (f : List ℕ). 8 + length (records (recovered f))) is

  pub loaded_stands : (f : List ℕ) → IsJournal standing.mark (recovered seen) f → Stands mark (recovered file) f
  loaded_stands f journal = (
    loaded.short,
    inr (subst (λ (m : List ℕ). IsJournal m (recovered file) f) loaded.mark_is
        (subst (λ (s : List ℕ). IsJournal standing.mark (recovered s) f) (sym is) journal)),
  )

  pub loaded_settles : (later : List ℕ) (may_leave : List ℕ → Type 0) → later ≡ take (standing.end + 1) seen → length file < 2 ^ 64 → Only later may_leave
      → IsSettled mark standing.end standing.count later may_leave × (recovered later ≡ recovered file)
  loaded_settles later may_leave cut within only =
      trimmed mark (recovered file) file standing.end marked loaded.journal loaded.end_is later standing.count may_leave
      (cut ∙ ap (λ (f : List ℕ). take (standing.end + 1) f) (sym is)) loaded.short loaded.count_is within only
