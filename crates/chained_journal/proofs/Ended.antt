-- Where a file's records end, and what it is then.
use Rattle.std.proofs.Common.{◌≡◌, ◌≢◌, ◌⊎◌, inl, inr, ⊎_elim, ℕ, ◌+◌, ◌<◌, ◌≤◌, ◌^◌, List, [], ◌++◌, length, take, drop, refl, sym, ◌∙◌, ap, subst, arith, append_assoc, length-append, length-take, take-append-drop, Bool}
use Rattle.std.proofs.lemmas.List.{drop_at}
use Rattle.kept_disk.specs.Disk.{Cut, Only}
use Rattle.chained_journal.specs.Journal.{AreShort, IsAsBefore, IsUnsure, Stands, chained, header_len, journal, open_gate, records, recovered, shut_gate, start}
use Rattle.chained_journal.specs.Loaded.{IsLoaded, IsRead}
use Rattle.chained_journal.specs.Refusals.{HasUnsureGate, IsBlank, IsNoJournal, IsOfAnother, IsOlder, IsPiece, Refusal}
use Rattle.chained_journal.specs.Replays.{ReachesBy}
use Rattle.chained_journal.specs.Settled.{IsSettled}
use Rattle.chained_journal.specs.declared.fault.OpenFault.{OpenFault}
use Rattle.chained_journal.specs.declared.fault.OpenFault.TheVariants as faults
use Rattle.chained_journal.specs.declared.standing.Standing.{Standing}
use Rattle.chained_journal.specs.declared.title.Title.{Title}
use Rattle.chained_journal.specs.declared.title.Witness.{Witness}
use Rattle.chained_journal.proofs.Pieces.{cut_behind, length-staged, to-gate}
use Rattle.chained_journal.proofs.Rereading.{journal-length, journal_recovered, stands_recovered}

-- ---- behind a read

-- what a crash leaves behind the read is what one before might have left
pub as_before : (title : Title) (may_leave : List ℕ → Type 0) (seen file c : List ℕ) → file ≡ seen → may_leave seen
    → (c ≡ file) ⊎ (Stands title (recovered file) file × Stands title (recovered file) c) → IsAsBefore title may_leave seen c
as_before title may_leave seen file c same now how = ⊎_elim
    (λ is. inl (subst may_leave (sym (is ∙ same)) now))
    (λ both. inr (subst (λ (f : List ℕ). Stands title (recovered f) f × Stands title (recovered f) c) same both))
    how

-- a file that is refused for its header
pub header_refused : {P : Type 0} → (takes : P → List ℕ → Bool → P → Type 0) (title : Title) (witness : Witness) (first : P) (file : List ℕ) (e : OpenFault)
    → ((e ≡ faults.NotBegun) × IsBlank file) ⊎ (((e ≡ faults.Damaged 0) × IsPiece file) ⊎ (((e ≡ faults.NotJournal) × IsNoJournal title file) ⊎ ((e ≡ faults.NotOwn) × IsOfAnother title file)))
    → Refusal takes title witness first file e
header_refused takes title witness first file e (inl is) = subst (λ (f : OpenFault). Refusal takes title witness first file f) (sym is.0) is.1
header_refused takes title witness first file e (inr (inl is)) = subst (λ (f : OpenFault). Refusal takes title witness first file f) (sym is.0) (inl (refl, is.1))
header_refused takes title witness first file e (inr (inr (inl is))) = subst (λ (f : OpenFault). Refusal takes title witness first file f) (sym is.0) is.1
header_refused takes title witness first file e (inr (inr (inr is))) = subst (λ (f : OpenFault). Refusal takes title witness first file f) (sym is.0) is.1

-- ---- behind the records

module _ {P : Type 0} (takes : P → List ℕ → Bool → P → Type 0) (first last : P) (title : Title) (witness : Witness) (file : List ℕ) (standing : Standing) (at_witness : List ℕ)
    (sized : length title.header ≡ header_len) (loaded : IsLoaded takes first last title witness.count file standing at_witness) where
  front-is : file ≡ (title.header ++ records (start title) loaded.texts) ++ loaded.rest
  front-is = loaded.is ∙ sym (append_assoc title.header (records (start title) loaded.texts) loaded.rest)

  size : length (title.header ++ records (start title) loaded.texts) ≡ standing.end
  size = omega (arith, sized, loaded.end_is, length-append title.header (records (start title) loaded.texts))

  pub end_within : standing.end + 8 ≤ length file
  end_within = omega (arith, ap length front-is, size, loaded.some, length-append (title.header ++ records (start title) loaded.texts) loaded.rest)

  pub rest_is : drop standing.end file ≡ loaded.rest
  rest_is = ap (λ (l : List ℕ). drop standing.end l) front-is ∙ drop_at (title.header ++ records (start title) loaded.texts) loaded.rest standing.end size

  -- no gate is shut there
  pub gate_unsure : ((behind : List ℕ) → drop standing.end file ≢ shut_gate ++ behind) → IsUnsure (take 8 loaded.rest)
  gate_unsure not_shut =
      let gate : List ℕ = take 8 loaded.rest in
      let behind : List ℕ = drop 8 loaded.rest in
      let whole : gate ++ behind ≡ loaded.rest = take-append-drop 8 loaded.rest in
      record {
        size = omega (arith, length-take 8 loaded.rest, loaded.some);
        not_open = λ (e : gate ≡ open_gate). loaded.not_open behind (sym whole ∙ ap (λ (l : List ℕ). l ++ behind) e);
        not_shut = λ (e : gate ≡ shut_gate). not_shut behind (rest_is ∙ sym whole ∙ ap (λ (l : List ℕ). l ++ behind) e);
      }

  pub is_unsure : ((behind : List ℕ) → drop standing.end file ≢ shut_gate ++ behind) → HasUnsureGate title file standing.end
  is_unsure not_shut =
      let gate : List ℕ = take 8 loaded.rest in
      let behind : List ℕ = drop 8 loaded.rest in
      let whole : gate ++ behind ≡ loaded.rest = take-append-drop 8 loaded.rest in
      record {
        texts = loaded.texts;
        gate = gate;
        behind = behind;
        short = loaded.short;
        unsure = gate_unsure not_shut;
        is = loaded.is ∙ ap (λ (l : List ℕ). journal title loaded.texts l) (sym whole);
        place_is = loaded.end_is;
      }

  module _ (behind : List ℕ) (shut : drop standing.end file ≡ shut_gate ++ behind) where
    pub texts_stand : Stands title loaded.texts file
    texts_stand = record { short = loaded.short; behind = behind; is = loaded.is ∙ ap (λ (l : List ℕ). journal title loaded.texts l) (sym rest_is ∙ shut) }

    pub same : recovered file ≡ loaded.texts
    same = stands_recovered title loaded.texts file sized texts_stand

    pub is_older : ¬ ((witness.count ≤ standing.count) × (at_witness ≡ witness.chain)) → IsOlder title witness file witness.count
    is_older other = record {
      texts = loaded.texts;
      stands = texts_stand;
      count_is = refl;
      other = λ borne. other (omega (arith, borne.enough, loaded.count_is), loaded.at_is ∙ borne.chain_is);
    }

    pub is_read : (witness.count ≤ standing.count) × (at_witness ≡ witness.chain) → IsRead takes first last title witness file standing
    is_read holds = record {
      titled = sized;
      stands = subst (λ (ts : List (List ℕ)). Stands title ts file) (sym same) texts_stand;
      end_is = loaded.end_is ∙ ap (λ (ts : List (List ℕ)). header_len + length (records (start title) ts)) (sym same);
      count_is = loaded.count_is ∙ ap length (sym same);
      chain_is = loaded.chain_is ∙ ap (chained (start title)) (sym same);
      borne = record {
        enough = omega (arith, holds.0, loaded.count_is, ap length same);
        chain_is = ap (λ (ts : List (List ℕ)). chained (start title) (take witness.count ts)) same ∙ sym loaded.at_is ∙ holds.1;
      };
      replays = subst (λ (ts : List (List ℕ)). ReachesBy takes first ts last) (sym same) loaded.replays;
    }

-- ---- a file that is cut

module _ (title : Title) (texts : List (List ℕ)) (file : List ℕ) (end : ℕ) (sized : length title.header ≡ header_len) (stands : Stands title texts file)
    (ends : end ≡ header_len + length (records (start title) texts)) where
  abbrev front : List ℕ
  front = title.header ++ records (start title) texts

  size2 : length front ≡ end
  size2 = omega (arith, sized, ends, length-append title.header (records (start title) texts))

  whole-is : file ≡ front ++ (shut_gate ++ stands.behind)
  whole-is = stands.is ∙ sym (append_assoc title.header (records (start title) texts) (shut_gate ++ stands.behind))

  pub cut_stands : (c : List ℕ) → Cut (end + 8) file c → Stands title texts c
  cut_stands c cut =
      let from : c ≡ front ++ (shut_gate ++ drop (end + 8) c) =
      cut_behind front shut_gate end size2 refl stands.behind c (subst (λ (f : List ℕ). Cut (end + 8) f c) whole-is cut) in
      record { short = stands.short; behind = drop (end + 8) c; is = from ∙ append_assoc title.header (records (start title) texts) (shut_gate ++ drop (end + 8) c) }

  pub ends_within : end + 8 ≤ length file
  ends_within = omega (arith, ap length whole-is, length-staged front shut_gate end size2 refl stands.behind)

  trimmed-is : (seen : List ℕ) → seen ≡ take (end + 8) file → seen ≡ journal title texts shut_gate
  trimmed-is seen cut =
      cut ∙ ap (λ (l : List ℕ). take (end + 8) l) whole-is ∙ to-gate front shut_gate end size2 refl stands.behind ∙ append_assoc title.header (records (start title) texts) shut_gate

  pub trimmed : (seen chain : List ℕ) (count : ℕ) (may_leave : List ℕ → Type 0) → seen ≡ take (end + 8) file → count ≡ length texts → chain ≡ chained (start title) texts
      → length file < 2 ^ 64 → Only seen may_leave → IsSettled title end count chain seen may_leave × (recovered seen ≡ texts)
  trimmed seen chain count may_leave cut counts chains within only =
      let at_end : seen ≡ journal title texts shut_gate = trimmed-is seen cut in
      let same : recovered seen ≡ texts = ap recovered at_end ∙ journal_recovered title texts [] sized stands.short in (
        record {
          titled = sized;
          is = at_end ∙ ap (λ (ts : List (List ℕ)). journal title ts shut_gate) (sym same);
          short = subst AreShort (sym same) stands.short;
          last = omega (arith, ap length at_end, ends, journal-length title texts shut_gate sized);
          within = omega (arith, ends_within, within);
          counts = counts ∙ ap length (sym same);
          chain_is = chains ∙ ap (chained (start title)) (sym same);
          durable = only;
        },
        same,
      )

-- ---- a file whose texts a party took

module _ {P : Type 0} (takes : P → List ℕ → Bool → P → Type 0) (first last : P) (title : Title) (witness : Witness) (file seen : List ℕ) (standing : Standing)
    (read : IsRead takes first last title witness file standing) (is : file ≡ seen) where
  pub read_stands : Stands title (recovered seen) seen
  read_stands = subst (λ (f : List ℕ). Stands title (recovered f) f) is read.stands

  pub read_end : standing.end ≡ header_len + length (records (start title) (recovered seen))
  read_end = read.end_is ∙ ap (λ (f : List ℕ). header_len + length (records (start title) (recovered f))) is

  pub read_file : (c : List ℕ) → Stands title (recovered seen) c → Stands title (recovered file) c
  read_file c stands = subst (λ (f : List ℕ). Stands title (recovered f) c) (sym is) stands

  pub read_settles : (later : List ℕ) (may_leave : List ℕ → Type 0) → later ≡ take (standing.end + 8) seen → length file < 2 ^ 64 → Only later may_leave
      → IsSettled title standing.end standing.count standing.chain later may_leave × (recovered later ≡ recovered file)
  read_settles later may_leave cut within only =
      trimmed title (recovered file) file standing.end read.titled read.stands read.end_is later standing.chain standing.count may_leave
      (cut ∙ ap (λ (f : List ℕ). take (standing.end + 8) f) (sym is)) read.count_is read.chain_is within only

-- ---- a journal that is begun

pub begun_settled : (title : Title) (seen chain : List ℕ) (may_leave : List ℕ → Type 0) → length title.header ≡ header_len → seen ≡ title.header ++ shut_gate
    → chain ≡ start title → Only seen may_leave → IsSettled title 40 0 chain seen may_leave × (recovered seen ≡ [])
begun_settled title seen chain may_leave sized is starts only =
    let none : recovered seen ≡ [] = ap recovered is ∙ journal_recovered title [] [] sized tt in (
      record {
        titled = sized;
        is = is ∙ ap (λ (ts : List (List ℕ)). journal title ts shut_gate) (sym none);
        short = subst AreShort (sym none) tt;
        last = omega (arith, ap length is, sized, length-append title.header shut_gate);
        within = omega arith;
        counts = ap length (sym none);
        chain_is = starts ∙ ap (chained (start title)) (sym none);
        durable = only;
      },
      none,
    )
