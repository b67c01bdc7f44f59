-- A file that stands for texts which a party takes is not refused.
use Rattle.std.proofs.Common.{◌≡◌, ⊎_elim, ℕ, ◌≤◌, ◌==◌, List, [], ◌∷◌, ◌++◌, length, take, drop, refl, sym, ◌∙◌, ap, subst, arith, append_assoc, length-append, take-append-drop, Bool, true, false}
use Rattle.std.specs.List.{list_all}
use Rattle.std.proofs.lemmas.Bool.{and_parts}
use Rattle.chained_journal.specs.Journal.{AreShort, Stands, chained, header_len, link, open_gate, opens, record_text, records, shut_gate, start}
use Rattle.chained_journal.specs.Refusals.{BearsOut, HasUnsureGate, IsBlank, IsBroken, IsNoJournal, IsOfAnother, IsOlder, IsPiece, Refusal, least}
use Rattle.chained_journal.specs.Replays.{ReachesBefore, ReachesBy, has_more}
use Rattle.chained_journal.specs.declared.fault.OpenFault.{OpenFault}
use Rattle.chained_journal.specs.declared.fault.OpenFault.TheVariants as faults
use Rattle.chained_journal.specs.declared.title.Title.{Title}
use Rattle.chained_journal.specs.declared.title.Witness.{Witness}
use Rattle.chained_journal.proofs.Readings.{behind-open, in_journal, more-parts, one_reading, shut_ends, stands_once, torn_ends, unsure_ends, whole_gate}
use Rattle.chained_journal.proofs.Rereading.{journal-length}
use Rattle.chained_journal.proofs.Splits.{fronts, one_record}

-- ---- by form

all_front : (p : ℕ → Bool) (xs ys : List ℕ) → list_all p (xs ++ ys) ≡ true → list_all p xs ≡ true
all_front p [] ys all = refl
all_front p (x ∷ xs) ys all =
    let parts = and_parts (p x) (list_all p (xs ++ ys)) all in
    rw parts.0 (all_front p xs ys parts.1)

module _ (title : Title) (texts : List (List ℕ)) (file : List ℕ) (sized : length title.header ≡ header_len) (stands : Stands title texts file) where
  rest : List ℕ
  rest = records (start title) texts ++ (shut_gate ++ stands.behind)

  pub not_blank : list_all (λ byte. byte == 0) title.header ≡ false → ¬ IsBlank file
  not_blank some blank =
      let zeros : list_all (λ byte. byte == 0) (title.header ++ (records (start title) texts ++ (shut_gate ++ stands.behind))) ≡ true =
      ap (list_all (λ byte. byte == 0)) (sym stands.is) ∙ blank.zeros in
      let front : list_all (λ byte. byte == 0) title.header ≡ true = all_front (λ byte. byte == 0) title.header (records (start title) texts ++ (shut_gate ++ stands.behind)) zeros in
      absurd cc

  pub long_enough : least ≤ length file
  long_enough = omega (arith, ap length stands.is, journal-length title texts (shut_gate ++ stands.behind) sized)

  pub not_piece : ¬ IsPiece file
  not_piece piece = absurd (omega (arith, piece.small, long_enough))

  pub not_no_journal : ¬ IsNoJournal title file
  not_no_journal other =
      other.other (drop 8 title.header ++ (records (start title) texts ++ (shut_gate ++ stands.behind)))
      (stands.is ∙ ap (λ (l : List ℕ). l ++ (records (start title) texts ++ (shut_gate ++ stands.behind))) (sym (take-append-drop 8 title.header))
      ∙ append_assoc (take 8 title.header) (drop 8 title.header) (records (start title) texts ++ (shut_gate ++ stands.behind)))

  pub not_of_another : ¬ IsOfAnother title file
  not_of_another other = other.other (records (start title) texts ++ (shut_gate ++ stands.behind)) stands.is

  pub not_broken : (place : ℕ) → ¬ IsBroken title file place
  not_broken place broken =
      let one = one_reading (start title) texts broken.texts (shut_gate ++ stands.behind) (open_gate ++ broken.behind) stands.short broken.short (whole_gate stands.behind) (omega arith)
      (shut_ends (chained (start title) texts) stands.behind) (torn_ends (chained (start title) broken.texts) broken.behind broken.none)
      (in_journal title texts broken.texts (shut_gate ++ stands.behind) (open_gate ++ broken.behind) file stands.is broken.is) in
      absurd (let same : shut_gate ++ stands.behind ≡ open_gate ++ broken.behind = one.rest in cc)

  pub not_unsure : (place : ℕ) → ¬ HasUnsureGate title file place
  not_unsure place torn =
      let one = one_reading (start title) texts torn.texts (shut_gate ++ stands.behind) (torn.gate ++ torn.behind) stands.short torn.short (whole_gate stands.behind)
      (omega (arith, torn.unsure.size, length-append torn.gate torn.behind))
      (shut_ends (chained (start title) texts) stands.behind) (unsure_ends (chained (start title) torn.texts) torn.gate torn.behind torn.unsure)
      (in_journal title texts torn.texts (shut_gate ++ stands.behind) (torn.gate ++ torn.behind) file stands.is torn.is) in
      torn.unsure.not_shut (fronts torn.gate shut_gate torn.behind stands.behind torn.unsure.size (sym one.rest))

  pub not_older : (witness : Witness) (count : ℕ) → BearsOut title witness texts → ¬ IsOlder title witness file count
  not_older witness count borne older =
      older.other (subst (BearsOut title witness) (stands_once title texts older.texts file stands older.stands) borne)

-- ---- by what the party takes

more-true : (texts : List (List ℕ)) → has_more texts true ≡ true
more-true [] = refl
more-true (t ∷ texts) = refl

opens-more : (chain : List ℕ) (texts : List (List ℕ)) (behind : List ℕ) → opens (records chain texts ++ (shut_gate ++ behind)) ≡ has_more texts false
opens-more chain [] behind = refl
opens-more chain (t ∷ texts) behind = refl

module _ {P : Type 0} (takes : P → List ℕ → Bool → P → Type 0)
    (determined : (party one other : P) (text : List ℕ) (more : Bool) → takes party text more one → takes party text more other → one ≡ other) where
  never_stuck : (chain : List ℕ) (first last party : P) (texts before : List (List ℕ)) (text b behind : List ℕ) → AreShort texts → AreShort (before ++ text ∷ [])
      → ReachesBefore takes false first texts last → ReachesBefore takes true first before party → ((later : P) → ¬ takes party text (opens behind) later)
      → records chain texts ++ (shut_gate ++ b) ≡ records chain (before ++ text ∷ []) ++ behind → ⊥
  never_stuck chain first last party [] [] text b behind short fits replays reached stuck is =
      absurd (let same : shut_gate ++ b ≡ open_gate ++ (record_text chain text ++ behind) = is ∙ more-parts chain text [] behind in cc)
  never_stuck chain first last party [] (x ∷ xs) text b behind short fits replays reached stuck is =
      absurd (let same : shut_gate ++ b ≡ open_gate ++ (record_text chain x ++ (records (link chain x) (xs ++ text ∷ []) ++ behind)) = is ∙ more-parts chain x (xs ++ text ∷ []) behind in cc)
  never_stuck chain first last party (u ∷ us) [] text b behind short fits replays reached stuck is =
      let both : record_text chain u ++ (records (link chain u) us ++ (shut_gate ++ b)) ≡ record_text chain text ++ behind =
      behind-open _ _ (sym (more-parts chain u us (shut_gate ++ b)) ∙ is ∙ more-parts chain text [] behind) in
      let one = one_record chain u text (records (link chain u) us ++ (shut_gate ++ b)) behind short.0 fits.0 both in
      let flag : has_more us false ≡ opens behind = sym (opens-more (link chain u) us b) ∙ ap opens one.rest in
      stuck replays.0
      (subst (λ (p : P). takes p text (opens behind) replays.0) (sym reached)
      (subst (λ (m : Bool). takes first text m replays.0) flag
      (subst (λ (t : List ℕ). takes first t (has_more us false) replays.0) one.text replays.1)))
  never_stuck chain first last party (u ∷ []) (x ∷ xs) text b behind short fits replays reached stuck is =
      let both : record_text chain u ++ (shut_gate ++ b) ≡ record_text chain x ++ (records (link chain x) (xs ++ text ∷ []) ++ behind) =
      behind-open _ _ (sym (more-parts chain u [] (shut_gate ++ b)) ∙ is ∙ more-parts chain x (xs ++ text ∷ []) behind) in
      let one = one_record chain u x (shut_gate ++ b) (records (link chain x) (xs ++ text ∷ []) ++ behind) short.0 fits.0 both in
      never-open xs one.rest
    where
      never-open : (ys : List (List ℕ)) → shut_gate ++ b ≡ records (link chain x) (ys ++ text ∷ []) ++ behind → ⊥
      never-open [] e = absurd cc
      never-open (y ∷ ys) e = absurd cc
  never_stuck chain first last party (u ∷ (v ∷ vs)) (x ∷ xs) text b behind short fits replays reached stuck is =
      let us : List (List ℕ) = v ∷ vs in
      let both : record_text chain u ++ (records (link chain u) (v ∷ vs) ++ (shut_gate ++ b)) ≡ record_text chain x ++ (records (link chain x) (xs ++ text ∷ []) ++ behind) =
      behind-open _ _ (sym (more-parts chain u (v ∷ vs) (shut_gate ++ b)) ∙ is ∙ more-parts chain x (xs ++ text ∷ []) behind) in
      let one = one_record chain u x (records (link chain u) (v ∷ vs) ++ (shut_gate ++ b)) (records (link chain x) (xs ++ text ∷ []) ++ behind) short.0 fits.0 both in
      let on : records (link chain u) (v ∷ vs) ++ (shut_gate ++ b) ≡ records (link chain u) (xs ++ text ∷ []) ++ behind =
      one.rest ∙ ap (λ (t : List ℕ). records (link chain t) (xs ++ text ∷ []) ++ behind) (sym one.text) in
      let step : takes first u true reached.0 =
      subst (λ (m : Bool). takes first u m reached.0) (more-true xs) (subst (λ (t : List ℕ). takes first t (has_more xs true) reached.0) (sym one.text) reached.1) in
      let mid : reached.0 ≡ replays.0 = determined first reached.0 replays.0 u true step replays.1 in
      never_stuck (link chain u) replays.0 last party (v ∷ vs) xs text b behind short.1 fits.1 replays.2
      (subst (λ (p : P). ReachesBefore takes true p xs party) mid reached.2) stuck on

  pub never_refused : (title : Title) (witness : Witness) (texts : List (List ℕ)) (file : List ℕ) (first last : P) (e : OpenFault) → length title.header ≡ header_len
      → list_all (λ byte. byte == 0) title.header ≡ false → Stands title texts file → BearsOut title witness texts → ReachesBy takes first texts last
      → Refusal takes title witness first file e → e ≡ faults.Memory
  never_refused title witness texts file first last faults.NotBegun sized some stands borne replays is = absurd (not_blank title texts file sized stands some is)
  never_refused title witness texts file first last faults.NotJournal sized some stands borne replays is = absurd (not_no_journal title texts file sized stands is)
  never_refused title witness texts file first last faults.NotOwn sized some stands borne replays is = absurd (not_of_another title texts file sized stands is)
  never_refused title witness texts file first last (faults.Damaged place) sized some stands borne replays is =
      absurd (⊎_elim (λ (piece : (place ≡ 0) × IsPiece file). not_piece title texts file sized stands piece.1) (λ (broken : IsBroken title file place). not_broken title texts file sized stands place broken) is)
  never_refused title witness texts file first last (faults.Unsure place) sized some stands borne replays is = absurd (not_unsure title texts file sized stands place is)
  never_refused title witness texts file first last (faults.NotTaken place) sized some stands borne replays is =
      absurd (never_stuck (start title) first last is.party texts is.texts is.text stands.behind is.behind stands.short is.short replays is.reached is.stuck
      (in_journal title texts (is.texts ++ is.text ∷ []) (shut_gate ++ stands.behind) is.behind file stands.is is.is))
  never_refused title witness texts file first last (faults.Older count) sized some stands borne replays is = absurd (not_older title texts file sized stands witness count borne is)
  never_refused title witness texts file first last faults.Memory sized some stands borne replays is = refl
  never_refused title witness texts file first last faults.DiskFault sized some stands borne replays is = absurd is
