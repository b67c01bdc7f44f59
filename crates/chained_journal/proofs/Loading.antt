-- A party takes the texts of a file, one behind the other.
use Rattle.std.proofs.Common.{◌≡◌, ◌⊎◌, ⊎_elim, ℕ, ◌+◌, ◌<◌, ◌≤◌, List, [], ◌∷◌, ◌++◌, length, take, refl, sym, ◌∙◌, ap, subst, arith, length-append, Bool, true}
use Rattle.std.proofs.lemmas.Bool.{cases_lt}
use Rattle.std.proofs.lemmas.List.{append-nil, take_all, take-append-le}
use Rattle.chained_journal.specs.Journal.{AreShort, IsShort, chained, header_len, journal, link, open_gate, opens, record_len, record_text, records, start}
use Rattle.chained_journal.specs.Loaded.{IsOfRecords}
use Rattle.chained_journal.specs.Refusals.{IsNotTaken, Refusal}
use Rattle.chained_journal.specs.Replays.{ReachesBefore, has_more}
use Rattle.chained_journal.specs.declared.fault.OpenFault.{OpenFault}
use Rattle.chained_journal.specs.declared.fault.OpenFault.TheVariants as faults
use Rattle.chained_journal.specs.declared.title.Title.{Title}
use Rattle.chained_journal.specs.declared.title.Witness.{Witness}
use Rattle.chained_journal.proofs.Journals.{chained-push, records-push, short-push}
use Rattle.chained_journal.proofs.Rereading.{fewer}
use Rattle.chained_journal.proofs.Splits.{length-record}

pub length-push : (chain : List ℕ) (texts : List (List ℕ)) (text : List ℕ) → length (records chain (texts ++ text ∷ [])) ≡ length (records chain texts) + (8 + record_len (length text))
length-push chain texts text =
    let last : List ℕ = record_text (chained chain texts) text in
    let whole : records chain (texts ++ text ∷ []) ≡ records chain texts ++ (open_gate ++ (last ++ [])) =
    sym (append-nil (records chain (texts ++ text ∷ []))) ∙ records-push chain texts text [] in
    ap length whole
    ∙ omega (arith, length-append (records chain texts) (open_gate ++ (last ++ [])), length-append open_gate (last ++ []), length-append last [], length-record (chained chain texts) text)

more-same : (texts : List (List ℕ)) (text : List ℕ) (more : Bool) → has_more texts true ≡ has_more (texts ++ text ∷ []) more
more-same [] text more = refl
more-same (t ∷ texts) text more = refl

module _ {P : Type 0} (takes : P → List ℕ → Bool → P → Type 0) where
  pub replays-push : (first : P) (texts : List (List ℕ)) (text : List ℕ) (more : Bool) (mid last : P) → ReachesBefore takes true first texts mid → takes mid text more last
      → ReachesBefore takes more first (texts ++ text ∷ []) last
  replays-push first [] text more mid last replays step = (last, subst (λ (p : P). takes p text more last) replays step, refl)
  replays-push first (t ∷ texts) text more mid last replays step =
      (replays.0, subst (λ (b : Bool). takes first t b replays.0) (more-same texts text more) replays.1, replays-push replays.0 texts text more mid last replays.2 step)

  -- The party took these texts, and the file goes on with these bytes.
  pub record IsReading (title : Title) (witnessed : ℕ) (file : List ℕ) (first party : P) (rest : List ℕ) (end count : ℕ) (chain at_witness : List ℕ) : Type 0 where
    pub texts : List (List ℕ)
    pub short : AreShort texts
    pub is : file ≡ journal title texts rest
    pub some : 8 ≤ length rest
    pub end_is : end ≡ header_len + length (records (start title) texts)
    pub count_is : count ≡ length texts
    pub chain_is : chain ≡ chained (start title) texts
    pub at_is : at_witness ≡ chained (start title) (take witnessed texts)
    pub replays : ReachesBefore takes (opens rest) first texts party

  module _ (title : Title) (witnessed : ℕ) (file : List ℕ) (first : P) where
    -- the chain of as many as were witnessed, with one text more
    later-at : (texts : List (List ℕ)) (text : List ℕ) (count : ℕ) (chain at_witness new : List ℕ) → count ≡ length texts → chain ≡ chained (start title) texts
        → at_witness ≡ chained (start title) (take witnessed texts) → (count < witnessed → new ≡ link chain text) → (witnessed ≤ count → new ≡ at_witness)
        → new ≡ chained (start title) (take witnessed (texts ++ text ∷ []))
    later-at texts text count chain at_witness new counts chain_is at_is below beyond = ⊎_elim
        (λ (lt : count < witnessed).
        below lt ∙ ap (λ (c : List ℕ). link c text) chain_is ∙ sym (chained-push (start title) texts text)
        ∙ ap (chained (start title)) (sym (take_all witnessed (texts ++ text ∷ []) (omega (arith, lt, counts, length-append texts (text ∷ []))))))
        (λ (le : witnessed ≤ count).
        beyond le ∙ at_is ∙ ap (chained (start title)) (sym (take-append-le witnessed texts (text ∷ []) (omega (arith, le, counts)))))
        (cases_lt count witnessed)

    pub reads_on : (party later : P) (rest ahead text behind : List ℕ) (end count : ℕ) (chain next at_witness new : List ℕ)
        → IsReading title witnessed file first party rest end count chain at_witness → rest ≡ open_gate ++ ahead → ahead ≡ record_text chain text ++ behind → 8 ≤ length behind
        → IsShort text → next ≡ link chain text → (count < witnessed → new ≡ next) → (witnessed ≤ count → new ≡ at_witness) → takes party text (opens behind) later
        → IsReading title witnessed file first later behind (end + (8 + record_len (length text))) (count + 1) next new
    reads_on party later rest ahead text behind end count chain next at_witness new so_far rest-is ahead-is some fits next-is below beyond step =
        let opened : opens rest ≡ true = ap opens rest-is in
        let before : ReachesBefore takes true first so_far.texts party = subst (λ (b : Bool). ReachesBefore takes b first so_far.texts party) opened so_far.replays in
        let bytes : rest ≡ open_gate ++ (record_text (chained (start title) so_far.texts) text ++ behind) =
        rest-is ∙ ap (λ (l : List ℕ). open_gate ++ l) (ahead-is ∙ ap (λ (c : List ℕ). record_text c text ++ behind) so_far.chain_is) in
        record {
          texts = so_far.texts ++ text ∷ [];
          short = short-push so_far.texts text so_far.short fits;
          is = so_far.is ∙ ap (λ (l : List ℕ). title.header ++ l)
              (ap (λ (l : List ℕ). records (start title) so_far.texts ++ l) bytes ∙ sym (records-push (start title) so_far.texts text behind));
          some = some;
          end_is = omega (arith, so_far.end_is, length-push (start title) so_far.texts text);
          count_is = omega (arith, so_far.count_is, length-append so_far.texts (text ∷ []));
          chain_is = next-is ∙ ap (λ (c : List ℕ). link c text) so_far.chain_is ∙ sym (chained-push (start title) so_far.texts text);
          at_is = later-at so_far.texts text count chain at_witness new so_far.count_is so_far.chain_is so_far.at_is (λ lt. below lt ∙ next-is) beyond;
          replays = replays-push first so_far.texts text (opens behind) party later before step;
        }

    pub few_read : (party : P) (rest : List ℕ) (end count : ℕ) (chain at_witness : List ℕ) → IsReading title witnessed file first party rest end count chain at_witness → count + 40 ≤ end
    few_read party rest end count chain at_witness so_far = omega (arith, so_far.count_is, so_far.end_is, fewer (start title) so_far.texts)

    pub is_not_taken : (party : P) (rest ahead text behind : List ℕ) (end count : ℕ) (chain at_witness : List ℕ)
        → IsReading title witnessed file first party rest end count chain at_witness → rest ≡ open_gate ++ ahead → ahead ≡ record_text chain text ++ behind → 8 ≤ length behind
        → IsShort text → ((later : P) → ¬ takes party text (opens behind) later) → IsNotTaken takes title first file end
    is_not_taken party rest ahead text behind end count chain at_witness so_far rest-is ahead-is some fits stuck =
        let opened : opens rest ≡ true = ap opens rest-is in
        let bytes : rest ≡ open_gate ++ (record_text (chained (start title) so_far.texts) text ++ behind) =
        rest-is ∙ ap (λ (l : List ℕ). open_gate ++ l) (ahead-is ∙ ap (λ (c : List ℕ). record_text c text ++ behind) so_far.chain_is) in
        record {
          texts = so_far.texts;
          text = text;
          behind = behind;
          party = party;
          short = short-push so_far.texts text so_far.short fits;
          some = some;
          is = so_far.is ∙ ap (λ (l : List ℕ). title.header ++ l)
              (ap (λ (l : List ℕ). records (start title) so_far.texts ++ l) bytes ∙ sym (records-push (start title) so_far.texts text behind));
          place_is = so_far.end_is;
          reached = subst (λ (b : Bool). ReachesBefore takes b first so_far.texts party) opened so_far.replays;
          stuck = stuck;
        }

-- ---- what a party refuses

pub replay_refused : {P : Type 0} → (takes : P → List ℕ → Bool → P → Type 0) (title : Title) (witness : Witness) (file : List ℕ) (first : P) (e : OpenFault) (place : ℕ) (Stuck : Type 0)
    → (e ≡ faults.Memory) ⊎ ((e ≡ faults.NotTaken place) × Stuck) → (Stuck → IsNotTaken takes title first file place) → Refusal takes title witness first file e
replay_refused takes title witness file first e place Stuck how here = ⊎_elim
    (λ (is : e ≡ faults.Memory). subst (λ (f : OpenFault). Refusal takes title witness first file f) (sym is) tt)
    (λ (is : (e ≡ faults.NotTaken place) × Stuck). subst (λ (f : OpenFault). Refusal takes title witness first file f) (sym is.0) (here is.1))
    how

pub of_records : (e : OpenFault) (place : ℕ) (Stuck : Type 0) → (e ≡ faults.Memory) ⊎ ((e ≡ faults.NotTaken place) × Stuck) → IsOfRecords e
of_records e place Stuck how = ⊎_elim
    (λ (is : e ≡ faults.Memory). subst IsOfRecords (sym is) tt)
    (λ (is : (e ≡ faults.NotTaken place) × Stuck). subst IsOfRecords (sym is.0) tt)
    how
