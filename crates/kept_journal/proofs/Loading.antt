-- A party takes the texts of a file, one behind the other.
use Rattle.std.proofs.Common.{◌≡◌, ◌≢◌, ℕ, ◌+◌, ◌-◌, ◌<◌, ◌≤◌, ◌^◌, List, [], ◌∷◌, ◌++◌, length, drop, refl, sym, ◌∙◌, ap, subst, arith, append_assoc, length-append, length-drop, Option, Some, None, ⊎_elim}
use Rattle.std.proofs.lemmas.List.{append_cancel_left, append-nil}
use Rattle.std.specs.Int.{w32}
use Rattle.ar_bytes.proofs.Passing.{length-number_text}
use Rattle.ar_bytes.specs.RoundTrip.{number_text}
use Rattle.kept_journal.specs.Journal.{AreShort, IsJournal, Stands, journal, record_in, record_text, records, recovered}
use Rattle.kept_journal.specs.Loaded.{IsLoaded}
use Rattle.kept_journal.specs.Replays.{IsBad, IsStuck, ReachesBy}
use Rattle.kept_journal.proofs.Rereading.{fewer, journal_recovered, record_reads, some-behind}
use Rattle.kept_journal.proofs.Stages.{records-push, short-push}

same-pair : (a b : List ℕ × List ℕ) → ◌≡◌ {A = Option (List ℕ × List ℕ)} (Some a) (Some b) → a ≡ b
same-pair a b e = cc

length-record : (text : List ℕ) → length (record_text text) ≡ 4 + length text
length-record text = omega (arith, length-append (number_text w32 (length text)) text, length-number_text w32 (length text))

pub length-push : (texts : List (List ℕ)) (text : List ℕ) → length (records (texts ++ text ∷ [])) ≡ length (records texts) + (5 + length text)
length-push texts text =
    let whole : records (texts ++ text ∷ []) ≡ records texts ++ 1 ∷ (record_text text ++ []) = sym (append-nil (records (texts ++ text ∷ []))) ∙ records-push texts text [] in
    ap length whole
    ∙ omega (arith, length-append (records texts) (1 ∷ (record_text text ++ [])), length-append (record_text text) [], length-record text)

module _ {P : Type 0} (takes : P → List ℕ → P → Type 0) where
  pub replays-push : (first : P) (texts : List (List ℕ)) (text : List ℕ) (mid last : P) → ReachesBy takes first texts mid → takes mid text last
      → ReachesBy takes first (texts ++ text ∷ []) last
  replays-push first [] text mid last replays step = (last, subst (λ (p : P). takes p text last) replays step, refl)
  replays-push first (t ∷ texts) text mid last replays step = (replays.0, replays.1, replays-push replays.0 texts text mid last replays.2 step)

  -- The party took these texts, and the file goes on with these bytes.
  pub record IsReading (mark file : List ℕ) (first party : P) (rest : List ℕ) (end count : ℕ) : Type 0 where
    pub texts : List (List ℕ)
    pub short : AreShort texts
    pub is : file ≡ mark ++ (records texts ++ rest)
    pub some : 0 < length rest
    pub end_is : end ≡ 8 + length (records texts)
    pub count_is : count ≡ length texts
    pub replays : ReachesBy takes first texts party

  module _ (mark file : List ℕ) (first : P) (marked : length mark ≡ 8) where
    pub begins_reading : file ≡ mark ++ drop 8 file → 9 < length file → IsReading mark file first first (drop 8 file) 8 0
    begins_reading is long = record {
      texts = [];
      short = tt;
      is = is;
      some = omega (arith, long, length-drop 8 file);
      end_is = refl;
      count_is = refl;
      replays = refl;
    }

    pub reads_on : (party later : P) (rest text behind : List ℕ) (end count : ℕ) → IsReading mark file first party rest end count
        → rest ≡ 1 ∷ (record_text text ++ behind) → 0 < length behind → length text < 2 ^ 32 → takes party text later
        → IsReading mark file first later behind (end + (length text + 5)) (count + 1)
    reads_on party later rest text behind end count so_far rest-is some fits step = record {
      texts = so_far.texts ++ text ∷ [];
      short = short-push so_far.texts text so_far.short fits;
      is = so_far.is ∙ ap (λ (l : List ℕ). mark ++ (records so_far.texts ++ l)) rest-is ∙ ap (λ (l : List ℕ). mark ++ l) (sym (records-push so_far.texts text behind));
      some = some;
      end_is = omega (arith, so_far.end_is, length-push so_far.texts text);
      count_is = omega (arith, so_far.count_is, length-append so_far.texts (text ∷ []));
      replays = replays-push first so_far.texts text party later so_far.replays step;
    }

    pub few_read : (party : P) (rest : List ℕ) (end count : ℕ) → IsReading mark file first party rest end count → count + 8 ≤ end
    few_read party rest end count so_far = omega (arith, so_far.count_is, so_far.end_is, fewer so_far.texts)

    -- how many bytes there are
    pub within_file : (party : P) (rest : List ℕ) (end count : ℕ) → IsReading mark file first party rest end count → end + length rest ≡ length file
    within_file party rest end count so_far =
        omega (arith, marked, so_far.end_is, ap length so_far.is, length-append mark (records so_far.texts ++ rest), length-append (records so_far.texts) rest)

    pub length_rest : (rest text behind : List ℕ) → rest ≡ 1 ∷ (record_text text ++ behind) → length rest ≡ length text + 5 + length behind
    length_rest rest text behind is = ap length is ∙ omega (arith, length-append (record_text text) behind, length-record text)

    pub ends_reading : (party : P) (rest behind : List ℕ) (gate end count : ℕ) → IsReading mark file first party rest end count
        → rest ≡ gate ∷ behind → gate ≢ 1 → IsLoaded takes first party mark file (record { mark = mark; end = end; count = count })
    ends_reading party rest behind gate end count so_far rest-is shut =
        let is : file ≡ journal mark so_far.texts gate behind = so_far.is ∙ ap (λ (l : List ℕ). mark ++ (records so_far.texts ++ l)) rest-is in
        let same : recovered file ≡ so_far.texts = ap recovered is ∙ journal_recovered mark so_far.texts gate behind marked so_far.short shut in
        record {
          mark_is = refl;
          journal = subst (λ (ts : List (List ℕ)). IsJournal mark ts file) (sym same) (record { gate = gate; behind = behind; shut = shut; is = is });
          short = subst AreShort (sym same) so_far.short;
          end_is = so_far.end_is ∙ ap (λ (ts : List (List ℕ)). 8 + length (records ts)) (sym same);
          count_is = so_far.count_is ∙ ap length (sym same);
          replays = subst (λ (ts : List (List ℕ)). ReachesBy takes first ts party) (sym same) so_far.replays;
        }

    pub is_bad : (party : P) (rest behind : List ℕ) (end count : ℕ) → IsReading mark file first party rest end count → 9 < length file
        → rest ≡ 1 ∷ behind → IsStuck takes party (record_in behind) → IsBad takes mark first file end
    is_bad party rest behind end count so_far long rest-is stuck = record {
      texts = so_far.texts;
      behind = behind;
      party = party;
      long = long;
      short = so_far.short;
      is = so_far.is ∙ ap (λ (l : List ℕ). mark ++ (records so_far.texts ++ l)) rest-is;
      place_is = so_far.end_is;
      reached = so_far.replays;
      stuck = stuck;
    }

    -- a record that is whole, and is not taken
    pub is_refused : (party : P) (text rest : List ℕ) → length text < 2 ^ 32 → 0 < length rest → ((later : P) → ¬ takes party text later)
        → (behind : List ℕ) → behind ≡ record_text text ++ rest → IsStuck takes party (record_in behind)
    is_refused party text rest fits some refused behind is =
        subst (λ (o : Option (List ℕ × List ℕ)). IsStuck takes party o) (sym (ap record_in is ∙ record_reads text rest fits some)) refused

    pub is_broken : (party : P) (behind : List ℕ) → record_in behind ≡ None → IsStuck takes party (record_in behind)
    is_broken party behind none = subst (λ (o : Option (List ℕ × List ℕ)). IsStuck takes party o) (sym none) tt

  -- ---- a file that can be replayed is not refused

  module _ (determined : (party one other : P) (text : List ℕ) → takes party text one → takes party text other → one ≡ other) where
    same-front : (first last party : P) (texts before : List (List ℕ)) (gate : ℕ) (shut_behind behind : List ℕ) → gate ≢ 1 → AreShort texts → AreShort before
        → ReachesBy takes first texts last → ReachesBy takes first before party → IsStuck takes party (record_in behind)
        → records before ++ 1 ∷ behind ≡ records texts ++ gate ∷ shut_behind → ⊥
    same-front first last party [] [] gate shut_behind behind shut short fits replays reached stuck is = shut (let one : 1 ≡ gate = cc in sym one)
    same-front first last party [] (x ∷ xs) gate shut_behind behind shut short fits replays reached stuck is = shut (let one : 1 ≡ gate = cc in sym one)
    same-front first last party (t ∷ ts) [] gate shut_behind behind shut short fits replays reached stuck is =
        let rest : List ℕ = records ts ++ gate ∷ shut_behind in
        let tail : behind ≡ (record_text t ++ records ts) ++ gate ∷ shut_behind = cc in
        let read : record_in behind ≡ Some (t, rest) =
        ap record_in (tail ∙ append_assoc (record_text t) (records ts) (gate ∷ shut_behind)) ∙ record_reads t rest short.0 (some-behind ts gate shut_behind) in
        let never : (later : P) → ¬ takes party t later = subst (λ (o : Option (List ℕ × List ℕ)). IsStuck takes party o) read stuck in
        never replays.0 (subst (λ (p : P). takes p t replays.0) (sym reached) replays.1)
    same-front first last party (t ∷ ts) (x ∷ xs) gate shut_behind behind shut short fits replays reached stuck is =
        let rest : List ℕ = records ts ++ gate ∷ shut_behind in
        let other : List ℕ = records xs ++ 1 ∷ behind in
        let tails : (record_text x ++ records xs) ++ 1 ∷ behind ≡ (record_text t ++ records ts) ++ gate ∷ shut_behind = cc in
        let read : record_in ((record_text t ++ records ts) ++ gate ∷ shut_behind) ≡ Some (t, rest) =
        ap record_in (append_assoc (record_text t) (records ts) (gate ∷ shut_behind)) ∙ record_reads t rest short.0 (some-behind ts gate shut_behind) in
        let read_x : record_in ((record_text x ++ records xs) ++ 1 ∷ behind) ≡ Some (x, other) =
        ap record_in (append_assoc (record_text x) (records xs) (1 ∷ behind)) ∙ record_reads x other fits.0 (some-behind xs 1 behind) in
        let both : (x, other) ≡ (t, rest) = same-pair (x, other) (t, rest) (sym read_x ∙ ap record_in tails ∙ read) in
        let text : x ≡ t = ap (λ (p : List ℕ × List ℕ). p.0) both in
        let rests : other ≡ rest = ap (λ (p : List ℕ × List ℕ). p.1) both in
        let mid : reached.0 ≡ replays.0 = determined first reached.0 replays.0 t (subst (λ (y : List ℕ). takes first y reached.0) text reached.1) replays.1 in
        same-front replays.0 last party ts xs gate shut_behind behind shut short.1 fits.1 replays.2
        (subst (λ (p : P). ReachesBy takes p xs party) mid reached.2) stuck rests

    pub not_bad : (mark file : List ℕ) (texts : List (List ℕ)) (first last : P) (place : ℕ) → Stands mark texts file → ReachesBy takes first texts last
        → ¬ IsBad takes mark first file place
    not_bad mark file texts first last place stands replays bad = ⊎_elim
        (λ short. absurd (omega (arith, short.0, bad.long)))
        (λ is. same-front first last bad.party texts bad.texts is.gate is.behind bad.behind is.shut stands.0 bad.short replays bad.reached bad.stuck
        (append_cancel_left mark (records bad.texts ++ 1 ∷ bad.behind) (records texts ++ is.gate ∷ is.behind) (sym bad.is ∙ is.is)))
        stands.1
