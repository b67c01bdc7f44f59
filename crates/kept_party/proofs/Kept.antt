-- What a file keeps over its lives.
use Rattle.std.proofs.Common.{◌≡◌, ◌∙◌, ℕ, List, [], ◌∷◌, ◌++◌, length, refl, sym, ap, subst, arith, append_assoc, length-append, ⊎_elim}
use Rattle.std.proofs.lemmas.List.{append-nil}
use Rattle.ar_base.specs.Prefixes.{BeginsWith}
use Rattle.ar_base.proofs.Prefixes.{begins_itself, begins_on}
use Rattle.kept_journal.proofs.Loading.{not_bad}
use Rattle.kept_journal.proofs.Rereading.{stands_recovered}
use Rattle.kept_journal.specs.Journal.{Stands, recovered}
use Rattle.kept_journal.specs.Replays.{IsBad, ReachesBy}
use Rattle.kept_party.specs.Lives.{Lead, LeavesFile, Life}
use Rattle.kept_party.specs.Taking.{Becomes, EndsWith}

-- ---- texts

module _ (mark : List ℕ) (marked : length mark ≡ 8) where
  life-begins : (texts : List (List ℕ)) (life : Life) → LeavesFile mark texts life → BeginsWith (recovered life.left) (texts ++ life.answered)
  life-begins texts life leaves = ⊎_elim
      (λ stands. ([], stands_recovered mark life.left (texts ++ life.answered) marked stands ∙ sym (append-nil (texts ++ life.answered))))
      (λ more. (more.0 ∷ [], stands_recovered mark life.left ((texts ++ life.answered) ++ more.0 ∷ []) marked more.1))
      leaves

  lead-begins : (lives : List Life) (texts last : List (List ℕ)) → Lead mark texts lives last → BeginsWith last texts
  lead-begins [] texts last lead = subst (λ (l : List (List ℕ)). BeginsWith l texts) (sym lead) (begins_itself texts)
  lead-begins (life ∷ lives) texts last lead =
      let one = life-begins texts life lead.0 in
      let mine : BeginsWith (recovered life.left) texts =
      (life.answered ++ one.0, one.1 ∙ append_assoc texts life.answered one.0) in
      begins_on texts (recovered life.left) last (lead-begins lives (recovered life.left) last lead.1) mine

  pub answered_kept : (texts answered last : List (List ℕ)) (left : List ℕ) (lives : List Life)
      → Lead mark texts (record { answered = answered; left = left } ∷ lives) last → BeginsWith last (texts ++ answered)
  answered_kept texts answered last left lives lead =
      begins_on (texts ++ answered) (recovered left) last (lead-begins lives (recovered left) last lead.1)
      (life-begins texts (record { answered = answered; left = left }) lead.0)

-- ---- what a party becomes

module _ {P : Type 0} (takes : P → List ℕ → P → Type 0) where
  -- what it becomes by texts it becomes by the first of them, and then by the others
  pub replays_split : (xs ys : List (List ℕ)) (first last : P) → ReachesBy takes first (xs ++ ys) last
      → (mid : P) × ReachesBy takes first xs mid × ReachesBy takes mid ys last
  replays_split [] ys first last replays = (first, refl, replays)
  replays_split (x ∷ xs) ys first last replays =
      let rest = replays_split xs ys replays.0 last replays.2 in
      (rest.0, (replays.0, replays.1, rest.1), rest.2)

  -- where each text keeps something, texts one behind the other keep it
  pub replays_keep : (Keeps : P → P → Type 0) → ((party : P) → Keeps party party) → ((a b c : P) → Keeps a b → Keeps b c → Keeps a c)
      → ((party later : P) (text : List ℕ) → takes party text later → Keeps party later)
      → (texts : List (List ℕ)) (first last : P) → ReachesBy takes first texts last → Keeps first last
  replays_keep Keeps none both each [] first last replays = subst (λ (p : P). Keeps first p) (sym replays) (none first)
  replays_keep Keeps none both each (text ∷ texts) first last replays =
      both first replays.0 last (each first replays.0 text replays.1) (replays_keep Keeps none both each texts replays.0 last replays.2)

module _ {P : Type 0} (takes : P → List ℕ → P → Type 0) (determined : (party one other : P) (text : List ℕ) → takes party text one → takes party text other → one ≡ other) where
  -- there is one thing that it becomes by them
  pub one_replay : (xs : List (List ℕ)) (first one other : P) → ReachesBy takes first xs one → ReachesBy takes first xs other → one ≡ other
  one_replay [] first one other a b = a ∙ sym b
  one_replay (x ∷ xs) first one other a b =
      let mid : a.0 ≡ b.0 = determined first a.0 b.0 x a.1 b.1 in
      one_replay xs b.0 one other (subst (λ (p : P). ReachesBy takes p xs one) mid a.2) b.2

-- ---- what it did

ends-same : (xs ys : List (List ℕ)) (a b : List ℕ) → xs ++ a ∷ [] ≡ ys ++ b ∷ [] → (ys ≡ xs) × (b ≡ a)
ends-same [] [] a b e = (refl, cc)
ends-same [] (y ∷ ys) a b e = absurd (omega (arith, ap length e, length-append ys (b ∷ [])))
ends-same (x ∷ xs) [] a b e = absurd (omega (arith, ap length e, length-append xs (a ∷ [])))
ends-same (x ∷ xs) (y ∷ ys) a b e =
    let tails : xs ++ a ∷ [] ≡ ys ++ b ∷ [] = cc in
    let heads : y ≡ x = cc in
    let rest = ends-same xs ys a b tails in
    (ap (λ (h : List ℕ). h ∷ ys) heads ∙ ap (λ (t : List (List ℕ)). x ∷ t) rest.0, rest.1)

module _ {P R : Type 0} (takes : P → List ℕ → R → P → Type 0)
    (determined : (party one other : P) (text : List ℕ) (reply said : R) → takes party text reply one → takes party text said other → (reply ≡ said) × (one ≡ other)) where
  becomes-one : (party one other : P) (text : List ℕ) → Becomes takes party text one → Becomes takes party text other → one ≡ other
  becomes-one party one other text a b = (determined party one other text a.0 b.0 a.1 b.1).1

  -- a party that took these texts, and then this one, went on from where that led, whatever it took since
  went-on : (front more final : List (List ℕ)) (text : List ℕ) (first before after last : P) (reply : R) → ReachesBy (Becomes takes) first front before
      → takes before text reply after → BeginsWith final (front ++ (text ∷ more)) → ReachesBy (Becomes takes) first final last
      → (since : List (List ℕ)) × ReachesBy (Becomes takes) after since last
  went-on front more final text first before after last reply replays taken begins at_end =
      let is : final ≡ front ++ (text ∷ (more ++ begins.0)) = begins.1 ∙ append_assoc front (text ∷ more) begins.0 in
      let split = replays_split (Becomes takes) front (text ∷ (more ++ begins.0)) first last
      (subst (λ (ts : List (List ℕ)). ReachesBy (Becomes takes) first ts last) is at_end) in
      let same : split.0 ≡ before = one_replay (Becomes takes) becomes-one front first split.0 before split.1 replays in
      let there : Becomes takes before text split.2.0 = subst (λ (p : P). Becomes takes p text split.2.0) same split.2.1 in
      let next : split.2.0 ≡ after = becomes-one before split.2.0 after text there (reply, taken) in
      (more ++ begins.0, subst (λ (p : P). ReachesBy (Becomes takes) p (more ++ begins.0) last) next split.2.2)

  pub done_kept : (mark : List ℕ) (first before after last : P) (texts answered more : List (List ℕ)) (text : List ℕ) (reply : R)
      (left : List ℕ) (lives : List Life) (final : List (List ℕ)) → length mark ≡ 8 → ReachesBy (Becomes takes) first (texts ++ answered) before
      → takes before text reply after → Lead mark texts (record { answered = answered ++ (text ∷ more); left = left } ∷ lives) final
      → ReachesBy (Becomes takes) first final last → (since : List (List ℕ)) × ReachesBy (Becomes takes) after since last
  done_kept mark first before after last texts answered more text reply left lives final marked replays taken lead at_end =
      let begins = answered_kept mark marked texts (answered ++ (text ∷ more)) final left lives lead in
      went-on (texts ++ answered) more final text first before after last reply replays taken
      (begins.0, begins.1 ∙ ap (λ (ts : List (List ℕ)). ts ++ begins.0) (sym (append_assoc texts answered (text ∷ more)))) at_end

  -- there is one reply to the last of texts, and one thing that the party is behind it
  pub replied_once : (first before after last : P) (texts : List (List ℕ)) (text : List ℕ) (reply again : R) → ReachesBy (Becomes takes) first texts before
      → takes before text reply after → EndsWith takes first (texts ++ text ∷ []) again last → (again ≡ reply) × (last ≡ after)
  replied_once first before after last texts text reply again replays taken ends =
      let same_ends = ends-same texts ends.front text ends.text ends.are in
      let led : ReachesBy (Becomes takes) first texts ends.before = subst (λ (ts : List (List ℕ)). ReachesBy (Becomes takes) first ts ends.before) same_ends.0 ends.replays in
      let same : ends.before ≡ before = one_replay (Becomes takes) becomes-one texts first ends.before before led replays in
      determined before last after text again reply
      (subst (λ (p : P). takes p text again last) same (subst (λ (t : List ℕ). takes ends.before t again last) same_ends.1 ends.taken)) taken

  pub file_not_bad : (mark file : List ℕ) (texts : List (List ℕ)) (first last : P) (place : ℕ) → Stands mark texts file → ReachesBy (Becomes takes) first texts last
      → ¬ IsBad (Becomes takes) mark first file place
  file_not_bad = not_bad (Becomes takes) becomes-one
