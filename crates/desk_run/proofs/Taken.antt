-- Two answers to a line that was taken by one text.
use Rattle.std.proofs.Common.{◌≡◌, ℕ, List, [], ◌∷◌, ◌++◌, Option, None, Some, Ok, Err, sym, ap, ◌∙◌, subst, ⊎_elim}
use Rattle.desk_run.specs.Answers.{AnswersLine, DoesAsked, TakesOrder, asked_of}
use Rattle.party_desk.specs.Asking.{Wanted}

not_none : (text : List ℕ) → ◌≡◌ {A = List (List ℕ)} (text ∷ []) [] → ⊥
not_none text h = absurd cc

same_text : (text one : List ℕ) → ◌≡◌ {A = List (List ℕ)} (text ∷ []) (one ∷ []) → one ≡ text
same_text text one h = cc

module _ {P Order Reply Refusal : Type 0}
    (asked : P → List ℕ → Wanted Order)
    (says : P → Order → List ℕ → Type 0)
    (takes : P → List ℕ → Reply → P → Type 0)
    (tells : P → Order → Reply → Type 0)
    (refuses : P → Order → Refusal → Type 0)
    (sent_text : Reply → List ℕ)
    (told_text : P → ℕ → Order → Reply → List ℕ)
    (refused_text : P → ℕ → Order → Refusal → Option (List ℕ))
    (determined : (party one other : P) (text : List ℕ) (reply said : Reply) → takes party text reply one → takes party text said other → (reply ≡ said) × (one ≡ other)) where
  abbrev Takes : P → ℕ → Order → List ℕ → List ℕ → P → Type 0
  Takes = TakesOrder asked says takes tells refuses sent_text told_text refused_text

  abbrev Asked : P → ℕ → Wanted Order → List ℕ → List (List ℕ) → P → Type 0
  Asked = DoesAsked asked says takes tells refuses sent_text told_text refused_text

  -- by one text there is one reply
  taken : (old one other : P) (number : ℕ) (order : Order) (text first second written said : List ℕ) → first ≡ text → second ≡ text
      → Takes old number order first written one → Takes old number order second said other → (written ≡ said) × (one ≡ other)
  taken old one other number order text first second written said is same a b =
      let here : takes old text a.reply one = subst (λ (t : List ℕ). takes old t a.reply one) is a.taken in
      let there : takes old text b.reply other = subst (λ (t : List ℕ). takes old t b.reply other) same b.taken in
      let d = determined old one other text a.reply b.reply here there in (
        a.is ∙ ap (λ (r : Reply). sent_text r ++ told_text one number order r) d.0 ∙ ap (λ (p : P). sent_text b.reply ++ told_text p number order b.reply) d.1 ∙ sym b.is,
        d.1,
      )

  by_wanted : (old one other : P) (number : ℕ) (w : Wanted Order) (text written said : List ℕ) → Asked old number w written (text ∷ []) one → Asked old number w said (text ∷ []) other
      → (written ≡ said) × (one ≡ other)
  by_wanted old one other number (Err why) text written said a b = absurd (not_none text a.1.0)
  by_wanted old one other number (Ok None) text written said a b = absurd (not_none text a.1.0)
  by_wanted old one other number (Ok (Some order)) text written said a b =
      ⊎_elim
      (λ t. ⊎_elim
      (λ u. taken old one other number order text t.0 u.0 written said (same_text text t.0 t.1.0) (same_text text u.0 u.1.0) t.1.1 u.1.1)
      (λ u. absurd (not_none text u.0))
      b)
      (λ t. absurd (not_none text t.0))
      a

  pub one_answer : (old one other : P) (number : ℕ) (line text written said : List ℕ)
      → AnswersLine asked says takes tells refuses sent_text told_text refused_text old number line written (text ∷ []) one
      → AnswersLine asked says takes tells refuses sent_text told_text refused_text old number line said (text ∷ []) other → (written ≡ said) × (one ≡ other)
  one_answer old one other number line text written said a b = by_wanted old one other number (asked_of asked old line) text written said a b

  module _ (one_text : (party : P) (order : Order) (text other : List ℕ) → says party order text → says party order other → text ≡ other) where
    texts_by_wanted : (old one other : P) (number : ℕ) (w : Wanted Order) (text again written said : List ℕ) → Asked old number w written (text ∷ []) one
        → Asked old number w said (again ∷ []) other → text ≡ again
    texts_by_wanted old one other number (Err why) text again written said a b = absurd (not_none text a.1.0)
    texts_by_wanted old one other number (Ok None) text again written said a b = absurd (not_none text a.1.0)
    texts_by_wanted old one other number (Ok (Some order)) text again written said a b =
        ⊎_elim
        (λ t. ⊎_elim
        (λ u. sym (same_text text t.0 t.1.0) ∙ one_text old order t.0 u.0 t.1.1.its u.1.1.its ∙ same_text again u.0 u.1.0)
        (λ u. absurd (not_none again u.0))
        b)
        (λ t. absurd (not_none text t.0))
        a

    pub one_answer_ever : (old one other : P) (number : ℕ) (line text again written said : List ℕ)
        → AnswersLine asked says takes tells refuses sent_text told_text refused_text old number line written (text ∷ []) one
        → AnswersLine asked says takes tells refuses sent_text told_text refused_text old number line said (again ∷ []) other
        → (text ≡ again) × (written ≡ said) × (one ≡ other)
    one_answer_ever old one other number line text again written said a b =
        let same = texts_by_wanted old one other number (asked_of asked old line) text again written said a b in
        let d = one_answer old one other number line text written said a
        (subst (λ (t : List ℕ). AnswersLine asked says takes tells refuses sent_text told_text refused_text old number line said (t ∷ []) other) (sym same) b) in
        (same, d.0, d.1)
