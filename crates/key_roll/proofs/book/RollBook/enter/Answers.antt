use Rattle.std.proofs.Common.{◌≡◌, ◌∙◌, ap, sym, subst, inl, inr, List, ℕ, Some, None, false}
use Rattle.std.specs.Prelude.{map}
use Rattle.ar_base.specs.Gives.{GivesOrWants}
use Rattle.ar_base.specs.Places.{place_of}
use Rattle.ar_base.proofs.Places.{contained, not-contained}
use Rattle.ar_statement.specs.Claims.{claim_of, text_of}
use Rattle.key_roll.specs.declared.signed.SignedText.{SignedText}
use Rattle.ar_statement.specs.declared.fault.BookFault.TheVariants as book_fault
use Rattle.key_roll.specs.Book.{IsRollBook, texts_of}
use Rattle.key_roll.specs.Entry.{entered_new}
use Rattle.key_roll.specs.Rolls.{is_roll}
use Rattle.key_roll.proofs.Books.{entered-new}
use Rattle.key_roll.proofs.book.RollBook.enter.Goals as goal

pub append-requires-clause-plain : goal.append-requires-clause-plain
append-requires-clause-plain c =
    let text = text_of (claim_of c.args.statement.now) in
    let texts = texts_of c.args.self.now.book in
    let texts-are = ap (map (λ (s : SignedText). s.text)) c.deref.ensures.value ∙ ap (λ k. texts_of k.book) c.self.view_is in
    let at : place_of texts text ≡ None =
    sym (ap (place_of texts) c.of-text.ensures) ∙ (sym (ap (λ (l : List (List ℕ)). place_of l c.of-text.result) texts-are)
    ∙ (sym c.place_of.ensures ∙ c.in-None.is)) in
    elim c.requires [
      | inl plain ↦ ap is_roll c.of-text.ensures ∙ plain
      | inr held ↦ absurd (not-contained texts text at held)
    ]

pub returns-in-Some-clause-spent : goal.returns-in-Some-clause-spent
returns-in-Some-clause-spent c =
    let text = text_of (claim_of c.args.statement.now) in
    let texts = texts_of c.args.self.now.book in
    let texts-are = ap (map (λ (s : SignedText). s.text)) c.deref.ensures.value ∙ ap (λ k. texts_of k.book) c.self.view_is in
    let at : place_of texts text ≡ Some c.in-Some.place =
    sym (ap (place_of texts) c.of-text.ensures) ∙ (sym (ap (λ (l : List (List ℕ)). place_of l c.of-text.result) texts-are)
    ∙ (sym c.place_of.ensures ∙ c.in-Some.is)) in
    (λ e. absurd cc, λ full. absurd (full.1 (contained texts text c.in-Some.place at)))

pub returns-in-None-clause-answer : goal.returns-in-None-clause-answer
returns-in-None-clause-answer c =
    let text = text_of (claim_of c.args.statement.now) in
    let texts = texts_of c.args.self.now.book in
    let texts-are = ap (map (λ (s : SignedText). s.text)) c.deref.ensures.value ∙ ap (λ k. texts_of k.book) c.self.view_is in
    let at : place_of texts text ≡ None =
    sym (ap (place_of texts) c.of-text.ensures) ∙ (sym (ap (λ (l : List (List ℕ)). place_of l c.of-text.result) texts-are)
    ∙ (sym c.place_of.ensures ∙ c.in-None.is)) in
    let plain : is_roll text ≡ false = elim c.requires [
      | inl plain ↦ plain
      | inr held ↦ absurd (not-contained texts text at held)
    ] in
    let sound : IsRollBook c.args.self.now.book = subst (λ k. IsRollBook k.book) c.self.view_is c.self.invariant.0 in
    let same = ap (entered_new c.args.self.now.book) c.of-text.ensures ∙ sym (entered-new c.args.self.now.book text sound at plain) in
    subst (GivesOrWants book_fault.Memory (λ due. due) c.append.result) same c.append.ensures.answer

pub returns-in-None-clause-spent : goal.returns-in-None-clause-spent
returns-in-None-clause-spent c =
    let text = text_of (claim_of c.args.statement.now) in
    let texts = texts_of c.args.self.now.book in
    let texts-are = ap (map (λ (s : SignedText). s.text)) c.deref.ensures.value ∙ ap (λ k. texts_of k.book) c.self.view_is in
    let at : place_of texts text ≡ None =
    sym (ap (place_of texts) c.of-text.ensures) ∙ (sym (ap (λ (l : List (List ℕ)). place_of l c.of-text.result) texts-are)
    ∙ (sym c.place_of.ensures ∙ c.in-None.is)) in
    (λ e. (c.append.ensures.spent.0 e, not-contained texts text at), λ full. c.append.ensures.spent.1 full.0)

pub returns-in-None-clause-memory : goal.returns-in-None-clause-memory
returns-in-None-clause-memory c =
    let text = text_of (claim_of c.args.statement.now) in
    let texts = texts_of c.args.self.now.book in
    let texts-are = ap (map (λ (s : SignedText). s.text)) c.deref.ensures.value ∙ ap (λ k. texts_of k.book) c.self.view_is in
    let at : place_of texts text ≡ None =
    sym (ap (place_of texts) c.of-text.ensures) ∙ (sym (ap (λ (l : List (List ℕ)). place_of l c.of-text.result) texts-are)
    ∙ (sym c.place_of.ensures ∙ c.in-None.is)) in
    λ e. (c.append.ensures.memory e, not-contained texts text at)
