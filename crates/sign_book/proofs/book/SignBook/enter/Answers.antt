use Rattle.std.proofs.Common.{◌≡◌, ◌∙◌, ap, sym, Some, None}
use Rattle.ar_statement.specs.Claims.{claim_of, text_of}
use Rattle.ar_base.specs.Places.{place_of}
use Rattle.ar_base.proofs.Places.{contained, not-contained}
use Rattle.sign_book.proofs.book.SignBook.enter.Goals as goal

pub returns-in-Some-clause-spent : goal.returns-in-Some-clause-spent
returns-in-Some-clause-spent c =
    let texts = c.args.self.now.texts in
    let text = text_of (claim_of c.args.statement.now) in
    let texts-are : c.deref.result.now ≡ texts = c.deref.ensures.value ∙ ap (λ book. book.texts) c.self.view_is in
    let at : place_of texts text ≡ Some c.in-Some.place =
    sym (ap (place_of texts) c.of-text.ensures) ∙ (sym (ap (λ list. place_of list c.of-text.result) texts-are)
    ∙ (sym c.place_of.ensures ∙ c.in-Some.is)) in
    (λ e. cc, λ full. absurd (full.1 (contained texts text c.in-Some.place at)))

pub returns-in-None-clause-spent : goal.returns-in-None-clause-spent
returns-in-None-clause-spent c =
    let texts = c.args.self.now.texts in
    let text = text_of (claim_of c.args.statement.now) in
    let texts-are : c.deref.result.now ≡ texts = c.deref.ensures.value ∙ ap (λ book. book.texts) c.self.view_is in
    let at : place_of texts text ≡ None =
    sym (ap (place_of texts) c.of-text.ensures) ∙ (sym (ap (λ list. place_of list c.of-text.result) texts-are)
    ∙ (sym c.place_of.ensures ∙ c.in-None.is)) in
    (λ e. (c.append.ensures.spent.0 e, not-contained texts text at), λ full. c.append.ensures.spent.1 full.0)

pub returns-in-None-clause-memory : goal.returns-in-None-clause-memory
returns-in-None-clause-memory c =
    let texts = c.args.self.now.texts in
    let text = text_of (claim_of c.args.statement.now) in
    let texts-are : c.deref.result.now ≡ texts = c.deref.ensures.value ∙ ap (λ book. book.texts) c.self.view_is in
    let at : place_of texts text ≡ None =
    sym (ap (place_of texts) c.of-text.ensures) ∙ (sym (ap (λ list. place_of list c.of-text.result) texts-are)
    ∙ (sym c.place_of.ensures ∙ c.in-None.is)) in
    λ e. (c.append.ensures.memory e, not-contained texts text at)
