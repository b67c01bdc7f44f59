use Rattle.std.proofs.Common.{◌≡◌, ap, ◌∙◌}
use Rattle.std.specs.Prelude.{is_some}
use Rattle.ar_statement.specs.Claims.{claim_of, text_of}
use Rattle.ar_base.specs.Places.{place_of}
use Rattle.ar_base.proofs.Places.{has-place}
use Rattle.sign_book.proofs.book.SignBook.holds.Goals as goal

pub returns : goal.returns
returns c =
    let texts = c.args.self.now.texts in
    let text = text_of (claim_of c.args.statement.now) in
    let texts-are : c.deref.result.now ≡ texts = c.deref.ensures.value ∙ ap (λ book. book.texts) c.self.view_is in
    let at : c.place_of.result ≡ place_of texts text =
    c.place_of.ensures ∙ (ap (λ list. place_of list c.of.result) texts-are ∙ ap (place_of texts) c.of.ensures) in
    has-place texts text c.is_some.result (c.is_some.ensures ∙ ap (λ place. is_some place) at)
