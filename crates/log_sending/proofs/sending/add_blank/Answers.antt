use Rattle.std.proofs.Common.{◌≡◌, ℕ, [], ◌∷◌, ◌++◌, subst, sym, ap, ◌∙◌}
use Rattle.key_roll.specs.Book.{RollBook}
use Rattle.log_sending.specs.Sending.{SigningPlace, blanks_in}
use Rattle.log_sending.proofs.Sealing.{blanks_some}
use Rattle.log_sending.proofs.sending.add_blank.Goals as goal

pub returns-clause-added : goal.returns-clause-added
returns-clause-added c =
    let book : RollBook = c.args.log.now.state.past.signed in
    let place : ℕ × SigningPlace = (c.place.inside.message, c.place.inside.own) in
    subst (λ (p : ℕ × SigningPlace). c.push_reserved.new.self.items ≡ c.args.blanks.now.items ++ blanks_in book (p ∷ [])) c.place.view_is
    (c.push_reserved.ensures.items ∙ ap (λ (at : ℕ). c.args.blanks.now.items ++ record { message = c.place.inside.message; at = at; due = c.in-Some.due } ∷ []) c.at.ensures
    ∙ blanks_some book place c.in-Some.due c.args.blanks.now.items (sym c.in-Some.ensures))
