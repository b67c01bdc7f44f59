-- The reading ends at a part that is no number, at a number too many, or where no part is left.
use Rattle.std.proofs.Common.{◌≡◌, ◌∷◌, [], Some, None, refl, sym, ◌∙◌}
use Rattle.std.specs.Option.{option_copied}
use Rattle.ar_lines.specs.Forms.{number_in}
use Rattle.ar_lines.specs.Views.{parts_behind}
use Rattle.script_text.proofs.NumberLists.{number_fails, number_over, numbers_end}
use Rattle.script_text.proofs.lists.list_of.Goals as goal

pub returns-in_err-number : goal.returns-in_err-number
returns-in_err-number c =
    let none : number_in 0 c.args.most c.first_part.result.0.now ≡ None = sym c.number_in.ensures.value ∙ c.in_err-number.was in
    let left = parts_behind 44 (option_copied c.loop-rest.rest) in
    let here : left ≡ c.first_part.result.0.now ∷ parts_behind 44 (option_copied c.first_part.result.1) = rw c.in-Some.is c.first_part.ensures in
    c.from_residual.ensures ∙ sym (number_fails c.args.count c.args.most c.args.word.now _ _ left _ c.loop-rest.invariant.all here none)

pub returns-then-len-count : goal.returns-then-len-count
returns-then-len-count c =
    let some : number_in 0 c.args.most c.first_part.result.0.now ≡ Some c.in_ok-number.number = sym c.number_in.ensures.value ∙ c.in_ok-number.was in
    let left = parts_behind 44 (option_copied c.loop-rest.rest) in
    let here : left ≡ c.first_part.result.0.now ∷ parts_behind 44 (option_copied c.first_part.result.1) = rw c.in-Some.is c.first_part.ensures in
    sym (number_over c.args.count c.args.most c.args.word.now _ _ left _ _ c.loop-rest.invariant.all here some (rw c.len.ensures.value at c.if-len-count.true))

pub returns : goal.returns
returns c =
    let left = parts_behind 44 (option_copied c.loop-rest.rest) in
    let here : left ≡ [] = rw c.in_default.is refl in
    sym (numbers_end c.args.count c.args.most c.args.word.now _ left c.loop-rest.invariant.all here c.loop-rest.invariant.most)
