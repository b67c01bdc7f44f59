use Rattle.std.proofs.Common.{rules, ◌≡◌, Some, length}
use Rattle.authority_keeper.specs.Inputs.{input_text, key_len}
use Rattle.authority_keeper.specs.Keeping.{standing_of}
use Rattle.authority_keeper.specs.Said.{lesson_input, taught}
use Rattle.authority_keeper.proofs.Orders.{lesson_done}
use Rattle.authority_keeper.proofs.asking.ask_to_instruct.Goals as goal

pub returns-clause-done : goal.returns-clause-done
returns-clause-done c =
    let t = c.in_ok-instruct.ensures.ok in
    let len : length c.args.key.now ≡ key_len = search rules in
    let spelled : c.in_ok-text.text ≡ input_text (lesson_input c.args.lesson c.args.name.now c.args.key.now) = search rules in
    let had : (standing_of c.args.authority.now).book ≡ Some t.0 = search rules in
    let becomes : standing_of c.instruct.new.authority ≡ record (standing_of c.args.authority.now) { book = Some (taught c.args.lesson t.0 c.args.name.now c.args.key.now) } = search rules in
    lesson_done c.args.lesson c.args.name.now c.args.key.now (standing_of c.args.authority.now) (standing_of c.instruct.new.authority) c.in_ok-text.text t.0 c.nothing.result len
    c.text.ensures.name spelled had becomes c.nothing.ensures
