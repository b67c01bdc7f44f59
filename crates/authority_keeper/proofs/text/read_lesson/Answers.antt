use Rattle.std.proofs.Common.{rules, ◌<◌, arith, length}
use Rattle.authority_keeper.specs.Inputs.{key_len}
use Rattle.authority_keeper.specs.Said.{lesson_input}
use Rattle.authority_keeper.proofs.Spelled.{too_short}
use Rattle.authority_keeper.proofs.text.read_lesson.Goals as goal

pub returns-in_default : goal.returns-in_default
returns-in_default c =
    let short : length c.args.bytes.now < key_len = search rules in
    too_short (lesson_input c.args.lesson) c.args.bytes.now (omega (arith, short))
