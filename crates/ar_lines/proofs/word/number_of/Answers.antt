-- A numeral is text, and `parse` reads its number.
use Rattle.std.proofs.Common.{◌≡◌, true, ◌∙◌}
use Rattle.ar_lines.specs.Forms.{is_numeral}
use Rattle.ar_lines.proofs.Numerals.{numeral_is_text, numeral_read}
use Rattle.ar_lines.proofs.word.number_of.Goals as goal

pub unreachable-requires : goal.unreachable-requires
unreachable-requires c =
    let numeral : is_numeral c.args.word.now ≡ true = cc in
    c.in-Err.ensures.cases.0 (numeral_is_text c.args.word.now numeral)

pub returns : goal.returns
returns c =
    let numeral : is_numeral c.args.word.now ≡ true = cc in
    let parses = rw c.in-Ok.ensures.cases.0 at c.parse.ensures.value.0 in
    c.ok.ensures.value ∙ numeral_read c.args.word.now c.parse.result numeral parses
