-- What stands behind a space has a word.
use Rattle.std.proofs.Common.{refl}
use Rattle.ar_lines.proofs.LineLaws.{parts_some}
use Rattle.script_text.proofs.words.Words.none.Goals as goal

pub returns-in-Some : goal.returns-in-Some
returns-in-Some c =
    let some = parts_some 32 c.in-Some.field-0.now in
    rw (← c.self.view_is, c.in-Some.is, some.2) refl
