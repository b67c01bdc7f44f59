-- What stands behind a space has a word.
use Rattle.std.proofs.Common.{refl}
use Rattle.ar_lines.proofs.LineLaws.{parts_some}
use Rattle.party_desk.proofs.forms.one_word.Goals as goal

pub returns-in_default-Some : goal.returns-in_default-Some
returns-in_default-Some c =
    let some = parts_some 32 c.in_default-Some.field-0-1.now in
    rw (c.in-Some.is, c.first_word.ensures, c.in_default-Some.is-1, some.2) refl
