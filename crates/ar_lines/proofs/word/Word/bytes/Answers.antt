use Rattle.std.proofs.Common.{rules, ◌≡◌, true, inl, refl}
use Rattle.ar_lines.specs.Forms.{is_hex}
use Rattle.ar_lines.proofs.HexWords.{hex_is_read}
use Rattle.ar_lines.proofs.word.Word.bytes.Goals as goal

pub returns-in-Err : goal.returns-in-Err
returns-in-Err c =
    let is : is_hex c.args.self.now.text ≡ true = search rules in
    inl (refl, hex_is_read c.args.self.now is)
