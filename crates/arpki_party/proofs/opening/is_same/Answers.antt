use Rattle.std.proofs.Common.{rules, ◌≡◌, ◌∙◌, sym}
use Rattle.std.specs.Str.{bytes_eq}
use Rattle.lms_tree.specs.PublicKey.{key_text}
use Rattle.arpki_party.proofs.FirstOwn.{same_key}
use Rattle.arpki_party.proofs.opening.is_same.Goals as goal

pub returns-clause-key : goal.returns-clause-key
returns-clause-key c same =
    let text : c.eq.result ≡ bytes_eq (key_text c.args.one.now) (key_text c.args.other.now) = search rules in
    same_key c.args.one.now c.args.other.now c.key_told.ensures.widths c.key_told-2.ensures.widths (sym text ∙ same)
