use Rattle.std.proofs.Common.{◌∙◌, sym}
use Rattle.std.specs.Prelude.{bytes_eq}
use Rattle.key_roll.specs.declared.signed.SignedText.{SignedText}
use Rattle.key_roll.proofs.Books.{position-map}
use Rattle.key_roll.proofs.entries.place_of.Goals as goal

pub returns : goal.returns
returns c =
    c.first_with.ensures ∙ sym (position-map (bytes_eq c.args.text.now) (λ (s : SignedText). s.text) c.args.list.now)
