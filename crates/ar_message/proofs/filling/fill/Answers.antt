use Rattle.std.proofs.Common.{rules, ◌≡◌, ◌∙◌, ap, sym, subst, length, List, [], ◌∷◌, ◌++◌}
use Rattle.std.specs.Prelude.{All}
use Rattle.std.proofs.lemmas.List.Elements.{All-pop}
use Rattle.ar_message.specs.Filling.{IsBlank, lengths, signed}
use Rattle.ar_message.specs.Sending.{Letter}
use Rattle.ar_message.proofs.Filled.{last_first, none_left}
use Rattle.ar_message.proofs.filling.fill.Goals as goal

pub loop-blank-preserved : goal.loop-blank-preserved
loop-blank-preserved c =
    let keys = c.args.ring.now.keys in
    let before = c.loop-blank.messages.items in
    let after = c.sign_blank.new.messages.items in
    let rest = c.pop.new.self.items in
    let blank = c.in-Some.blank in
    let all : All (IsBlank keys (lengths before)) rest =
    (All-pop (IsBlank keys (lengths before)) c.loop-blank.blanks.items rest c.pop.result c.pop.ensures.items c.loop-blank.invariant.0).0 in
    let parts : c.loop-blank.blanks.items ≡ rest ++ blank ∷ [] = search rules in
    let one : signed keys rest after ≡ signed keys (rest ++ blank ∷ []) before =
    ap (signed keys rest) c.sign_blank.ensures.signed ∙ sym (last_first keys rest blank before) in (
      subst (λ lens. All (IsBlank keys lens) rest) (sym c.sign_blank.ensures.lengths) all,
      one ∙ ap (λ bs. signed keys bs before) (sym parts) ∙ c.loop-blank.invariant.1,
    )

pub returns : goal.returns
returns c =
    let keys = c.args.ring.now.keys in
    let none : length c.loop-blank.blanks.items ≡ 0 = search rules in
    let given : c.from_vec.result ≡ c.loop-blank.messages.items = c.from_vec.ensures in
    let same : c.from_vec.result ≡ signed keys c.args.unsigned.blanks c.args.unsigned.sent.messages =
    given ∙ sym (none_left keys c.loop-blank.blanks.items c.loop-blank.messages.items none) ∙ c.loop-blank.invariant.1 ∙ search rules in
    ap (λ (ms : List Letter). record { messages = ms; ended = c.args.unsigned.sent.ended }) same
