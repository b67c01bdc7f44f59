-- There is one thing that an owner replies to a text of its journal, and one that it becomes.
use Rattle.std.proofs.Common.{◌≡◌, ℕ, List, sym, ◌∙◌, ap, Some, Ok}
use Rattle.owner_keeper.specs.Keeping.{OrderAnswer, OwnerStanding, order_row}
use Rattle.owner_keeper.specs.Keeping as keeping
use Rattle.owner_keeper.specs.declared.order.OwnerOrder.{OwnerOrder}
use Rattle.owner_keeper.specs.declared.reply.OwnerReply.{OwnerReply}

same-order : (a b : OwnerOrder) → Some a ≡ Some b → a ≡ b
same-order a b e = cc

same-answer : (a b : OwnerReply × OwnerStanding) → ◌≡◌ {A = OrderAnswer} (Ok a) (Ok b) → a ≡ b
same-answer a b e = cc

pub one_standing : (party one other : OwnerStanding) (text : List ℕ) (reply said : OwnerReply) → keeping.takes party text reply one → keeping.takes party text said other
    → (reply ≡ said) × (one ≡ other)
one_standing party one other text reply said a b =
    let order : a.order ≡ b.order = same-order a.order b.order (sym a.says ∙ b.says) in
    let same : (reply, one) ≡ (said, other) = same-answer (reply, one) (said, other) (sym a.answer ∙ ap (order_row party) order ∙ b.answer) in
    (ap (λ (p : OwnerReply × OwnerStanding). p.0) same, ap (λ (p : OwnerReply × OwnerStanding). p.1) same)
