-- An order has one text.
use Rattle.std.proofs.Common.{◌≡◌, ℕ, List, sym, ap, ◌∙◌, Some}
use Rattle.authority_keeper.specs.Inputs.{input_text as authority_text, rolls as authority_rolls}
use Rattle.authority_keeper.specs.Keeping as authority
use Rattle.authority_keeper.specs.Keeping.{AuthorityStanding}
use Rattle.authority_keeper.specs.declared.order.AuthorityOrder.{AuthorityOrder}
use Rattle.authority_keeper.specs.declared.order.AuthorityOrder.TheVariants as authority_orders
use Rattle.key_roll.specs.Ring.{IsNext, IsOfNext, next_key}
use Rattle.lms_tree.specs.Key.{public_of}
use Rattle.lms_tree.specs.KeyParts.{KeyParts}
use Rattle.lms_tree.specs.declared.public_key.LmsPublic.{LmsPublic}
use Rattle.log_core.specs.State as state
use Rattle.log_journal.specs.Inputs.{input_text}
use Rattle.log_journal.specs.Steps.{LogStanding}
use Rattle.log_keeper.specs.Keeping as log
use Rattle.log_keeper.specs.declared.order.LogOrder.{LogOrder}
use Rattle.log_keeper.specs.declared.order.LogOrder.TheVariants as log_orders
use Rattle.owner_keeper.specs.Keeping as owner
use Rattle.owner_keeper.specs.Keeping.{OwnerStanding}
use Rattle.owner_keeper.specs.declared.order.OwnerOrder.{OwnerOrder}

same_key : (a b : KeyParts) → Some a ≡ Some b → a ≡ b
same_key a b e = cc

same_list : (a b : List ℕ) → Some a ≡ Some b → a ≡ b
same_list a b e = cc

-- there is one next key
one_next : (keys : List KeyParts) (a b : KeyParts) → IsNext keys a → IsNext keys b → a ≡ b
one_next keys a b p q = p.is ∙ ap next_key (same_key p.newest q.newest (sym p.last ∙ q.last)) ∙ sym q.is

-- and one public key of it
one_of_next : (keys : List KeyParts) (a b : LmsPublic) → IsOfNext keys a → IsOfNext keys b → a ≡ b
one_of_next keys a b p q = p.is ∙ ap public_of (one_next keys p.next q.next p.is_next q.is_next) ∙ sym q.is

pub one_text_of_log : (party : LogStanding) (order : LogOrder) (text other : List ℕ) → log.says party order text → log.says party order other → text ≡ other
one_text_of_log party (log_orders.Take bytes) text other a b = a ∙ sym b
one_text_of_log party log_orders.Propose text other a b = a ∙ sym b
one_text_of_log party log_orders.Pass text other a b = a ∙ sym b
one_text_of_log party log_orders.Roll text other a b =
    a.1.1 ∙ ap (λ (k : LmsPublic). input_text (state.rolls k)) (one_of_next party.keys a.0 b.0 a.1.0 b.1.0) ∙ sym b.1.1

pub one_text_of_authority : (party : AuthorityStanding) (order : AuthorityOrder) (text other : List ℕ) → authority.says party order text → authority.says party order other
    → text ≡ other
one_text_of_authority party (authority_orders.Take bytes) text other a b = a ∙ sym b
one_text_of_authority party authority_orders.Roll text other a b =
    a.1.1 ∙ ap (λ (k : KeyParts). authority_text (authority_rolls (public_of k))) (one_next party.keys a.0 b.0 a.1.0 b.1.0) ∙ sym b.1.1
one_text_of_authority party (authority_orders.Learn name key) text other a b = a ∙ sym b
one_text_of_authority party (authority_orders.Forget name key) text other a b = a ∙ sym b
one_text_of_authority party authority_orders.Retire text other a b = a ∙ sym b

pub one_text_of_owner : (party : OwnerStanding) (order : OwnerOrder) (text other : List ℕ) → owner.says party order text → owner.says party order other → text ≡ other
one_text_of_owner party order text other a b = same_list text other (sym a ∙ b)
