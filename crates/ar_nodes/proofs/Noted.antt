-- The pool in which a delivery is noted.
use Rattle.std.proofs.Common.{◌≡◌, ◌∙◌, ℕ, Bool, true, false, if◌then◌else◌, List, [], ◌∷◌, ◌++◌, Option, Some, sym, ap, refl}
use Rattle.std.specs.List.{list_any}
use Rattle.ar_statement.specs.Claims.{is_party}
use Rattle.ar_statement.specs.declared.party.Party.{Party}
use Rattle.ar_nodes.specs.Acting.{delivered_by, noted_in, with_delivered}
use Rattle.ar_nodes.specs.Pool.{Pooled, delivered_to, numbered, set_numbered}

noted-one : (p : Pooled) (who : Party) (any : Bool) → list_any (is_party who) p.delivered ≡ any → record p { delivered = (delivered_to who p).delivered } ≡ delivered_to who p
noted-one p who true e =
    let is : delivered_to who p ≡ p = ap (λ b. if b then p else record p { delivered = p.delivered ++ who ∷ [] }) e
    in ap (λ (q : Pooled). record p { delivered = q.delivered }) is ∙ sym is
noted-one p who false e =
    let is : delivered_to who p ≡ record p { delivered = p.delivered ++ who ∷ [] } = ap (λ b. if b then p else record p { delivered = p.delivered ++ who ∷ [] }) e
    in ap (λ (q : Pooled). record p { delivered = q.delivered }) is ∙ sym is

-- the message that was delivered to the party stands in the place of the one that is there
pub noted-is : (pool : List Pooled) (message : ℕ) (who : Party) (p : Pooled) → numbered pool message ≡ Some p → noted_in pool message who ≡ set_numbered pool message (delivered_to who p)
noted-is pool message who p e =
    ap (λ (o : Option Pooled). with_delivered pool message o (delivered_by who o)) e ∙ ap (set_numbered pool message) (noted-one p who (list_any (is_party who) p.delivered) refl)
