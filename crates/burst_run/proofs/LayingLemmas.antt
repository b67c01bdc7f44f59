-- Errands, one after another.
use Rattle.std.proofs.Common.{◌≡◌, ℕ, zero, suc, ◌+◌, ◌<◌, ◌≤◌, true, List, [], ◌∷◌, ◌++◌, drop, length, get_or, Option, Some, None, refl, sym, ap, ◌∙◌, append_assoc, arith}
use Rattle.std.proofs.lemmas.List.{append-nil}
use Rattle.std.specs.Prelude.{is_some}
use Rattle.std.specs.Option.{option_map}
use Rattle.ar_nodes.specs.Acting.{bytes_of}
use Rattle.ar_nodes.specs.Pool.{Pooled}
use Rattle.ar_statement.specs.declared.party.Party.{Party}
use Rattle.ar_world.specs.Finding.{message_at}
use Rattle.ar_world.specs.Records.{bytes_at}
use Rattle.ar_world.specs.State.{World}
use Rattle.node_crowd.specs.declared.errand.Errand.{Errand}
use Rattle.station.specs.declared.delivery.Delivery.{Delivery}
use Rattle.burst_run.specs.Laying.{errand_for, errands_from}
use Rattle.burst_run.specs.Stations.{Deliveries}

-- ---- the bytes of a message

bytes_same : (o : Option Pooled) (bytes : List ℕ) → Some bytes ≡ option_map (λ p. p.bytes) o → bytes ≡ bytes_of o
bytes_same None bytes is = absurd cc
bytes_same (Some p) bytes is = cc

pub brought_same : (w : World) (message : ℕ) (bytes : List ℕ) → Some bytes ≡ bytes_at w message → bytes ≡ bytes_of (message_at w message)
brought_same w message bytes is = bytes_same (message_at w message) bytes is

no_bytes : (o : Option Pooled) → is_some o ≡ true → None ≡ option_map (λ p. p.bytes) o → ⊥
no_bytes None there none = absurd cc
no_bytes (Some p) there none = absurd cc

pub brought_some : (w : World) (message : ℕ) → is_some (message_at w message) ≡ true → None ≡ bytes_at w message → ⊥
brought_some w message there none = no_bytes (message_at w message) there none

pub ruleset brought_laws = (brought_same, brought_some)

-- ---- deliveries, from one on

errands_here : (w : World) (stations : List Party) (number i : ℕ) (deliveries : Deliveries) (d : ℕ × Party) → i < length deliveries → get_or deliveries i d ≡ d
    → errands_from w stations number (drop i deliveries) ≡ errand_for w stations number d ∷ errands_from w stations (number + 1) (drop (i + 1) deliveries)
errands_here w stations number i [] d within is = absurd (omega (arith, within))
errands_here w stations number zero (e ∷ deliveries) d within is =
    ap (λ x. errand_for w stations number x ∷ errands_from w stations (number + 1) deliveries) is
    ∙ ap (λ k. errand_for w stations number d ∷ errands_from w stations (number + 1) (drop k (e ∷ deliveries))) (let e : suc zero ≡ zero + 1 = omega arith in e)
errands_here w stations number (suc i) (e ∷ deliveries) d within is =
    errands_here w stations number i deliveries d (omega (arith, within)) is
    ∙ ap (λ k. errand_for w stations number d ∷ errands_from w stations (number + 1) (drop k (e ∷ deliveries))) (let e : suc (i + 1) ≡ suc i + 1 = omega arith in e)

errands_none : (w : World) (stations : List Party) (number i : ℕ) (deliveries : Deliveries) → length deliveries ≤ i → errands_from w stations number (drop i deliveries) ≡ []
errands_none w stations number zero [] past = refl
errands_none w stations number (suc i) [] past = refl
errands_none w stations number zero (e ∷ deliveries) past = absurd (omega (arith, past))
errands_none w stations number (suc i) (e ∷ deliveries) past = errands_none w stations number i deliveries (omega (arith, past))

-- an errand more, and all of them
pub errands_next : (w : World) (stations : List Party) (i : ℕ) (deliveries : Deliveries) (d : ℕ × Party) (old new : List (Errand Delivery)) (errand : Errand Delivery)
    → i < length deliveries → get_or deliveries i d ≡ d → errand ≡ errand_for w stations i d → new ≡ old ++ errand ∷ []
    → old ++ errands_from w stations i (drop i deliveries) ≡ errands_from w stations 0 deliveries
    → new ++ errands_from w stations (i + 1) (drop (i + 1) deliveries) ≡ errands_from w stations 0 deliveries
errands_next w stations i deliveries d old new errand within is made more so =
    ap (λ l. l ++ errands_from w stations (i + 1) (drop (i + 1) deliveries)) more
    ∙ append_assoc old (errand ∷ []) (errands_from w stations (i + 1) (drop (i + 1) deliveries))
    ∙ ap (λ e. old ++ e ∷ errands_from w stations (i + 1) (drop (i + 1) deliveries)) made
    ∙ ap (λ l. old ++ l) (sym (errands_here w stations i i deliveries d within is))
    ∙ so

pub errands_end : (w : World) (stations : List Party) (i : ℕ) (deliveries : Deliveries) (all : List (Errand Delivery)) → length deliveries ≤ i
    → all ++ errands_from w stations i (drop i deliveries) ≡ errands_from w stations 0 deliveries → all ≡ errands_from w stations 0 deliveries
errands_end w stations i deliveries all past so =
    sym (append-nil all) ∙ ap (λ l. all ++ l) (sym (errands_none w stations i i deliveries past)) ∙ so

pub ruleset errand_laws = (errands_next, errands_end)
