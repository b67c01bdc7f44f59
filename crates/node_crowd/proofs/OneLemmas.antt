-- One stall: split, joined with another, and one call more.
use Rattle.std.proofs.Common.{◌≡◌, ℕ, ◌+◌, ◌≤◌, List, [], ◌∷◌, ◌++◌, sym, ap, ◌∙◌, subst, arith}
use Rattle.ar_base.specs.Prefixes.{BeginsWith}
use Rattle.ar_seats.specs.Numbers.{times}
use Rattle.ar_seats.specs.Shares.{given_of, left_of}
use Rattle.ar_seats.proofs.RisingLemmas.{times-merged}
use Rattle.seat_orders.specs.Carrying.{Carries, Serves}
use Rattle.seat_orders.proofs.CarriesLemmas.{carries_joined, serves_called}
use Rattle.shared_node.specs.Seats.{Answered, IsSeatOf, NodeParts, SeatParts, given_seat, joined_seat, left_seat}
use Rattle.node_crowd.specs.Stalls.{HasServed, IsIdle, IsJoined, IsSplit, StallParts}

halves : (share : ℕ) → left_of share + given_of share ≡ share
halves share = omega arith

lesser : (share : ℕ) → given_of share ≤ left_of share
lesser share = omega arith

module _ {S I N T : Type 0} where
  pub is_split : (node : NodeParts S) (old new given : StallParts S I N T) → IsIdle node old → new.seat ≡ left_seat old.seat → new.told ≡ old.told
      → given.seat ≡ given_seat old.seat → given.told ≡ [] → IsSplit node old new given
  is_split node old new given idle left same gave none =
      let left_share : new.seat.share ≡ left_of old.seat.share = ap (λ (s : SeatParts S I N). s.share) left in
      let given_share : given.seat.share ≡ given_of old.seat.share = ap (λ (s : SeatParts S I N). s.share) gave in
      record {
        kept = record {
          own = subst (λ s. IsSeatOf node s) (sym left) idle.own;
          none = ap (λ (s : SeatParts S I N). s.own) left ∙ idle.none;
          untold = same ∙ idle.untold;
        };
        idle = record {
          own = subst (λ s. IsSeatOf node s) (sym gave) idle.own;
          none = ap (λ (s : SeatParts S I N). s.own) gave;
          untold = none;
        };
        shares = omega (arith, left_share, given_share, halves old.seat.share);
        half = omega (arith, left_share, given_share, lesser old.seat.share);
      }

  module _ {R : Type 0} (next : S → I → N → R × S) where
    pub is_joined : (node : NodeParts S) (old other new : StallParts S I N T) → IsSeatOf node old.seat → new.seat ≡ joined_seat old.seat other.seat
        → BeginsWith new.seat.seen old.seat.seen × BeginsWith new.seat.seen other.seat.seen → new.told ≡ old.told ++ other.told → IsJoined next node old other new
    is_joined node old other new own joined begins told = record {
      own = subst (λ s. IsSeatOf node s) (sym joined) own;
      shares = ap (λ (s : SeatParts S I N). s.share) joined;
      carries = λ finish lists others one two.
          subst (λ t. Carries next finish node.first new.seat.seen new.seat.own t (lists ++ others)) (sym told)
          (carries_joined next finish node.first old.seat.seen other.seat.seen new.seat.seen old.seat.own other.seat.own new.seat.own old.told other.told lists others one two begins.0 begins.1
          (λ place. ap (λ (s : SeatParts S I N). times place s.own) joined ∙ times-merged place old.seat.own other.seat.own));
    }

    pub has_served : (legal : S → I → N → Type 0) (node : NodeParts S) (finish : R → T) (old new : StallParts S I N T) (brought : List I) (input : I) (place : ℕ) (reply : R)
        → Answered next legal node.first old.seat input place reply new.seat → new.told ≡ old.told ++ (place, finish reply) ∷ []
        → HasServed next node finish old brought → HasServed next node finish new (brought ++ input ∷ [])
    has_served legal node finish old new brought input place reply asked told served = record {
      own = subst (λ s. IsSeatOf node s) (sym asked.after) served.own;
      served = subst (λ t. Serves next finish node.first new.seat.seen new.seat.own t (brought ++ input ∷ [])) (sym told)
          (serves_called next finish node.first old.seat.seen asked.before new.seat.seen old.seat.own new.seat.own old.told brought input asked.note place reply served.served
          asked.later asked.place_is asked.reply_is (ap (λ (s : SeatParts S I N). s.seen) asked.after) (ap (λ (s : SeatParts S I N). s.own) asked.after));
    }
