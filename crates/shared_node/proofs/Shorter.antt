-- The longer and the shorter of two lists.
use Rattle.std.proofs.Common.{Bool, true, false, nat_lt, if◌then◌else◌, List, length}
use Rattle.ar_base.specs.Prefixes.{BeginsWith}
use Rattle.ar_base.proofs.Prefixes.{begins_itself}
use Rattle.ar_seats.specs.Prefixes.{longer}
use Rattle.shared_node.specs.Steps.{shorter}

module _ {A : Type 0} where
  one_of : (b : Bool) (one other : List A) (P : List A → Type 0) → P one → P other → P (if b then one else other)
  one_of true one other P first second = first
  one_of false one other P first second = second

  -- the shorter of two lists is one of them
  pub shorter_is_one : (one other : List A) (P : List A → Type 0) → P one → P other → P (shorter one other)
  shorter_is_one one other P first second = one_of (nat_lt (length one) (length other)) one other P first second

  both_of : (b : Bool) (one other : List A) → BeginsWith (if b then other else one) (if b then one else other)
      → BeginsWith (if b then other else one) one × BeginsWith (if b then other else one) other
  both_of true one other begins = (begins, begins_itself other)
  both_of false one other begins = (begins_itself one, begins)

  -- so the longer begins with both where it begins with the shorter
  pub longer_has_both : (one other : List A) → BeginsWith (longer one other) (shorter one other) → BeginsWith (longer one other) one × BeginsWith (longer one other) other
  longer_has_both one other begins = both_of (nat_lt (length one) (length other)) one other begins
