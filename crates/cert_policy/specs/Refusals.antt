-- The clauses of the rule, each known by the refusal where it fails, and their numbers.
use Rattle.std.specs.Prelude.{ℕ, Bool}
use Rattle.cert_policy.specs.declared.refusal.PolicyRefusal.{PolicyRefusal}
use Rattle.cert_policy.specs.declared.refusal.PolicyRefusal.TheVariants.{Revoked, Name, Serial, Previous, Endorsers, Threshold, Handover, Policy, Pending, NotPending, Objection}

-- a clause: the refusal where it fails, and the test whether it holds
abbrev pub Clause : Type 0
Clause = PolicyRefusal × Bool

-- the number of a clause
abbrev pub number_of : PolicyRefusal → ℕ
number_of Revoked = 1
number_of Name = 2
number_of Serial = 3
number_of Previous = 4
number_of Endorsers = 5
number_of Threshold = 6
number_of Handover = 7
number_of Policy = 8
number_of Pending = 9
number_of NotPending = 10
number_of Objection = 11
