-- An authority with its keys, and its answers with its signatures in them.
use Rattle.std.specs.Prelude.{List, Result}
use Rattle.ar_message.specs.declared.sent.Sent.{Sent}
use Rattle.key_roll.specs.Ring.{AreKeysOf}
use Rattle.keyed_core.specs.Signing as signing
use Rattle.lms_tree.specs.KeyParts.{KeyParts}
use Rattle.authority_core.specs.State.{AuthorityAnswer, AuthorityState}
use Rattle.authority_core.specs.declared.refusal.AuthorityRefusal.{AuthorityRefusal}
use Rattle.authority_core.specs.declared.refusal.AuthorityRefusal.TheVariants.{Memory}

-- the keys are those of the authority's book, and a signature of each has as many bytes as a row leaves blank
abbrev pub IsRingOf : AuthorityState → List KeyParts → Type 0
IsRingOf s keys = AreKeysOf s.past.signed s.signature_len keys

-- A call answered as the row does, signed with these keys, and the authority stands where the row says; or it refused so, or
-- wanted memory, and the authority stands as before.
abbrev pub SendsBy : List KeyParts → Result Sent AuthorityRefusal → AuthorityState → AuthorityState → AuthorityAnswer → Type 0
SendsBy keys result old new answer = signing.SendsBy Memory (λ a. a) keys result old new answer
