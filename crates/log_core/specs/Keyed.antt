-- A log with its keys, and its answers with its signatures in them.
use Rattle.std.specs.Prelude.{◌≡◌, List, [], ◌∷◌, ◌++◌, Result}
use Rattle.ar_message.specs.declared.sent.Sent.{Sent}
use Rattle.ar_message.specs.declared.unsigned.Unsigned.{Unsigned}
use Rattle.key_roll.specs.Ring.{AreKeysOf, IsNext, IsOfNext}
use Rattle.keyed_core.specs.Signing as signing
use Rattle.lms_tree.specs.KeyParts.{KeyParts}
use Rattle.log_core.specs.State.{LogAnswer, CoreState, Input, LogStep, passes, proposes, rolls, takes}
use Rattle.log_sending.specs.declared.refusal.LogRefusal.{LogRefusal}
use Rattle.log_sending.specs.declared.refusal.LogRefusal.TheVariants.{Memory}

-- what stands under a lock, and its keys
abbrev pub KeyedLogParts : Type 0
KeyedLogParts = signing.KeyedParts CoreState

-- the keys are those of the log's book
abbrev pub IsRingOf : CoreState → List KeyParts → Type 0
IsRingOf s keys = AreKeysOf s.log.past.signed s.signature_len keys

-- where a log is asked to go on to a key, it is that of its next one
abbrev pub IsOwn : List KeyParts → Input → Type 0
IsOwn keys (takes bytes) = Unit {0}
IsOwn keys proposes = Unit {0}
IsOwn keys passes = Unit {0}
IsOwn keys (rolls key) = IsOfNext keys key

-- a log is not asked to go on to another key
abbrev pub IsPlain : Input → Type 0
IsPlain (takes bytes) = Unit {0}
IsPlain proposes = Unit {0}
IsPlain passes = Unit {0}
IsPlain (rolls key) = ⊥

-- the keys that a log has behind a step: with the next one, where it goes on to that
abbrev pub AreBehind : Input → List KeyParts → List KeyParts → Type 0
AreBehind (takes bytes) keys later = later ≡ keys
AreBehind proposes keys later = later ≡ keys
AreBehind passes keys later = later ≡ keys
AreBehind (rolls key) keys later = (next : KeyParts) → IsNext keys next → later ≡ keys ++ next ∷ []

-- where a log stands behind a reply, and what it sends
abbrev pub parts_of : LogStep → CoreState × Unsigned
parts_of reply = (reply.after, reply.unsigned)

-- the answer with the log's signatures in what it sends
abbrev pub signed_answer : List KeyParts → LogAnswer → Result (CoreState × Sent) LogRefusal
signed_answer keys answer = signing.signed_answer parts_of keys answer

-- A call answered as the row does, signed with these keys, and the log stands where the row says; or it refused so, or wanted
-- memory, and the log stands as before.
abbrev pub SendsBy : List KeyParts → Result Sent LogRefusal → CoreState → CoreState → LogAnswer → Type 0
SendsBy keys result old new answer = signing.SendsBy Memory parts_of keys result old new answer
