-- Objections: a change that carries nothing but the signature by which a key objects.
use Rattle.std.specs.Prelude.{◌≡◌, ℕ, ◌-◌, ◌≤◌, List, [], ◌++◌, length, take, Some, None}
use Rattle.ar_cert.specs.Certificate.{Certificate}
use Rattle.ar_cert.specs.Changes.{Change}
use Rattle.ar_message.specs.Messages.{message_text}
use Rattle.ar_message.specs.declared.message.Message.TheVariants.{Submit}

-- a certificate with nothing that vouches for it, and this signature as objection
abbrev pub objection : Certificate → List ℕ → Change
objection cert signature = record { cert = cert; endorsements = []; handover = None; objection = Some signature }

-- a text whose last bytes, so many, are to be a signature: then it is the objection with it, on its way to the logs
abbrev pub AwaitsSignature : ℕ → Certificate → List ℕ → Type 0
AwaitsSignature n cert text = (n ≤ length text) × ((signature : List ℕ) → length signature ≡ n
    → take (length text - n) text ++ signature ≡ message_text (Submit (objection cert signature)))
