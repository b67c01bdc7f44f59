-- What a confirmation says of its name, as contracts see it.
use Rattle.std.specs.Prelude.{◌≡◌}
use Rattle.client_rule.specs.declared.shown.Shown.{Shown}
use Rattle.client_rule.specs.declared.shown.Shown.TheVariants.{Present, Absent}
use Rattle.ar_cert.specs.Certificate.{digest_of}
use Rattle.ar_message.specs.Confirmation.{Body, present, absent}

-- what the table has for the name
abbrev pub body_shown : Shown → Body
body_shown (Present certificate digest) = present certificate
body_shown (Absent bottom) = absent bottom

-- the digest that is kept beside a certificate is its own
abbrev pub HasDigest : Shown → Type 0
HasDigest (Present certificate digest) = digest ≡ digest_of certificate
HasDigest (Absent bottom) = Unit {0}
