-- The certificates that an owner makes: the first of a name, and those behind another.
use Rattle.std.specs.Prelude.{ℕ, ◌+◌, Bool, false, List, replicate}
use Rattle.ar_cert.specs.Certificate.{Certificate, digest_of}
use Rattle.cert_policy.specs.Terms.{PolicyTerms}
use Rattle.lms_tree.specs.declared.public_key.LmsPublic.{LmsPublic}

-- the first certificate of a name, with this key
abbrev pub first_certificate : LmsPublic → List ℕ → PolicyTerms → Certificate
first_certificate key name policy = record {
  name = name;
  serial = 0;
  previous = replicate 32 0;
  subject = key;
  policy = policy;
  revoked = false;
}

-- the certificate behind another, with this key
abbrev pub next_certificate : LmsPublic → Certificate → PolicyTerms → Bool → Certificate
next_certificate key old policy revoked = record {
  name = old.name;
  serial = old.serial + 1;
  previous = digest_of old;
  subject = key;
  policy = policy;
  revoked = revoked;
}
