-- What a certificate says, as plain data, and how the borrowed facts of a program are seen as it.
use Rattle.std.specs.Prelude.{ℕ, Bool, List, Option}
use Rattle.cert_policy.specs.declared.facts.Facts.{Facts}
use Rattle.cert_policy.specs.declared.facts.PolicyFacts.{PolicyFacts}

-- a policy: how many of the trusted authorities must endorse the next certificate, whether its key
-- must be handed over, how old a confirmation may be and until when the policy holds, in epochs, the
-- numbers of the trusted authorities, and how many epochs a recovery waits, where there is one
pub record PolicyTerms : Type 0 where
  pub threshold : ℕ
  pub keyed : Bool
  pub max_age : ℕ
  pub until : ℕ
  pub trusted : List ℕ
  pub wait : Option ℕ

-- a certificate: the bytes of its name, its serial number, the digest of the one before it and its
-- own, whether it revokes the name, and its policy
pub record CertTerms : Type 0 where
  pub name : List ℕ
  pub serial : ℕ
  pub previous : List ℕ
  pub digest : List ℕ
  pub revoked : Bool
  pub policy : PolicyTerms

-- the policy that borrowed facts tell of
abbrev pub policy_terms : PolicyFacts → PolicyTerms
policy_terms p = record {
  threshold = p.threshold;
  keyed = p.keyed;
  max_age = p.max_age;
  until = p.until;
  trusted = p.trusted.now;
  wait = p.wait;
}

-- the certificate that borrowed facts tell of
abbrev pub cert_terms : Facts → CertTerms
cert_terms f = record {
  name = f.name.now;
  serial = f.serial;
  previous = f.previous;
  digest = f.digest;
  revoked = f.revoked;
  policy = policy_terms f.policy;
}
