-- The policy that words of a script say.
use Rattle.std.specs.Prelude.{ℕ, nat_lt, Bool, true, ◌&&◌, if◌then◌else◌, List, Option, Some, None}
use Rattle.std.specs.List.{list_all}
use Rattle.ar_bytes.specs.Ascending.{ascends}
use Rattle.ar_cert.specs.Certificate.{is_wait}
use Rattle.cert_policy.specs.Terms.{PolicyTerms}
use Rattle.script_text.specs.declared.line.PolicyWords.{PolicyWords}

-- whether numbers are those of authorities: they ascend strictly, and have two bytes each
abbrev pub are_authorities : List ℕ → Bool
are_authorities numbers = ascends numbers && list_all (λ number. nat_lt number 65536) numbers

-- a wait is one, where there is any
abbrev pub may_wait : Option ℕ → Bool
may_wait None = true
may_wait (Some wait) = is_wait wait

-- the terms that words say
abbrev pub terms_of : PolicyWords → PolicyTerms
terms_of words = record {
  threshold = words.threshold;
  keyed = words.keyed;
  max_age = words.max_age;
  until = words.until;
  trusted = words.trusted;
  wait = words.wait;
}

-- the policy that words say, where its authorities ascend and its wait is one
abbrev pub policy_of : PolicyWords → Option PolicyTerms
policy_of words = if are_authorities words.trusted && may_wait words.wait then Some (terms_of words) else None
