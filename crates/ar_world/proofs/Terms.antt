-- Whether words say a policy.
use Rattle.std.proofs.Common.{◌≡◌, ℕ, false, ◌&&◌, Some, None, Err, refl, ap, ◌∙◌}
use Rattle.std.specs.Prelude.{if◌then◌else◌}
use Rattle.std.proofs.Math.Bool.{and-false}
use Rattle.cert_drafts.specs.Policies.{are_authorities, may_wait, policy_of, terms_of}
use Rattle.script_text.specs.declared.line.PolicyWords.{PolicyWords}
use Rattle.ar_nodes.specs.Finding.{named}
use Rattle.ar_nodes.specs.declared.fault.WorldFault.TheVariants.{Absent}

pub unordered : (word : ℕ) (words : PolicyWords) → are_authorities words.trusted ≡ false → named word (policy_of words) ≡ Err (Absent word)
unordered word words h = rw h refl

pub unwaited : (word : ℕ) (words : PolicyWords) → may_wait words.wait ≡ false → named word (policy_of words) ≡ Err (Absent word)
unwaited word words h = ap (λ b. named word (if b then Some (terms_of words) else None)) (ap (λ b. are_authorities words.trusted && b) h ∙ and-false (are_authorities words.trusted))

pub ruleset policies = (unordered, unwaited)
