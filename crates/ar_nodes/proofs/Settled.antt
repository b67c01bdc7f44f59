-- The logs where one notes what it did.
use Rattle.std.proofs.Common.{◌≡◌, ◌∙◌, ℕ, zero, suc, List, [], ◌∷◌, length, get_or, Option, None, Some, Result, Ok, Err, OnOk, refl, sym, ap, subst}
use Rattle.std.specs.Prelude.{slice_set}
use Rattle.std.specs.Option.{option_map}
use Rattle.std.specs.declared.alloc.AllocError.{AllocError}
use Rattle.std.proofs.lemmas.List.{length-set}
use Rattle.ar_nodes.specs.Acting.{Reply, logs_after, logs_behind, logs_with, with_taken}
use Rattle.ar_nodes.specs.Finding.{honest_in}
use Rattle.ar_nodes.specs.Parties.{LogNode}
use Rattle.ar_statement.specs.declared.party.Party.{Party}
use Rattle.ar_statement.specs.declared.party.Role.{Role}
use Rattle.ar_statement.specs.declared.party.Role.TheVariants as role

-- ---- in its place

with-more : (p : Option LogNode) (more : List (Option LogNode)) (message number : ℕ) (found : Option LogNode)
    → logs_with (p ∷ more) message (suc number) found ≡ p ∷ logs_with more message number found
with-more p more message number None = refl
with-more p more message number (Some node) = refl

noted-first : (slot : Option LogNode) (more : List (Option LogNode)) (message : ℕ) → option_map (with_taken message) slot ∷ more ≡ logs_with (slot ∷ more) message zero slot
noted-first None more message = refl
noted-first (Some node) more message = refl

noted-there : (logs : List (Option LogNode)) (message number : ℕ) (slot : Option LogNode) → slot ≡ get_or logs number slot
    → slice_set logs number (option_map (with_taken message) slot) ≡ logs_with logs message number (honest_in logs number)
noted-there [] message number slot is = refl
noted-there (p ∷ more) message zero slot is =
    subst (λ (q : Option LogNode). option_map (with_taken message) slot ∷ more ≡ logs_with (q ∷ more) message zero q) is (noted-first slot more message)
noted-there (p ∷ more) message (suc number) slot is =
    ap (λ (logs : List (Option LogNode)). p ∷ logs) (noted-there more message number slot is) ∙ sym (with-more p more message number (honest_in more number))

-- where what stands in a place noted the message, the log with this number did
pub noted_at : (logs : List (Option LogNode)) (message number : ℕ) (slot new : Option LogNode) (result : Result (Unit {0}) AllocError) → slot ≡ get_or logs number slot
    → OnOk result (new ≡ option_map (with_taken message) slot) → OnOk result (slice_set logs number new ≡ logs_with logs message number (honest_in logs number))
noted_at logs message number slot new (Ok u) is noted = ap (slice_set logs number) noted ∙ noted-there logs message number slot is
noted_at logs message number slot new (Err e) is noted = tt

-- ---- how many there are

as-many-with : (logs : List (Option LogNode)) (message number : ℕ) (found : Option LogNode) → length (logs_with logs message number found) ≡ length logs
as-many-with logs message number None = refl
as-many-with logs message number (Some node) = length-set logs number (Some (with_taken message node))

as-many-after : (logs : List (Option LogNode)) (message : ℕ) (r : Role) (number : ℕ) → length (logs_after logs message r number) ≡ length logs
as-many-after logs message role.LogServer number = as-many-with logs message number (honest_in logs number)
as-many-after logs message role.Authority number = refl
as-many-after logs message role.Owner number = refl
as-many-after logs message role.Client number = refl

pub as_many_behind : (logs : List (Option LogNode)) (message : ℕ) (who : Party) (reply : Reply) → length (logs_behind logs message who reply) ≡ length logs
as_many_behind logs message who (Ok sent) = as-many-after logs message who.role who.number
as_many_behind logs message who (Err code) = refl
