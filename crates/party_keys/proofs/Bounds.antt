-- A directory that is made keeps its bounds.
use Rattle.std.proofs.Common.{◌≡◌, ℕ, ◌+◌, ◌*◌, ◌<◌, ◌≤◌, List, [], Ok, Err, Bool, true, false, nat_le, nat_lt, if◌then◌else◌, length, refl, subst, arith}
use Rattle.std.proofs.lemmas.List.{length-map}
use Rattle.std.proofs.lemmas.Bool.Decides.{nat_tests}
use Rattle.std.proofs.lemmas.Bool.{and_parts}
use Rattle.lms_tree.specs.declared.public_key.LmsPublic.{LmsPublic}
use Rattle.party_keys.specs.Directory.{Directory, HaveKeys, IsDirectory, directory_of, directory_with, first_keys, is_party_count, is_quorum}
use Rattle.party_keys.specs.declared.fault.DirectoryFault.TheVariants.{Logs, Authorities, Quorum}
use Rattle.party_keys.proofs.Joined.{all-joined, joined-none}

pub have_first : (firsts : List LmsPublic) → HaveKeys (first_keys firsts)
have_first firsts = subst (λ (lists : List (List LmsPublic)). HaveKeys lists) (joined-none firsts) (all-joined firsts [])

pub length_first : (firsts : List LmsPublic) → length (first_keys firsts) ≡ length firsts
length_first firsts = length-map firsts _

le_is : (a b : ℕ) → nat_le a b ≡ true → a ≤ b
le_is a b e = grind (arith, nat_tests)

lt_is : (a b : ℕ) → nat_lt a b ≡ true → a < b
lt_is a b e = grind (arith, nat_tests)

pub made_keeps : (logs authorities : List LmsPublic) (q : ℕ) (keys : Directory) → directory_of logs authorities q ≡ Ok keys → IsDirectory keys
made_keeps logs authorities q keys e = by_tests (is_party_count (length logs)) (is_party_count (length authorities)) (is_quorum q (length logs)) refl refl refl e where
  by_tests : (a b c : Bool) → is_party_count (length logs) ≡ a → is_party_count (length authorities) ≡ b → is_quorum q (length logs) ≡ c
      → (if a then (if b then (if c then Ok (directory_with logs authorities q) else Err Quorum) else Err Authorities) else Err Logs) ≡ Ok keys → IsDirectory keys
  by_tests false b c ea eb ec e = absurd cc
  by_tests true false c ea eb ec e = absurd cc
  by_tests true true false ea eb ec e = absurd cc
  by_tests true true true ea eb ec e =
      let is : directory_with logs authorities q ≡ keys = cc in
      let few = and_parts _ _ ea in
      let fewer = and_parts _ _ eb in
      let quorum = and_parts _ _ ec in
      subst (λ (keys : Directory). IsDirectory keys) is record {
        logs_least = rw (length_first logs) (le_is 3 (length logs) few.0);
        logs_most = rw (length_first logs) (le_is (length logs) 16 few.1);
        authorities_least = rw (length_first authorities) (le_is 3 (length authorities) fewer.0);
        authorities_most = rw (length_first authorities) (le_is (length authorities) 16 fewer.1);
        quorum_least = rw (length_first logs) (lt_is (length logs + 2) (2 * q) quorum.0);
        quorum_most = rw (length_first logs) (le_is q (length logs) quorum.1);
        logs_keys = have_first logs;
        authorities_keys = have_first authorities;
      }

pub ruleset bounds = (have_first, length_first)
