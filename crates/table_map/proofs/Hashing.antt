-- The text of one more party's first key.
use Rattle.std.proofs.Common.{◌≡◌, ℕ, suc, ◌+◌, List, ◌++◌, subst, arith}
use Rattle.std.proofs.lemmas.List.{append_assoc}
use Rattle.sha2.specs.Hashers.{Holds256}
use Rattle.sha2.specs.declared.Sha256.{Sha256}
use Rattle.ar_statement.specs.Claims.{party}
use Rattle.ar_statement.specs.declared.party.Party.{Party}
use Rattle.ar_statement.specs.declared.party.Role.{Role}
use Rattle.party_keys.specs.Directory.{Directory, keys_of, role_keys}
use Rattle.table_map.specs.Digests.{first_text, texts_below}

pub more-texts : (hasher : Sha256) (m : List ℕ) (keys : Directory) (role : Role) (number : ℕ) (p : Party) → p ≡ party role number
    → Holds256 hasher ((m ++ texts_below (role_keys keys role) number) ++ first_text (keys_of keys p))
    → Holds256 hasher (m ++ texts_below (role_keys keys role) (number + 1))
unfolding texts_below
more-texts hasher m keys role number p same held =
    let next : suc number ≡ number + 1 = omega arith in
    subst (λ n. Holds256 hasher (m ++ texts_below (role_keys keys role) n)) next
    (subst (λ (q : Party). Holds256 hasher (m ++ (texts_below (role_keys keys role) number ++ first_text (keys_of keys q)))) same
    (subst (Holds256 hasher) (append_assoc m (texts_below (role_keys keys role) number) (first_text (keys_of keys p))) held))
