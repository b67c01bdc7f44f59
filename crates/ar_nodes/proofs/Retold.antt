-- What an authority is whose check tells something else of itself.
use Rattle.std.proofs.Common.{◌≡◌, ◌∙◌, ◌<◌, ℕ, zero, suc, List, [], ◌∷◌, length, get_or, Option, Some, None, IfSome, is_none, is_some, refl, sym, ap, subst, true, arith}
use Rattle.std.specs.Prelude.{option_and_then, slice_set, OnOk, Result, Ok, Err}
use Rattle.std.specs.Option.{option_map}
use Rattle.owner_check.specs.Answers.{Told}
use Rattle.owner_check.specs.declared.answer.CheckAnswer.{CheckAnswer}
use Rattle.ar_nodes.specs.Finding.{checking_in, with_check}
use Rattle.ar_nodes.specs.Parties.{AuthorityNode, CheckParts, check_told}
use Rattle.ar_nodes.specs.Teaching.{retelling}

-- the check that tells this
pub check_retold : {X : Type 0} (told : X → Option Told) (answers : X → List CheckAnswer) (tells : Told → Told) (old new : Option X) → is_none new ≡ is_none old
    → IfSome old (λ o. IfSome new (λ n. told n ≡ option_map tells (told o))) → IfSome old (λ o. IfSome new (λ n. answers n ≡ answers o))
    → option_map (check_told told answers) new ≡ option_map (retelling tells) (option_map (check_told told answers) old)
check_retold told answers tells (Some o) (Some n) there says keeps = ap (λ t. Some (record { told = t; answers = answers n })) says
    ∙ ap (λ a. Some (record { told = option_map tells (told o); answers = a })) keeps
check_retold told answers tells (Some o) None there says keeps = absurd (cc)
check_retold told answers tells None (Some n) there says keeps = absurd (cc)
check_retold told answers tells None None there says keeps = refl

-- the check that tells what it told
pub check_kept : {X : Type 0} (told : X → Option Told) (answers : X → List CheckAnswer) (old new : Option X) → is_none new ≡ is_none old
    → IfSome old (λ o. IfSome new (λ n. told n ≡ told o)) → IfSome old (λ o. IfSome new (λ n. answers n ≡ answers o))
    → option_map (check_told told answers) new ≡ option_map (check_told told answers) old
check_kept told answers (Some o) (Some n) there says keeps = ap (λ t. Some (record { told = t; answers = answers n })) says
    ∙ ap (λ a. Some (record { told = told o; answers = a })) keeps
check_kept told answers (Some o) None there says keeps = absurd (cc)
check_kept told answers None (Some n) there says keeps = absurd (cc)
check_kept told answers None None there says keeps = refl

pub ruleset retellings = (check_retold, check_kept)

-- ---- places

-- an authority that checks is within the list
pub checking_within : (authorities : List (Option AuthorityNode)) (number : ℕ) → is_some (checking_in authorities number) ≡ true → number < length authorities
checking_within [] number there = absurd (cc)
checking_within (a ∷ more) zero there = omega arith
checking_within (a ∷ more) (suc number) there = let h = checking_within more number there in omega arith

-- and it is what stands there
pub checking_there : (authorities : List (Option AuthorityNode)) (number : ℕ) (other : Option AuthorityNode) → is_some (checking_in authorities number) ≡ true
    → checking_in authorities number ≡ option_and_then with_check (get_or authorities number other)
checking_there [] number other there = absurd (cc)
checking_there (a ∷ more) zero other there = refl
checking_there (a ∷ more) (suc number) other there = checking_there more number other there

set-made : (o : Option (AuthorityNode × CheckParts)) (authorities : List (Option AuthorityNode)) (number : ℕ) (after : Option AuthorityNode) (made : AuthorityNode × CheckParts → AuthorityNode)
    → IfSome o (λ found. after ≡ Some (made found)) → IfSome o (λ found. slice_set authorities number after ≡ slice_set authorities number (Some (made found)))
set-made None authorities number after made so = so
set-made (Some found) authorities number after made so = ap (slice_set authorities number) so

-- so what is made of it comes into its place
pub made_there : (authorities : List (Option AuthorityNode)) (number : ℕ) (other after : Option AuthorityNode) (made : AuthorityNode × CheckParts → AuthorityNode)
    → is_some (checking_in authorities number) ≡ true → IfSome (option_and_then with_check (get_or authorities number other)) (λ found. after ≡ Some (made found))
    → IfSome (checking_in authorities number) (λ found. slice_set authorities number after ≡ slice_set authorities number (Some (made found)))
made_there authorities number other after made there so =
    subst (λ o. IfSome o (λ found. slice_set authorities number after ≡ slice_set authorities number (Some (made found))))
    (sym (checking_there authorities number other there)) (set-made (option_and_then with_check (get_or authorities number other)) authorities number after made so)

-- the same where it could be made
pub made_there_ok : {E : Type 0} (result : Result (Unit {0}) E) (authorities : List (Option AuthorityNode)) (number : ℕ) (other after : Option AuthorityNode)
    (made : AuthorityNode × CheckParts → AuthorityNode) → is_some (checking_in authorities number) ≡ true
    → OnOk result (IfSome (option_and_then with_check (get_or authorities number other)) (λ found. after ≡ Some (made found)))
    → OnOk result (IfSome (checking_in authorities number) (λ found. slice_set authorities number after ≡ slice_set authorities number (Some (made found))))
made_there_ok (Ok _) authorities number other after made there so = made_there authorities number other after made there so
made_there_ok (Err _) authorities number other after made there so = so
