-- The rules do not ask which of two statements comes first.
use Rattle.std.proofs.Common.{◌≡◌, ℕ, ◌==◌, List, refl, sym, ap, ◌∙◌, Bool, true, false, cond, not, ◌&&◌, ◌||◌, Option, Some, None}
use Rattle.std.specs.Str.{bytes_eq}
use Rattle.std.proofs.lemmas.Bool.{and_parts, eq-eqb, eqb-true}
use Rattle.std.proofs.lemmas.Slice.Eq.{bytes_eq-Decides}
use Rattle.ar_statement.specs.Claims.{Claim, is_party, role_number, signer_of}
use Rattle.ar_statement.specs.declared.party.Party.{Party}
use Rattle.ar_council.proofs.Seeing.{one_party}
use Rattle.party_keys.specs.Signatures.{rolls_from}
use Rattle.vote_quorum.specs.declared.value.Value.{Value}
use Rattle.monitor.specs.Items.{Sworn}
use Rattle.monitor.specs.Rules.{are_confirmations, are_one, are_rolls, are_statuses, are_two_of_one, are_votes, confirmation_in, have_one_leaf, holds_of_both, is_denied, is_of_log, rule_fitting, rule_of, status_in, vote_in}
use Rattle.monitor.proofs.Shown.{chosen}

-- ---- tests

both-ways : (b c : Bool) → (b ≡ true → c ≡ true) → (c ≡ true → b ≡ true) → b ≡ c
both-ways true c f g = sym (f refl)
both-ways false true f g = g refl
both-ways false false f g = refl

or-turned : (b c : Bool) → (b || c) ≡ (c || b)
or-turned true true = refl
or-turned true false = refl
or-turned false true = refl
or-turned false false = refl

number-turned : (a b : ℕ) → (a == b) ≡ (b == a)
number-turned a b = both-ways (a == b) (b == a) (λ e. eq-eqb b a (sym (eqb-true a b e))) (λ e. eq-eqb a b (sym (eqb-true b a e)))

bytes-turned : (a b : List ℕ) → bytes_eq a b ≡ bytes_eq b a
bytes-turned a b =
    both-ways (bytes_eq a b) (bytes_eq b a) (λ e. (bytes_eq-Decides b a).1 (sym ((bytes_eq-Decides a b).0 e)))
    (λ e. (bytes_eq-Decides a b).1 (sym ((bytes_eq-Decides b a).0 e)))

party-turned : (p r : Party) → is_party p r ≡ is_party r p
party-turned p r =
    let role : (role_number p.role == role_number r.role) ≡ (role_number r.role == role_number p.role) = number-turned (role_number p.role) (role_number r.role) in
    let number : (p.number == r.number) ≡ (r.number == p.number) = number-turned p.number r.number in
    λ i. role i && number i

turned : {A B : Type 0} (test : A → B → Bool) (back : B → A → Bool) → ((a : A) (b : B) → test a b ≡ back b a) → (o : Option A) (p : Option B) → holds_of_both test o p ≡ holds_of_both back p o
turned test back each None None = refl
turned test back each None (Some b) = refl
turned test back each (Some a) None = refl
turned test back each (Some a) (Some b) = each a b

one-turned : (o p : Option ℕ) → are_one o p ≡ are_one p o
one-turned o p = turned (λ (a b : ℕ). a == b) (λ (a b : ℕ). a == b) number-turned o p

-- ---- the rules

votes-turned : (one other : Claim) → are_votes one other ≡ are_votes other one
votes-turned one other =
    turned (λ (v w : ℕ × Value). v.0 == w.0) (λ (v w : ℕ × Value). v.0 == w.0) (λ (v w : ℕ × Value). number-turned v.0 w.0) (vote_in one) (vote_in other)

statuses-turned : (one other : Claim) → are_statuses one other ≡ are_statuses other one
statuses-turned one other =
    turned (λ (s t : ℕ × Option Value). s.0 == t.0) (λ (s t : ℕ × Option Value). s.0 == t.0) (λ (s t : ℕ × Option Value). number-turned s.0 t.0) (status_in one) (status_in other)

confirmations-turned : (one other : Claim) → signer_of one ≡ signer_of other → are_confirmations one other ≡ are_confirmations other one
confirmations-turned one other signer =
    let of-log : is_of_log one ≡ is_of_log other = ap (λ (p : Party). role_number p.role == 1) signer in
    let tests : holds_of_both differ (confirmation_in one) (confirmation_in other) ≡ holds_of_both differ (confirmation_in other) (confirmation_in one) =
    turned differ differ each (confirmation_in one) (confirmation_in other) in
    λ i. of-log i && tests i
  where
    differ : ℕ × (List ℕ × List ℕ) → ℕ × (List ℕ × List ℕ) → Bool
    differ c d = c.0 == d.0 && (not (bytes_eq c.1.1 d.1.1) || bytes_eq c.1.0 d.1.0)

    each : (c d : ℕ × (List ℕ × List ℕ)) → differ c d ≡ differ d c
    each c d =
        let epoch : (c.0 == d.0) ≡ (d.0 == c.0) = number-turned c.0 d.0 in
        let root : bytes_eq c.1.1 d.1.1 ≡ bytes_eq d.1.1 c.1.1 = bytes-turned c.1.1 d.1.1 in
        let name : bytes_eq c.1.0 d.1.0 ≡ bytes_eq d.1.0 c.1.0 = bytes-turned c.1.0 d.1.0 in
        λ i. epoch i && (not (root i) || name i)

leaf-turned : (s t : Sworn) → have_one_leaf s t ≡ have_one_leaf t s
leaf-turned s t =
    let generation : are_one s.generation t.generation ≡ are_one t.generation s.generation = one-turned s.generation t.generation in
    let leaf : are_one s.leaf t.leaf ≡ are_one t.leaf s.leaf = one-turned s.leaf t.leaf in
    λ i. generation i && leaf i

fitting-turned : (s t : Sworn) → signer_of s.claim ≡ signer_of t.claim → rule_fitting s t ≡ rule_fitting t s
fitting-turned s t signer =
    let votes : are_votes s.claim t.claim ≡ are_votes t.claim s.claim = votes-turned s.claim t.claim in
    let denied : (is_denied s.claim t.claim || is_denied t.claim s.claim) ≡ (is_denied t.claim s.claim || is_denied s.claim t.claim) =
    or-turned (is_denied s.claim t.claim) (is_denied t.claim s.claim) in
    let statuses : are_statuses s.claim t.claim ≡ are_statuses t.claim s.claim = statuses-turned s.claim t.claim in
    let confirmations : are_confirmations s.claim t.claim ≡ are_confirmations t.claim s.claim = confirmations-turned s.claim t.claim signer in
    let rolls : are_rolls s.claim t.claim ≡ are_rolls t.claim s.claim = one-turned (rolls_from s.claim) (rolls_from t.claim) in
    let leaf : have_one_leaf s t ≡ have_one_leaf t s = leaf-turned s t in
    λ i. cond (votes i) (Some 1) (cond (denied i) (Some 2) (cond (statuses i) (Some 3) (cond (confirmations i) (Some 4) (cond (rolls i) (Some 5) (cond (leaf i) (Some 6) None)))))

two-turned : (s t : Sworn) → are_two_of_one s t ≡ are_two_of_one t s
two-turned s t =
    let party : is_party (signer_of s.claim) (signer_of t.claim) ≡ is_party (signer_of t.claim) (signer_of s.claim) = party-turned (signer_of s.claim) (signer_of t.claim) in
    let texts : bytes_eq s.text t.text ≡ bytes_eq t.text s.text = bytes-turned s.text t.text in
    λ i. party i && not (texts i)

pub rule-turned : (s t : Sworn) (k : ℕ) → rule_of s t ≡ Some k → rule_of t s ≡ Some k
unfolding rule_of
rule-turned s t k e =
    let is = chosen (are_two_of_one s t) (rule_fitting s t) k e in
    let signer : signer_of s.claim ≡ signer_of t.claim = one_party (signer_of s.claim) (signer_of t.claim) (and_parts _ _ is.0).0 in
    let two : are_two_of_one t s ≡ true = sym (two-turned s t) ∙ is.0 in
    let fits : rule_fitting t s ≡ Some k = sym (fitting-turned s t signer) ∙ is.1 in
    ap (λ b. cond b (rule_fitting t s) None) two ∙ fits
