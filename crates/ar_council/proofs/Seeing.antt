-- What was seen grows.
use Rattle.std.proofs.Common.{◌≡◌, ◌⊎◌, inl, inr, ⊎_elim, List, [], ◌∷◌, true, eqb}
use Rattle.std.specs.Prelude.{◌↔◌, All, Contains, bytes_eq}
use Rattle.std.specs.List.{AllByRecursion}
use Rattle.std.proofs.lemmas.Bool.{and_parts, eqb-true}
use Rattle.std.proofs.lemmas.Slice.Eq.{bytes_eq-Decides}
use Rattle.std.proofs.lemmas.List.Elements.{All-cons, All-contains, All-contains_itself, All-from_recursion, All-weaker, All-head, All-nil, All-tail}
use Rattle.ar_base.specs.Prefixes.{BeginsWith}
use Rattle.ar_base.proofs.Adding.{one-all, one-has, one-keeps}
use Rattle.ar_base.proofs.Prefixes.{begins_itself, begins_on}
use Rattle.ar_statement.specs.declared.party.Party.{Party}
use Rattle.ar_statement.specs.declared.text.SeenText.{SeenText}
use Rattle.ar_statement.specs.Claims.{is_party, role_number}
use Rattle.ar_statement.proofs.Statements.{same_role}
use Rattle.party_keys.specs.Seen.{SeesOnly}
use Rattle.ar_council.specs.Seen.{is_same_seen, seen_after, with_seen}
use Rattle.ar_council.proofs.Lists.{Within, one-begins}

pub one_party : (p r : Party) → is_party p r ≡ true → p ≡ r
one_party p r e =
    let two = and_parts (eqb (role_number p.role) (role_number r.role)) (eqb p.number r.number) e in
    let role : p.role ≡ r.role = same_role p.role r.role (eqb-true (role_number p.role) (role_number r.role) two.0) in
    let number : p.number ≡ r.number = eqb-true p.number r.number two.1 in
    λ i. record { role = role i; number = number i }

one_seen : (s t : SeenText) → is_same_seen s t ≡ true → s ≡ t
one_seen s t e =
    let two = and_parts (is_party s.party t.party) (bytes_eq s.text t.text) e in
    let party : s.party ≡ t.party = one_party s.party t.party two.0 in
    let text : s.text ≡ t.text = (bytes_eq-Decides s.text t.text).0 two.1 in
    λ i. record { party = party i; text = text i }

-- what was seen stays seen
pub seen-keeps : (more seen : List SeenText) → Within seen (seen_after seen more)
seen-keeps [] seen x there = there
seen-keeps (t ∷ more) seen x there = seen-keeps more (with_seen seen t) x (one-keeps is_same_seen seen t x there)

-- and the new ones are
pub seen-has : (more seen : List SeenText) → All (Contains (seen_after seen more)) more
seen-has [] seen = All-nil (Contains (seen_after seen []))
seen-has (t ∷ more) seen =
    let seen' : List SeenText = with_seen seen t in
    All-cons (Contains (seen_after seen (t ∷ more))) t more (seen-keeps more seen' t (one-has is_same_seen seen t (λ s. one_seen s t))) (seen-has more seen')

-- and nothing else
pub seen-all : (P : SeenText → Type 0) (more seen : List SeenText) → All P seen → All P more → All P (seen_after seen more)
seen-all P [] seen all new = all
seen-all P (t ∷ more) seen all new =
    seen-all P more (with_seen seen t) (one-all P is_same_seen seen t all (All-head P t more new)) (All-tail P t more new)

-- both ways
pub seen-exactly : (seen more : List SeenText) (t : SeenText) → Contains (seen_after seen more) t ↔ (Contains seen t ⊎ Contains more t)
seen-exactly seen more t = (
  λ there. All-contains (λ x. Contains seen x ⊎ Contains more x) (seen_after seen more) t
      (seen-all (λ x. Contains seen x ⊎ Contains more x) more seen
      (All-weaker (Contains seen) (λ x. Contains seen x ⊎ Contains more x) (λ x old. inl old) seen (All-contains_itself seen))
      (All-weaker (Contains more) (λ x. Contains seen x ⊎ Contains more x) (λ x new. inr new) more (All-contains_itself more))) there,
  λ either. elim either [
    | inl old ↦ seen-keeps more seen t old
    | inr new ↦ All-contains (Contains (seen_after seen more)) more t (seen-has more seen) new
  ],
)

-- and each in its place
pub seen-begins : (more seen : List SeenText) → BeginsWith (seen_after seen more) seen
seen-begins [] seen = begins_itself seen
seen-begins (t ∷ more) seen =
    begins_on seen (with_seen seen t) (seen_after (with_seen seen t) more) (seen-begins more (with_seen seen t)) (one-begins is_same_seen seen t)

-- where each of the new ones may be seen, what is seen newly may
pub sees-only : (May : SeenText → Type 0) (seen more : List SeenText) → AllByRecursion May more → SeesOnly May seen (seen_after seen more)
sees-only May seen more all t there =
    ⊎_elim (λ (old : Contains seen t). inl old)
    (λ (new : Contains more t). inr (All-contains May more t (All-from_recursion May more all) new))
    ((seen-exactly seen more t).0 there)
