-- What a verdict says of the five conditions.
use Rattle.std.proofs.Common.{◌≡◌, ◌∙◌, sym, ap, refl, ◌↔◌, ℕ, ◌^◌, eqb, ltb, Bool, true, false, List, [], ◌∷◌, Option, Some, None, Result, Ok, Err}
use Rattle.std.specs.Bool.{Decides}
use Rattle.std.specs.Str.{bytes_eq}
use Rattle.std.proofs.lemmas.Bool.Decides.{Decides-eqb, Decides-ltb}
use Rattle.std.proofs.lemmas.Slice.Eq.{bytes_eq-Decides}
use Rattle.ar_base.specs.FirstFailing.{first_failing, tests_of, DecidesEach}
use Rattle.ar_base.proofs.Failing.{conditions_hold, condition_fails}
use Rattle.lm_ots.specs.OtsKind as ots_kind
use Rattle.lm_ots.specs.Candidate.{type_number}
use Rattle.lms_tree.specs.declared.public_key.LmsPublic.{LmsPublic}
use Rattle.lms_tree.specs.declared.validity.Verdict.{Verdict}
use Rattle.lms_tree.specs.declared.validity.Verdict.TheVariants.{Valid, Invalid}
use Rattle.lms_tree.specs.LmsKind as lms_kind
use Rattle.lms_tree.specs.LmsKind.{height_of}
use Rattle.lms_tree.specs.Signature.{SignatureParts}
use Rattle.lms_tree.specs.Validity.{HasLength, HasOtsType, HasLmsType, HasLeaf, LeadsToRoot, OfParts, Condition, has_length, has_ots_type, has_lms_type, has_leaf, leads_to_root, number_of, all_conditions, Meets, MeetsAll, MeetsUpTo, candidate_root, parts_of, verdict, verdict_of}
use Rattle.lms_tree.proofs.SignatureLemmas.{judged, short, no_parts}
use Rattle.lms_tree.proofs.SignatureLemmas as lemmas

-- ---- the tests that decide the conditions

-- the verdict on five tests
abbrev five : Bool → Bool → Bool → Bool → Bool → Verdict
five a b c d e = verdict (first_failing ((1, a) ∷ (2, b) ∷ (3, c) ∷ (4, d) ∷ (5, e) ∷ []))

record Tests (key : LmsPublic) (message signature : List ℕ) : Type 0 where
  a : Bool
  b : Bool
  c : Bool
  d : Bool
  e : Bool
  is : verdict_of key message signature ≡ five a b c d e
  length : Decides a (HasLength key signature)
  ots_type : Decides b (HasOtsType key signature)
  lms_type : Decides c (HasLmsType key signature)
  leaf : Decides d (HasLeaf key signature)
  root : Decides e (LeadsToRoot key message signature)

-- a test of the parts that there are decides what it tests
of_some : (key : LmsPublic) (signature : List ℕ) (parts : SignatureParts) (P : SignatureParts → Type 0) (test : SignatureParts → Bool)
    → parts_of key signature ≡ Some parts → ((p : SignatureParts) → Decides (test p) (P p)) → Decides (test parts) (OfParts key signature P)
of_some key signature parts P test is decides = (
  λ t. (parts, (is, (decides parts).0 t)),
  λ has. let first = has.1.0 in let same : has.0 ≡ parts = cc in rw (← same) ((decides has.0).1 has.1.1),
)

-- and where there are none, nothing is true of them
of_none : (key : LmsPublic) (signature : List ℕ) (P : SignatureParts → Type 0) → parts_of key signature ≡ None → Decides false (OfParts key signature P)
of_none key signature P none = (λ t. absurd cc, λ has. let first = has.1.0 in cc)

tests : (key : LmsPublic) (message signature : List ℕ) → Tests key message signature
tests key message signature = by (parts_of key signature) refl
  where
    by : (parts : Option SignatureParts) → parts_of key signature ≡ parts → Tests key message signature
    by None none = record {
      a = false;
      b = false;
      c = false;
      d = false;
      e = false;
      is = short key message signature none;
      length = (λ t. absurd cc, λ has. absurd (no_parts key signature none has));
      ots_type = of_none key signature _ none;
      lms_type = of_none key signature _ none;
      leaf = of_none key signature _ none;
      root = of_none key signature _ none;
    }
    by (Some parts) is = record {
      a = true;
      b = eqb (type_number parts.one_time) (ots_kind.number_of key.ots);
      c = eqb parts.lms (lms_kind.number_of key.lms);
      d = ltb parts.leaf (2 ^ height_of key.lms);
      e = bytes_eq (candidate_root key message parts) key.root;
      is = judged key message signature parts is;
      length = (λ t. lemmas.has_length key signature parts is, λ has. refl);
      ots_type = of_some key signature parts _ (λ p. eqb (type_number p.one_time) (ots_kind.number_of key.ots)) is (λ p. Decides-eqb (type_number p.one_time) (ots_kind.number_of key.ots));
      lms_type = of_some key signature parts _ (λ p. eqb p.lms (lms_kind.number_of key.lms)) is (λ p. Decides-eqb p.lms (lms_kind.number_of key.lms));
      leaf = of_some key signature parts _ (λ p. ltb p.leaf (2 ^ height_of key.lms)) is (λ p. Decides-ltb p.leaf (2 ^ height_of key.lms));
      root = of_some key signature parts _ (λ p. bytes_eq (candidate_root key message p) key.root) is (λ p. bytes_eq-Decides (candidate_root key message p) key.root);
    }

-- the test of each condition
abbrev test_of : {key : LmsPublic} {message signature : List ℕ} → Tests key message signature → Condition → Bool
test_of t has_length = t.a
test_of t has_ots_type = t.b
test_of t has_lms_type = t.c
test_of t has_leaf = t.d
test_of t leads_to_root = t.e

decided : (key : LmsPublic) (message signature : List ℕ) (t : Tests key message signature) → DecidesEach (test_of t) (Meets key message signature)
decided key message signature t has_length = t.length
decided key message signature t has_ots_type = t.ots_type
decided key message signature t has_lms_type = t.lms_type
decided key message signature t has_leaf = t.leaf
decided key message signature t leads_to_root = t.root

-- ---- the verdict

-- the first test that fails, by the verdict
first_valid : (answer : Result (Unit {0}) ℕ) → verdict answer ≡ Valid → answer ≡ Ok tt
first_valid (Ok u) h = refl
first_valid (Err k) h = absurd cc

first_invalid : (answer : Result (Unit {0}) ℕ) (k : ℕ) → verdict answer ≡ Invalid k → answer ≡ Err k
first_invalid (Ok u) k h = absurd cc
first_invalid (Err j) k h = (let same : j ≡ k = cc in ap (λ n. Err n) same)

abbrev first : {key : LmsPublic} {message signature : List ℕ} → Tests key message signature → Result (Unit {0}) ℕ
first t = first_failing (tests_of number_of (test_of t) all_conditions)

pub valid : (key : LmsPublic) (message signature : List ℕ) → (verdict_of key message signature ≡ Valid) ↔ MeetsAll key message signature
valid key message signature =
    let t = tests key message signature in
    let all = conditions_hold number_of (Meets key message signature) (test_of t) (decided key message signature t) all_conditions in
    ((λ h. all.0 (first_valid (first t) (sym t.is ∙ h))), (λ m. t.is ∙ ap verdict (all.1 m)))

pub invalid : (key : LmsPublic) (message signature : List ℕ) (k : ℕ) → (verdict_of key message signature ≡ Invalid k) ↔ MeetsUpTo key message signature k
invalid key message signature k =
    let t = tests key message signature in
    let fails = condition_fails number_of (Meets key message signature) (test_of t) (decided key message signature t) all_conditions k in
    ((λ h. fails.0 (first_invalid (first t) k (sym t.is ∙ h))), (λ m. t.is ∙ ap verdict (fails.1 m)))
