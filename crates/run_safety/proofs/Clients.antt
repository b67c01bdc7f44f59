-- What clients learn and accept: what they accepted stays accepted, and each judgement that accepts is written and held.
use Rattle.std.proofs.Common.{◌≡◌, ◌∙◌, ℕ, List, [], ◌∷◌, ◌++◌, All, append-nil, refl, sym, ap, subst, true, false, Option, Some, None}
use Rattle.std.specs.Prelude.{map, slice_get}
use Rattle.std.specs.List.{filter_map}
use Rattle.std.proofs.lemmas.List.{map-append}
use Rattle.std.proofs.lemmas.List.Elements.{All-cons, All-head, All-nil, All-push, All-tail}
use Rattle.ar_council.proofs.Members.{council-learning}
use Rattle.ar_council.specs.Council.{council_of}
use Rattle.ar_safety.specs.Held.{IsAccepting, AcceptedBytes, asked_by, verdict_on}
use Rattle.ar_world.specs.Records.{HasParties}
use Rattle.ar_world.specs.Judging.{accepted_with, judged_by_rule}
use Rattle.report_text.specs.Verdicts.{said_of}
use Rattle.ar_world.specs.Learning.{knows_by, learning}
use Rattle.ar_world.specs.State.{World}
use Rattle.client_rule.proofs.Learning.{still_absent, still_accepted}
use Rattle.client_rule.specs.declared.judgement.Judgement.{Judgement}
use Rattle.client_rule.specs.declared.judgement.Judgement.TheVariants.{Absent, Accepted, Refused}
use Rattle.lms_tree.specs.declared.public_key.LmsPublic.{LmsPublic}
use Rattle.party_keys.proofs.Growing.{all_grows}
use Rattle.party_keys.specs.Directory.{Directory, keys_of}
use Rattle.party_keys.specs.Learning.{Announced}
use Rattle.report_text.specs.declared.happening.Happening.TheVariants.{Judged}
use Rattle.run_safety.specs.Headline.{accepted_in}
use Rattle.run_safety.proofs.Nodes.{first-stays}
use Rattle.ar_statement.specs.declared.party.Party.{Party}
use Rattle.run_safety.proofs.Parts.{Makes, part_of, told_by, told_in}

-- ---- `learn`

-- what was accepted is accepted by a directory that learnt
same-verdict : (keys : Directory) (note : Option Announced) (t : AcceptedBytes) (v : Judgement) → verdict_on keys t ≡ v → IsAccepting v → verdict_on (knows_by keys note) t ≡ v
same-verdict keys None t v is taken = is
same-verdict keys (Some a) t (Accepted certificate digest epoch root) is taken =
    still_accepted (asked_by keys t) (a ∷ []) t.bytes certificate digest epoch root is
same-verdict keys (Some a) t (Absent epoch root) is taken =
    still_absent (asked_by keys t) (a ∷ []) t.bytes epoch root is
same-verdict keys (Some a) t (Refused number) is taken = absurd taken

-- all of it
record AreSame (keys later : Directory) (judged : List AcceptedBytes) : Type 0 where
  taken : All (λ t. IsAccepting (verdict_on later t)) judged
  told : map (told_by keys) judged ≡ map (told_by later) judged

all-same : (keys : Directory) (note : Option Announced) (judged : List AcceptedBytes) → All (λ t. IsAccepting (verdict_on keys t)) judged → AreSame keys (knows_by keys note) judged
all-same keys note [] taken = record { taken = All-nil (λ t. IsAccepting (verdict_on (knows_by keys note) t)); told = refl }
all-same keys note (t ∷ more) taken =
    let holds : AcceptedBytes → Type 0 = λ t. IsAccepting (verdict_on keys t) in
    let head = All-head holds t more taken in
    let rest = all-same keys note more (All-tail holds t more taken) in
    let same : verdict_on (knows_by keys note) t ≡ verdict_on keys t = same-verdict keys note t (verdict_on keys t) refl head in
    record {
      taken = All-cons (λ t. IsAccepting (verdict_on (knows_by keys note) t)) t more (subst IsAccepting (sym same) head) rest.taken;
      told = ap (λ v. said_of t.name v ∷ map (told_by keys) more) (sym same) ∙ ap (λ xs. told_by (knows_by keys note) t ∷ xs) rest.told;
    }

knows-council : (keys : Directory) (note : Option Announced) → council_of (knows_by keys note) ≡ council_of keys
knows-council keys None = refl
knows-council keys (Some a) = council-learning keys a

-- the first key that is known of a party stays so
knows-still : (keys : Directory) (note : Option Announced) (who : Party) (key : LmsPublic) → slice_get (keys_of keys who) 0 ≡ Some key
    → slice_get (keys_of (knows_by keys note) who) 0 ≡ Some key
knows-still keys None who key is = is
knows-still keys (Some a) who key is =
    let grows = all_grows keys (a ∷ []) who in
    ap (λ known. slice_get known 0) grows.1 ∙ first-stays (keys_of keys who) grows.0 key is

pub learning-makes : (w : World) (message : ℕ) (note : Option Announced) → Makes w (learning w message note)
learning-makes w message note = record {
  phase = refl;
  keeps = record {
    stands = λ s. record {
      seated = record {
        council = knows-council w.clients note ∙ s.seated.council;
        known = λ who key is. knows-still w.clients note who key (s.seated.known who key is);
        logs = s.seated.logs;
        authorities = s.seated.authorities;
        whole = s.seated.whole;
        taken = (all-same w.clients note w.judged s.seated.taken).taken;
      };
      bare = λ early. record { dishonest = (s.bare early).dishonest; judged = (s.bare early).judged };
      counted = s.counted;
      founded = s.founded;
    };
    told = λ s. append-nil (told_in (part_of w)) ∙ (all-same w.clients note w.judged s.seated.taken).told;
    named = append-nil (part_of w).dishonest;
  };
}

-- ---- `judge`

-- what is held and what is written behind a judgement
record IsHeld (keys : Directory) (judged : List AcceptedBytes) (t : AcceptedBytes) (v : Judgement) : Type 0 where
  taken : All (λ t. IsAccepting (verdict_on keys t)) judged → All (λ t. IsAccepting (verdict_on keys t)) (accepted_with judged t v)
  told : (message : ℕ) → map (told_by keys) judged ++ filter_map accepted_in (Judged message (said_of t.name v) ∷ []) ≡ map (told_by keys) (accepted_with judged t v)

-- one more
one-held : (keys : Directory) (judged : List AcceptedBytes) (t : AcceptedBytes) (v : Judgement) → verdict_on keys t ≡ v → IsAccepting v
    → All (λ t. IsAccepting (verdict_on keys t)) judged → All (λ t. IsAccepting (verdict_on keys t)) (judged ++ t ∷ [])
one-held keys judged t v is taken all = All-push (λ t. IsAccepting (verdict_on keys t)) judged t all (subst IsAccepting (sym is) taken)

one-told : (keys : Directory) (judged : List AcceptedBytes) (t : AcceptedBytes) (v : Judgement) → verdict_on keys t ≡ v
    → map (told_by keys) judged ++ said_of t.name v ∷ [] ≡ map (told_by keys) (judged ++ t ∷ [])
one-told keys judged t v is = ap (λ x. map (told_by keys) judged ++ said_of t.name x ∷ []) (sym is) ∙ sym (map-append (told_by keys) judged (t ∷ []))

held-by : (keys : Directory) (judged : List AcceptedBytes) (t : AcceptedBytes) (v : Judgement) → verdict_on keys t ≡ v → IsHeld keys judged t v
held-by keys judged t (Accepted certificate digest epoch root) is = record {
  taken = one-held keys judged t (Accepted certificate digest epoch root) is tt;
  told = λ message. one-told keys judged t (Accepted certificate digest epoch root) is;
}
held-by keys judged t (Absent epoch root) is = record {
  taken = one-held keys judged t (Absent epoch root) is tt;
  told = λ message. one-told keys judged t (Absent epoch root) is;
}
held-by keys judged t (Refused number) is = record { taken = λ all. all; told = λ message. append-nil (map (told_by keys) judged) }

pub judging-makes : (w : World) (message : ℕ) (t : AcceptedBytes) → HasParties w → Makes w (judged_by_rule w message t)
judging-makes w message t late = record {
  phase = refl;
  keeps = record {
    stands = λ s. record {
      seated = record {
        council = s.seated.council;
        known = s.seated.known;
        logs = s.seated.logs;
        authorities = s.seated.authorities;
        whole = s.seated.whole;
        taken = (held-by w.clients w.judged t (verdict_on w.clients t) refl).taken s.seated.taken;
      };
      bare = λ early. let e : true ≡ false = sym late ∙ early in absurd cc;
      counted = s.counted;
      founded = s.founded;
    };
    told = λ s. (held-by w.clients w.judged t (verdict_on w.clients t) refl).told message;
    named = append-nil (part_of w).dishonest;
  };
}
