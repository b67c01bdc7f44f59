-- Whom a report names.
use Rattle.std.proofs.Common.{◌≡◌, ℕ, List, [], ◌∷◌, ◌++◌, length, refl, ap, ◌∙◌, subst, true, Option, Some, None}
use Rattle.std.specs.Prelude.{Contains}
use Rattle.std.specs.List.{AllByRecursion, cons_option, filter_map}
use Rattle.std.specs.Option.{option_map, option_or}
use Rattle.std.specs.Result.{result_ok}
use Rattle.std.proofs.lemmas.List.Elements.{All-contains, All-contains_itself, All-from_recursion, recursion_from_All}
use Rattle.std.proofs.lemmas.Bool.{and_parts}
use Rattle.std.proofs.lemmas.Option.{same_Some}
use Rattle.ar_base.proofs.Lists.{both-lists}
use Rattle.ar_base.proofs.Shown.{gave}
use Rattle.ar_statement.specs.Claims.{is_party, party, signer_of}
use Rattle.ar_statement.specs.declared.party.Party.{Party}
use Rattle.ar_statement.specs.declared.party.Role.{Role}
use Rattle.ar_statement.specs.declared.party.Role.TheVariants.{LogServer, Authority}
use Rattle.ar_council.proofs.Seeing.{one_party}
use Rattle.party_keys.specs.Directory.{Directory}
use Rattle.monitor.specs.declared.item.Item.{Item}
use Rattle.monitor.specs.declared.report.Conflict.{Conflict}
use Rattle.monitor.specs.Items.{Sworn, sworn_in, sworn_of}
use Rattle.monitor.specs.Reports.{Names, conflict_of, conflict_with, conflicts_of, first_against, first_conflict, members, report_of}
use Rattle.monitor.specs.Rules.{are_two_of_one, rule_fitting, rule_of}
use Rattle.monitor.specs.Standing.{Contradicts, IsSwornIn}
use Rattle.monitor.proofs.Shown.{chosen}

-- what holds of each value that is given of a list's elements holds of all that is given
pub all-mapped : {X Y : Type 0} (h : X → Option Y) (Q : X → Type 0) (P : Y → Type 0) → ((x : X) (y : Y) → Q x → h x ≡ Some y → P y)
    → (xs : List X) → AllByRecursion Q xs → AllByRecursion P (filter_map h xs)
all-mapped {X} {Y} h Q P each [] all = tt
all-mapped {X} {Y} h Q P each (x ∷ xs) all = by (h x) refl (all-mapped h Q P each xs all.1)
  where
    by : (o : Option Y) → h x ≡ o → AllByRecursion P (filter_map h xs) → AllByRecursion P (cons_option o (filter_map h xs))
    by None e rest = rest
    by (Some y) e rest = (each x y all.0 e, rest)

pub contained : {X : Type 0} (xs : List X) → AllByRecursion (Contains xs) xs
contained xs = recursion_from_All (Contains xs) xs (All-contains_itself xs)

pub shown : (keys : Directory) (items : List Item) → AllByRecursion (IsSwornIn keys items) (sworn_of keys items)
shown keys items =
    all-mapped (λ i. result_ok (sworn_in keys i)) (Contains items) (IsSwornIn keys items)
    (λ i s has e. (i, has, gave (sworn_in keys i) s e)) items (contained items)

-- a pair that is printed is of two statements that contradict each other, the later of the party
pub record Found (Q : Sworn → Type 0) (c : Conflict) : Type 0 where
  pub s : Sworn
  pub t : Sworn
  pub first : Q s
  pub second : Q t
  pub signer : is_party (signer_of t.claim) c.party ≡ true
  pub rule_is : rule_of s t ≡ Some c.rule
  pub first_is : s.line ≡ c.first
  pub second_is : t.line ≡ c.second

against : (Q : Sworn → Type 0) (before : List Sworn) (second : Sworn) (f : ℕ × ℕ) → AllByRecursion Q before → first_against before second ≡ Some f
    → (s : Sworn) × Q s × (rule_of s second ≡ Some f.1) × (s.line ≡ f.0)
unfolding first_against
against Q [] second f all e = absurd cc
against Q (first ∷ before) second f all e = by (rule_of first second) refl e (λ later. against Q before second f all.1 later)
  where
    by : (o : Option ℕ) → rule_of first second ≡ o → option_or (option_map (λ rule. (first.line, rule)) o) (first_against before second) ≡ Some f
        → (first_against before second ≡ Some f → (s : Sworn) × Q s × (rule_of s second ≡ Some f.1) × (s.line ≡ f.0)) → (s : Sworn) × Q s × (rule_of s second ≡ Some f.1) × (s.line ≡ f.0)
    by None is e rest = rest e
    by (Some rule) is e rest =
        let same : (first.line, rule) ≡ f = same_Some (first.line, rule) f e in
        (first, all.0, is ∙ ap (λ (x : ℕ × ℕ). Some x.1) same, ap (λ (x : ℕ × ℕ). x.0) same)

with-found : (Q : Sworn → Type 0) (who : Party) (before : List Sworn) (second : Sworn) (c : Conflict) → AllByRecursion Q before → Q second → conflict_with who before second ≡ Some c → Found Q c
with-found Q who before second c all good e =
    let is = chosen (is_party (signer_of second.claim) who) _ c e in
    by (first_against before second) refl is.0 is.1
  where
    by : (o : Option (ℕ × ℕ)) → first_against before second ≡ o → is_party (signer_of second.claim) who ≡ true
        → option_map (λ f. record { party = who; first = f.0; second = second.line; rule = f.1 }) o ≡ Some c → Found Q c
    by None is signer e = absurd cc
    by (Some f) is signer e =
        let found = against Q before second f all is in
        let made : Conflict = record { party = who; first = f.0; second = second.line; rule = f.1 } in
        subst (Found Q) (same_Some made c e)
        (record { s = found.0; t = second; first = found.1; second = good; signer = signer; rule_is = found.2; first_is = found.3; second_is = refl })

pub pairs : (Q : Sworn → Type 0) (who : Party) (before later : List Sworn) (c : Conflict) → AllByRecursion Q before → AllByRecursion Q later → first_conflict who before later ≡ Some c → Found Q c
unfolding first_conflict
pairs Q who before [] c all more e = absurd cc
pairs Q who before (second ∷ later) c all more e =
    by (conflict_with who before second) refl e
    (λ rest. pairs Q who (before ++ second ∷ []) later c (both-lists Q before (second ∷ []) all (more.0, tt)) more.1 rest)
  where
    by : (o : Option Conflict) → conflict_with who before second ≡ o → option_or o (first_conflict who (before ++ second ∷ []) later) ≡ Some c
        → (first_conflict who (before ++ second ∷ []) later ≡ Some c → Found Q c) → Found Q c
    by None is e rest = rest e
    by (Some d) is e rest = with-found Q who before second c all more.0 (is ∙ e)

of-role : (Q : Sworn → Type 0) (role : Role) (count : ℕ) (sworn : List Sworn) → AllByRecursion Q sworn → AllByRecursion (Found Q) (conflicts_of role count sworn)
of-role Q role count sworn all =
    all-mapped (conflict_of sworn) (Contains (members role count)) (Found Q)
    (λ who c has e. pairs Q who [] sworn c tt all e) (members role count) (contained (members role count))

pub one-signer : (s t : Sworn) (k : ℕ) → rule_of s t ≡ Some k → signer_of s.claim ≡ signer_of t.claim
unfolding rule_of
one-signer s t k e = one_party (signer_of s.claim) (signer_of t.claim) (and_parts _ _ (chosen (are_two_of_one s t) (rule_fitting s t) k e).0).0

-- who is named contradicts himself
pub named : (keys : Directory) (items : List Item) (who : Party) → Names (report_of keys items) who → Contradicts keys items who
unfolding report_of
named keys items who (c, has, is) =
    let sworn = sworn_of keys items in
    let P = Found (IsSwornIn keys items) in
    let all = shown keys items in
    let logs = conflicts_of LogServer (length keys.logs) sworn in
    let authorities = conflicts_of Authority (length keys.authorities) sworn in
    let each = both-lists P logs authorities (of-role (IsSwornIn keys items) LogServer (length keys.logs) sworn all) (of-role (IsSwornIn keys items) Authority (length keys.authorities) sworn all) in
    let f : P c = All-contains P (logs ++ authorities) c (All-from_recursion P (logs ++ authorities) each) has in
    let later : signer_of f.t.claim ≡ who = one_party (signer_of f.t.claim) c.party f.signer ∙ is in
    record {
      s = f.s;
      t = f.t;
      shown = f.first;
      shown_later = f.second;
      signer = one-signer f.s f.t c.rule f.rule_is ∙ later;
      signer_later = later;
      rule = c.rule;
      rule_is = f.rule_is;
    }
