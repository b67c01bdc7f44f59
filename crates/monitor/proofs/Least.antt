-- The pair that is found first has the least second line, and of those with it the least first line.
use Rattle.std.proofs.Common.{◌≡◌, ℕ, ◌<◌, ◌≤◌, ◌==◌, ◌&&◌, ◌⊎◌, inl, inr, List, [], ◌∷◌, ◌++◌, refl, sym, ap, ◌∙◌, subst, arith, append_assoc, true, cond, Option, Some, None}
use Rattle.std.specs.List.{AllByRecursion}
use Rattle.std.specs.Option.{option_map, option_or}
use Rattle.std.proofs.lemmas.Bool.{eq-eqb}
use Rattle.std.proofs.lemmas.Option.{same_Some}
use Rattle.ar_base.proofs.Lists.{both-lists, of-both-lists}
use Rattle.ar_statement.specs.Claims.{is_party, role_number, signer_of}
use Rattle.ar_statement.specs.declared.party.Party.{Party}
use Rattle.monitor.specs.Items.{Sworn}
use Rattle.monitor.specs.Reports.{conflict_with, first_against, first_conflict}
use Rattle.monitor.specs.Rules.{rule_of}
use Rattle.monitor.specs.declared.report.Conflict.{Conflict}
use Rattle.monitor.proofs.Shown.{chosen}

-- ---- lists

pub clash : {A : Type 0} (o : Option A) (x : A) → o ≡ None → o ≡ Some x → ⊥
clash o x none some = cc

all-map : {X : Type 0} (P Q : X → Type 0) → ((x : X) → P x → Q x) → (xs : List X) → AllByRecursion P xs → AllByRecursion Q xs
all-map P Q each [] all = tt
all-map P Q each (x ∷ xs) all = (each x all.0, all-map P Q each xs all.1)

all-have : {X : Type 0} (P : X → Type 0) → ((x : X) → P x) → (xs : List X) → AllByRecursion P xs
all-have P each [] = tt
all-have P each (x ∷ xs) = (each x, all-have P each xs)

-- each line is below all later ones
abbrev pub Rising : List Sworn → Type 0
Rising [] = Unit {0}
Rising (x ∷ xs) = AllByRecursion (λ y. x.line < y.line) xs × Rising xs

-- those in front of one are below it and rise, and those behind it are above it
parts : (before : List Sworn) (x : Sworn) (later : List Sworn) → Rising (before ++ x ∷ later)
    → AllByRecursion (λ s. s.line < x.line) before × Rising before × AllByRecursion (λ s. x.line < s.line) later
parts [] x later r = (tt, tt, r.0)
parts (y ∷ ys) x later r =
    let rest = parts ys x later r.1 in
    let above = of-both-lists (λ (z : Sworn). y.line < z.line) ys (x ∷ later) r.0 in
    ((above.1.0, rest.0), (above.0, rest.1), rest.2)

-- ---- against those before

against-least : (before : List Sworn) (x : Sworn) (f : ℕ × ℕ) → Rising before → first_against before x ≡ Some f
    → AllByRecursion (λ s. (k : ℕ) → rule_of s x ≡ Some k → f.0 ≤ s.line) before
unfolding first_against
against-least [] x f r e = tt
against-least (y ∷ ys) x f r e = by (rule_of y x) refl e (λ later. against-least ys x f r.1 later)
  where
    Low : Sworn → Type 0
    Low s = (k : ℕ) → rule_of s x ≡ Some k → f.0 ≤ s.line

    by : (o : Option ℕ) → rule_of y x ≡ o → option_or (option_map (λ rule. (y.line, rule)) o) (first_against ys x) ≡ Some f
        → (first_against ys x ≡ Some f → AllByRecursion Low ys) → Low y × AllByRecursion Low ys
    by None is e rest = (λ k some. absurd (clash (rule_of y x) k is some), rest e)
    by (Some rule) is e rest =
        let at : y.line ≡ f.0 = ap (λ (z : ℕ × ℕ). z.0) (same_Some (y.line, rule) f e) in
        (λ k some. omega (arith, at), all-map (λ (s : Sworn). y.line < s.line) Low (λ s less k some. omega (arith, at, less)) ys r.0)

against-none : (before : List Sworn) (x : Sworn) → first_against before x ≡ None → AllByRecursion (λ s. (k : ℕ) → rule_of s x ≡ Some k → ⊥) before
unfolding first_against
against-none [] x e = tt
against-none (y ∷ ys) x e = by (rule_of y x) refl e (λ later. against-none ys x later)
  where
    No : Sworn → Type 0
    No s = (k : ℕ) → rule_of s x ≡ Some k → ⊥

    by : (o : Option ℕ) → rule_of y x ≡ o → option_or (option_map (λ rule. (y.line, rule)) o) (first_against ys x) ≡ None
        → (first_against ys x ≡ None → AllByRecursion No ys) → No y × AllByRecursion No ys
    by None is e rest = (λ k some. clash (rule_of y x) k is some, rest e)
    by (Some rule) is e rest = absurd cc

against-below : (n : ℕ) (before : List Sworn) (x : Sworn) (f : ℕ × ℕ) → AllByRecursion (λ s. s.line < n) before → first_against before x ≡ Some f → f.0 < n
unfolding first_against
against-below n [] x f all e = absurd cc
against-below n (y ∷ ys) x f all e = by (rule_of y x) e (λ later. against-below n ys x f all.1 later)
  where
    by : (o : Option ℕ) → option_or (option_map (λ rule. (y.line, rule)) o) (first_against ys x) ≡ Some f
        → (first_against ys x ≡ Some f → f.0 < n) → f.0 < n
    by None e rest = rest e
    by (Some rule) e rest = subst (λ m. m < n) (ap (λ (z : ℕ × ℕ). z.0) (same_Some (y.line, rule) f e)) all.0

-- ---- the pair of one statement

with-told : (who : Party) (before : List Sworn) (x : Sworn) (c : Conflict) → conflict_with who before x ≡ Some c
    → (f : ℕ × ℕ) × (first_against before x ≡ Some f) × (c.party ≡ who) × (c.first ≡ f.0) × (c.second ≡ x.line)
with-told who before x c e =
    by (first_against before x) refl (chosen (is_party (signer_of x.claim) who) _ c e).1
  where
    by : (o : Option (ℕ × ℕ)) → first_against before x ≡ o → option_map (λ f. record { party = who; first = f.0; second = x.line; rule = f.1 }) o ≡ Some c
        → (f : ℕ × ℕ) × (first_against before x ≡ Some f) × (c.party ≡ who) × (c.first ≡ f.0) × (c.second ≡ x.line)
    by None is e = absurd cc
    by (Some f) is e =
        let same : c ≡ record { party = who; first = f.0; second = x.line; rule = f.1 } = sym (same_Some (record { party = who; first = f.0; second = x.line; rule = f.1 }) c e) in
        (f, is, ap (λ (d : Conflict). d.party) same, ap (λ (d : Conflict). d.first) same, ap (λ (d : Conflict). d.second) same)

party-itself : (p : Party) → is_party p p ≡ true
party-itself p =
    let role : (role_number p.role == role_number p.role) ≡ true = eq-eqb (role_number p.role) (role_number p.role) refl in
    let number : (p.number == p.number) ≡ true = eq-eqb p.number p.number refl in
    λ i. role i && number i

-- a statement that contradicts one before it gives a pair that ends with it, and begins no later
ends-here : (who : Party) (before : List Sworn) (x : Sworn) → Rising before → (o : Option Conflict) → conflict_with who before x ≡ o
    → AllByRecursion (λ s. (k : ℕ) → signer_of x.claim ≡ who → rule_of s x ≡ Some k → (c : Conflict) × (o ≡ Some c) × (c.second ≡ x.line) × (c.first ≤ s.line)) before
ends-here who before x r o is = by (first_against before x) refl is
  where
    Ends : Sworn → Type 0
    Ends s = (k : ℕ) → signer_of x.claim ≡ who → rule_of s x ≡ Some k → (c : Conflict) × (o ≡ Some c) × (c.second ≡ x.line) × (c.first ≤ s.line)

    by : (g : Option (ℕ × ℕ)) → first_against before x ≡ g
        → cond (is_party (signer_of x.claim) who) (option_map (λ f. record { party = who; first = f.0; second = x.line; rule = f.1 }) g) None ≡ o → AllByRecursion Ends before
    by None e is = all-map (λ (s : Sworn). (k : ℕ) → rule_of s x ≡ Some k → ⊥) Ends (λ s no k signer some. absurd (no k some)) before (against-none before x e)
    by (Some f) e is =
        all-map (λ (s : Sworn). (k : ℕ) → rule_of s x ≡ Some k → f.0 ≤ s.line) Ends
        (λ s low k signer some. (record { party = who; first = f.0; second = x.line; rule = f.1 }, there f signer is, refl, low k some))
        before (against-least before x f r e)
      where
        there : (f : ℕ × ℕ) → signer_of x.claim ≡ who
            → cond (is_party (signer_of x.claim) who) (Some (record { party = who; first = f.0; second = x.line; rule = f.1 })) None ≡ o
            → o ≡ Some (record { party = who; first = f.0; second = x.line; rule = f.1 })
        there f signer is =
            let yes : is_party (signer_of x.claim) who ≡ true = ap (λ (p : Party). is_party p who) signer ∙ party-itself who in
            sym is ∙ ap (λ b. cond b (Some (record { party = who; first = f.0; second = x.line; rule = f.1 })) None) yes

-- ---- the first pair

-- where these two contradict each other, a pair is found that is no later
abbrev pub Beaten : Party → Option Conflict → Sworn → Sworn → Type 0
Beaten who o s t =
    s.line < t.line → signer_of t.claim ≡ who → (k : ℕ) → rule_of s t ≡ Some k
    → (c : Conflict) × (o ≡ Some c) × ((c.second < t.line) ⊎ ((c.second ≡ t.line) × (c.first ≤ s.line)))

pub beaten : (who : Party) (before later : List Sworn) → Rising (before ++ later)
    → AllByRecursion (λ t. AllByRecursion (λ s. Beaten who (first_conflict who before later) s t) (before ++ later)) later
unfolding first_conflict
beaten who before [] r = tt
beaten who before (x ∷ later) r =
    by (conflict_with who before x) refl (beaten who (before ++ x ∷ []) later (subst Rising (sym (append_assoc before (x ∷ []) later)) r))
  where
    behind : Option Conflict
    behind = first_conflict who (before ++ x ∷ []) later

    here : (o : Option Conflict) → conflict_with who before x ≡ o → AllByRecursion (λ s. Beaten who (option_or o behind) s x) (before ++ x ∷ later)
    here o is =
        let p = parts before x later r in
        both-lists (λ s. Beaten who (option_or o behind) s x) before (x ∷ later)
        (all-map (λ s. (k : ℕ) → signer_of x.claim ≡ who → rule_of s x ≡ Some k → (c : Conflict) × (o ≡ Some c) × (c.second ≡ x.line) × (c.first ≤ s.line))
        (λ s. Beaten who (option_or o behind) s x)
        (λ s ends less signer k some.
        let c = ends k signer some in
        (c.0, ap (λ q. option_or q behind) c.1, inr (c.2, c.3)))
        before (ends-here who before x p.1 o is)) (
          λ less signer k some. absurd (omega (arith, less)),
          all-map (λ s. x.line < s.line) (λ s. Beaten who (option_or o behind) s x) (λ s above less signer k some. absurd (omega (arith, above, less))) later p.2,
        )

    by : (o : Option Conflict) → conflict_with who before x ≡ o
        → AllByRecursion (λ t. AllByRecursion (λ s. Beaten who behind s t) ((before ++ x ∷ []) ++ later)) later
        → AllByRecursion (λ t. AllByRecursion (λ s. Beaten who (option_or o behind) s t) (before ++ x ∷ later)) (x ∷ later)
    by None is rest =
        (here None is, subst (λ l. AllByRecursion (λ t. AllByRecursion (λ s. Beaten who behind s t) l) later) (append_assoc before (x ∷ []) later) rest)
    by (Some c) is rest =
        let ends : c.second ≡ x.line = (with-told who before x c is).4 in (
          here (Some c) is,
          all-map (λ t. x.line < t.line) (λ t. AllByRecursion (λ s. Beaten who (Some c) s t) (before ++ x ∷ later))
              (λ t above. all-have (λ s. Beaten who (Some c) s t) (λ s less signer k some. (c, refl, inl (subst (λ n. n < t.line) (sym ends) above))) (before ++ x ∷ later))
              later (parts before x later r).2,
        )

-- the pair that is found is of the party, and its lines are in order
pub placed : (who : Party) (before later : List Sworn) (c : Conflict) → Rising (before ++ later) → first_conflict who before later ≡ Some c → (c.party ≡ who) × (c.first < c.second)
unfolding first_conflict
placed who before [] c r e = absurd cc
placed who before (x ∷ later) c r e =
    by (conflict_with who before x) refl e
    (λ rest. placed who (before ++ x ∷ []) later c (subst Rising (sym (append_assoc before (x ∷ []) later)) r) rest)
  where
    by : (o : Option Conflict) → conflict_with who before x ≡ o → option_or o (first_conflict who (before ++ x ∷ []) later) ≡ Some c
        → (first_conflict who (before ++ x ∷ []) later ≡ Some c → (c.party ≡ who) × (c.first < c.second)) → (c.party ≡ who) × (c.first < c.second)
    by None is e rest = rest e
    by (Some d) is e rest =
        let t = with-told who before x c (is ∙ e) in
        let less : t.0.0 < x.line = against-below x.line before x t.0 (parts before x later r).0 t.1 in
        (t.2, subst (λ n. c.first < n) (sym t.4) (subst (λ n. n < x.line) (sym t.3) less))
