-- Who contradicts himself is named, and by the least pair.
use Rattle.std.proofs.Common.{◌≡◌, ℕ, zero, suc, ◌<◌, ◌≤◌, ◌⊎◌, inl, inr, List, [], ◌∷◌, ◌++◌, length, get_or, refl, sym, ap, ◌∙◌, subst, arith, Option, Some, None, Ok}
use Rattle.std.specs.Prelude.{AllPairs, Contains}
use Rattle.std.specs.List.{AllByRecursion, cons_option, filter_map}
use Rattle.std.specs.Result.{result_ok}
use Rattle.std.proofs.lemmas.Bool.{cases_lt}
use Rattle.std.proofs.lemmas.List.{get_or_default, get_or_past}
use Rattle.std.proofs.lemmas.List.Elements.{All-contains, All-from_recursion, Contains-append_left, Contains-append_right, recursion_from_All}
use Rattle.std.proofs.lemmas.List.FromFn.{get_or-map-range_with_len, length-map-range_with_len}
use Rattle.std.proofs.lemmas.Option.{same_Some}
use Rattle.ar_base.proofs.Lists.{both-lists}
use Rattle.ar_base.proofs.Shown.{gave, ok_is}
use Rattle.lms_tree.specs.declared.public_key.LmsPublic.{LmsPublic}
use Rattle.ar_statement.specs.Claims.{party, signer_of}
use Rattle.ar_statement.specs.declared.party.Party.{Party}
use Rattle.ar_statement.specs.declared.party.Role.{Role}
use Rattle.ar_statement.specs.declared.party.Role.TheVariants.{LogServer, Authority, Owner, Client}
use Rattle.ar_council.proofs.Seeing.{one_party}
use Rattle.party_keys.specs.Directory.{Directory, keys_of, role_keys}
use Rattle.party_keys.specs.Signatures.{answer_under, verified}
use Rattle.monitor.specs.declared.item.Item.{Item}
use Rattle.monitor.specs.declared.report.Conflict.{Conflict}
use Rattle.monitor.specs.Items.{AscendByLine, Sworn, sworn_in, sworn_of}
use Rattle.monitor.specs.Reports.{Names, conflict_of, conflicts_of, first_conflict, members, report_of}
use Rattle.monitor.specs.Rules.{rule_of}
use Rattle.monitor.specs.Standing.{Contradicts, IsNoLater, IsPair, IsSwornIn}
use Rattle.monitor.proofs.Least.{Beaten, Rising, beaten, clash, placed}
use Rattle.monitor.proofs.Pairs.{all-mapped, contained, one-signer, pairs, shown}
use Rattle.monitor.proofs.Shown.{one-text, ruled}
use Rattle.monitor.proofs.Stood.{sworn-is}
use Rattle.monitor.proofs.Turned.{rule-turned}

-- ---- lists

-- what holds of all that is given of a list's elements holds of what is given of each
unmapped : {X Y : Type 0} (h : X → Option Y) (P : Y → Type 0) (xs : List X) → AllByRecursion P (filter_map h xs)
    → AllByRecursion (λ x. (y : Y) → h x ≡ Some y → P y) xs
unmapped {X} {Y} h P [] all = tt
unmapped {X} {Y} h P (x ∷ xs) all = by (h x) refl all (λ rest. unmapped h P xs rest)
  where
    by : (o : Option Y) → h x ≡ o → AllByRecursion P (cons_option o (filter_map h xs))
        → (AllByRecursion P (filter_map h xs) → AllByRecursion (λ z. (y : Y) → h z ≡ Some y → P y) xs)
        → ((y : Y) → h x ≡ Some y → P y) × AllByRecursion (λ z. (y : Y) → h z ≡ Some y → P y) xs
    by None e all later = (λ y some. absurd (clash (h x) y e some), later all)
    by (Some z) e all later = (λ y some. subst P (same_Some z y (sym e ∙ some)) all.0, later all.1)

-- what holds of all valid statements holds of each that is shown
of-shown : (keys : Directory) (items : List Item) (P : Sworn → Type 0) (s : Sworn) → AllByRecursion P (sworn_of keys items) → IsSwornIn keys items s → P s
of-shown keys items P s all (i, has, is) =
    let each = All-from_recursion (λ (j : Item). (t : Sworn) → result_ok (sworn_in keys j) ≡ Some t → P t) items (unmapped (λ j. result_ok (sworn_in keys j)) P items all) in
    All-contains (λ (j : Item). (t : Sworn) → result_ok (sworn_in keys j) ≡ Some t → P t) items i each has s (ap result_ok is)

-- ---- lines

line-of : (keys : Directory) (i : Item) (s : Sworn) → result_ok (sworn_in keys i) ≡ Some s → i.line ≡ s.line
line-of keys i s e = ap (λ (x : Sworn). x.line) (sym (sworn-is keys i s (gave (sworn_in keys i) s e)).3)

shown-line : (keys : Directory) (i : Item) (s : Sworn) → sworn_in keys i ≡ Ok s → i.line ≡ s.line
shown-line keys i s e = line-of keys i s (ap result_ok e)

-- the lines of the valid statements ascend as those of the items do
rising : (keys : Directory) (items : List Item) → AllPairs (λ (i j : Item). i.line < j.line) items → Rising (sworn_of keys items)
rising keys [] up = tt
rising keys (i ∷ items) up =
    by (result_ok (sworn_in keys i)) refl (rising keys items (λ j k d less within. up (suc j) (suc k) d (omega (arith, less)) (omega (arith, within))))
  where
    above : AllByRecursion (λ s. i.line < s.line) (sworn_of keys items)
    above =
        all-mapped (λ j. result_ok (sworn_in keys j)) (λ (j : Item). i.line < j.line) (λ (s : Sworn). i.line < s.line)
        (λ j s less e. subst (λ n. i.line < n) (line-of keys j s e) less) items
        (recursion_from_All (λ (j : Item). i.line < j.line) items (λ k d within. up zero (suc k) d (omega arith) (omega (arith, within))))

    by : (o : Option Sworn) → result_ok (sworn_in keys i) ≡ o → Rising (sworn_of keys items) → Rising (cons_option o (sworn_of keys items))
    by None e rest = rest
    by (Some s) e rest = (subst (λ n. AllByRecursion (λ t. n < t.line) (sworn_of keys items)) (line-of keys i s e) above, rest)

-- of two items one stands above the other, or they are one
ordered : (items : List Item) (i j : Item) → AscendByLine items → Contains items i → Contains items j → (i.line < j.line) ⊎ ((j.line < i.line) ⊎ (i ≡ j))
ordered items i j up a b =
    let at-a : get_or items a.0 i ≡ i = a.2 in
    let at-b : get_or items b.0 i ≡ j = get_or_default items b.0 i j b.1 ∙ b.2 in
    elim (cases_lt a.0 b.0) [
      | inl before ↦ inl (subst (λ (x : Item). x.line < j.line) at-a (subst (λ (y : Item). (get_or items a.0 i).line < y.line) at-b (up.in_order a.0 b.0 i before b.1)))
      | inr behind ↦ elim (cases_lt b.0 a.0) [
        | inl before ↦ inr (inl (subst (λ (x : Item). x.line < i.line) at-b (subst (λ (y : Item). (get_or items b.0 i).line < y.line) at-a (up.in_order b.0 a.0 i before a.1))))
        | inr here ↦
            let place : a.0 ≡ b.0 = omega (arith, behind, here) in
            inr (inr (sym at-a ∙ ap (λ k. get_or items k i) place ∙ at-b))
      ]
    ]

-- ---- the parties of a directory

-- who signed is in the directory
within : (keys : Directory) (who : Party) (text signature : List ℕ) → verified keys who text signature ≡ Ok tt → who.number < length (role_keys keys who.role)
unfolding verified
within keys who text signature e =
    elim (cases_lt who.number (length (role_keys keys who.role))) [
      | inl less ↦ less
      | inr past ↦ absurd (no (keys_of keys who) (get_or_past (role_keys keys who.role) who.number [] past) e)
    ]
  where
    no : (known : List LmsPublic) → known ≡ [] → answer_under known who text signature ≡ Ok tt → ⊥
    no [] is e = absurd cc
    no (key ∷ later) is e = absurd cc

of-member : (role : Role) (count number : ℕ) (sworn : List Sworn) (c : Conflict) → number < count → conflict_of sworn (party role number) ≡ Some c → Contains (conflicts_of role count sworn) c
of-member role count number sworn c less e =
    let all = contained (conflicts_of role count sworn) in
    let each = All-from_recursion (λ (p : Party). (d : Conflict) → conflict_of sworn p ≡ Some d → Contains (conflicts_of role count sworn) d) (members role count)
    (unmapped (conflict_of sworn) (Contains (conflicts_of role count sworn)) (members role count) all) in
    let there : Contains (members role count) (party role number) = (
      number,
      subst (λ n. number < n) (sym (length-map-range_with_len (party role) 0 count)) less,
      get_or-map-range_with_len (party role) 0 count number number (party role number) less (omega arith),
    ) in
    All-contains (λ (p : Party). (d : Conflict) → conflict_of sworn p ≡ Some d → Contains (conflicts_of role count sworn) d) (members role count) (party role number) each there c e

listed : (keys : Directory) (sworn : List Sworn) (role : Role) (number : ℕ) (c : Conflict) → number < length (role_keys keys role) → conflict_of sworn (party role number) ≡ Some c
    → Contains (conflicts_of LogServer (length keys.logs) sworn ++ conflicts_of Authority (length keys.authorities) sworn) c
listed keys sworn LogServer number c less e =
    Contains-append_left (conflicts_of LogServer (length keys.logs) sworn) (conflicts_of Authority (length keys.authorities) sworn) c (of-member LogServer (length keys.logs) number sworn c less e)
listed keys sworn Authority number c less e =
    Contains-append_right (conflicts_of LogServer (length keys.logs) sworn) (conflicts_of Authority (length keys.authorities) sworn) c (of-member Authority (length keys.authorities) number sworn c less e)
listed keys sworn Owner number c less e = absurd (omega (arith, less))
listed keys sworn Client number c less e = absurd (omega (arith, less))

-- ---- who contradicts himself is named

-- two that are shown and contradict each other, the first above the second: a pair of the party is found that is no later
found-of : (keys : Directory) (items : List Item) (who : Party) (s t : Sworn) (k : ℕ) → AscendByLine items → IsSwornIn keys items s → IsSwornIn keys items t
    → s.line < t.line → signer_of t.claim ≡ who → rule_of s t ≡ Some k
    → (c : Conflict) × (conflict_of (sworn_of keys items) who ≡ Some c) × ((c.second < t.line) ⊎ ((c.second ≡ t.line) × (c.first ≤ s.line)))
found-of keys items who s t k up shown-s shown-t less signer rule =
    let sworn = sworn_of keys items in
    let o = first_conflict who [] sworn in
    let all = beaten who [] sworn (rising keys items up.in_order) in
    let of-t = of-shown keys items (λ (y : Sworn). AllByRecursion (λ (x : Sworn). Beaten who (first_conflict who [] (sworn_of keys items)) x y) (sworn_of keys items)) t all shown-t in
    of-shown keys items (λ (x : Sworn). Beaten who (first_conflict who [] (sworn_of keys items)) x t) s of-t shown-s less signer k rule

named-by : (keys : Directory) (items : List Item) (who : Party) (s t : Sworn) (k : ℕ) → AscendByLine items → IsSwornIn keys items s → IsSwornIn keys items t
    → s.line < t.line → signer_of t.claim ≡ who → rule_of s t ≡ Some k → Names (report_of keys items) who
unfolding report_of
named-by keys items who s t k up shown-s (j, has, is) less signer rule =
    let sworn = sworn_of keys items in
    let found = found-of keys items who s t k up shown-s (j, has, is) less signer rule in
    let says = sworn-is keys j t is in
    let signed : signer_of says.0 ≡ who = ap (λ (x : Sworn). signer_of x.claim) (sym says.3) ∙ signer in
    let known : who.number < length (role_keys keys who.role) = within keys who j.text j.signature (subst (λ p. verified keys p j.text j.signature ≡ Ok tt) signed says.2) in
    let of-party = placed who [] sworn found.0 (rising keys items up.in_order) found.1 in
    (found.0, listed keys sworn who.role who.number found.0 known found.1, of-party.0)

pub exactly : (keys : Directory) (items : List Item) (who : Party) → AscendByLine items → Contradicts keys items who → Names (report_of keys items) who
exactly keys items who up c =
    let above = shown-line keys c.shown.0 c.s c.shown.2 in
    let below = shown-line keys c.shown_later.0 c.t c.shown_later.2 in
    elim (ordered items c.shown.0 c.shown_later.0 up c.shown.1 c.shown_later.1) [
      | inl less ↦ named-by keys items who c.s c.t c.rule up c.shown c.shown_later (omega (arith, less, above, below)) c.signer_later c.rule_is
      | inr more ↦ elim more [
        | inl less ↦ named-by keys items who c.t c.s c.rule up c.shown_later c.shown (omega (arith, less, above, below)) c.signer (rule-turned c.s c.t c.rule c.rule_is)
        | inr same ↦
            let one : c.s ≡ c.t = ok_is c.s c.t (sym c.shown.2 ∙ ap (sworn_in keys) same ∙ c.shown_later.2) in
            absurd (one-text c.s c.t (ruled c.s c.t c.rule c.rule_is).0 (ap (λ (x : Sworn). x.text) one))
      ]
    ]

-- ---- the pair that is told

-- what is told is the pair of some party
from : (keys : Directory) (items : List Item) (c : Conflict) → Contains (report_of keys items).conflicts c → (who : Party) × (conflict_of (sworn_of keys items) who ≡ Some c)
unfolding report_of
from keys items c has =
    let logs = conflicts_of LogServer (length keys.logs) (sworn_of keys items) in
    let authorities = conflicts_of Authority (length keys.authorities) (sworn_of keys items) in
    let all = both-lists Of logs authorities (each LogServer (length keys.logs)) (each Authority (length keys.authorities)) in
    All-contains Of (logs ++ authorities) c (All-from_recursion Of (logs ++ authorities) all) has
  where
    Of : Conflict → Type 0
    Of d = (who : Party) × (conflict_of (sworn_of keys items) who ≡ Some d)

    each : (role : Role) (count : ℕ) → AllByRecursion Of (conflicts_of role count (sworn_of keys items))
    each role count =
        all-mapped (conflict_of (sworn_of keys items)) (Contains (members role count)) Of (λ who d in-it e. (who, e)) (members role count) (contained (members role count))

pub told-pair : (keys : Directory) (items : List Item) (c : Conflict) → AscendByLine items → Contains (report_of keys items).conflicts c → IsPair keys items c
told-pair keys items c up has =
    let of = from keys items c has in
    let f = pairs (IsSwornIn keys items) of.0 [] (sworn_of keys items) c tt (shown keys items) of.1 in
    let order = placed of.0 [] (sworn_of keys items) c (rising keys items up.in_order) of.1 in
    let later : signer_of f.t.claim ≡ c.party = one_party (signer_of f.t.claim) c.party f.signer in
    record {
      s = f.s;
      t = f.t;
      shown = f.first;
      shown_later = f.second;
      signer = one-signer f.s f.t c.rule f.rule_is ∙ later;
      signer_later = later;
      first = f.first_is;
      second = f.second_is;
      in_order = order.1;
      rule_is = f.rule_is;
    }

pub told-least : (keys : Directory) (items : List Item) (c d : Conflict) → AscendByLine items → Contains (report_of keys items).conflicts c → IsPair keys items d → d.party ≡ c.party → IsNoLater c d
told-least keys items c d up has pair same =
    let of = from keys items c has in
    let order = placed of.0 [] (sworn_of keys items) c (rising keys items up.in_order) of.1 in
    let less : pair.s.line < pair.t.line = subst (λ n. n < pair.t.line) (sym pair.first) (subst (λ n. d.first < n) (sym pair.second) pair.in_order) in
    let found = found-of keys items of.0 pair.s pair.t d.rule up pair.shown pair.shown_later less (pair.signer_later ∙ same ∙ order.0) pair.rule_is in
    let is : found.0 ≡ c = same_Some found.0 c (sym found.1 ∙ of.1) in
    subst (λ (x : Conflict). IsNoLater x d) is
    (subst (λ n. (found.0.second < n) ⊎ ((found.0.second ≡ n) × (found.0.first ≤ d.first))) pair.second
    (subst (λ n. (found.0.second < pair.t.line) ⊎ ((found.0.second ≡ pair.t.line) × (found.0.first ≤ n))) pair.first found.2))

pub told-once : (keys : Directory) (items : List Item) (c d : Conflict) → AscendByLine items → Contains (report_of keys items).conflicts c → Contains (report_of keys items).conflicts d
    → c.party ≡ d.party → c ≡ d
told-once keys items c d up has has-d same =
    let of = from keys items c has in
    let of-d = from keys items d has-d in
    let one = placed of.0 [] (sworn_of keys items) c (rising keys items up.in_order) of.1 in
    let other = placed of-d.0 [] (sworn_of keys items) d (rising keys items up.in_order) of-d.1 in
    let who : of.0 ≡ of-d.0 = sym one.0 ∙ same ∙ other.0 in
    same_Some c d (sym of.1 ∙ ap (conflict_of (sworn_of keys items)) who ∙ of-d.1)
