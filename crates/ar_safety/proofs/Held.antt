-- A run as its nodes hold it is safe, and the theorem's records leave nothing of it out.
use Rattle.std.proofs.Common.{◌≡◌, ℕ, zero, suc, ◌+◌, ◌<◌, inl, inr, Bool, true, false, cond, List, [], ◌∷◌, ◌++◌, length, get_or, Option, Some, None, Result, Ok, refl, sym, ap, ◌∙◌, subst, arith}
use Rattle.std.specs.Prelude.{All, Contains, not}
use Rattle.std.proofs.lemmas.Bool.{cases_lt}
use Rattle.std.proofs.lemmas.List.{length-append, get_or_append_left}
use Rattle.std.specs.List.{cons_option, filter_map, list_any}
use Rattle.std.specs.Option.{option_map}
use Rattle.std.specs.Result.{result_ok}
use Rattle.std.proofs.lemmas.List.Elements.{All-cons, All-contains, All-nil}
use Rattle.std.proofs.lemmas.Option.{same_Some}
use Rattle.ar_base.specs.Bytes.{AreBytes}
use Rattle.ar_base.specs.Counting.{one_if}
use Rattle.ar_bytes.specs.Reading.{whole}
use Rattle.ar_statement.specs.declared.party.Party.{Party}
use Rattle.ar_statement.specs.Claims.{is_party}
use Rattle.ar_message.specs.Confirmation.{Confirmation, confirmation_at}
use Rattle.party_keys.specs.Directory.{Directory}
use Rattle.client_rule.specs.Meaning.{PassesChecks}
use Rattle.client_rule.specs.declared.judgement.Judgement.{Judgement}
use Rattle.client_rule.specs.declared.judgement.Judgement.TheVariants.{Absent, Accepted, Refused}
use Rattle.client_rule.proofs.Meanings.{absence, accepted}
use Rattle.ar_council.specs.Council.{council_of}
use Rattle.ar_safety.specs.Agreed.{HasNewest, HasNone}
use Rattle.ar_safety.specs.Held.{AreKept, AreSafe, Held, IsAccepting, AcceptedBytes, asked_by, honest_below, honest_records, judged_in, record_at, records_of, verdict_on}
use Rattle.ar_safety.specs.Records.{IsJudged, AcceptedConfirmation, Records}
use Rattle.ar_safety.specs.Theorem.{AreHonest, Few, NoCollision, NoForgery, Safe}
use Rattle.ar_safety.proofs.Whole.{agree}

-- ---- what is taken of a list

-- what a list's items give has the property that each gives
all-taken : {X Y : Type 0} (f : X → Option Y) (P : Y → Type 0) (xs : List X) → ((x : X) → Contains xs x → (y : Y) → f x ≡ Some y → P y) → All P (filter_map f xs)
all-taken f P [] each = All-nil P
all-taken {X} {Y} f P (x ∷ xs) each = by (f x) refl (all-taken f P xs (λ z there. each z (later z there)))
  where
    later : (z : X) → Contains xs z → Contains (x ∷ xs) z
    later z there = (suc there.0, omega (arith, there.1), there.2)

    by : (o : Option Y) → f x ≡ o → All P (filter_map f xs) → All P (filter_map f (x ∷ xs))
    by None is rest = subst (λ o. All P (cons_option o (filter_map f xs))) (sym is) rest
    by (Some y) is rest = subst (λ o. All P (cons_option o (filter_map f xs))) (sym is) (All-cons P y (filter_map f xs) (each x (0, omega arith, refl) y is) rest)

-- what an item gives is among what the list gives
taken-there : {X Y : Type 0} (f : X → Option Y) (xs : List X) (x : X) (y : Y) → Contains xs x → f x ≡ Some y → Contains (filter_map f xs) y
taken-there f [] x y there is = absurd (omega (arith, there.1))
taken-there {X} {Y} f (z ∷ xs) x y there is = by there.0 there.1 there.2 (f z) refl (λ k less same. taken-there f xs x y (k, less, same) is)
  where
    by : (k : ℕ) → k < length (z ∷ xs) → get_or (z ∷ xs) k x ≡ x → (o : Option Y) → f z ≡ o
        → ((m : ℕ) → m < length xs → get_or xs m x ≡ x → Contains (filter_map f xs) y) → Contains (filter_map f (z ∷ xs)) y
    by zero less same o gives rest = let here : f z ≡ Some y = ap f same ∙ is in subst (λ a. Contains (cons_option a (filter_map f xs)) y) (sym here) (0, omega arith, refl)
    by (suc k) less same None gives rest = subst (λ a. Contains (cons_option a (filter_map f xs)) y) (sym gives) (rest k (omega (arith, less)) same)
    by (suc k) less same (Some w) gives rest =
        let r = rest k (omega (arith, less)) same in
        subst (λ a. Contains (cons_option a (filter_map f xs)) y) (sym gives) (suc r.0, omega (arith, r.1), r.2)

-- ---- judgements

-- an accepted judgement was read, and passes
record WasRead (directory : Directory) (t : AcceptedBytes) : Type 0 where
  confirmation : Confirmation
  passes : PassesChecks (asked_by directory t) t.bytes confirmation

read-of : (directory : Directory) (t : AcceptedBytes) (v : Judgement) → verdict_on directory t ≡ v → IsAccepting v → WasRead directory t
read-of directory t (Accepted certificate digest epoch root) is taken =
    let a = (accepted (asked_by directory t) t.bytes certificate digest epoch root).0 is in record { confirmation = a.confirmation; passes = a.passes }
read-of directory t (Absent epoch root) is taken =
    let a = (absence (asked_by directory t) t.bytes epoch root).0 is in record { confirmation = a.confirmation; passes = a.passes }
read-of directory t (Refused number) is taken = absurd taken

abbrev as_judged : Directory → AcceptedBytes → Confirmation → AcceptedConfirmation
as_judged directory t c = record { asked = asked_by directory t; bytes = t.bytes; confirmation = c }

judged-is : (directory : Directory) (t : AcceptedBytes) (c : Confirmation) → whole confirmation_at t.bytes ≡ Ok c → judged_in directory t ≡ Some (as_judged directory t c)
judged-is directory t c is = ap (λ (r : Result Confirmation ℕ). option_map (as_judged directory t) (result_ok r)) is

all-judged : (h : Held) → AreKept h → All (IsJudged (council_of h.directory)) (records_of h).judged
all-judged h kept = all-taken (judged_in h.directory) (IsJudged (council_of h.directory)) h.judged (λ t there j gives.
    let bytes : AreBytes t.bytes = All-contains (λ (x : AcceptedBytes). AreBytes x.bytes) h.judged t kept.bytes there in
    let taken : IsAccepting (verdict_on h.directory t) = All-contains (λ (x : AcceptedBytes). IsAccepting (verdict_on h.directory x)) h.judged t kept.taken there in
    let was : WasRead h.directory t = read-of h.directory t (verdict_on h.directory t) refl taken in
    let same : as_judged h.directory t was.confirmation ≡ j = same_Some _ _ (sym (judged-is h.directory t was.confirmation was.passes.is_read) ∙ gives) in
    subst (IsJudged (council_of h.directory)) same (record { bytes = bytes; passes = was.passes; same_council = refl }))

-- ---- the run is safe

pub run-safe : (h : Held) → AreKept h → Few (records_of h) → NoForgery (records_of h) → NoCollision (records_of h) → AreSafe h
run-safe h kept few forged clean =
    let r : Records = records_of h in
    let honest : AreHonest r = record { quorums = record { wide = kept.is_directory.quorum_least; few = kept.is_directory.logs_most; few_authorities = kept.is_directory.authorities_most }; logs = kept.logs; authorities = kept.authorities; judged = all-judged h kept } in
    let safe : Safe r = agree r honest few forged clean in
    record {
      safe = safe;
      accepted = λ t certificate digest epoch root there is.
          let a = (accepted (asked_by h.directory t) t.bytes certificate digest epoch root).0 is in
          let j : AcceptedConfirmation = as_judged h.directory t a.confirmation in
          let in-run = taken-there (judged_in h.directory) h.judged t j there (judged-is h.directory t a.confirmation a.passes.is_read) in
          let newest : HasNewest r t.name a.confirmation.about.epoch a.confirmation.about.root certificate = (safe.newest j certificate in-run a.body).0 in
          subst (λ e. HasNewest r t.name e root certificate) (sym a.epoch_is) (subst (λ to. HasNewest r t.name a.confirmation.about.epoch to certificate) (sym a.root_is) newest);
      absence = λ t epoch root there is.
          let a = (absence (asked_by h.directory t) t.bytes epoch root).0 is in
          let j : AcceptedConfirmation = as_judged h.directory t a.confirmation in
          let in-run = taken-there (judged_in h.directory) h.judged t j there (judged-is h.directory t a.confirmation a.passes.is_read) in
          let none : HasNone r t.name a.confirmation.about.epoch a.confirmation.about.root = (safe.absence j a.bottom.0 in-run a.bottom.1).0 in
          subst (λ e. HasNone r t.name e root) (sym a.epoch_is) (subst (λ to. HasNone r t.name a.confirmation.about.epoch to) (sym a.root_is) none);
    }

-- ---- nothing is left out

pub judged-there : (h : Held) (t : AcceptedBytes) → Contains h.judged t → IsAccepting (verdict_on h.directory t)
    → (j : AcceptedConfirmation) × (Contains (records_of h).judged j × (j.asked ≡ asked_by h.directory t) × (j.bytes ≡ t.bytes))
judged-there h t there taken =
    let was : WasRead h.directory t = read-of h.directory t (verdict_on h.directory t) refl taken in
    let j : AcceptedConfirmation = as_judged h.directory t was.confirmation in
    (j, (taken-there (judged_in h.directory) h.judged t j there (judged-is h.directory t was.confirmation was.passes.is_read), refl, refl))

-- as many as there are honest ones
pub honest-count : {X : Type 0} (party : ℕ → Party) (dishonest : List Party) (record_of : ℕ → X) (n : ℕ) → length (honest_records party dishonest record_of n) ≡ honest_below party dishonest n
unfolding honest_records
honest-count party dishonest record_of zero = refl
honest-count {X} party dishonest record_of (suc n) = by (list_any (is_party (party n)) dishonest) (honest-count party dishonest record_of n)
  where
    front : List X
    front = honest_records party dishonest record_of n

    by : (b : Bool) → length front ≡ honest_below party dishonest n
        → length (front ++ cond b [] (record_of n ∷ [])) ≡ one_if (not b) + honest_below party dishonest n
    by true rest = length-append front [] ∙ omega (arith, rest)
    by false rest = length-append front (record_of n ∷ []) ∙ omega (arith, rest)

at-end : {X : Type 0} (xs : List X) (x d : X) (k : ℕ) → k ≡ length xs → get_or (xs ++ x ∷ []) k d ≡ x
at-end [] x d zero is = refl
at-end [] x d (suc k) is = absurd (omega (arith, is))
at-end (y ∷ xs) x d zero is = absurd (omega (arith, is))
at-end (y ∷ xs) x d (suc k) is = at-end xs x d k (omega (arith, is))

-- an honest party's place is below the count
place-below : (party : ℕ → Party) (dishonest : List Party) (n m : ℕ) → m < n → list_any (is_party (party m)) dishonest ≡ false
    → honest_below party dishonest m < honest_below party dishonest n
place-below party dishonest zero m less honest = absurd (omega (arith, less))
place-below party dishonest (suc n) m less honest = by (list_any (is_party (party n)) dishonest) refl (λ before. place-below party dishonest n m before honest)
  where
    by : (b : Bool) → list_any (is_party (party n)) dishonest ≡ b → (m < n → honest_below party dishonest m < honest_below party dishonest n)
        → honest_below party dishonest m < one_if (not b) + honest_below party dishonest n
    by true is rest = elim (cases_lt m n) [
      | inl before ↦ let r = rest before in omega (arith, r)
      | inr least ↦
          let same : m ≡ n = omega (arith, less, least) in
          let other : false ≡ true = sym honest ∙ ap (λ k. list_any (is_party (party k)) dishonest) same ∙ is in
          absurd cc
    ]
    by false is rest = elim (cases_lt m n) [
      | inl before ↦ let r = rest before in omega (arith, r)
      | inr least ↦ let same : m ≡ n = omega (arith, less, least) in let e = ap (honest_below party dishonest) same in omega (arith, e)
    ]

-- the record at an honest party's place is its own
pub own-record : {X : Type 0} (party : ℕ → Party) (dishonest : List Party) (record_of : ℕ → X) (none : X) (n m : ℕ) → m < n → list_any (is_party (party m)) dishonest ≡ false
    → record_at party dishonest (honest_records party dishonest record_of n) none m ≡ record_of m
unfolding honest_records
own-record party dishonest record_of none zero m less honest = absurd (omega (arith, less))
own-record {X} party dishonest record_of none (suc n) m less honest =
    by (list_any (is_party (party n)) dishonest) refl (λ before. own-record party dishonest record_of none n m before honest)
  where
    front : List X
    front = honest_records party dishonest record_of n

    place : ℕ
    place = honest_below party dishonest m

    by : (b : Bool) → list_any (is_party (party n)) dishonest ≡ b → (m < n → get_or front place none ≡ record_of m)
        → get_or (front ++ cond b [] (record_of n ∷ [])) place none ≡ record_of m
    by b is rest = elim (cases_lt m n) [
      | inl before ↦
          let inside : place < length front = omega (arith, place-below party dishonest n m before honest, honest-count party dishonest record_of n) in
          get_or_append_left front (cond b [] (record_of n ∷ [])) none place inside ∙ rest before
      | inr least ↦
          let same : m ≡ n = omega (arith, less, least) in
          let good : b ≡ false = sym is ∙ ap (λ k. list_any (is_party (party k)) dishonest) (sym same) ∙ honest in
          let end : place ≡ length front = ap (honest_below party dishonest) same ∙ sym (honest-count party dishonest record_of n) in
          ap (λ (c : Bool). get_or (front ++ cond c [] (record_of n ∷ [])) place none) good ∙ at-end front (record_of n) none place end ∙ ap record_of (sym same)
    ]
