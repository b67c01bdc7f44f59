-- What is dealt to workers for the place of a party is what is dealt for the party.
use Rattle.std.proofs.Common.{◌≡◌, ℕ, zero, suc, ◌+◌, ◌%◌, ◌==◌, Bool, true, false, cond, not, if◌then◌else◌, List, [], ◌∷◌, ◌++◌, map, Some, refl, sym, ap, ◌∙◌, subst, arith}
use Rattle.std.specs.Prelude.{◌&&◌, ◌||◌, slice_get}
use Rattle.std.specs.List.{AllZip, list_any, position_or_len, range_with_len}
use Rattle.std.proofs.lemmas.Bool.{eq-eqb, ne_eqb}
use Rattle.ar_council.proofs.Seeing.{one_party}
use Rattle.ar_seats.specs.Numbers.{IsBelowEach, IsRising}
use Rattle.ar_statement.proofs.Statements.{is_party-self}
use Rattle.ar_statement.specs.Claims.{authority_party, has_party, is_party, log_party, role_number}
use Rattle.ar_statement.specs.declared.party.Party.{Party}
use Rattle.seat_orders.specs.Dealing.{dealt_from, dealt_lists}
use Rattle.burst_run.specs.Stations.{AreStations, Deliveries}

-- ---- things that go to the same place are dealt alike

module _ {D E : Type 0} (workers : ℕ) (here : D → Bool) (there : E → Bool) where
  dealt_alike : (number worker : ℕ) (ds : List D) (es : List E) → AllZip (λ d e. here d ≡ there e) ds es → dealt_from workers here number worker ds ≡ dealt_from workers there number worker es
  dealt_alike number worker [] [] same = refl
  dealt_alike number worker [] (e ∷ es) same = absurd same
  dealt_alike number worker (d ∷ ds) [] same = absurd same
  dealt_alike number worker (d ∷ ds) (e ∷ es) same =
      ap (λ b. if b && (number % workers == worker) then number ∷ dealt_from workers here (number + 1) worker ds else dealt_from workers here (number + 1) worker ds) same.0
      ∙ ap (λ l. if there e && (number % workers == worker) then number ∷ l else l) (dealt_alike (number + 1) worker ds es same.1)

  rows_alike : (ds : List D) (es : List E) → AllZip (λ d e. here d ≡ there e) ds es → (from more : ℕ)
      → map (λ worker. dealt_from workers here 0 worker ds) (range_with_len from more) ≡ map (λ worker. dealt_from workers there 0 worker es) (range_with_len from more)
  rows_alike ds es same from zero = refl
  rows_alike ds es same from (suc more) =
      ap (λ l. l ∷ map (λ worker. dealt_from workers here 0 worker ds) (range_with_len (from + 1) more)) (dealt_alike 0 from ds es same)
      ∙ ap (λ rows. dealt_from workers there 0 from es ∷ rows) (rows_alike ds es same (from + 1) more)

  pub lists_alike : (ds : List D) (es : List E) → AllZip (λ d e. here d ≡ there e) ds es → dealt_lists workers here ds ≡ dealt_lists workers there es
  lists_alike ds es same = rows_alike ds es same 0 workers

-- ---- each party is told once

-- no item is there twice
abbrev pub IsOnceEach : {A : Type 0} → List A → Type 0
IsOnceEach [] = Unit {0}
IsOnceEach (x ∷ xs) = ((j : ℕ) → slice_get xs j ≡ Some x → ⊥) × IsOnceEach xs

pub one_place : {A : Type 0} (xs : List A) (i j : ℕ) (x : A) → IsOnceEach xs → slice_get xs i ≡ Some x → slice_get xs j ≡ Some x → i ≡ j
one_place [] i j x once at too = absurd cc
one_place (y ∷ ys) zero zero x once at too = refl
one_place {A} (y ∷ ys) zero (suc j) x once at too =
    let same : y ≡ x = cc in
    absurd (once.0 j (subst (λ (z : A). slice_get ys j ≡ Some z) (sym same) too))
one_place {A} (y ∷ ys) (suc i) zero x once at too =
    let same : y ≡ x = cc in
    absurd (once.0 i (subst (λ (z : A). slice_get ys i ≡ Some z) (sym same) at))
one_place (y ∷ ys) (suc i) (suc j) x once at too = ap suc (one_place ys i j x once.1 at too)

-- a log is no authority
no_authority : (numbers : List ℕ) (j n : ℕ) → slice_get (map authority_party numbers) j ≡ Some (log_party n) → ⊥
no_authority [] j n is = absurd cc
no_authority (m ∷ numbers) zero n is =
    let same : authority_party m ≡ log_party n = cc in
    let role : 2 ≡ 1 = ap (λ (p : Party). role_number p.role) same in
    absurd (omega (arith, role))
no_authority (m ∷ numbers) (suc j) n is = no_authority numbers j n is

no_later_log : (logs authorities : List ℕ) (j n : ℕ) → IsBelowEach n logs → slice_get (map log_party logs ++ map authority_party authorities) j ≡ Some (log_party n) → ⊥
no_later_log [] authorities j n below is = no_authority authorities j n is
no_later_log (m ∷ logs) authorities zero n below is =
    let same : log_party m ≡ log_party n = cc in
    let number : m ≡ n = ap (λ (p : Party). p.number) same in
    let less = below.0 in
    absurd (omega (arith, number, less))
no_later_log (m ∷ logs) authorities (suc j) n below is = no_later_log logs authorities j n below.1 is

no_later_authority : (authorities : List ℕ) (j n : ℕ) → IsBelowEach n authorities → slice_get (map authority_party authorities) j ≡ Some (authority_party n) → ⊥
no_later_authority [] j n below is = absurd cc
no_later_authority (m ∷ authorities) zero n below is =
    let same : authority_party m ≡ authority_party n = cc in
    let number : m ≡ n = ap (λ (p : Party). p.number) same in
    let less = below.0 in
    absurd (omega (arith, number, less))
no_later_authority (m ∷ authorities) (suc j) n below is = no_later_authority authorities j n below.1 is

authorities_once : (authorities : List ℕ) → IsRising authorities → IsOnceEach (map authority_party authorities)
authorities_once [] rising = tt
authorities_once (n ∷ authorities) rising = (λ j is. no_later_authority authorities j n rising.0 is, authorities_once authorities rising.1)

both_once : (logs authorities : List ℕ) → IsRising logs → IsRising authorities → IsOnceEach (map log_party logs ++ map authority_party authorities)
both_once [] authorities rising too = authorities_once authorities too
both_once (n ∷ logs) authorities rising too = (λ j is. no_later_log logs authorities j n rising.0 is, both_once logs authorities rising.1 too)

pub stations_once : (deliveries : Deliveries) (stations : List Party) → AreStations deliveries stations → IsOnceEach stations
stations_once deliveries stations are =
    subst IsOnceEach (sym are.are) (both_once are.logs are.authorities are.are_logs.ascending are.are_authorities.ascending)

-- ---- what goes to the place of a party goes to the party

found_at : {A : Type 0} (p : A → Bool) (xs : List A) → list_any p xs ≡ true → (x : A) × (slice_get xs (position_or_len p xs) ≡ Some x) × (p x ≡ true)
found_at p [] there = absurd cc
found_at {A} p (x ∷ xs) there = by (p x) refl there (found_at p xs)
  where
    by : (b : Bool) → p x ≡ b → b || list_any p xs ≡ true → (list_any p xs ≡ true → (y : A) × (slice_get xs (position_or_len p xs) ≡ Some y) × (p y ≡ true))
        → (y : A) × (slice_get (x ∷ xs) (cond (not b) (1 + position_or_len p xs) 0) ≡ Some y) × (p y ≡ true)
    by true is there rest = (x, refl, is)
    by false is there rest =
        let found = rest there in
        let next : 1 + position_or_len p xs ≡ suc (position_or_len p xs) = omega arith in
        (found.0, ap (slice_get (x ∷ xs)) next ∙ found.1, found.2)

pub goes_alike : (stations : List Party) (who p : Party) (place : ℕ) → IsOnceEach stations → slice_get stations place ≡ Some who → has_party stations p ≡ true
    → (position_or_len (is_party p) stations == place) ≡ is_party who p
goes_alike stations who p place once at there =
    let found = found_at (is_party p) stations there in
    let same : p ≡ found.0 = one_party p found.0 found.2 in
    by (is_party who p) refl found.0 same found.1
  where
    by : (b : Bool) → is_party who p ≡ b → (x : Party) → p ≡ x → slice_get stations (position_or_len (is_party p) stations) ≡ Some x → (position_or_len (is_party p) stations == place) ≡ b
    by true is x same is_at =
        let whom : who ≡ p = one_party who p is in
        let here : slice_get stations place ≡ Some x = at ∙ ap Some (whom ∙ same) in
        eq-eqb (position_or_len (is_party p) stations) place (one_place stations (position_or_len (is_party p) stations) place x once is_at here)
    by false is x same is_at = ne_eqb (position_or_len (is_party p) stations) place
        (λ one.
        let here : Some x ≡ Some who = sym is_at ∙ ap (slice_get stations) one ∙ at in
        let whom : x ≡ who = cc in
        let self : is_party who p ≡ true = subst (λ q. is_party q p ≡ true) (same ∙ whom) (is_party-self p) in
        absurd cc)
