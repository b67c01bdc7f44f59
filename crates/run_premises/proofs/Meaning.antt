-- What it means that claims are fair.
use Rattle.std.proofs.Common.{◌≡◌, ℕ, ◌<◌, Bool, true, false, not, ◌||◌, List, [], ◌∷◌, map, refl, sym, ap, ◌∙◌, subst, arith, Result, Ok, Err}
use Rattle.std.specs.Prelude.{is_ok}
use Rattle.std.specs.Prelude.{Contains}
use Rattle.std.specs.List.{list_all, list_any}
use Rattle.std.specs.Str.{bytes_eq}
use Rattle.std.specs.Cmp.{IsEquivalence}
use Rattle.std.proofs.lemmas.List.Sums.{AllPass-from_list_all}
use Rattle.std.proofs.lemmas.Map.Views.{Contains-from_any, list_any-from_Contains}
use Rattle.std.proofs.lemmas.Slice.Eq.{bytes_eq-Decides}
use Rattle.ar_claims.specs.Claimed.{claimed_in_bytes}
use Rattle.ar_safety.specs.Held.{Held, records_of}
use Rattle.ar_safety.specs.Records.{Records, signed_by, signed_in}
use Rattle.ar_statement.specs.Claims.{has_party}
use Rattle.ar_statement.specs.declared.party.Role.{Role}
use Rattle.ar_statement.specs.declared.party.Role.TheVariants.{LogServer, Authority, Owner, Client}
use Rattle.key_roll.specs.Book.{RollBook, texts_of}
use Rattle.party_keys.specs.Signatures.{IsVerified, verified}
use Rattle.party_keys.specs.Signers.{Claimed}
use Rattle.party_keys.specs.declared.fault.VerifyFault.{VerifyFault}
use Rattle.run_premises.specs.Books.{NoneForgedIn, are_fair, holds, holds_of, is_fair}

-- ---- books

any-map : {X Y : Type 0} (p : Y → Bool) (f : X → Y) (xs : List X) → list_any p (map f xs) ≡ list_any (λ x. p (f x)) xs
any-map p f [] = refl
any-map p f (x ∷ xs) = ap (λ b. p (f x) || b) (any-map p f xs)

bytes-equivalence : IsEquivalence bytes_eq
bytes-equivalence = record {
  refl = λ x. (bytes_eq-Decides x x).1 refl;
  symm = λ x y. by x y (bytes_eq x y) refl;
  congr = λ x y z e. ap (λ w. bytes_eq w z) ((bytes_eq-Decides x y).0 e);
}
  where
    by : (x y : List ℕ) (b : Bool) → bytes_eq x y ≡ b → bytes_eq x y ≡ bytes_eq y x
    by x y true e = e ∙ sym ((bytes_eq-Decides y x).1 (sym ((bytes_eq-Decides x y).0 e)))
    by x y false e = other x y (bytes_eq y x) refl e
      where
        other : (x y : List ℕ) (b : Bool) → bytes_eq y x ≡ b → bytes_eq x y ≡ false → bytes_eq x y ≡ bytes_eq y x
        other x y true back e = absurd (let yes = (bytes_eq-Decides x y).1 (sym ((bytes_eq-Decides y x).0 back)) in cc)
        other x y false back e = e ∙ sym back

held-there : (book : RollBook) (text : List ℕ) → holds book text ≡ true → Contains (texts_of book) text
held-there book text is =
    Contains-from_any {eq = bytes_eq} (λ x y e. (bytes_eq-Decides x y).0 e) text (texts_of book) (any-map (bytes_eq text) (λ s. s.text) book.list ∙ is)

not-there : (book : RollBook) (text : List ℕ) → holds book text ≡ false → ¬ Contains (texts_of book) text
not-there book text is there =
    let yes = list_any-from_Contains {eq = bytes_eq} bytes-equivalence text (texts_of book) there in
    let so = sym (any-map (bytes_eq text) (λ s. s.text) book.list) ∙ yes in
    absurd (cc)

-- the book of each log and authority
held-of : (r : Records) (role : Role) (number : ℕ) (text : List ℕ) → holds_of r role number text ≡ true → Contains (signed_in r role number) text
held-of r LogServer number text is = held-there (r.logs number).signed text is
held-of r Authority number text is = held-there (r.authorities number).signed text is
held-of r Owner number text is = absurd (cc)
held-of r Client number text is = absurd (cc)

not-held-of : (r : Records) (role : Role) (number : ℕ) (text : List ℕ) → holds_of r role number text ≡ false → ¬ Contains (signed_in r role number) text
not-held-of r LogServer number text is there = not-there (r.logs number).signed text is there
not-held-of r Authority number text is there = not-there (r.authorities number).signed text is there
not-held-of r Owner number text is there = absurd (omega (arith, there.1))
not-held-of r Client number text is there = absurd (omega (arith, there.1))

-- ---- claims

fair-so : (dishonest held : Bool) (v : Result (Unit {0}) VerifyFault) → dishonest ≡ false → v ≡ Ok tt → (dishonest || (not (is_ok v) || held)) ≡ held
fair-so dishonest held v e f = ap (λ b. b || (not (is_ok v) || held)) e ∙ ap (λ w. not (is_ok w) || held) f

forged-so : (dishonest held : Bool) (v : Result (Unit {0}) VerifyFault) → (dishonest || (not (is_ok v) || held)) ≡ false → (dishonest ≡ false) × (v ≡ Ok tt) × (held ≡ false)
forged-so true held v is = absurd (cc)
forged-so false held (Ok tt) is = (refl, refl, is)
forged-so false held (Err fault) is = absurd (cc)

fair-claim : (h : Held) (c : Claimed) → is_fair h c ≡ true → has_party h.dishonest c.party ≡ false → IsVerified h.directory c.party c.text c.signature
    → Contains (signed_by (records_of h) c.party) c.text
unfolding is_fair
fair-claim h c fair honest valid =
    let held = holds_of (records_of h) c.party.role c.party.number c.text in
    held-of (records_of h) c.party.role c.party.number c.text
    (sym (fair-so (has_party h.dishonest c.party) held (verified h.directory c.party c.text c.signature) honest valid) ∙ fair)

pub forged-claim : (h : Held) (c : Claimed) → is_fair h c ≡ false
    → (has_party h.dishonest c.party ≡ false) × IsVerified h.directory c.party c.text c.signature × ¬ Contains (signed_by (records_of h) c.party) c.text
unfolding is_fair
forged-claim h c is =
    let held = holds_of (records_of h) c.party.role c.party.number c.text in
    let so = forged-so (has_party h.dishonest c.party) held (verified h.directory c.party c.text c.signature) is in
    (so.0, so.1, not-held-of (records_of h) c.party.role c.party.number c.text so.2)

-- what passes a test that all of a list pass
passes : {X : Type 0} (p : X → Bool) (xs : List X) (x : X) → list_all p xs ≡ true → Contains xs x → p x ≡ true
passes p xs x all there = subst (λ y. p y ≡ true) there.2 (AllPass-from_list_all p xs all there.0 x there.1)

pub none-forged : (h : Held) (messages : List (List ℕ)) → list_all (are_fair h) messages ≡ true → NoneForgedIn h messages
none-forged h messages all bytes c there claimed honest valid =
    let fair = passes (is_fair h) (claimed_in_bytes bytes) c (passes (are_fair h) messages bytes all there) claimed in
    fair-claim h c fair honest.honest valid
