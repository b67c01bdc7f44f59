-- A whole statement: what was put is read again, and what is read is spelled so.
use Rattle.std.proofs.Common.{◌≡◌, ℕ, ◌^◌, ◌<◌, true, eqb, List, ◌++◌, Some, refl, sym, ap, subst, ◌∙◌, arith, eq-eqb, inl, inr}
use Rattle.std.specs.Int.{w8, w16}
use Rattle.std.proofs.lemmas.Bool.{cases_eq, eqb-true, ne_eqb, and_parts, and_from}
use Rattle.ar_base.specs.Chaining.{◌>>=◌}
use Rattle.ar_base.proofs.Shown.{bind_ok}
use Rattle.ar_bytes.specs.Reading.{Cursor, number_at, such_that}
use Rattle.ar_bytes.specs.RoundTrip.{Passes, ReadsBack, IsSpelledBy, number_text}
use Rattle.ar_bytes.specs.Joined.{pair_at}
use Rattle.ar_bytes.proofs.Steps.{between, Passes-then, Passes-first, Passes-second, AreBytes-behind}
use Rattle.ar_bytes.proofs.Passing.{number_again, number_pass, wide8, wide16}
use Rattle.ar_bytes.proofs.Parts.{such_that_again, such_that_pass}
use Rattle.ar_bytes.proofs.JoinedFields.{pair_again, pair_pass, known_pass, mapped_again, mapped_pass}
use Rattle.ar_statement.specs.declared.party.Role.{Role}
use Rattle.ar_statement.specs.declared.party.Role.TheVariants.{LogServer, Authority, Owner, Client}
use Rattle.ar_statement.specs.declared.party.Party.{Party}
use Rattle.ar_statement.specs.Claims.{Claim, endorse, handover, propose, vote, confirm, confirm_absent, answer, status, roll, object, kind_of, signer_of, fields_text, head, is_party, party, party_text, role_number, text_of}
use Rattle.ar_statement.specs.Ranges.{IsHeld}
use Rattle.ar_statement.specs.Texts.{role_with, role_at, party_at, fields_at, is_signed_by, statement_at}
use Rattle.ar_statement.proofs.FieldsByKind.{IsOfKind, fields_again, fields_pass}

-- ---- a signer

pub role_again : (role : Role) → ReadsBack role_at role (number_text w8 (role_number role))
unfolding role_at
role_again LogServer at new p = rw (number_again w8 (2 ^ 8) wide8 1 (omega arith) at new p) refl
role_again Authority at new p = rw (number_again w8 (2 ^ 8) wide8 2 (omega arith) at new p) refl
role_again Owner at new p = rw (number_again w8 (2 ^ 8) wide8 3 (omega arith) at new p) refl
role_again Client at new p = rw (number_again w8 (2 ^ 8) wide8 4 (omega arith) at new p) refl

some_is : (a b : Role) (n : ℕ) → Some a ≡ Some b → role_number a ≡ n → role_number b ≡ n
some_is a b n e is = let same : a ≡ b = cc in rw (← same) is

-- the role with a number has this number
role_is : (n : ℕ) (role : Role) → role_with n ≡ Some role → role_number role ≡ n
role_is n role e =
    elim (cases_eq n 1) [
      | inl one ↦ some_is LogServer role n (sym (ap role_with one) ∙ e) (sym one)
      | inr ne1 ↦ elim (cases_eq n 2) [
        | inl two ↦ some_is Authority role n (sym (ap role_with two) ∙ e) (sym two)
        | inr ne2 ↦ elim (cases_eq n 3) [
          | inl three ↦ some_is Owner role n (sym (ap role_with three) ∙ e) (sym three)
          | inr ne3 ↦ elim (cases_eq n 4) [
            | inl four ↦ some_is Client role n (sym (ap role_with four) ∙ e) (sym four)
            | inr ne4 ↦ let wrong = rw (ne_eqb n 1 ne1, ne_eqb n 2 ne2, ne_eqb n 3 ne3, ne_eqb n 4 ne4) at e in absurd cc
          ]
        ]
      ]
    ]

pub role_pass : IsSpelledBy role_at (λ role. number_text w8 (role_number role)) (λ _. Unit {0})
unfolding role_at
role_pass =
    known_pass role_with (number_at w8) (number_text w8) (λ n. n < 2 ^ 8) (λ role. number_text w8 (role_number role)) (λ _. Unit {0}) (number_pass w8 (2 ^ 8) wide8)
    (λ n role lt is. (ap (number_text w8) (role_is n role is), tt))

party_again : (signer : Party) → signer.number < 2 ^ 16 → ReadsBack party_at signer (party_text signer)
unfolding party_at
party_again signer lt =
    let both = pair_again role_at (number_at w16) signer.role signer.number (number_text w8 (role_number signer.role)) (number_text w16 signer.number) (role_again signer.role) (number_again w16 (2 ^ 16) wide16 signer.number lt) in
    mapped_again (λ f. party f.0 f.1) (pair_at role_at (number_at w16)) (signer.role, signer.number) (party_text signer) both

party_pass : IsSpelledBy party_at party_text (λ signer. signer.number < 2 ^ 16)
unfolding party_at
party_pass =
    let both = pair_pass role_at (number_at w16) (λ role. number_text w8 (role_number role)) (number_text w16) (λ _. Unit {0}) (λ n. n < 2 ^ 16) role_pass (number_pass w16 (2 ^ 16) wide16) in
    mapped_pass (λ f. party f.0 f.1) (pair_at role_at (number_at w16)) (λ f. number_text w8 (role_number f.0) ++ number_text w16 f.1) (λ f. Unit {0} × (f.1 < 2 ^ 16)) party_text (λ signer. signer.number < 2 ^ 16) both (λ f h. (refl, h.1))

-- one number, one role
pub same_role : (one other : Role) → role_number one ≡ role_number other → one ≡ other
same_role LogServer LogServer e = refl
same_role LogServer Authority e = absurd cc
same_role LogServer Owner e = absurd cc
same_role LogServer Client e = absurd cc
same_role Authority LogServer e = absurd cc
same_role Authority Authority e = refl
same_role Authority Owner e = absurd cc
same_role Authority Client e = absurd cc
same_role Owner LogServer e = absurd cc
same_role Owner Authority e = absurd cc
same_role Owner Owner e = refl
same_role Owner Client e = absurd cc
same_role Client LogServer e = absurd cc
same_role Client Authority e = absurd cc
same_role Client Owner e = absurd cc
same_role Client Client e = refl

-- a party is itself
pub is_party-self : (signer : Party) → is_party signer signer ≡ true
is_party-self signer = and_from (eqb (role_number signer.role) (role_number signer.role)) (eqb signer.number signer.number) (eq-eqb (role_number signer.role) (role_number signer.role) refl) (eq-eqb signer.number signer.number refl)

-- one party has one text
same_party : (one other : Party) → is_party one other ≡ true → (party_text one ≡ party_text other) × (one.number ≡ other.number)
same_party one other e =
    let parts = and_parts (eqb (role_number one.role) (role_number other.role)) (eqb one.number other.number) e in
    let role : role_number one.role ≡ role_number other.role = eqb-true (role_number one.role) (role_number other.role) parts.0 in
    let number : one.number ≡ other.number = eqb-true one.number other.number parts.1 in
    (rw (role, number) refl, number)

-- ---- a statement

kind_is_byte : (claim : Claim) → kind_of claim < 2 ^ 8
kind_is_byte (endorse authority d) = omega arith
kind_is_byte (handover d) = omega arith
kind_is_byte (propose log epoch base root) = omega arith
kind_is_byte (vote log epoch base root) = omega arith
kind_is_byte (confirm signer epoch name d root) = omega arith
kind_is_byte (confirm_absent signer epoch name root) = omega arith
kind_is_byte (answer name d challenge) = omega arith
kind_is_byte (status log epoch value) = omega arith
kind_is_byte (roll signer generation key) = omega arith
kind_is_byte (object d) = omega arith

pub statement_again : (claim : Claim) → IsHeld claim → ReadsBack statement_at claim (text_of claim)
unfolding statement_at text_of
statement_again claim h at new p =
    let kind = kind_of claim in
    let signer = signer_of claim in
    let k = number_text w8 kind in
    let s = party_text signer in
    let two = between at (head kind signer) (fields_text claim ++ new.ahead) in
    let front = Passes-first at new (head kind signer) (fields_text claim) p in
    let one = between at k (s ++ two.ahead) in
    rw (
      number_again w8 (2 ^ 8) wide8 kind (kind_is_byte claim) at one (Passes-first at two k s front),
      party_again signer h.signer one two (Passes-second at two k s front),
    ) (such_that_again (is_signed_by signer) (fields_at kind signer) claim (fields_text claim) (fields_again claim h.fields) (is_party-self signer) two new (Passes-second at new (head kind signer) (fields_text claim) p))

pub statement_pass : IsSpelledBy statement_at text_of IsHeld
unfolding statement_at text_of
statement_pass at new claim bytes e =
    let k = bind_ok {B = Claim × Cursor} (number_at w8 at) (λ kind. party_at kind.1 >>= λ signer. such_that (is_signed_by signer.0) (fields_at kind.0 signer.0) signer.1) (claim, new) e in
    let s = bind_ok {B = Claim × Cursor} (party_at k.0.1) (λ signer. such_that (is_signed_by signer.0) (fields_at k.0.0 signer.0) signer.1) (claim, new) k.2 in
    let pk = number_pass w8 (2 ^ 8) wide8 at k.0.1 k.0.0 bytes k.1 in
    let bk = AreBytes-behind at k.0.1 (number_text w8 k.0.0) pk.0 bytes in
    let ps = party_pass k.0.1 s.0.1 s.0.0 bk s.1 in
    let bs = AreBytes-behind k.0.1 s.0.1 (party_text s.0.0) ps.0 bk in
    let pf = such_that_pass (is_signed_by s.0.0) (fields_at k.0.0 s.0.0) fields_text (IsOfKind k.0.0) (fields_pass k.0.0 s.0.0) s.0.1 new claim bs s.2 in
    let same = same_party (signer_of claim) s.0.0 pf.1.1 in
    let front = Passes-then at k.0.1 s.0.1 (number_text w8 k.0.0) (party_text s.0.0) pk.0 ps.0 in
    let all = Passes-then at s.0.1 new (head k.0.0 s.0.0) (fields_text claim) front pf.0 in
    let begins : head (kind_of claim) (signer_of claim) ≡ head k.0.0 s.0.0 = rw (pf.1.0.1, same.0) refl in
    let whole : Passes at (head (kind_of claim) (signer_of claim) ++ fields_text claim) new = subst (λ (t : List ℕ). Passes at (t ++ fields_text claim) new) (sym begins) all in
    (whole, record { signer = subst (λ (n : ℕ). n < 2 ^ 16) (sym same.1) ps.1; fields = pf.1.0.0 })
