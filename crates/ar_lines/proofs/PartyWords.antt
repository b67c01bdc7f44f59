-- The word of a party spells it, and no other word does.
use Rattle.std.proofs.Common.{◌≡◌, ℕ, ◌==◌, ◌<◌, ◌^◌, Bool, true, false, cond, [], ◌∷◌, Option, Some, None, refl, sym, ap, ◌∙◌, inl, inr, ◌⊎◌, le-leb, arith}
use Rattle.std.specs.Fmt.{decimal}
use Rattle.std.proofs.lemmas.Bool.{eqb-true}
use Rattle.std.proofs.lemmas.Option.{same_Some}
use Rattle.ar_lines.specs.Forms.{number_in}
use Rattle.ar_lines.specs.Parties.{letter_of, member_word, party_in, party_of, party_word, role_of}
use Rattle.ar_lines.specs.Written.{IsReadAsWritten, WritesBack}
use Rattle.ar_lines.proofs.Respelled.{number_in_writes, stepped}
use Rattle.ar_lines.proofs.Spelled.{number_of-decimal}
use Rattle.ar_statement.specs.Claims.{party}
use Rattle.ar_statement.specs.declared.party.Role.{Role}
use Rattle.ar_statement.specs.declared.party.Role.TheVariants.{LogServer, Authority, Owner, Client}
use Rattle.ar_base.proofs.Shown.{mapped}

-- a test of a letter
letter_is : (test : Bool) (r found : Role) (rest : Option Role) → cond test (Some r) rest ≡ Some found → ((test ≡ true) × (r ≡ found)) ⊎ (rest ≡ Some found)
letter_is true r found rest h = inl (refl, same_Some r found h)
letter_is false r found rest h = inr h

role_letter : (letter : ℕ) (r : Role) → role_of letter ≡ Some r → letter_of r ≡ letter
role_letter letter r h =
    elim (letter_is (letter == 76) LogServer r _ h) [
      | inl p ↦ ap letter_of (sym p.1) ∙ sym (eqb-true letter 76 p.0)
      | inr h ↦ elim (letter_is (letter == 65) Authority r _ h) [
        | inl p ↦ ap letter_of (sym p.1) ∙ sym (eqb-true letter 65 p.0)
        | inr h ↦ elim (letter_is (letter == 68) Owner r _ h) [
          | inl p ↦ ap letter_of (sym p.1) ∙ sym (eqb-true letter 68 p.0)
          | inr h ↦ elim (letter_is (letter == 67) Client r None h) [
            | inl p ↦ ap letter_of (sym p.1) ∙ sym (eqb-true letter 67 p.0)
            | inr h ↦ absurd cc
          ]
        ]
      ]
    ]

party_in_writes : WritesBack party_in party_word
party_in_writes [] value h = absurd cc
party_in_writes (letter ∷ digits) value h =
    let found = stepped _ (role_of letter) value h in
    let number = mapped (party found.0) (number_in 0 65535 digits) value found.2 in
    ap party_word (sym number.2)
    ∙ ap (λ l. l ∷ decimal number.0) (role_letter letter found.0 found.1)
    ∙ ap (λ d. letter ∷ d) (number_in_writes 0 65535 digits number.0 number.1)

pub party_writes : WritesBack party_of party_word
unfolding party_of
party_writes = party_in_writes

-- ---- what is written is read

number_again : (n : ℕ) → n < 2 ^ 16 → number_in 0 65535 (decimal n) ≡ Some n
unfolding number_in
number_again n h = rw (number_of-decimal n (omega (arith, h)), le-leb 0 n (omega arith), le-leb n 65535 (omega (arith, h))) refl

member_is_read : (r : Role) (n : ℕ) → n < 2 ^ 16 → party_of (member_word r n) ≡ Some (party r n)
unfolding party_of
member_is_read LogServer n h = rw (number_again n h) refl
member_is_read Authority n h = rw (number_again n h) refl
member_is_read Owner n h = rw (number_again n h) refl
member_is_read Client n h = rw (number_again n h) refl

pub party_is_read : IsReadAsWritten party_of party_word (λ p. p.number < 2 ^ 16)
party_is_read p h = member_is_read p.role p.number h
