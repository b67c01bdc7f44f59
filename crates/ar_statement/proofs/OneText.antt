-- A text is read as its statement and as no other.
use Rattle.std.proofs.Common.{◌≡◌, ℕ, true, false, List, [], ◌++◌, length, Some, None, Result, Ok, Err, refl, sym, ap, subst, ◌∙◌, arith}
use Rattle.std.specs.Result.{result_ok}
use Rattle.ar_base.specs.Bytes.{AreBytes}
use Rattle.ar_base.proofs.Shown.{ok_is}
use Rattle.ar_bytes.specs.Reading.{Cursor, whole}
use Rattle.ar_bytes.proofs.Parts.{whole_again, whole_pass}
use Rattle.ar_statement.specs.Claims.{Claim, text_of}
use Rattle.ar_statement.specs.Ranges.{IsHeld, IsTextOf, IsValid, is_in_range}
use Rattle.ar_statement.specs.Texts.{statement_at}
use Rattle.ar_statement.proofs.Statements.{statement_again, statement_pass}

was_ok : (r : Result Claim ℕ) (x : Claim) → Some x ≡ result_ok r → r ≡ Ok x
was_ok (Ok y) x e = cc
was_ok (Err place) x e = absurd cc

-- what was read is held by its types, and its text is the input
pub is_found : (bytes : List ℕ) (claim : Claim) → AreBytes bytes → Some claim ≡ result_ok (whole statement_at bytes) → IsHeld claim × (text_of claim ≡ bytes)
is_found bytes claim are e =
    let p = whole_pass statement_at text_of IsHeld statement_pass bytes claim are (was_ok (whole statement_at bytes) claim e) in
    (p.1, sym p.0)

-- the text of a statement is read as it
pub is_read : (bytes : List ℕ) (claim : Claim) → IsHeld claim → text_of claim ≡ bytes → result_ok (whole statement_at bytes) ≡ Some claim
is_read bytes claim held is =
    let read : whole statement_at bytes ≡ Ok claim = rw (← is) (whole_again statement_at claim (text_of claim) (statement_again claim held)) in
    rw read refl

-- where nothing was read, no statement has the text
pub not_read : (bytes : List ℕ) (claim : Claim) → IsHeld claim → text_of claim ≡ bytes → None ≡ result_ok (whole statement_at bytes) → ⊥
not_read bytes claim held is none = let read = is_read bytes claim held is in absurd cc

-- where a statement out of range was read, no valid one has the text
pub not_valid : (bytes : List ℕ) (read claim : Claim) → Some read ≡ result_ok (whole statement_at bytes) → is_in_range read ≡ false → IsValid claim → text_of claim ≡ bytes → ⊥
not_valid bytes read claim e out valid is =
    let both : Some read ≡ Some claim = e ∙ is_read bytes claim valid.held is in
    let same : read ≡ claim = cc in
    let within : is_in_range read ≡ true = ap is_in_range same ∙ valid.ranges in
    absurd cc

pub one_text : (a b : Claim) (x y : List ℕ) → IsHeld a → IsHeld b → text_of a ++ x ≡ text_of b ++ y → (a ≡ b) × (x ≡ y)
one_text a b x y va vb e =
    let at : Cursor = record { ahead = text_of a ++ x; place = 0 } in
    let behind_a : Cursor = record { ahead = x; place = length (text_of a) } in
    let behind_b : Cursor = record { ahead = y; place = length (text_of b) } in
    let read_a = statement_again a va at behind_a (record { bytes = refl; place = omega arith }) in
    let read_b = statement_again b vb at behind_b (record { bytes = e; place = omega arith }) in
    let same : ◌≡◌ {A = Claim × Cursor} (a, behind_a) (b, behind_b) = ok_is {A = Claim × Cursor} (a, behind_a) (b, behind_b) (sym read_a ∙ read_b) in
    (ap (λ (r : Claim × Cursor). r.0) same, ap (λ (r : Claim × Cursor). r.1.ahead) same)

-- what holds of a text's statement holds of each statement with this text
pub text_is : (P : Claim → Type 0) (claim : Claim) → IsHeld claim → IsTextOf P (text_of claim) → P claim
text_is P claim held t =
    let same = one_text t.claim claim [] [] t.valid.held held (ap (λ (l : List ℕ). l ++ []) t.is) in
    subst P same.0 t.holds
