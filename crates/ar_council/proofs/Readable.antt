-- The text of a key can be read.
use Rattle.std.proofs.Common.{◌≡◌, ℕ, ◌≤◌, ◌==◌, ◌&&◌, List, length, take, drop, refl, sym, ap, ◌∙◌, arith, Bool, true, false, cond, nat_le, Option, Some, None}
use Rattle.std.specs.Prelude.{is_some}
use Rattle.std.specs.Int.{w32, from_be_bytes}
use Rattle.std.proofs.lemmas.Bool.{and_parts, eqb-true, le-leb}
use Rattle.ar_base.specs.Ranges.{is_from_to}
use Rattle.ar_statement.specs.Ranges.{is_readable}
use Rattle.lm_ots.specs.OtsKind as ots_kind
use Rattle.lm_ots.specs.declared.ots_type.OtsType.TheVariants.{W1, W2, W4, W8}
use Rattle.lms_tree.specs.LmsKind as lms_kind
use Rattle.lms_tree.specs.PublicKey.{HasWidths, is_key_text, key_text}
use Rattle.lms_tree.specs.declared.lms_type.LmsType.TheVariants.{H5, H10, H15, H20, H25}
use Rattle.lms_tree.specs.declared.public_key.LmsPublic.{LmsPublic}
use Rattle.lms_tree.proofs.KeyLemmas.{is_some-key_of_text, key_of_text-key_text}

chosen : {A : Type 0} (n k : ℕ) (a : A) (rest : Option A) (P : Type 0) → (n ≡ k → P) → (is_some rest ≡ true → P) → is_some (cond (n == k) (Some a) rest) ≡ true → P
chosen n k a rest P here later = by (n == k) refl
  where
    by : (b : Bool) → (n == k) ≡ b → is_some (cond b (Some a) rest) ≡ true → P
    by true is some = here (eqb-true n k is)
    by false other some = later some

within : (low high n m : ℕ) → low ≤ m → m ≤ high → n ≡ m → is_from_to low high n ≡ true
within low high n m above below same = ap (λ k. is_from_to low high k) same ∙ ap (λ b. b && nat_le m high) (le-leb low m above) ∙ le-leb m high below

lms-range : (n : ℕ) → is_some (lms_kind.type_of_number n) ≡ true → is_from_to 5 9 n ≡ true
lms-range n =
    chosen n 5 H5 _ _ (within 5 9 n 5 (omega arith) (omega arith))
    (chosen n 6 H10 _ _ (within 5 9 n 6 (omega arith) (omega arith))
    (chosen n 7 H15 _ _ (within 5 9 n 7 (omega arith) (omega arith))
    (chosen n 8 H20 _ _ (within 5 9 n 8 (omega arith) (omega arith))
    (chosen n 9 H25 None _ (within 5 9 n 9 (omega arith) (omega arith)) (λ e. absurd cc)))))

ots-range : (n : ℕ) → is_some (ots_kind.type_of_number n) ≡ true → is_from_to 1 4 n ≡ true
ots-range n =
    chosen n 1 W1 _ _ (within 1 4 n 1 (omega arith) (omega arith))
    (chosen n 2 W2 _ _ (within 1 4 n 2 (omega arith) (omega arith))
    (chosen n 3 W4 _ _ (within 1 4 n 3 (omega arith) (omega arith))
    (chosen n 4 W8 None _ (within 1 4 n 4 (omega arith) (omega arith)) (λ e. absurd cc))))

pub readable : (key : LmsPublic) → HasWidths key → is_readable (key_text key) ≡ true
unfolding is_readable is_key_text
readable key widths =
    let text : List ℕ = key_text key in
    let is : is_key_text text ≡ true = sym (is_some-key_of_text text) ∙ ap is_some (key_of_text-key_text key widths) in
    let one = and_parts (length text == 56) (is_some (lms_kind.type_of_number (from_be_bytes w32 (take 4 text))) && is_some (ots_kind.type_of_number (from_be_bytes w32 (take 4 (drop 4 text))))) is in
    let two = and_parts (is_some (lms_kind.type_of_number (from_be_bytes w32 (take 4 text)))) (is_some (ots_kind.type_of_number (from_be_bytes w32 (take 4 (drop 4 text))))) one.1 in
    ap (λ b. b && is_from_to 1 4 (from_be_bytes w32 (take 4 (drop 4 text)))) (lms-range (from_be_bytes w32 (take 4 text)) two.0)
    ∙ ots-range (from_be_bytes w32 (take 4 (drop 4 text))) two.1
