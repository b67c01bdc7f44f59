-- Keys made again from another secret, and the keys of a book.
use Rattle.std.proofs.Common.{◌≡◌, ℕ, zero, suc, ◌+◌, ◌-◌, ◌^◌, ◌<◌, ◌≤◌, ◌∙◌, ap, sym, subst, arith, get_or, length, List, [], ◌∷◌, ◌++◌, Option, Some, None, Result, Ok}
use Rattle.std.specs.Prelude.{All, slice_get}
use Rattle.std.proofs.lemmas.List.{length-append}
use Rattle.std.proofs.lemmas.List.Elements.{All-append, All-cons, All-nil}
use Rattle.std.proofs.lemmas.Option.{get_or_from_slice_get, same_Some, slice_get-get_or, slice_get_within}
use Rattle.lm_ots.specs.declared.ots_type.OtsType.{OtsType}
use Rattle.lm_ots.specs.OtsKind as ots_kind
use Rattle.lms_tree.specs.KeyParts.{KeyParts}
use Rattle.lms_tree.specs.Key.{key_of_types, made, type_to_make}
use Rattle.lms_tree.specs.LmsKind.{height_of}
use Rattle.lms_tree.specs.declared.key.KeyFault.{KeyFault}
use Rattle.lms_tree.specs.declared.lms_type.LmsType.{LmsType}
use Rattle.key_roll.specs.Book.{RollBook}
use Rattle.key_roll.specs.Due.{DueParts}
use Rattle.key_roll.specs.Entry.{with_roll}
use Rattle.key_roll.specs.Ring.{AreKeysOf, IsNext, IsRing, Owes, next_key, ring_signature_len}
use Rattle.ar_base.proofs.Lists.{has-item}

by_types : (old new : List ℕ) (lms : Option LmsType) (ots : Option OtsType) (key : KeyParts) → key_of_types old lms ots ≡ Ok key
    → key_of_types new lms ots ≡ Ok (record { seed = new; lms = key.lms; ots = key.ots })
by_types old new (Some lms) (Some ots) key e = let same : record { seed = old; lms = lms; ots = ots } ≡ key = cc in cc
by_types old new (Some lms) None key e = absurd cc
by_types old new None ots key e = absurd cc

-- a key that is made of one secret is made of another
pub made_again : (old new : List ℕ) (lms ots : ℕ) (key : KeyParts) → made old lms ots ≡ Ok key → made new lms ots ≡ Ok (record { seed = new; lms = key.lms; ots = key.ots })
made_again old new lms ots key e = by_types old new (type_to_make lms) (ots_kind.type_of_number ots) key e

abbrev made_as : KeyParts → Result KeyParts KeyFault
made_as key = Ok key

pub same_key : (a b : KeyParts) → made_as a ≡ made_as b → a ≡ b
same_key a b e = cc

-- each key of a ring has signatures as long as those of the first
pub one_length : (keys : List KeyParts) (first : KeyParts) → IsRing keys → slice_get keys 0 ≡ Some first
    → (g : ℕ) (key : KeyParts) → slice_get keys g ≡ Some key → ring_signature_len key ≡ ring_signature_len first
one_length keys first ring at zero key is = ap ring_signature_len (same_Some key first (sym is ∙ at))
one_length keys first ring at (suc g) key is =
    let within : suc g < length keys = slice_get_within keys (suc g) key is in
    let before = get_or keys g first in
    let stands : slice_get keys g ≡ Some before = slice_get-get_or keys g first (omega (arith, within)) in
    let here : slice_get keys (g + 1) ≡ Some key = ap (slice_get keys) (omega arith) ∙ is in
    let next : key ≡ next_key before = ring.next g before key stands here in
    ap ring_signature_len next ∙ one_length keys first ring at g before stands

-- ---- the keys of a book

-- what all have, one of them has
pub at-place : {X : Type 0} (P : X → Type 0) (xs : List X) (k : ℕ) (x : X) → All P xs → slice_get xs k ≡ Some x → P x
at-place P xs k x all is = subst P (get_or_from_slice_get xs k x x is) (all k x (slice_get_within xs k x is))

-- the keys of a book are those of another with as many leaves and the same newest generation
pub same_keys : (book later : RollBook) (len : ℕ) (keys : List KeyParts) → later.leaves ≡ book.leaves → later.newest ≡ book.newest
    → AreKeysOf book len keys → AreKeysOf later len keys
same_keys book later len keys leaves newest are = record {
  many = are.many ∙ ap (λ n. n + 1) (sym newest);
  leaves = subst (λ n. All (λ (key : KeyParts). n ≡ 2 ^ height_of key.lms) keys) (sym leaves) are.leaves;
  bytes = are.bytes;
}

-- with the next key behind them, they are those of the book with a Roll
pub next_keys : (book : RollBook) (text : List ℕ) (len : ℕ) (keys : List KeyParts) (next : KeyParts) → AreKeysOf book len keys → IsNext keys next
    → AreKeysOf (with_roll book text) len (keys ++ next ∷ [])
next_keys book text len keys next are behind = record {
  many = length-append keys (next ∷ []) ∙ ap (λ n. n + 1) are.many;
  leaves = one-more (λ k. book.leaves ≡ 2 ^ height_of k.lms) are.leaves (λ old. old ∙ ap (λ (k : KeyParts). 2 ^ height_of k.lms) (sym behind.is));
  bytes = one-more (λ k. len ≡ ring_signature_len k) are.bytes (λ old. old ∙ ap ring_signature_len (sym behind.is));
}
  where
    one-more : (P : KeyParts → Type 0) → All P keys → (P behind.newest → P next) → All P (keys ++ next ∷ [])
    one-more P all step =
        All-append P keys (next ∷ []) all (All-cons P next [] (step (at-place P keys (length keys - 1) behind.newest all behind.last)) (All-nil P))

-- they owe what is due of a generation up to the newest of the book, with its leaves
pub owed_by : (book : RollBook) (len : ℕ) (keys : List KeyParts) (due : DueParts) → AreKeysOf book len keys → due.generation ≤ book.newest
    → due.leaves ≡ book.leaves → Owes keys due len
owed_by book len keys due are upto leaves =
    let own = has-item keys due.generation (omega (arith, upto, are.many)) in
    record {
      key = own.0;
      has = own.1;
      leaves = leaves ∙ at-place (λ (key : KeyParts). book.leaves ≡ 2 ^ height_of key.lms) keys due.generation own.0 are.leaves own.1;
      bytes_are = at-place (λ (key : KeyParts). len ≡ ring_signature_len key) keys due.generation own.0 are.bytes own.1;
    }
