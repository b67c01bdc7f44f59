-- A step by a row, signed.
use Rattle.std.proofs.Common.{◌≡◌, List, Result, Ok, Err, ℕ, ap, sym, subst, ◌∙◌}
use Rattle.ar_base.specs.Gives.{StepsUnless}
use Rattle.ar_message.specs.Filling.{filled}
use Rattle.ar_message.specs.declared.sent.Sent.{Sent}
use Rattle.ar_message.specs.declared.unsigned.Unsigned.{Unsigned}
use Rattle.key_roll.specs.Book.{RollBook}
use Rattle.key_roll.specs.Ring.{AreKeysOf}
use Rattle.key_roll.proofs.Books.{IsSameBook}
use Rattle.key_roll.proofs.Rings.{same_keys}
use Rattle.lms_tree.specs.KeyParts.{KeyParts}
use Rattle.keyed_core.specs.Signing.{SendsBy, signed, signed_answer}

-- where a call steps by a row, it sends by that row once it is signed
pub signed-sends : {A S R : Type 0} (memory : R) (made : S → Unsigned → A) (parts : A → S × Unsigned) → ((s : S) (u : Unsigned) → parts (made s u) ≡ (s, u))
    → (keys : List KeyParts) (result : Result Unsigned R) (old new : S) (answer : Result A R) → StepsUnless memory made result old new answer
    → SendsBy memory parts keys (signed keys result) old new answer
signed-sends {A} {S} {R} memory made parts back keys (Ok unsigned) old new answer is =
    ap (signed_answer parts keys) is ∙ ap (λ (p : S × Unsigned). Ok (p.0, filled keys p.1)) (back new unsigned)
signed-sends memory made parts back keys (Err refusal) old new answer is = is

-- the keys of a book are those of one with as many leaves and the same generation, where the signatures have as many bytes
pub keys-stay : (book later : RollBook) (keys : List KeyParts) (len later_len : ℕ) → IsSameBook book later → later_len ≡ len → AreKeysOf book len keys → AreKeysOf later later_len keys
keys-stay book later keys len later_len same len-same are =
    subst (λ n. AreKeysOf later n keys) (sym len-same) (same_keys book later len keys same.leaves same.newest are)
