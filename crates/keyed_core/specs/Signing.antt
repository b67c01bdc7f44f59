-- A party with its keys, and its answers with its signatures in them.
use Rattle.std.specs.Prelude.{◌≡◌, ℕ, ◌⊎◌, List, Result, Ok, Err}
use Rattle.std.specs.Result.{result_map_both}
use Rattle.ar_message.specs.Filling.{CanFill, filled}
use Rattle.ar_message.specs.declared.sent.Sent.{Sent}
use Rattle.ar_message.specs.declared.unsigned.Unsigned.{Unsigned}
use Rattle.key_roll.specs.Book.{RollBook}
use Rattle.key_roll.specs.Ring.{AreKeysOf, RingParts}
use Rattle.lms_tree.specs.KeyParts.{KeyParts}

-- what stands under a lock, and its keys
pub record KeyedParts (C : Type 0) : Type 0 where
  pub core : C
  pub ring : RingParts

-- these keys sign what a step leaves blank, and are those of the book behind it
pub record IsSignedBy (keys : List KeyParts) (book : RollBook) (len : ℕ) (unsigned : Unsigned) : Type 0 where
  pub fills : CanFill keys unsigned
  pub stays : AreKeysOf book len keys

-- what a step sends, signed with these keys
abbrev pub signed : {R : Type 0} → List KeyParts → Result Unsigned R → Result Sent R
signed keys result = result_map_both (filled keys) (λ refusal. refusal) result

-- a row's answer, of which `parts` are where the party stands then and what it sends, signed with these keys
abbrev pub signed_answer : {A S R : Type 0} → (A → S × Unsigned) → List KeyParts → Result A R → Result (S × Sent) R
signed_answer parts keys answer = result_map_both (λ a. ((parts a).0, filled keys (parts a).1)) (λ refusal. refusal) answer

-- A call answered as the row does, signed with these keys, and the party stands where the row says; or it refused so, or
-- wanted memory, and the party stands as before.
abbrev pub SendsBy : {A S R : Type 0} → R → (A → S × Unsigned) → List KeyParts → Result Sent R → S → S → Result A R → Type 0
SendsBy memory parts keys (Ok sent) old new answer = signed_answer parts keys answer ≡ Ok (new, sent)
SendsBy memory parts keys (Err refusal) old new answer = (new ≡ old) × ((refusal ≡ memory) ⊎ (answer ≡ Err refusal))
