-- The statements that a log signs are valid, and only a Roll is one.
use Rattle.std.proofs.Common.{◌≡◌, ℕ, ◌+◌, ◌<◌, ◌≤◌, ◌^◌, List, arith, true, false, Option, Some, None}
use Rattle.std.specs.Prelude.{IfSome, IsTrue}
use Rattle.std.specs.Cmp.Derive.{both_true}
use Rattle.std.proofs.lemmas.Bool.{le-leb}
use Rattle.ar_base.specs.Bytes.{IsDigest}
use Rattle.ar_names.specs.Names.{IsName}
use Rattle.ar_statement.specs.Claims.{log_party, propose, roll, text_of}
use Rattle.ar_statement.specs.Fields.{is_epoch}
use Rattle.ar_statement.specs.Ranges.{IsKeyText, IsValid, IsValue, is_readable}
use Rattle.key_roll.specs.Rolls.{is_roll, named_generation}
use Rattle.key_roll.proofs.Books.{is_roll-kind, named-roll}
use Rattle.vote_quorum.specs.declared.value.Value.{Value}
use Rattle.ar_council.specs.Values.{confirm_claim, status_claim, vote_claim}

pub in-range : (n : ℕ) → n < 2 ^ 63 → is_epoch (n + 1) ≡ true
in-range n less = both_true (le-leb 1 (n + 1) (omega arith)) (le-leb (n + 1) (2 ^ 63) (omega (arith, less)))

pub valid-vote : (me n : ℕ) (value : Value) → me < 2 ^ 16 → n < 2 ^ 63 → IsValue value → IsValid (vote_claim me (n + 1) value)
valid-vote me n value small less are = record {
  held = record { signer = small; fields = (omega (arith, less), (are.base, are.root)) };
  ranges = in-range n less;
}

pub valid-propose : (me n : ℕ) (value : Value) → me < 2 ^ 16 → n < 2 ^ 63 → IsValue value → IsValid (propose me (n + 1) value.base value.root)
valid-propose me n value small less are = record {
  held = record { signer = small; fields = (omega (arith, less), (are.base, are.root)) };
  ranges = in-range n less;
}

pub valid-status : (me n : ℕ) (value : Option Value) → me < 2 ^ 16 → n < 2 ^ 63 → IfSome value IsValue → IsValid (status_claim me (n + 1) value)
valid-status me n None small less are = record {
  held = record { signer = small; fields = (omega (arith, less), tt) };
  ranges = in-range n less;
}
valid-status me n (Some value) small less are = record {
  held = record { signer = small; fields = (omega (arith, less), are) };
  ranges = in-range n less;
}

pub valid-confirm : (me epoch : ℕ) (name : List ℕ) (certificate : Option (List ℕ)) (root : List ℕ) → me < 2 ^ 16 → 1 ≤ epoch → epoch < 2 ^ 63 → IsName name → IfSome certificate IsDigest → IsDigest root
    → IsValid (confirm_claim me epoch name certificate root)
valid-confirm me epoch name None root small least less is-name are is-digest = record {
  held = record { signer = small; fields = (omega (arith, less), (is-name, is-digest)) };
  ranges = both_true (le-leb 1 epoch least) (le-leb epoch (2 ^ 63) (omega (arith, less)));
}
valid-confirm me epoch name (Some certificate) root small least less is-name are is-digest = record {
  held = record { signer = small; fields = (omega (arith, less), (is-name, (are, is-digest))) };
  ranges = both_true (le-leb 1 epoch least) (le-leb epoch (2 ^ 63) (omega (arith, less)));
}

pub valid-roll : (me generation : ℕ) (key : List ℕ) → me < 2 ^ 16 → generation < 999 → IsKeyText key → IsTrue (is_readable key) → IsValid (roll (log_party me) generation key)
valid-roll me generation key small less is-key readable = record {
  held = record { signer = small; fields = (omega (arith, less), is-key) };
  ranges = readable;
}

pub plain-vote : (me epoch : ℕ) (value : Value) → is_roll (text_of (vote_claim me epoch value)) ≡ false
plain-vote me epoch value = is_roll-kind (vote_claim me epoch value)

pub plain-propose : (me epoch : ℕ) (base root : List ℕ) → is_roll (text_of (propose me epoch base root)) ≡ false
plain-propose me epoch base root = is_roll-kind (propose me epoch base root)

pub plain-status : (me epoch : ℕ) (value : Option Value) → is_roll (text_of (status_claim me epoch value)) ≡ false
plain-status me epoch value = is_roll-kind (status_claim me epoch value)

pub plain-confirm : (me epoch : ℕ) (name : List ℕ) (certificate : Option (List ℕ)) (root : List ℕ) → is_roll (text_of (confirm_claim me epoch name certificate root)) ≡ false
plain-confirm me epoch name None root = is_roll-kind (confirm_claim me epoch name None root)
plain-confirm me epoch name (Some certificate) root = is_roll-kind (confirm_claim me epoch name (Some certificate) root)

pub a-roll : (me generation : ℕ) (key : List ℕ) → is_roll (text_of (roll (log_party me) generation key)) ≡ true
a-roll me generation key = is_roll-kind (roll (log_party me) generation key)

pub names-generation : (me generation : ℕ) (key : List ℕ) → generation < 999 → named_generation (text_of (roll (log_party me) generation key)) ≡ generation
names-generation me generation key less = named-roll (log_party me) generation key (omega (arith, less))
