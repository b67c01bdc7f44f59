-- What the claims of bytes are.
use Rattle.std.proofs.Common.{◌≡◌, ℕ, ◌≤◌, List, length, Ok, Result, refl, ap, ◌∙◌}
use Rattle.ar_base.specs.Bytes.{AreBytes}
use Rattle.ar_bytes.specs.Reading.{whole}
use Rattle.ar_message.specs.Confirmation.{Confirmation, confirmation_at}
use Rattle.ar_message.specs.Messages.{IsMessage, longest, message_in, message_text, with_confirmation}
use Rattle.ar_message.specs.declared.message.Message.{Message}
use Rattle.ar_message.proofs.ConfirmingLaws.{whole-with}
use Rattle.ar_message.proofs.MessageLaws.{only_messages}
use Rattle.ar_claims.specs.Claimed.{claimed_by, claimed_in, claimed_in_bytes, claimed_on}
use Rattle.ar_claims.proofs.Read.{read-too}

pub by-message : (bytes : List ℕ) (m : Message) → message_in bytes ≡ Ok m → claimed_in_bytes bytes ≡ claimed_in m
unfolding claimed_in_bytes
by-message bytes m read = ap (λ (r : Result Message ℕ). claimed_by r) read

pub message-claims : (m : Message) → IsMessage m → length (message_text m) ≤ longest → AreBytes (message_text m) → claimed_in_bytes (message_text m) ≡ claimed_in m
message-claims m is few are = by-message (message_text m) m ((only_messages (message_text m) m are).1 (is, (refl, few)))

pub confirmation-claims : (bytes : List ℕ) (c : Confirmation) → AreBytes bytes → whole confirmation_at bytes ≡ Ok c → claimed_in_bytes bytes ≡ claimed_on c
confirmation-claims bytes c are read = by-message bytes (with_confirmation c) (read-too bytes c are read) ∙ ap claimed_on (whole-with c)
