-- Messages: what was put is read again, and what is read is spelled so, over all kinds.
use Rattle.std.proofs.Common.{◌≡◌, ℕ, ◌^◌, ◌<◌, ◌≤◌, ◌↔◌, Bool, true, false, leb, ltb, cond, List, length, Result, Ok, Err, refl, sym, subst, arith}
use Rattle.std.specs.Int.{w8}
use Rattle.std.proofs.lemmas.Bool.{and_parts, leb-true, ltb-false, le-ltb}
use Rattle.ar_base.specs.Bytes.{AreBytes}
use Rattle.ar_bytes.specs.Reading.{number_at, such_that, whole}
use Rattle.ar_bytes.specs.RoundTrip.{Passes, ReadsBack, IsSpelledBy, number_text}
use Rattle.ar_bytes.proofs.Steps.{Passes-then, split, next}
use Rattle.ar_bytes.proofs.Passing.{number_again, number_pass, wide8}
use Rattle.ar_bytes.proofs.Parts.{such_that_again, such_that_pass}
use Rattle.ar_cert.proofs.ChangeLaws.{only_text}
use Rattle.ar_message.specs.declared.message.Message.{Message}
use Rattle.ar_message.specs.declared.message.Message.TheVariants.{EndorseAsk, Endorsed, Submit, Propose, Ballot, StatusNote, Decision, SkipNote, ConfirmAsk, LogConfirmed, HalfConfirmed, Confirmation, RollNote}
use Rattle.ar_message.specs.Messages.{IsMessage, fields_at, fields_text, is_kind, kind_of, longest, message_at, message_in, message_text}
use Rattle.ar_message.proofs.KindLaws.{fields_again, fields_pass}

-- each kind has one of the numbers
kind_is_kind : (m : Message) → is_kind (kind_of m) ≡ true
kind_is_kind (EndorseAsk owner cert) = refl
kind_is_kind (Endorsed owner authority certificate signature) = refl
kind_is_kind (Submit change) = refl
kind_is_kind (Propose log epoch base root changes signature) = refl
kind_is_kind (Ballot log epoch base root signature) = refl
kind_is_kind (StatusNote log epoch value signature) = refl
kind_is_kind (Decision epoch base root changes votes) = refl
kind_is_kind (SkipNote epoch statuses) = refl
kind_is_kind (ConfirmAsk client name first second) = refl
kind_is_kind (LogConfirmed part) = refl
kind_is_kind (HalfConfirmed part first_signature) = refl
kind_is_kind (Confirmation client epoch name root body log log_signature first first_signature second second_signature) = refl
kind_is_kind (RollNote party generation key signature) = refl

kind_range : (kind : ℕ) → is_kind kind ≡ true → (1 ≤ kind) × (kind ≤ 13)
kind_range kind is =
    let parts = and_parts (leb 1 kind) (leb kind 13) is in
    (leb-true 1 kind parts.0, leb-true kind 13 parts.1)

kind_is_byte : (kind : ℕ) → is_kind kind ≡ true → kind < 2 ^ 8
kind_is_byte kind is = omega (arith, (kind_range kind is).1)

pub message_again : (m : Message) → IsMessage m → ReadsBack message_at m (message_text m)
unfolding message_at message_text
message_again m h at new p =
    let kind = split at new (number_text w8 (kind_of m)) (fields_text m) p in
    let number = number_again w8 (2 ^ 8) wide8 (kind_of m) (kind_is_byte (kind_of m) (kind_is_kind m)) in
    rw (such_that_again is_kind (number_at w8) (kind_of m) (number_text w8 (kind_of m)) number (kind_is_kind m) at kind.0 kind.1) (fields_again m h kind.0 new kind.2)

pub message_pass : IsSpelledBy message_at message_text IsMessage
unfolding message_at message_text
message_pass at new m bytes e =
    let kind = next (such_that is_kind (number_at w8)) (number_text w8) (λ n. (n < 2 ^ 8) × (is_kind n ≡ true)) (such_that_pass is_kind (number_at w8) (number_text w8) (λ n. n < 2 ^ 8) (number_pass w8 (2 ^ 8) wide8)) (λ kind. fields_at kind.0 kind.1) at (m, new) bytes e in
    let range = kind_range kind.0 kind.3.1 in
    let fields = fields_pass kind.0 range.0 range.1 kind.1 new m kind.4 kind.5 in
    let own = subst (λ (k : ℕ). Passes at (number_text w8 k) kind.1) (sym fields.1.1) kind.2 in
    (Passes-then at kind.1 new (number_text w8 (kind_of m)) (fields_text m) own fields.0, fields.1.0)

-- ---- a whole input

-- an input that was read is not too long
not_longer : (longer : Bool) (read : Result Message ℕ) (m : Message) → cond longer (Err longest) read ≡ Ok m → (longer ≡ false) × (read ≡ Ok m)
not_longer true read m e = absurd cc
not_longer false read m e = (refl, e)

pub only_messages : (bytes : List ℕ) (m : Message) → AreBytes bytes → (message_in bytes ≡ Ok m) ↔ (IsMessage m × ((message_text m ≡ bytes) × (length bytes ≤ longest)))
unfolding message_in
only_messages bytes m are =
    let exactly = only_text message_at message_text IsMessage message_again message_pass bytes m are in (
      (λ e. let n = not_longer (ltb longest (length bytes)) (whole message_at bytes) m e in let read = exactly.0 n.1 in (read.0, (read.1, ltb-false longest (length bytes) n.0))),
      (λ h. rw (le-ltb longest (length bytes) h.1.1) (exactly.1 (h.0, h.1.0))),
    )
