-- The note of a Roll that bytes are is in the ranges of one.
use Rattle.std.proofs.Common.{◌≡◌, ℕ, List, refl, subst, Result, Ok, Err, Some}
use Rattle.std.proofs.lemmas.Option.{same_Some}
use Rattle.ar_base.specs.Bytes.{AreBytes}
use Rattle.ar_message.proofs.MessageLaws.{only_messages}
use Rattle.ar_message.specs.Messages.{IsMessage, message_in}
use Rattle.ar_message.specs.declared.message.Message.{Message}
use Rattle.ar_message.specs.declared.message.Message.TheVariants as messages
use Rattle.ar_statement.specs.declared.party.Party.{Party}
use Rattle.client_rule.specs.Notes.{note_of}
use Rattle.lms_tree.specs.declared.public_key.LmsPublic.{LmsPublic}
use Rattle.party_keys.specs.Learning.{Announced}
use Rattle.run_safety.specs.Own.{IsNoted}

-- the note of a Roll is in its ranges
pub note-noted : (party : Party) (generation : ℕ) (key : LmsPublic) (signature : List ℕ) → IsMessage (messages.RollNote party generation key signature)
    → IsNoted (record { party = party; generation = generation; key = key; signature = signature })
note-noted party generation key signature m = record { number = m.0.1; witness = m.0.0; generation = m.1.0; widths = m.1.1.0 }

-- so is one that bytes are
pub noted-of : (bytes : List ℕ) (a : Announced) → AreBytes bytes → note_of (message_in bytes) ≡ Some a → IsNoted a
noted-of bytes a are is = by (message_in bytes) refl is
  where
    by : (read : Result Message ℕ) → message_in bytes ≡ read → note_of read ≡ Some a → IsNoted a
    by (Ok (messages.RollNote party generation key signature)) at e =
        subst IsNoted (same_Some (record { party = party; generation = generation; key = key; signature = signature }) a e)
        (note-noted party generation key signature ((only_messages bytes (messages.RollNote party generation key signature) are).0 at).0)
    by (Ok (messages.EndorseAsk owner cert)) at e = absurd cc
    by (Ok (messages.Endorsed owner authority certificate signature)) at e = absurd cc
    by (Ok (messages.Submit change)) at e = absurd cc
    by (Ok (messages.Propose log epoch base root changes signature)) at e = absurd cc
    by (Ok (messages.Ballot log epoch base root signature)) at e = absurd cc
    by (Ok (messages.StatusNote log epoch value signature)) at e = absurd cc
    by (Ok (messages.Decision epoch base root changes votes)) at e = absurd cc
    by (Ok (messages.SkipNote epoch statuses)) at e = absurd cc
    by (Ok (messages.ConfirmAsk client name first second)) at e = absurd cc
    by (Ok (messages.LogConfirmed part)) at e = absurd cc
    by (Ok (messages.HalfConfirmed part first_signature)) at e = absurd cc
    by (Ok (messages.Confirmation client epoch name root body log log_signature first first_signature second second_signature)) at e = absurd cc
    by (Err place) at e = absurd cc
