-- What the second of two authorities sends is bytes, where what it takes is: its own signature is bytes, and all else of the
-- message stands in the one that it takes.
use Rattle.std.proofs.Common.{ℕ, List, ◌++◌, ◌<◌, Option, Some, None}
use Rattle.std.specs.Prelude.{length, slice_get}
use Rattle.std.specs.Int.{w8, w16}
use Rattle.ar_base.proofs.Digests.{AllBytes, at_each, bytes_by_recursion, joined}
use Rattle.ar_base.proofs.Lists.{of-both-lists}
use Rattle.ar_base.specs.Bytes.{AreBytes}
use Rattle.ar_bytes.specs.RoundTrip.{counted_text, number_text}
use Rattle.ar_message.specs.Confirmation.{body_text, confirmation_fields_text, form_text, is_present, path_text, signed_text, subject_text}
use Rattle.ar_message.specs.Filling.{signature_under}
use Rattle.ar_message.specs.Lists.{votes_text}
use Rattle.ar_message.specs.Messages.{about_in, confirming_text, fields_text, message_text, path_in, shown_in, signed_in}
use Rattle.ar_message.specs.declared.message.Confirming.{Confirming}
use Rattle.ar_message.specs.declared.message.Message.TheVariants.{HalfConfirmed}
use Rattle.ar_safety.specs.Accepting.{Confirmer, bytes_to_client, own_signature, own_text, signature_for}
use Rattle.key_roll.specs.Due.{DueParts}
use Rattle.key_roll.specs.Entry.{after_entry, due_of}
use Rattle.lms_tree.specs.KeyParts.{KeyParts}
use Rattle.ar_safety.proofs.Spelled.{number-spelled, signature-spelled}

-- the signature that is due
under-bytes : (o : Option KeyParts) (due : DueParts) → AllBytes (signature_under o due)
under-bytes None due = tt
under-bytes (Some key) due = signature-spelled key due

due-bytes : (ring : List KeyParts) (o : Option DueParts) → AllBytes (signature_for ring o)
due-bytes ring None = tt
due-bytes ring (Some due) = under-bytes (slice_get ring due.generation) due

-- ---- the message

-- two lists that are bytes together are bytes
parted : (xs ys : List ℕ) → AllBytes (xs ++ ys) → AllBytes xs × AllBytes ys
parted xs ys all = of-both-lists (λ byte. byte < 256) xs ys all

signed-bytes : (number : ℕ) (signature : List ℕ) → AllBytes signature → AllBytes (signed_text (signed_in number signature))
signed-bytes number signature is =
    joined (number_text w16 number) (counted_text signature) (number-spelled w16 number)
    (joined (number_text w16 (length signature)) signature (number-spelled w16 (length signature)) is)

pub sent-bytes : (a : Confirmer) (part : Confirming) (first_signature : List ℕ) → AreBytes (message_text (HalfConfirmed part first_signature)) → AreBytes (bytes_to_client a part first_signature)
unfolding message_text fields_text confirmation_fields_text confirming_text
sent-bytes a part first_signature are =
    at_each _ (joined (number_text w8 12) (form ++ (subject ++ (body ++ (path ++ (log ++ (first ++ second)))))) (number-spelled w8 12)
    (joined form (subject ++ (body ++ (path ++ (log ++ (first ++ second))))) front.0
    (joined subject (body ++ (path ++ (log ++ (first ++ second)))) about.0
    (joined body (path ++ (log ++ (first ++ second))) shown.0
    (joined path (log ++ (first ++ second)) shown.1
    (joined log (first ++ second) vouches.0 (joined first second (signed-bytes part.first first_signature counted.1)
    (signed-bytes a.me (own_signature a part) (due-bytes a.ring (due_of (after_entry a.past.signed (own_text a part)) (own_text a part)))))))))))
  where
    form : List ℕ
    form = form_text (is_present (shown_in part.body))

    subject : List ℕ
    subject = subject_text (about_in part)

    body : List ℕ
    body = body_text (shown_in part.body)

    path : List ℕ
    path = path_text (path_in part.body)

    log : List ℕ
    log = signed_text (signed_in part.log part.signature)

    first : List ℕ
    first = signed_text (signed_in part.first first_signature)

    second : List ℕ
    second = signed_text (signed_in a.me (own_signature a part))

    asked : List ℕ
    asked = number_text w16 part.first ++ number_text w16 part.second

    whole : AllBytes (confirming_text part) × AllBytes (counted_text first_signature)
    whole =
        parted (confirming_text part) (counted_text first_signature)
        (parted (number_text w8 11) (confirming_text part ++ counted_text first_signature) (bytes_by_recursion _ are)).1

    parts : AllBytes (form ++ (subject ++ (part.base ++ (body ++ path)))) × AllBytes (votes_text part.votes ++ (log ++ asked))
    parts = parted (form ++ (subject ++ (part.base ++ (body ++ path)))) (votes_text part.votes ++ (log ++ asked)) whole.0

    front : AllBytes form × AllBytes (subject ++ (part.base ++ (body ++ path)))
    front = parted form (subject ++ (part.base ++ (body ++ path))) parts.0

    about : AllBytes subject × AllBytes (part.base ++ (body ++ path))
    about = parted subject (part.base ++ (body ++ path)) front.1

    shown : AllBytes body × AllBytes path
    shown = parted body path (parted part.base (body ++ path) about.1).1

    vouches : AllBytes log × AllBytes asked
    vouches = parted log asked (parted (votes_text part.votes) (log ++ asked) parts.1).1

    counted : AllBytes (number_text w16 (length first_signature)) × AllBytes first_signature
    counted = parted (number_text w16 (length first_signature)) first_signature whole.1
