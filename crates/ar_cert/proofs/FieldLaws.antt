-- The key of a certificate: what was put is read again, and what is read is spelled so.
use Rattle.std.proofs.Common.{refl}
use Rattle.ar_bytes.specs.Reading.{bytes_at}
use Rattle.ar_bytes.specs.RoundTrip.{ReadsBack, IsSpelledBy}
use Rattle.ar_bytes.proofs.Passing.{bytes_again, bytes_pass, AreBytes-front}
use Rattle.ar_bytes.proofs.JoinedFields.{known_taken}
use Rattle.lms_tree.specs.declared.public_key.LmsPublic.{LmsPublic}
use Rattle.lms_tree.specs.PublicKey.{HasWidths, key_text, key_of_text}
use Rattle.lms_tree.proofs.KeyLemmas.{key_of_text-key_text, key_text-key_of_text, length-key_text}
use Rattle.ar_cert.specs.Certificate.{certified_key_at}

pub key_again : (key : LmsPublic) → HasWidths key → ReadsBack certified_key_at key (key_text key)
unfolding certified_key_at
key_again key h at new p = rw (bytes_again 56 (key_text key) at new (length-key_text key h) p, key_of_text-key_text key h) refl

pub key_pass : IsSpelledBy certified_key_at key_text HasWidths
unfolding certified_key_at
key_pass at new key bytes e =
    let text = known_taken key_of_text (bytes_at 56) at new key e in
    let p = bytes_pass 56 at new text.0 text.1 in
    let is = key_text-key_of_text text.0 key (AreBytes-front at new text.0 p.0 bytes) text.2 in
    (rw is.0 p.0, is.1)
