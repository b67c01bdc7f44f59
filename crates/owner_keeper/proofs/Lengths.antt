-- How long signatures and texts of certificates are.
use Rattle.std.proofs.Common.{◌≡◌, ℕ, zero, suc, ◌+◌, ◌/◌, ◌^◌, ◌≤◌, List, ◌++◌, length, map, arith, length-append, Result, Ok, Err, ap, sym, ◌∙◌}
use Rattle.std.specs.Int.{w8, w32}
use Rattle.std.specs.List.{concat, range_with_len}
use Rattle.std.specs.Prelude.{All}
use Rattle.std.proofs.lemmas.List.Elements.{All-nil, All-cons}
use Rattle.std.proofs.lemmas.List.FromFn.{length-map-range_with_len}
use Rattle.ar_base.proofs.Joined.{length-joined}
use Rattle.ar_bytes.specs.Ascending.{numbers_text}
use Rattle.ar_bytes.specs.RoundTrip.{number_text}
use Rattle.ar_bytes.specs.Tested.{flag_text}
use Rattle.ar_bytes.proofs.Passing.{length-number_text}
use Rattle.ar_cert.specs.Certificate.{Certificate, IsCertificate, certificate_text, front_text, terms_text}
use Rattle.ar_cert.proofs.Lengths.{length-flag_text, length-front_text, length-terms_text}
use Rattle.ar_cert.proofs.Numbers.{length-numbers_text}
use Rattle.ar_names.proofs.Least.{short}
use Rattle.lm_ots.proofs.SigningLemmas.{length-signature_of}
use Rattle.lm_ots.specs.Signing as one_time
use Rattle.lms_tree.specs.Key.{path_element, secret_of, sibling_of, signature_of}
use Rattle.lms_tree.specs.KeyParts.{KeyParts}
use Rattle.lms_tree.specs.LmsKind.{height_of, leaves_of, number_of}
use Rattle.lms_tree.specs.Signature.{lms_signature_len_of, signature_text}
use Rattle.lms_tree.proofs.KeyLemmas.{length-key_text}
use Rattle.lms_tree.proofs.SigningLemmas.{length-node_at}
use Rattle.ar_base.proofs.Shown.{ok_is}
use Rattle.ar_statement.specs.Claims.{handover, text_of}
use Rattle.ar_statement.specs.declared.fault.BookFault.{BookFault}
use Rattle.owner_core.specs.Rows.{handover_row}
use Rattle.owner_core.specs.Signing.{after_signing, signed_at}
use Rattle.owner_core.specs.State.{Owner}
use Rattle.sign_book.specs.Entry.{leaf_of}
use Rattle.owner_keeper.specs.Texts.{asks_text}

-- ---- signatures

wide-path : (key : KeyParts) (leaf a n : ℕ) → All (λ node. length node ≡ 32) (map (path_element key leaf) (range_with_len a n))
wide-path key leaf a zero = All-nil (λ (node : List ℕ). length node ≡ 32)
wide-path key leaf a (suc n) =
    All-cons (λ (node : List ℕ). length node ≡ 32) (path_element key leaf a) (map (path_element key leaf) (range_with_len (a + 1) n))
    (length-node_at key a (sibling_of ((leaves_of key.lms + leaf) / 2 ^ a))) (wide-path key leaf (a + 1) n)

-- each signature of a key has the length of its types
pub signature_long : (key : KeyParts) (leaf : ℕ) (message : List ℕ) → length (signature_of key leaf message) ≡ lms_signature_len_of key.lms key.ots
unfolding signature_of signature_text
signature_long key leaf message =
    let number = number_text w32 leaf in
    let signed = one_time.signature_of (secret_of key leaf) message in
    let kind = number_text w32 (number_of key.lms) in
    let path = map (path_element key leaf) (range_with_len 0 (height_of key.lms)) in
    let steps : length path ≡ height_of key.lms = length-map-range_with_len (path_element key leaf) 0 (height_of key.lms) in
    omega (
      arith,
      length-append number (signed ++ (kind ++ concat path)),
      length-number_text w32 leaf,
      length-append signed (kind ++ concat path),
      length-signature_of (secret_of key leaf) message,
      length-append kind (concat path),
      length-number_text w32 (number_of key.lms),
      length-joined 32 path (wide-path key leaf 0 (height_of key.lms)),
      steps,
    )

-- so has a handover
pub handed_long : (me later : Owner) (digest bytes : List ℕ) → handover_row me digest ≡ Ok (bytes, later) → length bytes ≡ lms_signature_len_of me.key.lms me.key.ots
handed_long me later digest bytes e = by (leaf_of me.book (text_of (handover digest))) e
  where
    by : (leaf : Result ℕ BookFault) → signed_at me (text_of (handover digest)) leaf ≡ Ok (bytes, later) → length bytes ≡ lms_signature_len_of me.key.lms me.key.ots
    by (Err fault) e = absurd cc
    by (Ok leaf) e =
        let text : List ℕ = text_of (handover digest) in
        let same : (signature_of me.key leaf text, after_signing me text) ≡ (bytes, later) = ok_is (signature_of me.key leaf text, after_signing me text) (bytes, later) e in
        ap (λ (p : List ℕ × Owner). length p.0) (sym same) ∙ signature_long me.key leaf text

-- ---- texts

pub certificate_short : (c : Certificate) → IsCertificate c → length (certificate_text c) ≤ 402
unfolding certificate_text
certificate_short c is =
    let front = length-front_text c.name c.serial c.previous c.subject is.previous.len (length-key_text c.subject is.subject) in
    let named = short c.name is.name in
    omega (
      arith,
      length-append (front_text c.name c.serial c.previous c.subject) (terms_text c.policy ++ flag_text c.revoked),
      front,
      named.1,
      length-append (terms_text c.policy) (flag_text c.revoked),
      length-terms_text c.policy,
      is.policy.few,
      length-flag_text c.revoked,
    )

-- what stands behind the kind of a certificate that is begun
pub beginning_short : (asks : List ℕ) (c : Certificate) → length asks ≤ 255 → IsCertificate c → length (asks_text asks ++ certificate_text c) ≤ 1024
beginning_short asks c few is =
    omega (
      arith,
      length-append (asks_text asks) (certificate_text c),
      certificate_short c is,
      length-append (number_text w8 (length asks)) (numbers_text asks),
      length-number_text w8 (length asks),
      length-numbers_text asks,
    )
