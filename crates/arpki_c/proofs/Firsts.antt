-- The first text of a pin: how long it is, and that it is what is written.
use Rattle.std.proofs.Common.{◌≡◌, ℕ, ◌+◌, ◌≤◌, List, [], ◌++◌, length, take, drop, refl, sym, ap, subst, ◌∙◌, append_assoc, arith}
use Rattle.std.specs.Int.{w8, w16}
use Rattle.std.proofs.lemmas.List.{length-append, take-append-drop}
use Rattle.std.proofs.lemmas.Slice.{drop-append-drop}
use Rattle.std.proofs.Math.Seq.{take-append_seam}
use Rattle.ar_bytes.specs.RoundTrip.{number_text}
use Rattle.ar_bytes.proofs.Passing.{length-number_text}
use Rattle.ar_names.proofs.Least.{short}
use Rattle.lms_tree.proofs.KeyLemmas.{length-key_text}
use Rattle.ar_cert.specs.Certificate.{Certificate, IsCertificate, certificate_text, front_text, terms_text}
use Rattle.ar_bytes.specs.Tested.{flag_text}
use Rattle.ar_cert.specs.Changes.{change_text, consent_text}
use Rattle.ar_cert.proofs.Lengths.{length-flag_text, length-front_text, length-terms_text}
use Rattle.arpki_c.specs.Following.{first_text}

-- a certificate's text has at most 402 bytes
pub short_certificate : (c : Certificate) → IsCertificate c → length (certificate_text c) ≤ 402
unfolding certificate_text
short_certificate c h =
    let front = length-front_text c.name c.serial c.previous c.subject h.previous.len (length-key_text c.subject h.subject) in
    let named = short c.name h.name in
    omega (arith, length-append (front_text c.name c.serial c.previous c.subject) (terms_text c.policy ++ flag_text c.revoked), front, named.1, length-append (terms_text c.policy) (flag_text c.revoked), length-terms_text c.policy, h.policy.few, length-flag_text c.revoked)

-- the parts that are written
first_parts : (c : Certificate) → ((number_text w16 (length (certificate_text c)) ++ certificate_text c) ++ number_text w8 0) ++ number_text w8 0 ≡ first_text c
unfolding change_text consent_text
first_parts c =
    let size = number_text w16 (length (certificate_text c)) in
    append_assoc (size ++ certificate_text c) (number_text w8 0) (number_text w8 0)

-- Bytes that begin with a text, and are as the zeros behind it; and where they stop.
record Front (zeros out text : List ℕ) (place : ℕ) : Type 0 where
  bytes : out ≡ text ++ drop (length text) zeros
  end : place ≡ length text

-- one more field
written : (zeros out new text more : List ℕ) (place next : ℕ) → Front zeros out text place → next ≡ place + length more
    → take next new ≡ take place out ++ more → drop next new ≡ drop next out → Front zeros new (text ++ more) next
written zeros out new text more place next f is front behind =
    let end : next ≡ length (text ++ more) = omega (arith, is, f.end, length-append text more) in
    let begins : take place out ≡ text =
    ap (λ (n : ℕ). take n out) f.end ∙ ap (λ (t : List ℕ). take (length text) t) f.bytes ∙ take-append_seam text (drop (length text) zeros) in
    let rest : drop next out ≡ drop next zeros =
    ap (λ (t : List ℕ). drop next t) f.bytes ∙ drop-append-drop (length text) zeros text next (omega (arith, is, f.end)) refl in
    record {
      bytes = sym (take-append-drop next new) ∙ ap (λ (t : List ℕ). t ++ drop next new) (front ∙ ap (λ (t : List ℕ). t ++ more) begins)
          ∙ ap (λ (t : List ℕ). (text ++ more) ++ t) (behind ∙ rest) ∙ ap (λ (n : ℕ). (text ++ more) ++ drop n zeros) end;
      end = end;
    }

-- the four fields of the first text of a pin
pub first_written : (c : Certificate) (zeros size cert count flag : List ℕ) (a b d e : ℕ)
    → a ≡ 2 → take a size ≡ number_text w16 (length (certificate_text c)) → drop a size ≡ drop a zeros
    → b ≡ a + length (certificate_text c) → take b cert ≡ take a size ++ certificate_text c → drop b cert ≡ drop b size
    → d ≡ b + 1 → take d count ≡ take b cert ++ number_text w8 0 → drop d count ≡ drop d cert
    → e ≡ d + 1 → take e flag ≡ take d count ++ number_text w8 0 → drop e flag ≡ drop e count
    → (flag ≡ first_text c ++ drop (length (first_text c)) zeros) × (e ≡ length (first_text c))
first_written c zeros size cert count flag a b d e a_is a_front a_behind b_is b_front b_behind d_is d_front d_behind e_is e_front e_behind =
    let none : Front zeros zeros [] 0 = record { bytes = refl; end = refl } in
    let n : List ℕ = number_text w16 (length (certificate_text c)) in
    let zero_byte : List ℕ = number_text w8 0 in
    let one = written zeros zeros size [] n 0 a none (omega (arith, a_is, length-number_text w16 (length (certificate_text c)))) a_front a_behind in
    let two = written zeros size cert n (certificate_text c) a b one b_is b_front b_behind in
    let three = written zeros cert count (n ++ certificate_text c) zero_byte b d two (omega (arith, d_is, length-number_text w8 0)) d_front d_behind in
    let four = written zeros count flag ((n ++ certificate_text c) ++ zero_byte) zero_byte d e three (omega (arith, e_is, length-number_text w8 0)) e_front e_behind in
    (subst (λ (t : List ℕ). flag ≡ t ++ drop (length t) zeros) (first_parts c) four.bytes, four.end ∙ ap (λ (t : List ℕ). length t) (first_parts c))
