-- The parts of a signature, and what it is judged by.
use Rattle.std.proofs.Common.{◌≡◌, ◌∙◌, ap, sym, refl, arith, ℕ, ◌+◌, ◌*◌, ◌^◌, eqb, true, false, List, ◌++◌, length, take, Some, None, Ok, eq-eqb}
use Rattle.std.specs.List.{concat}
use Rattle.std.specs.Result.{result_ok}
use Rattle.std.specs.Int.{w32, from_be_bytes}
use Rattle.std.specs.Simd.{first_chunks}
use Rattle.std.proofs.lemmas.List.{length-drop}
use Rattle.std.proofs.lemmas.Bool.{ne_eqb}
use Rattle.ar_base.specs.FirstFailing.{first_failing}
use Rattle.ar_base.specs.Chaining.{◌>>=◌}
use Rattle.ar_base.proofs.Joined.{cut-joined, length-joined}
use Rattle.ar_base.proofs.Shown.{bind_ok, gave}
use Rattle.ar_bytes.specs.Reading.{Cursor, all_of, behind, start_of, bytes_at, number_at, whole}
use Rattle.ar_bytes.specs.RoundTrip.{ReadsBack, number_text}
use Rattle.ar_bytes.proofs.Steps.{all_ok, Passes-first, Passes-second}
use Rattle.ar_bytes.proofs.Passing.{bytes_again, number_again, wide32}
use Rattle.ar_bytes.proofs.Parts.{whole_again}
use Rattle.ar_bytes.proofs.Taken.{bytes_taken, number_taken, left_of}
use Rattle.lm_ots.specs.declared.ots_type.OtsType.{OtsType}
use Rattle.lm_ots.specs.OtsKind.{signature_len_of}
use Rattle.lms_tree.specs.declared.lms_type.LmsType.{LmsType}
use Rattle.lms_tree.specs.declared.public_key.LmsPublic.{LmsPublic}
use Rattle.lms_tree.specs.declared.validity.Verdict.TheVariants.{Invalid}
use Rattle.lms_tree.specs.LmsKind.{height_of}
use Rattle.lms_tree.specs.Signature.{SignatureParts, FitsTypes, lms_signature_len_of, signature_at, signature_text}
use Rattle.lms_tree.specs.Validity.{HasLength, conditions_on, parts_of, verdict, verdict_of}
use Rattle.lms_tree.proofs.KeyLemmas.{bytes_there, number_there}

-- ---- the text of a signature

-- a signature is read again
pub signature_again : (lms : LmsType) (ots : OtsType) (parts : SignatureParts) → FitsTypes lms ots parts → ReadsBack (signature_at lms ots) parts (signature_text parts)
unfolding signature_at signature_text
signature_again lms ots parts fits at new p =
    let leaf = number_text w32 parts.leaf in
    let kind = number_text w32 parts.lms in
    let path = concat parts.path in
    let behind_leaf = Passes-second at new leaf (parts.one_time ++ (kind ++ path)) p in
    let behind_one_time = Passes-second _ new parts.one_time (kind ++ path) behind_leaf in
    let steps : length path ≡ 32 * height_of lms = omega (arith, length-joined 32 parts.path fits.nodes, fits.steps) in
    let nodes : first_chunks 32 (height_of lms) path ≡ parts.path =
    ap (λ n. first_chunks 32 n path) (sym fits.steps) ∙ cut-joined 32 parts.path fits.nodes in
    rw (
      number_again w32 (2 ^ 32) wide32 parts.leaf fits.leaf at _ (Passes-first at new leaf (parts.one_time ++ (kind ++ path)) p),
      bytes_again (signature_len_of ots) parts.one_time _ _ fits.one_time (Passes-first _ new parts.one_time (kind ++ path) behind_leaf),
      number_again w32 (2 ^ 32) wide32 parts.lms fits.number _ _ (Passes-first _ new kind path behind_one_time),
      bytes_again (32 * height_of lms) path _ new steps (Passes-second _ new kind path behind_one_time),
      nodes,
    ) refl

pub parts_of-signature_text : (key : LmsPublic) (parts : SignatureParts) → FitsTypes key.lms key.ots parts → parts_of key (signature_text parts) ≡ Some parts
unfolding parts_of
parts_of-signature_text key parts fits =
    ap result_ok (whole_again (signature_at key.lms key.ots) parts (signature_text parts) (signature_again key.lms key.ots parts fits))

-- ---- its length

-- what has the length has parts
pub has_parts : (key : LmsPublic) (signature : List ℕ) → HasLength key signature → (parts : SignatureParts) × (parts_of key signature ≡ Some parts)
unfolding parts_of signature_at whole
has_parts key signature h =
    let n = signature_len_of key.ots in
    let m = 32 * height_of key.lms in
    let one = behind 4 (start_of signature) in
    let two = behind n one in
    let three = behind 4 two in
    let four = behind m three in
    let a : length one.ahead + 4 ≡ length signature = omega (arith, length-drop 4 signature) in
    let b : length two.ahead + n ≡ length one.ahead = omega (arith, length-drop n one.ahead) in
    let c : length three.ahead + 4 ≡ length two.ahead = omega (arith, length-drop 4 two.ahead) in
    let d : length four.ahead + m ≡ length three.ahead = omega (arith, length-drop m three.ahead) in
    let none : eqb (length four.ahead) 0 ≡ true = eq-eqb _ _ (omega arith) in
    let leaf = number_there (start_of signature) (omega arith) in
    let one_time = bytes_there n one (omega arith) in
    let kind = number_there two (omega arith) in
    let path = bytes_there m three (omega arith) in
    let parts : SignatureParts = record {
      leaf = from_be_bytes w32 (take 4 signature);
      one_time = take n one.ahead;
      lms = from_be_bytes w32 (take 4 two.ahead);
      path = first_chunks 32 (height_of key.lms) (take m three.ahead);
    } in
    (parts, rw (leaf, one_time, kind, path, none) refl)

-- what has parts has the length
pub has_length : (key : LmsPublic) (signature : List ℕ) (parts : SignatureParts) → parts_of key signature ≡ Some parts → HasLength key signature
unfolding parts_of signature_at whole
has_length key signature parts e =
    let n = signature_len_of key.ots in
    let m = 32 * height_of key.lms in
    let start = start_of signature in
    let all = bind_ok (signature_at key.lms key.ots start) all_of parts (gave (whole (signature_at key.lms key.ots) signature) parts e) in
    let ended = all_ok all.0 parts all.2 in
    let leaf = bind_ok {B = SignatureParts × Cursor} (number_at w32 start) (λ q. bytes_at n q.1 >>= λ o. number_at w32 o.1 >>= λ k. bytes_at m k.1 >>= λ p. Ok (record { leaf = q.0; one_time = o.0; lms = k.0; path = first_chunks 32 (height_of key.lms) p.0 }, p.1)) all.0 all.1 in
    let one_time = bind_ok {B = SignatureParts × Cursor} (bytes_at n leaf.0.1) (λ o. number_at w32 o.1 >>= λ k. bytes_at m k.1 >>= λ p. Ok (record { leaf = leaf.0.0; one_time = o.0; lms = k.0; path = first_chunks 32 (height_of key.lms) p.0 }, p.1)) all.0 leaf.2 in
    let kind = bind_ok {B = SignatureParts × Cursor} (number_at w32 one_time.0.1) (λ k. bytes_at m k.1 >>= λ p. Ok (record { leaf = leaf.0.0; one_time = one_time.0.0; lms = k.0; path = first_chunks 32 (height_of key.lms) p.0 }, p.1)) all.0 one_time.2 in
    let path = bind_ok {B = SignatureParts × Cursor} (bytes_at m kind.0.1) (λ p. Ok (record { leaf = leaf.0.0; one_time = one_time.0.0; lms = kind.0.0; path = first_chunks 32 (height_of key.lms) p.0 }, p.1)) all.0 kind.2 in
    let last : path.0.1 ≡ all.0.1 = let is = path.2 in cc in
    omega (
      arith,
      left_of _ _ _ _ _ (number_taken w32 start leaf.0.1 leaf.0.0 leaf.1),
      left_of _ _ _ _ _ (bytes_taken n leaf.0.1 one_time.0.1 one_time.0.0 one_time.1),
      left_of _ _ _ _ _ (number_taken w32 one_time.0.1 kind.0.1 kind.0.0 kind.1),
      left_of _ _ _ _ _ (bytes_taken m kind.0.1 path.0.1 path.0.0 path.1),
      ap (λ (at : Cursor). length at.ahead) last,
      ap (λ (l : List ℕ). length l) ended.1,
    )

-- ---- the verdict

-- by the parts, where there are some
pub judged : (key : LmsPublic) (message signature : List ℕ) (parts : SignatureParts) → parts_of key signature ≡ Some parts
    → verdict_of key message signature ≡ verdict (first_failing (conditions_on key message (Some parts)))
unfolding verdict_of
judged key message signature parts e =
    let whole : eqb (length signature) (lms_signature_len_of key.lms key.ots) ≡ true = eq-eqb _ _ (has_length key signature parts e) in
    rw (whole, e) refl

-- what has no parts has another length
pub no_parts : (key : LmsPublic) (signature : List ℕ) → parts_of key signature ≡ None → ¬ HasLength key signature
no_parts key signature e is = let parts = has_parts key signature is in cc

pub short : (key : LmsPublic) (message signature : List ℕ) → parts_of key signature ≡ None → verdict_of key message signature ≡ Invalid 1
unfolding verdict_of
short key message signature e =
    let other : eqb (length signature) (lms_signature_len_of key.lms key.ots) ≡ false = ne_eqb _ _ (no_parts key signature e) in
    rw other refl
