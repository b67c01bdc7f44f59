-- The fields of each kind of statement: what was put is read again, and what is read is spelled so.
use Rattle.std.proofs.Common.{◌≡◌, ℕ, ◌^◌, ◌<◌, eqb, List, ◌++◌, Option, Some, None, Err, cond, refl, sym, subst}
use Rattle.std.specs.Prelude.{IfSome}
use Rattle.std.specs.Int.{w32, w64}
use Rattle.std.proofs.lemmas.Bool.{eqb-true}
use Rattle.ar_base.specs.Bytes.{IsDigest}
use Rattle.ar_bytes.specs.Reading.{Cursor, Reading, bytes_at, number_at}
use Rattle.ar_bytes.specs.RoundTrip.{ReadsBack, IsSpelledBy, number_text}
use Rattle.ar_bytes.specs.Joined.{pair_at, optional_at, optional_text}
use Rattle.ar_bytes.proofs.Passing.{bytes_again, bytes_pass, number_again, number_pass, wide32, wide64, AreBytes-front}
use Rattle.ar_bytes.proofs.JoinedFields.{pair_again, pair_pass, optional_again, optional_pass, mapped_again, mapped_pass, if_pass}
use Rattle.ar_names.specs.Names.{IsName}
use Rattle.ar_statement.specs.declared.party.Party.{Party}
use Rattle.ar_statement.specs.Claims.{Claim, endorse, handover, propose, vote, confirm, confirm_absent, answer, status, roll, object, kind_of, signer_of, name_text, value_text, value_with, fields_text}
use Rattle.ar_statement.specs.Fields.{digest_at, name_at}
use Rattle.ar_statement.specs.Ranges.{HasFields, IsValue, IsKeyText}
use Rattle.ar_statement.specs.Texts.{digests_at, value_at, endorse_at, handover_at, propose_at, vote_at, confirm_at, absent_at, answer_at, status_at, roll_at, object_at, fields_at}
use Rattle.vote_quorum.specs.declared.value.Value.{Value}
use Rattle.ar_statement.proofs.FieldLaws.{digest_again, digest_pass, name_again, name_pass}

-- ---- the fields that kinds share

digests_again : (first second : List ℕ) → IsDigest first → IsDigest second → ReadsBack digests_at (first, second) (first ++ second)
digests_again first second a b = pair_again digest_at digest_at first second first second (digest_again first a) (digest_again second b)

-- two digests, one behind the other
abbrev both_text : List ℕ × List ℕ → List ℕ
both_text both = both.0 ++ both.1

abbrev AreDigests : List ℕ × List ℕ → Type 0
AreDigests both = IsDigest both.0 × IsDigest both.1

digests_pass : IsSpelledBy digests_at both_text AreDigests
digests_pass = pair_pass digest_at digest_at (λ d. d) (λ d. d) IsDigest IsDigest digest_pass digest_pass

pub value_again : (value : Value) → IsValue value → ReadsBack value_at value (value_text value)
unfolding value_at
value_again value h =
    mapped_again (λ f. value_with f.0 f.1) digests_at (value.base, value.root) (value_text value) (digests_again value.base value.root h.base h.root)

pub value_pass : IsSpelledBy value_at value_text IsValue
unfolding value_at
value_pass =
    mapped_pass (λ f. value_with f.0 f.1) digests_at both_text AreDigests value_text IsValue digests_pass (λ f h. (refl, record { base = h.0; root = h.1 }))

epoch_again : (epoch : ℕ) → epoch < 2 ^ 64 → ReadsBack (number_at w64) epoch (number_text w64 epoch)
epoch_again = number_again w64 (2 ^ 64) wide64

epoch_pass : IsSpelledBy (number_at w64) (number_text w64) (λ n. n < 2 ^ 64)
epoch_pass = number_pass w64 (2 ^ 64) wide64

-- an epoch and something behind it
dated_again : {A : Type 0} (field : Cursor → Reading A) (epoch : ℕ) (x : A) (text : List ℕ) → epoch < 2 ^ 64 → ReadsBack field x text → ReadsBack (pair_at (number_at w64) field) (epoch, x) (number_text w64 epoch ++ text)
dated_again field epoch x text lt reads = pair_again (number_at w64) field epoch x (number_text w64 epoch) text (epoch_again epoch lt) reads

dated_pass : {A : Type 0} (field : Cursor → Reading A) (text : A → List ℕ) (fits : A → Type 0) → IsSpelledBy field text fits → IsSpelledBy (pair_at (number_at w64) field) (λ x. number_text w64 x.0 ++ text x.1) (λ x. (x.0 < 2 ^ 64) × fits x.1)
dated_pass field text fits spelled = pair_pass (number_at w64) field (number_text w64) text (λ n. n < 2 ^ 64) fits epoch_pass spelled

-- a name and something behind it
named_again : {A : Type 0} (field : Cursor → Reading A) (name : List ℕ) (x : A) (text : List ℕ) → IsName name → ReadsBack field x text → ReadsBack (pair_at name_at field) (name, x) (name_text name ++ text)
named_again field name x text is reads = pair_again name_at field name x (name_text name) text (name_again name is) reads

named_pass : {A : Type 0} (field : Cursor → Reading A) (text : A → List ℕ) (fits : A → Type 0) → IsSpelledBy field text fits → IsSpelledBy (pair_at name_at field) (λ x. name_text x.0 ++ text x.1) (λ x. IsName x.0 × fits x.1)
named_pass field text fits spelled = pair_pass name_at field name_text text IsName fits name_pass spelled

key_again : (key : List ℕ) → IsKeyText key → ReadsBack (bytes_at 56) key key
key_again key h at new p = bytes_again 56 key at new h.len p

key_pass : IsSpelledBy (bytes_at 56) (λ k. k) IsKeyText
key_pass at new key bytes e =
    let p = bytes_pass 56 at new key e in
    (p.0, record { len = p.1; bytes = AreBytes-front at new key p.0 bytes })

pub values_again : (value : Option Value) → IfSome value IsValue → IfSome value (λ v. ReadsBack value_at v (value_text v))
values_again None h = tt
values_again (Some value) h = value_again value h

-- ---- a text is read again

pub fields_again : (claim : Claim) → HasFields claim → ReadsBack (fields_at (kind_of claim) (signer_of claim)) claim (fields_text claim)
unfolding fields_at endorse_at handover_at propose_at vote_at confirm_at absent_at answer_at status_at roll_at object_at
fields_again (endorse authority d) h = mapped_again (endorse authority) digest_at d d (digest_again d h)
fields_again (handover d) h = mapped_again handover digest_at d d (digest_again d h)
fields_again (propose log epoch base root) h =
    mapped_again (λ f. propose log f.0 f.1.base f.1.root) (pair_at (number_at w64) value_at) (epoch, value_with base root) (number_text w64 epoch ++ (base ++ root))
    (dated_again value_at epoch (value_with base root) (base ++ root) h.0 (value_again (value_with base root) (record { base = h.1.0; root = h.1.1 })))
fields_again (vote log epoch base root) h =
    mapped_again (λ f. vote log f.0 f.1.base f.1.root) (pair_at (number_at w64) value_at) (epoch, value_with base root) (number_text w64 epoch ++ (base ++ root))
    (dated_again value_at epoch (value_with base root) (base ++ root) h.0 (value_again (value_with base root) (record { base = h.1.0; root = h.1.1 })))
fields_again (confirm signer epoch name d root) h =
    let named = named_again digests_at name (d, root) (d ++ root) h.1.0 (digests_again d root h.1.1.0 h.1.1.1) in
    mapped_again (λ f. confirm signer f.0 f.1.0 f.1.1.0 f.1.1.1) (pair_at (number_at w64) (pair_at name_at digests_at)) (epoch, (name, (d, root))) (number_text w64 epoch ++ (name_text name ++ (d ++ root))) (dated_again (pair_at name_at digests_at) epoch (name, (d, root)) (name_text name ++ (d ++ root)) h.0 named)
fields_again (confirm_absent signer epoch name root) h =
    let named = named_again digest_at name root root h.1.0 (digest_again root h.1.1) in
    mapped_again (λ f. confirm_absent signer f.0 f.1.0 f.1.1) (pair_at (number_at w64) (pair_at name_at digest_at)) (epoch, (name, root)) (number_text w64 epoch ++ (name_text name ++ root)) (dated_again (pair_at name_at digest_at) epoch (name, root) (name_text name ++ root) h.0 named)
fields_again (answer name d challenge) h =
    mapped_again (λ f. answer f.0 f.1.0 f.1.1) (pair_at name_at digests_at) (name, (d, challenge)) (name_text name ++ (d ++ challenge)) (named_again digests_at name (d, challenge) (d ++ challenge) h.0 (digests_again d challenge h.1.0 h.1.1))
fields_again (status log epoch value) h =
    mapped_again (λ f. status log f.0 f.1) (pair_at (number_at w64) (optional_at value_at)) (epoch, value) (number_text w64 epoch ++ optional_text value_text value) (dated_again (optional_at value_at) epoch value (optional_text value_text value) h.0 (optional_again value_at value_text value (values_again value h.1)))
fields_again (roll signer generation key) h =
    mapped_again (λ f. roll signer f.0 f.1) (pair_at (number_at w32) (bytes_at 56)) (generation, key) (number_text w32 generation ++ key) (pair_again (number_at w32) (bytes_at 56) generation key (number_text w32 generation) key (number_again w32 (2 ^ 32) wide32 generation h.0) (key_again key h.1))
fields_again (object d) h = mapped_again object digest_at d d (digest_again d h)

-- ---- what is read is spelled so

-- the fields are in order, and the kind is the one with this number
abbrev pub IsOfKind : ℕ → Claim → Type 0
IsOfKind kind claim = HasFields claim × (kind_of claim ≡ kind)

abbrev KindPass : ℕ → (Cursor → Reading Claim) → Type 0
KindPass kind field = IsSpelledBy field fields_text (IsOfKind kind)

endorse_pass : (signer : Party) → KindPass 1 (endorse_at signer)
unfolding endorse_at
endorse_pass signer = mapped_pass (endorse signer.number) digest_at (λ d. d) IsDigest fields_text (IsOfKind 1) digest_pass (λ d h. (refl, (h, refl)))

handover_pass : KindPass 2 handover_at
unfolding handover_at
handover_pass = mapped_pass handover digest_at (λ d. d) IsDigest fields_text (IsOfKind 2) digest_pass (λ d h. (refl, (h, refl)))

propose_pass : (signer : Party) → KindPass 3 (propose_at signer)
unfolding propose_at
propose_pass signer =
    mapped_pass (λ f. propose signer.number f.0 f.1.base f.1.root) (pair_at (number_at w64) value_at) (λ f. number_text w64 f.0 ++ value_text f.1) (λ f. (f.0 < 2 ^ 64) × IsValue f.1) fields_text (IsOfKind 3)
    (dated_pass value_at value_text IsValue value_pass) (λ f h. (refl, ((h.0, (h.1.base, h.1.root)), refl)))

vote_pass : (signer : Party) → KindPass 4 (vote_at signer)
unfolding vote_at
vote_pass signer =
    mapped_pass (λ f. vote signer.number f.0 f.1.base f.1.root) (pair_at (number_at w64) value_at) (λ f. number_text w64 f.0 ++ value_text f.1) (λ f. (f.0 < 2 ^ 64) × IsValue f.1) fields_text (IsOfKind 4)
    (dated_pass value_at value_text IsValue value_pass) (λ f h. (refl, ((h.0, (h.1.base, h.1.root)), refl)))

confirm_pass : (signer : Party) → KindPass 6 (confirm_at signer)
unfolding confirm_at
confirm_pass signer =
    let named = named_pass digests_at both_text AreDigests digests_pass in
    mapped_pass (λ f. confirm signer f.0 f.1.0 f.1.1.0 f.1.1.1) (pair_at (number_at w64) (pair_at name_at digests_at)) (λ f. number_text w64 f.0 ++ (name_text f.1.0 ++ both_text f.1.1)) (λ f. (f.0 < 2 ^ 64) × (IsName f.1.0 × AreDigests f.1.1)) fields_text (IsOfKind 6)
    (dated_pass (pair_at name_at digests_at) (λ f. name_text f.0 ++ both_text f.1) (λ f. IsName f.0 × AreDigests f.1) named) (λ f h. (refl, (h, refl)))

absent_pass : (signer : Party) → KindPass 7 (absent_at signer)
unfolding absent_at
absent_pass signer =
    let named = named_pass digest_at (λ d. d) IsDigest digest_pass in
    mapped_pass (λ f. confirm_absent signer f.0 f.1.0 f.1.1) (pair_at (number_at w64) (pair_at name_at digest_at)) (λ f. number_text w64 f.0 ++ (name_text f.1.0 ++ f.1.1)) (λ f. (f.0 < 2 ^ 64) × (IsName f.1.0 × IsDigest f.1.1)) fields_text (IsOfKind 7)
    (dated_pass (pair_at name_at digest_at) (λ f. name_text f.0 ++ f.1) (λ f. IsName f.0 × IsDigest f.1) named) (λ f h. (refl, (h, refl)))

answer_pass : KindPass 8 answer_at
unfolding answer_at
answer_pass =
    mapped_pass (λ f. answer f.0 f.1.0 f.1.1) (pair_at name_at digests_at) (λ f. name_text f.0 ++ both_text f.1) (λ f. IsName f.0 × AreDigests f.1) fields_text (IsOfKind 8) (named_pass digests_at both_text AreDigests digests_pass) (λ f h. (refl, (h, refl)))

status_pass : (signer : Party) → KindPass 9 (status_at signer)
unfolding status_at
status_pass signer =
    let value = optional_pass value_at value_text IsValue value_pass in
    mapped_pass (λ f. status signer.number f.0 f.1) (pair_at (number_at w64) (optional_at value_at)) (λ f. number_text w64 f.0 ++ optional_text value_text f.1) (λ f. (f.0 < 2 ^ 64) × IfSome f.1 IsValue) fields_text (IsOfKind 9)
    (dated_pass (optional_at value_at) (optional_text value_text) (λ o. IfSome o IsValue) value) (λ f h. (refl, (h, refl)))

roll_pass : (signer : Party) → KindPass 10 (roll_at signer)
unfolding roll_at
roll_pass signer =
    let both = pair_pass (number_at w32) (bytes_at 56) (number_text w32) (λ k. k) (λ n. n < 2 ^ 32) IsKeyText (number_pass w32 (2 ^ 32) wide32) key_pass in
    mapped_pass (λ f. roll signer f.0 f.1) (pair_at (number_at w32) (bytes_at 56)) (λ f. number_text w32 f.0 ++ f.1) (λ f. (f.0 < 2 ^ 32) × IsKeyText f.1) fields_text (IsOfKind 10) both (λ f h. (refl, (h, refl)))

object_pass : KindPass 11 object_at
unfolding object_at
object_pass = mapped_pass object digest_at (λ d. d) IsDigest fields_text (IsOfKind 11) digest_pass (λ d h. (refl, (h, refl)))

no_kind : (kind : ℕ) → KindPass kind (λ at. Err at.place)
no_kind kind at new claim bytes e = absurd cc

-- the kind with this number, or those behind it
or_else : (kind number : ℕ) (field other : Cursor → Reading Claim) → KindPass number field → KindPass kind other → KindPass kind (λ at. cond (eqb kind number) (field at) (other at))
or_else kind number field other here there =
    if_pass (eqb kind number) field other fields_text (IsOfKind kind) (λ t. let is : kind ≡ number = eqb-true kind number t in subst (λ (k : ℕ). KindPass k field) (sym is) here) (λ f. there)

pub fields_pass : (kind : ℕ) (signer : Party) → IsSpelledBy (fields_at kind signer) fields_text (IsOfKind kind)
unfolding fields_at
fields_pass kind signer =
    or_else kind 1 (endorse_at signer) _ (endorse_pass signer)
    (or_else kind 2 handover_at _ handover_pass
    (or_else kind 3 (propose_at signer) _ (propose_pass signer)
    (or_else kind 4 (vote_at signer) _ (vote_pass signer)
    (or_else kind 6 (confirm_at signer) _ (confirm_pass signer)
    (or_else kind 7 (absent_at signer) _ (absent_pass signer)
    (or_else kind 8 answer_at _ answer_pass
    (or_else kind 9 (status_at signer) _ (status_pass signer)
    (or_else kind 10 (roll_at signer) _ (roll_pass signer)
    (or_else kind 11 object_at _ object_pass (no_kind kind))))))))))
