-- How many bytes an entry of a list of votes or statuses has.
use Rattle.std.proofs.Common.{◌≡◌, ℕ, ◌+◌, ◌-◌, ◌≤◌, List, [], ◌∷◌, ◌++◌, length, get_or, take, drop, append_assoc, Bool, true, false, Option, Some, None, sym, ap, ◌∙◌, arith}
use Rattle.std.specs.Prelude.{unwrap_or}
use Rattle.std.specs.Int.{w16}
use Rattle.std.proofs.Math.Seq.{take-length}
use Rattle.std.proofs.lemmas.List.{length-append}
use Rattle.ar_bytes.specs.Joined.{optional_text}
use Rattle.ar_bytes.specs.Tested.{flag_text}
use Rattle.ar_bytes.specs.RoundTrip.{counted_text, number_text}
use Rattle.ar_bytes.proofs.Passing.{length-number_text}
use Rattle.ar_message.specs.Lists.{status_text, vote_text}
use Rattle.ar_message.specs.Filling.{zeros}
use Rattle.ar_message.proofs.Written.{length-counted}
use Rattle.ar_statement.specs.Claims.{value_text}
use Rattle.vote_quorum.specs.declared.value.Value.{Value}
use Rattle.ar_statement.specs.Ranges.{IsValue}
use Rattle.epoch_log.specs.State.{CountedStatus}
use Rattle.log_sending.specs.Sending.{SigningPlace, if_own, own_places, place_for, sent_status, sent_vote}
use Rattle.ar_cert.proofs.Lengths.{length-flag_text}

pub vote_len : (len : ℕ) (v : ℕ × Option (List ℕ)) → length (vote_text (sent_vote len v)) ≡ 4 + length (unwrap_or v.1 (zeros len))
vote_len len v =
    let signature : List ℕ = unwrap_or v.1 (zeros len) in
    let both = length-append (number_text w16 v.0) (counted_text signature) in
    let log = length-number_text w16 v.0 in
    omega (arith, both, log, length-counted signature)

pub status_len : (len : ℕ) (s : CountedStatus) → length (status_text (sent_status len s))
    ≡ 4 + length (optional_text value_text s.1) + length (unwrap_or s.2 (zeros len))
status_len len s =
    let signature : List ℕ = unwrap_or s.2 (zeros len) in
    let ballot : List ℕ = optional_text value_text s.1 in
    let all = length-append (number_text w16 s.0) (ballot ++ counted_text signature) in
    let rest = length-append ballot (counted_text signature) in
    let log = length-number_text w16 s.0 in
    omega (arith, all, rest, log, length-counted signature)

-- ---- the ballot of a status

pub no_ballot-len : (value : Option Value) → value ≡ None → 1 ≡ length (optional_text value_text value)
unfolding optional_text
no_ballot-len value is =
    sym (ap (λ (o : Option Value). length (optional_text value_text o)) is ∙ length-flag_text false)

pub some_ballot-len : (value : Option Value) (v : Value) → value ≡ Some v → IsValue v → 65 ≡ length (optional_text value_text value)
unfolding optional_text
some_ballot-len value v is digests =
    let all = length-append (flag_text true) (v.base ++ v.root) in
    let both = length-append v.base v.root in
    let long : length (optional_text value_text (Some v)) ≡ 65 = omega (arith, all, both, length-flag_text true, digests.base.len, digests.root.len) in
    sym (ap (λ (o : Option Value). length (optional_text value_text o)) is ∙ long)

-- ---- the places of a list, entry by entry

pub own_first : {A : Type 0} (is_own : A → Bool) (size : A → ℕ) (len : ℕ) (text : List ℕ) (at : ℕ) (xs : List A) (x : A) (before : List SigningPlace)
    → 1 ≤ length xs → x ≡ get_or xs 0 x
    → (before ++ if_own (is_own x) (place_for (at + size x - len) text)) ++ own_places is_own size len text (at + size x) (take (length xs - 1) (drop 1 xs))
    ≡ before ++ own_places is_own size len text at xs
own_first is_own size len text at [] x before some is = absurd (omega (arith, some))
own_first {A} is_own size len text at (y ∷ ys) x before some is =
    let less : length (y ∷ ys) - 1 ≡ length ys = omega arith in
    let rest : take (length (y ∷ ys) - 1) (drop 1 (y ∷ ys)) ≡ ys = ap (λ n. take n ys) less ∙ take-length ys in
    let here : A → List SigningPlace = λ z. if_own (is_own z) (place_for (at + size z - len) text) in
    append_assoc before (here x) (own_places is_own size len text (at + size x) (take (length (y ∷ ys) - 1) (drop 1 (y ∷ ys))))
    ∙ ap (λ (l : List A). before ++ (here x ++ own_places is_own size len text (at + size x) l)) rest
    ∙ ap (λ (z : A). before ++ (here z ++ own_places is_own size len text (at + size z) ys)) is

-- the same where the entry's parts are given: its length, whether its signature is the log's own, its place and its text
pub own_step : {A : Type 0} (is_own : A → Bool) (size : A → ℕ) (len : ℕ) (text : List ℕ) (at : ℕ) (xs : List A) (x : A) (before : List SigningPlace)
    → (n : ℕ) (own : Bool) (place : ℕ) (signed : List ℕ) (mid after : List SigningPlace) → 1 ≤ length xs → x ≡ get_or xs 0 x
    → n ≡ size x → own ≡ is_own x → place ≡ at + n - len → signed ≡ text → mid ≡ before ++ if_own own (place_for place signed)
    → after ≡ mid ++ own_places is_own size len text (at + n) (take (length xs - 1) (drop 1 xs)) → after ≡ before ++ own_places is_own size len text at xs
own_step {A} is_own size len text at xs x before n own place signed mid after some is n-is own-is place-is signed-is mid-is after-is =
    let tail : List A = take (length xs - 1) (drop 1 xs) in
    after-is
    ∙ ap (λ (l : List SigningPlace). l ++ own_places is_own size len text (at + n) tail)
    (mid-is
    ∙ ap (λ (b : Bool). before ++ if_own b (place_for place signed)) own-is
    ∙ ap (λ (p : ℕ). before ++ if_own (is_own x) (place_for p signed)) place-is
    ∙ ap (λ (t : List ℕ). before ++ if_own (is_own x) (place_for (at + n - len) t)) signed-is)
    ∙ ap (λ (m : ℕ). (before ++ if_own (is_own x) (place_for (at + m - len) text)) ++ own_places is_own size len text (at + m) tail) n-is
    ∙ own_first is_own size len text at xs x before some is
