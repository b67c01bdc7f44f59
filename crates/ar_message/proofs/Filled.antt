-- What signing the blanks of messages does to their lengths and to how many they are, and in which order blanks may be signed.
use Rattle.std.proofs.Common.{◌≡◌, ℕ, ◌<◌, ◌∙◌, ap, sym, subst, refl, get_or, set, length, List, [], ◌∷◌, ◌++◌, Option, Some, None, ◌≤◌}
use Rattle.std.specs.Prelude.{slice_get}
use Rattle.std.proofs.lemmas.List.{get_or-map, length-map, length-set, map-set, set-get_or}
use Rattle.std.proofs.lemmas.Option.{slice_get_within}
use Rattle.lms_tree.specs.KeyParts.{KeyParts}
use Rattle.ar_message.specs.declared.unsigned.Blank.{Blank}
use Rattle.ar_message.specs.declared.unsigned.Unsigned.{Unsigned}
use Rattle.ar_message.specs.declared.sent.Sent.{Sent}
use Rattle.ar_message.specs.Sending.{Letter}
use Rattle.ar_message.specs.Filling.{lengths, signed, signed_at, signed_in, with_signature, filled}

abbrev pub length_of : Letter → ℕ
length_of l = length l.bytes

-- a message that is changed without a change of its length leaves all lengths
pub same_lengths : (letters : List Letter) (i whole : ℕ) (old new : Letter) → slice_get (lengths letters) i ≡ Some whole
    → old ≡ get_or letters i old → length new.bytes ≡ length old.bytes → lengths (set letters i new) ≡ lengths letters
same_lengths letters i whole old new named at len =
    let within : i < length letters = subst (λ n. i < n) (length-map letters length_of) (slice_get_within (lengths letters) i whole named) in
    let own : length old.bytes ≡ get_or (lengths letters) i (length old.bytes) =
    ap length_of at ∙ sym (get_or-map length_of letters i old (length old.bytes) within) in
    map-set length_of letters i new ∙ ap (set (lengths letters) i) (len ∙ own) ∙ set-get_or (lengths letters) i (length old.bytes)

-- the last blank may be signed first
pub last_first : (keys : List KeyParts) (front : List Blank) (blank : Blank) (letters : List Letter)
    → signed keys (front ++ blank ∷ []) letters ≡ signed keys front (signed_at keys blank letters)
unfolding signed
last_first keys [] blank letters = refl
last_first keys (b ∷ front) blank letters = ap (signed_at keys b) (last_first keys front blank letters)

-- without blanks all messages stay
pub none_left : (keys : List KeyParts) (blanks : List Blank) (letters : List Letter) → length blanks ≡ 0 → signed keys blanks letters ≡ letters
unfolding signed
none_left keys [] letters none = refl
none_left keys (b ∷ blanks) letters none = absurd cc

-- one blank leaves as many messages
one_count : (keys : List KeyParts) (blank : Blank) (letters : List Letter) → length (signed_at keys blank letters) ≡ length letters
one_count keys blank letters = by (slice_get letters blank.message)
  where
    by : (letter : Option Letter) → length (signed_in keys blank letters letter) ≡ length letters
    by (Some letter) = length-set letters blank.message (with_signature keys blank letter)
    by None = refl

-- and so do all
pub same_count : (keys : List KeyParts) (blanks : List Blank) (letters : List Letter) → length (signed keys blanks letters) ≡ length letters
unfolding signed
same_count keys [] letters = refl
same_count keys (blank ∷ blanks) letters = one_count keys blank (signed keys blanks letters) ∙ same_count keys blanks letters

-- as many messages are sent once they are signed
pub filled-few : (most : ℕ) (keys : List KeyParts) (unsigned : Unsigned) (sent : Sent) → length unsigned.sent.messages ≤ most → sent ≡ filled keys unsigned
    → length sent.messages ≤ most
filled-few most keys unsigned sent few is =
    let many : length (filled keys unsigned).messages ≡ length unsigned.sent.messages = same_count keys unsigned.blanks unsigned.sent.messages in
    subst (λ (s : Sent). length s.messages ≤ most) (sym is) (subst (λ n. n ≤ most) (sym many) few)
