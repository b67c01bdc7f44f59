-- The entries that were written make the directory that learnt.
use Rattle.std.proofs.Common.{◌≡◌, ◌==◌, ℕ, zero, suc, ◌+◌, ◌<◌, nat_lt, Bool, true, false, if◌then◌else◌, List, [], ◌∷◌, ◌++◌, length, slice_get, Option, Some, None, Result, Ok, Err, All, refl, sym, ap, subst, ◌∙◌, arith}
use Rattle.std.proofs.lemmas.Bool.{and_parts, eqb-true, lt-ltb}
use Rattle.std.proofs.lemmas.Option.{same_Some, slice_get_within}
use Rattle.std.proofs.lemmas.List.Elements.{All-head, All-tail}
use Rattle.std.specs.Int.{w8, w32}
use Rattle.ar_base.specs.Bytes.{AreBytes}
use Rattle.ar_base.specs.Chaining.{◌>>=◌}
use Rattle.ar_bytes.specs.RoundTrip.{counted_text, number_text}
use Rattle.ar_statement.specs.Claims.{party, party_text, role_number, text_of}
use Rattle.ar_statement.specs.Ranges.{IsValid, is_witness}
use Rattle.ar_statement.specs.declared.party.Party.{Party}
use Rattle.ar_statement.specs.declared.party.Role.{Role}
use Rattle.ar_statement.specs.declared.party.Role.TheVariants.{LogServer, Authority, Owner, Client}
use Rattle.ar_message.specs.declared.message.Message.{Message}
use Rattle.ar_message.specs.declared.message.Message.TheVariants.{EndorseAsk, Endorsed, Submit, Propose, Ballot, StatusNote, Decision, SkipNote, ConfirmAsk, LogConfirmed, HalfConfirmed, Confirmation, RollNote}
use Rattle.ar_message.specs.Messages.{IsMessage, message_in, message_text, fields_text}
use Rattle.ar_message.proofs.MessageLaws.{only_messages}
use Rattle.client_rule.specs.Notes.{note_of}
use Rattle.lms_tree.specs.PublicKey.{key_text}
use Rattle.lms_tree.specs.declared.public_key.LmsPublic.{LmsPublic}
use Rattle.lms_tree.specs.declared.validity.Verdict.{Verdict}
use Rattle.lms_tree.specs.declared.validity.Verdict.TheVariants.{Valid, Invalid}
use Rattle.lms_tree.specs.Validity.{verdict_of}
use Rattle.lms_tree.proofs.KeyLemmas.{key_of_text-key_text, length-key_text}
use Rattle.party_keys.specs.Directory.{Directory, keys_of}
use Rattle.party_keys.specs.Learning.{Announced, after_adopting, learned, learned_if, learning, roll_claim, with_next}
use Rattle.party_keys.specs.Signatures.{answer_at, answer_by, answer_of, answer_under, behind_generation, generation_of, is_in_place, is_last_leaf, leaf_of, roll_in, verified}
use Rattle.party_keys.specs.declared.fault.VerifyFault.{VerifyFault}
use Rattle.party_keys.specs.declared.fault.LearnFault.{LearnFault}
use Rattle.party_keys.specs.declared.fault.LearnFault.TheVariants as learn_fault
use Rattle.party_keys.specs.declared.learning.Learned.{Learned}
use Rattle.party_keys.specs.declared.learning.Learned.TheVariants.{New, Again}
use Rattle.party_keys.proofs.Claims.{one_claim}
use Rattle.ar_council.proofs.Readable.{readable}
use Rattle.arpki_c.specs.Given.{directory_from, entry_party, with_each, with_entry}
use Rattle.arpki_c.specs.Keeping.{after_bytes, after_note, after_notes, keeping, keeping_all, keeping_from}
use Rattle.arpki_c.specs.Learning.{entry_of, learnt_lesson, lesson_on, lesson_told}
use Rattle.arpki_c.specs.declared.keys.Entry.{Entry}
use Rattle.arpki_c.specs.declared.keys.KeysFault.{KeysFault}

-- ---- bytes

bytes_front : (a b : List ℕ) → AreBytes (a ++ b) → AreBytes a
bytes_front [] b are i = omega arith
bytes_front (x ∷ a) b are zero = are zero
bytes_front (x ∷ a) b are (suc i) = bytes_front a b (λ j. are (suc j)) i

bytes_behind : (a b : List ℕ) → AreBytes (a ++ b) → AreBytes b
bytes_behind [] b are = are
bytes_behind (x ∷ a) b are = bytes_behind a b (λ j. are (suc j))

-- ---- what a note keeps by its form

-- the message of what was announced
abbrev message_of : Announced → Message
message_of a = RollNote a.party a.generation a.key a.signature

is_note : (r : Result Message ℕ) (a : Announced) → note_of r ≡ Some a → r ≡ Ok (message_of a)
is_note (Err place) a e = absurd cc
is_note (Ok (EndorseAsk owner cert)) a e = absurd cc
is_note (Ok (Endorsed owner authority certificate signature)) a e = absurd cc
is_note (Ok (Submit change)) a e = absurd cc
is_note (Ok (Propose log epoch base root changes signature)) a e = absurd cc
is_note (Ok (Ballot log epoch base root signature)) a e = absurd cc
is_note (Ok (StatusNote log epoch value signature)) a e = absurd cc
is_note (Ok (Decision epoch base root changes votes)) a e = absurd cc
is_note (Ok (SkipNote epoch statuses)) a e = absurd cc
is_note (Ok (ConfirmAsk client name first second)) a e = absurd cc
is_note (Ok (LogConfirmed part)) a e = absurd cc
is_note (Ok (HalfConfirmed part first_signature)) a e = absurd cc
is_note (Ok (Confirmation client epoch name root body log log_signature first first_signature second second_signature)) a e = absurd cc
is_note (Ok (RollNote party generation key signature)) a e =
    let made : Announced = record { party = party; generation = generation; key = key; signature = signature } in
    let same : made ≡ a = same_Some made a e in
    ap (λ (b : Announced). Ok (message_of b)) same

-- ---- what was verified

-- the Roll that a note announces may be signed
valid_claim : (a : Announced) → IsMessage (message_of a) → AreBytes (message_text (message_of a)) → IsValid (roll_claim a)
unfolding message_text fields_text
valid_claim a is are =
    let behind_kind = bytes_behind (number_text w8 13) (party_text a.party ++ (number_text w32 a.generation ++ (key_text a.key ++ counted_text a.signature))) are in
    let behind_party = bytes_behind (party_text a.party) (number_text w32 a.generation ++ (key_text a.key ++ counted_text a.signature)) behind_kind in
    let from_key = bytes_behind (number_text w32 a.generation) (key_text a.key ++ counted_text a.signature) behind_party in
    let key : AreBytes (key_text a.key) = bytes_front (key_text a.key) (counted_text a.signature) from_key in
    record {
      held = record { signer = is.0.1; fields = (is.1.0, record { len = length-key_text a.key is.1.1.0; bytes = key }) };
      ranges = rw (is.0.0, readable a.key is.1.1.0) refl;
    }

-- its text names the generation
names : (a : Announced) → IsValid (roll_claim a) → roll_in (text_of (roll_claim a)) ≡ Some a.generation
names a is = rw (one_claim (text_of (roll_claim a)) (roll_claim a) is refl) refl

-- it is verified by a key of just this generation
placed : (named g : ℕ) (last : Bool) → is_in_place (Some named) g last ≡ true → named ≡ g
placed named g last e = eqb-true named g (and_parts last (named == g) e).1

good : (v : Verdict) (p : Bool) → answer_of v p ≡ Ok tt → p ≡ true
good Valid true e = refl
good Valid false e = absurd cc
good (Invalid k) p e = absurd cc

-- a key stands there, and its generation is the one that is named
record IsKnown (known : Option LmsPublic) (named g : ℕ) : Type 0 where
  same : named ≡ g
  key : LmsPublic
  is : known ≡ Some key

by_key : (known : Option LmsPublic) (g : ℕ) (text signature : List ℕ) (named : ℕ) → roll_in text ≡ Some named → answer_by known g text signature ≡ Ok tt → IsKnown known named g
by_key None g text signature named r e = absurd cc
by_key (Some key) g text signature named r e =
    let last : Bool = is_last_leaf key (leaf_of signature) in
    let p : is_in_place (roll_in text) g last ≡ true = good (verdict_of key text signature) (is_in_place (roll_in text) g last) e in
    record { same = placed named g last (sym (ap (λ (o : Option ℕ). is_in_place o g last) r) ∙ p); key = key; is = refl }

at_generation : (front : Option ℕ) (keys : List LmsPublic) (text signature : List ℕ) (named : ℕ) → roll_in text ≡ Some named → answer_at front keys text signature ≡ Ok tt → named < length keys
at_generation None keys text signature named r e = absurd cc
at_generation (Some g) keys text signature named r e =
    let k = by_key (slice_get keys g) g text (behind_generation signature) named r e in
    omega (arith, k.same, slice_get_within keys g k.key k.is)

under_keys : (keys : List LmsPublic) (party : Party) (text signature : List ℕ) (named : ℕ) → roll_in text ≡ Some named → answer_under keys party text signature ≡ Ok tt → named < length keys
under_keys [] party text signature named r e = absurd cc
under_keys (first ∷ later) party text signature named r e = at_generation (generation_of signature) (first ∷ later) text signature named r e

was_verified : (v : Result (Unit {0}) VerifyFault) (known : Option LmsPublic) (key : LmsPublic) → learned_if v known key ≡ Ok New → v ≡ Ok tt
was_verified (Ok u) known key e = refl
was_verified (Err fault) known key e = absurd cc

-- where a key is new, the one before it is known
has_generation : (keys : Directory) (a : Announced) → IsValid (roll_claim a) → learned keys a ≡ Ok New → a.generation < length (keys_of keys a.party)
unfolding learned verified
has_generation keys a is e =
    let text : List ℕ = text_of (roll_claim a) in
    let fine = was_verified (verified keys a.party text a.signature) (slice_get (keys_of keys a.party) (a.generation + 1)) a.key e in
    under_keys (keys_of keys a.party) a.party text a.signature a.generation (names a is) fine

-- ---- entries

party_again : (a : Announced) → is_witness a.party.role ≡ true → entry_party (entry_of a) ≡ Some a.party
party_again a is = by a.party.role is where
  by : (role : Role) → is_witness role ≡ true
      → entry_party (record { generation = a.generation; number = a.party.number; role = role_number role; key = key_text a.key })
      ≡ Some (party role a.party.number)
  by LogServer e = refl
  by Authority e = refl
  by Owner e = absurd cc
  by Client e = absurd cc

-- the entry of a note has its party and its key
entry_again : (keys : Directory) (a : Announced) → IsMessage (message_of a) → with_entry keys (entry_of a) ≡ Ok (after_adopting keys a.party a.generation a.key)
entry_again keys a is = rw (party_again a is.0.0, key_of_text-key_text a.key is.1.1.0) refl

one_more : (keys : Directory) (entries : List Entry) (e : Entry) → with_each keys (entries ++ e ∷ []) ≡ (with_each keys entries >>= λ next. with_entry next e)
unfolding with_each
one_more keys [] e = by (with_entry keys e) where
  by : (r : Result Directory KeysFault) → (r >>= λ next. Ok next) ≡ r
  by (Ok next) = refl
  by (Err wrong) = refl
one_more keys (x ∷ entries) e = by (with_entry keys x) (λ next. one_more next entries e) where
  by : (r : Result Directory KeysFault)
      → ((next : Directory) → with_each next (entries ++ e ∷ []) ≡ (with_each next entries >>= λ last. with_entry last e))
      → (r >>= λ next. with_each next (entries ++ e ∷ [])) ≡ ((r >>= λ next. with_each next entries) >>= λ next. with_entry next e)
  by (Ok next) rest = rest next
  by (Err wrong) rest = refl

from_more : (first : Result Directory KeysFault) (entries : List Entry) (e : Entry) → directory_from first (entries ++ e ∷ []) ≡ (directory_from first entries >>= λ next. with_entry next e)
from_more (Ok keys) entries e = one_more keys entries e
from_more (Err wrong) entries e = refl

-- ---- notes

-- what was learnt of a note is what its entry makes
new_kept : (first : Result Directory KeysFault) (entries : List Entry) (keys : Directory) (note : List ℕ) (a : Announced) → AreBytes note → directory_from first entries ≡ Ok keys
    → note_of (message_in note) ≡ Some a → learned keys a ≡ Ok New
    → directory_from first (entries ++ entry_of a ∷ []) ≡ Ok (with_next keys a.party a.generation a.key)
new_kept first entries keys note a are made is e =
    let facts = (only_messages note (message_of a) are).0 (is_note (message_in note) a is) in
    let valid = valid_claim a facts.0 (subst (λ (bytes : List ℕ). AreBytes bytes) (sym facts.1.0) are) in
    let known : nat_lt a.generation (length (keys_of keys a.party)) ≡ true = lt-ltb a.generation (length (keys_of keys a.party)) (has_generation keys a valid e) in
    from_more first entries (entry_of a)
    ∙ ap (λ (d : Result Directory KeysFault). d >>= λ next. with_entry next (entry_of a)) made
    ∙ entry_again keys a facts.0
    ∙ ap (λ (b : Bool). Ok (if b then with_next keys a.party a.generation a.key else keys)) known

pub kept_one : (first : Result Directory KeysFault) (entries : List Entry) (keys : Directory) (note : List ℕ) → AreBytes note → directory_from first entries ≡ Ok keys
    → directory_from first (keeping_from first entries note) ≡ Ok (after_bytes keys note)
kept_one first entries keys note are made =
    ap (λ (d : Result Directory KeysFault). directory_from first (keeping entries (lesson_told d note))) made ∙ on (note_of (message_in note)) refl
  where
    answered : (a : Announced) (answer : Result Learned LearnFault) → learned keys a ≡ answer → note_of (message_in note) ≡ Some a
        → directory_from first (keeping entries (learnt_lesson answer a)) ≡ Ok (learning answer keys a)
    answered a (Ok New) e is = new_kept first entries keys note a are made is e
    answered a (Ok Again) e is = made
    answered a (Err learn_fault.Unknown) e is = made
    answered a (Err (learn_fault.Bad test)) e is = made
    answered a (Err learn_fault.Other) e is = made
    answered a (Err learn_fault.Memory) e is = made

    on : (o : Option Announced) → note_of (message_in note) ≡ o → directory_from first (keeping entries (lesson_on keys o)) ≡ Ok (after_note keys o)
    on None e = made
    on (Some a) e = answered a (learned keys a) refl e

pub kept_all : (first : Result Directory KeysFault) (entries : List Entry) (keys : Directory) (notes : List (List ℕ)) → All AreBytes notes → directory_from first entries ≡ Ok keys
    → directory_from first (keeping_all first entries notes) ≡ Ok (after_notes keys notes)
unfolding keeping_all after_notes
kept_all first entries keys [] are made = made
kept_all first entries keys (note ∷ notes) are made =
    kept_all first (keeping_from first entries note) (after_bytes keys note) notes (All-tail AreBytes note notes are)
    (kept_one first entries keys note (All-head AreBytes note notes are) made)
