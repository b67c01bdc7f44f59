-- What is written for `sig` and for `check` is read as just that.
use Rattle.std.proofs.Common.{◌≡◌, ℕ, zero, suc, ◌+◌, ◌*◌, ◌<◌, ◌≤◌, ◌^◌, true, false, List, [], ◌∷◌, ◌++◌, length, map, Option, Some, None, option_and_then, Ok, refl, ap, ◌∙◌, All, codes, append_assoc, le-leb, lt-ltb, arith}
use Rattle.std.specs.Fmt.{decimal}
use Rattle.std.specs.List.{list_all}
use Rattle.std.proofs.lemmas.List.Folds.{list_all-append}
use Rattle.hex.specs.Hex.{IsBytes, encode_lower}
use Rattle.std.proofs.lemmas.List.Elements.{All-head, All-tail}
use Rattle.std.proofs.lemmas.Option.{same_Some}
use Rattle.ar_names.specs.Names.{IsName}
use Rattle.party_keys.specs.Directory.{Directory, IsDirectory, is_party_count, is_quorum}
use Rattle.party_keys.proofs.Bounds.{length_first}
use Rattle.lms_tree.specs.declared.public_key.LmsPublic.{LmsPublic}
use Rattle.ar_lines.specs.Forms.{bytes_of_hex, key_of_hex, name_of, number_of}
use Rattle.ar_lines.specs.Lines.{is_text}
use Rattle.arpki_ask.specs.Inquiries.{authorities_at, confirmation_at, directory_at, first_keys_at, inquiry_at, key_in_line, keys_at, logs_at, name_at, number_at, learnt_of_hex, most_rolls, roll_at, rolls_at}
use Rattle.ar_lines.specs.Readings.{start_of_lines}
use Rattle.script_text.specs.Forms.{party_count_of, quorum_of}
use Rattle.ar_lines.specs.Rows.{is_next}
use Rattle.arpki_ask.specs.Notes.{learnt_from}
use Rattle.arpki_ask.specs.Questions.{Question, question_at}
use Rattle.ar_lines.specs.Written.{IsKey, hex_of_key}
use Rattle.arpki_ask.specs.Written.{Asking, IsAsking, IsQuestion, first_directory, learnt_from_all, roll_line, asked_lines, directory_lines, inquiry_lines, inquiry_text, key_line, question_lines, question_text}
use Rattle.ar_lines.proofs.Spelled.{bytes_of_hex-encode, decimal_is_word, hex_is_word, key_is_word, key_of_hex-key, name_is_word, name_of-name, number_of-decimal}
use Rattle.ar_lines.proofs.TextLaws.{is_word, words_of-first, text_joined, word_is_text}
use Rattle.ar_lines.proofs.RowsRead.{before, named_is_text, start_of-text, two_fields_read, value_reads, word_reads}
use Rattle.script_text.specs.Written.{text_of_line}
use Rattle.script_text.specs.declared.line.Line.TheVariants.{Setup}
use Rattle.script_text.specs.declared.line.SetupLine.TheVariants.{Authorities, Logs}

-- ---- the question of `sig`

lines_are_text : (question : Question) → IsQuestion question → list_all is_text (question_lines question) ≡ true
lines_are_text question h =
    let key = word_is_text (hex_of_key question.key) (key_is_word question.key h.key) in
    let message = word_is_text (encode_lower question.message) (hex_is_word question.message h.message) in
    let signature = word_is_text (encode_lower question.signature) (hex_is_word question.signature h.signature) in
    rw (key, message, signature) refl

pub question_reads : (question : Question) → IsQuestion question → question_at (start_of_lines (question_text question)) ≡ Ok question
unfolding question_at
question_reads question h =
    let message = encode_lower question.message in
    let signature = encode_lower question.signature in
    let key = word_reads key_of_hex 1 (hex_of_key question.key) (message ∷ signature ∷ []) question.key (key_of_hex-key question.key h.key) in
    let second = word_reads bytes_of_hex 2 message (signature ∷ []) question.message (bytes_of_hex-encode question.message h.message) in
    let third = word_reads bytes_of_hex 3 signature [] question.signature (bytes_of_hex-encode question.signature h.signature) in
    ap question_at (start_of-text (question_lines question) (lines_are_text question h))
    ∙ rw (key, second, third) refl

-- ---- the inquiry of `check`

key_reads : (key : LmsPublic) (next : ℕ) (ahead : List (List ℕ)) → IsKey key → key_in_line (before next (key_line key ∷ ahead)) ≡ Ok (key, before (next + 1) ahead)
key_reads key next ahead h = value_reads (codes "key") (hex_of_key key) key_of_hex key next ahead refl (key_is_word key h) (key_of_hex-key key h)

keys_read : (keys : List LmsPublic) (next : ℕ) (ahead : List (List ℕ)) → All IsKey keys → keys_at (length keys) (before next (map key_line keys ++ ahead)) ≡ Ok (keys, before (next + length keys) ahead)
unfolding keys_at
keys_read [] next ahead h = let same : next + length {A = LmsPublic} [] ≡ next = omega arith in rw same refl
keys_read (key ∷ keys) next ahead h =
    let first = key_reads key next (map key_line keys ++ ahead) (All-head IsKey key keys h) in
    let others = keys_read keys (next + 1) ahead (All-tail IsKey key keys h) in
    let behind : next + 1 + length keys ≡ next + suc (length keys) = omega arith in
    rw (first, others, behind) refl

logs_read : (count quorum next : ℕ) (ahead : List (List ℕ)) → is_party_count count ≡ true → is_quorum quorum count ≡ true → count < 2 ^ 64 → quorum < 2 ^ 64 → logs_at (before next (text_of_line (Setup (Logs count quorum)) ∷ ahead)) ≡ Ok ((count, quorum), before (next + 1) ahead)
unfolding logs_at party_count_of quorum_of
logs_read count quorum next ahead c q n m =
    rw (two_fields_read (codes "logs") (decimal count) (decimal quorum) next ahead refl (decimal_is_word count n) (decimal_is_word quorum m), number_of-decimal count n, c, number_of-decimal quorum m, q) refl

count_spelled : (count : ℕ) → is_party_count count ≡ true → count < 2 ^ 64 → party_count_of (decimal count) ≡ Some count
unfolding party_count_of
count_spelled count c n = rw (number_of-decimal count n, c) refl

authorities_read : (count next : ℕ) (ahead : List (List ℕ)) → is_party_count count ≡ true → count < 2 ^ 64 → authorities_at (before next (text_of_line (Setup (Authorities count)) ∷ ahead)) ≡ Ok (count, before (next + 1) ahead)
authorities_read count next ahead c n = value_reads (codes "authorities") (decimal count) party_count_of count next ahead refl (decimal_is_word count n) (count_spelled count c n)

name_reads : (name : List ℕ) (next : ℕ) (ahead : List (List ℕ)) → IsName name → name_at (before next ((codes "name " ++ name) ∷ ahead)) ≡ Ok (name, before (next + 1) ahead)
name_reads name next ahead h = value_reads (codes "name") name name_of name next ahead refl (name_is_word name h) (name_of-name name h)

number_reads : (name : List ℕ) (n next : ℕ) (ahead : List (List ℕ)) → is_word name ≡ true → n < 2 ^ 64 → number_at name (before next ((name ++ (32 ∷ decimal n)) ∷ ahead)) ≡ Ok (n, before (next + 1) ahead)
number_reads name n next ahead w h = value_reads name (decimal n) number_of n next ahead w (decimal_is_word n h) (number_of-decimal n h)

confirmation_reads : (bytes : List ℕ) (next : ℕ) (ahead : List (List ℕ)) → IsBytes bytes → confirmation_at (before next ((codes "confirmation " ++ encode_lower bytes) ∷ ahead)) ≡ Ok (bytes, before (next + 1) ahead)
confirmation_reads bytes next ahead h = value_reads (codes "confirmation") (encode_lower bytes) bytes_of_hex bytes next ahead refl (hex_is_word bytes h) (bytes_of_hex-encode bytes h)

-- the tests of the bounds that a directory keeps
party_count : (n : ℕ) → 3 ≤ n → n ≤ 16 → is_party_count n ≡ true
party_count n least most = rw (le-leb 3 n least, le-leb n 16 most) refl

quorum_test : (q n : ℕ) → n + 2 < 2 * q → q ≤ n → is_quorum q n ≡ true
quorum_test q n least most = rw (lt-ltb (n + 2) (2 * q) least, le-leb q n most) refl

-- the bounds that are kept
record HasBounds (asking : Asking) : Type 0 where
  logs_least : 3 ≤ length asking.logs
  logs_most : length asking.logs ≤ 16
  authorities_least : 3 ≤ length asking.authorities
  authorities_most : length asking.authorities ≤ 16
  quorum_least : length asking.logs + 2 < 2 * asking.quorum
  quorum_most : asking.quorum ≤ length asking.logs

bounds : (asking : Asking) → IsDirectory (first_directory asking) → HasBounds asking
bounds asking d =
    let logs = length_first asking.logs in
    let authorities = length_first asking.authorities in
    record {
      logs_least = omega (arith, d.logs_least, logs);
      logs_most = omega (arith, d.logs_most, logs);
      authorities_least = omega (arith, d.authorities_least, authorities);
      authorities_most = omega (arith, d.authorities_most, authorities);
      quorum_least = omega (arith, d.quorum_least, logs);
      quorum_most = omega (arith, d.quorum_most, logs);
    }

-- where the lines of a directory end
abbrev behind_directory : Asking → ℕ
behind_directory asking = 1 + 1 + length asking.logs + 1 + length asking.authorities

directory_reads : (asking : Asking) (ahead : List (List ℕ)) → HasBounds asking → All IsKey asking.logs → All IsKey asking.authorities → first_keys_at (before 1 (directory_lines asking ++ ahead)) ≡ Ok (first_directory asking, before (behind_directory asking) ahead)
unfolding first_keys_at
directory_reads asking ahead d l a =
    let authority_lines = map key_line asking.authorities ++ ahead in
    let behind = text_of_line (Setup (Authorities (length asking.authorities))) ∷ authority_lines in
    let joined : map key_line asking.logs ++ (text_of_line (Setup (Authorities (length asking.authorities))) ∷ map key_line asking.authorities) ++ ahead ≡ map key_line asking.logs ++ behind = append_assoc (map key_line asking.logs) (text_of_line (Setup (Authorities (length asking.authorities))) ∷ map key_line asking.authorities) ahead in
    let logs = logs_read (length asking.logs) asking.quorum 1 (map key_line asking.logs ++ behind) (party_count _ d.logs_least d.logs_most) (quorum_test _ _ d.quorum_least d.quorum_most) (omega (arith, d.logs_most)) (omega (arith, d.logs_most, d.quorum_most)) in
    let log_keys = keys_read asking.logs (1 + 1) behind l in
    let authorities = authorities_read (length asking.authorities) (1 + 1 + length asking.logs) authority_lines (party_count _ d.authorities_least d.authorities_most) (omega (arith, d.authorities_most)) in
    let authority_keys = keys_read asking.authorities (1 + 1 + length asking.logs + 1) ahead a in
    rw (joined, logs, log_keys, authorities, authority_keys) refl

key_lines_are_text : (keys : List LmsPublic) → All IsKey keys → list_all is_text (map key_line keys) ≡ true
key_lines_are_text [] h = refl
key_lines_are_text (key ∷ keys) h =
    let first : is_text (key_line key) ≡ true = named_is_text (codes "key") (hex_of_key key) refl (key_is_word key (All-head IsKey key keys h)) in
    rw first (key_lines_are_text keys (All-tail IsKey key keys h))

directory_is_text : (asking : Asking) → HasBounds asking → All IsKey asking.logs → All IsKey asking.authorities → list_all is_text (directory_lines asking) ≡ true
directory_is_text asking d l a =
    let count = decimal_is_word (length asking.logs) (omega (arith, d.logs_most)) in
    let quorum = decimal_is_word asking.quorum (omega (arith, d.logs_most, d.quorum_most)) in
    let both = named_is_text (decimal (length asking.logs)) (decimal asking.quorum) count quorum in
    let logs : is_text (text_of_line (Setup (Logs (length asking.logs) asking.quorum))) ≡ true = text_joined (codes "logs") (decimal (length asking.logs) ++ (32 ∷ decimal asking.quorum)) refl both in
    let authorities : is_text (text_of_line (Setup (Authorities (length asking.authorities)))) ≡ true = named_is_text (codes "authorities") (decimal (length asking.authorities)) refl (decimal_is_word (length asking.authorities) (omega (arith, d.authorities_most))) in
    let parts = list_all-append is_text (map key_line asking.logs) (text_of_line (Setup (Authorities (length asking.authorities))) ∷ map key_line asking.authorities) in
    rw (logs, parts, key_lines_are_text asking.logs l, authorities, key_lines_are_text asking.authorities a) refl

asked_are_text : (asking : Asking) → IsAsking asking → list_all is_text (asked_lines asking.inquiry) ≡ true
asked_are_text asking h =
    let name : is_text (codes "name " ++ asking.inquiry.asked.name) ≡ true = named_is_text (codes "name") asking.inquiry.asked.name refl (name_is_word asking.inquiry.asked.name h.name) in
    let now : is_text (codes "now " ++ decimal asking.inquiry.asked.epoch) ≡ true = named_is_text (codes "now") (decimal asking.inquiry.asked.epoch) refl (decimal_is_word asking.inquiry.asked.epoch h.now) in
    let age : is_text (codes "age " ++ decimal asking.inquiry.asked.age) ≡ true = named_is_text (codes "age") (decimal asking.inquiry.asked.age) refl (decimal_is_word asking.inquiry.asked.age h.age) in
    let confirmation : is_text (codes "confirmation " ++ encode_lower asking.inquiry.confirmation) ≡ true = named_is_text (codes "confirmation") (encode_lower asking.inquiry.confirmation) refl (hex_is_word asking.inquiry.confirmation h.confirmation) in
    rw (name, now, age, confirmation) refl

-- ---- what the directory learns

roll_reads : (bytes : List ℕ) (keys learnt : Directory) (next : ℕ) (ahead : List (List ℕ)) → IsBytes bytes → learnt_from keys bytes ≡ Some learnt → roll_at keys (before next (roll_line bytes ∷ ahead)) ≡ Ok (learnt, before (next + 1) ahead)
roll_reads bytes keys learnt next ahead h e =
    value_reads (codes "roll") (encode_lower bytes) (learnt_of_hex keys) learnt next ahead refl (hex_is_word bytes h) (rw (bytes_of_hex-encode bytes h) e)

next_is_roll : (bytes : List ℕ) (next : ℕ) (ahead : List (List ℕ)) → is_next (codes "roll") (before next (roll_line bytes ∷ ahead)) ≡ true
next_is_roll bytes next ahead = rw (words_of-first (codes "roll") (encode_lower bytes) refl) refl

next_is_name : (name : List ℕ) (next : ℕ) (ahead : List (List ℕ)) → is_next (codes "roll") (before next ((codes "name " ++ name) ∷ ahead)) ≡ false
next_is_name name next ahead = rw (words_of-first (codes "name") name refl) refl

-- the lines of these RollNotes, with a line of a name behind them
abbrev rolls_before : List (List ℕ) → List ℕ → List (List ℕ) → List (List ℕ)
rolls_before rolls name ahead = map roll_line rolls ++ ((codes "name " ++ name) ∷ ahead)

rolls_read : (most : ℕ) (keys last : Directory) (rolls : List (List ℕ)) (next : ℕ) (name : List ℕ) (ahead : List (List ℕ)) → length rolls ≤ most → All IsBytes rolls → learnt_from_all keys rolls ≡ Some last
    → rolls_at most keys (before next (rolls_before rolls name ahead)) ≡ Ok (last, before (next + length rolls) ((codes "name " ++ name) ∷ ahead))
unfolding rolls_at
rolls_read zero keys last [] next name ahead few h learnt =
    let same : next + length {A = List ℕ} [] ≡ next = omega arith in rw (same, same_Some keys last learnt) refl
rolls_read (suc most) keys last [] next name ahead few h learnt =
    let same : next + length {A = List ℕ} [] ≡ next = omega arith in rw (same, next_is_name name next ahead, same_Some keys last learnt) refl
rolls_read zero keys last (note ∷ rolls) next name ahead few h learnt = absurd (omega (arith, few))
rolls_read (suc most) keys last (note ∷ rolls) next name ahead few h learnt =
    by_note (λ known all. rolls_read most known last rolls (next + 1) name ahead (omega (arith, few)) (All-tail IsBytes note rolls h) all) (learnt_from keys note) refl learnt where
      by_note : ((known : Directory) → learnt_from_all known rolls ≡ Some last → rolls_at most known (before (next + 1) (rolls_before rolls name ahead)) ≡ Ok (last, before (next + 1 + length rolls) ((codes "name " ++ name) ∷ ahead)))
          → (known : Option Directory) → learnt_from keys note ≡ known → option_and_then (λ learnt. learnt_from_all learnt rolls) known ≡ Some last
          → rolls_at (suc most) keys (before next (rolls_before (note ∷ rolls) name ahead)) ≡ Ok (last, before (next + suc (length rolls)) ((codes "name " ++ name) ∷ ahead))
      by_note others_read None e all = absurd cc
      by_note others_read (Some known) e all =
          let first = roll_reads note keys known next (rolls_before rolls name ahead) (All-head IsBytes note rolls h) e in
          let others = others_read known all in
          let behind : next + 1 + length rolls ≡ next + suc (length rolls) = omega arith in
          rw (next_is_roll note next (rolls_before rolls name ahead), first, others, behind) refl

roll_lines_are_text : (rolls : List (List ℕ)) → All IsBytes rolls → list_all is_text (map roll_line rolls) ≡ true
roll_lines_are_text [] h = refl
roll_lines_are_text (note ∷ rolls) h =
    let first : is_text (roll_line note) ≡ true = named_is_text (codes "roll") (encode_lower note) refl (hex_is_word note (All-head IsBytes note rolls h)) in
    rw first (roll_lines_are_text rolls (All-tail IsBytes note rolls h))

inquiry_is_text : (asking : Asking) → IsAsking asking → list_all is_text (inquiry_lines asking) ≡ true
inquiry_is_text asking h =
    list_all-append is_text (directory_lines asking) (map roll_line asking.rolls ++ asked_lines asking.inquiry)
    ∙ rw (directory_is_text asking (bounds asking h.directory) h.logs h.authorities, list_all-append is_text (map roll_line asking.rolls) (asked_lines asking.inquiry), roll_lines_are_text asking.rolls h.rolls, asked_are_text asking h) refl

pub inquiry_reads : (asking : Asking) → IsAsking asking → inquiry_at (start_of_lines (inquiry_text asking)) ≡ Ok asking.inquiry
unfolding inquiry_at directory_at
inquiry_reads asking h =
    let start = behind_directory asking in
    let next = start + length asking.rolls in
    let confirmation_line = codes "confirmation " ++ encode_lower asking.inquiry.confirmation in
    let age_line = codes "age " ++ decimal asking.inquiry.asked.age in
    let now_line = codes "now " ++ decimal asking.inquiry.asked.epoch in
    let behind_name = now_line ∷ age_line ∷ confirmation_line ∷ [] in
    let first = directory_reads asking (map roll_line asking.rolls ++ asked_lines asking.inquiry) (bounds asking h.directory) h.logs h.authorities in
    let rolls = rolls_read most_rolls (first_directory asking) asking.inquiry.asked.keys asking.rolls start asking.inquiry.asked.name behind_name h.few_rolls h.rolls h.learnt in
    let name = name_reads asking.inquiry.asked.name next behind_name h.name in
    let now = number_reads (codes "now") asking.inquiry.asked.epoch (next + 1) (age_line ∷ confirmation_line ∷ []) refl h.now in
    let age = number_reads (codes "age") asking.inquiry.asked.age (next + 1 + 1) (confirmation_line ∷ []) refl h.age in
    let confirmation = confirmation_reads asking.inquiry.confirmation (next + 1 + 1 + 1) [] h.confirmation in
    ap inquiry_at (start_of-text (inquiry_lines asking) (inquiry_is_text asking h))
    ∙ rw (first, rolls, name, now, age, confirmation) refl
