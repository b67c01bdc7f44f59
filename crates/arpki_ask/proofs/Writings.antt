-- What is read for `sig` and for `check` is read from the lines that write it, and from no others.
use Rattle.std.proofs.Common.{◌≡◌, ℕ, zero, suc, Bool, true, false, if◌then◌else◌, List, [], ◌∷◌, ◌++◌, length, map, Option, Some, None, option_and_then, Ok, refl, sym, ap, ◌∙◌, append_assoc, codes}
use Rattle.std.specs.Fmt.{decimal}
use Rattle.hex.specs.Hex.{encode_lower}
use Rattle.lms_tree.specs.declared.public_key.LmsPublic.{LmsPublic}
use Rattle.party_keys.specs.Directory.{Directory, directory_with}
use Rattle.arpki_ask.specs.Inquiries.{Inquiry, authorities_at, confirmation_at, directory_at, first_keys_at, inquiry_at, key_in_line, keys_at, logs_at, name_at, number_at, learnt_of_hex, most_rolls, roll_at, rolls_at}
use Rattle.ar_lines.specs.Forms.{bytes_of_hex, key_of_hex, name_of, number_of}
use Rattle.ar_lines.specs.Lines.{lines_of}
use Rattle.script_text.specs.Forms.{party_count_of, quorum_of}
use Rattle.script_text.proofs.WordsWritten.{party_count_writes, quorum_writes}
use Rattle.ar_lines.specs.Readings.{LineCursor, no_line_at, spelled, start_of_lines, word_at}
use Rattle.ar_lines.specs.Rows.{field_at, is_next, no_row_at, two_fields_at, value_at}
use Rattle.ar_base.specs.Chaining.{◌>>=◌}
use Rattle.ar_base.proofs.Shown.{bind_ok, ok_is}
use Rattle.arpki_ask.specs.Notes.{learnt_from}
use Rattle.arpki_ask.specs.Questions.{Question, question_at}
use Rattle.ar_lines.specs.Written.{hex_of_key, named}
use Rattle.arpki_ask.specs.Written.{Asking, IsLearnt, inquiry_lines, key_line, learnt_from_all, roll_line, question_lines}
use Rattle.ar_lines.proofs.RowsWritten.{behind, field_is, hex_writes, no_line_is, no_row_is, spelled_some, two_fields_are, value_is, word_is}
use Rattle.ar_lines.proofs.Respelled.{key_hex_own, name_own, number_own}
use Rattle.script_text.specs.Written.{text_of_line}
use Rattle.script_text.specs.declared.line.Line.TheVariants.{Setup}
use Rattle.script_text.specs.declared.line.SetupLine.TheVariants.{Authorities, Logs}

-- ---- the question of `sig`

question_is : (at : LineCursor) (question : Question) → question_at at ≡ Ok question → at.ahead ≡ question_lines question
unfolding question_at
question_is at question h =
    let key = bind_ok (word_at key_of_hex at) _ question h in
    let message = bind_ok (word_at bytes_of_hex key.0.1) _ question key.2 in
    let signature = bind_ok (word_at bytes_of_hex message.0.1) _ question message.2 in
    let end = bind_ok (no_line_at signature.0.1) _ question signature.2 in
    let whole : Question = record { key = key.0.0; message = message.0.0; signature = signature.0.0 } in
    let none = no_line_is signature.0.1.next signature.0.1.ahead end.0 end.1 in
    let third = word_is bytes_of_hex encode_lower message.0.1 signature.0.1 signature.0.0 hex_writes signature.1 ∙ behind (encode_lower signature.0.0) none in
    let second = word_is bytes_of_hex encode_lower key.0.1 message.0.1 message.0.0 hex_writes message.1 ∙ behind (encode_lower message.0.0) third in
    let first = word_is key_of_hex hex_of_key at key.0.1 key.0.0 key_hex_own key.1 ∙ behind (hex_of_key key.0.0) second in
    first ∙ ap question_lines (ok_is whole question end.2)

pub question_alone : (input : List ℕ) (question : Question) → question_at (start_of_lines input) ≡ Ok question → lines_of input ≡ question_lines question
question_alone input question h = question_is (start_of_lines input) question h

-- ---- the inquiry of `check`

key_is : (at new : LineCursor) (key : LmsPublic) → key_in_line at ≡ Ok (key, new) → at.ahead ≡ key_line key ∷ new.ahead
key_is at new key h = value_is (codes "key") key_of_hex hex_of_key at new key key_hex_own h

name_is : (at new : LineCursor) (name : List ℕ) → name_at at ≡ Ok (name, new) → at.ahead ≡ named (codes "name") name ∷ new.ahead
name_is at new name h = value_is (codes "name") name_of (λ x. x) at new name name_own h

number_is : (name : List ℕ) (at new : LineCursor) (n : ℕ) → number_at name at ≡ Ok (n, new) → at.ahead ≡ named name (decimal n) ∷ new.ahead
number_is name at new n h = value_is name number_of decimal at new n number_own h

confirmation_is : (at new : LineCursor) (bytes : List ℕ) → confirmation_at at ≡ Ok (bytes, new) → at.ahead ≡ named (codes "confirmation") (encode_lower bytes) ∷ new.ahead
confirmation_is at new bytes h = value_is (codes "confirmation") bytes_of_hex encode_lower at new bytes hex_writes h

authorities_are : (at new : LineCursor) (count : ℕ) → authorities_at at ≡ Ok (count, new) → at.ahead ≡ text_of_line (Setup (Authorities count)) ∷ new.ahead
authorities_are at new count h = value_is (codes "authorities") party_count_of decimal at new count party_count_writes h

logs_are : (at new : LineCursor) (logs : ℕ × ℕ) → logs_at at ≡ Ok (logs, new) → at.ahead ≡ text_of_line (Setup (Logs logs.0 logs.1)) ∷ new.ahead
unfolding logs_at
logs_are at new logs h =
    let fields = bind_ok (two_fields_at (codes "logs") at) _ (logs, new) h in
    let one = fields.0.0.0 in
    let two = fields.0.0.1 in
    let count = bind_ok (spelled one (party_count_of one.text)) _ (logs, new) fields.2 in
    let quorum = bind_ok (spelled two (quorum_of count.0 two.text)) _ (logs, new) count.2 in
    let first = party_count_writes one.text count.0 (spelled_some one (party_count_of one.text) count.0 count.1) in
    let second = quorum_writes count.0 two.text quorum.0 (spelled_some two (quorum_of count.0 two.text) quorum.0 quorum.1) in
    two_fields_are (codes "logs") at fields.0.1 fields.0.0 fields.1
    ∙ ap (λ (t : List ℕ). named (codes "logs") (named t two.text) ∷ fields.0.1.ahead) (sym first)
    ∙ ap (λ (t : List ℕ). named (codes "logs") (named (decimal count.0) t) ∷ fields.0.1.ahead) (sym second)
    ∙ ap (λ (x : (ℕ × ℕ) × LineCursor). text_of_line (Setup (Logs x.0.0 x.0.1)) ∷ x.1.ahead) (ok_is ((count.0, quorum.0), fields.0.1) (logs, new) quorum.2)

keys_are : (count : ℕ) (at new : LineCursor) (keys : List LmsPublic) → keys_at count at ≡ Ok (keys, new) → (at.ahead ≡ map key_line keys ++ new.ahead) × (length keys ≡ count)
unfolding keys_at
keys_are zero at new keys h =
    let same = ok_is {A = List LmsPublic × LineCursor} ([], at) (keys, new) h in
    (ap (λ (x : List LmsPublic × LineCursor). map key_line x.0 ++ x.1.ahead) same, sym (ap (λ (x : List LmsPublic × LineCursor). length x.0) same))
keys_are (suc count) at new keys h =
    let key = bind_ok (key_in_line at) _ (keys, new) h in
    let others = bind_ok (keys_at count key.0.1) _ (keys, new) key.2 in
    let more = keys_are count key.0.1 others.0.1 others.0.0 others.1 in
    let same = ok_is (key.0.0 ∷ others.0.0, others.0.1) (keys, new) others.2 in (
      key_is at key.0.1 key.0.0 key.1 ∙ behind (key_line key.0.0) more.0
          ∙ ap (λ (x : List LmsPublic × LineCursor). map key_line x.0 ++ x.1.ahead) same,
      sym (ap (λ (x : List LmsPublic × LineCursor). length x.0) same) ∙ ap suc more.1,
    )

-- the lines of a directory of these keys, with these lines behind them
abbrev roster_lines : List LmsPublic → List LmsPublic → ℕ → List (List ℕ) → List (List ℕ)
roster_lines logs authorities quorum rest =
    text_of_line (Setup (Logs (length logs) quorum))
    ∷ (map key_line logs ++ (text_of_line (Setup (Authorities (length authorities))) ∷ map key_line authorities)) ++ rest

-- the lines of a directory, one part behind the other
directory_joined : (logs authorities : List LmsPublic) (quorum n m : ℕ) (whole log_keys behind_logs authority_keys rest : List (List ℕ)) → whole ≡ text_of_line (Setup (Logs n quorum)) ∷ log_keys → log_keys ≡ map key_line logs ++ behind_logs → length logs ≡ n → behind_logs ≡ text_of_line (Setup (Authorities m)) ∷ authority_keys → authority_keys ≡ map key_line authorities ++ rest → length authorities ≡ m → whole ≡ roster_lines logs authorities quorum rest
directory_joined logs authorities quorum n m whole log_keys behind_logs authority_keys rest a b e c d f =
    let parts = append_assoc (map key_line logs) (text_of_line (Setup (Authorities (length authorities))) ∷ map key_line authorities) rest in
    rw (a, b, c, d, parts, e, f) refl

-- a directory is read from the lines of its keys
record Rostered (keys : Directory) (whole rest : List (List ℕ)) : Type 0 where
  logs : List LmsPublic
  authorities : List LmsPublic
  quorum : ℕ
  is : directory_with logs authorities quorum ≡ keys
  lines : whole ≡ roster_lines logs authorities quorum rest

first_keys_are : (at new : LineCursor) (keys : Directory) → first_keys_at at ≡ Ok (keys, new) → Rostered keys at.ahead new.ahead
unfolding first_keys_at
first_keys_are at new keys h =
    let logs = bind_ok (logs_at at) _ (keys, new) h in
    let log_keys = bind_ok (keys_at logs.0.0.0 logs.0.1) _ (keys, new) logs.2 in
    let authorities = bind_ok (authorities_at log_keys.0.1) _ (keys, new) log_keys.2 in
    let authority_keys = bind_ok (keys_at authorities.0.0 authorities.0.1) _ (keys, new) authorities.2 in
    let whole : Directory = directory_with log_keys.0.0 authority_keys.0.0 logs.0.0.1 in
    let first = keys_are logs.0.0.0 logs.0.1 log_keys.0.1 log_keys.0.0 log_keys.1 in
    let second = keys_are authorities.0.0 authorities.0.1 authority_keys.0.1 authority_keys.0.0 authority_keys.1 in
    let counts = logs_are at logs.0.1 logs.0.0 logs.1 in
    let count = authorities_are log_keys.0.1 authorities.0.1 authorities.0.0 authorities.1 in
    let same = ok_is (whole, authority_keys.0.1) (keys, new) authority_keys.2 in
    record {
      logs = log_keys.0.0;
      authorities = authority_keys.0.0;
      quorum = logs.0.0.1;
      is = ap (λ (x : Directory × LineCursor). x.0) same;
      lines =
          directory_joined log_keys.0.0 authority_keys.0.0 logs.0.0.1 logs.0.0.0 authorities.0.0 _ _ _ _ _ counts first.0 first.1 count second.0 second.1
          ∙ ap (λ (x : Directory × LineCursor). roster_lines log_keys.0.0 authority_keys.0.0 logs.0.0.1 x.1.ahead) same;
    }

-- ---- what the directory learns

-- a line spells these bytes, and the directory learns from them
abbrev Spelled : Directory → Directory → List ℕ → Type 0
Spelled keys learnt word = (bytes : List ℕ) × (word ≡ encode_lower bytes) × (learnt_from keys bytes ≡ Some learnt)

spelled_bytes : (keys learnt : Directory) (word : List ℕ) → learnt_of_hex keys word ≡ Some learnt → Spelled keys learnt word
spelled_bytes keys learnt word e = by_bytes (bytes_of_hex word) refl e where
  by_bytes : (bytes : Option (List ℕ)) → bytes_of_hex word ≡ bytes → option_and_then (learnt_from keys) bytes ≡ Some learnt → Spelled keys learnt word
  by_bytes None same e = absurd cc
  by_bytes (Some bytes) same e = (bytes, sym (hex_writes word bytes same), e)

-- a directory learns from a line
record Rolled (keys learnt : Directory) (whole rest : List (List ℕ)) : Type 0 where
  bytes : List ℕ
  line : whole ≡ roll_line bytes ∷ rest
  learns : learnt_from keys bytes ≡ Some learnt

roll_is : (keys learnt : Directory) (at new : LineCursor) → roll_at keys at ≡ Ok (learnt, new) → Rolled keys learnt at.ahead new.ahead
unfolding value_at
roll_is keys learnt at new h =
    let field = bind_ok (field_at (codes "roll") at) _ (learnt, new) h in
    let value = bind_ok (spelled field.0.0 (learnt_of_hex keys field.0.0.text)) _ (learnt, new) field.2 in
    let same = ok_is (value.0, field.0.1) (learnt, new) value.2 in
    let word = spelled_bytes keys value.0 field.0.0.text (spelled_some field.0.0 (learnt_of_hex keys field.0.0.text) value.0 value.1) in
    record {
      bytes = word.0;
      line =
          field_is (codes "roll") at field.0.1 field.0.0 field.1
          ∙ ap (λ (t : List ℕ). named (codes "roll") t ∷ field.0.1.ahead) word.1
          ∙ ap (λ (x : Directory × LineCursor). roll_line word.0 ∷ x.1.ahead) same;
      learns = word.2 ∙ ap (λ (x : Directory × LineCursor). Some x.0) same;
    }

-- and from several
record RolledAll (keys last : Directory) (whole rest : List (List ℕ)) : Type 0 where
  rolls : List (List ℕ)
  lines : whole ≡ map roll_line rolls ++ rest
  learns : learnt_from_all keys rolls ≡ Some last

rolls_are : (most : ℕ) (keys last : Directory) (at new : LineCursor) → rolls_at most keys at ≡ Ok (last, new) → RolledAll keys last at.ahead new.ahead
unfolding rolls_at
rolls_are zero keys last at new h =
    let same = ok_is {A = Directory × LineCursor} (keys, at) (last, new) h in
    record { rolls = []; lines = ap (λ (x : Directory × LineCursor). x.1.ahead) same; learns = ap (λ (x : Directory × LineCursor). Some x.0) same }
rolls_are (suc most) keys last at new h = by_next (λ learnt behind e. rolls_are most learnt last behind new e) (is_next (codes "roll") at) h where
  by_next : ((learnt : Directory) (behind : LineCursor) → rolls_at most learnt behind ≡ Ok (last, new) → RolledAll learnt last behind.ahead new.ahead)
      → (b : Bool) → (if b then (roll_at keys at >>= λ learnt. rolls_at most learnt.0 learnt.1) else Ok (keys, at)) ≡ Ok (last, new) → RolledAll keys last at.ahead new.ahead
  by_next more false h =
      let same = ok_is {A = Directory × LineCursor} (keys, at) (last, new) h in
      record { rolls = []; lines = ap (λ (x : Directory × LineCursor). x.1.ahead) same; learns = ap (λ (x : Directory × LineCursor). Some x.0) same }
  by_next more true h =
      let first = bind_ok (roll_at keys at) _ (last, new) h in
      let rolled = roll_is keys first.0.0 at first.0.1 first.1 in
      let others = more first.0.0 first.0.1 first.2 in
      record {
        rolls = rolled.bytes ∷ others.rolls;
        lines = rolled.line ∙ behind (roll_line rolled.bytes) others.lines;
        learns = rw rolled.learns others.learns;
      }

-- ---- the inquiry

-- the inquiry is written so
abbrev pub IsWritten : Inquiry → List (List ℕ) → Type 0
IsWritten inquiry lines = (asking : Asking) × (IsLearnt asking × ((lines ≡ inquiry_lines asking) × (asking.inquiry ≡ inquiry)))

inquiry_is : (at : LineCursor) (inquiry : Inquiry) → inquiry_at at ≡ Ok inquiry → IsWritten inquiry at.ahead
unfolding inquiry_at directory_at
inquiry_is at inquiry h =
    let keys = bind_ok (directory_at at) _ inquiry h in
    let first_keys = bind_ok (first_keys_at at) _ keys.0 keys.1 in
    let name = bind_ok (name_at keys.0.1) _ inquiry keys.2 in
    let now = bind_ok (number_at (codes "now") name.0.1) _ inquiry name.2 in
    let age = bind_ok (number_at (codes "age") now.0.1) _ inquiry now.2 in
    let confirmation = bind_ok (confirmation_at age.0.1) _ inquiry age.2 in
    let end = bind_ok (no_row_at confirmation.0.1) _ inquiry confirmation.2 in
    let whole : Inquiry = record { asked = record { keys = keys.0.0; name = name.0.0; epoch = now.0.0; age = age.0.0 }; confirmation = confirmation.0.0 } in
    let none = no_row_is confirmation.0.1.next confirmation.0.1.ahead end.0 end.1 in
    let fourth = confirmation_is age.0.1 confirmation.0.1 confirmation.0.0 confirmation.1 ∙ behind (named (codes "confirmation") (encode_lower confirmation.0.0)) none in
    let third = number_is (codes "age") now.0.1 age.0.1 age.0.0 age.1 ∙ behind (named (codes "age") (decimal age.0.0)) fourth in
    let second = number_is (codes "now") name.0.1 now.0.1 now.0.0 now.1 ∙ behind (named (codes "now") (decimal now.0.0)) third in
    let first = name_is keys.0.1 name.0.1 name.0.0 name.1 ∙ behind (named (codes "name") name.0.0) second in
    let roster = first_keys_are at first_keys.0.1 first_keys.0.0 first_keys.1 in
    let rolled = rolls_are most_rolls first_keys.0.0 keys.0.0 first_keys.0.1 keys.0.1 first_keys.2 in
    let asking : Asking = record {
      logs = roster.logs;
      authorities = roster.authorities;
      quorum = roster.quorum;
      rolls = rolled.rolls;
      inquiry = whole;
    } in
    let learnt : IsLearnt asking = rw roster.is rolled.learns in
    let behind_keys = rolled.lines ∙ ap (λ (l : List (List ℕ)). map roll_line rolled.rolls ++ l) first in
    let lines : at.ahead ≡ inquiry_lines asking = roster.lines ∙ ap (λ (l : List (List ℕ)). roster_lines roster.logs roster.authorities roster.quorum l) behind_keys in
    (asking, (learnt, (lines, ok_is whole inquiry end.2)))

pub inquiry_alone : (input : List ℕ) (inquiry : Inquiry) → inquiry_at (start_of_lines input) ≡ Ok inquiry → IsWritten inquiry (lines_of input)
inquiry_alone input inquiry h = inquiry_is (start_of_lines input) inquiry h
