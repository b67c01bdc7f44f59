-- Lessons are asked by the lines that write them, and by no others.
use Rattle.std.proofs.Common.{◌≡◌, ◌⊎◌, inl, inr, ◌<◌, ◌^◌, ℕ, Bool, true, false, cond, List, [], ◌∷◌, length, Option, Some, None, Result, Ok, Err, refl, sym, ap, ◌∙◌, arith}
use Rattle.std.specs.Prelude.{codes}
use Rattle.std.specs.List.{join_with_byte}
use Rattle.std.specs.Option.{ok_or}
use Rattle.std.specs.Result.{result_map_both}
use Rattle.std.specs.Str.{bytes_eq}
use Rattle.std.proofs.lemmas.Bool.{eqb-true, eq-eqb}
use Rattle.std.proofs.lemmas.List.Splits.{join_with_byte-slice_split}
use Rattle.std.proofs.lemmas.Slice.Eq.{bytes_eq-Decides}
use Rattle.hex.specs.Hex.{IsBytes, encode_lower}
use Rattle.ar_base.specs.Chaining.{◌>>=◌}
use Rattle.ar_base.proofs.Shown.{bind_ok, ok_is}
use Rattle.ar_lines.specs.Forms.{name_of, sized_of_hex}
use Rattle.ar_lines.specs.Lines.{is_text, parts_of, words_of}
use Rattle.ar_lines.specs.Parties.{member_word, party_word}
use Rattle.ar_lines.specs.Written.{WritesBack}
use Rattle.ar_lines.specs.declared.refusal.Reason.{Reason}
use Rattle.ar_lines.specs.declared.refusal.Reason.TheVariants.{Field}
use Rattle.ar_lines.proofs.Respelled.{sized_writes}
use Rattle.ar_lines.proofs.Spelled.{bytes_of_hex-encode, decimal_is_word, hex_is_word, name_is_word, name_of-name}
use Rattle.ar_lines.proofs.PartyWords.{party_is_read}
use Rattle.ar_lines.proofs.TextLaws.{is_word, text_joined, word_is_text, words_of-first, words_of-last}
use Rattle.ar_statement.specs.Claims.{authority_party, is_party}
use Rattle.ar_statement.specs.declared.party.Party.{Party}
use Rattle.ar_statement.specs.declared.party.Role.TheVariants as role
use Rattle.script_text.specs.Forms.{number_with}
use Rattle.script_text.specs.Grammar.{Form, three_words}
use Rattle.script_text.specs.Rows.{authority_of}
use Rattle.script_text.specs.declared.line.EventLine.{EventLine}
use Rattle.script_text.specs.declared.line.EventLine.TheVariants as events
use Rattle.script_text.proofs.WordsWritten.{member_writes, name_writes}
use Rattle.party_desk.specs.Asking.{LessonWords, Wanted, wants, authority_asked, by_words, for_own, heard_in, lesson_fields, of_form, order_for_authority, own_lesson, to_forget, to_learn, wanted_by}
use Rattle.party_desk.specs.Written.{IsLesson, lesson_text}
use Rattle.authority_keeper.specs.declared.order.AuthorityOrder.{AuthorityOrder}
use Rattle.authority_keeper.specs.declared.order.AuthorityOrder.TheVariants as orders
use Rattle.party_desk.specs.declared.unread.Cause.{Cause}
use Rattle.party_desk.specs.declared.unread.Cause.TheVariants as cause
use Rattle.party_desk.specs.declared.reading.Heard.{Heard}
use Rattle.party_desk.specs.declared.reading.Heard.TheVariants as heard

-- ---- a lesson that is written is read

-- the words of a lesson, behind its first
abbrev lesson_words : LessonWords → List (List ℕ)
lesson_words said = party_word (authority_party said.authority) ∷ said.name ∷ encode_lower said.key ∷ []

sized_again : (bytes : List ℕ) → IsBytes bytes → length bytes ≡ 56 → sized_of_hex 56 (encode_lower bytes) ≡ Some bytes
unfolding sized_of_hex
sized_again bytes h len = rw (bytes_of_hex-encode bytes h, len) refl

authority_again : (number : ℕ) → number < 2 ^ 16 → authority_of (party_word (authority_party number)) ≡ Some number
unfolding number_with
authority_again number h = rw (party_is_read (authority_party number) h) refl

-- its fields are those that it says
fields_again : (said : LessonWords) → IsLesson said → lesson_fields (lesson_words said) ≡ Ok said
fields_again said h = rw (authority_again said.authority h.authority, name_of-name said.name h.name, sized_again said.key h.key h.key_len) refl

own_again : (number : ℕ) → is_party (authority_party number) (authority_party number) ≡ true
own_again number = rw (eq-eqb number number refl) refl

pub lesson_again : (said : LessonWords) → IsLesson said → own_lesson said.authority (lesson_words said) ≡ Ok said
lesson_again said h = rw (fields_again said h, own_again said.authority) refl

-- a party's word is one
party_is_word : (number : ℕ) → number < 2 ^ 16 → is_word (party_word (authority_party number)) ≡ true
party_is_word number h = decimal_is_word number (omega (arith, h))

-- a line of a lesson is text, of its words
pub line_words : (word : List ℕ) (said : LessonWords) → is_word word ≡ true → IsLesson said → (is_text (lesson_text word said) ≡ true) × (words_of (lesson_text word said) ≡ word ∷ lesson_words said)
line_words word said w h =
    let party = party_word (authority_party said.authority) in
    let p = party_is_word said.authority h.authority in
    let n = name_is_word said.name h.name in
    let k = hex_is_word said.key h.key in
    let key = encode_lower said.key in
    let back = text_joined said.name key (word_is_text said.name n) (word_is_text key k) in
    let more = text_joined party _ (word_is_text party p) back in (
      text_joined word _ (word_is_text word w) more,
      words_of-first word _ w
          ∙ ap (λ ws. word ∷ ws) (words_of-first party _ p
          ∙ ap (λ ws. party ∷ ws) (words_of-first said.name key n ∙ ap (λ ws. said.name ∷ ws) (words_of-last key k))),
    )

pub taught : (said : LessonWords) → IsLesson said → authority_asked said.authority (lesson_text (codes "teach") said) ≡ Ok (Some (to_learn said))
taught said h =
    let line = line_words (codes "teach") said refl h in
    rw (line.0, line.1, lesson_again said h) refl

pub forgotten : (said : LessonWords) → IsLesson said → authority_asked said.authority (lesson_text (codes "forget") said) ≡ Ok (Some (to_forget said))
forgotten said h =
    let line = line_words (codes "forget") said refl h in
    rw (line.0, line.1, lesson_again said h) refl

-- ---- a lesson that is read is written so

-- a word of a form that was read is what is written of its value
field : {A B : Type 0} (form : Form A) (write : A → List ℕ) (word : List ℕ) (k : ℕ) (f : A → Result B Reason) (y : B) → WritesBack form write → (ok_or (form word) (Field k) >>= f) ≡ Ok y → (x : A) × (write x ≡ word) × (f x ≡ Ok y)
field {A = A} {B = B} form write word k f y writes h = by (form word) refl h
  where
    by : (o : Option A) → form word ≡ o → (ok_or o (Field k) >>= f) ≡ Ok y → (x : A) × (write x ≡ word) × (f x ≡ Ok y)
    by (Some x) is h = (x, writes word x is, h)
    by None is h = absurd cc

three_are : (ws : List (List ℕ)) (x : List ℕ × List ℕ × List ℕ) → three_words ws ≡ Ok x → ws ≡ x.0 ∷ x.1 ∷ x.2 ∷ []
three_are (a ∷ b ∷ c ∷ []) x h = ap (λ (w : List ℕ × List ℕ × List ℕ). w.0 ∷ w.1 ∷ w.2 ∷ []) (ok_is (a, b, c) x h)
three_are [] x h = absurd cc
three_are (a ∷ []) x h = absurd cc
three_are (a ∷ b ∷ []) x h = absurd cc
three_are (a ∷ b ∷ c ∷ d ∷ more) x h = absurd cc

-- the words that are read as a lesson are those of it
fields_are : (ws : List (List ℕ)) (said : LessonWords) → lesson_fields ws ≡ Ok said → ws ≡ lesson_words said
fields_are ws said h =
    let all = bind_ok (three_words ws) _ said h in
    let a = field authority_of (member_word role.Authority) all.0.0 1 _ said (member_writes role.Authority) all.2 in
    let b = field name_of (λ name. name) all.0.1 2 _ said name_writes a.2 in
    let c = field (sized_of_hex 56) encode_lower all.0.2 3 _ said (sized_writes 56) b.2 in
    let made : LessonWords = record { authority = a.0; name = b.0; key = c.0 } in
    let spelt : lesson_words made ≡ all.0.0 ∷ all.0.1 ∷ all.0.2 ∷ [] =
    ap (λ word. word ∷ b.0 ∷ encode_lower c.0 ∷ []) a.1
    ∙ ap (λ word. all.0.0 ∷ word ∷ encode_lower c.0 ∷ []) b.1
    ∙ ap (λ word. all.0.0 ∷ all.0.1 ∷ word ∷ []) c.1 in
    three_are ws all.0 all.1 ∙ sym spelt ∙ ap lesson_words (ok_is made said c.2)

form_is : {T : Type 0} (read : Result T Reason) (value : T) → of_form read ≡ Ok value → read ≡ Ok value
form_is (Ok one) value h = cc
form_is (Err why) value h = absurd cc

-- they are of a lesson to this authority
own_words : (number : ℕ) (ws : List (List ℕ)) (said : LessonWords) → own_lesson number ws ≡ Ok said → (said.authority ≡ number) × (ws ≡ lesson_words said)
own_words number ws said h =
    let read = bind_ok (of_form (lesson_fields ws)) _ said h in
    let is = own_party number read.0 said read.2 in
    (is.0, fields_are ws read.0 (form_is (lesson_fields ws) read.0 read.1) ∙ ap lesson_words is.1)
  where
    own_party : (number : ℕ) (one said : LessonWords) → for_own (authority_party number) (authority_party one.authority) one ≡ Ok said → (said.authority ≡ number) × (one ≡ said)
    own_party number one said h = by (is_party (authority_party one.authority) (authority_party number)) refl h
      where
        by : (same : Bool) → is_party (authority_party one.authority) (authority_party number) ≡ same → cond same (Ok one) (Err (cause.Absent 1)) ≡ Ok said → (said.authority ≡ number) × (one ≡ said)
        by true is e =
            let same : one ≡ said = ok_is one said e in
            (ap (λ (l : LessonWords). l.authority) (sym same) ∙ eqb-true one.authority number is, same)
        by false is e = absurd cc

-- ---- and no other line asks one

-- the order that is asked is the one that is read
pub wants_some : {Order : Type 0} (read : Result Order Cause) (order : Order) → wants read ≡ Ok (Some order) → read ≡ Ok order
wants_some (Ok one) order h = cc
wants_some (Err why) order h = absurd cc

-- an order to this party is the one that it would be
pub own_is : {Order : Type 0} (own named : Party) (one order : Order) → for_own own named one ≡ Ok order → one ≡ order
own_is own named one order h = by (is_party named own) h
  where
    by : (same : Bool) → cond same (Ok one) (Err (cause.Absent 1)) ≡ Ok order → one ≡ order
    by true e = cc
    by false e = absurd cc

-- whether an order is a lesson
abbrev pub is_lesson : AuthorityOrder → Bool
is_lesson (orders.Learn name key) = true
is_lesson (orders.Forget name key) = true
is_lesson order = false

-- what a script says of an authority is none
event_is_none : (number : ℕ) (event : EventLine) (order : AuthorityOrder) → order_for_authority number event ≡ Ok order → is_lesson order ≡ false
event_is_none number (events.Roll who) order h = sym (ap is_lesson (own_is (authority_party number) who orders.Roll order h))
event_is_none number (events.Retire named) order h = sym (ap is_lesson (own_is (authority_party number) (authority_party named) orders.Retire order h))
event_is_none number event order h = absurd cc

-- nor is what it hears otherwise
plain_is_none : (number : ℕ) (said : Result Heard Cause) (order : AuthorityOrder) → wanted_by orders.Take (order_for_authority number) said ≡ Ok (Some order) → is_lesson order ≡ false
plain_is_none number (Ok heard.Nothing) order h = absurd cc
plain_is_none number (Ok (heard.Message bytes)) order h = let is : orders.Take bytes ≡ order = cc in sym (ap is_lesson is)
plain_is_none number (Ok (heard.Event event)) order h = event_is_none number event order (wants_some (order_for_authority number event) order h)
plain_is_none number (Err why) order h = absurd cc

-- the words of a lesson behind this one, to this authority, ask this
record AreOf (number : ℕ) (word : List ℕ) (make : LessonWords → AuthorityOrder) (words : List (List ℕ)) (order : AuthorityOrder) : Type 0 where
  said : LessonWords
  own : said.authority ≡ number
  spelt : words ≡ word ∷ lesson_words said
  is : make said ≡ order

of_lesson : (number : ℕ) (word : List ℕ) (make : LessonWords → AuthorityOrder) (words : List (List ℕ)) (order : AuthorityOrder)
    → result_map_both (λ said. Some (make said)) (λ why. why) (own_lesson number words) ≡ Ok (Some order) → AreOf number word make (word ∷ words) order
of_lesson number word make words order h = by (own_lesson number words) refl h
  where
    by : (read : Result LessonWords Cause) → own_lesson number words ≡ read → result_map_both (λ said. Some (make said)) (λ why. why) read ≡ Ok (Some order) → AreOf number word make (word ∷ words) order
    by (Ok said) is e =
        let own = own_words number words said is in
        record { said = said; own = own.0; spelt = ap (λ ws. word ∷ ws) own.1; is = cc }
    by (Err why) is e = absurd cc

-- words that ask a lesson are those of it
asked_by : (number : ℕ) (words : List (List ℕ)) (other : Wanted AuthorityOrder) (order : AuthorityOrder) → (other ≡ Ok (Some order) → is_lesson order ≡ false) → is_lesson order ≡ true
    → by_words number words other ≡ Ok (Some order) → AreOf number (codes "teach") to_learn words order ⊎ AreOf number (codes "forget") to_forget words order
asked_by number [] other order none lesson h = absurd (both_ways (none h) lesson)
  where
    both_ways : is_lesson order ≡ false → is_lesson order ≡ true → ⊥
    both_ways a b = cc
asked_by number (word ∷ words) other order none lesson h = by (bytes_eq word (codes "teach")) (bytes_eq word (codes "forget")) refl refl h
  where
    learns : Wanted AuthorityOrder
    learns = result_map_both (λ said. Some (to_learn said)) (λ why. why) (own_lesson number words)

    forgets : Wanted AuthorityOrder
    forgets = result_map_both (λ said. Some (to_forget said)) (λ why. why) (own_lesson number words)

    both_ways : is_lesson order ≡ false → is_lesson order ≡ true → ⊥
    both_ways a b = cc

    by : (first second : Bool) → bytes_eq word (codes "teach") ≡ first → bytes_eq word (codes "forget") ≡ second → cond first learns (cond second forgets other) ≡ Ok (Some order)
        → AreOf number (codes "teach") to_learn (word ∷ words) order ⊎ AreOf number (codes "forget") to_forget (word ∷ words) order
    by true second is isnt e =
        let same : word ≡ codes "teach" = (bytes_eq-Decides word (codes "teach")).0 is in
        inl (rw same (of_lesson number (codes "teach") to_learn words order e))
    by false true isnt is e =
        let same : word ≡ codes "forget" = (bytes_eq-Decides word (codes "forget")).0 is in
        inr (rw same (of_lesson number (codes "forget") to_forget words order e))
    by false false a b e = absurd (both_ways (none e) lesson)

-- a line is its words, with a space between each two
words_joined : (line : List ℕ) → join_with_byte 32 (words_of line) ≡ line
unfolding parts_of
words_joined line = join_with_byte-slice_split 32 line

-- a line that asks a lesson
by_line : (number : ℕ) (line : List ℕ) (order : AuthorityOrder) → is_lesson order ≡ true → authority_asked number line ≡ Ok (Some order)
    → AreOf number (codes "teach") to_learn (words_of line) order ⊎ AreOf number (codes "forget") to_forget (words_of line) order
by_line number line order lesson h = by (is_text line) h
  where
    plain : Wanted AuthorityOrder
    plain = wanted_by orders.Take (order_for_authority number) (heard_in line)

    none : plain ≡ Ok (Some order) → is_lesson order ≡ false
    none e = plain_is_none number (heard_in line) order e

    both_ways : is_lesson order ≡ false → is_lesson order ≡ true → ⊥
    both_ways a b = cc

    by : (text : Bool) → cond text (by_words number (words_of line) plain) plain ≡ Ok (Some order)
        → AreOf number (codes "teach") to_learn (words_of line) order ⊎ AreOf number (codes "forget") to_forget (words_of line) order
    by true e = asked_by number (words_of line) plain order none lesson e
    by false e = absurd (both_ways (none e) lesson)

-- the lesson of this name and key
abbrev lesson : ℕ → List ℕ → List ℕ → LessonWords
lesson number name key = record { authority = number; name = name; key = key }

written : (number : ℕ) (line word name key : List ℕ) (said : LessonWords) → said.authority ≡ number → said.name ≡ name → said.key ≡ key → words_of line ≡ word ∷ lesson_words said → line ≡ lesson_text word (lesson number name key)
written number line word name key said a b c words =
    sym (words_joined line) ∙ ap (join_with_byte 32) words ∙ rw (a, b, c) refl

pub only_teach : (number : ℕ) (line name key : List ℕ) → authority_asked number line ≡ Ok (Some (orders.Learn name key)) → line ≡ lesson_text (codes "teach") (lesson number name key)
only_teach number line name key h = by (by_line number line (orders.Learn name key) refl h)
  where
    by : AreOf number (codes "teach") to_learn (words_of line) (orders.Learn name key) ⊎ AreOf number (codes "forget") to_forget (words_of line) (orders.Learn name key) → line ≡ lesson_text (codes "teach") (lesson number name key)
    by (inl it) = let is = it.is in let its : it.said.name ≡ name = cc in let own : it.said.key ≡ key = cc in written number line (codes "teach") name key it.said it.own its own it.spelt
    by (inr it) = let is = it.is in absurd cc

pub only_forget : (number : ℕ) (line name key : List ℕ) → authority_asked number line ≡ Ok (Some (orders.Forget name key)) → line ≡ lesson_text (codes "forget") (lesson number name key)
only_forget number line name key h = by (by_line number line (orders.Forget name key) refl h)
  where
    by : AreOf number (codes "teach") to_learn (words_of line) (orders.Forget name key) ⊎ AreOf number (codes "forget") to_forget (words_of line) (orders.Forget name key) → line ≡ lesson_text (codes "forget") (lesson number name key)
    by (inl it) = let is = it.is in absurd cc
    by (inr it) = let is = it.is in let its : it.said.name ≡ name = cc in let own : it.said.key ≡ key = cc in written number line (codes "forget") name key it.said it.own its own it.spelt
