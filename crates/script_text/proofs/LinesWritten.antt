-- A line that is read by a row is written as the words that it was read from.
use Rattle.std.proofs.Common.{◌≡◌, ℕ, Bool, true, false, cond, List, [], ◌∷◌, Option, Some, None, Result, Ok, Err, refl, sym, ap, ◌∙◌}
use Rattle.std.specs.Option.{ok_or}
use Rattle.std.specs.Fmt.{decimal}
use Rattle.std.specs.List.{join_with_byte}
use Rattle.std.specs.Str.{bytes_eq}
use Rattle.std.proofs.lemmas.List.Splits.{join_with_byte-slice_split}
use Rattle.std.proofs.lemmas.Slice.Eq.{bytes_eq-Decides}
use Rattle.ar_base.specs.Chaining.{◌>>=◌}
use Rattle.ar_base.proofs.Shown.{bind_ok, ok_is}
use Rattle.ar_lines.specs.Forms.{number_in, number_of}
use Rattle.ar_lines.specs.Lines.{is_text, parts_of, words_of}
use Rattle.ar_lines.specs.Written.{WritesBack}
use Rattle.ar_lines.specs.declared.refusal.Reason.{Reason}
use Rattle.ar_lines.specs.declared.refusal.Reason.TheVariants.{Text, Field}
use Rattle.ar_lines.proofs.PartyWords.{party_writes}
use Rattle.ar_lines.proofs.Respelled.{number_in_writes, number_own, sized_writes}
use Rattle.ar_statement.specs.declared.party.Role.TheVariants as role
use Rattle.script_text.specs.Forms.{asks_of, binding_of, trusted_of}
use Rattle.script_text.specs.Grammar.{Fields, Form, PolicyFields, Row, are_pieces, as_line, bound, five, five_words, four, four_words, is_skipped, line_by, line_with, no_words, one, one_word, pieces, plain, policy, policy_of, policy_words, some_line, some_words, three, three_words, two, two_words}
use Rattle.script_text.specs.Rows.{event_row, read_of, row, setup_row, table}
use Rattle.script_text.specs.Written.{binding_word, list_word, policy_then, text_of_line, trusted_word, words_of_event_line, words_of_line, words_of_setup_line}
use Rattle.script_text.specs.declared.line.EventLine.{EventLine}
use Rattle.script_text.specs.declared.line.Line.{Line}
use Rattle.script_text.specs.declared.line.Line.TheVariants as line
use Rattle.script_text.specs.declared.line.PolicyWords.{PolicyWords}
use Rattle.script_text.specs.declared.line.SetupLine.{SetupLine}
use Rattle.script_text.proofs.WordsWritten as words

-- ---- what a chain of readings shows

abbrev done : {A : Type 0} → A → Result A Reason
done x = Ok x

-- a word of a form that was read is what is written of its value
field : {A B : Type 0} (form : Form A) (write : A → List ℕ) (word : List ℕ) (k : ℕ) (f : A → Result B Reason) (y : B) → WritesBack form write → (ok_or (form word) (Field k) >>= f) ≡ Ok y → (x : A) × (write x ≡ word) × (f x ≡ Ok y)
field {A = A} {B = B} form write word k f y writes h = by (form word) refl h
  where
    by : (o : Option A) → form word ≡ o → (ok_or o (Field k) >>= f) ≡ Ok y → (x : A) × (write x ≡ word) × (f x ≡ Ok y)
    by (Some x) is h = (x, writes word x is, h)
    by None is h = absurd cc

-- ---- so many words

none_are : (ws : List (List ℕ)) (x : Unit {0}) → no_words ws ≡ Ok x → ws ≡ []
none_are [] x h = refl
none_are (a ∷ more) x h = absurd cc

one_is : (ws : List (List ℕ)) (x : List ℕ) → one_word ws ≡ Ok x → ws ≡ x ∷ []
one_is (a ∷ []) x h = ap (λ w. w ∷ []) (ok_is a x h)
one_is [] x h = absurd cc
one_is (a ∷ b ∷ more) x h = absurd cc

two_are : (ws : List (List ℕ)) (x : List ℕ × List ℕ) → two_words ws ≡ Ok x → ws ≡ x.0 ∷ x.1 ∷ []
two_are (a ∷ b ∷ []) x h = ap (λ (w : List ℕ × List ℕ). w.0 ∷ w.1 ∷ []) (ok_is (a, b) x h)
two_are [] x h = absurd cc
two_are (a ∷ []) x h = absurd cc
two_are (a ∷ b ∷ c ∷ more) x h = absurd cc

three_are : (ws : List (List ℕ)) (x : List ℕ × List ℕ × List ℕ) → three_words ws ≡ Ok x → ws ≡ x.0 ∷ x.1 ∷ x.2 ∷ []
three_are (a ∷ b ∷ c ∷ []) x h = ap (λ (w : List ℕ × List ℕ × List ℕ). w.0 ∷ w.1 ∷ w.2 ∷ []) (ok_is (a, b, c) x h)
three_are [] x h = absurd cc
three_are (a ∷ []) x h = absurd cc
three_are (a ∷ b ∷ []) x h = absurd cc
three_are (a ∷ b ∷ c ∷ d ∷ more) x h = absurd cc

four_are : (ws : List (List ℕ)) (x : List ℕ × List ℕ × List ℕ × List ℕ) → four_words ws ≡ Ok x → ws ≡ x.0 ∷ x.1 ∷ x.2 ∷ x.3 ∷ []
four_are (a ∷ b ∷ c ∷ d ∷ []) x h = ap (λ (w : List ℕ × List ℕ × List ℕ × List ℕ). w.0 ∷ w.1 ∷ w.2 ∷ w.3 ∷ []) (ok_is (a, b, c, d) x h)
four_are [] x h = absurd cc
four_are (a ∷ []) x h = absurd cc
four_are (a ∷ b ∷ []) x h = absurd cc
four_are (a ∷ b ∷ c ∷ []) x h = absurd cc
four_are (a ∷ b ∷ c ∷ d ∷ e ∷ more) x h = absurd cc

five_are : (ws : List (List ℕ)) (x : List ℕ × List ℕ × List ℕ × List ℕ × List ℕ) → five_words ws ≡ Ok x → ws ≡ x.0 ∷ x.1 ∷ x.2 ∷ x.3 ∷ x.4 ∷ []
five_are (a ∷ b ∷ c ∷ d ∷ e ∷ []) x h = ap (λ (w : List ℕ × List ℕ × List ℕ × List ℕ × List ℕ). w.0 ∷ w.1 ∷ w.2 ∷ w.3 ∷ w.4 ∷ []) (ok_is (a, b, c, d, e) x h)
five_are [] x h = absurd cc
five_are (a ∷ []) x h = absurd cc
five_are (a ∷ b ∷ []) x h = absurd cc
five_are (a ∷ b ∷ c ∷ []) x h = absurd cc
five_are (a ∷ b ∷ c ∷ d ∷ []) x h = absurd cc
five_are (a ∷ b ∷ c ∷ d ∷ e ∷ f ∷ more) x h = absurd cc

-- the words of a policy, before others
abbrev fields_then : PolicyFields → List (List ℕ) → List (List ℕ)
fields_then p more = p.threshold ∷ p.binding ∷ p.max_age ∷ p.until ∷ p.trusted ∷ more

policy_are : (ws : List (List ℕ)) (x : List ℕ × List ℕ × PolicyFields × List ℕ) → policy_words ws ≡ Ok x → ws ≡ x.0 ∷ x.1 ∷ fields_then x.2 (x.3 ∷ [])
policy_are (a ∷ b ∷ t ∷ k ∷ m ∷ u ∷ r ∷ c ∷ []) x h =
    ap (λ (w : List ℕ × List ℕ × PolicyFields × List ℕ). w.0 ∷ w.1 ∷ fields_then w.2 (w.3 ∷ [])) (ok_is (a, b, record { threshold = t; binding = k; max_age = m; until = u; trusted = r }, c) x h)
policy_are [] x h = absurd cc
policy_are (a ∷ []) x h = absurd cc
policy_are (a ∷ b ∷ []) x h = absurd cc
policy_are (a ∷ b ∷ c ∷ []) x h = absurd cc
policy_are (a ∷ b ∷ c ∷ d ∷ []) x h = absurd cc
policy_are (a ∷ b ∷ c ∷ d ∷ e ∷ []) x h = absurd cc
policy_are (a ∷ b ∷ c ∷ d ∷ e ∷ f ∷ []) x h = absurd cc
policy_are (a ∷ b ∷ c ∷ d ∷ e ∷ f ∷ g ∷ []) x h = absurd cc
policy_are (a ∷ b ∷ c ∷ d ∷ e ∷ f ∷ g ∷ i ∷ j ∷ more) x h = absurd cc

some_are : (ws : List (List ℕ)) (x : List ℕ × List (List ℕ)) → some_words ws ≡ Ok x → ws ≡ x.0 ∷ x.1
some_are (a ∷ b ∷ more) x h = ap (λ (w : List ℕ × List (List ℕ)). w.0 ∷ w.1) (ok_is (a, b ∷ more) x h)
some_are [] x h = absurd cc
some_are (a ∷ []) x h = absurd cc

-- ---- rows

-- what fields read is written as the words that it was read from
abbrev FieldsWrite : {L : Type 0} → (L → List (List ℕ)) → List ℕ → Fields L → Type 0
FieldsWrite {L = L} spelt word fields = (ws : List (List ℕ)) (line : L) → fields ws ≡ Ok line → spelt line ≡ word ∷ ws

-- a row of this word
plain_row : {L : Type 0} (spelt : L → List (List ℕ)) (word : List ℕ) (m : L) → spelt m ≡ word ∷ [] → FieldsWrite spelt word (plain m)
plain_row spelt word m written ws line h =
    let none = bind_ok (no_words ws) _ line h in
    ap spelt (sym (ok_is m line none.2)) ∙ written ∙ ap (λ l. word ∷ l) (sym (none_are ws none.0 none.1))

one_row : {A L : Type 0} (spelt : L → List (List ℕ)) (word : List ℕ) (form : Form A) (write : A → List ℕ) (m : A → L) → WritesBack form write → ((a : A) → spelt (m a) ≡ word ∷ write a ∷ []) → FieldsWrite spelt word (one form m)
one_row spelt word form write m writes written ws line h =
    let all = bind_ok (one_word ws) _ line h in
    let a = field form write all.0 1 _ line writes all.2 in
    ap spelt (sym (ok_is (m a.0) line a.2)) ∙ written a.0
    ∙ ap (λ x. word ∷ x ∷ []) a.1
    ∙ ap (λ l. word ∷ l) (sym (one_is ws all.0 all.1))

two_row : {A B L : Type 0} (spelt : L → List (List ℕ)) (word : List ℕ) (first : Form A) (second : Form B) (write : A → List ℕ) (other : B → List ℕ) (m : A → B → L) → WritesBack first write → WritesBack second other → ((a : A) (b : B) → spelt (m a b) ≡ word ∷ write a ∷ other b ∷ []) → FieldsWrite spelt word (two first second m)
two_row spelt word first second write other m writes others written ws line h =
    let all = bind_ok (two_words ws) _ line h in
    let a = field first write all.0.0 1 _ line writes all.2 in
    let b = field second other all.0.1 2 _ line others a.2 in
    ap spelt (sym (ok_is (m a.0 b.0) line b.2)) ∙ written a.0 b.0
    ∙ rw (a.1, b.1) (ap (λ l. word ∷ l) (sym (two_are ws all.0 all.1)))

bound_row : {A B L : Type 0} (spelt : L → List (List ℕ)) (word : List ℕ) (first : Form A) (second : A → Form B) (write : A → List ℕ) (other : B → List ℕ) (m : A → B → L) → WritesBack first write → ((a : A) → WritesBack (second a) other) → ((a : A) (b : B) → spelt (m a b) ≡ word ∷ write a ∷ other b ∷ []) → FieldsWrite spelt word (bound first second m)
bound_row spelt word first second write other m writes others written ws line h =
    let all = bind_ok (two_words ws) _ line h in
    let a = field first write all.0.0 1 _ line writes all.2 in
    let b = field (second a.0) other all.0.1 2 _ line (others a.0) a.2 in
    ap spelt (sym (ok_is (m a.0 b.0) line b.2)) ∙ written a.0 b.0
    ∙ rw (a.1, b.1) (ap (λ l. word ∷ l) (sym (two_are ws all.0 all.1)))

three_row : {A B C L : Type 0} (spelt : L → List (List ℕ)) (word : List ℕ) (first : Form A) (second : Form B) (third : Form C) (wa : A → List ℕ) (wb : B → List ℕ) (wc : C → List ℕ) (m : A → B → C → L) → WritesBack first wa → WritesBack second wb → WritesBack third wc → ((a : A) (b : B) (c : C) → spelt (m a b c) ≡ word ∷ wa a ∷ wb b ∷ wc c ∷ []) → FieldsWrite spelt word (three first second third m)
three_row spelt word first second third wa wb wc m ha hb hc written ws line h =
    let all = bind_ok (three_words ws) _ line h in
    let a = field first wa all.0.0 1 _ line ha all.2 in
    let b = field second wb all.0.1 2 _ line hb a.2 in
    let c = field third wc all.0.2 3 _ line hc b.2 in
    ap spelt (sym (ok_is (m a.0 b.0 c.0) line c.2)) ∙ written a.0 b.0 c.0
    ∙ rw (a.1, b.1, c.1) (ap (λ l. word ∷ l) (sym (three_are ws all.0 all.1)))

four_row : {A B C D L : Type 0} (spelt : L → List (List ℕ)) (word : List ℕ) (first : Form A) (second : Form B) (third : Form C) (fourth : Form D) (wa : A → List ℕ) (wb : B → List ℕ) (wc : C → List ℕ) (wd : D → List ℕ) (m : A → B → C → D → L) → WritesBack first wa → WritesBack second wb → WritesBack third wc → WritesBack fourth wd → ((a : A) (b : B) (c : C) (d : D) → spelt (m a b c d) ≡ word ∷ wa a ∷ wb b ∷ wc c ∷ wd d ∷ []) → FieldsWrite spelt word (four first second third fourth m)
four_row spelt word first second third fourth wa wb wc wd m ha hb hc hd written ws line h =
    let all = bind_ok (four_words ws) _ line h in
    let a = field first wa all.0.0 1 _ line ha all.2 in
    let b = field second wb all.0.1 2 _ line hb a.2 in
    let c = field third wc all.0.2 3 _ line hc b.2 in
    let d = field fourth wd all.0.3 4 _ line hd c.2 in
    ap spelt (sym (ok_is (m a.0 b.0 c.0 d.0) line d.2)) ∙ written a.0 b.0 c.0 d.0
    ∙ rw (a.1, b.1, c.1, d.1) (ap (λ l. word ∷ l) (sym (four_are ws all.0 all.1)))

five_row : {A B C D E L : Type 0} (spelt : L → List (List ℕ)) (word : List ℕ) (first : Form A) (second : Form B) (third : Form C) (fourth : Form D) (fifth : Form E) (wa : A → List ℕ) (wb : B → List ℕ) (wc : C → List ℕ) (wd : D → List ℕ) (we : E → List ℕ) (m : A → B → C → D → E → L) → WritesBack first wa → WritesBack second wb → WritesBack third wc → WritesBack fourth wd → WritesBack fifth we → ((a : A) (b : B) (c : C) (d : D) (e : E) → spelt (m a b c d e) ≡ word ∷ wa a ∷ wb b ∷ wc c ∷ wd d ∷ we e ∷ []) → FieldsWrite spelt word (five first second third fourth fifth m)
five_row spelt word first second third fourth fifth wa wb wc wd we m ha hb hc hd he written ws line h =
    let all = bind_ok (five_words ws) _ line h in
    let a = field first wa all.0.0 1 _ line ha all.2 in
    let b = field second wb all.0.1 2 _ line hb a.2 in
    let c = field third wc all.0.2 3 _ line hc b.2 in
    let d = field fourth wd all.0.3 4 _ line hd c.2 in
    let e = field fifth we all.0.4 5 _ line he d.2 in
    ap spelt (sym (ok_is (m a.0 b.0 c.0 d.0 e.0) line e.2)) ∙ written a.0 b.0 c.0 d.0 e.0
    ∙ rw (a.1, b.1, c.1, d.1, e.1) (ap (λ l. word ∷ l) (sym (five_are ws all.0 all.1)))

policy_written : (p : PolicyFields) (terms : PolicyWords) (more : List (List ℕ)) → policy_of p ≡ Ok terms → policy_then terms more ≡ fields_then p more
unfolding policy_of
policy_written p terms more h =
    let t = field (number_in 0 255) decimal p.threshold 3 _ terms (number_in_writes 0 255) h in
    let k = field binding_of binding_word p.binding 4 _ terms words.binding_writes t.2 in
    let m = field (number_in 0 0xffff_ffff) decimal p.max_age 5 _ terms (number_in_writes 0 0xffff_ffff) k.2 in
    let u = field number_of decimal p.until 6 _ terms number_own m.2 in
    let r = field trusted_of trusted_word p.trusted 7 _ terms words.trusted_writes u.2 in
    let made : PolicyWords = record { threshold = t.0; keyed = k.0.0; max_age = m.0; until = u.0; trusted = r.0; wait = k.0.1 } in
    ap (λ (x : PolicyWords). policy_then x more) (sym (ok_is made terms r.2))
    ∙ rw (t.1, k.1, m.1, u.1, r.1) refl

policy_row : {A B L : Type 0} (spelt : L → List (List ℕ)) (word : List ℕ) (first : Form A) (second : Form B) (wa : A → List ℕ) (wb : B → List ℕ) (m : A → B → PolicyWords → List ℕ → L) → WritesBack first wa → WritesBack second wb → ((a : A) (b : B) (p : PolicyWords) (asks : List ℕ) → spelt (m a b p asks) ≡ word ∷ wa a ∷ wb b ∷ policy_then p (list_word asks ∷ [])) → FieldsWrite spelt word (policy first second m)
policy_row spelt word first second wa wb m ha hb written ws line h =
    let all = bind_ok (policy_words ws) _ line h in
    let a = field first wa all.0.0 1 _ line ha all.2 in
    let b = field second wb all.0.1 2 _ line hb a.2 in
    let p = bind_ok (policy_of all.0.2) _ line b.2 in
    let c = field asks_of list_word all.0.3 8 _ line words.asks_writes p.2 in
    ap spelt (sym (ok_is (m a.0 b.0 p.0 c.0) line c.2)) ∙ written a.0 b.0 p.0 c.0
    ∙ rw (a.1, b.1, policy_written all.0.2 p.0 (list_word c.0 ∷ []) p.1, c.1) (ap (λ l. word ∷ l) (sym (policy_are ws all.0 all.1)))

pieces_row : {A L : Type 0} (spelt : L → List (List ℕ)) (word : List ℕ) (first : Form A) (wa : A → List ℕ) (m : A → List (List ℕ) → L) → WritesBack first wa → ((a : A) (ps : List (List ℕ)) → spelt (m a ps) ≡ word ∷ wa a ∷ ps) → FieldsWrite spelt word (pieces first m)
pieces_row spelt word first wa m ha written ws line h =
    let all = bind_ok (some_words ws) _ line h in
    let a = field first wa all.0.0 1 _ line ha all.2 in
    let right = bind_ok (are_pieces 2 all.0.1) _ line a.2 in
    ap spelt (sym (ok_is (m a.0 all.0.1) line right.2)) ∙ written a.0 all.0.1
    ∙ rw a.1 (ap (λ l. word ∷ l) (sym (some_are ws all.0 all.1)))

-- what a row reads is written as the words that it was read from
abbrev RowWrites : Row → Type 0
RowWrites row = FieldsWrite words_of_line row.word row.fields

-- so it is where its fields read a line of one kind
kind_writes : {L : Type 0} (spelt : L → List (List ℕ)) (kind : L → Line) (word : List ℕ) (fields : Fields L) → ((l : L) → words_of_line (kind l) ≡ spelt l) → FieldsWrite spelt word fields
    → RowWrites (row word (λ ws. as_line kind (fields ws)))
kind_writes {L} spelt kind word fields same writes ws line h = by (fields ws) refl h
  where
    by : (r : Result L Reason) → fields ws ≡ r → as_line kind r ≡ Ok line → words_of_line line ≡ word ∷ ws
    by (Ok l) is h = ap words_of_line (sym (ok_is (kind l) line h)) ∙ same l ∙ writes ws l is
    by (Err reason) is h = absurd cc

setup_writes : (word : List ℕ) (fields : Fields SetupLine) → FieldsWrite words_of_setup_line word fields → RowWrites (setup_row word fields)
setup_writes word fields writes = kind_writes words_of_setup_line line.Setup word fields (λ l. refl) writes

event_writes : (word : List ℕ) (fields : Fields EventLine) → FieldsWrite words_of_event_line word fields → RowWrites (event_row word fields)
event_writes word fields writes = kind_writes words_of_event_line line.Event word fields (λ l. refl) writes

-- ---- the table

abbrev AllWrite : List Row → Type 0
AllWrite [] = Unit {0}
AllWrite (row ∷ more) = RowWrites row × AllWrite more

table_writes : AllWrite table
table_writes = (
  setup_writes _ _ (one_row _ _ _ _ _ (sized_writes 32) (λ a. refl)),
  (
    setup_writes _ _ (bound_row _ _ _ _ _ _ _ words.lms_writes words.ots_writes (λ a b. refl)),
    (
      setup_writes _ _ (bound_row _ _ _ _ _ _ _ words.party_count_writes words.quorum_writes (λ a b. refl)),
      (
        setup_writes _ _ (one_row _ _ _ _ _ words.party_count_writes (λ a. refl)),
        (
          setup_writes _ _ (one_row _ _ _ _ _ words.witness_writes (λ a. refl)),
          (
            event_writes _ _ (one_row _ _ _ _ _ words.new_owner_writes (λ a. refl)),
            (
              event_writes _ _ (three_row _ _ _ _ _ _ _ _ _ (words.member_writes role.Authority) words.name_writes (words.member_writes role.Owner) (λ a b c. refl)),
              (
                event_writes _ _ (three_row _ _ _ _ _ _ _ _ _ (words.member_writes role.Authority) words.name_writes (words.member_writes role.Owner) (λ a b c. refl)),
                (
                  event_writes _ _ (one_row _ _ _ _ _ (words.member_writes role.Authority) (λ a. refl)),
                  (
                    event_writes _ _ (policy_row _ _ _ _ _ _ _ (words.member_writes role.Owner) words.name_writes (λ a b p asks. refl)),
                    (
                      event_writes _ _ (policy_row _ _ _ _ _ _ _ (words.member_writes role.Owner) number_own (λ a b p asks. refl)),
                      (
                        event_writes _ _ (three_row _ _ _ _ _ _ _ _ _ (words.member_writes role.Owner) number_own words.asks_writes (λ a b c. refl)),
                        (
                          event_writes _ _ (two_row _ _ _ _ _ _ _ (words.member_writes role.Owner) number_own (λ a b. refl)),
                          (
                            event_writes _ _ (two_row _ _ _ _ _ _ _ (words.member_writes role.Owner) number_own (λ a b. refl)),
                            (
                              event_writes _ _ (one_row _ _ _ _ _ number_own (λ a. refl)),
                              (
                                event_writes _ _ (one_row _ _ _ _ _ (words.member_writes role.LogServer) (λ a. refl)),
                                (
                                  event_writes _ _ (one_row _ _ _ _ _ (words.member_writes role.LogServer) (λ a. refl)),
                                  (
                                    event_writes _ _ (one_row _ _ _ _ _ words.witness_writes (λ a. refl)),
                                    (
                                      event_writes _ _ (one_row _ _ _ _ _ number_own (λ a. refl)),
                                      (
                                        event_writes _ _ (five_row _ _ _ _ _ _ _ _ _ _ _ _ _ (words.member_writes role.LogServer) words.name_writes (words.member_writes role.Authority) (words.member_writes role.Authority) (words.member_writes role.Client) (λ a b c d e. refl)),
                                        (
                                          event_writes _ _ (two_row _ _ _ _ _ _ _ number_own party_writes (λ a b. refl)),
                                          (
                                            event_writes _ _ (plain_row _ _ _ refl),
                                            (
                                              event_writes _ _ (four_row _ _ _ _ _ _ _ _ _ _ _ words.judged_writes words.name_writes (number_in_writes 1 0xffff_ffff_ffff_ffff) number_own (λ a b c d. refl)),
                                              (
                                                event_writes _ _ (pieces_row _ _ _ _ _ party_writes (λ a ps. refl)),
                                                (
                                                  event_writes _ _ (pieces_row _ _ _ _ _ words.receiver_writes (λ a ps. refl)),
                                                  (
                                                    plain_row _ _ _ refl,
                                                    (plain_row _ _ _ refl, tt),
                                                  ),
                                                ),
                                              ),
                                            ),
                                          ),
                                        ),
                                      ),
                                    ),
                                  ),
                                ),
                              ),
                            ),
                          ),
                        ),
                      ),
                    ),
                  ),
                ),
              ),
            ),
          ),
        ),
      ),
    ),
  ),
)

by_row : (b : Bool) (row : Row) (rows : List Row) (word : List ℕ) (ws : List (List ℕ)) (line : Line) → bytes_eq word row.word ≡ b → RowWrites row → (line_by rows word ws ≡ Ok line → words_of_line line ≡ word ∷ ws) → cond b (row.fields ws) (line_by rows word ws) ≡ Ok line → words_of_line line ≡ word ∷ ws
by_row true row rows word ws line is here more h = here ws line h ∙ ap (λ w. w ∷ ws) (sym ((bytes_eq-Decides word row.word).0 is))
by_row false row rows word ws line is here more h = more h

by_rows : (rows : List Row) → AllWrite rows → (word : List ℕ) (ws : List (List ℕ)) (line : Line) → line_by rows word ws ≡ Ok line → words_of_line line ≡ word ∷ ws
by_rows [] all word ws line h = absurd cc
by_rows (row ∷ rows) all word ws line h = by_row (bytes_eq word row.word) row rows word ws line refl all.0 (by_rows rows all.1 word ws line) h

-- ---- lines

with_words : (ws : List (List ℕ)) (line : Line) → line_with table ws ≡ Ok line → words_of_line line ≡ ws
with_words [] line h = absurd cc
with_words (word ∷ ws) line h = by_rows table table_writes word ws line h

-- a line that was read is none that was skipped
read_words : (skipped right : Bool) (r : Result Line Reason) (line : Line) → cond skipped (Ok None) (cond right (some_line r) (Err Text)) ≡ Ok (Some line) → r ≡ Ok line
read_words true right r line h = absurd cc
read_words false true (Ok l) line h = cc
read_words false true (Err e) line h = absurd cc
read_words false false r line h = absurd cc

words_joined : (text : List ℕ) → join_with_byte 32 (words_of text) ≡ text
unfolding parts_of
words_joined text = join_with_byte-slice_split 32 text

pub line_written : (text : List ℕ) (line : Line) → read_of text ≡ Ok (Some line) → text_of_line line ≡ text
unfolding read_of
line_written text line h =
    ap (join_with_byte 32) (with_words (words_of text) line (read_words (is_skipped text) (is_text text) (line_with table (words_of text)) line h))
    ∙ words_joined text
