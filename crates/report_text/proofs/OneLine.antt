-- A line is its words with one space between each two, and a newline; so two lines that are one have the same words.
use Rattle.std.proofs.Common.{◌≡◌, ℕ, true, List, [], ◌∷◌, ◌++◌, codes, map, Option, Some, None, refl, sym, ap, ◌∙◌, append_assoc, append-nil}
use Rattle.std.proofs.lemmas.List.{append_cancel_right}
use Rattle.std.specs.Prelude.{IfSome}
use Rattle.std.specs.Fmt.{decimal}
use Rattle.std.specs.List.{AllByRecursion, join_with_byte, list_all}
use Rattle.std.proofs.lemmas.Bool.{and_parts}
use Rattle.std.proofs.lemmas.Option.{same_Some}
use Rattle.hex.specs.Hex.{encode_lower}
use Rattle.ar_base.specs.Bytes.{IsDigest}
use Rattle.ar_lines.specs.Lines.{words_of}
use Rattle.ar_lines.specs.Parties.{member_word, party_word}
use Rattle.ar_lines.proofs.Spelled.{decimal_is_word, hex_is_word, name_is_word}
use Rattle.ar_lines.proofs.TextLaws.{is_word, words_of-first, words_of-last}
use Rattle.ar_statement.specs.Claims.{authority_party, log_party}
use Rattle.ar_statement.specs.declared.party.Party.{Party}
use Rattle.ar_statement.specs.declared.party.Role.{Role}
use Rattle.ar_statement.specs.declared.party.Role.TheVariants.{LogServer, Authority, Owner, Client}
use Rattle.report_text.specs.Held.{AreValues, IsCode, IsHappening, IsNumber, IsParty, IsSaid, IsCodeValue, IsTarget, IsUnlearnt, IsWhat}
use Rattle.report_text.specs.Lines.{kind_text, line_of, outcome_text, rule_letter, sender_text, taken_text, target_text, value_text, values_text, what_text}
use Rattle.report_text.proofs.Told.{happening_is_told, learning_words, outcome_words, said_words, told, value_word, values_words, what_then, words_of_happening}
use Rattle.report_text.specs.declared.happening.Code.{Code}
use Rattle.report_text.specs.declared.happening.Happening.{Happening}
use Rattle.report_text.specs.declared.happening.Happening.TheVariants as happening
use Rattle.report_text.specs.declared.happening.Kind.{Kind}
use Rattle.report_text.specs.declared.happening.Kind.TheVariants as kind
use Rattle.report_text.specs.declared.happening.Said.{Said}
use Rattle.report_text.specs.declared.happening.Said.TheVariants as said
use Rattle.report_text.specs.declared.happening.CodeValue.{CodeValue}
use Rattle.report_text.specs.declared.happening.CodeValue.TheVariants as shown
use Rattle.report_text.specs.declared.happening.Target.{Target}
use Rattle.report_text.specs.declared.happening.Target.TheVariants as target
use Rattle.report_text.specs.declared.happening.Unlearnt.{Unlearnt}
use Rattle.report_text.specs.declared.happening.Unlearnt.TheVariants as unlearnt
use Rattle.report_text.specs.declared.happening.Values.{Values}
use Rattle.report_text.specs.declared.happening.Values.TheVariants as values
use Rattle.report_text.specs.declared.happening.What.{What}
use Rattle.report_text.specs.declared.happening.What.TheVariants as what

abbrev joined : List (List ℕ) → List ℕ
joined words = join_with_byte 32 words

abbrev newline : List ℕ
newline = 10 ∷ []

-- ---- a line as its words

valued : (v : CodeValue) → value_text v ≡ 32 ∷ value_word v
valued (shown.Number n) = refl
valued (shown.Party p) = refl
valued (shown.Digest d) = refl
valued shown.Full = refl
valued shown.NoRoot = refl

with_values : (c : List ℕ) (vs : Values) → joined (c ∷ values_words vs) ≡ c ++ values_text vs
with_values c values.Nothing = sym (append-nil c)
with_values c (values.One v) = ap (λ t. c ++ t) (sym (valued v))
with_values c (values.Two v w) = rw (valued v, valued w) refl

outcome_line : (refused : Option Code) → outcome_text refused ≡ 32 ∷ (joined (outcome_words refused) ++ newline)
outcome_line None = refl
outcome_line (Some code) = rw (with_values (rule_letter code.role ++ decimal code.number) code.values) refl

what_line : (p : List ℕ) (w : What) (o : List ℕ) (os : List (List ℕ)) → joined (p ∷ what_then w (o ∷ os)) ≡ p ++ (32 ∷ (what_text w ++ (32 ∷ joined (o ∷ os))))
what_line p (what.Take n) o os = refl
what_line p what.Propose o os = refl
what_line p what.Pass o os = refl
what_line p what.Roll o os = refl
what_line p (what.Submit n) o os = refl
what_line p (what.Handover n) o os = refl
what_line p (what.Object n) o os = refl

behind_what : (p w o : List ℕ) → (p ++ (32 ∷ (w ++ (32 ∷ o)))) ++ newline ≡ p ++ (32 ∷ (w ++ (32 ∷ (o ++ newline))))
behind_what p w o = simp append_assoc

step_line : (p : List ℕ) (w : What) (refused : Option Code) → p ++ (32 ∷ (what_text w ++ outcome_text refused)) ≡ joined (p ∷ what_then w (outcome_words refused)) ++ newline
step_line p w None = rw (what_line p w (codes "ok") []) (sym (behind_what p (what_text w) (codes "ok")))
step_line p w (Some code) =
    let c = rule_letter code.role ++ decimal code.number in
    rw (what_line p w (codes "refused") (c ∷ values_words code.values), behind_what p (what_text w) (joined (codes "refused" ∷ c ∷ values_words code.values)), outcome_line (Some code)) refl

taken_line : (p : List ℕ) (ns : List ℕ) → joined (p ∷ map decimal ns) ≡ p ++ taken_text ns
taken_line p [] = sym (append-nil p)
taken_line p (n ∷ ns) = ap (λ t. p ++ (32 ∷ t)) (taken_line (decimal n) ns)

line_joined : (h : Happening) → line_of h ≡ joined (words_of_happening h) ++ newline
line_joined (happening.Made p d) = simp append_assoc
line_joined (happening.Dishonest p) = simp append_assoc
line_joined (happening.Taught a) = simp append_assoc
line_joined (happening.Forgot a) = simp append_assoc
line_joined (happening.Retired a) = simp append_assoc
line_joined (happening.Draft n d) = simp append_assoc
line_joined (happening.Step p w refused) = step_line (party_word p) w refused
line_joined (happening.Ended log epoch None) = simp append_assoc
line_joined (happening.Ended log epoch (Some root)) = simp append_assoc
line_joined (happening.Learnt m None) = simp append_assoc
line_joined (happening.Learnt m (Some unlearnt.Form)) = simp append_assoc
line_joined (happening.Learnt m (Some unlearnt.Unknown)) = simp append_assoc
line_joined (happening.Learnt m (Some (unlearnt.Bad k))) = simp append_assoc
line_joined (happening.Learnt m (Some unlearnt.Other)) = simp append_assoc
line_joined (happening.Entered m k from to len d) = simp append_assoc
line_joined (happening.SignRefused p) = simp append_assoc
line_joined (happening.Judged m (said.Accepted name serial epoch root certificate)) = simp append_assoc
line_joined (happening.Judged m (said.Absent name epoch root)) = simp append_assoc
line_joined (happening.Judged m (said.Refused k)) = simp append_assoc
line_joined (happening.Order p taken) = rw (taken_line (party_word p) taken) (simp append_assoc)

-- ---- the words of a line

split : (first : List ℕ) (more : List (List ℕ)) → list_all is_word (first ∷ more) ≡ true → words_of (joined (first ∷ more)) ≡ first ∷ more
split first [] h = words_of-last first (and_parts (is_word first) true h).0
split first (next ∷ more) h =
    let parts = and_parts (is_word first) (list_all is_word (next ∷ more)) h in
    words_of-first first (joined (next ∷ more)) parts.0 ∙ ap (λ ws. first ∷ ws) (split next more parts.1)

word_of_party : (p : Party) → IsParty p → is_word (party_word p) ≡ true
word_of_party p h = by p.role
  where
    by : (role : Role) → is_word (member_word role p.number) ≡ true
    by LogServer = rw (decimal_is_word p.number h) refl
    by Authority = rw (decimal_is_word p.number h) refl
    by Owner = rw (decimal_is_word p.number h) refl
    by Client = rw (decimal_is_word p.number h) refl

digest_word : (d : List ℕ) → IsDigest d → is_word (encode_lower d) ≡ true
digest_word d h = hex_is_word d h.bytes

value_right : (v : CodeValue) → IsCodeValue v → is_word (value_word v) ≡ true
value_right (shown.Number n) h = decimal_is_word n h
value_right (shown.Party p) h = word_of_party p h
value_right (shown.Digest d) h = digest_word d h
value_right shown.Full h = refl
value_right shown.NoRoot h = refl

values_right : (vs : Values) → AreValues vs → list_all is_word (values_words vs) ≡ true
values_right values.Nothing h = refl
values_right (values.One v) h = rw (value_right v h) refl
values_right (values.Two v w) h = rw (value_right v h.0, value_right w h.1) refl

rule_right : (role : Role) (n : ℕ) → IsNumber n → is_word (rule_letter role ++ decimal n) ≡ true
rule_right LogServer n h = rw (decimal_is_word n h) refl
rule_right Authority n h = rw (decimal_is_word n h) refl
rule_right Owner n h = rw (decimal_is_word n h) refl
rule_right Client n h = rw (decimal_is_word n h) refl

outcome_right : (refused : Option Code) → IfSome refused IsCode → list_all is_word (outcome_words refused) ≡ true
outcome_right None h = refl
outcome_right (Some code) h = rw (rule_right code.role code.number h.0, values_right code.values h.1) refl

what_right : (w : What) (more : List (List ℕ)) → IsWhat w → list_all is_word more ≡ true → list_all is_word (what_then w more) ≡ true
what_right (what.Take n) more h m = rw (decimal_is_word n h, m) refl
what_right what.Propose more h m = rw m refl
what_right what.Pass more h m = rw m refl
what_right what.Roll more h m = rw m refl
what_right (what.Submit n) more h m = rw (decimal_is_word n h, m) refl
what_right (what.Handover n) more h m = rw (decimal_is_word n h, m) refl
what_right (what.Object n) more h m = rw (decimal_is_word n h, m) refl

sender_right : (from : Option Party) → IfSome from IsParty → is_word (sender_text from) ≡ true
sender_right (Some p) h = word_of_party p h
sender_right None h = refl

target_right : (to : Target) → IsTarget to → is_word (target_text to) ≡ true
target_right (target.One p) h = word_of_party p h
target_right target.Logs h = refl
target_right target.Nobody h = refl

kind_right : (k : Kind) → is_word (kind_text k) ≡ true
kind_right kind.Raw = refl
kind_right kind.EndorseAsk = refl
kind_right kind.Endorsed = refl
kind_right kind.Submit = refl
kind_right kind.Propose = refl
kind_right kind.Ballot = refl
kind_right kind.StatusNote = refl
kind_right kind.Decision = refl
kind_right kind.SkipNote = refl
kind_right kind.ConfirmAsk = refl
kind_right kind.LogConfirmed = refl
kind_right kind.HalfConfirmed = refl
kind_right kind.Confirmation = refl
kind_right kind.RollNote = refl

learning_right : (refused : Option Unlearnt) → IfSome refused IsUnlearnt → list_all is_word (learning_words refused) ≡ true
learning_right None h = refl
learning_right (Some unlearnt.Form) h = refl
learning_right (Some unlearnt.Unknown) h = refl
learning_right (Some (unlearnt.Bad k)) h = rw (decimal_is_word k h) refl
learning_right (Some unlearnt.Other) h = refl

said_right : (s : Said) → IsSaid s → list_all is_word (said_words s) ≡ true
said_right (said.Accepted name serial epoch root certificate) h =
    rw (name_is_word name h.0, decimal_is_word serial h.1, decimal_is_word epoch h.2, digest_word root h.3, digest_word certificate h.4) refl
said_right (said.Absent name epoch root) h = rw (name_is_word name h.0, decimal_is_word epoch h.1, digest_word root h.2) refl
said_right (said.Refused k) h = rw (decimal_is_word k h) refl

numbers_right : (ns : List ℕ) → AllByRecursion IsNumber ns → list_all is_word (map decimal ns) ≡ true
numbers_right [] h = refl
numbers_right (n ∷ ns) h = rw (decimal_is_word n h.0, numbers_right ns h.1) refl

words_right : (h : Happening) → IsHappening h → list_all is_word (words_of_happening h) ≡ true
words_right (happening.Made p d) h = rw (word_of_party p h.0, digest_word d h.1) refl
words_right (happening.Dishonest p) h = rw (word_of_party p h) refl
words_right (happening.Taught a) h = rw (word_of_party (authority_party a) h) refl
words_right (happening.Forgot a) h = rw (word_of_party (authority_party a) h) refl
words_right (happening.Retired a) h = rw (word_of_party (authority_party a) h) refl
words_right (happening.Draft n d) h = rw (decimal_is_word n h.0, digest_word d h.1) refl
words_right (happening.Step p w refused) h = rw (word_of_party p h.0, what_right w (outcome_words refused) h.1 (outcome_right refused h.2)) refl
words_right (happening.Ended log epoch None) h = rw (word_of_party (log_party log) h.0, decimal_is_word epoch h.1) refl
words_right (happening.Ended log epoch (Some root)) h = rw (word_of_party (log_party log) h.0, decimal_is_word epoch h.1, digest_word root h.2) refl
words_right (happening.Learnt m refused) h = rw (decimal_is_word m h.0, learning_right refused h.1) refl
words_right (happening.Entered m k from to len d) h =
    rw (decimal_is_word m h.0, kind_right k, sender_right from h.1, target_right to h.2, decimal_is_word len h.3, digest_word d h.4) refl
words_right (happening.SignRefused p) h = rw (word_of_party p h) refl
words_right (happening.Judged m s) h = rw (decimal_is_word m h.0, said_right s h.1) refl
words_right (happening.Order p taken) h = rw (word_of_party p h.0, numbers_right taken h.1) refl

split_any : (ws : List (List ℕ)) → (ws ≡ [] → ⊥) → list_all is_word ws ≡ true → words_of (joined ws) ≡ ws
split_any [] some h = absurd (some refl)
split_any (first ∷ more) some h = split first more h

has_words : (h : Happening) → words_of_happening h ≡ [] → ⊥
has_words (happening.Made p d) e = absurd cc
has_words (happening.Dishonest p) e = absurd cc
has_words (happening.Taught a) e = absurd cc
has_words (happening.Forgot a) e = absurd cc
has_words (happening.Retired a) e = absurd cc
has_words (happening.Draft n d) e = absurd cc
has_words (happening.Step p w r) e = absurd cc
has_words (happening.Ended log epoch root) e = absurd cc
has_words (happening.Learnt m r) e = absurd cc
has_words (happening.Entered m k f t l d) e = absurd cc
has_words (happening.SignRefused p) e = absurd cc
has_words (happening.Judged m s) e = absurd cc
has_words (happening.Order p t) e = absurd cc

told_by_line : (h : Happening) → IsHappening h → told (words_of (joined (words_of_happening h))) ≡ Some h
told_by_line h held = ap told (split_any (words_of_happening h) (has_words h) (words_right h held)) ∙ happening_is_told h held

pub one_line : (one other : Happening) → IsHappening one → IsHappening other → line_of one ≡ line_of other → one ≡ other
one_line one other held held' same =
    let joins = append_cancel_right (joined (words_of_happening one)) (joined (words_of_happening other)) newline (sym (line_joined one) ∙ same ∙ line_joined other) in
    same_Some one other (sym (told_by_line one held) ∙ ap (λ t. told (words_of t)) joins ∙ told_by_line other held')
