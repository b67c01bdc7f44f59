-- What the words of a line tell: the happening whose words they are.
use Rattle.std.proofs.Common.{◌≡◌, ℕ, ◌<◌, ◌^◌, ◌&&◌, ltb, ◌==◌, if◌then◌else◌, List, [], ◌∷◌, ◌++◌, length, codes, map, Option, Some, None, refl, ap, ◌∙◌, arith, lit<}
use Rattle.std.specs.Prelude.{IfSome}
use Rattle.std.specs.Fmt.{decimal}
use Rattle.std.specs.List.{AllByRecursion}
use Rattle.std.specs.Str.{bytes_eq}
use Rattle.std.specs.Str.Parse.{digits_value}
use Rattle.std.proofs.lemmas.Bool.{and_parts, ltb-true}
use Rattle.std.proofs.lemmas.Fmt.{length-decimal-le}
use Rattle.std.proofs.lemmas.Option.{cond_some}
use Rattle.hex.specs.Hex.{encode_lower, lower_digits}
use Rattle.hex.proofs.HexLemmas.{length-encode_with}
use Rattle.ar_base.specs.Bytes.{IsDigest}
use Rattle.ar_lines.specs.Forms.{bytes_of_hex, is_numeral, number_of}
use Rattle.ar_lines.specs.Parties.{member_word, party_word, role_of}
use Rattle.ar_lines.proofs.Respelled.{number_own}
use Rattle.ar_lines.proofs.Spelled.{bytes_of_hex-encode, number_of-decimal}
use Rattle.ar_statement.specs.Claims.{authority_party, log_party, party}
use Rattle.ar_statement.specs.declared.party.Party.{Party}
use Rattle.ar_statement.specs.declared.party.Role.{Role}
use Rattle.ar_statement.specs.declared.party.Role.TheVariants.{LogServer, Authority, Owner, Client}
use Rattle.report_text.specs.Held.{AreValues, IsCode, IsHappening, IsNumber, IsParty, IsSaid, IsCodeValue, IsTarget, IsUnlearnt, IsWhat}
use Rattle.report_text.specs.Lines.{kind_text, rule_letter, sender_text, target_text}
use Rattle.report_text.specs.declared.happening.Code.{Code}
use Rattle.report_text.specs.declared.happening.Happening.{Happening}
use Rattle.report_text.specs.declared.happening.Happening.TheVariants as happening
use Rattle.report_text.specs.declared.happening.Kind.{Kind}
use Rattle.report_text.specs.declared.happening.Kind.TheVariants as kind
use Rattle.report_text.specs.declared.happening.Said.{Said}
use Rattle.report_text.specs.declared.happening.Said.TheVariants as said
use Rattle.report_text.specs.declared.happening.CodeValue.{CodeValue}
use Rattle.report_text.specs.declared.happening.CodeValue.TheVariants as shown
use Rattle.report_text.specs.declared.happening.Target.{Target}
use Rattle.report_text.specs.declared.happening.Target.TheVariants as target
use Rattle.report_text.specs.declared.happening.Unlearnt.{Unlearnt}
use Rattle.report_text.specs.declared.happening.Unlearnt.TheVariants as unlearnt
use Rattle.report_text.specs.declared.happening.Values.{Values}
use Rattle.report_text.specs.declared.happening.Values.TheVariants as values
use Rattle.report_text.specs.declared.happening.What.{What}
use Rattle.report_text.specs.declared.happening.What.TheVariants as what

-- ---- chains

abbrev pub bind : {A B : Type 0} → Option A → (A → Option B) → Option B
bind (Some x) next = next x
bind None next = None

abbrev pub or_else : {A B : Type 0} → Option A → (A → B) → Option B → Option B
or_else (Some x) make other = Some (make x)
or_else None make other = other

-- ---- words, each with what is told of it

unfoldable pub number_told : List ℕ → Option ℕ
number_told word = number_of word

number_is_told : (n : ℕ) → IsNumber n → number_told (decimal n) ≡ Some n
unfolding number_told
number_is_told n h = number_of-decimal n h

unfoldable pub digest_told : List ℕ → Option (List ℕ)
digest_told word = bytes_of_hex word

digest_is_told : (digest : List ℕ) → IsDigest digest → digest_told (encode_lower digest) ≡ Some digest
unfolding digest_told
digest_is_told digest h = bytes_of_hex-encode digest h.bytes

abbrev pub rule_told : ℕ → Option Role
rule_told letter =
    if letter == 76 then Some LogServer
    else if letter == 65 then Some Authority
    else if letter == 79 then Some Owner
    else if letter == 67 then Some Client
    else None

abbrev pub numbered_told : {A : Type 0} → (ℕ → Option Role) → (Role → ℕ → A) → List ℕ → Option A
numbered_told letters make [] = None
numbered_told letters make (letter ∷ digits) = bind (letters letter) (λ role. bind (number_told digits) (λ number. Some (make role number)))

unfoldable pub party_told : List ℕ → Option Party
party_told word = numbered_told role_of party word

party_with : (role : Role) (n : ℕ) → IsNumber n → party_told (member_word role n) ≡ Some (party role n)
unfolding party_told
party_with LogServer n h = rw (number_is_told n h) refl
party_with Authority n h = rw (number_is_told n h) refl
party_with Owner n h = rw (number_is_told n h) refl
party_with Client n h = rw (number_is_told n h) refl

party_is_told : (p : Party) → IsParty p → party_told (party_word p) ≡ Some p
party_is_told p h = party_with p.role p.number h

-- a party is no number and no hex
no_number_with : (role : Role) (n : ℕ) → number_told (member_word role n) ≡ None
unfolding number_told
no_number_with LogServer n = refl
no_number_with Authority n = refl
no_number_with Owner n = refl
no_number_with Client n = refl

no_hex_with : (role : Role) (n : ℕ) → digest_told (member_word role n) ≡ None
unfolding digest_told
no_hex_with LogServer n = refl
no_hex_with Authority n = refl
no_hex_with Owner n = refl
no_hex_with Client n = refl

-- a number that is read has 64 bits
below : (word : List ℕ) (n : ℕ) → number_of word ≡ Some n → n < 2 ^ 64
below word n e =
    let parts = cond_some (is_numeral word && ltb (digits_value 10 word) (2 ^ 64)) (digits_value 10 word) n e in
    let small = ltb-true (digits_value 10 word) (2 ^ 64) (and_parts (is_numeral word) (ltb (digits_value 10 word) (2 ^ 64)) parts.0).1 in
    rw (← parts.1) small

too_long : (n : ℕ) → length (decimal n) ≡ 64 → n < 2 ^ 64 → ⊥
too_long n len h =
    let wide : n < 10 ^ 20 = omega (arith, h) in
    let most = length-decimal-le 20 n (lit< tt) wide h in
    omega arith

-- a digest is no number
digest_no_number : (digest : List ℕ) → IsDigest digest → number_told (encode_lower digest) ≡ None
unfolding number_told
digest_no_number digest h = by (number_of (encode_lower digest)) refl
  where
    by : (o : Option ℕ) → number_of (encode_lower digest) ≡ o → o ≡ None
    by None e = refl
    by (Some n) e =
        let same : decimal n ≡ encode_lower digest = number_own (encode_lower digest) n e in
        let long = length-encode_with lower_digits digest in
        let len : length (decimal n) ≡ length (encode_lower digest) = ap length same in
        let width = h.len in
        absurd (too_long n (omega arith) (below (encode_lower digest) n e))

-- ---- codes

unfoldable pub value_told : List ℕ → Option CodeValue
value_told word =
    or_else (number_told word) (λ n. shown.Number n) (or_else (digest_told word) (λ d. shown.Digest d) (or_else (party_told word) (λ p. shown.Party p)
    (if bytes_eq word (codes "full") then Some shown.Full else (if bytes_eq word (codes "none") then Some shown.NoRoot else None))))

abbrev pub value_word : CodeValue → List ℕ
value_word (shown.Number number) = decimal number
value_word (shown.Party party) = party_word party
value_word (shown.Digest digest) = encode_lower digest
value_word shown.Full = codes "full"
value_word shown.NoRoot = codes "none"

value_is_told : (value : CodeValue) → IsCodeValue value → value_told (value_word value) ≡ Some value
unfolding value_told
value_is_told (shown.Number n) h = rw (number_is_told n h) refl
value_is_told (shown.Party p) h = rw (no_number_with p.role p.number, no_hex_with p.role p.number, party_is_told p h) refl
value_is_told (shown.Digest d) h = rw (digest_no_number d h, digest_is_told d h) refl
value_is_told shown.Full h = unfold number_told digest_told party_told in refl
value_is_told shown.NoRoot h = unfold number_told digest_told party_told in refl

unfoldable pub values_told : List (List ℕ) → Option Values
values_told [] = Some values.Nothing
values_told (v ∷ []) = bind (value_told v) (λ value. Some (values.One value))
values_told (v ∷ w ∷ []) = bind (value_told v) (λ first. bind (value_told w) (λ second. Some (values.Two first second)))
values_told (v ∷ w ∷ x ∷ more) = None

abbrev pub values_words : Values → List (List ℕ)
values_words values.Nothing = []
values_words (values.One value) = value_word value ∷ []
values_words (values.Two first second) = value_word first ∷ value_word second ∷ []

values_are_told : (vs : Values) → AreValues vs → values_told (values_words vs) ≡ Some vs
unfolding values_told
values_are_told values.Nothing h = refl
values_are_told (values.One value) h = rw (value_is_told value h) refl
values_are_told (values.Two first second) h = rw (value_is_told first h.0, value_is_told second h.1) refl

abbrev pub code_of : Role → ℕ → Values → Code
code_of role number vs = record { role = role; number = number; values = vs }

unfoldable pub code_told : List (List ℕ) → Option Code
code_told [] = None
code_told (word ∷ more) = bind (numbered_told rule_told (λ role number. code_of role number) word) (λ make. bind (values_told more) (λ vs. Some (make vs)))

abbrev pub code_words : Code → List (List ℕ)
code_words code = (rule_letter code.role ++ decimal code.number) ∷ values_words code.values

code_with : (role : Role) (n : ℕ) (vs : Values) → IsNumber n → AreValues vs → code_told ((rule_letter role ++ decimal n) ∷ values_words vs) ≡ Some (code_of role n vs)
unfolding code_told
code_with LogServer n vs h v = rw (number_is_told n h, values_are_told vs v) refl
code_with Authority n vs h v = rw (number_is_told n h, values_are_told vs v) refl
code_with Owner n vs h v = rw (number_is_told n h, values_are_told vs v) refl
code_with Client n vs h v = rw (number_is_told n h, values_are_told vs v) refl

unfoldable pub outcome_told : List (List ℕ) → Option (Option Code)
outcome_told [] = None
outcome_told (word ∷ more) = if bytes_eq word (codes "ok") then Some None else bind (code_told more) (λ code. Some (Some code))

abbrev pub outcome_words : Option Code → List (List ℕ)
outcome_words None = codes "ok" ∷ []
outcome_words (Some code) = codes "refused" ∷ code_words code

outcome_is_told : (refused : Option Code) → IfSome refused IsCode → outcome_told (outcome_words refused) ≡ Some refused
unfolding outcome_told
outcome_is_told None h = refl
outcome_is_told (Some code) h = rw (code_with code.role code.number code.values h.0 h.1) refl

-- ---- what is learnt and what is said

unfoldable pub learning_told : List (List ℕ) → Option (Option Unlearnt)
learning_told (ok ∷ []) = Some None
learning_told (refused ∷ why ∷ []) =
    if bytes_eq why (codes "form") then Some (Some unlearnt.Form)
    else if bytes_eq why (codes "unknown") then Some (Some unlearnt.Unknown)
    else Some (Some unlearnt.Other)
learning_told (refused ∷ bad ∷ condition ∷ more) = bind (number_told condition) (λ k. Some (Some (unlearnt.Bad k)))
learning_told [] = None

abbrev pub learning_words : Option Unlearnt → List (List ℕ)
learning_words None = codes "ok" ∷ []
learning_words (Some unlearnt.Form) = codes "refused" ∷ codes "form" ∷ []
learning_words (Some unlearnt.Unknown) = codes "refused" ∷ codes "unknown" ∷ []
learning_words (Some (unlearnt.Bad condition)) = codes "refused" ∷ codes "bad" ∷ decimal condition ∷ []
learning_words (Some unlearnt.Other) = codes "refused" ∷ codes "other" ∷ []

learning_is_told : (refused : Option Unlearnt) → IfSome refused IsUnlearnt → learning_told (learning_words refused) ≡ Some refused
unfolding learning_told
learning_is_told None h = refl
learning_is_told (Some unlearnt.Form) h = refl
learning_is_told (Some unlearnt.Unknown) h = refl
learning_is_told (Some (unlearnt.Bad condition)) h = rw (number_is_told condition h) refl
learning_is_told (Some unlearnt.Other) h = refl

unfoldable pub said_told : List (List ℕ) → Option Said
said_told (refused ∷ check ∷ []) = bind (number_told check) (λ k. Some (said.Refused k))
said_told (absent ∷ name ∷ w1 ∷ epoch ∷ w2 ∷ root ∷ []) =
    bind (number_told epoch) (λ e. bind (digest_told root) (λ r. Some (said.Absent name e r)))
said_told (accepted ∷ name ∷ w1 ∷ serial ∷ w2 ∷ epoch ∷ w3 ∷ root ∷ w4 ∷ certificate ∷ []) =
    bind (number_told serial) (λ s. bind (number_told epoch) (λ e. bind (digest_told root) (λ r. bind (digest_told certificate) (λ c. Some (said.Accepted name s e r c)))))
said_told words = None

abbrev pub said_words : Said → List (List ℕ)
said_words (said.Accepted name serial epoch root certificate) =
    codes "accepted" ∷ name ∷ codes "serial" ∷ decimal serial ∷ codes "epoch" ∷ decimal epoch ∷ codes "root" ∷ encode_lower root
    ∷ codes "certificate" ∷ encode_lower certificate ∷ []
said_words (said.Absent name epoch root) = codes "absent" ∷ name ∷ codes "epoch" ∷ decimal epoch ∷ codes "root" ∷ encode_lower root ∷ []
said_words (said.Refused check) = codes "refused" ∷ decimal check ∷ []

said_is_told : (s : Said) → IsSaid s → said_told (said_words s) ≡ Some s
unfolding said_told
said_is_told (said.Accepted name serial epoch root certificate) h =
    rw (number_is_told serial h.1, number_is_told epoch h.2, digest_is_told root h.3, digest_is_told certificate h.4) refl
said_is_told (said.Absent name epoch root) h = rw (number_is_told epoch h.1, digest_is_told root h.2) refl
said_is_told (said.Refused check) h = rw (number_is_told check h) refl

-- ---- messages

abbrev pub kind_told_of : List Kind → List ℕ → Option Kind
kind_told_of [] word = None
kind_told_of (k ∷ ks) word = if bytes_eq word (kind_text k) then Some k else kind_told_of ks word

unfoldable pub kind_told : List ℕ → Option Kind
kind_told word = kind_told_of (kind.Raw ∷ kind.EndorseAsk ∷ kind.Endorsed ∷ kind.Submit ∷ kind.Propose ∷ kind.Ballot ∷ kind.StatusNote ∷ kind.Decision ∷ kind.SkipNote ∷ kind.ConfirmAsk ∷ kind.LogConfirmed ∷ kind.HalfConfirmed ∷ kind.Confirmation ∷ kind.RollNote ∷ []) word

kind_is_told : (k : Kind) → kind_told (kind_text k) ≡ Some k
unfolding kind_told
kind_is_told kind.Raw = refl
kind_is_told kind.EndorseAsk = refl
kind_is_told kind.Endorsed = refl
kind_is_told kind.Submit = refl
kind_is_told kind.Propose = refl
kind_is_told kind.Ballot = refl
kind_is_told kind.StatusNote = refl
kind_is_told kind.Decision = refl
kind_is_told kind.SkipNote = refl
kind_is_told kind.ConfirmAsk = refl
kind_is_told kind.LogConfirmed = refl
kind_is_told kind.HalfConfirmed = refl
kind_is_told kind.Confirmation = refl
kind_is_told kind.RollNote = refl

unfoldable pub sender_told : List ℕ → Option (Option Party)
sender_told word = or_else (party_told word) (λ p. Some p) (Some None)

sender_is_told : (from : Option Party) → IfSome from IsParty → sender_told (sender_text from) ≡ Some from
unfolding sender_told
sender_is_told (Some p) h = rw (party_is_told p h) refl
sender_is_told None h = unfold party_told in refl

unfoldable pub target_told : List ℕ → Option Target
target_told word = or_else (party_told word) (λ p. target.One p) (if bytes_eq word (codes "logs") then Some target.Logs else Some target.Nobody)

target_is_told : (to : Target) → IsTarget to → target_told (target_text to) ≡ Some to
unfolding target_told
target_is_told (target.One p) h = rw (party_is_told p h) refl
target_is_told target.Logs h = unfold party_told in refl
target_is_told target.Nobody h = unfold party_told in refl

-- ---- lines

unfoldable pub numbers_told : List (List ℕ) → Option (List ℕ)
numbers_told [] = Some []
numbers_told (word ∷ words) = bind (number_told word) (λ n. bind (numbers_told words) (λ ns. Some (n ∷ ns)))

numbers_are_told : (ns : List ℕ) → AllByRecursion IsNumber ns → numbers_told (map decimal ns) ≡ Some ns
unfolding numbers_told
numbers_are_told [] h = refl
numbers_are_told (n ∷ ns) h = rw (number_is_told n h.0, numbers_are_told ns h.1) refl

-- a step
abbrev pub step_told : Party → What → List (List ℕ) → Option Happening
step_told p w words = bind (outcome_told words) (λ refused. Some (happening.Step p w refused))

abbrev pub numbered_step : Party → (ℕ → What) → List (List ℕ) → Option Happening
numbered_step p make [] = None
numbered_step p make (word ∷ words) = bind (number_told word) (λ n. step_told p (make n) words)

abbrev pub ended_told : Party → List (List ℕ) → Option Happening
ended_told p (epoch ∷ skipped ∷ []) = bind (number_told epoch) (λ e. Some (happening.Ended p.number e None))
ended_told p (epoch ∷ decided ∷ root ∷ more) = bind (number_told epoch) (λ e. bind (digest_told root) (λ r. Some (happening.Ended p.number e (Some r))))
ended_told p words = None

-- a line that begins with a party
unfoldable pub party_line : Party → List (List ℕ) → Option Happening
party_line p [] = None
party_line p (word ∷ words) =
    if bytes_eq word (codes "taught") then Some (happening.Taught p.number)
    else if bytes_eq word (codes "forgot") then Some (happening.Forgot p.number)
    else if bytes_eq word (codes "retired") then Some (happening.Retired p.number)
    else if bytes_eq word (codes "ended") then ended_told p words
    else if bytes_eq word (codes "sign") then Some (happening.SignRefused p)
    else if bytes_eq word (codes "propose") then step_told p what.Propose words
    else if bytes_eq word (codes "pass") then step_told p what.Pass words
    else if bytes_eq word (codes "roll") then step_told p what.Roll words
    else if bytes_eq word (codes "take") then numbered_step p what.Take words
    else if bytes_eq word (codes "submit") then numbered_step p what.Submit words
    else if bytes_eq word (codes "handover") then numbered_step p what.Handover words
    else numbered_step p what.Object words

abbrev pub entered_told : List (List ℕ) → Option Happening
entered_told (message ∷ k ∷ w1 ∷ from ∷ w2 ∷ to ∷ len ∷ digest ∷ []) =
    bind (number_told message) (λ m. bind (kind_told k) (λ k. bind (sender_told from) (λ f. bind (target_told to) (λ t. bind (number_told len) (λ l. bind (digest_told digest) (λ d. Some (happening.Entered m k f t l d)))))))
entered_told words = None

abbrev pub digest_line : List ℕ → List ℕ → List (List ℕ) → Option Happening
digest_line first word [] = None
digest_line first word (digest ∷ more) =
    bind (digest_told digest) (λ d. if bytes_eq first (codes "party") then bind (party_told word) (λ p. Some (happening.Made p d)) else bind (number_told word) (λ n. Some (happening.Draft n d)))

-- another line
unfoldable pub word_line : List ℕ → List (List ℕ) → Option Happening
word_line first [] = None
word_line first (word ∷ words) =
    if bytes_eq first (codes "message") then entered_told (word ∷ words)
    else if bytes_eq first (codes "dishonest") then bind (party_told word) (λ p. Some (happening.Dishonest p))
    else if bytes_eq first (codes "learn") then bind (number_told word) (λ m. bind (learning_told words) (λ l. Some (happening.Learnt m l)))
    else if bytes_eq first (codes "judge") then bind (number_told word) (λ m. bind (said_told words) (λ s. Some (happening.Judged m s)))
    else if bytes_eq first (codes "order") then bind (party_told word) (λ p. bind (numbers_told words) (λ ns. Some (happening.Order p ns)))
    else digest_line first word words

abbrev pub by_first : Option Party → List ℕ → List (List ℕ) → Option Happening
by_first (Some p) first words = party_line p words
by_first None first words = word_line first words

abbrev pub told : List (List ℕ) → Option Happening
told [] = None
told (first ∷ words) = by_first (party_told first) first words

-- ---- the words of a line

abbrev pub what_then : What → List (List ℕ) → List (List ℕ)
what_then (what.Take message) more = codes "take" ∷ decimal message ∷ more
what_then what.Propose more = codes "propose" ∷ more
what_then what.Pass more = codes "pass" ∷ more
what_then what.Roll more = codes "roll" ∷ more
what_then (what.Submit draft) more = codes "submit" ∷ decimal draft ∷ more
what_then (what.Handover draft) more = codes "handover" ∷ decimal draft ∷ more
what_then (what.Object draft) more = codes "object" ∷ decimal draft ∷ more

abbrev pub ending_words : Option (List ℕ) → List (List ℕ)
ending_words (Some root) = codes "decided" ∷ encode_lower root ∷ []
ending_words None = codes "skipped" ∷ []

abbrev pub words_of_happening : Happening → List (List ℕ)
words_of_happening (happening.Made party digest) = codes "party" ∷ party_word party ∷ encode_lower digest ∷ []
words_of_happening (happening.Dishonest party) = codes "dishonest" ∷ party_word party ∷ []
words_of_happening (happening.Taught authority) = party_word (authority_party authority) ∷ codes "taught" ∷ []
words_of_happening (happening.Forgot authority) = party_word (authority_party authority) ∷ codes "forgot" ∷ []
words_of_happening (happening.Retired authority) = party_word (authority_party authority) ∷ codes "retired" ∷ []
words_of_happening (happening.Draft draft digest) = codes "draft" ∷ decimal draft ∷ encode_lower digest ∷ []
words_of_happening (happening.Step party what refused) = party_word party ∷ what_then what (outcome_words refused)
words_of_happening (happening.Ended log epoch root) = party_word (log_party log) ∷ codes "ended" ∷ decimal epoch ∷ ending_words root
words_of_happening (happening.Learnt message refused) = codes "learn" ∷ decimal message ∷ learning_words refused
words_of_happening (happening.Entered message kind from to len digest) =
    codes "message" ∷ decimal message ∷ kind_text kind ∷ codes "from" ∷ sender_text from ∷ codes "to" ∷ target_text to ∷ decimal len ∷ encode_lower digest ∷ []
words_of_happening (happening.SignRefused party) = party_word party ∷ codes "sign" ∷ codes "refused" ∷ []
words_of_happening (happening.Judged message said) = codes "judge" ∷ decimal message ∷ said_words said
words_of_happening (happening.Order party taken) = codes "order" ∷ party_word party ∷ map decimal taken

first_is : (party : Party) (words : List (List ℕ)) → IsParty party → told (party_word party ∷ words) ≡ party_line party words
first_is party words h = rw (party_is_told party h) refl

no_party : (first : List ℕ) (words : List (List ℕ)) → party_told first ≡ None → told (first ∷ words) ≡ word_line first words
no_party first words h = rw h refl

step_is_told : (p : Party) (w : What) (refused : Option Code) → IsWhat w → IfSome refused IsCode → party_line p (what_then w (outcome_words refused)) ≡ Some (happening.Step p w refused)
unfolding party_line
step_is_told p (what.Take n) refused h r = rw (number_is_told n h, outcome_is_told refused r) refl
step_is_told p what.Propose refused h r = rw (outcome_is_told refused r) refl
step_is_told p what.Pass refused h r = rw (outcome_is_told refused r) refl
step_is_told p what.Roll refused h r = rw (outcome_is_told refused r) refl
step_is_told p (what.Submit n) refused h r = rw (number_is_told n h, outcome_is_told refused r) refl
step_is_told p (what.Handover n) refused h r = rw (number_is_told n h, outcome_is_told refused r) refl
step_is_told p (what.Object n) refused h r = rw (number_is_told n h, outcome_is_told refused r) refl

ended_is_told : (log epoch : ℕ) (root : Option (List ℕ)) → IsNumber epoch → IfSome root IsDigest → party_line (log_party log) (codes "ended" ∷ decimal epoch ∷ ending_words root) ≡ Some (happening.Ended log epoch root)
unfolding party_line
ended_is_told log epoch None h r = rw (number_is_told epoch h) refl
ended_is_told log epoch (Some root) h r = rw (number_is_told epoch h, digest_is_told root r) refl

pub happening_is_told : (h : Happening) → IsHappening h → told (words_of_happening h) ≡ Some h
unfolding word_line party_line
happening_is_told (happening.Made p d) h = no_party (codes "party") _ (unfold party_told in refl) ∙ rw (party_is_told p h.0, digest_is_told d h.1) refl
happening_is_told (happening.Dishonest p) h = no_party (codes "dishonest") _ (unfold party_told in refl) ∙ rw (party_is_told p h) refl
happening_is_told (happening.Taught a) h = first_is (authority_party a) _ h
happening_is_told (happening.Forgot a) h = first_is (authority_party a) _ h
happening_is_told (happening.Retired a) h = first_is (authority_party a) _ h
happening_is_told (happening.Draft n d) h = no_party (codes "draft") _ (unfold party_told in refl) ∙ rw (number_is_told n h.0, digest_is_told d h.1) refl
happening_is_told (happening.Step p w refused) h = first_is p _ h.0 ∙ step_is_told p w refused h.1 h.2
happening_is_told (happening.Ended log epoch root) h = first_is (log_party log) _ h.0 ∙ ended_is_told log epoch root h.1 h.2
happening_is_told (happening.Learnt m refused) h = no_party (codes "learn") _ (unfold party_told in refl) ∙ rw (number_is_told m h.0, learning_is_told refused h.1) refl
happening_is_told (happening.Entered m k from to len d) h =
    no_party (codes "message") _ (unfold party_told in refl)
    ∙ rw (number_is_told m h.0, kind_is_told k, sender_is_told from h.1, target_is_told to h.2, number_is_told len h.3, digest_is_told d h.4) refl
happening_is_told (happening.SignRefused p) h = first_is p _ h
happening_is_told (happening.Judged m s) h = no_party (codes "judge") _ (unfold party_told in refl) ∙ rw (number_is_told m h.0, said_is_told s h.1) refl
happening_is_told (happening.Order p taken) h = no_party (codes "order") _ (unfold party_told in refl) ∙ rw (party_is_told p h.0, numbers_are_told taken h.1) refl
