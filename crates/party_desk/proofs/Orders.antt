-- Orders are asked by the lines that write them, and by no others.
use Rattle.std.proofs.Common.{◌≡◌, ℕ, eqb, Bool, true, false, cond, List, [], ◌∷◌, Option, Some, None, Result, Ok, Err, refl, sym, ap, ◌∙◌}
use Rattle.std.specs.Prelude.{codes}
use Rattle.std.specs.Result.{result_map_both}
use Rattle.std.specs.Str.{bytes_eq}
use Rattle.std.proofs.lemmas.Bool.{and_parts, eqb-true}
use Rattle.ar_lines.specs.Forms.{bytes_of_hex}
use Rattle.ar_lines.specs.Lines.{is_text, words_of}
use Rattle.ar_lines.specs.declared.refusal.Reason.{Reason}
use Rattle.ar_statement.specs.Claims.{authority_party, is_party, log_party, role_number}
use Rattle.ar_statement.specs.declared.party.Party.{Party}
use Rattle.ar_statement.proofs.Statements.{same_role}
use Rattle.authority_keeper.specs.declared.order.AuthorityOrder.{AuthorityOrder}
use Rattle.authority_keeper.specs.declared.order.AuthorityOrder.TheVariants as orders
use Rattle.log_keeper.specs.declared.order.LogOrder.{LogOrder}
use Rattle.log_keeper.specs.declared.order.LogOrder.TheVariants as log_orders
use Rattle.script_text.specs.Rows.{read_of}
use Rattle.script_text.specs.Written.{text_of_line}
use Rattle.script_text.specs.declared.line.EventLine.{EventLine}
use Rattle.script_text.specs.declared.line.EventLine.TheVariants as events
use Rattle.script_text.specs.declared.line.Line.{Line}
use Rattle.script_text.specs.declared.line.Line.TheVariants as lines
use Rattle.script_text.proofs.LinesWritten.{line_written}
use Rattle.party_desk.specs.Asking.{LessonWords, Wanted, authority_asked, by_words, for_own, heard_in, heard_of, log_asked, message_or, order_for_authority, order_for_log, own_lesson, to_forget, to_learn, wanted_by}
use Rattle.party_desk.specs.Written.{order_text}
use Rattle.party_desk.specs.declared.reading.Heard.{Heard}
use Rattle.party_desk.specs.declared.reading.Heard.TheVariants as heard
use Rattle.party_desk.specs.declared.unread.Cause.{Cause}
use Rattle.party_desk.specs.declared.unread.Cause.TheVariants as cause
use Rattle.party_desk.proofs.Lessons.{is_lesson, wants_some}

-- ---- what is heard of a script is the line of it

-- what happens is what a line of a script says
event_alone : (read : Result (Option Line) Reason) (hex : Option (List ℕ)) (event : EventLine) → message_or (heard_of read) hex ≡ Ok (heard.Event event) → read ≡ Ok (Some (lines.Event event))
event_alone read (Some bytes) event h = absurd cc
event_alone (Ok None) None event h = absurd cc
event_alone (Ok (Some (lines.Event one))) None event h = let same : one ≡ event = cc in ap (λ (e : EventLine). Ok (Some (lines.Event e))) same
event_alone (Ok (Some line)) None event h = absurd cc
event_alone (Err reason) None event h = absurd cc

heard_event : (line : List ℕ) (event : EventLine) → heard_in line ≡ Ok (heard.Event event) → read_of line ≡ Ok (Some (lines.Event event))
heard_event [] event h = absurd cc
heard_event (byte ∷ rest) event h = event_alone (read_of (byte ∷ rest)) (bytes_of_hex (byte ∷ rest)) event h

-- an event that asks an order, with its line
record Says {Order : Type 0} (make : EventLine → Result Order Cause) (order : Order) (line : List ℕ) : Type 0 where
  event : EventLine
  asks : make event ≡ Ok order
  written : text_of_line (lines.Event event) ≡ line

-- an order that is not to take a message is that of an event
by_event : {Order : Type 0} (take : List ℕ → Order) (make : EventLine → Result Order Cause) (line : List ℕ) (order : Order) → ((bytes : List ℕ) → take bytes ≡ order → ⊥)
    → wanted_by take make (heard_in line) ≡ Ok (Some order) → Says make order line
by_event {Order = Order} take make line order other h = by (heard_in line) refl h
  where
    by : (said : Result Heard Cause) → heard_in line ≡ said → wanted_by take make said ≡ Ok (Some order) → Says make order line
    by (Ok heard.Nothing) is e = absurd cc
    by (Ok (heard.Message bytes)) is e = let same : take bytes ≡ order = cc in absurd (other bytes same)
    by (Ok (heard.Event event)) is e = record {
      event = event;
      asks = wants_some (make event) order e;
      written = line_written line (lines.Event event) (heard_event line event is);
    }
    by (Err why) is e = absurd cc

same_party : (one other : Party) → is_party one other ≡ true → one ≡ other
same_party one other e =
    let two = and_parts (eqb (role_number one.role) (role_number other.role)) (eqb one.number other.number) e in
    let role : one.role ≡ other.role = same_role one.role other.role (eqb-true (role_number one.role) (role_number other.role) two.0) in
    let number : one.number ≡ other.number = eqb-true one.number other.number two.1 in
    λ i. record { role = role i; number = number i }

-- an order that names a party is to that, and is the one that it would be
owned : {Order : Type 0} (own named : Party) (one order : Order) → for_own own named one ≡ Ok order → (named ≡ own) × (one ≡ order)
owned own named one order h = by (is_party named own) refl h
  where
    by : (same : Bool) → is_party named own ≡ same → cond same (Ok one) (Err (cause.Absent 1)) ≡ Ok order → (named ≡ own) × (one ≡ order)
    by true is e = (same_party named own is, cc)
    by false is e = absurd cc

-- ---- logs

-- the word of an order that is not to take a message
abbrev log_word : LogOrder → List ℕ
log_word (log_orders.Take bytes) = []
log_word log_orders.Propose = codes "propose"
log_word log_orders.Pass = codes "pass"
log_word log_orders.Roll = codes "roll"

log_event : (number : ℕ) (event : EventLine) (order : LogOrder) → order_for_log number event ≡ Ok order → text_of_line (lines.Event event) ≡ order_text (log_word order) (log_party number)
log_event number (events.Propose named) order h =
    let o = owned (log_party number) (log_party named) log_orders.Propose order h in
    ap (order_text (codes "propose")) o.0 ∙ ap (λ (l : LogOrder). order_text (log_word l) (log_party number)) o.1
log_event number (events.Pass named) order h =
    let o = owned (log_party number) (log_party named) log_orders.Pass order h in
    ap (order_text (codes "pass")) o.0 ∙ ap (λ (l : LogOrder). order_text (log_word l) (log_party number)) o.1
log_event number (events.Roll who) order h =
    let o = owned (log_party number) who log_orders.Roll order h in
    ap (order_text (codes "roll")) o.0 ∙ ap (λ (l : LogOrder). order_text (log_word l) (log_party number)) o.1
log_event number event order h = absurd cc

log_line : (number : ℕ) (line : List ℕ) (order : LogOrder) → ((bytes : List ℕ) → log_orders.Take bytes ≡ order → ⊥) → log_asked number line ≡ Ok (Some order)
    → line ≡ order_text (log_word order) (log_party number)
log_line number line order other h =
    let said = by_event log_orders.Take (order_for_log number) line order other h in sym said.written ∙ log_event number said.event order said.asks

pub only_propose : (number : ℕ) (line : List ℕ) → log_asked number line ≡ Ok (Some log_orders.Propose) → line ≡ order_text (codes "propose") (log_party number)
only_propose number line h = log_line number line log_orders.Propose (λ bytes e. cc) h

pub only_pass : (number : ℕ) (line : List ℕ) → log_asked number line ≡ Ok (Some log_orders.Pass) → line ≡ order_text (codes "pass") (log_party number)
only_pass number line h = log_line number line log_orders.Pass (λ bytes e. cc) h

pub only_log_roll : (number : ℕ) (line : List ℕ) → log_asked number line ≡ Ok (Some log_orders.Roll) → line ≡ order_text (codes "roll") (log_party number)
only_log_roll number line h = log_line number line log_orders.Roll (λ bytes e. cc) h

-- ---- authorities

abbrev authority_word : AuthorityOrder → List ℕ
authority_word orders.Roll = codes "roll"
authority_word orders.Retire = codes "retire"
authority_word order = []

authority_event : (number : ℕ) (event : EventLine) (order : AuthorityOrder) → order_for_authority number event ≡ Ok order
    → text_of_line (lines.Event event) ≡ order_text (authority_word order) (authority_party number)
authority_event number (events.Roll who) order h =
    let o = owned (authority_party number) who orders.Roll order h in
    ap (order_text (codes "roll")) o.0 ∙ ap (λ (a : AuthorityOrder). order_text (authority_word a) (authority_party number)) o.1
authority_event number (events.Retire named) order h =
    let o = owned (authority_party number) (authority_party named) orders.Retire order h in
    ap (order_text (codes "retire")) o.0 ∙ ap (λ (a : AuthorityOrder). order_text (authority_word a) (authority_party number)) o.1
authority_event number event order h = absurd cc

-- what is asked by the words of a lesson is one
made_lesson : (make : LessonWords → AuthorityOrder) (all : (said : LessonWords) → is_lesson (make said) ≡ true) (read : Result LessonWords Cause) (order : AuthorityOrder)
    → result_map_both (λ said. Some (make said)) (λ why. why) read ≡ Ok (Some order) → is_lesson order ≡ true
made_lesson make all (Ok said) order h = let same : make said ≡ order = cc in ap is_lesson (sym same) ∙ all said
made_lesson make all (Err why) order h = absurd cc

-- so what is none is not asked by words
no_lesson : (number : ℕ) (words : List (List ℕ)) (other : Wanted AuthorityOrder) (order : AuthorityOrder) → is_lesson order ≡ false → by_words number words other ≡ Ok (Some order)
    → other ≡ Ok (Some order)
no_lesson number [] other order none h = h
no_lesson number (word ∷ words) other order none h = by (bytes_eq word (codes "teach")) (bytes_eq word (codes "forget")) h
  where
    learns : Wanted AuthorityOrder
    learns = result_map_both (λ said. Some (to_learn said)) (λ why. why) (own_lesson number words)

    forgets : Wanted AuthorityOrder
    forgets = result_map_both (λ said. Some (to_forget said)) (λ why. why) (own_lesson number words)

    both_ways : is_lesson order ≡ false → is_lesson order ≡ true → ⊥
    both_ways a b = cc

    by : (first second : Bool) → cond first learns (cond second forgets other) ≡ Ok (Some order) → other ≡ Ok (Some order)
    by true second e = absurd (both_ways none (made_lesson to_learn (λ said. refl) (own_lesson number words) order e))
    by false true e = absurd (both_ways none (made_lesson to_forget (λ said. refl) (own_lesson number words) order e))
    by false false e = e

authority_line : (number : ℕ) (line : List ℕ) (order : AuthorityOrder) → ((bytes : List ℕ) → orders.Take bytes ≡ order → ⊥) → is_lesson order ≡ false
    → authority_asked number line ≡ Ok (Some order) → line ≡ order_text (authority_word order) (authority_party number)
authority_line number line order other none h =
    let said = by_event orders.Take (order_for_authority number) line order other (by (is_text line) h) in sym said.written ∙ authority_event number said.event order said.asks
  where
    plain : Wanted AuthorityOrder
    plain = wanted_by orders.Take (order_for_authority number) (heard_in line)

    by : (text : Bool) → cond text (by_words number (words_of line) plain) plain ≡ Ok (Some order) → plain ≡ Ok (Some order)
    by true e = no_lesson number (words_of line) plain order none e
    by false e = e

pub only_authority_roll : (number : ℕ) (line : List ℕ) → authority_asked number line ≡ Ok (Some orders.Roll) → line ≡ order_text (codes "roll") (authority_party number)
only_authority_roll number line h = authority_line number line orders.Roll (λ bytes e. cc) refl h

pub only_retire : (number : ℕ) (line : List ℕ) → authority_asked number line ≡ Ok (Some orders.Retire) → line ≡ order_text (codes "retire") (authority_party number)
only_retire number line h = authority_line number line orders.Retire (λ bytes e. cc) refl h
