-- What a line asks of a party that is a process.
use Rattle.std.specs.Prelude.{◌≡◌, ℕ, List, [], ◌∷◌, if◌then◌else◌, Option, None, Some, Result, Ok, Err, codes}
use Rattle.std.specs.Str.{bytes_eq}
use Rattle.std.specs.Result.{result_map_both}
use Rattle.ar_base.specs.Chaining.{◌>>=◌}
use Rattle.ar_lines.specs.Forms.{bytes_of_hex, name_of, sized_of_hex}
use Rattle.ar_lines.specs.Lines.{is_text, words_of}
use Rattle.ar_lines.specs.declared.refusal.Reason.{Reason}
use Rattle.ar_statement.specs.Claims.{authority_party, is_party, log_party}
use Rattle.ar_statement.specs.declared.party.Party.{Party}
use Rattle.authority_keeper.specs.declared.order.AuthorityOrder.{AuthorityOrder}
use Rattle.authority_keeper.specs.declared.order.AuthorityOrder.TheVariants as orders
use Rattle.log_keeper.specs.declared.order.LogOrder.{LogOrder}
use Rattle.log_keeper.specs.declared.order.LogOrder.TheVariants as log_orders
use Rattle.script_text.specs.Grammar.{Fields, three}
use Rattle.script_text.specs.Rows.{authority_of, read_of}
use Rattle.script_text.specs.declared.line.EventLine.{EventLine}
use Rattle.script_text.specs.declared.line.EventLine.TheVariants as events
use Rattle.script_text.specs.declared.line.Line.{Line}
use Rattle.script_text.specs.declared.line.Line.TheVariants as lines
use Rattle.party_desk.specs.declared.reading.Heard.{Heard}
use Rattle.party_desk.specs.declared.reading.Heard.TheVariants as heard
use Rattle.party_desk.specs.declared.unread.Cause.{Cause}
use Rattle.party_desk.specs.declared.unread.Cause.TheVariants as cause
use Rattle.party_desk.specs.declared.unread.Unread.{Unread}
use Rattle.party_desk.specs.declared.unread.Unread.TheVariants as unread

-- what a line comes to: it is refused, it is skipped, or it asks something
abbrev pub Wanted : Type 0 → Type 0
Wanted Order = Result (Option Order) Cause

-- a reader answered so, or wanted memory
abbrev pub ReadsAs : {T V : Type 0} → (T → V) → Result T Unread → Result V Cause → Type 0
ReadsAs view (Ok value) said = said ≡ Ok (view value)
ReadsAs view (Err (unread.Refused why)) said = said ≡ Err why
ReadsAs view (Err unread.Memory) said = Unit {0}

-- what is asked for certain
abbrev pub wants : {Order : Type 0} → Result Order Cause → Wanted Order
wants order = result_map_both Some (λ why. why) order

-- ---- what each party reads alike

-- a line of a script, for any party: what happens, where it is one of these
abbrev pub heard_of : Result (Option Line) Reason → Result Heard Cause
heard_of (Ok None) = Ok heard.Nothing
heard_of (Ok (Some (lines.Event event))) = Ok (heard.Event event)
heard_of (Ok (Some line)) = Err cause.Order
heard_of (Err reason) = Err (cause.Form reason)

-- a message where these are its bytes, else what the line is otherwise
abbrev pub message_or : Result Heard Cause → Option (List ℕ) → Result Heard Cause
message_or other (Some bytes) = Ok (heard.Message bytes)
message_or other None = other

-- what a line says to any party: one that is a word of hex is a message, and another is a line of a script
abbrev pub heard_in : List ℕ → Result Heard Cause
heard_in [] = Ok heard.Nothing
heard_in (byte ∷ rest) = message_or (heard_of (read_of (byte ∷ rest))) (bytes_of_hex (byte ∷ rest))

-- what a party is asked by that, which takes a message so, and makes these orders of what happens
abbrev pub wanted_by : {Order : Type 0} → (List ℕ → Order) → (EventLine → Result Order Cause) → Result Heard Cause → Wanted Order
wanted_by take order (Ok heard.Nothing) = Ok None
wanted_by take order (Ok (heard.Message bytes)) = Ok (Some (take bytes))
wanted_by take order (Ok (heard.Event event)) = wants (order event)
wanted_by take order (Err why) = Err why

-- an order that names this party, by its first word behind the line's own
abbrev pub for_own : {Order : Type 0} → Party → Party → Order → Result Order Cause
for_own own named order = if is_party named own then Ok order else Err (cause.Absent 1)

-- the fields behind a word that only such parties have
abbrev pub of_form : {T : Type 0} → Result T Reason → Result T Cause
of_form read = result_map_both (λ fields. fields) cause.Form read

-- ---- logs

-- what an event asks of the log with this number
abbrev pub order_for_log : ℕ → EventLine → Result LogOrder Cause
order_for_log number (events.Propose named) = for_own (log_party number) (log_party named) log_orders.Propose
order_for_log number (events.Pass named) = for_own (log_party number) (log_party named) log_orders.Pass
order_for_log number (events.Roll who) = for_own (log_party number) who log_orders.Roll
order_for_log number event = Err cause.Order

-- what a line asks of it
abbrev pub log_asked : ℕ → List ℕ → Wanted LogOrder
log_asked number line = wanted_by log_orders.Take (order_for_log number) (heard_in line)

-- ---- authorities

-- what an event asks of the authority with this number
abbrev pub order_for_authority : ℕ → EventLine → Result AuthorityOrder Cause
order_for_authority number (events.Roll who) = for_own (authority_party number) who orders.Roll
order_for_authority number (events.Retire named) = for_own (authority_party number) (authority_party named) orders.Retire
order_for_authority number event = Err cause.Order

-- what the check of an authority learns or forgets: whose check it is, a name, and the text of a key
pub record LessonWords : Type 0 where
  pub authority : ℕ
  pub name : List ℕ
  pub key : List ℕ

-- `<A> <name> <112 hex>`, the fields behind `teach` and `forget`
abbrev pub lesson_fields : Fields LessonWords
lesson_fields = three authority_of name_of (sized_of_hex 56) (λ number name key. record { authority = number; name = name; key = key })

-- the lesson that these words say to the authority with this number
abbrev pub own_lesson : ℕ → List (List ℕ) → Result LessonWords Cause
own_lesson number words = do
  said ← of_form (lesson_fields words)
  for_own (authority_party number) (authority_party said.authority) said

-- to learn it, or to forget it
abbrev pub to_learn : LessonWords → AuthorityOrder
to_learn said = orders.Learn said.name said.key

abbrev pub to_forget : LessonWords → AuthorityOrder
to_forget said = orders.Forget said.name said.key

-- what these words ask, where the first is that of a lesson
abbrev pub by_words : ℕ → List (List ℕ) → Wanted AuthorityOrder → Wanted AuthorityOrder
by_words number [] other = other
by_words number (word ∷ words) other =
    if bytes_eq word (codes "teach") then result_map_both (λ said. Some (to_learn said)) (λ why. why) (own_lesson number words)
    else (if bytes_eq word (codes "forget") then result_map_both (λ said. Some (to_forget said)) (λ why. why) (own_lesson number words) else other)

-- what a line asks of it
abbrev pub authority_asked : ℕ → List ℕ → Wanted AuthorityOrder
authority_asked number line =
    let plain = wanted_by orders.Take (order_for_authority number) (heard_in line)
    in if is_text line then by_words number (words_of line) plain else plain
