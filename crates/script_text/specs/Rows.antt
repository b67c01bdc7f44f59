-- The table of the lines of a script: the first word of each line, its fields and their forms, and what it means.
use Rattle.std.specs.Prelude.{ℕ, Bool, if◌then◌else◌, List, [], ◌∷◌, ◌++◌, codes, Option, None, Result, Ok, Err}
use Rattle.std.specs.List.{list_any}
use Rattle.std.specs.Str.{bytes_eq}
use Rattle.ar_lines.specs.Forms.{name_of, number_in, number_of, sized_of_hex}
use Rattle.ar_lines.specs.Lines.{is_text, words_of}
use Rattle.ar_lines.specs.declared.refusal.Reason.{Reason}
use Rattle.ar_lines.specs.declared.refusal.Reason.TheVariants.{Text}
use Rattle.ar_statement.specs.declared.party.Role.TheVariants as role
use Rattle.ar_lines.specs.Parties.{party_of}
use Rattle.script_text.specs.Forms.{asks_of, judged_of, lms_of, new_owner_of, number_with, ots_of, party_count_of, quorum_of, receiver_of, witness_of}
use Rattle.script_text.specs.Grammar.{Fields, Row, as_line, bound, five, four, is_skipped, line_with, one, pieces, plain, policy, some_line, three, two}
use Rattle.script_text.specs.declared.keyword.Keyword.{Keyword}
use Rattle.script_text.specs.declared.keyword.Keyword.TheVariants as keyword
use Rattle.script_text.specs.declared.line.EventLine.{EventLine}
use Rattle.script_text.specs.declared.line.EventLine.TheVariants as event
use Rattle.script_text.specs.declared.line.Line.{Line}
use Rattle.script_text.specs.declared.line.Line.TheVariants as line
use Rattle.script_text.specs.declared.line.SetupLine.{SetupLine}
use Rattle.script_text.specs.declared.line.SetupLine.TheVariants as setup

-- a row
abbrev pub row : List ℕ → Fields Line → Row
row word fields = record { word = word; fields = fields }

-- a row of the setup
abbrev pub setup_row : List ℕ → Fields SetupLine → Row
setup_row word fields = row word (λ words. as_line line.Setup (fields words))

-- a row of what happens
abbrev pub event_row : List ℕ → Fields EventLine → Row
event_row word fields = row word (λ words. as_line line.Event (fields words))

-- the number of a log, of an authority, of an owner, of a client
abbrev pub log_of : List ℕ → Option ℕ
log_of = number_with role.LogServer

abbrev pub authority_of : List ℕ → Option ℕ
authority_of = number_with role.Authority

abbrev pub owner_of : List ℕ → Option ℕ
owner_of = number_with role.Owner

abbrev pub client_of : List ℕ → Option ℕ
client_of = number_with role.Client

-- ---- the setup

-- `secret <64 hex>`: the secret of which the keys of all parties are made
abbrev pub secret : Row
secret = setup_row (codes "secret") (one (sized_of_hex 32) setup.Secret)

-- `keys <lms> <ots>`: the types of the keys of logs and authorities
abbrev pub keys : Row
keys = setup_row (codes "keys") (bound lms_of ots_of setup.Keys)

-- `logs <N> <q>`: so many logs, and how many make a quorum
abbrev pub logs : Row
logs = setup_row (codes "logs") (bound party_count_of quorum_of setup.Logs)

-- `authorities <M>`: so many authorities
abbrev pub authorities : Row
authorities = setup_row (codes "authorities") (one party_count_of setup.Authorities)

-- `dishonest <L or A>`: the party is dishonest from here on
abbrev pub dishonest : Row
dishonest = setup_row (codes "dishonest") (one witness_of setup.Dishonest)

-- ---- owners, and what authorities know of them

-- `owner <D>`: a new owner
abbrev pub owner : Row
owner = event_row (codes "owner") (one new_owner_of event.Owner)

-- `teach <A> <name> <D>`: the check of the authority learns that the name is the owner's
abbrev pub teach : Row
teach = event_row (codes "teach") (three authority_of name_of owner_of event.Teach)

-- `forget <A> <name> <D>`: the check of the authority forgets it
abbrev pub forget : Row
forget = event_row (codes "forget") (three authority_of name_of owner_of event.Forget)

-- `retire <A>`: the authority drops its check
abbrev pub retire : Row
retire = event_row (codes "retire") (one authority_of event.Retire)

-- ---- drafts of certificates

-- `register <D> <name> <policy> <asks>`: the owner drafts the first certificate of a name
abbrev pub register : Row
register = event_row (codes "register") (policy owner_of name_of event.Register)

-- `update <D> <c> <policy> <asks>`: the owner drafts the certificate behind draft c
abbrev pub update : Row
update = event_row (codes "update") (policy owner_of number_of event.Update)

-- `revoke <D> <c> <asks>`: the owner drafts the one behind draft c by which its name is revoked
abbrev pub revoke : Row
revoke = event_row (codes "revoke") (three owner_of number_of asks_of event.Revoke)

-- `handover <D> <c>`: the owner hands its name over to draft c
abbrev pub handover : Row
handover = event_row (codes "handover") (two owner_of number_of event.Handover)

-- `object <D> <c>`: the owner objects to draft c
abbrev pub object : Row
object = event_row (codes "object") (two owner_of number_of event.Object)

-- `submit <c>`: draft c is submitted to the logs
abbrev pub submit : Row
submit = event_row (codes "submit") (one number_of event.Submit)

-- ---- orders to logs and authorities

-- `propose <L>`
abbrev pub propose : Row
propose = event_row (codes "propose") (one log_of event.Propose)

-- `pass <L>`
abbrev pub pass : Row
pass = event_row (codes "pass") (one log_of event.Pass)

-- `roll <L or A>`: the party goes on to its next key
abbrev pub roll : Row
roll = event_row (codes "roll") (one witness_of event.Roll)

-- ---- messages and clients

-- `learn <m>`: the clients' directory takes message m
abbrev pub learn : Row
learn = event_row (codes "learn") (one number_of event.Learn)

-- `ask <L> <name> <A> <A> <C>`: the client asks the log for the name
abbrev pub ask : Row
ask = event_row (codes "ask") (five log_of name_of authority_of authority_of client_of event.Ask)

-- `deliver <m> <party>`: message m goes to the party
abbrev pub deliver : Row
deliver = event_row (codes "deliver") (two number_of party_of event.Deliver)

-- `flush`: all messages are delivered
abbrev pub flush : Row
flush = event_row (codes "flush") (plain event.Flush)

-- `judge <m or last> <name> <now> <age>`: a client judges a message, in epoch `now` from 1 on
abbrev pub judge : Row
judge = event_row (codes "judge") (four judged_of name_of (number_in 1 0xffff_ffff_ffff_ffff) number_of event.Judge)

-- ---- bytes that are composed, and bursts

-- `sign <party> <pieces>`: the dishonest party signs the bytes
abbrev pub sign : Row
sign = event_row (codes "sign") (pieces party_of event.Sign)

-- `inject <party or logs> <pieces>`: the bytes become a message
abbrev pub inject : Row
inject = event_row (codes "inject") (pieces receiver_of event.Inject)

-- `burst`: deliveries that many threads make begin
abbrev pub burst : Row
burst = row (codes "burst") (plain line.Burst)

-- `end`: they end
abbrev pub end : Row
end = row (codes "end") (plain line.End)

-- ---- the table

-- the rows of the setup
abbrev pub setup_rows : List Row
setup_rows = secret ∷ keys ∷ logs ∷ authorities ∷ dishonest ∷ []

-- the rows of owners, and of what authorities know of them
abbrev pub owners_rows : List Row
owners_rows = owner ∷ teach ∷ forget ∷ retire ∷ []

-- the rows of drafts of certificates
abbrev pub drafts_rows : List Row
drafts_rows = register ∷ update ∷ revoke ∷ handover ∷ object ∷ submit ∷ []

-- the rows of orders to logs and authorities
abbrev pub orders_rows : List Row
orders_rows = propose ∷ pass ∷ roll ∷ []

-- the rows of messages and clients
abbrev pub messages_rows : List Row
messages_rows = learn ∷ ask ∷ deliver ∷ flush ∷ judge ∷ []

-- the rows of bytes that are composed, and of bursts
abbrev pub bytes_rows : List Row
bytes_rows = sign ∷ inject ∷ burst ∷ end ∷ []

-- all rows
abbrev pub table : List Row
table = setup_rows ++ (owners_rows ++ (drafts_rows ++ (orders_rows ++ (messages_rows ++ (bytes_rows)))))

-- the row of a first word
abbrev pub row_of : Keyword → Row
row_of keyword.Secret = secret
row_of keyword.Keys = keys
row_of keyword.Logs = logs
row_of keyword.Authorities = authorities
row_of keyword.Dishonest = dishonest
row_of keyword.Owner = owner
row_of keyword.Teach = teach
row_of keyword.Forget = forget
row_of keyword.Retire = retire
row_of keyword.Register = register
row_of keyword.Update = update
row_of keyword.Revoke = revoke
row_of keyword.Handover = handover
row_of keyword.Object = object
row_of keyword.Submit = submit
row_of keyword.Propose = propose
row_of keyword.Pass = pass
row_of keyword.Roll = roll
row_of keyword.Learn = learn
row_of keyword.Ask = ask
row_of keyword.Deliver = deliver
row_of keyword.Flush = flush
row_of keyword.Judge = judge
row_of keyword.Sign = sign
row_of keyword.Inject = inject
row_of keyword.Burst = burst
row_of keyword.End = end

-- whether one of these rows has the first word
abbrev pub has_word : List Row → List ℕ → Bool
has_word rows word = list_any (λ r. bytes_eq word r.word) rows

-- what a line of a script is read as: nothing where it is skipped; else the reason of its refusal is that some
-- byte is no text, or comes by its words
unfoldable pub read_of : List ℕ → Result (Option Line) Reason
read_of text =
    if is_skipped text then Ok None
    else (if is_text text then some_line (line_with table (words_of text)) else Err Text)
