-- The pool: all messages of a world, numbered from 1 in the order in which they came.
use Rattle.std.specs.Prelude.{ℕ, zero, suc, ◌+◌, ◌%◌, ◌==◌, if◌then◌else◌, List, map, [], ◌∷◌, length, slice_get, slice_index, slice_set, sum_by, Option, Some, None, ◌++◌}
use Rattle.ar_message.specs.Sending.{Letter}
use Rattle.ar_message.specs.declared.address.Address.{Address}
use Rattle.ar_message.specs.declared.address.Address.TheVariants as address
use Rattle.ar_statement.specs.Claims.{has_party}
use Rattle.ar_statement.specs.declared.party.Party.{Party}
use Rattle.report_text.specs.declared.happening.Happening.{Happening}
use Rattle.report_text.specs.declared.happening.Happening.TheVariants.{Entered}
use Rattle.report_text.specs.declared.happening.Kind.{Kind}
use Rattle.report_text.specs.declared.happening.Kind.TheVariants as kind
use Rattle.report_text.specs.declared.happening.Target.{Target}
use Rattle.report_text.specs.declared.happening.Target.TheVariants as target
use Rattle.sha2.specs.Sha256.{sha256}

-- a message of the pool: its kind, who sent it, to whom it goes, its bytes, and to whom it was delivered
pub record Pooled : Type 0 where
  pub kind : Kind
  pub from : Option Party
  pub to : Target
  pub bytes : List ℕ
  pub delivered : List Party

-- ---- numbers

-- the item with a number, where the first has the number 1
abbrev pub numbered : {X : Type 0} → List X → ℕ → Option X
numbered xs zero = None
numbered xs (suc place) = slice_get xs place

-- the list with this item in the place of the one with a number
abbrev pub set_numbered : {X : Type 0} → List X → ℕ → X → List X
set_numbered xs zero x = xs
set_numbered xs (suc place) x = slice_set xs place x

-- ---- bytes

-- Numbers as the bytes of a message: each below 256. Those that are bytes stay as they are, and so all that the program puts
-- into the pool does; a definition speaks of lists of numbers, and so of a message each is a byte.
unfoldable pub in_bytes : List ℕ → List ℕ
in_bytes numbers = map (λ n. n % 256) numbers

-- ---- what parties send

-- to whom a message goes that a party sends
abbrev pub target_of : Address → Target
target_of address.Logs = target.Logs
target_of (address.One party) = target.One party

-- the kind with a number, which is the first byte of a message
abbrev pub kind_with : ℕ → Kind
kind_with number =
    if number == 1 then kind.EndorseAsk else
    if number == 2 then kind.Endorsed else
    if number == 3 then kind.Submit else
    if number == 4 then kind.Propose else
    if number == 5 then kind.Ballot else
    if number == 6 then kind.StatusNote else
    if number == 7 then kind.Decision else
    if number == 8 then kind.SkipNote else
    if number == 9 then kind.ConfirmAsk else
    if number == 10 then kind.LogConfirmed else
    if number == 11 then kind.HalfConfirmed else
    if number == 12 then kind.Confirmation else
    if number == 13 then kind.RollNote else
    kind.Raw

-- a message that a party sends, before it is delivered to anyone
abbrev pub pooled_from : Party → Letter → Pooled
pooled_from sender letter = record {
  kind = kind_with (slice_index letter.bytes 0);
  from = Some sender;
  to = target_of letter.to;
  bytes = in_bytes letter.bytes;
  delivered = [];
}

-- bytes that a script composed
abbrev pub raw : Option Party → Target → List ℕ → Pooled
raw sender to bytes = record { kind = kind.Raw; from = sender; to = to; bytes = in_bytes bytes; delivered = [] }

-- ---- what is printed

-- a message enters the pool with this number
abbrev pub entry_of : ℕ → Pooled → Happening
entry_of number p = Entered number p.kind p.from p.to (length p.bytes) (sha256 p.bytes)

-- messages enter the pool, the first with this number
abbrev pub entries_from : ℕ → List Pooled → List Happening
entries_from number [] = []
entries_from number (p ∷ more) = entry_of number p ∷ entries_from (number + 1) more

-- ---- how much there is

-- how many bytes the messages have together
abbrev pub bytes_in : List Pooled → ℕ
bytes_in pool = sum_by (λ p. length p.bytes) pool

-- how many messages, and how many bytes, the pool holds when it is full
abbrev pub most_messages : ℕ
most_messages = 65528

abbrev pub most_pool_bytes : ℕ
most_pool_bytes = 260046848

-- ---- what is delivered

-- a message that was delivered to a party, now or before
abbrev pub delivered_to : Party → Pooled → Pooled
delivered_to who p = if has_party p.delivered who then p else record p { delivered = p.delivered ++ who ∷ [] }
