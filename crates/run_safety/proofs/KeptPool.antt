-- Each message of the pool is bytes, whatever comes behind it and whatever is noted of it.
use Rattle.std.proofs.Common.{◌≡◌, ℕ, zero, suc, List, [], ◌∷◌, ◌++◌, All, refl, arith, Option, Some, None, Ok, Err}
use Rattle.std.specs.Prelude.{map}
use Rattle.std.proofs.lemmas.List.Elements.{All-append, All-map, All-push, All-set}
use Rattle.ar_base.specs.Bytes.{AreBytes}
use Rattle.ar_message.specs.Sending.{Letter}
use Rattle.ar_world.proofs.ar_nodes.Bytes.{in_bytes-are}
use Rattle.ar_world.specs.ar_nodes.Acting.{Reply, bytes_of, delivered_by, noted_in, pool_behind, with_delivered}
use Rattle.ar_world.specs.ar_nodes.Pool.{Pooled, numbered, pooled_from, raw}
use Rattle.ar_statement.specs.declared.party.Party.{Party}
use Rattle.key_roll.proofs.Rings.{at-place}
use Rattle.report_text.specs.declared.happening.Target.{Target}

-- a message is bytes
abbrev pub IsBytes : Pooled → Type 0
IsBytes p = AreBytes p.bytes

pub sent-bytes : (who : Party) (letters : List Letter) → All IsBytes (map (pooled_from who) letters)
sent-bytes who letters = All-map IsBytes (pooled_from who) letters (λ k d less. in_bytes-are _)

pub behind-bytes : (pool : List Pooled) (who : Party) (letters : List Letter) → All IsBytes pool → All IsBytes (pool ++ map (pooled_from who) letters)
behind-bytes pool who letters all = All-append IsBytes pool (map (pooled_from who) letters) all (sent-bytes who letters)

pub raw-bytes : (pool : List Pooled) (from : Option Party) (to : Target) (bytes : List ℕ) → All IsBytes pool → All IsBytes (pool ++ raw from to bytes ∷ [])
raw-bytes pool from to bytes all = All-push IsBytes pool (raw from to bytes) all (in_bytes-are bytes)

pub reply-bytes : (pool : List Pooled) (who : Party) (reply : Reply) → All IsBytes pool → All IsBytes (pool_behind pool who reply)
reply-bytes pool who (Ok sent) all = behind-bytes pool who sent.messages all
reply-bytes pool who (Err code) all = all

-- one with a number
pub message-bytes : (pool : List Pooled) (number : ℕ) (p : Pooled) → All IsBytes pool → numbered pool number ≡ Some p → AreBytes p.bytes
message-bytes pool zero p all is = absurd cc
message-bytes pool (suc place) p all is = at-place IsBytes pool place p all is

pub delivered-bytes : (pool : List Pooled) (number : ℕ) → All IsBytes pool → AreBytes (bytes_of (numbered pool number))
delivered-bytes pool number all = by (numbered pool number) refl
  where
    by : (o : Option Pooled) → numbered pool number ≡ o → AreBytes (bytes_of o)
    by None is = λ i. omega arith
    by (Some p) is = message-bytes pool number p all is

pub noted-bytes : (pool : List Pooled) (number : ℕ) (who : Party) → All IsBytes pool → All IsBytes (noted_in pool number who)
noted-bytes pool number who all = by number (numbered pool number) (delivered_by who (numbered pool number)) refl
  where
    by : (n : ℕ) (o : Option Pooled) (delivered : List Party) → numbered pool n ≡ o → All IsBytes (with_delivered pool n o delivered)
    by n None delivered is = all
    by zero (Some p) delivered is = all
    by (suc place) (Some p) delivered is = All-set IsBytes pool place (record p { delivered = delivered }) (at-place IsBytes pool place p all is) all
