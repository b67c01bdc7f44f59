-- The parts of the bytes where a record may stand.
use Rattle.std.specs.Prelude.{◌≡◌, ◌≤◌, ℕ, List, ◌++◌, length}
use Rattle.std.specs.Int.{w32, from_be_bytes}
use Rattle.ar_bytes.specs.RoundTrip.{number_text}
use Rattle.chained_journal.specs.Journal.{complement, filling, wanting}

-- one behind the other they are these bytes, and each is as long as it is in a record of the length that stands first
pub record ArePartsOf (bytes len complement text filling chain behind : List ℕ) : Type 0 where
  pub are : bytes ≡ len ++ (complement ++ (text ++ (filling ++ (chain ++ behind))))
  pub len_size : length len ≡ 4
  pub complement_size : length complement ≡ 4
  pub text_size : length text ≡ from_be_bytes w32 len
  pub filling_size : length filling ≡ wanting (length text)
  pub chain_size : length chain ≡ 32
  pub some : 8 ≤ length behind

-- they are as they are in the record of the text
pub record AreSpelled (lacking text zeros chain next : List ℕ) : Type 0 where
  pub lacking_is : lacking ≡ number_text w32 (complement (length text))
  pub zeros_are : zeros ≡ filling (length text)
  pub chain_is : chain ≡ next
