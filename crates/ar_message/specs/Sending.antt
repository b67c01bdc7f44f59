-- A message that is sent.
use Rattle.std.specs.Prelude.{ℕ, List}
use Rattle.ar_message.specs.declared.address.Address.{Address}

-- to whom a message goes, and its text
pub record Letter : Type 0 where
  pub to : Address
  pub bytes : List ℕ
