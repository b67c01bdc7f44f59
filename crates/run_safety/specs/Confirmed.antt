-- A confirmation of a run: an honest authority, the second of two, confirms what a log and a first authority did; and a client
-- judges what it sends.
use Rattle.std.specs.Prelude.{◌≡◌, ℕ, List, Some, Ok}
use Rattle.ar_message.specs.Messages.{message_in}
use Rattle.ar_message.specs.declared.message.Confirming.{Confirming}
use Rattle.ar_message.specs.declared.message.Message.TheVariants.{HalfConfirmed}
use Rattle.ar_message.specs.declared.unsigned.Unsigned.{Unsigned}
use Rattle.ar_world.specs.ar_nodes.Parties.{AuthorityNode}
use Rattle.ar_world.specs.ar_nodes.Pool.{Pooled}
use Rattle.ar_safety.specs.Accepting.{IsInTime, KnowsSigners, confirmer_of}
use Rattle.ar_world.specs.Finding.{authority_at, message_at}
use Rattle.ar_world.specs.State.{World}
use Rattle.authority_core.specs.ConfirmRows.{half_confirmed_row}
use Rattle.authority_core.specs.State.{AuthorityState}
use Rattle.client_rule.specs.Rule.{Asked}

-- In this world the authority is honest, the message is one that a log and a first authority confirmed, and the authority's row
-- answers Ok to it, with this to send.
pub record ConfirmsToo (w : World) (message number : ℕ) (node : AuthorityNode) (part : Confirming) (first_signature : List ℕ) (sent : Unsigned) : Type 0 where
  pub there : authority_at w number ≡ Some node
  pub pooled : Pooled
  pub has : message_at w message ≡ Some pooled
  pub reads : message_in pooled.bytes ≡ Ok (HalfConfirmed part first_signature)
  pub later : AuthorityState
  pub answers : half_confirmed_row node.state part first_signature ≡ Ok (later, sent)

-- A client asked for this name, in time; of the keys of the three signatures its directory knows those that the authority's
-- knows.
pub record AsksForIt (node : AuthorityNode) (part : Confirming) (first_signature : List ℕ) (asked : Asked) : Type 0 where
  pub keys : KnowsSigners (confirmer_of node.state node.keys) part first_signature asked.keys
  pub timely : IsInTime part asked
