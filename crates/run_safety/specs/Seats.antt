-- Who sits where in a world, and what its clients hold.
use Rattle.std.specs.Prelude.{◌≡◌, ℕ, ◌+◌, ◌<◌, List, All, length, is_none, slice_get, Option, Some}
use Rattle.std.specs.List.{filter_map}
use Rattle.ar_council.specs.Council.{council_of}
use Rattle.ar_safety.specs.Held.{IsAccepting, verdict_on}
use Rattle.ar_statement.specs.Claims.{authority_party, has_party, log_party}
use Rattle.ar_statement.specs.declared.party.Party.{Party}
use Rattle.ar_world.specs.ar_nodes.Finding.{honest_in}
use Rattle.ar_world.specs.ar_nodes.Parties.{AuthorityNode, LogNode}
use Rattle.ar_world.specs.Records.{held_of}
use Rattle.ar_world.specs.State.{World}
use Rattle.lms_tree.specs.Key.{public_of}
use Rattle.lms_tree.specs.KeyParts.{KeyParts}
use Rattle.lms_tree.specs.declared.public_key.LmsPublic.{LmsPublic}
use Rattle.party_keys.specs.Directory.{Directory, keys_of}

-- of the keys that are known of a party the first is that of its own first key
pub record KnowsFirst (known : List LmsPublic) (keys : List KeyParts) : Type 0 where
  pub first : KeyParts
  pub is : slice_get keys 0 ≡ Some first
  pub same : slice_get known 0 ≡ Some (public_of first)

-- an honest log is the one with the number of its place, its council is that of the directory with which all began, and its first
-- key is the one that this directory knows
pub record IsLogOf (genesis : Directory) (place : ℕ) (node : LogNode) : Type 0 where
  pub number : node.core.log.me ≡ place
  pub council : node.core.log.council ≡ council_of genesis
  pub key : KnowsFirst (keys_of genesis (log_party place)) node.keys

-- the same of an honest authority
pub record IsAuthorityOf (genesis : Directory) (place : ℕ) (node : AuthorityNode) : Type 0 where
  pub number : node.state.me ≡ place
  pub council : council_of node.state.keys ≡ council_of genesis
  pub key : KnowsFirst (keys_of genesis (authority_party place)) node.keys

-- There are as many parties of a role as the council has; each that is honest is the one with the number of its place; and the
-- place of each other is empty, which is one of the dishonest ones.
pub record AreSeated {X : Type 0} (party : ℕ → Party) (dishonest : List Party) (count : ℕ) (sits : ℕ → X → Type 0) (parties : List (Option X)) : Type 0 where
  pub all : length parties ≡ count
  pub own : (number : ℕ) (node : X) → honest_in parties number ≡ Some node → sits number node
  pub empty : (number : ℕ) → number < count → is_none (honest_in parties number) ≡ has_party dishonest (party number)

-- how many of these are honest
abbrev pub honest_count : {X : Type 0} → List (Option X) → ℕ
honest_count parties = length (filter_map (λ node. node) parties)

-- All logs and authorities are seated, by the directory with which all began, whose council is that of the clients' directory, and
-- whose keys clients still know; each is honest or one of the dishonest ones, of which none is another party, and none is listed
-- twice; and clients accepted what they hold, by their directory as it is.
pub record IsSeated (w : World) : Type 0 where
  pub council : council_of w.clients ≡ council_of w.genesis
  pub known : (who : Party) (key : LmsPublic) → slice_get (keys_of w.genesis who) 0 ≡ Some key → slice_get (keys_of w.clients who) 0 ≡ Some key
  pub logs : AreSeated log_party (held_of w).dishonest (length w.genesis.logs) (IsLogOf w.genesis) w.logs
  pub authorities : AreSeated authority_party (held_of w).dishonest (length w.genesis.authorities) (IsAuthorityOf w.genesis) w.authorities
  pub whole : length (held_of w).dishonest + (honest_count w.logs + honest_count w.authorities) ≡ length w.logs + length w.authorities
  pub taken : All (λ t. IsAccepting (verdict_on w.clients t)) w.judged
