-- What honest logs and authorities have of their own, and what others are to know and to see of them.
use Rattle.std.specs.Prelude.{◌≡◌, ℕ, ◌+◌, ◌<◌, ◌^◌, List, IsTrue, length, map, slice_get, Contains, Option, Some, Ok}
use Rattle.ar_base.specs.Prefixes.{BeginsWith}
use Rattle.ar_statement.specs.Ranges.{is_witness}
use Rattle.ar_statement.specs.declared.party.Party.{Party}
use Rattle.ar_statement.specs.declared.text.SeenText.{SeenText}
use Rattle.key_roll.specs.Book.{IsRollBook, RollBook, texts_of}
use Rattle.key_roll.specs.Entry.{roll_text}
use Rattle.key_roll.specs.Later.{IsLaterBook}
use Rattle.lms_tree.specs.Key.{public_of}
use Rattle.lms_tree.specs.KeyParts.{KeyParts}
use Rattle.lms_tree.specs.PublicKey.{HasWidths}
use Rattle.lms_tree.specs.declared.public_key.LmsPublic.{LmsPublic}
use Rattle.party_keys.specs.Directory.{Directory, keys_of}
use Rattle.party_keys.specs.Learning.{Announced}
use Rattle.party_keys.specs.Signatures.{answer_under}
use Rattle.party_keys.specs.Signers.{Claimed}

-- what is told here of an honest log or authority: the keys that it knows of all parties, what it saw of them, its own key of
-- each generation, and its book
pub record PartyParts : Type 0 where
  pub knows : Directory
  pub saw : List SeenText
  pub ring : List KeyParts
  pub book : RollBook

-- the honest parties, as a function: none where a party is dishonest, or no log and no authority
abbrev pub HonestParties : Type 0
HonestParties = Party → Option PartyParts

-- a party's real keys: the public key of each key of its own, by generation
abbrev pub real_keys : PartyParts → List LmsPublic
real_keys p = map public_of p.ring

-- each later key of a party was announced: in its book stands the Roll that says so, at the generation before
abbrev pub HasRolls : Party → RollBook → List KeyParts → Type 0
HasRolls party book keys = (g : ℕ) (key : KeyParts) → slice_get keys (g + 1) ≡ Some key → Contains (texts_of book) (roll_text party g (public_of key))

-- a party as it is later: its book, its keys and what it saw have more behind what they had
pub record Grows (old new : PartyParts) : Type 0 where
  pub book : IsLaterBook old.book new.book
  pub ring : BeginsWith new.ring old.ring
  pub saw : BeginsWith new.saw old.saw

-- an honest party: its book is sound, it has a key for each generation of the book, and each later one was announced
pub record IsOwned (party : Party) (p : PartyParts) : Type 0 where
  pub sound : IsRollBook p.book
  pub many : length p.ring ≡ p.book.newest + 1
  pub rolls : HasRolls party p.book p.ring

-- ---- what others know and see

-- what a message may announce: the next key of a log or an authority
pub record IsNoted (a : Announced) : Type 0 where
  pub number : a.party.number < 2 ^ 16
  pub witness : IsTrue (is_witness a.party.role)
  pub generation : a.generation < 2 ^ 32
  pub widths : HasWidths a.key

-- the signature of a claim is valid under these keys of its party: under the one of the generation that it names
abbrev pub IsValidBy : List LmsPublic → Claimed → Type 0
IsValidBy keys c = answer_under keys c.party c.text c.signature ≡ Ok tt

-- No claim is forged: where its signature is valid under its party's real keys, and the party is honest, the party's book has
-- its text.
abbrev pub NoneForged : HonestParties → List Claimed → Type 0
NoneForged own claims = (c : Claimed) (p : PartyParts) → own c.party ≡ Some p → Contains claims c → IsValidBy (real_keys p) c → Contains (texts_of p.book) c.text

-- of each honest party's keys a directory has none but real ones, by generation
abbrev pub KnowsReal : HonestParties → Directory → Type 0
KnowsReal own keys = (party : Party) (p : PartyParts) → own party ≡ Some p → BeginsWith (real_keys p) (keys_of keys party)

-- of what was seen of honest parties, each text stands in the party's book
abbrev pub SawSigned : HonestParties → List SeenText → Type 0
SawSigned own seen = (t : SeenText) (p : PartyParts) → own t.party ≡ Some p → Contains seen t → Contains (texts_of p.book) t.text
