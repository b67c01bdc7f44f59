-- How many keys of honest parties clients know, of a world of a run.
use Rattle.std.specs.Prelude.{◌≡◌, ◌≤◌, length, Some}
use Rattle.ar_statement.specs.declared.party.Party.{Party}
use Rattle.run_safety.specs.ar_world.State.{World}
use Rattle.party_keys.specs.Directory.{keys_of}
use Rattle.run_safety.specs.Own.{PartyParts}
use Rattle.run_safety.specs.Unforged.{parts_of}

-- clients know as many keys of each honest log and authority as it has in its ring
abbrev pub KnowAsMany : World → Type 0
KnowAsMany w = (party : Party) (p : PartyParts) → parts_of w party ≡ Some p → length p.ring ≤ length (keys_of w.clients party)

-- no honest log or authority went on to a second key
abbrev pub NoneRolled : World → Type 0
NoneRolled w = (party : Party) (p : PartyParts) → parts_of w party ≡ Some p → length p.ring ≡ 1
