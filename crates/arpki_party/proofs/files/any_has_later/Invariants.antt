-- None of the parties that were looked at has a next key.
use Rattle.std.proofs.Common.{◌≡◌, take, false}
use Rattle.std.specs.List.{list_any}
use Rattle.party_keys.specs.Directory.{role_keys}
use Rattle.arpki_party.specs.FirstKeys.{has_later}
use Rattle.arpki_party.proofs.files.any_has_later.Given as goal

abbrev pub invariant-loop-number : goal.invariant-loop-number
invariant-loop-number l = list_any has_later (take l.number (role_keys l.initial.directory l.role)) ≡ false
