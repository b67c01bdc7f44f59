use Rattle.std.proofs.Common.{rules, ◌≡◌, Some}
use Rattle.std.specs.Prelude.{slice_get}
use Rattle.party_keys.specs.Directory.{keys_of}
use Rattle.arpki_party.proofs.FirstOwn.{begins_here}
use Rattle.arpki_party.proofs.opening.may_have.Goals as goal

pub returns-in-Some-clause-own : goal.returns-in-Some-clause-own
returns-in-Some-clause-own c same witness =
    let known : slice_get (keys_of c.args.directory.now c.args.party) 0 ≡ Some c.in-Some.known.now = search rules in
    begins_here (keys_of c.args.directory.now c.args.party) c.in-Some.known.now c.args.key.now known (c.is_same.ensures.key same)
