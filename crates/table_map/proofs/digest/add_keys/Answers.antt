use Rattle.std.proofs.Common.{sym, subst}
use Rattle.std.proofs.lemmas.List.{append-nil}
use Rattle.sha2.specs.Hashers.{Holds256}
use Rattle.table_map.specs.Digests.{texts_below}
use Rattle.table_map.proofs.Hashing.{more-texts}
use Rattle.table_map.proofs.digest.add_keys.Goals as goal

pub loop-number-init : goal.loop-number-init
unfolding texts_below
loop-number-init c = λ m held. subst (Holds256 c.args.hasher.now) (sym (append-nil m)) held

pub loop-number-preserved : goal.loop-number-preserved
loop-number-preserved c = λ m held.
    more-texts c.add_key.new.hasher m c.args.directory.now c.args.role c.loop-number.number c.party.result c.party.ensures
    (c.add_key.ensures _ (c.loop-number.invariant m held))
