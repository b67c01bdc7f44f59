use Rattle.std.proofs.Common.{arith, sym, subst}
use Rattle.ar_council.specs.Council.{council_of}
use Rattle.party_keys.specs.Directory.{Directory}
use Rattle.authority_core.specs.Honest.{IsOfHonestAuthority}
use Rattle.authority_core.proofs.Growing.{honest-fresh}
use Rattle.authority_core.proofs.state.AuthorityState.new.Goals as goal

pub invariant_of-result : goal.invariant_of-result
invariant_of-result c = record {
  number = omega arith;
  bytes = omega arith;
  honest = subst (λ (keys : Directory). IsOfHonestAuthority (council_of keys) c.args.me c.new-past.result) (sym c.new-known.ensures)
      (subst (IsOfHonestAuthority (council_of c.args.keys) c.args.me) (sym c.new-past.ensures) (honest-fresh (council_of c.args.keys) c.args.me c.args.leaves c.requires));
}
