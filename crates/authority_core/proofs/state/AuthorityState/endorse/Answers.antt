use Rattle.std.proofs.Common.{sym, subst}
use Rattle.ar_base.specs.Bytes.{IsDigest}
use Rattle.ar_cert.proofs.Digests.{digest-fits}
use Rattle.authority_core.specs.State.{AuthorityState}
use Rattle.authority_core.specs.declared.entries.Approved.{Approved}
use Rattle.authority_core.proofs.Keeping.{endorse-keeps}
use Rattle.authority_core.proofs.Rows.{entered-keeps}
use Rattle.authority_core.proofs.state.AuthorityState.endorse.Goals as goal

pub invariant_of-self : goal.invariant_of-self
invariant_of-self g c =
    let s : AuthorityState = record { me = c.self.inside.me; keys = c.self.inside.keys; signature_len = c.self.inside.signature_len; past = c.self.inside.past } in
    entered-keeps s c.endorse.result c.endorse.new.self _ _ c.self.invariant c.endorse.ensures.row
    (endorse-keeps s c.asked_of-asked.result c.self.invariant (subst (λ (a : Approved). IsDigest a.certificate) (sym c.asked_of-asked.ensures) (digest-fits c.args.cert)))
