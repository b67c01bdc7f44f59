use Rattle.std.proofs.Common.{rules, Ok, Err, Result, sym, ap, ◌∙◌, subst}
use Rattle.authority_core.specs.declared.refusal.AuthorityRefusal.{AuthorityRefusal}
use Rattle.ar_nodes.specs.Acting.{RepliesBySome, Reply, authority_took}
use Rattle.ar_nodes.specs.Parties.{AuthorityNode}
use Rattle.ar_nodes.specs.declared.fault.WorldFault.{WorldFault}
use Rattle.ar_nodes.proofs.Nodes.{authority-with, reply_of, sent_some, refused_some, took_nothing, took_so}
use Rattle.ar_nodes.proofs.parties.HonestAuthority.take.Goals.{in-Ok, in-Err-Memory, in-Err}
use Rattle.ar_nodes.proofs.parties.HonestAuthority.take.Goals as goal

pub returns-clause-row : goal.returns-clause-row
returns-clause-row g c =
    let old : AuthorityNode = authority-with g.C.OwnerCheck.told g.C.OwnerCheck.answers c.self.inside.authority.core.state c.self.inside.authority.ring.keys c.self.inside.authority.core.check in
    let new : AuthorityNode = authority-with g.C.OwnerCheck.told g.C.OwnerCheck.answers c.answer.new.authority.core.state c.answer.new.authority.ring.keys c.answer.new.authority.core.check in
    subst (λ (n : AuthorityNode). RepliesBySome c.match-answer.result n new (λ says. authority_took says n c.args.bytes.now)) c.self.view_is
    (elim c.match-answer.branch [
      | in-Ok w ↦ subst (λ (r : Result Reply WorldFault). RepliesBySome r old new (λ says. authority_took says old c.args.bytes.now)) (sym w.result-is)
          (took_so _ _ _ _ _ _ _ _ _ c.answer.result (Ok w.in-Ok.sent) c.answer.ensures.checks (sent_some c.answer.result w.in-Ok.sent w.in-Ok.is) c.answer.ensures.row (ap (λ r. r.keys) c.answer.ensures.ring) (ap reply_of (sym w.in-Ok.is)))
      | in-Err-Memory w ↦ subst (λ (r : Result Reply WorldFault). RepliesBySome r old new (λ says. authority_took says old c.args.bytes.now)) (sym w.result-is)
          (took_nothing _ _ _ _ _ _ _ _ _ c.answer.result c.answer.ensures.checks (w.in-Err-Memory.is ∙ ap (λ (r : AuthorityRefusal). Err r) w.in-Err-Memory.field-0-is) c.answer.ensures.row (ap (λ r. r.keys) c.answer.ensures.ring))
      | in-Err w ↦ subst (λ (r : Result Reply WorldFault). RepliesBySome r old new (λ says. authority_took says old c.args.bytes.now)) (sym w.result-is)
          (took_so _ _ _ _ _ _ _ _ _ c.answer.result (Err w.authority_code.result) c.answer.ensures.checks (refused_some c.answer.result w.in-Err.refusal w.in-Err.is (search rules)) c.answer.ensures.row
          (ap (λ r. r.keys) c.answer.ensures.ring) (rw w.authority_code.ensures (ap reply_of (sym w.in-Err.is))))
    ])
