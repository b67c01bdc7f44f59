use Rattle.std.proofs.Common.{◌&&◌, sym}
use Rattle.ar_statement.specs.Claims.{text_of}
use Rattle.ar_statement.specs.Claims as claims
use Rattle.cert_policy.specs.Terms.{CertTerms, cert_terms}
use Rattle.cert_policy.proofs.Least.{common_refuses}
use Rattle.ar_cert.specs.Judging.{is_signed}
use Rattle.ar_cert.proofs.judging.judge_plain.Goals as goal

pub returns-in-Err : goal.returns-in-Err
returns-in-Err c =
    let old : CertTerms = cert_terms c.args.old.now in
    let new : CertTerms = cert_terms c.args.new.now in
    sym (common_refuses old new c.args.endorsers.now (old.policy.keyed && is_signed c.args.key.now (text_of (claims.handover new.digest)) c.args.change.now.handover)
    c.args.pending c.in-Err.refusal (sym c.in-Err.ensures))
