use Rattle.std.proofs.Common.{◌≡◌, ◌∙◌, IfSome, subst, sym}
use Rattle.ar_statement.specs.Claims.{text_of}
use Rattle.ar_statement.specs.Claims as claims
use Rattle.ar_cert.specs.Certificate.{digest_of}
use Rattle.ar_cert.specs.Changes.{Change}
use Rattle.ar_cert.specs.Judging.{is_signed}
use Rattle.ar_cert.proofs.SameChange.{same_text}
use Rattle.ar_cert.proofs.change.Change.found_by.Goals as goal

-- what is true of the other's handover is true of an equal change's
pub returns-then-is_same : goal.returns-then-is_same
returns-then-is_same c =
    subst (λ (x : Change). IfSome c.other.inside.handed (λ h. is_signed h.key (text_of (claims.handover (digest_of x.cert))) x.handover ≡ h.valid))
    (c.other.view_is ∙ sym (same_text c.args.self.now c.args.other.now c.told.ensures c.told-2.ensures (sym c.is_same.ensures ∙ c.if-is_same.true)))
    c.other.invariant.5
