use Rattle.std.proofs.Common.{◌≡◌, ◌∙◌, IfSome, ap, subst, sym}
use Rattle.ar_statement.specs.Claims.{text_of}
use Rattle.ar_statement.specs.Claims as claims
use Rattle.lms_tree.specs.declared.public_key.LmsPublic.{LmsPublic}
use Rattle.ar_cert.specs.Certificate.{digest_of}
use Rattle.ar_cert.specs.Changes.{Change}
use Rattle.ar_cert.specs.Judging.{is_signed}
use Rattle.ar_cert.proofs.change.Change.found_under.Goals as goal

-- what is kept was found under this key
pub returns-then-is_same_key : goal.returns-then-is_same_key
returns-then-is_same_key c =
    let e2 : c.in-Some.handed.key ≡ c.args.key.now = c.is_same_key.ensures c.if-is_same_key.true in
    let found = subst (λ o. IfSome o (λ h. is_signed h.key (text_of (claims.handover (digest_of c.self.inside.cert))) c.self.inside.handover ≡ h.valid))
    c.in-Some.is c.self.invariant.5 in
    ap (λ (x : Change). is_signed c.args.key.now (text_of (claims.handover (digest_of x.cert))) x.handover) (sym c.self.view_is)
    ∙ ap (λ (k : LmsPublic). is_signed k (text_of (claims.handover (digest_of c.self.inside.cert))) c.self.inside.handover) (sym e2)
    ∙ found
