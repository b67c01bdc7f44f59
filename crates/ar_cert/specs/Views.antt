-- A certificate and a change that are read in place, as contracts see it.
use Rattle.std.specs.Prelude.{◌≡◌, ◌≤◌, ℕ, List, map, take, Some, None, Result}
use Rattle.ar_base.specs.Chaining.{◌>>=◌}
use Rattle.ar_bytes.specs.Reading.{Cursor, all_of}
use Rattle.cert_policy.specs.Terms.{PolicyTerms}
use Rattle.ar_cert.specs.declared.view.TermsView.{TermsView}
use Rattle.ar_cert.specs.declared.view.FieldsView.{FieldsView}
use Rattle.ar_cert.specs.declared.view.CertView.TheInside.{Inside}
use Rattle.ar_cert.specs.declared.change_view.EndorsementView.{EndorsementView}
use Rattle.ar_cert.specs.declared.change_view.EndorsementsView.{EndorsementsView}
use Rattle.ar_cert.specs.declared.change_view.ConsentView.{ConsentView}
use Rattle.ar_cert.specs.declared.change_view.ConsentView.TheVariants.{Silent, Handover, Objection}
use Rattle.ar_cert.specs.declared.change_view.ChangeView.TheInside as change_view
use Rattle.ar_cert.specs.Lists.{numbers_in, SpellsNumbers}
use Rattle.ar_cert.specs.Certificate.{Certificate, IsCertificate, certificate_at, certificate_text}
use Rattle.ar_cert.specs.Changes.{Endorsement, Change, Consent, IsChange}

-- the terms that are viewed
abbrev pub terms_of : TermsView → PolicyTerms
terms_of v = record { threshold = v.threshold; keyed = v.keyed; max_age = v.max_age; until = v.until; trusted = numbers_in v.trusted.now; wait = v.wait }

-- the certificate that is viewed
abbrev pub certificate_of : FieldsView → Certificate
certificate_of v = record { name = v.name.now; serial = v.serial; previous = v.previous; subject = v.subject; policy = terms_of v.terms; revoked = v.revoked }

-- the certificate whose text is all that is left
abbrev pub filling_at : Cursor → Result Certificate ℕ
filling_at at = certificate_at at >>= all_of

-- it is a certificate, its bytes are its text, and the list is that of its authorities
pub record IsCertView (v : Inside) : Type 0 where
  pub fits : IsCertificate (certificate_of v.fields)
  pub text : certificate_text (certificate_of v.fields) ≡ v.text.now
  pub trusted : SpellsNumbers v.fields.terms.trusted.now

-- what the key before says
abbrev pub consent_of : ConsentView → Consent
consent_of Silent = (None, None)
consent_of (Handover signature) = (Some signature.now, None)
consent_of (Objection signature) = (None, Some signature.now)

-- an endorsement that is viewed
abbrev pub endorsement_of : EndorsementView → Endorsement
endorsement_of v = record { authority = v.authority; signature = v.signature.now }

-- the endorsements that are viewed
abbrev pub endorsements_of : EndorsementsView → List Endorsement
endorsements_of v = map endorsement_of (take v.count v.list)

-- the change that is viewed
abbrev pub change_of : change_view.Inside → Change
change_of v = record { cert = v.cert; endorsements = endorsements_of v.endorsements; handover = (consent_of v.consent).0; objection = (consent_of v.consent).1 }

-- it is a change
pub record IsChangeView (v : change_view.Inside) : Type 0 where
  pub fits : IsChange (change_of v)
  pub few : v.endorsements.count ≤ 8
