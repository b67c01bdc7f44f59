-- What an authority says that endorses a certificate.
use Rattle.ar_cert.specs.Certificate.{Certificate, digest_of}
use Rattle.ar_cert.specs.Changes.{Endorsement}
use Rattle.ar_statement.specs.Claims.{authority_party, endorse}
use Rattle.party_keys.specs.Signers.{Claimed, signed_by}

-- an authority endorses a certificate, with this signature
abbrev pub endorsed_as : Certificate → Endorsement → Claimed
endorsed_as cert e = signed_by (authority_party e.authority) (endorse e.authority (digest_of cert)) e.signature
