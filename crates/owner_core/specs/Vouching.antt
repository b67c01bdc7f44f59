-- What vouches for an owner's drafts.
use Rattle.std.specs.Prelude.{ℕ, List, All}
use Rattle.ar_cert.specs.Certificate.{digest_of}
use Rattle.ar_cert.specs.Changes.{Change, Endorsement}
use Rattle.ar_statement.specs.Claims.{authority_party, endorse, text_of}
use Rattle.party_keys.specs.Directory.{Directory}
use Rattle.party_keys.specs.Signatures.{IsVerified}
use Rattle.owner_core.specs.State.{Owner}

-- the endorsement is its authority's, of the certificate with this digest
abbrev pub Endorses : Directory → List ℕ → Endorsement → Type 0
Endorses keys digest v = IsVerified keys (authority_party v.authority) (text_of (endorse v.authority digest)) v.signature

-- each endorsement of a draft is one of its certificate
abbrev pub IsEndorsed : Directory → Change → Type 0
IsEndorsed keys draft = All (Endorses keys (digest_of draft.cert)) draft.endorsements

-- so are those of each draft of an owner, by the keys that it knows
abbrev pub AreEndorsed : Owner → Type 0
AreEndorsed me = All (IsEndorsed me.directory) me.drafts
