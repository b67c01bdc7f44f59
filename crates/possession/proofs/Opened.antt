-- When a connection is open, and when it is what else.
use Rattle.std.proofs.Common.{◌≡◌, ◌↔◌, ℕ, ◌<◌, ◌^◌, List, refl}
use Rattle.ar_cert.specs.Certificate.{Certificate}
use Rattle.client_rule.specs.Meaning.{Accepts, AcceptsNone, Refuses}
use Rattle.client_rule.specs.Rule.{judgement, Asked}
use Rattle.client_rule.specs.declared.judgement.Judgement.{Judgement}
use Rattle.client_rule.specs.declared.judgement.Judgement.TheVariants.{Absent, Accepted, Refused}
use Rattle.client_rule.proofs.Meanings.{absence, accepted, refused}
use Rattle.lms_tree.specs.Key.{public_of, signature_of}
use Rattle.lms_tree.specs.LmsKind.{height_of}
use Rattle.lms_tree.proofs.SigningLemmas.{verdict_of-signature_of}
use Rattle.lms_tree.specs.Validity.{verdict_of}
use Rattle.lms_tree.specs.declared.validity.Verdict.{Verdict}
use Rattle.lms_tree.specs.declared.validity.Verdict.TheVariants.{Invalid, Valid}
use Rattle.possession.specs.Answering.{Server, answer_text}
use Rattle.possession.specs.Connections.{LacksKey, Shows, connected, connection_of, possessed}
use Rattle.possession.specs.declared.connection.Connection.TheVariants as connection

-- the verdict on the answer to a client's challenge
abbrev On : Asked → List ℕ → List ℕ → Certificate → List ℕ → Verdict
On asked challenge answer certificate digest = verdict_of certificate.subject (answer_text asked.name digest challenge) answer

pub is_open : (asked : Asked) (confirmation challenge answer : List ℕ) (certificate : Certificate) (digest : List ℕ) (epoch : ℕ) (root : List ℕ)
    → (connection_of asked confirmation challenge answer ≡ connection.Open certificate digest epoch root) ↔ Shows asked confirmation challenge answer certificate digest epoch root Valid
unfolding connected
is_open asked confirmation challenge answer certificate digest epoch root = (by_judgement (judgement asked confirmation) refl, back) where
  by_verdict : (found : Certificate) (d : List ℕ) (e : ℕ) (r : List ℕ) (v : Verdict) → judgement asked confirmation ≡ Accepted found d e r → On asked challenge answer found d ≡ v → possessed found d e r v ≡ connection.Open certificate digest epoch root → Shows asked confirmation challenge answer certificate digest epoch root Valid
  by_verdict found d e r Valid j v h =
      let same : judgement asked confirmation ≡ Accepted certificate digest epoch root = cc in
      let valid : On asked challenge answer certificate digest ≡ Valid = cc in
      record { accepts = (accepted asked confirmation certificate digest epoch root).0 same; judged = valid }
  by_verdict found d e r (Invalid k) j v h = absurd cc

  by_judgement : (judged : Judgement) → judgement asked confirmation ≡ judged → connected asked.name challenge answer judged ≡ connection.Open certificate digest epoch root → Shows asked confirmation challenge answer certificate digest epoch root Valid
  by_judgement (Accepted found d e r) j h = by_verdict found d e r (On asked challenge answer found d) j refl h
  by_judgement (Absent e r) j h = absurd cc
  by_judgement (Refused k) j h = absurd cc

  back : Shows asked confirmation challenge answer certificate digest epoch root Valid → connection_of asked confirmation challenge answer ≡ connection.Open certificate digest epoch root
  back shows = rw ((accepted asked confirmation certificate digest epoch root).1 shows.accepts, shows.judged) refl

pub lacks_key : (asked : Asked) (confirmation challenge answer : List ℕ) (k : ℕ)
    → (connection_of asked confirmation challenge answer ≡ connection.NoPossession k) ↔ LacksKey asked confirmation challenge answer k
unfolding connected
lacks_key asked confirmation challenge answer k = (by_judgement (judgement asked confirmation) refl, back) where
  by_verdict : (found : Certificate) (d : List ℕ) (e : ℕ) (r : List ℕ) (v : Verdict) → judgement asked confirmation ≡ Accepted found d e r → On asked challenge answer found d ≡ v → possessed found d e r v ≡ connection.NoPossession k → LacksKey asked confirmation challenge answer k
  by_verdict found d e r Valid j v h = absurd cc
  by_verdict found d e r (Invalid n) j v h =
      let invalid : On asked challenge answer found d ≡ Invalid k = cc in
      record {
        certificate = found;
        digest = d;
        epoch = e;
        root = r;
        shows = record { accepts = (accepted asked confirmation found d e r).0 j; judged = invalid };
      }

  by_judgement : (judged : Judgement) → judgement asked confirmation ≡ judged → connected asked.name challenge answer judged ≡ connection.NoPossession k → LacksKey asked confirmation challenge answer k
  by_judgement (Accepted found d e r) j h = by_verdict found d e r (On asked challenge answer found d) j refl h
  by_judgement (Absent e r) j h = absurd cc
  by_judgement (Refused n) j h = absurd cc

  back : LacksKey asked confirmation challenge answer k → connection_of asked confirmation challenge answer ≡ connection.NoPossession k
  back lacks = rw ((accepted asked confirmation lacks.certificate lacks.digest lacks.epoch lacks.root).1 lacks.shows.accepts, lacks.shows.judged) refl

-- a certificate that is accepted, whatever the answer is worth, leads to neither of the other two
not_absent : (found : Certificate) (d : List ℕ) (e epoch : ℕ) (r root : List ℕ) (v : Verdict) → possessed found d e r v ≡ connection.Absent epoch root → ⊥
not_absent found d e epoch r root Valid h = cc
not_absent found d e epoch r root (Invalid k) h = cc

not_refused : (found : Certificate) (d : List ℕ) (e : ℕ) (r : List ℕ) (k : ℕ) (v : Verdict) → possessed found d e r v ≡ connection.Refused k → ⊥
not_refused found d e r k Valid h = cc
not_refused found d e r k (Invalid n) h = cc

pub is_absent : (asked : Asked) (confirmation challenge answer : List ℕ) (epoch : ℕ) (root : List ℕ)
    → (connection_of asked confirmation challenge answer ≡ connection.Absent epoch root) ↔ AcceptsNone asked confirmation epoch root
unfolding connected
is_absent asked confirmation challenge answer epoch root = (by_judgement (judgement asked confirmation) refl, back) where
  by_judgement : (judged : Judgement) → judgement asked confirmation ≡ judged → connected asked.name challenge answer judged ≡ connection.Absent epoch root → AcceptsNone asked confirmation epoch root
  by_judgement (Accepted found d e r) j h = absurd (not_absent found d e epoch r root (On asked challenge answer found d) h)
  by_judgement (Absent e r) j h =
      let same : judgement asked confirmation ≡ Absent epoch root = cc in
      (absence asked confirmation epoch root).0 same
  by_judgement (Refused k) j h = absurd cc

  back : AcceptsNone asked confirmation epoch root → connection_of asked confirmation challenge answer ≡ connection.Absent epoch root
  back none = rw ((absence asked confirmation epoch root).1 none) refl

pub is_refused : (asked : Asked) (confirmation challenge answer : List ℕ) (k : ℕ)
    → (connection_of asked confirmation challenge answer ≡ connection.Refused k) ↔ Refuses asked confirmation k
unfolding connected
is_refused asked confirmation challenge answer k = (by_judgement (judgement asked confirmation) refl, back) where
  by_judgement : (judged : Judgement) → judgement asked confirmation ≡ judged → connected asked.name challenge answer judged ≡ connection.Refused k → Refuses asked confirmation k
  by_judgement (Accepted found d e r) j h = absurd (not_refused found d e r k (On asked challenge answer found d) h)
  by_judgement (Absent e r) j h = absurd cc
  by_judgement (Refused n) j h =
      let same : judgement asked confirmation ≡ Refused k = cc in
      (refused asked confirmation k).0 same

  back : Refuses asked confirmation k → connection_of asked confirmation challenge answer ≡ connection.Refused k
  back refuses = rw ((refused asked confirmation k).1 refuses) refl

-- what a server signs is valid under its key
pub answer_opens : (server : Server) (asked : Asked) (confirmation challenge : List ℕ) (leaf : ℕ) (certificate : Certificate) (epoch : ℕ) (root : List ℕ)
    → leaf < 2 ^ height_of server.key.lms
    → certificate.subject ≡ public_of server.key
    → asked.name ≡ server.name
    → Accepts asked confirmation certificate server.certificate epoch root
    → connection_of asked confirmation challenge (signature_of server.key leaf (answer_text server.name server.certificate challenge)) ≡ connection.Open certificate server.certificate epoch root
answer_opens server asked confirmation challenge leaf certificate epoch root below subject name accepts =
    let text = answer_text server.name server.certificate challenge in
    let right : On asked challenge (signature_of server.key leaf text) certificate server.certificate ≡ Valid = rw (subject, name) (verdict_of-signature_of server.key leaf text below) in
    (is_open asked confirmation challenge (signature_of server.key leaf text) certificate server.certificate epoch root).1 (record { accepts = accepts; judged = right })
