-- What a directory accepts is accepted by each that learnt more.
use Rattle.std.proofs.Common.{◌≡◌, ℕ, ◌<◌, List, [], ◌∷◌, length, Result, Ok, Err, refl, sym, ◌∙◌, subst}
use Rattle.std.proofs.Math.ListN.{length-set}
use Rattle.lms_tree.specs.declared.public_key.LmsPublic.{LmsPublic}
use Rattle.ar_statement.specs.Claims.{authority_party, log_party, text_of}
use Rattle.ar_statement.specs.declared.party.Party.{Party}
use Rattle.ar_statement.specs.declared.party.Role.{Role}
use Rattle.ar_statement.specs.declared.party.Role.TheVariants.{LogServer, Authority, Owner, Client}
use Rattle.ar_cert.specs.Certificate.{Certificate}
use Rattle.ar_message.specs.Confirmation.{Subject, Body, Confirmation}
use Rattle.party_keys.specs.Directory.{Directory}
use Rattle.party_keys.specs.Learning.{Announced, after_all, after_learning, learned, learning, with_next_of}
use Rattle.party_keys.specs.declared.fault.LearnFault.{LearnFault}
use Rattle.party_keys.specs.declared.learning.Learned.{Learned}
use Rattle.party_keys.specs.declared.learning.Learned.TheVariants.{Again, New}
use Rattle.party_keys.proofs.Growing.{lasts}
use Rattle.client_rule.specs.Meaning.{HasSigners, SignsConfirmation, HoldsAll, PassesChecks, learnt}
use Rattle.client_rule.specs.Rule.{claim_on, judgement, Asked}
use Rattle.client_rule.specs.declared.judgement.Judgement.TheVariants.{Accepted, Absent}
use Rattle.client_rule.proofs.Meanings.{accepted, absence}

-- ---- who is known

-- the one directory has as many logs, and as many authorities, as the other
abbrev HasAsMany : Directory → Directory → Type 0
HasAsMany keys later = (length later.logs ≡ length keys.logs) × (length later.authorities ≡ length keys.authorities)

many_next : (role : Role) (keys : Directory) (number generation : ℕ) (key : LmsPublic) → HasAsMany keys (with_next_of role keys number generation key)
many_next LogServer keys number generation key = (length-set keys.logs number _, refl)
many_next Authority keys number generation key = (refl, length-set keys.authorities number _)
many_next Owner keys number generation key = (refl, refl)
many_next Client keys number generation key = (refl, refl)

many_learnt : (keys : Directory) (a : Announced) → HasAsMany keys (after_learning keys a)
many_learnt keys a = by (learned keys a)
  where
    by : (r : Result Learned LearnFault) → HasAsMany keys (learning r keys a)
    by (Ok New) = many_next a.party.role keys a.party.number a.generation a.key
    by (Ok Again) = (refl, refl)
    by (Err fault) = (refl, refl)

many_all : (keys : Directory) (announced : List Announced) → HasAsMany keys (after_all keys announced)
many_all keys [] = (refl, refl)
many_all keys (a ∷ more) =
    let first = many_learnt keys a in
    let rest = many_all (after_learning keys a) more in
    (rest.0 ∙ first.0, rest.1 ∙ first.1)

still_known : (keys later : Directory) (c : Confirmation) → HasAsMany keys later → HasSigners keys c → HasSigners later c
still_known keys later c many h = record {
  log = subst (λ (n : ℕ). c.log.number < n) (sym many.0) h.log;
  first = subst (λ (n : ℕ). c.first.number < n) (sym many.1) h.first;
  second = subst (λ (n : ℕ). c.second.number < n) (sym many.1) h.second;
  two = h.two;
}

-- ---- what is signed

still_signed : (keys : Directory) (announced : List Announced) (about : Subject) (body : Body) (signer : Party) (signature : List ℕ)
    → SignsConfirmation keys about body signer signature → SignsConfirmation (after_all keys announced) about body signer signature
still_signed keys announced about body signer signature e = lasts keys announced signer (text_of (claim_on about body signer)) signature (Ok tt) tt e

-- ---- the checks

still_holds : (asked : Asked) (announced : List Announced) (c : Confirmation) → HoldsAll asked c → HoldsAll (learnt asked announced) c
still_holds asked announced c h =
    let h2 = h.1 in
    let h3 = h2.1 in
    let h4 = h3.1 in
    let h5 = h4.1 in
    let known = still_known asked.keys (after_all asked.keys announced) c (many_all asked.keys announced) h2.0 in
    let log = still_signed asked.keys announced c.about c.body (log_party c.log.number) c.log.signature h3.0 in
    let first = still_signed asked.keys announced c.about c.body (authority_party c.first.number) c.first.signature h4.0 in
    let second = still_signed asked.keys announced c.about c.body (authority_party c.second.number) c.second.signature h5.0 in
    (h.0, (known, (log, (first, (second, h5.1)))))

still_passes : (asked : Asked) (announced : List Announced) (bytes : List ℕ) (c : Confirmation) → PassesChecks asked bytes c → PassesChecks (learnt asked announced) bytes c
still_passes asked announced bytes c p = record { is_read = p.is_read; holds = still_holds asked announced c p.holds }

pub still_accepted : (asked : Asked) (announced : List Announced) (bytes : List ℕ) (certificate : Certificate) (digest : List ℕ) (epoch : ℕ) (root : List ℕ)
    → judgement asked bytes ≡ Accepted certificate digest epoch root
    → judgement (learnt asked announced) bytes ≡ Accepted certificate digest epoch root
still_accepted asked announced bytes certificate digest epoch root h =
    let a = (accepted asked bytes certificate digest epoch root).0 h in
    (accepted (learnt asked announced) bytes certificate digest epoch root).1 record {
      confirmation = a.confirmation;
      passes = still_passes asked announced bytes a.confirmation a.passes;
      body = a.body;
      digest_is = a.digest_is;
      epoch_is = a.epoch_is;
      root_is = a.root_is;
    }

pub still_absent : (asked : Asked) (announced : List Announced) (bytes : List ℕ) (epoch : ℕ) (root : List ℕ)
    → judgement asked bytes ≡ Absent epoch root
    → judgement (learnt asked announced) bytes ≡ Absent epoch root
still_absent asked announced bytes epoch root h =
    let a = (absence asked bytes epoch root).0 h in
    (absence (learnt asked announced) bytes epoch root).1 record {
      confirmation = a.confirmation;
      passes = still_passes asked announced bytes a.confirmation a.passes;
      bottom = a.bottom;
      epoch_is = a.epoch_is;
      root_is = a.root_is;
    }
