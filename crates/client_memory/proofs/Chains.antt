-- Links that were judged, and chains that grow by them.
use Rattle.std.proofs.Common.{◌≡◌, ℕ, ◌+◌, Bool, true, false, cond, List, [], ◌∷◌, ◌++◌, Result, Ok, Err, refl}
use Rattle.std.specs.Prelude.{Some}
use Rattle.std.specs.List.{AllByRecursion}
use Rattle.std.specs.Result.{is_ok}
use Rattle.std.proofs.lemmas.List.Elements.{All-from_recursion}
use Rattle.ar_base.specs.Chaining.{◌>>=◌}
use Rattle.ar_base.specs.Gives.{with_error}
use Rattle.ar_cert.specs.Certificate.{Certificate}
use Rattle.ar_cert.specs.Changes.{Change, Endorsement}
use Rattle.ar_cert.specs.Judging.{change_judgement}
use Rattle.ar_council.specs.Endorsements.{endorsed_as}
use Rattle.cert_policy.specs.declared.refusal.PolicyRefusal.{PolicyRefusal}
use Rattle.party_keys.specs.Directory.{Directory}
use Rattle.party_keys.specs.Signatures.{verified}
use Rattle.party_keys.specs.declared.fault.VerifyFault.{VerifyFault}
use Rattle.client_memory.specs.Book.{last_behind}
use Rattle.client_memory.specs.Links.{AllFollow, AllLinked, IsEndorsed, Linked, endorsements_answer, followed, is_endorsed, link_answer, linked}
use Rattle.client_memory.specs.declared.answers.LinkFault.{LinkFault}
use Rattle.client_memory.specs.declared.answers.LinkFault.TheVariants as fault

one-endorsed : (r : Result (Unit {0}) VerifyFault) → is_ok r ≡ true → r ≡ Ok tt
one-endorsed (Ok u) h = refl
one-endorsed (Err f) h = absurd (cc)

each-endorsed : (keys : Directory) (cert : Certificate) (es : List Endorsement) → endorsements_answer keys cert es ≡ Ok tt
    → AllByRecursion (IsEndorsed keys cert) es
each-endorsed keys cert [] h = tt
each-endorsed keys cert (e ∷ es) h = by (is_endorsed keys cert e) refl (each-endorsed keys cert es) h
  where
    by : (b : Bool) → is_endorsed keys cert e ≡ b → (endorsements_answer keys cert es ≡ Ok tt → AllByRecursion (IsEndorsed keys cert) es)
        → cond b (endorsements_answer keys cert es) (Err (fault.Endorsement e.authority)) ≡ Ok tt
        → AllByRecursion (IsEndorsed keys cert) (e ∷ es)
    by true is rest h = (one-endorsed (verified keys (endorsed_as cert e).party (endorsed_as cert e).text e.signature) is, rest h)
    by false is rest h = absurd (cc)

-- a change without a fault is linked
pub one-linked : (keys : Directory) (old : Certificate) (link : Change) → link_answer keys old link ≡ Ok tt → Linked keys old link
one-linked keys old link h = by (endorsements_answer keys link.cert link.endorsements) refl (change_judgement (Some old) link) refl h
  where
    by : (es : Result (Unit {0}) LinkFault) → endorsements_answer keys link.cert link.endorsements ≡ es
        → (j : Result (Unit {0}) PolicyRefusal) → change_judgement (Some old) link ≡ j
        → (es >>= λ u. with_error fault.Policy j) ≡ Ok tt → Linked keys old link
    by (Err f) is j so h = absurd (cc)
    by (Ok u) is (Err f) so h = absurd (cc)
    by (Ok u) is (Ok v) so h = record {
      follows = so;
      endorsed = All-from_recursion (IsEndorsed keys link.cert) link.endorsements (each-endorsed keys link.cert link.endorsements is);
    }

-- where no link has a fault, each is linked, and the last certificate is given
pub all-linked : (keys : Directory) (place : ℕ) (old : Certificate) (links : List Change) (last : Certificate) → linked keys place old links ≡ Ok last
    → AllLinked keys old links × (last_behind old links ≡ last)
unfolding linked
all-linked keys place old [] last h =
    let same : old ≡ last = cc in
    (tt, same)
all-linked keys place old (link ∷ links) last h = by (link_answer keys old link) refl (all-linked keys (place + 1) link.cert links last) h
  where
    by : (r : Result (Unit {0}) LinkFault) → link_answer keys old link ≡ r
        → (linked keys (place + 1) link.cert links ≡ Ok last → AllLinked keys link.cert links × (last_behind link.cert links ≡ last))
        → (with_error (λ why. (place, why)) r >>= λ u. linked keys (place + 1) link.cert links) ≡ Ok last
        → AllLinked keys old (link ∷ links) × (last_behind old (link ∷ links) ≡ last)
    by (Err f) is rest h = absurd (cc)
    by (Ok u) is rest h = ((one-linked keys old link is, (rest h).0), (rest h).1)

-- what is linked follows by the rule
pub linked-follows : (keys : Directory) (old : Certificate) (links : List Change) → AllLinked keys old links → AllFollow old links
linked-follows keys old [] all = tt
linked-follows keys old (link ∷ links) all = (all.0.follows, linked-follows keys link.cert links all.1)

pub all-follow : (place : ℕ) (old : Certificate) (links : List Change) → followed place old links ≡ Ok tt → AllFollow old links
unfolding followed
all-follow place old [] h = tt
all-follow place old (link ∷ links) h = by (change_judgement (Some old) link) refl (all-follow (place + 1) link.cert links) h
  where
    by : (j : Result (Unit {0}) PolicyRefusal) → change_judgement (Some old) link ≡ j
        → (followed (place + 1) link.cert links ≡ Ok tt → AllFollow link.cert links)
        → (with_error (λ why. (place, why)) j >>= λ u. followed (place + 1) link.cert links) ≡ Ok tt → AllFollow old (link ∷ links)
    by (Err f) is rest h = absurd (cc)
    by (Ok u) is rest h = (is, rest h)

-- links that follow the last of a chain make it longer
pub follow-on : (old : Certificate) (chain links : List Change) → AllFollow old chain → AllFollow (last_behind old chain) links → AllFollow old (chain ++ links)
follow-on old [] links was more = more
follow-on old (change ∷ chain) links was more = (was.0, follow-on change.cert chain links was.1 more)
