-- Each endorsement of a draft is its authority's, whatever comes.
use Rattle.std.proofs.Common.{◌≡◌, ℕ, nat_lt, Bool, true, false, if◌then◌else◌, List, length, get_or, All, Option, Some, None, Result, Ok, Err, refl, sym, subst}
use Rattle.std.specs.List.{slice_get, slice_set}
use Rattle.std.specs.Str.{bytes_eq}
use Rattle.std.proofs.lemmas.List.Elements.{All-nil, All-set}
use Rattle.std.proofs.lemmas.List.Quantifiers.{position-Some}
use Rattle.std.proofs.lemmas.Option.{get_or_from_slice_get, slice_get_within}
use Rattle.std.proofs.lemmas.Slice.Eq.{bytes_eq-Decides}
use Rattle.ar_base.proofs.Adding.{All-placed, one-all}
use Rattle.ar_cert.specs.Certificate.{Certificate, digest_of}
use Rattle.ar_cert.specs.Changes.{Change, Endorsement}
use Rattle.party_keys.specs.Directory.{Directory}
use Rattle.owner_core.specs.declared.refusal.OwnerRefusal.{OwnerRefusal}
use Rattle.owner_core.specs.declared.refusal.OwnerRefusal.TheVariants.{Full}
use Rattle.owner_core.specs.Drafts.{begun_draft, changed_draft, endorsed, first_draft, handed_over, has_endorsed, is_draft_of, place_of_draft, with_endorsement}
use Rattle.owner_core.specs.Vouching.{Endorses, IsEndorsed}
use Rattle.owner_core.proofs.Spots.{changed_at, changed_if, put_at}

-- a change of a draft that keeps its endorsements good
abbrev pub KeepsGood : Directory → List ℕ → (Change → Result Change OwnerRefusal) → Type 0
KeepsGood keys digest change = (draft later : Change) → digest_of draft.cert ≡ digest → IsEndorsed keys draft → change draft ≡ Ok later → IsEndorsed keys later

-- an endorsement that endorses keeps a draft so
pub endorsed-keeps : (keys : Directory) (digest : List ℕ) (new : Endorsement) → Endorses keys digest new → KeepsGood keys digest (endorsed new)
endorsed-keeps keys digest new one draft later is good e = at (has_endorsed new.authority draft.endorsements) (nat_lt (length draft.endorsements) 8) e where
  at : (has few : Bool) → (if has then Ok draft else (if few then Ok (record draft { endorsements = with_endorsement new draft.endorsements }) else Err Full)) ≡ Ok later → IsEndorsed keys later
  at true few e =
      let same : draft ≡ later = cc in
      subst (IsEndorsed keys) same good
  at false true e =
      let same : record draft { endorsements = with_endorsement new draft.endorsements } ≡ later = cc in
      let here : Endorses keys (digest_of draft.cert) new = subst (λ d. Endorses keys d new) (sym is) one in
      subst (IsEndorsed keys) same (All-placed (Endorses keys (digest_of draft.cert)) (λ v. v.authority) new draft.endorsements good here)
  at false false e = cc

-- a handover keeps it so
pub handed-keeps : (keys : Directory) (digest handover : List ℕ) → KeepsGood keys digest (handed_over handover)
handed-keeps keys digest handover draft later is good e =
    let same : record draft { handover = Some handover } ≡ later = cc in
    subst (IsEndorsed keys) same good

-- the draft at the place of a digest is of that digest
pub of-digest : (drafts : List Change) (digest : List ℕ) (place : ℕ) (draft : Change) → place_of_draft drafts digest ≡ Some place → slice_get drafts place ≡ Some draft → digest_of draft.cert ≡ digest
of-digest drafts digest place draft here is =
    let same : get_or drafts place draft ≡ draft = get_or_from_slice_get drafts place draft draft is in
    let test : is_draft_of digest (get_or drafts place draft) ≡ true = (position-Some (is_draft_of digest) drafts place draft here).1 in
    let eq : bytes_eq digest (digest_of draft.cert) ≡ true = subst (λ (r : Change). is_draft_of digest r ≡ true) same test in
    sym ((bytes_eq-Decides digest (digest_of draft.cert)).0 eq)

-- the draft at a place is good
pub good-at : (keys : Directory) (drafts : List Change) (place : ℕ) (draft : Change) → All (IsEndorsed keys) drafts → slice_get drafts place ≡ Some draft → IsEndorsed keys draft
good-at keys drafts place draft all is =
    subst (IsEndorsed keys) (get_or_from_slice_get drafts place draft draft is) (all place draft (slice_get_within drafts place draft is))

-- so a change that keeps drafts good does so of all
pub changed-keeps : (keys : Directory) (digest : List ℕ) (change : Change → Result Change OwnerRefusal) (drafts later : List Change) → KeepsGood keys digest change → All (IsEndorsed keys) drafts
    → changed_draft drafts digest change ≡ Ok later → All (IsEndorsed keys) later
changed-keeps keys digest change drafts later keeps all e = placed (place_of_draft drafts digest) refl e where
  made : (place : ℕ) (draft : Change) → place_of_draft drafts digest ≡ Some place → slice_get drafts place ≡ Some draft → (answer : Result Change OwnerRefusal) → change draft ≡ answer → put_at drafts place answer ≡ Ok later → All (IsEndorsed keys) later
  made place draft here is (Ok new) was e =
      let same : slice_set drafts place new ≡ later = cc in
      subst (All (IsEndorsed keys)) same (All-set (IsEndorsed keys) drafts place new (keeps draft new (of-digest drafts digest place draft here is) (good-at keys drafts place draft all is) was) all)
  made place draft here is (Err refusal) was e = cc

  there : (place : ℕ) → place_of_draft drafts digest ≡ Some place → (found : Option Change) → slice_get drafts place ≡ found → changed_at drafts change place found ≡ Ok later → All (IsEndorsed keys) later
  there place here None is e = cc
  there place here (Some draft) is e = made place draft here is (change draft) refl e

  placed : (found : Option ℕ) → place_of_draft drafts digest ≡ found → changed_if drafts change found ≡ Ok later → All (IsEndorsed keys) later
  placed None here e = cc
  placed (Some place) here e = there place here (slice_get drafts place) refl e

-- a certificate that begins as a draft keeps it so
pub begun-keeps : (keys : Directory) (drafts : List Change) (cert : Certificate) → All (IsEndorsed keys) drafts → All (IsEndorsed keys) (begun_draft drafts cert)
begun-keeps keys drafts cert all =
    one-all (IsEndorsed keys) (λ draft new. is_draft_of (digest_of new.cert) draft) drafts (first_draft cert) all (All-nil _)
