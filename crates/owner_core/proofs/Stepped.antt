-- What comes keeps an owner's drafts endorsed.
use Rattle.std.proofs.Common.{◌≡◌, ℕ, ◌==◌, Bool, true, false, if◌then◌else◌, List, [], ◌∷◌, Option, Some, None, Result, Ok, Err, refl, ap, subst}
use Rattle.std.specs.List.{slice_get}
use Rattle.std.proofs.lemmas.List.Elements.{All-nil}
use Rattle.std.specs.Option.{option_and_then}
use Rattle.ar_base.specs.Chaining.{◌>>=◌}
use Rattle.ar_base.specs.Gives.{with_error}
use Rattle.ar_cert.specs.Certificate.{Certificate, digest_of}
use Rattle.ar_cert.specs.Changes.{Change, Endorsement}
use Rattle.ar_message.specs.Messages.{message_in}
use Rattle.ar_message.specs.declared.message.Message.{Message}
use Rattle.ar_message.specs.declared.message.Message.TheVariants.{Endorsed, RollNote}
use Rattle.ar_message.specs.declared.sent.Sent.{Sent}
use Rattle.ar_statement.specs.Claims.{Claim, authority_party, endorse, object, text_of}
use Rattle.ar_statement.specs.declared.party.Party.{Party}
use Rattle.lms_tree.specs.Key.{signature_of}
use Rattle.lms_tree.specs.KeyParts.{KeyParts}
use Rattle.sign_book.specs.Entry.{leaf_of}
use Rattle.ar_statement.specs.declared.fault.BookFault.{BookFault}
use Rattle.party_keys.specs.Directory.{Directory}
use Rattle.party_keys.specs.Learning.{Announced, after_all, after_learning, learned}
use Rattle.party_keys.specs.Signatures.{verified}
use Rattle.party_keys.specs.declared.fault.LearnFault.{LearnFault}
use Rattle.party_keys.specs.declared.fault.VerifyFault.{VerifyFault}
use Rattle.party_keys.specs.declared.fault.VerifyFault.TheVariants as verify_fault
use Rattle.party_keys.specs.declared.learning.Learned.{Learned}
use Rattle.owner_core.specs.declared.refusal.OwnerRefusal.{OwnerRefusal}
use Rattle.owner_core.specs.declared.refusal.OwnerRefusal.TheVariants.{Form, NotForOwner}
use Rattle.owner_core.specs.State.{Owner}
use Rattle.owner_core.specs.Drafts.{begun_draft, changed_draft, endorsed, handed_over, place_of_draft}
use Rattle.owner_core.specs.Rows.{OwnerAnswer, attach_row, begin_row, endorsed_row, first_owner, message_row, object_row, roll_refusal, roll_row, sent, step_row, submission, submit_row, verified_as, with_drafts}
use Rattle.owner_core.specs.Objecting.{objection}
use Rattle.owner_core.specs.Signing.{after_signing, signed_by_owner, signed_at}
use Rattle.owner_core.specs.Vouching.{AreEndorsed, Endorses, IsEndorsed}
use Rattle.owner_core.proofs.Vouched.{begun-keeps, changed-keeps, endorsed-keeps, good-at, handed-keeps, of-digest}
use Rattle.owner_core.proofs.Spots.{found}

-- what was verified stays so, behind what a directory learns
abbrev pub Lasts : Type 0
Lasts = (keys : Directory) (announced : List Announced) (party : Party) (text signature : List ℕ)
    → verified keys party text signature ≡ Ok tt → verified (after_all keys announced) party text signature ≡ Ok tt

-- what a row gives, where it gives
abbrev okay : {V : Type 0} → V × Owner → OwnerAnswer V
okay p = Ok p

abbrev given_or : {V : Type 0} → V × Owner → OwnerAnswer V → V × Owner
given_or other (Ok p) = p
given_or other (Err refusal) = other

-- two that give the same give one owner
behind : {V : Type 0} (p q : V × Owner) → okay p ≡ okay q → p.1 ≡ q.1
behind p q e = ap (λ r. (given_or q r).1) e

-- what comes with an endorsement
abbrev entry : ℕ → List ℕ → Endorsement
entry authority signature = record { authority = authority; signature = signature }

-- whether the message is the owner's own
abbrev owned : Bool → Result (Unit {0}) OwnerRefusal
owned b = if b then Ok tt else Err NotForOwner

-- an endorsement
taken : (me later : Owner) (owner authority : ℕ) (certificate signature : List ℕ) (reply : Sent) → AreEndorsed me
    → endorsed_row me owner authority certificate signature ≡ Ok (reply, later) → AreEndorsed later
taken me later owner authority certificate signature reply good e = own (owner == me.number) e where
  last : Endorses me.directory certificate (entry authority signature) → (c : Result (List Change) OwnerRefusal) → changed_draft me.drafts certificate (endorsed (entry authority signature)) ≡ c → (c >>= with_drafts me) ≡ Ok (reply, later) → AreEndorsed later
  last valid (Ok ds) is e =
      let same : record me { drafts = ds } ≡ later = behind (sent [], record me { drafts = ds }) (reply, later) e in
      subst AreEndorsed same (changed-keeps me.directory certificate (endorsed (entry authority signature)) me.drafts ds (endorsed-keeps me.directory certificate (entry authority signature) valid) good is)
  last valid (Err refusal) is e = cc

  verify : (v : Result (Unit {0}) VerifyFault) → verified me.directory (authority_party authority) (text_of (endorse authority certificate)) signature ≡ v
      → (verified_as (authority_party authority) v >>= λ valid. (changed_draft me.drafts certificate (endorsed (entry authority signature)) >>= with_drafts me)) ≡ Ok (reply, later) → AreEndorsed later
  verify (Ok u) is e = last is (changed_draft me.drafts certificate (endorsed (entry authority signature))) refl e
  verify (Err (verify_fault.Unknown party)) is e = cc
  verify (Err (verify_fault.Bad k)) is e = cc

  own : (b : Bool) → (owned b >>= λ own. (verified_as (authority_party authority) (verified me.directory (authority_party authority) (text_of (endorse authority certificate)) signature)
      >>= λ valid. (changed_draft me.drafts certificate (endorsed (entry authority signature)) >>= with_drafts me))) ≡ Ok (reply, later) → AreEndorsed later
  own true e = verify (verified me.directory (authority_party authority) (text_of (endorse authority certificate)) signature) refl e
  own false e = cc

-- what learning gives
abbrev rolling : Owner → Announced → Learned → OwnerAnswer Sent
rolling me a new = Ok (sent [], record me { directory = after_learning me.directory a })

-- a next key
rolled : Lasts → (me later : Owner) (a : Announced) (reply : Sent) → AreEndorsed me → roll_row me a ≡ Ok (reply, later) → AreEndorsed later
rolled lasts me later a reply good e = at (learned me.directory a) e where
  learnt : AreEndorsed (record me { directory = after_learning me.directory a })
  learnt i draft lt j v below = lasts me.directory (a ∷ []) (authority_party _) _ _ (good i draft lt j v below)

  at : (answer : Result Learned LearnFault) → (with_error (roll_refusal a.party a.generation) answer >>= rolling me a) ≡ Ok (reply, later) → AreEndorsed later
  at (Ok new) e =
      let same : record me { directory = after_learning me.directory a } ≡ later = behind (sent [], record me { directory = after_learning me.directory a }) (reply, later) e in
      subst AreEndorsed same learnt
  at (Err fault) e = cc

-- a message
messaged : Lasts → (me later : Owner) (m : Message) (reply : Sent) → AreEndorsed me → message_row me m ≡ Ok (reply, later) → AreEndorsed later
messaged lasts me later (Endorsed owner authority certificate signature) reply good e = taken me later owner authority certificate signature reply good e
messaged lasts me later (RollNote party generation key signature) reply good e = rolled lasts me later (record { party = party; generation = generation; key = key; signature = signature }) reply good e
messaged lasts me later _ reply good e = cc

pub stepped : Lasts → (me later : Owner) (bytes : List ℕ) (reply : Sent) → AreEndorsed me → step_row me bytes ≡ Ok (reply, later) → AreEndorsed later
stepped lasts me later bytes reply good e = at (message_in bytes) e where
  at : (read : Result Message ℕ) → (with_error Form read >>= message_row me) ≡ Ok (reply, later) → AreEndorsed later
  at (Ok m) e = messaged lasts me later m reply good e
  at (Err place) e = cc

pub begun : (me later : Owner) (cert : Certificate) (asks : List ℕ) (reply : Sent) → AreEndorsed me → begin_row me cert asks ≡ Ok (reply, later) → AreEndorsed later
begun me later cert asks reply good e =
    let same : record me { drafts = begun_draft me.drafts cert } ≡ later = ap (λ r. (given_or (reply, later) r).1) e in
    subst AreEndorsed same (begun-keeps me.directory me.drafts cert good)

-- what attaching gives
abbrev attaching : Owner → List Change → OwnerAnswer (Unit {0})
attaching me ds = Ok (tt, record me { drafts = ds })

pub attached : (me later : Owner) (digest handover : List ℕ) → AreEndorsed me → attach_row me digest handover ≡ Ok (tt, later) → AreEndorsed later
attached me later digest handover good e = at (changed_draft me.drafts digest (handed_over handover)) refl e where
  at : (c : Result (List Change) OwnerRefusal) → changed_draft me.drafts digest (handed_over handover) ≡ c → (c >>= attaching me) ≡ Ok (tt, later) → AreEndorsed later
  at (Ok ds) is e =
      let same : record me { drafts = ds } ≡ later = behind (tt, record me { drafts = ds }) (tt, later) e in
      subst AreEndorsed same (changed-keeps me.directory digest (handed_over handover) me.drafts ds (handed-keeps me.directory digest handover) good is)
  at (Err refusal) is e = cc

-- an owner that has begun has no draft
pub first : (number : ℕ) (keys : Directory) (key : KeyParts) (leaves : ℕ) → AreEndorsed (first_owner number keys key leaves)
first number keys key leaves = All-nil _

-- signing changes the book alone
pub signing : (me later : Owner) (claim : Claim) (bytes : List ℕ) → AreEndorsed me → signed_by_owner me claim ≡ Ok (bytes, later) → AreEndorsed later
signing me later claim bytes good e = at (leaf_of me.book (text_of claim)) e where
  at : (answer : Result ℕ BookFault) → signed_at me (text_of claim) answer ≡ Ok (bytes, later) → AreEndorsed later
  at (Ok leaf) e =
      let same : after_signing me (text_of claim) ≡ later = behind (signature_of me.key leaf (text_of claim), after_signing me (text_of claim)) (bytes, later) e in
      subst AreEndorsed same good
  at (Err fault) e = cc

-- what an objection gives
abbrev objecting : Certificate → List ℕ × Owner → OwnerAnswer Sent
objecting cert s = Ok (submission (objection cert s.0), s.1)

pub objected : (me later : Owner) (cert : Certificate) (reply : Sent) → AreEndorsed me → object_row me cert ≡ Ok (reply, later) → AreEndorsed later
objected me later cert reply good e = at (signed_by_owner me (object (digest_of cert))) refl e where
  at : (answer : Result (List ℕ × Owner) OwnerRefusal) → signed_by_owner me (object (digest_of cert)) ≡ answer → (answer >>= objecting cert) ≡ Ok (reply, later) → AreEndorsed later
  at (Ok s) is e =
      let same : s.1 ≡ later = behind (submission (objection cert s.0), s.1) (reply, later) e in
      subst AreEndorsed same (signing me s.1 (object (digest_of cert)) s.0 good is)
  at (Err refusal) is e = cc

pub submitted : (me : Owner) (digest : List ℕ) (reply : Sent) → AreEndorsed me → submit_row me digest ≡ Ok reply
    → (draft : Change) × ((digest_of draft.cert ≡ digest) × IsEndorsed me.directory draft × (reply ≡ submission draft))
submitted me digest reply good e = at (place_of_draft me.drafts digest) refl e where
  there : (place : ℕ) → place_of_draft me.drafts digest ≡ Some place → (draft : Option Change) → slice_get me.drafts place ≡ draft → (found draft >>= λ draft. Ok (submission draft)) ≡ Ok reply
      → (draft : Change) × ((digest_of draft.cert ≡ digest) × IsEndorsed me.directory draft × (reply ≡ submission draft))
  there place here None is e = cc
  there place here (Some draft) is e =
      let same : reply ≡ submission draft = cc in
      (draft, (of-digest me.drafts digest place draft here is, good-at me.directory me.drafts place draft good is, same))

  at : (place : Option ℕ) → place_of_draft me.drafts digest ≡ place → (found (option_and_then (slice_get me.drafts) place) >>= λ draft. Ok (submission draft)) ≡ Ok reply
      → (draft : Change) × ((digest_of draft.cert ≡ digest) × IsEndorsed me.directory draft × (reply ≡ submission draft))
  at None here e = cc
  at (Some place) here e = there place here (slice_get me.drafts place) refl e
