-- Drafts: certificates on their way to the logs, with what vouches for each so far.
use Rattle.std.specs.Prelude.{ℕ, ◌==◌, nat_lt, Bool, if◌then◌else◌, List, [], length, position, slice_get, slice_set, Option, Some, None, Result, Ok, Err}
use Rattle.std.specs.List.{list_any}
use Rattle.std.specs.Option.{ok_or}
use Rattle.std.specs.Str.{bytes_eq}
use Rattle.ar_base.specs.Adding.{placed, with_one}
use Rattle.ar_base.specs.Chaining.{◌>>=◌}
use Rattle.ar_cert.specs.Certificate.{Certificate, digest_of}
use Rattle.ar_cert.specs.Changes.{Change, Endorsement}
use Rattle.owner_core.specs.declared.refusal.OwnerRefusal.{OwnerRefusal}
use Rattle.owner_core.specs.declared.refusal.OwnerRefusal.TheVariants.{NoDraft, Full}

-- the draft that a certificate begins as: nothing vouches for it
abbrev pub first_draft : Certificate → Change
first_draft cert = record { cert = cert; endorsements = []; handover = None; objection = None }

-- ---- where a draft stands

-- the draft is of the certificate with this digest
abbrev pub is_draft_of : List ℕ → Change → Bool
is_draft_of digest draft = bytes_eq digest (digest_of draft.cert)

-- the place of the draft with this digest
abbrev pub place_of_draft : List Change → List ℕ → Option ℕ
place_of_draft drafts digest = position (is_draft_of digest) drafts

-- the drafts with one for the certificate, behind the others unless there is one
abbrev pub begun_draft : List Change → Certificate → List Change
begun_draft drafts cert = with_one (λ draft new. is_draft_of (digest_of new.cert) draft) drafts (first_draft cert)

-- the drafts after a change of the one with this digest; there is none, or the change's own refusal
abbrev pub changed_draft : List Change → List ℕ → (Change → Result Change OwnerRefusal) → Result (List Change) OwnerRefusal
changed_draft drafts digest change = do
  place ← ok_or (place_of_draft drafts digest) NoDraft
  draft ← ok_or (slice_get drafts place) NoDraft
  changed ← change draft
  Ok (slice_set drafts place changed)

-- ---- endorsements

-- the authority has endorsed
abbrev pub has_endorsed : ℕ → List Endorsement → Bool
has_endorsed authority endorsements = list_any (λ v. v.authority == authority) endorsements

-- with one more in its place, by the numbers of the authorities
abbrev pub with_endorsement : Endorsement → List Endorsement → List Endorsement
with_endorsement = placed (λ v. v.authority)

-- A draft with an endorsement: that of an authority which has endorsed it changes nothing, and a draft has at most 8.
abbrev pub endorsed : Endorsement → Change → Result Change OwnerRefusal
endorsed new draft =
    if has_endorsed new.authority draft.endorsements then Ok draft else
    if nat_lt (length draft.endorsements) 8 then Ok (record draft { endorsements = with_endorsement new draft.endorsements }) else
    Err Full

-- ---- handovers

-- a draft with this handover in place of the one that it had
abbrev pub handed_over : List ℕ → Change → Result Change OwnerRefusal
handed_over handover draft = Ok (record draft { handover = Some handover })
