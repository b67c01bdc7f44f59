-- An owner that is kept: where it stands, and what it replies and becomes by an order, and by a text of its journal.
use Rattle.std.specs.Prelude.{◌≡◌, ◌⊎◌, ◌==◌, ◌-◌, nat_le, ℕ, List, [], ◌∷◌, ◌++◌, length, slice_get, Option, None, Some, Result, Ok, Err, if◌then◌else◌}
use Rattle.std.specs.Option.{ok_or}
use Rattle.std.specs.Result.{result_map_both}
use Rattle.ar_base.specs.Chaining.{◌>>=◌, need}
use Rattle.ar_base.specs.Gives.{StepsUnless}
use Rattle.ar_cert.specs.Certificate.{Certificate, digest_of}
use Rattle.ar_message.specs.Filling.{nothing}
use Rattle.ar_message.specs.declared.sent.Sent.{Sent}
use Rattle.lms_tree.specs.Key.{public_of}
use Rattle.lms_tree.specs.KeyParts.{KeyParts}
use Rattle.lms_tree.specs.LmsKind.{leaves_of}
use Rattle.owner_core.specs.Rows.{OwnerAnswer, attach_row, begin_row, first_owner, handover_row, object_row, step_row, submit_row}
use Rattle.owner_core.specs.State.{Owner}
use Rattle.owner_core.specs.declared.refusal.OwnerRefusal.{OwnerRefusal}
use Rattle.owner_core.specs.declared.refusal.OwnerRefusal.TheVariants.{Memory}
use Rattle.party_keys.specs.Directory.{Directory}
use Rattle.party_keys.specs.Learning.{is_key}
use Rattle.owner_keeper.specs.Stapling.{Stapling, StapleParts, allowing, confirmed_epoch, disallowing, first_stapling, hearing, may_staple, staple_at, stapling_by, with_staple}
use Rattle.owner_keeper.specs.Texts.{kept_order, kept_text, most_asks, most_handover}
use Rattle.owner_keeper.specs.declared.order.OwnerOrder.{OwnerOrder}
use Rattle.owner_keeper.specs.declared.order.OwnerOrder.TheVariants.{Take, Begin, Know, Handover, Attach, Object, Submit, Allow, Disallow, Staple, Restaple, Leaves}
use Rattle.owner_keeper.specs.declared.permit.Permit.{Permit}
use Rattle.owner_keeper.specs.declared.refusal.OwnerOrderRefusal.{OwnerOrderRefusal}
use Rattle.owner_keeper.specs.declared.refusal.OwnerOrderRefusal.TheVariants as refusals
use Rattle.owner_keeper.specs.declared.reply.OwnerReply.{OwnerReply}
use Rattle.owner_keeper.specs.declared.reply.OwnerReply.TheVariants.{Handed, Sends, Stapled}

-- ---- where an owner stands

-- an owner, but for how many more statements its book has room for in memory
abbrev pub roomless : Owner → Owner
roomless me = record me { book = record me.book { room = 0 } }

-- where an owner stands, the certificates that it knows, by the numbers of drafts, and what it goes by when it staples
pub record OwnerStanding : Type 0 where
  pub owner : Owner
  pub certs : List Certificate
  pub stapling : Stapling

-- that of an owner as a program has it; for how many more statements there is room is left out
abbrev pub standing_with : Owner → List Certificate → Stapling → OwnerStanding
standing_with me certs st = record { owner = roomless me; certs = certs; stapling = st }

-- that of the owner with this number that has done nothing yet
abbrev pub new_standing : ℕ → Directory → KeyParts → OwnerStanding
new_standing number directory key = standing_with (first_owner number directory key (leaves_of key.lms)) [] (first_stapling directory)

-- the certificate of the draft with this number, of those from 1 on
abbrev pub draft_in : List Certificate → ℕ → Option Certificate
draft_in certs draft = if draft == 0 then None else slice_get certs (draft - 1)

-- that of an owner
abbrev pub draft_of : OwnerStanding → ℕ → Option Certificate
draft_of party draft = draft_in party.certs draft

-- ---- what it does

-- what an order gives: a reply and where the owner stands behind it, or a refusal
abbrev pub OrderAnswer : Type 0
OrderAnswer = Result (OwnerReply × OwnerStanding) OwnerOrderRefusal

-- The call answered as the row of its order says, and left the owner behind it. Or it answered the row's refusal, or want of
-- memory, and left the owner as it was.
abbrev pub Does : OwnerStanding → OwnerStanding → Result OwnerReply OwnerOrderRefusal → OrderAnswer → Type 0
Does old new result row = StepsUnless (refusals.Owner Memory) (λ party reply. (reply, party)) result old new row

-- there is a certificate with this number
abbrev pub known_in : List Certificate → ℕ → Result Certificate OwnerOrderRefusal
known_in certs draft = ok_or (draft_in certs draft) refusals.NoCertificate

-- the same, where nothing else is asked of it
abbrev pub need_known : List Certificate → ℕ → Result (Unit {0}) OwnerOrderRefusal
need_known certs draft = do
  cert ← known_in certs draft
  Ok tt

-- the answer of an owner's row, of one that knows these certificates then, and goes by this when it staples
abbrev pub answered : {T : Type 0} → (T → OwnerReply) → List Certificate → Stapling → OwnerAnswer T → OrderAnswer
answered reply certs st row = result_map_both (λ r. (reply r.0, record { owner = r.1; certs = certs; stapling = st })) refusals.Owner row

-- nothing is sent
abbrev pub silent : Unit {0} → OwnerReply
silent u = Sends nothing.sent

-- the owner behind a handover that is attached where it has the draft
abbrev pub attached : Owner → OwnerAnswer (Unit {0}) → Owner
attached me (Ok made) = made.1
attached me (Err refusal) = me

-- The owner signs the handover to the certificate with this digest. Where that is a draft of its own, the draft has it from then on.
abbrev pub handing_row : Owner → List ℕ → OwnerAnswer (List ℕ)
handing_row me digest = do
  signed ← handover_row me digest
  Ok (signed.0, attached signed.1 (attach_row signed.1 digest signed.0))

-- a draft is sent, and the owner stays as it is
abbrev pub submitted : OwnerStanding → Result Sent OwnerRefusal → OrderAnswer
submitted party row = result_map_both (λ sent. (Sends sent, party)) refusals.Owner row

-- the reply with a staple for this certificate
abbrev pub stapled_reply : Certificate → StapleParts → List ℕ → OwnerReply
stapled_reply cert s signature = Stapled (digest_of cert) s.epoch s.channel signature

-- A staple for this certificate is signed, where it may be: the certificate has the owner's own key, the TLS key is allowed, and the
-- staple was signed before, or is of no earlier epoch than all others, with more leaves left than staples leave.
abbrev pub staple_with : OwnerStanding → Certificate → StapleParts → OrderAnswer
staple_with party cert s = do
  own ← need (is_key cert.subject (public_of party.owner.key)) refusals.Foreign
  may ← may_staple party.stapling party.owner.book s
  answered (stapled_reply cert s) party.certs (with_staple party.stapling s) (stapling_by party.owner cert s)

-- the same, for the certificate of its draft
abbrev pub restaple_row : OwnerStanding → StapleParts → OrderAnswer
restaple_row party s = do
  cert ← known_in party.certs s.draft
  staple_with party cert s

-- that of this TLS key, of the epoch of a confirmation, by which the draft's certificate is the newest of its name for a client with
-- the owner's directory
abbrev pub staple_row_of : OwnerStanding → Permit → List ℕ → OrderAnswer
staple_row_of party permit confirmation = do
  cert ← known_in party.certs permit.draft
  epoch ← confirmed_epoch party.stapling.keys cert confirmation
  restaple_row party (staple_at permit epoch)

-- What an order does, by its kind; drafts by their numbers.
abbrev pub order_row : OwnerStanding → OwnerOrder → OrderAnswer
order_row party (Take bytes) = answered Sends party.certs (hearing party.stapling bytes) (step_row party.owner bytes)
order_row party (Begin cert asks) = do
  few ← need (nat_le (length asks) most_asks) refusals.Long
  answered Sends (party.certs ++ cert ∷ []) party.stapling (begin_row party.owner cert asks)
order_row party (Know cert) = Ok (silent tt, record party { certs = party.certs ++ cert ∷ [] })
order_row party (Handover draft) = do
  cert ← known_in party.certs draft
  answered (Handed (digest_of cert)) party.certs party.stapling (handing_row party.owner (digest_of cert))
order_row party (Attach draft handover) = do
  short ← need (nat_le (length handover) most_handover) refusals.Long
  cert ← known_in party.certs draft
  answered silent party.certs party.stapling (attach_row party.owner (digest_of cert) handover)
order_row party (Object draft) = do
  cert ← known_in party.certs draft
  answered Sends party.certs party.stapling (object_row party.owner cert)
order_row party (Submit draft) = do
  cert ← known_in party.certs draft
  submitted party (submit_row party.owner (digest_of cert))
order_row party (Allow permit) = do
  cert ← known_in party.certs permit.draft
  Ok (silent tt, record party { stapling = allowing permit party.stapling })
order_row party (Disallow permit) = do
  cert ← known_in party.certs permit.draft
  Ok (silent tt, record party { stapling = disallowing permit party.stapling })
order_row party (Staple permit confirmation) = staple_row_of party permit confirmation
order_row party (Restaple s) = restaple_row party s
order_row party Leaves = Ok (silent tt, party)

-- ---- as a party that is kept

-- it takes the order that a text says
pub record takes (old : OwnerStanding) (text : List ℕ) (reply : OwnerReply) (new : OwnerStanding) : Type 0 where
  pub order : OwnerOrder
  pub says : kept_order text ≡ Some order
  pub answer : order_row old order ≡ Ok (reply, new)

-- its journal has this text of an order
abbrev pub says : OwnerStanding → OwnerOrder → List ℕ → Type 0
says party order text = kept_text order ≡ Some text

-- an order without a text is answered so, and changes nothing
abbrev pub tells : OwnerStanding → OwnerOrder → OwnerReply → Type 0
tells party order reply = (kept_text order ≡ None) × (order_row party order ≡ Ok (reply, party))

-- an order is refused so: by its row, or for want of memory
abbrev pub refuses : OwnerStanding → OwnerOrder → OwnerOrderRefusal → Type 0
refuses party order refusal = (refusal ≡ refusals.Owner Memory) ⊎ (order_row party order ≡ Err refusal)
