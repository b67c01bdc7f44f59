-- The text of an order, as an owner's journal has it.
use Rattle.std.specs.Prelude.{◌<◌, ◌^◌, ◌==◌, nat_le, Bool, ℕ, List, [], ◌∷◌, ◌++◌, length, Option, None, Some, Result, Ok, if◌then◌else◌}
use Rattle.std.specs.List.{AllByRecursion}
use Rattle.std.specs.Option.{option_map}
use Rattle.std.specs.Result.{result_ok}
use Rattle.std.specs.Int.{w16, w64}
use Rattle.ar_base.specs.Bytes.{IsDigest}
use Rattle.ar_base.specs.Chaining.{◌>>=◌}
use Rattle.ar_bytes.specs.Lists.{counted_list_at, counted_list_text, list_at}
use Rattle.ar_bytes.specs.Reading.{Cursor, Reading, number_at, start_of, whole}
use Rattle.ar_bytes.specs.RoundTrip.{number_text}
use Rattle.ar_cert.specs.Certificate.{IsCertificate, certificate_at, certificate_text}
use Rattle.ar_message.specs.Messages.{longest}
use Rattle.ar_statement.specs.Fields.{digest_at}
use Rattle.possession.specs.Connections.{epoch_in}
use Rattle.owner_keeper.specs.Stapling.{StapleParts, staple_at}
use Rattle.owner_keeper.specs.declared.permit.Permit.{Permit}
use Rattle.owner_keeper.specs.declared.order.OwnerOrder.{OwnerOrder}
use Rattle.owner_keeper.specs.declared.order.OwnerOrder.TheVariants.{Take, Begin, Know, Handover, Attach, Object, Submit, Allow, Disallow, Staple, Restaple, Leaves}

-- so many authorities are asked at most, and so many bytes a handover has at most
abbrev pub most_asks : ℕ
most_asks = 255

abbrev pub most_handover : ℕ
most_handover = 65535

-- a text, where what it is of is short enough
abbrev pub text_if : Bool → List ℕ → Option (List ℕ)
text_if short text = if short then Some text else None

-- how many authorities are asked, and their numbers
abbrev pub asks_text : List ℕ → List ℕ
asks_text = counted_list_text (number_text w16)

-- what is allowed: the draft's number, and the channel
abbrev pub permit_text : Permit → List ℕ
permit_text permit = number_text w64 permit.draft ++ permit.channel

-- a staple: the draft's number, the epoch, and the channel
abbrev pub staple_text : StapleParts → List ℕ
staple_text s = number_text w64 s.draft ++ (number_text w64 s.epoch ++ s.channel)

-- 1 and the message; 2, who is asked, and the certificate; 3 and the certificate; 4 and the draft's number; 5, that and the
-- handover; 6 and that number; 7 and what is allowed; 8 and what is allowed no longer; 9 and the staple, without the confirmation by
-- which its epoch came. An order that is too long has none, and those that change nothing have none.
abbrev pub kept_text : OwnerOrder → Option (List ℕ)
kept_text (Take bytes) = text_if (nat_le (length bytes) longest) (1 ∷ bytes)
kept_text (Begin cert asks) = text_if (nat_le (length asks) most_asks) (2 ∷ (asks_text asks ++ certificate_text cert))
kept_text (Know cert) = Some (3 ∷ certificate_text cert)
kept_text (Handover draft) = Some (4 ∷ number_text w64 draft)
kept_text (Attach draft handover) = text_if (nat_le (length handover) most_handover) (5 ∷ (number_text w64 draft ++ handover))
kept_text (Object draft) = Some (6 ∷ number_text w64 draft)
kept_text (Submit draft) = None
kept_text (Allow permit) = Some (7 ∷ permit_text permit)
kept_text (Disallow permit) = Some (8 ∷ permit_text permit)
kept_text (Staple permit confirmation) = Some (9 ∷ staple_text (staple_at permit (epoch_in confirmation)))
kept_text (Restaple s) = Some (9 ∷ staple_text s)
kept_text Leaves = None

-- an order as a journal has it: of a staple that without its confirmation
abbrev pub as_kept : OwnerOrder → OwnerOrder
as_kept (Staple permit confirmation) = Restaple (staple_at permit (epoch_in confirmation))
as_kept order = order

-- ---- what a text says

abbrev pub message_kept : List ℕ → Option OwnerOrder
message_kept bytes = if nat_le (length bytes) longest then Some (Take bytes) else None

-- who is asked
abbrev pub asks_at : Cursor → Reading (List ℕ)
asks_at = counted_list_at most_asks (list_at (number_at w16))

-- a certificate that is begun, behind those who are asked for it
unfoldable pub beginning_at : Cursor → Result OwnerOrder ℕ
beginning_at at = do
  asks ← asks_at at
  cert ← whole certificate_at asks.1.ahead
  Ok (Begin cert asks.0)

-- a handover that is attached, behind the draft's number
abbrev pub attached_to : ℕ → List ℕ → Option OwnerOrder
attached_to draft handover = if nat_le (length handover) most_handover then Some (Attach draft handover) else None

abbrev pub attached_by : Option (ℕ × Cursor) → Option OwnerOrder
attached_by None = None
attached_by (Some draft) = attached_to draft.0 draft.1.ahead

-- the number of a draft, and nothing behind it
abbrev pub draft_kept : List ℕ → Option ℕ
draft_kept bytes = result_ok (whole (number_at w64) bytes)

-- what is allowed, and nothing behind it
unfoldable pub permit_at : Cursor → Reading Permit
permit_at at = do
  draft ← number_at w64 at
  channel ← digest_at draft.1
  Ok (record { draft = draft.0; channel = channel.0 }, channel.1)

abbrev pub permit_kept : List ℕ → Option Permit
permit_kept bytes = result_ok (whole permit_at bytes)

-- a staple, and nothing behind it
unfoldable pub staple_read_at : Cursor → Reading StapleParts
staple_read_at at = do
  draft ← number_at w64 at
  epoch ← number_at w64 draft.1
  channel ← digest_at epoch.1
  Ok (record { draft = draft.0; epoch = epoch.0; channel = channel.0 }, channel.1)

abbrev pub staple_kept : List ℕ → Option StapleParts
staple_kept bytes = result_ok (whole staple_read_at bytes)

-- the order whose kind and bytes these are
abbrev pub order_of_kind : ℕ → List ℕ → Option OwnerOrder
order_of_kind kind bytes =
    if kind == 1 then message_kept bytes
    else (if kind == 2 then result_ok (beginning_at (start_of bytes))
    else (if kind == 3 then option_map Know (result_ok (whole certificate_at bytes))
    else (if kind == 4 then option_map Handover (draft_kept bytes)
    else (if kind == 5 then attached_by (result_ok (number_at w64 (start_of bytes)))
    else (if kind == 6 then option_map Object (draft_kept bytes)
    else (if kind == 7 then option_map Allow (permit_kept bytes)
    else (if kind == 8 then option_map Disallow (permit_kept bytes)
    else (if kind == 9 then option_map Restaple (staple_kept bytes) else None))))))))

-- what a text says
abbrev pub kept_order : List ℕ → Option OwnerOrder
kept_order [] = None
kept_order (kind ∷ bytes) = order_of_kind kind bytes

-- what is allowed, and a staple, as a program has them: a number has its width, and a channel is a digest
abbrev pub IsPermit : Permit → Type 0
IsPermit permit = permit.draft < 2 ^ 64 × IsDigest permit.channel

abbrev pub IsStapleParts : StapleParts → Type 0
IsStapleParts s = s.draft < 2 ^ 64 × (s.epoch < 2 ^ 64 × IsDigest s.channel)

-- an order as a program has it: each number of it has its width, and a certificate is one
abbrev pub IsWhole : OwnerOrder → Type 0
IsWhole (Take bytes) = Unit {0}
IsWhole (Begin cert asks) = IsCertificate cert × AllByRecursion (λ n. n < 2 ^ 16) asks
IsWhole (Know cert) = IsCertificate cert
IsWhole (Handover draft) = draft < 2 ^ 64
IsWhole (Attach draft handover) = draft < 2 ^ 64
IsWhole (Object draft) = draft < 2 ^ 64
IsWhole (Submit draft) = draft < 2 ^ 64
IsWhole (Allow permit) = IsPermit permit
IsWhole (Disallow permit) = IsPermit permit
IsWhole (Staple permit confirmation) = IsPermit permit × epoch_in confirmation < 2 ^ 64
IsWhole (Restaple s) = IsStapleParts s
IsWhole Leaves = Unit {0}
