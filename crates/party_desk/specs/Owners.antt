-- What a line asks of an owner that is a process, and what is written of what it replies.
use Rattle.std.specs.Prelude.{ℕ, ◌-◌, ◌/◌, ◌^◌, ◌==◌, nat_le, nat_lt, ◌&&◌, ◌||◌, Bool, true, false, List, [], ◌∷◌, ◌++◌, length, if◌then◌else◌, Option, None, Some, Result, Ok, Err, codes, option_and_then}
use Rattle.std.specs.List.{list_all}
use Rattle.std.specs.Str.{bytes_eq}
use Rattle.std.specs.Option.{ok_or}
use Rattle.std.specs.Result.{result_ok}
use Rattle.std.proofs.lemmas.Map.Entries.{option_filter}
use Rattle.ar_base.specs.Chaining.{◌>>=◌, need}
use Rattle.ar_bytes.specs.Reading.{whole}
use Rattle.ar_cert.specs.Certificate.{Certificate, certificate_at, digest_of}
use Rattle.ar_lines.specs.Forms.{bytes_of_hex, number_of, sized_of_hex}
use Rattle.ar_lines.specs.Lines.{is_text, words_of}
use Rattle.ar_lines.specs.declared.refusal.Reason.TheVariants.{Field}
use Rattle.ar_nodes.specs.Codes.{owner_code}
use Rattle.ar_statement.specs.Claims.{owner_party}
use Rattle.cert_drafts.specs.Certificates.{first_certificate, next_certificate}
use Rattle.cert_drafts.specs.Policies.{policy_of}
use Rattle.lms_tree.specs.Key.{public_of}
use Rattle.owner_core.specs.declared.refusal.OwnerRefusal.{OwnerRefusal}
use Rattle.owner_core.specs.declared.refusal.OwnerRefusal.TheVariants.{Memory}
use Rattle.owner_keeper.specs.Keeping.{OwnerStanding, draft_of}
use Rattle.owner_keeper.specs.Stapling.{free_of, kept_back}
use Rattle.owner_keeper.specs.Texts.{most_handover}
use Rattle.owner_keeper.specs.declared.order.OwnerOrder.{OwnerOrder}
use Rattle.owner_keeper.specs.declared.order.OwnerOrder.TheVariants as orders
use Rattle.owner_keeper.specs.declared.permit.Permit.{Permit}
use Rattle.owner_keeper.specs.declared.refusal.OwnerOrderRefusal.{OwnerOrderRefusal}
use Rattle.owner_keeper.specs.declared.refusal.OwnerOrderRefusal.TheVariants as refusals
use Rattle.owner_keeper.specs.declared.reply.OwnerReply.{OwnerReply}
use Rattle.owner_keeper.specs.declared.reply.OwnerReply.TheVariants.{Handed, Sends, Stapled}
use Rattle.report_text.specs.Lines.{line_of}
use Rattle.report_text.specs.declared.happening.Happening.TheVariants.{Draft}
use Rattle.report_text.specs.declared.happening.What.{What}
use Rattle.report_text.specs.declared.happening.What.TheVariants as what
use Rattle.script_text.specs.Grammar.{Fields, one, three, two}
use Rattle.script_text.specs.Rows.{owner_of}
use Rattle.script_text.specs.declared.line.EventLine.{EventLine}
use Rattle.script_text.specs.declared.line.EventLine.TheVariants as events
use Rattle.party_desk.specs.Asking.{Wanted, wanted_by, heard_in, for_own, of_form, wants}
use Rattle.party_desk.specs.Telling.{draft_step, handed_line, leaves_line, refused_so, sent_lines, stapled_line, step_told, unread_line}
use Rattle.party_desk.specs.declared.unread.Cause.{Cause}
use Rattle.party_desk.specs.declared.unread.Cause.TheVariants as cause

-- ---- what there has to be

-- how many certificates an owner knows at most
abbrev pub most_certificates : ℕ
most_certificates = 4096

-- there is room for a certificate more
abbrev pub has_room : OwnerStanding → Result (Unit {0}) Cause
has_room party = need (nat_lt (length party.certs) most_certificates) cause.Limit

-- a certificate can follow this one: its serial is not the greatest
abbrev pub can_be_followed : Certificate → Result (Unit {0}) Cause
can_be_followed old = need (nat_lt old.serial (2 ^ 64 - 1)) cause.Limit

-- the certificate of the draft that the word with this number names
abbrev pub named_draft : OwnerStanding → ℕ → ℕ → Result Certificate Cause
named_draft party draft word = ok_or (draft_of party draft) (cause.Absent word)

-- an authority with this number is there where there are so many; the number has two bytes
abbrev pub is_among : ℕ → ℕ → Bool
is_among count number = nat_lt number 65536 && nat_lt number count

-- the word with this number names authorities alone that are there
abbrev pub named_asks : OwnerStanding → ℕ → List ℕ → Result (Unit {0}) Cause
named_asks party word asks = need (list_all (is_among (length party.owner.directory.authorities)) asks) (cause.Absent word)

-- the line names this owner
abbrev pub names_owner : OwnerStanding → ℕ → Result (Unit {0}) Cause
names_owner party named = for_own (owner_party party.owner.number) (owner_party named) tt

-- ---- orders

-- what an event asks of an owner
abbrev pub order_for_owner : OwnerStanding → EventLine → Result OwnerOrder Cause
order_for_owner party (events.Register named name words asks) = do
  own ← names_owner party named
  policy ← ok_or (policy_of words) (cause.Absent 3)
  known ← named_asks party 8 asks
  room ← has_room party
  Ok (orders.Begin (first_certificate (public_of party.owner.key) name policy) asks)
order_for_owner party (events.Update named draft words asks) = do
  own ← names_owner party named
  old ← named_draft party draft 2
  policy ← ok_or (policy_of words) (cause.Absent 3)
  known ← named_asks party 8 asks
  room ← has_room party
  follows ← can_be_followed old
  Ok (orders.Begin (next_certificate (public_of party.owner.key) old policy false) asks)
order_for_owner party (events.Revoke named draft asks) = do
  own ← names_owner party named
  old ← named_draft party draft 2
  known ← named_asks party 3 asks
  room ← has_room party
  follows ← can_be_followed old
  Ok (orders.Begin (next_certificate (public_of party.owner.key) old old.policy true) asks)
order_for_owner party (events.Handover named draft) = do
  own ← names_owner party named
  cert ← named_draft party draft 2
  Ok (orders.Handover draft)
order_for_owner party (events.Object named draft) = do
  own ← names_owner party named
  cert ← named_draft party draft 2
  Ok (orders.Object draft)
order_for_owner party (events.Submit draft) = do
  cert ← named_draft party draft 1
  Ok (orders.Submit draft)
order_for_owner party event = Err cause.Order

-- ---- lines that only owners have

-- the certificate whose text a word of hex spells
abbrev pub spelled_certificate : List ℕ → Option Certificate
spelled_certificate word = option_and_then (λ bytes. result_ok (whole certificate_at bytes)) (bytes_of_hex word)

-- the bytes of a handover that a word of hex spells: no more than an owner takes
abbrev pub spelled_handover : List ℕ → Option (List ℕ)
spelled_handover word = option_filter (λ bytes. nat_le (length bytes) most_handover) (bytes_of_hex word)

-- `<hex>`, the field behind `draft`: another owner's certificate
abbrev pub draft_fields : Fields Certificate
draft_fields = one spelled_certificate (λ cert. cert)

-- a draft, and the handover to it that another owner signed
pub record HandoverWords : Type 0 where
  pub draft : ℕ
  pub handover : List ℕ

-- `<draft> <hex>`, the fields behind `attach`
abbrev pub attach_fields : Fields HandoverWords
attach_fields = two number_of spelled_handover (λ draft handover. record { draft = draft; handover = handover })

-- what the words behind `draft` ask
abbrev pub draft_order : OwnerStanding → List (List ℕ) → Result OwnerOrder Cause
draft_order party words = do
  cert ← of_form (draft_fields words)
  room ← has_room party
  Ok (orders.Know cert)

-- what the words behind `attach` ask
abbrev pub attach_order : OwnerStanding → List (List ℕ) → Result OwnerOrder Cause
attach_order party words = do
  said ← of_form (attach_fields words)
  cert ← named_draft party said.draft 1
  Ok (orders.Attach said.draft said.handover)

-- `<draft> <64 hex>`, the fields behind `allow` and `disallow`: a TLS key, for the certificate of a draft
abbrev pub permit_fields : Fields Permit
permit_fields = two number_of (sized_of_hex 32) (λ draft channel. record { draft = draft; channel = channel })

-- what is stapled, and the confirmation by which it is
pub record StapleWords : Type 0 where
  pub permit : Permit
  pub confirmation : List ℕ

abbrev pub staple_words : ℕ → List ℕ → List ℕ → StapleWords
staple_words draft channel confirmation = record { permit = record { draft = draft; channel = channel }; confirmation = confirmation }

-- `<draft> <64 hex> <hex>`, the fields behind `staple`
abbrev pub staple_fields : Fields StapleWords
staple_fields = three number_of (sized_of_hex 32) bytes_of_hex staple_words

-- `<D>`, the field behind `leaves`
abbrev pub leaves_fields : Fields ℕ
leaves_fields = one owner_of (λ number. number)

-- what the words behind `allow` and `disallow` ask
abbrev pub permit_order : OwnerStanding → (Permit → OwnerOrder) → List (List ℕ) → Result OwnerOrder Cause
permit_order party order words = do
  permit ← of_form (permit_fields words)
  cert ← named_draft party permit.draft 1
  Ok (order permit)

-- what the words behind `staple` ask
abbrev pub staple_order : OwnerStanding → List (List ℕ) → Result OwnerOrder Cause
staple_order party words = do
  said ← of_form (staple_fields words)
  cert ← named_draft party said.permit.draft 1
  Ok (orders.Staple said.permit said.confirmation)

-- what the word behind `leaves` asks
abbrev pub leaves_order : OwnerStanding → List (List ℕ) → Result OwnerOrder Cause
leaves_order party words = do
  named ← of_form (leaves_fields words)
  own ← names_owner party named
  Ok orders.Leaves

-- what these words ask, where the first is one of staples
abbrev pub by_staple_words : OwnerStanding → List ℕ → List (List ℕ) → Wanted OwnerOrder → Wanted OwnerOrder
by_staple_words party word words other =
    if bytes_eq word (codes "allow") then wants (permit_order party orders.Allow words)
    else (if bytes_eq word (codes "disallow") then wants (permit_order party orders.Disallow words)
    else (if bytes_eq word (codes "staple") then wants (staple_order party words)
    else (if bytes_eq word (codes "leaves") then wants (leaves_order party words) else other)))

-- what these words ask, where the first is one that only owners have
abbrev pub by_owner_words : OwnerStanding → List (List ℕ) → Wanted OwnerOrder → Wanted OwnerOrder
by_owner_words party [] other = other
by_owner_words party (word ∷ words) other =
    if bytes_eq word (codes "draft") then wants (draft_order party words)
    else (if bytes_eq word (codes "attach") then wants (attach_order party words) else by_staple_words party word words other)

-- what a line asks of an owner
abbrev pub owner_asked : OwnerStanding → List ℕ → Wanted OwnerOrder
owner_asked party line =
    let plain = wanted_by orders.Take (order_for_owner party) (heard_in line)
    in if is_text line then by_owner_words party (words_of line) plain else plain

-- ---- what is written

-- what a reply sends
abbrev pub owner_sent : OwnerReply → List ℕ
owner_sent (Sends sent) = sent_lines sent
owner_sent (Handed digest signature) = handed_line digest signature
owner_sent (Stapled digest epoch channel signature) = stapled_line digest epoch channel signature

-- ---- leaves

-- how many leaves are left, of how many, and how many of those staples leave to handovers and objections
abbrev pub leaves_told : OwnerStanding → List ℕ
leaves_told party = leaves_line (owner_party party.owner.number) (free_of party.owner.book) party.owner.book.leaves (kept_back party.owner.book.leaves)

-- so many leaves of all are left as are told without being asked: a half, an eighth, or what staples leave
abbrev pub is_told : ℕ → ℕ → Bool
is_told free leaves = free == leaves / 2 || (free == leaves / 8 || free == kept_back leaves)

-- what is told of them where an order may have taken one
abbrev pub leaves_unasked : OwnerStanding → List ℕ
leaves_unasked party = if is_told (free_of party.owner.book) party.owner.book.leaves then leaves_told party else []

-- what an owner does for an order in the line with this number; nothing of this kind where it makes a draft
abbrev pub owner_what : ℕ → OwnerOrder → Option What
owner_what number (orders.Take bytes) = Some (what.Take number)
owner_what number (orders.Begin cert asks) = None
owner_what number (orders.Know cert) = None
owner_what number (orders.Handover draft) = Some (what.Handover draft)
owner_what number (orders.Attach draft handover) = Some (what.Handover draft)
owner_what number (orders.Object draft) = Some (what.Object draft)
owner_what number (orders.Submit draft) = Some (what.Submit draft)
owner_what number (orders.Allow permit) = None
owner_what number (orders.Disallow permit) = None
owner_what number (orders.Staple permit confirmation) = None
owner_what number (orders.Restaple s) = None
owner_what number orders.Leaves = None

-- the newest draft
abbrev pub draft_line : OwnerStanding → Option Certificate → List ℕ
draft_line party None = []
draft_line party (Some cert) = line_of (Draft (length party.certs) (digest_of cert))

-- what is told of a step that it did, where it stands so then
abbrev pub owner_done : OwnerStanding → Option What → List ℕ
owner_done party (Some done) = step_told (owner_party party.owner.number) done None
owner_done party None = draft_line party (draft_of party (length party.certs))

-- that of a step by which a draft is stapled, or may be
abbrev pub draft_told : OwnerStanding → List ℕ → ℕ → List ℕ
draft_told party word draft = draft_step (owner_party party.owner.number) word draft ++ codes " ok\n"

abbrev pub owner_told : OwnerStanding → ℕ → OwnerOrder → List ℕ
owner_told party number (orders.Handover draft) = leaves_unasked party ++ owner_done party (owner_what number (orders.Handover draft))
owner_told party number (orders.Object draft) = leaves_unasked party ++ owner_done party (owner_what number (orders.Object draft))
owner_told party number (orders.Allow permit) = draft_told party (codes "allow") permit.draft
owner_told party number (orders.Disallow permit) = draft_told party (codes "disallow") permit.draft
owner_told party number (orders.Staple permit confirmation) = leaves_unasked party ++ draft_told party (codes "staple") permit.draft
owner_told party number (orders.Restaple s) = leaves_unasked party ++ draft_told party (codes "staple") s.draft
owner_told party number orders.Leaves = leaves_told party
owner_told party number order = owner_done party (owner_what number order)

-- the number of the word by which a line names the draft of an order
abbrev pub draft_word : OwnerOrder → ℕ
draft_word (orders.Handover draft) = 2
draft_word (orders.Object draft) = 2
draft_word order = 1

-- what is told where its row refuses; none refuses to make a draft
abbrev pub row_refused : OwnerStanding → ℕ → Option What → OwnerRefusal → List ℕ
row_refused party number (Some done) refusal = step_told (owner_party party.owner.number) done (Some (owner_code refusal))
row_refused party number None refusal = unread_line number cause.Limit

-- the draft that an order is to staple
abbrev pub stapled_draft : OwnerOrder → ℕ
stapled_draft (orders.Staple permit confirmation) = permit.draft
stapled_draft (orders.Restaple s) = s.draft
stapled_draft order = 0

-- what is told where it does not staple, by the number of the refusal, and the number of a check
abbrev pub not_stapled : OwnerStanding → OwnerOrder → ℕ → Option ℕ → List ℕ
not_stapled party order number check =
    draft_step (owner_party party.owner.number) (codes "staple") (stapled_draft order) ++ refused_so number check

-- What is told of a refusal: nothing, where memory was wanting. Where a line was read so, there is the draft, and nothing is too long.
abbrev pub owner_refused : OwnerStanding → ℕ → OwnerOrder → OwnerOrderRefusal → Option (List ℕ)
owner_refused party number order (refusals.Owner Memory) = None
owner_refused party number order (refusals.Owner refusal) = Some (row_refused party number (owner_what number order) refusal)
owner_refused party number order refusals.NoCertificate = Some (unread_line number (cause.Absent (draft_word order)))
owner_refused party number order refusals.Long = Some (unread_line number (cause.Form (Field 2)))
owner_refused party number order refusals.Foreign = Some (not_stapled party order 9 None)
owner_refused party number order (refusals.Unconfirmed check) = Some (not_stapled party order 10 (Some check))
owner_refused party number order refusals.Superseded = Some (not_stapled party order 11 None)
owner_refused party number order refusals.NotAllowed = Some (not_stapled party order 12 None)
owner_refused party number order refusals.Older = Some (not_stapled party order 13 None)
owner_refused party number order refusals.KeptBack = Some (not_stapled party order 14 None)
