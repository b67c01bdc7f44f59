-- What an order leaves of the certificates and of the directory.
use Rattle.std.proofs.Common.{◌≡◌, ℕ, ◌+◌, ◌-◌, List, [], ◌∷◌, ◌++◌, length, Bool, true, false, cond, eqb, None, Some, Ok, refl, sym, ap, ◌∙◌, arith}
use Rattle.std.specs.Prelude.{nat_le, slice_get}
use Rattle.std.proofs.lemmas.Bool.{eqb-true}
use Rattle.std.proofs.lemmas.List.{append-nil}
use Rattle.ar_base.specs.Chaining.{◌>>=◌, need}
use Rattle.ar_base.proofs.Lists.{get-more}
use Rattle.ar_base.proofs.Shown.{bind_ok, ok_is}
use Rattle.ar_cert.specs.Certificate.{Certificate, digest_of}
use Rattle.owner_core.specs.Rows.{attach_row, begin_row, object_row, step_row, submit_row}
use Rattle.owner_keeper.specs.Keeping.{OwnerStanding, answered, draft_in, draft_of, handing_row, known_in, order_row, restaple_row, silent, stapled_reply, submitted}
use Rattle.owner_keeper.specs.Stapling.{StapleParts, allowing, disallowing, hearing, stapling_by, with_staple}
use Rattle.owner_keeper.specs.Texts.{most_asks, most_handover}
use Rattle.owner_keeper.specs.declared.order.OwnerOrder.{OwnerOrder}
use Rattle.owner_keeper.specs.declared.order.OwnerOrder.TheVariants.{Take, Begin, Know, Handover, Attach, Object, Submit, Allow, Disallow, Staple, Restaple, Leaves}
use Rattle.owner_keeper.specs.declared.refusal.OwnerOrderRefusal.TheVariants as refusals
use Rattle.owner_keeper.specs.declared.reply.OwnerReply.{OwnerReply}
use Rattle.owner_keeper.specs.declared.reply.OwnerReply.TheVariants.{Handed, Sends}
use Rattle.owner_keeper.proofs.Done.{allowed_by, done_by, restapled_by, sent_stays, stapled_by}

-- ---- certificates

abbrev pub Behind : List Certificate → List Certificate → Type 0
Behind certs later = (more : List Certificate) × (later ≡ certs ++ more)

same-behind : (certs later : List Certificate) → later ≡ certs → Behind certs later
same-behind certs later e = ([], e ∙ sym (append-nil certs))

-- a staple leaves them
restapled-grow : (party : OwnerStanding) (s : StapleParts) (reply : OwnerReply) (later : OwnerStanding) → restaple_row party s ≡ Ok (reply, later) → Behind party.certs later.certs
restapled-grow party s reply later e =
    let r = restapled_by party s reply later e in
    same-behind party.certs later.certs (done_by (stapled_reply r.cert s) party.certs (with_staple party.stapling s) (stapling_by party.owner r.cert s) reply later r.row).certs_are

-- what was known is known
pub certs_grow : (party : OwnerStanding) (order : OwnerOrder) (reply : OwnerReply) (later : OwnerStanding) → order_row party order ≡ Ok (reply, later) → Behind party.certs later.certs
certs_grow party (Take bytes) reply later e =
    same-behind party.certs later.certs (done_by Sends party.certs (hearing party.stapling bytes) (step_row party.owner bytes) reply later e).certs_are
certs_grow party (Begin cert asks) reply later e =
    let b = bind_ok (need (nat_le (length asks) most_asks) refusals.Long) (λ few. answered Sends (party.certs ++ cert ∷ []) party.stapling (begin_row party.owner cert asks)) (reply, later) e in
    (cert ∷ [], (done_by Sends (party.certs ++ cert ∷ []) party.stapling (begin_row party.owner cert asks) reply later b.2).certs_are)
certs_grow party (Know cert) reply later e =
    let at : OwnerStanding = record party { certs = party.certs ++ cert ∷ [] } in
    (cert ∷ [], sym (ap (λ (p : OwnerReply × OwnerStanding). p.1.certs) (ok_is (silent tt, at) (reply, later) e)))
certs_grow party (Handover draft) reply later e =
    let b = bind_ok (known_in party.certs draft) (λ cert. answered (Handed (digest_of cert)) party.certs party.stapling (handing_row party.owner (digest_of cert))) (reply, later) e in
    same-behind party.certs later.certs (done_by (Handed (digest_of b.0)) party.certs party.stapling (handing_row party.owner (digest_of b.0)) reply later b.2).certs_are
certs_grow party (Attach draft handover) reply later e =
    let a = bind_ok (need (nat_le (length handover) most_handover) refusals.Long)
    (λ short. known_in party.certs draft >>= λ cert. answered silent party.certs party.stapling (attach_row party.owner (digest_of cert) handover)) (reply, later) e in
    let b = bind_ok (known_in party.certs draft) (λ cert. answered silent party.certs party.stapling (attach_row party.owner (digest_of cert) handover)) (reply, later) a.2 in
    same-behind party.certs later.certs (done_by silent party.certs party.stapling (attach_row party.owner (digest_of b.0) handover) reply later b.2).certs_are
certs_grow party (Object draft) reply later e =
    let b = bind_ok (known_in party.certs draft) (λ cert. answered Sends party.certs party.stapling (object_row party.owner cert)) (reply, later) e in
    same-behind party.certs later.certs (done_by Sends party.certs party.stapling (object_row party.owner b.0) reply later b.2).certs_are
certs_grow party (Submit draft) reply later e =
    let b = bind_ok (known_in party.certs draft) (λ cert. submitted party (submit_row party.owner (digest_of cert))) (reply, later) e in
    same-behind party.certs later.certs (ap (λ (p : OwnerStanding). p.certs) (sent_stays party (submit_row party.owner (digest_of b.0)) reply later b.2))
certs_grow party (Allow permit) reply later e =
    let at : OwnerStanding = record party { stapling = allowing permit party.stapling } in
    same-behind party.certs later.certs (sym (ap (λ (p : OwnerStanding). p.certs) (allowed_by party at (known_in party.certs permit.draft) (silent tt) reply later e)))
certs_grow party (Disallow permit) reply later e =
    let at : OwnerStanding = record party { stapling = disallowing permit party.stapling } in
    same-behind party.certs later.certs (sym (ap (λ (p : OwnerStanding). p.certs) (allowed_by party at (known_in party.certs permit.draft) (silent tt) reply later e)))
certs_grow party (Staple permit confirmation) reply later e =
    let d = stapled_by party permit confirmation reply later e in restapled-grow party _ reply later d.row
certs_grow party (Restaple s) reply later e = restapled-grow party s reply later e
certs_grow party Leaves reply later e =
    same-behind party.certs later.certs (sym (ap (λ (p : OwnerReply × OwnerStanding). p.1.certs) (ok_is (silent tt, party) (reply, later) e)))

-- ---- drafts by their numbers

at-place : (certs : List Certificate) (draft place : ℕ) → draft ≡ place + 1 → draft_in certs draft ≡ slice_get certs place
at-place certs draft place is = by (eqb draft 0) refl
  where
    by : (b : Bool) → eqb draft 0 ≡ b → cond b None (slice_get certs (draft - 1)) ≡ slice_get certs place
    by true e = absurd (omega (arith, eqb-true draft 0 e))
    by false e = let same : draft - 1 ≡ place = omega (arith, is) in ap (slice_get certs) same

last-of : (certs : List Certificate) (cert : Certificate) → slice_get (certs ++ cert ∷ []) (length certs) ≡ Some cert
last-of [] cert = refl
last-of (c ∷ certs) cert = last-of certs cert

-- the newest certificate has the next number
next-number : (certs later : List Certificate) (cert : Certificate) → later ≡ certs ++ cert ∷ [] → draft_in later (length certs + 1) ≡ Some cert
next-number certs later cert is =
    at-place later (length certs + 1) (length certs) refl ∙ ap (λ (cs : List Certificate). slice_get cs (length certs)) is ∙ last-of certs cert

pub begun_number : (party later : OwnerStanding) (cert : Certificate) (asks : List ℕ) (reply : OwnerReply) → order_row party (Begin cert asks) ≡ Ok (reply, later)
    → draft_of later (length party.certs + 1) ≡ Some cert
begun_number party later cert asks reply e =
    let b = bind_ok (need (nat_le (length asks) most_asks) refusals.Long) (λ few. answered Sends (party.certs ++ cert ∷ []) party.stapling (begin_row party.owner cert asks)) (reply, later) e in
    next-number party.certs later.certs cert (done_by Sends (party.certs ++ cert ∷ []) party.stapling (begin_row party.owner cert asks) reply later b.2).certs_are

pub known_number : (party later : OwnerStanding) (cert : Certificate) (reply : OwnerReply) → order_row party (Know cert) ≡ Ok (reply, later)
    → draft_of later (length party.certs + 1) ≡ Some cert
known_number party later cert reply e =
    let at : OwnerStanding = record party { certs = party.certs ++ cert ∷ [] } in
    next-number party.certs later.certs cert (sym (ap (λ (p : OwnerReply × OwnerStanding). p.1.certs) (ok_is (silent tt, at) (reply, later) e)))

kept-in : (certs later : List Certificate) (draft : ℕ) (cert : Certificate) → Behind certs later → draft_in certs draft ≡ Some cert → draft_in later draft ≡ Some cert
kept-in certs later draft cert behind e = by (eqb draft 0) e
  where
    by : (b : Bool) → cond b None (slice_get certs (draft - 1)) ≡ Some cert → cond b None (slice_get later (draft - 1)) ≡ Some cert
    by true e = absurd cc
    by false e = ap (λ (cs : List Certificate). slice_get cs (draft - 1)) behind.1 ∙ get-more certs behind.0 (draft - 1) cert e

pub kept_number : (party later : OwnerStanding) (order : OwnerOrder) (reply : OwnerReply) (draft : ℕ) (cert : Certificate) → order_row party order ≡ Ok (reply, later)
    → draft_of party draft ≡ Some cert → draft_of later draft ≡ Some cert
kept_number party later order reply draft cert e there = kept-in party.certs later.certs draft cert (certs_grow party order reply later e) there
