-- Each order leaves an owner its key, and each of its leaves what it served; so do the lives of its file.
use Rattle.std.proofs.Common.{◌≡◌, ◌∙◌, ℕ, List, [], ◌∷◌, ◌++◌, length, Option, None, Some, Result, Ok, Err, refl, sym, subst}
use Rattle.std.specs.Prelude.{nat_le}
use Rattle.ar_base.proofs.Prefixes.{begins_itself, begins_on}
use Rattle.ar_base.proofs.Shown.{bind_ok, ok_is}
use Rattle.ar_base.specs.Chaining.{◌>>=◌, need}
use Rattle.ar_base.specs.Gives.{with_error}
use Rattle.ar_base.specs.Places.{place_of}
use Rattle.ar_cert.specs.Certificate.{Certificate, digest_of}
use Rattle.ar_cert.specs.Changes.{Change}
use Rattle.ar_message.specs.Messages.{message_in}
use Rattle.ar_message.specs.declared.message.Message.{Message}
use Rattle.ar_message.specs.declared.sent.Sent.{Sent}
use Rattle.ar_statement.specs.Claims.{answer, authority_party, endorse, handover, object, text_of}
use Rattle.ar_statement.specs.declared.fault.BookFault.{BookFault}
use Rattle.bound_challenge.specs.Challenges.{staple_challenge}
use Rattle.kept_journal.specs.Replays.{ReachesBy}
use Rattle.kept_party.proofs.Kept.{done_kept, replays_keep}
use Rattle.kept_party.specs.Lives.{Lead, Life}
use Rattle.kept_party.specs.Taking.{Becomes}
use Rattle.lms_tree.specs.Key.{signature_of}
use Rattle.owner_core.specs.Drafts.{changed_draft, endorsed, handed_over}
use Rattle.owner_core.specs.Objecting.{objection}
use Rattle.owner_core.specs.Rows as rows
use Rattle.owner_core.specs.Rows.{OwnerAnswer, attach_row, begin_row, handover_row, is_own, message_row, object_row, roll_refusal, step_row, submission, submit_row, verified_as, with_drafts}
use Rattle.owner_core.specs.Signing.{after_signing, signed_at, signed_by_owner}
use Rattle.owner_core.specs.State.{Owner}
use Rattle.owner_core.specs.declared.refusal.OwnerRefusal.{OwnerRefusal}
use Rattle.owner_core.specs.declared.refusal.OwnerRefusal.TheVariants.{Form}
use Rattle.owner_keeper.specs.Determined.{one_standing}
use Rattle.owner_keeper.specs.Keeping as keeping
use Rattle.owner_keeper.specs.Keeping.{OwnerStanding, answered, attached, handing_row, known_in, order_row, restaple_row, silent, stapled_reply, submitted}
use Rattle.owner_keeper.specs.Lasting.{SignsOn}
use Rattle.owner_keeper.specs.Stapling.{StapleParts, allowing, disallowing, hearing, stapling_by, with_staple}
use Rattle.owner_keeper.specs.Texts.{most_asks, most_handover}
use Rattle.owner_keeper.specs.declared.order.OwnerOrder.{OwnerOrder}
use Rattle.owner_keeper.specs.declared.order.OwnerOrder.TheVariants.{Take, Begin, Know, Handover, Attach, Object, Submit, Allow, Disallow, Staple, Restaple, Leaves}
use Rattle.owner_keeper.specs.declared.refusal.OwnerOrderRefusal.TheVariants as refusals
use Rattle.owner_keeper.specs.declared.reply.OwnerReply.{OwnerReply}
use Rattle.owner_keeper.specs.declared.reply.OwnerReply.TheVariants.{Handed, Sends}
use Rattle.owner_keeper.proofs.Done.{allowed_by, done_by, restapled_by, sent_stays, stapled_by}
use Rattle.party_keys.specs.Directory.{Directory}
use Rattle.party_keys.specs.Learning.{Announced, after_learning, learned}
use Rattle.party_keys.specs.Signatures.{verified}
use Rattle.sign_book.specs.Entry.{after_at, leaf_of}
use Rattle.owner_keeper.proofs.EachRow.{message-has}

-- ---- an owner that signs on

signs-itself : (me : Owner) → SignsOn me me
signs-itself me = record { key = refl; leaves = refl; texts = begins_itself me.book.texts }

signs-then : (me mid later : Owner) → SignsOn me mid → SignsOn mid later → SignsOn me later
signs-then me mid later first second = record {
  key = second.key ∙ first.key;
  leaves = second.leaves ∙ first.leaves;
  texts = begins_on me.book.texts mid.book.texts later.book.texts second.texts first.texts;
}

-- with other drafts, and with another directory
drafts-on : (me : Owner) (drafts : List Change) → SignsOn me (record me { drafts = drafts })
drafts-on me drafts = record { key = refl; leaves = refl; texts = begins_itself me.book.texts }

directory-on : (me : Owner) (directory : Directory) → SignsOn me (record me { directory = directory })
directory-on me directory = record { key = refl; leaves = refl; texts = begins_itself me.book.texts }

-- behind a statement
entry-on : (me : Owner) (text : List ℕ) → SignsOn me (after_signing me text)
entry-on me text = by (place_of me.book.texts text)
  where
    by : (place : Option ℕ) → SignsOn me (record me { book = after_at me.book text place })
    by (Some place) = record { key = refl; leaves = refl; texts = begins_itself me.book.texts }
    by None = record { key = refl; leaves = refl; texts = (text ∷ [], refl) }

signed-on : (me : Owner) (text : List ℕ) (given : Result ℕ BookFault) (made : List ℕ × Owner) → signed_at me text given ≡ Ok made → SignsOn me made.1
signed-on me text (Ok leaf) made e =
    subst (λ (p : List ℕ × Owner). SignsOn me p.1) (ok_is (signature_of me.key leaf text, after_signing me text) made e) (entry-on me text)
signed-on me text (Err fault) made e = absurd cc

-- ---- rows

-- what a row made that answered so
made-on : {T : Type 0} (me at : Owner) (said value : T) (later : Owner) → ◌≡◌ {A = OwnerAnswer T} (Ok (said, at)) (Ok (value, later)) → SignsOn me at → SignsOn me later
made-on {T} me at said value later e on = subst (λ (p : T × Owner). SignsOn me p.1) (ok_is (said, at) (value, later) e) on

endorsed-on : (me later : Owner) (owner authority : ℕ) (certificate signature : List ℕ) (value : Sent) → rows.endorsed_row me owner authority certificate signature ≡ Ok (value, later) → SignsOn me later
endorsed-on me later owner authority certificate signature value e =
    let rest : Unit {0} → OwnerAnswer Sent = λ valid. changed_draft me.drafts certificate (endorsed (record { authority = authority; signature = signature })) >>= λ drafts. with_drafts me drafts in
    let checked : Result (Unit {0}) OwnerRefusal =
    verified_as (authority_party authority) (verified me.directory (authority_party authority) (text_of (endorse authority certificate)) signature) in
    let a = bind_ok (is_own me owner) (λ own. checked >>= rest) (value, later) e in
    let b = bind_ok checked rest (value, later) a.2 in
    let c = bind_ok (changed_draft me.drafts certificate (endorsed (record { authority = authority; signature = signature }))) (λ drafts. with_drafts me drafts) (value, later) b.2 in
    made-on me (record me { drafts = c.0 }) (rows.sent []) value later c.2 (drafts-on me c.0)

roll-on : (me later : Owner) (a : Announced) (value : Sent) → rows.roll_row me a ≡ Ok (value, later) → SignsOn me later
roll-on me later a value e =
    let b = bind_ok (with_error (roll_refusal a.party a.generation) (learned me.directory a)) (λ new. Ok (rows.sent [], record me { directory = after_learning me.directory a })) (value, later) e in
    made-on me (record me { directory = after_learning me.directory a }) (rows.sent []) value later b.2 (directory-on me (after_learning me.directory a))

message-on : (me later : Owner) (m : Message) (value : Sent) → message_row me m ≡ Ok (value, later) → SignsOn me later
message-on me later m value e = message-has (λ row. row me ≡ Ok (value, later) → SignsOn me later) (record {
  endorsed = λ owner authority certificate signature is. endorsed-on me later owner authority certificate signature value is;
  roll = λ a is. roll-on me later a value is;
  other = λ is. absurd cc;
}) m e

step-on : (me later : Owner) (bytes : List ℕ) (value : Sent) → step_row me bytes ≡ Ok (value, later) → SignsOn me later
step-on me later bytes value e =
    let m = bind_ok (with_error Form (message_in bytes)) (message_row me) (value, later) e in message-on me later m.0 value m.2

attach-on : (me later : Owner) (digest bytes : List ℕ) (value : Unit {0}) → attach_row me digest bytes ≡ Ok (value, later) → SignsOn me later
attach-on me later digest bytes value e =
    let b = bind_ok (changed_draft me.drafts digest (handed_over bytes)) (λ drafts. Ok (tt, record me { drafts = drafts })) (value, later) e in
    made-on me (record me { drafts = b.0 }) tt value later b.2 (drafts-on me b.0)

-- where the handover is attached to a draft, or there is none
attached-on : (me : Owner) (row : OwnerAnswer (Unit {0})) → ((value : Unit {0}) (later : Owner) → row ≡ Ok (value, later) → SignsOn me later) → SignsOn me (attached me row)
attached-on me (Ok made) on = on made.0 made.1 refl
attached-on me (Err refusal) on = signs-itself me

handing-on : (me later : Owner) (digest value : List ℕ) → handing_row me digest ≡ Ok (value, later) → SignsOn me later
handing-on me later digest value e =
    let b = bind_ok (handover_row me digest) (λ signed. Ok (signed.0, attached signed.1 (attach_row signed.1 digest signed.0))) (value, later) e in
    let behind : Owner = b.0.1 in
    made-on me (attached behind (attach_row behind digest b.0.0)) b.0.0 value later b.2
    (signs-then me behind (attached behind (attach_row behind digest b.0.0)) (signed-on me (text_of (handover digest)) (leaf_of me.book (text_of (handover digest))) b.0 b.1)
    (attached-on behind (attach_row behind digest b.0.0) (λ u to is. attach-on behind to digest b.0.0 u is)))

object-on : (me later : Owner) (cert : Certificate) (value : Sent) → object_row me cert ≡ Ok (value, later) → SignsOn me later
object-on me later cert value e =
    let text : List ℕ = text_of (object (digest_of cert)) in
    let b = bind_ok (signed_by_owner me (object (digest_of cert))) (λ signature. Ok (submission (objection cert signature.0), signature.1)) (value, later) e in
    made-on me b.0.1 (submission (objection cert b.0.0)) value later b.2 (signed-on me text (leaf_of me.book text) b.0 b.1)

-- ---- orders

begin-on : (me later : Owner) (cert : Certificate) (asks : List ℕ) (value : Sent) → begin_row me cert asks ≡ Ok (value, later) → SignsOn me later
begin-on me later cert asks value e = made-on me _ _ value later e (drafts-on me _)

restapled-on : (party later : OwnerStanding) (s : StapleParts) (reply : OwnerReply) → restaple_row party s ≡ Ok (reply, later) → SignsOn party.owner later.owner
restapled-on party later s reply e =
    let r = restapled_by party s reply later e in
    let text : List ℕ = text_of (answer r.cert.name (digest_of r.cert) (staple_challenge s.epoch s.channel)) in
    let d = done_by (stapled_reply r.cert s) party.certs (with_staple party.stapling s) (stapling_by party.owner r.cert s) reply later r.row in
    signed-on party.owner text (leaf_of party.owner.book text) (d.value, later.owner) d.row_is

pub order_on : (party later : OwnerStanding) (order : OwnerOrder) (reply : OwnerReply) → order_row party order ≡ Ok (reply, later) → SignsOn party.owner later.owner
order_on party later (Take bytes) reply e =
    let d = done_by Sends party.certs (hearing party.stapling bytes) (step_row party.owner bytes) reply later e in step-on party.owner later.owner bytes d.value d.row_is
order_on party later (Begin cert asks) reply e =
    let b = bind_ok (need (nat_le (length asks) most_asks) refusals.Long) (λ few. answered Sends (party.certs ++ cert ∷ []) party.stapling (begin_row party.owner cert asks)) (reply, later) e in
    let d = done_by Sends (party.certs ++ cert ∷ []) party.stapling (begin_row party.owner cert asks) reply later b.2 in
    begin-on party.owner later.owner cert asks d.value d.row_is
order_on party later (Know cert) reply e =
    let at : OwnerStanding = record party { certs = party.certs ++ cert ∷ [] } in
    subst (λ (p : OwnerReply × OwnerStanding). SignsOn party.owner p.1.owner) (ok_is (silent tt, at) (reply, later) e) (signs-itself party.owner)
order_on party later (Handover draft) reply e =
    let b = bind_ok (known_in party.certs draft) (λ cert. answered (Handed (digest_of cert)) party.certs party.stapling (handing_row party.owner (digest_of cert))) (reply, later) e in
    let d = done_by (Handed (digest_of b.0)) party.certs party.stapling (handing_row party.owner (digest_of b.0)) reply later b.2 in
    handing-on party.owner later.owner (digest_of b.0) d.value d.row_is
order_on party later (Attach draft bytes) reply e =
    let a = bind_ok (need (nat_le (length bytes) most_handover) refusals.Long)
    (λ short. known_in party.certs draft >>= λ cert. answered silent party.certs party.stapling (attach_row party.owner (digest_of cert) bytes)) (reply, later) e in
    let b = bind_ok (known_in party.certs draft) (λ cert. answered silent party.certs party.stapling (attach_row party.owner (digest_of cert) bytes)) (reply, later) a.2 in
    let d = done_by silent party.certs party.stapling (attach_row party.owner (digest_of b.0) bytes) reply later b.2 in
    attach-on party.owner later.owner (digest_of b.0) bytes d.value d.row_is
order_on party later (Object draft) reply e =
    let b = bind_ok (known_in party.certs draft) (λ cert. answered Sends party.certs party.stapling (object_row party.owner cert)) (reply, later) e in
    let d = done_by Sends party.certs party.stapling (object_row party.owner b.0) reply later b.2 in
    object-on party.owner later.owner b.0 d.value d.row_is
order_on party later (Submit draft) reply e =
    let b = bind_ok (known_in party.certs draft) (λ cert. submitted party (submit_row party.owner (digest_of cert))) (reply, later) e in
    subst (λ (p : OwnerStanding). SignsOn party.owner p.owner) (sym (sent_stays party (submit_row party.owner (digest_of b.0)) reply later b.2)) (signs-itself party.owner)
order_on party later (Allow permit) reply e =
    let at : OwnerStanding = record party { stapling = allowing permit party.stapling } in
    subst (λ (p : OwnerStanding). SignsOn party.owner p.owner) (allowed_by party at (known_in party.certs permit.draft) (silent tt) reply later e) (signs-itself party.owner)
order_on party later (Disallow permit) reply e =
    let at : OwnerStanding = record party { stapling = disallowing permit party.stapling } in
    subst (λ (p : OwnerStanding). SignsOn party.owner p.owner) (allowed_by party at (known_in party.certs permit.draft) (silent tt) reply later e) (signs-itself party.owner)
order_on party later (Staple permit confirmation) reply e = restapled-on party later _ reply (stapled_by party permit confirmation reply later e).row
order_on party later (Restaple s) reply e = restapled-on party later s reply e
order_on party later Leaves reply e = subst (λ (p : OwnerReply × OwnerStanding). SignsOn party.owner p.1.owner) (ok_is (silent tt, party) (reply, later) e) (signs-itself party.owner)

-- ---- lives

text-on : (party later : OwnerStanding) (text : List ℕ) → Becomes keeping.takes party text later → SignsOn party.owner later.owner
text-on party later text becomes = order_on party later becomes.1.order becomes.0 becomes.1.answer

pub signed_kept : (mark : List ℕ) (first before after last : OwnerStanding) (texts answered more : List (List ℕ)) (text : List ℕ) (reply : OwnerReply) (left : List ℕ) (lives : List Life)
    (final : List (List ℕ)) → length mark ≡ 8 → ReachesBy (Becomes keeping.takes) first (texts ++ answered) before → keeping.takes before text reply after
    → Lead mark texts (record { answered = answered ++ (text ∷ more); left = left } ∷ lives) final → ReachesBy (Becomes keeping.takes) first final last → SignsOn after.owner last.owner
signed_kept mark first before after last texts answered more text reply left lives final marked replays taken lead at_end =
    let since = done_kept keeping.takes one_standing mark first before after last texts answered more text reply left lives final marked replays taken lead at_end in
    replays_keep (Becomes keeping.takes) (λ (a b : OwnerStanding). SignsOn a.owner b.owner) (λ a. signs-itself a.owner)
    (λ a b c one other. signs-then a.owner b.owner c.owner one other) (λ a b t becomes. text-on a b t becomes) since.0 after last since.1
