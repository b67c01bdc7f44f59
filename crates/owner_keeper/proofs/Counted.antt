-- No order changes how many authorities an owner knows.
use Rattle.std.proofs.Common.{◌≡◌, ℕ, List, [], ◌∷◌, ◌++◌, length, Result, Ok, Err, refl, sym, ap, subst, ◌∙◌}
use Rattle.std.specs.Prelude.{IfOk, nat_le}
use Rattle.std.proofs.lemmas.List.{length-set}
use Rattle.ar_base.specs.Chaining.{◌>>=◌, need}
use Rattle.ar_base.specs.Gives.{with_error}
use Rattle.ar_base.proofs.Shown.{bind_ok, if-chained, ok_is}
use Rattle.ar_cert.specs.Certificate.{Certificate, digest_of}
use Rattle.ar_message.specs.Messages.{message_in}
use Rattle.ar_message.specs.declared.message.Message.{Message}
use Rattle.ar_statement.specs.Claims.{Claim, answer, authority_party, endorse, handover as handover_claim, object as object_claim, text_of}
use Rattle.ar_statement.specs.declared.fault.BookFault.{BookFault}
use Rattle.ar_statement.specs.declared.party.Role.{Role}
use Rattle.ar_statement.specs.declared.party.Role.TheVariants.{LogServer, Authority, Owner as OwnerRole, Client}
use Rattle.bound_challenge.specs.Challenges.{staple_challenge}
use Rattle.lms_tree.specs.declared.public_key.LmsPublic.{LmsPublic}
use Rattle.owner_core.specs.Drafts.{changed_draft, endorsed, handed_over}
use Rattle.owner_core.specs.Objecting.{objection}
use Rattle.owner_core.specs.Rows.{OwnerAnswer, attach_row, begin_row, endorsed_row, handover_row, is_own, message_row, object_row, roll_refusal, roll_row, sent, step_row, submission, submit_row, verified_as, with_drafts}
use Rattle.owner_core.specs.Signing.{signed_at, signed_by_owner}
use Rattle.owner_core.specs.State.{Owner}
use Rattle.owner_core.specs.declared.refusal.OwnerRefusal.TheVariants.{Form}
use Rattle.party_keys.specs.Directory.{Directory, keys_at}
use Rattle.party_keys.specs.Learning.{Announced, after_learning, learned, learning, next_behind, with_next_of}
use Rattle.party_keys.specs.Signatures.{verified}
use Rattle.party_keys.specs.declared.fault.LearnFault.{LearnFault}
use Rattle.party_keys.specs.declared.learning.Learned.{Learned}
use Rattle.party_keys.specs.declared.learning.Learned.TheVariants.{New, Again}
use Rattle.sign_book.specs.Entry.{leaf_of}
use Rattle.owner_keeper.specs.Keeping.{Does, OwnerStanding, answered, attached, handing_row, known_in, order_row, restaple_row, silent, stapled_reply, submitted}
use Rattle.owner_keeper.specs.Stapling.{StapleParts, Stapling, allowing, disallowing, hearing, stapling_by, with_staple}
use Rattle.owner_keeper.specs.Texts.{most_asks, most_handover}
use Rattle.owner_keeper.specs.declared.order.OwnerOrder.{OwnerOrder}
use Rattle.owner_keeper.specs.declared.order.OwnerOrder.TheVariants.{Take, Begin, Know, Handover, Attach, Object, Submit, Allow, Disallow, Staple, Restaple, Leaves}
use Rattle.owner_keeper.specs.declared.refusal.OwnerOrderRefusal.{OwnerOrderRefusal}
use Rattle.owner_keeper.specs.declared.refusal.OwnerOrderRefusal.TheVariants as refusals
use Rattle.owner_keeper.specs.declared.reply.OwnerReply.{OwnerReply}
use Rattle.owner_keeper.specs.declared.reply.OwnerReply.TheVariants.{Handed, Sends}
use Rattle.owner_keeper.proofs.Done.{allowed_by, done_by, restapled_by, sent_stays, stapled_by}
use Rattle.owner_keeper.proofs.EachRow.{message-has}

abbrev count : Owner → ℕ
count me = length me.directory.authorities

abbrev Keeps : {T : Type 0} → Owner → OwnerAnswer T → Type 0
Keeps me row = IfOk row (λ r. count r.1 ≡ count me)

of-row : {T : Type 0} (me : Owner) (row : OwnerAnswer T) (value : T) (later : Owner) → Keeps me row → row ≡ Ok (value, later) → count later ≡ count me
of-row {T} me row value later keeps e = let kept : Keeps me (Ok (value, later)) = subst (λ (r : OwnerAnswer T). Keeps me r) e keeps in kept

-- ---- messages

next-count : (role : Role) (keys : Directory) (number generation : ℕ) (key : LmsPublic) → length (with_next_of role keys number generation key).authorities ≡ length keys.authorities
next-count LogServer keys number generation key = refl
next-count Authority keys number generation key = length-set keys.authorities number (next_behind generation key (keys_at keys.authorities number))
next-count OwnerRole keys number generation key = refl
next-count Client keys number generation key = refl

learned-count : (answer : Result Learned LearnFault) (keys : Directory) (a : Announced) → length (learning answer keys a).authorities ≡ length keys.authorities
learned-count (Ok New) keys a = next-count a.party.role keys a.party.number a.generation a.key
learned-count (Ok Again) keys a = refl
learned-count (Err fault) keys a = refl

endorsed-keeps : (me : Owner) (owner authority : ℕ) (certificate signature : List ℕ) → Keeps me (endorsed_row me owner authority certificate signature)
endorsed-keeps me owner authority certificate signature =
    let drafts = changed_draft me.drafts certificate (endorsed (record { authority = authority; signature = signature })) in
    let valid = verified_as (authority_party authority) (verified me.directory (authority_party authority) (text_of (endorse authority certificate)) signature) in
    if-chained (is_own me owner) (λ own. valid >>= λ v. drafts >>= λ d. with_drafts me d) (λ r. count r.1 ≡ count me) (λ own _.
    if-chained valid (λ v. drafts >>= λ d. with_drafts me d) (λ r. count r.1 ≡ count me) (λ v _.
    if-chained drafts (λ d. with_drafts me d) (λ r. count r.1 ≡ count me) (λ d _. refl)))

roll-keeps : (me : Owner) (a : Announced) → Keeps me (roll_row me a)
roll-keeps me a =
    if-chained (with_error (roll_refusal a.party a.generation) (learned me.directory a)) (λ new. Ok (sent [], record me { directory = after_learning me.directory a }))
    (λ r. count r.1 ≡ count me) (λ new _. learned-count (learned me.directory a) me.directory a)

message-keeps : (me : Owner) (m : Message) → Keeps me (message_row me m)
message-keeps me m = message-has (λ row. Keeps me (row me)) (record { endorsed = endorsed-keeps me; roll = roll-keeps me; other = tt }) m

step-keeps : (me : Owner) (bytes : List ℕ) → Keeps me (step_row me bytes)
step-keeps me bytes = if-chained (with_error Form (message_in bytes)) (message_row me) (λ r. count r.1 ≡ count me) (λ m _. message-keeps me m)

-- ---- signatures

signed-keeps : (me : Owner) (text : List ℕ) (leaf : Result ℕ BookFault) → Keeps me (signed_at me text leaf)
signed-keeps me text (Ok leaf) = refl
signed-keeps me text (Err fault) = tt

claim-keeps : (me : Owner) (claim : Claim) → Keeps me (signed_by_owner me claim)
claim-keeps me claim = signed-keeps me (text_of claim) (leaf_of me.book (text_of claim))

object-keeps : (me : Owner) (cert : Certificate) → Keeps me (object_row me cert)
object-keeps me cert =
    if-chained (signed_by_owner me (object_claim (digest_of cert))) (λ s. Ok (submission (objection cert s.0), s.1)) (λ r. count r.1 ≡ count me)
    (λ s e. of-row me (signed_by_owner me (object_claim (digest_of cert))) s.0 s.1 (claim-keeps me (object_claim (digest_of cert))) e)

attach-keeps : (me : Owner) (digest bytes : List ℕ) → Keeps me (attach_row me digest bytes)
attach-keeps me digest bytes =
    if-chained (changed_draft me.drafts digest (handed_over bytes)) (λ drafts. Ok (tt, record me { drafts = drafts })) (λ r. count r.1 ≡ count me) (λ drafts _. refl)

attached-keeps : (me : Owner) (row : OwnerAnswer (Unit {0})) → Keeps me row → count (attached me row) ≡ count me
attached-keeps me (Ok made) keeps = keeps
attached-keeps me (Err refusal) keeps = refl

handing-keeps : (me : Owner) (digest : List ℕ) → Keeps me (handing_row me digest)
handing-keeps me digest =
    if-chained (handover_row me digest) (λ s. Ok (s.0, attached s.1 (attach_row s.1 digest s.0))) (λ r. count r.1 ≡ count me)
    (λ s e. attached-keeps s.1 (attach_row s.1 digest s.0) (attach-keeps s.1 digest s.0) ∙ of-row me (handover_row me digest) s.0 s.1 (claim-keeps me (handover_claim digest)) e)

-- ---- orders

done-keeps : {T : Type 0} (me : Owner) (reply : T → OwnerReply) (certs : List Certificate) (st : Stapling) (row : OwnerAnswer T) (said : OwnerReply) (later : OwnerStanding) → Keeps me row
    → answered reply certs st row ≡ Ok (said, later) → count later.owner ≡ count me
done-keeps me reply certs st row said later keeps e =
    let done = done_by reply certs st row said later e in
    of-row me row done.value later.owner keeps done.row_is

restapled-keeps : (party : OwnerStanding) (s : StapleParts) (reply : OwnerReply) (later : OwnerStanding) → restaple_row party s ≡ Ok (reply, later) → count later.owner ≡ count party.owner
restapled-keeps party s reply later e =
    let r = restapled_by party s reply later e in
    done-keeps party.owner (stapled_reply r.cert s) party.certs (with_staple party.stapling s) (stapling_by party.owner r.cert s) reply later
    (claim-keeps party.owner (answer r.cert.name (digest_of r.cert) (staple_challenge s.epoch s.channel))) r.row

pub authorities_stay : (party : OwnerStanding) (order : OwnerOrder) (reply : OwnerReply) (later : OwnerStanding) → order_row party order ≡ Ok (reply, later)
    → length later.owner.directory.authorities ≡ length party.owner.directory.authorities
authorities_stay party (Take bytes) reply later e = done-keeps party.owner Sends party.certs (hearing party.stapling bytes) (step_row party.owner bytes) reply later (step-keeps party.owner bytes) e
authorities_stay party (Begin cert asks) reply later e =
    let b = bind_ok (need (nat_le (length asks) most_asks) refusals.Long) (λ few. answered Sends (party.certs ++ cert ∷ []) party.stapling (begin_row party.owner cert asks)) (reply, later) e in
    done-keeps party.owner Sends (party.certs ++ cert ∷ []) party.stapling (begin_row party.owner cert asks) reply later refl b.2
authorities_stay party (Know cert) reply later e =
    let at : OwnerStanding = record party { certs = party.certs ++ cert ∷ [] } in
    sym (ap (λ (p : OwnerReply × OwnerStanding). count p.1.owner) (ok_is (silent tt, at) (reply, later) e))
authorities_stay party (Handover draft) reply later e =
    let b = bind_ok (known_in party.certs draft) (λ cert. answered (Handed (digest_of cert)) party.certs party.stapling (handing_row party.owner (digest_of cert))) (reply, later) e in
    done-keeps party.owner (Handed (digest_of b.0)) party.certs party.stapling (handing_row party.owner (digest_of b.0)) reply later (handing-keeps party.owner (digest_of b.0)) b.2
authorities_stay party (Attach draft handover) reply later e =
    let a = bind_ok (need (nat_le (length handover) most_handover) refusals.Long)
    (λ short. known_in party.certs draft >>= λ cert. answered silent party.certs party.stapling (attach_row party.owner (digest_of cert) handover)) (reply, later) e in
    let b = bind_ok (known_in party.certs draft) (λ cert. answered silent party.certs party.stapling (attach_row party.owner (digest_of cert) handover)) (reply, later) a.2 in
    done-keeps party.owner silent party.certs party.stapling (attach_row party.owner (digest_of b.0) handover) reply later (attach-keeps party.owner (digest_of b.0) handover) b.2
authorities_stay party (Object draft) reply later e =
    let b = bind_ok (known_in party.certs draft) (λ cert. answered Sends party.certs party.stapling (object_row party.owner cert)) (reply, later) e in
    done-keeps party.owner Sends party.certs party.stapling (object_row party.owner b.0) reply later (object-keeps party.owner b.0) b.2
authorities_stay party (Submit draft) reply later e =
    let b = bind_ok (known_in party.certs draft) (λ cert. submitted party (submit_row party.owner (digest_of cert))) (reply, later) e in
    ap (λ (p : OwnerStanding). count p.owner) (sent_stays party (submit_row party.owner (digest_of b.0)) reply later b.2)
authorities_stay party (Allow permit) reply later e =
    let at : OwnerStanding = record party { stapling = allowing permit party.stapling } in
    sym (ap (λ (p : OwnerStanding). count p.owner) (allowed_by party at (known_in party.certs permit.draft) (silent tt) reply later e))
authorities_stay party (Disallow permit) reply later e =
    let at : OwnerStanding = record party { stapling = disallowing permit party.stapling } in
    sym (ap (λ (p : OwnerStanding). count p.owner) (allowed_by party at (known_in party.certs permit.draft) (silent tt) reply later e))
authorities_stay party (Staple permit confirmation) reply later e = restapled-keeps party _ reply later (stapled_by party permit confirmation reply later e).row
authorities_stay party (Restaple s) reply later e = restapled-keeps party s reply later e
authorities_stay party Leaves reply later e = sym (ap (λ (p : OwnerReply × OwnerStanding). count p.1.owner) (ok_is (silent tt, party) (reply, later) e))

-- whatever an order came to
pub authorities_kept : (party later : OwnerStanding) (order : OwnerOrder) (result : Result OwnerReply OwnerOrderRefusal) → Does party later result (order_row party order)
    → length later.owner.directory.authorities ≡ length party.owner.directory.authorities
authorities_kept party later order (Ok reply) does = authorities_stay party order reply later does
authorities_kept party later order (Err refusal) does = ap (λ (p : OwnerStanding). count p.owner) does.0

pub ruleset counted = (authorities_kept)
