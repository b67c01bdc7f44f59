-- Why an owner signs a staple, what that leaves, and what it opens.
use Rattle.std.proofs.Common.{◌≡◌, ◌∙◌, ◌⊎◌, ◌<◌, ◌≤◌, ◌+◌, ◌-◌, ℕ, eqb, Bool, true, false, cond, List, [], ◌∷◌, ◌++◌, length, length-append, Option, None, Some, Result, Ok, Err, refl, sym, ap, subst, inl, inr, arith}
use Rattle.std.specs.Prelude.{filter, nat_lt, not, ◌&&◌, ◌||◌}
use Rattle.std.specs.List.{AllByRecursion, list_any}
use Rattle.std.specs.Result.{result_ok}
use Rattle.std.specs.Str.{bytes_eq}
use Rattle.std.proofs.lemmas.Bool.{and_parts, eqb-true, ltb-true}
use Rattle.std.proofs.lemmas.List.{length-take}
use Rattle.std.proofs.lemmas.Slice.Eq.{bytes_eq-Decides}
use Rattle.sha2.specs.Sha256.{sha256}
use Rattle.ar_base.proofs.Digests.{sha256-IsDigest}
use Rattle.ar_base.proofs.Shown.{bind_ok, needed, ok_is}
use Rattle.ar_base.specs.Chaining.{need}
use Rattle.ar_base.specs.Places.{place_of}
use Rattle.ar_cert.specs.Certificate.{Certificate, IsCertificate, digest_of}
use Rattle.ar_message.specs.Confirmation.{Confirmation}
use Rattle.ar_statement.specs.Claims.{Claim, answer, text_of}
use Rattle.bound_challenge.specs.Challenges.{staple_challenge}
use Rattle.client_rule.proofs.Meanings.{accepted}
use Rattle.client_rule.specs.Meaning.{Accepts}
use Rattle.client_rule.specs.Rule.{Asked, judgement as judgement_of}
use Rattle.client_rule.specs.declared.judgement.Judgement.{Judgement}
use Rattle.client_rule.specs.declared.judgement.Judgement.TheVariants.{Absent, Accepted, Refused}
use Rattle.lms_tree.proofs.KeyLemmas.{one-text-one-key}
use Rattle.lms_tree.proofs.SigningLemmas.{length-node_at, verdict_of-signature_of}
use Rattle.lms_tree.specs.Key.{id_of, public_of}
use Rattle.lms_tree.specs.KeyParts.{KeyParts}
use Rattle.lms_tree.specs.LmsKind.{height_of, leaves_of}
use Rattle.lms_tree.specs.PublicKey.{HasWidths, key_text}
use Rattle.lms_tree.specs.Validity.{verdict_of}
use Rattle.lms_tree.specs.declared.public_key.LmsPublic.{LmsPublic}
use Rattle.lms_tree.specs.declared.validity.Verdict.TheVariants.{Valid}
use Rattle.owner_core.specs.Signing.{signed_by_owner}
use Rattle.owner_core.specs.State.{Owner}
use Rattle.owner_core.proofs.Again.{handed}
use Rattle.possession.proofs.Stapled.{is_open_stapled}
use Rattle.possession.specs.Answering.{answer_text}
use Rattle.possession.specs.Connections.{epoch_in, epoch_of_read, stapled_connection_of}
use Rattle.possession.specs.declared.connection.Connection.TheVariants as connection
use Rattle.sign_book.specs.Book.{Book, IsSignBook}
use Rattle.sign_book.specs.Entry.{after_at, after_entry, leaf_of}
use Rattle.sign_book.proofs.Entries.{given, kept, still, within-leaves}
use Rattle.owner_keeper.specs.Keeping.{OwnerStanding, draft_in, draft_of, known_in, order_row, silent, stapled_reply}
use Rattle.owner_keeper.specs.Lasting.{SignsOn}
use Rattle.owner_keeper.specs.Reasons.{HasReasons, IsKept, IsServed, staple_claim}
use Rattle.owner_keeper.specs.Stapling.{StapleParts, Stapling, asked_for, confirmed_as, disallowing, free_of, has_newer, is_allowed, is_permit, is_staple, is_stapled, kept_back, may_sign, may_staple, permit_of, staple_at, stapling_by, with_staple}
use Rattle.owner_keeper.specs.declared.order.OwnerOrder.TheVariants.{Disallow, Staple}
use Rattle.owner_keeper.specs.declared.permit.Permit.{Permit}
use Rattle.owner_keeper.specs.declared.refusal.OwnerOrderRefusal.TheVariants as refusals
use Rattle.owner_keeper.specs.declared.reply.OwnerReply.{OwnerReply}
use Rattle.owner_keeper.specs.declared.reply.OwnerReply.TheVariants.{Stapled}
use Rattle.owner_keeper.proofs.Done.{IsRestapled, allowed_by, done_by, is_needed, restapled_by, stapled_by}
use Rattle.owner_keeper.proofs.Kept.{kept_by, signed_leaf}

-- ---- what held

-- it was signed before, or it is no older than the others, with leaves to spare
abbrev AgainOrNew : Stapling → Book → StapleParts → Type 0
AgainOrNew st book s = (is_stapled st.staples s ≡ true) ⊎ ((has_newer st.staples s ≡ false) × (kept_back book.leaves < free_of book))

again-or-new : (st : Stapling) (book : Book) (s : StapleParts) → may_sign st book s ≡ Ok tt → AgainOrNew st book s
again-or-new st book s e = by (is_stapled st.staples s) (has_newer st.staples s) (nat_lt (kept_back book.leaves) (free_of book)) refl refl refl e
  where
    by : (again newer left : Bool) → is_stapled st.staples s ≡ again → has_newer st.staples s ≡ newer → nat_lt (kept_back book.leaves) (free_of book) ≡ left
        → cond again (Ok tt) (cond newer (Err refusals.Older) (need left refusals.KeptBack)) ≡ Ok tt → AgainOrNew st book s
    by true newer left a n l e = inl a
    by false true left a n l e = absurd cc
    by false false true a n l e = inr (n, ltb-true (kept_back book.leaves) (free_of book) l)
    by false false false a n l e = absurd cc

-- the TLS key is allowed, and that
permitted : (st : Stapling) (book : Book) (s : StapleParts) → may_staple st book s ≡ Ok tt → (is_allowed st.allowed (permit_of s) ≡ true) × AgainOrNew st book s
permitted st book s e =
    let b = bind_ok (need (is_allowed st.allowed (permit_of s)) refusals.NotAllowed) (λ allowed. may_sign st book s) tt e in
    (is_needed (is_allowed st.allowed (permit_of s)) refusals.NotAllowed b.0 b.1, again-or-new st book s b.2)

-- what the client's rule said of the confirmation
record IsConfirmed (cert : Certificate) (judged : Judgement) : Type 0 where
  found : Certificate
  epoch : ℕ
  root : List ℕ
  judged_is : judged ≡ Accepted found (digest_of cert) epoch root

confirmed-so : (cert : Certificate) (epoch : ℕ) (judged : Judgement) → confirmed_as cert epoch judged ≡ Ok epoch → IsConfirmed cert judged
confirmed-so cert epoch (Accepted found digest at root) e = by (bytes_eq digest (digest_of cert)) refl e
  where
    by : (b : Bool) → bytes_eq digest (digest_of cert) ≡ b → cond b (Ok epoch) (Err refusals.Superseded) ≡ Ok epoch → IsConfirmed cert (Accepted found digest at root)
    by true is e = record { found = found; epoch = at; root = root; judged_is = ap (λ (d : List ℕ). Accepted found d at root) ((bytes_eq-Decides digest (digest_of cert)).0 is) }
    by false is e = absurd cc
confirmed-so cert epoch (Absent at root) e = absurd cc
confirmed-so cert epoch (Refused check) e = absurd cc

-- the epoch of what was accepted is that of the bytes
its-epoch : (asked : Asked) (confirmation : List ℕ) (found : Certificate) (digest : List ℕ) (epoch : ℕ) (root : List ℕ) → Accepts asked confirmation found digest epoch root → epoch_in confirmation ≡ epoch
its-epoch asked confirmation found digest epoch root accepts = ap (λ (r : Result Confirmation ℕ). epoch_of_read (result_ok r)) accepts.passes.is_read ∙ sym accepts.epoch_is

pub reasoned : (party later : OwnerStanding) (permit : Permit) (confirmation : List ℕ) (reply : OwnerReply) → order_row party (Staple permit confirmation) ≡ Ok (reply, later)
    → HasReasons party permit confirmation reply
reasoned party later permit confirmation reply e =
    let d = stapled_by party permit confirmation reply later e in
    let s : StapleParts = staple_at permit (epoch_in confirmation) in
    let r = restapled_by party s reply later d.row in
    let same : d.cert ≡ r.cert = ok_is d.cert r.cert (sym d.known ∙ r.known) in
    let asked : Asked = asked_for party.stapling.keys d.cert confirmation in
    let c = confirmed-so d.cert (epoch_in confirmation) (judgement_of asked confirmation) d.confirmed in
    let accepts = (accepted asked confirmation c.found (digest_of d.cert) c.epoch c.root).0 c.judged_is in
    let at : epoch_in confirmation ≡ c.epoch = its-epoch asked confirmation c.found (digest_of d.cert) c.epoch c.root accepts in
    let may = permitted party.stapling party.owner.book s r.may in
    let made = done_by (stapled_reply r.cert s) party.certs (with_staple party.stapling s) (stapling_by party.owner r.cert s) reply later r.row in
    record {
      cert = d.cert;
      known = needed (draft_in party.certs permit.draft) refusals.NoCertificate d.cert d.known;
      own = (bytes_eq-Decides (key_text d.cert.subject) (key_text (public_of party.owner.key))).0
          (subst (λ (cert : Certificate). bytes_eq (key_text cert.subject) (key_text (public_of party.owner.key)) ≡ true) (sym same) r.own);
      allowed = may.0;
      found = c.found;
      epoch = c.epoch;
      root = c.root;
      accepts = accepts;
      again_or_new = subst (λ (n : ℕ). AgainOrNew party.stapling party.owner.book (staple_at permit n)) at may.1;
      signature = made.value;
      reply_is = sym made.said_is ∙ ap (λ (cert : Certificate). Stapled (digest_of cert) (epoch_in confirmation) permit.channel made.value) (sym same)
          ∙ ap (λ (n : ℕ). Stapled (digest_of d.cert) n permit.channel made.value) at;
    }

-- ---- what a staple leaves

-- a certificate by its number is one
same_some : (a b : Certificate) → Some a ≡ Some b → a ≡ b
same_some a b e = cc

abbrev parts : ℕ → ℕ → List ℕ → StapleParts
parts draft epoch channel = record { draft = draft; epoch = epoch; channel = channel }

same-staple : (s one : StapleParts) → is_staple s one ≡ true → one ≡ s
same-staple s one e =
    let a = and_parts (eqb s.draft one.draft) (eqb s.epoch one.epoch && bytes_eq s.channel one.channel) e in
    let b = and_parts (eqb s.epoch one.epoch) (bytes_eq s.channel one.channel) a.1 in
    ap (λ (n : ℕ). parts n one.epoch one.channel) (sym (eqb-true s.draft one.draft a.0))
    ∙ ap (λ (n : ℕ). parts s.draft n one.channel) (sym (eqb-true s.epoch one.epoch b.0))
    ∙ ap (parts s.draft s.epoch) (sym ((bytes_eq-Decides s.channel one.channel).0 b.1))

-- what holds of all holds of one that is among them
of-all : (P : StapleParts → Type 0) (staples : List StapleParts) (s : StapleParts) → AllByRecursion P staples → list_any (is_staple s) staples ≡ true → P s
of-all P [] s all e = absurd cc
of-all P (one ∷ more) s all e = by (is_staple s one) refl e (of-all P more s all.1)
  where
    by : (b : Bool) → is_staple s one ≡ b → (b || list_any (is_staple s) more) ≡ true → (list_any (is_staple s) more ≡ true → P s) → P s
    by true is e rest = subst P (same-staple s one is) all.0
    by false is e rest = rest e

-- a leaf less
less : (k leaves n m : ℕ) → k < leaves - n → m ≡ n + 1 → k ≤ leaves - m
less k leaves n m lt e = omega (arith, lt, e)

-- behind a new text
entered-leaves : (book later : Book) (text : List ℕ) (place : Option ℕ) → later ≡ after_at book text place → kept_back book.leaves < free_of book
    → (later ≡ book) ⊎ (kept_back book.leaves ≤ free_of later)
entered-leaves book later text (Some k) e lt = inl e
entered-leaves book later text None e lt =
    inr (subst (λ (b : Book). kept_back book.leaves ≤ free_of b) (sym e)
    (less (kept_back book.leaves) book.leaves (length book.texts) (length (book.texts ++ text ∷ [])) lt (length-append book.texts (text ∷ []))))

pub leaves_left : (party later : OwnerStanding) (permit : Permit) (confirmation : List ℕ) (reply : OwnerReply) → IsKept party → order_row party (Staple permit confirmation) ≡ Ok (reply, later)
    → (later.owner.book ≡ party.owner.book) ⊎ (kept_back party.owner.book.leaves ≤ free_of later.owner.book)
leaves_left party later permit confirmation reply is e = by may.1
  where
    s : StapleParts
    s = staple_at permit (epoch_in confirmation)

    r : IsRestapled party s reply later
    r = restapled_by party s reply later (stapled_by party permit confirmation reply later e).row

    claim : Claim
    claim = staple_claim r.cert s

    may : (is_allowed party.stapling.allowed (permit_of s) ≡ true) × AgainOrNew party.stapling party.owner.book s
    may = permitted party.stapling party.owner.book s r.may

    book-is : later.owner.book ≡ after_entry party.owner.book (text_of claim)
    book-is =
        let d = done_by (stapled_reply r.cert s) party.certs (with_staple party.stapling s) (stapling_by party.owner r.cert s) reply later r.row in
        (signed_leaf party.owner later.owner claim d.value d.row_is (kept_by party later (Staple permit confirmation) reply e is).book).1.1.1.0

    by : AgainOrNew party.stapling party.owner.book s → (later.owner.book ≡ party.owner.book) ⊎ (kept_back party.owner.book.leaves ≤ free_of later.owner.book)
    by (inl again) =
        let served = of-all (IsServed party) party.stapling.staples s is.served again in
        let cert : served.0 ≡ r.cert = same_some served.0 r.cert (sym served.1 ∙ needed (draft_in party.certs s.draft) refusals.NoCertificate r.cert r.known) in
        let stays : after_entry party.owner.book (text_of claim) ≡ party.owner.book =
        subst (λ (c : Certificate). after_entry party.owner.book (text_of (staple_claim c s)) ≡ party.owner.book) cert served.2.2 in
        inl (book-is ∙ stays)
    by (inr new) = entered-leaves party.owner.book later.owner.book (text_of claim) (place_of party.owner.book.texts (text_of claim)) book-is new.1

-- ---- what it opens

id-long : (seed : List ℕ) → length (id_of seed) ≡ 16
unfolding id_of
id-long seed = omega (arith, length-take 16 (sha256 (0x49 ∷ seed)), (sha256-IsDigest (0x49 ∷ seed)).len)

widths : (key : KeyParts) → HasWidths (public_of key)
widths key = (id-long key.seed, length-node_at key (height_of key.lms) 1)

-- what a staple's reply says
record Says (cert : Certificate) (s : StapleParts) (value digest : List ℕ) (epoch : ℕ) (channel signature : List ℕ) : Type 0 where
  digest_is : digest ≡ digest_of cert
  epoch_is : epoch ≡ s.epoch
  channel_is : channel ≡ s.channel
  signature_is : signature ≡ value

says : (cert : Certificate) (s : StapleParts) (value digest : List ℕ) (epoch : ℕ) (channel signature : List ℕ) → stapled_reply cert s value ≡ Stapled digest epoch channel signature
    → Says cert s value digest epoch channel signature
says cert s value digest epoch channel signature e = record { digest_is = cc; epoch_is = cc; channel_is = cc; signature_is = cc }

pub opens : (party later : OwnerStanding) (permit : Permit) (confirmation : List ℕ) (cert : Certificate) (digest : List ℕ) (epoch : ℕ) (channel signature : List ℕ) (asked : Asked) (shown root : List ℕ)
    → IsKept party → IsCertificate cert → draft_of party permit.draft ≡ Some cert → order_row party (Staple permit confirmation) ≡ Ok (Stapled digest epoch channel signature, later)
    → asked.name ≡ cert.name → Accepts asked shown cert digest epoch root
    → stapled_connection_of asked shown permit.channel signature ≡ connection.Open cert digest epoch root
unfolding answer_text
opens party later permit confirmation cert digest epoch channel signature asked shown root is whole there e name accepts =
    let s : StapleParts = staple_at permit (epoch_in confirmation) in
    let reply : OwnerReply = Stapled digest epoch channel signature in
    let r = restapled_by party s reply later (stapled_by party permit confirmation reply later e).row in
    let same : cert ≡ r.cert = same_some cert r.cert (sym there ∙ needed (draft_in party.certs s.draft) refusals.NoCertificate r.cert r.known) in
    let d = done_by (stapled_reply r.cert s) party.certs (with_staple party.stapling s) (stapling_by party.owner r.cert s) reply later r.row in
    let said = says r.cert s d.value digest epoch channel signature d.said_is in
    let key : KeyParts = party.owner.key in
    let text : List ℕ = text_of (staple_claim r.cert s) in
    let l = signed_leaf party.owner later.owner (staple_claim r.cert s) d.value d.row_is (kept_by party later (Staple permit confirmation) reply e is).book in
    let below : l.0 < leaves_of key.lms = subst (λ (n : ℕ). l.0 < n) is.leaves (within-leaves party.owner.book text l.0 is.book l.1.0) in
    let own : key_text cert.subject ≡ key_text (public_of key) =
    subst (λ (c : Certificate). key_text c.subject ≡ key_text (public_of key)) (sym same) ((bytes_eq-Decides (key_text r.cert.subject) (key_text (public_of key))).0 r.own) in
    let subject : cert.subject ≡ public_of key = one-text-one-key cert.subject (public_of key) whole.subject (widths key) own in
    let asks : text_of (answer asked.name digest (staple_challenge epoch permit.channel)) ≡ text =
    ap (λ (n : List ℕ). text_of (answer n digest (staple_challenge epoch permit.channel))) (name ∙ ap (λ (c : Certificate). c.name) same)
    ∙ ap (λ (x : List ℕ). text_of (answer r.cert.name x (staple_challenge epoch permit.channel))) said.digest_is
    ∙ ap (λ (n : ℕ). text_of (answer r.cert.name (digest_of r.cert) (staple_challenge n permit.channel))) said.epoch_is in
    let judged : verdict_of cert.subject (answer_text asked.name digest (staple_challenge epoch permit.channel)) signature ≡ Valid =
    ap (λ (k : LmsPublic). verdict_of k (answer_text asked.name digest (staple_challenge epoch permit.channel)) signature) subject
    ∙ ap (λ (t : List ℕ). verdict_of (public_of key) t signature) asks
    ∙ ap (λ (x : List ℕ). verdict_of (public_of key) text x) (said.signature_is ∙ l.1.1.0)
    ∙ verdict_of-signature_of key l.0 text below in
    (is_open_stapled asked shown permit.channel signature cert digest epoch root).1 (record { accepts = accepts; judged = judged })

-- ---- again

keeps : (book later : Book) (more : List (List ℕ)) (text : List ℕ) (leaf : ℕ) → IsSignBook later → leaf_of book text ≡ Ok leaf → later.texts ≡ (after_entry book text).texts ++ more
    → (leaf_of later text ≡ Ok leaf) × (after_entry later text ≡ later)
keeps book later more text leaf sound e grown = kept later text leaf sound (still (after_entry book text).texts more later.texts text leaf [] grown (given book text leaf [] e))

pub again : (party later after last : OwnerStanding) (permit : Permit) (confirmation other : List ℕ) (cert : Certificate) (digest : List ℕ) (epoch : ℕ) (channel signature bytes : List ℕ)
    → IsKept after → SignsOn later.owner after.owner → SignsOn party.owner later.owner → draft_of party permit.draft ≡ Some cert → draft_of after permit.draft ≡ Some cert
    → order_row party (Staple permit confirmation) ≡ Ok (Stapled digest epoch channel signature, later)
    → order_row after (Staple permit other) ≡ Ok (Stapled digest epoch channel bytes, last) → bytes ≡ signature
again party later after last permit confirmation other cert digest epoch channel signature bytes is on first there here e f =
    let s : StapleParts = staple_at permit (epoch_in confirmation) in
    let t : StapleParts = staple_at permit (epoch_in other) in
    let one : OwnerReply = Stapled digest epoch channel signature in
    let two : OwnerReply = Stapled digest epoch channel bytes in
    let r = restapled_by party s one later (stapled_by party permit confirmation one later e).row in
    let q = restapled_by after t two last (stapled_by after permit other two last f).row in
    let d = done_by (stapled_reply r.cert s) party.certs (with_staple party.stapling s) (stapling_by party.owner r.cert s) one later r.row in
    let g = done_by (stapled_reply q.cert t) after.certs (with_staple after.stapling t) (stapling_by after.owner q.cert t) two last q.row in
    let said = says r.cert s d.value digest epoch channel signature d.said_is in
    let told = says q.cert t g.value digest epoch channel bytes g.said_is in
    let certs : r.cert ≡ q.cert =
    same_some r.cert q.cert (sym (needed (draft_in party.certs s.draft) refusals.NoCertificate r.cert r.known) ∙ there ∙ sym here ∙ needed (draft_in after.certs t.draft) refusals.NoCertificate q.cert q.known) in
    let claims : staple_claim r.cert s ≡ staple_claim q.cert t =
    ap (λ (c : Certificate). staple_claim c s) certs
    ∙ ap (λ (n : ℕ). answer q.cert.name (digest_of q.cert) (staple_challenge n permit.channel)) (sym said.epoch_is ∙ told.epoch_is) in
    let same = handed keeps party.owner later.owner after.owner on.texts.0 (staple_claim r.cert s) d.value is.book (on.key ∙ first.key) d.row_is on.texts.1 in
    let made : signed_by_owner after.owner (staple_claim r.cert s) ≡ Ok (g.value, last.owner) = ap (signed_by_owner after.owner) claims ∙ g.row_is in
    told.signature_is ∙ sym (ap (λ (p : List ℕ × Owner). p.0) (ok_is (d.value, after.owner) (g.value, last.owner) (sym same ∙ made))) ∙ sym said.signature_is

-- ---- what is allowed no longer

struck : (permit : Permit) (allowed : List Permit) → is_allowed (filter (λ one. not (is_permit permit one)) allowed) permit ≡ false
struck permit [] = refl
struck permit (one ∷ more) = by (is_permit permit one) refl (struck permit more)
  where
    by : (b : Bool) → is_permit permit one ≡ b → is_allowed (filter (λ x. not (is_permit permit x)) more) permit ≡ false
        → list_any (is_permit permit) (cond (not b) (one ∷ filter (λ x. not (is_permit permit x)) more) (filter (λ x. not (is_permit permit x)) more)) ≡ false
    by true is rest = rest
    by false is rest = ap (λ (b : Bool). b || is_allowed (filter (λ x. not (is_permit permit x)) more) permit) is ∙ rest

pub disallowed_then : (party later : OwnerStanding) (permit : Permit) (reply : OwnerReply) → order_row party (Disallow permit) ≡ Ok (reply, later) → is_allowed later.stapling.allowed permit ≡ false
disallowed_then party later permit reply e =
    let at : OwnerStanding = record party { stapling = disallowing permit party.stapling } in
    subst (λ (p : OwnerStanding). is_allowed p.stapling.allowed permit ≡ false) (allowed_by party at (known_in party.certs permit.draft) (silent tt) reply later e)
    (struck permit party.stapling.allowed)
