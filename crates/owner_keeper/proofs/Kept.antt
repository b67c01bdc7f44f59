-- What an owner keeps whatever it is asked.
use Rattle.std.proofs.Common.{◌≡◌, ◌∙◌, ℕ, Bool, true, false, cond, List, [], ◌∷◌, ◌++◌, length, Some, Result, Ok, Err, refl, sym, ap, subst, arith}
use Rattle.std.specs.Prelude.{nat_le}
use Rattle.std.proofs.lemmas.List.{append-nil}
use Rattle.std.specs.List.{AllByRecursion, list_any}
use Rattle.ar_base.specs.Chaining.{◌>>=◌, need}
use Rattle.ar_base.specs.Places.{HasNoneTwice}
use Rattle.ar_base.specs.Prefixes.{BeginsWith}
use Rattle.ar_base.proofs.Shown.{bind_ok, needed, ok_is}
use Rattle.ar_cert.specs.Certificate.{Certificate, digest_of}
use Rattle.ar_statement.specs.Claims.{Claim, text_of}
use Rattle.ar_statement.specs.declared.fault.BookFault.{BookFault}
use Rattle.kept_journal.specs.Replays.{ReachesBy}
use Rattle.kept_party.proofs.Kept.{replays_keep}
use Rattle.kept_party.specs.Taking.{Becomes}
use Rattle.lms_tree.specs.Key.{signature_of}
use Rattle.lms_tree.specs.KeyParts.{KeyParts}
use Rattle.lms_tree.specs.LmsKind.{leaves_of}
use Rattle.owner_core.specs.Rows.{OwnerAnswer, attach_row, begin_row, object_row, step_row, submit_row}
use Rattle.owner_core.specs.Signing.{after_signing, signed_at, signed_by_owner}
use Rattle.owner_core.specs.State.{Owner}
use Rattle.party_keys.specs.Directory.{Directory}
use Rattle.sign_book.specs.Book.{Book, IsSignBook}
use Rattle.sign_book.specs.Entry.{after_entry, leaf_of}
use Rattle.sign_book.proofs.Entries.{given, kept, still}
use Rattle.owner_keeper.specs.Keeping as keeping
use Rattle.owner_keeper.specs.Keeping.{OwnerStanding, answered, draft_in, draft_of, handing_row, known_in, new_standing, order_row, restaple_row, silent, stapled_reply, submitted}
use Rattle.owner_keeper.specs.Lasting.{SignsOn}
use Rattle.owner_keeper.specs.Reasons.{HasLeaf, IsKept, IsServed, staple_claim}
use Rattle.owner_keeper.specs.Stapling.{StapleParts, Stapling, allowing, disallowing, hearing, is_staple, stapling_by, with_staple}
use Rattle.owner_keeper.specs.Texts.{most_asks, most_handover}
use Rattle.owner_keeper.specs.declared.order.OwnerOrder.{OwnerOrder}
use Rattle.owner_keeper.specs.declared.order.OwnerOrder.TheVariants.{Take, Begin, Know, Handover, Attach, Object, Submit, Allow, Disallow, Staple, Restaple, Leaves}
use Rattle.owner_keeper.specs.declared.refusal.OwnerOrderRefusal.TheVariants as refusals
use Rattle.owner_keeper.specs.declared.reply.OwnerReply.{OwnerReply}
use Rattle.owner_keeper.specs.declared.reply.OwnerReply.TheVariants.{Handed, Sends}
use Rattle.owner_keeper.proofs.Done.{allowed_by, answering, done_by, restapled_by, sent_stays, stapled_by}
use Rattle.owner_keeper.proofs.Lasting.{order_on}
use Rattle.owner_keeper.proofs.Leaving.{Leaves as LeavesPart, Sound, attach_keys, attach_sound, begin_keys, begin_sound, claim_keys, claim_sound, handing_keys, handing_sound, keys_of_owner, object_keys, object_sound, of_answer, step_heard, step_sound}
use Rattle.owner_keeper.proofs.Numbered.{kept_number}

-- ---- leaves of a book

-- a text that has a leaf has it in each book that goes on from this one
pub leaf_on : (book later : Book) (text : List ℕ) → IsSignBook later → BeginsWith later.texts book.texts → HasLeaf book text → HasLeaf later text
leaf_on book later text sound begins has =
    let texts : later.texts ≡ (after_entry book text).texts ++ begins.0 = begins.1 ∙ ap (λ (b : Book). b.texts ++ begins.0) (sym has.2) in
    let there = kept later text has.0 sound (still (after_entry book text).texts begins.0 later.texts text has.0 [] texts (given book text has.0 [] has.1)) in
    (has.0, there.0, there.1)

-- a text that was signed has one
pub signed_leaf : (me later : Owner) (claim : Claim) (value : List ℕ) → signed_by_owner me claim ≡ Ok (value, later) → IsSignBook later.book
    → (leaf : ℕ) × ((leaf_of me.book (text_of claim) ≡ Ok leaf) × ((value ≡ signature_of me.key leaf (text_of claim)) × ((later.book ≡ after_entry me.book (text_of claim)) × HasLeaf later.book (text_of claim))))
signed_leaf me later claim value e sound = by (leaf_of me.book (text_of claim)) refl e
  where
    text : List ℕ
    text = text_of claim

    by : (answer : Result ℕ BookFault) → leaf_of me.book text ≡ answer → signed_at me text answer ≡ Ok (value, later)
        → (leaf : ℕ) × ((leaf_of me.book text ≡ Ok leaf) × ((value ≡ signature_of me.key leaf text) × ((later.book ≡ after_entry me.book text) × HasLeaf later.book text)))
    by (Err fault) is e = absurd cc
    by (Ok leaf) is e =
        let same : (signature_of me.key leaf text, after_signing me text) ≡ (value, later) = ok_is (signature_of me.key leaf text, after_signing me text) (value, later) e in
        let book : later.book ≡ after_entry me.book text = sym (ap (λ (p : List ℕ × Owner). p.1.book) same) in
        let texts : later.book.texts ≡ (after_entry me.book text).texts ++ [] = ap (λ (b : Book). b.texts) book ∙ sym (append-nil (after_entry me.book text).texts) in
        let there = kept later.book text leaf sound (still (after_entry me.book text).texts [] later.book.texts text leaf [] texts (given me.book text leaf [] is)) in
        (leaf, (is, (sym (ap (λ (p : List ℕ × Owner). p.0) same), (book, (leaf, there.0, there.1)))))

-- ---- staples that were signed

-- what holds of each of these and of one more
pub all-push : {A : Type 0} (P : A → Type 0) (xs : List A) (x : A) → AllByRecursion P xs → P x → AllByRecursion P (xs ++ x ∷ [])
all-push P [] x all here = (here, tt)
all-push P (y ∷ ys) x all here = (all.0, all-push P ys x all.1 here)

all-on : {A : Type 0} (P Q : A → Type 0) (xs : List A) → ((x : A) → P x → Q x) → AllByRecursion P xs → AllByRecursion Q xs
all-on P Q [] each all = tt
all-on P Q (x ∷ xs) each all = (each x all.0, all-on P Q xs each all.1)

-- the staples with one more
pub all_with : (P : StapleParts → Type 0) (st : Stapling) (s : StapleParts) → AllByRecursion P st.staples → P s → AllByRecursion P (with_staple st s).staples
all_with P st s all here = by (list_any (λ one. is_staple s one) st.staples)
  where
    by : (b : Bool) → AllByRecursion P (cond b st.staples (st.staples ++ s ∷ []))
    by true = all
    by false = all-push P st.staples s all here

-- ---- each order but a staple

-- an order left the book one, the directory of the client the owner's, and the staples
record IsLeft (party later : OwnerStanding) : Type 0 where
  sound : IsSignBook party.owner.book → IsSignBook later.owner.book
  keys : party.stapling.keys ≡ party.owner.directory → later.stapling.keys ≡ later.owner.directory
  staples : later.stapling.staples ≡ party.stapling.staples

-- by a row that leaves the directory
left-by : {T : Type 0} (party : OwnerStanding) (reply : T → OwnerReply) (certs : List Certificate) (row : OwnerAnswer T) (said : OwnerReply) (later : OwnerStanding)
    → Sound party.owner row → LeavesPart keys_of_owner party.owner row → answered reply certs party.stapling row ≡ Ok (said, later) → IsLeft party later
left-by party reply certs row said later sound keys e =
    let d = done_by reply certs party.stapling row said later e in
    record {
      sound = of_answer (λ r. IsSignBook party.owner.book → IsSignBook r.1.book) row (d.value, later.owner) sound d.row_is;
      keys = λ same. ap (λ (s : Stapling). s.keys) d.stapling_is ∙ same ∙ sym (of_answer (λ r. r.1.directory ≡ party.owner.directory) row (d.value, later.owner) keys d.row_is);
      staples = ap (λ (s : Stapling). s.staples) d.stapling_is;
    }

-- by what is allowed
left-allowed : (party later : OwnerStanding) (st : Stapling) (reply : OwnerReply) (draft : ℕ) → st.keys ≡ party.stapling.keys → st.staples ≡ party.stapling.staples
    → (known_in party.certs draft >>= answering (silent tt) (record party { stapling = st })) ≡ Ok (reply, later) → IsLeft party later
left-allowed party later st reply draft keys staples e =
    let at : OwnerStanding = record party { stapling = st } in
    let left : IsLeft party at = record { sound = λ s. s; keys = λ same. keys ∙ same; staples = staples } in
    subst (λ (p : OwnerStanding). IsLeft party p) (allowed_by party at (known_in party.certs draft) (silent tt) reply later e) left

-- ---- what an owner keeps

-- a staple that has its leaf has it behind an order
served-on : (party later : OwnerStanding) (order : OwnerOrder) (reply : OwnerReply) → order_row party order ≡ Ok (reply, later) → IsSignBook later.owner.book
    → (s : StapleParts) → IsServed party s → IsServed later s
served-on party later order reply e sound s has =
    let on = order_on party later order reply e in (
      has.0,
      kept_number party later order reply s.draft has.0 e has.1,
      leaf_on party.owner.book later.owner.book (text_of (staple_claim has.0 s)) sound on.texts has.2,
    )

still-leaves : (party later : OwnerStanding) → SignsOn party.owner later.owner → party.owner.book.leaves ≡ leaves_of party.owner.key.lms → later.owner.book.leaves ≡ leaves_of later.owner.key.lms
still-leaves party later on leaves = on.leaves ∙ leaves ∙ ap (λ (k : KeyParts). leaves_of k.lms) (sym on.key)

by-left : (party later : OwnerStanding) (order : OwnerOrder) (reply : OwnerReply) → order_row party order ≡ Ok (reply, later) → IsLeft party later → IsKept party → IsKept later
by-left party later order reply e left is =
    let sound = left.sound is.book in
    record {
      book = sound;
      leaves = still-leaves party later (order_on party later order reply e) is.leaves;
      keys = left.keys is.keys;
      served = subst (λ (staples : List StapleParts). AllByRecursion (IsServed later) staples) (sym left.staples)
          (all-on (IsServed party) (IsServed later) party.stapling.staples (served-on party later order reply e sound) is.served);
    }

by-staple : (party later : OwnerStanding) (s : StapleParts) (reply : OwnerReply) → restaple_row party s ≡ Ok (reply, later) → IsKept party → IsKept later
by-staple party later s reply e is =
    let r = restapled_by party s reply later e in
    let claim : Claim = staple_claim r.cert s in
    let d = done_by (stapled_reply r.cert s) party.certs (with_staple party.stapling s) (stapling_by party.owner r.cert s) reply later r.row in
    let sound = of_answer (λ x. IsSignBook party.owner.book → IsSignBook x.1.book) (signed_by_owner party.owner claim) (d.value, later.owner) (claim_sound party.owner claim) d.row_is is.book in
    let leaf = signed_leaf party.owner later.owner claim d.value d.row_is sound in
    let there : draft_of later s.draft ≡ Some r.cert =
    ap (λ (certs : List Certificate). draft_in certs s.draft) d.certs_are ∙ needed (draft_in party.certs s.draft) refusals.NoCertificate r.cert r.known in
    let before = all-on (IsServed party) (IsServed later) party.stapling.staples (served-on party later (Restaple s) reply e sound) is.served in
    record {
      book = sound;
      leaves = still-leaves party later (order_on party later (Restaple s) reply e) is.leaves;
      keys = ap (λ (st : Stapling). st.keys) d.stapling_is ∙ is.keys
          ∙ sym (of_answer (λ x. x.1.directory ≡ party.owner.directory) (signed_by_owner party.owner claim) (d.value, later.owner) (claim_keys party.owner claim) d.row_is);
      served = subst (λ (st : Stapling). AllByRecursion (IsServed later) st.staples) (sym d.stapling_is)
          (all_with (IsServed later) party.stapling s before (r.cert, there, leaf.1.1.1.1));
    }

-- by a message
by-message : (party later : OwnerStanding) (bytes : List ℕ) (reply : OwnerReply) → order_row party (Take bytes) ≡ Ok (reply, later) → IsLeft party later
by-message party later bytes reply e =
    let d = done_by Sends party.certs (hearing party.stapling bytes) (step_row party.owner bytes) reply later e in
    record {
      sound = of_answer (λ r. IsSignBook party.owner.book → IsSignBook r.1.book) (step_row party.owner bytes) (d.value, later.owner) (step_sound party.owner bytes) d.row_is;
      keys = λ same. ap (λ (st : Stapling). st.keys) d.stapling_is ∙ step_heard party.owner later.owner party.stapling.keys bytes d.value d.row_is same;
      staples = ap (λ (st : Stapling). st.staples) d.stapling_is;
    }

pub kept_by : (party later : OwnerStanding) (order : OwnerOrder) (reply : OwnerReply) → order_row party order ≡ Ok (reply, later) → IsKept party → IsKept later
kept_by party later (Take bytes) reply e is = by-left party later (Take bytes) reply e (by-message party later bytes reply e) is
kept_by party later (Begin cert asks) reply e is =
    let b = bind_ok (need (nat_le (length asks) most_asks) refusals.Long) (λ few. answered Sends (party.certs ++ cert ∷ []) party.stapling (begin_row party.owner cert asks)) (reply, later) e in
    by-left party later (Begin cert asks) reply e
    (left-by party Sends (party.certs ++ cert ∷ []) (begin_row party.owner cert asks) reply later (begin_sound party.owner cert asks) (begin_keys party.owner cert asks) b.2) is
kept_by party later (Know cert) reply e is =
    let at : OwnerStanding = record party { certs = party.certs ++ cert ∷ [] } in
    let left : IsLeft party at = record { sound = λ s. s; keys = λ k. k; staples = refl } in
    by-left party later (Know cert) reply e (subst (λ (p : OwnerReply × OwnerStanding). IsLeft party p.1) (ok_is (silent tt, at) (reply, later) e) left) is
kept_by party later (Handover draft) reply e is =
    let b = bind_ok (known_in party.certs draft) (λ cert. answered (Handed (digest_of cert)) party.certs party.stapling (handing_row party.owner (digest_of cert))) (reply, later) e in
    by-left party later (Handover draft) reply e
    (left-by party (Handed (digest_of b.0)) party.certs (handing_row party.owner (digest_of b.0)) reply later (handing_sound party.owner (digest_of b.0)) (handing_keys party.owner (digest_of b.0)) b.2) is
kept_by party later (Attach draft handover) reply e is =
    let a = bind_ok (need (nat_le (length handover) most_handover) refusals.Long)
    (λ short. known_in party.certs draft >>= λ cert. answered silent party.certs party.stapling (attach_row party.owner (digest_of cert) handover)) (reply, later) e in
    let b = bind_ok (known_in party.certs draft) (λ cert. answered silent party.certs party.stapling (attach_row party.owner (digest_of cert) handover)) (reply, later) a.2 in
    by-left party later (Attach draft handover) reply e
    (left-by party silent party.certs (attach_row party.owner (digest_of b.0) handover) reply later (attach_sound party.owner (digest_of b.0) handover) (attach_keys party.owner (digest_of b.0) handover) b.2) is
kept_by party later (Object draft) reply e is =
    let b = bind_ok (known_in party.certs draft) (λ cert. answered Sends party.certs party.stapling (object_row party.owner cert)) (reply, later) e in
    by-left party later (Object draft) reply e (left-by party Sends party.certs (object_row party.owner b.0) reply later (object_sound party.owner b.0) (object_keys party.owner b.0) b.2) is
kept_by party later (Submit draft) reply e is =
    let b = bind_ok (known_in party.certs draft) (λ cert. submitted party (submit_row party.owner (digest_of cert))) (reply, later) e in
    subst IsKept (sym (sent_stays party (submit_row party.owner (digest_of b.0)) reply later b.2)) is
kept_by party later (Allow permit) reply e is =
    by-left party later (Allow permit) reply e (left-allowed party later (allowing permit party.stapling) reply permit.draft refl refl e) is
kept_by party later (Disallow permit) reply e is =
    by-left party later (Disallow permit) reply e (left-allowed party later (disallowing permit party.stapling) reply permit.draft refl refl e) is
kept_by party later (Staple permit confirmation) reply e is = by-staple party later _ reply (stapled_by party permit confirmation reply later e).row is
kept_by party later (Restaple s) reply e is = by-staple party later s reply e is
kept_by party later Leaves reply e is = subst (λ (p : OwnerReply × OwnerStanding). IsKept p.1) (ok_is (silent tt, party) (reply, later) e) is

-- ---- from the first on

-- of no texts none stands twice
none-twice : HasNoneTwice []
none-twice i j d before within = absurd (omega (arith, before, within))

pub kept_first : (number : ℕ) (directory : Directory) (key : KeyParts) → IsKept (new_standing number directory key)
kept_first number directory key = record {
  book = record { once = none-twice; within = omega arith };
  leaves = refl;
  keys = refl;
  served = tt;
}

pub kept_reached : (texts : List (List ℕ)) (first last : OwnerStanding) → ReachesBy (Becomes keeping.takes) first texts last → IsKept first → IsKept last
kept_reached texts first last =
    replays_keep (Becomes keeping.takes) (λ (a b : OwnerStanding). IsKept a → IsKept b) (λ a is. is) (λ a b c one other is. other (one is))
    (λ a b t becomes is. kept_by a b becomes.1.order becomes.0 becomes.1.answer is) texts first last
