-- The text of an order says it, and no other text does.
use Rattle.std.proofs.Common.{◌≡◌, ◌<◌, ◌≤◌, ◌^◌, ℕ, suc, List, [], ◌∷◌, ◌++◌, length, Bool, true, false, cond, eqb, leb, Option, None, Some, Result, Ok, Err, refl, sym, ap, subst, ◌∙◌, arith}
use Rattle.std.specs.Int.{w16, w64}
use Rattle.std.specs.List.{AllByRecursion}
use Rattle.std.specs.Option.{option_map}
use Rattle.std.specs.Result.{result_ok}
use Rattle.std.proofs.lemmas.Bool.{eqb-true, le-leb, leb-true}
use Rattle.ar_base.specs.Bytes.{AreBytes, IsDigest}
use Rattle.ar_base.specs.Chaining.{◌>>=◌}
use Rattle.ar_base.proofs.Shown.{bind_ok, gave, mapped, ok_is}
use Rattle.ar_bytes.specs.Lists.{list_at}
use Rattle.ar_bytes.specs.Reading.{Cursor, Reading, number_at, start_of, whole}
use Rattle.ar_bytes.specs.RoundTrip.{IsSpelledBy, Passes, ReadsBack, number_text}
use Rattle.ar_bytes.proofs.Lists.{counted_list_again, counted_list_pass, list_again, list_pass}
use Rattle.ar_bytes.proofs.Parts.{whole_again, whole_pass}
use Rattle.ar_bytes.proofs.Passing.{number_again, number_pass, wide16, wide64}
use Rattle.ar_bytes.proofs.Steps.{Passes-then, between, next, split}
use Rattle.ar_cert.specs.Certificate.{Certificate, IsCertificate, certificate_at, certificate_text}
use Rattle.ar_cert.proofs.CertificateLaws.{certificate_again, certificate_pass}
use Rattle.ar_message.specs.Messages.{longest}
use Rattle.ar_statement.specs.Fields.{digest_at}
use Rattle.ar_statement.proofs.FieldLaws.{digest_again, digest_pass}
use Rattle.possession.specs.Connections.{epoch_in}
use Rattle.owner_keeper.specs.Stapling.{StapleParts, staple_at}
use Rattle.owner_keeper.specs.Texts.{IsPermit, IsStapleParts, IsWhole, as_kept, asks_at, asks_text, attached_by, beginning_at, draft_kept, kept_order, kept_text, message_kept, most_asks, most_handover, permit_at, permit_kept, permit_text, staple_kept, staple_read_at, staple_text, text_if}
use Rattle.owner_keeper.specs.declared.permit.Permit.{Permit}
use Rattle.owner_keeper.specs.declared.order.OwnerOrder.{OwnerOrder}
use Rattle.owner_keeper.specs.declared.order.OwnerOrder.TheVariants.{Take, Begin, Know, Handover, Attach, Object, Submit, Allow, Disallow, Staple, Restaple, Leaves}

-- ---- parts

-- a text that is there is short enough
there : (short : Bool) (x text : List ℕ) → text_if short x ≡ Some text → (short ≡ true) × (x ≡ text)
there true x text e = (refl, cc)
there false x text e = absurd cc

-- the cursor behind a text at the start
passes-first : (front back : List ℕ) → Passes (start_of (front ++ back)) front (between (start_of (front ++ back)) front back)
passes-first front back = record { bytes = refl; place = refl }

-- each list of numbers is read back where it is short enough, and what is read is spelled so
asks-again : (asks : List ℕ) → length asks ≤ most_asks → AllByRecursion (λ n. n < 2 ^ 16) asks → ReadsBack asks_at asks (asks_text asks)
asks-again asks few fit =
    counted_list_again most_asks (list_at (number_at w16)) (number_text w16) asks few (omega (arith, few))
    (list_again (number_at w16) (number_text w16) (λ n. n < 2 ^ 16) (λ n lt. number_again w16 (2 ^ 16) wide16 n lt) (length asks) asks refl fit)

asks-pass : IsSpelledBy asks_at asks_text (λ asks. (length asks ≤ most_asks) × AllByRecursion (λ n. n < 2 ^ 16) asks)
asks-pass =
    counted_list_pass most_asks (list_at (number_at w16)) (number_text w16) (AllByRecursion (λ n. n < 2 ^ 16))
    (list_pass (number_at w16) (number_text w16) (λ n. n < 2 ^ 16) (number_pass w16 (2 ^ 16) wide16))

beginning-again : (cert : Certificate) (asks : List ℕ) → IsCertificate cert → AllByRecursion (λ n. n < 2 ^ 16) asks → length asks ≤ most_asks
    → beginning_at (start_of (asks_text asks ++ certificate_text cert)) ≡ Ok (Begin cert asks)
unfolding beginning_at
beginning-again cert asks is fit few =
    let back = certificate_text cert in
    let at = start_of (asks_text asks ++ back) in
    let mid = between at (asks_text asks) back in
    let read : asks_at at ≡ Ok (asks, mid) = asks-again asks few fit at mid (passes-first (asks_text asks) back) in
    let behind : whole certificate_at back ≡ Ok cert = whole_again certificate_at cert back (certificate_again cert is) in
    ap (λ (r : Reading (List ℕ)). r >>= λ a. whole certificate_at a.1.ahead >>= λ c. Ok (Begin c a.0)) read
    ∙ ap (λ (r : Result Certificate ℕ). r >>= λ c. Ok (Begin c asks)) behind

draft-again : (draft : ℕ) → draft < 2 ^ 64 → draft_kept (number_text w64 draft) ≡ Some draft
draft-again draft lt = ap result_ok (whole_again (number_at w64) draft (number_text w64 draft) (number_again w64 (2 ^ 64) wide64 draft lt))

draft-pass : (bytes : List ℕ) (draft : ℕ) → AreBytes bytes → draft_kept bytes ≡ Some draft → (bytes ≡ number_text w64 draft) × (draft < 2 ^ 64)
draft-pass bytes draft are e =
    whole_pass (number_at w64) (number_text w64) (λ n. n < 2 ^ 64) (number_pass w64 (2 ^ 64) wide64) bytes draft are (gave (whole (number_at w64) bytes) draft e)

-- ---- what is allowed, and staples

permit-again : (permit : Permit) → IsPermit permit → ReadsBack permit_at permit (permit_text permit)
unfolding permit_at
permit-again permit is at new p =
    let s = split at new (number_text w64 permit.draft) permit.channel p in
    rw (number_again w64 (2 ^ 64) wide64 permit.draft is.0 at s.0 s.1, digest_again permit.channel is.1 s.0 new s.2) refl

permit-pass : IsSpelledBy permit_at permit_text IsPermit
unfolding permit_at
permit-pass at new permit bytes e =
    let draft = next (number_at w64) (number_text w64) (λ n. n < 2 ^ 64) (number_pass w64 (2 ^ 64) wide64) _ at (permit, new) bytes e in
    let channel = next digest_at (λ d. d) IsDigest digest_pass _ draft.1 (permit, new) draft.4 draft.5 in
    let value : Permit = record { draft = draft.0; channel = channel.0 } in
    let passes = Passes-then at draft.1 channel.1 (number_text w64 draft.0) channel.0 draft.2 channel.2 in
    subst (λ (x : Permit × Cursor). Passes at (permit_text x.0) x.1 × IsPermit x.0) {x = (value, channel.1)} (ok_is (value, channel.1) (permit, new) channel.5) (passes, (draft.3, channel.3))

staple-again : (s : StapleParts) → IsStapleParts s → ReadsBack staple_read_at s (staple_text s)
unfolding staple_read_at
staple-again s is at new p =
    let draft = split at new (number_text w64 s.draft) (number_text w64 s.epoch ++ s.channel) p in
    let epoch = split draft.0 new (number_text w64 s.epoch) s.channel draft.2 in
    rw (number_again w64 (2 ^ 64) wide64 s.draft is.0 at draft.0 draft.1, number_again w64 (2 ^ 64) wide64 s.epoch is.1.0 draft.0 epoch.0 epoch.1, digest_again s.channel is.1.1 epoch.0 new epoch.2) refl

staple-pass : IsSpelledBy staple_read_at staple_text IsStapleParts
unfolding staple_read_at
staple-pass at new s bytes e =
    let draft = next (number_at w64) (number_text w64) (λ n. n < 2 ^ 64) (number_pass w64 (2 ^ 64) wide64) _ at (s, new) bytes e in
    let epoch = next (number_at w64) (number_text w64) (λ n. n < 2 ^ 64) (number_pass w64 (2 ^ 64) wide64) _ draft.1 (s, new) draft.4 draft.5 in
    let channel = next digest_at (λ d. d) IsDigest digest_pass _ epoch.1 (s, new) epoch.4 epoch.5 in
    let value : StapleParts = record { draft = draft.0; epoch = epoch.0; channel = channel.0 } in
    let rest = Passes-then draft.1 epoch.1 channel.1 (number_text w64 epoch.0) channel.0 epoch.2 channel.2 in
    let passes = Passes-then at draft.1 channel.1 (number_text w64 draft.0) (number_text w64 epoch.0 ++ channel.0) draft.2 rest in
    subst (λ (x : StapleParts × Cursor). Passes at (staple_text x.0) x.1 × IsStapleParts x.0) {x = (value, channel.1)} (ok_is (value, channel.1) (s, new) channel.5) (passes, (draft.3, (epoch.3, channel.3)))

kept-again : (permit : Permit) → IsPermit permit → permit_kept (permit_text permit) ≡ Some permit
kept-again permit is = ap result_ok (whole_again permit_at permit (permit_text permit) (permit-again permit is))

stapled-again : (s : StapleParts) → IsStapleParts s → staple_kept (staple_text s) ≡ Some s
stapled-again s is = ap result_ok (whole_again staple_read_at s (staple_text s) (staple-again s is))

-- ---- an order is read back

attached-again : (draft : ℕ) (handover : List ℕ) → draft < 2 ^ 64 → leb (length handover) most_handover ≡ true
    → attached_by (result_ok (number_at w64 (start_of (number_text w64 draft ++ handover)))) ≡ Some (Attach draft handover)
attached-again draft handover lt short =
    let front = number_text w64 draft in
    let at = start_of (front ++ handover) in
    let mid = between at front handover in
    let read : number_at w64 at ≡ Ok (draft, mid) = number_again w64 (2 ^ 64) wide64 draft lt at mid (passes-first front handover) in
    ap (λ (r : Reading ℕ). attached_by (result_ok r)) read ∙ ap (λ (b : Bool). cond b (Some (Attach draft handover)) None) short

-- behind its kind, an order's text says it
spelled : (order : OwnerOrder) (x text : List ℕ) → x ≡ text → kept_order x ≡ Some order → kept_order text ≡ Some order
spelled order x text same says = subst (λ (t : List ℕ). kept_order t ≡ Some order) same says

same-text : (x text : List ℕ) → Some x ≡ Some text → x ≡ text
same-text x text e = cc

pub says_it : (order : OwnerOrder) (text : List ℕ) → IsWhole order → kept_text order ≡ Some text → kept_order text ≡ Some (as_kept order)
says_it (Take bytes) text is e =
    let t = there (leb (length bytes) longest) (1 ∷ bytes) text e in
    spelled (Take bytes) (1 ∷ bytes) text t.1 (ap (λ (b : Bool). cond b (Some (Take bytes)) None) t.0)
says_it (Begin cert asks) text is e =
    let x = 2 ∷ (asks_text asks ++ certificate_text cert) in
    let t = there (leb (length asks) most_asks) x text e in
    spelled (Begin cert asks) x text t.1 (ap result_ok (beginning-again cert asks is.0 is.1 (leb-true (length asks) most_asks t.0)))
says_it (Know cert) text is e =
    let x = 3 ∷ certificate_text cert in
    spelled (Know cert) x text (same-text x text e)
    (ap (λ (r : Result Certificate ℕ). option_map Know (result_ok r)) (whole_again certificate_at cert (certificate_text cert) (certificate_again cert is)))
says_it (Handover draft) text is e =
    let x = 4 ∷ number_text w64 draft in
    spelled (Handover draft) x text (same-text x text e) (ap (option_map Handover) (draft-again draft is))
says_it (Attach draft handover) text is e =
    let x = 5 ∷ (number_text w64 draft ++ handover) in
    let t = there (leb (length handover) most_handover) x text e in
    spelled (Attach draft handover) x text t.1 (attached-again draft handover is t.0)
says_it (Object draft) text is e =
    let x = 6 ∷ number_text w64 draft in
    spelled (Object draft) x text (same-text x text e) (ap (option_map Object) (draft-again draft is))
says_it (Submit draft) text is e = absurd cc
says_it (Allow permit) text is e =
    let x = 7 ∷ permit_text permit in
    spelled (Allow permit) x text (same-text x text e) (ap (option_map Allow) (kept-again permit is))
says_it (Disallow permit) text is e =
    let x = 8 ∷ permit_text permit in
    spelled (Disallow permit) x text (same-text x text e) (ap (option_map Disallow) (kept-again permit is))
says_it (Staple permit confirmation) text is e =
    let s = staple_at permit (epoch_in confirmation) in
    let x = 9 ∷ staple_text s in
    spelled (Restaple s) x text (same-text x text e) (ap (option_map Restaple) (stapled-again s (is.0.0, (is.1, is.0.1))))
says_it (Restaple s) text is e =
    let x = 9 ∷ staple_text s in
    spelled (Restaple s) x text (same-text x text e) (ap (option_map Restaple) (stapled-again s is))
says_it Leaves text is e = absurd cc

-- ---- what is read is spelled so

abbrev Spells : List ℕ → OwnerOrder → Type 0
Spells text order = (kept_text order ≡ Some text) × IsWhole order

-- a value that passed a test
passed : {A : Type 0} (short : Bool) (x y : A) → cond short (Some x) None ≡ Some y → (short ≡ true) × (x ≡ y)
passed true x y e = (refl, cc)
passed false x y e = absurd cc

message-pass : (bytes : List ℕ) (order : OwnerOrder) → message_kept bytes ≡ Some order → Spells (1 ∷ bytes) order
message-pass bytes order e =
    let p = passed (leb (length bytes) longest) (Take bytes) order e in
    subst (Spells (1 ∷ bytes)) p.1 (ap (λ (b : Bool). text_if b (1 ∷ bytes)) p.0, tt)

beginning-pass : (bytes : List ℕ) (order : OwnerOrder) → AreBytes bytes → result_ok (beginning_at (start_of bytes)) ≡ Some order → Spells (2 ∷ bytes) order
unfolding beginning_at
beginning-pass bytes order are e =
    let made = gave (beginning_at (start_of bytes)) order e in
    let a = next asks_at asks_text (λ asks. (length asks ≤ most_asks) × AllByRecursion (λ n. n < 2 ^ 16) asks) asks-pass
    (λ asks. whole certificate_at asks.1.ahead >>= λ cert. Ok (Begin cert asks.0)) (start_of bytes) order are made in
    let c = bind_ok (whole certificate_at a.1.ahead) (λ cert. Ok (Begin cert a.0)) order a.5 in
    let w = whole_pass certificate_at certificate_text IsCertificate certificate_pass a.1.ahead c.0 a.4 c.1 in
    let is : Begin c.0 a.0 ≡ order = ok_is (Begin c.0 a.0) order c.2 in
    let bytes-are : asks_text a.0 ++ certificate_text c.0 ≡ bytes = ap (λ (t : List ℕ). asks_text a.0 ++ t) (sym w.0) ∙ sym a.2.bytes in
    let text : kept_text (Begin c.0 a.0) ≡ Some (2 ∷ bytes) =
    ap (λ (b : Bool). text_if b (2 ∷ (asks_text a.0 ++ certificate_text c.0))) (le-leb (length a.0) most_asks a.3.0) ∙ ap (λ (t : List ℕ). Some (2 ∷ t)) bytes-are in
    subst (Spells (2 ∷ bytes)) is (text, (w.1, a.3.1))

know-pass : (bytes : List ℕ) (order : OwnerOrder) → AreBytes bytes → option_map Know (result_ok (whole certificate_at bytes)) ≡ Some order → Spells (3 ∷ bytes) order
know-pass bytes order are e =
    let m = mapped Know (result_ok (whole certificate_at bytes)) order e in
    let w = whole_pass certificate_at certificate_text IsCertificate certificate_pass bytes m.0 are (gave (whole certificate_at bytes) m.0 m.1) in
    subst (Spells (3 ∷ bytes)) m.2 (ap (λ (t : List ℕ). Some (3 ∷ t)) (sym w.0), w.1)

handover-pass : (bytes : List ℕ) (order : OwnerOrder) → AreBytes bytes → option_map Handover (draft_kept bytes) ≡ Some order → Spells (4 ∷ bytes) order
handover-pass bytes order are e =
    let m = mapped Handover (draft_kept bytes) order e in
    let d = draft-pass bytes m.0 are m.1 in
    subst (Spells (4 ∷ bytes)) m.2 (ap (λ (t : List ℕ). Some (4 ∷ t)) (sym d.0), d.1)

object-pass : (bytes : List ℕ) (order : OwnerOrder) → AreBytes bytes → option_map Object (draft_kept bytes) ≡ Some order → Spells (6 ∷ bytes) order
object-pass bytes order are e =
    let m = mapped Object (draft_kept bytes) order e in
    let d = draft-pass bytes m.0 are m.1 in
    subst (Spells (6 ∷ bytes)) m.2 (ap (λ (t : List ℕ). Some (6 ∷ t)) (sym d.0), d.1)

attach-pass : (bytes : List ℕ) (order : OwnerOrder) → AreBytes bytes → attached_by (result_ok (number_at w64 (start_of bytes))) ≡ Some order → Spells (5 ∷ bytes) order
attach-pass bytes order are e = by (number_at w64 (start_of bytes)) refl e
  where
    by : (r : Reading ℕ) → number_at w64 (start_of bytes) ≡ r → attached_by (result_ok r) ≡ Some order → Spells (5 ∷ bytes) order
    by (Err place) read e = absurd cc
    by (Ok d) read e =
        let n = number_pass w64 (2 ^ 64) wide64 (start_of bytes) d.1 d.0 are read in
        let p = passed (leb (length d.1.ahead) most_handover) (Attach d.0 d.1.ahead) order e in
        let text : kept_text (Attach d.0 d.1.ahead) ≡ Some (5 ∷ bytes) =
        ap (λ (b : Bool). text_if b (5 ∷ (number_text w64 d.0 ++ d.1.ahead))) p.0 ∙ ap (λ (t : List ℕ). Some (5 ∷ t)) (sym n.0.bytes) in
        subst (Spells (5 ∷ bytes)) p.1 (text, n.1)

allow-pass : (bytes : List ℕ) (order : OwnerOrder) → AreBytes bytes → option_map Allow (permit_kept bytes) ≡ Some order → Spells (7 ∷ bytes) order
allow-pass bytes order are e =
    let m = mapped Allow (permit_kept bytes) order e in
    let w = whole_pass permit_at permit_text IsPermit permit-pass bytes m.0 are (gave (whole permit_at bytes) m.0 m.1) in
    subst (Spells (7 ∷ bytes)) m.2 (ap (λ (t : List ℕ). Some (7 ∷ t)) (sym w.0), w.1)

disallow-pass : (bytes : List ℕ) (order : OwnerOrder) → AreBytes bytes → option_map Disallow (permit_kept bytes) ≡ Some order → Spells (8 ∷ bytes) order
disallow-pass bytes order are e =
    let m = mapped Disallow (permit_kept bytes) order e in
    let w = whole_pass permit_at permit_text IsPermit permit-pass bytes m.0 are (gave (whole permit_at bytes) m.0 m.1) in
    subst (Spells (8 ∷ bytes)) m.2 (ap (λ (t : List ℕ). Some (8 ∷ t)) (sym w.0), w.1)

restaple-pass : (bytes : List ℕ) (order : OwnerOrder) → AreBytes bytes → option_map Restaple (staple_kept bytes) ≡ Some order → Spells (9 ∷ bytes) order
restaple-pass bytes order are e =
    let m = mapped Restaple (staple_kept bytes) order e in
    let w = whole_pass staple_read_at staple_text IsStapleParts staple-pass bytes m.0 are (gave (whole staple_read_at bytes) m.0 m.1) in
    subst (Spells (9 ∷ bytes)) m.2 (ap (λ (t : List ℕ). Some (9 ∷ t)) (sym w.0), w.1)

-- the order of the kind with this number, or of those behind it
or-else : (kind number : ℕ) (bytes : List ℕ) (order : OwnerOrder) (here other : Option OwnerOrder) → cond (eqb kind number) here other ≡ Some order
    → (here ≡ Some order → Spells (number ∷ bytes) order) → (other ≡ Some order → Spells (kind ∷ bytes) order) → Spells (kind ∷ bytes) order
or-else kind number bytes order here other e one rest = by (eqb kind number) refl e
  where
    by : (b : Bool) → eqb kind number ≡ b → cond b here other ≡ Some order → Spells (kind ∷ bytes) order
    by true is e = subst (λ (k : ℕ). Spells (k ∷ bytes) order) (sym (eqb-true kind number is)) (one e)
    by false is e = rest e

pub only_text : (text : List ℕ) (order : OwnerOrder) → AreBytes text → kept_order text ≡ Some order → Spells text order
only_text [] order are e = absurd cc
only_text (kind ∷ bytes) order are e =
    let behind : AreBytes bytes = λ i. are (suc i) in
    or-else kind 1 bytes order _ _ e (message-pass bytes order) (λ e2.
    or-else kind 2 bytes order _ _ e2 (beginning-pass bytes order behind) (λ e3.
    or-else kind 3 bytes order _ _ e3 (know-pass bytes order behind) (λ e4.
    or-else kind 4 bytes order _ _ e4 (handover-pass bytes order behind) (λ e5.
    or-else kind 5 bytes order _ _ e5 (attach-pass bytes order behind) (λ e6.
    or-else kind 6 bytes order _ _ e6 (object-pass bytes order behind) (λ e7.
    or-else kind 7 bytes order _ _ e7 (allow-pass bytes order behind) (λ e8.
    or-else kind 8 bytes order _ _ e8 (disallow-pass bytes order behind) (λ e9.
    or-else kind 9 bytes order _ _ e9 (restaple-pass bytes order behind) (λ e10. absurd cc)))))))))
