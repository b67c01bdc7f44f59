-- What an owner's call did, as what its order does where the certificates that it knows are beside it.
use Rattle.std.proofs.Common.{◌≡◌, ◌<◌, ◌≤◌, ℕ, Bool, true, false, leb, List, [], ◌∷◌, ◌++◌, length, Option, None, Some, Result, Ok, Err, refl, sym, ap, subst, inl, inr, ◌∙◌, arith}
use Rattle.std.specs.Option.{ok_or, option_map}
use Rattle.std.specs.Prelude.{IfErr, IfOk}
use Rattle.std.proofs.lemmas.Option.{same_Some}
use Rattle.std.specs.Result.{result_map_both}
use Rattle.std.proofs.lemmas.Bool.{le-leb, leb-true}
use Rattle.ar_base.specs.Chaining.{◌>>=◌, need}
use Rattle.ar_base.specs.Gives.{GivesOrWants}
use Rattle.ar_cert.specs.Certificate.{Certificate, digest_of}
use Rattle.ar_message.specs.declared.sent.Sent.{Sent}
use Rattle.owner_core.specs.Rows.{Answers, OwnerAnswer, attach_row, begin_row, object_row, submit_row}
use Rattle.owner_core.specs.State.{Owner}
use Rattle.owner_core.specs.declared.refusal.OwnerRefusal.{OwnerRefusal}
use Rattle.owner_core.specs.declared.refusal.OwnerRefusal.TheVariants.{Memory}
use Rattle.owner_keeper.specs.Keeping.{Does, OrderAnswer, OwnerStanding, answered, draft_in, handing_row, known_in, order_row, roomless, silent, standing_with, submitted}
use Rattle.owner_keeper.specs.Stapling.{Stapling}
use Rattle.owner_keeper.specs.Texts.{most_asks, most_handover}
use Rattle.owner_keeper.specs.declared.order.OwnerOrder.{OwnerOrder}
use Rattle.owner_keeper.specs.declared.order.OwnerOrder.TheVariants.{Begin, Know, Handover, Attach, Object, Submit}
use Rattle.owner_keeper.specs.declared.refusal.OwnerOrderRefusal.{OwnerOrderRefusal}
use Rattle.owner_keeper.specs.declared.refusal.OwnerOrderRefusal.TheVariants as refusals
use Rattle.owner_keeper.specs.declared.reply.OwnerReply.{OwnerReply}
use Rattle.owner_keeper.specs.declared.reply.OwnerReply.TheVariants.{Handed, Sends}
use Rattle.owner_keeper.proofs.Roomless.{attach_over, handing_over, object_over, over}

-- a call of an owner, with its answer as a reply
pub lifted : {T V : Type 0} (view : T → V) (reply : V → OwnerReply) (certs : List Certificate) (st : Stapling) (result : Result T OwnerRefusal) (old new : Owner) (row blind : OwnerAnswer V)
    → blind ≡ over row → Answers view old new result row
    → Does (standing_with old certs st) (standing_with new certs st) (result_map_both (λ t. reply (view t)) refusals.Owner result) (answered reply certs st blind)
lifted view reply certs st (Ok t) old new row blind same h = ap (answered reply certs st) (same ∙ ap over h)
lifted view reply certs st (Err e) old new row blind same h = (
  ap (λ (me : Owner). standing_with me certs st) h.0,
  elim h.1 [ inl memory ↦ inl (ap refusals.Owner memory) | inr was ↦ inr (ap (answered reply certs st) (same ∙ ap over was)) ],
)

-- ---- each order, by the call that does it

-- the certificates beside an owner, and the owner, are what the party is
abbrev pub Stands : Owner → List Certificate → Stapling → OwnerStanding → Type 0
Stands me certs st party = standing_with me certs st ≡ party

-- what holds of the owner with its certificates holds of the party
of-party : (party : OwnerStanding) (me : Owner) (certs : List Certificate) (st : Stapling) (later : OwnerStanding) (result said : Result OwnerReply OwnerOrderRefusal) (order : OwnerOrder) → Stands me certs st party
    → result ≡ said → Does (standing_with me certs st) later said (order_row (standing_with me certs st) order) → Does party later result (order_row party order)
of-party party me certs st later result said order stands is does =
    subst (λ (r : Result OwnerReply OwnerOrderRefusal). Does party later r (order_row party order)) (sym is)
    (subst (λ (p : OwnerStanding). Does p later said (order_row p order)) stands does)

-- what is done with the draft that a number names
of-draft : (certs : List Certificate) (st : Stapling) (old : Owner) (draft : ℕ) (cert : Certificate) (order : OwnerOrder) (later : OwnerStanding) (said : Result OwnerReply OwnerOrderRefusal)
    (next : Certificate → OrderAnswer) → order_row (standing_with old certs st) order ≡ (known_in certs draft >>= next) → known_in certs draft ≡ Ok cert
    → Does (standing_with old certs st) later said (next cert) → Does (standing_with old certs st) later said (order_row (standing_with old certs st) order)
of-draft certs st old draft cert order later said next row there does =
    subst (Does (standing_with old certs st) later said) (sym (row ∙ ap (λ (r : Result Certificate OwnerOrderRefusal). r >>= next) there)) does

-- the certificate whose digest was found
known-of : (there : Option Certificate) (digest : List ℕ) → Some digest ≡ option_map digest_of there
    → (cert : Certificate) × ((ok_or there refusals.NoCertificate ≡ Ok cert) × (digest ≡ digest_of cert))
known-of (Some cert) digest e = (cert, (refl, same_Some digest (digest_of cert) e))
known-of None digest e = absurd cc

pub handed : (party : OwnerStanding) (old new : Owner) (certs : List Certificate) (st : Stapling) (draft : ℕ) (digest : List ℕ) (signed : Result (List ℕ) OwnerRefusal)
    (result : Result OwnerReply OwnerOrderRefusal) → Stands old certs st party → Some digest ≡ option_map digest_of (draft_in certs draft)
    → Answers (λ s. s) old new signed (handing_row old digest) → result ≡ result_map_both (Handed digest) refusals.Owner signed
    → Does party (standing_with new certs st) result (order_row party (Handover draft))
handed party old new certs st draft digest signed result stands found answer is =
    let k = known-of (draft_in certs draft) digest found in
    let later = standing_with new certs st in
    let said = result_map_both (Handed digest) refusals.Owner signed in
    let does : Does (standing_with old certs st) later said (answered (Handed digest) certs st (handing_row (roomless old) digest)) =
    lifted (λ s. s) (Handed digest) certs st signed old new (handing_row old digest) (handing_row (roomless old) digest) (handing_over old digest) answer in
    of-party party old certs st later result said (Handover draft) stands is
    (of-draft certs st old draft k.0 (Handover draft) later said (λ cert. answered (Handed (digest_of cert)) certs st (handing_row (roomless old) (digest_of cert))) refl k.1.0
    (subst (λ (d : List ℕ). Does (standing_with old certs st) later said (answered (Handed d) certs st (handing_row (roomless old) d))) k.1.1 does))

pub objected : (party : OwnerStanding) (old new : Owner) (certs : List Certificate) (st : Stapling) (draft : ℕ) (cert : Certificate) (step : Result Sent OwnerRefusal)
    (result : Result OwnerReply OwnerOrderRefusal) → Stands old certs st party → Some cert ≡ draft_in certs draft
    → Answers (λ s. s) old new step (object_row old cert) → result ≡ result_map_both Sends refusals.Owner step
    → Does party (standing_with new certs st) result (order_row party (Object draft))
objected party old new certs st draft cert step result stands found answer is =
    let there : known_in certs draft ≡ Ok cert = ap (λ (o : Option Certificate). ok_or o refusals.NoCertificate) (sym found) in
    of-party party old certs st (standing_with new certs st) result (result_map_both Sends refusals.Owner step) (Object draft) stands is
    (of-draft certs st old draft cert (Object draft) (standing_with new certs st) (result_map_both Sends refusals.Owner step) (λ c. answered Sends certs st (object_row (roomless old) c)) refl there
    (lifted (λ s. s) Sends certs st step old new (object_row old cert) (object_row (roomless old) cert) (object_over old cert) answer))

-- no certificate has the number
pub none_found : (certs : List Certificate) (draft : ℕ) → None ≡ option_map digest_of (draft_in certs draft) → known_in certs draft ≡ Err refusals.NoCertificate
none_found certs draft e = by (draft_in certs draft) e
  where
    by : (there : Option Certificate) → None ≡ option_map digest_of there → ok_or there refusals.NoCertificate ≡ Err refusals.NoCertificate
    by None e = refl
    by (Some cert) e = absurd cc

pub submitted_so : (party : OwnerStanding) (me : Owner) (certs : List Certificate) (st : Stapling) (draft : ℕ) (digest : List ℕ) (step : Result Sent OwnerRefusal)
    (result : Result OwnerReply OwnerOrderRefusal) → Stands me certs st party → Some digest ≡ option_map digest_of (draft_in certs draft)
    → GivesOrWants Memory (λ s. s) step (submit_row me digest) → result ≡ result_map_both Sends refusals.Owner step
    → Does party party result (order_row party (Submit draft))
submitted_so party me certs st draft digest step result stands found answer is =
    let k = known-of (draft_in certs draft) digest found in
    let said = result_map_both Sends refusals.Owner step in
    let at = standing_with me certs st in
    let does : Does at at said (submitted at (submit_row me digest)) = by step answer in
    let inner : Does at at said (order_row at (Submit draft)) =
    of-draft certs st me draft k.0 (Submit draft) at said (λ cert. submitted at (submit_row (roomless me) (digest_of cert))) refl k.1.0
    (subst (λ (d : List ℕ). Does at at said (submitted at (submit_row me d))) k.1.1 does) in
    subst (λ (r : Result OwnerReply OwnerOrderRefusal). Does party party r (order_row party (Submit draft))) (sym is)
    (subst (λ (p : OwnerStanding). Does p p said (order_row p (Submit draft))) stands inner)
  where
    by : (s : Result Sent OwnerRefusal) → GivesOrWants Memory (λ (x : Sent). x) s (submit_row me digest)
        → Does (standing_with me certs st) (standing_with me certs st) (result_map_both Sends refusals.Owner s) (submitted (standing_with me certs st) (submit_row me digest))
    by (Ok sent) h = ap (submitted (standing_with me certs st)) h
    by (Err e) (inl memory) = (refl, inl (ap refusals.Owner memory.0))
    by (Err e) (inr was) = (refl, inr (ap (submitted (standing_with me certs st)) was))

-- ---- with a limit

not-le : (n most : ℕ) → most < n → leb n most ≡ false
not-le n most less = by (leb n most) refl
  where
    by : (b : Bool) → leb n most ≡ b → leb n most ≡ false
    by true e = absurd (omega (arith, leb-true n most e, less))
    by false e = e

pub begun : (party : OwnerStanding) (old new : Owner) (certs later : List Certificate) (st : Stapling) (cert : Certificate) (asks : List ℕ) (sent : Sent) → Stands old certs st party
    → length asks ≤ most_asks → begin_row old cert asks ≡ Ok (sent, new) → later ≡ certs ++ cert ∷ []
    → order_row party (Begin cert asks) ≡ Ok (Sends sent, standing_with new later st)
begun party old new certs later st cert asks sent stands few row is =
    ap (λ (p : OwnerStanding). order_row p (Begin cert asks)) (sym stands)
    ∙ ap (λ (b : Bool). need b refusals.Long >>= λ u. answered Sends (certs ++ cert ∷ []) st (begin_row (roomless old) cert asks)) (le-leb (length asks) most_asks few)
    ∙ ap (λ (r : OwnerAnswer Sent). answered Sends (certs ++ cert ∷ []) st (over r)) row
    ∙ ap (λ (cs : List Certificate). Ok (Sends sent, standing_with new cs st)) (sym is)

pub too_many : (party : OwnerStanding) (cert : Certificate) (asks : List ℕ) → most_asks < length asks → order_row party (Begin cert asks) ≡ Err refusals.Long
too_many party cert asks many = ap (λ (b : Bool). need b refusals.Long >>= λ u. answered Sends (party.certs ++ cert ∷ []) party.stapling (begin_row party.owner cert asks)) (not-le (length asks) most_asks many)

-- memory was wanting to begin: nothing else is
pub begin_wants : (old new : Owner) (cert : Certificate) (asks : List ℕ) (e : OwnerRefusal) → Answers {T = Sent} (λ s. s) old new (Err e) (begin_row old cert asks) → (new ≡ old) × (e ≡ Memory)
begin_wants old new cert asks e answer = (answer.0, elim answer.1 [ inl memory ↦ memory | inr was ↦ absurd cc ])

pub attached_so : (party : OwnerStanding) (old new : Owner) (certs : List Certificate) (st : Stapling) (draft : ℕ) (digest handover : List ℕ) → Stands old certs st party
    → Some digest ≡ option_map digest_of (draft_in certs draft) → length handover ≤ most_handover → attach_row old digest handover ≡ Ok (tt, new)
    → order_row party (Attach draft handover) ≡ Ok (silent tt, standing_with new certs st)
attached_so party old new certs st draft digest handover stands found few row =
    let next : List ℕ → OrderAnswer = λ d. answered silent certs st (attach_row (roomless old) d handover) in
    let k = known-of (draft_in certs draft) digest found in
    ap (λ (p : OwnerStanding). order_row p (Attach draft handover)) (sym stands)
    ∙ ap (λ (b : Bool). need b refusals.Long >>= λ u. known_in certs draft >>= λ cert. next (digest_of cert)) (le-leb (length handover) most_handover few)
    ∙ ap (λ (r : Result Certificate OwnerOrderRefusal). r >>= λ cert. next (digest_of cert)) k.1.0 ∙ ap next (sym k.1.1)
    ∙ ap (answered silent certs st) (attach_over old digest handover ∙ ap over row)

-- why it is not attached
pub not_attached : (party : OwnerStanding) (old : Owner) (certs : List Certificate) (st : Stapling) (draft : ℕ) (digest handover : List ℕ) (why : OwnerRefusal) → Stands old certs st party
    → Some digest ≡ option_map digest_of (draft_in certs draft) → length handover ≤ most_handover → attach_row old digest handover ≡ Err why
    → order_row party (Attach draft handover) ≡ Err (refusals.Owner why)
not_attached party old certs st draft digest handover why stands found few row =
    let next : List ℕ → OrderAnswer = λ d. answered silent certs st (attach_row (roomless old) d handover) in
    let k = known-of (draft_in certs draft) digest found in
    ap (λ (p : OwnerStanding). order_row p (Attach draft handover)) (sym stands)
    ∙ ap (λ (b : Bool). need b refusals.Long >>= λ u. known_in certs draft >>= λ cert. next (digest_of cert)) (le-leb (length handover) most_handover few)
    ∙ ap (λ (r : Result Certificate OwnerOrderRefusal). r >>= λ cert. next (digest_of cert)) k.1.0 ∙ ap next (sym k.1.1)
    ∙ ap (answered silent certs st) (attach_over old digest handover ∙ ap over row)

-- the handover was attached, or not
pub attached_or : (party : OwnerStanding) (old new : Owner) (certs : List Certificate) (st : Stapling) (draft : ℕ) (digest handover : List ℕ) (step : Result (Unit {0}) OwnerRefusal)
    (result : Result OwnerReply OwnerOrderRefusal) → Stands old certs st party → Some digest ≡ option_map digest_of (draft_in certs draft) → length handover ≤ most_handover
    → IfOk step (λ u. attach_row old digest handover ≡ Ok (tt, new)) → IfErr step (λ e. (new ≡ old) × (attach_row old digest handover ≡ Err e))
    → result ≡ result_map_both silent refusals.Owner step → Does party (standing_with new certs st) result (order_row party (Attach draft handover))
attached_or party old new certs st draft digest handover step result stands found few ok err is =
    subst (λ (r : Result OwnerReply OwnerOrderRefusal). Does party (standing_with new certs st) r (order_row party (Attach draft handover))) (sym is) (by step ok err)
  where
    by : (s : Result (Unit {0}) OwnerRefusal) → IfOk s (λ u. attach_row old digest handover ≡ Ok (tt, new)) → IfErr s (λ e. (new ≡ old) × (attach_row old digest handover ≡ Err e))
        → Does party (standing_with new certs st) (result_map_both silent refusals.Owner s) (order_row party (Attach draft handover))
    by (Ok u) row none = attached_so party old new certs st draft digest handover stands found few row
    by (Err why) none both =
        (ap (λ (me : Owner). standing_with me certs st) both.0 ∙ stands, inr (not_attached party old certs st draft digest handover why stands found few both.1))

pub too_long : (party : OwnerStanding) (draft : ℕ) (handover : List ℕ) → most_handover < length handover → order_row party (Attach draft handover) ≡ Err refusals.Long
too_long party draft handover many =
    ap (λ (b : Bool). need b refusals.Long >>= λ u. known_in party.certs draft >>= λ cert. answered silent party.certs party.stapling (attach_row party.owner (digest_of cert) handover))
    (not-le (length handover) most_handover many)

pub not_found : (party : OwnerStanding) (me : Owner) (certs : List Certificate) (st : Stapling) (draft : ℕ) (handover : List ℕ) → Stands me certs st party
    → None ≡ option_map digest_of (draft_in certs draft) → length handover ≤ most_handover → order_row party (Attach draft handover) ≡ Err refusals.NoCertificate
not_found party me certs st draft handover stands missing few =
    ap (λ (p : OwnerStanding). order_row p (Attach draft handover)) (sym stands)
    ∙ ap (λ (b : Bool). need b refusals.Long >>= λ u. known_in certs draft >>= λ cert. answered silent certs st (attach_row (roomless me) (digest_of cert) handover)) (le-leb (length handover) most_handover few)
    ∙ ap (λ (r : Result Certificate OwnerOrderRefusal). r >>= λ cert. answered silent certs st (attach_row (roomless me) (digest_of cert) handover)) (none_found certs draft missing)

pub knew : (party : OwnerStanding) (me : Owner) (certs later : List Certificate) (st : Stapling) (cert : Certificate) (reply : OwnerReply) → Stands me certs st party → later ≡ certs ++ cert ∷ []
    → reply ≡ silent tt → order_row party (Know cert) ≡ Ok (reply, standing_with me later st)
knew party me certs later st cert reply stands is said =
    ap (λ (p : OwnerStanding). order_row p (Know cert)) (sym stands)
    ∙ ap (λ (cs : List Certificate). Ok (silent tt, standing_with me cs st)) (sym is)
    ∙ ap (λ (r : OwnerReply). Ok (r, standing_with me later st)) (sym said)
