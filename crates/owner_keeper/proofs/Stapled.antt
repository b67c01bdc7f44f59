-- What an owner's calls did that hear a note, allow a TLS key or sign a staple, as what their orders do.
use Rattle.std.proofs.Common.{◌≡◌, ◌⊎◌, ◌≢◌, ◌∙◌, ℕ, List, Option, Some, Result, Ok, Err, sym, ap, subst, inl, inr, ⊎_elim}
use Rattle.std.specs.Option.{ok_or}
use Rattle.std.specs.Prelude.{OnErr, OnOk}
use Rattle.std.specs.Result.{result_map_both}
use Rattle.ar_base.specs.Chaining.{◌>>=◌, need}
use Rattle.ar_base.specs.Gives.{GivesOrWants}
use Rattle.ar_base.proofs.Shown.{bind_ok}
use Rattle.ar_cert.specs.Certificate.{Certificate, digest_of}
use Rattle.ar_message.specs.declared.sent.Sent.{Sent}
use Rattle.bound_challenge.specs.Challenges.{staple_challenge}
use Rattle.lms_tree.specs.Key.{public_of}
use Rattle.owner_core.specs.Rows.{Answers, OwnerAnswer, step_row}
use Rattle.owner_core.specs.State.{Owner}
use Rattle.owner_core.specs.declared.refusal.OwnerRefusal.{OwnerRefusal}
use Rattle.owner_core.specs.declared.refusal.OwnerRefusal.TheVariants.{Memory}
use Rattle.party_keys.specs.Directory.{Directory}
use Rattle.party_keys.specs.Learning.{Announced, after_learning, is_key, learned, learning}
use Rattle.party_keys.specs.declared.fault.LearnFault.{LearnFault}
use Rattle.party_keys.specs.declared.fault.LearnFault.TheVariants as learn_faults
use Rattle.party_keys.specs.declared.learning.Learned.{Learned}
use Rattle.owner_keeper.specs.Keeping.{Does, OrderAnswer, OwnerStanding, answered, draft_in, known_in, need_known, order_row, restaple_row, roomless, silent, standing_with, staple_with, stapled_reply}
use Rattle.owner_keeper.specs.Stapling.{StapleParts, Stapling, allowing, confirmed_epoch, disallowing, hearing, keys_behind, may_staple, staple_at, stapling_by, with_staple}
use Rattle.owner_keeper.specs.declared.order.OwnerOrder.TheVariants.{Take, Allow, Disallow, Staple, Restaple}
use Rattle.owner_keeper.specs.declared.permit.Permit.{Permit}
use Rattle.owner_keeper.specs.declared.refusal.OwnerOrderRefusal.{OwnerOrderRefusal}
use Rattle.owner_keeper.specs.declared.refusal.OwnerOrderRefusal.TheVariants as refusals
use Rattle.owner_keeper.specs.declared.reply.OwnerReply.{OwnerReply}
use Rattle.owner_keeper.specs.declared.reply.OwnerReply.TheVariants.{Sends}
use Rattle.owner_keeper.proofs.Acting.{Stands}
use Rattle.owner_keeper.proofs.Roomless.{over, staple_over, step_over}

-- ---- notes

-- what is not learnt leaves a directory
pub unlearnt : (keys later : Directory) (a : Announced) (fault : LearnFault) → GivesOrWants {T = Learned} learn_faults.Memory (λ l. l) (Err fault) (learned keys a) → fault ≢ learn_faults.Memory
    → later ≡ keys → later ≡ after_learning keys a
unlearnt keys later a fault how other same =
    let refused : learned keys a ≡ Err fault = ⊎_elim (λ memory. absurd (other memory.0)) (λ is. is) how in
    same ∙ sym (ap (λ (r : Result Learned LearnFault). learning r keys a) refused)

-- ---- messages

pub took : (party : OwnerStanding) (old new : Owner) (certs : List Certificate) (st later : Stapling) (bytes : List ℕ) (sent : Sent) (keys : Directory) → Stands old certs st party
    → step_row old bytes ≡ Ok (sent, new) → keys ≡ keys_behind st.keys bytes → later ≡ record st { keys = keys }
    → order_row party (Take bytes) ≡ Ok (Sends sent, standing_with new certs later)
took party old new certs st later bytes sent keys stands row are is =
    ap (λ (p : OwnerStanding). order_row p (Take bytes)) (sym stands)
    ∙ ap (answered Sends certs (hearing st bytes)) (step_over old bytes ∙ ap over row)
    ∙ ap (λ (s : Stapling). Ok (Sends sent, standing_with new certs s)) (sym (is ∙ ap (λ (k : Directory). record st { keys = k }) are))

pub not_taken : (party : OwnerStanding) (old new : Owner) (certs : List Certificate) (st : Stapling) (bytes : List ℕ) (e : OwnerRefusal) → Stands old certs st party
    → Answers {T = Sent} (λ s. s) old new (Err e) (step_row old bytes)
    → (standing_with new certs st ≡ party) × ((refusals.Owner e ≡ refusals.Owner Memory) ⊎ (order_row party (Take bytes) ≡ Err (refusals.Owner e)))
not_taken party old new certs st bytes e stands answer = (
  ap (λ (me : Owner). standing_with me certs st) answer.0 ∙ stands,
  elim answer.1 [
    | inl memory ↦ inl (ap refusals.Owner memory)
    | inr was ↦ inr (ap (λ (p : OwnerStanding). order_row p (Take bytes)) (sym stands) ∙ ap (answered Sends certs (hearing st bytes)) (step_over old bytes ∙ ap over was))
  ],
)

-- ---- what is allowed

-- nothing else is asked of a certificate
abbrev nothing-more : Certificate → Result (Unit {0}) OwnerOrderRefusal
nothing-more cert = Ok tt

-- what is done where there is a certificate with a number
there : (certs : List Certificate) (draft : ℕ) (answer : OrderAnswer) → need_known certs draft ≡ Ok tt → (known_in certs draft >>= λ cert. answer) ≡ answer
there certs draft answer known =
    let b = bind_ok (known_in certs draft) nothing-more tt known in
    ap (λ (r : Result Certificate OwnerOrderRefusal). r >>= λ cert. answer) b.1

not-there : (certs : List Certificate) (draft : ℕ) (fault : OwnerOrderRefusal) → need_known certs draft ≡ Err fault → known_in certs draft ≡ Err fault
not-there certs draft fault e = by (known_in certs draft) e
  where
    by : (known : Result Certificate OwnerOrderRefusal) → (known >>= nothing-more) ≡ Err fault → known ≡ Err fault
    by (Ok cert) e = absurd cc
    by (Err why) e = cc

pub allowed : (party : OwnerStanding) (me : Owner) (certs : List Certificate) (st later : Stapling) (permit : Permit) (reply : OwnerReply) → Stands me certs st party
    → need_known certs permit.draft ≡ Ok tt → later ≡ allowing permit st → reply ≡ silent tt
    → order_row party (Allow permit) ≡ Ok (reply, standing_with me certs later)
allowed party me certs st later permit reply stands known is said =
    ap (λ (p : OwnerStanding). order_row p (Allow permit)) (sym stands)
    ∙ there certs permit.draft (Ok (silent tt, standing_with me certs (allowing permit st))) known
    ∙ ap (λ (s : Stapling). Ok (silent tt, standing_with me certs s)) (sym is)
    ∙ ap (λ (r : OwnerReply). Ok (r, standing_with me certs later)) (sym said)

pub disallowed : (party : OwnerStanding) (me : Owner) (certs : List Certificate) (st later : Stapling) (permit : Permit) (reply : OwnerReply) → Stands me certs st party
    → need_known certs permit.draft ≡ Ok tt → later ≡ disallowing permit st → reply ≡ silent tt
    → order_row party (Disallow permit) ≡ Ok (reply, standing_with me certs later)
disallowed party me certs st later permit reply stands known is said =
    ap (λ (p : OwnerStanding). order_row p (Disallow permit)) (sym stands)
    ∙ there certs permit.draft (Ok (silent tt, standing_with me certs (disallowing permit st))) known
    ∙ ap (λ (s : Stapling). Ok (silent tt, standing_with me certs s)) (sym is)
    ∙ ap (λ (r : OwnerReply). Ok (r, standing_with me certs later)) (sym said)

-- of no certificate
pub not_allowed : (party : OwnerStanding) (me : Owner) (certs : List Certificate) (st : Stapling) (permit : Permit) (fault : OwnerOrderRefusal) → Stands me certs st party
    → need_known certs permit.draft ≡ Err fault → order_row party (Allow permit) ≡ Err fault
not_allowed party me certs st permit fault stands none =
    ap (λ (p : OwnerStanding). order_row p (Allow permit)) (sym stands)
    ∙ ap (λ (r : Result Certificate OwnerOrderRefusal). r >>= λ cert. Ok (silent tt, standing_with me certs (allowing permit st))) (not-there certs permit.draft fault none)

pub not_disallowed : (party : OwnerStanding) (me : Owner) (certs : List Certificate) (st : Stapling) (permit : Permit) (fault : OwnerOrderRefusal) → Stands me certs st party
    → need_known certs permit.draft ≡ Err fault → order_row party (Disallow permit) ≡ Err fault
not_disallowed party me certs st permit fault stands none =
    ap (λ (p : OwnerStanding). order_row p (Disallow permit)) (sym stands)
    ∙ ap (λ (r : Result Certificate OwnerOrderRefusal). r >>= λ cert. Ok (silent tt, standing_with me certs (disallowing permit st))) (not-there certs permit.draft fault none)

-- ---- staples

-- what the row of a staple does where there is the certificate of its draft
for-cert : (party : OwnerStanding) (me : Owner) (certs : List Certificate) (st : Stapling) (s : StapleParts) (cert : Certificate) → Stands me certs st party → Some cert ≡ draft_in certs s.draft
    → order_row party (Restaple s) ≡ staple_with (standing_with me certs st) cert s
for-cert party me certs st s cert stands found =
    ap (λ (p : OwnerStanding). order_row p (Restaple s)) (sym stands)
    ∙ ap (λ (o : Option Certificate). ok_or o refusals.NoCertificate >>= λ c. staple_with (standing_with me certs st) c s) (sym found)

-- the last of it, where all holds
abbrev signing : Owner → List Certificate → Stapling → StapleParts → Certificate → OrderAnswer
signing me certs st s cert = answered (stapled_reply cert s) certs (with_staple st s) (stapling_by (roomless me) cert s)

pub foreign : (party : OwnerStanding) (me : Owner) (certs : List Certificate) (st : Stapling) (s : StapleParts) (cert : Certificate) (fault : OwnerOrderRefusal) → Stands me certs st party
    → Some cert ≡ draft_in certs s.draft → need (is_key cert.subject (public_of me.key)) refusals.Foreign ≡ Err fault → order_row party (Restaple s) ≡ Err fault
foreign party me certs st s cert fault stands found own =
    for-cert party me certs st s cert stands found
    ∙ ap (λ (r : Result (Unit {0}) OwnerOrderRefusal). r >>= λ u. may_staple st me.book s >>= λ v. signing me certs st s cert) own

-- its own certificate
owned : (party : OwnerStanding) (me : Owner) (certs : List Certificate) (st : Stapling) (s : StapleParts) (cert : Certificate) → Stands me certs st party
    → Some cert ≡ draft_in certs s.draft → need (is_key cert.subject (public_of me.key)) refusals.Foreign ≡ Ok tt
    → order_row party (Restaple s) ≡ (may_staple st me.book s >>= λ v. signing me certs st s cert)
owned party me certs st s cert stands found own =
    for-cert party me certs st s cert stands found
    ∙ ap (λ (r : Result (Unit {0}) OwnerOrderRefusal). r >>= λ u. may_staple st me.book s >>= λ v. signing me certs st s cert) own

pub not_signed : (party : OwnerStanding) (me : Owner) (certs : List Certificate) (st : Stapling) (s : StapleParts) (cert : Certificate) (fault : OwnerOrderRefusal) → Stands me certs st party
    → Some cert ≡ draft_in certs s.draft → need (is_key cert.subject (public_of me.key)) refusals.Foreign ≡ Ok tt → may_staple st me.book s ≡ Err fault
    → order_row party (Restaple s) ≡ Err fault
not_signed party me certs st s cert fault stands found own may =
    owned party me certs st s cert stands found own
    ∙ ap (λ (r : Result (Unit {0}) OwnerOrderRefusal). r >>= λ v. signing me certs st s cert) may

pub restapled : (party : OwnerStanding) (old new : Owner) (certs : List Certificate) (st later : Stapling) (s : StapleParts) (cert : Certificate) (signed : Result (List ℕ) OwnerRefusal)
    (result : Result OwnerReply OwnerOrderRefusal) → Stands old certs st party → Some cert ≡ draft_in certs s.draft → need (is_key cert.subject (public_of old.key)) refusals.Foreign ≡ Ok tt
    → may_staple st old.book s ≡ Ok tt → Answers (λ x. x) old new signed (stapling_by old cert s) → OnOk signed (later ≡ with_staple st s) → OnErr signed (later ≡ st)
    → result ≡ result_map_both (stapled_reply cert s) refusals.Owner signed → Does party (standing_with new certs later) result (order_row party (Restaple s))
restapled party old new certs st later s cert signed result stands found own may answer ok err is =
    subst (λ (r : Result OwnerReply OwnerOrderRefusal). Does party (standing_with new certs later) r (order_row party (Restaple s))) (sym is) (by signed answer ok err)
  where
    at : order_row party (Restaple s) ≡ answered (stapled_reply cert s) certs (with_staple st s) (over (stapling_by old cert s))
    at =
        owned party old certs st s cert stands found own
        ∙ ap (λ (r : Result (Unit {0}) OwnerOrderRefusal). r >>= λ v. signing old certs st s cert) may
        ∙ ap (answered (stapled_reply cert s) certs (with_staple st s)) (staple_over old cert.name (digest_of cert) (staple_challenge s.epoch s.channel))

    by : (x : Result (List ℕ) OwnerRefusal) → Answers (λ y. y) old new x (stapling_by old cert s) → OnOk x (later ≡ with_staple st s) → OnErr x (later ≡ st)
        → Does party (standing_with new certs later) (result_map_both (stapled_reply cert s) refusals.Owner x) (order_row party (Restaple s))
    by (Ok signature) row ok err =
        at ∙ ap (λ (r : OwnerAnswer (List ℕ)). answered (stapled_reply cert s) certs (with_staple st s) (over r)) row
        ∙ ap (λ (x : Stapling). Ok (stapled_reply cert s signature, standing_with new certs x)) (sym ok)
    by (Err e) both ok err = (
      ap (λ (me : Owner). standing_with me certs later) both.0 ∙ ap (standing_with old certs) err ∙ stands,
      elim both.1 [
        | inl memory ↦ inl (ap refusals.Owner memory)
        | inr was ↦ inr (at ∙ ap (λ (r : OwnerAnswer (List ℕ)). answered (stapled_reply cert s) certs (with_staple st s) (over r)) was)
      ],
    )

-- a staple whose epoch is confirmed
confirmed-row : (party : OwnerStanding) (me : Owner) (certs : List Certificate) (st : Stapling) (permit : Permit) (confirmation : List ℕ) (cert : Certificate) → Stands me certs st party
    → Some cert ≡ draft_in certs permit.draft
    → order_row party (Staple permit confirmation) ≡ (confirmed_epoch st.keys cert confirmation >>= λ epoch. restaple_row (standing_with me certs st) (staple_at permit epoch))
confirmed-row party me certs st permit confirmation cert stands found =
    ap (λ (p : OwnerStanding). order_row p (Staple permit confirmation)) (sym stands)
    ∙ ap (λ (o : Option Certificate). ok_or o refusals.NoCertificate >>= λ c. confirmed_epoch st.keys c confirmation >>= λ epoch. restaple_row (standing_with me certs st) (staple_at permit epoch)) (sym found)

pub not_confirmed : (party : OwnerStanding) (me : Owner) (certs : List Certificate) (st : Stapling) (permit : Permit) (confirmation : List ℕ) (cert : Certificate) (fault : OwnerOrderRefusal)
    → Stands me certs st party → Some cert ≡ draft_in certs permit.draft → confirmed_epoch st.keys cert confirmation ≡ Err fault → order_row party (Staple permit confirmation) ≡ Err fault
not_confirmed party me certs st permit confirmation cert fault stands found refused =
    confirmed-row party me certs st permit confirmation cert stands found
    ∙ ap (λ (r : Result ℕ OwnerOrderRefusal). r >>= λ epoch. restaple_row (standing_with me certs st) (staple_at permit epoch)) refused

pub stapled : (party : OwnerStanding) (me : Owner) (certs : List Certificate) (st : Stapling) (permit : Permit) (confirmation : List ℕ) (cert : Certificate) (epoch : ℕ) (s : StapleParts)
    (later : OwnerStanding) (result : Result OwnerReply OwnerOrderRefusal) → Stands me certs st party → Some cert ≡ draft_in certs permit.draft → confirmed_epoch st.keys cert confirmation ≡ Ok epoch
    → s ≡ staple_at permit epoch → Does party later result (order_row party (Restaple s)) → Does party later result (order_row party (Staple permit confirmation))
stapled party me certs st permit confirmation cert epoch s later result stands found confirmed is does =
    let row : order_row party (Staple permit confirmation) ≡ order_row party (Restaple s) =
    confirmed-row party me certs st permit confirmation cert stands found
    ∙ ap (λ (r : Result ℕ OwnerOrderRefusal). r >>= λ e. restaple_row (standing_with me certs st) (staple_at permit e)) confirmed
    ∙ ap (λ (p : OwnerStanding). restaple_row p (staple_at permit epoch)) stands
    ∙ ap (restaple_row party) (sym is) in
    subst (Does party later result) (sym row) does
