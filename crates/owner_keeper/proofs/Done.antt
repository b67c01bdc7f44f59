-- What an order did that was done: which row answered so, and what holds where a staple was signed.
use Rattle.std.proofs.Common.{◌≡◌, ℕ, Bool, true, false, cond, List, Result, Ok, Err, refl, sym, ap, subst}
use Rattle.std.specs.Str.{bytes_eq}
use Rattle.ar_base.specs.Chaining.{◌>>=◌, need}
use Rattle.ar_base.proofs.Shown.{bind_ok, ok_is}
use Rattle.ar_cert.specs.Certificate.{Certificate, digest_of}
use Rattle.ar_message.specs.declared.sent.Sent.{Sent}
use Rattle.client_rule.specs.Rule.{judgement as judgement_of}
use Rattle.client_rule.specs.declared.judgement.Judgement.{Judgement}
use Rattle.client_rule.specs.declared.judgement.Judgement.TheVariants.{Absent, Accepted, Refused}
use Rattle.lms_tree.specs.Key.{public_of}
use Rattle.owner_core.specs.Rows.{OwnerAnswer}
use Rattle.owner_core.specs.State.{Owner}
use Rattle.owner_core.specs.declared.refusal.OwnerRefusal.{OwnerRefusal}
use Rattle.party_keys.specs.Learning.{is_key}
use Rattle.possession.specs.Connections.{epoch_in}
use Rattle.owner_keeper.specs.Keeping.{OrderAnswer, OwnerStanding, answered, known_in, order_row, restaple_row, stapled_reply, submitted}
use Rattle.owner_keeper.specs.Stapling.{StapleParts, Stapling, asked_for, confirmed_as, confirmed_epoch, may_staple, staple_at, stapling_by, with_staple}
use Rattle.owner_keeper.specs.Texts.{as_kept}
use Rattle.owner_keeper.specs.declared.order.OwnerOrder.{OwnerOrder}
use Rattle.owner_keeper.specs.declared.order.OwnerOrder.TheVariants.{Take, Begin, Know, Handover, Attach, Object, Submit, Allow, Disallow, Staple, Restaple, Leaves}
use Rattle.owner_keeper.specs.declared.permit.Permit.{Permit}
use Rattle.owner_keeper.specs.declared.refusal.OwnerOrderRefusal.{OwnerOrderRefusal}
use Rattle.owner_keeper.specs.declared.refusal.OwnerOrderRefusal.TheVariants as refusals
use Rattle.owner_keeper.specs.declared.reply.OwnerReply.{OwnerReply}
use Rattle.owner_keeper.specs.declared.reply.OwnerReply.TheVariants.{Sends}

-- ---- answers of rows

-- an order was done by a row, which left the owner so; beside it stand these certificates
pub record IsDone {T : Type 0} (reply : T → OwnerReply) (certs : List Certificate) (st : Stapling) (row : OwnerAnswer T) (said : OwnerReply) (later : OwnerStanding) : Type 0 where
  pub value : T
  pub said_is : reply value ≡ said
  pub row_is : row ≡ Ok (value, later.owner)
  pub certs_are : later.certs ≡ certs
  pub stapling_is : later.stapling ≡ st

pub done_by : {T : Type 0} (reply : T → OwnerReply) (certs : List Certificate) (st : Stapling) (row : OwnerAnswer T) (said : OwnerReply) (later : OwnerStanding)
    → answered reply certs st row ≡ Ok (said, later) → IsDone reply certs st row said later
done_by {T} reply certs st (Ok r) said later e =
    let at : OwnerStanding = record { owner = r.1; certs = certs; stapling = st } in
    let same : (reply r.0, at) ≡ (said, later) = ok_is (reply r.0, at) (said, later) e in
    let owner : r.1 ≡ later.owner = ap (λ (p : OwnerReply × OwnerStanding). p.1.owner) same in
    record {
      value = r.0;
      said_is = ap (λ (p : OwnerReply × OwnerStanding). p.0) same;
      row_is = ap (λ (me : Owner). Ok (r.0, me)) owner;
      certs_are = sym (ap (λ (p : OwnerReply × OwnerStanding). p.1.certs) same);
      stapling_is = sym (ap (λ (p : OwnerReply × OwnerStanding). p.1.stapling) same);
    }
done_by reply certs st (Err refusal) said later e = absurd cc

-- a draft that is sent leaves all as it is
pub sent_stays : (party : OwnerStanding) (row : Result Sent OwnerRefusal) (said : OwnerReply) (later : OwnerStanding) → submitted party row ≡ Ok (said, later) → later ≡ party
sent_stays party (Ok sent) said later e = sym (ap (λ (p : OwnerReply × OwnerStanding). p.1) (ok_is (Sends sent, party) (said, later) e))
sent_stays party (Err refusal) said later e = absurd cc

-- ---- staples

-- what is needed is so
pub is_needed : {E : Type 0} (b : Bool) (fault : E) (u : Unit {0}) → need b fault ≡ Ok u → b ≡ true
is_needed true fault u e = refl
is_needed false fault u e = absurd cc

-- what holds where a staple was signed, and the row that answered
pub record IsRestapled (party : OwnerStanding) (s : StapleParts) (reply : OwnerReply) (later : OwnerStanding) : Type 0 where
  pub cert : Certificate
  pub known : known_in party.certs s.draft ≡ Ok cert
  pub own : is_key cert.subject (public_of party.owner.key) ≡ true
  pub may : may_staple party.stapling party.owner.book s ≡ Ok tt
  pub row : answered (stapled_reply cert s) party.certs (with_staple party.stapling s) (stapling_by party.owner cert s) ≡ Ok (reply, later)

pub restapled_by : (party : OwnerStanding) (s : StapleParts) (reply : OwnerReply) (later : OwnerStanding) → restaple_row party s ≡ Ok (reply, later) → IsRestapled party s reply later
restapled_by party s reply later e =
    let last : Certificate → Unit {0} → OrderAnswer = λ cert may. answered (stapled_reply cert s) party.certs (with_staple party.stapling s) (stapling_by party.owner cert s) in
    let k = bind_ok (known_in party.certs s.draft)
    (λ cert. need (is_key cert.subject (public_of party.owner.key)) refusals.Foreign >>= λ own. may_staple party.stapling party.owner.book s >>= last cert) (reply, later) e in
    let o = bind_ok (need (is_key k.0.subject (public_of party.owner.key)) refusals.Foreign) (λ own. may_staple party.stapling party.owner.book s >>= last k.0) (reply, later) k.2 in
    let m = bind_ok (may_staple party.stapling party.owner.book s) (last k.0) (reply, later) o.2 in
    record {
      cert = k.0;
      known = k.1;
      own = is_needed (is_key k.0.subject (public_of party.owner.key)) refusals.Foreign o.0 o.1;
      may = m.1;
      row = m.2;
    }

-- ---- as a journal has an order

-- the epoch that is confirmed is the confirmation's own
its-epoch : (cert : Certificate) (epoch : ℕ) (judged : Judgement) (x : ℕ) → confirmed_as cert epoch judged ≡ Ok x → epoch ≡ x
its-epoch cert epoch (Accepted found digest at root) x e = by (bytes_eq digest (digest_of cert)) e
  where
    by : (b : Bool) → cond b (Ok epoch) (Err refusals.Superseded) ≡ Ok x → epoch ≡ x
    by true e = ok_is epoch x e
    by false e = absurd cc
its-epoch cert epoch (Absent at root) x e = absurd cc
its-epoch cert epoch (Refused check) x e = absurd cc

-- a staple was signed of the confirmation's epoch
pub record IsStapled (party : OwnerStanding) (permit : Permit) (confirmation : List ℕ) (reply : OwnerReply) (later : OwnerStanding) : Type 0 where
  pub cert : Certificate
  pub known : known_in party.certs permit.draft ≡ Ok cert
  pub confirmed : confirmed_epoch party.stapling.keys cert confirmation ≡ Ok (epoch_in confirmation)
  pub row : restaple_row party (staple_at permit (epoch_in confirmation)) ≡ Ok (reply, later)

pub stapled_by : (party : OwnerStanding) (permit : Permit) (confirmation : List ℕ) (reply : OwnerReply) (later : OwnerStanding) → order_row party (Staple permit confirmation) ≡ Ok (reply, later)
    → IsStapled party permit confirmation reply later
stapled_by party permit confirmation reply later e =
    let k = bind_ok (known_in party.certs permit.draft) (λ cert. confirmed_epoch party.stapling.keys cert confirmation >>= λ epoch. restaple_row party (staple_at permit epoch)) (reply, later) e in
    let c = bind_ok (confirmed_epoch party.stapling.keys k.0 confirmation) (λ epoch. restaple_row party (staple_at permit epoch)) (reply, later) k.2 in
    let same : epoch_in confirmation ≡ c.0 = its-epoch k.0 (epoch_in confirmation) (judgement_of (asked_for party.stapling.keys k.0 confirmation) confirmation) c.0 c.1 in
    record {
      cert = k.0;
      known = k.1;
      confirmed = subst (λ (n : ℕ). confirmed_epoch party.stapling.keys k.0 confirmation ≡ Ok n) (sym same) c.1;
      row = subst (λ (n : ℕ). restaple_row party (staple_at permit n) ≡ Ok (reply, later)) (sym same) c.2;
    }

-- an order that was done is done so as a journal has it
pub kept_row : (party : OwnerStanding) (order : OwnerOrder) (reply : OwnerReply) (later : OwnerStanding) → order_row party order ≡ Ok (reply, later) → order_row party (as_kept order) ≡ Ok (reply, later)
kept_row party (Take bytes) reply later e = e
kept_row party (Begin cert asks) reply later e = e
kept_row party (Know cert) reply later e = e
kept_row party (Handover draft) reply later e = e
kept_row party (Attach draft handover) reply later e = e
kept_row party (Object draft) reply later e = e
kept_row party (Submit draft) reply later e = e
kept_row party (Allow permit) reply later e = e
kept_row party (Disallow permit) reply later e = e
kept_row party (Staple permit confirmation) reply later e = (stapled_by party permit confirmation reply later e).row
kept_row party (Restaple s) reply later e = e
kept_row party Leaves reply later e = e

-- ---- what is allowed

-- this is answered, whatever the certificate
abbrev pub answering : OwnerReply → OwnerStanding → Certificate → OrderAnswer
answering said at cert = Ok (said, at)

-- what is allowed is changed, and nothing else
pub allowed_by : (party at : OwnerStanding) (known : Result Certificate OwnerOrderRefusal) (said reply : OwnerReply) (later : OwnerStanding) → (known >>= answering said at) ≡ Ok (reply, later) → at ≡ later
allowed_by party at known said reply later e =
    let b = bind_ok known (answering said at) (reply, later) e in
    ap (λ (p : OwnerReply × OwnerStanding). p.1) (ok_is (said, at) (reply, later) b.2)
