-- An order without a text changes nothing, and one that was refused does nothing.
use Rattle.std.proofs.Common.{◌≡◌, ◌≢◌, ◌⊎◌, ℕ, List, [], ◌∷◌, ◌++◌, length, Bool, true, false, cond, ltb, Option, None, Some, Result, Ok, Err, refl, sym, ap, subst, ◌∙◌, ⊎_elim, inl, inr}
use Rattle.std.specs.Prelude.{IfSome, nat_le}
use Rattle.std.specs.Option.{ok_or}
use Rattle.std.proofs.lemmas.Bool.{leb-false, lt-ltb}
use Rattle.ar_base.specs.Chaining.{◌>>=◌, need}
use Rattle.ar_base.specs.Gives.{with_error}
use Rattle.ar_base.proofs.Shown.{bind_ok, needed, ok_is}
use Rattle.ar_bytes.specs.Reading.{whole}
use Rattle.ar_cert.specs.Certificate.{digest_of}
use Rattle.ar_message.specs.Messages.{longest, message_at, message_in}
use Rattle.ar_message.specs.declared.message.Message.{Message}
use Rattle.owner_core.specs.Rows.{attach_row, begin_row, message_row, submit_row}
use Rattle.owner_core.specs.declared.refusal.OwnerRefusal.TheVariants.{Form, Memory}
use Rattle.kept_journal.specs.declared.fault.ReplayFault.{ReplayFault}
use Rattle.kept_journal.specs.declared.fault.ReplayFault.TheVariants.{Memory as WantsMemory, Stuck}
use Rattle.owner_keeper.specs.Keeping.{OrderAnswer, OwnerStanding, answered, known_in, order_row, says, silent, submitted, takes, tells}
use Rattle.owner_keeper.specs.Stapling.{hearing}
use Rattle.owner_keeper.specs.Texts.{IsWhole, as_kept, kept_order, kept_text, most_asks, most_handover, text_if}
use Rattle.owner_keeper.specs.declared.order.OwnerOrder.{OwnerOrder}
use Rattle.owner_keeper.specs.declared.order.OwnerOrder.TheVariants.{Take, Begin, Know, Handover, Attach, Object, Submit, Allow, Disallow, Staple, Restaple, Leaves}
use Rattle.owner_keeper.specs.declared.refusal.OwnerOrderRefusal.{OwnerOrderRefusal}
use Rattle.owner_keeper.specs.declared.refusal.OwnerOrderRefusal.TheVariants as refusals
use Rattle.owner_keeper.specs.declared.reply.OwnerReply.{OwnerReply}
use Rattle.owner_keeper.specs.declared.reply.OwnerReply.TheVariants.{Sends}
use Rattle.owner_keeper.proofs.Done.{kept_row, sent_stays}
use Rattle.owner_keeper.proofs.Spelled.{says_it}

-- a text is not there where what it is of is too long
none-there : (short : Bool) (x : List ℕ) → text_if short x ≡ None → short ≡ false
none-there true x e = absurd cc
none-there false x e = refl

-- a message that is too long is none
long-message : (bytes : List ℕ) → nat_le (length bytes) longest ≡ false → message_in bytes ≡ Err longest
unfolding message_in
long-message bytes long =
    let less : ltb longest (length bytes) ≡ true = lt-ltb longest (length bytes) (leb-false (length bytes) longest long) in
    ap (λ (b : Bool). cond b (Err longest) (whole message_at bytes)) less

pub told_of : (party : OwnerStanding) (order : OwnerOrder) (reply : OwnerReply) (later : OwnerStanding) → kept_text order ≡ None → order_row party order ≡ Ok (reply, later)
    → later ≡ party
told_of party (Take bytes) reply later none e =
    let long = long-message bytes (none-there (nat_le (length bytes) longest) (1 ∷ bytes) none) in
    let row : order_row party (Take bytes) ≡ Err (refusals.Owner (Form longest)) =
    ap (λ (m : Result Message ℕ). answered Sends party.certs (hearing party.stapling bytes) (with_error Form m >>= λ message. message_row party.owner message)) long in
    let never : ◌≡◌ {A = OrderAnswer} (Ok (reply, later)) (Err (refusals.Owner (Form longest))) = sym e ∙ row in
    absurd cc
told_of party (Begin cert asks) reply later none e =
    let long : nat_le (length asks) most_asks ≡ false = none-there (nat_le (length asks) most_asks) _ none in
    let row : order_row party (Begin cert asks) ≡ Err refusals.Long = ap (λ (b : Bool). need b refusals.Long >>= λ few. answered Sends (party.certs ++ cert ∷ []) party.stapling (begin_row party.owner cert asks)) long in
    let never : ◌≡◌ {A = OrderAnswer} (Ok (reply, later)) (Err refusals.Long) = sym e ∙ row in
    absurd cc
told_of party (Know cert) reply later none e = absurd cc
told_of party (Handover draft) reply later none e = absurd cc
told_of party (Attach draft handover) reply later none e =
    let long : nat_le (length handover) most_handover ≡ false = none-there (nat_le (length handover) most_handover) _ none in
    let row : order_row party (Attach draft handover) ≡ Err refusals.Long = ap (λ (b : Bool). need b refusals.Long >>= λ short. known_in party.certs draft >>= λ c. answered silent party.certs party.stapling (attach_row party.owner (digest_of c) handover)) long in
    let never : ◌≡◌ {A = OrderAnswer} (Ok (reply, later)) (Err refusals.Long) = sym e ∙ row in
    absurd cc
told_of party (Object draft) reply later none e = absurd cc
told_of party (Submit draft) reply later none e =
    let b = bind_ok (known_in party.certs draft) (λ cert. submitted party (submit_row party.owner (digest_of cert))) (reply, later) e in
    sent_stays party (submit_row party.owner (digest_of b.0)) reply later b.2
told_of party (Allow permit) reply later none e = absurd cc
told_of party (Disallow permit) reply later none e = absurd cc
told_of party (Staple permit confirmation) reply later none e = absurd cc
told_of party (Restaple s) reply later none e = absurd cc
told_of party Leaves reply later none e = sym (ap (λ (p : OwnerReply × OwnerStanding). p.1) (ok_is (silent tt, party) (reply, later) e))

-- ---- texts that are not taken

same-order : (a b : OwnerOrder) → Some a ≡ Some b → a ≡ b
same-order a b e = cc

-- a text that says nothing is not taken
pub none_taken : (party later : OwnerStanding) (text : List ℕ) (reply : OwnerReply) → kept_order text ≡ None → ¬ takes party text reply later
none_taken party later text reply none taken = let never : Some taken.order ≡ None = sym taken.says ∙ none in absurd cc

-- nor is one whose order is refused
pub refused_taken : (party later : OwnerStanding) (text : List ℕ) (reply : OwnerReply) (order : OwnerOrder) (refusal : OwnerOrderRefusal) → kept_order text ≡ Some order
    → (refusal ≡ refusals.Owner Memory) ⊎ (order_row party order ≡ Err refusal) → refusal ≢ refusals.Owner Memory → ¬ takes party text reply later
refused_taken party later text reply order refusal says how other taken =
    let same : taken.order ≡ order = same-order taken.order order (sym taken.says ∙ says) in
    let row : order_row party order ≡ Err refusal = ⊎_elim (λ memory. absurd (other memory)) (λ is. is) how in
    let never : ◌≡◌ {A = OrderAnswer} (Ok (reply, later)) (Err refusal) = sym taken.answer ∙ ap (order_row party) same ∙ row in
    absurd cc

-- what reading a text shows of it
pub said : (order : Option OwnerOrder) (x : OwnerOrder) → ok_or order Stuck ≡ Ok x → order ≡ Some x
said order x e = needed order Stuck x e

pub none_said : (order : Option OwnerOrder) (fault : ReplayFault) → (fault ≡ WantsMemory) ⊎ (ok_or order Stuck ≡ Err fault) → fault ≡ Stuck → order ≡ None
none_said None fault how stuck = refl
none_said (Some x) fault (inl memory) stuck = let never : WantsMemory ≡ Stuck = sym memory ∙ stuck in absurd cc
none_said (Some x) fault (inr e) stuck = absurd cc

-- ---- an order that was done

pub done_taken : (party later : OwnerStanding) (order : OwnerOrder) (reply : OwnerReply) (text : Option (List ℕ)) → IsWhole order → text ≡ kept_text order
    → order_row party order ≡ Ok (reply, later) → IfSome text (λ t. takes party t reply later × says party order t)
done_taken party later order reply None whole is row = tt
done_taken party later order reply (Some t) whole is row = (record { order = as_kept order; says = says_it order t whole (sym is); answer = kept_row party order reply later row }, sym is)

pub done_told : (party later : OwnerStanding) (order : OwnerOrder) (reply : OwnerReply) (text : Option (List ℕ)) → text ≡ kept_text order
    → order_row party order ≡ Ok (reply, later) → text ≡ None → (later ≡ party) × tells party order reply
done_told party later order reply text is row none =
    let kept : kept_text order ≡ None = sym is ∙ none in
    let same : later ≡ party = told_of party order reply later kept row in
    (same, (kept, subst (λ (p : OwnerStanding). order_row party order ≡ Ok (reply, p)) same row))
