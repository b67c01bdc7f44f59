-- What an honest authority of a run confirms is accepted, and stays among the messages.
use Rattle.std.proofs.Common.{◌≡◌, ◌∙◌, inl, inr, ℕ, List, [], ◌∷◌, ◌++◌, refl, sym, ap, subst, arith, Option, Some, Result, Ok}
use Rattle.std.specs.Prelude.{Contains, map}
use Rattle.std.proofs.lemmas.List.{map-append}
use Rattle.std.proofs.lemmas.List.Elements.{Contains-append_right}
use Rattle.std.proofs.lemmas.Option.{same_Some}
use Rattle.std.specs.Option.{option_map}
use Rattle.ar_base.proofs.Shown.{bind_ok, ok_is}
use Rattle.ar_base.specs.Bytes.{AreBytes}
use Rattle.ar_base.specs.Chaining.{need}
use Rattle.ar_cert.specs.Certificate.{Certificate, digest_of}
use Rattle.ar_message.proofs.MessageLaws.{only_messages}
use Rattle.ar_message.specs.Confirmation.{absent, present}
use Rattle.ar_message.specs.Filling.{letter_bytes, filled}
use Rattle.ar_message.specs.Messages.{IsMessage, message_in, shown_in}
use Rattle.ar_message.specs.Sending.{Letter}
use Rattle.ar_message.specs.declared.message.Confirming.{Confirming}
use Rattle.ar_message.specs.declared.message.Message.{Message}
use Rattle.ar_message.specs.declared.message.Message.TheVariants.{HalfConfirmed}
use Rattle.ar_message.specs.declared.unsigned.Unsigned.{Unsigned}
use Rattle.ar_world.proofs.ar_nodes.Bytes.{bytes_stay}
use Rattle.ar_world.specs.ar_nodes.Acting.{authority_delivered, authority_does, bytes_of, noted_in, pool_behind}
use Rattle.ar_world.specs.ar_nodes.Authorities.{authority_reply, node_behind}
use Rattle.ar_world.specs.ar_nodes.Parties.{AuthorityNode, CheckParts}
use Rattle.ar_world.specs.ar_nodes.Pool.{Pooled, in_bytes, numbered, pooled_from}
use Rattle.ar_world.specs.ar_nodes.declared.fault.WorldFault.TheVariants.{Order}
use Rattle.ar_safety.proofs.Rows.{row-absent, row-accepted, row-letter}
use Rattle.ar_safety.specs.Accepting.{IsWithRing, confirmer_of}
use Rattle.ar_statement.specs.Claims.{authority_party}
use Rattle.ar_statement.specs.declared.party.Party.{Party}
use Rattle.ar_world.specs.Delivering.{Taker, an_authority, can_deliver, deliver_line, delivery, taker_at}
use Rattle.ar_world.specs.Finding.{authority_at, message_at, room}
use Rattle.ar_world.specs.Founding.{led_to, may_come}
use Rattle.ar_world.specs.Run.{Saying, run}
use Rattle.ar_world.specs.State.{Moved, World}
use Rattle.ar_world.specs.Step.{event_effect, step}
use Rattle.ar_world.specs.declared.phase.Phase.TheVariants.{Running}
use Rattle.authority_core.specs.ConfirmRows.{half_confirmed_row}
use Rattle.authority_core.specs.Row.{message_row}
use Rattle.authority_core.specs.State.{AuthorityAnswer}
use Rattle.client_rule.specs.Rule.{Asked, judgement}
use Rattle.client_rule.specs.declared.judgement.Judgement.TheVariants.{Absent, Accepted}
use Rattle.hash_tree.specs.declared.bottom.Bottom.{Bottom}
use Rattle.key_roll.proofs.Rings.{at-place}
use Rattle.key_roll.specs.Ring.{ring_signature_len}
use Rattle.lms_tree.specs.KeyParts.{KeyParts}
use Rattle.owner_check.specs.declared.answer.Outcome.{Outcome}
use Rattle.script_text.specs.declared.line.EventLine.TheVariants as event
use Rattle.script_text.specs.declared.line.Line.TheVariants as line
use Rattle.run_safety.specs.Confirmed.{AsksForIt, ConfirmsToo}
use Rattle.run_safety.specs.Kept.{KeepsAuthority, KeepsWorld}
use Rattle.run_safety.specs.Passing.{Delivers, GoesThrough}
use Rattle.run_safety.specs.Unforged.{messages_of}
use Rattle.run_safety.proofs.KeptLines.{authority-at-kept}
use Rattle.run_safety.proofs.KeptPool.{message-bytes}
use Rattle.run_safety.proofs.Lasting.{Goes}
use Rattle.ar_world.proofs.Deliveries.{can-take}
use Rattle.run_safety.proofs.Passing.{delivered-goes-on, delivers-passing, passing-holds}
use Rattle.run_safety.proofs.SentBytes.{sent-bytes}
use Rattle.run_safety.proofs.Shown.{bytes-later}

-- an authority that is kept has its ring
pub with-ring : (node : AuthorityNode) → KeepsAuthority node → IsWithRing node.state node.keys
with-ring node kept = record {
  confirmer = record { honest = kept.state.honest; each = kept.book.many; known = kept.known };
  bytes = λ g key at. sym (at-place (λ (k : KeyParts). node.state.signature_len ≡ ring_signature_len k) node.keys g key kept.book.bytes at);
}

world-ring : (w : World) (number : ℕ) (node : AuthorityNode) → KeepsWorld w → authority_at w number ≡ Some node → IsWithRing node.state node.keys
world-ring w number node kept there = with-ring node (authority-at-kept w number node kept there)

passing-kept : (saying : Saying) (checks : List CheckParts) (input : List ℕ) (w : World) → GoesThrough saying checks input w → KeepsWorld w
passing-kept saying checks input w through = (passing-holds saying checks input w through).kept

pub passing-ring : (saying : Saying) (checks : List CheckParts) (input : List ℕ) (w : World) (number : ℕ) (node : AuthorityNode) → GoesThrough saying checks input w
    → authority_at w number ≡ Some node → IsWithRing node.state node.keys
passing-ring saying checks input w number node through there = world-ring w number node (passing-kept saying checks input w through) there

-- what it takes is a message
is-message : (w : World) (message number : ℕ) (node : AuthorityNode) (part : Confirming) (first_signature : List ℕ) (sent : Unsigned) → KeepsWorld w
    → ConfirmsToo w message number node part first_signature sent → IsMessage (HalfConfirmed part first_signature)
is-message w message number node part first_signature sent kept c =
    ((only_messages c.pooled.bytes (HalfConfirmed part first_signature) (message-bytes w.pool message c.pooled kept.each_message c.has)).0 c.reads).0

pub passing-accepted : (saying : Saying) (checks : List CheckParts) (input : List ℕ) (w : World) (message number : ℕ) (node : AuthorityNode) (part : Confirming) (first_signature : List ℕ) (sent : Unsigned)
    (asked : Asked) (certificate : Certificate) → GoesThrough saying checks input w → ConfirmsToo w message number node part first_signature sent → AsksForIt node part first_signature asked
    → shown_in part.body ≡ present certificate → judgement asked (letter_bytes (filled node.keys sent).messages 0) ≡ Accepted certificate (digest_of certificate) part.epoch part.root
passing-accepted saying checks input w message number node part first_signature sent asked certificate through c asks shown =
    let kept = passing-kept saying checks input w through in
    row-accepted node.state node.keys part first_signature c.later sent asked certificate (world-ring w number node kept c.there)
    (is-message w message number node part first_signature sent kept c) c.answers asks.keys asks.timely shown

pub passing-absent : (saying : Saying) (checks : List CheckParts) (input : List ℕ) (w : World) (message number : ℕ) (node : AuthorityNode) (part : Confirming) (first_signature : List ℕ) (sent : Unsigned)
    (asked : Asked) (bottom : Bottom) → GoesThrough saying checks input w → ConfirmsToo w message number node part first_signature sent → AsksForIt node part first_signature asked
    → shown_in part.body ≡ absent bottom → judgement asked (letter_bytes (filled node.keys sent).messages 0) ≡ Absent part.epoch part.root
passing-absent saying checks input w message number node part first_signature sent asked bottom through c asks shown =
    let kept = passing-kept saying checks input w through in
    row-absent node.state node.keys part first_signature c.later sent asked bottom (world-ring w number node kept c.there)
    (is-message w message number node part first_signature sent kept c) c.answers asks.keys asks.timely shown

-- what it sends is bytes
sent-are-bytes : (w : World) (message number : ℕ) (node : AuthorityNode) (part : Confirming) (first_signature : List ℕ) (sent : Unsigned) → KeepsWorld w
    → ConfirmsToo w message number node part first_signature sent → AreBytes (letter_bytes (filled node.keys sent).messages 0)
sent-are-bytes w message number node part first_signature sent kept c =
    let bytes = message-bytes w.pool message c.pooled kept.each_message c.has in
    let reads = (only_messages c.pooled.bytes (HalfConfirmed part first_signature) bytes).0 c.reads in
    let letter = row-letter node.state node.keys part first_signature c.later sent (world-ring w number node kept c.there) reads.0 c.answers in
    subst AreBytes (sym (ap (λ (ls : List Letter). letter_bytes ls 0) letter))
    (sent-bytes (confirmer_of node.state node.keys) part first_signature (subst AreBytes (sym reads.1.0) bytes))

-- ---- what a delivery of it sends

-- in a world the bytes are those of a message, as the pool has it
abbrev IsSent : World → AuthorityNode → Unsigned → Type 0
IsSent v node sent = Contains (messages_of v.pool) (in_bytes (letter_bytes (filled node.keys sent).messages 0))

-- a single letter enters the pool
sent-in : (pool : List Pooled) (who : Party) (letters : List Letter) (letter : Letter) → letters ≡ letter ∷ []
    → Contains (messages_of (pool ++ map (pooled_from who) letters)) (in_bytes (letter_bytes letters 0))
sent-in pool who letters letter is =
    subst (λ (ls : List Letter). Contains (messages_of (pool ++ map (pooled_from who) ls)) (in_bytes (letter_bytes ls 0))) (sym is)
    (subst (λ (all : List (List ℕ)). Contains all (in_bytes letter.bytes)) (sym (map-append (λ (p : Pooled). p.bytes) pool (pooled_from who letter ∷ [])))
    (Contains-append_right (messages_of pool) (in_bytes letter.bytes ∷ []) (in_bytes letter.bytes) (0, omega arith, refl)))

-- the authority's answer to it
reply-is : (says : Outcome) (node : AuthorityNode) (bytes : List ℕ) (part : Confirming) (first_signature : List ℕ) (answer : AuthorityAnswer)
    → message_in bytes ≡ Ok (HalfConfirmed part first_signature) → half_confirmed_row node.state part first_signature ≡ answer
    → authority_reply says node.state node.check (message_in bytes) ≡ answer
unfolding message_row
reply-is says node bytes part first_signature answer reads is = ap (λ (m : Result Message ℕ). authority_reply says node.state node.check m) reads ∙ is

-- the world that the delivery makes
delivery-sends : (says : Outcome) (w : World) (message number : ℕ) (node : AuthorityNode) (part : Confirming) (first_signature : List ℕ) (sent : Unsigned) → KeepsWorld w
    → ConfirmsToo w message number node part first_signature sent → IsSent (delivery says w message number (an_authority node)).0 node sent
unfolding authority_delivered
delivery-sends says w message number node part first_signature sent kept c =
    subst (λ (a : AuthorityAnswer). Contains (messages_of (pool_behind noted who (authority_does (node_behind node (message_in bytes) reply) a).1)) (in_bytes (letter_bytes (filled node.keys sent).messages 0)))
    (sym is) (sent-in noted who (filled node.keys sent).messages _ (row-letter node.state node.keys part first_signature c.later sent (world-ring w number node kept c.there)
    (is-message w message number node part first_signature sent kept c) c.answers))
  where
    who : Party
    who = authority_party number

    noted : List Pooled
    noted = noted_in w.pool message who

    bytes : List ℕ
    bytes = bytes_of (numbered w.pool message)

    reply : AuthorityAnswer
    reply = authority_reply says node.state node.check (message_in bytes)

    is : reply ≡ Ok (c.later, sent)
    is = reply-is says node bytes part first_signature (Ok (c.later, sent)) (ap (λ (o : Option Pooled). message_in (bytes_of o)) c.has ∙ c.reads) c.answers

deliver-sends : (says : Outcome) (w : World) (message number : ℕ) (node : AuthorityNode) (part : Confirming) (first_signature : List ℕ) (sent : Unsigned) (made : Moved) → KeepsWorld w
    → ConfirmsToo w message number node part first_signature sent → deliver_line says w message (authority_party number) ≡ Ok made → IsSent made.0 node sent
deliver-sends says w message number node part first_signature sent made kept c makes =
    let who = authority_party number in
    let b = bind_ok (can_deliver w message who) (λ taker. Ok (delivery says w message number taker)) made makes in
    let parts = can-take (message_at w message) (taker_at w who) (room w) b.0 b.1 in
    let same : an_authority node ≡ b.0 = same_Some (an_authority node) b.0 (sym (ap (λ (o : Option AuthorityNode). option_map an_authority o) c.there) ∙ parts.1) in
    subst (λ (m : Moved). IsSent m.0 node sent) (ok_is (delivery says w message number b.0) made b.2)
    (subst (λ (t : Taker). IsSent (delivery says w message number t).0 node sent) same (delivery-sends says w message number node part first_signature sent kept c))

-- the same of a line
step-sends : (says : Outcome) (w : World) (message number : ℕ) (node : AuthorityNode) (part : Confirming) (first_signature : List ℕ) (sent : Unsigned) (made : Moved) → KeepsWorld w
    → ConfirmsToo w message number node part first_signature sent → step says w (line.Event (event.Deliver message (authority_party number))) ≡ Ok made → IsSent made.0 node sent
unfolding event_effect
step-sends says w message number node part first_signature sent made kept c makes =
    let delivers = deliver_line says w message (authority_party number) in
    let comes = bind_ok (need (may_come w.phase Running) Order) (λ u. led_to Running delivers) made makes in
    let led = bind_ok delivers (λ (m : Moved). Ok (record m.0 { phase = Running }, m.1)) made comes.2 in
    subst (λ (m : Moved). IsSent m.0 node sent) (ok_is (record led.0.0 { phase = Running }, led.0.1) made led.2)
    (deliver-sends says w message number node part first_signature sent led.0 kept c led.1)

made-sends : (saying : Saying) (checks : List CheckParts) (input : List ℕ) (w : World) (message number : ℕ) (node : AuthorityNode) (part : Confirming) (first_signature : List ℕ) (sent : Unsigned) (made : Moved)
    → KeepsWorld w → ConfirmsToo w message number node part first_signature sent → Delivers saying checks input w message (authority_party number) made → IsSent made.0 node sent
made-sends saying checks input w message number node part first_signature sent made kept c (inl d) =
    step-sends (saying d.number 0) w message number node part first_signature sent made kept c d.makes
made-sends saying checks input w message number node part first_signature sent made kept c (inr d) =
    deliver-sends (saying d.number d.before) w message number node part first_signature sent made kept c d.makes

-- what is sent so stands among the messages at the end
pub confirmed-stays : (saying : Saying) (checks : List CheckParts) (input : List ℕ) (w : World) (message number : ℕ) (node : AuthorityNode) (part : Confirming) (first_signature : List ℕ) (sent : Unsigned) (made : Moved)
    → Delivers saying checks input w message (authority_party number) made → ConfirmsToo w message number node part first_signature sent
    → Contains (messages_of (run saying checks input).world.pool) (letter_bytes (filled node.keys sent).messages 0)
confirmed-stays saying checks input w message number node part first_signature sent made d c =
    let kept = passing-kept saying checks input w (delivers-passing saying checks input w message (authority_party number) made d) in
    let goes : Goes made.0 (run saying checks input).world = delivered-goes-on saying checks input w message (authority_party number) made d in
    subst (Contains (messages_of (run saying checks input).world.pool)) (bytes_stay (letter_bytes (filled node.keys sent).messages 0) (sent-are-bytes w message number node part first_signature sent kept c))
    (bytes-later made.0 (run saying checks input).world (in_bytes (letter_bytes (filled node.keys sent).messages 0)) goes.later.messages
    (made-sends saying checks input w message number node part first_signature sent made kept c d))
