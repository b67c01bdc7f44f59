-- What a line makes of a world, as far as parties, clients and messages go: each honest party makes a step, clients learn or
-- accept, and messages only enter.
use Rattle.std.proofs.Common.{ℕ, ◌≡◌, ◌≢◌, ◌∙◌, ◌⊎◌, inl, inr, zero, suc, ◌<◌, List, [], ◌∷◌, ◌++◌, All, length, refl, sym, ap, subst, arith, true, false, eqb, Option, Some, None, Ok, Err, is_none}
use Rattle.std.specs.Prelude.{Contains, flat_map, get_or, map, slice_get, slice_set}
use Rattle.std.specs.Option.{option_map}
use Rattle.std.proofs.lemmas.Bool.Decides.{eqb_tells}
use Rattle.std.proofs.lemmas.List.{map-append}
use Rattle.std.proofs.lemmas.List.Elements.{Contains-append_left, Contains-append_right}
use Rattle.std.proofs.lemmas.Option.{same_Some}
use Rattle.ar_base.proofs.Prefixes.{begins_itself}
use Rattle.ar_base.specs.Prefixes.{BeginsWith}
use Rattle.ar_claims.specs.Claimed.{claimed_in_bytes}
use Rattle.ar_claims.specs.Verified.{IsVerifiedIn}
use Rattle.ar_message.specs.Filling.{filled}
use Rattle.ar_message.specs.declared.unsigned.Unsigned.{Unsigned}
use Rattle.ar_world.specs.ar_nodes.Acting.{pool_behind, delivered_by, with_delivered}
use Rattle.ar_world.specs.ar_nodes.Authorities.{authority_reply, node_behind, says_to}
use Rattle.ar_world.specs.ar_nodes.Codes.{authority_code, log_code}
use Rattle.ar_world.specs.ar_nodes.Finding.{honest_in}
use Rattle.ar_world.specs.ar_nodes.Pool.{pooled_from}
use Rattle.ar_statement.specs.Claims.{party}
use Rattle.ar_statement.specs.declared.text.SeenText.{SeenText}
use Rattle.authority_core.specs.Row.{asked_in}
use Rattle.authority_core.specs.State as authority_state
use Rattle.ar_world.specs.log_core.Claimed.{claims_of}
use Rattle.party_keys.specs.Learning.{after_adopting}
use Rattle.party_keys.specs.Signers.{Claimed}
use Rattle.run_safety.proofs.AuthoritySteps.{roll-steps, state_parts, took-steps}
use Rattle.run_safety.proofs.LogSteps.{core_parts, input-teaches, log-steps, rolling-adopts}
use Rattle.run_safety.proofs.PartySteps.{Adopts, Learns, Steps, get-last, learns-more, still-steps}
use Rattle.ar_world.proofs.ar_nodes.Spots.{honest-below, put-beside, put-there}
use Rattle.run_safety.specs.Own.{PartyParts}
use Rattle.run_safety.specs.Unforged.{authority_parts, log_parts, messages_of, parts_in, shown}
use Rattle.ar_message.specs.Messages.{message_in}
use Rattle.ar_message.specs.declared.sent.Sent.{Sent}
use Rattle.ar_world.specs.ar_nodes.Acting.{Reply, acted, authority_delivered, authority_does, authority_rolled, authority_turned, bytes_of, log_delivered, log_does, log_obeyed, log_rolled, noted_in, owner_delivered, owner_does}
use Rattle.ar_world.specs.ar_nodes.Parties.{AuthorityNode, CheckParts, LogNode}
use Rattle.ar_world.specs.ar_nodes.Pool.{Pooled, numbered}
use Rattle.ar_world.specs.ar_nodes.declared.event.LogEvent.{LogEvent}
use Rattle.ar_world.specs.ar_nodes.declared.event.LogEvent.TheVariants as events
use Rattle.ar_safety.specs.Held.{AcceptedBytes}
use Rattle.ar_statement.specs.Claims.{authority_party, log_party, owner_party}
use Rattle.ar_statement.specs.declared.party.Party.{Party}
use Rattle.ar_statement.specs.declared.party.Role.{Role}
use Rattle.ar_statement.specs.declared.party.Role.TheVariants as role
use Rattle.ar_world.specs.Finding.{authority_at, log_at, message_at}
use Rattle.ar_world.specs.Sending.{authority_made, log_made, owner_made, posted}
use Rattle.ar_world.specs.State.{World, with_authority, with_log}
use Rattle.authority_core.specs.RollRows.{roll_row}
use Rattle.lms_tree.specs.Key.{public_of}
use Rattle.lms_tree.specs.KeyParts.{KeyParts}
use Rattle.ar_world.specs.log_core.Keyed.{IsPlain}
use Rattle.ar_world.specs.log_core.Row.{IsLogInput, row}
use Rattle.ar_world.specs.log_core.State as log_state
use Rattle.owner_check.specs.declared.answer.Outcome.{Outcome}
use Rattle.owner_core.specs.Rows.{step_row}
use Rattle.owner_core.specs.State.{Owner}
use Rattle.report_text.specs.declared.happening.What.{What}
use Rattle.report_text.specs.declared.happening.What.TheVariants as whats
use Rattle.run_safety.specs.Kept.{KeepsAuthority, KeepsLog}
use Rattle.run_safety.proofs.KeptPool.{IsBytes, delivered-bytes}

-- ---- what a world becomes

-- an honest party of a world was one before, and made a step
pub record CameFrom (w : World) (r : Role) (number : ℕ) (new : PartyParts) : Type 0 where
  pub old : PartyParts
  pub there : parts_in w r number ≡ Some old
  pub step : Steps (party r number) (shown w) old new

pub record Moves (w v : World) : Type 0 where
  pub messages : BeginsWith (messages_of v.pool) (messages_of w.pool)
  pub genesis : v.genesis ≡ w.genesis
  pub clients : (v.clients ≡ w.clients) ⊎ Learns (shown w) w.clients v.clients
  pub learned : (t : SeenText) → Contains v.learned t → Contains w.learned t ⊎ IsVerifiedIn w.clients (shown w) t
  pub judged : (t : AcceptedBytes) → Contains v.judged t → Contains w.judged t ⊎ Contains (messages_of w.pool) t.bytes
  pub parties : (r : Role) (number : ℕ) (new : PartyParts) → parts_in v r number ≡ Some new → CameFrom w r number new

pub still-there : (w : World) (r : Role) (number : ℕ) (p : PartyParts) → parts_in w r number ≡ Some p → CameFrom w r number p
still-there w r number p is = record { old = p; there = is; step = still-steps (party r number) (shown w) p }

-- clients know and hold what they did
pub moves-with : (w v : World) → BeginsWith (messages_of v.pool) (messages_of w.pool) → v.genesis ≡ w.genesis → v.clients ≡ w.clients → v.learned ≡ w.learned → v.judged ≡ w.judged
    → ((r : Role) (number : ℕ) (new : PartyParts) → parts_in v r number ≡ Some new → CameFrom w r number new) → Moves w v
moves-with w v messages genesis clients learned judged parties = record {
  messages = messages;
  genesis = genesis;
  clients = inl clients;
  learned = λ t there. inl (subst (λ (seen : List SeenText). Contains seen t) learned there);
  judged = λ t there. inl (subst (λ (taken : List AcceptedBytes). Contains taken t) judged there);
  parties = parties;
}

-- the same parties are there
pub same-parts : (w v : World) → v.logs ≡ w.logs → v.authorities ≡ w.authorities → (r : Role) (number : ℕ) → parts_in v r number ≡ parts_in w r number
same-parts w v logs authorities role.LogServer number = ap (λ (xs : List (Option LogNode)). option_map log_parts (honest_in xs number)) logs
same-parts w v logs authorities role.Authority number = ap (λ (xs : List (Option AuthorityNode)). option_map authority_parts (honest_in xs number)) authorities
same-parts w v logs authorities role.Owner number = refl
same-parts w v logs authorities role.Client number = refl

-- messages enter, and nothing else is told
enter-moves : (w v : World) → BeginsWith (messages_of v.pool) (messages_of w.pool) → v.genesis ≡ w.genesis → v.clients ≡ w.clients → v.learned ≡ w.learned → v.judged ≡ w.judged
    → v.logs ≡ w.logs → v.authorities ≡ w.authorities → Moves w v
enter-moves w v messages genesis clients learned judged logs authorities =
    moves-with w v messages genesis clients learned judged (λ r number new is. still-there w r number new (sym (same-parts w v logs authorities r number) ∙ is))

-- nothing that is told changes
pub quiet-moves : (w v : World) → v.pool ≡ w.pool → v.genesis ≡ w.genesis → v.clients ≡ w.clients → v.learned ≡ w.learned → v.judged ≡ w.judged → v.logs ≡ w.logs → v.authorities ≡ w.authorities → Moves w v
quiet-moves w v pool genesis clients learned judged logs authorities =
    enter-moves w v (subst (λ (p : List Pooled). BeginsWith (messages_of p) (messages_of w.pool)) (sym pool) (begins_itself (messages_of w.pool))) genesis clients learned judged logs authorities

-- ---- the pool

-- messages behind it
pub more-messages : (pool more : List Pooled) → BeginsWith (messages_of (pool ++ more)) (messages_of pool)
more-messages pool more = (messages_of more, map-append (λ (p : Pooled). p.bytes) pool more)

reply-messages : (before pool : List Pooled) (who : Party) (reply : Reply) → messages_of pool ≡ messages_of before → BeginsWith (messages_of (pool_behind pool who reply)) (messages_of before)
reply-messages before pool who (Ok sent) same =
    subst (λ (m : List (List ℕ)). BeginsWith (messages_of (pool ++ map (pooled_from who) sent.messages)) m) same (more-messages pool (map (pooled_from who) sent.messages))
reply-messages before pool who (Err code) same = subst (λ (m : List (List ℕ)). BeginsWith (messages_of pool) m) same (begins_itself (messages_of pool))

-- a note on one keeps the bytes
set-alike : (pool : List Pooled) (place : ℕ) (old new : Pooled) → slice_get pool place ≡ Some old → new.bytes ≡ old.bytes → messages_of (slice_set pool place new) ≡ messages_of pool
set-alike [] place old new is same = absurd cc
set-alike (p ∷ pool) zero old new is same =
    ap (λ (b : List ℕ). b ∷ messages_of pool) (same ∙ ap (λ (x : Pooled). x.bytes) (sym (same_Some p old is)))
set-alike (p ∷ pool) (suc place) old new is same = ap (λ (bs : List (List ℕ)). p.bytes ∷ bs) (set-alike pool place old new is same)

noted-messages : (pool : List Pooled) (number : ℕ) (who : Party) → messages_of (noted_in pool number who) ≡ messages_of pool
noted-messages pool number who = by number (numbered pool number) (delivered_by who (numbered pool number)) refl
  where
    by : (n : ℕ) (o : Option Pooled) (delivered : List Party) → numbered pool n ≡ o → messages_of (with_delivered pool n o delivered) ≡ messages_of pool
    by n None delivered is = refl
    by zero (Some p) delivered is = refl
    by (suc place) (Some p) delivered is = set-alike pool place p (record p { delivered = delivered }) is refl

-- a message of the pool is one of its messages
at-messages : (pool : List Pooled) (place : ℕ) (p : Pooled) → slice_get pool place ≡ Some p → Contains (messages_of pool) p.bytes
at-messages [] place p is = absurd cc
at-messages (x ∷ pool) zero p is = (0, omega arith, ap (λ (y : Pooled). y.bytes) (same_Some x p is))
at-messages (x ∷ pool) (suc place) p is = let r = at-messages pool place p is in (suc r.0, omega (arith, r.1), r.2)

pub numbered-messages : (pool : List Pooled) (number : ℕ) (p : Pooled) → numbered pool number ≡ Some p → Contains (messages_of pool) p.bytes
numbered-messages pool zero p is = absurd cc
numbered-messages pool (suc place) p is = at-messages pool place p is

-- the claims of one of some lists are among those of all
pub claims-within : (lists : List (List ℕ)) (bytes : List ℕ) → Contains lists bytes → (c : Claimed) → Contains (claimed_in_bytes bytes) c → Contains (flat_map claimed_in_bytes lists) c
claims-within lists bytes there c has = at lists there.0 there.1 there.2
  where
    at : (lists : List (List ℕ)) (k : ℕ) → k < length lists → get_or lists k bytes ≡ bytes → Contains (flat_map claimed_in_bytes lists) c
    at [] k less same = absurd (omega (arith, less))
    at (x ∷ more) zero less same =
        Contains-append_left (claimed_in_bytes x) (flat_map claimed_in_bytes more) c (subst (λ (b : List ℕ). Contains (claimed_in_bytes b) c) (sym same) has)
    at (x ∷ more) (suc k) less same =
        Contains-append_right (claimed_in_bytes x) (flat_map claimed_in_bytes more) c (at more k (omega (arith, less)) same)

pub shown-within : (w : World) (number : ℕ) (p : Pooled) → numbered w.pool number ≡ Some p → (c : Claimed) → Contains (claimed_in_bytes p.bytes) c → Contains (shown w) c
shown-within w number p is = claims-within (messages_of w.pool) p.bytes (numbered-messages w.pool number p is)

-- ---- a party in its place

-- whether two places are one
abbrev Tells : ℕ → ℕ → Type 0
Tells m n = ((eqb m n ≡ true) × (m ≡ n)) ⊎ ((eqb m n ≡ false) × (m ≢ n))

-- what stands in a list in which one was put
put-parts : {X : Type 0} (parts : X → PartyParts) (xs : List (Option X)) (n m : ℕ) (was is : X) (p : PartyParts) → honest_in xs n ≡ Some was
    → option_map parts (honest_in (slice_set xs n (Some is)) m) ≡ Some p → ((m ≡ n) × (parts is ≡ p)) ⊎ (option_map parts (honest_in xs m) ≡ Some p)
put-parts {X} parts xs n m was is p there gives = at (eqb_tells m n)
  where
    at : Tells m n → ((m ≡ n) × (parts is ≡ p)) ⊎ (option_map parts (honest_in xs m) ≡ Some p)
    at (inl same) =
        let e : option_map parts (Some is) ≡ Some p =
        ap (option_map parts) (sym (ap (honest_in (slice_set xs n (Some is))) same.1 ∙ put-there xs n (Some is) (honest-below xs n was there))) ∙ gives in
        inl (same.1, same_Some (parts is) p e)
    at (inr other) = inr (ap (option_map parts) (sym (put-beside xs n m (Some is) other.1)) ∙ gives)

came-at : (w : World) (r : Role) (n m : ℕ) (old new p : PartyParts) → parts_in w r n ≡ Some old → Steps (party r n) (shown w) old new → m ≡ n → new ≡ p → CameFrom w r m p
came-at w r n m old new p there step same is =
    subst (λ (k : ℕ). CameFrom w r k p) (sym same) (subst (CameFrom w r n) is (record { old = old; there = there; step = step }))

log-put : (w : World) (number : ℕ) (node new : LogNode) (pool : List Pooled) → log_at w number ≡ Some node → BeginsWith (messages_of pool) (messages_of w.pool)
    → Steps (log_party number) (shown w) (log_parts node) (log_parts new) → Moves w (record (with_log w number new) { pool = pool })
log-put w number node new pool there messages step = moves-with w _ messages refl refl refl refl by
  where
    by : (r : Role) (m : ℕ) (p : PartyParts) → parts_in (record (with_log w number new) { pool = pool }) r m ≡ Some p → CameFrom w r m p
    by role.LogServer m p is = elim (put-parts log_parts w.logs number m node new p there is) [
      | inl here ↦ came-at w role.LogServer number m (log_parts node) (log_parts new) p (ap (option_map log_parts) there) step here.0 here.1
      | inr other ↦ still-there w role.LogServer m p other
    ]
    by role.Authority m p is = still-there w role.Authority m p is
    by role.Owner m p is = absurd cc
    by role.Client m p is = absurd cc

authority-put : (w : World) (number : ℕ) (node new : AuthorityNode) (pool : List Pooled) → authority_at w number ≡ Some node → BeginsWith (messages_of pool) (messages_of w.pool)
    → Steps (authority_party number) (shown w) (authority_parts node) (authority_parts new) → Moves w (record (with_authority w number new) { pool = pool })
authority-put w number node new pool there messages step = moves-with w _ messages refl refl refl refl by
  where
    by : (r : Role) (m : ℕ) (p : PartyParts) → parts_in (record (with_authority w number new) { pool = pool }) r m ≡ Some p → CameFrom w r m p
    by role.LogServer m p is = still-there w role.LogServer m p is
    by role.Authority m p is = elim (put-parts authority_parts w.authorities number m node new p there is) [
      | inl here ↦ came-at w role.Authority number m (authority_parts node) (authority_parts new) p (ap (option_map authority_parts) there) step here.0 here.1
      | inr other ↦ still-there w role.Authority m p other
    ]
    by role.Owner m p is = absurd cc
    by role.Client m p is = absurd cc

-- ---- steps of logs

pub no-claims : (w : World) (c : Claimed) → Contains [] c → Contains (shown w) c
no-claims w c has = absurd (omega (arith, has.1))

-- what a log does
abbrev pub LogTakes : World → log_state.Input → Type 0
LogTakes w input = (c : Claimed) → Contains (claims_of input) c → Contains (shown w) c

log-answer-moves : (w : World) (number : ℕ) (pool : List Pooled) (what : What) (node : LogNode) (keys : List KeyParts) (event : LogEvent) (a : log_state.LogAnswer) → log_at w number ≡ Some node
    → messages_of pool ≡ messages_of w.pool
    → ((reply : log_state.LogStep) → a ≡ Ok reply → Steps (log_party number) (shown w) (core_parts node.core node.keys) (core_parts reply.after keys))
    → Moves w (log_made w number (acted pool (log_party number) what (log_does node keys event a))).0
log-answer-moves w number pool what node keys event (Ok reply) there same steps =
    log-put w number node (record { core = reply.after; keys = keys; taken = node.taken ++ event ∷ [] }) (pool_behind pool (log_party number) (Ok (filled keys reply.unsigned))) there
    (reply-messages w.pool pool (log_party number) (Ok (filled keys reply.unsigned)) same) (steps reply refl)
log-answer-moves w number pool what node keys event (Err refusal) there same steps =
    log-put w number node node pool there (reply-messages w.pool pool (log_party number) (Err (log_code refusal)) same) (still-steps (log_party number) (shown w) (log_parts node))

pub obeyed-moves : (w : World) (number : ℕ) (pool : List Pooled) (what : What) (event : LogEvent) (input : log_state.Input) (node : LogNode) → node.core.log.me ≡ number → log_at w number ≡ Some node
    → messages_of pool ≡ messages_of w.pool → IsLogInput input → IsPlain input → LogTakes w input → Moves w (log_made w number (log_obeyed pool number what event input node)).0
unfolding log_obeyed
obeyed-moves w number pool what event input node me there same is plain takes =
    log-answer-moves w number pool what node node.keys event (row node.core input) there same (λ reply at.
    log-steps number (shown w) node.core node.keys node.keys input reply me at (begins_itself node.keys) takes
    (knows reply (input-teaches node.core input reply is plain at)))
  where
    knows : (reply : log_state.LogStep) → (reply.after.keys ≡ node.core.keys) ⊎ Learns (claims_of input) node.core.keys reply.after.keys
        → (reply.after.keys ≡ node.core.keys) ⊎ (Learns (shown w) node.core.keys reply.after.keys ⊎ Adopts (log_party number) node.core.keys (core_parts reply.after node.keys))
    knows reply (inl same) = inl same
    knows reply (inr l) = inr (inl (learns-more (claims_of input) (shown w) node.core.keys reply.after.keys takes l))

pub log-delivered-moves : (w : World) (message number : ℕ) (p : Pooled) (node : LogNode) → All IsBytes w.pool → node.core.log.me ≡ number → log_at w number ≡ Some node → message_at w message ≡ Some p
    → Moves w (log_made w number (log_delivered w.pool message number node)).0
unfolding log_delivered log_obeyed
log-delivered-moves w message number p node bytes me there has =
    obeyed-moves w number (noted_in w.pool message (log_party number)) (whats.Take message) (events.Take message) (log_state.takes (bytes_of (numbered w.pool message))) node me there
    (noted-messages w.pool message (log_party number)) (delivered-bytes w.pool message bytes) tt
    (λ c its. shown-within w message p has c (subst (λ (o : Option Pooled). Contains (claimed_in_bytes (bytes_of o)) c) has its))

pub log-rolled-moves : (w : World) (number : ℕ) (next : KeyParts) (node : LogNode) → KeepsLog node → node.core.log.me ≡ number → log_at w number ≡ Some node
    → Moves w (log_made w number (log_rolled w.pool number next node)).0
unfolding log_rolled
log-rolled-moves w number next node kept me there =
    log-answer-moves w number w.pool whats.Roll node (node.keys ++ next ∷ []) events.Roll (row node.core (log_state.rolls (public_of next))) there refl (λ reply at.
    log-steps number (shown w) node.core node.keys (node.keys ++ next ∷ []) (log_state.rolls (public_of next)) reply me at (next ∷ [], refl) (no-claims w) (inr (inr (record {
      generation = node.core.log.past.signed.newest;
      key = next;
      there = ap (slice_get (node.keys ++ next ∷ [])) (sym kept.book.many) ∙ get-last node.keys next;
      is = rolling-adopts node.core (public_of next) reply at ∙ ap (λ n. after_adopting node.core.keys (log_party n) node.core.log.past.signed.newest (public_of next)) me;
    }))))

-- ---- steps of authorities

authority-answer-moves : (w : World) (number : ℕ) (pool : List Pooled) (what : What) (was node : AuthorityNode) (a : authority_state.AuthorityAnswer) → authority_at w number ≡ Some was
    → messages_of pool ≡ messages_of w.pool → authority_parts node ≡ authority_parts was
    → ((later : authority_state.AuthorityState) (sent : Unsigned) → a ≡ Ok (later, sent) → Steps (authority_party number) (shown w) (authority_parts was) (state_parts later node.keys))
    → Moves w (authority_made w number (acted pool (authority_party number) what (authority_does node a))).0
authority-answer-moves w number pool what was node (Ok answer) there same alike steps =
    authority-put w number was (record node { state = answer.0 }) (pool_behind pool (authority_party number) (Ok (filled node.keys answer.1))) there
    (reply-messages w.pool pool (authority_party number) (Ok (filled node.keys answer.1)) same) (steps answer.0 answer.1 refl)
authority-answer-moves w number pool what was node (Err refusal) there same alike steps =
    authority-put w number was node pool there (reply-messages w.pool pool (authority_party number) (Err (authority_code refusal)) same)
    (subst (Steps (authority_party number) (shown w) (authority_parts was)) (sym alike) (still-steps (authority_party number) (shown w) (authority_parts was)))

pub authority-delivered-moves : (says : Outcome) (w : World) (message number : ℕ) (p : Pooled) (node : AuthorityNode) → All IsBytes w.pool → authority_at w number ≡ Some node → message_at w message ≡ Some p
    → Moves w (authority_made w number (authority_delivered says w.pool message number node)).0
unfolding authority_delivered
authority-delivered-moves says w message number p node bytes there has =
    let taken : List ℕ = bytes_of (numbered w.pool message) in
    let m = message_in taken in
    let a = authority_reply says node.state node.check m in
    authority-answer-moves w number (noted_in w.pool message (authority_party number)) (whats.Take message) node (node_behind node m a) a there
    (noted-messages w.pool message (authority_party number)) refl (λ later sent at.
    took-steps number (shown w) node.state node.keys (is_none node.check) taken (says_to says node.check (asked_in m)) later sent (delivered-bytes w.pool message bytes) at
    (λ c its. shown-within w message p has c (subst (λ (o : Option Pooled). Contains (claimed_in_bytes (bytes_of o)) c) has its)))

turned-moves : (w : World) (number : ℕ) (next : KeyParts) (node : AuthorityNode) (a : authority_state.AuthorityAnswer) → authority_at w number ≡ Some node
    → ((later : authority_state.AuthorityState) (sent : Unsigned) → a ≡ Ok (later, sent)
    → Steps (authority_party number) (shown w) (authority_parts node) (state_parts later (node.keys ++ next ∷ [])))
    → Moves w (authority_made w number (acted w.pool (authority_party number) whats.Roll (authority_turned node next a))).0
turned-moves w number next node (Ok answer) there steps =
    authority-put w number node (record node { state = answer.0; keys = node.keys ++ next ∷ [] })
    (pool_behind w.pool (authority_party number) (Ok (filled (node.keys ++ next ∷ []) answer.1))) there
    (reply-messages w.pool w.pool (authority_party number) (Ok (filled (node.keys ++ next ∷ []) answer.1)) refl) (steps answer.0 answer.1 refl)
turned-moves w number next node (Err refusal) there steps =
    authority-put w number node node w.pool there (reply-messages w.pool w.pool (authority_party number) (Err (authority_code refusal)) refl)
    (still-steps (authority_party number) (shown w) (authority_parts node))

pub authority-rolled-moves : (w : World) (number : ℕ) (next : KeyParts) (node : AuthorityNode) → KeepsAuthority node → node.state.me ≡ number → authority_at w number ≡ Some node
    → Moves w (authority_made w number (authority_rolled w.pool number next node)).0
unfolding authority_rolled
authority-rolled-moves w number next node kept me there =
    turned-moves w number next node (roll_row node.state (public_of next)) there (λ later sent at.
    roll-steps number (shown w) node.state node.keys next later sent me kept.book.many at)

-- a check tells or drops something
pub check-moves : (w : World) (number : ℕ) (node : AuthorityNode) (check : Option CheckParts) → authority_at w number ≡ Some node → Moves w (with_authority w number (record node { check = check }))
check-moves w number node check there =
    authority-put w number node (record node { check = check }) w.pool there (begins_itself (messages_of w.pool)) (still-steps (authority_party number) (shown w) (authority_parts node))

-- ---- owners and clients that send

pub owner-made-moves : (w : World) (pool : List Pooled) (number : ℕ) (what : What) (made : Owner × Reply) → messages_of pool ≡ messages_of w.pool
    → Moves w (owner_made w (acted pool (owner_party number) what made)).0
owner-made-moves w pool number what made same =
    enter-moves w _ (reply-messages w.pool pool (owner_party number) made.1 same) refl refl refl refl refl refl

pub owner-delivered-moves : (w : World) (message number : ℕ) (me : Owner) → Moves w (owner_made w (owner_delivered w.pool message number me)).0
unfolding owner_delivered
owner-delivered-moves w message number me =
    owner-made-moves w (noted_in w.pool message (owner_party number)) number (whats.Take message) (owner_does me (step_row me (bytes_of (numbered w.pool message)))) (noted-messages w.pool message (owner_party number))

pub posted-moves : (w v : World) (who : Party) (sent : Sent) → v.pool ≡ w.pool → v.genesis ≡ w.genesis → v.clients ≡ w.clients → v.learned ≡ w.learned → v.judged ≡ w.judged → v.logs ≡ w.logs
    → v.authorities ≡ w.authorities → Moves w (posted v who sent).0
posted-moves w v who sent pool genesis clients learned judged logs authorities =
    enter-moves w _ (subst (λ (p : List Pooled). BeginsWith (messages_of (p ++ map (pooled_from who) sent.messages)) (messages_of w.pool)) (sym pool)
    (more-messages w.pool (map (pooled_from who) sent.messages))) genesis clients learned judged logs authorities

pub raw-moves : (w v : World) (message : Pooled) → v.pool ≡ w.pool ++ message ∷ [] → v.genesis ≡ w.genesis → v.clients ≡ w.clients → v.learned ≡ w.learned → v.judged ≡ w.judged → v.logs ≡ w.logs
    → v.authorities ≡ w.authorities → Moves w v
raw-moves w v message pool genesis clients learned judged logs authorities =
    enter-moves w v (subst (λ (p : List Pooled). BeginsWith (messages_of p) (messages_of w.pool)) (sym pool) (more-messages w.pool (message ∷ []))) genesis clients learned judged logs authorities
