-- The turns of one party: what they make of a world is what its replies make of it once it stands behind all of them.
use Rattle.std.proofs.Common.{◌≡◌, ◌∙◌, ℕ, zero, suc, List, [], ◌∷◌, ◌++◌, map, Option, Some, None, Ok, Err, refl, sym, ap, subst}
use Rattle.std.specs.Prelude.{is_some, slice_get, slice_set, true, unwrap_or}
use Rattle.std.specs.List.{AllByRecursion}
use Rattle.std.specs.Option.{option_map}
use Rattle.std.proofs.lemmas.List.{set-set}
use Rattle.ar_message.specs.Filling.{filled}
use Rattle.ar_message.specs.Messages.{message_in}
use Rattle.ar_nodes.specs.Acting.{Reply, authority_does, bytes_of, log_answers, logs_with, settled_in, with_taken}
use Rattle.ar_nodes.specs.Authorities.{authority_reply, check_after}
use Rattle.ar_nodes.specs.Finding.{honest_in}
use Rattle.ar_nodes.specs.Parties.{AuthorityNode, CheckParts, LogNode}
use Rattle.ar_nodes.specs.Pool.{Pooled, numbered}
use Rattle.ar_nodes.proofs.Spots.{honest-below, put-there}
use Rattle.ar_statement.specs.Claims.{authority_party, log_party}
use Rattle.ar_statement.specs.declared.party.Party.{Party}
use Rattle.ar_world.specs.Delivering as takers
use Rattle.ar_world.specs.Delivering.{Taker, delivery}
use Rattle.ar_world.specs.Finding.{authority_at, log_at, message_at}
use Rattle.ar_world.specs.Printed.{TellsPool, as_it_came}
use Rattle.ar_world.specs.Settling.{authority_settled, log_settled, settled}
use Rattle.ar_world.specs.State.{Moved, World, printing, silent, with_authority, with_log}
use Rattle.ar_world.proofs.Lines.{delivery-tells}
use Rattle.ar_world.proofs.Settling.{authority_delivery_settled, log_delivery_settled}
use Rattle.authority_core.specs.State as authority
use Rattle.log_core.specs.Row.{row}
use Rattle.log_core.specs.State as log
use Rattle.log_core.specs.State.{takes}
use Rattle.node_core.specs.History.{replies, state_after}
use Rattle.owner_check.specs.declared.answer.Outcome.{Outcome}
use Rattle.owner_check.specs.declared.answer.Outcome.TheVariants.{No}
use Rattle.report_text.specs.declared.happening.Happening.{Happening}
use Rattle.station.specs.Kept.{signed_reply}
use Rattle.station.specs.Station.{StationState, a_log, an_authority, authority_replied, log_replied, replied_at}
use Rattle.station.specs.declared.delivery.Delivery.{Delivery}
use Rattle.burst_run.specs.Bursts.{delivery_if, station_at, turn_taken, turns_taken}
use Rattle.burst_run.specs.Laying.{each_settled, turn_for}
use Rattle.burst_run.specs.Stations.{Deliveries}
use Rattle.burst_run.specs.Visiting.{IsOwnCall}

-- ---- messages stay

-- each message is there later too, with its bytes
pub record HasAll (old new : List Pooled) : Type 0 where
  pub there : (m : ℕ) → is_some (numbered old m) ≡ true → is_some (numbered new m) ≡ true
  pub bytes : (m : ℕ) → is_some (numbered old m) ≡ true → bytes_of (numbered new m) ≡ bytes_of (numbered old m)

pub has_itself : (pool : List Pooled) → HasAll pool pool
has_itself pool = record { there = λ m is. is; bytes = λ m is. refl }

pub has_on : (first second third : List Pooled) → HasAll first second → HasAll second third → HasAll first third
has_on first second third one two = record {
  there = λ m is. two.there m (one.there m is);
  bytes = λ m is. two.bytes m (one.there m is) ∙ one.bytes m is;
}

kept_at : (old new more : List Pooled) → map as_it_came new ≡ map as_it_came old ++ map as_it_came more → (k : ℕ) → is_some (slice_get old k) ≡ true
    → (is_some (slice_get new k) ≡ true) × (bytes_of (slice_get new k) ≡ bytes_of (slice_get old k))
kept_at [] new more grown k there = absurd cc
kept_at (o ∷ old) [] more grown k there = absurd cc
kept_at (o ∷ old) (n ∷ new) more grown zero there =
    let same : as_it_came n ≡ as_it_came o = cc in
    (refl, ap (λ (p : Pooled). p.bytes) same)
kept_at (o ∷ old) (n ∷ new) more grown (suc k) there =
    let rest : map as_it_came new ≡ map as_it_came old ++ map as_it_came more = cc in
    kept_at old new more rest k there

number_kept : (old new more : List Pooled) → map as_it_came new ≡ map as_it_came old ++ map as_it_came more → (m : ℕ) → is_some (numbered old m) ≡ true
    → (is_some (numbered new m) ≡ true) × (bytes_of (numbered new m) ≡ bytes_of (numbered old m))
number_kept old new more grown zero there = absurd cc
number_kept old new more grown (suc k) there = kept_at old new more grown k there

pub has_told : (old new : List Pooled) (said : List Happening) → TellsPool old new said → HasAll old new
has_told old new said tells = record {
  there = λ m is. (number_kept old new tells.more tells.grown m is).0;
  bytes = λ m is. (number_kept old new tells.more tells.grown m is).1;
}

-- ---- a party in its place

-- what stands there is put there again
pub set_same : {X : Type 0} (parties : List (Option X)) (number : ℕ) (node : X) → honest_in parties number ≡ Some node → slice_set parties number (Some node) ≡ parties
set_same [] number node there = refl
set_same (p ∷ more) zero node there = ap (λ x. x ∷ more) (sym there)
set_same (p ∷ more) (suc number) node there = ap (λ l. p ∷ l) (set_same more number node there)

-- a delivery of a message that is there to a party that is there
brought_there : (says : Outcome) (v : World) (message number : ℕ) (o : Option Pooled) (taker : Taker) → is_some o ≡ true
    → delivery_if says v message number o (Some taker) ≡ delivery says v message number taker
brought_there says v message number (Some p) taker there = refl
brought_there says v message number None taker there = absurd cc

taken_there : (says : Outcome) (v : World) (deliveries : Deliveries) (who : Party) (j message : ℕ) (taker : Taker) → slice_get deliveries j ≡ Some (message, who)
    → is_some (message_at v message) ≡ true → station_at v who ≡ Some taker
    → turn_taken v who says (slice_get deliveries j) ≡ delivery says v message who.number taker
taken_there says v deliveries who j message taker is there stands =
    ap (turn_taken v who says) is
    ∙ ap (delivery_if says v message who.number (message_at v message)) stands
    ∙ brought_there says v message who.number (message_at v message) taker there

-- ---- one turn of a log

-- what a log notes that stands in its place
noted_there : (logs : List (Option LogNode)) (message number : ℕ) (was is : LogNode) → honest_in logs number ≡ Some was
    → logs_with (slice_set logs number (Some is)) message number (honest_in (slice_set logs number (Some is)) number) ≡ slice_set logs number (Some (with_taken message is))
noted_there logs message number was is there =
    ap (logs_with (slice_set logs number (Some is)) message number) (put-there logs number (Some is) (honest-below logs number was there))
    ∙ set-set logs number (Some is) (Some (with_taken message is))

-- A log that stood so took a message and replied so, and this became of the world: it stands in its place as the station does; and had it
-- stood anywhere else meanwhile, the reply would have made the same of the world beside it.
record LogTurned (v : World) (message number : ℕ) (node : LogNode) (reply : Reply) (now : StationState) (made : Moved) : Type 0 where
  pub next : LogNode
  pub there : log_at made.0 number ≡ Some next
  pub stands : now ≡ a_log next.core
  pub keys : next.keys ≡ node.keys
  pub settles : (core : log.CoreState) → settled (with_log v number (record node { core = core })) message (log_party number) reply
      ≡ (with_log made.0 number (record next { core = core }), made.1)

log_turned : (v : World) (message number : ℕ) (node : LogNode) (answer : log.LogAnswer) → log_at v number ≡ Some node
    → LogTurned v message number node (signed_reply node.keys (log_replied node.core answer).0) (log_replied node.core answer).1
    (log_settled v message number (log_answers node answer))
log_turned v message number node (Ok reply) there =
    let is : LogNode = record node { core = reply.after } in
    let noted = noted_there v.logs message number node is there in
    let made = settled_in v.pool message (log_party number) (Ok (filled node.keys reply.unsigned)) in
    record {
      next = with_taken message is;
      there = ap (λ (ls : List (Option LogNode)). honest_in ls number) noted
          ∙ put-there v.logs number (Some (with_taken message is)) (honest-below v.logs number node there);
      stands = refl;
      keys = refl;
      settles = λ core.
          let other : LogNode = record node { core = core } in
          ap (λ (ls : List (Option LogNode)). (record v { logs = ls; pool = made.0 }, made.1))
          (noted_there v.logs message number node other there
          ∙ sym (ap (λ (ls : List (Option LogNode)). slice_set ls number (Some (with_taken message other))) noted
          ∙ set-set v.logs number (Some (with_taken message is)) (Some (with_taken message other))));
    }
log_turned v message number node (Err refusal) there =
    let made = settled_in v.pool message (log_party number) (signed_reply node.keys (log_replied node.core (Err refusal)).0) in
    record {
      next = node;
      there = put-there v.logs number (Some node) (honest-below v.logs number node there);
      stands = refl;
      keys = refl;
      settles = λ core.
          let other : LogNode = record node { core = core } in
          ap (λ (ls : List (Option LogNode)). (record v { logs = ls; pool = made.0 }, made.1))
          (sym (set-set v.logs number (Some node) (Some other)));
    }

-- ---- all turns of a log

pub log_turns : (deliveries : Deliveries) (w : World) (number : ℕ) (history : List (Delivery × Option Outcome)) (v : World) (node : LogNode) (core : log.CoreState)
    → HasAll w.pool v.pool → log_at v number ≡ Some node → state_after replied_at (a_log node.core) history ≡ a_log core
    → AllByRecursion (IsOwnCall w deliveries (log_party number)) history
    → turns_taken deliveries (log_party number) v (map turn_for history)
    ≡ each_settled (with_log v number (record node { core = core })) (log_party number) history
    (map (signed_reply node.keys) (replies replied_at (a_log node.core) history))
log_turns deliveries w number [] v node core has there ends own =
    let same : node.core ≡ core = cc in
    ap silent (sym (ap (λ (c : log.CoreState). with_log v number (record node { core = c })) (sym same)
    ∙ ap (λ (ls : List (Option LogNode)). record v { logs = ls }) (set_same v.logs number node there)))
log_turns deliveries w number (call ∷ history) v node core has there ends own =
    let who = log_party number in
    let message = call.0.message in
    let says : Outcome = unwrap_or call.1 No in
    let answer = row node.core (takes call.0.bytes) in
    let made = log_settled v message number (log_answers node answer) in
    let turned = log_turned v message number node answer there in
    let bytes : bytes_of (message_at v message) ≡ call.0.bytes = has.bytes message own.0.there ∙ sym own.0.bytes in
    let taker : Taker = takers.a_log node in
    let delivered : delivery says v message number taker ≡ made =
    log_delivery_settled says v message number node there
    ∙ ap (λ (b : List ℕ). log_settled v message number (log_answers node (row node.core (takes b)))) bytes in
    let here : turn_taken v who says (slice_get deliveries call.0.j) ≡ made =
    taken_there says v deliveries who call.0.j message taker own.0.delivery (has.there message own.0.there) (ap (option_map takers.a_log) there) ∙ delivered in
    let told : TellsPool v.pool made.0.pool made.1 = subst (λ (m : Moved). TellsPool v.pool m.0.pool m.1) delivered (delivery-tells says v message number taker) in
    let later = replies replied_at (log_replied node.core answer).1 history in
    let rest = log_turns deliveries w number history made.0 turned.next core (has_on w.pool v.pool made.0.pool has (has_told v.pool made.0.pool made.1 told)) turned.there
    (subst (λ (s : StationState). state_after replied_at s history ≡ a_log core) turned.stands ends) own.1 in
    let signs : map (signed_reply turned.next.keys) (replies replied_at (a_log turned.next.core) history) ≡ map (signed_reply node.keys) later =
    ap (λ keys. map (signed_reply keys) (replies replied_at (a_log turned.next.core) history)) turned.keys
    ∙ ap (λ (s : StationState). map (signed_reply node.keys) (replies replied_at s history)) (sym turned.stands) in
    ap (λ (m : Moved). printing m.1 (turns_taken deliveries who m.0 (map turn_for history))) here
    ∙ ap (printing made.1) (rest ∙ ap (each_settled (with_log made.0 number (record turned.next { core = core })) who history) signs)
    ∙ sym (ap (λ (m : Moved). printing m.1 (each_settled m.0 who history (map (signed_reply node.keys) later))) (turned.settles core))

-- ---- one turn of an authority

record AuthorityTurned (v : World) (message number : ℕ) (node : AuthorityNode) (reply : Reply) (now : StationState) (made : Moved) : Type 0 where
  pub next : AuthorityNode
  pub there : authority_at made.0 number ≡ Some next
  pub stands : now ≡ an_authority next.state next.check
  pub keys : next.keys ≡ node.keys
  pub settles : (state : authority.AuthorityState) (check : Option CheckParts)
      → settled (with_authority v number (record node { state = state; check = check })) message (authority_party number) reply
      ≡ (with_authority made.0 number (record next { state = state; check = check }), made.1)

authority_turned : (v : World) (message number : ℕ) (node : AuthorityNode) (check : Option CheckParts) (answer : authority.AuthorityAnswer) → authority_at v number ≡ Some node
    → AuthorityTurned v message number node (signed_reply node.keys (authority_replied node.state check answer).0) (authority_replied node.state check answer).1
    (authority_settled v message number (authority_does (record node { check = check }) answer))
authority_turned v message number node check (Ok made) there =
    let is : AuthorityNode = record node { state = made.0; check = check } in
    let moved = settled_in v.pool message (authority_party number) (Ok (filled node.keys made.1)) in
    record {
      next = is;
      there = put-there v.authorities number (Some is) (honest-below v.authorities number node there);
      stands = refl;
      keys = refl;
      settles = λ state other.
          ap (λ (l : List (Option AuthorityNode)). (record v { authorities = l; pool = moved.0 }, moved.1))
          (sym (set-set v.authorities number (Some is) (Some (record node { state = state; check = other }))));
    }
authority_turned v message number node check (Err refusal) there =
    let is : AuthorityNode = record node { check = check } in
    let moved = settled_in v.pool message (authority_party number) (signed_reply node.keys (authority_replied node.state check (Err refusal)).0) in
    record {
      next = is;
      there = put-there v.authorities number (Some is) (honest-below v.authorities number node there);
      stands = refl;
      keys = refl;
      settles = λ state other.
          ap (λ (l : List (Option AuthorityNode)). (record v { authorities = l; pool = moved.0 }, moved.1))
          (sym (set-set v.authorities number (Some is) (Some (record node { state = state; check = other }))));
    }

-- ---- all turns of an authority

pub authority_turns : (deliveries : Deliveries) (w : World) (number : ℕ) (history : List (Delivery × Option Outcome)) (v : World) (node : AuthorityNode)
    (state : authority.AuthorityState) (check : Option CheckParts)
    → HasAll w.pool v.pool → authority_at v number ≡ Some node → state_after replied_at (an_authority node.state node.check) history ≡ an_authority state check
    → AllByRecursion (IsOwnCall w deliveries (authority_party number)) history
    → turns_taken deliveries (authority_party number) v (map turn_for history)
    ≡ each_settled (with_authority v number (record node { state = state; check = check })) (authority_party number) history
    (map (signed_reply node.keys) (replies replied_at (an_authority node.state node.check) history))
authority_turns deliveries w number [] v node state check has there ends own =
    let same : node.state ≡ state = cc in
    let too : node.check ≡ check = cc in
    ap silent (sym (ap (λ (s : authority.AuthorityState). with_authority v number (record node { state = s; check = check })) (sym same)
    ∙ ap (λ (c : Option CheckParts). with_authority v number (record node { check = c })) (sym too)
    ∙ ap (λ (l : List (Option AuthorityNode)). record v { authorities = l }) (set_same v.authorities number node there)))
authority_turns deliveries w number (call ∷ history) v node state check has there ends own =
    let who = authority_party number in
    let message = call.0.message in
    let says : Outcome = unwrap_or call.1 No in
    let read = message_in call.0.bytes in
    let answer = authority_reply says node.state node.check read in
    let behind = check_after node.check read answer in
    let made = authority_settled v message number (authority_does (record node { check = behind }) answer) in
    let turned = authority_turned v message number node behind answer there in
    let bytes : bytes_of (message_at v message) ≡ call.0.bytes = has.bytes message own.0.there ∙ sym own.0.bytes in
    let taker : Taker = takers.an_authority node in
    let at = λ (b : List ℕ).
    let reply = authority_reply says node.state node.check (message_in b)
    in authority_settled v message number (authority_does (record node { check = check_after node.check (message_in b) reply }) reply) in
    let delivered : delivery says v message number taker ≡ made =
    authority_delivery_settled says v message number node ∙ ap at bytes in
    let here : turn_taken v who says (slice_get deliveries call.0.j) ≡ made =
    taken_there says v deliveries who call.0.j message taker own.0.delivery (has.there message own.0.there) (ap (option_map takers.an_authority) there) ∙ delivered in
    let told : TellsPool v.pool made.0.pool made.1 = subst (λ (m : Moved). TellsPool v.pool m.0.pool m.1) delivered (delivery-tells says v message number taker) in
    let now = (authority_replied node.state behind answer).1 in
    let later = replies replied_at now history in
    let rest = authority_turns deliveries w number history made.0 turned.next state check (has_on w.pool v.pool made.0.pool has (has_told v.pool made.0.pool made.1 told)) turned.there
    (subst (λ (s : StationState). state_after replied_at s history ≡ an_authority state check) turned.stands ends) own.1 in
    let signs : map (signed_reply turned.next.keys) (replies replied_at (an_authority turned.next.state turned.next.check) history) ≡ map (signed_reply node.keys) later =
    ap (λ keys. map (signed_reply keys) (replies replied_at (an_authority turned.next.state turned.next.check) history)) turned.keys
    ∙ ap (λ (s : StationState). map (signed_reply node.keys) (replies replied_at s history)) (sym turned.stands) in
    ap (λ (m : Moved). printing m.1 (turns_taken deliveries who m.0 (map turn_for history))) here
    ∙ ap (printing made.1) (rest ∙ ap (each_settled (with_authority made.0 number (record turned.next { state = state; check = check })) who history) signs)
    ∙ sym (ap (λ (m : Moved). printing m.1 (each_settled m.0 who history (map (signed_reply node.keys) later))) (turned.settles state check))
