-- What a delivery does to the pool: a few messages come behind it, and who takes deliveries stays.
use Rattle.std.proofs.Common.{◌≡◌, ◌∙◌, ◌≤◌, ℕ, zero, suc, List, [], ◌∷◌, ◌++◌, append-nil, length, refl, sym, ap, subst, arith, Bool, true, false, cond, get_or, Option, Some, None, is_some, Ok, Err}
use Rattle.std.specs.Prelude.{find, is_none, map, position, slice_set, ◌==◌}
use Rattle.std.specs.Option.{option_map}
use Rattle.std.proofs.lemmas.Bool.{eqb-true}
use Rattle.std.proofs.lemmas.List.{length-map, length-set}
use Rattle.std.proofs.lemmas.List.Quantifiers.{position-Some}
use Rattle.std.proofs.lemmas.Option.{same_Some}
use Rattle.ar_message.specs.Filling.{filled}
use Rattle.ar_message.specs.Messages.{message_in}
use Rattle.ar_message.specs.Sending.{Letter}
use Rattle.ar_message.specs.declared.sent.Sent.{Sent}
use Rattle.ar_message.specs.declared.unsigned.Unsigned.{Unsigned}
use Rattle.ar_message.proofs.Filled.{filled-few}
use Rattle.ar_statement.specs.Claims.{party}
use Rattle.ar_statement.specs.declared.party.Party.{Party}
use Rattle.ar_statement.specs.declared.party.Role.{Role}
use Rattle.ar_statement.specs.declared.party.Role.TheVariants as role
use Rattle.ar_nodes.specs.Acting.{acted, authority_delivered, authority_does, authority_took, bytes_of, log_delivered, log_does, log_obeyed, noted_in, owner_delivered, owner_does}
use Rattle.ar_nodes.specs.Authorities.{authority_reply, node_behind, says_to}
use Rattle.ar_world.specs.Delivering.{Taker, a_log, an_authority, an_owner, delivery, taker_at, taker_in}
use Rattle.ar_world.specs.Finding.{authority_at, log_at, owner_at, with_owner}
use Rattle.ar_nodes.specs.Finding.{honest_in, is_owner, set_if}
use Rattle.ar_world.specs.Sending.{authority_made, log_made, owner_made}
use Rattle.ar_nodes.specs.Parties.{AuthorityNode, LogNode}
use Rattle.ar_nodes.specs.Pool.{Pooled, numbered, pooled_from}
use Rattle.ar_world.specs.State.{World, with_authority, with_log}
use Rattle.ar_nodes.specs.declared.event.LogEvent.{LogEvent}
use Rattle.ar_nodes.specs.declared.event.LogEvent.TheVariants as events
use Rattle.ar_nodes.proofs.authority_core.Few as authority
use Rattle.ar_nodes.specs.authority_core.Row.{asked_in}
use Rattle.ar_nodes.specs.authority_core.State as authority_state
use Rattle.lms_tree.specs.KeyParts.{KeyParts}
use Rattle.ar_nodes.proofs.log_core.Few as log
use Rattle.ar_nodes.specs.log_core.Row.{row}
use Rattle.ar_nodes.specs.log_core.State as log_state
use Rattle.owner_check.specs.declared.answer.Outcome.{Outcome}
use Rattle.owner_core.proofs.Counted.{stepped}
use Rattle.owner_core.specs.Rows.{OwnerAnswer, step_row}
use Rattle.owner_core.specs.State.{Owner}
use Rattle.ar_statement.specs.Claims.{authority_party, log_party, owner_party}
use Rattle.report_text.specs.declared.happening.What.{What}
use Rattle.report_text.specs.declared.happening.What.TheVariants.{Take}
use Rattle.ar_world.proofs.Deliveries.{some-mapped}

-- A step sends a few messages; how many logs there are, and who takes deliveries, stays.
pub record Sends (w v : World) : Type 0 where
  pub logs : length v.logs ≡ length w.logs
  pub takers : (who : Party) → is_some (taker_at v who) ≡ is_some (taker_at w who)
  pub new : List Pooled
  pub pool : v.pool ≡ w.pool ++ new
  pub few : length new ≤ 2

-- ---- who takes deliveries

-- who takes deliveries is there
pub log-takes : (w : World) (r : Role) (number : ℕ) (node : LogNode) → taker_in w r number ≡ Some (a_log node) → log_at w number ≡ Some node
log-takes w role.LogServer number node h = by (log_at w number) h
  where
    by : (o : Option LogNode) → option_map a_log o ≡ Some (a_log node) → o ≡ Some node
    by None e = absurd cc
    by (Some x) e = cc
log-takes w role.Authority number node h = by (authority_at w number) h
  where
    by : (o : Option AuthorityNode) → option_map an_authority o ≡ Some (a_log node) → log_at w number ≡ Some node
    by None e = absurd cc
    by (Some x) e = absurd cc
log-takes w role.Owner number node h = by (owner_at w number) h
  where
    by : (o : Option Owner) → option_map an_owner o ≡ Some (a_log node) → log_at w number ≡ Some node
    by None e = absurd cc
    by (Some x) e = absurd cc
log-takes w role.Client number node h = absurd cc

pub authority-takes : (w : World) (r : Role) (number : ℕ) (node : AuthorityNode) → taker_in w r number ≡ Some (an_authority node) → authority_at w number ≡ Some node
authority-takes w role.LogServer number node h = by (log_at w number) h
  where
    by : (o : Option LogNode) → option_map a_log o ≡ Some (an_authority node) → authority_at w number ≡ Some node
    by None e = absurd cc
    by (Some x) e = absurd cc
authority-takes w role.Authority number node h = by (authority_at w number) h
  where
    by : (o : Option AuthorityNode) → option_map an_authority o ≡ Some (an_authority node) → o ≡ Some node
    by None e = absurd cc
    by (Some x) e = cc
authority-takes w role.Owner number node h = by (owner_at w number) h
  where
    by : (o : Option Owner) → option_map an_owner o ≡ Some (an_authority node) → authority_at w number ≡ Some node
    by None e = absurd cc
    by (Some x) e = absurd cc
authority-takes w role.Client number node h = absurd cc

-- one that is put in the place of an honest party is one too
honest-stays : {X : Type 0} (parties : List (Option X)) (n : ℕ) (was is : X) (m : ℕ) → honest_in parties n ≡ Some was
    → is_some (honest_in (slice_set parties n (Some is)) m) ≡ is_some (honest_in parties m)
honest-stays [] n was is m there = refl
honest-stays (p ∷ more) zero was is zero there = ap is_some (sym there)
honest-stays (p ∷ more) zero was is (suc m) there = refl
honest-stays (p ∷ more) (suc n) was is zero there = refl
honest-stays (p ∷ more) (suc n) was is (suc m) there = honest-stays more n was is m there

-- a log changes, and messages come
log-takers : (w : World) (number : ℕ) (was is : LogNode) (pool : List Pooled) (r : Role) (n : ℕ) → log_at w number ≡ Some was
    → is_some (taker_in (record (with_log w number is) { pool = pool }) r n) ≡ is_some (taker_in w r n)
log-takers w number was is pool role.LogServer n there =
    some-mapped a_log (honest_in (slice_set w.logs number (Some is)) n) ∙ honest-stays w.logs number was is n there ∙ sym (some-mapped a_log (log_at w n))
log-takers w number was is pool role.Authority n there = refl
log-takers w number was is pool role.Owner n there = refl
log-takers w number was is pool role.Client n there = refl

-- an authority does
authority-takers : (w : World) (number : ℕ) (was is : AuthorityNode) (pool : List Pooled) (r : Role) (n : ℕ) → authority_at w number ≡ Some was
    → is_some (taker_in (record (with_authority w number is) { pool = pool }) r n) ≡ is_some (taker_in w r n)
authority-takers w number was is pool role.LogServer n there = refl
authority-takers w number was is pool role.Authority n there =
    some-mapped an_authority (honest_in (slice_set w.authorities number (Some is)) n) ∙ honest-stays w.authorities number was is n there
    ∙ sym (some-mapped an_authority (authority_at w n))
authority-takers w number was is pool role.Owner n there = refl
authority-takers w number was is pool role.Client n there = refl

-- an owner stands in the place of the one with its number
found-too : {X : Type 0} (a b : Bool) (x y : X) (o q : Option X) → a ≡ b → is_some o ≡ is_some q → is_some (cond a (Some x) o) ≡ is_some (cond b (Some y) q)
found-too true true x y o q same rest = refl
found-too true false x y o q same rest = absurd cc
found-too false true x y o q same rest = absurd cc
found-too false false x y o q same rest = rest

owner-set : (owners : List Owner) (place : ℕ) (new other : Owner) (n : ℕ) → (get_or owners place other).number ≡ new.number
    → is_some (find (is_owner n) (slice_set owners place new)) ≡ is_some (find (is_owner n) owners)
owner-set [] place new other n same = refl
owner-set (o ∷ more) zero new other n same =
    found-too (is_owner n new) (is_owner n o) new o (find (is_owner n) more) (find (is_owner n) more) (ap (λ k. k == n) (sym same)) refl
owner-set (o ∷ more) (suc place) new other n same =
    found-too (is_owner n o) (is_owner n o) o o (find (is_owner n) (slice_set more place new)) (find (is_owner n) more) refl (owner-set more place new other n same)

owner-stays : (owners : List Owner) (new : Owner) (place : Option ℕ) (n : ℕ) → position (is_owner new.number) owners ≡ place
    → is_some (find (is_owner n) (set_if owners place new)) ≡ is_some (find (is_owner n) owners)
owner-stays owners new None n is = refl
owner-stays owners new (Some place) n is =
    owner-set owners place new new n (eqb-true (get_or owners place new).number new.number (position-Some (is_owner new.number) owners place new is).1)

owner-takers : (w : World) (is : Owner) (pool : List Pooled) (r : Role) (n : ℕ) → is_some (taker_in (record (with_owner w is) { pool = pool }) r n) ≡ is_some (taker_in w r n)
owner-takers w is pool role.LogServer n = refl
owner-takers w is pool role.Authority n = refl
owner-takers w is pool role.Owner n =
    some-mapped an_owner (find (is_owner n) (set_if w.owners (position (is_owner is.number) w.owners) is))
    ∙ owner-stays w.owners is (position (is_owner is.number) w.owners) n refl ∙ sym (some-mapped an_owner (find (is_owner n) w.owners))
owner-takers w is pool role.Client n = refl

-- ---- steps

-- as many messages as letters
posted-few : (who : Party) (letters : List Letter) → length letters ≤ 2 → length (map (pooled_from who) letters) ≤ 2
posted-few who letters few = let many = length-map letters (pooled_from who) in omega arith

log-sends : (w : World) (number : ℕ) (node : LogNode) (keys : List KeyParts) (what : What) (event : LogEvent) (a : log_state.LogAnswer) → log_at w number ≡ Some node
    → ((reply : log_state.LogStep) → a ≡ Ok reply → length reply.unsigned.sent.messages ≤ log_state.most_sent)
    → Sends w (log_made w number (acted w.pool (log_party number) what (log_does node keys event a))).0
log-sends w number node keys what event (Ok reply) there few =
    let is : LogNode = record { core = reply.after; keys = keys; taken = node.taken ++ event ∷ [] } in
    let sent : List Letter = (filled keys reply.unsigned).messages in
    let new : List Pooled = map (pooled_from (log_party number)) sent in
    record {
      logs = length-set w.logs number (Some is);
      takers = λ who. log-takers w number node is (w.pool ++ new) who.role who.number there;
      new = new;
      pool = refl;
      few = posted-few (log_party number) sent (filled-few log_state.most_sent keys reply.unsigned (filled keys reply.unsigned) (few reply refl) refl);
    }
log-sends w number node keys what event (Err refusal) there few = record {
  logs = length-set w.logs number (Some node);
  takers = λ who. log-takers w number node node w.pool who.role who.number there;
  new = [];
  pool = sym (append-nil w.pool);
  few = omega arith;
}

obeyed-sends : (w : World) (number : ℕ) (what : What) (event : LogEvent) (input : log_state.Input) (node : LogNode) → log_at w number ≡ Some node
    → Sends w (log_made w number (log_obeyed w.pool number what event input node)).0
unfolding log_obeyed
obeyed-sends w number what event input node there = log-sends w number node node.keys what event (row node.core input) there (log.row-few node.core input)

authority-sends : (w : World) (number : ℕ) (was node : AuthorityNode) (what : What) (a : authority_state.AuthorityAnswer) → authority_at w number ≡ Some was
    → ((later : authority_state.AuthorityState) (sent : Unsigned) → a ≡ Ok (later, sent) → length sent.sent.messages ≤ authority_state.most_sent)
    → Sends w (authority_made w number (acted w.pool (authority_party number) what (authority_does node a))).0
authority-sends w number was node what (Ok answer) there few =
    let sent = filled node.keys answer.1 in
    let new : List Pooled = map (pooled_from (authority_party number)) sent.messages in
    let short : length sent.messages ≤ authority_state.most_sent = filled-few authority_state.most_sent node.keys answer.1 sent (few answer.0 answer.1 refl) refl in
    record {
      logs = refl;
      takers = λ who. authority-takers w number was (record node { state = answer.0 }) (w.pool ++ new) who.role who.number there;
      new = new;
      pool = refl;
      few = posted-few (authority_party number) sent.messages (omega arith);
    }
authority-sends w number was node what (Err refusal) there few = record {
  logs = refl;
  takers = λ who. authority-takers w number was node w.pool who.role who.number there;
  new = [];
  pool = sym (append-nil w.pool);
  few = omega arith;
}

took-sends : (says : Outcome) (w : World) (number : ℕ) (node : AuthorityNode) (what : What) (bytes : List ℕ) → authority_at w number ≡ Some node
    → Sends w (authority_made w number (acted w.pool (authority_party number) what (authority_took says node bytes))).0
took-sends says w number node what bytes there =
    let m = message_in bytes
    in let a = authority_reply says node.state node.check m
    in authority-sends w number node (node_behind node m a) what a there
    (authority.row-few node.state (is_none node.check) m (says_to says node.check (asked_in m)))

owner-sends : (w : World) (number : ℕ) (what : What) (me : Owner) (r : OwnerAnswer Sent) → ((reply : Sent) (later : Owner) → r ≡ Ok (reply, later) → length reply.messages ≡ 0)
    → Sends w (owner_made w (acted w.pool (owner_party number) what (owner_does me r))).0
owner-sends w number what me (Ok made) none =
    let new : List Pooled = map (pooled_from (owner_party number)) made.0.messages in
    record {
      logs = refl;
      takers = λ who. owner-takers w made.1 (w.pool ++ new) who.role who.number;
      new = new;
      pool = refl;
      few = posted-few (owner_party number) made.0.messages (let nothing = none made.0 made.1 refl in omega arith);
    }
owner-sends w number what me (Err refusal) none = record {
  logs = refl;
  takers = λ who. owner-takers w me w.pool who.role who.number;
  new = [];
  pool = sym (append-nil w.pool);
  few = omega arith;
}

-- ---- a delivery

-- the world in which it is noted
abbrev pub noted : World → ℕ → Party → World
noted w message who = record w { pool = noted_in w.pool message who }

-- that it is noted changes nobody
pub noted-takers : (w : World) (message : ℕ) (to : Party) (r : Role) (n : ℕ) → is_some (taker_in (noted w message to) r n) ≡ is_some (taker_in w r n)
noted-takers w message to role.LogServer n = refl
noted-takers w message to role.Authority n = refl
noted-takers w message to role.Owner n = refl
noted-takers w message to role.Client n = refl

-- the role of who takes it
abbrev taker-role : Taker → Role
taker-role (a_log node) = role.LogServer
taker-role (an_authority node) = role.Authority
taker-role (an_owner me) = role.Owner

takes-role : (w : World) (r : Role) (number : ℕ) (taker : Taker) → taker_in w r number ≡ Some taker → r ≡ taker-role taker
takes-role w role.LogServer number taker h = by (log_at w number) h
  where
    by : (o : Option LogNode) → option_map a_log o ≡ Some taker → role.LogServer ≡ taker-role taker
    by None e = absurd cc
    by (Some x) e = ap taker-role (same_Some (a_log x) taker e)
takes-role w role.Authority number taker h = by (authority_at w number) h
  where
    by : (o : Option AuthorityNode) → option_map an_authority o ≡ Some taker → role.Authority ≡ taker-role taker
    by None e = absurd cc
    by (Some x) e = ap taker-role (same_Some (an_authority x) taker e)
takes-role w role.Owner number taker h = by (owner_at w number) h
  where
    by : (o : Option Owner) → option_map an_owner o ≡ Some taker → role.Owner ≡ taker-role taker
    by None e = absurd cc
    by (Some x) e = ap taker-role (same_Some (an_owner x) taker e)
takes-role w role.Client number taker h = absurd cc

taker-sends : (says : Outcome) (w : World) (message number : ℕ) (taker : Taker) → taker_in w (taker-role taker) number ≡ Some taker
    → Sends (noted w message (party (taker-role taker) number)) (delivery says w message number taker).0
unfolding log_delivered log_obeyed authority_delivered owner_delivered
taker-sends says w message number (a_log node) there =
    obeyed-sends (noted w message (log_party number)) number (Take message) (events.Take message) (log_state.takes (bytes_of (numbered w.pool message))) node
    (log-takes w role.LogServer number node there)
taker-sends says w message number (an_authority node) there =
    took-sends says (noted w message (authority_party number)) number node (Take message) (bytes_of (numbered w.pool message))
    (authority-takes w role.Authority number node there)
taker-sends says w message number (an_owner me) there =
    let bytes = bytes_of (numbered w.pool message)
    in owner-sends (noted w message (owner_party number)) number (Take message) me (step_row me bytes) (stepped me bytes)

pub delivery-sends : (says : Outcome) (w : World) (message : ℕ) (who : Party) (taker : Taker) → taker_at w who ≡ Some taker
    → Sends (noted w message who) (delivery says w message who.number taker).0
delivery-sends says w message who taker there =
    let is : who.role ≡ taker-role taker = takes-role w who.role who.number taker there in
    subst (λ (r : Role). Sends (noted w message (party r who.number)) (delivery says w message who.number taker).0) (sym is)
    (taker-sends says w message who.number taker (subst (λ (r : Role). taker_in w r who.number ≡ Some taker) is there))
