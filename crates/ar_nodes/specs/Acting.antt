-- What a party makes of an input: the party as it is then, and its reply. And what the reply makes of the pool, and what is
-- printed of it. A step of a world puts the party and the pool into their places.
use Rattle.std.specs.Prelude.{◌≡◌, ℕ, ◌+◌, List, [], ◌∷◌, ◌++◌, length, map, slice_set, Option, None, Some, Result, Ok, Err}
use Rattle.ar_base.specs.Gives.{with_error}
use Rattle.ar_cert.specs.Certificate.{Certificate, digest_of}
use Rattle.ar_message.specs.Filling.{filled}
use Rattle.ar_message.specs.Messages.{message_in}
use Rattle.ar_message.specs.declared.sent.Sent.{Sent}
use Rattle.ar_statement.specs.declared.party.Party.{Party}
use Rattle.ar_statement.specs.declared.party.Role.{Role}
use Rattle.ar_statement.specs.declared.party.Role.TheVariants as role
use Rattle.authority_core.specs.RollRows.{roll_row}
use Rattle.authority_core.specs.State as authority
use Rattle.lms_tree.specs.Key.{public_of}
use Rattle.lms_tree.specs.KeyParts.{KeyParts}
use Rattle.log_core.specs.Row.{row}
use Rattle.log_core.specs.State as log
use Rattle.owner_check.specs.declared.answer.Outcome.{Outcome}
use Rattle.owner_core.specs.Rows.{OwnerAnswer, object_row, step_row, submit_row}
use Rattle.owner_core.specs.State.{Owner}
use Rattle.ar_statement.specs.Claims.{authority_party, log_party, owner_party}
use Rattle.report_text.specs.declared.happening.Code.{Code}
use Rattle.report_text.specs.declared.happening.Happening.{Happening}
use Rattle.report_text.specs.declared.happening.Happening.TheVariants.{Step}
use Rattle.report_text.specs.declared.happening.What.{What}
use Rattle.report_text.specs.declared.happening.What.TheVariants.{Object, Roll, Submit, Take}
use Rattle.ar_nodes.specs.Authorities.{authority_reply, node_behind}
use Rattle.ar_nodes.specs.Codes.{authority_code, log_code, owner_code}
use Rattle.ar_nodes.specs.Finding.{honest_in}
use Rattle.ar_nodes.specs.Parties.{AuthorityNode, LogNode}
use Rattle.ar_nodes.specs.Pool.{delivered_to, Pooled, entries_from, numbered, pooled_from, set_numbered}
use Rattle.ar_nodes.specs.Sending.{ending_of}
use Rattle.ar_nodes.specs.declared.event.LogEvent.{LogEvent}
use Rattle.ar_nodes.specs.declared.event.LogEvent.TheVariants as events
use Rattle.ar_nodes.specs.declared.fault.WorldFault.{WorldFault}
use Rattle.ar_nodes.specs.declared.fault.WorldFault.TheVariants.{Memory}

-- ---- replies

-- what a party sends, or the code of its refusal
abbrev pub Reply : Type 0
Reply = Result Sent Code

-- the pool with what the party sends
abbrev pub pool_behind : List Pooled → Party → Reply → List Pooled
pool_behind pool party (Ok sent) = pool ++ map (pooled_from party) sent.messages
pool_behind pool party (Err code) = pool

-- what is printed of the reply
abbrev pub told_of : List Pooled → Party → What → Reply → List Happening
told_of pool party what (Ok sent) =
    (Step party what None ∷ ending_of party.number sent.ended) ++ entries_from (length pool + 1) (map (pooled_from party) sent.messages)
told_of pool party what (Err code) = Step party what (Some code) ∷ []

-- A call made this of the party, and replied so. Or memory was wanting, and the party is as it was.
abbrev pub RepliesBy : {X : Type 0} → Result Reply WorldFault → X → X → X × Reply → Type 0
RepliesBy (Ok reply) old new made = made ≡ (new, reply)
RepliesBy (Err fault) old new made = (fault ≡ Memory) × (new ≡ old)

-- what a party made of an input and its reply, with the pool behind the reply, and what is printed of it
abbrev pub acted : {X : Type 0} → List Pooled → Party → What → X × Reply → X × (List Pooled × List Happening)
acted pool party what made = (made.0, (pool_behind pool party made.1, told_of pool party what made.1))

-- A call made this of the party and the pool, and answered what is printed. Or memory was wanting, and both are as they were.
abbrev pub ActsBy : {X : Type 0} → Result (List Happening) WorldFault → X → X → List Pooled → List Pooled → X × (List Pooled × List Happening) → Type 0
ActsBy (Ok said) old new before behind made = made ≡ (new, (behind, said))
ActsBy (Err fault) old new before behind made = (fault ≡ Memory) × ((new ≡ old) × (behind ≡ before))

-- ---- parties in their places

-- An honest party became one that is honest too, and so it changed.
abbrev pub ChangesThere : {X : Type 0} → Option X → Option X → (X → X → Type 0) → Type 0
ChangesThere (Some was) (Some is) changes = changes was is
ChangesThere (Some was) None changes = ⊥
ChangesThere None new changes = ⊥

-- The honest party with this number changed so, and is honest. All others are as they were.
pub record ChangesAt {X : Type 0} (old new : List (Option X)) (number : ℕ) (changes : X → X → Type 0) : Type 0 where
  pub was : X
  pub is : X
  pub there : honest_in old number ≡ Some was
  pub behind : new ≡ slice_set old number (Some is)
  pub so : changes was is

-- ---- messages that are delivered

-- the bytes of a message, none where there is no such message
abbrev pub bytes_of : Option Pooled → List ℕ
bytes_of None = []
bytes_of (Some p) = p.bytes

-- to whom a message was delivered, with a party to which it is delivered now
abbrev pub delivered_by : Party → Option Pooled → List Party
delivered_by who None = []
delivered_by who (Some p) = (delivered_to who p).delivered

-- the pool in which a message was delivered to these, where there is such a message
abbrev pub with_delivered : List Pooled → ℕ → Option Pooled → List Party → List Pooled
with_delivered pool message None delivered = pool
with_delivered pool message (Some p) delivered = set_numbered pool message (record p { delivered = delivered })

-- the pool in which a message was delivered to this party too
abbrev pub noted_in : List Pooled → ℕ → Party → List Pooled
noted_in pool message who = with_delivered pool message (numbered pool message) (delivered_by who (numbered pool message))

-- ---- logs

-- a log by its answer, with the keys that it has behind it
abbrev pub log_does : LogNode → List KeyParts → LogEvent → log.LogAnswer → LogNode × Reply
log_does node keys event (Ok reply) =
    (record { core = reply.after; keys = keys; taken = node.taken ++ event ∷ [] }, Ok (filled keys reply.unsigned))
log_does node keys event (Err refusal) = (node, Err (log_code refusal))

-- the same of a log that steps apart from its world: what it did is not noted yet
abbrev pub log_answers : LogNode → log.LogAnswer → LogNode × Reply
log_answers node (Ok reply) = (record node { core = reply.after }, Ok (filled node.keys reply.unsigned))
log_answers node (Err refusal) = (node, Err (log_code refusal))

-- a log that takes a message with these bytes
abbrev pub log_took : LogNode → ℕ → List ℕ → LogNode × Reply
log_took node message bytes = log_does node node.keys (events.Take message) (row node.core (log.takes bytes))

-- ---- authorities

-- an authority by its answer
abbrev pub authority_does : AuthorityNode → authority.AuthorityAnswer → AuthorityNode × Reply
authority_does node (Ok answer) = (record node { state = answer.0 }, Ok (filled node.keys answer.1))
authority_does node (Err refusal) = (node, Err (authority_code refusal))

-- an authority that takes a message; a check that tells nothing of itself says this
abbrev pub authority_took : Outcome → AuthorityNode → List ℕ → AuthorityNode × Reply
authority_took says node bytes =
    let answer = authority_reply says node.state node.check (message_in bytes)
    in authority_does (node_behind node (message_in bytes) answer) answer

-- an authority that goes on to its next key
abbrev pub authority_turned : AuthorityNode → KeyParts → authority.AuthorityAnswer → AuthorityNode × Reply
authority_turned node next (Ok answer) = authority_does (record node { keys = node.keys ++ next ∷ [] }) (Ok answer)
authority_turned node next (Err refusal) = authority_does node (Err refusal)

-- ---- owners

-- an owner by its answer
abbrev pub owner_does : Owner → OwnerAnswer Sent → Owner × Reply
owner_does me (Ok made) = (made.1, Ok made.0)
owner_does me (Err refusal) = (me, Err (owner_code refusal))

-- ---- drafts

-- an owner that objects to a certificate, which is that of a draft
abbrev pub owner_objected : List Pooled → ℕ → ℕ → Certificate → Owner → Owner × (List Pooled × List Happening)
owner_objected pool number draft cert me = acted pool (owner_party number) (Object draft) (owner_does me (object_row me cert))

-- one that submits its draft with this certificate, and stays as it is
abbrev pub owner_submitted : List Pooled → ℕ → ℕ → Certificate → Owner → Owner × (List Pooled × List Happening)
owner_submitted pool number draft cert me =
    acted pool (owner_party number) (Submit draft) (me, with_error owner_code (submit_row me (digest_of cert)))

-- ---- orders

-- a log that does what it is asked, which is not to go on to a key
unfoldable pub log_obeyed : List Pooled → ℕ → What → LogEvent → log.Input → LogNode → LogNode × (List Pooled × List Happening)
log_obeyed pool number what event input node = acted pool (log_party number) what (log_does node node.keys event (row node.core input))

-- a log that goes on to its next key, which it has from then on
unfoldable pub log_rolled : List Pooled → ℕ → KeyParts → LogNode → LogNode × (List Pooled × List Happening)
log_rolled pool number next node =
    acted pool (log_party number) Roll (log_does node (node.keys ++ next ∷ []) events.Roll (row node.core (log.rolls (public_of next))))

-- an authority
unfoldable pub authority_rolled : List Pooled → ℕ → KeyParts → AuthorityNode → AuthorityNode × (List Pooled × List Happening)
authority_rolled pool number next node = acted pool (authority_party number) Roll (authority_turned node next (roll_row node.state (public_of next)))

-- ---- deliveries

-- The pool where a party has replied so to a message of it: the delivery is noted, and what the party sends comes behind. And
-- what is printed of it.
abbrev pub settled_in : List Pooled → ℕ → Party → Reply → List Pooled × List Happening
settled_in pool message who reply =
    let noted = noted_in pool message who
    in (pool_behind noted who reply, told_of noted who (Take message) reply)

-- what a party made of a message of the pool and its reply, with the pool behind the reply, and what is printed of it
abbrev pub delivered_as : {X : Type 0} → List Pooled → ℕ → Party → X × Reply → X × (List Pooled × List Happening)
delivered_as pool message who made = (made.0, settled_in pool message who made.1)

-- a log that takes a message of the pool, in which this is noted
unfoldable pub log_delivered : List Pooled → ℕ → ℕ → LogNode → LogNode × (List Pooled × List Happening)
log_delivered pool message number node =
    delivered_as pool message (log_party number) (log_took node message (bytes_of (numbered pool message)))

-- an authority
unfoldable pub authority_delivered : Outcome → List Pooled → ℕ → ℕ → AuthorityNode → AuthorityNode × (List Pooled × List Happening)
authority_delivered says pool message number node =
    delivered_as pool message (authority_party number) (authority_took says node (bytes_of (numbered pool message)))

-- an owner
unfoldable pub owner_delivered : List Pooled → ℕ → ℕ → Owner → Owner × (List Pooled × List Happening)
owner_delivered pool message number me =
    delivered_as pool message (owner_party number) (owner_does me (step_row me (bytes_of (numbered pool message))))

-- ---- what a log did that took a message, and has replied already

-- a log with this message behind what it did
abbrev pub with_taken : ℕ → LogNode → LogNode
with_taken message node = record node { taken = node.taken ++ events.Take message ∷ [] }

-- the logs, where the one with this number took the message; one that is dishonest notes nothing
abbrev pub logs_with : List (Option LogNode) → ℕ → ℕ → Option LogNode → List (Option LogNode)
logs_with logs message number None = logs
logs_with logs message number (Some node) = slice_set logs number (Some (with_taken message node))

-- where the party of a role took it: logs alone note what they did
abbrev pub logs_after : List (Option LogNode) → ℕ → Role → ℕ → List (Option LogNode)
logs_after logs message role.LogServer number = logs_with logs message number (honest_in logs number)
logs_after logs message role.Authority number = logs
logs_after logs message role.Owner number = logs
logs_after logs message role.Client number = logs

-- where a party has replied so to it: one that refused did not take it
abbrev pub logs_behind : List (Option LogNode) → ℕ → Party → Reply → List (Option LogNode)
logs_behind logs message who (Ok sent) = logs_after logs message who.role who.number
logs_behind logs message who (Err code) = logs

-- ---- where what a check says is not known

-- There is something that a check says by which a call made this.
pub record RepliesBySome {X : Type 0} (result : Result Reply WorldFault) (old new : X) (made : Outcome → X × Reply) : Type 0 where
  pub says : Outcome
  pub replies : RepliesBy result old new (made says)

-- and this of the party and the pool
pub record ActsBySome {X : Type 0} (result : Result (List Happening) WorldFault) (old new : X) (before behind : List Pooled) (made : Outcome → X × (List Pooled × List Happening)) : Type 0 where
  pub says : Outcome
  pub acts : ActsBy result old new before behind (made says)
