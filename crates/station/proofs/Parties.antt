-- A delivery in a world is a station's step.
use Rattle.std.proofs.Common.{◌≡◌, ℕ, List, is_none, IfSome, Option, Some, None, Ok, Err, refl, sym, ap, ◌∙◌, subst, append-nil}
use Rattle.std.specs.Prelude.{unwrap_or}
use Rattle.std.specs.Option.{option_map}
use Rattle.ar_base.specs.Bytes.{AreBytes}
use Rattle.ar_message.specs.Messages.{message_in}
use Rattle.ar_statement.specs.Claims.{authority_party, log_party}
use Rattle.authority_core.specs.Row as rows
use Rattle.authority_core.specs.Row.{asked_in}
use Rattle.authority_core.specs.State as authority
use Rattle.authority_core.specs.declared.entries.Approved.{Approved}
use Rattle.log_core.specs.Row.{row}
use Rattle.log_core.specs.State as log
use Rattle.owner_check.specs.Answers.{Told, outcome_of}
use Rattle.owner_check.specs.declared.answer.Outcome.{Outcome}
use Rattle.owner_check.specs.declared.answer.Outcome.TheVariants.{No}
use Rattle.report_text.specs.declared.happening.What.TheVariants.{Take}
use Rattle.ar_nodes.specs.Acting.{Reply, acted, authority_delivered, authority_does, authority_took, bytes_of, log_delivered, log_does, log_obeyed, noted_in}
use Rattle.ar_nodes.specs.Authorities.{authority_reply, check_after, check_says, node_behind, says_to}
use Rattle.ar_nodes.specs.Parties.{AuthorityNode, CheckParts, LogNode}
use Rattle.ar_nodes.specs.Pool.{Pooled, numbered}
use Rattle.ar_nodes.specs.declared.event.LogEvent.TheVariants as events
use Rattle.station.specs.Station.{IsAnswerOf, IsNoted, a_log, an_authority, authority_replied, log_replied, replied_at}
use Rattle.station.specs.Worlds.{AuthorityBecomes, LogBecomes}
use Rattle.station.specs.declared.delivery.Delivery.{Delivery}

-- ---- logs

log-becomes : (node : LogNode) (message : ℕ) (a : log.LogAnswer) → LogBecomes node message (log_replied node.core a) (log_does node node.keys (events.Take message) a)
log-becomes node message (Ok reply) = record { stands = refl; keys = refl; taken = refl; reply = refl }
log-becomes node message (Err refusal) = record { stands = refl; keys = refl; taken = sym (append-nil node.taken); reply = refl }

-- what a delivery makes of a log
abbrev log-takes : LogNode → ℕ → List ℕ → LogNode × Reply
log-takes node message bytes = log_does node node.keys (events.Take message) (row node.core (log.takes bytes))

log-acts : (pool : List Pooled) (message number : ℕ) (node : LogNode)
    → log_delivered pool message number node
    ≡ acted (noted_in pool message (log_party number)) (log_party number) (Take message) (log-takes node message (bytes_of (numbered pool message)))
unfolding log_delivered log_obeyed
log-acts pool message number node = refl

pub log-is : (pool : List Pooled) (message number : ℕ) (node : LogNode) (d : Delivery) (note : Option Outcome) → d.bytes ≡ bytes_of (numbered pool message)
    → (after : LogNode × Reply) × (log_delivered pool message number node ≡ acted (noted_in pool message (log_party number)) (log_party number) (Take message) after)
    × LogBecomes node message (replied_at (a_log node.core) d note) after
log-is pool message number node d _ is = (
  log-takes node message d.bytes,
  log-acts pool message number node
      ∙ ap (λ (bytes : List ℕ). acted (noted_in pool message (log_party number)) (log_party number) (Take message) (log-takes node message bytes)) (sym is),
  log-becomes node message (row node.core (log.takes d.bytes)),
)

-- ---- authorities

authority-becomes : (node : AuthorityNode) (check : Option CheckParts) (a : authority.AuthorityAnswer)
    → AuthorityBecomes node (authority_replied node.state check a) (authority_does (record node { check = check }) a)
authority-becomes node check (Ok made) = record { stands = refl; keys = refl; reply = refl }
authority-becomes node check (Err refusal) = record { stands = refl; keys = refl; reply = refl }

authority-acts : (says : Outcome) (pool : List Pooled) (message number : ℕ) (node : AuthorityNode)
    → authority_delivered says pool message number node
    ≡ acted (noted_in pool message (authority_party number)) (authority_party number) (Take message) (authority_took says node (bytes_of (numbered pool message)))
unfolding authority_delivered
authority-acts says pool message number node = refl

pub authority-is : (pool : List Pooled) (message number : ℕ) (node : AuthorityNode) (d : Delivery) (note : Option Outcome) → d.bytes ≡ bytes_of (numbered pool message)
    → (after : AuthorityNode × Reply)
    × (authority_delivered (unwrap_or note No) pool message number node ≡ acted (noted_in pool message (authority_party number)) (authority_party number) (Take message) after)
    × AuthorityBecomes node (replied_at (an_authority node.state node.check) d note) after
authority-is pool message number node d note is =
    let says : Outcome = unwrap_or note No in
    let answer : authority.AuthorityAnswer = authority_reply says node.state node.check (message_in d.bytes) in (
      authority_took says node d.bytes,
      authority-acts says pool message number node
          ∙ ap (λ (bytes : List ℕ). acted (noted_in pool message (authority_party number)) (authority_party number) (Take message) (authority_took says node bytes)) (sym is),
      authority-becomes node (check_after node.check (message_in d.bytes) answer) answer,
    )

-- ---- whatever a check says

-- the note by what a check says
abbrev note-of : Outcome → Option CheckParts → Option Approved → Option Outcome
note-of says None asked = None
note-of says (Some check) None = None
note-of says (Some check) (Some asked) = Some (check_says says check asked)

may-be : (says : Outcome) (check : Option CheckParts) (asked : Option Approved) → IsAnswerOf check asked (note-of says check asked)
may-be says None asked = refl
may-be says (Some check) None = refl
may-be says (Some check) (Some asked) = at check.told where
  at : (told : Option Told) → IfSome told (λ t. unwrap_or (option_map (λ u. outcome_of u check.answers asked.name asked.key) told) says ≡ outcome_of t check.answers asked.name asked.key)
  at None = tt
  at (Some t) = refl

-- a check says the same by it
says-same : (says : Outcome) (check : Option CheckParts) (asked : Option Approved) → says_to says check asked ≡ says_to (unwrap_or (note-of says check asked) No) check asked
says-same says None asked = refl
says-same says (Some check) None = refl
says-same says (Some check) (Some asked) = at check.told where
  at : (told : Option Told) → unwrap_or (option_map (λ u. outcome_of u check.answers asked.name asked.key) told) says
      ≡ unwrap_or (option_map (λ u. outcome_of u check.answers asked.name asked.key) told) (unwrap_or (option_map (λ u. outcome_of u check.answers asked.name asked.key) told) says)
  at None = refl
  at (Some t) = refl

-- an authority takes a message alike where its check says the same to it
took-same : (node : AuthorityNode) (bytes : List ℕ) (says other : Outcome)
    → says_to says node.check (asked_in (message_in bytes)) ≡ says_to other node.check (asked_in (message_in bytes)) → authority_took says node bytes ≡ authority_took other node bytes
took-same node bytes says other same = ap (λ (said : Outcome).
    let answer = rows.row node.state (is_none node.check) (message_in bytes) said
    in authority_does (node_behind node (message_in bytes) answer) answer) same

pub each-is-noted : (says : Outcome) (pool : List Pooled) (message number : ℕ) (node : AuthorityNode) (d : Delivery) → AreBytes d.bytes → d.bytes ≡ bytes_of (numbered pool message)
    → (note : Option Outcome) × IsNoted (an_authority node.state node.check) d note
    × (authority_delivered says pool message number node ≡ authority_delivered (unwrap_or note No) pool message number node)
each-is-noted says pool message number node d are is =
    let asked : Option Approved = asked_in (message_in d.bytes) in
    let note : Option Outcome = note-of says node.check asked in (
      note,
      (are, may-be says node.check asked),
      authority-acts says pool message number node
          ∙ ap (acted (noted_in pool message (authority_party number)) (authority_party number) (Take message)) (took-same node (bytes_of (numbered pool message)) says (unwrap_or note No)
          (subst (λ (bytes : List ℕ). says_to says node.check (asked_in (message_in bytes)) ≡ says_to (unwrap_or note No) node.check (asked_in (message_in bytes))) is (says-same says node.check asked)))
          ∙ sym (authority-acts (unwrap_or note No) pool message number node),
    )
