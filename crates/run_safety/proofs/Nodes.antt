-- The steps of honest logs and authorities, and what parties send: each that changes stays who it is.
use Rattle.std.proofs.Common.{◌≡◌, ◌∙◌, ℕ, ◌+◌, List, [], ◌∷◌, ◌++◌, refl, sym, ap, Option, Some, None, Ok, Err}
use Rattle.std.proofs.lemmas.List.{length-set}
use Rattle.std.specs.Prelude.{filter, is_none, length, map, slice_get, slice_set}
use Rattle.ar_council.specs.Council.{council_of}
use Rattle.ar_message.specs.Filling.{filled}
use Rattle.ar_message.specs.Messages.{message_in}
use Rattle.ar_message.specs.declared.sent.Sent.{Sent}
use Rattle.ar_message.specs.declared.unsigned.Unsigned.{Unsigned}
use Rattle.ar_statement.specs.declared.party.Party.{Party}
use Rattle.ar_world.specs.ar_nodes.Acting.{Reply, acted, authority_delivered, authority_does, authority_rolled, authority_turned, bytes_of, log_delivered, log_does, log_obeyed, log_rolled, noted_in, owner_delivered, owner_does, told_of}
use Rattle.ar_world.specs.ar_nodes.Authorities.{authority_reply, node_behind, says_to}
use Rattle.ar_world.specs.ar_nodes.Codes.{authority_code, log_code}
use Rattle.ar_world.specs.Finding.{authority_at, log_at}
use Rattle.ar_world.specs.ar_nodes.Parties.{AuthorityNode, LogNode}
use Rattle.ar_world.specs.ar_nodes.Pool.{Pooled, entries_from, numbered, pooled_from}
use Rattle.ar_world.specs.ar_nodes.Sending.{ending_of}
use Rattle.ar_world.specs.Sending.{authority_made, log_made, owner_made, posted}
use Rattle.ar_world.specs.State.{World, with_authority, with_log}
use Rattle.ar_world.specs.ar_nodes.declared.event.LogEvent.{LogEvent}
use Rattle.ar_world.specs.ar_nodes.declared.event.LogEvent.TheVariants as events
use Rattle.authority_core.proofs.Standing as authority
use Rattle.authority_core.specs.RollRows.{roll_row}
use Rattle.authority_core.specs.Row.{asked_in}
use Rattle.authority_core.specs.State as authority_state
use Rattle.lms_tree.specs.Key.{public_of}
use Rattle.lms_tree.specs.KeyParts.{KeyParts}
use Rattle.lms_tree.specs.declared.public_key.LmsPublic.{LmsPublic}
use Rattle.ar_world.proofs.log_core.Standing as log
use Rattle.ar_world.specs.log_core.Row.{row}
use Rattle.ar_world.specs.log_core.State as log_state
use Rattle.owner_check.specs.declared.answer.Outcome.{Outcome}
use Rattle.owner_core.specs.Rows.{step_row}
use Rattle.owner_core.specs.State.{Owner}
use Rattle.ar_statement.specs.Claims.{authority_party, log_party, owner_party}
use Rattle.report_text.specs.declared.happening.Happening.{Happening}
use Rattle.report_text.specs.declared.happening.Happening.TheVariants.{Step}
use Rattle.report_text.specs.declared.happening.What.{What}
use Rattle.report_text.specs.declared.happening.What.TheVariants as whats
use Rattle.ar_world.proofs.EachLine.{is_marked}
use Rattle.run_safety.specs.Seats.{IsAuthorityOf, IsLogOf, KnowsFirst, honest_count}
use Rattle.run_safety.proofs.Parts.{Goes, Makes, moves, part_of, still}
use Rattle.run_safety.proofs.Places.{seated-changed, count-changed}

-- ---- what is printed

-- that messages enter tells of nothing accepted
pub entries-quiet : (n : ℕ) (xs : List Pooled) → filter is_marked (entries_from n xs) ≡ []
entries-quiet n [] = refl
entries-quiet n (x ∷ xs) = entries-quiet (n + 1) xs

-- nor does a party's step
does-quiet : (who : Party) (what : What) (log : ℕ) (ended : Option (ℕ × Option (List ℕ))) (n : ℕ) (xs : List Pooled)
    → filter is_marked ((Step who what None ∷ ending_of log ended) ++ entries_from n xs) ≡ []
does-quiet who what log None n xs = entries-quiet n xs
does-quiet who what log (Some ended) n xs = entries-quiet n xs

-- whatever it replies
pub reply-quiet : (pool : List Pooled) (who : Party) (what : What) (reply : Reply) → filter is_marked (told_of pool who what reply) ≡ []
reply-quiet pool who what (Ok sent) = does-quiet who what who.number sent.ended (length pool + 1) (map (pooled_from who) sent.messages)
reply-quiet pool who what (Err code) = refl

-- ---- a party in its place

-- the first of the keys stays
abbrev StaysFirst : List KeyParts → List KeyParts → Type 0
StaysFirst keys later = (first : KeyParts) → slice_get keys 0 ≡ Some first → slice_get later 0 ≡ Some first

still-known : (known : List LmsPublic) (keys later : List KeyParts) → StaysFirst keys later → KnowsFirst known keys → KnowsFirst known later
still-known known keys later stays knows = record { first = knows.first; is = stays knows.first knows.is; same = knows.same }

-- the first of a list stays so with more behind it
pub first-stays : {X : Type 0} (xs more : List X) (first : X) → slice_get xs 0 ≡ Some first → slice_get (xs ++ more) 0 ≡ Some first
first-stays [] more first is = absurd cc
first-stays (x ∷ xs) more first is = is

-- a log that changes stays who it is
log-put : (w : World) (number : ℕ) (was is : LogNode) (said : List Happening) → log_at w number ≡ Some was
    → (is.core.log.me ≡ was.core.log.me) × (is.core.log.council ≡ was.core.log.council) → StaysFirst was.keys is.keys → filter is_marked said ≡ []
    → Goes (part_of w) (part_of (with_log w number is)) said
log-put w number was is said there stays first none =
    moves (part_of w) (slice_set w.logs number (Some is)) w.authorities said (λ s. record {
      council = s.council;
      known = s.known;
      logs = seated-changed log_party _ _ (IsLogOf w.genesis) w.logs number was is there
          (λ sat. record { number = stays.0 ∙ sat.number; council = stays.1 ∙ sat.council; key = still-known _ was.keys is.keys first sat.key }) s.logs;
      authorities = s.authorities;
      whole = ap (λ n. length (part_of w).dishonest + (n + honest_count w.authorities)) (count-changed w.logs number was is there)
          ∙ s.whole ∙ ap (λ n. n + length w.authorities) (sym (length-set w.logs number (Some is)));
      taken = s.taken;
    }) none

-- so does an authority
pub authority-put : (w : World) (number : ℕ) (was is : AuthorityNode) (said : List Happening) → authority_at w number ≡ Some was
    → (is.state.me ≡ was.state.me) × (council_of is.state.keys ≡ council_of was.state.keys) → StaysFirst was.keys is.keys → filter is_marked said ≡ []
    → Goes (part_of w) (part_of (with_authority w number is)) said
authority-put w number was is said there stays first none =
    moves (part_of w) w.logs (slice_set w.authorities number (Some is)) said (λ s. record {
      council = s.council;
      known = s.known;
      logs = s.logs;
      authorities = seated-changed authority_party _ _ (IsAuthorityOf w.genesis) w.authorities number was is there
          (λ sat. record { number = stays.0 ∙ sat.number; council = stays.1 ∙ sat.council; key = still-known _ was.keys is.keys first sat.key }) s.authorities;
      whole = ap (λ n. length (part_of w).dishonest + (honest_count w.logs + n)) (count-changed w.authorities number was is there)
          ∙ s.whole ∙ ap (λ n. length w.logs + n) (sym (length-set w.authorities number (Some is)));
      taken = s.taken;
    }) none

-- ---- logs

-- a step stays with who a log is, where its answer does
abbrev LogStays : LogNode → log_state.LogAnswer → Type 0
LogStays node a = (reply : log_state.LogStep) → a ≡ Ok reply → (reply.after.log.me ≡ node.core.log.me) × (reply.after.log.council ≡ node.core.log.council)

log-makes : (w : World) (number : ℕ) (pool : List Pooled) (node : LogNode) (keys : List KeyParts) (what : What) (event : LogEvent) (a : log_state.LogAnswer) → log_at w number ≡ Some node
    → StaysFirst node.keys keys → LogStays node a → Makes w (log_made w number (acted pool (log_party number) what (log_does node keys event a)))
log-makes w number pool node keys what event (Ok reply) there first stays =
    log-put w number node (record { core = reply.after; keys = keys; taken = node.taken ++ event ∷ [] }) _ there (stays reply refl) first
    (reply-quiet pool (log_party number) what (Ok (filled keys reply.unsigned)))
log-makes w number pool node keys what event (Err refusal) there first stays =
    log-put w number node node _ there (refl, refl) (λ first is. is) (reply-quiet pool (log_party number) what (Err (log_code refusal)))

pub obeyed-makes : (w : World) (number : ℕ) (pool : List Pooled) (what : What) (event : LogEvent) (input : log_state.Input) (node : LogNode) → log_at w number ≡ Some node
    → Makes w (log_made w number (log_obeyed pool number what event input node))
unfolding log_obeyed
obeyed-makes w number pool what event input node there =
    log-makes w number pool node node.keys what event (row node.core input) there (λ first is. is) (log.row-stays node.core input)

pub log-delivered-makes : (w : World) (message number : ℕ) (node : LogNode) → log_at w number ≡ Some node → Makes w (log_made w number (log_delivered w.pool message number node))
unfolding log_delivered log_obeyed
log-delivered-makes w message number node there =
    obeyed-makes w number (noted_in w.pool message (log_party number)) (whats.Take message) (events.Take message) (log_state.takes (bytes_of (numbered w.pool message))) node there

pub log-rolled-makes : (w : World) (number : ℕ) (next : KeyParts) (node : LogNode) → log_at w number ≡ Some node → Makes w (log_made w number (log_rolled w.pool number next node))
unfolding log_rolled
log-rolled-makes w number next node there =
    let input = log_state.rolls (public_of next)
    in log-makes w number w.pool node (node.keys ++ next ∷ []) whats.Roll events.Roll (row node.core input) there (first-stays node.keys (next ∷ [])) (log.row-stays node.core input)

-- ---- authorities

-- an answer keeps who an authority is
abbrev Stays : authority_state.AuthorityState → authority_state.AuthorityAnswer → Type 0
Stays s a = (later : authority_state.AuthorityState) (sent : Unsigned) → a ≡ Ok (later, sent) → (later.me ≡ s.me) × (council_of later.keys ≡ council_of s.keys)

authority-makes : (w : World) (number : ℕ) (pool : List Pooled) (was node : AuthorityNode) (what : What) (a : authority_state.AuthorityAnswer) → authority_at w number ≡ Some was
    → node.state ≡ was.state → StaysFirst was.keys node.keys → Stays was.state a
    → Makes w (authority_made w number (acted pool (authority_party number) what (authority_does node a)))
authority-makes w number pool was node what (Ok answer) there same first stays =
    authority-put w number was (record node { state = answer.0 }) _ there (stays answer.0 answer.1 refl) first
    (reply-quiet pool (authority_party number) what (Ok (filled node.keys answer.1)))
authority-makes w number pool was node what (Err refusal) there same first stays =
    authority-put w number was node _ there (ap (λ s. s.me) same, ap (λ s. council_of s.keys) same) first
    (reply-quiet pool (authority_party number) what (Err (authority_code refusal)))

pub authority-delivered-makes : (says : Outcome) (w : World) (message number : ℕ) (node : AuthorityNode) → authority_at w number ≡ Some node
    → Makes w (authority_made w number (authority_delivered says w.pool message number node))
unfolding authority_delivered
authority-delivered-makes says w message number node there =
    let m = message_in (bytes_of (numbered w.pool message))
    in let a = authority_reply says node.state node.check m
    in authority-makes w number (noted_in w.pool message (authority_party number)) node (node_behind node m a) (whats.Take message) a there refl (λ first is. is)
    (authority.row-stays node.state (is_none node.check) m (says_to says node.check (asked_in m)))

turned-makes : (w : World) (number : ℕ) (node : AuthorityNode) (next : KeyParts) (a : authority_state.AuthorityAnswer) → authority_at w number ≡ Some node → Stays node.state a
    → Makes w (authority_made w number (acted w.pool (authority_party number) whats.Roll (authority_turned node next a)))
turned-makes w number node next (Ok answer) there stays =
    authority-makes w number w.pool node (record node { keys = node.keys ++ next ∷ [] }) whats.Roll (Ok answer) there refl (first-stays node.keys (next ∷ [])) stays
turned-makes w number node next (Err refusal) there stays = authority-makes w number w.pool node node whats.Roll (Err refusal) there refl (λ first is. is) stays

pub authority-rolled-makes : (w : World) (number : ℕ) (next : KeyParts) (node : AuthorityNode) → authority_at w number ≡ Some node
    → Makes w (authority_made w number (authority_rolled w.pool number next node))
unfolding authority_rolled
authority-rolled-makes w number next node there =
    turned-makes w number node next (roll_row node.state (public_of next)) there (authority.rolling-stays node.state (public_of next))

-- ---- others that send

pub posted-makes : (w : World) (who : Party) (sent : Sent) → Makes w (posted w who sent)
posted-makes w who sent = still _ _ _ refl (entries-quiet _ (map (pooled_from who) sent.messages))

-- owners are not seated
pub owner-makes : (w : World) (pool : List Pooled) (number : ℕ) (what : What) (made : Owner × Reply) → Makes w (owner_made w (acted pool (owner_party number) what made))
owner-makes w pool number what made = still _ _ _ refl (reply-quiet pool (owner_party number) what made.1)

pub owner-delivered-makes : (w : World) (message number : ℕ) (me : Owner) → Makes w (owner_made w (owner_delivered w.pool message number me))
unfolding owner_delivered
owner-delivered-makes w message number me =
    owner-makes w (noted_in w.pool message (owner_party number)) number (whats.Take message) (owner_does me (step_row me (bytes_of (numbered w.pool message))))
