-- What each line prints of messages is what it puts into the pool.
use Rattle.std.proofs.Common.{◌≡◌, ℕ, zero, suc, ◌+◌, List, [], ◌∷◌, ◌++◌, refl, ap}
use Rattle.std.specs.Prelude.{map, Option, Some, None, Ok, Err, IfOk, length}
use Rattle.std.specs.List.{range_with_len}
use Rattle.ar_statement.specs.Claims.{authority_party, log_party, owner_party, party}
use Rattle.ar_statement.specs.declared.party.Party.{Party}
use Rattle.ar_statement.specs.declared.party.Role.{Role}
use Rattle.ar_statement.specs.declared.party.Role.TheVariants as role
use Rattle.ar_nodes.specs.authority_core.RollRows.{roll_row}
use Rattle.ar_nodes.specs.log_core.Row.{row}
use Rattle.ar_message.specs.Messages.{message_in}
use Rattle.lms_tree.specs.Key.{public_of}
use Rattle.owner_check.specs.declared.answer.Outcome.{Outcome}
use Rattle.report_text.specs.declared.happening.Happening.{Happening}
use Rattle.report_text.specs.declared.happening.Happening.TheVariants.{Dishonest, Judged, Learnt, Step}
use Rattle.report_text.specs.declared.happening.What.{What}
use Rattle.ar_world.specs.Delivering.{Taker, a_log, an_authority, an_owner, delivery}
use Rattle.ar_nodes.specs.Acting.{Reply, acted, authority_delivered, authority_rolled, authority_took, authority_turned, bytes_of, delivered_as, delivered_by, log_delivered, log_does, log_obeyed, log_rolled, log_took, noted_in, owner_delivered, owner_does, pool_behind, told_of, with_delivered}
use Rattle.ar_nodes.specs.Pool.{delivered_to}
use Rattle.ar_nodes.specs.Forging.{forged}
use Rattle.ar_world.specs.Founding.{without}
use Rattle.ar_founding.specs.FirstKeys.{key_made, keys_made}
use Rattle.report_text.specs.Verdicts.{said_of}
use Rattle.ar_world.specs.Learning.{refused_by}
use Rattle.client_rule.specs.Notes.{note_of}
use Rattle.ar_nodes.specs.Pool.{Pooled, entries_from, numbered, pooled_from, raw, set_numbered}
use Rattle.ar_world.specs.Printed.{TellsMoved, TellsPool, as_it_came, entries_in}
use Rattle.ar_nodes.specs.Sending.{ending_of}
use Rattle.ar_world.specs.State.{World}
use Rattle.ar_founding.specs.FirstKeys.{Setup, key_for}
use Rattle.ar_nodes.specs.declared.event.LogEvent.TheVariants as events
use Rattle.client_rule.specs.Rule.{judgement}
use Rattle.owner_core.specs.Rows.{step_row}
use Rattle.report_text.specs.declared.happening.Target.TheVariants.{Nobody}
use Rattle.report_text.specs.declared.happening.What.TheVariants as whats
use Rattle.report_text.specs.declared.happening.What.TheVariants.{Take}
use Rattle.ar_nodes.specs.log_core.State as log_state
use Rattle.script_text.specs.declared.line.EventLine.{EventLine}
use Rattle.script_text.specs.declared.line.SetupLine.{SetupLine}
use Rattle.ar_world.specs.Step.{event_effect, setup_effect}
use Rattle.ar_world.proofs.EachLine.{EachLine, EachSetup, event-each, setup-each}
use Rattle.ar_world.proofs.Pools.{set-alike, tells-from, tells-messages, tells-none}

-- ---- outcomes

-- the pool stays, and nothing that is printed tells of a message
pub quiet : (pool : List Pooled) (said : List Happening) → entries_in said ≡ [] → TellsPool pool pool said
quiet pool said none = tells-none pool pool said refl none

-- its step tells of no message
ending-quiet : (who : Party) (what : What) (log : ℕ) (ended : Option (ℕ × Option (List ℕ))) → entries_in (Step who what None ∷ ending_of log ended) ≡ []
ending-quiet who what log None = refl
ending-quiet who what log (Some ended) = refl

-- nor of others than those that it sends
reply-tells : (pool : List Pooled) (who : Party) (what : What) (reply : Reply) → TellsPool pool (pool_behind pool who reply) (told_of pool who what reply)
reply-tells pool who what (Ok sent) =
    tells-messages pool (map (pooled_from who) sent.messages) (Step who what None ∷ ending_of who.number sent.ended)
    (ending-quiet who what who.number sent.ended)
reply-tells pool who what (Err code) = quiet pool (Step who what (Some code) ∷ []) refl

-- ---- parties

-- ---- deliveries

-- what is printed of a step tells what the pool has more behind it
abbrev StepTells : {X : Type 0} → List Pooled → X × (List Pooled × List Happening) → Type 0
StepTells pool made = TellsPool pool made.1.0 made.1.1

-- in the place of a message stands one that came alike
numbered-alike : (xs : List Pooled) (number : ℕ) (p q : Pooled) → numbered xs number ≡ Some p → as_it_came q ≡ as_it_came p
    → map as_it_came (set_numbered xs number q) ≡ map as_it_came xs
numbered-alike xs zero p q found alike = refl
numbered-alike xs (suc place) p q found alike = set-alike xs place p q found alike

-- that a message was delivered is not seen by how it came
noted-alike : (pool : List Pooled) (message : ℕ) (who : Party) → map as_it_came (noted_in pool message who) ≡ map as_it_came pool
noted-alike pool message who = by (numbered pool message) refl
  where
    by : (o : Option Pooled) → numbered pool message ≡ o → map as_it_came (with_delivered pool message o (delivered_by who o)) ≡ map as_it_came pool
    by None there = refl
    by (Some p) there = numbered-alike pool message p (record p { delivered = (delivered_to who p).delivered }) there refl

-- a step tells the same of the pool in which it was noted
noted-tells : {X : Type 0} (pool : List Pooled) (message : ℕ) (who : Party) (made : X × (List Pooled × List Happening))
    → StepTells (noted_in pool message who) made → StepTells pool made
noted-tells pool message who made tells = tells-from pool (noted_in pool message who) made.1.0 made.1.1 (noted-alike pool message who) tells

-- so does what becomes of it where a party has replied to a message of it
settled-tells : {X : Type 0} (pool : List Pooled) (message : ℕ) (who : Party) (made : X × Reply) → StepTells pool (delivered_as pool message who made)
settled-tells pool message who made =
    let noted = noted_in pool message who in
    noted-tells pool message who (acted noted who (Take message) made) (reply-tells noted who (Take message) made.1)

pub delivery-tells : (says : Outcome) (w : World) (message : ℕ) (number : ℕ) (taker : Taker) → TellsMoved w.pool (delivery says w message number taker)
unfolding log_delivered authority_delivered owner_delivered
delivery-tells says w message number (a_log node) =
    settled-tells w.pool message (log_party number) (log_took node message (bytes_of (numbered w.pool message)))
delivery-tells says w message number (an_authority node) =
    settled-tells w.pool message (authority_party number) (authority_took says node (bytes_of (numbered w.pool message)))
delivery-tells says w message number (an_owner me) =
    settled-tells w.pool message (owner_party number) (owner_does me (step_row me (bytes_of (numbered w.pool message))))

-- ---- the setup

made-quiet : (setup : Setup) (r : Role) (numbers : List ℕ) → entries_in (map (λ number. key_made (party r number) (key_for setup r number)) numbers) ≡ []
made-quiet setup r [] = refl
made-quiet setup r (number ∷ numbers) = made-quiet setup r numbers

keys-quiet : (w : World) (r : Role) (count : ℕ) → TellsPool w.pool w.pool (keys_made w.setup r count)
keys-quiet w r count = quiet w.pool (keys_made w.setup r count) (made-quiet w.setup r (range_with_len 0 count))

without-pool : (w : World) (r : Role) (number : ℕ) → (without w r number).pool ≡ w.pool
without-pool w role.LogServer number = refl
without-pool w role.Authority number = refl
without-pool w role.Owner number = refl
without-pool w role.Client number = refl

setup-changes : (w : World) → EachSetup w (λ next. TellsMoved w.pool)
setup-changes w = record {
  secret = λ secret. quiet w.pool [] refl;
  types = λ tree one. quiet w.pool [] refl;
  counts = λ count quorum counted. keys-quiet w role.LogServer count;
  founds = λ count genesis made. keys-quiet w role.Authority count;
  turns = λ who key honest.
      tells-none w.pool (without w who.role who.number).pool (Dishonest who ∷ []) (ap (map as_it_came) (without-pool w who.role who.number)) refl;
}

pub setup-tells : (w : World) (l : SetupLine) → IfOk (setup_effect w l) (TellsMoved w.pool)
setup-tells w = setup-each w (λ next. TellsMoved w.pool) (setup-changes w)

-- ---- other lines

messages-tell : (w : World) (p : Pooled) → TellsPool w.pool (w.pool ++ p ∷ []) (entries_from (length w.pool + 1) (p ∷ []))
messages-tell w p = tells-messages w.pool (p ∷ []) [] refl

changes-tell : (w : World) → EachLine w (TellsMoved w.pool)
unfolding log_obeyed log_rolled authority_rolled
changes-tell w = record {
  quiet = λ owners drafts said is. quiet w.pool said is.entries;
  posts = λ owners drafts front who sent is. tells-messages w.pool (map (pooled_from who) sent.messages) front is.entries;
  signs = λ forger text. messages-tell w (raw (Some forger.party) Nobody (forged forger text));
  injects = λ to bytes. messages-tell w (raw None to bytes);
  acts = λ number what made. reply-tells w.pool (owner_party number) what made.1;
  proposes = λ number node there. reply-tells w.pool (log_party number) whats.Propose (log_does node node.keys events.Propose (row node.core log_state.proposes)).1;
  passes = λ number node there. reply-tells w.pool (log_party number) whats.Pass (log_does node node.keys events.Pass (row node.core log_state.passes)).1;
  log_rolls = λ number node next there is.
      reply-tells w.pool (log_party number) whats.Roll (log_does node (node.keys ++ next ∷ []) events.Roll (row node.core (log_state.rolls (public_of next)))).1;
  authority_rolls = λ number node next there is.
      reply-tells w.pool (authority_party number) whats.Roll (authority_turned node next (roll_row node.state (public_of next))).1;
  delivers = λ says message p who taker has takes. delivery-tells says w message who.number taker;
  checks = λ number node check said there is. quiet w.pool said is.entries;
  learns = λ message p has. quiet w.pool (Learnt message (refused_by w.clients (note_of (message_in p.bytes))) ∷ []) refl;
  judges = λ message p name now age has.
      quiet w.pool (Judged message (said_of name (judgement (record { keys = w.clients; name = name; epoch = now; age = age }) p.bytes)) ∷ []) refl;
}

pub event-tells : (says : Outcome) (w : World) (l : EventLine) → IfOk (event_effect says w l) (TellsMoved w.pool)
event-tells says w = event-each w (TellsMoved w.pool) (changes-tell w) says
