-- What each line makes of the logs.
use Rattle.std.proofs.Common.{◌≡◌, ◌∙◌, ℕ, ◌+◌, refl, ap, arith, false, Some, IfOk}
use Rattle.std.specs.Prelude.{nat_le}
use Rattle.run_safety.specs.ar_founding.FirstKeys.{key_for}
use Rattle.run_safety.specs.ar_founding.Founding.{fresh_log}
use Rattle.run_safety.specs.ar_nodes.Acting.{bytes_of, log_delivered, log_obeyed, log_rolled}
use Rattle.run_safety.specs.ar_nodes.Parties.{LogNode}
use Rattle.run_safety.specs.ar_nodes.Pool.{Pooled, numbered}
use Rattle.run_safety.specs.ar_nodes.declared.event.LogEvent.{LogEvent}
use Rattle.run_safety.specs.ar_nodes.declared.event.LogEvent.TheVariants as events
use Rattle.ar_statement.specs.declared.party.Role.{Role}
use Rattle.ar_statement.specs.declared.party.Role.TheVariants as role
use Rattle.run_safety.proofs.ar_world.EachLine.{EachLine, EachSetup, event-each, setup-each}
use Rattle.run_safety.specs.ar_world.Sending.{log_made}
use Rattle.run_safety.specs.ar_world.Delivering.{Taker, a_log, an_authority, an_owner, delivery, taker_in}
use Rattle.run_safety.specs.ar_world.Finding.{log_at, message_at}
use Rattle.run_safety.specs.ar_world.Founding.{peopled, place_of, turned}
use Rattle.run_safety.specs.ar_world.State.{World}
use Rattle.run_safety.specs.ar_world.Step.{event_effect, leads_to, setup_effect}
use Rattle.run_safety.specs.ar_world.declared.phase.Phase.{Phase}
use Rattle.run_safety.specs.ar_world.declared.phase.Phase.TheVariants as phase
use Rattle.lms_tree.specs.KeyParts.{KeyParts}
use Rattle.run_safety.specs.log_core.Keyed.{IsPlain}
use Rattle.run_safety.specs.log_core.State as log_state
use Rattle.owner_check.specs.declared.answer.Outcome.{Outcome}
use Rattle.party_keys.specs.Directory.{Directory}
use Rattle.report_text.specs.declared.happening.What.{What}
use Rattle.report_text.specs.declared.happening.What.TheVariants as whats
use Rattle.script_text.specs.declared.line.EventLine.{EventLine}
use Rattle.script_text.specs.declared.line.SetupLine.{SetupLine}
use Rattle.run_replays.proofs.Doing.{IsThere, answered-does, rolled-does}
use Rattle.run_replays.proofs.Notes.{Notes, put-notes, quiet-notes, without-notes}
use Rattle.run_replays.specs.Inputs.{input_of_event}
use Rattle.run_safety.proofs.Founded.{made-there}
use Rattle.run_safety.proofs.ar_world.Sends.{log-takes}

-- ---- the setup

turned-notes : (w : World) (r : Role) (number : ℕ) (key : KeyParts) → Notes w (turned w (record { role = r; number = number }) key)
turned-notes w role.LogServer number key = without-notes w _ number refl refl refl
turned-notes w role.Authority number key = quiet-notes w _ refl refl refl
turned-notes w role.Owner number key = quiet-notes w _ refl refl refl
turned-notes w role.Client number key = quiet-notes w _ refl refl refl

-- the line `authorities` makes all logs anew
pub record Founds (w v : World) : Type 0 where
  pub logs : (number : ℕ) (node : LogNode) → log_at v number ≡ Some node → node ≡ fresh_log v.genesis number (key_for v.setup role.LogServer number)

founds : (w : World) (count : ℕ) (genesis : Directory) → Founds w (peopled w count genesis).0
founds w count genesis = record {
  logs = λ number node is.
      let fresh = λ (n : ℕ). fresh_log genesis n (key_for w.setup role.LogServer n) in
      let place : 0 + number ≡ number = omega arith in
      made-there fresh 0 w.setup.logs number node is ∙ ap fresh place;
}

-- A line leads to this phase, and makes logs do nothing or one thing; or it makes them anew; or there is none yet.
pub data Leads (next : Phase) (w v : World) : Type 0 where
  by_notes : Notes w v → Leads next w v
  by_founding : next ≡ phase.AuthoritiesMade → Founds w v → Leads next w v
  by_preparing : nat_le 4 (place_of next) ≡ false → v.logs ≡ w.logs → Leads next w v

setup-changes : (w : World) → EachSetup w (λ next made. Leads next w made.0)
setup-changes w = record {
  secret = λ secret. by_preparing refl refl;
  types = λ tree one. by_preparing refl refl;
  counts = λ count quorum counted. by_preparing refl refl;
  founds = λ count genesis made. by_founding refl (founds w count genesis);
  turns = λ who key honest. by_notes (turned-notes w who.role who.number key);
}

pub setup-leads : (w : World) (l : SetupLine) → IfOk (setup_effect w l) (λ made. Leads (leads_to l) w made.0)
setup-leads w = setup-each w (λ next made. Leads next w made.0) (setup-changes w)

-- ---- deliveries

pub delivery-notes : (says : Outcome) (w : World) (message : ℕ) (p : Pooled) (r : Role) (number : ℕ) (taker : Taker) → message_at w message ≡ Some p → taker_in w r number ≡ Some taker
    → Notes w (delivery says w message number taker).0
unfolding log_delivered
delivery-notes says w message p r number (a_log node) has takes =
    put-notes w _ number node _ (log-takes w r number node takes) refl refl refl
    (answered-does w.pool node (events.Take message) (log_state.takes (bytes_of (numbered w.pool message))) tt (p, has) (λ newest. refl))
delivery-notes says w message p r number (an_authority node) has takes = quiet-notes w _ refl refl refl
delivery-notes says w message p r number (an_owner me) has takes = quiet-notes w _ refl refl refl

-- ---- other lines

order-notes : (w : World) (number : ℕ) (what : What) (event : LogEvent) (input : log_state.Input) (node : LogNode) → log_at w number ≡ Some node → IsPlain input → IsThere w.pool event
    → ((newest : KeyParts) → input_of_event w.pool newest event ≡ input) → Notes w (log_made w number (log_obeyed w.pool number what event input node)).0
unfolding log_obeyed
order-notes w number what event input node is plain there same =
    put-notes w _ number node _ is refl refl refl (answered-does w.pool node event input plain there same)

changes-note : (w : World) → EachLine w (λ made. Notes w made.0)
unfolding log_rolled
changes-note w = record {
  quiet = λ owners drafts said is. quiet-notes w _ refl refl refl;
  posts = λ owners drafts front who sent is. quiet-notes w _ refl refl refl;
  signs = λ forger text. quiet-notes w _ refl refl refl;
  injects = λ to bytes. quiet-notes w _ refl refl refl;
  acts = λ number what made. quiet-notes w _ refl refl refl;
  proposes = λ number node there. order-notes w number whats.Propose events.Propose log_state.proposes node there tt tt (λ newest. refl);
  passes = λ number node there. order-notes w number whats.Pass events.Pass log_state.passes node there tt tt (λ newest. refl);
  log_rolls = λ number node next there is. put-notes w _ number node _ there refl refl refl (rolled-does w.pool node next is);
  authority_rolls = λ number node next there is. quiet-notes w _ refl refl refl;
  delivers = λ says message p who taker has takes. delivery-notes says w message p who.role who.number taker has takes;
  checks = λ number node check said there is. quiet-notes w _ refl refl refl;
  learns = λ message p has. quiet-notes w _ refl refl refl;
  judges = λ message p name now age has. quiet-notes w _ refl refl refl;
}

pub event-notes : (says : Outcome) (w : World) (l : EventLine) → IfOk (event_effect says w l) (λ made. Notes w made.0)
event-notes says w = event-each w (λ made. Notes w made.0) (changes-note w) says
