-- Each line, and each delivery of a `flush`, keeps all nodes, messages and the clients' directory.
use Rattle.std.proofs.Common.{Result, ◌≡◌, ◌∙◌, ℕ, zero, suc, ◌+◌, ◌<◌, ◌≤◌, List, [], ◌∷◌, ◌++◌, All, sym, ap, subst, arith, Bool, true, false, Some, None, Ok, Err, IfOk, IfSome}
use Rattle.std.specs.Prelude.{if◌then◌else◌, map, nat_le, slice_get, slice_set}
use Rattle.std.specs.List.{range_with_len}
use Rattle.std.proofs.lemmas.List.Elements.{All-cons, All-nil, All-push, All-set}
use Rattle.ar_base.proofs.Shown.{gave}
use Rattle.std.proofs.lemmas.Result.{IfOk-weaker}
use Rattle.ar_base.specs.Bytes.{AreBytes}
use Rattle.ar_world.specs.ar_founding.FirstKeys.{Setup, key_for, keys_for}
use Rattle.ar_world.specs.ar_founding.Founding.{fresh_log, genesis_of, founded_authority}
use Rattle.ar_message.specs.Messages.{message_in}
use Rattle.ar_world.specs.ar_nodes.Acting.{Reply, acted, authority_delivered, authority_rolled, authority_took, authority_turned, bytes_of, log_delivered, log_does, log_obeyed, log_rolled, noted_in, owner_delivered, owner_does, pool_behind}
use Rattle.ar_world.specs.ar_nodes.Forging.{forged}
use Rattle.ar_world.specs.ar_nodes.Parties.{AuthorityNode, CheckParts, LogNode, next_of}
use Rattle.ar_world.specs.ar_nodes.Pool.{Pooled, numbered}
use Rattle.ar_world.specs.ar_nodes.declared.event.LogEvent.{LogEvent}
use Rattle.ar_world.specs.ar_nodes.declared.event.LogEvent.TheVariants as events
use Rattle.ar_safety.specs.Held.{AcceptedBytes, verdict_on}
use Rattle.ar_statement.specs.Claims.{authority_party, log_party, owner_party}
use Rattle.ar_statement.specs.declared.party.Party.{Party}
use Rattle.ar_statement.specs.declared.party.Role.{Role}
use Rattle.ar_statement.specs.declared.party.Role.TheVariants as role
use Rattle.ar_world.proofs.FirstParties.{came}
use Rattle.ar_world.proofs.EachLine.{EachLine, EachSetup, event-each, setup-each}
use Rattle.ar_world.proofs.Remembered.{kept-at}
use Rattle.ar_world.proofs.Runs.{step-holds, HoldsOfSteps, run-holds}
use Rattle.ar_world.specs.Delivering.{Taker, a_log, an_authority, an_owner, delivery, taker_at, taker_in}
use Rattle.ar_world.specs.Finding.{authority_at, log_at}
use Rattle.ar_world.specs.Founding.{may_come, peopled, place_of, without}
use Rattle.ar_world.specs.Judging.{accepted_with, is_accepted}
use Rattle.ar_world.specs.Records.{HasParties, KeepsRecords}
use Rattle.ar_world.specs.Run.{Saying, run}
use Rattle.ar_world.specs.Sending.{authority_made, log_made, owner_made}
use Rattle.ar_world.specs.State.{Moved, World, first_world}
use Rattle.ar_world.specs.Step.{event_effect, leads_to, setup_effect, step}
use Rattle.ar_world.specs.declared.phase.Phase.{Phase}
use Rattle.authority_core.specs.RollRows.{roll_row}
use Rattle.client_rule.specs.Notes.{note_of}
use Rattle.client_rule.specs.declared.judgement.Judgement.{Judgement}
use Rattle.lms_tree.specs.Key.{public_of}
use Rattle.lms_tree.specs.KeyParts.{KeyParts}
use Rattle.ar_world.specs.log_core.Keyed.{IsPlain}
use Rattle.ar_world.specs.log_core.Row.{IsLogInput, row}
use Rattle.ar_world.specs.log_core.State as log_state
use Rattle.owner_check.specs.declared.answer.Outcome.{Outcome}
use Rattle.owner_core.specs.Rows.{step_row}
use Rattle.owner_core.specs.State.{Owner}
use Rattle.party_keys.proofs.Bounds.{made_keeps}
use Rattle.party_keys.specs.Directory.{Directory, IsDirectory, directory_of, keys_of}
use Rattle.report_text.specs.declared.happening.Target.TheVariants.{Nobody}
use Rattle.report_text.specs.declared.happening.What.{What}
use Rattle.report_text.specs.declared.happening.What.TheVariants as whats
use Rattle.script_text.specs.declared.line.Line.{Line}
use Rattle.script_text.specs.declared.line.SetupLine.TheVariants as setup
use Rattle.run_safety.specs.Kept.{KeepsAll, KeepsAuthority, KeepsLog, KeepsWorld}
use Rattle.run_safety.proofs.Founded.{genesis-long, known-there, made-of}
use Rattle.run_safety.proofs.KeptNodes.{authority-rolls-kept, authority-took-kept, check-kept, fresh-log-kept, log-does-kept, log-rolls-kept, new-authority-kept}
use Rattle.run_safety.proofs.KeptPool.{IsBytes, behind-bytes, delivered-bytes, message-bytes, noted-bytes, raw-bytes, reply-bytes}
use Rattle.run_safety.proofs.Learns.{knows-directory}
use Rattle.ar_world.proofs.Sends.{authority-takes, log-takes}
use Rattle.run_safety.proofs.Lines.{delivery-makes}

-- what is kept of a world, from the line `authorities` on or before it
abbrev pub Keeps : Bool → World → Type 0
Keeps late w = KeepsAll late w.clients w.logs w.authorities w.pool w.judged

-- ---- parts of a world that change

pool-kept : {late : Bool} (w : World) (pool : List Pooled) → Keeps late w → All IsBytes pool → KeepsAll late w.clients w.logs w.authorities pool w.judged
pool-kept w pool kept all = record { directory = kept.directory; each_log = kept.each_log; each_authority = kept.each_authority; each_message = all; each_judged = kept.each_judged }

pub log-at-kept : {late : Bool} (w : World) (number : ℕ) (node : LogNode) → Keeps late w → log_at w number ≡ Some node → KeepsLog node
log-at-kept w number node kept there = kept-at KeepsLog w.logs number node kept.each_log there

pub authority-at-kept : {late : Bool} (w : World) (number : ℕ) (node : AuthorityNode) → Keeps late w → authority_at w number ≡ Some node → KeepsAuthority node
authority-at-kept w number node kept there = kept-at KeepsAuthority w.authorities number node kept.each_authority there

log-put-kept : {late : Bool} (w : World) (number : ℕ) (node : LogNode) (pool : List Pooled) → Keeps late w → KeepsLog node → All IsBytes pool
    → KeepsAll late w.clients (slice_set w.logs number (Some node)) w.authorities pool w.judged
log-put-kept w number node pool kept is all = record {
  directory = kept.directory;
  each_log = All-set (λ slot. IfSome slot KeepsLog) w.logs number (Some node) is kept.each_log;
  each_authority = kept.each_authority;
  each_message = all;
  each_judged = kept.each_judged;
}

authority-put-kept : {late : Bool} (w : World) (number : ℕ) (node : AuthorityNode) (pool : List Pooled) → Keeps late w → KeepsAuthority node → All IsBytes pool
    → KeepsAll late w.clients w.logs (slice_set w.authorities number (Some node)) pool w.judged
authority-put-kept w number node pool kept is all = record {
  directory = kept.directory;
  each_log = kept.each_log;
  each_authority = All-set (λ slot. IfSome slot KeepsAuthority) w.authorities number (Some node) is kept.each_authority;
  each_message = all;
  each_judged = kept.each_judged;
}

-- ---- steps of logs

log-made-kept : {late : Bool} (w : World) (number : ℕ) (pool : List Pooled) (what : What) (made : LogNode × Reply) → Keeps late w → All IsBytes pool → KeepsLog made.0
    → Keeps late (log_made w number (acted pool (log_party number) what made)).0
log-made-kept w number pool what made kept all is =
    log-put-kept w number made.0 (pool_behind pool (log_party number) made.1) kept is (reply-bytes pool (log_party number) made.1 all)

obeyed-kept : {late : Bool} (w : World) (number : ℕ) (pool : List Pooled) (what : What) (event : LogEvent) (input : log_state.Input) (node : LogNode) → Keeps late w → All IsBytes pool
    → log_at w number ≡ Some node → IsLogInput input → IsPlain input → Keeps late (log_made w number (log_obeyed pool number what event input node)).0
unfolding log_obeyed
obeyed-kept w number pool what event input node kept all there is plain =
    log-made-kept w number pool what (log_does node node.keys event (row node.core input)) kept all (log-does-kept node event input (log-at-kept w number node kept there) is plain)

log-delivered-kept : {late : Bool} (w : World) (message number : ℕ) (node : LogNode) → Keeps late w → log_at w number ≡ Some node
    → Keeps late (log_made w number (log_delivered w.pool message number node)).0
unfolding log_delivered log_obeyed
log-delivered-kept w message number node kept there =
    obeyed-kept w number (noted_in w.pool message (log_party number)) (whats.Take message) (events.Take message) (log_state.takes (bytes_of (numbered w.pool message))) node kept
    (noted-bytes w.pool message (log_party number) kept.each_message) there (delivered-bytes w.pool message kept.each_message) tt

log-rolled-kept : {late : Bool} (w : World) (number : ℕ) (next : KeyParts) (node : LogNode) → Keeps late w → log_at w number ≡ Some node → next_of node.keys ≡ Some next
    → Keeps late (log_made w number (log_rolled w.pool number next node)).0
unfolding log_rolled
log-rolled-kept w number next node kept there is =
    log-made-kept w number w.pool whats.Roll (log_does node (node.keys ++ next ∷ []) events.Roll (row node.core (log_state.rolls (public_of next)))) kept kept.each_message (log-rolls-kept node next (log-at-kept w number node kept there) is)

-- ---- steps of authorities

authority-made-kept : {late : Bool} (w : World) (number : ℕ) (pool : List Pooled) (what : What) (made : AuthorityNode × Reply) → Keeps late w → All IsBytes pool → KeepsAuthority made.0
    → Keeps late (authority_made w number (acted pool (authority_party number) what made)).0
authority-made-kept w number pool what made kept all is =
    authority-put-kept w number made.0 (pool_behind pool (authority_party number) made.1) kept is (reply-bytes pool (authority_party number) made.1 all)

authority-delivered-kept : {late : Bool} (says : Outcome) (w : World) (message number : ℕ) (node : AuthorityNode) → Keeps late w → authority_at w number ≡ Some node
    → Keeps late (authority_made w number (authority_delivered says w.pool message number node)).0
unfolding authority_delivered
authority-delivered-kept says w message number node kept there =
    authority-made-kept w number (noted_in w.pool message (authority_party number)) (whats.Take message)
    (authority_took says node (bytes_of (numbered w.pool message))) kept (noted-bytes w.pool message (authority_party number) kept.each_message)
    (authority-took-kept says node (bytes_of (numbered w.pool message)) (authority-at-kept w number node kept there) (delivered-bytes w.pool message kept.each_message))

authority-rolled-kept : {late : Bool} (w : World) (number : ℕ) (next : KeyParts) (node : AuthorityNode) → Keeps late w → authority_at w number ≡ Some node → next_of node.keys ≡ Some next
    → Keeps late (authority_made w number (authority_rolled w.pool number next node)).0
unfolding authority_rolled
authority-rolled-kept w number next node kept there is =
    authority-made-kept w number w.pool whats.Roll (authority_turned node next (roll_row node.state (public_of next))) kept kept.each_message (authority-rolls-kept node next (authority-at-kept w number node kept there) is)

-- ---- owners

owner-made-kept : {late : Bool} (w : World) (pool : List Pooled) (number : ℕ) (what : What) (made : Owner × Reply) → Keeps late w → All IsBytes pool
    → Keeps late (owner_made w (acted pool (owner_party number) what made)).0
owner-made-kept w pool number what made kept all =
    pool-kept w (pool_behind pool (owner_party number) made.1) kept (reply-bytes pool (owner_party number) made.1 all)

owner-delivered-kept : {late : Bool} (w : World) (message number : ℕ) (me : Owner) → Keeps late w → Keeps late (owner_made w (owner_delivered w.pool message number me)).0
unfolding owner_delivered
owner-delivered-kept w message number me kept =
    owner-made-kept w (noted_in w.pool message (owner_party number)) number (whats.Take message) (owner_does me (step_row me (bytes_of (numbered w.pool message)))) kept
    (noted-bytes w.pool message (owner_party number) kept.each_message)

-- ---- the setup

-- whether the authorities are there in a phase
abbrev is-late : Phase → Bool
is-late p = nat_le 4 (place_of p)

-- before the line `authorities` nothing is said of the directory
early-kept : {late : Bool} (w : World) → Keeps late w → Keeps false w
early-kept w kept = record { directory = λ is. absurd cc; each_log = kept.each_log; each_authority = kept.each_authority; each_message = kept.each_message; each_judged = kept.each_judged }

-- behind it all is kept where a line may come
late-kept : (w : World) → is-late w.phase ≡ true → KeepsWorld w → Keeps true w
late-kept w late kept = subst (λ b. Keeps b w) late kept

-- what is made for each number
all-made : {X : Type 0} (P : X → Type 0) (f : ℕ → X) (a n : ℕ) → ((m : ℕ) → m < a + n → P (f m)) → All P (map f (range_with_len a n))
all-made P f a zero each = All-nil P
all-made P f a (suc n) each =
    All-cons P (f a) (map f (range_with_len (a + 1) n)) (each a (omega arith)) (all-made P f (a + 1) n (λ m less. each m (omega (arith, less))))

genesis-directory : (setup : Setup) (count : ℕ) (genesis : Directory) → genesis_of setup count ≡ Some genesis → IsDirectory genesis
genesis-directory setup count genesis h =
    made_keeps (map public_of (keys_for setup role.LogServer setup.logs)) (map public_of (keys_for setup role.Authority count)) setup.quorum genesis
    (gave (directory_of (map public_of (keys_for setup role.LogServer setup.logs)) (map public_of (keys_for setup role.Authority count)) setup.quorum) genesis h)

peopled-kept : {late : Bool} (w : World) (count : ℕ) (genesis : Directory) → genesis_of w.setup count ≡ Some genesis → Keeps late w → Keeps true (peopled w count genesis).0
peopled-kept w count genesis made kept =
    let long = genesis-long w.setup count genesis made in
    let is = made-of (map public_of (keys_for w.setup role.LogServer w.setup.logs)) (map public_of (keys_for w.setup role.Authority count)) w.setup.quorum genesis made in
    let d = genesis-directory w.setup count genesis made in
    let few : w.setup.logs ≤ 16 = let most = d.logs_most in let e = long.0 in omega (arith, most, e) in
    let fewer : count ≤ 16 = let most = d.authorities_most in let e = long.1 in omega (arith, most, e) in
    record {
      directory = λ late. d;
      each_log = all-made (λ slot. IfSome slot KeepsLog) (λ number. Some (fresh_log genesis number (key_for w.setup role.LogServer number))) 0 w.setup.logs
          (λ n less. fresh-log-kept genesis n (key_for w.setup role.LogServer n) d (omega (arith, less, few)));
      each_authority = all-made (λ slot. IfSome slot KeepsAuthority) (λ number. Some (founded_authority genesis number (key_for w.setup role.Authority number) (slice_get w.checks number))) 0 count
          (λ n less. new-authority-kept genesis n (key_for w.setup role.Authority n) (slice_get w.checks n) (omega (arith, less, fewer))
          (ap (λ (k : Directory). slice_get (keys_of k (authority_party n)) 0) (sym is)
          ∙ ap (λ keys. slice_get keys 0) (known-there w.setup role.Authority count n (omega (arith, less)))));
      each_message = kept.each_message;
      each_judged = kept.each_judged;
    }

without-kept : {late : Bool} (w : World) (r : Role) (number : ℕ) → Keeps late w → Keeps late (without w r number)
without-kept w role.LogServer number kept = record {
  directory = kept.directory;
  each_log = All-set (λ slot. IfSome slot KeepsLog) w.logs number None tt kept.each_log;
  each_authority = kept.each_authority;
  each_message = kept.each_message;
  each_judged = kept.each_judged;
}
without-kept w role.Authority number kept = record {
  directory = kept.directory;
  each_log = kept.each_log;
  each_authority = All-set (λ slot. IfSome slot KeepsAuthority) w.authorities number None tt kept.each_authority;
  each_message = kept.each_message;
  each_judged = kept.each_judged;
}
without-kept w role.Owner number kept = kept
without-kept w role.Client number kept = kept

-- what a line of the setup makes is kept that leads to this phase
abbrev SetupKept : World → Phase → Moved → Type 0
SetupKept w next made = may_come w.phase next ≡ true → KeepsWorld w → Keeps (is-late next) made.0

setup-change-kept : (w : World) → EachSetup w (SetupKept w)
setup-change-kept w = record {
  secret = λ secret comes kept. early-kept w kept;
  types = λ tree one comes kept. early-kept w kept;
  counts = λ count quorum counted comes kept. early-kept w kept;
  founds = λ count genesis made comes kept. peopled-kept w count genesis made kept;
  turns = λ who key honest comes kept. without-kept w who.role who.number (late-kept w (came w.phase comes) kept);
}

-- ---- deliveries

delivery-kept : {late : Bool} (says : Outcome) (w : World) (message : ℕ) (r : Role) (number : ℕ) (taker : Taker) → taker_in w r number ≡ Some taker → Keeps late w
    → Keeps late (delivery says w message number taker).0
delivery-kept says w message r number (a_log node) there kept = log-delivered-kept w message number node kept (log-takes w r number node there)
delivery-kept says w message r number (an_authority node) there kept = authority-delivered-kept says w message number node kept (authority-takes w r number node there)
delivery-kept says w message r number (an_owner me) there kept = owner-delivered-kept w message number me kept

-- ---- other lines

accepted-bytes : (judged : List AcceptedBytes) (t : AcceptedBytes) (v : Judgement) → All (λ (x : AcceptedBytes). AreBytes x.bytes) judged → AreBytes t.bytes → All (λ (x : AcceptedBytes). AreBytes x.bytes) (accepted_with judged t v)
accepted-bytes judged t v all are = by (is_accepted v)
  where
    by : (b : Bool) → All (λ (x : AcceptedBytes). AreBytes x.bytes) (if b then judged ++ t ∷ [] else judged)
    by true = All-push (λ (x : AcceptedBytes). AreBytes x.bytes) judged t all are
    by false = all

change-kept : (w : World) → Keeps true w → EachLine w (λ made. Keeps true made.0)
change-kept w kept = record {
  quiet = λ owners drafts said is. kept;
  posts = λ owners drafts front who sent is. pool-kept w _ kept (behind-bytes w.pool who sent.messages kept.each_message);
  signs = λ forger text. pool-kept w _ kept (raw-bytes w.pool (Some forger.party) Nobody (forged forger text) kept.each_message);
  injects = λ to bytes. pool-kept w _ kept (raw-bytes w.pool None to bytes kept.each_message);
  acts = λ number what made. owner-made-kept w w.pool number what made kept kept.each_message;
  proposes = λ number node there. obeyed-kept w number w.pool whats.Propose events.Propose log_state.proposes node kept kept.each_message there tt tt;
  passes = λ number node there. obeyed-kept w number w.pool whats.Pass events.Pass log_state.passes node kept kept.each_message there tt tt;
  log_rolls = λ number node next there is. log-rolled-kept w number next node kept there is;
  authority_rolls = λ number node next there is. authority-rolled-kept w number next node kept there is;
  delivers = λ says message p who taker has takes. delivery-kept says w message who.role who.number taker takes kept;
  checks = λ number node check said there is.
      authority-put-kept w number (record node { check = check }) w.pool kept (check-kept node check (authority-at-kept w number node kept there)) kept.each_message;
  learns = λ message p has. record {
    directory = λ is. knows-directory w.clients (note_of (message_in p.bytes)) (kept.directory is);
    each_log = kept.each_log;
    each_authority = kept.each_authority;
    each_message = kept.each_message;
    each_judged = kept.each_judged;
  };
  judges = λ message p name now age has.
      let t : AcceptedBytes = record { name = name; now = now; age = age; bytes = p.bytes } in
      record {
        directory = kept.directory;
        each_log = kept.each_log;
        each_authority = kept.each_authority;
        each_message = kept.each_message;
        each_judged = accepted-bytes w.judged t (verdict_on w.clients t) kept.each_judged (message-bytes w.pool message p kept.each_message has);
      };
}

-- ---- a step

-- what holds of a result under a premise
pub if-given : {A E : Type 0} (K : Type 0) (P : A → Type 0) (r : Result A E) → (K → IfOk r P) → IfOk r (λ x. K → P x)
if-given K P (Ok x) given = given
if-given K P (Err why) given = tt

-- what a line comes to, in its phase too
abbrev StillKept : World → Moved → Type 0
StillKept w made = KeepsWorld w → KeepsWorld made.0

step-kept : (says : Outcome) (w : World) (l : Line) → IfOk (step says w l) (StillKept w)
step-kept says w =
    step-holds (StillKept w) says w
    (λ l comes. IfOk-weaker (setup_effect w l) (SetupKept w (leads_to l)) _ (λ made kept. kept comes) (setup-each w (SetupKept w) (setup-change-kept w) l))
    (λ l comes. if-given (KeepsWorld w) (λ m. Keeps true m.0) (event_effect says w l) (λ kept. event-each w (λ made. Keeps true made.0) (change-kept w (late-kept w comes kept)) says l))

-- ---- a script

-- a delivery leaves the phase
pub same-phase : (says : Outcome) (w : World) (message : ℕ) (who : Party) (taker : Taker) → taker_at w who ≡ Some taker → (delivery says w message who.number taker).0.phase ≡ w.phase
same-phase says w message who taker takes = (delivery-makes says w message who.role who.number taker takes).phase

delivered-kept : (says : Outcome) (w : World) (message : ℕ) (who : Party) (taker : Taker) → taker_at w who ≡ Some taker → StillKept w (delivery says w message who.number taker)
delivered-kept says w message who taker takes kept =
    let v = (delivery says w message who.number taker).0 in
    subst (λ (p : Phase). Keeps (is-late p) v) (sym (same-phase says w message who taker takes)) (delivery-kept says w message who.role who.number taker takes kept)

pub kept-of-steps : HoldsOfSteps (λ w v said. KeepsWorld w → KeepsWorld v)
kept-of-steps = record {
  still = λ w kept. kept;
  both = λ u v w said later first second kept. second (first kept);
  steps = step-kept;
  delivers = λ says w message p who taker has takes. delivered-kept says w message who taker takes;
}

pub first-kept : (checks : List CheckParts) → KeepsWorld (first_world checks)
first-kept checks = record {
  directory = λ late. absurd cc;
  each_log = All-nil (λ slot. IfSome slot KeepsLog);
  each_authority = All-nil (λ slot. IfSome slot KeepsAuthority);
  each_message = All-nil (λ p. AreBytes p.bytes);
  each_judged = All-nil (λ t. AreBytes t.bytes);
}

pub run-kept : (saying : Saying) (checks : List CheckParts) (input : List ℕ) → KeepsWorld (run saying checks input).world
run-kept saying checks input = run-holds (λ w v said. KeepsWorld w → KeepsWorld v) kept-of-steps saying checks input (first-kept checks)

-- so each party's record is an honest one's
pub kept-records : (w : World) → KeepsWorld w → HasParties w → KeepsRecords w
kept-records w kept late = record {
  directory = kept.directory late;
  logs = λ number node there. (log-at-kept w number node kept there).core.log.honest;
  authorities = λ number node there. (authority-at-kept w number node kept there).state.honest;
  bytes = kept.each_judged;
}
