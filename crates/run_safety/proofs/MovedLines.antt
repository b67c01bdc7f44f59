-- Each line makes a world move so.
use Rattle.run_safety.proofs.Moves.{CameFrom, Moves, authority-delivered-moves, authority-rolled-moves, check-moves, log-delivered-moves, log-rolled-moves, moves-with, no-claims, numbered-messages, obeyed-moves, owner-delivered-moves, owner-made-moves, posted-moves, quiet-moves, raw-moves, same-parts, shown-within, still-there}
use Rattle.std.proofs.Common.{ℕ, ◌≡◌, ◌∙◌, ◌⊎◌, inl, inr, zero, suc, ◌<◌, List, [], ◌∷◌, ◌++◌, All, refl, sym, ap, subst, Bool, true, false, Option, Some, None, Result, Ok, Err, IfOk}
use Rattle.std.specs.Prelude.{get_or, Contains, if◌then◌else◌, slice_set}
use Rattle.std.specs.Option.{option_map}
use Rattle.std.proofs.lemmas.List.Elements.{Contains-push_cases}
use Rattle.ar_base.proofs.Prefixes.{begins_itself}
use Rattle.ar_base.specs.Prefixes.{BeginsWith}
use Rattle.ar_claims.specs.Claimed.{claimed_in_bytes}
use Rattle.ar_claims.specs.Verified.{IsVerifiedIn}
use Rattle.ar_council.proofs.Seeing.{seen-exactly}
use Rattle.ar_world.specs.ar_nodes.Finding.{honest_in}
use Rattle.ar_world.specs.ar_nodes.Pool.{raw}
use Rattle.ar_statement.specs.Claims.{party}
use Rattle.ar_statement.specs.declared.text.SeenText.{SeenText}
use Rattle.ar_world.specs.Learning.{knows_by, rolls_by, rolls_with}
use Rattle.client_rule.proofs.Claiming.{roll-claims}
use Rattle.party_keys.specs.Learning.{Announced, after_learning, learned, learning, roll_claim}
use Rattle.party_keys.specs.Seen.{seen_of}
use Rattle.party_keys.specs.Signers.{Claimed}
use Rattle.party_keys.specs.declared.fault.LearnFault.{LearnFault}
use Rattle.party_keys.specs.declared.learning.Learned.{Learned}
use Rattle.run_safety.proofs.Notes.{noted-of}
use Rattle.run_safety.proofs.PartySteps.{Learns, learns-more}
use Rattle.run_safety.specs.Own.{PartyParts}
use Rattle.run_safety.specs.Unforged.{authority_parts, log_parts, messages_of, parts_in, shown}
use Rattle.ar_base.specs.Bytes.{AreBytes}
use Rattle.ar_message.specs.Messages.{message_in}
use Rattle.ar_world.specs.ar_nodes.Forging.{forged}
use Rattle.ar_world.specs.ar_nodes.Parties.{AuthorityNode, LogNode}
use Rattle.ar_world.specs.ar_nodes.Pool.{Pooled}
use Rattle.ar_safety.specs.Held.{AcceptedBytes, verdict_on}
use Rattle.ar_statement.specs.declared.party.Party.{Party}
use Rattle.ar_statement.specs.declared.party.Role.{Role}
use Rattle.ar_statement.specs.declared.party.Role.TheVariants as role
use Rattle.ar_world.proofs.EachLine.{EachLine, EachSetup, event-each, setup-each, with_drafts}
use Rattle.ar_world.specs.Delivering.{Taker, a_log, an_authority, an_owner, delivery, taker_in}
use Rattle.ar_world.specs.Finding.{authority_at, log_at, message_at}
use Rattle.ar_world.specs.Founding.{turned, without}
use Rattle.ar_world.specs.Judging.{accepted_with, is_accepted}
use Rattle.ar_world.specs.State.{World}
use Rattle.client_rule.specs.Notes.{note_of}
use Rattle.client_rule.specs.declared.judgement.Judgement.{Judgement}
use Rattle.ar_world.specs.log_core.State as log_state
use Rattle.owner_check.specs.declared.answer.Outcome.{Outcome}
use Rattle.report_text.specs.declared.happening.Target.TheVariants.{Nobody}
use Rattle.report_text.specs.declared.happening.What.TheVariants as whats
use Rattle.run_safety.specs.Kept.{KeepsAuthority, KeepsLog}
use Rattle.run_safety.proofs.KeptPool.{IsBytes, message-bytes}
use Rattle.ar_world.proofs.Sends.{authority-takes, log-takes}
use Rattle.lms_tree.specs.KeyParts.{KeyParts}
use Rattle.std.proofs.Common.{arith}
use Rattle.ar_world.specs.ar_nodes.declared.event.LogEvent.TheVariants as events
use Rattle.ar_world.specs.Step.{event_effect, leads_to, setup_effect}
use Rattle.ar_world.specs.declared.phase.Phase.{Phase}
use Rattle.ar_world.specs.declared.phase.Phase.TheVariants as phase
use Rattle.script_text.specs.declared.line.EventLine.{EventLine}
use Rattle.script_text.specs.declared.line.SetupLine.{SetupLine}
use Rattle.run_safety.proofs.Founds.{Founds, peopled-founds}

-- ---- the setup

-- who is left where one's place is empty
left-there : {X : Type 0} (parts : X → PartyParts) (xs : List (Option X)) (n m : ℕ) (p : PartyParts) → option_map parts (honest_in (slice_set xs n None) m) ≡ Some p → option_map parts (honest_in xs m) ≡ Some p
left-there parts [] n m p is = is
left-there parts (x ∷ xs) zero zero p is = absurd cc
left-there parts (x ∷ xs) zero (suc m) p is = is
left-there parts (x ∷ xs) (suc n) zero p is = is
left-there parts (x ∷ xs) (suc n) (suc m) p is = left-there parts xs n m p is

turned-away : (w v : World) (r : Role) (number : ℕ) → v.logs ≡ (without w r number).logs → v.authorities ≡ (without w r number).authorities
    → (k : Role) (m : ℕ) (p : PartyParts) → parts_in v k m ≡ Some p → CameFrom w k m p
turned-away w v r number logs authorities k m p is =
    still-there w k m p (by r k (sym (same-parts (without w r number) v logs authorities k m) ∙ is))
  where
    by : (r k : Role) → parts_in (without w r number) k m ≡ Some p → parts_in w k m ≡ Some p
    by role.LogServer role.LogServer is = left-there log_parts w.logs number m p is
    by role.LogServer role.Authority is = is
    by role.LogServer role.Owner is = is
    by role.LogServer role.Client is = is
    by role.Authority role.LogServer is = is
    by role.Authority role.Authority is = left-there authority_parts w.authorities number m p is
    by role.Authority role.Owner is = is
    by role.Authority role.Client is = is
    by role.Owner k is = is
    by role.Client k is = is

same-rest : (w : World) (r : Role) (number : ℕ) → ((without w r number).pool ≡ w.pool) × ((without w r number).genesis ≡ w.genesis) × ((without w r number).clients ≡ w.clients)
    × ((without w r number).learned ≡ w.learned) × ((without w r number).judged ≡ w.judged)
same-rest w role.LogServer number = (refl, refl, refl, refl, refl)
same-rest w role.Authority number = (refl, refl, refl, refl, refl)
same-rest w role.Owner number = (refl, refl, refl, refl, refl)
same-rest w role.Client number = (refl, refl, refl, refl, refl)

dishonest-moves : (w : World) (who : Party) (key : KeyParts) → Moves w (turned w who key)
dishonest-moves w who key =
    let rest = same-rest w who.role who.number in
    moves-with w (turned w who key) (subst (λ (p : List Pooled). BeginsWith (messages_of p) (messages_of w.pool)) (sym rest.0) (begins_itself (messages_of w.pool)))
    rest.1 rest.2 rest.3 rest.4 (turned-away w (turned w who key) who.role who.number refl refl)

-- what a line makes that leads to a phase: the line `authorities` founds, and each other moves
abbrev pub MovesTo : Phase → World → World → Type 0
MovesTo next w v = Moves w v ⊎ (Founds w v × (next ≡ phase.AuthoritiesMade))

setup-change-moves : (w : World) → EachSetup w (λ next made. MovesTo next w made.0)
setup-change-moves w = record {
  secret = λ secret. inl (quiet-moves w _ refl refl refl refl refl refl refl);
  types = λ tree one. inl (quiet-moves w _ refl refl refl refl refl refl refl);
  counts = λ count quorum counted. inl (quiet-moves w _ refl refl refl refl refl refl refl);
  founds = λ count genesis made. inr (peopled-founds w count genesis made, refl);
  turns = λ who key honest. inl (dishonest-moves w who key);
}

pub setup-moves : (w : World) (l : SetupLine) → IfOk (setup_effect w l) (λ made. MovesTo (leads_to l) w made.0)
setup-moves w = setup-each w (λ next made. MovesTo next w made.0) (setup-change-moves w)

-- ---- what is needed of a world

-- its parties are kept, and each has the number of its place
pub record Stood (w : World) : Type 0 where
  pub bytes : All IsBytes w.pool
  pub logs : (number : ℕ) (node : LogNode) → log_at w number ≡ Some node → KeepsLog node × (node.core.log.me ≡ number)
  pub authorities : (number : ℕ) (node : AuthorityNode) → authority_at w number ≡ Some node → KeepsAuthority node × (node.state.me ≡ number)

-- ---- deliveries

pub delivery-moves : (says : Outcome) (w : World) (message : ℕ) (p : Pooled) (r : Role) (number : ℕ) (taker : Taker) → Stood w → message_at w message ≡ Some p → taker_in w r number ≡ Some taker
    → Moves w (delivery says w message number taker).0
delivery-moves says w message p r number (a_log node) stood has takes =
    let there = log-takes w r number node takes in
    log-delivered-moves w message number p node stood.bytes (stood.logs number node there).1 there has
delivery-moves says w message p r number (an_authority node) stood has takes =
    authority-delivered-moves says w message number p node stood.bytes (authority-takes w r number node takes) has
delivery-moves says w message p r number (an_owner me) stood has takes = owner-delivered-moves w message number me

-- ---- clients

-- the only one of a list
only-one : (x t : SeenText) → Contains (x ∷ []) t → x ≡ t
only-one x t has = at has.0 has.1 has.2
  where
    at : (k : ℕ) → k < 1 → get_or (x ∷ []) k t ≡ t → x ≡ t
    at zero less same = same
    at (suc k) less same = absurd (omega (arith, less))

-- what clients know behind a note
knows-learns : (w : World) (p : Pooled) (note : Option Announced) → note_of (message_in p.bytes) ≡ note → AreBytes p.bytes → ((c : Claimed) → Contains (claimed_in_bytes p.bytes) c → Contains (shown w) c)
    → (knows_by w.clients note ≡ w.clients) ⊎ Learns (shown w) w.clients (knows_by w.clients note)
knows-learns w p None is are within = inl refl
knows-learns w p (Some a) is are within = by (learned w.clients a) refl
  where
    by : (r : Result Learned LearnFault) → learned w.clients a ≡ r → (after_learning w.clients a ≡ w.clients) ⊎ Learns (shown w) w.clients (after_learning w.clients a)
    by (Ok how) at = inr (learns-more (claimed_in_bytes p.bytes) (shown w) w.clients (after_learning w.clients a) within (record {
      note = a;
      is = refl;
      noted = noted-of p.bytes a are is;
      claimed = roll-claims w.clients p.bytes a how is at;
    }))
    by (Err fault) at = inl (ap (λ r. learning r w.clients a) at)

-- and the Rolls that they learnt
rolls-seen : (w : World) (p : Pooled) (note : Option Announced) → note_of (message_in p.bytes) ≡ note → ((c : Claimed) → Contains (claimed_in_bytes p.bytes) c → Contains (shown w) c)
    → (t : SeenText) → Contains (rolls_by w.clients w.learned note) t → Contains w.learned t ⊎ IsVerifiedIn w.clients (shown w) t
rolls-seen w p None is within t there = inl there
rolls-seen w p (Some a) is within t there = by (learned w.clients a) refl there
  where
    new : SeenText
    new = seen_of a.party (roll_claim a)

    by : (r : Result Learned LearnFault) → learned w.clients a ≡ r → Contains (rolls_with w.learned new r) t → Contains w.learned t ⊎ IsVerifiedIn w.clients (shown w) t
    by (Err why) at there = inl there
    by (Ok how) at there =
        let v = roll-claims w.clients p.bytes a how is at in
        elim ((seen-exactly w.learned (new ∷ []) t).0 there) [
          | inl before ↦ inl before
          | inr its ↦
              let same : new ≡ t = only-one new t its in
              inr (subst (IsVerifiedIn w.clients (shown w)) same (v.0, within (record { party = new.party; text = new.text; signature = v.0 }) v.1, v.2))
        ]

accepted-held : (w : World) (message : ℕ) (p : Pooled) (t : AcceptedBytes) (v : Judgement) → message_at w message ≡ Some p → t.bytes ≡ p.bytes → (x : AcceptedBytes) → Contains (accepted_with w.judged t v) x
    → Contains w.judged x ⊎ Contains (messages_of w.pool) x.bytes
accepted-held w message p t v has bytes x there = by (is_accepted v) there
  where
    by : (b : Bool) → Contains (if b then w.judged ++ t ∷ [] else w.judged) x → Contains w.judged x ⊎ Contains (messages_of w.pool) x.bytes
    by false there = inl there
    by true there = elim (Contains-push_cases w.judged t x there) [
      | inl before ↦ inl before
      | inr same ↦ inr (subst (Contains (messages_of w.pool)) (sym bytes ∙ ap (λ (y : AcceptedBytes). y.bytes) same) (numbered-messages w.pool message p has))
    ]

-- ---- other lines

change-moves : (w : World) → Stood w → EachLine w (λ made. Moves w made.0)
change-moves w stood = record {
  quiet = λ owners drafts said is. quiet-moves w _ refl refl refl refl refl refl refl;
  posts = λ owners drafts front who sent is. posted-moves w (with_drafts w owners drafts) who sent refl refl refl refl refl refl refl;
  signs = λ forger text. raw-moves w _ (raw (Some forger.party) Nobody (forged forger text)) refl refl refl refl refl refl refl;
  injects = λ to bytes. raw-moves w _ (raw None to bytes) refl refl refl refl refl refl refl;
  acts = λ number what made. owner-made-moves w w.pool number what made refl;
  proposes = λ number node there.
      obeyed-moves w number w.pool whats.Propose events.Propose log_state.proposes node (stood.logs number node there).1 there refl tt tt (no-claims w);
  passes = λ number node there.
      obeyed-moves w number w.pool whats.Pass events.Pass log_state.passes node (stood.logs number node there).1 there refl tt tt (no-claims w);
  log_rolls = λ number node next there is.
      let stands = stood.logs number node there in
      log-rolled-moves w number next node stands.0 stands.1 there;
  authority_rolls = λ number node next there is.
      let stands = stood.authorities number node there in
      authority-rolled-moves w number next node stands.0 stands.1 there;
  delivers = λ says message p who taker has takes. delivery-moves says w message p who.role who.number taker stood has takes;
  checks = λ number node check said there is. check-moves w number node check there;
  learns = λ message p has.
      let within = shown-within w message p has in
      record {
        messages = begins_itself (messages_of w.pool);
        genesis = refl;
        clients = knows-learns w p (note_of (message_in p.bytes)) refl (message-bytes w.pool message p stood.bytes has) within;
        learned = rolls-seen w p (note_of (message_in p.bytes)) refl within;
        judged = λ t there. inl there;
        parties = λ r number new is. still-there w r number new is;
      };
  judges = λ message p name now age has.
      let t : AcceptedBytes = record { name = name; now = now; age = age; bytes = p.bytes } in
      record {
        messages = begins_itself (messages_of w.pool);
        genesis = refl;
        clients = inl refl;
        learned = λ x its. inl its;
        judged = accepted-held w message p t (verdict_on w.clients t) has refl;
        parties = λ r number new is. still-there w r number new is;
      };
}

pub event-moves : (says : Outcome) (w : World) (l : EventLine) → Stood w → IfOk (event_effect says w l) (λ made. Moves w made.0)
event-moves says w l stood = event-each w (λ made. Moves w made.0) (change-moves w stood) says l
