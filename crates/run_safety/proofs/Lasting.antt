-- What lasts in a run: each step and each delivery leaves honest parties with what they had, and keeps all that they know and saw
-- real, as long as no claim of the end is forged.
use Rattle.std.proofs.Common.{◌≡◌, ◌∙◌, ◌⊎◌, inl, inr, ℕ, List, refl, sym, ap, subst, arith, Bool, true, false, Option, Some, None, Ok, Err, IfOk}
use Rattle.std.specs.Prelude.{Contains, nat_le}
use Rattle.std.specs.Option.{option_map}
use Rattle.std.proofs.lemmas.Option.{same_Some}
use Rattle.std.proofs.lemmas.Result.{IfOk-weaker}
use Rattle.ar_base.proofs.Prefixes.{begins_itself, begins_on}
use Rattle.ar_base.specs.Prefixes.{BeginsWith}
use Rattle.ar_world.specs.ar_nodes.Parties.{AuthorityNode, CheckParts, LogNode}
use Rattle.ar_safety.specs.Held.{AcceptedBytes}
use Rattle.ar_statement.specs.Claims.{party}
use Rattle.ar_statement.specs.declared.party.Role.{Role}
use Rattle.ar_statement.specs.declared.party.Role.TheVariants as role
use Rattle.ar_world.proofs.Runs.{HoldsOfSteps, run-holds, step-holds}
use Rattle.ar_world.specs.ar_nodes.Pool.{Pooled}
use Rattle.ar_statement.specs.declared.party.Party.{Party}
use Rattle.owner_check.specs.declared.answer.Outcome.{Outcome}
use Rattle.ar_world.specs.Delivering.{Taker, delivery, taker_at}
use Rattle.ar_world.specs.Finding.{Effect, authority_at, log_at, message_at}
use Rattle.ar_world.specs.Founding.{is_peopled, may_come, place_of}
use Rattle.ar_world.specs.Records.{HasParties}
use Rattle.ar_world.specs.Run.{Saying, run}
use Rattle.ar_world.specs.State.{World, first_world}
use Rattle.ar_world.specs.Step.{event_effect, leads_to, setup_effect, step}
use Rattle.ar_world.specs.declared.phase.Phase.{Phase}
use Rattle.ar_world.specs.declared.phase.Phase.TheVariants as phase
use Rattle.party_keys.specs.Directory.{Directory, keys_of}
use Rattle.party_keys.specs.Signers.{Claimed}
use Rattle.script_text.specs.declared.line.Line.{Line}
use Rattle.run_safety.specs.Kept.{KeepsWorld}
use Rattle.run_safety.specs.Own.{Grows, KnowsReal, PartyParts, SawSigned}
use Rattle.run_safety.specs.Seats.{IsSeated, KnowsFirst}
use Rattle.run_safety.specs.Unforged.{authority_parts, log_parts, messages_of, parts_in, parts_of, shown}
use Rattle.run_safety.proofs.Founds.{Founds, first-begins}
use Rattle.run_safety.proofs.KeptLines.{authority-at-kept, first-kept, if-given, kept-of-steps, log-at-kept, same-phase}
use Rattle.run_safety.proofs.MovedLines.{MovesTo, Stood, delivery-moves, event-moves, setup-moves}
use Rattle.run_safety.proofs.Moves.{CameFrom, Moves}
use Rattle.run_safety.proofs.Parts.{Keeps, Stands, part_of, seated}
use Rattle.run_safety.proofs.PartySteps.{IsEnd, IsReal, later-party, learns-real, same-party, steps-real}
use Rattle.run_safety.proofs.RealKeys.{claim-signed}
use Rattle.run_safety.proofs.Shown.{IsEarly, Seen, bytes-later, founds-seen, moves-seen, shown-later}
use Rattle.run_safety.proofs.Lines.{early}
use Rattle.run_safety.proofs.Runs.{first-stands, keeps-of-steps, stays-early}

-- ---- from one world to a later one

-- before it nobody is there
abbrev pub IsBare : World → Type 0
IsBare w = IsEarly w → (r : Role) (number : ℕ) → parts_in w r number ≡ None

-- a party was there, and grew
pub record WasIn (w : World) (r : Role) (number : ℕ) (new : PartyParts) : Type 0 where
  pub old : PartyParts
  pub there : parts_in w r number ≡ Some old
  pub grows : Grows old new

-- each party of the later world was there, unless the earlier one is before the line `authorities`
pub record Later (w v : World) : Type 0 where
  pub messages : BeginsWith (messages_of v.pool) (messages_of w.pool)
  pub late : HasParties w → HasParties v
  pub genesis : HasParties w → v.genesis ≡ w.genesis
  pub parties : (r : Role) (number : ℕ) (new : PartyParts) → parts_in v r number ≡ Some new → WasIn w r number new ⊎ IsEarly w

pub later-itself : (w : World) → Later w w
later-itself w = record {
  messages = begins_itself (messages_of w.pool);
  late = λ late. late;
  genesis = λ late. refl;
  parties = λ r number new is. inl (record { old = new; there = is; grows = same-party new });
}

-- what is before a later one that is early is early
early-before : (u v : World) → (HasParties u → HasParties v) → IsEarly v → IsEarly u
early-before u v late before = by (nat_le 4 (place_of u.phase)) refl
  where
    by : (b : Bool) → nat_le 4 (place_of u.phase) ≡ b → b ≡ false
    by false is = refl
    by true is = let e : true ≡ false = sym (late is) ∙ before in absurd cc

pub later-on : (u v w : World) → Later u v → Later v w → Later u w
later-on u v w first second = record {
  messages = begins_on (messages_of u.pool) (messages_of v.pool) (messages_of w.pool) second.messages first.messages;
  late = λ late. second.late (first.late late);
  genesis = λ late. second.genesis (first.late late) ∙ first.genesis late;
  parties = λ r number new is. by r number new (second.parties r number new is);
}
  where
    grown : (r : Role) (number : ℕ) (new : PartyParts) (mid : WasIn v r number new) → WasIn u r number mid.old ⊎ IsEarly u → WasIn u r number new ⊎ IsEarly u
    grown r number new mid (inl was) = inl (record { old = was.old; there = was.there; grows = later-party was.old mid.old new was.grows mid.grows })
    grown r number new mid (inr before) = inr before

    by : (r : Role) (number : ℕ) (new : PartyParts) → WasIn v r number new ⊎ IsEarly v → WasIn u r number new ⊎ IsEarly u
    by r number new (inl mid) = grown r number new mid (first.parties r number mid.old mid.there)
    by r number new (inr before) = inr (early-before u v first.late before)

-- ---- what is real

-- the end of a run, in which no claim is forged
pub record IsFinal (f : World) : Type 0 where
  pub seated : IsSeated f
  pub end : IsEnd (parts_of f) (shown f)

-- all that is known and was seen in a world is real, by the end of a run
pub record Real (f w : World) : Type 0 where
  pub clients : KnowsReal (parts_of f) w.clients
  pub learned : SawSigned (parts_of f) w.learned
  pub judged : (t : AcceptedBytes) → Contains w.judged t → Contains (messages_of f.pool) t.bytes
  pub parties : (r : Role) (number : ℕ) (p : PartyParts) → parts_in w r number ≡ Some p → IsReal (parts_of f) p

-- a party that is there grows until the end
grows-to : (v f : World) (r : Role) (number : ℕ) (new p : PartyParts) → IsBare v → Later v f → parts_in v r number ≡ Some new → parts_in f r number ≡ Some p → Grows new p
grows-to v f r number new p bare on is its = elim (on.parties r number p its) [
  | inl was ↦ subst (λ (x : PartyParts). Grows x p) (same_Some was.old new (sym was.there ∙ is)) was.grows
  | inr before ↦ let e : None ≡ Some new = sym (bare before r number) ∙ is in absurd cc
]

moves-real : (f w v : World) → IsFinal f → Later v f → IsBare v → Moves w v → Real f w → Real f v
moves-real f w v final on bare moves real = record {
  clients = elim moves.clients [
    | inl same ↦ subst (KnowsReal (parts_of f)) (sym same) real.clients
    | inr learns ↦ learns-real (parts_of f) (shown f) (shown w) w.clients v.clients final.end within learns real.clients
  ];
  learned = λ t p is there. elim (moves.learned t there) [
    | inl before ↦ real.learned t p is before
    | inr verified ↦ claim-signed (parts_of f) (shown f) (shown w) w.clients t p final.end.none within real.clients is verified
  ];
  judged = λ t there. elim (moves.judged t there) [
    | inl before ↦ real.judged t before
    | inr has ↦ bytes-later w f t.bytes begins has
  ];
  parties = λ r number new is.
      let came : CameFrom w r number new = moves.parties r number new is in
      steps-real (parts_of f) (shown f) (shown w) (party r number) came.old new final.end within came.step
      (λ p its. grows-to v f r number new p bare on is its) (real.parties r number came.old came.there);
}
  where
    begins : BeginsWith (messages_of f.pool) (messages_of w.pool)
    begins = begins_on (messages_of w.pool) (messages_of v.pool) (messages_of f.pool) on.messages moves.messages

    within : (c : Claimed) → Contains (shown w) c → Contains (shown f) c
    within = shown-later w f begins

-- ---- the directory with which all begin

pub genesis-knows : (f : World) (r : Role) (number : ℕ) (p : PartyParts) → IsSeated f → parts_in f r number ≡ Some p → KnowsFirst (keys_of f.genesis (party r number)) p.ring
genesis-knows f role.LogServer number p seated is = by (log_at f number) refl is
  where
    by : (o : Option LogNode) → log_at f number ≡ o → option_map log_parts o ≡ Some p → KnowsFirst (keys_of f.genesis (party role.LogServer number)) p.ring
    by None there e = absurd cc
    by (Some node) there e =
        subst (λ (x : PartyParts). KnowsFirst (keys_of f.genesis (party role.LogServer number)) x.ring) (same_Some (log_parts node) p e) (seated.logs.own number node there).key
genesis-knows f role.Authority number p seated is = by (authority_at f number) refl is
  where
    by : (o : Option AuthorityNode) → authority_at f number ≡ o → option_map authority_parts o ≡ Some p → KnowsFirst (keys_of f.genesis (party role.Authority number)) p.ring
    by None there e = absurd cc
    by (Some node) there e =
        subst (λ (x : PartyParts). KnowsFirst (keys_of f.genesis (party role.Authority number)) x.ring) (same_Some (authority_parts node) p e) (seated.authorities.own number node there).key
genesis-knows f role.Owner number p seated is = absurd cc
genesis-knows f role.Client number p seated is = absurd cc

founds-real : (f w v : World) → IsFinal f → f.genesis ≡ v.genesis → BeginsWith (messages_of f.pool) (messages_of v.pool) → Founds w v → Real f w → Real f v
founds-real f w v final same begins founds real = record {
  clients = subst (KnowsReal (parts_of f)) (sym founds.clients) genesis;
  learned = subst (SawSigned (parts_of f)) (sym founds.learned) real.learned;
  judged = λ t there. real.judged t (subst (λ (taken : List AcceptedBytes). Contains taken t) founds.judged there);
  parties = λ r number p is. record {
    knows = subst (KnowsReal (parts_of f)) (sym (founds.knows r number p is)) genesis;
    saw = subst (SawSigned (parts_of f)) (sym (founds.saw r number p is)) (λ t q its there. absurd (omega (arith, there.1)));
  };
}
  where
    genesis : KnowsReal (parts_of f) v.genesis
    genesis who p is =
        first-begins (keys_of v.genesis who) p.ring (founds.one who)
        (subst (λ (d : Directory). KnowsFirst (keys_of d who) p.ring) same (genesis-knows f who.role who.number p final.seated is))

-- ---- a step

-- what is needed of a world
pub record Holds (w : World) : Type 0 where
  pub kept : KeepsWorld w
  pub stands : Stands (part_of w)
  pub bare : IsBare w

pub stood : (w : World) → Holds w → Stood w
stood w h = record {
  bytes = h.kept.each_message;
  logs = λ number node there. (log-at-kept w number node h.kept there, (h.stands.seated.logs.own number node there).number);
  authorities = λ number node there. (authority-at-kept w number node h.kept there, (h.stands.seated.authorities.own number node there).number);
}

-- what a step leaves
record Stepped (w v : World) : Type 0 where
  bare : IsBare v
  later : Later w v
  seen : Seen w → Seen v
  real : (f : World) → IsFinal f → Later v f → Real f w → Real f v

goes-on : (w v : World) → (IsEarly v → IsEarly w) → Moves w v → Holds w → Stepped w v
goes-on w v stays moves h = record {
  bare = bare;
  later = record {
    messages = moves.messages;
    late = late;
    genesis = λ l. moves.genesis;
    parties = λ r number new is.
        let came : CameFrom w r number new = moves.parties r number new is in
        inl (record { old = came.old; there = came.there; grows = came.step.grows });
  };
  seen = moves-seen w v stays moves;
  real = λ f final on r. moves-real f w v final on bare moves r;
}
  where
    bare : IsBare v
    bare before r number = by (parts_in v r number) refl
      where
        by : (o : Option PartyParts) → parts_in v r number ≡ o → o ≡ None
        by None is = refl
        by (Some new) is =
            let came : CameFrom w r number new = moves.parties r number new is in
            let e : None ≡ Some came.old = sym (h.bare (stays before) r number) ∙ came.there in
            absurd cc

    late : HasParties w → HasParties v
    late l = by (nat_le 4 (place_of v.phase)) refl
      where
        by : (b : Bool) → nat_le 4 (place_of v.phase) ≡ b → b ≡ true
        by true is = refl
        by false is = let e : true ≡ false = sym l ∙ stays is in absurd cc

founded : (w v : World) → IsEarly w → HasParties v → Founds w v → Stepped w v
founded w v before late founds = record {
  bare = λ early. let e : true ≡ false = sym late ∙ early in absurd cc;
  later = record {
    messages = founds.messages;
    late = λ l. late;
    genesis = λ l. let e : true ≡ false = sym l ∙ before in absurd cc;
    parties = λ r number new is. inr before;
  };
  seen = founds-seen w v before late founds;
  real = λ f final on r. founds-real f w v final (on.genesis late) on.messages founds r;
}

-- the same in another phase
pub moves-in : (w m : World) (next : Phase) → Moves w m → Moves w (record m { phase = next })
moves-in w m next moves = record { messages = moves.messages; genesis = moves.genesis; clients = moves.clients; learned = moves.learned; judged = moves.judged; parties = moves.parties }

pub founds-in : (w m : World) (next : Phase) → Founds w m → Founds w (record m { phase = next })
founds-in w m next founds = record { messages = founds.messages; clients = founds.clients; learned = founds.learned; judged = founds.judged; one = founds.one; knows = founds.knows; saw = founds.saw }

moved : (w m : World) (next : Phase) → may_come w.phase next ≡ true → MovesTo next w m → Holds w → Stepped w (record m { phase = next })
moved w m next comes (inl moves) h = goes-on w (record m { phase = next }) (stays-early w.phase next comes) (moves-in w m next moves) h
moved w m next comes (inr f) h =
    let before : IsEarly w = early w.phase (subst (λ (p : Phase). may_come w.phase p ≡ true) f.1 comes) in
    founded w (record m { phase = next }) before (subst (λ (p : Phase). is_peopled p ≡ true) (sym f.1) refl) (founds-in w m next f.0)

step-goes : (says : Outcome) (w : World) (l : Line) → IfOk (step says w l) (λ m. Holds w → Stepped w m.0)
step-goes says w =
    step-holds (λ m. Holds w → Stepped w m.0) says w
    (λ l comes. IfOk-weaker (setup_effect w l) (λ m. MovesTo (leads_to l) w m.0) _ (λ m. moved w m.0 (leads_to l) comes) (setup-moves w l))
    (λ l comes. IfOk-weaker (event_effect says w l) (λ m. Holds w → Moves w m.0) _ (λ m moves h. moved w m.0 phase.Running comes (inl (moves h)) h)
    (if-given (Holds w) (λ m. Moves w m.0) (event_effect says w l) (λ h. event-moves says w l (stood w h))))

delivered-goes : (says : Outcome) (w : World) (message : ℕ) (p : Pooled) (who : Party) (taker : Taker) → message_at w message ≡ Some p → taker_at w who ≡ Some taker → Holds w
    → Stepped w (delivery says w message who.number taker).0
delivered-goes says w message p who taker has takes h =
    let v = (delivery says w message who.number taker).0 in
    goes-on w v (λ before. ap (λ p. nat_le 4 (place_of p)) (sym (same-phase says w message who taker takes)) ∙ before)
    (delivery-moves says w message p who.role who.number taker (stood w h) has takes) h

-- ---- a run

-- what holds goes on to hold, lasts and stays real
pub record Goes (w v : World) : Type 0 where
  pub held : Holds v
  pub later : Later w v
  pub seen : Seen w → Seen v
  pub real : (f : World) → IsFinal f → Later v f → Real f w → Real f v

joined : (w : World) (made : Effect) → IfOk made (λ m. KeepsWorld w → KeepsWorld m.0) → IfOk made (λ m. Keeps (part_of w) (part_of m.0) m.1) → IfOk made (λ m. Holds w → Stepped w m.0)
    → IfOk made (λ m. Holds w → Goes w m.0)
joined w (Ok m) kept keeps goes = λ h. let s = goes h in record {
  held = record { kept = kept h.kept; stands = keeps.stands h.stands; bare = s.bare };
  later = s.later;
  seen = s.seen;
  real = s.real;
}
joined w (Err why) kept keeps goes = tt

pub goes-of-steps : HoldsOfSteps (λ w v said. Holds w → Goes w v)
goes-of-steps = record {
  still = λ w h. record { held = h; later = later-itself w; seen = λ s. s; real = λ f final on r. r };
  both = λ u v w said more first second h.
      let a = first h in
      let b = second a.held in
      record { held = b.held; later = later-on u v w a.later b.later; seen = λ s. b.seen (a.seen s); real = λ f final on r. b.real f final on (a.real f final (later-on v w f b.later on) r) };
  steps = λ says w l. joined w (step says w l) (kept-of-steps.steps says w l) (keeps-of-steps.steps says w l) (step-goes says w l);
  delivers = λ says w message p who taker has takes. joined w (Ok (delivery says w message who.number taker)) (kept-of-steps.delivers says w message p who taker has takes)
      (keeps-of-steps.delivers says w message p who taker has takes) (delivered-goes says w message p who taker has takes);
}

pub first-holds : (checks : List CheckParts) → Holds (first_world checks)
first-holds checks = record { kept = first-kept checks; stands = first-stands checks; bare = nobody }
  where
    nobody : IsBare (first_world checks)
    nobody before role.LogServer number = refl
    nobody before role.Authority number = refl
    nobody before role.Owner number = refl
    nobody before role.Client number = refl

pub run-goes : (saying : Saying) (checks : List CheckParts) (input : List ℕ) → Goes (first_world checks) (run saying checks input).world
run-goes saying checks input = run-holds (λ w v said. Holds w → Goes w v) goes-of-steps saying checks input (first-holds checks)
