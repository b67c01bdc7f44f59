-- Where no claim of a run is forged by the keys that clients know at its end, these are real.
use Rattle.std.proofs.Common.{◌≡◌, ◌∙◌, ◌⊎◌, inl, inr, ℕ, List, [], ◌∷◌, append-nil, refl, sym, subst, Bool, true, false, Some, Result, Ok, Err, IfOk}
use Rattle.std.specs.Prelude.{Contains}
use Rattle.std.proofs.lemmas.Result.{IfOk-weaker}
use Rattle.ar_base.proofs.Prefixes.{begins_itself, begins_on}
use Rattle.ar_base.specs.Prefixes.{BeginsWith}
use Rattle.ar_council.proofs.Seeing.{one_party}
use Rattle.ar_world.specs.ar_nodes.Parties.{CheckParts}
use Rattle.ar_statement.specs.Claims.{is_party, text_of}
use Rattle.ar_statement.specs.declared.party.Party.{Party}
use Rattle.ar_world.proofs.Runs.{HoldsOfSteps, run-holds, step-holds}
use Rattle.ar_world.specs.Delivering.{delivery}
use Rattle.ar_world.specs.Finding.{Effect}
use Rattle.ar_world.specs.Founding.{is_peopled}
use Rattle.ar_world.specs.Records.{HasParties}
use Rattle.ar_world.specs.Run.{Saying, run}
use Rattle.ar_world.specs.State.{World, first_world}
use Rattle.ar_world.specs.Step.{event_effect, leads_to, setup_effect, step}
use Rattle.ar_world.specs.declared.phase.Phase.{Phase}
use Rattle.ar_world.specs.declared.phase.Phase.TheVariants as phase
use Rattle.key_roll.specs.Book.{texts_of}
use Rattle.owner_check.specs.declared.answer.Outcome.{Outcome}
use Rattle.party_keys.proofs.Touching.{learning_stays, new_is_last}
use Rattle.party_keys.specs.Directory.{Directory, keys_of}
use Rattle.party_keys.specs.Learning.{Announced, after_learning, learned, learning, roll_claim}
use Rattle.party_keys.specs.Signatures.{verified}
use Rattle.party_keys.specs.Signers.{Claimed}
use Rattle.party_keys.specs.declared.fault.LearnFault.{LearnFault}
use Rattle.party_keys.specs.declared.learning.Learned.{Learned}
use Rattle.party_keys.specs.declared.learning.Learned.TheVariants.{Again, New}
use Rattle.script_text.specs.declared.line.Line.{Line}
use Rattle.run_safety.specs.Own.{IsOwned, IsValidBy, KnowsReal, PartyParts}
use Rattle.run_safety.specs.Seats.{IsSeated, KnowsFirst}
use Rattle.run_safety.specs.Unforged.{messages_of, parts_of, shown}
use Rattle.run_safety.proofs.Forged.{first-real}
use Rattle.run_safety.proofs.Founds.{Founds, first-begins}
use Rattle.run_safety.proofs.KeptLines.{if-given}
use Rattle.run_safety.proofs.Lasting.{Goes, Holds, Later, first-holds, founds-in, genesis-knows, goes-of-steps, later-itself, later-on, moves-in, stood}
use Rattle.run_safety.proofs.MovedLines.{MovesTo, delivery-moves, event-moves, setup-moves}
use Rattle.run_safety.proofs.Moves.{Moves}
use Rattle.run_safety.proofs.PartySteps.{Learns}
use Rattle.run_safety.proofs.RealKeys.{other-party, signed-real, under-real}
use Rattle.run_safety.proofs.Shown.{shown-later}

-- ---- the end of a run

-- no claim is forged by the keys that clients know then
pub record IsFair (f : World) : Type 0 where
  pub seated : IsSeated f
  pub each : (party : Party) (p : PartyParts) → parts_of f party ≡ Some p → IsOwned party p
  pub fair : (c : Claimed) (p : PartyParts) → parts_of f c.party ≡ Some p → Contains (shown f) c → IsValidBy (keys_of f.clients c.party) c → Contains (texts_of p.book) c.text

-- a directory has what another knows, by generation, and perhaps more
abbrev Begins : Directory → Directory → Type 0
Begins later keys = (who : Party) → BeginsWith (keys_of later who) (keys_of keys who)

begins-later : (one other last : Directory) → Begins last other → Begins other one → Begins last one
begins-later one other last more less = λ who. begins_on (keys_of one who) (keys_of other who) (keys_of last who) (more who) (less who)

-- from a world to the end
record Ends (v f : World) : Type 0 where
  fair : IsFair f
  later : Later v f
  known : Begins f.clients v.clients

-- ---- what clients know from one world to a later one

-- they know what they knew, and what is new is real
record Adds (w v : World) : Type 0 where
  begins : Begins v.clients w.clients
  real : (f : World) → Ends v f → KnowsReal (parts_of f) w.clients → KnowsReal (parts_of f) v.clients

-- or they know all anew, and that is real
abbrev Anew : World → Type 0
Anew v = (f : World) → Ends v f → KnowsReal (parts_of f) v.clients

abbrev Knows : World → World → Type 0
Knows w v = Adds w v ⊎ Anew v

knows-itself : (w : World) → Knows w w
knows-itself w = inl (record { begins = λ who. begins_itself (keys_of w.clients who); real = λ f ends real. real })

ends-before : (v w f : World) → Later v w → Begins w.clients v.clients → Ends w f → Ends v f
ends-before v w f on begins ends = record {
  fair = ends.fair;
  later = later-on v w f on ends.later;
  known = begins-later v.clients w.clients f.clients ends.known begins;
}

knows-on : (u v w : World) → Later v w → Knows u v → Knows v w → Knows u w
knows-on u v w on (inl a) (inl b) = inl (record {
  begins = begins-later u.clients v.clients w.clients b.begins a.begins;
  real = λ f ends real. b.real f ends (a.real f (ends-before v w f on b.begins ends) real);
})
knows-on u v w on (inr a) (inl b) = inr (λ f ends. b.real f ends (a f (ends-before v w f on b.begins ends)))
knows-on u v w on (inl a) (inr b) = inr b
knows-on u v w on (inr a) (inr b) = inr b

-- ---- steps

-- what a directory learns comes behind what it knows
learning-adds : (keys : Directory) (a : Announced) → Begins (after_learning keys a) keys
learning-adds keys a who = by (is_party who a.party) refl
  where
    Adding : Directory → Party → Type 0
    Adding later party = BeginsWith (keys_of later party) (keys_of keys party)

    learns : (r : Result Learned LearnFault) → learned keys a ≡ r → Adding (learning r keys a) a.party
    learns (Ok New) at =
        subst (λ (r : Result Learned LearnFault). Adding (learning r keys a) a.party) at (a.key ∷ [], new_is_last keys a at)
    learns (Ok Again) at = begins_itself (keys_of keys a.party)
    learns (Err fault) at = begins_itself (keys_of keys a.party)

    by : (b : Bool) → is_party who a.party ≡ b → Adding (after_learning keys a) who
    by false not = ([], learning_stays keys a who (other-party who a.party not) ∙ sym (append-nil (keys_of keys who)))
    by true same = subst (Adding (after_learning keys a)) (sym (one_party who a.party same)) (learns (learned keys a) refl)

learns-adds : (w v : World) → BeginsWith (messages_of v.pool) (messages_of w.pool) → Learns (shown w) w.clients v.clients → Adds w v
unfolding verified
learns-adds w v messages l = record {
  begins = begins;
  real = λ f ends real.
      subst (KnowsReal (parts_of f)) (sym l.is) (signed-real (parts_of f) (shown w) w.clients l.note (signed f ends) ends.fair.each l.noted l.claimed real);
}
  where
    begins : Begins v.clients w.clients
    begins = subst (λ (d : Directory). Begins d w.clients) (sym l.is) (learning-adds w.clients l.note)

    claim : Claimed
    claim = record { party = l.note.party; text = text_of (roll_claim l.note); signature = l.claimed.0 }

    signed : (f : World) → Ends v f → (p : PartyParts) → parts_of f l.note.party ≡ Some p → Contains (texts_of p.book) (text_of (roll_claim l.note))
    signed f ends p is =
        ends.fair.fair claim p is (shown-later w f (begins_on (messages_of w.pool) (messages_of v.pool) (messages_of f.pool) ends.later.messages messages) claim l.claimed.1)
        (under-real (keys_of f.clients l.note.party) (keys_of w.clients l.note.party) l.note.party claim.text claim.signature
        (begins-later w.clients v.clients f.clients ends.known begins l.note.party) l.claimed.2)

moves-know : (w v : World) → Moves w v → Knows w v
moves-know w v moves = elim moves.clients [
  | inl same ↦ inl (record {
    begins = subst (λ (d : Directory). Begins d w.clients) (sym same) (λ who. begins_itself (keys_of w.clients who));
    real = λ f ends real. subst (KnowsReal (parts_of f)) (sym same) real;
  })
  | inr learns ↦ inl (learns-adds w v moves.messages learns)
]

founds-know : (w v : World) → HasParties v → Founds w v → Knows w v
founds-know w v late founds = inr (λ f ends. subst (KnowsReal (parts_of f)) (sym founds.clients) (genesis f ends))
  where
    genesis : (f : World) → Ends v f → KnowsReal (parts_of f) v.genesis
    genesis f ends who p is =
        first-begins (keys_of v.genesis who) p.ring (founds.one who)
        (subst (λ (d : Directory). KnowsFirst (keys_of d who) p.ring) (ends.later.genesis late) (genesis-knows f who.role who.number p ends.fair.seated is))

moved-know : (w m : World) (next : Phase) → MovesTo next w m → Knows w (record m { phase = next })
moved-know w m next (inl moves) = moves-know w (record m { phase = next }) (moves-in w m next moves)
moved-know w m next (inr f) = founds-know w (record m { phase = next }) (subst (λ (p : Phase). is_peopled p ≡ true) (sym f.1) refl) (founds-in w m next f.0)

step-know : (says : Outcome) (w : World) (l : Line) → IfOk (step says w l) (λ m. Holds w → Knows w m.0)
step-know says w =
    step-holds (λ m. Holds w → Knows w m.0) says w
    (λ l comes. IfOk-weaker (setup_effect w l) (λ m. MovesTo (leads_to l) w m.0) _ (λ m moves h. moved-know w m.0 (leads_to l) moves) (setup-moves w l))
    (λ l comes. IfOk-weaker (event_effect says w l) (λ m. Holds w → Moves w m.0) _ (λ m moves h. moved-know w m.0 phase.Running (inl (moves h)))
    (if-given (Holds w) (λ m. Moves w m.0) (event_effect says w l) (λ h. event-moves says w l (stood w h))))

-- ---- a run

-- it goes on, and clients know
record GoesKnowing (w v : World) : Type 0 where
  goes : Goes w v
  knows : Knows w v

joined : (w : World) (made : Effect) → IfOk made (λ m. Holds w → Goes w m.0) → IfOk made (λ m. Holds w → Knows w m.0) → IfOk made (λ m. Holds w → GoesKnowing w m.0)
joined w (Ok m) goes knows = λ h. record { goes = goes h; knows = knows h }
joined w (Err why) goes knows = tt

knowing-of-steps : HoldsOfSteps (λ w v said. Holds w → GoesKnowing w v)
knowing-of-steps = record {
  still = λ w h. record { goes = goes-of-steps.still w h; knows = knows-itself w };
  both = λ u v w said more first second h.
      let a = first h in
      let b = second a.goes.held in
      record { goes = goes-of-steps.both u v w said more (λ _. a.goes) (λ _. b.goes) h; knows = knows-on u v w b.goes.later a.knows b.knows };
  steps = λ says w l. joined w (step says w l) (goes-of-steps.steps says w l) (step-know says w l);
  delivers = λ says w message p who taker has takes h. record {
    goes = goes-of-steps.delivers says w message p who taker has takes h;
    knows = moves-know w (delivery says w message who.number taker).0
        (delivery-moves says w message p who.role who.number taker (stood w h) has takes);
  };
}

pub fair-knows : (saying : Saying) (checks : List CheckParts) (input : List ℕ) → IsFair (run saying checks input).world
    → KnowsReal (parts_of (run saying checks input).world) (run saying checks input).world.clients
fair-knows saying checks input fair =
    by (run-holds (λ w v said. Holds w → GoesKnowing w v) knowing-of-steps saying checks input (first-holds checks)).knows
  where
    f : World
    f = (run saying checks input).world

    ends : Ends f f
    ends = record { fair = fair; later = later-itself f; known = λ who. begins_itself (keys_of f.clients who) }

    by : Knows (first_world checks) f → KnowsReal (parts_of f) f.clients
    by (inl adds) = adds.real f ends (first-real f checks).clients
    by (inr anew) = anew f ends
