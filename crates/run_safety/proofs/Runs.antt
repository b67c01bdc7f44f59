-- What a step, the deliveries of a `flush` and a whole script keep: who sits where, and what clients hold.
use Rattle.std.proofs.Common.{◌≡◌, ◌∙◌, ◌≤◌, ℕ, List, [], arith, refl, sym, ap, subst, true, false, IfOk}
use Rattle.std.specs.Prelude.{length, map, nat_le, nat_lt}
use Rattle.std.specs.List.{filter_map}
use Rattle.std.proofs.lemmas.Bool.{false_from_ne_true, leb-true, ltb-true}
use Rattle.std.proofs.lemmas.List.Elements.{All-nil}
use Rattle.std.proofs.lemmas.Result.{IfOk-weaker}
use Rattle.ar_safety.specs.Held.{IsAccepting, verdict_on}
use Rattle.ar_world.specs.Founding.{may_come, place_of}
use Rattle.ar_world.specs.ar_nodes.Parties.{CheckParts}
use Rattle.ar_world.specs.Records.{held_of}
use Rattle.ar_world.specs.Run.{Saying, run}
use Rattle.ar_world.specs.State.{Moved, World, first_world, no_directory}
use Rattle.ar_world.specs.Step.{event_effect, leads_to, setup_effect, step}
use Rattle.ar_world.specs.declared.phase.Phase.{Phase}
use Rattle.ar_world.specs.declared.phase.Phase.TheVariants as phase
use Rattle.ar_world.proofs.Runs.{HoldsOfSteps, run-holds, step-holds}
use Rattle.owner_check.specs.declared.answer.Outcome.{Outcome}
use Rattle.script_text.specs.declared.line.Line.{Line}
use Rattle.run_safety.specs.Headline.{accepted_in, dishonest_in, said_by}
use Rattle.run_safety.specs.Seats.{IsSeated}
use Rattle.run_safety.proofs.Lines.{delivery-makes, event-makes, setup-makes}
use Rattle.run_safety.proofs.Parts.{Keeps, Makes, Stands, both, part_of, seated, still}

-- ---- a step

-- what a line comes to keeps all, in its phase too
abbrev KeptBy : World → Moved → Type 0
KeptBy w made = Keeps (part_of w) (part_of made.0) made.1

-- what is below an early place is early
below : (n k : ℕ) → nat_lt n k ≡ true → k ≤ 3 → nat_le 4 n ≡ false
below n k less most = false_from_ne_true (nat_le 4 n) (λ e. let one = leb-true 4 n e in let other = ltb-true n k less in omega (arith, one, other, most))

-- a line that leads to an early phase came in an early one
pub stays-early : (now next : Phase) → may_come now next ≡ true → nat_le 4 (place_of next) ≡ false → nat_le 4 (place_of now) ≡ false
stays-early now phase.Beginning comes before = below (place_of now) 0 comes (omega arith)
stays-early now phase.SecretTold comes before = below (place_of now) 1 comes (omega arith)
stays-early now phase.KeysTold comes before = below (place_of now) 2 comes (omega arith)
stays-early now phase.LogsMade comes before = below (place_of now) 3 comes (omega arith)
stays-early now phase.AuthoritiesMade comes before = absurd cc
stays-early now phase.DishonestTold comes before = absurd cc
stays-early now phase.Running comes before = absurd cc

led-keeps : (w : World) (next : Phase) → may_come w.phase next ≡ true → (made : Moved) → Makes w made → KeptBy w (record made.0 { phase = next }, made.1)
led-keeps w next comes made makes = record {
  stands = λ s.
      let was = makes.keeps.stands s in
      record {
        seated = record { council = was.seated.council; known = was.seated.known; logs = was.seated.logs; authorities = was.seated.authorities; whole = was.seated.whole; taken = was.seated.taken };
        bare = λ before.
            let bare = was.bare (ap (λ p. nat_le 4 (place_of p)) makes.phase ∙ stays-early w.phase next comes before) in
            record { dishonest = bare.dishonest; judged = bare.judged };
        counted = was.counted;
        founded = was.founded;
      };
  told = makes.keeps.told;
  named = makes.keeps.named;
}

step-keeps : (says : Outcome) (w : World) (l : Line) → IfOk (step says w l) (KeptBy w)
step-keeps says w =
    step-holds (KeptBy w) says w
    (λ l comes. IfOk-weaker (setup_effect w l) (λ m. may_come w.phase (leads_to l) ≡ true → Makes w m) _ (λ m makes. led-keeps w (leads_to l) comes m (makes comes)) (setup-makes w l))
    (λ l comes. IfOk-weaker (event_effect says w l) (Makes w) _ (led-keeps w phase.Running comes) (event-makes says w l comes))

-- ---- a script

-- what was done since keeps all
pub keeps-of-steps : HoldsOfSteps (λ w v said. Keeps (part_of w) (part_of v) said)
keeps-of-steps = record {
  still = λ w. (still (part_of w) (part_of w) [] refl refl).keeps;
  both = λ u v w said later. both (part_of u) (part_of v) (part_of w) said later;
  steps = step-keeps;
  delivers = λ says w message p who taker has takes. (delivery-makes says w message who.role who.number taker takes).keeps;
}

pub run-keeps : (saying : Saying) (checks : List CheckParts) (input : List ℕ)
    → Keeps (part_of (first_world checks)) (part_of (run saying checks input).world) (run saying checks input).said
run-keeps saying checks input = run-holds (λ w v said. Keeps (part_of w) (part_of v) said) keeps-of-steps saying checks input

-- before the first line nobody is there
pub first-stands : (checks : List CheckParts) → Stands (part_of (first_world checks))
first-stands checks = record {
  seated = record {
    council = refl;
    known = λ who key is. is;
    logs = record { all = refl; own = λ number node there. absurd cc; empty = λ number less. absurd (omega (arith, less)) };
    authorities = record { all = refl; own = λ number node there. absurd cc; empty = λ number less. absurd (omega (arith, less)) };
    whole = refl;
    taken = All-nil (λ t. IsAccepting (verdict_on no_directory t));
  };
  bare = λ before. record { dishonest = refl; judged = refl };
  counted = omega arith;
  founded = omega arith;
}

pub run-seated : (saying : Saying) (checks : List CheckParts) (input : List ℕ) → IsSeated (run saying checks input).world
run-seated saying checks input =
    seated (run saying checks input).world ((run-keeps saying checks input).stands (first-stands checks)).seated

pub run-told : (saying : Saying) (checks : List CheckParts) (input : List ℕ)
    → filter_map accepted_in (run saying checks input).said ≡ map (said_by (held_of (run saying checks input).world)) (held_of (run saying checks input).world).judged
run-told saying checks input = (run-keeps saying checks input).told (first-stands checks)

-- who is dishonest was written to be so, and nobody else, in order
pub run-named : (saying : Saying) (checks : List CheckParts) (input : List ℕ)
    → filter_map dishonest_in (run saying checks input).said ≡ (held_of (run saying checks input).world).dishonest
run-named saying checks input = (run-keeps saying checks input).named

-- there are no more logs than the line `logs` may say
pub run-few : (saying : Saying) (checks : List CheckParts) (input : List ℕ) → length (run saying checks input).world.logs ≤ 16
run-few saying checks input =
    let stands = (run-keeps saying checks input).stands (first-stands checks)
    in subst (λ n. n ≤ 16) (sym stands.seated.logs.all) stands.founded
