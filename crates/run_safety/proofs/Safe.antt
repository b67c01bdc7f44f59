-- Each run is safe.
use Rattle.std.proofs.Common.{ℕ, List, ap, sym, ◌∙◌}
use Rattle.std.specs.List.{filter_map}
use Rattle.std.proofs.lemmas.List.Elements.{filter_map-append}
use Rattle.ar_safety.proofs.Held.{run-safe}
use Rattle.ar_world.specs.ar_nodes.Parties.{CheckParts}
use Rattle.ar_world.specs.Records.{HasParties, KeepsRecords, held_of}
use Rattle.ar_world.specs.Run.{Run, Saying, run}
use Rattle.ar_world.specs.State.{first_world}
use Rattle.run_safety.specs.Headline.{IsSafeRun, accepted_in}
use Rattle.run_safety.proofs.Forged.{goes-all-real, goes-shown, goes-unforged, seated-now}
use Rattle.run_safety.proofs.Held.{seated-kept}
use Rattle.run_safety.proofs.KeptLines.{kept-records}
use Rattle.run_safety.proofs.Lasting.{Goes, run-goes}
use Rattle.run_safety.proofs.Parts.{Keeps, part_of}
use Rattle.run_safety.proofs.Runs.{first-stands, run-keeps}
use Rattle.run_safety.proofs.Written.{written-cut}

-- A run is safe, whatever made it, whose world went on from the first one, and which kept what is held as it is written: as each
-- made of steps and deliveries, by `goes-of-steps` and `keeps-of-steps`.
pub safe-of : (checks : List CheckParts) (r : Run) → Keeps (part_of (first_world checks)) (part_of r.world) r.said → Goes (first_world checks) r.world → IsSafeRun r
safe-of checks r keeps goes =
    let w = r.world in
    let records : HasParties w → KeepsRecords w = kept-records w goes.held.kept in
    let told = keeps.told (first-stands checks) in
    record {
      kept = λ there. seated-kept w (seated-now w goes.held) (records there);
      safe = λ there few unforged clean.
          run-safe (held_of w) (seated-kept w (seated-now w goes.held) (records there)) few (goes-unforged checks w goes unforged) clean;
      taken = goes-shown checks w goes;
      real = goes-all-real checks w goes;
      unforged = goes-unforged checks w goes;
      written = told;
      fronts = λ front rest is.
          (filter_map accepted_in rest, sym told ∙ ap (filter_map accepted_in) is ∙ filter_map-append accepted_in front rest);
      dishonest = keeps.named;
      cut = written-cut r;
    }

pub safe-run : (saying : Saying) (checks : List CheckParts) (input : List ℕ) → IsSafeRun (run saying checks input)
safe-run saying checks input = safe-of checks (run saying checks input) (run-keeps saying checks input) (run-goes saying checks input)
