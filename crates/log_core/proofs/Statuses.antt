-- The statuses of a message, where its signers are known, are statuses of the council.
use Rattle.std.proofs.Common.{◌≡◌, ℕ, ◌<◌, List, [], ◌∷◌, length, refl, sym, ap, subst}
use Rattle.std.specs.Prelude.{Ok, map}
use Rattle.std.specs.List.{AllByRecursion}
use Rattle.std.specs.List.Sorted.{IsStrictlyIncreasing}
use Rattle.std.proofs.lemmas.List.Elements.{All-from_recursion}
use Rattle.ar_message.specs.Lists as lists
use Rattle.ar_message.specs.Lists.{IsStatus}
use Rattle.ar_message.specs.declared.lists.LogStatus.{LogStatus}
use Rattle.party_keys.specs.Directory.{Directory}
use Rattle.vote_quorum.specs.Statuses.{AreStatuses, Status, logs_of}
use Rattle.epoch_log.specs.State.{reports_of}
use Rattle.ar_claims.specs.Lists.{claimed_statuses}
use Rattle.log_sending.specs.Signers.{signers}
use Rattle.log_core.specs.Skipped.{signed_statuses}
use Rattle.log_sending.proofs.Ascending.{rises}
use Rattle.log_sending.proofs.SignerLaws.{each-known, staters}

below-each : (n : ℕ) (statuses : List LogStatus) → AllByRecursion (λ (x : LogStatus). x.log < n) statuses
    → AllByRecursion (λ log. log < n) (logs_of (reports_of (signed_statuses statuses)))
below-each n [] all = tt
below-each n (x ∷ statuses) all = (all.0, below-each n statuses all.1)

same-logs : (statuses : List LogStatus) → logs_of (reports_of (signed_statuses statuses)) ≡ map (λ (x : LogStatus). x.log) statuses
same-logs [] = refl
same-logs (x ∷ statuses) = ap (λ l. x.log ∷ l) (same-logs statuses)

pub are-statuses : (keys : Directory) (epoch : ℕ) (statuses : List LogStatus) → lists.AreLogStatuses statuses → signers keys (claimed_statuses epoch statuses) ≡ Ok tt
    → AreStatuses (length keys.logs) (reports_of (signed_statuses statuses))
are-statuses keys epoch statuses are holds = record {
  ascending = subst IsStrictlyIncreasing (sym (same-logs statuses)) (rises (λ (x : LogStatus). x.log) IsStatus 0 statuses are.1);
  below = All-from_recursion (λ log. log < length keys.logs) (logs_of (reports_of (signed_statuses statuses)))
      (below-each (length keys.logs) statuses (staters keys epoch statuses (each-known keys (claimed_statuses epoch statuses) holds)));
}

-- the same of lists that are theirs
pub are-plain : (keys : Directory) (epoch : ℕ) (statuses list : List LogStatus) (plain : List Status) → lists.AreLogStatuses statuses → list ≡ statuses
    → signers keys (claimed_statuses epoch list) ≡ Ok tt → plain ≡ reports_of (signed_statuses list) → AreStatuses (length keys.logs) plain
are-plain keys epoch statuses list plain are same holds is =
    subst (AreStatuses (length keys.logs)) (sym is) (are-statuses keys epoch list (subst lists.AreLogStatuses (sym same) are) holds)
