-- Logs that have done nothing yet meet the premises.
use Rattle.std.proofs.Common.{◌≡◌, ℕ, zero, suc, ◌<◌, List, [], ◌++◌, refl, ap, arith}
use Rattle.std.specs.Prelude.{flat_map}
use Rattle.ar_base.specs.Apart.{none_collide}
use Rattle.domain_table.specs.Tables.{Table}
use Rattle.domain_table.specs.Tree.{table_strings}
use Rattle.ar_council.specs.Council.{Council}
use Rattle.epoch_log.proofs.Called.{kept-fresh}
use Rattle.authority_core.proofs.Growing.{honest-fresh}
use Rattle.ar_safety.specs.Hashed.{tables_below}
use Rattle.ar_safety.specs.Records.{AreQuorums, fresh_records}
use Rattle.ar_safety.specs.Theorem.{AreHonest, Few, NoCollision, NoForgery}

pub fresh-honest : (council : Council) (leaves : ℕ) → AreQuorums council → 0 < leaves → AreHonest (fresh_records council leaves)
fresh-honest council leaves quorums some = record {
  quorums = quorums;
  logs = λ log is. (kept-fresh log council leaves (omega (arith, is.known, quorums.few)) some).honest;
  authorities = λ authority is. honest-fresh council authority leaves some;
  judged = λ k d less. absurd (omega (arith, less));
}

no-tables : (council : Council) (leaves n : ℕ) → tables_below (fresh_records council leaves) n ≡ []
unfolding tables_below
no-tables council leaves zero = refl
no-tables council leaves (suc n) = no-tables council leaves n

pub fresh-premises : (council : Council) (leaves : ℕ) → Few (fresh_records council leaves) × NoForgery (fresh_records council leaves) × NoCollision (fresh_records council leaves)
fresh-premises council leaves = (
  omega arith,
  record {
    logs = λ log is party text good there. absurd (omega (arith, there.1));
    authorities = λ authority is party text good there. absurd (omega (arith, there.1));
    judged = λ k d less. absurd (omega (arith, less));
    learned = λ party text good there. absurd (omega (arith, there.1));
  },
  record {
    strings = ap (λ (l : List Table). none_collide (flat_map table_strings l ++ [])) (no-tables council leaves council.logs);
    asked = λ authority is a there. absurd (omega (arith, there.1));
  },
)
