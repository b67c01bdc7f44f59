-- All of what honest parties agree on, and of what clients accepted.
use Rattle.std.proofs.Common.{◌+◌, arith}
use Rattle.epoch_log.proofs.Endings.{ending-within}
use Rattle.ar_safety.specs.Records.{Records}
use Rattle.ar_safety.specs.Theorem.{AreHonest, Few, NoCollision, NoForgery, Safe}
use Rattle.ar_safety.proofs.Agreement.{agreed-stays, one-agreed, same-bases, same-ending}
use Rattle.ar_safety.proofs.Clients.{accepted-absence, accepted-newest, judged-timely, judged-voted}
use Rattle.ar_safety.proofs.Confirming.{one-confirmed}
use Rattle.ar_safety.proofs.Votes.{one-root}
use Rattle.ar_safety.proofs.Vouched.{each-vouches, vouched-for}
use Rattle.ar_safety.proofs.Waiting.{recoveries-waited}

pub agree : (r : Records) → AreHonest r → Few r → NoForgery r → NoCollision r → Safe r
agree r honest few forged clean = record {
  agree = record {
    one_root = λ epoch one other. one-root r honest few epoch one other;
    one_table = λ epoch one other. one-agreed r honest few clean epoch one other;
    one_ending = λ j k is_j is_k epoch one other a b.
        let within_j = ending-within (r.logs j).ended (honest.logs j is_j).ends_in_order epoch one a in
        let within_k = ending-within (r.logs k).ended (honest.logs k is_k).ends_in_order epoch other b in (
          same-ending r honest few forged j k is_j is_k epoch one other a b,
          same-bases r honest few forged clean j k is_j is_k (epoch + 1) (omega (arith, within_j.1)) (omega (arith, within_k.1)),
        );
    one_confirmed = one-confirmed r honest few forged;
  };
  newest = λ j certificate there shown. (accepted-newest r honest few forged clean j certificate there shown, judged-timely r honest j there);
  grow = agreed-stays r honest few forged clean;
  vouched = vouched-for r honest few forged clean;
  absence = λ j bottom there shown. (accepted-absence r honest few forged clean j bottom there shown, judged-timely r honest j there);
  endorsers = each-vouches r honest forged clean;
  voted = judged-voted r honest few forged;
  waited = recoveries-waited r honest few forged clean;
}
