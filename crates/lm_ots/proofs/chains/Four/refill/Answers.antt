use Rattle.std.proofs.Common.{sym, subst}
use Rattle.lm_ots.specs.declared.chains.Chains.{Chains}
use Rattle.lm_ots.specs.declared.chains.Four.{Four}
use Rattle.lm_ots.specs.Ways.{AllLeadTo, FourLeadTo}
use Rattle.lm_ots.proofs.chains.Four.refill.Goals as goal
use Rattle.lm_ots.proofs.chains.Four.refill.Goals.{then-waiting-queue+then-self-lane, else-waiting-queue}

pub loop-lane-preserved : goal.loop-lane-preserved
loop-lane-preserved c =
    let kept = c.loop-lane.invariant in
    elim c.if-waiting-queue.branch [
      | then-waiting-queue+then-self-lane w ↦ record {
        four = λ id leaf end all four.
            let others = kept.others id leaf end all four in
            let lanes = kept.four id leaf end all four in
            subst (λ (s : Four). FourLeadTo id leaf s end) (sym w.self-is)
            (w.take.ensures id leaf end (w.put_back.ensures id leaf end others lanes) lanes);
        others = λ id leaf end all four.
            subst (λ (s : Chains). AllLeadTo id leaf s end) (sym w.chains-is)
            (w.put_back.ensures id leaf end (kept.others id leaf end all four) (kept.four id leaf end all four));
      }
      | else-waiting-queue w ↦ record {
        four = λ id leaf end all four.
            subst (λ (s : Four). FourLeadTo id leaf s end) (sym w.self-is) (kept.four id leaf end all four);
        others = λ id leaf end all four.
            subst (λ (s : Chains). AllLeadTo id leaf s end) (sym w.chains-is) (kept.others id leaf end all four);
      }
    ]
