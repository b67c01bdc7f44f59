use Rattle.std.proofs.Common.{rules, ℕ, List, Vec, Result, Global, inr, sym, ap, subst}
use Rattle.ar_base.specs.Gives.{with_error}
use Rattle.ar_lines.specs.Readings.{ReadsUnless}
use Rattle.ar_lines.specs.declared.refusal.LineFault.TheVariants.{Refused}
use Rattle.ar_lines.specs.declared.refusal.Refusal.{Refusal}
use Rattle.serve_run.proofs.ChallengeLines.{challenge_gives_up, challenge_last, challenges_too_many}
use Rattle.serve_run.proofs.reading.challenges.Goals as goal

pub returns-in_err-challenge : goal.returns-in_err-challenge
returns-in_err-challenge c =
    let fails = challenge_gives_up c.loop.challenges.items c.loop.counter c.loop.lines (Refused c.in_err-challenge.field-0.0) _ c.loop-test.true (inr (ap (with_error Refused) c.in_err-challenge.ensures)) c.loop.invariant in
    search (rules, fails)

pub returns-then-is_ended : goal.returns-then-is_ended
returns-then-is_ended c =
    rw c.in_ok-push.ensures.items (ap (with_error Refused) (challenge_last c.loop.challenges.items c.loop.counter c.loop.lines c.bytes.new.lines c.in_ok-challenge.challenge _ c.loop-test.true c.in_ok-challenge.ensures (sym c.if-is_ended.ensures) c.loop.invariant))

pub returns : goal.returns
returns c =
    subst (λ (r : Result (List (List ℕ)) Refusal). ReadsUnless {T = Vec (List ℕ) Global} {V = List (List ℕ)} (λ challenges. challenges.items) c.one_too_many.result r)
    (challenges_too_many c.loop.challenges.items c.loop.counter c.loop.lines _ c.loop-test.false c.loop.invariant) c.one_too_many.ensures
