-- A script that is played.
use Rattle.std.proofs.Common.{◌≡◌, ℕ, List, ap, ◌∙◌, Result, Ok, Err, IfOk}
use Rattle.std.specs.declared.alloc.AllocError.{AllocError}
use Rattle.script_play.specs.ar_nodes.Parties.{CheckParts}
use Rattle.ar_run.specs.Answers.{Answer}
use Rattle.script_play.specs.Played.{Plays, run_with}
use Rattle.script_play.specs.Playing.{Played}
use Rattle.run_messages.specs.Answers.{IsToldOf}
use Rattle.run_messages.specs.Telling.{told_of}

-- what is told of what it came to is told of its run
pub played-told : {K : Type 0} (faults : K → ℕ) (wrote : K → List ℕ → Type 0) (a b : K) (checks : List CheckParts) (script : List ℕ) (p : Played) (result : Result Answer AllocError)
    → Plays (run_with checks) faults wrote a b script (Ok p) → IfOk result (λ answer. answer ≡ told_of p) → IfOk result (IsToldOf checks script)
played-told faults wrote a b checks script p (Ok answer) plays is = record { saying = plays.choice; is = is ∙ ap told_of plays.played }
played-told faults wrote a b checks script p (Err e) plays is = tt

pub ruleset played_laws = (played-told)
