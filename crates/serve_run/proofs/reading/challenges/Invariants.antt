use Rattle.std.proofs.Common.{◌≡◌, ◌-◌}
use Rattle.serve_run.specs.Reading.{challenges_at}
use Rattle.serve_run.proofs.ChallengeLines.{behind_front}
use Rattle.serve_run.proofs.reading.challenges.Given as goal

-- the challenges that were read, and those that are read from here on, are those that are read from the start
abbrev pub invariant-loop : goal.invariant-loop
invariant-loop l = behind_front l.challenges.items (challenges_at (64 - l.counter) l.lines) ≡ challenges_at 64 l.initial.lines
