-- What comes of a restart: the answer, and the two disks where there are two runs.
use Rattle.std.specs.Prelude.{◌≡◌, ℕ, List, MatchOption, Option, Some}
use Rattle.script_play.specs.ar_nodes.Parties.{CheckParts, LogNode}
use Rattle.script_play.specs.ar_nodes.declared.event.LogEvent.{LogEvent}
use Rattle.ar_run.specs.Answers.{Answer}
use Rattle.script_play.specs.ar_world.Finding.{log_at}
use Rattle.script_play.specs.ar_world.Run.{Saying, run}
use Rattle.script_play.specs.ar_world.State.{World}
use Rattle.log_restart.specs.Restarted.{AreRestarted}
use Rattle.log_restart.specs.declared.disks.Disks.{Disks}
use Rattle.run_replays.specs.Replayed.{IsReplayed}
use Rattle.run_restart.specs.Answers.{restart_answer, restarted}
use Rattle.run_restart.specs.Asking.{texts_in}
use Rattle.run_restart.specs.declared.command.Restart.{Restart}
use Rattle.run_restart.specs.declared.ended.Ended.{Ended}

-- An honest log of a world has this number, and this is what it did; it is what its inputs make of a new one.
pub record DidSo (w : World) (number : ℕ) (taken : List LogEvent) : Type 0 where
  pub node : LogNode
  pub there : log_at w number ≡ Some node
  pub did : taken ≡ node.taken
  pub replayed : IsReplayed w number node

-- each honest log of a world with this number is so
abbrev pub EachReplayed : World → ℕ → Type 0
EachReplayed w number = (node : LogNode) → log_at w number ≡ Some node → IsReplayed w number node

-- the disks behind an answer with this status: at 0 those of a log's two runs through these texts, and none at 3
abbrev pub AreMade : ℕ → List (List ℕ) → ℕ → Option Disks → Type 0
AreMade status texts calls made = MatchOption made (status ≡ 3) (λ (m : Disks). (status ≡ 0) × AreRestarted texts calls m.before m.after)

-- This is the answer, and these are its disks.
pub record IsEnded (answer : Answer) (texts : List (List ℕ)) (calls : ℕ) (ended : Ended) : Type 0 where
  pub answered : ended.answer ≡ answer
  pub made : AreMade answer.status texts calls ended.disks

-- A script was played, by some answers of the checks that tell nothing of themselves, and this came of it.
pub record EndsScript (checks : List CheckParts) (asked : Restart) (script : List ℕ) (ended : Ended) : Type 0 where
  pub saying : Saying
  pub ends : IsEnded (restarted asked script (run saying checks script)) (texts_in (run saying checks script).world asked.log) asked.calls ended

-- the same of an input, which may be too long
pub record EndsInput (checks : List CheckParts) (asked : Restart) (input : List ℕ) (ended : Ended) : Type 0 where
  pub saying : Saying
  pub ends : IsEnded (restart_answer saying checks asked input) (texts_in (run saying checks input).world asked.log) asked.calls ended
