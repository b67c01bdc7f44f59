-- The world of what was played has its logs.
use Rattle.std.proofs.Common.{sym, subst}
use Rattle.script_play.specs.Playing.{Played}
use Rattle.run_restart.specs.Ending.{EachReplayed}
use Rattle.run_restart.proofs.answering.restart_played.Goals as goal

pub restart_in-requires : goal.restart_in-requires
restart_in-requires g c = subst (λ (q : Played). EachReplayed q.world c.args.asked.log) (sym c.played.view_is) c.requires
