use Rattle.std.proofs.Common.{List, ℕ, sym, subst}
use Rattle.kept_journal.specs.Journal.{Stands, recovered}
use Rattle.kept_journal.proofs.Loading.{not_bad}
use Rattle.kept_journal.proofs.Rereading.{stands_marked}
use Rattle.log_journal.specs.Determined.{one_standing}
use Rattle.log_journal.specs.Inputs.{mark}
use Rattle.log_journal.specs.Steps.{takes}
use Rattle.log_restart.specs.Restarted.{new_log_of}
use Rattle.log_restart.proofs.Ran.{opened, opens}
use Rattle.log_restart.proofs.opening.open_with_room.Goals as goal

pub want-requires : goal.want-requires
want-requires c =
    let first = c.args.disk in
    let disk = c.make_room.new.disk in
    let texts = recovered first.seen in
    let stands : Stands mark texts disk.seen = subst (λ (file : List ℕ). Stands mark texts file) (sym c.make_room.ensures.seen) c.requires.stands in
    record {
      disk = λ is. opens first disk c.args.bytes c.args.changes c.make_room.ensures.seen c.make_room.ensures.fuse c.requires.unlimited
          c.in_ok-make_room.ensures.room c.in_ok-make_room.ensures.changes (c.in-Err.ensures.wants is);
      journal = λ is. stands_marked mark disk.seen texts stands (c.in-Err.ensures.not_journal is);
      records = λ place is. not_bad takes one_standing mark disk.seen texts (new_log_of c.args.number c.args.beginning) c.requires.replays.0 place stands
          c.requires.replays.1 (c.in-Err.ensures.bad place is);
    }

pub returns-in-Ok : goal.returns-in-Ok
returns-in-Ok c =
    opened (new_log_of c.args.number c.args.beginning) c.args.bytes c.args.changes c.args.disk c.make_room.new.disk c.in-Ok.kept
    c.make_room.ensures.seen c.make_room.ensures.fuse c.make_room.ensures.faults c.requires.unlimited c.in_ok-make_room.ensures.room
    c.in_ok-make_room.ensures.changes c.in-Ok.ensures.texts c.in-Ok.ensures.replays c.in-Ok.ensures.spends c.in-Ok.ensures.uncounted
