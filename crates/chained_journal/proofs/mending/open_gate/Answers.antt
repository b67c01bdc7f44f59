use Rattle.std.proofs.Common.{List, ℕ, sym, subst}
use Rattle.kept_disk.specs.Disk.{Only}
use Rattle.chained_journal.specs.Mending.{Mends}
use Rattle.chained_journal.proofs.Mended.{first_mended, is_mended, place_within, second_mended}
use Rattle.chained_journal.proofs.mending.open_gate.Goals as goal

pub write_at-requires : goal.write_at-requires
write_at-requires g c = place_within g.K.Disk.seen g.K.Disk.may_leave g.K.Disk.moment g.K.Disk.left_since g.met.K.Disk.only_now c.args.title.now c.args.place c.args.disk.now c.requires.titled c.requires.torn c.requires.only

pub returns-in_err-write_at-clause-any_moment : goal.returns-in_err-write_at-clause-any_moment
returns-in_err-write_at-clause-any_moment g c =
    let one = first_mended g.K.Disk.seen g.K.Disk.may_leave g.K.Disk.moment g.K.Disk.left_since g.met.K.Disk.only_now c.args.title.now c.args.place c.args.disk.now c.requires.titled c.requires.torn c.requires.only c.write_at.new.self c.write_at.ensures.crash c.write_at.ensures.time in
    one

pub returns-in_err-sync-clause-any_moment : goal.returns-in_err-sync-clause-any_moment
returns-in_err-sync-clause-any_moment g c =
    let one = first_mended g.K.Disk.seen g.K.Disk.may_leave g.K.Disk.moment g.K.Disk.left_since g.met.K.Disk.only_now c.args.title.now c.args.place c.args.disk.now c.requires.titled c.requires.torn c.requires.only c.write_at.new.self c.write_at.ensures.crash c.write_at.ensures.time in
    let two = second_mended g.K.Disk.seen g.K.Disk.may_leave g.K.Disk.moment g.K.Disk.left_since g.met.K.Disk.only_now c.args.title.now c.args.place c.args.disk.now c.requires.titled c.requires.torn c.requires.only c.write_at.new.self c.sync.new.self one c.write_at.ensures.crash c.sync.ensures.crash c.sync.ensures.time in
    two

pub returns-clause-any_moment : goal.returns-clause-any_moment
returns-clause-any_moment g c =
    let one = first_mended g.K.Disk.seen g.K.Disk.may_leave g.K.Disk.moment g.K.Disk.left_since g.met.K.Disk.only_now c.args.title.now c.args.place c.args.disk.now c.requires.titled c.requires.torn c.requires.only c.write_at.new.self c.write_at.ensures.crash c.write_at.ensures.time in
    let two = second_mended g.K.Disk.seen g.K.Disk.may_leave g.K.Disk.moment g.K.Disk.left_since g.met.K.Disk.only_now c.args.title.now c.args.place c.args.disk.now c.requires.titled c.requires.torn c.requires.only c.write_at.new.self c.sync.new.self one c.write_at.ensures.crash c.sync.ensures.crash c.sync.ensures.time in
    two

pub returns-clause-ok : goal.returns-clause-ok
returns-clause-ok g c =
    let mended = is_mended g.K.Disk.seen g.K.Disk.may_leave g.K.Disk.moment g.K.Disk.left_since g.met.K.Disk.only_now c.args.title.now c.args.place c.args.disk.now c.requires.titled c.requires.torn c.requires.only (g.K.Disk.seen c.write_at.new.self) c.in_ok-write_at.ensures.written in (
      subst (λ (f : List ℕ). Mends c.args.title.now (g.K.Disk.seen c.args.disk.now) f) (sym c.sync.ensures.seen) mended,
      subst (λ (f : List ℕ). Only f (g.K.Disk.may_leave c.sync.new.self)) (sym c.sync.ensures.seen) c.in_ok-sync.ensures.durable,
    )
