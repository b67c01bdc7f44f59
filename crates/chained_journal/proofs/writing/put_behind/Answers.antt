use Rattle.std.proofs.Common.{List, ℕ, length, sym, ◌∙◌, ap, subst, arith}
use Rattle.kept_disk.specs.Disk.{Holds}
use Rattle.kept_journal.proofs.Moments.{on_err}
use Rattle.chained_journal.specs.Journal.{Stands, open_gate, recovered}
use Rattle.chained_journal.proofs.Stages.{first, fourth, is_staged, second, settles, staged_long, staged_stands, stands_now, texts_more, third}
use Rattle.chained_journal.proofs.writing.put_behind.Goals as goal

pub write_at-requires : goal.write_at-requires
write_at-requires g c = omega (arith, c.requires.last)

-- ---- a crash

pub returns-in_err-write_at-clause-any_moment : goal.returns-in_err-write_at-clause-any_moment
returns-in_err-write_at-clause-any_moment g c = λ text short is.
    let one = first g.K.Disk.seen g.K.Disk.may_leave g.K.Disk.moment g.K.Disk.left_since g.met.K.Disk.only_now c.args.title.now c.args.standing.now.end c.args.standing.now.count c.args.standing.now.chain c.args.bytes.now c.args.disk.now c.requires text short is c.write_at.new.self c.write_at.ensures.crash c.write_at.ensures.time in
    one

pub returns-in_err-sync-clause-any_moment : goal.returns-in_err-sync-clause-any_moment
returns-in_err-sync-clause-any_moment g c = λ text short is.
    let one = first g.K.Disk.seen g.K.Disk.may_leave g.K.Disk.moment g.K.Disk.left_since g.met.K.Disk.only_now c.args.title.now c.args.standing.now.end c.args.standing.now.count c.args.standing.now.chain c.args.bytes.now c.args.disk.now c.requires text short is c.write_at.new.self c.write_at.ensures.crash c.write_at.ensures.time in
    let two = second g.K.Disk.seen g.K.Disk.may_leave g.K.Disk.moment g.K.Disk.left_since g.met.K.Disk.only_now c.args.title.now c.args.standing.now.end c.args.standing.now.count c.args.standing.now.chain c.args.bytes.now c.args.disk.now c.requires text short is c.write_at.new.self c.sync.new.self one c.write_at.ensures.crash c.sync.ensures.crash c.sync.ensures.time in
    two

pub returns-in_err-write_at-2-clause-any_moment : goal.returns-in_err-write_at-2-clause-any_moment
returns-in_err-write_at-2-clause-any_moment g c = λ text short is.
    let one = first g.K.Disk.seen g.K.Disk.may_leave g.K.Disk.moment g.K.Disk.left_since g.met.K.Disk.only_now c.args.title.now c.args.standing.now.end c.args.standing.now.count c.args.standing.now.chain c.args.bytes.now c.args.disk.now c.requires text short is c.write_at.new.self c.write_at.ensures.crash c.write_at.ensures.time in
    let staged = is_staged g.K.Disk.seen g.K.Disk.may_leave g.K.Disk.moment g.K.Disk.left_since g.met.K.Disk.only_now c.args.title.now c.args.standing.now.end c.args.standing.now.count c.args.standing.now.chain c.args.bytes.now c.args.disk.now c.requires c.write_at.new.self c.in_ok-write_at.ensures.written in
    let two = second g.K.Disk.seen g.K.Disk.may_leave g.K.Disk.moment g.K.Disk.left_since g.met.K.Disk.only_now c.args.title.now c.args.standing.now.end c.args.standing.now.count c.args.standing.now.chain c.args.bytes.now c.args.disk.now c.requires text short is c.write_at.new.self c.sync.new.self one c.write_at.ensures.crash c.sync.ensures.crash c.sync.ensures.time in
    let three = third g.K.Disk.seen g.K.Disk.may_leave g.K.Disk.moment g.K.Disk.left_since g.met.K.Disk.only_now c.args.title.now c.args.standing.now.end c.args.standing.now.count c.args.standing.now.chain c.args.bytes.now c.args.disk.now c.requires text short is c.write_at.new.self c.sync.new.self c.write_at-2.new.self two staged c.in_ok-sync.ensures.durable c.write_at-2.ensures.crash c.write_at-2.ensures.time in
    three

pub returns-in_err-sync-2-clause-any_moment : goal.returns-in_err-sync-2-clause-any_moment
returns-in_err-sync-2-clause-any_moment g c = λ text short is.
    let one = first g.K.Disk.seen g.K.Disk.may_leave g.K.Disk.moment g.K.Disk.left_since g.met.K.Disk.only_now c.args.title.now c.args.standing.now.end c.args.standing.now.count c.args.standing.now.chain c.args.bytes.now c.args.disk.now c.requires text short is c.write_at.new.self c.write_at.ensures.crash c.write_at.ensures.time in
    let staged = is_staged g.K.Disk.seen g.K.Disk.may_leave g.K.Disk.moment g.K.Disk.left_since g.met.K.Disk.only_now c.args.title.now c.args.standing.now.end c.args.standing.now.count c.args.standing.now.chain c.args.bytes.now c.args.disk.now c.requires c.write_at.new.self c.in_ok-write_at.ensures.written in
    let two = second g.K.Disk.seen g.K.Disk.may_leave g.K.Disk.moment g.K.Disk.left_since g.met.K.Disk.only_now c.args.title.now c.args.standing.now.end c.args.standing.now.count c.args.standing.now.chain c.args.bytes.now c.args.disk.now c.requires text short is c.write_at.new.self c.sync.new.self one c.write_at.ensures.crash c.sync.ensures.crash c.sync.ensures.time in
    let three = third g.K.Disk.seen g.K.Disk.may_leave g.K.Disk.moment g.K.Disk.left_since g.met.K.Disk.only_now c.args.title.now c.args.standing.now.end c.args.standing.now.count c.args.standing.now.chain c.args.bytes.now c.args.disk.now c.requires text short is c.write_at.new.self c.sync.new.self c.write_at-2.new.self two staged c.in_ok-sync.ensures.durable c.write_at-2.ensures.crash c.write_at-2.ensures.time in
    let four = fourth g.K.Disk.seen g.K.Disk.may_leave g.K.Disk.moment g.K.Disk.left_since g.met.K.Disk.only_now c.args.title.now c.args.standing.now.end c.args.standing.now.count c.args.standing.now.chain c.args.bytes.now c.args.disk.now c.requires text short is c.write_at.new.self c.sync.new.self c.write_at-2.new.self c.sync-2.new.self three staged c.in_ok-sync.ensures.durable c.write_at-2.ensures.crash c.sync-2.ensures.crash c.sync-2.ensures.time in
    four

pub returns-clause-any_moment : goal.returns-clause-any_moment
returns-clause-any_moment g c = λ text short is.
    let one = first g.K.Disk.seen g.K.Disk.may_leave g.K.Disk.moment g.K.Disk.left_since g.met.K.Disk.only_now c.args.title.now c.args.standing.now.end c.args.standing.now.count c.args.standing.now.chain c.args.bytes.now c.args.disk.now c.requires text short is c.write_at.new.self c.write_at.ensures.crash c.write_at.ensures.time in
    let staged = is_staged g.K.Disk.seen g.K.Disk.may_leave g.K.Disk.moment g.K.Disk.left_since g.met.K.Disk.only_now c.args.title.now c.args.standing.now.end c.args.standing.now.count c.args.standing.now.chain c.args.bytes.now c.args.disk.now c.requires c.write_at.new.self c.in_ok-write_at.ensures.written in
    let two = second g.K.Disk.seen g.K.Disk.may_leave g.K.Disk.moment g.K.Disk.left_since g.met.K.Disk.only_now c.args.title.now c.args.standing.now.end c.args.standing.now.count c.args.standing.now.chain c.args.bytes.now c.args.disk.now c.requires text short is c.write_at.new.self c.sync.new.self one c.write_at.ensures.crash c.sync.ensures.crash c.sync.ensures.time in
    let three = third g.K.Disk.seen g.K.Disk.may_leave g.K.Disk.moment g.K.Disk.left_since g.met.K.Disk.only_now c.args.title.now c.args.standing.now.end c.args.standing.now.count c.args.standing.now.chain c.args.bytes.now c.args.disk.now c.requires text short is c.write_at.new.self c.sync.new.self c.write_at-2.new.self two staged c.in_ok-sync.ensures.durable c.write_at-2.ensures.crash c.write_at-2.ensures.time in
    let four = fourth g.K.Disk.seen g.K.Disk.may_leave g.K.Disk.moment g.K.Disk.left_since g.met.K.Disk.only_now c.args.title.now c.args.standing.now.end c.args.standing.now.count c.args.standing.now.chain c.args.bytes.now c.args.disk.now c.requires text short is c.write_at.new.self c.sync.new.self c.write_at-2.new.self c.sync-2.new.self three staged c.in_ok-sync.ensures.durable c.write_at-2.ensures.crash c.sync-2.ensures.crash c.sync-2.ensures.time in
    four

-- ---- what stands then

pub returns-clause-texts : goal.returns-clause-texts
returns-clause-texts g c = λ text short is.
    let staged = is_staged g.K.Disk.seen g.K.Disk.may_leave g.K.Disk.moment g.K.Disk.left_since g.met.K.Disk.only_now c.args.title.now c.args.standing.now.end c.args.standing.now.count c.args.standing.now.chain c.args.bytes.now c.args.disk.now c.requires c.write_at.new.self c.in_ok-write_at.ensures.written in
    let holds = subst (λ (f : List ℕ). Holds f c.args.standing.now.end open_gate (g.K.Disk.seen c.write_at-2.new.self)) c.sync.ensures.seen c.in_ok-write_at-2.ensures.written in
    texts_more g.K.Disk.seen g.K.Disk.may_leave g.K.Disk.moment g.K.Disk.left_since g.met.K.Disk.only_now c.args.title.now c.args.standing.now.end c.args.standing.now.count c.args.standing.now.chain c.args.bytes.now c.args.disk.now c.requires text short is c.write_at.new.self c.write_at-2.new.self c.sync-2.new.self staged holds c.sync-2.ensures.seen

pub returns-clause-ok : goal.returns-clause-ok
returns-clause-ok g c = λ text short is.
    let staged = is_staged g.K.Disk.seen g.K.Disk.may_leave g.K.Disk.moment g.K.Disk.left_since g.met.K.Disk.only_now c.args.title.now c.args.standing.now.end c.args.standing.now.count c.args.standing.now.chain c.args.bytes.now c.args.disk.now c.requires c.write_at.new.self c.in_ok-write_at.ensures.written in
    let holds = subst (λ (f : List ℕ). Holds f c.args.standing.now.end open_gate (g.K.Disk.seen c.write_at-2.new.self)) c.sync.ensures.seen c.in_ok-write_at-2.ensures.written in
    settles g.K.Disk.seen g.K.Disk.may_leave g.K.Disk.moment g.K.Disk.left_since g.met.K.Disk.only_now c.args.title.now c.args.standing.now.end c.args.standing.now.count c.args.standing.now.chain c.args.bytes.now c.args.disk.now c.requires text short is c.write_at.new.self c.write_at-2.new.self c.sync-2.new.self staged holds c.sync-2.ensures.seen c.in_ok-sync-2.ensures.durable c.in_ok-write_at.ensures.fits

pub write_at-requires-2 : goal.write_at-requires-2
write_at-requires-2 g c =
    let staged = is_staged g.K.Disk.seen g.K.Disk.may_leave g.K.Disk.moment g.K.Disk.left_since g.met.K.Disk.only_now c.args.title.now c.args.standing.now.end c.args.standing.now.count c.args.standing.now.chain c.args.bytes.now c.args.disk.now c.requires c.write_at.new.self c.in_ok-write_at.ensures.written in
    let long = staged_long g.K.Disk.seen g.K.Disk.may_leave g.K.Disk.moment g.K.Disk.left_since g.met.K.Disk.only_now c.args.title.now c.args.standing.now.end c.args.standing.now.count c.args.standing.now.chain c.args.bytes.now c.args.disk.now c.requires c.write_at.new.self staged in
    omega (arith, ap length c.sync.ensures.seen, long)

pub returns-in_err-write_at-clause-held : goal.returns-in_err-write_at-clause-held
returns-in_err-write_at-clause-held g c =
    let here = stands_now g.K.Disk.seen g.K.Disk.may_leave g.K.Disk.moment g.K.Disk.left_since g.met.K.Disk.only_now c.args.title.now c.args.standing.now.end c.args.standing.now.count c.args.standing.now.chain c.args.bytes.now c.args.disk.now c.requires (g.K.Disk.held c.args.disk.now) (g.met.K.Disk.held_now c.args.disk.now) in
    on_err c.from_residual.result (subst (λ (f : List ℕ). Stands c.args.title.now (recovered (g.K.Disk.seen c.args.disk.now)) f) (sym (c.write_at.ensures.held)) here)

pub returns-in_err-sync-clause-held : goal.returns-in_err-sync-clause-held
returns-in_err-sync-clause-held g c =
    let here = stands_now g.K.Disk.seen g.K.Disk.may_leave g.K.Disk.moment g.K.Disk.left_since g.met.K.Disk.only_now c.args.title.now c.args.standing.now.end c.args.standing.now.count c.args.standing.now.chain c.args.bytes.now c.args.disk.now c.requires (g.K.Disk.held c.args.disk.now) (g.met.K.Disk.held_now c.args.disk.now) in
    on_err c.from_residual-in_err-sync.result (subst (λ (f : List ℕ). Stands c.args.title.now (recovered (g.K.Disk.seen c.args.disk.now)) f) (sym (c.in_err-sync.ensures.held ∙ c.write_at.ensures.held)) here)

pub returns-in_err-write_at-2-clause-held : goal.returns-in_err-write_at-2-clause-held
returns-in_err-write_at-2-clause-held g c =
    let staged = is_staged g.K.Disk.seen g.K.Disk.may_leave g.K.Disk.moment g.K.Disk.left_since g.met.K.Disk.only_now c.args.title.now c.args.standing.now.end c.args.standing.now.count c.args.standing.now.chain c.args.bytes.now c.args.disk.now c.requires c.write_at.new.self c.in_ok-write_at.ensures.written in
    on_err c.from_residual-in_err-write_at-2.result (staged_stands g.K.Disk.seen g.K.Disk.may_leave g.K.Disk.moment g.K.Disk.left_since g.met.K.Disk.only_now c.args.title.now c.args.standing.now.end c.args.standing.now.count c.args.standing.now.chain c.args.bytes.now c.args.disk.now c.requires c.write_at.new.self (g.K.Disk.held c.write_at-2.new.self) staged (c.write_at-2.ensures.held ∙ c.in_ok-sync.ensures.kept))

pub returns-in_err-sync-2-clause-held : goal.returns-in_err-sync-2-clause-held
returns-in_err-sync-2-clause-held g c =
    let staged = is_staged g.K.Disk.seen g.K.Disk.may_leave g.K.Disk.moment g.K.Disk.left_since g.met.K.Disk.only_now c.args.title.now c.args.standing.now.end c.args.standing.now.count c.args.standing.now.chain c.args.bytes.now c.args.disk.now c.requires c.write_at.new.self c.in_ok-write_at.ensures.written in
    on_err c.from_residual-in_err-sync-2.result (staged_stands g.K.Disk.seen g.K.Disk.may_leave g.K.Disk.moment g.K.Disk.left_since g.met.K.Disk.only_now c.args.title.now c.args.standing.now.end c.args.standing.now.count c.args.standing.now.chain c.args.bytes.now c.args.disk.now c.requires c.write_at.new.self (g.K.Disk.held c.sync-2.new.self) staged (c.in_err-sync-2.ensures.held ∙ c.write_at-2.ensures.held ∙ c.in_ok-sync.ensures.kept))
