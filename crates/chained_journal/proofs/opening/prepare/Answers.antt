use Rattle.std.proofs.Common.{◌≡◌, inl, ◌∙◌}
use Rattle.kept_journal.proofs.Moments.{goes_on, started, then_only}
use Rattle.chained_journal.specs.Journal.{IsAsBefore}
use Rattle.chained_journal.proofs.Ended.{as_before}
use Rattle.chained_journal.proofs.opening.prepare.Goals as goal

pub returns-in_err-file-clause-any_moment : goal.returns-in_err-file-clause-any_moment
returns-in_err-file-clause-any_moment g c =
    let at_start = started g.K.Disk.moment g.K.Disk.left_since c.args.disk.now (IsAsBefore c.args.title.now (g.K.Disk.may_leave c.args.disk.now) (g.K.Disk.seen c.args.disk.now)) (λ f left. inl (g.met.K.Disk.only_now c.args.disk.now f left)) in
    let synced = goes_on g.K.Disk.moment g.K.Disk.left_since c.args.disk.now c.args.disk.now c.sync.new.self (IsAsBefore c.args.title.now (g.K.Disk.may_leave c.args.disk.now) (g.K.Disk.seen c.args.disk.now)) _ at_start c.sync.ensures.time (λ f now. inl (c.sync.ensures.crash f now)) in
    let read = then_only g.K.Disk.moment g.K.Disk.left_since c.args.disk.now c.sync.new.self c.read_whole.new.disk (IsAsBefore c.args.title.now (g.K.Disk.may_leave c.args.disk.now) (g.K.Disk.seen c.args.disk.now)) _ synced c.read_whole.ensures.any_moment (λ f now. inl (c.sync.ensures.crash f now)) in
    read

pub returns-clause-any_moment : goal.returns-clause-any_moment
returns-clause-any_moment g c =
    let at_start = started g.K.Disk.moment g.K.Disk.left_since c.args.disk.now (IsAsBefore c.args.title.now (g.K.Disk.may_leave c.args.disk.now) (g.K.Disk.seen c.args.disk.now)) (λ f left. inl (g.met.K.Disk.only_now c.args.disk.now f left)) in
    let synced = goes_on g.K.Disk.moment g.K.Disk.left_since c.args.disk.now c.args.disk.now c.sync.new.self (IsAsBefore c.args.title.now (g.K.Disk.may_leave c.args.disk.now) (g.K.Disk.seen c.args.disk.now)) _ at_start c.sync.ensures.time (λ f now. inl (c.sync.ensures.crash f now)) in
    let read = then_only g.K.Disk.moment g.K.Disk.left_since c.args.disk.now c.sync.new.self c.read_whole.new.disk (IsAsBefore c.args.title.now (g.K.Disk.may_leave c.args.disk.now) (g.K.Disk.seen c.args.disk.now)) _ synced c.read_whole.ensures.any_moment (λ f now. inl (c.sync.ensures.crash f now)) in
    let same : c.deref.result.now ≡ g.K.Disk.seen c.args.disk.now = c.deref.ensures.value ∙ c.in_ok-file.ensures.bytes ∙ c.sync.ensures.seen in
    then_only g.K.Disk.moment g.K.Disk.left_since c.args.disk.now c.read_whole.new.disk c.resume.new.disk (IsAsBefore c.args.title.now (g.K.Disk.may_leave c.args.disk.now) (g.K.Disk.seen c.args.disk.now)) _ read c.resume.ensures.any_moment
    (λ f after. as_before c.args.title.now (g.K.Disk.may_leave c.args.disk.now) (g.K.Disk.seen c.args.disk.now) c.deref.result.now f same (g.met.K.Disk.seen_now c.args.disk.now) after)
