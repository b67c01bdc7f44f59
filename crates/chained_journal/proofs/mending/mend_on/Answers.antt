use Rattle.std.proofs.Common.{◌≡◌, inl, inr, ℕ, List, ◌∙◌, subst}
use Rattle.kept_journal.proofs.Moments.{goes_on, started, then_only}
use Rattle.chained_journal.specs.Journal.{IsTornEnd}
use Rattle.chained_journal.specs.Mending.{IsMendedOrBefore, Mends}
use Rattle.chained_journal.proofs.mending.mend_on.Goals as goal

pub returns-in_err-file-clause-any_moment : goal.returns-in_err-file-clause-any_moment
returns-in_err-file-clause-any_moment g c =
    let at_start = started g.K.Disk.moment g.K.Disk.left_since c.args.disk.now (IsMendedOrBefore c.args.title.now (g.K.Disk.may_leave c.args.disk.now) (g.K.Disk.seen c.args.disk.now)) (λ f left. inl (g.met.K.Disk.only_now c.args.disk.now f left)) in
    let synced = goes_on g.K.Disk.moment g.K.Disk.left_since c.args.disk.now c.args.disk.now c.sync.new.self (IsMendedOrBefore c.args.title.now (g.K.Disk.may_leave c.args.disk.now) (g.K.Disk.seen c.args.disk.now)) _ at_start c.sync.ensures.time (λ f now. inl (c.sync.ensures.crash f now)) in
    let read = then_only g.K.Disk.moment g.K.Disk.left_since c.args.disk.now c.sync.new.self c.read_whole.new.disk (IsMendedOrBefore c.args.title.now (g.K.Disk.may_leave c.args.disk.now) (g.K.Disk.seen c.args.disk.now)) _ synced c.read_whole.ensures.any_moment (λ f now. inl (c.sync.ensures.crash f now)) in
    read

pub returns-in_err-place-clause-any_moment : goal.returns-in_err-place-clause-any_moment
returns-in_err-place-clause-any_moment g c =
    let at_start = started g.K.Disk.moment g.K.Disk.left_since c.args.disk.now (IsMendedOrBefore c.args.title.now (g.K.Disk.may_leave c.args.disk.now) (g.K.Disk.seen c.args.disk.now)) (λ f left. inl (g.met.K.Disk.only_now c.args.disk.now f left)) in
    let synced = goes_on g.K.Disk.moment g.K.Disk.left_since c.args.disk.now c.args.disk.now c.sync.new.self (IsMendedOrBefore c.args.title.now (g.K.Disk.may_leave c.args.disk.now) (g.K.Disk.seen c.args.disk.now)) _ at_start c.sync.ensures.time (λ f now. inl (c.sync.ensures.crash f now)) in
    let read = then_only g.K.Disk.moment g.K.Disk.left_since c.args.disk.now c.sync.new.self c.read_whole.new.disk (IsMendedOrBefore c.args.title.now (g.K.Disk.may_leave c.args.disk.now) (g.K.Disk.seen c.args.disk.now)) _ synced c.read_whole.ensures.any_moment (λ f now. inl (c.sync.ensures.crash f now)) in
    read

pub returns-in_default-clause-any_moment : goal.returns-in_default-clause-any_moment
returns-in_default-clause-any_moment g c =
    let at_start = started g.K.Disk.moment g.K.Disk.left_since c.args.disk.now (IsMendedOrBefore c.args.title.now (g.K.Disk.may_leave c.args.disk.now) (g.K.Disk.seen c.args.disk.now)) (λ f left. inl (g.met.K.Disk.only_now c.args.disk.now f left)) in
    let synced = goes_on g.K.Disk.moment g.K.Disk.left_since c.args.disk.now c.args.disk.now c.sync.new.self (IsMendedOrBefore c.args.title.now (g.K.Disk.may_leave c.args.disk.now) (g.K.Disk.seen c.args.disk.now)) _ at_start c.sync.ensures.time (λ f now. inl (c.sync.ensures.crash f now)) in
    let read = then_only g.K.Disk.moment g.K.Disk.left_since c.args.disk.now c.sync.new.self c.read_whole.new.disk (IsMendedOrBefore c.args.title.now (g.K.Disk.may_leave c.args.disk.now) (g.K.Disk.seen c.args.disk.now)) _ synced c.read_whole.ensures.any_moment (λ f now. inl (c.sync.ensures.crash f now)) in
    read

pub returns-in_err-open_gate-clause-any_moment : goal.returns-in_err-open_gate-clause-any_moment
returns-in_err-open_gate-clause-any_moment g c =
    let at_start = started g.K.Disk.moment g.K.Disk.left_since c.args.disk.now (IsMendedOrBefore c.args.title.now (g.K.Disk.may_leave c.args.disk.now) (g.K.Disk.seen c.args.disk.now)) (λ f left. inl (g.met.K.Disk.only_now c.args.disk.now f left)) in
    let synced = goes_on g.K.Disk.moment g.K.Disk.left_since c.args.disk.now c.args.disk.now c.sync.new.self (IsMendedOrBefore c.args.title.now (g.K.Disk.may_leave c.args.disk.now) (g.K.Disk.seen c.args.disk.now)) _ at_start c.sync.ensures.time (λ f now. inl (c.sync.ensures.crash f now)) in
    let read = then_only g.K.Disk.moment g.K.Disk.left_since c.args.disk.now c.sync.new.self c.read_whole.new.disk (IsMendedOrBefore c.args.title.now (g.K.Disk.may_leave c.args.disk.now) (g.K.Disk.seen c.args.disk.now)) _ synced c.read_whole.ensures.any_moment (λ f now. inl (c.sync.ensures.crash f now)) in
    let same : g.K.Disk.seen c.read_whole.new.disk ≡ g.K.Disk.seen c.args.disk.now = c.read_whole.ensures.seen ∙ c.sync.ensures.seen in
    let opened = then_only g.K.Disk.moment g.K.Disk.left_since c.args.disk.now c.read_whole.new.disk c.open_gate.new.disk (IsMendedOrBefore c.args.title.now (g.K.Disk.may_leave c.args.disk.now) (g.K.Disk.seen c.args.disk.now)) _ read c.open_gate.ensures.any_moment
    (λ f after. inr (after.0, after.1, subst (IsTornEnd c.args.title.now after.0 after.1) same after.2, after.3)) in
    opened

pub returns-clause-any_moment : goal.returns-clause-any_moment
returns-clause-any_moment g c =
    let at_start = started g.K.Disk.moment g.K.Disk.left_since c.args.disk.now (IsMendedOrBefore c.args.title.now (g.K.Disk.may_leave c.args.disk.now) (g.K.Disk.seen c.args.disk.now)) (λ f left. inl (g.met.K.Disk.only_now c.args.disk.now f left)) in
    let synced = goes_on g.K.Disk.moment g.K.Disk.left_since c.args.disk.now c.args.disk.now c.sync.new.self (IsMendedOrBefore c.args.title.now (g.K.Disk.may_leave c.args.disk.now) (g.K.Disk.seen c.args.disk.now)) _ at_start c.sync.ensures.time (λ f now. inl (c.sync.ensures.crash f now)) in
    let read = then_only g.K.Disk.moment g.K.Disk.left_since c.args.disk.now c.sync.new.self c.read_whole.new.disk (IsMendedOrBefore c.args.title.now (g.K.Disk.may_leave c.args.disk.now) (g.K.Disk.seen c.args.disk.now)) _ synced c.read_whole.ensures.any_moment (λ f now. inl (c.sync.ensures.crash f now)) in
    let same : g.K.Disk.seen c.read_whole.new.disk ≡ g.K.Disk.seen c.args.disk.now = c.read_whole.ensures.seen ∙ c.sync.ensures.seen in
    let opened = then_only g.K.Disk.moment g.K.Disk.left_since c.args.disk.now c.read_whole.new.disk c.open_gate.new.disk (IsMendedOrBefore c.args.title.now (g.K.Disk.may_leave c.args.disk.now) (g.K.Disk.seen c.args.disk.now)) _ read c.open_gate.ensures.any_moment
    (λ f after. inr (after.0, after.1, subst (IsTornEnd c.args.title.now after.0 after.1) same after.2, after.3)) in
    opened

pub returns-clause-ok : goal.returns-clause-ok
returns-clause-ok g c =
    let same : g.K.Disk.seen c.read_whole.new.disk ≡ g.K.Disk.seen c.args.disk.now = c.read_whole.ensures.seen ∙ c.sync.ensures.seen in
    (subst (λ (f : List ℕ). Mends c.args.title.now f (g.K.Disk.seen c.open_gate.new.disk)) same c.in_ok-open_gate.ensures.ok.0, c.in_ok-open_gate.ensures.ok.1)
