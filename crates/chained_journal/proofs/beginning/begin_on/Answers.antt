use Rattle.std.proofs.Common.{◌⊎◌, ◌≤◌, inl, inr, ℕ, List, length, subst}
use Rattle.kept_journal.proofs.Moments.{goes_on, started, then_only}
use Rattle.chained_journal.specs.Refusals.{IsBlank}
use Rattle.chained_journal.proofs.beginning.begin_on.Goals as goal

pub returns-in_err-check_blank-clause-any_moment : goal.returns-in_err-check_blank-clause-any_moment
returns-in_err-check_blank-clause-any_moment g c =
    let at_start = started g.K.Disk.moment g.K.Disk.left_since c.args.disk.now (λ (f : List ℕ). g.K.Disk.may_leave c.args.disk.now f ⊎ (IsBlank (g.K.Disk.seen c.args.disk.now) × (length f ≤ 48))) (λ f left. inl (g.met.K.Disk.only_now c.args.disk.now f left)) in
    let synced = goes_on g.K.Disk.moment g.K.Disk.left_since c.args.disk.now c.args.disk.now c.sync.new.self (λ (f : List ℕ). g.K.Disk.may_leave c.args.disk.now f ⊎ (IsBlank (g.K.Disk.seen c.args.disk.now) × (length f ≤ 48))) _ at_start c.sync.ensures.time (λ f now. inl (c.sync.ensures.crash f now)) in
    let checked = then_only g.K.Disk.moment g.K.Disk.left_since c.args.disk.now c.sync.new.self c.check_blank.new.disk (λ (f : List ℕ). g.K.Disk.may_leave c.args.disk.now f ⊎ (IsBlank (g.K.Disk.seen c.args.disk.now) × (length f ≤ 48))) _ synced c.check_blank.ensures.any_moment (λ f now. inl (c.sync.ensures.crash f now)) in
    checked

pub returns-in_err-write_header-clause-any_moment : goal.returns-in_err-write_header-clause-any_moment
returns-in_err-write_header-clause-any_moment g c =
    let at_start = started g.K.Disk.moment g.K.Disk.left_since c.args.disk.now (λ (f : List ℕ). g.K.Disk.may_leave c.args.disk.now f ⊎ (IsBlank (g.K.Disk.seen c.args.disk.now) × (length f ≤ 48))) (λ f left. inl (g.met.K.Disk.only_now c.args.disk.now f left)) in
    let synced = goes_on g.K.Disk.moment g.K.Disk.left_since c.args.disk.now c.args.disk.now c.sync.new.self (λ (f : List ℕ). g.K.Disk.may_leave c.args.disk.now f ⊎ (IsBlank (g.K.Disk.seen c.args.disk.now) × (length f ≤ 48))) _ at_start c.sync.ensures.time (λ f now. inl (c.sync.ensures.crash f now)) in
    let checked = then_only g.K.Disk.moment g.K.Disk.left_since c.args.disk.now c.sync.new.self c.check_blank.new.disk (λ (f : List ℕ). g.K.Disk.may_leave c.args.disk.now f ⊎ (IsBlank (g.K.Disk.seen c.args.disk.now) × (length f ≤ 48))) _ synced c.check_blank.ensures.any_moment (λ f now. inl (c.sync.ensures.crash f now)) in
    let blank : IsBlank (g.K.Disk.seen c.args.disk.now) = subst IsBlank c.sync.ensures.seen c.in_ok-check_blank.ensures.blank in
    let fresh = then_only g.K.Disk.moment g.K.Disk.left_since c.args.disk.now c.check_blank.new.disk c.write_header.new.disk (λ (f : List ℕ). g.K.Disk.may_leave c.args.disk.now f ⊎ (IsBlank (g.K.Disk.seen c.args.disk.now) × (length f ≤ 48))) _ checked c.write_header.ensures.any_moment (λ f few. inr (blank, few)) in
    fresh

pub returns-clause-any_moment : goal.returns-clause-any_moment
returns-clause-any_moment g c =
    let at_start = started g.K.Disk.moment g.K.Disk.left_since c.args.disk.now (λ (f : List ℕ). g.K.Disk.may_leave c.args.disk.now f ⊎ (IsBlank (g.K.Disk.seen c.args.disk.now) × (length f ≤ 48))) (λ f left. inl (g.met.K.Disk.only_now c.args.disk.now f left)) in
    let synced = goes_on g.K.Disk.moment g.K.Disk.left_since c.args.disk.now c.args.disk.now c.sync.new.self (λ (f : List ℕ). g.K.Disk.may_leave c.args.disk.now f ⊎ (IsBlank (g.K.Disk.seen c.args.disk.now) × (length f ≤ 48))) _ at_start c.sync.ensures.time (λ f now. inl (c.sync.ensures.crash f now)) in
    let checked = then_only g.K.Disk.moment g.K.Disk.left_since c.args.disk.now c.sync.new.self c.check_blank.new.disk (λ (f : List ℕ). g.K.Disk.may_leave c.args.disk.now f ⊎ (IsBlank (g.K.Disk.seen c.args.disk.now) × (length f ≤ 48))) _ synced c.check_blank.ensures.any_moment (λ f now. inl (c.sync.ensures.crash f now)) in
    let blank : IsBlank (g.K.Disk.seen c.args.disk.now) = subst IsBlank c.sync.ensures.seen c.in_ok-check_blank.ensures.blank in
    let fresh = then_only g.K.Disk.moment g.K.Disk.left_since c.args.disk.now c.check_blank.new.disk c.write_header.new.disk (λ (f : List ℕ). g.K.Disk.may_leave c.args.disk.now f ⊎ (IsBlank (g.K.Disk.seen c.args.disk.now) × (length f ≤ 48))) _ checked c.write_header.ensures.any_moment (λ f few. inr (blank, few)) in
    fresh
