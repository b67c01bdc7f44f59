use Rattle.std.proofs.Common.{◌+◌, ℕ, List, sym, subst}
use Rattle.kept_disk.specs.Disk.{Cut}
use Rattle.kept_journal.proofs.Moments.{goes_on, started}
use Rattle.chained_journal.specs.Journal.{Stands, recovered}
use Rattle.chained_journal.proofs.Ended.{cut_stands}
use Rattle.chained_journal.proofs.opening.trim.Goals as goal

pub returns-in_err-cut-clause-any_moment : goal.returns-in_err-cut-clause-any_moment
returns-in_err-cut-clause-any_moment g c =
    let at_start = started g.K.Disk.moment g.K.Disk.left_since c.args.disk.now (Stands c.args.title.now (recovered (g.K.Disk.seen c.args.disk.now)))
    (λ f left. subst (Stands c.args.title.now (recovered (g.K.Disk.seen c.args.disk.now))) (sym (c.requires.only f (g.met.K.Disk.only_now c.args.disk.now f left))) c.requires.stands) in
    let after : (f : List ℕ) → g.K.Disk.may_leave c.cut.new.self f → (Stands c.args.title.now (recovered (g.K.Disk.seen c.args.disk.now))) f = λ f now.
    let from = c.cut.ensures.crash f now in
    cut_stands c.args.title.now (recovered (g.K.Disk.seen c.args.disk.now)) (g.K.Disk.seen c.args.disk.now) c.args.standing.now.end c.requires.titled
    c.requires.stands c.requires.end f (subst (λ d. Cut (c.args.standing.now.end + 8) d f) (c.requires.only from.0 from.1) from.2) in
    let cut = goes_on g.K.Disk.moment g.K.Disk.left_since c.args.disk.now c.args.disk.now c.cut.new.self (Stands c.args.title.now (recovered (g.K.Disk.seen c.args.disk.now))) _ at_start c.cut.ensures.time after in
    cut

pub returns-in_err-sync-2-clause-any_moment : goal.returns-in_err-sync-2-clause-any_moment
returns-in_err-sync-2-clause-any_moment g c =
    let at_start = started g.K.Disk.moment g.K.Disk.left_since c.args.disk.now (Stands c.args.title.now (recovered (g.K.Disk.seen c.args.disk.now)))
    (λ f left. subst (Stands c.args.title.now (recovered (g.K.Disk.seen c.args.disk.now))) (sym (c.requires.only f (g.met.K.Disk.only_now c.args.disk.now f left))) c.requires.stands) in
    let after : (f : List ℕ) → g.K.Disk.may_leave c.cut.new.self f → (Stands c.args.title.now (recovered (g.K.Disk.seen c.args.disk.now))) f = λ f now.
    let from = c.cut.ensures.crash f now in
    cut_stands c.args.title.now (recovered (g.K.Disk.seen c.args.disk.now)) (g.K.Disk.seen c.args.disk.now) c.args.standing.now.end c.requires.titled
    c.requires.stands c.requires.end f (subst (λ d. Cut (c.args.standing.now.end + 8) d f) (c.requires.only from.0 from.1) from.2) in
    let cut = goes_on g.K.Disk.moment g.K.Disk.left_since c.args.disk.now c.args.disk.now c.cut.new.self (Stands c.args.title.now (recovered (g.K.Disk.seen c.args.disk.now))) _ at_start c.cut.ensures.time after in
    let kept = goes_on g.K.Disk.moment g.K.Disk.left_since c.args.disk.now c.cut.new.self c.sync-2.new.self (Stands c.args.title.now (recovered (g.K.Disk.seen c.args.disk.now))) _ cut c.sync-2.ensures.time (λ f now. after f (c.sync-2.ensures.crash f now)) in
    kept

pub returns-clause-any_moment : goal.returns-clause-any_moment
returns-clause-any_moment g c =
    let at_start = started g.K.Disk.moment g.K.Disk.left_since c.args.disk.now (Stands c.args.title.now (recovered (g.K.Disk.seen c.args.disk.now)))
    (λ f left. subst (Stands c.args.title.now (recovered (g.K.Disk.seen c.args.disk.now))) (sym (c.requires.only f (g.met.K.Disk.only_now c.args.disk.now f left))) c.requires.stands) in
    let after : (f : List ℕ) → g.K.Disk.may_leave c.cut.new.self f → (Stands c.args.title.now (recovered (g.K.Disk.seen c.args.disk.now))) f = λ f now.
    let from = c.cut.ensures.crash f now in
    cut_stands c.args.title.now (recovered (g.K.Disk.seen c.args.disk.now)) (g.K.Disk.seen c.args.disk.now) c.args.standing.now.end c.requires.titled
    c.requires.stands c.requires.end f (subst (λ d. Cut (c.args.standing.now.end + 8) d f) (c.requires.only from.0 from.1) from.2) in
    let cut = goes_on g.K.Disk.moment g.K.Disk.left_since c.args.disk.now c.args.disk.now c.cut.new.self (Stands c.args.title.now (recovered (g.K.Disk.seen c.args.disk.now))) _ at_start c.cut.ensures.time after in
    let kept = goes_on g.K.Disk.moment g.K.Disk.left_since c.args.disk.now c.cut.new.self c.sync-2.new.self (Stands c.args.title.now (recovered (g.K.Disk.seen c.args.disk.now))) _ cut c.sync-2.ensures.time (λ f now. after f (c.sync-2.ensures.crash f now)) in
    kept
