use Rattle.std.proofs.Common.{rules, ◌≡◌, ◌<◌, ◌≤◌, inl, inr, ℕ, List, length, refl, sym, ◌∙◌, ap, subst, arith}
use Rattle.std.proofs.lemmas.Result.{on_ok_weaker}
use Rattle.kept_journal.specs.Appending.{WantsAll}
use Rattle.kept_journal.specs.Journal.{IsAsBefore}
use Rattle.kept_journal.specs.Opening.{behind_gate, behind_reading, cutting, opening}
use Rattle.kept_journal.specs.Replays.{ReachesBy}
use Rattle.kept_journal.proofs.Costs.{cost, early_wants, opened_spends, opened_wants, opening_long, opening_short}
use Rattle.kept_journal.proofs.Moments.{goes_on, started, then_only}
use Rattle.kept_journal.proofs.Opened.{as_before, fresh_settled, fresh_stands}
use Rattle.kept_journal.proofs.Rereading.{short_recovered}
use Rattle.kept_journal.proofs.Spending.{none_spent, one_spent, one_wants, then_spent}
use Rattle.kept_journal.proofs.opening.prepare.Goals as goal

pub returns-in_err-file-clause-any_moment : goal.returns-in_err-file-clause-any_moment
returns-in_err-file-clause-any_moment g c =
    let at_start = started g.K.Disk.moment g.K.Disk.left_since c.args.disk.now (IsAsBefore (g.K.Disk.may_leave c.args.disk.now) c.args.mark.now (g.K.Disk.seen c.args.disk.now)) (λ f left. inl (g.met.K.Disk.only_now c.args.disk.now f left)) in
    let synced = goes_on g.K.Disk.moment g.K.Disk.left_since c.args.disk.now c.args.disk.now c.sync.new.self (IsAsBefore (g.K.Disk.may_leave c.args.disk.now) c.args.mark.now (g.K.Disk.seen c.args.disk.now)) _ at_start c.sync.ensures.time (λ f now. inl (c.sync.ensures.crash f now)) in
    let read = then_only g.K.Disk.moment g.K.Disk.left_since c.args.disk.now c.sync.new.self c.read_whole.new.disk (IsAsBefore (g.K.Disk.may_leave c.args.disk.now) c.args.mark.now (g.K.Disk.seen c.args.disk.now)) _ synced c.read_whole.ensures.any_moment (λ f now. inl (c.sync.ensures.crash f now)) in
    read

pub returns-in_err-write_fresh-clause-any_moment : goal.returns-in_err-write_fresh-clause-any_moment
returns-in_err-write_fresh-clause-any_moment g c =
    let at_start = started g.K.Disk.moment g.K.Disk.left_since c.args.disk.now (IsAsBefore (g.K.Disk.may_leave c.args.disk.now) c.args.mark.now (g.K.Disk.seen c.args.disk.now)) (λ f left. inl (g.met.K.Disk.only_now c.args.disk.now f left)) in
    let synced = goes_on g.K.Disk.moment g.K.Disk.left_since c.args.disk.now c.args.disk.now c.sync.new.self (IsAsBefore (g.K.Disk.may_leave c.args.disk.now) c.args.mark.now (g.K.Disk.seen c.args.disk.now)) _ at_start c.sync.ensures.time (λ f now. inl (c.sync.ensures.crash f now)) in
    let read = then_only g.K.Disk.moment g.K.Disk.left_since c.args.disk.now c.sync.new.self c.read_whole.new.disk (IsAsBefore (g.K.Disk.may_leave c.args.disk.now) c.args.mark.now (g.K.Disk.seen c.args.disk.now)) _ synced c.read_whole.ensures.any_moment (λ f now. inl (c.sync.ensures.crash f now)) in
    let few : length c.in_ok-file.file.items ≤ 9 = search rules in
    let short : length (g.K.Disk.seen c.args.disk.now) ≤ 9 = omega (arith, few, ap length c.in_ok-file.ensures.bytes, ap length c.sync.ensures.seen) in
    let fresh = then_only g.K.Disk.moment g.K.Disk.left_since c.args.disk.now c.read_whole.new.disk c.write_fresh.new.disk (IsAsBefore (g.K.Disk.may_leave c.args.disk.now) c.args.mark.now (g.K.Disk.seen c.args.disk.now)) _ read c.write_fresh.ensures.any_moment
    (λ f few. inr (fresh_stands c.args.mark.now (g.K.Disk.seen c.args.disk.now) (g.K.Disk.seen c.args.disk.now) short short, fresh_stands c.args.mark.now (g.K.Disk.seen c.args.disk.now) f short few)) in
    fresh

pub returns-then-len-gt-SHORT-clause-any_moment : goal.returns-then-len-gt-SHORT-clause-any_moment
returns-then-len-gt-SHORT-clause-any_moment g c =
    let at_start = started g.K.Disk.moment g.K.Disk.left_since c.args.disk.now (IsAsBefore (g.K.Disk.may_leave c.args.disk.now) c.args.mark.now (g.K.Disk.seen c.args.disk.now)) (λ f left. inl (g.met.K.Disk.only_now c.args.disk.now f left)) in
    let synced = goes_on g.K.Disk.moment g.K.Disk.left_since c.args.disk.now c.args.disk.now c.sync.new.self (IsAsBefore (g.K.Disk.may_leave c.args.disk.now) c.args.mark.now (g.K.Disk.seen c.args.disk.now)) _ at_start c.sync.ensures.time (λ f now. inl (c.sync.ensures.crash f now)) in
    let read = then_only g.K.Disk.moment g.K.Disk.left_since c.args.disk.now c.sync.new.self c.read_whole.new.disk (IsAsBefore (g.K.Disk.may_leave c.args.disk.now) c.args.mark.now (g.K.Disk.seen c.args.disk.now)) _ synced c.read_whole.ensures.any_moment (λ f now. inl (c.sync.ensures.crash f now)) in
    let same : c.deref.result.now ≡ g.K.Disk.seen c.args.disk.now = c.deref.ensures.value ∙ c.in_ok-file.ensures.bytes ∙ c.sync.ensures.seen in
    then_only g.K.Disk.moment g.K.Disk.left_since c.args.disk.now c.read_whole.new.disk c.resume.new.disk (IsAsBefore (g.K.Disk.may_leave c.args.disk.now) c.args.mark.now (g.K.Disk.seen c.args.disk.now)) _ read c.resume.ensures.any_moment
    (λ f after. as_before (g.K.Disk.may_leave c.args.disk.now) c.args.mark.now (g.K.Disk.seen c.args.disk.now) c.deref.result.now f same (g.met.K.Disk.seen_now c.args.disk.now) after)

pub returns-clause-any_moment : goal.returns-clause-any_moment
returns-clause-any_moment g c =
    let at_start = started g.K.Disk.moment g.K.Disk.left_since c.args.disk.now (IsAsBefore (g.K.Disk.may_leave c.args.disk.now) c.args.mark.now (g.K.Disk.seen c.args.disk.now)) (λ f left. inl (g.met.K.Disk.only_now c.args.disk.now f left)) in
    let synced = goes_on g.K.Disk.moment g.K.Disk.left_since c.args.disk.now c.args.disk.now c.sync.new.self (IsAsBefore (g.K.Disk.may_leave c.args.disk.now) c.args.mark.now (g.K.Disk.seen c.args.disk.now)) _ at_start c.sync.ensures.time (λ f now. inl (c.sync.ensures.crash f now)) in
    let read = then_only g.K.Disk.moment g.K.Disk.left_since c.args.disk.now c.sync.new.self c.read_whole.new.disk (IsAsBefore (g.K.Disk.may_leave c.args.disk.now) c.args.mark.now (g.K.Disk.seen c.args.disk.now)) _ synced c.read_whole.ensures.any_moment (λ f now. inl (c.sync.ensures.crash f now)) in
    let few : length c.in_ok-file.file.items ≤ 9 = search rules in
    let short : length (g.K.Disk.seen c.args.disk.now) ≤ 9 = omega (arith, few, ap length c.in_ok-file.ensures.bytes, ap length c.sync.ensures.seen) in
    let fresh = then_only g.K.Disk.moment g.K.Disk.left_since c.args.disk.now c.read_whole.new.disk c.write_fresh.new.disk (IsAsBefore (g.K.Disk.may_leave c.args.disk.now) c.args.mark.now (g.K.Disk.seen c.args.disk.now)) _ read c.write_fresh.ensures.any_moment
    (λ f few. inr (fresh_stands c.args.mark.now (g.K.Disk.seen c.args.disk.now) (g.K.Disk.seen c.args.disk.now) short short, fresh_stands c.args.mark.now (g.K.Disk.seen c.args.disk.now) f short few)) in
    fresh

pub returns-clause-replays : goal.returns-clause-replays
returns-clause-replays g c =
    let few : length c.in_ok-file.file.items ≤ 9 = search rules in
    let short : length (g.K.Disk.seen c.args.disk.now) ≤ 9 = omega (arith, few, ap length c.in_ok-file.ensures.bytes, ap length c.sync.ensures.seen) in
    subst (λ (texts : List (List ℕ)). ReachesBy g.P.Replay.takes c.args.party.now texts c.args.party.now) (sym (short_recovered (g.K.Disk.seen c.args.disk.now) short)) refl

pub returns-clause-stood : goal.returns-clause-stood
returns-clause-stood g c =
    let few : length c.in_ok-file.file.items ≤ 9 = search rules in
    let short : length (g.K.Disk.seen c.args.disk.now) ≤ 9 = omega (arith, few, ap length c.in_ok-file.ensures.bytes, ap length c.sync.ensures.seen) in
    fresh_stands c.args.mark.now (g.K.Disk.seen c.args.disk.now) (g.K.Disk.seen c.args.disk.now) short short

pub returns-clause-ok : goal.returns-clause-ok
returns-clause-ok g c =
    let marked : length c.args.mark.now ≡ 8 = search rules in
    let few : length c.in_ok-file.file.items ≤ 9 = search rules in
    let short : length (g.K.Disk.seen c.args.disk.now) ≤ 9 = omega (arith, few, ap length c.in_ok-file.ensures.bytes, ap length c.sync.ensures.seen) in
    let settles = fresh_settled c.args.mark.now (g.K.Disk.seen c.args.disk.now) (g.K.Disk.seen c.write_fresh.new.disk) (g.K.Disk.may_leave c.write_fresh.new.disk) marked short c.in_ok-write_fresh.ensures.ok.0 c.in_ok-write_fresh.ensures.ok.1 in
    (refl, settles.0)

pub returns-clause-texts : goal.returns-clause-texts
returns-clause-texts g c =
    let marked : length c.args.mark.now ≡ 8 = search rules in
    let few : length c.in_ok-file.file.items ≤ 9 = search rules in
    let short : length (g.K.Disk.seen c.args.disk.now) ≤ 9 = omega (arith, few, ap length c.in_ok-file.ensures.bytes, ap length c.sync.ensures.seen) in
    let settles = fresh_settled c.args.mark.now (g.K.Disk.seen c.args.disk.now) (g.K.Disk.seen c.write_fresh.new.disk) (g.K.Disk.may_leave c.write_fresh.new.disk) marked short c.in_ok-write_fresh.ensures.ok.0 c.in_ok-write_fresh.ensures.ok.1 in
    settles.1

-- ---- what it takes of the disk

pub returns-in_err-sync-clause-wants : goal.returns-in_err-sync-clause-wants
returns-in_err-sync-clause-wants g c = λ failed.
    let fuel = g.K.Disk.fuel in
    early_wants (fuel c.args.disk.now) (fuel c.args.disk.now) (g.K.Disk.seen c.args.disk.now) 0 0 1 1 (none_spent (fuel c.args.disk.now))
    (one_wants (fuel c.args.disk.now) 0 1 c.in_err-sync.ensures.wants) (omega arith) (omega arith)

pub returns-in_err-file-clause-wants : goal.returns-in_err-file-clause-wants
returns-in_err-file-clause-wants g c = λ failed.
    let fuel = g.K.Disk.fuel in
    let file = g.K.Disk.seen c.args.disk.now in
    let one = one_spent (fuel c.args.disk.now) (fuel c.sync.new.self) 0 1 c.in_ok-sync.ensures.spends in
    let wants : WantsAll (g.K.Disk.fuel c.sync.new.self) 2 0 0 = search rules in
    early_wants (fuel c.args.disk.now) (fuel c.sync.new.self) file 1 1 2 0 one wants (omega arith) (omega arith)

pub returns-then-len-gt-SHORT-clause-spends : goal.returns-then-len-gt-SHORT-clause-spends
returns-then-len-gt-SHORT-clause-spends g c =
    let fuel = g.K.Disk.fuel in
    let file = g.K.Disk.seen c.args.disk.now in
    let one = one_spent (fuel c.args.disk.now) (fuel c.sync.new.self) 0 1 c.in_ok-sync.ensures.spends in
    let three = then_spent (fuel c.args.disk.now) (fuel c.sync.new.self) (fuel c.read_whole.new.disk) 1 0 1 2 0 0 3 0 1 one c.in_ok-file.ensures.spends refl refl refl in
    let many : 9 < length c.in_ok-file.file.items = search rules in
    let long : 9 < length (g.K.Disk.seen c.args.disk.now) = omega (arith, many, ap length c.in_ok-file.ensures.bytes, ap length c.sync.ensures.seen) in
    let same : c.deref.result.now ≡ g.K.Disk.seen c.args.disk.now = c.deref.ensures.value ∙ c.in_ok-file.ensures.bytes ∙ c.sync.ensures.seen in
    let is : opening (g.K.Disk.seen c.args.disk.now) ≡ behind_reading (cutting (behind_gate c.deref.result.now)) =
    opening_long file long ∙ ap (λ (f : List ℕ). behind_reading (cutting (behind_gate f))) (sym same) in
    on_ok_weaker c.resume.result (λ spends. opened_spends (fuel c.args.disk.now) (fuel c.read_whole.new.disk) (fuel c.resume.new.disk) file (cutting (behind_gate c.deref.result.now)) three spends is)
    c.resume.ensures.spends

pub returns-then-len-gt-SHORT-clause-wants : goal.returns-then-len-gt-SHORT-clause-wants
returns-then-len-gt-SHORT-clause-wants g c = λ failed.
    let fuel = g.K.Disk.fuel in
    let file = g.K.Disk.seen c.args.disk.now in
    let one = one_spent (fuel c.args.disk.now) (fuel c.sync.new.self) 0 1 c.in_ok-sync.ensures.spends in
    let three = then_spent (fuel c.args.disk.now) (fuel c.sync.new.self) (fuel c.read_whole.new.disk) 1 0 1 2 0 0 3 0 1 one c.in_ok-file.ensures.spends refl refl refl in
    let many : 9 < length c.in_ok-file.file.items = search rules in
    let long : 9 < length (g.K.Disk.seen c.args.disk.now) = omega (arith, many, ap length c.in_ok-file.ensures.bytes, ap length c.sync.ensures.seen) in
    let same : c.deref.result.now ≡ g.K.Disk.seen c.args.disk.now = c.deref.ensures.value ∙ c.in_ok-file.ensures.bytes ∙ c.sync.ensures.seen in
    let is : opening (g.K.Disk.seen c.args.disk.now) ≡ behind_reading (cutting (behind_gate c.deref.result.now)) =
    opening_long file long ∙ ap (λ (f : List ℕ). behind_reading (cutting (behind_gate f))) (sym same) in
    opened_wants (fuel c.args.disk.now) (fuel c.read_whole.new.disk) file (cutting (behind_gate c.deref.result.now)) three (c.resume.ensures.wants failed) is

pub returns-in_err-write_fresh-clause-wants : goal.returns-in_err-write_fresh-clause-wants
returns-in_err-write_fresh-clause-wants g c = λ failed.
    let fuel = g.K.Disk.fuel in
    let file = g.K.Disk.seen c.args.disk.now in
    let one = one_spent (fuel c.args.disk.now) (fuel c.sync.new.self) 0 1 c.in_ok-sync.ensures.spends in
    let three = then_spent (fuel c.args.disk.now) (fuel c.sync.new.self) (fuel c.read_whole.new.disk) 1 0 1 2 0 0 3 0 1 one c.in_ok-file.ensures.spends refl refl refl in
    let few : length c.in_ok-file.file.items ≤ 9 = search rules in
    let short : length (g.K.Disk.seen c.args.disk.now) ≤ 9 = omega (arith, few, ap length c.in_ok-file.ensures.bytes, ap length c.sync.ensures.seen) in
    opened_wants (fuel c.args.disk.now) (fuel c.read_whole.new.disk) file (cost 2 9 2) three c.in_err-write_fresh.ensures.wants (opening_short file short)

pub returns-clause-spends : goal.returns-clause-spends
returns-clause-spends g c =
    let fuel = g.K.Disk.fuel in
    let file = g.K.Disk.seen c.args.disk.now in
    let one = one_spent (fuel c.args.disk.now) (fuel c.sync.new.self) 0 1 c.in_ok-sync.ensures.spends in
    let three = then_spent (fuel c.args.disk.now) (fuel c.sync.new.self) (fuel c.read_whole.new.disk) 1 0 1 2 0 0 3 0 1 one c.in_ok-file.ensures.spends refl refl refl in
    let few : length c.in_ok-file.file.items ≤ 9 = search rules in
    let short : length (g.K.Disk.seen c.args.disk.now) ≤ 9 = omega (arith, few, ap length c.in_ok-file.ensures.bytes, ap length c.sync.ensures.seen) in
    opened_spends (fuel c.args.disk.now) (fuel c.read_whole.new.disk) (fuel c.write_fresh.new.disk) file (cost 2 9 2) three c.in_ok-write_fresh.ensures.spends (opening_short file short)
