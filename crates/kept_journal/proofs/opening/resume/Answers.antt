use Rattle.std.proofs.Common.{rules, ◌≡◌, ◌⊎◌, inr, ℕ, List, length, ap}
use Rattle.kept_journal.specs.Journal.{IsJournal, Stands, recovered}
use Rattle.kept_journal.proofs.Moments.{weaker}
use Rattle.kept_journal.proofs.Opened.{loaded_end, loaded_journal, loaded_marked, loaded_settles, loaded_stands}
use Rattle.kept_journal.proofs.opening.resume.Goals as goal

pub trim-requires : goal.trim-requires
trim-requires g c =
    let marked : length c.args.mark.now ≡ 8 = search rules in
    record {
      marked = loaded_marked g.P.Replay.takes c.args.party.now c.load.new.party c.args.mark.now c.args.file.now (g.K.Disk.seen c.args.disk.now) c.in_ok-standing.standing marked c.in_ok-standing.ensures.ok c.requires.file;
      journal = loaded_journal g.P.Replay.takes c.args.party.now c.load.new.party c.args.mark.now c.args.file.now (g.K.Disk.seen c.args.disk.now) c.in_ok-standing.standing marked c.in_ok-standing.ensures.ok c.requires.file;
      end = loaded_end g.P.Replay.takes c.args.party.now c.load.new.party c.args.mark.now c.args.file.now (g.K.Disk.seen c.args.disk.now) c.in_ok-standing.standing marked c.in_ok-standing.ensures.ok c.requires.file;
      len = ap length c.requires.file;
      only = c.requires.only;
    }

pub returns-in_err-trim-clause-any_moment : goal.returns-in_err-trim-clause-any_moment
returns-in_err-trim-clause-any_moment g c =
    let marked : length c.args.mark.now ≡ 8 = search rules in
    weaker g.K.Disk.moment g.K.Disk.left_since c.args.disk.now c.trim.new.disk (IsJournal c.in_ok-standing.standing.mark (recovered (g.K.Disk.seen c.args.disk.now))) (λ (f : List ℕ). (f ≡ c.args.file.now) ⊎ (Stands c.args.mark.now (recovered c.args.file.now) c.args.file.now × Stands c.args.mark.now (recovered c.args.file.now) f)) c.trim.ensures.any_moment (λ f journal. inr ((c.in_ok-standing.ensures.ok.short, inr c.in_ok-standing.ensures.ok.journal), loaded_stands g.P.Replay.takes c.args.party.now c.load.new.party c.args.mark.now c.args.file.now (g.K.Disk.seen c.args.disk.now) c.in_ok-standing.standing marked c.in_ok-standing.ensures.ok c.requires.file f journal))

pub returns-clause-any_moment : goal.returns-clause-any_moment
returns-clause-any_moment g c =
    let marked : length c.args.mark.now ≡ 8 = search rules in
    weaker g.K.Disk.moment g.K.Disk.left_since c.args.disk.now c.trim.new.disk (IsJournal c.in_ok-standing.standing.mark (recovered (g.K.Disk.seen c.args.disk.now))) (λ (f : List ℕ). (f ≡ c.args.file.now) ⊎ (Stands c.args.mark.now (recovered c.args.file.now) c.args.file.now × Stands c.args.mark.now (recovered c.args.file.now) f)) c.trim.ensures.any_moment (λ f journal. inr ((c.in_ok-standing.ensures.ok.short, inr c.in_ok-standing.ensures.ok.journal), loaded_stands g.P.Replay.takes c.args.party.now c.load.new.party c.args.mark.now c.args.file.now (g.K.Disk.seen c.args.disk.now) c.in_ok-standing.standing marked c.in_ok-standing.ensures.ok c.requires.file f journal))

pub returns-clause-ok : goal.returns-clause-ok
returns-clause-ok g c =
    let marked : length c.args.mark.now ≡ 8 = search rules in
    let settles = loaded_settles g.P.Replay.takes c.args.party.now c.load.new.party c.args.mark.now c.args.file.now (g.K.Disk.seen c.args.disk.now) c.in_ok-standing.standing marked c.in_ok-standing.ensures.ok c.requires.file (g.K.Disk.seen c.trim.new.disk) (g.K.Disk.may_leave c.trim.new.disk) c.in_ok-trim.ensures.ok.0 c.requires.within c.in_ok-trim.ensures.ok.1 in
    (c.in_ok-standing.ensures.ok.mark_is, settles.0)

pub returns-clause-texts : goal.returns-clause-texts
returns-clause-texts g c =
    let marked : length c.args.mark.now ≡ 8 = search rules in
    let settles = loaded_settles g.P.Replay.takes c.args.party.now c.load.new.party c.args.mark.now c.args.file.now (g.K.Disk.seen c.args.disk.now) c.in_ok-standing.standing marked c.in_ok-standing.ensures.ok c.requires.file (g.K.Disk.seen c.trim.new.disk) (g.K.Disk.may_leave c.trim.new.disk) c.in_ok-trim.ensures.ok.0 c.requires.within c.in_ok-trim.ensures.ok.1 in
    settles.1

pub returns-clause-stood : goal.returns-clause-stood
returns-clause-stood g c = (c.in_ok-standing.ensures.ok.short, inr c.in_ok-standing.ensures.ok.journal)
