use Rattle.std.proofs.Common.{◌≡◌, ◌⊎◌, inr, ℕ, List, length, ap}
use Rattle.kept_journal.proofs.Moments.{weaker}
use Rattle.chained_journal.specs.Journal.{Stands, recovered}
use Rattle.chained_journal.proofs.Ended.{read_end, read_file, read_settles, read_stands}
use Rattle.chained_journal.proofs.opening.resume.Goals as goal

pub trim-requires : goal.trim-requires
trim-requires g c =
    record {
      titled = c.in_ok-standing.ensures.ok.titled;
      stands = read_stands g.P.Replay.takes c.args.party.now c.read_again.new.party c.args.title.now c.args.witness.now c.args.file.now (g.K.Disk.seen c.args.disk.now) c.in_ok-standing.standing c.in_ok-standing.ensures.ok c.requires.file;
      end = read_end g.P.Replay.takes c.args.party.now c.read_again.new.party c.args.title.now c.args.witness.now c.args.file.now (g.K.Disk.seen c.args.disk.now) c.in_ok-standing.standing c.in_ok-standing.ensures.ok c.requires.file;
      len = ap length c.requires.file;
      only = c.requires.only;
    }

pub returns-in_err-trim-clause-any_moment : goal.returns-in_err-trim-clause-any_moment
returns-in_err-trim-clause-any_moment g c =
    weaker g.K.Disk.moment g.K.Disk.left_since c.args.disk.now c.trim.new.disk (Stands c.args.title.now (recovered (g.K.Disk.seen c.args.disk.now))) (λ (f : List ℕ). (f ≡ c.args.file.now) ⊎ (Stands c.args.title.now (recovered c.args.file.now) c.args.file.now × Stands c.args.title.now (recovered c.args.file.now) f)) c.trim.ensures.any_moment
    (λ f stands. inr (c.in_ok-standing.ensures.ok.stands, read_file g.P.Replay.takes c.args.party.now c.read_again.new.party c.args.title.now c.args.witness.now c.args.file.now (g.K.Disk.seen c.args.disk.now) c.in_ok-standing.standing c.in_ok-standing.ensures.ok c.requires.file f stands))

pub returns-clause-any_moment : goal.returns-clause-any_moment
returns-clause-any_moment g c =
    weaker g.K.Disk.moment g.K.Disk.left_since c.args.disk.now c.trim.new.disk (Stands c.args.title.now (recovered (g.K.Disk.seen c.args.disk.now))) (λ (f : List ℕ). (f ≡ c.args.file.now) ⊎ (Stands c.args.title.now (recovered c.args.file.now) c.args.file.now × Stands c.args.title.now (recovered c.args.file.now) f)) c.trim.ensures.any_moment
    (λ f stands. inr (c.in_ok-standing.ensures.ok.stands, read_file g.P.Replay.takes c.args.party.now c.read_again.new.party c.args.title.now c.args.witness.now c.args.file.now (g.K.Disk.seen c.args.disk.now) c.in_ok-standing.standing c.in_ok-standing.ensures.ok c.requires.file f stands))

pub returns-clause-ok : goal.returns-clause-ok
returns-clause-ok g c =
    let settles = read_settles g.P.Replay.takes c.args.party.now c.read_again.new.party c.args.title.now c.args.witness.now c.args.file.now (g.K.Disk.seen c.args.disk.now) c.in_ok-standing.standing c.in_ok-standing.ensures.ok c.requires.file (g.K.Disk.seen c.trim.new.disk) (g.K.Disk.may_leave c.trim.new.disk) c.in_ok-trim.ensures.ok.0 c.requires.within c.in_ok-trim.ensures.ok.1 in
    settles.0

pub returns-clause-texts : goal.returns-clause-texts
returns-clause-texts g c =
    let settles = read_settles g.P.Replay.takes c.args.party.now c.read_again.new.party c.args.title.now c.args.witness.now c.args.file.now (g.K.Disk.seen c.args.disk.now) c.in_ok-standing.standing c.in_ok-standing.ensures.ok c.requires.file (g.K.Disk.seen c.trim.new.disk) (g.K.Disk.may_leave c.trim.new.disk) c.in_ok-trim.ensures.ok.0 c.requires.within c.in_ok-trim.ensures.ok.1 in
    settles.1
