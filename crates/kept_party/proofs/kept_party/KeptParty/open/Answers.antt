use Rattle.std.proofs.Common.{None, refl}
use Rattle.kept_journal.specs.Journal.{recovered}
use Rattle.kept_party.proofs.Opened.{bad_party, replays_party, replies_last}
use Rattle.kept_party.proofs.kept_party.KeptParty.open.Goals as goal

pub returns-in-Ok-clause-replays : goal.returns-in-Ok-clause-replays
returns-in-Ok-clause-replays g c =
    replays_party g.P.Keeper.takes (recovered (g.K.Disk.seen c.args.disk)) (record { party = c.args.party; last = None }) c.open.new.party c.in-Ok.ensures.replays

pub returns-in-Ok-clause-again : goal.returns-in-Ok-clause-again
returns-in-Ok-clause-again g c =
    replies_last g.P.Keeper.takes (recovered (g.K.Disk.seen c.args.disk)) (record { party = c.args.party; last = None }) c.open.new.party refl c.in-Ok.ensures.replays

pub returns-in-Err-clause-bad : goal.returns-in-Err-clause-bad
returns-in-Err-clause-bad g c place is =
    bad_party g.P.Keeper.takes c.args.mark.now (g.K.Disk.seen c.args.disk) (record { party = c.args.party; last = None }) place (c.in-Err.ensures.bad place is)
