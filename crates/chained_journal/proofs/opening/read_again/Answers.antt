use Rattle.std.proofs.Common.{rules, arith}
use Rattle.chained_journal.proofs.Ended.{end_within, header_refused, is_older, is_read, is_unsure}
use Rattle.chained_journal.proofs.opening.read_again.Goals as goal

pub returns-in-Err-clause-refused : goal.returns-in-Err-clause-refused
returns-in-Err-clause-refused g c =
    header_refused g.P.Replay.takes c.args.title.now c.args.witness.now c.args.party.now c.args.file.now c.in-Err.fault c.in-Err.ensures.refused

pub is_shut_at-requires : goal.is_shut_at-requires
is_shut_at-requires g c =
    let within = end_within g.P.Replay.takes c.args.party.now c.load.new.party c.args.title.now c.args.witness.now c.args.file.now c.in_ok-standing.standing c.in_ok-standing.at_witness c.check_header.ensures.titled c.in_ok-standing.ensures.ok in
    omega (arith, within)

pub returns-then-not-is_shut_at-clause-refused : goal.returns-then-not-is_shut_at-clause-refused
returns-then-not-is_shut_at-clause-refused g c = is_unsure g.P.Replay.takes c.args.party.now c.load.new.party c.args.title.now c.args.witness.now c.args.file.now c.in_ok-standing.standing c.in_ok-standing.at_witness c.check_header.ensures.titled c.in_ok-standing.ensures.ok (c.is_shut_at.ensures.no (search rules))

pub returns-then-not-bears_out-clause-refused : goal.returns-then-not-bears_out-clause-refused
returns-then-not-bears_out-clause-refused g c =
    is_older g.P.Replay.takes c.args.party.now c.load.new.party c.args.title.now c.args.witness.now c.args.file.now c.in_ok-standing.standing c.in_ok-standing.at_witness c.check_header.ensures.titled c.in_ok-standing.ensures.ok _ (c.is_shut_at.ensures.yes (search rules)) (search rules)

pub returns-clause-ok : goal.returns-clause-ok
returns-clause-ok g c =
    is_read g.P.Replay.takes c.args.party.now c.load.new.party c.args.title.now c.args.witness.now c.args.file.now c.in_ok-standing.standing c.in_ok-standing.at_witness c.check_header.ensures.titled c.in_ok-standing.ensures.ok _ (c.is_shut_at.ensures.yes (search rules)) (search rules)
