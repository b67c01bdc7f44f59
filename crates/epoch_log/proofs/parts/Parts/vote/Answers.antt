use Rattle.std.proofs.Common.{refl}
use Rattle.std.proofs.lemmas.List.Elements.{All-same}
use Rattle.ar_cert.specs.Changes.{IsChange}
use Rattle.epoch_log.specs.Calls.{MayVote, after_vote, vote_of}
use Rattle.epoch_log.specs.Log.{state_in}
use Rattle.epoch_log.proofs.Called.{kept-vote}
use Rattle.epoch_log.proofs.Moved.{log-cast, log-same}
use Rattle.epoch_log.proofs.parts.Parts.vote.Goals as goal

pub returns-in-Ok-clause-kept : goal.returns-in-Ok-clause-kept
returns-in-Ok-clause-kept c =
    let may : MayVote (state_in c.args.self.now) c.args.value c.args.changes.items = record {
      open_to = c.requires.open;
      are_changes = All-same IsChange c.args.changes.items c.deref.result.now (cc) c.changes_told.ensures;
      are_digests = c.value_told.ensures;
    } in
    log-cast c.args.self.now c.cast.new.self (after_vote (state_in c.args.self.now) c.args.proposer c.args.value c.args.changes.items)
    (vote_of (state_in c.args.self.now) c.args.value c.args.changes.items) c.args.tried c.in-Ok.ensures.ok c.in-Ok.ensures.tables
    c.requires.kept (kept-vote (state_in c.args.self.now) c.args.proposer c.args.value c.args.changes.items c.requires.kept.kept may c.requires.proposal c.in-Ok.ensures.leaf)
    refl refl refl c.requires.open.not_voted c.requires.tried

pub returns-in-Err-clause-kept : goal.returns-in-Err-clause-kept
returns-in-Err-clause-kept c = log-same c.args.self.now c.cast.new.self c.in-Err.ensures.err c.in-Err.ensures.same c.requires.kept
