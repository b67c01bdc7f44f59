use Rattle.epoch_log.specs.Log.{state_in}
use Rattle.epoch_log.proofs.Foretold.{foreseen-propose}
use Rattle.epoch_log.proofs.parts.Parts.foresee_propose.Goals as goal

pub returns : goal.returns
returns c =
    foreseen-propose (state_in c.args.self.now) c.args.value.now c.args.changes.now c.in_ok-vote.vote c.foresee_with_ballot.result
    c.requires.not_voted c.in_ok-vote.ensures c.foresee_with_ballot.ensures
