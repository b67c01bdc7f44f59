use Rattle.std.proofs.Common.{ap, refl, ◌∙◌, ℕ}
use Rattle.epoch_log.specs.Calls.{casting, proposing, vote_of}
use Rattle.epoch_log.specs.Log.{moved, parts_of, state_in}
use Rattle.epoch_log.specs.Told.{value_of}
use Rattle.epoch_log.proofs.Called.{kept-proposed}
use Rattle.epoch_log.proofs.Moved.{log-cast}
use Rattle.epoch_log.proofs.parts.Parts.take_proposal.Goals as goal

pub returns-clause-kept : goal.returns-clause-kept
returns-clause-kept c =
    log-cast c.args.self.now c.put_proposal.new.self (casting (proposing (state_in c.args.self.now) (value_of c.args.vote)) (vote_of (state_in c.args.self.now) (value_of c.args.vote) c.args.vote.changes))
    (vote_of (state_in c.args.self.now) (value_of c.args.vote) c.args.vote.changes) c.args.tried
    (c.put_proposal.ensures.parts
    ∙ ap (λ (e : ℕ). moved (parts_of c.args.self.now) (casting (proposing (state_in c.args.self.now) (value_of c.args.vote)) (record { epoch = e; base = c.args.vote.base; changes = c.args.vote.changes; root = c.args.vote.root })))
    c.requires.can.epoch)
    c.put_proposal.ensures.tables c.requires.kept
    (kept-proposed (state_in c.args.self.now) (value_of c.args.vote) c.args.vote.changes c.requires.kept.kept c.requires.may c.requires.endorsed c.requires.can.leaves)
    refl refl refl c.requires.may.open_to.not_voted c.requires.tried
