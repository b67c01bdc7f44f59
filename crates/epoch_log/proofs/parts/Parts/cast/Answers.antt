use Rattle.std.proofs.Common.{ap, ◌∙◌}
use Rattle.ar_statement.specs.Claims.{Claim, text_of}
use Rattle.key_roll.specs.Rolls.{is_roll}
use Rattle.epoch_log.proofs.Texts.{plain-vote}
use Rattle.epoch_log.proofs.parts.Parts.cast.Goals as goal

pub leaf_for-requires-clause-plain : goal.leaf_for-requires-clause-plain
leaf_for-requires-clause-plain c = ap (λ (k : Claim). is_roll (text_of k)) c.vote_statement-statement.ensures ∙ plain-vote c.args.self.now.number c.epoch-epoch.result c.args.value

pub sign-due-requires-clause-plain : goal.sign-due-requires-clause-plain
sign-due-requires-clause-plain c = ap (λ (k : Claim). is_roll (text_of k)) c.vote_statement-statement.ensures ∙ plain-vote c.args.self.now.number c.epoch-epoch.result c.args.value
