use Rattle.std.proofs.Common.{ap, ◌∙◌}
use Rattle.ar_statement.specs.Claims.{Claim, text_of}
use Rattle.key_roll.specs.Rolls.{is_roll}
use Rattle.epoch_log.proofs.Texts.{plain-status}
use Rattle.epoch_log.proofs.parts.Parts.put_status.Goals as goal

pub sign-due-requires-clause-plain : goal.sign-due-requires-clause-plain
sign-due-requires-clause-plain c =
    ap (λ (k : Claim). is_roll (text_of k)) c.status_statement-statement.ensures ∙ plain-status c.args.self.now.number c.args.epoch c.args.value
