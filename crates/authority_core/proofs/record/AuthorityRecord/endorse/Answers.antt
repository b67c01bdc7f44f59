use Rattle.std.proofs.Common.{inl}
use Rattle.ar_statement.specs.Claims.{endorse}
use Rattle.key_roll.proofs.Books.{is_roll-kind}
use Rattle.authority_core.proofs.record.AuthorityRecord.endorse.Goals as goal

-- an endorsement is no Roll
pub enter-requires : goal.enter-requires
enter-requires g c = inl (is_roll-kind (endorse c.args.me c.args.asked.certificate))
