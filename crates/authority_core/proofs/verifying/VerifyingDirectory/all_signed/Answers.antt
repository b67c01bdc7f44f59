use Rattle.std.proofs.Common.{sym, ap, ◌∙◌}
use Rattle.party_keys.specs.Directory.{Directory}
use Rattle.party_keys.specs.Signers.{all_signed}
use Rattle.authority_core.proofs.Verified.{passed-over}
use Rattle.authority_core.proofs.verifying.VerifyingDirectory.all_signed.Goals as goal

pub returns-then-are_of : goal.returns-then-are_of
returns-then-are_of c =
    c.all_signed.ensures
    ∙ passed-over c.self.inside.directory c.self.inside.verified c.args.part.now c.args.front c.args.claims.now c.self.invariant (sym c.are_of.ensures ∙ c.if-are_of.true) c.requires.votes
    ∙ ap (λ (keys : Directory). all_signed keys c.args.claims.now) c.self.view_is
