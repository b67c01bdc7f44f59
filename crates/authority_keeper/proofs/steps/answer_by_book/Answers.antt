use Rattle.std.proofs.Common.{rules, ◌≡◌, subst}
use Rattle.ar_message.specs.Messages.{message_in}
use Rattle.authority_core.specs.Keyed.{SendsBy}
use Rattle.authority_core.specs.State.{AuthorityState}
use Rattle.authority_keeper.specs.Keeping.{answer_to, standing_of}
use Rattle.authority_keeper.proofs.Answered.{answered}
use Rattle.authority_keeper.proofs.steps.answer_by_book.Goals as goal

pub returns-clause-row : goal.returns-clause-row
returns-clause-row c =
    let same : c.answer-reply.new.authority.core.state ≡ c.authority.inside.core.state = search rules in
    subst (λ (s : AuthorityState). SendsBy c.args.authority.now.ring.keys c.answer-reply.result c.args.authority.now.core.state s
    (answer_to (standing_of c.args.authority.now) c.args.bytes.now)) same
    (answered c.args.authority.now.ring.keys c.args.authority.now.core.state c.answer-reply.new.authority.core.state c.args.authority.now.core.check (message_in c.args.bytes.now)
    c.answer-reply.result c.answer-reply.ensures.checks.by c.answer-reply.ensures.row)
