use Rattle.ar_message.proofs.Filled.{same_lengths}
use Rattle.ar_message.proofs.filling.sign_blank.Goals as goal

pub returns-clause-lengths : goal.returns-clause-lengths
returns-clause-lengths c =
    same_lengths c.args.messages.now.items c.args.blank.message c.requires.whole c.index_mut.result.now c.sign.new.self c.requires.named
    c.index_mut.ensures.value c.sign.ensures.len
