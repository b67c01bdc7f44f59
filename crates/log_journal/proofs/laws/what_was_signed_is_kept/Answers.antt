use Rattle.std.proofs.lemmas.List.Elements.{All-from_recursion}
use Rattle.log_core.proofs.Later.{IsServedIn}
use Rattle.log_journal.proofs.Kept.{signed_kept}
use Rattle.log_journal.proofs.laws.what_was_signed_is_kept.Goals as goal

pub returns : goal.returns
returns c first before after last texts answered more input reply left lives final replays step answer whole lead at_end =
    let kept = signed_kept first before after last texts answered more input reply left lives final replays step answer whole lead at_end in
    (kept.0, All-from_recursion (IsServedIn last.core.log.past.signed) reply.unsigned.blanks kept.1)
