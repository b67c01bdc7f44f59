use Rattle.std.proofs.Common.{refl}
use Rattle.ar_message.specs.declared.confirming.ConfirmingView.{ConfirmingView}
use Rattle.ar_message.specs.Messages.{confirming_at}
use Rattle.ar_message.specs.Views.{confirming_of}
use Rattle.ar_message.proofs.confirming.confirming.Goals as goal

pub returns : goal.returns
unfolding confirming_at
returns c =
    let votes = c.in_ok-votes.ensures in
    let view : ConfirmingView = record { about = c.in_ok-about.about; base = c.in_ok-base.base; shown = c.in_ok-shown.shown; path = c.in_ok-path.path; log = c.in_ok-log.log; first = c.in_ok-first.first; second = c.in_ok-second.second } in
    (confirming_of view votes.0, (rw (c.in_ok-is_present.ensures, c.in_ok-about.ensures.tells, c.in_ok-base.ensures, c.in_ok-shown.ensures, c.in_ok-path.ensures.tells, votes.1.0, c.in_ok-log.ensures.tells, c.in_ok-first.ensures, c.in_ok-second.ensures) refl, c.with_votes.ensures votes.0 votes.1.1))
