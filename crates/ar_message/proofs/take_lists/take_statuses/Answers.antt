use Rattle.std.proofs.Common.{◌≡◌, Vec, Global, Result, sym, subst}
use Rattle.std.specs.Prelude.{IfOk}
use Rattle.std.specs.declared.alloc.AllocError.{AllocError}
use Rattle.ar_base.specs.Bytes.{AreBytes}
use Rattle.ar_message.specs.declared.lists.LogStatus.{LogStatus}
use Rattle.ar_message.specs.Lists.{AreLogStatuses}
use Rattle.ar_message.proofs.ListLaws.{statuses_pass}
use Rattle.ar_message.proofs.take_lists.take_statuses.Goals as goal

pub invariant_of-result : goal.invariant_of-result
invariant_of-result c =
    let read = c.in_ok-list.ensures in
    let are = subst AreBytes c.left.ensures c.are_bytes.ensures in
    let fits : AreLogStatuses read.0 = (statuses_pass _ _ read.0 are read.1.0).1 in
    let kept : c.in-Ok.list.items ≡ read.0 =
    subst (λ (r : Result (Vec LogStatus Global) AllocError). IfOk r (λ y. y.items ≡ read.0)) c.in-Ok.is read.1.1 in
    subst AreLogStatuses (sym kept) fits
