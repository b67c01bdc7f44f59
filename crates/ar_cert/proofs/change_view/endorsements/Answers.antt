use Rattle.std.proofs.Common.{◌≡◌, ◌-◌, ◌+◌, ◌∷◌, [], List, map, take, sym, ap, subst, ◌∙◌, arith}
use Rattle.std.proofs.lemmas.List.{take_more_set, map-append, length-set}
use Rattle.ar_bytes.specs.Ascending.{with_front}
use Rattle.ar_bytes.proofs.Ascending.{entry_more}
use Rattle.ar_cert.specs.Changes.{Endorsement, endorsement_from, endorsements_at}
use Rattle.ar_cert.specs.Views.{endorsement_of}
use Rattle.ar_cert.specs.declared.change_view.EndorsementView.{EndorsementView}
use Rattle.ar_cert.proofs.change_view.endorsements.Goals as goal

pub loop-i-preserved : goal.loop-i-preserved
loop-i-preserved c =
    let kept = c.loop-i.invariant in
    let list = c.loop-i.list in
    let i = c.loop-i.i in
    let next = c.in_ok-next.next in
    let written = take_more_set list i next (omega (arith, kept.room, kept.few, c.loop-i-test.true)) in
    let front = ap (λ (l : List EndorsementView). map endorsement_of l) written ∙ map-append endorsement_of (take i list) (next ∷ []) in
    let more = entry_more (λ v. v.authority) endorsement_from (map endorsement_of (take i list)) c.in_ok-count.count i c.loop-i.least c.loop-i.fields c.endorsement.new.fields (endorsement_of next) _ c.loop-i-test.true c.in_ok-next.ensures kept.reads in
    record {
      few = kept.few;
      room = length-set list i next ∙ kept.room;
      reads = subst (λ (l : List Endorsement). with_front l (endorsements_at (c.in_ok-count.count - (i + 1)) (next.authority + 1) c.endorsement.new.fields) ≡ endorsements_at c.in_ok-count.count 0 c.take_count.new.self) (sym front) more;
    }
