use Rattle.std.proofs.Common.{rules, ap, ◌≡◌, ◌∙◌, ℕ, map, sym, subst}
use Rattle.std.specs.List.{range_with_len}
use Rattle.node_crowd.specs.Bringing.{brought_to, own_of}
use Rattle.node_crowd.specs.Stalls.{HasGathered, IsIdle, IsStallOf, share_at}
use Rattle.node_crowd.specs.Working.{RowGathers}
use Rattle.node_crowd.proofs.AlongLemmas.{each_long, refilled, zip_long}
use Rattle.node_crowd.proofs.crowds.gathered.Goals as goal

pub returns-clause-gathers : goal.returns-clause-gathers
returns-clause-gathers g c =
    let lists : ℕ → _ = λ place. map (λ worker. brought_to place (own_of c.args.workers worker c.args.errands.items)) (range_with_len 0 c.args.workers) in
    let long = each_long (λ place booth stall. HasGathered g.C.Core.next booth.node (g.F.Finish.finished booth.finish) stall (lists place)) 0 c.args.nodes.now.items c.bring_all.new.base c.in_ok-bring_all.ensures.gathers
    ∙ sym (zip_long (λ booth stall. IsIdle booth.node stall) c.args.nodes.now.items c.args.base.items c.requires.idle) in
    subst (λ l. RowGathers (λ booth. booth.node) g.C.Core.next (λ booth. g.F.Finish.finished booth.finish) c.args.nodes.now.items l lists)
    (sym (refilled c.args.base.len c.args.base.items c.bring_all.new.base c.args.base.ok.0 long)) c.in_ok-bring_all.ensures.gathers

pub returns-clause-shares : goal.returns-clause-shares
returns-clause-shares g c =
    let same : c.as_mut_slice.result.now ≡ c.args.base.items = search rules in
    let long = zip_long (λ booth stall. IsStallOf booth.node stall) c.args.nodes.now.items c.bring_all.new.base c.in_ok-bring_all.ensures.own
    ∙ sym (zip_long (λ booth stall. IsIdle booth.node stall) c.args.nodes.now.items c.args.base.items c.requires.idle) in
    subst (λ l. (place : ℕ) → share_at place l ≡ share_at place c.args.base.items)
    (sym (refilled c.args.base.len c.args.base.items c.bring_all.new.base c.args.base.ok.0 long))
    (λ place. c.in_ok-bring_all.ensures.shares place ∙ ap (λ l. share_at place l) same)
