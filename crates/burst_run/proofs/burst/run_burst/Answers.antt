-- The burst is what the visits make of the world.
use Rattle.std.proofs.Common.{◌<◌, sym, subst}
use Rattle.burst_run.specs.Laying.{homes_in}
use Rattle.burst_run.proofs.BurstLemmas.{as_many_logs, burst_of, messages_there, parties_there, visits_many, visits_there}
use Rattle.burst_run.proofs.burst.run_burst.Goals as goal

pub visit_all-requires-clause-messages : goal.visit_all-requires-clause-messages
visit_all-requires-clause-messages g c κs within =
    messages_there c.args.world c.part-rest.result.0 c.args.deliveries.now c.part-rest.ensures.world c.requires.there

pub visit_all-requires-clause-parties : goal.visit_all-requires-clause-parties
visit_all-requires-clause-parties g c κs within =
    parties_there c.args.world c.part-rest.result.1.logs.items c.part-rest.result.1.authorities.items c.args.deliveries.now c.part-rest.ensures.logs c.part-rest.ensures.authorities c.requires.there

pub join-world-requires : goal.join-world-requires
join-world-requires g c = record {
  few = subst (λ n. n < 65536)
      (sym (as_many_logs c.part-rest.result.0 c.args.workers c.args.deliveries.now (homes_in c.part-rest.result.1) (homes_in c.visit_all.new.parties) c.in_ok-visits.visits.items c.in_ok-visits.ensures))
      c.part-rest.ensures.few;
}

pub settle_all-requires-clause-many : goal.settle_all-requires-clause-many
settle_all-requires-clause-many g c =
    visits_many c.part-rest.result.0 c.args.workers c.args.deliveries.now (homes_in c.part-rest.result.1) (homes_in c.visit_all.new.parties) c.in_ok-visits.visits.items c.in_ok-visits.ensures

pub settle_all-requires-clause-there : goal.settle_all-requires-clause-there
settle_all-requires-clause-there g c =
    visits_there c.part-rest.result.0 c.join-world.result c.args.workers c.args.deliveries.now (homes_in c.part-rest.result.1) (homes_in c.visit_all.new.parties) c.in_ok-visits.visits.items c.join-world.ensures
    c.in_ok-visits.ensures

pub returns : goal.returns
returns g c =
    burst_of c.args.world c.part-rest.result.0 c.join-world.result c.settle_all.new.world c.args.workers c.args.deliveries.now c.part-rest.result.1.logs.items c.part-rest.result.1.authorities.items
    (homes_in c.visit_all.new.parties) c.in_ok-visits.visits.items c.in_ok-said.said c.part-rest.ensures.world c.part-rest.ensures.logs c.part-rest.ensures.authorities c.in_ok-visits.ensures c.join-world.ensures
    c.in_ok-said.ensures
