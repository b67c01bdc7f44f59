-- What the crowd gives back, and that a station may be sent to a worker.
use denote.Exit.{no}
use denote.Param.Send.{arg_send, param_send}
use Rattle.burst_run.proofs.Crossing.{station_send}
use Rattle.burst_run.proofs.burst.bring.Goals as goal

pub crowd-requires-send-C : goal.crowd-requires-send-C
crowd-requires-send-C g c κs within = param_send _ _ (arg_send _ no _ (station_send _ c.type_bounds.send-C))

pub returns-in-Ok-clause-taken : goal.returns-in-Ok-clause-taken
returns-in-Ok-clause-taken g c = c.in-Ok.ensures.taken

pub returns-in-Ok-clause-orders : goal.returns-in-Ok-clause-orders
returns-in-Ok-clause-orders g c = λ numbered. c.in-Ok.ensures.orders (λ input. input.j) numbered
