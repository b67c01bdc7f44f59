-- What a delivery makes of a world is what its party makes of the message, and what becomes of the world where it has replied.
use Rattle.std.proofs.Common.{◌≡◌, ◌∙◌, ℕ, List, Option, Some, Result, Ok, Err, IfOk, OnOk, OnErr, refl, sym, ap, subst}
use Rattle.std.specs.Prelude.{slice_set}
use Rattle.std.proofs.lemmas.List.{set-set}
use Rattle.std.specs.declared.alloc.AllocError.{AllocError}
use Rattle.ar_message.specs.Filling.{filled}
use Rattle.ar_nodes.specs.Acting.{Reply, authority_delivered, bytes_of, delivered_as, log_answers, log_delivered, log_does, logs_behind, logs_with, settled_in, with_taken}
use Rattle.ar_nodes.specs.Finding.{honest_in}
use Rattle.ar_nodes.specs.Parties.{AuthorityNode, LogNode}
use Rattle.ar_nodes.specs.Pool.{Pooled}
use Rattle.ar_nodes.specs.declared.event.LogEvent.TheVariants as events
use Rattle.ar_nodes.proofs.Spots.{honest-below, put-there}
use Rattle.ar_statement.specs.Claims.{authority_party, log_party}
use Rattle.ar_statement.specs.declared.party.Party.{Party}
use Rattle.ar_nodes.specs.log_core.Row.{row}
use Rattle.ar_nodes.specs.log_core.State as log
use Rattle.ar_nodes.specs.log_core.State.{takes}
use Rattle.owner_check.specs.declared.answer.Outcome.{Outcome}
use Rattle.report_text.specs.declared.happening.Happening.{Happening}
use Rattle.ar_world.specs.Delivering.{a_log, an_authority, delivery}
use Rattle.ar_world.specs.Finding.{log_at, message_at}
use Rattle.ar_world.specs.Sending.{log_made}
use Rattle.ar_world.specs.Settling.{authority_apart, authority_settled, log_apart, log_settled, settled}
use Rattle.ar_world.specs.State.{World, with_authority}

-- ---- logs

-- what a log notes that stands in its place
noted-there : (logs : List (Option LogNode)) (message number : ℕ) (was is : LogNode) → honest_in logs number ≡ Some was
    → logs_with (slice_set logs number (Some is)) message number (honest_in (slice_set logs number (Some is)) number) ≡ slice_set logs number (Some (with_taken message is))
noted-there logs message number was is there =
    ap (logs_with (slice_set logs number (Some is)) message number) (put-there logs number (Some is) (honest-below logs number was there))
    ∙ set-set logs number (Some is) (Some (with_taken message is))

answer-settled : (w : World) (message number : ℕ) (node : LogNode) (answer : log.LogAnswer) → log_at w number ≡ Some node
    → log_made w number (delivered_as w.pool message (log_party number) (log_does node node.keys (events.Take message) answer))
    ≡ log_settled w message number (log_answers node answer)
answer-settled w message number node (Ok reply) there =
    let made = settled_in w.pool message (log_party number) (Ok (filled node.keys reply.unsigned)) in
    ap (λ (logs : List (Option LogNode)). (record w { logs = logs; pool = made.0 }, made.1))
    (sym (noted-there w.logs message number node (record node { core = reply.after }) there))
answer-settled w message number node (Err refusal) there = refl

pub log_delivery_settled : (says : Outcome) (w : World) (message number : ℕ) (node : LogNode) → log_at w number ≡ Some node
    → delivery says w message number (a_log node) ≡ log_settled w message number (log_apart w message node)
unfolding log_delivered
log_delivery_settled says w message number node there =
    answer-settled w message number node (row node.core (takes (bytes_of (message_at w message)))) there

-- ---- authorities

-- only logs note what they did
none-noted : (logs : List (Option LogNode)) (message number : ℕ) (reply : Reply) → logs_behind logs message (authority_party number) reply ≡ logs
none-noted logs message number (Ok sent) = refl
none-noted logs message number (Err code) = refl

pub authority_delivery_settled : (says : Outcome) (w : World) (message number : ℕ) (node : AuthorityNode)
    → delivery says w message number (an_authority node) ≡ authority_settled w message number (authority_apart says w message node)
unfolding authority_delivered
authority_delivery_settled says w message number node =
    let took = authority_apart says w message node in
    let made = settled_in w.pool message (authority_party number) took.1 in
    ap (λ (logs : List (Option LogNode)). (record (with_authority w number took.0) { logs = logs; pool = made.0 }, made.1))
    (sym (none-noted w.logs message number took.1))

-- ---- what a call made

-- a call that settled the reply in the pool and in what logs note settled it in the world
pub settled_so : (v w : World) (message : ℕ) (who : Party) (reply : Reply) (result : Result (List Happening) AllocError) (logs : List (Option LogNode)) (pool : List Pooled) → v ≡ w
    → IfOk result (λ said. settled_in v.pool message who reply ≡ (pool, said)) → OnOk result (logs ≡ logs_behind v.logs message who reply)
    → IfOk result (λ said. settled w message who reply ≡ (record v { logs = logs; pool = pool }, said))
settled_so v w message who reply (Err e) logs pool same made noted = tt
settled_so v w message who reply (Ok said) logs pool same made noted =
    subst (λ (x : World). settled x message who reply ≡ (record v { logs = logs; pool = pool }, said)) same
    (ap (λ (t : List Pooled × List Happening). (record v { logs = logs_behind v.logs message who reply; pool = t.0 }, t.1)) made
    ∙ ap (λ (ls : List (Option LogNode)). (record v { logs = ls; pool = pool }, said)) (sym noted))

-- and one for which memory was wanting left it as it was
pub unsettled : (v w : World) (result : Result (List Happening) AllocError) (logs : List (Option LogNode)) (pool : List Pooled) → v ≡ w
    → OnErr result ((pool ≡ v.pool) × (logs ≡ v.logs)) → OnErr result (record v { logs = logs; pool = pool } ≡ w)
unsettled v w (Ok said) logs pool same stays = tt
unsettled v w (Err e) logs pool same stays =
    ap (λ (p : List Pooled). record v { logs = logs; pool = p }) stays.0 ∙ ap (λ (ls : List (Option LogNode)). record v { logs = ls }) stays.1 ∙ same
