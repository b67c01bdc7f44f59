-- What a delivery makes of a world, by what it makes of the party and the pool.
use Rattle.std.proofs.Common.{◌≡◌, inr, ℕ, Bool, true, false, List, get_or, Option, Some, None, is_some, Result, Ok, Err, IfOk, OnOk, refl, sym, ap, ◌∙◌, subst}
use Rattle.std.specs.Prelude.{position, slice_set}
use Rattle.std.specs.Option.{option_map}
use Rattle.std.specs.Result.{is_ok, result_ok}
use Rattle.ar_base.specs.Chaining.{◌>>=◌, need}
use Rattle.ar_base.specs.Gives.{with_error}
use Rattle.ar_base.proofs.Shown.{if-chained}
use Rattle.ar_message.specs.Messages.{message_in}
use Rattle.ar_message.specs.declared.message.Message.{Message}
use Rattle.ar_message.specs.declared.message.Message.TheVariants.{EndorseAsk, Endorsed, Submit, Propose, Ballot, StatusNote, Decision, SkipNote, ConfirmAsk, LogConfirmed, HalfConfirmed, Confirmation, RollNote}
use Rattle.ar_statement.specs.Claims.{authority_party, endorse, log_party, owner_party, party, text_of}
use Rattle.ar_statement.specs.declared.party.Party.{Party}
use Rattle.ar_statement.specs.declared.party.Role.{Role}
use Rattle.ar_statement.specs.declared.party.Role.TheVariants.{LogServer, Authority}
use Rattle.ar_statement.specs.declared.party.Role.TheVariants as role
use Rattle.owner_check.specs.declared.answer.Outcome.{Outcome}
use Rattle.owner_check.specs.declared.answer.Outcome.TheVariants.{No}
use Rattle.owner_core.specs.Drafts.{changed_draft, endorsed}
use Rattle.owner_core.specs.Rows.{is_own, message_row, roll_refusal, step_row, verified_as}
use Rattle.owner_core.specs.State.{Owner}
use Rattle.owner_core.specs.declared.refusal.OwnerRefusal.TheVariants.{Form}
use Rattle.party_keys.specs.Learning.{learned}
use Rattle.party_keys.specs.Signatures.{verified}
use Rattle.report_text.specs.declared.happening.Happening.{Happening}
use Rattle.ar_nodes.specs.Acting.{ActsBy, ActsBySome, ChangesAt, authority_delivered, bytes_of, log_delivered, owner_delivered}
use Rattle.ar_world.specs.Delivering.{Taker, a_log, an_authority, an_owner, can_deliver, deliver_line, deliverable, delivery, taker_at, taker_in}
use Rattle.ar_world.specs.Finding.{authority_at, has_room, log_at, message_at, owner_at, room}
use Rattle.ar_nodes.specs.Finding.{honest_in, is_owner, named}
use Rattle.ar_nodes.specs.Parties.{AuthorityNode, LogNode}
use Rattle.ar_nodes.specs.Pool.{Pooled, numbered}
use Rattle.ar_world.specs.Sending.{authority_made, log_made}
use Rattle.ar_world.specs.State.{World, with_authority, with_log}
use Rattle.ar_world.specs.Step.{StepsBySome}
use Rattle.ar_nodes.specs.declared.fault.WorldFault.{WorldFault}
use Rattle.ar_nodes.specs.declared.fault.WorldFault.TheVariants.{Absent, Limit}
use Rattle.ar_world.proofs.Drafts.{owner_is_at}
use Rattle.ar_world.proofs.Orders.{authority-steps, log-steps, room-free}
use Rattle.ar_world.proofs.OwnerReplies.{does-number, owner-made, owner-steps, owner_placed}

-- ---- whether a message can be delivered

-- by what the words name
abbrev can-by : World → Option Pooled → Option Taker → Bool → Result Taker WorldFault
can-by w message taker free = named 1 message >>= (λ p. named 2 taker >>= (λ t. need free Limit >>= (λ u. Ok t)))

can-is : (w : World) (message : ℕ) (who : Party) (p : Option Pooled) (t : Option Taker) (free : Bool) → message_at w message ≡ p → taker_at w who ≡ t → has_room w ≡ free
    → can_deliver w message who ≡ can-by w p t free
can-is w message who p t free a b c =
    ap (λ (o : Option Pooled). can-by w o (taker_at w who) (has_room w)) a ∙ ap (λ (o : Option Taker). can-by w p o (has_room w)) b ∙ ap (can-by w p t) c

there-by : (w : World) (message : ℕ) (who : Party) (p : Option Pooled) (t : Option Taker) → message_at w message ≡ p → taker_at w who ≡ t → is_some p ≡ true → is_some t ≡ true
    → deliverable w message who ≡ need (has_room w) Limit
there-by w message who (Some p) (Some t) a b c d =
    ap (λ (c : Result Taker WorldFault). c >>= (λ f. Ok tt)) (can-is w message who (Some p) (Some t) (has_room w) a b refl) ∙ at (has_room w) where
      at : (free : Bool) → (can-by w (Some p) (Some t) free >>= (λ f. Ok tt)) ≡ need free Limit
      at true = refl
      at false = refl
there-by w message who None t a b c d = absurd cc
there-by w message who (Some p) None a b c d = absurd cc

pub can_there : (w : World) (message : ℕ) (who : Party) → is_some (message_at w message) ≡ true → is_some (taker_at w who) ≡ true → deliverable w message who ≡ need (has_room w) Limit
can_there w message who a b = there-by w message who (message_at w message) (taker_at w who) refl refl a b

no-message-by : (w : World) (message : ℕ) (who : Party) (p : Option Pooled) → message_at w message ≡ p → is_some p ≡ false → can_deliver w message who ≡ Err (Absent 1)
no-message-by w message who None a b = can-is w message who None (taker_at w who) (has_room w) a refl refl
no-message-by w message who (Some p) a b = absurd cc

no-message : (w : World) (message : ℕ) (who : Party) → is_some (message_at w message) ≡ false → can_deliver w message who ≡ Err (Absent 1)
no-message w message who b = no-message-by w message who (message_at w message) refl b

no-taker-by : (w : World) (message : ℕ) (who : Party) (p : Option Pooled) (t : Option Taker) → message_at w message ≡ p → taker_at w who ≡ t → is_some p ≡ true → is_some t ≡ false
    → can_deliver w message who ≡ Err (Absent 2)
no-taker-by w message who (Some p) None a b c d = can-is w message who (Some p) None (has_room w) a b refl
no-taker-by w message who None t a b c d = absurd cc
no-taker-by w message who (Some p) (Some t) a b c d = absurd cc

no-taker : (w : World) (message : ℕ) (who : Party) → is_some (message_at w message) ≡ true → is_some (taker_at w who) ≡ false → can_deliver w message who ≡ Err (Absent 2)
no-taker w message who a b = no-taker-by w message who (message_at w message) (taker_at w who) refl refl a b

pub can_no_message : (w : World) (message : ℕ) (who : Party) → is_some (message_at w message) ≡ false → deliverable w message who ≡ Err (Absent 1)
can_no_message w message who a = ap (λ (c : Result Taker WorldFault). c >>= (λ f. Ok tt)) (no-message w message who a)

pub can_no_taker : (w : World) (message : ℕ) (who : Party) → is_some (message_at w message) ≡ true → is_some (taker_at w who) ≡ false → deliverable w message who ≡ Err (Absent 2)
can_no_taker w message who a b = ap (λ (c : Result Taker WorldFault). c >>= (λ f. Ok tt)) (no-taker w message who a b)

pub ruleset can = (can_there, can_no_message, can_no_taker)

-- where it can be, there is the message, the taker and room
can-parts : (w : World) (p : Option Pooled) (t : Option Taker) (free : Bool) (u : Unit {0}) → (can-by w p t free >>= (λ f. Ok tt)) ≡ Ok u
    → (is_some p ≡ true) × ((is_some t ≡ true) × (free ≡ true))
can-parts w (Some p) (Some t) true u e = (refl, (refl, refl))
can-parts w (Some p) (Some t) false u e = absurd cc
can-parts w (Some p) None free u e = absurd cc
can-parts w None t free u e = absurd cc

can-be : (w : World) (message : ℕ) (who : Party) (u : Unit {0}) → deliverable w message who ≡ Ok u → (is_some (message_at w message) ≡ true) × ((is_some (taker_at w who) ≡ true) × (has_room w ≡ true))
can-be w message who u e = can-parts w (message_at w message) (taker_at w who) (has_room w) u e

pub some-mapped : {X Y : Type 0} (f : X → Y) (o : Option X) → is_some (option_map f o) ≡ is_some o
some-mapped f (Some x) = refl
some-mapped f None = refl

-- what a delivery needs is there: a message, the party that takes it, and room
pub can-take : (o : Option Pooled) (t : Option Taker) (r : Result (Unit {0}) WorldFault) (taker : Taker)
    → (named 1 o >>= λ p. named 2 t >>= λ found. r >>= λ free. Ok found) ≡ Ok taker → ((p : Pooled) × (o ≡ Some p)) × (t ≡ Some taker) × (r ≡ Ok tt)
can-take None t r taker same = absurd cc
can-take (Some p) None r taker same = absurd cc
can-take (Some p) (Some found) (Err e) taker same = absurd cc
can-take (Some p) (Some found) (Ok u) taker same = ((p, refl), ap result_ok same, refl)

-- so there is the log
pub log_there : (w : World) (message number : ℕ) (result : Result (Unit {0}) WorldFault) → result ≡ deliverable w message (log_party number)
    → OnOk result (is_some (honest_in w.logs number) ≡ true)
log_there w message number (Ok u) e = sym (some-mapped a_log (log_at w number)) ∙ (can-be w message (log_party number) u (sym e)).1.0
log_there w message number (Err fault) e = tt

-- or the authority
pub authority_there : (w : World) (message number : ℕ) (result : Result (Unit {0}) WorldFault) → result ≡ deliverable w message (authority_party number)
    → OnOk result (is_some (honest_in w.authorities number) ≡ true)
authority_there w message number (Ok u) e = sym (some-mapped an_authority (authority_at w number)) ∙ (can-be w message (authority_party number) u (sym e)).1.0
authority_there w message number (Err fault) e = tt

-- ---- refusals

-- a line that is refused, whatever a check says
refused : (w : World) (message : ℕ) (who : Party) (fault : WorldFault) → can_deliver w message who ≡ Err fault
    → StepsBySome (Err fault) w w (λ says. deliver_line says w message who)
refused w message who fault e = record { says = No; steps = (refl, inr (ap (λ (c : Result Taker WorldFault). c >>= (λ taker. Ok (delivery No w message who.number taker))) e)) }

abbrev whether : Result Taker WorldFault → Result (Unit {0}) WorldFault
whether r = r >>= (λ f. Ok tt)

fault-of : (r : Result Taker WorldFault) (fault : WorldFault) → whether r ≡ Err fault → r ≡ Err fault
fault-of (Ok f) fault e = absurd cc
fault-of (Err x) fault e =
    let same : x ≡ fault = cc
    in ap (λ y. Err y) same

pub not_delivered : (w : World) (message : ℕ) (who : Party) (fault : WorldFault) → deliverable w message who ≡ Err fault
    → StepsBySome (Err fault) w w (λ says. deliver_line says w message who)
not_delivered w message who fault e = refused w message who fault (fault-of (can_deliver w message who) fault e)

-- ---- who it is

-- a log is the log with its number
as-log : (who : Party) → who.role ≡ LogServer → log_party who.number ≡ who
as-log who is = ap (λ (r : Role). party r who.number) (sym is)

pub is_log : (w v : World) (message : ℕ) (who : Party) (result : Result (List Happening) WorldFault) → who.role ≡ LogServer
    → StepsBySome result w v (λ says. deliver_line says w message (log_party who.number)) → StepsBySome result w v (λ says. deliver_line says w message who)
is_log w v message who result is h = subst (λ (p : Party). StepsBySome result w v (λ says. deliver_line says w message p)) (as-log who is) h

as-authority : (who : Party) → who.role ≡ Authority → authority_party who.number ≡ who
as-authority who is = ap (λ (r : Role). party r who.number) (sym is)

pub is_authority : (w v : World) (message : ℕ) (who : Party) (result : Result (List Happening) WorldFault) → who.role ≡ Authority
    → StepsBySome result w v (λ says. deliver_line says w message (authority_party who.number)) → StepsBySome result w v (λ says. deliver_line says w message who)
is_authority w v message who result is h = subst (λ (p : Party). StepsBySome result w v (λ says. deliver_line says w message p)) (as-authority who is) h

as-owner : (who : Party) → who.role ≡ role.Owner → owner_party who.number ≡ who
as-owner who is = ap (λ (r : Role). party r who.number) (sym is)

pub is_an_owner : (w v : World) (message : ℕ) (who : Party) (result : Result (List Happening) WorldFault) → who.role ≡ role.Owner
    → StepsBySome result w v (λ says. deliver_line says w message (owner_party who.number)) → StepsBySome result w v (λ says. deliver_line says w message who)
is_an_owner w v message who result is h = subst (λ (p : Party). StepsBySome result w v (λ says. deliver_line says w message p)) (as-owner who is) h

pub ruleset roles = (is_log, is_authority, is_an_owner, not_delivered)

-- why a delivery to a party is refused, if it is
pub to_log : (w : World) (message : ℕ) (who : Party) (why : WorldFault) → who.role ≡ LogServer → deliverable w message who ≡ Err why → deliverable w message (log_party who.number) ≡ Err why
to_log w message who why is e = ap (deliverable w message) (as-log who is) ∙ e

pub to_authority : (w : World) (message : ℕ) (who : Party) (why : WorldFault) → who.role ≡ Authority → deliverable w message who ≡ Err why → deliverable w message (authority_party who.number) ≡ Err why
to_authority w message who why is e = ap (deliverable w message) (as-authority who is) ∙ e

pub to_an_owner : (w : World) (message : ℕ) (who : Party) (why : WorldFault) → who.role ≡ role.Owner → deliverable w message who ≡ Err why → deliverable w message (owner_party who.number) ≡ Err why
to_an_owner w message who why is e = ap (deliverable w message) (as-owner who is) ∙ e

pub ruleset refusals = (to_log, to_authority, to_an_owner)

-- a client takes nothing
no-client : (w : World) (r : Role) (number : ℕ) → r ≡ role.Client → is_some (taker_in w r number) ≡ false
no-client w r number is = ap (λ (r : Role). is_some (taker_in w r number)) is

pub client_no_taker : (w : World) (message : ℕ) (who : Party) → who.role ≡ role.Client → is_some (message_at w message) ≡ true → deliverable w message who ≡ Err (Absent 2)
client_no_taker w message who is a = can_no_taker w message who a (no-client w who.role who.number is)

pub ruleset clients = (can_no_message, client_no_taker)

-- ---- logs

log-line : (says : Outcome) (w : World) (message number : ℕ) (node : LogNode) (p : Option Pooled) → message_at w message ≡ p → is_some p ≡ true → log_at w number ≡ Some node → has_room w ≡ true
    → deliver_line says w message (log_party number) ≡ Ok (log_made w number (log_delivered w.pool message number node))
log-line says w message number node None e some there free = absurd cc
log-line says w message number node (Some p) e some there free =
    ap (λ (c : Result Taker WorldFault). c >>= (λ taker. Ok (delivery says w message number taker)))
    (can-is w message (log_party number) (Some p) (Some (a_log node)) true e (ap (option_map a_log) there) free)

log-stepped : (w : World) (message number : ℕ) (node : LogNode) (result : Result (List Happening) WorldFault) (node' : LogNode) (pool' : List Pooled)
    → is_some (message_at w message) ≡ true → log_at w number ≡ Some node → has_room w ≡ true
    → ActsBy result node node' w.pool pool' (log_delivered w.pool message number node)
    → StepsBySome result w (record (with_log w number node') { pool = pool' }) (λ says. deliver_line says w message (log_party number))
log-stepped w message number node result node' pool' some there free acts = record {
  says = No;
  steps = log-steps w number node result node' pool' (log_delivered w.pool message number node) (deliver_line No w message (log_party number)) there acts
      (log-line No w message number node (message_at w message) refl some there free);
}

log-changed : (w : World) (message number : ℕ) (result : Result (List Happening) WorldFault) (logs : List (Option LogNode)) (pool : List Pooled) (u : Unit {0})
    → deliverable w message (log_party number) ≡ Ok u
    → ChangesAt w.logs logs number (λ was is. ActsBy result was is w.pool pool (log_delivered w.pool message number was))
    → StepsBySome result w (record w { logs = logs; pool = pool }) (λ says. deliver_line says w message (log_party number))
log-changed w message number result logs pool u can at =
    let parts : (is_some (message_at w message) ≡ true) × ((is_some (taker_at w (log_party number)) ≡ true) × (has_room w ≡ true)) = can-be w message (log_party number) u can
    in subst (λ (ls : List (Option LogNode)). StepsBySome result w (record w { logs = ls; pool = pool }) (λ says. deliver_line says w message (log_party number))) (sym at.behind)
    (log-stepped w message number at.was result at.is pool parts.0 at.there parts.1.1 at.so)

-- the same of a world by two names
pub delivered_to_log : (v w : World) (message number : ℕ) (result : Result (List Happening) WorldFault) (logs : List (Option LogNode)) (pool : List Pooled) (u : Unit {0}) → v ≡ w
    → deliverable w message (log_party number) ≡ Ok u
    → ChangesAt v.logs logs number (λ was is. ActsBy result was is v.pool pool (log_delivered v.pool message number was))
    → StepsBySome result w (record v { logs = logs; pool = pool }) (λ says. deliver_line says w message (log_party number))
delivered_to_log v w message number result logs pool u same can at =
    subst (λ (x : World). StepsBySome result x (record v { logs = logs; pool = pool }) (λ says. deliver_line says x message (log_party number))) same
    (log-changed v message number result logs pool u (ap (λ (x : World). deliverable x message (log_party number)) same ∙ can) at)

-- ---- authorities

authority-line : (says : Outcome) (w : World) (message number : ℕ) (node : AuthorityNode) (p : Option Pooled) → message_at w message ≡ p → is_some p ≡ true → authority_at w number ≡ Some node
    → has_room w ≡ true → deliver_line says w message (authority_party number) ≡ Ok (authority_made w number (authority_delivered says w.pool message number node))
authority-line says w message number node None e some there free = absurd cc
authority-line says w message number node (Some p) e some there free =
    ap (λ (c : Result Taker WorldFault). c >>= (λ taker. Ok (delivery says w message number taker)))
    (can-is w message (authority_party number) (Some p) (Some (an_authority node)) true e (ap (option_map an_authority) there) free)

authority-stepped : (w : World) (message number : ℕ) (node : AuthorityNode) (result : Result (List Happening) WorldFault) (node' : AuthorityNode) (pool' : List Pooled)
    → is_some (message_at w message) ≡ true → authority_at w number ≡ Some node → has_room w ≡ true
    → ActsBySome result node node' w.pool pool' (λ says. authority_delivered says w.pool message number node)
    → StepsBySome result w (record (with_authority w number node') { pool = pool' }) (λ says. deliver_line says w message (authority_party number))
authority-stepped w message number node result node' pool' some there free acts = record {
  says = acts.says;
  steps = authority-steps w number node result node' pool' (authority_delivered acts.says w.pool message number node) (deliver_line acts.says w message (authority_party number)) there acts.acts
      (authority-line acts.says w message number node (message_at w message) refl some there free);
}

authority-changed : (w : World) (message number : ℕ) (result : Result (List Happening) WorldFault) (authorities : List (Option AuthorityNode)) (pool : List Pooled) (u : Unit {0})
    → deliverable w message (authority_party number) ≡ Ok u
    → ChangesAt w.authorities authorities number (λ was is. ActsBySome result was is w.pool pool (λ says. authority_delivered says w.pool message number was))
    → StepsBySome result w (record w { authorities = authorities; pool = pool }) (λ says. deliver_line says w message (authority_party number))
authority-changed w message number result authorities pool u can at =
    let parts : (is_some (message_at w message) ≡ true) × ((is_some (taker_at w (authority_party number)) ≡ true) × (has_room w ≡ true)) = can-be w message (authority_party number) u can
    in subst (λ (nodes : List (Option AuthorityNode)). StepsBySome result w (record w { authorities = nodes; pool = pool }) (λ says. deliver_line says w message (authority_party number))) (sym at.behind)
    (authority-stepped w message number at.was result at.is pool parts.0 at.there parts.1.1 at.so)

pub delivered_to_authority : (v w : World) (message number : ℕ) (result : Result (List Happening) WorldFault) (authorities : List (Option AuthorityNode)) (pool : List Pooled) (u : Unit {0}) → v ≡ w
    → deliverable w message (authority_party number) ≡ Ok u
    → ChangesAt v.authorities authorities number (λ was is. ActsBySome result was is v.pool pool (λ says. authority_delivered says v.pool message number was))
    → StepsBySome result w (record v { authorities = authorities; pool = pool }) (λ says. deliver_line says w message (authority_party number))
delivered_to_authority v w message number result authorities pool u same can at =
    subst (λ (x : World). StepsBySome result x (record v { authorities = authorities; pool = pool }) (λ says. deliver_line says x message (authority_party number))) same
    (authority-changed v message number result authorities pool u (ap (λ (x : World). deliverable x message (authority_party number)) same ∙ can) at)

-- ---- owners

-- an owner keeps its number
row-number : (me : Owner) (m : Message) → IfOk (message_row me m) (λ made. made.1.number ≡ me.number)
row-number me (Endorsed owner authority certificate signature) =
    if-chained (is_own me owner) _ (λ made. made.1.number ≡ me.number) (λ own a.
    if-chained (verified_as (authority_party authority) (verified me.directory (authority_party authority) (text_of (endorse authority certificate)) signature)) _ (λ made. made.1.number ≡ me.number) (λ valid b.
    if-chained (changed_draft me.drafts certificate (endorsed (record { authority = authority; signature = signature }))) _ (λ made. made.1.number ≡ me.number) (λ drafts c. refl)))
row-number me (RollNote party generation key signature) =
    if-chained (with_error (roll_refusal party generation) (learned me.directory (record { party = party; generation = generation; key = key; signature = signature }))) _
    (λ made. made.1.number ≡ me.number) (λ new a. refl)
row-number me (EndorseAsk owner cert) = tt
row-number me (Submit change) = tt
row-number me (Propose log epoch base root changes signature) = tt
row-number me (Ballot log epoch base root signature) = tt
row-number me (StatusNote log epoch value signature) = tt
row-number me (Decision epoch base root changes votes) = tt
row-number me (SkipNote epoch statuses) = tt
row-number me (ConfirmAsk client name first second) = tt
row-number me (LogConfirmed part) = tt
row-number me (HalfConfirmed part first_signature) = tt
row-number me (Confirmation client epoch name root body log log_signature first first_signature second second_signature) = tt

step-number : (me : Owner) (bytes : List ℕ) → IfOk (step_row me bytes) (λ made. made.1.number ≡ me.number)
step-number me bytes = if-chained (with_error Form (message_in bytes)) (message_row me) (λ made. made.1.number ≡ me.number) (λ m e. row-number me m)

delivered-number : (pool : List Pooled) (message number : ℕ) (me : Owner) → (owner_delivered pool message number me).0.number ≡ me.number
unfolding owner_delivered
delivered-number pool message number me =
    let bytes : List ℕ = bytes_of (numbered pool message)
    in does-number me (step_row me bytes) (step-number me bytes)

owner-line : (says : Outcome) (w : World) (message number place : ℕ) (me : Owner) (p : Option Pooled) → message_at w message ≡ p → is_some p ≡ true
    → position (is_owner number) w.owners ≡ Some place → me ≡ get_or w.owners place me → has_room w ≡ true
    → deliver_line says w message (owner_party number) ≡ Ok (owner_placed w place (owner_delivered w.pool message number me))
owner-line says w message number place me None e some here is free = absurd cc
owner-line says w message number place me (Some p) e some here is free =
    ap (λ (c : Result Taker WorldFault). c >>= (λ taker. Ok (delivery says w message number taker)))
    (can-is w message (owner_party number) (Some p) (Some (an_owner me)) true e (ap (option_map an_owner) (owner_is_at w number place me here is)) free)
    ∙ ap (λ m. Ok m) (owner-made w number place me (owner_delivered w.pool message number me) here is (delivered-number w.pool message number me))

owner-stepped : (w : World) (message number place : ℕ) (me : Owner) (result : Result (List Happening) WorldFault) (me' : Owner) (pool' : List Pooled)
    → is_some (message_at w message) ≡ true → position (is_owner number) w.owners ≡ Some place → me ≡ get_or w.owners place me → has_room w ≡ true
    → ActsBy result me me' w.pool pool' (owner_delivered w.pool message number me)
    → StepsBySome result w (record w { owners = slice_set w.owners place me'; pool = pool' }) (λ says. deliver_line says w message (owner_party number))
owner-stepped w message number place me result me' pool' some here is free acts = record {
  says = No;
  steps = owner-steps w number place me result me' pool' (owner_delivered w.pool message number me) (deliver_line No w message (owner_party number)) here is acts
      (owner-line No w message number place me (message_at w message) refl some here is free);
}

owner-changed : (w : World) (message number place : ℕ) (me : Owner) (result : Result (List Happening) WorldFault) (me' : Owner) (pool' : List Pooled)
    → is_some (message_at w message) ≡ true → position (is_owner number) w.owners ≡ Some place → me ≡ get_or w.owners place me → room w ≡ Ok tt
    → ActsBy result me me' w.pool pool' (owner_delivered w.pool message number me)
    → StepsBySome result w (record w { owners = slice_set w.owners place me'; pool = pool' }) (λ says. deliver_line says w message (owner_party number))
owner-changed w message number place me result me' pool' some here is free acts =
    owner-stepped w message number place me result me' pool' some here is (room-free w free) acts

pub delivered_to_owner : (v w : World) (message number place : ℕ) (me : Owner) (result : Result (List Happening) WorldFault) (me' : Owner) (pool' : List Pooled) → v ≡ w
    → is_some (numbered v.pool message) ≡ true → position (is_owner number) w.owners ≡ Some place → me ≡ get_or v.owners place me → room w ≡ Ok tt
    → ActsBy result me me' v.pool pool' (owner_delivered v.pool message number me)
    → StepsBySome result w (record v { owners = slice_set v.owners place me'; pool = pool' }) (λ says. deliver_line says w message (owner_party number))
delivered_to_owner v w message number place me result me' pool' same some here is free acts =
    subst (λ (x : World). StepsBySome result x (record v { owners = slice_set v.owners place me'; pool = pool' }) (λ says. deliver_line says x message (owner_party number))) same
    (owner-changed v message number place me result me' pool' some (ap (λ (x : World). position (is_owner number) x.owners) same ∙ here) is (ap (λ (x : World). room x) same ∙ free) acts)

-- refusals, by what the words name
abbrev owner-can : Option Pooled → Option Owner → Result (Unit {0}) WorldFault → Result Taker WorldFault
owner-can message me free = named 1 message >>= (λ p. named 2 (option_map an_owner me) >>= (λ t. free >>= (λ u. Ok t)))

no-owner-by : (p : Option Pooled) (o : Option Owner) (free : Result (Unit {0}) WorldFault) (fault : WorldFault) → is_some p ≡ true → named 2 o ≡ Err fault → owner-can p o free ≡ Err fault
no-owner-by (Some p) None free fault a e =
    let same : Absent 2 ≡ fault = cc
    in ap (λ y. Err y) same
no-owner-by (Some p) (Some o) free fault a e = absurd cc
no-owner-by None o free fault a e = absurd cc

full-by : (p : Option Pooled) (o : Option Owner) (free : Result (Unit {0}) WorldFault) (fault : WorldFault) → is_some p ≡ true → is_ok (named 2 o) ≡ true → free ≡ Err fault
    → owner-can p o free ≡ Err fault
full-by (Some p) (Some o) free fault a b e = ap (λ (r : Result (Unit {0}) WorldFault). r >>= (λ u. Ok (an_owner o))) e
full-by (Some p) None free fault a b e = absurd cc
full-by None o free fault a b e = absurd cc

pub owner_no_message : (w : World) (message number : ℕ) → is_some (message_at w message) ≡ false → StepsBySome (Err (Absent 1)) w w (λ says. deliver_line says w message (owner_party number))
owner_no_message w message number a = refused w message (owner_party number) (Absent 1) (no-message w message (owner_party number) a)

pub owner_unknown : (w : World) (message number : ℕ) (fault : WorldFault) → is_some (message_at w message) ≡ true → named 2 (owner_at w number) ≡ Err fault
    → StepsBySome (Err fault) w w (λ says. deliver_line says w message (owner_party number))
owner_unknown w message number fault a e = refused w message (owner_party number) fault (no-owner-by (message_at w message) (owner_at w number) (room w) fault a e)

pub owner_full : (w : World) (message number : ℕ) (fault : WorldFault) → is_some (message_at w message) ≡ true → is_ok (named 2 (owner_at w number)) ≡ true → room w ≡ Err fault
    → StepsBySome (Err fault) w w (λ says. deliver_line says w message (owner_party number))
owner_full w message number fault a b e = refused w message (owner_party number) fault (full-by (message_at w message) (owner_at w number) (room w) fault a b e)

pub ruleset to_owner = (owner_no_message, owner_unknown, owner_full)

-- why it is refused, if it is
pub owner_unknown_is : (w : World) (message number : ℕ) (fault : WorldFault) → is_some (message_at w message) ≡ true → named 2 (owner_at w number) ≡ Err fault
    → deliverable w message (owner_party number) ≡ Err fault
owner_unknown_is w message number fault a e = ap whether (no-owner-by (message_at w message) (owner_at w number) (room w) fault a e)

pub owner_full_is : (w : World) (message number : ℕ) (fault : WorldFault) → is_some (message_at w message) ≡ true → is_ok (named 2 (owner_at w number)) ≡ true → room w ≡ Err fault
    → deliverable w message (owner_party number) ≡ Err fault
owner_full_is w message number fault a b e = ap whether (full-by (message_at w message) (owner_at w number) (room w) fault a b e)

free-by : (p : Option Pooled) (o : Option Owner) (free : Result (Unit {0}) WorldFault) (u : Unit {0}) → is_some p ≡ true → is_ok (named 2 o) ≡ true → free ≡ Ok u → whether (owner-can p o free) ≡ Ok tt
free-by (Some p) (Some o) free u a b e = ap (λ (r : Result (Unit {0}) WorldFault). whether (r >>= (λ u. Ok (an_owner o)))) e
free-by (Some p) None free u a b e = absurd cc
free-by None o free u a b e = absurd cc

pub owner_free_is : (w : World) (message number : ℕ) (u : Unit {0}) → is_some (message_at w message) ≡ true → is_ok (named 2 (owner_at w number)) ≡ true → room w ≡ Ok u
    → deliverable w message (owner_party number) ≡ Ok tt
owner_free_is w message number u a b e = free-by (message_at w message) (owner_at w number) (room w) u a b e

pub ruleset owner_refusals = (can_no_message, owner_unknown_is, owner_full_is, owner_free_is)
