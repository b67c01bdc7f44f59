-- What is shown of each change that a line can make of a world is shown of each line.
use Rattle.std.proofs.Common.{◌≡◌, ◌∙◌, ℕ, ◌+◌, List, [], ◌∷◌, ◌++◌, append-nil, length, refl, sym, ap, subst, Bool, true, false, Option, Some, None, Ok, Err, IfOk, is_none}
use Rattle.std.specs.Prelude.{filter, nat_lt, unwrap_or}
use Rattle.std.specs.Option.{option_map}
use Rattle.std.proofs.lemmas.Option.{option_and_then_some}
use Rattle.ar_base.specs.Chaining.{need}
use Rattle.ar_base.specs.Gives.{with_error}
use Rattle.ar_base.proofs.Shown.{if-chained, needed}
use Rattle.ar_cert.specs.Certificate.{Certificate, digest_of}
use Rattle.ar_founding.specs.FirstKeys.{key_made, keys_made}
use Rattle.ar_founding.specs.Founding.{genesis_of}
use Rattle.ar_message.specs.Messages.{message_in}
use Rattle.ar_message.specs.declared.sent.Sent.{Sent}
use Rattle.ar_nodes.specs.Acting.{Reply, acted, authority_rolled, log_obeyed, log_rolled, owner_does}
use Rattle.ar_nodes.specs.Codes.{owner_code}
use Rattle.ar_nodes.specs.Finding.{named, with_check}
use Rattle.ar_nodes.specs.Forging.{forged}
use Rattle.ar_nodes.specs.Owners.{known_key}
use Rattle.ar_nodes.specs.Parties.{AuthorityNode, CheckParts, Forger, LogNode, next_of}
use Rattle.ar_nodes.specs.Pool.{Pooled, raw}
use Rattle.ar_nodes.specs.Teaching.{retold}
use Rattle.ar_nodes.specs.declared.event.LogEvent.{LogEvent}
use Rattle.ar_nodes.specs.declared.event.LogEvent.TheVariants as events
use Rattle.ar_nodes.specs.declared.fault.WorldFault.{WorldFault}
use Rattle.ar_nodes.specs.declared.fault.WorldFault.TheVariants.{Absent}
use Rattle.ar_nodes.specs.log_core.State as log_state
use Rattle.ar_statement.specs.Claims.{client_party, owner_party}
use Rattle.ar_statement.specs.declared.party.Party.{Party}
use Rattle.ar_statement.specs.declared.party.Role.{Role}
use Rattle.ar_statement.specs.declared.party.Role.TheVariants as role
use Rattle.cert_drafts.specs.Certificates.{first_certificate, next_certificate}
use Rattle.cert_drafts.specs.Policies.{policy_of}
use Rattle.client_rule.specs.Notes.{note_of}
use Rattle.lm_ots.specs.OtsKind.{type_of_number}
use Rattle.lm_ots.specs.declared.ots_type.OtsType.{OtsType}
use Rattle.lms_tree.specs.Key.{public_of, type_to_make}
use Rattle.lms_tree.specs.KeyParts.{KeyParts}
use Rattle.lms_tree.specs.LmsKind.{leaves_of}
use Rattle.lms_tree.specs.declared.lms_type.LmsType.{LmsType}
use Rattle.owner_check.specs.Answers.{Told, forgotten, learnt}
use Rattle.owner_check.specs.declared.answer.Outcome.{Outcome}
use Rattle.owner_core.specs.Rows.{OwnerAnswer, begin_row, handover_row, object_row, submit_row}
use Rattle.owner_core.specs.State.{Owner}
use Rattle.party_keys.specs.Directory.{Directory, is_party_count, is_quorum}
use Rattle.report_text.specs.declared.happening.Happening.{Happening}
use Rattle.report_text.specs.declared.happening.Happening.TheVariants.{Dishonest, Draft, Forgot, Judged, Retired, SignRefused, Step, Taught}
use Rattle.report_text.specs.declared.happening.Target.{Target}
use Rattle.report_text.specs.declared.happening.Target.TheVariants.{Nobody}
use Rattle.report_text.specs.declared.happening.What.{What}
use Rattle.report_text.specs.declared.happening.What.TheVariants as whats
use Rattle.script_text.specs.declared.line.EventLine.{EventLine}
use Rattle.script_text.specs.declared.line.EventLine.TheVariants as event
use Rattle.script_text.specs.declared.line.PolicyWords.{PolicyWords}
use Rattle.script_text.specs.declared.line.SetupLine.{SetupLine}
use Rattle.script_text.specs.declared.line.SetupLine.TheVariants as setup
use Rattle.ar_world.specs.Asking.{ask_line, question}
use Rattle.ar_world.specs.Delivering.{Taker, can_deliver, deliver_line, delivery, taker_at}
use Rattle.ar_world.specs.Drafting.{draft_begun, draft_if, draft_room, register_line, revoke_line, update_line}
use Rattle.ar_world.specs.Finding.{authority_at, checking_at, draft_at, existing, forger_at, known_asks, log_at, message_at, owner_at, room, with_forger, with_owner}
use Rattle.ar_world.specs.Forging.{composed_in, inject_line, receiver_in, sign_line, signing_if}
use Rattle.ar_world.specs.Founding.{honest_key, peopled, turned}
use Rattle.ar_world.specs.Judging.{judge_line, judged_by_rule, judged_number}
use Rattle.ar_world.specs.Learning.{learn_line, learning}
use Rattle.ar_world.specs.Ordering.{log_order, roll_of}
use Rattle.ar_world.specs.Owning.{check_line, owner_key, owner_line, retire_line, new_owner}
use Rattle.ar_world.specs.Printed.{entries_in}
use Rattle.ar_world.specs.Sending.{authority_made, log_made, owner_made, posted}
use Rattle.ar_world.specs.State.{Drafted, Moved, World, printing, silent, with_authority, with_messages}
use Rattle.ar_world.specs.Step.{event_effect, leads_to, setup_effect}
use Rattle.ar_world.specs.Submitting.{attached_by, handed, handover_line, object_line, submit_line}
use Rattle.ar_world.specs.declared.phase.Phase.{Phase}
use Rattle.ar_world.specs.declared.phase.Phase.TheVariants as phase
use Rattle.ar_world.proofs.Deliveries.{can-take}
use Rattle.ar_world.proofs.OwnerReplies.{attached-by-alone}

-- ---- what is printed

-- it tells who is dishonest, or of a judgement
abbrev pub is_marked : Happening → Bool
is_marked (Dishonest who) = true
is_marked (Judged message said) = true
is_marked _ = false

-- nothing tells so, or of a message
pub record IsQuiet (said : List Happening) : Type 0 where
  pub entries : entries_in said ≡ []
  pub marked : filter is_marked said ≡ []

-- ---- the setup

-- A property has what each line of the setup makes, beside the phase to which it leads: the setup is told, the keys of the logs
-- are made, the parties are there, or one of them is dishonest.
pub record EachSetup (w : World) (P : Phase → Moved → Type 0) : Type 0 where
  pub secret : (bytes : List ℕ) → P phase.SecretTold (silent (record w { setup = record w.setup { secret = bytes } }))
  pub types : (tree : LmsType) (one : OtsType) → P phase.KeysTold (silent (record w { setup = record w.setup { lms = tree; ots = one } }))
  pub counts : (count quorum : ℕ) → is_party_count count ≡ true
      → P phase.LogsMade (record w { setup = record w.setup { logs = count; quorum = quorum } }, keys_made w.setup role.LogServer count)
  pub founds : (count : ℕ) (genesis : Directory) → genesis_of w.setup count ≡ Some genesis → P phase.AuthoritiesMade (peopled w count genesis)
  pub turns : (who : Party) (key : KeyParts) → honest_key w who.role who.number ≡ Some key → P phase.DishonestTold (turned w who key, Dishonest who ∷ [])

-- what is needed holds
pub need-holds : (b : Bool) (fault : WorldFault) (u : Unit {0}) → need b fault ≡ Ok u → b ≡ true
need-holds true fault u h = refl
need-holds false fault u h = absurd cc

pub setup-each : (w : World) (P : Phase → Moved → Type 0) → EachSetup w P → (l : SetupLine) → IfOk (setup_effect w l) (P (leads_to l))
unfolding setup_effect
setup-each w P each (setup.Secret secret) = each.secret secret
setup-each w P each (setup.Keys lms ots) =
    if-chained (named 1 (type_to_make lms)) _ (P phase.KeysTold) (λ tree same.
    if-chained (named 2 (type_of_number ots)) _ (P phase.KeysTold) (λ one there. each.types tree one))
setup-each w P each (setup.Logs count quorum) =
    if-chained (need (is_party_count count) (Absent 1)) _ (P phase.LogsMade) (λ counted same.
    if-chained (need (is_quorum quorum count) (Absent 2)) _ (P phase.LogsMade) (λ bound there.
    each.counts count quorum (need-holds (is_party_count count) (Absent 1) counted same)))
setup-each w P each (setup.Authorities count) =
    if-chained (named 1 (genesis_of w.setup count)) _ (P phase.AuthoritiesMade) (λ genesis same.
    each.founds count genesis (needed (genesis_of w.setup count) _ genesis same))
setup-each w P each (setup.Dishonest who) =
    if-chained (named 1 (honest_key w who.role who.number)) _ (P phase.DishonestTold) (λ key same.
    each.turns who key (needed (honest_key w who.role who.number) _ key same))

-- ---- other lines

-- the world with these owners and drafts
abbrev pub with_drafts : World → List Owner → List Drafted → World
with_drafts w owners drafts = record w { owners = owners; drafts = drafts }

-- A property has whatever a line makes that is none of the setup. Owners and drafts change; messages are sent with that, or by a
-- dishonest party, or composed; an owner acts; a log or an authority obeys; a party takes a message; an authority's check
-- changes; clients learn, and judge.
pub record EachLine (w : World) (P : Moved → Type 0) : Type 0 where
  pub quiet : (owners : List Owner) (drafts : List Drafted) (said : List Happening) → IsQuiet said → P (with_drafts w owners drafts, said)
  pub posts : (owners : List Owner) (drafts : List Drafted) (front : List Happening) (who : Party) (sent : Sent) → IsQuiet front
      → P (printing front (posted (with_drafts w owners drafts) who sent))
  pub signs : (forger : Forger) (text : List ℕ)
      → P (with_messages (with_forger w (record forger { next = forger.next + 1 })) (raw (Some forger.party) Nobody (forged forger text) ∷ []))
  pub injects : (to : Target) (bytes : List ℕ) → P (with_messages w (raw None to bytes ∷ []))
  pub acts : (number : ℕ) (what : What) (made : Owner × Reply) → P (owner_made w (acted w.pool (owner_party number) what made))
  pub proposes : (number : ℕ) (node : LogNode) → log_at w number ≡ Some node
      → P (log_made w number (log_obeyed w.pool number whats.Propose events.Propose log_state.proposes node))
  pub passes : (number : ℕ) (node : LogNode) → log_at w number ≡ Some node
      → P (log_made w number (log_obeyed w.pool number whats.Pass events.Pass log_state.passes node))
  pub log_rolls : (number : ℕ) (node : LogNode) (next : KeyParts) → log_at w number ≡ Some node → next_of node.keys ≡ Some next
      → P (log_made w number (log_rolled w.pool number next node))
  pub authority_rolls : (number : ℕ) (node : AuthorityNode) (next : KeyParts) → authority_at w number ≡ Some node → next_of node.keys ≡ Some next
      → P (authority_made w number (authority_rolled w.pool number next node))
  pub delivers : (says : Outcome) (message : ℕ) (p : Pooled) (who : Party) (taker : Taker) → message_at w message ≡ Some p → taker_at w who ≡ Some taker
      → P (delivery says w message who.number taker)
  pub checks : (number : ℕ) (node : AuthorityNode) (check : Option CheckParts) (said : List Happening) → authority_at w number ≡ Some node → IsQuiet said
      → P (with_authority w number (record node { check = check }), said)
  pub learns : (message : ℕ) (p : Pooled) → message_at w message ≡ Some p → P (learning w message (note_of (message_in p.bytes)))
  pub judges : (message : ℕ) (p : Pooled) (name : List ℕ) (now age : ℕ) → message_at w message ≡ Some p
      → P (judged_by_rule w message (record { name = name; now = now; age = age; bytes = p.bytes }))

-- an authority with a check is there
checking-there : (w : World) (number : ℕ) (found : AuthorityNode × CheckParts) → checking_at w number ≡ Some found → authority_at w number ≡ Some found.0
checking-there w number found h = option_and_then_some with_check (authority_at w number) found h (λ node is has. is ∙ ap Some (by node.check has))
  where
    by : {node : AuthorityNode} (check : Option CheckParts) → option_map (λ c. (node, c)) check ≡ Some found → node ≡ found.0
    by None e = absurd cc
    by {node} (Some c) e = ap (λ (o : Option (AuthorityNode × CheckParts)). (unwrap_or o (node, c)).0) e

module _ (w : World) (P : Moved → Type 0) (each : EachLine w P) where
  -- ---- owners and drafts

  handed-each : (number draft : ℕ) (found : Drafted) (r : OwnerAnswer (List ℕ)) → P (handed w number draft found r)
  handed-each number draft found (Ok made) =
      let signed = with_owner w made.1 in
      let owner = owner_at signed found.owner in
      let said = Step (owner_party number) (whats.Handover draft) None ∷ [] in
      subst (λ (v : World). P (v, said)) (sym (attached-by-alone signed owner (digest_of found.cert) made.0))
      (each.quiet (attached_by signed owner (digest_of found.cert) made.0).owners w.drafts said (record { entries = refl; marked = refl }))
  handed-each number draft found (Err refusal) =
      each.quiet w.owners w.drafts (Step (owner_party number) (whats.Handover draft) (Some (owner_code refusal)) ∷ []) (record { entries = refl; marked = refl })

  begun-each : (drafts : List Drafted) (front : List Happening) (number : ℕ) (r : OwnerAnswer Sent) → IsQuiet front
      → P (printing front (draft_begun (record w { drafts = drafts }) number r))
  begun-each drafts front number (Ok made) is = each.posts (with_owner w made.1).owners drafts front (owner_party number) made.0 is
  begun-each drafts front number (Err refusal) is = subst (λ (said : List Happening). P (with_drafts w w.owners drafts, said)) (sym (append-nil front)) (each.quiet w.owners drafts front is)

  draft-if-each : (owner : Owner) (cert : Certificate) (asks : List ℕ) → IfOk (draft_if w owner cert asks) P
  draft-if-each owner cert asks =
      if-chained (draft_room w) _ P (λ free same.
      begun-each (w.drafts ++ record { owner = owner.number; cert = cert } ∷ []) (Draft (length w.drafts + 1) (digest_of cert) ∷ []) owner.number
      (begin_row owner cert asks) (record { entries = refl; marked = refl }))

  owner-line-each : (number : ℕ) → IfOk (owner_line w number) P
  owner-line-each number =
      if-chained (need (is_none (owner_at w number)) (Absent 1)) _ P (λ free same.
      each.quiet (w.owners ++ new_owner w number ∷ []) w.drafts (key_made (owner_party number) (owner_key w.setup.secret number) ∷ [])
      (record { entries = refl; marked = refl }))

  register-each : (number : ℕ) (name : List ℕ) (policy : PolicyWords) (asks : List ℕ) → IfOk (register_line w number name policy asks) P
  register-each number name policy asks =
      if-chained (named 1 (owner_at w number)) _ P (λ owner same.
      if-chained (named 3 (policy_of policy)) _ P (λ terms said.
      if-chained (known_asks w 8 asks) _ P (λ known there.
      draft-if-each owner (first_certificate (public_of owner.key) name terms) asks)))

  update-each : (number draft : ℕ) (policy : PolicyWords) (asks : List ℕ) → IfOk (update_line w number draft policy asks) P
  update-each number draft policy asks =
      if-chained (named 1 (owner_at w number)) _ P (λ owner same.
      if-chained (named 2 (draft_at w draft)) _ P (λ old there.
      if-chained (named 3 (policy_of policy)) _ P (λ terms said.
      if-chained (known_asks w 8 asks) _ P (λ known all.
      draft-if-each owner (next_certificate (public_of owner.key) old.cert terms false) asks))))

  revoke-each : (number draft : ℕ) (asks : List ℕ) → IfOk (revoke_line w number draft asks) P
  revoke-each number draft asks =
      if-chained (named 1 (owner_at w number)) _ P (λ owner same.
      if-chained (named 2 (draft_at w draft)) _ P (λ old there.
      if-chained (known_asks w 3 asks) _ P (λ known all.
      draft-if-each owner (next_certificate (public_of owner.key) old.cert old.cert.policy true) asks)))

  handover-each : (number draft : ℕ) → IfOk (handover_line w number draft) P
  handover-each number draft =
      if-chained (named 1 (owner_at w number)) _ P (λ owner same.
      if-chained (named 2 (draft_at w draft)) _ P (λ found there.
      handed-each number draft found (handover_row owner (digest_of found.cert))))

  object-each : (number draft : ℕ) → IfOk (object_line w number draft) P
  object-each number draft =
      if-chained (named 1 (owner_at w number)) _ P (λ owner same.
      if-chained (named 2 (draft_at w draft)) _ P (λ found there.
      if-chained (room w) _ P (λ free all. each.acts number (whats.Object draft) (owner_does owner (object_row owner found.cert)))))

  submit-each : (draft : ℕ) → IfOk (submit_line w draft) P
  submit-each draft =
      if-chained (named 1 (draft_at w draft)) _ P (λ found same.
      if-chained (named 1 (owner_at w found.owner)) _ P (λ owner there.
      if-chained (room w) _ P (λ free all.
      each.acts found.owner (whats.Submit draft) (owner, with_error owner_code (submit_row owner (digest_of found.cert))))))

  -- ---- logs and authorities

  check-line-each : (number owner : ℕ) (tells : List ℕ → Told → Told) (said : Happening) → IsQuiet (said ∷ []) → IfOk (check_line w number owner tells said) P
  check-line-each number owner tells said is =
      if-chained (named 1 (checking_at w number)) _ P (λ found same.
      if-chained (named 3 (owner_at w owner)) _ P (λ holder there.
      each.checks number found.0 (retold (tells (known_key holder)) found).check (said ∷ []) (checking-there w number found (needed (checking_at w number) _ found same)) is))

  retire-each : (number : ℕ) → IfOk (retire_line w number) P
  retire-each number =
      if-chained (named 1 (checking_at w number)) _ P (λ found same.
      each.checks number found.0 None (Retired number ∷ []) (checking-there w number found (needed (checking_at w number) _ found same)) (record { entries = refl; marked = refl }))

  order-each : (number : ℕ) (what : What) (event : LogEvent) (input : log_state.Input)
      → ((node : LogNode) → log_at w number ≡ Some node → P (log_made w number (log_obeyed w.pool number what event input node))) → IfOk (log_order w number what event input) P
  order-each number what event input obeys =
      if-chained (named 1 (log_at w number)) _ P (λ node same.
      if-chained (room w) _ P (λ free there. obeys node (needed (log_at w number) _ node same)))

  roll-each : (r : Role) (number : ℕ) → IfOk (roll_of w r number) P
  roll-each role.LogServer number =
      if-chained (named 1 (log_at w number)) _ P (λ node same.
      if-chained (named 1 (next_of node.keys)) _ P (λ next there.
      if-chained (room w) _ P (λ free all. each.log_rolls number node next (needed (log_at w number) _ node same) (needed (next_of node.keys) _ next there))))
  roll-each role.Authority number =
      if-chained (named 1 (authority_at w number)) _ P (λ node same.
      if-chained (named 1 (next_of node.keys)) _ P (λ next there.
      if-chained (room w) _ P (λ free all. each.authority_rolls number node next (needed (authority_at w number) _ node same) (needed (next_of node.keys) _ next there))))
  roll-each role.Owner number = tt
  roll-each role.Client number = tt

  deliver-each : (says : Outcome) (message : ℕ) (who : Party) → IfOk (deliver_line says w message who) P
  deliver-each says message who =
      if-chained (can_deliver w message who) _ P (λ taker same.
      let can = can-take (message_at w message) (taker_at w who) (room w) taker same in
      each.delivers says message can.0.0 who taker can.0.1 can.1)

  -- ---- clients and dishonest parties

  learn-each : (message : ℕ) → IfOk (learn_line w message) P
  learn-each message = if-chained (named 1 (message_at w message)) _ P (λ p same. each.learns message p (needed (message_at w message) _ p same))

  ask-each : (asked : ℕ) (name : List ℕ) (first second client : ℕ) → IfOk (ask_line w asked name first second client) P
  ask-each asked name first second client =
      if-chained (existing w 1 role.LogServer asked) _ P (λ there same.
      if-chained (existing w 3 role.Authority first) _ P (λ one same_one.
      if-chained (existing w 4 role.Authority second) _ P (λ other same_other.
      if-chained (room w) _ P (λ free all.
      each.posts w.owners w.drafts [] (client_party client) (question asked name first second client) (record { entries = refl; marked = refl })))))

  judge-each : (which : Option ℕ) (name : List ℕ) (now age : ℕ) → IfOk (judge_line w which name now age) P
  judge-each which name now age =
      if-chained (named 1 (judged_number w which)) _ P (λ message same.
      if-chained (named 1 (message_at w message)) _ P (λ p there. each.judges message p name now age (needed (message_at w message) _ p there)))

  signing-each : (b : Bool) (forger : Forger) (text : List ℕ) → P (signing_if b w forger text)
  signing-each true forger text = each.signs forger text
  signing-each false forger text = each.quiet w.owners w.drafts (SignRefused forger.party ∷ []) (record { entries = refl; marked = refl })

  sign-each : (who : Party) (pieces : List (List ℕ)) → IfOk (sign_line w who pieces) P
  sign-each who pieces =
      if-chained (named 1 (forger_at w who)) _ P (λ forger same.
      if-chained (composed_in w pieces) _ P (λ text there. signing-each (nat_lt forger.next (leaves_of forger.key.lms)) forger text))

  inject-each : (who : Option Party) (pieces : List (List ℕ)) → IfOk (inject_line w who pieces) P
  inject-each who pieces =
      if-chained (receiver_in w who) _ P (λ to same.
      if-chained (composed_in w pieces) _ P (λ bytes there. each.injects to bytes))

  -- each line that is none of the setup makes what has the property
  pub event-each : (says : Outcome) (l : EventLine) → IfOk (event_effect says w l) P
  unfolding event_effect
  event-each says (event.Owner owner) = owner-line-each owner
  event-each says (event.Teach authority name owner) = check-line-each authority owner (learnt name) (Taught authority) (record { entries = refl; marked = refl })
  event-each says (event.Forget authority name owner) = check-line-each authority owner (forgotten name) (Forgot authority) (record { entries = refl; marked = refl })
  event-each says (event.Retire authority) = retire-each authority
  event-each says (event.Register owner name policy asks) = register-each owner name policy asks
  event-each says (event.Update owner draft policy asks) = update-each owner draft policy asks
  event-each says (event.Revoke owner draft asks) = revoke-each owner draft asks
  event-each says (event.Handover owner draft) = handover-each owner draft
  event-each says (event.Object owner draft) = object-each owner draft
  event-each says (event.Submit draft) = submit-each draft
  event-each says (event.Propose log) = order-each log whats.Propose events.Propose log_state.proposes (each.proposes log)
  event-each says (event.Pass log) = order-each log whats.Pass events.Pass log_state.passes (each.passes log)
  event-each says (event.Roll party) = roll-each party.role party.number
  event-each says (event.Learn message) = learn-each message
  event-each says (event.Ask log name first second client) = ask-each log name first second client
  event-each says (event.Deliver message party) = deliver-each says message party
  event-each says event.Flush = each.quiet w.owners w.drafts [] (record { entries = refl; marked = refl })
  event-each says (event.Judge message name now age) = judge-each message name now age
  event-each says (event.Sign party pieces) = sign-each party pieces
  event-each says (event.Inject to pieces) = inject-each to pieces
