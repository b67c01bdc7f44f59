-- What logs and authorities are behind their answers, and what they reply.
use Rattle.std.proofs.Common.{◌≡◌, ◌≢◌, inl, inr, ℕ, ◌+◌, ◌-◌, ◌<◌, true, false, List, [], ◌∷◌, ◌++◌, length, get_or, is_none, Option, Some, None, Result, Ok, Err, IfSome, refl, sym, ap, ◌∙◌, subst, arith, length-append}
use Rattle.std.specs.Prelude.{slice_get, unwrap_or}
use Rattle.std.specs.Option.{option_map}
use Rattle.std.proofs.lemmas.Option.{slice_get-get_or}
use Rattle.ar_message.specs.Filling.{filled}
use Rattle.ar_message.specs.Messages.{message_in}
use Rattle.ar_message.specs.declared.message.Message.{Message}
use Rattle.ar_message.specs.declared.message.Message.TheVariants.{EndorseAsk, Endorsed, Submit, Propose, Ballot, StatusNote, Decision, SkipNote, ConfirmAsk, LogConfirmed, HalfConfirmed, Confirmation, RollNote}
use Rattle.ar_message.specs.declared.sent.Sent.{Sent}
use Rattle.ar_message.specs.declared.unsigned.Unsigned.{Unsigned}
use Rattle.authority_core.specs.Checked.{ChecksBy}
use Rattle.authority_core.specs.EndorseRow.{SaysAsTold, asked_of, answers_after, endorse_row, outcome_by}
use Rattle.authority_core.specs.Keyed as authority_keyed
use Rattle.authority_core.specs.RollRows.{roll_row}
use Rattle.authority_core.specs.Row.{answers_behind, asked_in, message_row, row}
use Rattle.authority_core.specs.State as authority
use Rattle.authority_core.specs.declared.entries.Approved.{Approved}
use Rattle.authority_core.specs.declared.refusal.AuthorityRefusal.{AuthorityRefusal}
use Rattle.authority_core.specs.declared.refusal.AuthorityRefusal.TheVariants as refusals
use Rattle.key_roll.specs.Ring.{IsNext, next_key}
use Rattle.lms_tree.specs.Key.{public_of}
use Rattle.lms_tree.specs.KeyParts.{KeyParts}
use Rattle.log_core.specs.Keyed.{AreBehind, IsOwn, IsPlain, SendsBy}
use Rattle.log_core.specs.Rolling.{rolling_row}
use Rattle.log_core.specs.Row as log_row
use Rattle.log_core.specs.State.{LogAnswer, CoreState, Input, passes, proposes, rolls, takes}
use Rattle.log_core.below.log_sending.specs.declared.refusal.LogRefusal.{LogRefusal}
use Rattle.log_core.below.log_sending.specs.declared.refusal.LogRefusal.TheVariants.{Memory}
use Rattle.owner_check.specs.Answers.{Told, outcome_of}
use Rattle.owner_check.specs.declared.answer.CheckAnswer as check
use Rattle.owner_check.specs.declared.answer.Outcome.{Outcome}
use Rattle.owner_check.specs.declared.answer.Outcome.TheVariants.{No}
use Rattle.ar_nodes.specs.Acting.{RepliesBySome, Reply, authority_does, authority_took, authority_turned, log_does}
use Rattle.ar_nodes.specs.Authorities.{authority_reply, check_behind, check_says, node_behind, says_to}
use Rattle.ar_nodes.specs.Codes.{authority_code, log_code}
use Rattle.ar_nodes.specs.Parties.{next_of, AuthorityNode, CheckParts, LogNode, check_told}
use Rattle.ar_nodes.specs.declared.event.LogEvent.{LogEvent}
use Rattle.ar_nodes.specs.declared.event.LogEvent.TheVariants as events
use Rattle.ar_nodes.specs.declared.fault.WorldFault.TheVariants as faults

clash : {A : Type 0} → true ≡ false → A
clash e = absurd cc

-- ---- keys

-- the next key is the next one
pub next_is : (keys : List KeyParts) (next : KeyParts) → next_of keys ≡ Some next → IsNext keys next
next_is keys next e = at (slice_get keys (length keys - 1)) refl e where
  at : (o : Option KeyParts) → slice_get keys (length keys - 1) ≡ o → option_map next_key o ≡ Some next → IsNext keys next
  at (Some newest) h e = record { newest = newest; last = h; is = cc }
  at None h e = absurd cc

-- who has a key has a next one
pub next-there : (keys : List KeyParts) → 0 < length keys → (next : KeyParts) × (next_of keys ≡ Some next)
next-there [] some = absurd (omega (arith, some))
next-there (key ∷ keys) some =
    let last : length (key ∷ keys) - 1 < length (key ∷ keys) = omega arith
    in (next_key (get_or (key ∷ keys) (length (key ∷ keys) - 1) key), ap (option_map next_key) (slice_get-get_or (key ∷ keys) (length (key ∷ keys) - 1) key last))

-- and has a key with that one too
pub has_more : (keys later : List KeyParts) → 0 < length keys → ((next : KeyParts) → IsNext keys next → later ≡ keys ++ next ∷ []) → 0 < length later
has_more keys later some more =
    let n : (next : KeyParts) × (next_of keys ≡ Some next) = next-there keys some
    in let long : length later ≡ length keys + 1 = ap length (more n.0 (next_is keys n.0 n.1)) ∙ length-append keys (n.0 ∷ [])
    in omega (arith, some, long)

-- ---- logs

-- what is no roll is a log's own
pub plain_is_own : (keys : List KeyParts) (input : Input) → IsPlain input → IsOwn keys input
plain_is_own keys (takes bytes) plain = tt
plain_is_own keys proposes plain = tt
plain_is_own keys passes plain = tt
plain_is_own keys (rolls key) plain = absurd plain

-- and leaves its keys
pub plain_keeps : (input : Input) (keys later : List KeyParts) → IsPlain input → AreBehind input keys later → later ≡ keys
plain_keeps (takes bytes) keys later plain h = h
plain_keeps proposes keys later plain h = h
plain_keeps passes keys later plain h = h
plain_keeps (rolls key) keys later plain h = absurd plain

-- a log that answered
pub log_did : (node : LogNode) (keys : List KeyParts) (event : LogEvent) (answer : LogAnswer) (core : CoreState) (sent : Sent)
    → SendsBy keys (Ok sent) node.core core answer
    → log_does node keys event answer ≡ (record { core = core; keys = keys; taken = node.taken ++ event ∷ [] }, Ok sent)
log_did node keys event (Ok reply) core sent e =
    let same : (reply.after, filled keys reply.unsigned) ≡ (core, sent) = cc
    in ap (λ (t : CoreState × Sent). (record { core = t.0; keys = keys; taken = node.taken ++ event ∷ [] }, Ok t.1)) same
log_did node keys event (Err refusal) core sent e = absurd cc

-- a log that refused
pub log_refused : (node : LogNode) (keys : List KeyParts) (event : LogEvent) (answer : LogAnswer) (core : CoreState) (refusal : LogRefusal)
    → SendsBy keys (Err refusal) node.core core answer → refusal ≢ Memory → log_does node keys event answer ≡ (node, Err (log_code refusal))
log_refused node keys event answer core refusal h other =
    elim h.1 [ inl wants ↦ absurd (other wants) | inr is ↦ ap (log_does node keys event) is ]

-- a log of these parts
abbrev pub log-of : CoreState → List KeyParts → List LogEvent → LogNode
log-of core keys taken = record { core = core; keys = keys; taken = taken }

-- a log that went on to its next key
pub log_rolled_so : (node : LogNode) (next : KeyParts) (core : CoreState) (keys : List KeyParts) (taken : List LogEvent) (sent : Sent) → next_of node.keys ≡ Some next
    → ((n : KeyParts) → IsNext node.keys n → SendsBy (node.keys ++ n ∷ []) (Ok sent) node.core core (rolling_row node.core (public_of n)))
    → ((n : KeyParts) → IsNext node.keys n → keys ≡ node.keys ++ n ∷ []) → taken ≡ node.taken ++ events.Roll ∷ []
    → log_does node (node.keys ++ next ∷ []) events.Roll (log_row.row node.core (rolls (public_of next))) ≡ (log-of core keys taken, Ok sent)
unfolding log_row.row
log_rolled_so node next core keys taken sent e sends more noted =
    log_did node (node.keys ++ next ∷ []) events.Roll (rolling_row node.core (public_of next)) core sent (sends next (next_is node.keys next e))
    ∙ ap (λ (ks : List KeyParts). (log-of core ks (node.taken ++ events.Roll ∷ []), Ok sent)) (sym (more next (next_is node.keys next e)))
    ∙ ap (λ (xs : List LogEvent). (log-of core keys xs, Ok sent)) (sym noted)

pub log_stayed : (node : LogNode) (next : KeyParts) (core : CoreState) (keys : List KeyParts) (taken : List LogEvent) (refusal : LogRefusal) → next_of node.keys ≡ Some next
    → ((n : KeyParts) → IsNext node.keys n → SendsBy (node.keys ++ n ∷ []) (Err refusal) node.core core (rolling_row node.core (public_of n)))
    → keys ≡ node.keys → taken ≡ node.taken → refusal ≢ Memory
    → log_does node (node.keys ++ next ∷ []) events.Roll (log_row.row node.core (rolls (public_of next))) ≡ (log-of core keys taken, Err (log_code refusal))
unfolding log_row.row
log_stayed node next core keys taken refusal e sends same noted other =
    let stays : SendsBy (node.keys ++ next ∷ []) (Err refusal) node.core core (rolling_row node.core (public_of next)) = sends next (next_is node.keys next e)
    in log_refused node (node.keys ++ next ∷ []) events.Roll (rolling_row node.core (public_of next)) core refusal stays other
    ∙ ap (λ (k : CoreState). (log-of k node.keys node.taken, Err (log_code refusal))) (sym stays.0)
    ∙ ap (λ (ks : List KeyParts). (log-of core ks node.taken, Err (log_code refusal))) (sym same)
    ∙ ap (λ (xs : List LogEvent). (log-of core keys xs, Err (log_code refusal))) (sym noted)

-- and one for which memory was wanting
pub log_waited : (node : LogNode) (next : KeyParts) (core : CoreState) (keys : List KeyParts) (taken : List LogEvent) (refusal : LogRefusal) → next_of node.keys ≡ Some next
    → ((n : KeyParts) → IsNext node.keys n → SendsBy (node.keys ++ n ∷ []) (Err refusal) node.core core (rolling_row node.core (public_of n)))
    → keys ≡ node.keys → taken ≡ node.taken → log-of core keys taken ≡ node
log_waited node next core keys taken refusal e sends same noted =
    ap (λ (k : CoreState). log-of k keys taken) (sends next (next_is node.keys next e)).0
    ∙ ap (λ (ks : List KeyParts). log-of node.core ks taken) same ∙ ap (λ (xs : List LogEvent). log-of node.core node.keys xs) noted

pub ruleset log_nodes = (next_is, plain_is_own, plain_keeps, log_did, log_refused)

-- ---- what checks say

-- a check that says as it tells says this
says-told : (says : Outcome) (k : CheckParts) (a : Approved) → IfSome k.told (λ t. says ≡ outcome_of t k.answers a.name a.key) → check_says says k a ≡ says
says-told says k a h = at k.told h where
  at : (told : Option Told) → IfSome told (λ t. says ≡ outcome_of t k.answers a.name a.key) → unwrap_or (option_map (λ t. outcome_of t k.answers a.name a.key) told) says ≡ says
  at None h = refl
  at (Some t) h = sym h

-- the row by what it says is that by what is answered to the message
abbrev pub AsTold : Outcome → Option CheckParts → Option Approved → Type 0
AsTold says check asked = IfSome check (λ k. IfSome asked (λ a. IfSome k.told (λ t. says ≡ outcome_of t k.answers a.name a.key)))

asked-row : (s : authority.AuthorityState) (check : Option CheckParts) (m : Message) (says : Outcome) → AsTold says check (asked_in (Ok m))
    → message_row s (is_none check) m says ≡ message_row s (is_none check) m (says_to says check (asked_in (Ok m)))
unfolding message_row
asked-row s None (EndorseAsk owner cert) says h = refl
asked-row s (Some k) (EndorseAsk owner cert) says h = ap (endorse_row s false owner cert) (sym (says-told says k (asked_of cert) h))
asked-row s check (LogConfirmed part) says h = refl
asked-row s check (HalfConfirmed part first_signature) says h = refl
asked-row s check (RollNote party generation key signature) says h = refl
asked-row s check (Endorsed owner authority certificate signature) says h = refl
asked-row s check (Submit change) says h = refl
asked-row s check (Propose log epoch base root changes signature) says h = refl
asked-row s check (Ballot log epoch base root signature) says h = refl
asked-row s check (StatusNote log epoch value signature) says h = refl
asked-row s check (Decision epoch base root changes votes) says h = refl
asked-row s check (SkipNote epoch statuses) says h = refl
asked-row s check (ConfirmAsk client name first second) says h = refl
asked-row s check (Confirmation client epoch name root body log log_signature first first_signature second second_signature) says h = refl

pub said-row : (s : authority.AuthorityState) (check : Option CheckParts) (m : Result Message ℕ) (says : Outcome) → AsTold says check (asked_in m)
    → row s (is_none check) m says ≡ row s (is_none check) m (says_to says check (asked_in m))
said-row s check (Ok m) says h = asked-row s check m says h
said-row s check (Err place) says h = refl

-- ---- authorities

-- what an authority replies
abbrev pub reply_of : Result Sent AuthorityRefusal → Reply
reply_of (Ok sent) = Ok sent
reply_of (Err refusal) = Err (authority_code refusal)

-- by an answer that is its row's, signed
pub authority-did : (node : AuthorityNode) (answer : authority.AuthorityAnswer) (result : Result Sent AuthorityRefusal) (state : authority.AuthorityState)
    → result ≢ Err refusals.Memory → authority_keyed.SendsBy node.keys result node.state state answer
    → authority_does node answer ≡ (record node { state = state }, reply_of result)
authority-did node (Ok made) (Ok sent) state some e =
    let same : (made.0, filled node.keys made.1) ≡ (state, sent) = cc
    in ap (λ (t : authority.AuthorityState × Sent). (record node { state = t.0 }, Ok t.1)) same
authority-did node (Err refusal) (Ok sent) state some e = absurd cc
authority-did node answer (Err refusal) state some h = elim h.1 [
  | inl wants ↦ absurd (some (ap (λ r. Err r) wants))
  | inr is ↦ ap (authority_does node) is ∙ ap (λ (s : authority.AuthorityState). (record node { state = s }, Err (authority_code refusal))) (sym h.0)
]

-- what a check kept of an answer does not ask what is sent
pub after-alike : (A B : Type 0) (xs : List check.CheckAnswer) (a : Approved) (r : AuthorityRefusal) → answers_after {A = A} xs a (Err r) ≡ answers_after {A = B} xs a (Err r)
after-alike A B xs a (refusals.Form place) = refl
after-alike A B xs a refusals.NotForAuthority = refl
after-alike A B xs a (refusals.Unknown party) = refl
after-alike A B xs a (refusals.BadSignature party condition) = refl
after-alike A B xs a (refusals.FewVotes count) = refl
after-alike A B xs a refusals.BadPath = refl
after-alike A B xs a refusals.SameAuthority = refl
after-alike A B xs a refusals.CheckFault = refl
after-alike A B xs a refusals.NotOwner = refl
after-alike A B xs a refusals.Spent = refl
after-alike A B xs a (refusals.OtherRoll party generation) = refl
after-alike A B xs a refusals.LastGeneration = refl
after-alike A B xs a refusals.Memory = refl

behind-alike : (xs : List check.CheckAnswer) (asked : Option Approved) (keys : List KeyParts) (answer : authority.AuthorityAnswer) (result : Result Sent AuthorityRefusal) (old new : authority.AuthorityState)
    → result ≢ Err refusals.Memory → authority_keyed.SendsBy keys result old new answer
    → answers_behind xs asked answer ≡ answers_behind xs asked result
behind-alike xs None keys answer result old new some h = refl
behind-alike xs (Some a) keys (Ok made) (Ok sent) old new some h = refl
behind-alike xs (Some a) keys (Err refusal) (Ok sent) old new some h = absurd cc
behind-alike xs (Some a) keys answer (Err refusal) old new some h = elim h.1 [
  | inl wants ↦ absurd (some (ap (λ r. Err r) wants))
  | inr is ↦ ap (answers_after xs a) is ∙ after-alike (authority.AuthorityState × Unsigned) Sent xs a refusal
]

-- a check of these parts
abbrev check-of : Option Told → List check.CheckAnswer → CheckParts
check-of told answers = record { told = told; answers = answers }

-- the check behind, where it kept of the row's answer what it did of the call's
pub check-behind : {C A : Type 0} (told : C → Option Told) (answers : C → List check.CheckAnswer) (old new : Option C) (asked : Option Approved) (answer : authority.AuthorityAnswer) (result : Result A AuthorityRefusal)
    → ChecksBy told answers old new asked result → ((xs : List check.CheckAnswer) → answers_behind xs asked answer ≡ answers_behind xs asked result)
    → option_map (check_behind asked answer) (option_map (check_told told answers) old) ≡ option_map (check_told told answers) new
check-behind told answers None None asked answer result by alike = refl
check-behind told answers None (Some n) asked answer result by alike = clash (sym by.retired)
check-behind told answers (Some o) None asked answer result by alike = clash by.retired
check-behind told answers (Some o) (Some n) asked answer result by alike =
    let kept : answers_behind (answers o) asked answer ≡ answers n = alike (answers o) ∙ sym by.kept
    in let same : told o ≡ told n = sym by.same
    in ap (λ (k : CheckParts). Some k) (ap (λ t. check-of t (answers_behind (answers o) asked answer)) same ∙ ap (check-of (told n)) kept)

-- it says as it tells
told-so : {A : Type 0} (told : Option Told) (xs : List check.CheckAnswer) (a : Approved) (result : Result A AuthorityRefusal) → result ≢ Err refusals.Memory → SaysAsTold told xs a result
    → IfSome told (λ t. outcome_by result ≡ outcome_of t xs a.name a.key)
told-so told xs a (Ok sent) some h = h
told-so told xs a (Err refusals.Memory) some h = absurd (some refl)
told-so told xs a (Err (refusals.Form place)) some h = h
told-so told xs a (Err refusals.NotForAuthority) some h = h
told-so told xs a (Err (refusals.Unknown party)) some h = h
told-so told xs a (Err (refusals.BadSignature party condition)) some h = h
told-so told xs a (Err (refusals.FewVotes count)) some h = h
told-so told xs a (Err refusals.BadPath) some h = h
told-so told xs a (Err refusals.SameAuthority) some h = h
told-so told xs a (Err refusals.CheckFault) some h = h
told-so told xs a (Err refusals.NotOwner) some h = h
told-so told xs a (Err refusals.Spent) some h = h
told-so told xs a (Err (refusals.OtherRoll party generation)) some h = h
told-so told xs a (Err refusals.LastGeneration) some h = h

pub as-told : {C A : Type 0} (told : C → Option Told) (answers : C → List check.CheckAnswer) (old : Option C) (asked : Option Approved) (result : Result A AuthorityRefusal)
    → result ≢ Err refusals.Memory → IfSome old (λ o. IfSome asked (λ a. SaysAsTold (told o) (answers o) a result))
    → AsTold (outcome_by result) (option_map (check_told told answers) old) asked
as-told told answers None asked result some h = tt
as-told told answers (Some o) None result some h = tt
as-told told answers (Some o) (Some a) result some h = told-so (told o) (answers o) a result some h

pub none-mapped : {A B : Type 0} (f : A → B) (o : Option A) → is_none (option_map f o) ≡ is_none o
none-mapped f None = refl
none-mapped f (Some x) = refl

-- an authority that took a message
pub authority_did : {C : Type 0} (told : C → Option Told) (answers : C → List check.CheckAnswer) (old new : Option C) (s s' : authority.AuthorityState) (keys : List KeyParts) (bytes : List ℕ)
    (result : Result Sent AuthorityRefusal) → ChecksBy told answers old new (asked_in (message_in bytes)) result → result ≢ Err refusals.Memory
    → authority_keyed.SendsBy keys result s s' (row s (is_none old) (message_in bytes) (outcome_by result))
    → authority_took (outcome_by result) (record { state = s; keys = keys; check = option_map (check_told told answers) old }) bytes
    ≡ (record { state = s'; keys = keys; check = option_map (check_told told answers) new }, reply_of result)
authority_did told answers old new s s' keys bytes result by some h =
    let asked : Option Approved = asked_in (message_in bytes)
    in let says : Outcome = outcome_by result
    in let node : AuthorityNode = record { state = s; keys = keys; check = option_map (check_told told answers) old }
    in let is : row s (is_none old) (message_in bytes) says ≡ authority_reply says node.state node.check (message_in bytes) =
    ap (λ b. row s b (message_in bytes) says) (sym (none-mapped (check_told told answers) old))
    ∙ said-row s node.check (message_in bytes) says (as-told told answers old asked result some by.by)
    in let h' : authority_keyed.SendsBy keys result s s' (authority_reply says node.state node.check (message_in bytes)) = subst (authority_keyed.SendsBy keys result s s') is h
    in authority-did (node_behind node (message_in bytes) (authority_reply says node.state node.check (message_in bytes))) (authority_reply says node.state node.check (message_in bytes)) result s' some h'
    ∙ ap (λ (k : Option CheckParts). (record node { state = s'; check = k }, reply_of result)) (check-behind told answers old new asked (authority_reply says node.state node.check (message_in bytes)) result by
    (λ xs. behind-alike xs asked keys (authority_reply says node.state node.check (message_in bytes)) result s s' some h'))

-- an authority of these parts
abbrev pub authority-of : authority.AuthorityState → List KeyParts → Option CheckParts → AuthorityNode
authority-of state keys check = record { state = state; keys = keys; check = check }

-- an authority that went on to its next key
pub authority_turned_so : (node : AuthorityNode) (next : KeyParts) (answer : authority.AuthorityAnswer) (sent : Sent) (state : authority.AuthorityState)
    → authority_keyed.SendsBy (node.keys ++ next ∷ []) (Ok sent) node.state state answer
    → authority_turned node next answer ≡ (record { state = state; keys = node.keys ++ next ∷ []; check = node.check }, Ok sent)
authority_turned_so node next (Ok made) sent state e =
    let same : (made.0, filled (node.keys ++ next ∷ []) made.1) ≡ (state, sent) = cc
    in ap (λ (t : authority.AuthorityState × Sent). (authority-of t.0 (node.keys ++ next ∷ []) node.check, Ok t.1)) same
authority_turned_so node next (Err refusal) sent state e = absurd cc

pub authority_kept : (node : AuthorityNode) (next : KeyParts) (answer : authority.AuthorityAnswer) (refusal : AuthorityRefusal) (state : authority.AuthorityState)
    → authority_keyed.SendsBy (node.keys ++ next ∷ []) (Err refusal) node.state state answer → refusal ≢ refusals.Memory
    → authority_turned node next answer ≡ (node, Err (authority_code refusal))
authority_kept node next answer refusal state h other =
    elim h.1 [ inl wants ↦ absurd (other wants) | inr is ↦ ap (authority_turned node next) is ]

-- the same, of the whole call
pub authority_rolled_so : (node : AuthorityNode) (next : KeyParts) (state : authority.AuthorityState) (keys : List KeyParts) (check : Option CheckParts) (sent : Sent) → next_of node.keys ≡ Some next
    → ((n : KeyParts) → IsNext node.keys n → authority_keyed.SendsBy (node.keys ++ n ∷ []) (Ok sent) node.state state (roll_row node.state (public_of n)))
    → ((n : KeyParts) → IsNext node.keys n → keys ≡ node.keys ++ n ∷ []) → check ≡ node.check
    → authority_turned node next (roll_row node.state (public_of next)) ≡ (authority-of state keys check, Ok sent)
authority_rolled_so node next state keys check sent e sends more same =
    authority_turned_so node next (roll_row node.state (public_of next)) sent state (sends next (next_is node.keys next e))
    ∙ ap (λ (ks : List KeyParts). (authority-of state ks node.check, Ok sent)) (sym (more next (next_is node.keys next e)))
    ∙ ap (λ (k : Option CheckParts). (authority-of state keys k, Ok sent)) (sym same)

pub authority_waited : (node : AuthorityNode) (next : KeyParts) (state : authority.AuthorityState) (keys : List KeyParts) (check : Option CheckParts) (refusal : AuthorityRefusal) → next_of node.keys ≡ Some next
    → ((n : KeyParts) → IsNext node.keys n → authority_keyed.SendsBy (node.keys ++ n ∷ []) (Err refusal) node.state state (roll_row node.state (public_of n)))
    → keys ≡ node.keys → check ≡ node.check → authority-of state keys check ≡ node
authority_waited node next state keys check refusal e sends kept same =
    ap (λ (s : authority.AuthorityState). authority-of s keys check) (sends next (next_is node.keys next e)).0
    ∙ ap (λ (ks : List KeyParts). authority-of node.state ks check) kept ∙ ap (λ (k : Option CheckParts). authority-of node.state node.keys k) same

pub authority_stayed : (node : AuthorityNode) (next : KeyParts) (state : authority.AuthorityState) (keys : List KeyParts) (check : Option CheckParts) (refusal : AuthorityRefusal) → next_of node.keys ≡ Some next
    → ((n : KeyParts) → IsNext node.keys n → authority_keyed.SendsBy (node.keys ++ n ∷ []) (Err refusal) node.state state (roll_row node.state (public_of n)))
    → keys ≡ node.keys → check ≡ node.check → refusal ≢ refusals.Memory
    → authority_turned node next (roll_row node.state (public_of next)) ≡ (authority-of state keys check, Err (authority_code refusal))
authority_stayed node next state keys check refusal e sends kept same other =
    authority_kept node next (roll_row node.state (public_of next)) refusal state (sends next (next_is node.keys next e)) other
    ∙ ap (λ (n : AuthorityNode). (n, Err (authority_code refusal))) (sym (authority_waited node next state keys check refusal e sends kept same))

-- ---- an authority that takes a message, of the whole call

-- memory is not wanting where it sends, or refuses for another reason
pub sent_some : (result : Result Sent AuthorityRefusal) (sent : Sent) → result ≡ Ok sent → result ≢ Err refusals.Memory
sent_some result sent is = λ e. absurd cc

pub refused_some : (result : Result Sent AuthorityRefusal) (refusal : AuthorityRefusal) → result ≡ Err refusal → refusal ≢ refusals.Memory → result ≢ Err refusals.Memory
refused_some result refusal is other = λ e. other cc

-- an authority with what clauses see of its check
abbrev pub authority-with : {C : Type 0} → (C → Option Told) → (C → List check.CheckAnswer) → authority.AuthorityState → List KeyParts → Option C → AuthorityNode
authority-with told answers state keys check = authority-of state keys (option_map (check_told told answers) check)

pub took_so : {C : Type 0} (told : C → Option Told) (answers : C → List check.CheckAnswer) (old new : Option C) (s s' : authority.AuthorityState) (keys keys' : List KeyParts) (bytes : List ℕ)
    (result : Result Sent AuthorityRefusal) (reply : Reply) → ChecksBy told answers old new (asked_in (message_in bytes)) result → result ≢ Err refusals.Memory
    → authority_keyed.SendsBy keys result s s' (row s (is_none old) (message_in bytes) (outcome_by result)) → keys' ≡ keys → reply ≡ reply_of result
    → RepliesBySome (Ok reply) (authority-with told answers s keys old) (authority-with told answers s' keys' new) (λ says. authority_took says (authority-with told answers s keys old) bytes)
took_so told answers old new s s' keys keys' bytes result reply by some h kept is = record {
  says = outcome_by result;
  replies = authority_did told answers old new s s' keys bytes result by some h
      ∙ ap (λ (ks : List KeyParts). (authority-with told answers s' ks new, reply_of result)) (sym kept)
      ∙ ap (λ (r : Reply). (authority-with told answers s' keys' new, r)) (sym is);
}

pub check-waits : {C A : Type 0} (told : C → Option Told) (answers : C → List check.CheckAnswer) (old new : Option C) (asked : Option Approved) → ChecksBy {A = A} told answers old new asked (Err refusals.Memory)
    → option_map (check_told told answers) new ≡ option_map (check_told told answers) old
check-waits told answers None None asked by = refl
check-waits told answers None (Some n) asked by = clash (sym by.retired)
check-waits told answers (Some o) None asked by = clash by.retired
check-waits told answers (Some o) (Some n) None by =
    ap (λ (k : CheckParts). Some k) (ap (λ t. check-of t (answers n)) by.same ∙ ap (check-of (told o)) by.kept)
check-waits told answers (Some o) (Some n) (Some a) by =
    ap (λ (k : CheckParts). Some k) (ap (λ t. check-of t (answers n)) by.same ∙ ap (check-of (told o)) by.kept)

pub took_nothing : {C : Type 0} (told : C → Option Told) (answers : C → List check.CheckAnswer) (old new : Option C) (s s' : authority.AuthorityState) (keys keys' : List KeyParts) (bytes : List ℕ)
    (result : Result Sent AuthorityRefusal) → ChecksBy told answers old new (asked_in (message_in bytes)) result → result ≡ Err refusals.Memory
    → authority_keyed.SendsBy keys result s s' (row s (is_none old) (message_in bytes) (outcome_by result)) → keys' ≡ keys
    → RepliesBySome (Err faults.Memory) (authority-with told answers s keys old) (authority-with told answers s' keys' new) (λ says. authority_took says (authority-with told answers s keys old) bytes)
took_nothing told answers old new s s' keys keys' bytes (Ok sent) by is h kept = absurd cc
took_nothing told answers old new s s' keys keys' bytes (Err refusal) by is h kept = record {
  says = No;
  replies = (
    refl,
    ap (λ (x : authority.AuthorityState). authority-with told answers x keys' new) h.0
        ∙ ap (λ (ks : List KeyParts). authority-with told answers s ks new) kept
        ∙ ap (λ (k : Option CheckParts). authority-of s keys k)
        (check-waits told answers old new (asked_in (message_in bytes)) (subst (ChecksBy told answers old new (asked_in (message_in bytes))) is by)),
  );
}

pub ruleset authority_nodes = (next_is, authority_turned_so, authority_kept)
