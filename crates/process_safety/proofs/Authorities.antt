-- Each text that an authority takes leaves it kept, and is a step of its party.
use Rattle.std.proofs.Common.{◌≡◌, ◌∙◌, ℕ, ◌+◌, ◌<◌, ◌^◌, List, [], ◌∷◌, ◌++◌, Bool, refl, sym, ap, subst, Option, Some, None, Result, Ok, Err, is_none}
use Rattle.std.specs.Prelude.{slice_get}
use Rattle.std.specs.Option.{option_map}
use Rattle.ar_base.specs.Bytes.{AreBytes}
use Rattle.ar_claims.specs.Claimed.{claimed_in_bytes}
use Rattle.ar_council.specs.Council.{council_of}
use Rattle.ar_message.specs.Messages.{message_in}
use Rattle.ar_message.specs.declared.sent.Sent.{Sent}
use Rattle.ar_message.specs.declared.unsigned.Unsigned.{Unsigned}
use Rattle.run_safety.specs.ar_nodes.Acting.{authority_does, authority_turned}
use Rattle.run_safety.specs.ar_nodes.Authorities.{authority_reply, node_behind}
use Rattle.run_safety.specs.ar_nodes.Authorities as nodes
use Rattle.run_safety.specs.ar_nodes.Parties.{AuthorityNode, CheckParts, next_of}
use Rattle.ar_statement.specs.Claims.{authority_party}
use Rattle.authority_core.proofs.Standing.{rolling-stays, row-stays}
use Rattle.authority_core.specs.RollRows.{roll_row}
use Rattle.authority_core.specs.Row.{asked_in, row}
use Rattle.authority_core.specs.State.{AuthorityAnswer, AuthorityState}
use Rattle.authority_core.specs.declared.entries.Approved.{Approved}
use Rattle.authority_core.specs.declared.refusal.AuthorityRefusal.{AuthorityRefusal}
use Rattle.authority_keeper.specs.Inputs.{Input, forgets, input_in, learns, retires, rolls, takes}
use Rattle.authority_keeper.specs.Keeping.{AuthorityStanding, Sends, answer_to, new_standing, says_to}
use Rattle.authority_keeper.specs.Keeping as authority_keeping
use Rattle.key_roll.specs.Ring.{IsNext, next_key}
use Rattle.kept_party.specs.Taking.{Becomes}
use Rattle.lms_tree.specs.Key.{public_of}
use Rattle.lms_tree.specs.KeyParts.{KeyParts}
use Rattle.owner_check.specs.declared.answer.Outcome.{Outcome}
use Rattle.owner_check.specs.declared.pair.Pair.{Pair}
use Rattle.party_keys.specs.Directory.{Directory, keys_of}
use Rattle.party_keys.specs.Signers.{Claimed}
use Rattle.run_safety.specs.Kept.{KeepsAuthority}
use Rattle.run_safety.proofs.AuthoritySteps.{roll-steps, state_parts, took-steps}
use Rattle.run_safety.proofs.KeptNodes.{authority-rolls-kept, authority-took-kept, new-authority-kept}
use Rattle.run_safety.proofs.PartySteps.{Steps, still-steps}
use Rattle.process_safety.specs.Unforged.{authority_has}
use Rattle.process_safety.proofs.Claims.{authority-message-bytes, claims_of_authority}

-- ---- as an authority of a world

-- the check with a book, as one that tells nothing of itself
abbrev check_with : Option (List Pair) → Option CheckParts
check_with None = None
check_with (Some book) = Some (record { told = None; answers = [] })

-- an authority that stands here with these keys, as one of a world
abbrev pub as_authority : AuthorityState → List KeyParts → Option CheckParts → AuthorityNode
as_authority state keys check = record { state = state; keys = keys; check = check }

-- what is kept of it is not of its check
abbrev Keeps : AuthorityState → List KeyParts → Type 0
Keeps state keys = KeepsAuthority (as_authority state keys None)

-- it is kept, it is the authority with this number, and its council is that of the directory with which it began
pub record KeepsAuthorityAs (directory : Directory) (number : ℕ) (s : AuthorityStanding) : Type 0 where
  pub keeps : KeepsAuthority (as_authority s.state s.keys None)
  pub number_is : s.state.me ≡ number
  pub council : council_of s.state.keys ≡ council_of directory

checked : (state : AuthorityState) (keys : List KeyParts) (one other : Option CheckParts) → KeepsAuthority (as_authority state keys one) → KeepsAuthority (as_authority state keys other)
checked state keys one other kept = record { state = kept.state; book = kept.book; ring = kept.ring; rolls = kept.rolls; known = kept.known }

pub new-authority-as : (directory : Directory) (number : ℕ) (key : KeyParts) → number < 2 ^ 16 → slice_get (keys_of directory (authority_party number)) 0 ≡ Some (public_of key)
    → KeepsAuthorityAs directory number (new_standing number directory key)
new-authority-as directory number key small known =
    let fresh = new-authority-kept directory number key None small known in
    record {
      keeps = record { state = fresh.state; book = fresh.book; ring = fresh.ring; rolls = fresh.rolls; known = fresh.known };
      number_is = refl;
      council = refl;
    }

-- ---- what it signs and sends is what the row says

pub record IsAnswered (answer : AuthorityAnswer) (state : AuthorityState) : Type 0 where
  pub unsigned : Unsigned
  pub row_is : answer ≡ Ok (state, unsigned)

same-made : (a b : AuthorityState × Sent) → ◌≡◌ {A = Result (AuthorityState × Sent) AuthorityRefusal} (Ok a) (Ok b) → a ≡ b
same-made a b e = cc

pub answered : (keys : List KeyParts) (answer : AuthorityAnswer) (state : AuthorityState) (sent : Sent) → Sends keys answer sent state → IsAnswered answer state
answered keys (Ok made) state sent is =
    let same : made.0 ≡ state = ap (λ (p : AuthorityState × Sent). p.0) (same-made _ (state, sent) is) in
    record { unsigned = made.1; row_is = ap (λ (s : AuthorityState). Ok (s, made.1)) same }
answered keys (Err refusal) state sent is = absurd cc

-- ---- a message

-- the answer by the book is that of a check which says what the book says
same-said : (book : Option (List Pair)) (asked : Option Approved) → nodes.says_to (says_to book asked) (check_with book) asked ≡ says_to book asked
same-said None asked = refl
same-said (Some book) None = refl
same-said (Some book) (Some a) = refl

same-retired : (book : Option (List Pair)) → is_none (check_with book) ≡ is_none book
same-retired None = refl
same-retired (Some book) = refl

same-reply : (s : AuthorityStanding) (bytes : List ℕ)
    → authority_reply (says_to s.book (asked_in (message_in bytes))) s.state (check_with s.book) (message_in bytes) ≡ answer_to s bytes
same-reply s bytes =
    ap (λ (b : Bool). row s.state b (message_in bytes) (nodes.says_to (says_to s.book (asked_in (message_in bytes))) (check_with s.book) (asked_in (message_in bytes)))) (same-retired s.book)
    ∙ ap (row s.state (is_none s.book) (message_in bytes)) (same-said s.book (asked_in (message_in bytes)))

took-kept : (old new : AuthorityStanding) (bytes : List ℕ) → AreBytes bytes → IsAnswered (answer_to old bytes) new.state → new.keys ≡ old.keys → Keeps old.state old.keys → Keeps new.state new.keys
took-kept old new bytes are answer same kept =
    let says : Outcome = says_to old.book (asked_in (message_in bytes)) in
    let node : AuthorityNode = as_authority old.state old.keys (check_with old.book) in
    let made = subst (λ (a : AuthorityAnswer). KeepsAuthority (authority_does (node_behind node (message_in bytes) a) a).0) (same-reply old bytes ∙ answer.row_is)
    (authority-took-kept says node bytes (checked old.state old.keys None (check_with old.book) kept) are) in
    subst (Keeps new.state) (sym same) (record { state = made.state; book = made.book; ring = made.ring; rolls = made.rolls; known = made.known })

-- ---- a roll

next-is : (keys : List KeyParts) (next : KeyParts) → IsNext keys next → next_of keys ≡ Some next
next-is keys next is = ap (option_map next_key) is.last ∙ ap Some (sym is.is)

turned-kept : (old new : AuthorityStanding) (next : KeyParts) → IsNext old.keys next → IsAnswered (roll_row old.state (public_of next)) new.state → new.keys ≡ old.keys ++ next ∷ []
    → Keeps old.state old.keys → Keeps new.state new.keys
turned-kept old new next is answer same kept =
    let node : AuthorityNode = as_authority old.state old.keys None in
    let made = subst (λ (a : AuthorityAnswer). KeepsAuthority (authority_turned node next a).0) answer.row_is
    (authority-rolls-kept node next kept (next-is old.keys next is)) in
    subst (Keeps new.state) (sym same) (record { state = made.state; book = made.book; ring = made.ring; rolls = made.rolls; known = made.known })

-- ---- an input

-- what it is asked to take is bytes
abbrev AreTaken : Input → Type 0
AreTaken (takes bytes) = AreBytes bytes
AreTaken (rolls key) = Unit {0}
AreTaken (learns name key) = Unit {0}
AreTaken (forgets name key) = Unit {0}
AreTaken retires = Unit {0}

-- what a text makes of an authority, by these claims
record Moved (number : ℕ) (claims : List Claimed) (old new : AuthorityStanding) : Type 0 where
  keeps : Keeps new.state new.keys
  me : new.state.me ≡ old.state.me
  council : council_of new.state.keys ≡ council_of old.state.keys
  steps : Steps (authority_party number) claims (authority_has old) (authority_has new)

took : (number : ℕ) (old new : AuthorityStanding) (bytes : List ℕ) → AreBytes bytes → IsAnswered (answer_to old bytes) new.state → new.keys ≡ old.keys → Keeps old.state old.keys
    → Moved number (claimed_in_bytes bytes) old new
took number old new bytes are answer same kept =
    let said : Outcome = says_to old.book (asked_in (message_in bytes)) in
    let stays = row-stays old.state (is_none old.book) (message_in bytes) said new.state answer.unsigned answer.row_is in
    record {
      keeps = took-kept old new bytes are answer same kept;
      me = stays.0;
      council = stays.1;
      steps = subst (λ (keys : List KeyParts). Steps (authority_party number) (claimed_in_bytes bytes) (authority_has old) (state_parts new.state keys)) (sym same)
          (took-steps number (claimed_in_bytes bytes) old.state old.keys (is_none old.book) bytes said new.state answer.unsigned are answer.row_is (λ c has. has));
    }

rolled : (number : ℕ) (old new : AuthorityStanding) (next : KeyParts) → IsNext old.keys next → IsAnswered (roll_row old.state (public_of next)) new.state → new.keys ≡ old.keys ++ next ∷ []
    → old.state.me ≡ number → Keeps old.state old.keys → Moved number [] old new
rolled number old new next is answer same me kept =
    let stays = rolling-stays old.state (public_of next) new.state answer.unsigned answer.row_is in
    record {
      keeps = turned-kept old new next is answer same kept;
      me = stays.0;
      council = stays.1;
      steps = subst (λ (keys : List KeyParts). Steps (authority_party number) [] (authority_has old) (state_parts new.state keys)) (sym same)
          (roll-steps number [] old.state old.keys next new.state answer.unsigned me kept.book.many answer.row_is);
    }

taught : (number : ℕ) (old new : AuthorityStanding) (after : Option (List Pair)) → new ≡ record old { book = after } → Keeps old.state old.keys → Moved number [] old new
taught number old new after is kept =
    subst (Moved number [] old) (sym is) (record { keeps = kept; me = refl; council = refl; steps = still-steps (authority_party number) [] (authority_has old) })

moved : (number : ℕ) (old new : AuthorityStanding) (input : Input) (sent : Sent) → AreTaken input → authority_keeping.Steps old input sent new → old.state.me ≡ number → Keeps old.state old.keys
    → Moved number (claims_of_authority (Some input)) old new
moved number old new (takes bytes) sent are step me kept = took number old new bytes are (answered old.keys (answer_to old bytes) new.state sent step.0) step.1.0 kept
moved number old new (rolls key) sent are step me kept =
    let next : KeyParts = step.0 in
    let turns = step.1.1 in
    rolled number old new next turns.next (answered (old.keys ++ next ∷ []) (roll_row old.state (public_of next)) new.state sent turns.answer) turns.keys me kept
moved number old new (learns name key) sent are step me kept = taught number old new _ step.1.is kept
moved number old new (forgets name key) sent are step me kept = taught number old new _ step.1.is kept
moved number old new retires sent are step me kept = taught number old new None step.1.is kept

-- ---- a text

taken-bytes : (text : List ℕ) (input : Input) → AreBytes text → input_in text ≡ Some input → AreTaken input
taken-bytes text (takes bytes) are says = authority-message-bytes text bytes are says
taken-bytes text (rolls key) are says = tt
taken-bytes text (learns name key) are says = tt
taken-bytes text (forgets name key) are says = tt
taken-bytes text retires are says = tt

text-moved : (directory : Directory) (number : ℕ) (old new : AuthorityStanding) (text : List ℕ) → AreBytes text → Becomes authority_keeping.takes old text new
    → KeepsAuthorityAs directory number old → Moved number (claims_of_authority (input_in text)) old new
text-moved directory number old new text are becomes kept =
    let t = becomes.1 in
    subst (λ (o : Option Input). Moved number (claims_of_authority o) old new) (sym t.says)
    (moved number old new t.input becomes.0 (taken-bytes text t.input are t.says) t.steps kept.number_is kept.keeps)

pub authority-text-kept : (directory : Directory) (number : ℕ) (old new : AuthorityStanding) (text : List ℕ) → AreBytes text → Becomes authority_keeping.takes old text new
    → KeepsAuthorityAs directory number old → KeepsAuthorityAs directory number new
authority-text-kept directory number old new text are becomes kept =
    let m = text-moved directory number old new text are becomes kept in
    record { keeps = m.keeps; number_is = m.me ∙ kept.number_is; council = m.council ∙ kept.council }

pub authority-text-steps : (directory : Directory) (number : ℕ) (old new : AuthorityStanding) (text : List ℕ) → AreBytes text → Becomes authority_keeping.takes old text new
    → KeepsAuthorityAs directory number old → Steps (authority_party number) (claims_of_authority (input_in text)) (authority_has old) (authority_has new)
authority-text-steps directory number old new text are becomes kept = (text-moved directory number old new text are becomes kept).steps
