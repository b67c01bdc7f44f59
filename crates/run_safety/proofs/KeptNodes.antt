-- Each way in which an honest log or authority changes keeps it.
use Rattle.std.proofs.Common.{◌≡◌, ◌∙◌, ℕ, ◌-◌, ◌^◌, ◌<◌, List, [], ◌∷◌, ◌++◌, length, refl, sym, subst, arith, Bool, Option, Some, Result, Ok, Err, is_none}
use Rattle.std.specs.Prelude.{slice_get}
use Rattle.std.proofs.lemmas.List.Elements.{All-cons, All-nil}
use Rattle.std.proofs.lemmas.Nat.{pow_pos}
use Rattle.ar_base.specs.Bytes.{AreBytes}
use Rattle.ar_council.specs.Council.{council_of}
use Rattle.ar_world.specs.ar_founding.Founding.{fresh_log, founded_authority}
use Rattle.ar_message.specs.Messages.{message_in}
use Rattle.ar_message.specs.declared.message.Message.{Message}
use Rattle.ar_message.specs.declared.unsigned.Unsigned.{Unsigned}
use Rattle.ar_world.proofs.ar_nodes.Nodes.{next_is}
use Rattle.ar_world.specs.ar_nodes.Acting.{authority_does, authority_took, authority_turned, log_does}
use Rattle.ar_world.specs.ar_nodes.Authorities.{authority_reply, node_behind, says_to}
use Rattle.ar_world.specs.ar_nodes.Parties.{AuthorityNode, CheckParts, LogNode, next_of}
use Rattle.ar_world.specs.ar_nodes.declared.event.LogEvent.{LogEvent}
use Rattle.ar_world.specs.ar_nodes.declared.event.LogEvent.TheVariants as events
use Rattle.ar_safety.proofs.Rings.{first-known, learnt-known, rolled-known}
use Rattle.ar_safety.specs.Accepting.{KnowsRing}
use Rattle.ar_statement.specs.Claims.{authority_party, log_party}
use Rattle.authority_core.proofs.Growing.{honest-fresh}
use Rattle.authority_core.proofs.Later.{row_step}
use Rattle.authority_core.proofs.Rows.{read-keeps, roll-row-keeps}
use Rattle.authority_core.proofs.Signing as authority
use Rattle.authority_core.proofs.Standing.{row-stays}
use Rattle.authority_core.specs.RollRows.{roll_row, rolling}
use Rattle.authority_core.specs.Row as rows
use Rattle.authority_core.specs.State as authority_state
use Rattle.epoch_log.proofs.Called.{kept-fresh}
use Rattle.key_roll.specs.Book.{RollBook, empty_book}
use Rattle.key_roll.specs.Ring.{AreKeysOf, IsNext, ring_signature_len}
use Rattle.lms_tree.specs.Key.{public_of}
use Rattle.lms_tree.specs.KeyParts.{KeyParts}
use Rattle.lms_tree.specs.LmsKind.{height_of, leaves_of}
use Rattle.lms_tree.specs.declared.public_key.LmsPublic.{LmsPublic}
use Rattle.ar_world.proofs.log_core.KeptEndings.{kept-row}
use Rattle.ar_world.proofs.log_core.Keyed as log
use Rattle.ar_world.proofs.log_core.Later.{row-adds}
use Rattle.ar_world.proofs.log_core.Standing as log_standing
use Rattle.ar_world.specs.log_core.Keyed.{IsPlain}
use Rattle.ar_world.specs.log_core.Rolling.{rolling_row}
use Rattle.ar_world.specs.log_core.Row.{IsLogInput, row}
use Rattle.ar_world.specs.log_core.State as log_state
use Rattle.owner_check.specs.declared.answer.Outcome.{Outcome}
use Rattle.owner_core.proofs.Texts.{signature_fits}
use Rattle.party_keys.specs.Directory.{Directory, IsDirectory, keys_of}
use Rattle.party_keys.specs.Learning.{after_adopting, after_all}
use Rattle.run_safety.specs.Kept.{KeepsAuthority, KeepsLog}
use Rattle.run_safety.proofs.Learns.{row-learns}
use Rattle.run_safety.specs.Own.{HasRolls}
use Rattle.run_safety.proofs.LogSteps.{rolling-book}
use Rattle.run_safety.proofs.RollTexts.{rolls-first, rolls-later, rolls-next}
use Rattle.run_safety.proofs.Rings.{public-text, public-widths, ring-first, ring-more}

-- ---- the first key

-- a ring of one key is that of a new book
book-first : (key : KeyParts) → AreKeysOf (empty_book (leaves_of key.lms)) (ring_signature_len key) (key ∷ [])
book-first key = record {
  many = refl;
  leaves = All-cons (λ (k : KeyParts). leaves_of key.lms ≡ leaves_of k.lms) key [] refl (All-nil (λ (k : KeyParts). leaves_of key.lms ≡ leaves_of k.lms));
  bytes = All-cons (λ (k : KeyParts). ring_signature_len key ≡ ring_signature_len k) key [] refl (All-nil (λ (k : KeyParts). ring_signature_len key ≡ ring_signature_len k));
}

pub fresh-log-kept : (genesis : Directory) (number : ℕ) (key : KeyParts) → IsDirectory genesis → number < 2 ^ 16 → KeepsLog (fresh_log genesis number key)
fresh-log-kept genesis number key d small = record {
  core = record {
    log = kept-fresh number (council_of genesis) (leaves_of key.lms) small (pow_pos (height_of key.lms));
    sendable = record { logs = d.logs_most; votes = tt; statuses = tt; newest = tt; voted = λ k d less. absurd (omega (arith, less)) };
    council = refl;
    logs = let least = d.logs_least in omega (arith, least);
    endorsed = λ k d less. absurd (omega (arith, less));
    queued = λ k d less. absurd (omega (arith, less));
    few = omega arith;
    len = signature_fits key.lms key.ots;
  };
  book = book-first key;
  ring = ring-first key;
  rolls = rolls-first (log_party number) (empty_book (leaves_of key.lms)) key;
}

pub new-authority-kept : (genesis : Directory) (number : ℕ) (key : KeyParts) (check : Option CheckParts) → number < 2 ^ 16
    → slice_get (keys_of genesis (authority_party number)) 0 ≡ Some (public_of key) → KeepsAuthority (founded_authority genesis number key check)
new-authority-kept genesis number key check small known = record {
  state = record {
    number = small;
    bytes = signature_fits key.lms key.ots;
    honest = honest-fresh (council_of genesis) number (leaves_of key.lms) (pow_pos (height_of key.lms));
  };
  book = book-first key;
  ring = ring-first key;
  rolls = rolls-first (authority_party number) (empty_book (leaves_of key.lms)) key;
  known = first-known genesis (authority_party number) (leaves_of key.lms) key known refl;
}

-- ---- logs

pub log-does-kept : (node : LogNode) (event : LogEvent) (input : log_state.Input) → KeepsLog node → IsLogInput input → IsPlain input
    → KeepsLog (log_does node node.keys event (row node.core input)).0
log-does-kept node event input kept is plain = by (row node.core input) refl
  where
    by : (a : log_state.LogAnswer) → row node.core input ≡ a → KeepsLog (log_does node node.keys event a).0
    by (Ok reply) at = record {
      core = kept-row node.core input reply kept.core is at;
      book = (log.plain-signs node.core input node.keys reply.after reply.unsigned kept.core is plain kept.book at).stays;
      ring = kept.ring;
      rolls = subst (λ n. HasRolls (log_party n) reply.after.log.past.signed node.keys) (sym (log_standing.row-stays node.core input reply at).0)
          (rolls-later (log_party node.core.log.me) node.core.log.past.signed reply.after.log.past.signed node.keys (row-adds node.core input reply at).signed kept.rolls);
    }
    by (Err refusal) at = kept

-- the order to roll is that row
roll-is : (s : log_state.CoreState) (key : LmsPublic) → row s (log_state.rolls key) ≡ rolling_row s key
unfolding row
roll-is s key = refl

pub log-rolls-kept : (node : LogNode) (next : KeyParts) → KeepsLog node → next_of node.keys ≡ Some next
    → KeepsLog (log_does node (node.keys ++ next ∷ []) events.Roll (row node.core (log_state.rolls (public_of next)))).0
log-rolls-kept node next kept there = by (row node.core (log_state.rolls (public_of next))) refl
  where
    behind : IsNext node.keys next
    behind = next_is node.keys next there

    is : IsLogInput (log_state.rolls (public_of next))
    is = log.next_is_input (public_of next) (public-text next) (public-widths next)

    by : (a : log_state.LogAnswer) → row node.core (log_state.rolls (public_of next)) ≡ a → KeepsLog (log_does node (node.keys ++ next ∷ []) events.Roll a).0
    by (Ok reply) at = record {
      core = kept-row node.core (log_state.rolls (public_of next)) reply kept.core is at;
      book = (log.rolled-signs node.core node.keys (node.keys ++ next ∷ []) next reply.after reply.unsigned kept.core is kept.book behind refl
          (sym (roll-is node.core (public_of next)) ∙ at)).stays;
      ring = ring-more node.keys next kept.ring behind;
      rolls = subst (λ n. HasRolls (log_party n) reply.after.log.past.signed (node.keys ++ next ∷ [])) (sym (log_standing.row-stays node.core (log_state.rolls (public_of next)) reply at).0)
          (subst (λ (book : RollBook). HasRolls (log_party node.core.log.me) book (node.keys ++ next ∷ [])) (sym (rolling-book node.core (public_of next) reply at))
          (rolls-next (log_party node.core.log.me) node.core.log.past.signed node.keys next kept.book.many kept.rolls));
    }
    by (Err refusal) at = kept

-- ---- authorities

-- whatever its check tells
pub check-kept : (node : AuthorityNode) (check : Option CheckParts) → KeepsAuthority node → KeepsAuthority (record node { check = check })
check-kept node check kept = record { state = kept.state; book = kept.book; ring = kept.ring; rolls = kept.rolls; known = kept.known }

-- the directory behind a step knows the ring
row-knows : (s : authority_state.AuthorityState) (ring : List KeyParts) (retired : Bool) (read : Result Message ℕ) (said : Outcome) (later : authority_state.AuthorityState) (sent : Unsigned)
    → rows.row s retired read said ≡ Ok (later, sent) → authority.IsSameKeys s later
    → KnowsRing s.keys (authority_party s.me) s.past.signed.leaves ring → KnowsRing later.keys (authority_party later.me) later.past.signed.leaves ring
row-knows s ring retired read said later sent at same known =
    let learns = row-learns s retired read said later sent at in
    let stays = row-stays s retired read said later sent at in
    subst (λ (keys : Directory). KnowsRing keys (authority_party later.me) later.past.signed.leaves ring) (sym learns.1)
    (subst (λ n. KnowsRing (after_all s.keys learns.0) (authority_party n) later.past.signed.leaves ring) (sym stays.0)
    (subst (λ n. KnowsRing (after_all s.keys learns.0) (authority_party s.me) n ring) (sym same.book.leaves)
    (learnt-known s.keys learns.0 (authority_party s.me) s.past.signed.leaves ring known)))

pub authority-took-kept : (says : Outcome) (node : AuthorityNode) (bytes : List ℕ) → KeepsAuthority node → AreBytes bytes → KeepsAuthority (authority_took says node bytes).0
authority-took-kept says node bytes kept are = by (authority_reply says node.state node.check (message_in bytes)) refl
  where
    said : Outcome
    said = says_to says node.check (rows.asked_in (message_in bytes))

    by : (a : authority_state.AuthorityAnswer) → authority_reply says node.state node.check (message_in bytes) ≡ a → KeepsAuthority (authority_does (node_behind node (message_in bytes) a) a).0
    by (Ok answer) at =
        let signs = authority.row-signs node.state node.keys (is_none node.check) (message_in bytes) said kept.book kept.state.honest.sound answer.0 answer.1 at in
        record {
          state = read-keeps node.state (is_none node.check) bytes said kept.state are answer.0 answer.1 at;
          book = authority.keys-stay node.state answer.0 node.keys kept.book signs.stays;
          ring = kept.ring;
          rolls = subst (λ n. HasRolls (authority_party n) answer.0.past.signed node.keys)
              (sym (row-stays node.state (is_none node.check) (message_in bytes) said answer.0 answer.1 at).0)
              (rolls-later (authority_party node.state.me) node.state.past.signed answer.0.past.signed node.keys
              (row_step node.state (is_none node.check) (message_in bytes) said answer.0 answer.1 at).grows.signed kept.rolls);
          known = row-knows node.state node.keys (is_none node.check) (message_in bytes) said answer.0 answer.1 at signs.stays kept.known;
        }
    by (Err refusal) at = record { state = kept.state; book = kept.book; ring = kept.ring; rolls = kept.rolls; known = kept.known }

-- the directory behind a roll knows the ring with the next key
rolls-known : (s : authority_state.AuthorityState) (ring : List KeyParts) (next : KeyParts) → AreKeysOf s.past.signed s.signature_len ring → IsNext ring next
    → KnowsRing s.keys (authority_party s.me) s.past.signed.leaves ring
    → KnowsRing (rolling s (public_of next)).keys (authority_party s.me) s.past.signed.leaves (ring ++ next ∷ [])
rolls-known s ring next book behind known =
    let newest : length ring - 1 ≡ s.past.signed.newest = let many = book.many in omega (arith, many) in
    subst (λ g. KnowsRing (after_adopting s.keys (authority_party s.me) g (public_of next)) (authority_party s.me) s.past.signed.leaves (ring ++ next ∷ [])) newest
    (rolled-known s.keys (authority_party s.me) s.past.signed.leaves ring next known behind)

pub authority-rolls-kept : (node : AuthorityNode) (next : KeyParts) → KeepsAuthority node → next_of node.keys ≡ Some next
    → KeepsAuthority (authority_turned node next (roll_row node.state (public_of next))).0
authority-rolls-kept node next kept there = by (roll_row node.state (public_of next)) refl
  where
    s : authority_state.AuthorityState
    s = node.state

    more : List KeyParts
    more = node.keys ++ next ∷ []

    behind : IsNext node.keys next
    behind = next_is node.keys next there

    Knows : authority_state.AuthorityState → Type 0
    Knows later = KnowsRing later.keys (authority_party later.me) later.past.signed.leaves more

    by : (a : authority_state.AuthorityAnswer) → roll_row node.state (public_of next) ≡ a → KeepsAuthority (authority_turned node next a).0
    by (Ok answer) at =
        let rolled = authority.roll-signs s more (public_of next) answer.0 answer.1 (authority.rolled-ring s node.keys next kept.book behind) at in
        record {
          state = roll-row-keeps s (public_of next) kept.state (public-text next) (public-widths next) answer.0 answer.1 at;
          book = (authority.rolled-signs s node.keys more next answer.0 answer.1 kept.book behind refl at).stays;
          ring = ring-more node.keys next kept.ring behind;
          rolls = subst (λ (x : authority_state.AuthorityState). HasRolls (authority_party x.me) x.past.signed more) (sym rolled.is)
              (rolls-next (authority_party s.me) s.past.signed node.keys next kept.book.many kept.rolls);
          known = subst Knows (sym rolled.is) (rolls-known s node.keys next kept.book behind kept.known);
        }
    by (Err refusal) at = kept
