-- The row of another party's Roll, and that of the order to roll.
use Rattle.std.specs.Prelude.{◌≡◌, ℕ, ◌⊎◌, Result, Ok, Err, IsOk}
use Rattle.ar_base.specs.Gives.{with_error}
use Rattle.ar_message.specs.Messages.{message_text}
use Rattle.ar_message.specs.declared.address.Address.TheVariants.{Logs}
use Rattle.ar_message.specs.declared.message.Message.{Message}
use Rattle.ar_message.specs.declared.message.Message.TheVariants.{RollNote}
use Rattle.ar_message.specs.Filling.{nothing, zeros}
use Rattle.key_roll.specs.Due.{DueParts}
use Rattle.key_roll.specs.Entry.{announced}
use Rattle.key_roll.specs.declared.fault.RollFault.{RollFault}
use Rattle.lms_tree.specs.PublicKey.{key_text}
use Rattle.lms_tree.specs.declared.public_key.LmsPublic.{LmsPublic}
use Rattle.party_keys.specs.Directory.{Directory}
use Rattle.party_keys.specs.Learning.{Announced, after_adopting, after_learning, learned}
use Rattle.ar_statement.specs.Claims.{authority_party}
use Rattle.party_keys.specs.declared.fault.LearnFault.{LearnFault}
use Rattle.party_keys.specs.declared.learning.Learned.{Learned}
use Rattle.authority_core.specs.Calls.{after_learn, after_roll}
use Rattle.authority_core.specs.Record.{AuthorityRecord}
use Rattle.authority_core.specs.Refusals.{of_learning, of_roll}
use Rattle.authority_core.specs.State.{AuthorityAnswer, AuthorityState, sends}
use Rattle.authority_core.specs.declared.refusal.AuthorityRefusal.{AuthorityRefusal}
use Rattle.authority_core.specs.declared.refusal.AuthorityRefusal.TheVariants.{Memory}

-- ---- another party's Roll

-- the authority knows the next key, and saw the Roll
abbrev pub learning : AuthorityState → Announced → AuthorityState
learning s a = record s { keys = after_learning s.keys a; past = after_learn s.past a }

abbrev pub roll_note_by : AuthorityState → Announced → Result Learned LearnFault → AuthorityAnswer
roll_note_by s a (Ok _) = Ok (learning s a, nothing)
roll_note_by s a (Err fault) = Err (of_learning a.party a.generation fault)

unfoldable pub roll_note_row : AuthorityState → Announced → AuthorityAnswer
roll_note_row s a = roll_note_by s a (learned s.keys a)

-- ---- the order to roll

-- the authority's Roll of this key is signed, and it knows the key as its own next; of what it saw nothing changes
abbrev pub rolling : AuthorityState → LmsPublic → AuthorityState
rolling s next = record s {
  keys = after_adopting s.keys (authority_party s.me) s.past.signed.newest next;
  past = after_roll s.me s.past (key_text next);
}

-- what the logs get
abbrev pub roll_message : AuthorityState → LmsPublic → Message
roll_message s next = RollNote (authority_party s.me) s.past.signed.newest next (zeros s.signature_len)

abbrev pub roll_by : AuthorityState → LmsPublic → Result DueParts RollFault → AuthorityAnswer
roll_by s next (Ok due) =
    Ok (rolling s next, sends s.signature_len Logs (message_text (roll_message s next)) due)
roll_by s next (Err fault) = Err (of_roll fault)

unfoldable pub roll_row : AuthorityState → LmsPublic → AuthorityAnswer
roll_row s next = roll_by s next (announced s.past.signed (authority_party s.me) next)

-- ---- the record's part of them

-- a party's Roll is learnt and seen; or it is refused, or memory was wanting, and all is as before
abbrev pub LearnsBy : Result (Unit {0}) AuthorityRefusal → AuthorityRecord → AuthorityRecord → Directory → Directory → Announced → Type 0
LearnsBy (Ok _) old new keys keys' a =
    IsOk (learned keys a) × (new ≡ after_learn old a) × (keys' ≡ after_learning keys a)
LearnsBy (Err refusal) old new keys keys' a =
    (new ≡ old) × (keys' ≡ keys) × ((refusal ≡ Memory) ⊎ (with_error (of_learning a.party a.generation) (learned keys a) ≡ Err refusal))

-- the authority's Roll is entered and its next key known; or it is refused, or memory was wanting, and all is as before
abbrev pub RollsBy : Result DueParts AuthorityRefusal → AuthorityRecord → AuthorityRecord → Directory → Directory → ℕ → LmsPublic → Type 0
RollsBy (Ok due) old new keys keys' me next =
    (announced old.signed (authority_party me) next ≡ Ok due)
    × (new ≡ after_roll me old (key_text next)) × (keys' ≡ after_adopting keys (authority_party me) old.signed.newest next)
RollsBy (Err refusal) old new keys keys' me next =
    (new ≡ old) × (keys' ≡ keys) × ((refusal ≡ Memory) ⊎ (with_error of_roll (announced old.signed (authority_party me) next) ≡ Err refusal))
