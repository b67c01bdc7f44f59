-- The row of RollNote: the log learns another party's next key.
use Rattle.std.specs.Prelude.{ℕ, List, [], ◌∷◌, Result}
use Rattle.std.specs.Result.{result_map_both}
use Rattle.ar_message.specs.Filling.{nothing}
use Rattle.ar_statement.specs.declared.party.Party.{Party}
use Rattle.party_keys.specs.Learning.{Announced, after_learning, learned}
use Rattle.party_keys.specs.declared.fault.LearnFault.{LearnFault}
use Rattle.party_keys.specs.declared.learning.Learned.{Learned}
use Rattle.epoch_log.specs.Calls.{after_learn}
use Rattle.log_sending.specs.Checks.{Check}
use Rattle.log_core.specs.Steps.{given, learn_refusal}
use Rattle.log_core.specs.State.{LogAnswer, CoreState, LogStep}

-- the signer has signed, and no other key is known as its next
abbrev pub is_learned : Result Learned LearnFault → Party → ℕ → Check
is_learned answer party generation = result_map_both (λ how. tt) (λ fault. learn_refusal fault party generation) answer

abbrev pub roll_note_checks : CoreState → Announced → List Check
roll_note_checks s a = is_learned (learned s.keys a) a.party a.generation ∷ []

-- the directory learns the key, unless it knows it, and the Roll is seen
abbrev pub roll_note_reply : CoreState → Announced → LogStep
roll_note_reply s a = record {
  unsigned = nothing;
  after = record { log = after_learn s.log a; keys = after_learning s.keys a; queue = s.queue; signature_len = s.signature_len };
}

unfoldable pub roll_note_row : CoreState → Announced → LogAnswer
roll_note_row s a = given (roll_note_checks s a) (roll_note_reply s a)
