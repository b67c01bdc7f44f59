-- A small network in which a log did something.
use Rattle.std.specs.Prelude.{ℕ, ◌+◌, [], ◌∷◌, map, None}
use Rattle.epoch_log.specs.declared.entries.Stated.{Stated}
use Rattle.lm_ots.specs.declared.ots_type.OtsType.TheVariants.{W8}
use Rattle.lms_tree.specs.Key.{public_of}
use Rattle.lms_tree.specs.KeyParts.{KeyParts}
use Rattle.lms_tree.specs.declared.lms_type.LmsType.TheVariants.{H5}
use Rattle.log_core.specs.Passing.{passing_reply}
use Rattle.log_core.specs.State.{passes}
use Rattle.log_journal.specs.Inputs.{input_text}
use Rattle.log_journal.specs.Steps.{LogStanding, new_standing}
use Rattle.party_keys.specs.Directory.{Directory, directory_with}
use Rattle.process_safety.specs.Going.{new_network, with_log_text}
use Rattle.process_safety.specs.Network.{Network}

-- a key of 32 leaves, of the seed with this one byte
abbrev pub small_key : ℕ → KeyParts
small_key k = record { seed = k ∷ []; lms = H5; ots = W8 }

abbrev pub authority_key : ℕ → KeyParts
authority_key k = small_key (k + 3)

-- three logs, of which all three are a quorum, and three authorities
abbrev pub directory_of_three : Directory
directory_of_three =
    directory_with (map public_of (small_key 0 ∷ small_key 1 ∷ small_key 2 ∷ [])) (map public_of (authority_key 0 ∷ authority_key 1 ∷ authority_key 2 ∷ [])) 3

-- nobody is dishonest, and nobody did anything yet
abbrev pub three_began : Network
three_began = new_network directory_of_three [] small_key authority_key

-- log 0 before it does anything, and behind the order to state what it did in its first epoch
abbrev pub log_began : LogStanding
log_began = new_standing 0 directory_of_three (small_key 0)

abbrev pub log_passed : LogStanding
log_passed = record { core = (passing_reply log_began.core).after; keys = log_began.keys }

-- log 0 took that order, and no party anything else
abbrev pub one_passed : Network
one_passed = with_log_text three_began 0 (input_text passes) log_passed

-- it stated of epoch 1 that it had voted for nothing
abbrev pub first_statement : Stated
first_statement = record { epoch = 1; value = None }
