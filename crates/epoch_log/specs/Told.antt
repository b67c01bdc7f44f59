-- Which statements a log's record tells of.
use Rattle.std.specs.Prelude.{◌≡◌, ℕ, List, Contains, Option, Some, None}
use Rattle.ar_statement.specs.Claims.{Claim, endorse, handover, log_party, propose, vote, confirm, confirm_absent, answer, status, roll, object, value_with}
use Rattle.vote_quorum.specs.declared.value.Value.{Value}
use Rattle.ar_council.specs.Values.{confirm_claim}
use Rattle.epoch_log.specs.declared.entries.Confirmed.{Confirmed}
use Rattle.epoch_log.specs.declared.entries.Stated.{Stated}
use Rattle.epoch_log.specs.declared.entries.Voted.{Voted}

-- ---- the statement of each entry

-- what an entry's vote is for
abbrev pub value_of : Voted → Value
value_of v = record { base = v.base; root = v.root }

-- the statement of a confirmation
abbrev pub confirmation_claim : ℕ → Confirmed → Claim
confirmation_claim me c = confirm_claim me c.epoch c.name c.certificate c.root

-- ---- what the record tells of

-- a vote of the epoch for this base and root is among these
abbrev pub HasVoted : List Voted → ℕ → Value → Type 0
HasVoted voted epoch value = (v : Voted) × (Contains voted v × (v.epoch ≡ epoch) × (value_of v ≡ value))

-- this was stated of the epoch
abbrev pub HasStated : List Stated → ℕ → Option Value → Type 0
HasStated stated epoch value = Contains stated (record { epoch = epoch; value = value })

-- this was confirmed
abbrev pub HasConfirmed : List Confirmed → ℕ → List ℕ → Option (List ℕ) → List ℕ → Type 0
HasConfirmed confirmed epoch name certificate root =
    Contains confirmed (record { epoch = epoch; name = name; certificate = certificate; root = root })

-- The log with this number may have signed a statement, as far as its entries tell: its votes, statuses and
-- confirmations are exactly those of the entries; its proposals and Rolls have none; and it signs nothing else.
unfoldable pub ToldByLog : ℕ → List Voted → List Stated → List Confirmed → Claim → Type 0
ToldByLog me voted stated confirmed (propose log epoch base root) = log ≡ me
ToldByLog me voted stated confirmed (vote log epoch base root) = (log ≡ me) × HasVoted voted epoch (value_with base root)
ToldByLog me voted stated confirmed (status log epoch value) = (log ≡ me) × HasStated stated epoch value
ToldByLog me voted stated confirmed (confirm signer epoch name certificate root) = (signer ≡ log_party me) × HasConfirmed confirmed epoch name (Some certificate) root
ToldByLog me voted stated confirmed (confirm_absent signer epoch name root) = (signer ≡ log_party me) × HasConfirmed confirmed epoch name None root
ToldByLog me voted stated confirmed (roll signer generation key) = signer ≡ log_party me
ToldByLog me voted stated confirmed (endorse authority certificate) = ⊥
ToldByLog me voted stated confirmed (handover certificate) = ⊥
ToldByLog me voted stated confirmed (answer name certificate challenge) = ⊥
ToldByLog me voted stated confirmed (object certificate) = ⊥
