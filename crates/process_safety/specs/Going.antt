-- How a network begins, and how it goes on.
use Rattle.std.specs.Prelude.{◌≡◌, ℕ, ◌==◌, true, if◌then◌else◌, List, [], ◌∷◌, ◌++◌}
use Rattle.ar_statement.specs.Claims.{authority_party, log_party}
use Rattle.ar_statement.specs.declared.party.Party.{Party}
use Rattle.authority_keeper.specs.Keeping as authority_keeping
use Rattle.authority_keeper.specs.Keeping.{AuthorityStanding}
use Rattle.lms_tree.specs.Key.{public_of}
use Rattle.lms_tree.specs.KeyParts.{KeyParts}
use Rattle.log_journal.specs.Steps.{LogStanding}
use Rattle.log_journal.specs.Steps as log_standings
use Rattle.party_keys.specs.Directory.{Directory, IsDirectory, keys_of}
use Rattle.process_safety.specs.Network.{ClientAct, KeptHistory, Network, is_honest_in}

-- a party with this key that has taken nothing yet
abbrev pub new_history : {S : Type 0} → (KeyParts → S) → KeyParts → KeptHistory S
new_history new key = record { key = key; texts = []; standing = new key }

-- the network of this directory and these dishonest parties in which nobody did anything yet
abbrev pub new_network : Directory → List Party → (ℕ → KeyParts) → (ℕ → KeyParts) → Network
new_network directory dishonest log_keys authority_keys = record {
  directory = directory;
  dishonest = dishonest;
  logs = λ number. new_history (log_standings.new_standing number directory) (log_keys number);
  authorities = λ number. new_history (authority_keeping.new_standing number directory) (authority_keys number);
  acts = [];
}

-- these keys are those that the directory knows of its honest parties, and it knows no more of them
pub record AreFirstKeys (directory : Directory) (dishonest : List Party) (log_keys authority_keys : ℕ → KeyParts) : Type 0 where
  pub is_directory : IsDirectory directory
  pub logs : (number : ℕ) → is_honest_in (new_network directory dishonest log_keys authority_keys) (log_party number) ≡ true
      → keys_of directory (log_party number) ≡ public_of (log_keys number) ∷ []
  pub authorities : (number : ℕ) → is_honest_in (new_network directory dishonest log_keys authority_keys) (authority_party number) ≡ true
      → keys_of directory (authority_party number) ≡ public_of (authority_keys number) ∷ []

-- a party that took one text more, and stands there now
abbrev pub behind_text : {S : Type 0} → KeptHistory S → List ℕ → S → KeptHistory S
behind_text h text new = record h { texts = h.texts ++ text ∷ []; standing = new }

-- the network in which this log took it, this authority, or in which clients did one thing more
abbrev pub with_log_text : Network → ℕ → List ℕ → LogStanding → Network
with_log_text n number text new = record n { logs = λ k. if k == number then behind_text (n.logs k) text new else n.logs k }

abbrev pub with_authority_text : Network → ℕ → List ℕ → AuthorityStanding → Network
with_authority_text n number text new = record n { authorities = λ k. if k == number then behind_text (n.authorities k) text new else n.authorities k }

abbrev pub with_act : Network → ClientAct → Network
with_act n act = record n { acts = n.acts ++ act ∷ [] }

-- the same parties, with clients that did this
abbrev pub with_clients : Network → List ClientAct → Network
with_clients n acts = record n { acts = acts }
