-- A network of processes: what all began with, and what each honest log and authority made of the texts of its own journal, and what
-- clients did. There is no order between the parties, no pool of messages, and no time.
use Rattle.std.specs.Prelude.{◌≡◌, ℕ, ◌&&◌, Bool, true, not, nat_lt, List, [], ◌∷◌, All, length}
use Rattle.ar_base.specs.Bytes.{AreBytes}
use Rattle.ar_council.specs.Council.{council_of, count_of}
use Rattle.ar_message.specs.Messages.{message_in}
use Rattle.ar_safety.specs.Held.{AcceptedBytes, Held, honest_records, verdict_on}
use Rattle.ar_statement.specs.Claims.{authority_party, has_party, log_party}
use Rattle.ar_statement.specs.declared.party.Party.{Party}
use Rattle.ar_statement.specs.declared.text.SeenText.{SeenText}
use Rattle.run_safety.specs.ar_world.Judging.{accepted_with}
use Rattle.run_safety.specs.ar_world.Learning.{knows_by, rolls_by}
use Rattle.authority_keeper.specs.Keeping as authority_keeping
use Rattle.authority_keeper.specs.Keeping.{AuthorityStanding}
use Rattle.client_rule.specs.Notes.{note_of}
use Rattle.kept_journal.specs.Replays.{ReachesBy}
use Rattle.kept_party.specs.Taking.{Becomes}
use Rattle.lms_tree.specs.Key.{public_of}
use Rattle.lms_tree.specs.KeyParts.{KeyParts}
use Rattle.log_journal.specs.Steps.{LogStanding}
use Rattle.log_journal.specs.Steps as log_standings
use Rattle.log_keeper.specs.Keeping as log_keeping
use Rattle.party_keys.specs.Directory.{Directory, IsDirectory, keys_of}

-- ---- what is told of a network

-- a party by its journal: its key of generation 0, the texts, and where they lead
pub record KeptHistory (S : Type 0) : Type 0 where
  pub key : KeyParts
  pub texts : List (List ℕ)
  pub standing : S

-- what a client does: its directory learns from a message, or it judges bytes
pub data ClientAct : Type 0 where
  learns_from : (bytes : List ℕ) → ClientAct
  judges : (t : AcceptedBytes) → ClientAct

-- The directory that all began with, who is dishonest, each log and each authority by its number, and what the clients did, which
-- share a directory, in order. What stands at a dishonest number is never read.
pub record Network : Type 0 where
  pub directory : Directory
  pub dishonest : List Party
  pub logs : ℕ → KeptHistory LogStanding
  pub authorities : ℕ → KeptHistory AuthorityStanding
  pub acts : List ClientAct

-- a log or an authority of the directory that is not dishonest
abbrev pub is_honest_in : Network → Party → Bool
is_honest_in n party = nat_lt party.number (count_of (council_of n.directory) party.role) && not (has_party n.dishonest party)

-- ---- clients

-- what clients have: their directory, the Rolls from which it learnt, and what they accepted
pub record ClientParts : Type 0 where
  pub directory : Directory
  pub learned : List SeenText
  pub judged : List AcceptedBytes

-- those that did nothing yet
abbrev pub new_clients : Directory → ClientParts
new_clients directory = record { directory = directory; learned = []; judged = [] }

-- behind an act: a message that is no note of a Roll teaches nothing, and bytes are kept where the client's rule accepts them, by
-- the directory as it is then
abbrev pub after_act : ClientParts → ClientAct → ClientParts
after_act c (learns_from bytes) = record c {
  directory = knows_by c.directory (note_of (message_in bytes));
  learned = rolls_by c.directory c.learned (note_of (message_in bytes));
}
after_act c (judges t) = record c { judged = accepted_with c.judged t (verdict_on c.directory t) }

-- behind all of them
abbrev pub after_acts : ClientParts → List ClientAct → ClientParts
after_acts c [] = c
after_acts c (act ∷ acts) = after_acts (after_act c act) acts

abbrev pub clients_in : Network → ClientParts
clients_in n = after_acts (new_clients n.directory) n.acts

-- the bytes that an act is of
abbrev pub bytes_of_act : ClientAct → List ℕ
bytes_of_act (learns_from bytes) = bytes
bytes_of_act (judges t) = t.bytes

-- ---- what a network is

-- The directory knows of the party its key of generation 0 alone; its texts are bytes, and made of the new party with that key
-- what it is.
pub record IsHistoryOf {S : Type 0} (takes : S → List ℕ → S → Type 0) (directory : Directory) (party : Party) (new : KeyParts → S) (h : KeptHistory S) : Type 0 where
  pub first : keys_of directory party ≡ public_of h.key ∷ []
  pub bytes : All AreBytes h.texts
  pub leads : ReachesBy takes (new h.key) h.texts h.standing

-- The journal of each honest log and authority made of it what it is. Nothing is said of what was sent, of when, or of who came
-- first.
pub record IsNetwork (n : Network) : Type 0 where
  pub is_directory : IsDirectory n.directory
  pub logs : (number : ℕ) → is_honest_in n (log_party number) ≡ true
      → IsHistoryOf (Becomes log_keeping.takes) n.directory (log_party number) (log_standings.new_standing number n.directory) (n.logs number)
  pub authorities : (number : ℕ) → is_honest_in n (authority_party number) ≡ true
      → IsHistoryOf (Becomes authority_keeping.takes) n.directory (authority_party number) (authority_keeping.new_standing number n.directory) (n.authorities number)
  pub acts : All (λ act. AreBytes (bytes_of_act act)) n.acts

-- ---- what it holds

-- what the theorem's records are made of: the record of each honest log and authority, as its journal leaves it, and what clients have
abbrev pub held_in : Network → Held
held_in n = record {
  directory = (clients_in n).directory;
  dishonest = n.dishonest;
  logs = honest_records log_party n.dishonest (λ number. (n.logs number).standing.core.log.past) (length n.directory.logs);
  authorities = honest_records authority_party n.dishonest (λ number. (n.authorities number).standing.state.past) (length n.directory.authorities);
  judged = (clients_in n).judged;
  learned = (clients_in n).learned;
}
