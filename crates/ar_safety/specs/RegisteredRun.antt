-- A small run in which a client accepts a certificate, and all that the theorem asks for is met: three authorities endorsed the
-- certificate of a name, five logs decided the first epoch with its registration, a log and two authorities confirmed it, and a
-- client accepted what they signed.
use Rattle.std.specs.Prelude.{ℕ, false, List, [], ◌∷◌, ◌++◌, map, replicate, Some, None}
use Rattle.lm_ots.specs.declared.ots_type.OtsType.TheVariants.{W8}
use Rattle.lms_tree.specs.declared.lms_type.LmsType.TheVariants.{H5}
use Rattle.lms_tree.specs.declared.public_key.LmsPublic.{LmsPublic}
use Rattle.lms_tree.specs.Key.{public_of}
use Rattle.lms_tree.specs.KeyParts.{KeyParts}
use Rattle.lms_tree.specs.PublicKey.{key_text}
use Rattle.ar_statement.specs.declared.party.Role.{Role}
use Rattle.ar_statement.specs.declared.party.Role.TheVariants.{LogServer, Authority}
use Rattle.ar_statement.specs.declared.party.Party.{Party}
use Rattle.ar_statement.specs.declared.text.SeenText.{SeenText}
use Rattle.ar_statement.specs.Claims.{Claim, confirm, log_party, party, text_of}
use Rattle.key_roll.specs.Due.{DueParts}
use Rattle.key_roll.specs.Ring.{signature_by}
use Rattle.party_keys.specs.Directory.{Directory, directory_with}
use Rattle.party_keys.specs.Seeds.{seed_of}
use Rattle.vote_quorum.specs.declared.value.Value.{Value}
use Rattle.cert_policy.specs.declared.manner.Manner.TheVariants.{Full}
use Rattle.cert_policy.specs.Terms.{PolicyTerms}
use Rattle.ar_cert.specs.Certificate.{Certificate, digest_of}
use Rattle.ar_cert.specs.Changes.{Change}
use Rattle.ar_message.specs.Confirmation.{Confirmation, Signed, confirmation_text, present}
use Rattle.client_rule.specs.Rule.{Asked}
use Rattle.domain_table.specs.Applying.{taking_change}
use Rattle.domain_table.specs.Tables.{Table, no_table}
use Rattle.domain_table.specs.Tree.{root_of}
use Rattle.party_keys.specs.Seen.{seen_of}
use Rattle.ar_council.specs.Values.{vote_claim}
use Rattle.epoch_log.specs.Calls.{after_confirm, endorsements_of}
use Rattle.epoch_log.specs.Record.{LogRecord}
use Rattle.epoch_log.specs.State.{LogState}
use Rattle.epoch_log.specs.declared.entries.How.TheVariants.{Decided}
use Rattle.epoch_log.specs.declared.entries.Newest.{Newest}
use Rattle.authority_core.specs.Calls.{after_endorse, after_log_confirmed, fresh_authority}
use Rattle.authority_core.specs.Record.{AuthorityRecord}
use Rattle.authority_core.specs.declared.entries.Approved as asked
use Rattle.authority_core.specs.declared.entries.Kept.{Kept}
use Rattle.ar_safety.specs.Examples.{book_with, five}
use Rattle.ar_safety.specs.Records.{AcceptedConfirmation, Records}

-- ---- the certificate

-- the name `a`
abbrev pub a_name : List ℕ
a_name = 97 ∷ []

-- A subject key: any that can be read will do, since its owner signs nothing here.
abbrev pub subject_key : LmsPublic
subject_key = record { lms = H5; ots = W8; id = replicate 16 0; root = replicate 32 0 }

-- one of the authorities 0, 1 and 2 must endorse what follows; confirmations may be 10 epochs old; it holds until epoch 10
abbrev pub own_policy : PolicyTerms
own_policy = record { threshold = 1; keyed = false; max_age = 10; until = 10; trusted = 0 ∷ (1 ∷ (2 ∷ [])); wait = None }

-- the first certificate of the name
abbrev pub first_certificate : Certificate
first_certificate = record { name = a_name; serial = 0; previous = replicate 32 0; subject = subject_key; policy = own_policy; revoked = false }

-- its registration, which the authorities 0, 1 and 2 endorse
abbrev pub registration : Change
registration = record {
  cert = first_certificate;
  endorsements = record { authority = 0; signature = [] } ∷ (record { authority = 1; signature = [] } ∷ (record { authority = 2; signature = [] } ∷ []));
  handover = None;
  objection = None;
}

-- the table with this name alone
abbrev pub one_table : Table
one_table = taking_change no_table 1 registration Full

-- from the table without names to it
abbrev pub registered : Value
registered = record { base = root_of no_table; root = root_of one_table }

-- ---- the logs

abbrev pub all_five : List ℕ
all_five = 0 ∷ (1 ∷ (2 ∷ (3 ∷ (4 ∷ []))))

-- the endorsements, and the votes of all
abbrev pub seen_by_all : List SeenText
seen_by_all = endorsements_of registration ++ map (λ log. seen_of (log_party log) (vote_claim log 1 registered)) all_five

-- the newest decision, by the votes of all
abbrev pub first_decision : Newest
first_decision = record { epoch = 1; base = root_of no_table; root = root_of one_table; votes = map (λ log. (log, None)) all_five }

-- a log that voted for the registration in the first epoch and decided it
abbrev pub registering_log : ℕ → LogRecord
registering_log me = record {
  seen = seen_by_all;
  signed = book_with (vote_claim me 1 registered);
  voted = record { epoch = 1; base = root_of no_table; changes = registration ∷ []; root = root_of one_table } ∷ [];
  stated = [];
  ended = record { epoch = 1; how = Decided (registration ∷ []) (root_of one_table) } ∷ [];
  confirmed = [];
}

-- where it then stands
abbrev pub decided_log : ℕ → LogState
decided_log me = record { me = me; council = five; past = registering_log me; votes = []; statuses = []; newest = Some first_decision }

-- it confirms what the name has
abbrev pub confirming_log : ℕ → LogRecord
confirming_log me = (after_confirm (decided_log me) first_decision a_name).past

-- ---- the authorities

-- what the check of an authority said yes to
abbrev pub asked_for : asked.Approved
asked_for = record { name = a_name; key = key_text subject_key; certificate = digest_of first_certificate }

-- what it keeps of the log's confirmation
abbrev pub kept_one : Kept
kept_one = record { epoch = 1; name = a_name; certificate = Some (digest_of first_certificate); base = root_of no_table; root = root_of one_table; bottom = None; steps = [] }

-- an authority that endorsed the certificate, and confirmed what log 0 says, by the votes of all
abbrev pub confirming_authority : ℕ → AuthorityRecord
confirming_authority me = after_log_confirmed me (after_endorse me (fresh_authority 32) asked_for) 0 all_five kept_one

-- ---- the client

-- the key of a party
abbrev pub key_for : Role → ℕ → KeyParts
key_for role number = record { seed = seed_of [] role number; lms = H5; ots = W8 }

-- the public keys of the parties of a role
abbrev pub publics_of : Role → List ℕ → List LmsPublic
publics_of role numbers = map (λ number. public_of (key_for role number)) numbers

abbrev pub directory_of_five : Directory
directory_of_five = directory_with (publics_of LogServer all_five) (publics_of Authority (0 ∷ (1 ∷ (2 ∷ [])))) 4

-- what each of the three says: that the name has the certificate
abbrev pub says : Party → Claim
says signer = confirm signer 1 a_name (digest_of first_certificate) (root_of one_table)

-- and signs by its second leaf, behind its vote or endorsement
abbrev pub due_for : Party → DueParts
due_for signer = record { generation = 0; leaf = 1; text = text_of (says signer); leaves = 32 }

abbrev pub signed_for : Role → ℕ → Signed
signed_for role number = record { number = number; signature = signature_by (key_for role number) (due_for (party role number)) }

-- What the client gets. The table has one name alone, so that the path to its root has no steps.
abbrev pub confirmation : Confirmation
confirmation = record {
  about = record { client = 0; epoch = 1; name = a_name; root = root_of one_table };
  body = present first_certificate;
  steps = [];
  log = signed_for LogServer 0;
  first = signed_for Authority 0;
  second = signed_for Authority 1;
}

-- what it asked for
abbrev pub asked_in_one : Asked
asked_in_one = record { keys = directory_of_five; name = a_name; epoch = 1; age = 0 }

-- what it accepted
abbrev pub judged_one : AcceptedConfirmation
judged_one = record { asked = asked_in_one; bytes = confirmation_text confirmation; confirmation = confirmation }

-- ---- the run

abbrev pub registered_run : Records
registered_run = record {
  council = five;
  dishonest = [];
  logs = confirming_log;
  authorities = confirming_authority;
  judged = judged_one ∷ [];
  learned = [];
}
