-- Three small runs. In one an epoch is decided, and all that the theorem asks for is met. In each of the others one premise
-- fails alone, and two honest logs end an epoch differently: three logs are dishonest, one more than may be; or statements
-- were forged.
use Rattle.std.specs.Prelude.{ℕ, ◌==◌, if◌then◌else◌, List, [], ◌∷◌, map, None}
use Rattle.ar_statement.specs.declared.party.Party.{Party}
use Rattle.ar_statement.specs.declared.text.SeenText.{SeenText}
use Rattle.ar_statement.specs.Claims.{Claim, log_party, text_of}
use Rattle.key_roll.specs.Book.{RollBook, empty_book}
use Rattle.key_roll.specs.Entry.{with_text}
use Rattle.vote_quorum.specs.declared.value.Value.{Value}
use Rattle.domain_table.specs.Tables.{no_table}
use Rattle.domain_table.specs.Tree.{root_of}
use Rattle.ar_council.specs.Council.{Council}
use Rattle.party_keys.specs.Seen.{seen_of}
use Rattle.ar_council.specs.Values.{status_claim, vote_claim}
use Rattle.epoch_log.specs.Calls.{fresh}
use Rattle.epoch_log.specs.Record.{LogRecord}
use Rattle.epoch_log.specs.declared.entries.How.TheVariants.{Decided, Skipped}
use Rattle.authority_core.specs.Calls.{fresh_authority}
use Rattle.ar_safety.specs.Records.{Records}

-- five logs, of which four are a quorum, and three authorities
abbrev pub five : Council
five = record { logs = 5; authorities = 3; quorum = 4 }

-- from the table without names to itself
abbrev pub unchanged : Value
unchanged = record { base = root_of no_table; root = root_of no_table }

-- a book with one statement, of keys with 32 leaves
abbrev pub book_with : Claim → RollBook
book_with claim = with_text (empty_book 32) (text_of claim)

-- the votes of these logs, for no changes in the first epoch
abbrev pub seen_votes : List ℕ → List SeenText
seen_votes logs = map (λ log. seen_of (log_party log) (vote_claim log 1 unchanged)) logs

-- the statuses of these logs, that they cast no ballot in the first epoch
abbrev pub seen_statuses : List ℕ → List SeenText
seen_statuses logs = map (λ log. seen_of (log_party log) (status_claim log 1 None)) logs

-- a log that voted in the first epoch for no changes, saw these logs vote so, and decided the epoch
abbrev pub deciding_log : List ℕ → ℕ → LogRecord
deciding_log voters me = record {
  seen = seen_votes voters;
  signed = book_with (vote_claim me 1 unchanged);
  voted = record { epoch = 1; base = root_of no_table; changes = []; root = root_of no_table } ∷ [];
  stated = [];
  ended = record { epoch = 1; how = Decided [] (root_of no_table) } ∷ [];
  confirmed = [];
}

-- a log that stated that it cast no ballot in the first epoch, saw these logs state so, and skipped the epoch
abbrev pub skipping_log : List ℕ → ℕ → LogRecord
skipping_log silent me = record {
  seen = seen_statuses silent;
  signed = book_with (status_claim me 1 None);
  voted = [];
  stated = record { epoch = 1; value = None } ∷ [];
  ended = record { epoch = 1; how = Skipped (map (λ log. (log, None)) silent) } ∷ [];
  confirmed = [];
}

-- The honest of the five logs decided the first epoch, each by the votes of all five.
abbrev pub decided_run : List Party → Records
decided_run dishonest = record {
  council = five;
  dishonest = dishonest;
  logs = deciding_log (0 ∷ 1 ∷ 2 ∷ 3 ∷ 4 ∷ []);
  authorities = λ authority. fresh_authority 32;
  judged = [];
  learned = [];
}

-- The logs 0, 1 and 2 are dishonest: to log 3 they sent votes and to log 4 statuses. Log 3 decided the first epoch, and log 4
-- skipped it.
abbrev pub split_run : Records
split_run = record {
  council = five;
  dishonest = log_party 0 ∷ log_party 1 ∷ log_party 2 ∷ [];
  logs = λ log. if log == 4 then skipping_log (0 ∷ 1 ∷ 2 ∷ 4 ∷ []) log else deciding_log (0 ∷ 1 ∷ 2 ∷ 3 ∷ []) log;
  authorities = λ authority. fresh_authority 32;
  judged = [];
  learned = [];
}

-- No party is dishonest, and the logs 0, 1 and 2 did nothing. Log 3 saw votes of them and log 4 saw statuses, which they never
-- signed: log 3 decided the first epoch, and log 4 skipped it.
abbrev pub forged_run : Records
forged_run = record {
  council = five;
  dishonest = [];
  logs = λ log.
      if log == 4 then skipping_log (0 ∷ 1 ∷ 2 ∷ 4 ∷ []) log
      else if log == 3 then deciding_log (0 ∷ 1 ∷ 2 ∷ 3 ∷ []) log
      else (fresh log five 32).past;
  authorities = λ authority. fresh_authority 32;
  judged = [];
  learned = [];
}
