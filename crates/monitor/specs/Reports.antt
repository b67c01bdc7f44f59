-- What an audit reports: the items that are no evidence, and who contradicts himself.
use Rattle.std.specs.Prelude.{◌≡◌, Contains, ℕ, if◌then◌else◌, List, [], ◌∷◌, ◌++◌, length, map, Option, None}
use Rattle.std.specs.Option.{option_map, option_or}
use Rattle.std.specs.List.{filter_map, range_with_len}
use Rattle.ar_statement.specs.Claims.{is_party, party, signer_of}
use Rattle.ar_statement.specs.declared.party.Party.{Party}
use Rattle.ar_statement.specs.declared.party.Role.{Role}
use Rattle.ar_statement.specs.declared.party.Role.TheVariants.{LogServer, Authority}
use Rattle.party_keys.specs.Directory.{Directory}
use Rattle.monitor.specs.Items.{Sworn, ignored_of, sworn_of}
use Rattle.monitor.specs.Rules.{rule_of}
use Rattle.monitor.specs.declared.item.Item.{Item}
use Rattle.monitor.specs.declared.report.Conflict.{Conflict}
use Rattle.monitor.specs.declared.report.Report.{Report}

-- ---- the pair that is printed

-- the first of these that a statement contradicts: its line, and the rule
unfoldable pub first_against : List Sworn → Sworn → Option (ℕ × ℕ)
first_against [] second = None
first_against (first ∷ before) second =
    option_or (option_map (λ rule. (first.line, rule)) (rule_of first second)) (first_against before second)

-- that pair, where the statement is the party's
abbrev pub conflict_with : Party → List Sworn → Sworn → Option Conflict
conflict_with party before second =
    if is_party (signer_of second.claim) party then
    option_map (λ f. record { party = party; first = f.0; second = second.line; rule = f.1 }) (first_against before second)
    else None

-- the pair of the first statement of the party, of the later ones, that contradicts one before it
unfoldable pub first_conflict : Party → List Sworn → List Sworn → Option Conflict
first_conflict party before [] = None
first_conflict party before (second ∷ later) =
    option_or (conflict_with party before second) (first_conflict party (before ++ second ∷ []) later)

-- the pair that is printed of a party
abbrev pub conflict_of : List Sworn → Party → Option Conflict
conflict_of sworn party = first_conflict party [] sworn

-- ---- the report

-- the parties of a role, of which there are so many
abbrev pub members : Role → ℕ → List Party
members role count = map (party role) (range_with_len 0 count)

-- what is printed of them
abbrev pub conflicts_of : Role → ℕ → List Sworn → List Conflict
conflicts_of role count sworn = filter_map (conflict_of sworn) (members role count)

-- What an audit reports: the items that are ignored, in their order; a pair for each log and then for each authority that
-- contradicts itself, in order of number; and how many items are evidence.
unfoldable pub report_of : Directory → List Item → Report
report_of keys items =
    let sworn = sworn_of keys items
    in record {
      ignored = ignored_of keys items;
      conflicts = conflicts_of LogServer (length keys.logs) sworn ++ conflicts_of Authority (length keys.authorities) sworn;
      valid = length sworn;
    }

-- the report names a party
abbrev pub Names : Report → Party → Type 0
Names report party = (c : Conflict) × Contains report.conflicts c × (c.party ≡ party)
