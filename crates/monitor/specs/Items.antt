-- Signed statements that are given to judge, and which of them are evidence.
use Rattle.std.specs.Prelude.{ℕ, List, Option, Some, None, Result, Ok, Err, ◌<◌, ◌≤◌, All, AllPairs}
use Rattle.std.specs.Result.{result_err, result_ok}
use Rattle.std.specs.Option.{option_map}
use Rattle.std.specs.List.{filter_map}
use Rattle.ar_statement.specs.Claims.{Claim, signer_of}
use Rattle.party_keys.specs.Directory.{Directory}
use Rattle.party_keys.specs.Signatures.{behind_generation, claim_in, generation_of, leaf_of, verified}
use Rattle.party_keys.specs.declared.fault.VerifyFault.{VerifyFault}
use Rattle.party_keys.specs.declared.fault.VerifyFault.TheVariants as verify_fault
use Rattle.monitor.specs.declared.item.Item.{Item}
use Rattle.monitor.specs.declared.report.Ignored.{Ignored}
use Rattle.monitor.specs.declared.report.Ignored.TheVariants.{Form, Unknown, Bad}

-- lines count from 1, and those of the items ascend
pub record AscendByLine (items : List Item) : Type 0 where
  pub least : All (λ i. 1 ≤ i.line) items
  pub in_order : AllPairs (λ i j. i.line < j.line) items

-- a statement whose signature is valid: its line, what it says, its text, and the generation and the leaf of the
-- key that signed it
pub record Sworn : Type 0 where
  pub line : ℕ
  pub claim : Claim
  pub text : List ℕ
  pub generation : Option ℕ
  pub leaf : Option ℕ

-- why an item is ignored whose signature is not accepted
abbrev pub ignored_by : VerifyFault → Ignored
ignored_by (verify_fault.Unknown party) = Unknown
ignored_by (verify_fault.Bad k) = Bad k

-- the statement of an item that says this
abbrev pub sworn_as : Item → Claim → Sworn
sworn_as item claim = record {
  line = item.line;
  claim = claim;
  text = item.text;
  generation = generation_of item.signature;
  leaf = leaf_of (behind_generation item.signature);
}

-- the statement of an item that says this, where its signature was verified so
abbrev pub sworn_if : Result (Unit {0}) VerifyFault → Item → Claim → Result Sworn Ignored
sworn_if (Ok _) item claim = Ok (sworn_as item claim)
sworn_if (Err fault) item claim = Err (ignored_by fault)

-- the statement of an item whose text says this, or nothing that may be said
abbrev pub sworn_by : Directory → Item → Option Claim → Result Sworn Ignored
sworn_by keys item None = Err Form
sworn_by keys item (Some claim) = sworn_if (verified keys (signer_of claim) item.text item.signature) item claim

-- What an item shows: the statement that its text is, where the signature is that of the party that signs such a
-- statement; or why it is ignored.
unfoldable pub sworn_in : Directory → Item → Result Sworn Ignored
sworn_in keys item = sworn_by keys item (claim_in item.text)

-- the statements of all items that are evidence, in their order
abbrev pub sworn_of : Directory → List Item → List Sworn
sworn_of keys items = filter_map (λ i. result_ok (sworn_in keys i)) items

-- the line of an item that is ignored, and why
abbrev pub ignored_in : Directory → Item → Option (ℕ × Ignored)
ignored_in keys item = option_map (λ why. (item.line, why)) (result_err (sworn_in keys item))

-- of all items that are none, in their order
abbrev pub ignored_of : Directory → List Item → List (ℕ × Ignored)
ignored_of keys items = filter_map (ignored_in keys) items
