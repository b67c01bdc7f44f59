-- What an epoch does to a table: what has waited long enough is appended (ripening), a change is judged, and
-- the changes of a list are applied one after another.
use Rattle.std.specs.Prelude.{◌≡◌, ℕ, ◌+◌, ◌≤◌, nat_le, Bool, true, false, not, ◌&&◌, if◌then◌else◌, List, [], ◌∷◌, ◌++◌, map, Option, Some, None, is_some, option_and_then, Result, Ok, Err}
use Rattle.std.specs.List.{flat_map}
use Rattle.std.specs.Option.{option_map, option_to_list}
use Rattle.std.specs.FinMap.{entries, from_entries, get, insert, remove, retain_keys}
use Rattle.std.specs.Result.{result_map_both}
use Rattle.cert_policy.specs.declared.refusal.PolicyRefusal.{PolicyRefusal}
use Rattle.cert_policy.specs.declared.refusal.PolicyRefusal.TheVariants.{NotPending}
use Rattle.cert_policy.specs.declared.manner.Manner.{Manner}
use Rattle.cert_policy.specs.declared.manner.Manner.TheVariants.{Full, Recovery, Objected}
use Rattle.cert_policy.specs.Clauses.{in_manner}
use Rattle.ar_cert.specs.Certificate.{Certificate}
use Rattle.ar_cert.specs.Changes.{Change}
use Rattle.ar_cert.specs.Judging.{change_judgement, update_judgement}
use Rattle.domain_table.specs.declared.refusal.ChangeRefusal.{ChangeRefusal}
use Rattle.domain_table.specs.declared.refusal.ChangeRefusal.TheVariants as refusals
use Rattle.domain_table.specs.Tables.{Pending, Table, chain_of, newest, size, waiting_digest}

-- ---- ripening

-- whether a change that waits since then has waited as long as the policy says; without a wait it never has
abbrev pub is_over : ℕ → ℕ → Option ℕ → Bool
is_over epoch since None = false
is_over epoch since (Some wait) = nat_le (since + wait) epoch

-- whether what waits behind the newest certificate is ripe: the wait is that of the newest certificate
abbrev pub is_ripe_behind : ℕ → Option Certificate → Option Pending → Bool
is_ripe_behind epoch (Some old) (Some p) = is_over epoch p.since old.policy.wait
is_ripe_behind epoch None pending = false
is_ripe_behind epoch (Some old) None = false

-- whether what waits for a name is ripe at an epoch
abbrev pub is_ripe : Table → ℕ → List ℕ → Bool
is_ripe table epoch name = is_ripe_behind epoch (newest (chain_of table name)) (get table.waiting name)

-- what it is that a change is ripe: it waits for the name, and since then have passed as many epochs as the
-- policy of the newest certificate has a recovery wait
pub record IsRipe (table : Table) (epoch : ℕ) (name : List ℕ) : Type 0 where
  pub pending : Pending
  pub waits : get table.waiting name ≡ Some pending
  pub old : Certificate
  pub is_newest : newest (chain_of table name) ≡ Some old
  pub wait : ℕ
  pub is_wait : old.policy.wait ≡ Some wait
  pub over : pending.since + wait ≤ epoch

-- what waits, as a list of at most one change
abbrev pub change_list : Option Pending → List Change
change_list pending = option_to_list (option_map (λ p. p.change) pending)

-- a name's chain, with what is ripe for the name behind it
abbrev pub ripened : Table → ℕ → List ℕ → List Change → List Change
ripened table epoch name chain = if is_ripe table epoch name then chain ++ change_list (get table.waiting name) else chain

-- the table at an epoch: for each name what is ripe is appended to the chain and no longer waits
unfoldable pub ripen : Table → ℕ → Table
ripen table epoch = record {
  chains = from_entries (map (λ e. (e.0, ripened table epoch e.0 e.1)) (entries table.chains));
  waiting = retain_keys table.waiting (λ name. not (is_ripe table epoch name));
}

-- ---- judging

-- How a change of a name is taken, by the name's newest certificate and what waits, or the clause of the policy
-- rule that fails. Where the name is absent a change registers it, and an objection has nothing to object to.
abbrev pub manner_of : Option Certificate → Option Pending → Change → Result Manner PolicyRefusal
manner_of None pending change = if is_some change.objection then Err NotPending else in_manner Full (change_judgement None change)
manner_of (Some old) pending change = update_judgement old (option_map waiting_digest pending) change

-- whether a change that is taken so takes a place in the table; an objection takes none
abbrev pub takes_a_place : Manner → Bool
takes_a_place Full = true
takes_a_place Recovery = true
takes_a_place Objected = false

-- how many certificates and waiting changes a table may have
abbrev pub most_kept : ℕ
most_kept = 4096

-- the manner, unless there is no place left for it
abbrev pub with_room : ℕ → Result Manner PolicyRefusal → Result Manner ChangeRefusal
with_room kept (Ok manner) = if takes_a_place manner && nat_le most_kept kept then Err refusals.Full else Ok manner
with_room kept (Err refusal) = Err (refusals.Policy refusal)

-- how a change is taken in the table as it is, or why it is refused
unfoldable pub judge_ripe : Table → Change → Result Manner ChangeRefusal
judge_ripe table change =
    with_room (size table) (manner_of (newest (chain_of table change.cert.name)) (get table.waiting change.cert.name) change)

-- how a change is taken at an epoch: in the table that has ripened
abbrev pub judge : Table → ℕ → Change → Result Manner ChangeRefusal
judge table epoch change = judge_ripe (ripen table epoch) change

-- the answer to whoever asks whether a change is taken
abbrev pub answer_of : Result Manner ChangeRefusal → Result (Unit {0}) ChangeRefusal
answer_of judged = result_map_both (λ _. tt) (λ refusal. refusal) judged

-- ---- applying

-- The table with a change that is taken in a manner. A full update is appended and ends what waits, a recovery
-- waits since this epoch, and an objection ends what waits.
unfoldable pub taking_change : Table → ℕ → Change → Manner → Table
taking_change table epoch change Full = record {
  chains = insert table.chains change.cert.name (chain_of table change.cert.name ++ change ∷ []);
  waiting = remove table.waiting change.cert.name;
}
taking_change table epoch change Recovery = record {
  chains = table.chains;
  waiting = insert table.waiting change.cert.name (record { change = change; since = epoch });
}
taking_change table epoch change Objected = record { chains = table.chains; waiting = remove table.waiting change.cert.name }

-- the table after one change, by the answer of the judgement
abbrev pub after_answer : Table → ℕ → Change → Result Manner ChangeRefusal → Option Table
after_answer table epoch change (Ok manner) = Some (taking_change table epoch change manner)
after_answer table epoch change (Err refusal) = None

-- the table after each change of a list, each judged in the table that the ones before it leave; none where
-- one is refused
unfoldable pub apply_each : Table → ℕ → List Change → Option Table
apply_each table epoch [] = Some table
apply_each table epoch (change ∷ changes) =
    option_and_then (λ t. apply_each t epoch changes) (after_answer table epoch change (judge_ripe table change))

-- the table after an epoch with these changes: it ripens once, and then they are applied
abbrev pub apply : Table → ℕ → List Change → Option Table
apply table epoch changes = apply_each (ripen table epoch) epoch changes

-- ---- epochs

-- an epoch: its number, and the changes that are applied in it
abbrev pub Epoch : Type 0
Epoch = ℕ × List Change

-- the table after one epoch behind another; none where a change is refused
unfoldable pub after_epochs : Table → List Epoch → Option Table
after_epochs table [] = Some table
after_epochs table (epoch ∷ epochs) = option_and_then (λ t. after_epochs t epochs) (apply table epoch.0 epoch.1)

-- the changes of all epochs, in their order
abbrev pub changes_of : List Epoch → List Change
changes_of epochs = flat_map (λ e. e.1) epochs
