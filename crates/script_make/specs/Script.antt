-- The script for a number of domains, part by part.
use Rattle.std.specs.Prelude.{ℕ, ◌+◌, ◌/◌, ◌%◌, List, ◌++◌, codes, flat_map}
use Rattle.std.specs.Fmt.{decimal}
use Rattle.std.specs.List.{range_with_len}
use Rattle.script_make.specs.Numbers.{batch, batches_of}
use Rattle.script_make.specs.Rows.{row_text}
use Rattle.script_make.specs.declared.rows.Row.TheVariants.{Owner, Teach, Register, Submit, Update, Handover, Ask, AskAbsent}

-- every fourth of the domains is updated, from number 0 on: the j-th, from 0, is domain 4 j
abbrev pub updates_of : ℕ → ℕ
updates_of domains = (domains + 3) / 4

-- the last epoch: each batch ends one
abbrev pub last_script_epoch : ℕ → ℕ
last_script_epoch domains = batches_of domains + batches_of (updates_of domains)

-- messages are delivered, a log proposes, and its messages are delivered: epoch e ends
abbrev pub ending : ℕ → List ℕ
ending e = codes "flush\npropose L" ++ (decimal (e % 5) ++ codes "\nflush\n")

-- the sets of keys and the parties, and what the authorities learn
abbrev pub setup : ℕ → List ℕ
setup domains = codes "keys 6 3\nlogs 5 4\nauthorities 4\n"
    ++ (flat_map (row_text Owner) (range_with_len 0 domains) ++ flat_map (row_text Teach) (range_with_len 0 domains))

-- batch k of the domains is registered, in epoch k + 1
abbrev pub registration : ℕ → ℕ → List ℕ
registration domains k = flat_map (row_text Register) (batch domains k)
    ++ (codes "flush\n" ++ (flat_map (row_text (Submit 0)) (batch domains k) ++ ending (k + 1)))

-- batch k of the updates, whose epochs go on from those of the registrations
abbrev pub update : ℕ → ℕ → List ℕ
update domains k = flat_map (row_text Update) (batch (updates_of domains) k)
    ++ (codes "flush\n" ++ (flat_map (row_text (Handover domains)) (batch (updates_of domains) k)
    ++ (flat_map (row_text (Submit domains)) (batch (updates_of domains) k) ++ ending (batches_of domains + k + 1))))

-- a client asks for each domain, and for one name that is not there for each ten domains begun
abbrev pub questions : ℕ → List ℕ
questions domains = flat_map (row_text (Ask (last_script_epoch domains))) (range_with_len 0 domains)
    ++ flat_map (row_text (AskAbsent (last_script_epoch domains))) (range_with_len 0 ((domains + 9) / 10))

-- the script
abbrev pub script : ℕ → List ℕ
script domains = setup domains
    ++ (flat_map (registration domains) (range_with_len 0 (batches_of domains))
    ++ (flat_map (update domains) (range_with_len 0 (batches_of (updates_of domains))) ++ questions domains))
