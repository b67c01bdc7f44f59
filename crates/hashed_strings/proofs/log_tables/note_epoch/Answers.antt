-- The base is sound, and the table to which the changes lead is the one whose strings are noted.
use Rattle.std.proofs.Common.{arith, sym, subst, ◌++◌, ◌∙◌}
use Rattle.std.specs.BTreeMap.{get}
use Rattle.domain_table.specs.Applying.{apply}
use Rattle.epoch_log.specs.Record.{base_of}
use Rattle.hash_tree.specs.Entries.{key_cmp}
use Rattle.hashed_strings.specs.Index.{AreNoted}
use Rattle.hashed_strings.specs.Made.{strings_made}
use Rattle.hashed_strings.specs.declared.noted.Noted.{Noted}
use Rattle.hashed_strings.proofs.Bases.{base-sound, of-applied, of-refused}
use Rattle.hashed_strings.proofs.log_tables.note_epoch.Goals as goal
use Rattle.hashed_strings.proofs.log_tables.note_epoch.Goals.{in-Some+in_ok-note_table-in-Some+in-Branch-1, in-Some+in_ok-note_table-in-Some+in-Empty-1, in-None}

pub applied-requires-clause-sound : goal.applied-requires-clause-sound
applied-requires-clause-sound c =
    base-sound c.args.names.now c.args.ended.now c.args.epoch c.in_ok-base.base c.requires.ended (omega (arith, c.ranges.epoch.fits)) c.in_ok-base.ensures

pub returns : goal.returns
returns c = λ others noted. elim c.match-branch-3.branch [
  | in-Some+in_ok-note_table-in-Some+in-Branch-1 w ↦ subst (λ (n : Noted). AreNoted n (strings_made (apply (base_of c.args.ended.now c.args.epoch) c.args.epoch c.args.changes.now) ++ others)) (sym w.noted-is)
      (of-applied (get key_cmp w.note_table.new.noted.strings) w.note_table.new.noted.apart c.args.ended.now c.args.epoch c.in_ok-base.base w.in-Some.table c.args.changes.now others
      c.in_ok-base.ensures (sym w.in-Some.is ∙ c.in_ok-table.ensures) (w.in_ok-note_table-in-Some.ensures others noted))
  | in-Some+in_ok-note_table-in-Some+in-Empty-1 w ↦ subst (λ (n : Noted). AreNoted n (strings_made (apply (base_of c.args.ended.now c.args.epoch) c.args.epoch c.args.changes.now) ++ others)) (sym w.noted-is)
      (of-applied (get key_cmp w.note_table.new.noted.strings) w.note_table.new.noted.apart c.args.ended.now c.args.epoch c.in_ok-base.base w.in-Some.table c.args.changes.now others
      c.in_ok-base.ensures (sym w.in-Some.is ∙ c.in_ok-table.ensures) (w.in_ok-note_table-in-Some.ensures others noted))
  | in-None w ↦ subst (λ (n : Noted). AreNoted n (strings_made (apply (base_of c.args.ended.now c.args.epoch) c.args.epoch c.args.changes.now) ++ others)) (sym w.noted-is)
      (of-refused (get key_cmp c.args.noted.now.strings) c.args.noted.now.apart c.args.ended.now c.args.epoch c.in_ok-base.base c.args.changes.now others c.in_ok-base.ensures (sym w.in-None.is ∙ c.in_ok-table.ensures) noted)
]
