-- First the strings of the tables that were decided are noted, then those of the others.
use Rattle.std.specs.BTreeMap.{get}
use Rattle.epoch_log.specs.Log.{record_of}
use Rattle.hash_tree.specs.Entries.{key_cmp}
use Rattle.hashed_strings.proofs.Bases.{of-log}
use Rattle.hashed_strings.proofs.noted.Noted.note_log.Goals as goal

pub returns : goal.returns
returns c = λ others noted.
    of-log (get key_cmp c.note_voted.new.noted.strings) c.note_voted.new.noted.apart (record_of c.args.log.now) _ _ _ others
    c.deref-8.ensures.value c.deref-6.ensures.value c.deref-9.ensures.value (c.in_ok-note_voted.ensures _ (c.in_ok-note_ended.ensures others noted))
