use Rattle.std.proofs.Common.{sym}
use Rattle.std.proofs.lemmas.List.Elements.{All-same}
use Rattle.ar_cert.specs.Changes.{IsChange}
use Rattle.epoch_log.proofs.parts.Parts.propose.Goals as goal

pub propose_with-requires-clause-may : goal.propose_with-requires-clause-may
propose_with-requires-clause-may c = record {
  open_to = c.requires.open;
  are_changes = All-same IsChange c.args.changes.items c.deref.result.now (sym c.deref.ensures.value) c.changes_told.ensures;
  are_digests = c.value_told.ensures;
}
