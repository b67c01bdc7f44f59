use Rattle.std.proofs.Common.{ap, sym, ◌∙◌}
use Rattle.std.proofs.lemmas.List.Elements.{All-same}
use Rattle.ar_cert.specs.Changes.{IsChange}
use Rattle.domain_table.specs.Tree.{root_of}
use Rattle.epoch_log.specs.Telling.{votes_in}
use Rattle.epoch_log.specs.declared.parts.Tables.{Tables}
use Rattle.epoch_log.proofs.Heard.{log-decide}
use Rattle.epoch_log.proofs.Moved.{log-same}
use Rattle.epoch_log.proofs.parts.Parts.decide.Goals as goal

pub returns-in-Ok-clause-kept : goal.returns-in-Ok-clause-kept
returns-in-Ok-clause-kept c =
    log-decide c.args.self.now c.decide_by.new.self c.args.changes.items (record { base = c.root.result; root = c.args.root }) (votes_in c.args.votes.items)
    c.args.table (c.root.ensures ∙ ap (λ (t : Tables). root_of t.base) c.requires.kept.tables) c.in-Ok.ensures.ok c.in-Ok.ensures.tables c.requires.table c.requires.kept c.requires.may
    (All-same IsChange c.args.changes.items c.deref.result.now (sym c.deref.ensures.value) c.changes_told.ensures) c.value_told.ensures

pub returns-in-Err-clause-kept : goal.returns-in-Err-clause-kept
returns-in-Err-clause-kept c = log-same c.args.self.now c.decide_by.new.self c.in-Err.ensures.err c.in-Err.ensures.same c.requires.kept
