use Rattle.std.proofs.Common.{◌≡◌, sym, ap, ◌∙◌, subst, arith}
use Rattle.cert_policy.specs.declared.manner.Manner.TheVariants.{Full}
use Rattle.domain_table.specs.Applying.{taking_change, takes_a_place}
use Rattle.domain_table.specs.Rows.{data_in, table_of, IsMissing}
use Rattle.domain_table.proofs.Taking.{MayTake, may_take, kept_come, taken_come, come_full}
use Rattle.domain_table.proofs.take.take.Goals as goal

pub returns-in_ok-come-in-None-clause-kept : goal.returns-in_ok-come-in-None-clause-kept
returns-in_ok-come-in-None-clause-kept c =
    let none : IsMissing c.args.change.cert.name c.args.rows.now.entries = subst (λ n. IsMissing n c.args.rows.now.entries) c.name_of.ensures c.in-None.ensures.absent in
    let may : MayTake (table_of (data_in c.args.rows.now.entries)) c.args.change c.args.manner = may_take (table_of (data_in c.args.rows.now.entries)) c.args.change c.args.manner c.requires.judged in
    let full : c.args.manner ≡ Full = come_full c.args.rows.now.entries c.come.new.rows.entries c.args.trie.now c.come.new.trie c.args.counts.kept c.args.counts.waiting c.args.change c.requires.kept c.in_ok-come-in-None.ensures.ok none c.args.manner may in
    let room = may.room (ap takes_a_place full) in
    kept_come c.args.rows.now.entries c.come.new.rows.entries c.args.trie.now c.come.new.trie c.args.counts.kept c.args.counts.waiting c.args.change c.requires.kept c.in_ok-come-in-None.ensures.ok none
    (omega (arith, room, c.requires.kept.count))

pub returns-in_ok-come-in-None-clause-ok : goal.returns-in_ok-come-in-None-clause-ok
returns-in_ok-come-in-None-clause-ok c =
    let none : IsMissing c.args.change.cert.name c.args.rows.now.entries = subst (λ n. IsMissing n c.args.rows.now.entries) c.name_of.ensures c.in-None.ensures.absent in
    let may : MayTake (table_of (data_in c.args.rows.now.entries)) c.args.change c.args.manner = may_take (table_of (data_in c.args.rows.now.entries)) c.args.change c.args.manner c.requires.judged in
    let full : c.args.manner ≡ Full = come_full c.args.rows.now.entries c.come.new.rows.entries c.args.trie.now c.come.new.trie c.args.counts.kept c.args.counts.waiting c.args.change c.requires.kept c.in_ok-come-in-None.ensures.ok none c.args.manner may in
    taken_come c.args.rows.now.entries c.come.new.rows.entries c.args.trie.now c.come.new.trie c.args.counts.kept c.args.counts.waiting c.args.change c.requires.kept c.in_ok-come-in-None.ensures.ok none c.args.epoch
    ∙ ap (taking_change (table_of (data_in c.args.rows.now.entries)) c.args.epoch c.args.change) (sym full)
