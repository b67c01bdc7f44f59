use Rattle.std.proofs.Common.{◌++◌, ◌∷◌, ap, ◌∙◌}
use Rattle.std.specs.FinMap.{find}
use Rattle.hash_tree.specs.Entries.{key_cmp}
use Rattle.domain_table.specs.Rows.{data_in, greater, lesser, marked, marks_of, with_entry}
use Rattle.domain_table.proofs.RowLists.{one_refreshed}
use Rattle.domain_table.proofs.Alone.{pending_still}
use Rattle.domain_table.proofs.Retrie.{alike_pending}
use Rattle.domain_table.proofs.tree.retrie_pending.Goals as goal

pub pending_now-requires-clause-others : goal.pending_now-requires-clause-others
pending_now-requires-clause-others c = λ is. (pending_still (marks_of (lesser c.args.name.now (data_in c.args.rows.now.entries))) c.args.old.now c.args.new.now (marks_of (greater c.args.name.now (data_in c.args.rows.now.entries))) c.args.trie.now c.args.apart c.requires.tree c.requires.apart c.requires.key c.requires.pending_key (c.waits_alone-alone.ensures is)).0

pub pending_now-requires-clause-own : goal.pending_now-requires-clause-own
pending_now-requires-clause-own c = λ is. (pending_still (marks_of (lesser c.args.name.now (data_in c.args.rows.now.entries))) c.args.old.now c.args.new.now (marks_of (greater c.args.name.now (data_in c.args.rows.now.entries))) c.args.trie.now c.args.apart c.requires.tree c.requires.apart c.requires.key c.requires.pending_key (c.waits_alone-alone.ensures is)).1

pub returns-clause-ok : goal.returns-clause-ok
returns-clause-ok c =
    c.in_ok-refresh.ensures.ok
    ∙ ap (with_entry c.args.trie.now c.args.new.now.pending_key) c.in_ok-value.ensures
    ∙ ap (λ t. with_entry t c.args.new.now.pending_key (find key_cmp c.args.new.now.pending_key (marked ((marks_of (lesser c.args.name.now (data_in c.args.rows.now.entries))) ++ c.args.new.now ∷ (marks_of (greater c.args.name.now (data_in c.args.rows.now.entries))))))) c.requires.tree
    ∙ one_refreshed (marked ((marks_of (lesser c.args.name.now (data_in c.args.rows.now.entries))) ++ c.args.old.now ∷ (marks_of (greater c.args.name.now (data_in c.args.rows.now.entries))))) (marked ((marks_of (lesser c.args.name.now (data_in c.args.rows.now.entries))) ++ c.args.new.now ∷ (marks_of (greater c.args.name.now (data_in c.args.rows.now.entries))))) c.args.new.now.pending_key (alike_pending (marks_of (lesser c.args.name.now (data_in c.args.rows.now.entries))) c.args.old.now c.args.new.now (marks_of (greater c.args.name.now (data_in c.args.rows.now.entries))) c.requires.key c.requires.pending_key c.requires.value)
