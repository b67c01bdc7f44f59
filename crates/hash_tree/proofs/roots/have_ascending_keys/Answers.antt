use Rattle.std.proofs.Common.{rules}
use Rattle.std.specs.Ordering.{is_lt}
use Rattle.std.proofs.lemmas.Fn.{always_returns_same}
use Rattle.hash_tree.specs.Entries.{Entry, key_cmp}
use Rattle.hash_tree.proofs.Ascending.{ascending_answer}
use Rattle.hash_tree.proofs.roots.have_ascending_keys.Goals as goal

pub returns : goal.returns
returns c = ascending_answer c.args.entries.now c.is_sorted_by.result
    (c.is_sorted_by.ensures.cases (λ (e f : Entry). is_lt (key_cmp e.0 f.0)) (always_returns_same _ _ _ (λ a r f' called. (search rules, search rules))))
