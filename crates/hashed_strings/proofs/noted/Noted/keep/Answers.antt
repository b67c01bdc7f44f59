-- The string is the one that was copied.
use Rattle.std.proofs.Common.{◌≡◌, ◌∙◌, ap, cond, Some}
use Rattle.std.specs.BTreeMap.{get}
use Rattle.std.specs.Ordering.{eq_by_cmp}
use Rattle.hash_tree.specs.Entries.{key_cmp}
use Rattle.hashed_strings.proofs.Index.{new-noted}
use Rattle.hashed_strings.proofs.noted.Noted.keep.Goals as goal

pub returns : goal.returns
returns c = λ strings noted.
    let value : c.from_vec-string.result ≡ c.args.string.now = c.from_vec-string.ensures ∙ c.in_ok-from_slice.ensures.items in
    new-noted (get key_cmp c.args.self.now.strings) (get key_cmp c.insert.new.self) c.args.self.now.apart strings c.args.string.now c.args.digest
    c.requires.digest c.requires.new
    (λ q. c.in_ok-insert.ensures.updates.0 q ∙ ap (λ v. cond (eq_by_cmp key_cmp c.args.digest q) (Some v) (get key_cmp c.args.self.now.strings q)) value) noted
