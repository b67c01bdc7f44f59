use Rattle.std.specs.BTreeMap.{get}
use Rattle.hash_tree.specs.Entries.{key_cmp}
use Rattle.hashed_strings.proofs.Index.{index-apart}
use Rattle.hashed_strings.proofs.noted.Noted.is_apart.Goals as goal

pub returns : goal.returns
returns c = λ strings noted. index-apart (get key_cmp c.args.self.now.strings) c.args.self.now.apart strings noted
