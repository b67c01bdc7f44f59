-- One stands under the digest, the same or another.
use Rattle.std.proofs.Common.{◌∙◌, ◌∷◌, sym, subst, Bool}
use Rattle.std.specs.BTreeMap.{get}
use Rattle.hash_tree.specs.Entries.{key_cmp}
use Rattle.hashed_strings.specs.Index.{IsIndex}
use Rattle.hashed_strings.proofs.Index.{again-noted, stands}
use Rattle.hashed_strings.proofs.noted.Noted.note.Goals as goal

pub returns-in-Some : goal.returns-in-Some
returns-in-Some c = λ strings noted.
    let at = get key_cmp c.args.self.now.strings in
    let found = stands (at c.digest-digest.result) c.args.string.now c.in-Some.same (sym c.in-Some.is ∙ c.found.ensures) in
    subst (λ (apart : Bool). IsIndex at apart (c.args.string.now ∷ strings)) (sym c.both-self.ensures)
    (again-noted at c.args.self.now.apart c.in-Some.same strings c.args.string.now c.digest-digest.result found.0 c.digest-digest.ensures found.1 found.2 noted)
