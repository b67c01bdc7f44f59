use Rattle.std.proofs.Common.{subst, sym}
use Rattle.std.proofs.lemmas.Str.{IsUtf8-from_ascii}
use Rattle.std.specs.Str.{IsUtf8}
use Rattle.ar_names.proofs.Least.{ascii}
use Rattle.ar_names.proofs.name.Name.as_str.Goals as goal

pub unreachable-requires : goal.unreachable-requires
unreachable-requires c =
    let name = IsUtf8-from_ascii c.self.inside.text.items (ascii c.self.inside.text.items c.self.invariant) in
    c.in-Err.ensures.cases.0 (subst IsUtf8 (sym c.deref.ensures.value) name)
