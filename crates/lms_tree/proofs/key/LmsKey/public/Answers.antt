use Rattle.std.proofs.Common.{◌≡◌, ◌∙◌, ap, arith, ◌<◌, [], length}
use Rattle.std.proofs.lemmas.List.{get_or_read}
use Rattle.std.proofs.lemmas.Nat.{pow_pos}
use Rattle.lms_tree.specs.LmsKind.{height_of}
use Rattle.lms_tree.specs.Nodes.{IsAt}
use Rattle.lms_tree.specs.Key.{node_at, public_of}
use Rattle.lms_tree.proofs.KeyLemmas.{key-from-parts}
use Rattle.lms_tree.proofs.key.LmsKey.public.Goals as goal

pub returns : goal.returns
returns c =
    let key = c.self.inside.parts in
    let nodes = c.self.inside.nodes.items in
    let view : key ≡ c.args.self.now = c.self.view_is in
    let h = height_of key.lms in
    let room : 1 < length nodes = omega (arith, c.self.invariant.0, pow_pos h) in
    let top : IsAt key 0 h 1 = (omega arith, omega arith, omega arith) in
    let root : c.index.result.now ≡ node_at key h 1 =
    get_or_read nodes 1 c.index.result.now room c.index.ensures [] ∙ c.self.invariant.1 0 h 1 top (omega arith) in
    key-from-parts _ (public_of key) c.lms.ensures c.ots.ensures c.id.ensures root ∙ ap public_of view
