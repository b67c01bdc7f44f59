use Rattle.std.proofs.Common.{rules, ◌≡◌, ◌<◌, length, List, Option, Some, Result, refl, sym, ap, subst}
use Rattle.std.specs.Option.{option_map}
use Rattle.authority_core.specs.RollRows.{roll_row}
use Rattle.lms_tree.specs.Key.{public_of}
use Rattle.lms_tree.specs.KeyParts.{KeyParts}
use Rattle.ar_nodes.specs.Acting.{RepliesBy, Reply, authority_turned}
use Rattle.ar_nodes.specs.Parties.{next_of}
use Rattle.ar_nodes.specs.Parties.{AuthorityNode, CheckParts, check_told}
use Rattle.ar_nodes.specs.declared.fault.WorldFault.{WorldFault}
use Rattle.ar_nodes.proofs.Nodes.{authority-of, authority_rolled_so, authority_stayed, authority_waited, has_more}
use Rattle.ar_nodes.proofs.parties.HonestAuthority.roll.Goals.{in-Ok, in-Err-Memory, in-Err}
use Rattle.ar_nodes.proofs.parties.HonestAuthority.roll.Goals as goal

pub invariant_of-self : goal.invariant_of-self
invariant_of-self g c = elim c.match-roll.branch [
  | in-Ok w ↦ has_more c.self.inside.authority.ring.keys c.roll.new.self.ring.keys c.self.invariant w.in-Ok.ensures.ok
  | in-Err-Memory w ↦ subst (λ (ks : List KeyParts). 0 < length ks) (sym w.in-Err-Memory.ensures.err) c.self.invariant
  | in-Err w ↦ subst (λ (ks : List KeyParts). 0 < length ks) (sym w.in-Err.ensures.err) c.self.invariant
]

pub returns-clause-row : goal.returns-clause-row
returns-clause-row g c =
    let parts : _ → CheckParts = check_told g.C.OwnerCheck.told g.C.OwnerCheck.answers in
    let check : Option CheckParts = option_map parts c.roll.new.self.core.check in
    let old : AuthorityNode = authority-of c.self.inside.authority.core.state c.self.inside.authority.ring.keys (option_map parts c.self.inside.authority.core.check) in
    let new : AuthorityNode = authority-of c.roll.new.self.core.state c.roll.new.self.ring.keys check in
    let same : check ≡ old.check = ap (option_map parts) c.roll.ensures.keeps in
    subst (λ (n : AuthorityNode). (next : KeyParts) → next_of n.keys ≡ Some next → RepliesBy c.match-roll.result n new (authority_turned n next (roll_row n.state (public_of next))))
    c.self.view_is
    (λ next e. elim c.match-roll.branch [
      | in-Ok w ↦ subst (λ (r : Result Reply WorldFault). RepliesBy r old new (authority_turned old next (roll_row old.state (public_of next)))) (sym w.result-is)
          (authority_rolled_so old next new.state new.keys check w.in-Ok.sent e w.in-Ok.ensures.row w.in-Ok.ensures.ok same)
      | in-Err-Memory w ↦ subst (λ (r : Result Reply WorldFault). RepliesBy r old new (authority_turned old next (roll_row old.state (public_of next)))) (sym w.result-is)
          (refl, authority_waited old next new.state new.keys check _ e w.in-Err-Memory.ensures.row w.in-Err-Memory.ensures.err same)
      | in-Err w ↦ subst (λ (r : Result Reply WorldFault). RepliesBy r old new (authority_turned old next (roll_row old.state (public_of next)))) (sym w.result-is)
          (rw w.authority_code.ensures (authority_stayed old next new.state new.keys check w.in-Err.refusal e w.in-Err.ensures.row w.in-Err.ensures.err same (search rules)))
    ])
