-- What is kept of the honest party with a number, and of the parts of a world what it holds.
use Rattle.std.proofs.Common.{◌≡◌, ℕ, List, subst}
use Rattle.std.specs.Prelude.{All, IfSome, Option, None, Some, option_and_then, slice_get}
use Rattle.std.proofs.lemmas.List.Elements.{All-get_or}
use Rattle.std.proofs.lemmas.Option.{get_or_from_slice_get, slice_get_within}
use Rattle.ar_nodes.specs.Parties.{AuthorityNode, Forger, LogNode}
use Rattle.ar_records.specs.Records.{held_by}
use Rattle.ar_records.specs.ar_safety.Held.{AcceptedBytes}
use Rattle.ar_statement.specs.declared.text.SeenText.{SeenText}
use Rattle.party_keys.specs.Directory.{Directory}
use Rattle.ar_world.specs.Records.{held_of}
use Rattle.ar_world.specs.State.{World}

-- the place of an honest party is there, and is not empty
there-at : {X : Type 0} (place : Option (Option X)) (node : X) → option_and_then (λ n. n) place ≡ Some node → place ≡ Some (Some node)
there-at None node is = absurd cc
there-at (Some None) node is = absurd cc
there-at (Some (Some other)) node is = cc

pub kept-at : {X : Type 0} (P : X → Type 0) (nodes : List (Option X)) (number : ℕ) (node : X)
    → All (λ slot. IfSome slot P) nodes → option_and_then (λ n. n) (slice_get nodes number) ≡ Some node → P node
kept-at {X = X} P nodes number node all is =
    let at = there-at (slice_get nodes number) node is
    in subst (λ (slot : Option X). IfSome slot P) (get_or_from_slice_get nodes number (Some node) (Some node) at)
    (All-get_or (λ (slot : Option X). IfSome slot P) nodes number (Some node) (slice_get_within nodes number (Some node) at) all)

-- ---- all of it

pub held-so : (v w : World) (clients : Directory) (forgers : List Forger) (logs : List (Option LogNode)) (authorities : List (Option AuthorityNode)) (judged : List AcceptedBytes) (learned : List SeenText)
    → v ≡ w → clients ≡ v.clients → forgers ≡ v.forgers → logs ≡ v.logs → authorities ≡ v.authorities → judged ≡ v.judged → learned ≡ v.learned
    → held_by clients forgers logs authorities judged learned ≡ held_of w
held-so v w clients forgers logs authorities judged learned same c f l a j r = cc
