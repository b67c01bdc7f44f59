-- What a line makes of the logs of a world: all began as they did, and each did nothing or one thing more.
use Rattle.std.proofs.Common.{◌≡◌, ◌≢◌, ◌∙◌, ◌⊎◌, inl, inr, ℕ, zero, suc, List, [], ◌∷◌, refl, sym, ap, subst, true, false, eqb, Option, Some, None}
use Rattle.std.specs.Prelude.{slice_set}
use Rattle.std.proofs.lemmas.Bool.Decides.{eqb_tells}
use Rattle.std.proofs.lemmas.Option.{same_Some}
use Rattle.run_safety.proofs.ar_nodes.Spots.{honest-below, put-beside, put-there}
use Rattle.run_safety.specs.ar_nodes.Finding.{honest_in}
use Rattle.run_safety.specs.ar_nodes.Parties.{LogNode}
use Rattle.run_safety.specs.ar_world.Finding.{log_at}
use Rattle.run_safety.specs.ar_world.State.{World}
use Rattle.run_replays.proofs.Doing.{DoesOrNot}

-- a log was there before, and did so
pub record CameBy (w : World) (number : ℕ) (new : LogNode) : Type 0 where
  pub old : LogNode
  pub there : log_at w number ≡ Some old
  pub did : DoesOrNot w.pool old new

pub record Notes (w v : World) : Type 0 where
  pub setup : v.setup ≡ w.setup
  pub genesis : v.genesis ≡ w.genesis
  pub logs : (number : ℕ) (new : LogNode) → log_at v number ≡ Some new → CameBy w number new

pub still-came : (w : World) (number : ℕ) (node : LogNode) → log_at w number ≡ Some node → CameBy w number node
still-came w number node is = record { old = node; there = is; did = inl refl }

-- the same logs are there
pub quiet-notes : (w v : World) → v.setup ≡ w.setup → v.genesis ≡ w.genesis → v.logs ≡ w.logs → Notes w v
quiet-notes w v setup genesis logs = record {
  setup = setup;
  genesis = genesis;
  logs = λ number new is. still-came w number new (ap (λ (xs : List (Option LogNode)). honest_in xs number) (sym logs) ∙ is);
}

-- whether two places are one
abbrev Tells : ℕ → ℕ → Type 0
Tells m n = ((eqb m n ≡ true) × (m ≡ n)) ⊎ ((eqb m n ≡ false) × (m ≢ n))

-- one log did so
pub put-notes : (w v : World) (number : ℕ) (node new : LogNode) → log_at w number ≡ Some node → v.setup ≡ w.setup → v.genesis ≡ w.genesis
    → v.logs ≡ slice_set w.logs number (Some new) → DoesOrNot w.pool node new → Notes w v
put-notes w v number node new there setup genesis logs did = record {
  setup = setup;
  genesis = genesis;
  logs = λ m p is. at m p (eqb_tells m number) (ap (λ (xs : List (Option LogNode)). honest_in xs m) (sym logs) ∙ is);
}
  where
    at : (m : ℕ) (p : LogNode) → Tells m number → honest_in (slice_set w.logs number (Some new)) m ≡ Some p → CameBy w m p
    at m p (inl same) is =
        let its : new ≡ p =
        same_Some new p (sym (ap (honest_in (slice_set w.logs number (Some new))) same.1 ∙ put-there w.logs number (Some new) (honest-below w.logs number node there)) ∙ is) in
        record { old = node; there = ap (honest_in w.logs) same.1 ∙ there; did = subst (DoesOrNot w.pool node) its did }
    at m p (inr other) is = still-came w m p (sym (put-beside w.logs number m (Some new) other.1) ∙ is)

-- one is there no more
left-there : (xs : List (Option LogNode)) (n m : ℕ) (p : LogNode) → honest_in (slice_set xs n None) m ≡ Some p → honest_in xs m ≡ Some p
left-there [] n m p is = is
left-there (x ∷ xs) zero zero p is = absurd cc
left-there (x ∷ xs) zero (suc m) p is = is
left-there (x ∷ xs) (suc n) zero p is = is
left-there (x ∷ xs) (suc n) (suc m) p is = left-there xs n m p is

pub without-notes : (w v : World) (number : ℕ) → v.setup ≡ w.setup → v.genesis ≡ w.genesis → v.logs ≡ slice_set w.logs number None → Notes w v
without-notes w v number setup genesis logs = record {
  setup = setup;
  genesis = genesis;
  logs = λ m p is. still-came w m p (left-there w.logs number m p (ap (λ (xs : List (Option LogNode)). honest_in xs m) (sym logs) ∙ is));
}
