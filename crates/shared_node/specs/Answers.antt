-- What a step of the core does to the core and the calls beside it.
use Rattle.std.specs.Prelude.{◌≡◌, [], ◌∷◌, ◌++◌}
use Rattle.shared_node.specs.declared.node.Node.{Node}

module _ {C S I N R : Type 0} (state : C → S) where
  -- the core answered, and the call stands behind the others
  pub record AddsCall (next : S → I → N → R × S) (legal : S → I → N → Type 0) (old : Node C I N) (input : I) (reply : R) (new : Node C I N) : Type 0 where
    pub note : N
    pub legally : legal (state old.core) input note
    pub next_is : next (state old.core) input note ≡ (reply, state new.core)
    pub history_is : new.history.items ≡ old.history.items ++ (input, note) ∷ []

module _ {C S I N : Type 0} (state : C → S) where
  -- nothing was answered
  pub record IsAsBefore (old new : Node C I N) : Type 0 where
    pub state_is : state new.core ≡ state old.core
    pub history_is : new.history.items ≡ old.history.items
