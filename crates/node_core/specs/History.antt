-- What a core makes of a history of calls, each an input with its note.
use Rattle.std.specs.Prelude.{◌≡◌, List, [], ◌∷◌}

module _ {S I N R : Type 0} (next : S → I → N → R × S) where
  -- the state after the calls of a history, in their order
  abbrev pub state_after : S → List (I × N) → S
  state_after first [] = first
  state_after first (call ∷ calls) = state_after (next first call.0 call.1).1 calls

  -- the reply to a call behind a history
  abbrev pub reply_after : S → List (I × N) → I → N → R
  reply_after first history input note = (next (state_after first history) input note).0

  -- the reply to each call of a history, in their order
  abbrev pub replies : S → List (I × N) → List R
  replies first [] = []
  replies first (call ∷ calls) = (next first call.0 call.1).0 ∷ replies (next first call.0 call.1).1 calls

  -- each note may come where it stands
  abbrev pub IsLegal : (S → I → N → Type 0) → S → List (I × N) → Type 0
  IsLegal legal first [] = Unit {0}
  IsLegal legal first (call ∷ calls) = legal first call.0 call.1 × IsLegal legal (next first call.0 call.1).1 calls

  -- the history is legal from the first state on, and leads to this state
  pub record Replays (legal : S → I → N → Type 0) (first : S) (history : List (I × N)) (now : S) : Type 0 where
    pub legally : IsLegal legal first history
    pub state : state_after first history ≡ now
