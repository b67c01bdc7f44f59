-- Histories in two parts, and with one call more.
use Rattle.std.proofs.Common.{◌≡◌, List, [], ◌∷◌, ◌++◌, Some, length, suc, ap, refl, subst, sym, ◌∙◌}
use Rattle.std.specs.Prelude.{slice_get}
use Rattle.node_core.specs.History.{IsLegal, Replays, replies, reply_after, state_after}

module _ {S I N R : Type 0} (next : S → I → N → R × S) where
  -- ---- a history in two parts

  pub state_parts : (first : S) (front rest : List (I × N)) → state_after next first (front ++ rest) ≡ state_after next (state_after next first front) rest
  state_parts first [] rest = refl
  state_parts first (call ∷ calls) rest = state_parts (next first call.0 call.1).1 calls rest

  pub reply_parts : (first : S) (front rest : List (I × N)) → replies next first (front ++ rest) ≡ replies next first front ++ replies next (state_after next first front) rest
  reply_parts first [] rest = refl
  reply_parts first (call ∷ calls) rest = ap (λ (rs : List R). (next first call.0 call.1).0 ∷ rs) (reply_parts (next first call.0 call.1).1 calls rest)

  pub many_replies : (first : S) (history : List (I × N)) → length (replies next first history) ≡ length history
  many_replies first [] = refl
  many_replies first (call ∷ calls) = ap (λ n. suc n) (many_replies (next first call.0 call.1).1 calls)

  pub reply_there : (first : S) (before after : List (I × N)) (input : I) (note : N)
      → slice_get (replies next first (before ++ (input, note) ∷ after)) (length before) ≡ Some (reply_after next first before input note)
  reply_there first [] after input note = refl
  reply_there first (call ∷ calls) after input note = reply_there (next first call.0 call.1).1 calls after input note

  module _ (legal : S → I → N → Type 0) where
    pub legal_front : (first : S) (front rest : List (I × N)) → IsLegal next legal first (front ++ rest) → IsLegal next legal first front
    legal_front first [] rest is = tt
    legal_front first (call ∷ calls) rest is = (is.0, legal_front (next first call.0 call.1).1 calls rest is.1)

    pub legal_rest : (first : S) (front rest : List (I × N)) → IsLegal next legal first (front ++ rest) → IsLegal next legal (state_after next first front) rest
    legal_rest first [] rest is = is
    legal_rest first (call ∷ calls) rest is = legal_rest (next first call.0 call.1).1 calls rest is.1

    pub legal_both : (first : S) (front rest : List (I × N)) → IsLegal next legal first front → IsLegal next legal (state_after next first front) rest
        → IsLegal next legal first (front ++ rest)
    legal_both first [] rest front_is rest_is = rest_is
    legal_both first (call ∷ calls) rest front_is rest_is = (front_is.0, legal_both (next first call.0 call.1).1 calls rest front_is.1 rest_is)

    -- ---- one call more

    -- the front of a history with one call more, and that call
    pub legal_parts : (first : S) (front : List (I × N)) (input : I) (note : N) → IsLegal next legal first (front ++ (input, note) ∷ [])
        → IsLegal next legal first front × legal (state_after next first front) input note
    legal_parts first front input note is =
        (legal_front first front ((input, note) ∷ []) is, (legal_rest first front ((input, note) ∷ []) is).0)

    pub legal_with : (first : S) (front : List (I × N)) (input : I) (note : N) → IsLegal next legal first front → legal (state_after next first front) input note
        → IsLegal next legal first (front ++ (input, note) ∷ [])
    legal_with first front input note is one = legal_both first front ((input, note) ∷ []) is (one, tt)

    -- one more step of the core
    pub replays_on : (first old now : S) (history : List (I × N)) (input : I) (note : N) (reply : R) → Replays next legal first history old
        → legal old input note → next old input note ≡ (reply, now) → Replays next legal first (history ++ (input, note) ∷ []) now
    replays_on first old now history input note reply before one step = record {
      legally = legal_with first history input note before.legally (subst (λ s. legal s input note) (sym before.state) one);
      state = state_parts first history ((input, note) ∷ []) ∙ ap (λ s. (next s input note).1) before.state ∙ ap (λ (made : R × S). made.1) step;
    }

    -- what each legal step keeps, a legal history keeps
    pub kept_after : (kept : S → Type 0) → ((s : S) (input : I) (note : N) → kept s → legal s input note → kept (next s input note).1)
        → (first : S) (history : List (I × N)) → kept first → IsLegal next legal first history → kept (state_after next first history)
    kept_after kept keeps first [] is legally = is
    kept_after kept keeps first (call ∷ calls) is legally =
        kept_after kept keeps (next first call.0 call.1).1 calls (keeps first call.0 call.1 is legally.0) legally.1
