-- What each text of a journal keeps, the whole journal keeps: of a party of any kind.
use Rattle.std.proofs.Common.{◌≡◌, ℕ, suc, List, [], ◌∷◌, refl, sym, subst, arith, Some}
use Rattle.std.specs.Prelude.{All, Contains}
use Rattle.std.proofs.lemmas.List.Elements.{All-head, All-tail}
use Rattle.ar_base.specs.Bytes.{AreBytes}
use Rattle.ar_statement.specs.declared.party.Party.{Party}
use Rattle.kept_journal.specs.Replays.{ReachesBy}
use Rattle.party_keys.specs.Signers.{Claimed}
use Rattle.run_safety.specs.Own.{Grows, HonestParties, PartyParts}
use Rattle.run_safety.proofs.PartySteps.{IsEnd, IsReal, Steps, later-party, same-party, steps-real}

-- what stands in a list stands in it behind one more
pub contains-behind : {X : Type 0} (x z : X) (xs : List X) → Contains xs z → Contains (x ∷ xs) z
contains-behind x z xs there = (suc there.0, omega (arith, there.1), there.2)

module _ {S : Type 0} (takes : S → List ℕ → S → Type 0) (Keeps : S → Type 0)
    (keeps : (old new : S) (text : List ℕ) → AreBytes text → takes old text new → Keeps old → Keeps new) where
  pub kept-along : (texts : List (List ℕ)) (first last : S) → All AreBytes texts → ReachesBy takes first texts last → Keeps first → Keeps last
  kept-along [] first last are leads kept = subst Keeps (sym leads) kept
  kept-along (text ∷ texts) first last are leads kept =
      kept-along texts leads.0 last (All-tail AreBytes text texts are) leads.2
      (keeps first leads.0 text (All-head AreBytes text texts are) leads.1 kept)

  module _ (has : S → PartyParts) (party : Party) (claims : List ℕ → List Claimed)
      (steps : (old new : S) (text : List ℕ) → AreBytes text → takes old text new → Keeps old → Steps party (claims text) (has old) (has new)) where
    -- what the party has only grows
    pub grows-along : (texts : List (List ℕ)) (first last : S) → All AreBytes texts → ReachesBy takes first texts last → Keeps first → Grows (has first) (has last)
    grows-along [] first last are leads kept = subst (λ (s : S). Grows (has first) (has s)) (sym leads) (same-party (has first))
    grows-along (text ∷ texts) first last are leads kept =
        let head = All-head AreBytes text texts are in
        later-party (has first) (has leads.0) (has last) (steps first leads.0 text head leads.1 kept).grows
        (grows-along texts leads.0 last (All-tail AreBytes text texts are) leads.2 (keeps first leads.0 text head leads.1 kept))

    -- and what it knows and saw stays real, where none of the claims is forged
    pub real-along : (own : HonestParties) (all : List Claimed) (texts : List (List ℕ)) (first last : S) → IsEnd own all
        → ((text : List ℕ) → Contains texts text → (c : Claimed) → Contains (claims text) c → Contains all c)
        → ((p : PartyParts) → own party ≡ Some p → Grows (has last) p) → All AreBytes texts → ReachesBy takes first texts last → Keeps first
        → IsReal own (has first) → IsReal own (has last)
    real-along own all [] first last end within later are leads kept real = subst (λ (s : S). IsReal own (has s)) (sym leads) real
    real-along own all (text ∷ texts) first last end within later are leads kept real =
        let head = All-head AreBytes text texts are in
        let tail = All-tail AreBytes text texts are in
        let next = keeps first leads.0 text head leads.1 kept in
        real-along own all texts leads.0 last end (λ t there. within t (contains-behind text t texts there)) later tail leads.2 next
        (steps-real own all (claims text) party (has first) (has leads.0) end (within text (0, omega arith, refl)) (steps first leads.0 text head leads.1 kept)
        (λ p is. later-party (has leads.0) (has last) p (grows-along texts leads.0 last tail leads.2 next) (later p is)) real)
