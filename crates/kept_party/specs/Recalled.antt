-- What a party becomes that remembers what it replied last, and that it becomes one thing.
use Rattle.std.proofs.Common.{◌≡◌, ◌∙◌, sym, ap, ℕ, List, Option, Some}
use Rattle.kept_party.specs.declared.recalling.Recalling.{Recalling}

module _ {P R : Type 0} (takes : P → List ℕ → R → P → Type 0) where
  -- it takes a text, and remembers its reply to that
  abbrev pub Recalls : Recalling P R → List ℕ → Recalling P R → Type 0
  Recalls old text new = (reply : R) × takes old.party text reply new.party × (new.last ≡ Some reply)

  abbrev remembering : P → Option R → Recalling P R
  remembering party last = record { party = party; last = last }

  -- where there is one reply, and one thing that the party becomes, there is one that remembers it
  pub one_recalled : ((party one other : P) (text : List ℕ) (reply said : R) → takes party text reply one → takes party text said other → (reply ≡ said) × (one ≡ other))
      → (party one other : Recalling P R) (text : List ℕ) → Recalls party text one → Recalls party text other → one ≡ other
  one_recalled determined party one other text a b =
      let same = determined party.party one.party other.party text a.0 b.0 a.1 b.1 in
      let last : one.last ≡ other.last = a.2 ∙ ap Some same.0 ∙ sym b.2 in
      ap (λ (p : P). remembering p one.last) same.1 ∙ ap (remembering other.party) last
