-- What becomes of each name where the book changes.
use Rattle.std.proofs.Common.{◌≡◌, ◌≢◌, ℕ, Bool, true, false, cond, not, List, [], ◌∷◌, ◌++◌, Option, Some, None, refl, sym, ap, ◌∙◌}
use Rattle.std.specs.Prelude.{find}
use Rattle.std.specs.Option.{option_map}
use Rattle.std.specs.Str.{bytes_eq}
use Rattle.std.proofs.lemmas.Slice.Eq.{bytes_eq-Decides}
use Rattle.ar_cert.specs.Changes.{Change}
use Rattle.client_memory.specs.Book.{Pin, is_of, pinned_chain, with_links, with_pin, without}

-- a pin of a name is of differ other
pub not-other : (text name other : List ℕ) → name ≢ other → bytes_eq text name ≡ true → bytes_eq text other ≡ false
not-other text name other differ e = by (bytes_eq text other) refl
  where
    by : (b : Bool) → bytes_eq text other ≡ b → b ≡ false
    by false h = refl
    by true h = absurd (differ (sym ((bytes_eq-Decides text name).0 e) ∙ (bytes_eq-Decides text other).0 h))

itself : (name : List ℕ) → bytes_eq name name ≡ true
itself name = (bytes_eq-Decides name name).1 refl

-- behind the same pin the same stands
past : (b : Bool) (pin : Pin) (x y : Option Pin) → option_map (λ p. p.chain) x ≡ option_map (λ p. p.chain) y
    → option_map (λ p. p.chain) (cond b (Some pin) x) ≡ option_map (λ p. p.chain) (cond b (Some pin) y)
past true pin x y h = refl
past false pin x y h = h

-- ---- links

pub own-links : (book : List Pin) (name : List ℕ) (links chain : List Change) → pinned_chain book name ≡ Some chain
    → pinned_chain (with_links book name links) name ≡ Some (chain ++ links)
unfolding with_links
own-links [] name links chain h = absurd (cc)
own-links (pin ∷ book) name links chain h = by (bytes_eq pin.name name) refl (own-links book name links chain) h
  where
    by : (b : Bool) → bytes_eq pin.name name ≡ b
        → (pinned_chain book name ≡ Some chain → pinned_chain (with_links book name links) name ≡ Some (chain ++ links))
        → option_map (λ p. p.chain) (cond b (Some pin) (find (is_of name) book)) ≡ Some chain
        → pinned_chain (cond b (record { name = pin.name; chain = pin.chain ++ links } ∷ book) (pin ∷ with_links book name links)) name ≡ Some (chain ++ links)
    by true e rest h =
        let same : pin.chain ≡ chain = cc in
        rw e (ap (λ (c : List Change). Some (c ++ links)) same)
    by false e rest h = rw e (rest h)

pub other-links : (book : List Pin) (name other : List ℕ) (links : List Change) → name ≢ other
    → pinned_chain (with_links book name links) other ≡ pinned_chain book other
unfolding with_links
other-links [] name other links differ = refl
other-links (pin ∷ book) name other links differ = by (bytes_eq pin.name name) refl (other-links book name other links differ)
  where
    by : (b : Bool) → bytes_eq pin.name name ≡ b → pinned_chain (with_links book name links) other ≡ pinned_chain book other
        → pinned_chain (cond b (record { name = pin.name; chain = pin.chain ++ links } ∷ book) (pin ∷ with_links book name links)) other ≡ pinned_chain (pin ∷ book) other
    by true e rest = rw (not-other pin.name name other differ e) refl
    by false e rest = past (bytes_eq pin.name other) pin (find (is_of other) (with_links book name links)) (find (is_of other) book) rest

-- ---- one more pin

pub own-pin : (book : List Pin) (name : List ℕ) (chain : List Change) → pinned_chain book name ≡ None
    → pinned_chain (with_pin book name chain) name ≡ Some chain
own-pin [] name chain h = rw (itself name) refl
own-pin (pin ∷ book) name chain h = by (bytes_eq pin.name name) (own-pin book name chain) h
  where
    by : (b : Bool) → (pinned_chain book name ≡ None → pinned_chain (with_pin book name chain) name ≡ Some chain)
        → option_map (λ p. p.chain) (cond b (Some pin) (find (is_of name) book)) ≡ None
        → option_map (λ p. p.chain) (cond b (Some pin) (find (is_of name) (with_pin book name chain))) ≡ Some chain
    by true rest h = absurd (cc)
    by false rest h = rest h

pub other-pin : (book : List Pin) (name other : List ℕ) (chain : List Change) → name ≢ other
    → pinned_chain (with_pin book name chain) other ≡ pinned_chain book other
other-pin [] name other chain differ = rw (not-other name name other differ (itself name)) refl
other-pin (pin ∷ book) name other chain differ =
    past (bytes_eq pin.name other) pin (find (is_of other) (with_pin book name chain)) (find (is_of other) book) (other-pin book name other chain differ)

-- what is pinned stays so
pub same-pin : (book : List Pin) (name other : List ℕ) (chain was : List Change) → pinned_chain book other ≡ Some was
    → pinned_chain (with_pin book name chain) other ≡ Some was
same-pin [] name other chain was h = absurd (cc)
same-pin (pin ∷ book) name other chain was h = by (bytes_eq pin.name other) (same-pin book name other chain was) h
  where
    by : (b : Bool) → (pinned_chain book other ≡ Some was → pinned_chain (with_pin book name chain) other ≡ Some was)
        → option_map (λ p. p.chain) (cond b (Some pin) (find (is_of other) book)) ≡ Some was
        → option_map (λ p. p.chain) (cond b (Some pin) (find (is_of other) (with_pin book name chain))) ≡ Some was
    by true rest h = h
    by false rest h = rest h

-- ---- one pin less

pub own-out : (book : List Pin) (name : List ℕ) → pinned_chain (without book name) name ≡ None
own-out [] name = refl
own-out (pin ∷ book) name = by (bytes_eq pin.name name) refl (own-out book name)
  where
    by : (b : Bool) → bytes_eq pin.name name ≡ b → pinned_chain (without book name) name ≡ None
        → pinned_chain (cond (not b) (pin ∷ without book name) (without book name)) name ≡ None
    by true e rest = rest
    by false e rest = rw e rest

pub other-out : (book : List Pin) (name other : List ℕ) → name ≢ other → pinned_chain (without book name) other ≡ pinned_chain book other
other-out [] name other differ = refl
other-out (pin ∷ book) name other differ = by (bytes_eq pin.name name) refl (other-out book name other differ)
  where
    by : (b : Bool) → bytes_eq pin.name name ≡ b → pinned_chain (without book name) other ≡ pinned_chain book other
        → pinned_chain (cond (not b) (pin ∷ without book name) (without book name)) other ≡ pinned_chain (pin ∷ book) other
    by true e rest = rw (not-other pin.name name other differ e) rest
    by false e rest = past (bytes_eq pin.name other) pin (find (is_of other) (without book name)) (find (is_of other) book) rest
