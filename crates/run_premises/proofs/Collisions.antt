-- Two strings that collide, where some do.
use Rattle.std.proofs.Common.{◌≡◌, ℕ, Bool, true, false, not, ◌&&◌, ◌||◌, List, [], ◌∷◌, refl, sym, ◌∙◌, inl, inr}
use Rattle.std.specs.List.{list_all}
use Rattle.std.specs.Str.{bytes_eq}
use Rattle.std.proofs.lemmas.Slice.Eq.{bytes_eq-Decides}
use Rattle.sha2.specs.Sha256.{sha256}
use Rattle.ar_base.specs.Apart.{IsIn, are_apart, none_collide}
use Rattle.hashed_strings.specs.Index.{Collide}

-- one that fails the test which not all pass
fails : (p : List ℕ → Bool) (xs : List (List ℕ)) → list_all p xs ≡ false → (x : List ℕ) × IsIn xs x × (p x ≡ false)
fails p [] is = absurd (cc)
fails p (x ∷ xs) is = by (p x) refl is (λ rest. fails p xs rest)
  where
    by : (b : Bool) → p x ≡ b → (b && list_all p xs) ≡ false → (list_all p xs ≡ false → (y : List ℕ) × IsIn xs y × (p y ≡ false)) → (y : List ℕ) × IsIn (x ∷ xs) y × (p y ≡ false)
    by false e rest behind = (x, inl refl, e)
    by true e rest behind = let f = behind rest in (f.0, inr f.1, f.2)

-- two strings that are not apart
pair : (x y : List ℕ) → are_apart x y ≡ false → (sha256 x ≡ sha256 y) × (bytes_eq x y ≡ false)
pair x y is = by (bytes_eq (sha256 x) (sha256 y)) refl is
  where
    by : (b : Bool) → bytes_eq (sha256 x) (sha256 y) ≡ b → (not b || bytes_eq x y) ≡ false → (sha256 x ≡ sha256 y) × (bytes_eq x y ≡ false)
    by true e rest = ((bytes_eq-Decides (sha256 x) (sha256 y)).0 e, rest)
    by false e rest = absurd (cc)

pub collide : (strings : List (List ℕ)) → none_collide strings ≡ false → Collide strings
collide strings is =
    let x = fails (λ x. list_all (λ y. are_apart x y) strings) strings is in
    let y = fails (λ y. are_apart x.0 y) strings x.2 in
    let p = pair x.0 y.0 y.2 in
    record {
      one = x.0;
      other = y.0;
      one_in = x.1;
      other_in = y.1;
      same = p.0;
      differ = λ one. absurd (let yes : bytes_eq x.0 y.0 ≡ true = (bytes_eq-Decides x.0 y.0).1 one in let both : true ≡ false = sym yes ∙ p.1 in cc);
    }
