-- The newest certificate of a chain.
use Rattle.std.proofs.Common.{◌≡◌, ℕ, zero, suc, ◌+◌, ◌-◌, ◌<◌, List, [], ◌∷◌, ◌++◌, length, get_or, refl, sym, ap, ◌∙◌, subst, arith, Option, Some, None, Bor}
use Rattle.std.specs.Prelude.{unwrap_or, slice_get, All}
use Rattle.std.specs.Option.{option_map, option_copied}
use Rattle.std.proofs.lemmas.List.Elements.{All-head, All-tail}
use Rattle.std.proofs.lemmas.List.{map-append}
use Rattle.std.proofs.lemmas.Option.{slice_get-get_or}
use Rattle.std.proofs.SliceLists.{last_more}
use Rattle.std.specs.List.{last_or}
use Rattle.ar_cert.specs.Certificate.{Certificate, certificate_value}
use Rattle.ar_cert.specs.Changes.{Change}
use Rattle.domain_table.specs.Tree.{value_of}
use Rattle.domain_table.specs.Tables.{certificates_of, newest}

-- it is that of the last change
pub newest_is : (chain : List Change) (k : ℕ) (d : Change) → k + 1 ≡ length chain → newest chain ≡ Some (get_or chain k d).cert
newest_is [] k d h = absurd (omega (arith, h))
newest_is (c ∷ []) zero d h = refl
newest_is (c ∷ []) (suc k) d h = absurd (omega (arith, h))
newest_is (c ∷ b ∷ rest) zero d h = absurd (omega (arith, h))
newest_is (c ∷ b ∷ rest) (suc k) d h = newest_is (b ∷ rest) k d (omega (arith, h))

-- one more change is the newest
pub newest-push : (chain : List Change) (c : Change) → newest (chain ++ c ∷ []) ≡ Some c.cert
newest-push chain c =
    ap (last_or None) (map-append (λ r. r.cert) chain (c ∷ [])) ∙ sym (last_more None (certificates_of chain) c.cert)

-- a chain that has a newest certificate has a change
pub some_there : (chain : List Change) (old : Certificate) → newest chain ≡ Some old → 0 < length chain
some_there [] old e = absurd (cc)
some_there (c ∷ chain) old e = omega arith

-- a chain without one has none
pub none_there : (chain : List Change) → newest chain ≡ None → chain ≡ []
none_there [] e = refl
none_there (c ∷ []) e = absurd (cc)
none_there (c ∷ b ∷ chain) e =
    let gone : b ∷ chain ≡ [] = none_there (b ∷ chain) e in
    absurd (cc)

pub newest_there : (chain : List Change) → 0 < length chain → (c : Certificate) × (newest chain ≡ Some c)
newest_there [] l = absurd (omega (arith, l))
newest_there (c ∷ []) l = (c.cert, refl)
newest_there (c ∷ b ∷ chain) l = newest_there (b ∷ chain) (omega arith)

-- what each certificate of a chain has, the newest has
pub newest_has : (P : Certificate → Type 0) (chain : List Change) (c : Certificate) → All (λ r. P r.cert) chain → newest chain ≡ Some c → P c
newest_has P [] c each e = absurd (cc)
newest_has P (b ∷ []) c each e =
    let same : b.cert ≡ c = cc in
    subst P same (All-head (λ r. P r.cert) b [] each)
newest_has P (b ∷ d ∷ chain) c each e = newest_has P (d ∷ chain) c (All-tail (λ r. P r.cert) b (d ∷ chain) each) e

-- it is that of the change at the last place
pub newest_got : (chain : List Change) → option_map (λ c. c.cert) (slice_get chain (length chain - 1)) ≡ newest chain
newest_got [] = refl
newest_got (c ∷ chain) =
    let k : ℕ = length chain in
    let at : length (c ∷ chain) - 1 ≡ k = omega arith in
    ap (λ n. option_map (λ x. x.cert) (slice_get (c ∷ chain) n)) at
    ∙ ap (option_map (λ x. x.cert)) (slice_get-get_or (c ∷ chain) k c (omega arith))
    ∙ sym (newest_is (c ∷ chain) k c (omega arith))

-- through a borrow
pub now_cert : (o : Option (Bor Change)) → option_map (λ c. c.now.cert) o ≡ option_map (λ c. c.cert) (option_copied o)
now_cert None = refl
now_cert (Some b) = refl

-- the value of a chain with one more change is that change's
pub value-push : (chain : List Change) (c : Change) → value_of (chain ++ c ∷ []) ≡ certificate_value c.cert
value-push chain c = ap (λ o. unwrap_or (option_map certificate_value o) []) (newest-push chain c)
