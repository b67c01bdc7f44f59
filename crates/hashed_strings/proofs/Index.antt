-- Strings that are noted one after another.
use Rattle.std.proofs.Common.{◌≡◌, ℕ, Bool, true, false, not, ◌&&◌, ◌||◌, cond, List, [], ◌∷◌, ◌++◌, length, get_or, drop, ◌+◌, ◌<◌, ◌≤◌, refl, sym, ap, ◌∙◌, subst, inl, inr, ⊎_elim, Option, Some, None}
use Rattle.std.specs.Option.{option_map}
use Rattle.std.specs.Ordering.{eq_by_cmp}
use Rattle.std.specs.Str.{bytes_eq}
use Rattle.std.proofs.Math.ListN.{drop_of_length-le}
use Rattle.std.proofs.lemmas.Bool.{and_parts}
use Rattle.std.proofs.lemmas.List.{drop_more}
use Rattle.std.proofs.lemmas.Option.{same_Some}
use Rattle.std.proofs.lemmas.Slice.Eq.{bytes_eq-Decides}
use Rattle.sha2.specs.Sha256.{sha256}
use Rattle.ar_base.specs.Apart.{IsIn, are_apart, none_collide}
use Rattle.ar_base.proofs.Apart.{all_from, apart, in_both, in_front, in_rest}
use Rattle.hash_tree.specs.Entries.{key_cmp}
use Rattle.hash_tree.proofs.Changed.{own_key, same_key}
use Rattle.hashed_strings.specs.Index.{Collide, IsIndex}

-- nothing is noted
pub none-noted : (at : List ℕ → Option (List ℕ)) → ((digest : List ℕ) → at digest ≡ None) → IsIndex at true []
none-noted at none = record {
  kept = λ digest string is. let e : None ≡ Some string = sym (none digest) ∙ is in absurd (cc);
  all = λ yes string i. absurd i;
  collided = λ no. absurd (cc);
}

-- what collides among some strings collides among more
more-collide : (string : List ℕ) (strings : List (List ℕ)) → Collide strings → Collide (string ∷ strings)
more-collide string strings c = record { one = c.one; other = c.other; one_in = inr c.one_in; other_in = inr c.other_in; same = c.same; differ = c.differ }

-- a string that has a digest of its own
pub new-noted : (at next : List ℕ → Option (List ℕ)) (so_far : Bool) (strings : List (List ℕ)) (string digest : List ℕ) → digest ≡ sha256 string → at digest ≡ None
    → ((q : List ℕ) → next q ≡ cond (eq_by_cmp key_cmp digest q) (Some string) (at q)) → IsIndex at so_far strings → IsIndex next so_far (string ∷ strings)
new-noted at next so_far strings string digest is none more index = record {
  kept = λ q s found. by q s (eq_by_cmp key_cmp digest q) refl (sym (more q) ∙ found);
  all = λ sure s i. ⊎_elim (λ (same : s ≡ string). here s same) (λ (rest : IsIn strings s). there s (index.all sure s rest) (eq_by_cmp key_cmp digest (sha256 s)) refl) i;
  collided = λ no. more-collide string strings (index.collided no);
}
  where
    by : (q s : List ℕ) (b : Bool) → eq_by_cmp key_cmp digest q ≡ b → cond b (Some string) (at q) ≡ Some s → (q ≡ sha256 s) × IsIn (string ∷ strings) s
    by q s true tied found =
        let same : string ≡ s = same_Some string s found in
        let key : digest ≡ q = same_key digest q tied in
        (sym key ∙ is ∙ ap sha256 same, inl (sym same))
    by q s false differ found = let kept = index.kept q s found in (kept.0, inr kept.1)

    here : (s : List ℕ) → s ≡ string → next (sha256 s) ≡ Some s
    here s same =
        let tied : eq_by_cmp key_cmp digest (sha256 s) ≡ true = ap (eq_by_cmp key_cmp digest) (sym (is ∙ ap sha256 (sym same))) ∙ own_key digest in
        more (sha256 s) ∙ ap (λ b. cond b (Some string) (at (sha256 s))) tied ∙ ap (λ t. Some t) (sym same)

    there : (s : List ℕ) → at (sha256 s) ≡ Some s → (b : Bool) → eq_by_cmp key_cmp digest (sha256 s) ≡ b → next (sha256 s) ≡ Some s
    there s found true tied =
        let e : None ≡ Some s = sym none ∙ ap at (same_key digest (sha256 s) tied) ∙ found in
        absurd (cc)
    there s found false differ = more (sha256 s) ∙ ap (λ b. cond b (Some string) (at (sha256 s))) differ ∙ found

-- a string under whose digest one stands
pub again-noted : (at : List ℕ → Option (List ℕ)) (so_far same : Bool) (strings : List (List ℕ)) (string digest other : List ℕ) → digest ≡ sha256 string → at digest ≡ Some other
    → same ≡ bytes_eq other string → IsIndex at so_far strings → IsIndex at (so_far && same) (string ∷ strings)
again-noted at so_far same strings string digest other is found tested index = record {
  kept = λ q s there. let kept = index.kept q s there in (kept.0, inr kept.1);
  all = λ sure s i. let both = and_parts so_far same sure in
      ⊎_elim (λ (e : s ≡ string). here s e both.1) (λ (rest : IsIn strings s). index.all both.0 s rest) i;
  collided = λ fails. by so_far same refl refl fails;
}
  where
    here : (s : List ℕ) → s ≡ string → same ≡ true → at (sha256 s) ≡ Some s
    here s e is_same =
        let one : other ≡ string = (bytes_eq-Decides other string).0 (sym tested ∙ is_same) in
        ap at (ap sha256 e ∙ sym is) ∙ found ∙ ap (λ t. Some t) (one ∙ sym e)

    by : (a b : Bool) → so_far ≡ a → same ≡ b → (a && b) ≡ false → Collide (string ∷ strings)
    by false b e f fails = more-collide string strings (index.collided e)
    by true true e f fails = absurd (cc)
    by true false e f fails =
        let kept = index.kept digest other found in
        record {
          one = other;
          other = string;
          one_in = inr kept.1;
          other_in = inl refl;
          same = sym kept.0 ∙ is;
          differ = λ one. absurd (let yes : bytes_eq other string ≡ true = (bytes_eq-Decides other string).1 one in let both : true ≡ false = sym yes ∙ sym tested ∙ f in cc);
        }

-- strings that are found under their digests do not collide
apart-pair : (at : List ℕ → Option (List ℕ)) (x y : List ℕ) → at (sha256 x) ≡ Some x → at (sha256 y) ≡ Some y → are_apart x y ≡ true
apart-pair at x y one other = by (bytes_eq (sha256 x) (sha256 y)) refl
  where
    by : (b : Bool) → bytes_eq (sha256 x) (sha256 y) ≡ b → are_apart x y ≡ true
    by true e =
        let same : x ≡ y = same_Some x y (sym one ∙ ap at ((bytes_eq-Decides (sha256 x) (sha256 y)).0 e) ∙ other) in
        ap (λ c. not c || bytes_eq x y) e ∙ (bytes_eq-Decides x y).1 same
    by false e = ap (λ c. not c || bytes_eq x y) e

pub index-apart : (at : List ℕ → Option (List ℕ)) (so_far : Bool) (strings : List (List ℕ)) → IsIndex at so_far strings → so_far ≡ none_collide strings
index-apart at so_far strings index = by so_far (none_collide strings) refl refl
  where
    by : (a n : Bool) → so_far ≡ a → none_collide strings ≡ n → a ≡ n
    by true true e f = refl
    by false false e f = refl
    by true false e f =
        let yes : none_collide strings ≡ true = all_from _ strings (λ x ix. all_from _ strings (λ y iy. apart-pair at x y (index.all e x ix) (index.all e y iy))) in
        sym yes ∙ f
    by false true e f =
        let c = index.collided e in
        absurd (c.differ (apart strings f c.one c.other c.one_in c.other_in c.same))

-- ---- lists with the same strings

same-index : (at : List ℕ → Option (List ℕ)) (so_far : Bool) (xs ys : List (List ℕ)) → ((x : List ℕ) → IsIn xs x → IsIn ys x) → ((x : List ℕ) → IsIn ys x → IsIn xs x)
    → IsIndex at so_far xs → IsIndex at so_far ys
same-index at so_far xs ys into back index = record {
  kept = λ digest s found. let kept = index.kept digest s found in (kept.0, into s kept.1);
  all = λ sure s i. index.all sure s (back s i);
  collided = λ no. let c = index.collided no in
      record { one = c.one; other = c.other; one_in = into c.one c.one_in; other_in = into c.other c.other_in; same = c.same; differ = c.differ };
}

in-front : (xs ys zs : List (List ℕ)) → ((x : List ℕ) → IsIn xs x → IsIn ys x) → (x : List ℕ) → IsIn (xs ++ zs) x → IsIn (ys ++ zs) x
in-front xs ys zs into x i = ⊎_elim (λ (front : IsIn xs x). in_front ys zs x (into x front)) (λ (rest : IsIn zs x). in_rest ys zs x rest) (in_both xs zs x i)

pub same-front : (at : List ℕ → Option (List ℕ)) (so_far : Bool) (xs ys zs : List (List ℕ)) → ((x : List ℕ) → IsIn xs x → IsIn ys x) → ((x : List ℕ) → IsIn ys x → IsIn xs x)
    → IsIndex at so_far (xs ++ zs) → IsIndex at so_far (ys ++ zs)
same-front at so_far xs ys zs into back = same-index at so_far (xs ++ zs) (ys ++ zs) (in-front xs ys zs into) (in-front ys xs zs back)

-- what is told of what stands under a digest
pub stands : (at : Option (List ℕ)) (string : List ℕ) (same : Bool) → Some same ≡ option_map (λ other. bytes_eq other string) at
    → (other : List ℕ) × (at ≡ Some other) × (same ≡ bytes_eq other string)
stands None string same is = absurd (cc)
stands (Some other) string same is = (other, refl, same_Some same (bytes_eq other string) is)

-- ---- the strings of a list, from a place on

-- behind the last there is none
pub front-end : (at : List ℕ → Option (List ℕ)) (so_far : Bool) (xs : List (List ℕ)) (n : ℕ) (others : List (List ℕ)) → length xs ≤ n → IsIndex at so_far others → IsIndex at so_far (drop n xs ++ others)
front-end at so_far xs n others end index = subst (λ ys. IsIndex at so_far (ys ++ others)) (sym (drop_of_length-le xs end)) index

-- the one at a place stands in front of those behind it
pub front-here : (at : List ℕ → Option (List ℕ)) (so_far : Bool) (xs : List (List ℕ)) (i : ℕ) (x : List ℕ) (others : List (List ℕ)) → i < length xs → get_or xs i x ≡ x
    → IsIndex at so_far (x ∷ (drop (i + 1) xs ++ others)) → IsIndex at so_far (drop i xs ++ others)
front-here at so_far xs i x others within is index =
    subst (λ ys. IsIndex at so_far (ys ++ others)) (sym (drop_more xs i x within ∙ ap (λ y. y ∷ drop (i + 1) xs) is)) index

-- from the first on there are all
pub front-first : (at : List ℕ → Option (List ℕ)) (so_far : Bool) (xs : List (List ℕ)) (n : ℕ) (others : List (List ℕ)) → n ≡ 0 → IsIndex at so_far (drop n xs ++ others) → IsIndex at so_far (xs ++ others)
front-first at so_far xs n others first index = subst (λ k. IsIndex at so_far (drop k xs ++ others)) first index

-- strings that are the same
pub front-same : (at : List ℕ → Option (List ℕ)) (so_far : Bool) (xs ys others : List (List ℕ)) → xs ≡ ys → IsIndex at so_far (xs ++ others) → IsIndex at so_far (ys ++ others)
front-same at so_far xs ys others same index = subst (λ zs. IsIndex at so_far (zs ++ others)) same index

pub ruleset front_steps = (front-end, front-here, front-first, front-same)
