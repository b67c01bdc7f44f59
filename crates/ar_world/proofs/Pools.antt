-- Pools, and what is printed of messages that enter them.
use Rattle.std.proofs.Common.{◌≡◌, ℕ, zero, suc, ◌+◌, List, [], ◌∷◌, ◌++◌, length, refl, sym, ap, ◌∙◌, arith, append_assoc, Some}
use Rattle.std.specs.Prelude.{map, slice_get, slice_set}
use Rattle.std.proofs.lemmas.List.{append-nil, length-append, length-map, map-append}
use Rattle.std.proofs.lemmas.List.Elements.{filter-append}
use Rattle.std.proofs.lemmas.Option.{same_Some}
use Rattle.report_text.specs.declared.happening.Happening.{Happening}
use Rattle.ar_nodes.specs.Pool.{Pooled, entries_from, entry_of}
use Rattle.ar_world.specs.Printed.{TellsPool, as_it_came, entries_in, is_entry}

-- ---- numbers

-- messages behind others have the numbers behind theirs
pub entries-append : (n : ℕ) (xs ys : List Pooled) → entries_from n (xs ++ ys) ≡ entries_from n xs ++ entries_from (n + length xs) ys
entries-append n [] ys = ap (λ m. entries_from m ys) (let e : n ≡ n + 0 = omega arith in e)
entries-append n (x ∷ xs) ys =
    ap (λ rest. entry_of n x ∷ rest)
    (entries-append (n + 1) xs ys ∙ ap (λ m. entries_from (n + 1) xs ++ entries_from m ys) (let e : n + 1 + length xs ≡ n + suc (length xs) = omega arith in e))

-- to whom a message was delivered is not printed
pub entries-came : (n : ℕ) (xs : List Pooled) → entries_from n (map as_it_came xs) ≡ entries_from n xs
entries-came n [] = refl
entries-came n (x ∷ xs) = ap (λ rest. entry_of n x ∷ rest) (entries-came (n + 1) xs)

-- so messages that came alike are printed alike
pub entries-alike : (n : ℕ) (xs ys : List Pooled) → map as_it_came xs ≡ map as_it_came ys → entries_from n xs ≡ entries_from n ys
entries-alike n xs ys alike = sym (entries-came n xs) ∙ ap (entries_from n) alike ∙ entries-came n ys

-- all of these lines tell of messages
pub entries-in : (n : ℕ) (xs : List Pooled) → entries_in (entries_from n xs) ≡ entries_from n xs
entries-in n [] = refl
entries-in n (x ∷ xs) = ap (λ rest. entry_of n x ∷ rest) (entries-in (n + 1) xs)

-- pools that came alike are as long
pub came-long : (xs ys : List Pooled) → map as_it_came xs ≡ map as_it_came ys → length xs ≡ length ys
came-long xs ys alike = sym (length-map xs as_it_came) ∙ ap length alike ∙ length-map ys as_it_came

-- ---- what a pool has more

-- nothing enters, and nothing is printed of it
pub tells-none : (old new : List Pooled) (said : List Happening) → map as_it_came new ≡ map as_it_came old → entries_in said ≡ [] → TellsPool old new said
tells-none old new said alike none = record {
  more = [];
  grown = alike ∙ sym (append-nil (map as_it_came old));
  told = none;
}

-- messages enter, and are printed behind lines that tell of none
pub tells-messages : (old more : List Pooled) (front : List Happening) → entries_in front ≡ []
    → TellsPool old (old ++ more) (front ++ entries_from (length old + 1) more)
tells-messages old more front none = record {
  more = more;
  grown = map-append as_it_came old more;
  told = filter-append is_entry front (entries_from (length old + 1) more) ∙ ap (λ xs. xs ++ entries_in (entries_from (length old + 1) more)) none
      ∙ entries-in (length old + 1) more;
}

-- the same from a pool that came alike
pub tells-from : (old same new : List Pooled) (said : List Happening) → map as_it_came same ≡ map as_it_came old → TellsPool same new said → TellsPool old new said
tells-from old same new said alike tells = record {
  more = tells.more;
  grown = tells.grown ∙ ap (λ front. front ++ map as_it_came tells.more) alike;
  told = tells.told ∙ ap (λ n. entries_from (n + 1) tells.more) (came-long same old alike);
}

-- one thing behind another
pub tells-both : (old mid new : List Pooled) (said later : List Happening) → TellsPool old mid said → TellsPool mid new later → TellsPool old new (said ++ later)
tells-both old mid new said later first second =
    let long : length mid ≡ length old + length first.more =
    came-long mid (old ++ first.more) (first.grown ∙ sym (map-append as_it_came old first.more)) ∙ length-append old first.more
    in record {
      more = first.more ++ second.more;
      grown = second.grown ∙ ap (λ front. front ++ map as_it_came second.more) first.grown
          ∙ append_assoc (map as_it_came old) (map as_it_came first.more) (map as_it_came second.more)
          ∙ ap (λ rest. map as_it_came old ++ rest) (sym (map-append as_it_came first.more second.more));
      told = filter-append is_entry said later ∙ ap (λ xs. xs ++ entries_in later) first.told
          ∙ ap (λ xs. entries_from (length old + 1) first.more ++ xs) second.told
          ∙ ap (λ n. entries_from (length old + 1) first.more ++ entries_from n second.more)
          (let e : length mid + 1 ≡ length old + 1 + length first.more = omega (arith, long) in e)
          ∙ sym (entries-append (length old + 1) first.more second.more);
    }

-- ---- a message that is delivered

-- in the place of a message stands one that came alike
pub set-alike : (xs : List Pooled) (i : ℕ) (p q : Pooled) → slice_get xs i ≡ Some p → as_it_came q ≡ as_it_came p
    → map as_it_came (slice_set xs i q) ≡ map as_it_came xs
set-alike [] i p q found alike = refl
set-alike (x ∷ xs) zero p q found alike = ap (λ y. y ∷ map as_it_came xs) (alike ∙ ap as_it_came (sym (same_Some x p found)))
set-alike (x ∷ xs) (suc i) p q found alike = ap (λ rest. as_it_came x ∷ rest) (set-alike xs i p q found alike)
