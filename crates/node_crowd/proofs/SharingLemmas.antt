-- The errands of each worker.
use Rattle.std.proofs.Common.{◌≡◌, ℕ, zero, suc, ◌+◌, ◌<◌, ◌%◌, ◌==◌, Bool, true, false, if◌then◌else◌, List, [], ◌∷◌, ◌++◌, length, map, get_or, set, refl, sym, ap, ◌∙◌, subst, append_assoc, arith}
use Rattle.std.proofs.lemmas.Bool.{eq-eqb, ne_eqb}
use Rattle.std.proofs.lemmas.List.{append-nil, map_push}
use Rattle.std.proofs.lemmas.List.FromFn.{length-range_with_len}
use Rattle.std.specs.List.{AllByRecursion, range_with_len}
use Rattle.seat_orders.specs.Dealing.{dealt_from, dealt_lists}
use Rattle.std.specs.Prelude.{◌&&◌}
use Rattle.node_crowd.specs.Along.{EachFrom}
use Rattle.node_crowd.specs.Bringing.{AreNumbered, brought_to, goes_to, own_of}
use Rattle.node_crowd.specs.declared.errand.Errand.{Errand}
use Rattle.node_crowd.proofs.AlongLemmas.{each_set}

step_other : (here : Bool) (from : ℕ) (dealt numbers : List ℕ) → numbers ≡ dealt → numbers ≡ (if here && false then from ∷ dealt else dealt)
step_other true from dealt numbers rest = rest
step_other false from dealt numbers rest = rest

module _ {I : Type 0} (workers : ℕ) where
  -- an errand more, which is this worker's
  pub own_here : (worker : ℕ) (errands : List (Errand I)) (errand : Errand I) → errand.number % workers ≡ worker → own_of workers worker (errands ++ errand ∷ []) ≡ own_of workers worker errands ++ errand ∷ []
  own_here worker [] errand here = rw (eq-eqb (errand.number % workers) worker here) refl
  own_here worker (e ∷ errands) errand here = in_front (e.number % workers == worker) e (own_of workers worker (errands ++ errand ∷ [])) (own_of workers worker errands) errand (own_here worker errands errand here)
    where
      in_front : (b : Bool) (e : Errand I) (xs ys : List (Errand I)) (last : Errand I) → xs ≡ ys ++ last ∷ [] → (if b then e ∷ xs else xs) ≡ (if b then e ∷ ys else ys) ++ last ∷ []
      in_front true e xs ys last is = ap (λ l. e ∷ l) is
      in_front false e xs ys last is = is

  -- and one that is another's
  pub own_elsewhere : (worker : ℕ) (errands : List (Errand I)) (errand : Errand I) → (errand.number % workers ≡ worker → ⊥) → own_of workers worker (errands ++ errand ∷ []) ≡ own_of workers worker errands
  own_elsewhere worker [] errand other = rw (ne_eqb (errand.number % workers) worker other) refl
  own_elsewhere worker (e ∷ errands) errand other = ap (λ l. if e.number % workers == worker then e ∷ l else l) (own_elsewhere worker errands errand other)

  step_own : (number : I → ℕ) (here : Bool) (input : I) (inputs : List I) (from : ℕ) (dealt : List ℕ) → number input ≡ from → map number inputs ≡ dealt
      → map number (if here then input ∷ inputs else inputs) ≡ (if here && true then from ∷ dealt else dealt)
  step_own number true input inputs from dealt is rest = ap (λ n. n ∷ map number inputs) is ∙ ap (λ l. from ∷ l) rest
  step_own number false input inputs from dealt is rest = rest

  step_dealt : (number : I → ℕ) (place from : ℕ) (e : Errand I) (own : List (Errand I)) (dealt : List ℕ) (a b : Bool) → a ≡ b → number e.input ≡ from → map number (brought_to place own) ≡ dealt
      → map number (brought_to place (if a then e ∷ own else own)) ≡ (if (e.place == place) && b then from ∷ dealt else dealt)
  step_dealt number place from e own dealt true true same is rest = step_own number (e.place == place) e.input (brought_to place own) from dealt is rest
  step_dealt number place from e own dealt true false same is rest = absurd cc
  step_dealt number place from e own dealt false true same is rest = absurd cc
  step_dealt number place from e own dealt false false same is rest = step_other (e.place == place) from dealt (map number (brought_to place own)) rest

  -- what each worker brings to a place are the numbers that are dealt to it
  pub brings_dealt : (number : I → ℕ) (place worker from : ℕ) (errands : List (Errand I)) → AreNumbered number from errands
      → map number (brought_to place (own_of workers worker errands)) ≡ dealt_from workers (goes_to place) from worker errands
  brings_dealt number place worker from [] numbered = refl
  brings_dealt number place worker from (e ∷ errands) numbered =
      step_dealt number place from e (own_of workers worker errands) (dealt_from workers (goes_to place) (from + 1) worker errands) (e.number % workers == worker) (from % workers == worker)
      (ap (λ n. n % workers == worker) numbered.0) numbered.1 (brings_dealt number place worker (from + 1) errands numbered.2)

  -- of all workers
  pub brings_all : (number : I → ℕ) (place : ℕ) (errands : List (Errand I)) → AreNumbered number 0 errands
      → map (map number) (map (λ worker. brought_to place (own_of workers worker errands)) (range_with_len 0 workers)) ≡ dealt_lists workers (goes_to place) errands
  brings_all number place errands numbered = each (range_with_len 0 workers)
    where
      each : (ws : List ℕ) → map (map number) (map (λ worker. brought_to place (own_of workers worker errands)) ws) ≡ map (λ worker. dealt_from workers (goes_to place) 0 worker errands) ws
      each [] = refl
      each (w ∷ ws) =
          ap (λ l. l ∷ map (map number) (map (λ worker. brought_to place (own_of workers worker errands)) ws)) (brings_dealt number place w 0 errands numbered)
          ∙ ap (λ l. dealt_from workers (goes_to place) 0 w errands ∷ l) (each ws)

  -- ---- the lists that a loop fills

  module _ {L : Type 0} (items_of : L → List (Errand I)) where
    -- each list has what is its worker's of these errands
    abbrev pub AreShared : List L → List (Errand I) → Type 0
    AreShared lists errands = EachFrom (λ worker _ list. items_of list ≡ own_of workers worker errands) 0 (range_with_len 0 workers) lists

    pub shared_none : (lists : List L) → length lists ≡ workers → AllByRecursion (λ list. items_of list ≡ []) lists → AreShared lists []
    shared_none lists many empty = from 0 workers lists many empty
      where
        from : (worker n : ℕ) (lists : List L) → length lists ≡ n → AllByRecursion (λ list. items_of list ≡ []) lists
            → EachFrom (λ worker _ list. items_of list ≡ own_of workers worker []) worker (range_with_len worker n) lists
        from worker zero [] many empty = tt
        from worker zero (l ∷ lists) many empty = absurd (omega arith)
        from worker (suc n) [] many empty = absurd (omega arith)
        from worker (suc n) (l ∷ lists) many empty = (empty.0, from (worker + 1) n lists (omega arith) empty.1)

    pub shared_next : (lists lists' : List L) (errands : List (Errand I)) (errand : Errand I) (worker : ℕ) (d new : L) → worker ≡ errand.number % workers → worker < workers → lists' ≡ set lists worker new
        → items_of new ≡ items_of (get_or lists worker d) ++ errand ∷ [] → AreShared lists errands → AreShared lists' (errands ++ errand ∷ [])
    shared_next lists lists' errands errand worker d new here lt is pushed shared =
        let zero_more : worker ≡ 0 + worker = omega arith in
        subst (λ l. AreShared l (errands ++ errand ∷ [])) (sym is)
        (each_set (λ w _ list. items_of list ≡ own_of workers w errands) (λ w _ list. items_of list ≡ own_of workers w (errands ++ errand ∷ [])) 0 (range_with_len 0 workers) lists worker 0 d new
        (let many = length-range_with_len 0 workers in omega (arith, many, lt))
        (λ i x list other has. has ∙ sym (own_elsewhere i errands errand (λ same. other (sym same ∙ sym here ∙ zero_more))))
        (λ has. pushed ∙ ap (λ l. l ++ errand ∷ []) has ∙ sym (own_here (0 + worker) errands errand (sym here ∙ zero_more)))
        shared)

    pub shared_end : (lists : List L) (errands : List (Errand I)) → AreShared lists errands → map items_of lists ≡ map (λ worker. own_of workers worker errands) (range_with_len 0 workers)
    shared_end lists errands shared = from 0 workers lists shared
      where
        from : (worker n : ℕ) (lists : List L) → EachFrom (λ worker _ list. items_of list ≡ own_of workers worker errands) worker (range_with_len worker n) lists
            → map items_of lists ≡ map (λ worker. own_of workers worker errands) (range_with_len worker n)
        from worker zero [] each = refl
        from worker zero (l ∷ lists) each = absurd each
        from worker (suc n) [] each = absurd each
        from worker (suc n) (l ∷ lists) each =
            ap (λ x. x ∷ map items_of lists) each.0 ∙ ap (λ x. own_of workers worker errands ∷ x) (from (worker + 1) n lists each.1)

-- ---- a list that is filled by what is taken of another

module _ {A B X : Type 0} (f : A → X) (h : B → X) where
  pub more_mapped : (done done' : List A) (a : A) (left left' : List B) (b : B) (all : List X) → done' ≡ done ++ a ∷ [] → left ≡ b ∷ left' → f a ≡ h b → map f done ++ map h left ≡ all
      → map f done' ++ map h left' ≡ all
  more_mapped done done' a left left' b all is is' same whole =
      ap (λ l. map f l ++ map h left') is ∙ ap (λ l. l ++ map h left') (map_push f done a) ∙ append_assoc (map f done) (f a ∷ []) (map h left') ∙ ap (λ x. map f done ++ x ∷ map h left') same
      ∙ ap (λ l. map f done ++ map h l) (sym is') ∙ whole

  pub all_mapped : (done : List A) (left : List B) (all : List X) → left ≡ [] → map f done ++ map h left ≡ all → map f done ≡ all
  all_mapped done left all none whole = sym (append-nil (map f done)) ∙ ap (λ l. map f done ++ map h l) (sym none) ∙ whole
