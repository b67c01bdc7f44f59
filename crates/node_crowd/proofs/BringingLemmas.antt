-- What a worker brings, errand by errand.
use Rattle.std.proofs.Common.{◌≡◌, ℕ, zero, suc, ◌+◌, ◌<◌, ◌==◌, Bool, true, false, if◌then◌else◌, List, [], ◌∷◌, ◌++◌, length, get_or, set, refl, sym, ap, ◌∙◌, subst, arith}
use Rattle.std.proofs.lemmas.Bool.{eq-eqb, ne_eqb}
use Rattle.std.specs.List.{AllZip}
use Rattle.seat_orders.specs.Carrying.{Serves}
use Rattle.seat_orders.proofs.CarriesLemmas.{serves_none}
use Rattle.shared_node.specs.Seats.{NodeParts}
use Rattle.node_crowd.specs.Along.{EachFrom}
use Rattle.node_crowd.specs.Bringing.{brought_to}
use Rattle.node_crowd.specs.Stalls.{HasServed, IsIdle, StallParts, share_at}
use Rattle.node_crowd.specs.declared.errand.Errand.{Errand}
use Rattle.node_crowd.proofs.AlongLemmas.{each_at, each_set}

module _ {I : Type 0} where
  -- an errand more, which goes there
  pub brought_here : (place : ℕ) (errands : List (Errand I)) (errand : Errand I) → errand.place ≡ place → brought_to place (errands ++ errand ∷ []) ≡ brought_to place errands ++ errand.input ∷ []
  brought_here place [] errand here = rw (eq-eqb errand.place place here) refl
  brought_here place (e ∷ errands) errand here = in_front (e.place == place) e.input (brought_to place (errands ++ errand ∷ [])) (brought_to place errands) errand.input (brought_here place errands errand here)
    where
      in_front : (b : Bool) (input : I) (xs ys : List I) (last : I) → xs ≡ ys ++ last ∷ [] → (if b then input ∷ xs else xs) ≡ (if b then input ∷ ys else ys) ++ last ∷ []
      in_front true input xs ys last is = ap (λ l. input ∷ l) is
      in_front false input xs ys last is = is

  -- and one that goes elsewhere
  pub brought_elsewhere : (place : ℕ) (errands : List (Errand I)) (errand : Errand I) → (errand.place ≡ place → ⊥) → brought_to place (errands ++ errand ∷ []) ≡ brought_to place errands
  brought_elsewhere place [] errand other = rw (ne_eqb errand.place place other) refl
  brought_elsewhere place (e ∷ errands) errand other = ap (λ l. if e.place == place then e.input ∷ l else l) (brought_elsewhere place errands errand other)

module _ {S I N T : Type 0} where
  -- a stall is written that has the share of the one before it
  pub same_shares : (place : ℕ) (row row' : List (StallParts S I N T)) (at : ℕ) (d new : StallParts S I N T) → at < length row → row' ≡ set row at new
      → new.seat.share ≡ (get_or row at d).seat.share → share_at place row' ≡ share_at place row
  same_shares place row row' at d new lt is same = subst (λ l. share_at place l ≡ share_at place row) (sym is) (written place row at lt same)
    where
      written : (place : ℕ) (row : List (StallParts S I N T)) (at : ℕ) → at < length row → new.seat.share ≡ (get_or row at d).seat.share → share_at place (set row at new) ≡ share_at place row
      written place [] at lt same = absurd (omega arith)
      written zero (s ∷ row) zero lt same = same
      written (suc place) (s ∷ row) zero lt same = refl
      written zero (s ∷ row) (suc at) lt same = refl
      written (suc place) (s ∷ row) (suc at) lt same = written place row at (omega arith) same

module _ {S I N R T B : Type 0} (next : S → I → N → R × S) (node_of : B → NodeParts S) (finish_of : B → R → T) where
  -- nothing was brought yet
  pub serves_start : (booths : List B) (row : List (StallParts S I N T)) → AllZip (λ b s. IsIdle (node_of b) s) booths row
      → EachFrom (λ place b s. HasServed next (node_of b) (finish_of b) s (brought_to place [])) 0 booths row
  serves_start booths row idle = from 0 booths row idle
    where
      from : (place : ℕ) (booths : List B) (row : List (StallParts S I N T)) → AllZip (λ b s. IsIdle (node_of b) s) booths row
          → EachFrom (λ place b s. HasServed next (node_of b) (finish_of b) s []) place booths row
      from place [] [] idle = tt
      from place [] (s ∷ row) idle = idle
      from place (b ∷ booths) [] idle = idle
      from place (b ∷ booths) (s ∷ row) idle =
          let here = idle.0 in (
            record {
              own = here.own;
              served = subst (λ told. Serves next (finish_of b) (node_of b).first s.seat.seen s.seat.own told []) (sym here.untold)
                  (subst (λ own. Serves next (finish_of b) (node_of b).first s.seat.seen own [] []) (sym here.none) (serves_none next (finish_of b) (node_of b).first s.seat.seen));
            },
            from (place + 1) booths row idle.1,
          )

  -- an errand more
  pub serves_next : (booths : List B) (row row' : List (StallParts S I N T)) (errands : List (Errand I)) (errand : Errand I) (b : B) (d new : StallParts S I N T)
      → errand.place < length booths → row' ≡ set row errand.place new
      → ((brought : List I) → HasServed next (node_of (get_or booths errand.place b)) (finish_of (get_or booths errand.place b)) (get_or row errand.place d) brought
      → HasServed next (node_of (get_or booths errand.place b)) (finish_of (get_or booths errand.place b)) new (brought ++ errand.input ∷ []))
      → EachFrom (λ place b s. HasServed next (node_of b) (finish_of b) s (brought_to place errands)) 0 booths row
      → EachFrom (λ place b s. HasServed next (node_of b) (finish_of b) s (brought_to place (errands ++ errand ∷ []))) 0 booths row'
  serves_next booths row row' errands errand b d new lt is served each =
      let zero_more : errand.place ≡ 0 + errand.place = omega arith in
      subst (λ l. EachFrom (λ place b s. HasServed next (node_of b) (finish_of b) s (brought_to place (errands ++ errand ∷ []))) 0 booths l) (sym is)
      (each_set (λ place b s. HasServed next (node_of b) (finish_of b) s (brought_to place errands))
      (λ place b s. HasServed next (node_of b) (finish_of b) s (brought_to place (errands ++ errand ∷ [])))
      0 booths row errand.place b d new lt
      (λ i x y other has. subst (λ l. HasServed next (node_of x) (finish_of x) y l) (sym (brought_elsewhere i errands errand (λ same. other (sym same ∙ zero_more)))) has)
      (λ has. subst (λ l. HasServed next (node_of (get_or booths errand.place b)) (finish_of (get_or booths errand.place b)) new l) (sym (brought_here (0 + errand.place) errands errand zero_more)) (served (brought_to (0 + errand.place) errands) has))
      each)

  -- the stall at a place is one of the node there
  pub serves_own : (booths : List B) (row : List (StallParts S I N T)) (list : ℕ → List I) (place : ℕ) (b : B) (d : StallParts S I N T) → place < length booths
      → EachFrom (λ place b s. HasServed next (node_of b) (finish_of b) s (list place)) 0 booths row
      → HasServed next (node_of (get_or booths place b)) (finish_of (get_or booths place b)) (get_or row place d) (list place)
  serves_own booths row list place b d lt each =
      let none_more : 0 + place ≡ place = omega arith in
      subst (λ p. HasServed next (node_of (get_or booths place b)) (finish_of (get_or booths place b)) (get_or row place d) (list p)) none_more
      (each_at (λ place b s. HasServed next (node_of b) (finish_of b) s (list place)) 0 booths row place b d lt each)
