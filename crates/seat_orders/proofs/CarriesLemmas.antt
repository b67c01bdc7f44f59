-- What seats have done, call by call, and where seats are joined.
use Rattle.std.proofs.Common.{◌≡◌, ℕ, ◌+◌, ◌≤◌, List, [], ◌∷◌, ◌++◌, length, map, Some, refl, sym, ap, ◌∙◌, subst, arith}
use Rattle.std.specs.Prelude.{slice_get}
use Rattle.std.specs.List.{AllByRecursion, AllZip}
use Rattle.std.proofs.lemmas.List.{length-map, map-append}
use Rattle.ar_base.specs.Prefixes.{BeginsWith}
use Rattle.ar_base.proofs.Lists.{both-lists, get-more}
use Rattle.ar_seats.specs.Numbers.{HasEachBelow, times, once_below}
use Rattle.ar_seats.specs.Totals.{total}
use Rattle.ar_seats.proofs.NumbersLemmas.{times-append}
use Rattle.ar_seats.proofs.TotalsLemmas.{total-append}
use Rattle.node_core.specs.History.{replies, reply_after, state_after}
use Rattle.node_core.proofs.Histories.{reply_parts, reply_there}
use Rattle.seat_orders.specs.Carrying.{Carries, IsTold, Serves, StandAt, inputs_of, places_of}
use Rattle.seat_orders.specs.Orders.{IsInterleaving, IsSubsequence}
use Rattle.seat_orders.proofs.Interleaves.{interleaves}
use Rattle.seat_orders.proofs.Subsequences.{get_last, get_map, stand_last, stand_map, stand_more, subsequence_last, subsequence_map, subsequence_more, subsequence_none}

each_then : {A : Type 0} (P Q : A → Type 0) (xs : List A) → ((x : A) → P x → Q x) → AllByRecursion P xs → AllByRecursion Q xs
each_then P Q [] then all = tt
each_then P Q (x ∷ xs) then all = (then x all.0, each_then P Q xs then all.1)

zip_then : {A B : Type 0} (R Q : A → B → Type 0) (xs : List A) (ys : List B) → ((x : A) (y : B) → R x y → Q x y) → AllZip R xs ys → AllZip Q xs ys
zip_then R Q [] [] then all = tt
zip_then R Q [] (y ∷ ys) then all = all
zip_then R Q (x ∷ xs) [] then all = all
zip_then R Q (x ∷ xs) (y ∷ ys) then all = (then x y all.0, zip_then R Q xs ys then all.1)

zip_both : {A B : Type 0} (R : A → B → Type 0) (xs : List A) (ys : List B) (more : List A) (others : List B) → AllZip R xs ys → AllZip R more others → AllZip R (xs ++ more) (ys ++ others)
zip_both R [] [] more others one other = other
zip_both R [] (y ∷ ys) more others one other = absurd one
zip_both R (x ∷ xs) [] more others one other = absurd one
zip_both R (x ∷ xs) (y ∷ ys) more others one other = (one.0, zip_both R xs ys more others one.1 other)

zip_map : {A B C : Type 0} (R : A → B → Type 0) (Q : A → C → Type 0) (f : B → C) (xs : List A) (ys : List B) → ((x : A) (y : B) → R x y → Q x (f y)) → AllZip R xs ys → AllZip Q xs (map f ys)
zip_map R Q f [] [] then all = tt
zip_map R Q f [] (y ∷ ys) then all = all
zip_map R Q f (x ∷ xs) [] then all = all
zip_map R Q f (x ∷ xs) (y ∷ ys) then all = (then x y all.0, zip_map R Q f xs ys then all.1)

each_map : {A B : Type 0} (P : A → Type 0) (Q : B → Type 0) (f : A → B) (xs : List A) → ((x : A) → P x → Q (f x)) → AllByRecursion P xs → AllByRecursion Q (map f xs)
each_map P Q f [] then all = tt
each_map P Q f (x ∷ xs) then all = (then x all.0, each_map P Q f xs then all.1)

module _ {I N : Type 0} where
  -- what is a subsequence of the beginning of a history is one of more of it
  ordered_longer : (seen more : List (I × N)) (brought : List I) → BeginsWith more seen → IsSubsequence brought (inputs_of seen) → IsSubsequence brought (inputs_of more)
  ordered_longer seen more brought begins is =
      subst (λ h. IsSubsequence brought (inputs_of h)) (sym begins.1)
      (subst (λ l. IsSubsequence brought l) (sym (map-append (λ (call : I × N). call.0) seen begins.0)) (subsequence_more brought (inputs_of seen) (inputs_of begins.0) is))

  stand_longer : (seen more : List (I × N)) (places : List ℕ) (brought : List I) → BeginsWith more seen → StandAt (inputs_of seen) places brought → StandAt (inputs_of more) places brought
  stand_longer seen more places brought begins is =
      subst (λ h. StandAt (inputs_of h) places brought) (sym begins.1)
      (subst (λ l. StandAt l places brought) (sym (map-append (λ (call : I × N). call.0) seen begins.0)) (stand_more (inputs_of seen) (inputs_of begins.0) places brought is))

module _ {S I N R F : Type 0} (next : S → I → N → R × S) (finish : R → F) (first : S) where
  told_longer : (seen more : List (I × N)) (told : ℕ × F) → BeginsWith more seen → IsTold next finish first seen told → IsTold next finish first more told
  told_longer seen more told begins is =
      let longer : map finish (replies next first more) ≡ map finish (replies next first seen) ++ map finish (replies next (state_after next first seen) begins.0) =
      ap (λ h. map finish (replies next first h)) begins.1 ∙ ap (map finish) (reply_parts next first seen begins.0) ∙ map-append finish (replies next first seen) (replies next (state_after next first seen) begins.0) in
      subst (λ l. slice_get l told.0 ≡ Some told.1) (sym longer) (get-more (map finish (replies next first seen)) (map finish (replies next (state_after next first seen) begins.0)) told.0 told.1 is)

  -- ---- one seat

  -- nothing was brought yet
  pub serves_none : (seen : List (I × N)) → Serves next finish first seen [] [] []
  serves_none seen = record { ordered = subsequence_none (inputs_of seen); places = tt; own_is = refl; replies_are = tt }

  -- one call more
  pub serves_called : (seen before after : List (I × N)) (own own' : List ℕ) (told : List (ℕ × F)) (brought : List I) (input : I) (note : N) (place : ℕ) (reply : R)
      → Serves next finish first seen own told brought → BeginsWith before seen → place ≡ length before → reply ≡ reply_after next first before input note
      → after ≡ before ++ (input, note) ∷ [] → own' ≡ own ++ place ∷ []
      → Serves next finish first after own' (told ++ (place, finish reply) ∷ []) (brought ++ input ∷ [])
  serves_called seen before after own own' told brought input note place reply serves later place_is reply_is after_is after_own =
      let begins : BeginsWith after before = ((input, note) ∷ [], after_is) in
      let last : inputs_of after ≡ inputs_of before ++ input ∷ [] = ap (λ h. inputs_of h) after_is ∙ map-append (λ (call : I × N). call.0) before ((input, note) ∷ []) in
      let stands : slice_get (inputs_of after) place ≡ Some input =
      subst (λ l. slice_get l place ≡ Some input) (sym last)
      (subst (λ p. slice_get (inputs_of before ++ input ∷ []) p ≡ Some input) (length-map before (λ (call : I × N). call.0) ∙ sym place_is) (get_last (inputs_of before) input)) in
      let there : slice_get (replies next first after) place ≡ Some reply =
      subst (λ h. slice_get (replies next first h) place ≡ Some reply) (sym after_is)
      (subst (λ r. slice_get (replies next first (before ++ (input, note) ∷ [])) place ≡ Some r) (sym reply_is)
      (subst (λ p. slice_get (replies next first (before ++ (input, note) ∷ [])) p ≡ Some (reply_after next first before input note)) (sym place_is) (reply_there next first before [] input note))) in
      record {
        ordered = subst (λ l. IsSubsequence (brought ++ input ∷ []) l) (sym last) (subsequence_last brought (inputs_of before) input (ordered_longer seen before brought later serves.ordered));
        places = subst (λ ps. StandAt (inputs_of after) ps (brought ++ input ∷ [])) (sym after_own)
            (stand_last (inputs_of after) own brought place input (stand_longer before after own brought begins (stand_longer seen before own brought later serves.places)) stands);
        own_is = map-append (λ (t : ℕ × F). t.0) told ((place, finish reply) ∷ []) ∙ ap (λ l. l ++ place ∷ []) serves.own_is ∙ sym after_own;
        replies_are = both-lists (IsTold next finish first after) told ((place, finish reply) ∷ [])
            (each_then (IsTold next finish first seen) (IsTold next finish first after) told
            (λ t is. told_longer before after t begins (told_longer seen before t later is)) serves.replies_are)
            (get_map finish (replies next first after) place reply there, tt);
      }

  -- ---- several seats

  -- a seat of the node that did nothing
  pub carries_none : (seen : List (I × N)) → Carries next finish first seen [] [] []
  carries_none seen = record { each = tt; places = []; there = tt; own_are = λ place. refl; told_are = λ place. refl; replies_are = tt }

  -- one that brought a list
  pub carries_one : (seen : List (I × N)) (own : List ℕ) (told : List (ℕ × F)) (brought : List I) → Serves next finish first seen own told brought
      → Carries next finish first seen own told (brought ∷ [])
  carries_one seen own told brought serves = record {
    each = (serves.ordered, tt);
    places = own ∷ [];
    there = (serves.places, tt);
    own_are = λ place. omega arith;
    told_are = λ place. ap (times place) serves.own_is;
    replies_are = serves.replies_are;
  }

  carries_longer : (seen more : List (I × N)) (own : List ℕ) (told : List (ℕ × F)) (lists : List (List I)) → BeginsWith more seen
      → Carries next finish first seen own told lists → Carries next finish first more own told lists
  carries_longer seen more own told lists begins carries = record {
    each = each_then (λ brought. IsSubsequence brought (inputs_of seen)) (λ brought. IsSubsequence brought (inputs_of more)) lists (λ brought is. ordered_longer seen more brought begins is) carries.each;
    places = carries.places;
    there = zip_then (StandAt (inputs_of seen)) (StandAt (inputs_of more)) carries.places lists (λ places brought is. stand_longer seen more places brought begins is) carries.there;
    own_are = carries.own_are;
    told_are = carries.told_are;
    replies_are = each_then (IsTold next finish first seen) (IsTold next finish first more) told (λ t is. told_longer seen more t begins is) carries.replies_are;
  }

  -- a seat that took in another
  pub carries_joined : (seen other both : List (I × N)) (own own' all : List ℕ) (told told' : List (ℕ × F)) (lists lists' : List (List I))
      → Carries next finish first seen own told lists → Carries next finish first other own' told' lists' → BeginsWith both seen → BeginsWith both other
      → ((place : ℕ) → times place all ≡ times place own + times place own') → Carries next finish first both all (told ++ told') (lists ++ lists')
  carries_joined seen other both own own' all told told' lists lists' one two begins too sum =
      let here = carries_longer seen both own told lists begins one in
      let there = carries_longer other both own' told' lists' too two in
      record {
        each = both-lists (λ brought. IsSubsequence brought (inputs_of both)) lists lists' here.each there.each;
        places = here.places ++ there.places;
        there = zip_both (StandAt (inputs_of both)) here.places lists there.places lists' here.there there.there;
        own_are = λ place. omega (arith, sum place, here.own_are place, there.own_are place, total-append (times place) here.places there.places);
        told_are = λ place. omega (arith, sum place, here.told_are place, there.told_are place, ap (times place) (map-append (λ (t : ℕ × F). t.0) told told'), times-append place (places_of told) (places_of told'));
        replies_are = both-lists (IsTold next finish first both) told told' here.replies_are there.replies_are;
      }

  -- ---- the whole history

  -- a seat that has all calls: what was brought stands interleaved in the history, where the inputs have numbers that are apart
  pub carries_closed : (seen history : List (I × N)) (own : List ℕ) (told : List (ℕ × F)) (lists : List (List I)) (number : I → ℕ)
      → Carries next finish first seen own told lists → BeginsWith history seen → HasEachBelow (length history) own
      → ((x : ℕ) → total (times x) (map (map number) lists) ≤ 1) → IsInterleaving (map number (inputs_of history)) (map (map number) lists)
  carries_closed seen history own told lists number carries begins all apart =
      let whole = carries_longer seen history own told lists begins carries in
      let order : List ℕ = map number (inputs_of history) in
      let many : length order ≡ length history = length-map (inputs_of history) number ∙ length-map history (λ (call : I × N). call.0) in
      interleaves order whole.places (map (map number) lists)
      (each_map (λ brought. IsSubsequence brought (inputs_of history)) (λ l. IsSubsequence l order) (map number) lists (λ brought is. subsequence_map number brought (inputs_of history) is) whole.each)
      (zip_map (StandAt (inputs_of history)) (StandAt order) (map number) whole.places lists (λ places brought is. stand_map number (inputs_of history) places brought is) whole.there)
      (λ place. sym (whole.own_are place) ∙ all place ∙ ap (λ n. once_below n place) (sym many))
      apart

  -- and each reply was told, with its place
  pub told_closed : (seen history : List (I × N)) (own : List ℕ) (told : List (ℕ × F)) (lists : List (List I))
      → Carries next finish first seen own told lists → BeginsWith history seen → HasEachBelow (length history) own
      → AllByRecursion (IsTold next finish first history) told × HasEachBelow (length history) (places_of told)
  told_closed seen history own told lists carries begins all =
      ((carries_longer seen history own told lists begins carries).replies_are, λ place. carries.told_are place ∙ all place)
