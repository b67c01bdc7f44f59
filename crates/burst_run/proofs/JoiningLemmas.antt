-- Parties that come back to their places, one after another.
use Rattle.std.proofs.Common.{◌≡◌, ◌∙◌, List, [], ◌∷◌, ◌++◌, map, Option, refl, sym, ap, subst, append_assoc}
use Rattle.std.specs.List.{AllByRecursion}
use Rattle.std.proofs.lemmas.List.{append-nil}
use Rattle.ar_nodes.specs.Acting.{Reply}
use Rattle.ar_statement.specs.declared.party.Party.{Party}
use Rattle.owner_check.specs.declared.answer.Outcome.{Outcome}
use Rattle.station.specs.declared.delivery.Delivery.{Delivery}
use Rattle.burst_run.specs.Laying.{Away, HasPlace, Homes, VisitParts, all_back_in, back_in}
use Rattle.burst_run.proofs.Returning.{AsMany, many_back, place_kept}

-- what was brought to this party
abbrev pub visit_with : Party → List (Delivery × Option Outcome) → List Reply → VisitParts
visit_with who history replies = record { party = who; history = history; replies = replies }

module _ {T V : Type 0} (h : T → Away) (v : T → V) (K : T → Type 0) where
  -- each has a place
  abbrev pub HaveTheirs : Homes → List T → Type 0
  HaveTheirs places all = AllByRecursion (λ t. HasPlace places (h t).party.number (h t).state) all

  theirs_kept : (old new : Homes) (all : List T) → AsMany old new → HaveTheirs old all → HaveTheirs new all
  theirs_kept old new [] many have = tt
  theirs_kept old new (t ∷ all) many have = (place_kept old new (h t).party.number (h t).state many have.0, theirs_kept old new all many have.1)

  -- Those that are left come back to where all do, have their places, and are told behind the others.
  pub record StillBack (start : Homes) (all : List T) (now : Homes) (rest : List T) (told : List V) : Type 0 where
    pub back : all_back_in now (map h rest) ≡ all_back_in start (map h all)
    pub places : HaveTheirs now rest
    pub kept : AllByRecursion K rest
    pub tells : told ++ map v rest ≡ map v all

  pub back_start : (start : Homes) (all : List T) → HaveTheirs start all → AllByRecursion K all → StillBack start all start all []
  back_start start all have kept = record { back = refl; places = have; kept = kept; tells = refl }

  -- the next has its place, and is as it was kept
  pub back_place : (start : Homes) (all : List T) (now : Homes) (t : T) (left rest : List T) (told : List V) → left ≡ t ∷ rest → StillBack start all now left told
      → HasPlace now (h t).party.number (h t).state × K t
  back_place start all now t left rest told is still =
      let here = subst (λ l. StillBack start all now l told) is still in
      (here.places.0, here.kept.0)

  back_on : (start : Homes) (all : List T) (now next : Homes) (t : T) (rest : List T) (told more : List V) → next ≡ back_in now (h t) → more ≡ told ++ v t ∷ []
      → StillBack start all now (t ∷ rest) told → StillBack start all next rest more
  back_on start all now next t rest told more is tells still = record {
    back = ap (λ (p : Homes). all_back_in p (map h rest)) is ∙ still.back;
    places = subst (λ (p : Homes). HaveTheirs p rest) (sym is) (theirs_kept now (back_in now (h t)) rest (many_back now (h t)) still.places.1);
    kept = still.kept.1;
    tells = ap (λ l. l ++ map v rest) tells ∙ append_assoc told (v t ∷ []) (map v rest) ∙ still.tells;
  }

  pub back_next : (start : Homes) (all : List T) (now next : Homes) (t : T) (left rest : List T) (told more : List V) → left ≡ t ∷ rest → next ≡ back_in now (h t) → more ≡ told ++ v t ∷ []
      → StillBack start all now left told → StillBack start all next rest more
  back_next start all now next t left rest told more first is tells still =
      back_on start all now next t rest told more is tells (subst (λ l. StillBack start all now l told) first still)

  pub back_end : (start : Homes) (all : List T) (now : Homes) (rest : List T) (told : List V) → rest ≡ [] → StillBack start all now rest told → now ≡ all_back_in start (map h all)
  back_end start all now rest told none still =
      let last = subst (λ l. StillBack start all now l told) none still in last.back

  pub told_end : (start : Homes) (all : List T) (now : Homes) (rest : List T) (told : List V) → rest ≡ [] → StillBack start all now rest told → told ≡ map v all
  told_end start all now rest told none still =
      let last = subst (λ l. StillBack start all now l told) none still in
      sym (append-nil told) ∙ last.tells
