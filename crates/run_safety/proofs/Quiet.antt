-- What is printed of neither who is dishonest nor what is accepted.
use Rattle.std.proofs.Common.{◌≡◌, List, [], ◌∷◌, refl}
use Rattle.std.specs.Prelude.{filter}
use Rattle.std.specs.List.{filter_map}
use Rattle.report_text.specs.declared.happening.Happening.{Happening}
use Rattle.report_text.specs.declared.happening.Happening.TheVariants.{Dishonest, Draft, Ended, Entered, Forgot, Judged, Learnt, Made, Order, Retired, SignRefused, Step, Taught}
use Rattle.ar_world.proofs.EachLine.{is_marked}
use Rattle.run_safety.specs.Headline.{accepted_in, dishonest_in}

-- where nothing does, nothing tells of either
pub quiet : (said : List Happening) → filter is_marked said ≡ [] → (filter_map accepted_in said ≡ []) × (filter_map dishonest_in said ≡ [])
quiet [] none = (refl, refl)
quiet (Made party digest ∷ more) none = quiet more none
quiet (Dishonest party ∷ more) none = absurd cc
quiet (Taught authority ∷ more) none = quiet more none
quiet (Forgot authority ∷ more) none = quiet more none
quiet (Retired authority ∷ more) none = quiet more none
quiet (Draft draft digest ∷ more) none = quiet more none
quiet (Step party what refused ∷ more) none = quiet more none
quiet (Ended log epoch root ∷ more) none = quiet more none
quiet (Learnt message refused ∷ more) none = quiet more none
quiet (Entered message kind from to length digest ∷ more) none = quiet more none
quiet (SignRefused party ∷ more) none = quiet more none
quiet (Judged message said ∷ more) none = absurd cc
quiet (Order party taken ∷ more) none = quiet more none
