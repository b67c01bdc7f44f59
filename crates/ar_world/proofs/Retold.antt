-- What an authority is whose check tells something else of itself.
use Rattle.std.proofs.Common.{◌≡◌, ◌∙◌, ℕ, List, [], ◌∷◌, Option, Some, None, IfSome, IfErr, Result, Ok, Err, inl, is_some, refl, sym, ap, subst, true, false}
use Rattle.std.specs.Prelude.{slice_set, IfOk}
use Rattle.std.proofs.lemmas.Option.{same_Some}
use Rattle.std.specs.Option.{option_map}
use Rattle.ar_base.specs.Chaining.{◌>>=◌}
use Rattle.owner_check.specs.Answers.{Told}
use Rattle.owner_core.specs.State.{Owner}
use Rattle.report_text.specs.declared.happening.Happening.{Happening}
use Rattle.report_text.specs.declared.happening.Happening.TheVariants.{Retired}
use Rattle.ar_nodes.specs.Finding.{checking_in, named}
use Rattle.ar_nodes.specs.Parties.{AuthorityNode, CheckParts}
use Rattle.ar_nodes.specs.Owners.{known_key}
use Rattle.ar_nodes.specs.Teaching.{lesson_said, retold, told_behind}
use Rattle.ar_nodes.specs.declared.fault.WorldFault.{WorldFault}
use Rattle.ar_nodes.specs.declared.fault.WorldFault.TheVariants.{Absent, Memory}
use Rattle.ar_nodes.specs.declared.lesson.Lesson.{Lesson}
use Rattle.ar_world.specs.Finding.{Effect, checking_at, owner_at}
use Rattle.ar_world.specs.Owning.{check_line, lesson_line, retire_line}
use Rattle.ar_world.specs.State.{World, with_authority}
use Rattle.ar_world.specs.Step.{StepsBy}

-- ---- lines

-- the line by what its words name
abbrev line_by : World → ℕ → (List ℕ → Told → Told) → Happening → Option (AuthorityNode × CheckParts) → Option Owner → Effect
line_by w number tells said checking holder = do
  found ← named 1 checking
  owner ← named 3 holder
  Ok (with_authority w number (retold (tells (known_key owner)) found), said ∷ [])

-- both words name something, and the check tells something else of itself
told-by : (w : World) (number : ℕ) (tells : List ℕ → Told → Told) (said : Happening) (key : List ℕ) (after : List (Option AuthorityNode))
    (checking : Option (AuthorityNode × CheckParts)) (holder : Option Owner) → is_some checking ≡ true → Some key ≡ option_map known_key holder
    → IfSome checking (λ found. after ≡ slice_set w.authorities number (Some (retold (tells key) found)))
    → line_by w number tells said checking holder ≡ Ok (record w { authorities = after }, said ∷ [])
told-by w number tells said key after (Some found) (Some owner) there known new =
    ap (λ k. Ok (with_authority w number (retold (tells k) found), said ∷ [])) (sym (same_Some key (known_key owner) known))
    ∙ ap (λ later. Ok (record w { authorities = later }, said ∷ [])) (sym new)
told-by w number tells said key after (Some found) None there known new = absurd (cc)
told-by w number tells said key after None holder there known new = absurd (cc)

-- or memory was wanting, and nothing changed
told-steps : (result : Result (List Happening) WorldFault) (w : World) (number owner : ℕ) (tells : List ℕ → Told → Told) (told : Happening) (key : List ℕ)
    (before after later : List (Option AuthorityNode)) → before ≡ w.authorities → later ≡ after → is_some (checking_in before number) ≡ true → Some key ≡ option_map known_key (owner_at w owner)
    → IfOk result (λ said. (said ≡ told ∷ []) × IfSome (checking_in before number) (λ found. after ≡ slice_set before number (Some (retold (tells key) found))))
    → IfErr result (λ fault. (fault ≡ Memory) × (after ≡ before))
    → StepsBy result w (record w { authorities = later }) (check_line w number owner tells told)
told-steps (Ok said) w number owner tells told key before after later same back there known ok err =
    told-by w number tells told key later (checking_at w number) (owner_at w owner)
    (subst (λ (xs : List (Option AuthorityNode)). is_some (checking_in xs number) ≡ true) same there) known
    (subst (λ (xs : List (Option AuthorityNode)). IfSome (checking_in xs number) (λ found. later ≡ slice_set xs number (Some (retold (tells key) found)))) same
    (subst (λ (xs : List (Option AuthorityNode)). IfSome (checking_in before number) (λ found. xs ≡ slice_set before number (Some (retold (tells key) found)))) (sym back) ok.1))
    ∙ ap (λ s. Ok (record w { authorities = later }, s)) (sym ok.0)
told-steps (Err fault) w number owner tells told key before after later same back there known ok err =
    (ap (λ xs. record w { authorities = xs }) (back ∙ err.1 ∙ same), inl err.0)

pub lesson_steps : (result : Result (List Happening) WorldFault) (w : World) (lesson : Lesson) (number owner : ℕ) (name key : List ℕ) (before after later : List (Option AuthorityNode))
    → before ≡ w.authorities → later ≡ after → is_some (checking_in before number) ≡ true → Some key ≡ option_map known_key (owner_at w owner)
    → IfOk result (λ said. (said ≡ lesson_said lesson number ∷ []) × IfSome (checking_in before number) (λ found. after ≡ slice_set before number (Some (retold (told_behind lesson name key) found))))
    → IfErr result (λ fault. (fault ≡ Memory) × (after ≡ before))
    → StepsBy result w (record w { authorities = later }) (lesson_line w lesson number name owner)
lesson_steps result w lesson number owner name key before after later same back there known ok err =
    told-steps result w number owner (told_behind lesson name) (lesson_said lesson number) key before after later same back there known ok err

-- no authority that checks has the number
unchecked-by : (w : World) (number : ℕ) (tells : List ℕ → Told → Told) (said : Happening) (checking : Option (AuthorityNode × CheckParts)) (holder : Option Owner)
    → is_some checking ≡ false → line_by w number tells said checking holder ≡ Err (Absent 1)
unchecked-by w number tells said (Some found) holder none = absurd (cc)
unchecked-by w number tells said None holder none = refl

-- or no owner has the other
unknown-by : (w : World) (number : ℕ) (tells : List ℕ → Told → Told) (said : Happening) (checking : Option (AuthorityNode × CheckParts)) (holder : Option Owner)
    → is_some checking ≡ true → None ≡ option_map known_key holder → line_by w number tells said checking holder ≡ Err (Absent 3)
unknown-by w number tells said (Some found) (Some owner) there none = absurd (cc)
unknown-by w number tells said (Some found) None there none = refl
unknown-by w number tells said None holder there none = absurd (cc)

pub lesson_unchecked : (w : World) (lesson : Lesson) (number : ℕ) (name : List ℕ) (owner : ℕ) → is_some (checking_at w number) ≡ false → lesson_line w lesson number name owner ≡ Err (Absent 1)
lesson_unchecked w lesson number name owner none = unchecked-by w number (told_behind lesson name) (lesson_said lesson number) (checking_at w number) (owner_at w owner) none

pub lesson_unknown : (w : World) (lesson : Lesson) (number : ℕ) (name : List ℕ) (owner : ℕ) → is_some (checking_at w number) ≡ true → None ≡ option_map known_key (owner_at w owner)
    → lesson_line w lesson number name owner ≡ Err (Absent 3)
lesson_unknown w lesson number name owner there none = unknown-by w number (told_behind lesson name) (lesson_said lesson number) (checking_at w number) (owner_at w owner) there none

pub ruleset lesson_refusals = (lesson_unchecked, lesson_unknown)

-- ---- `retire`

-- the line by what its word names
abbrev retire_by : World → ℕ → Option (AuthorityNode × CheckParts) → Effect
retire_by w number checking = do
  found ← named 1 checking
  Ok (with_authority w number (record found.0 { check = None }), Retired number ∷ [])

retired-by : (w : World) (number : ℕ) (after : List (Option AuthorityNode)) (checking : Option (AuthorityNode × CheckParts)) → is_some checking ≡ true
    → IfSome checking (λ found. after ≡ slice_set w.authorities number (Some (record found.0 { check = None })))
    → retire_by w number checking ≡ Ok (record w { authorities = after }, Retired number ∷ [])
retired-by w number after (Some found) there new = ap (λ later. Ok (record w { authorities = later }, Retired number ∷ [])) (sym new)
retired-by w number after None there new = absurd (cc)

pub retire_steps : (result : Result (List Happening) WorldFault) (w : World) (number : ℕ) (before after later : List (Option AuthorityNode))
    → before ≡ w.authorities → later ≡ after → is_some (checking_in before number) ≡ true
    → IfOk result (λ said. (said ≡ Retired number ∷ []) × IfSome (checking_in before number) (λ found. after ≡ slice_set before number (Some (record found.0 { check = None }))))
    → IfErr result (λ fault. (fault ≡ Memory) × (after ≡ before))
    → StepsBy result w (record w { authorities = later }) (retire_line w number)
retire_steps (Ok said) w number before after later same back there ok err =
    retired-by w number later (checking_at w number) (subst (λ (xs : List (Option AuthorityNode)). is_some (checking_in xs number) ≡ true) same there)
    (subst (λ (xs : List (Option AuthorityNode)). IfSome (checking_in xs number) (λ found. later ≡ slice_set xs number (Some (record found.0 { check = None })))) same
    (subst (λ (xs : List (Option AuthorityNode)). IfSome (checking_in before number) (λ found. xs ≡ slice_set before number (Some (record found.0 { check = None })))) (sym back) ok.1))
    ∙ ap (λ s. Ok (record w { authorities = later }, s)) (sym ok.0)
retire_steps (Err fault) w number before after later same back there ok err = (ap (λ xs. record w { authorities = xs }) (back ∙ err.1 ∙ same), inl err.0)

-- none that checks has the number
nobody : (w : World) (number : ℕ) (checking : Option (AuthorityNode × CheckParts)) → is_some checking ≡ false → retire_by w number checking ≡ Err (Absent 1)
nobody w number (Some found) none = absurd (cc)
nobody w number None none = refl

pub retire_refused : (w : World) (number : ℕ) → is_some (checking_at w number) ≡ false → retire_line w number ≡ Err (Absent 1)
retire_refused w number none = nobody w number (checking_at w number) none
