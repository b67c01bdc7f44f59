-- The replies of all workers in the order of their challenges.
use Rattle.std.proofs.Common.{rules, ◌≡◌, ◌≢◌, ℕ, ◌+◌, ◌%◌, ◌<◌, ◌≤◌, ◌==◌, Bool, true, false, if◌then◌else◌, List, [], ◌∷◌, ◌++◌, length, take, drop, get_or, set, map, Option, Some, None, IsNone, option_to_list, refl, sym, ap, ◌∙◌, subst, append_assoc, length-append, add-one, arith}
use Rattle.std.proofs.lemmas.List.{append-nil, get_or-map, get_or-set_same, get_or-set_other, length-set, map-set}
use Rattle.std.proofs.Math.Seq.{drop-length, take-length, take-suc}
use Rattle.std.proofs.Math.Nat.{mod-lt}
use Rattle.std.proofs.lemmas.Bool.Decides.{nat_tests}
use Rattle.std.specs.List.{AllZip}
use Rattle.serve_run.specs.Reading.{Service}
use Rattle.serve_run.specs.Serving.{IsReply, dealt}
use Rattle.serve_run.specs.declared.reply.Reply.{Reply}
use Rattle.serve_run.proofs.Dealing.{dealt_last, dealt_last_other, left_own, left_other}
use Rattle.serve_run.proofs.Working.{zip_last}
use Rattle.serve_run.specs.Workers.{TakesNext, Weaves}

zip-first : {A B : Type 0} (R : A → B → Type 0) (x : A) (xs all : List A) (y : B) (ys zs : List B) → all ≡ x ∷ xs → zs ≡ y ∷ ys → AllZip R all zs → R x y × AllZip R xs ys
zip-first R x xs all y ys zs e f h = subst (λ b. AllZip R (x ∷ xs) b) f (subst (λ a. AllZip R a zs) e h)

take_more : {A : Type 0} (xs : List A) (number : ℕ) (d : A) → number < length xs → take (number + 1) xs ≡ take number xs ++ get_or xs number d ∷ []
take_more xs number d lt = rw add-one (take-suc xs number d lt)

-- the left-over rows, one step on
left-next : (service : Service) (workers number here : ℕ) (rows : List (List Reply)) (reply : Reply) (rest : List Reply) (worker : ℕ) (b : Bool)
    → (number % workers == worker) ≡ b → number % workers ≡ here → here < length rows → number < length service.challenges
    → get_or rows here [] ≡ reply ∷ rest
    → AllZip (IsReply service) (dealt workers worker number (drop number service.challenges)) (get_or rows worker [])
    → AllZip (IsReply service) (dealt workers worker (number + 1) (drop (number + 1) service.challenges)) (get_or (set rows here rest) worker [])
left-next service workers number here rows reply rest worker true e at wide lt row left =
    let same : worker ≡ here = grind (arith, nat_tests) in
    let own = left_own workers worker number service.challenges [] lt e in
    let first = zip-first (IsReply service) _ _ _ reply rest (get_or rows worker []) own (ap (λ w. get_or rows w []) same ∙ row) left in
    subst (λ r. AllZip (IsReply service) (dealt workers worker (number + 1) (drop (number + 1) service.challenges)) r)
    (sym (ap (λ w. get_or (set rows here rest) w []) same ∙ get_or-set_same rows here rest [] wide)) first.1
left-next service workers number here rows reply rest worker false e at wide lt row left =
    let other : worker ≢ here = λ same. absurd (grind (arith, nat_tests)) in
    let kept = left_other workers worker number service.challenges [] lt e in
    subst (λ r. AllZip (IsReply service) (dealt workers worker (number + 1) (drop (number + 1) service.challenges)) r)
    (sym (get_or-set_other rows here worker rest [] other))
    (subst (λ a. AllZip (IsReply service) a (get_or rows worker [])) kept left)

woven-next : (workers number here : ℕ) (rows : List (List Reply)) (replies : List Reply) (reply : Reply) (rest : List Reply) (worker : ℕ) (told : List Reply) (b : Bool)
    → (number % workers == worker) ≡ b → number % workers ≡ here → here < length rows → length replies ≡ number
    → get_or rows here [] ≡ reply ∷ rest
    → dealt workers worker 0 replies ++ get_or rows worker [] ≡ told
    → dealt workers worker 0 (replies ++ reply ∷ []) ++ get_or (set rows here rest) worker [] ≡ told
woven-next workers number here rows replies reply rest worker told true e at wide many row woven =
    let same : worker ≡ here = grind (arith, nat_tests) in
    let own = dealt_last workers worker 0 replies reply (let place : 0 + length replies ≡ number = omega (arith, many) in ap (λ n. n % workers == worker) place ∙ e) in
    let row_is = ap (λ w. get_or (set rows here rest) w []) same ∙ get_or-set_same rows here rest [] wide in
    let before = ap (λ w. get_or rows w []) same ∙ row in
    ap (λ l. l ++ get_or (set rows here rest) worker []) own
    ∙ ap (λ l. (dealt workers worker 0 replies ++ reply ∷ []) ++ l) row_is
    ∙ append_assoc (dealt workers worker 0 replies) (reply ∷ []) rest
    ∙ ap (λ l. dealt workers worker 0 replies ++ l) (sym before)
    ∙ woven
woven-next workers number here rows replies reply rest worker told false e at wide many row woven =
    let other : worker ≢ here = λ same. absurd (grind (arith, nat_tests)) in
    let kept = dealt_last_other workers worker 0 replies reply (let place : 0 + length replies ≡ number = omega (arith, many) in ap (λ n. n % workers == worker) place ∙ e) in
    ap (λ l. l ++ get_or (set rows here rest) worker []) kept
    ∙ ap (λ l. dealt workers worker 0 replies ++ l) (get_or-set_other rows here worker rest [] other)
    ∙ woven

-- the next reply of the worker whose turn it is
pub weaves_next : (service : Service) (workers number : ℕ) (told : ℕ → List Reply) (rows : List (List Reply)) (replies : List Reply) (reply : Reply) (rest : List Reply)
    → number % workers < workers → number < length service.challenges → get_or rows (number % workers) [] ≡ reply ∷ rest
    → Weaves service workers number told rows replies → Weaves service workers (number + 1) told (set rows (number % workers) rest) (replies ++ reply ∷ [])
weaves_next service workers number told rows replies reply rest turn lt row weaves =
    let here = number % workers in
    let wide : here < length rows = let w = weaves.wide in omega arith in
    let own = left_own workers here number service.challenges [] lt (search rules) in
    let first = zip-first (IsReply service) _ _ _ reply rest (get_or rows here []) own row (weaves.left here turn) in record {
      signed = subst (λ l. AllZip (IsReply service) l (replies ++ reply ∷ [])) (sym (take_more service.challenges number [] lt)) (zip_last (IsReply service) (take number service.challenges) replies (get_or service.challenges number []) reply weaves.signed first.0);
      left = λ worker below. left-next service workers number here rows reply rest worker (number % workers == worker) refl refl wide lt row (weaves.left worker below);
      woven = λ worker below. woven-next workers number here rows replies reply rest worker (told worker) (number % workers == worker) refl refl wide weaves.many row (weaves.woven worker below);
      wide = length-set rows here rest ∙ weaves.wide;
      many = let m = weaves.many in omega (arith, length-append replies (reply ∷ []));
    }

zip-nil : {A B : Type 0} (R : A → B → Type 0) (ys : List B) → AllZip R [] ys → ys ≡ []
zip-nil R [] h = refl
zip-nil R (y ∷ ys) h = absurd h

-- no row is empty whose turn it is
pub weaves_some : (service : Service) (workers number : ℕ) (told : ℕ → List Reply) (rows : List (List Reply)) (replies : List Reply)
    → number % workers < workers → number < length service.challenges → get_or rows (number % workers) [] ≡ []
    → Weaves service workers number told rows replies → ⊥
weaves_some service workers number told rows replies turn lt row weaves =
    let here = number % workers in
    let own = left_own workers here number service.challenges [] lt (search rules) in
    subst (λ b. AllZip (IsReply service) (get_or service.challenges number [] ∷ dealt workers here (number + 1) (drop (number + 1) service.challenges)) b) row
    (subst (λ a. AllZip (IsReply service) a (get_or rows here [])) own (weaves.left here turn))

-- all replies are woven
pub weaves_all : (service : Service) (workers number : ℕ) (told : ℕ → List Reply) (rows : List (List Reply)) (replies : List Reply)
    → number ≡ length service.challenges → Weaves service workers number told rows replies
    → AllZip (IsReply service) service.challenges replies × ((worker : ℕ) → worker < workers → dealt workers worker 0 replies ≡ told worker)
weaves_all service workers number told rows replies end weaves = (
  subst (λ l. AllZip (IsReply service) l replies) (ap (λ n. take n service.challenges) end ∙ take-length service.challenges) weaves.signed,
  λ worker below.
      let none = zip-nil (IsReply service) (get_or rows worker []) (subst (λ l. AllZip (IsReply service) (dealt workers worker number l) (get_or rows worker [])) (ap (λ n. drop n service.challenges) end ∙ drop-length service.challenges) (weaves.left worker below)) in
      sym (append-nil (dealt workers worker 0 replies)) ∙ ap (λ l. dealt workers worker 0 replies ++ l) (sym none) ∙ weaves.woven worker below,
)

-- the first reply of a row, where the rows are of any kind that has replies
pub taken_next : {D : Type 0} (items_of : D → List Reply) (rows : List D) (row : ℕ) (old new : D) (result : Option Reply)
    → row < length rows → old ≡ get_or rows row old → items_of old ≡ option_to_list result ++ items_of new → (IsNone result → items_of old ≡ [])
    → TakesNext (map items_of rows) row result (map items_of (set rows row new))
taken_next items_of rows row old new None lt at items none = get_or-map items_of rows row old [] lt ∙ ap items_of (sym at) ∙ none refl
taken_next items_of rows row old new (Some reply) lt at items none = (
  items_of new,
  get_or-map items_of rows row old [] lt ∙ ap items_of (sym at) ∙ items,
  map-set items_of rows row new,
)

-- no row is empty whose turn it is, and what is taken of it is woven
pub weaves_stops : (service : Service) (workers number here : ℕ) (told : ℕ → List Reply) (rows new : List (List Reply)) (replies : List Reply)
    → here ≡ number % workers → 0 < workers → number < length service.challenges → TakesNext rows here None new
    → Weaves service workers number told rows replies → ⊥
weaves_stops service workers number here told rows new replies e some lt takes weaves =
    weaves_some service workers number told rows replies (mod-lt number some) lt (ap (λ h. get_or rows h []) (sym e) ∙ takes) weaves

pub weaves_on : (service : Service) (workers number here : ℕ) (told : ℕ → List Reply) (rows new : List (List Reply)) (replies more : List Reply) (reply : Reply)
    → here ≡ number % workers → 0 < workers → number < length service.challenges → TakesNext rows here (Some reply) new → more ≡ replies ++ reply ∷ []
    → Weaves service workers number told rows replies → Weaves service workers (number + 1) told new more
weaves_on service workers number here told rows new replies more reply e some lt takes longer weaves =
    subst (λ l. Weaves service workers (number + 1) told new l) (sym longer)
    (subst (λ r. Weaves service workers (number + 1) told r (replies ++ reply ∷ [])) (ap (λ h. set rows h takes.0) (sym e) ∙ sym takes.2)
    (weaves_next service workers number told rows replies reply takes.0 (mod-lt number some) lt (ap (λ h. get_or rows h []) (sym e) ∙ takes.1) weaves))
