-- Why lines are refused: what fails behind words that name something.
use Rattle.std.proofs.Common.{◌≡◌, ℕ, zero, suc, ◌+◌, ◌<◌, ◌≤◌, ltb, true, List, [], ◌∷◌, length, Option, Some, None, Result, Ok, Err, refl, ap, ◌∙◌, add-one, arith}
use Rattle.std.specs.Prelude.{is_some, position, slice_get}
use Rattle.std.specs.List.{position_or_len}
use Rattle.std.specs.Result.{is_ok}
use Rattle.std.proofs.lemmas.Bool.{ltb-true}
use Rattle.std.proofs.lemmas.List.Folds.{find_at}
use Rattle.std.proofs.lemmas.Option.{cond_some}
use Rattle.ar_base.specs.Chaining.{◌>>=◌}
use Rattle.script_text.specs.declared.line.PolicyWords.{PolicyWords}
use Rattle.cert_drafts.specs.Policies.{are_authorities, may_wait, policy_of}
use Rattle.ar_world.specs.Drafting.{draft_room, register_line, revoke_line, update_line}
use Rattle.ar_world.specs.Finding.{draft_at, known_asks, owner_at, room}
use Rattle.ar_nodes.specs.Finding.{is_owner, named}
use Rattle.ar_nodes.specs.Pool.{numbered}
use Rattle.ar_world.specs.State.{Drafted, World}
use Rattle.ar_world.specs.Submitting.{handover_line, object_line, submit_line}
use Rattle.ar_nodes.specs.declared.fault.WorldFault.{WorldFault}
use Rattle.ar_world.proofs.Drafts.{draft_is_at}

-- ---- chains

first : {A B E : Type 0} (r : Result A E) (f : A → Result B E) (fault : E) → r ≡ Err fault → (r >>= f) ≡ Err fault
first r f fault h = ap (λ x. x >>= f) h

behind : {A B E : Type 0} (r : Result A E) (f : A → Result B E) (fault : E) → is_ok r ≡ true → ((x : A) → r ≡ Ok x → f x ≡ Err fault) → (r >>= f) ≡ Err fault
behind (Ok x) f fault o h = h x refl
behind (Err e) f fault o h = absurd (cc)

-- ---- what words name

inside : {X : Type 0} (xs : List X) (place : ℕ) → place < length xs → is_some (slice_get xs place) ≡ true
inside [] place lt = absurd (omega (arith, lt))
inside (x ∷ xs) zero lt = refl
inside (x ∷ xs) (suc place) lt = inside xs place (omega (arith, lt))

names : {X : Type 0} (word : ℕ) (o : Option X) → is_some o ≡ true → is_ok (named word o) ≡ true
names word (Some x) h = refl
names word None h = absurd (cc)

pub names_owner : (word : ℕ) (w : World) (number place : ℕ) → position (is_owner number) w.owners ≡ Some place → is_ok (named word (owner_at w number)) ≡ true
names_owner word w number place here =
    let p = is_owner number in
    let spot = position_or_len p w.owners in
    let lt = ltb-true spot (length w.owners) (cond_some (ltb spot (length w.owners)) spot place here).0 in
    names word (owner_at w number) (ap is_some (find_at p w.owners) ∙ inside w.owners spot lt)

pub names_draft : (word : ℕ) (w : World) (number place : ℕ) → number ≡ place + 1 → place < length w.drafts → is_ok (named word (draft_at w number)) ≡ true
names_draft word w number place next lt =
    names word (draft_at w number) (ap (λ n. is_some (numbered w.drafts n)) (next ∙ add-one place) ∙ inside w.drafts place lt)

pub names_counted : (word : ℕ) (w : World) (number : ℕ) → 0 < number → number ≤ length w.drafts → is_ok (named word (draft_at w number)) ≡ true
names_counted word w zero some all = absurd (omega (arith, some))
names_counted word w (suc place) some all = names_draft word w (suc place) place (omega arith) (omega (arith, all))

pub names_policy : (word : ℕ) (words : PolicyWords) → are_authorities words.trusted ≡ true → may_wait words.wait ≡ true → is_ok (named word (policy_of words)) ≡ true
names_policy word words ascends waits = rw (ascends, waits) refl

fine : {A E : Type 0} (r : Result A E) (x : A) → r ≡ Ok x → is_ok r ≡ true
fine r x h = ap is_ok h

-- ---- `register`

pub register_owner : (w : World) (number : ℕ) (name : List ℕ) (policy : PolicyWords) (asks : List ℕ) (fault : WorldFault)
    → named 1 (owner_at w number) ≡ Err fault → register_line w number name policy asks ≡ Err fault
register_owner w number name policy asks fault h = first (named 1 (owner_at w number)) _ fault h

pub register_policy : (w : World) (number : ℕ) (name : List ℕ) (policy : PolicyWords) (asks : List ℕ) (fault : WorldFault)
    → is_ok (named 1 (owner_at w number)) ≡ true → named 3 (policy_of policy) ≡ Err fault → register_line w number name policy asks ≡ Err fault
register_policy w number name policy asks fault h0 h = behind (named 1 (owner_at w number)) _ fault h0 (λ me is0. first (named 3 (policy_of policy)) _ fault h)

pub register_asks : (w : World) (number : ℕ) (name : List ℕ) (policy : PolicyWords) (asks : List ℕ) (fault : WorldFault)
    → is_ok (named 1 (owner_at w number)) ≡ true → is_ok (named 3 (policy_of policy)) ≡ true → known_asks w 8 asks ≡ Err fault → register_line w number name policy asks ≡ Err fault
register_asks w number name policy asks fault h0 h1 h = behind (named 1 (owner_at w number)) _ fault h0 (λ me is0. behind (named 3 (policy_of policy)) _ fault h1 (λ terms is1. first (known_asks w 8 asks) _ fault h))

pub register_room : (w : World) (number : ℕ) (name : List ℕ) (policy : PolicyWords) (asks : List ℕ) (fault : WorldFault)
    → is_ok (named 1 (owner_at w number)) ≡ true → is_ok (named 3 (policy_of policy)) ≡ true → known_asks w 8 asks ≡ Ok tt → draft_room w ≡ Err fault → register_line w number name policy asks ≡ Err fault
register_room w number name policy asks fault h0 h1 h2 h = behind (named 1 (owner_at w number)) _ fault h0 (λ me is0. behind (named 3 (policy_of policy)) _ fault h1 (λ terms is1. behind (known_asks w 8 asks) _ fault (fine (known_asks w 8 asks) tt h2) (λ known is2. first (draft_room w) _ fault h)))

pub ruleset register_refusals = (register_owner, register_policy, register_asks, register_room)

-- ---- `update`

pub update_owner : (w : World) (number draft : ℕ) (policy : PolicyWords) (asks : List ℕ) (fault : WorldFault)
    → named 1 (owner_at w number) ≡ Err fault → update_line w number draft policy asks ≡ Err fault
update_owner w number draft policy asks fault h = first (named 1 (owner_at w number)) _ fault h

pub update_draft : (w : World) (number draft : ℕ) (policy : PolicyWords) (asks : List ℕ) (fault : WorldFault)
    → is_ok (named 1 (owner_at w number)) ≡ true → named 2 (draft_at w draft) ≡ Err fault → update_line w number draft policy asks ≡ Err fault
update_draft w number draft policy asks fault h0 h = behind (named 1 (owner_at w number)) _ fault h0 (λ me is0. first (named 2 (draft_at w draft)) _ fault h)

pub update_policy : (w : World) (number draft : ℕ) (policy : PolicyWords) (asks : List ℕ) (fault : WorldFault)
    → is_ok (named 1 (owner_at w number)) ≡ true → is_ok (named 2 (draft_at w draft)) ≡ true → named 3 (policy_of policy) ≡ Err fault → update_line w number draft policy asks ≡ Err fault
update_policy w number draft policy asks fault h0 h1 h = behind (named 1 (owner_at w number)) _ fault h0 (λ me is0. behind (named 2 (draft_at w draft)) _ fault h1 (λ old is1. first (named 3 (policy_of policy)) _ fault h))

pub update_asks : (w : World) (number draft : ℕ) (policy : PolicyWords) (asks : List ℕ) (fault : WorldFault)
    → is_ok (named 1 (owner_at w number)) ≡ true → is_ok (named 2 (draft_at w draft)) ≡ true → is_ok (named 3 (policy_of policy)) ≡ true → known_asks w 8 asks ≡ Err fault → update_line w number draft policy asks ≡ Err fault
update_asks w number draft policy asks fault h0 h1 h2 h = behind (named 1 (owner_at w number)) _ fault h0 (λ me is0. behind (named 2 (draft_at w draft)) _ fault h1 (λ old is1. behind (named 3 (policy_of policy)) _ fault h2 (λ terms is2. first (known_asks w 8 asks) _ fault h)))

pub update_room : (w : World) (number draft : ℕ) (policy : PolicyWords) (asks : List ℕ) (fault : WorldFault)
    → is_ok (named 1 (owner_at w number)) ≡ true → is_ok (named 2 (draft_at w draft)) ≡ true → is_ok (named 3 (policy_of policy)) ≡ true → known_asks w 8 asks ≡ Ok tt → draft_room w ≡ Err fault → update_line w number draft policy asks ≡ Err fault
update_room w number draft policy asks fault h0 h1 h2 h3 h = behind (named 1 (owner_at w number)) _ fault h0 (λ me is0. behind (named 2 (draft_at w draft)) _ fault h1 (λ old is1. behind (named 3 (policy_of policy)) _ fault h2 (λ terms is2. behind (known_asks w 8 asks) _ fault (fine (known_asks w 8 asks) tt h3) (λ known is3. first (draft_room w) _ fault h))))

pub ruleset update_refusals = (update_owner, update_draft, update_policy, update_asks, update_room)

-- ---- `revoke`

pub revoke_owner : (w : World) (number draft : ℕ) (asks : List ℕ) (fault : WorldFault)
    → named 1 (owner_at w number) ≡ Err fault → revoke_line w number draft asks ≡ Err fault
revoke_owner w number draft asks fault h = first (named 1 (owner_at w number)) _ fault h

pub revoke_draft : (w : World) (number draft : ℕ) (asks : List ℕ) (fault : WorldFault)
    → is_ok (named 1 (owner_at w number)) ≡ true → named 2 (draft_at w draft) ≡ Err fault → revoke_line w number draft asks ≡ Err fault
revoke_draft w number draft asks fault h0 h = behind (named 1 (owner_at w number)) _ fault h0 (λ me is0. first (named 2 (draft_at w draft)) _ fault h)

pub revoke_asks : (w : World) (number draft : ℕ) (asks : List ℕ) (fault : WorldFault)
    → is_ok (named 1 (owner_at w number)) ≡ true → is_ok (named 2 (draft_at w draft)) ≡ true → known_asks w 3 asks ≡ Err fault → revoke_line w number draft asks ≡ Err fault
revoke_asks w number draft asks fault h0 h1 h = behind (named 1 (owner_at w number)) _ fault h0 (λ me is0. behind (named 2 (draft_at w draft)) _ fault h1 (λ old is1. first (known_asks w 3 asks) _ fault h))

pub revoke_room : (w : World) (number draft : ℕ) (asks : List ℕ) (fault : WorldFault)
    → is_ok (named 1 (owner_at w number)) ≡ true → is_ok (named 2 (draft_at w draft)) ≡ true → known_asks w 3 asks ≡ Ok tt → draft_room w ≡ Err fault → revoke_line w number draft asks ≡ Err fault
revoke_room w number draft asks fault h0 h1 h2 h = behind (named 1 (owner_at w number)) _ fault h0 (λ me is0. behind (named 2 (draft_at w draft)) _ fault h1 (λ old is1. behind (known_asks w 3 asks) _ fault (fine (known_asks w 3 asks) tt h2) (λ known is2. first (draft_room w) _ fault h)))

pub ruleset revoke_refusals = (revoke_owner, revoke_draft, revoke_asks, revoke_room)

-- ---- `handover`

pub handover_owner : (w : World) (number draft : ℕ) (fault : WorldFault)
    → named 1 (owner_at w number) ≡ Err fault → handover_line w number draft ≡ Err fault
handover_owner w number draft fault h = first (named 1 (owner_at w number)) _ fault h

pub handover_draft : (w : World) (number draft : ℕ) (fault : WorldFault)
    → is_ok (named 1 (owner_at w number)) ≡ true → named 2 (draft_at w draft) ≡ Err fault → handover_line w number draft ≡ Err fault
handover_draft w number draft fault h0 h = behind (named 1 (owner_at w number)) _ fault h0 (λ me is0. first (named 2 (draft_at w draft)) _ fault h)

pub ruleset handover_refusals = (handover_owner, handover_draft)

-- ---- `object`

pub object_owner : (w : World) (number draft : ℕ) (fault : WorldFault)
    → named 1 (owner_at w number) ≡ Err fault → object_line w number draft ≡ Err fault
object_owner w number draft fault h = first (named 1 (owner_at w number)) _ fault h

pub object_draft : (w : World) (number draft : ℕ) (fault : WorldFault)
    → is_ok (named 1 (owner_at w number)) ≡ true → named 2 (draft_at w draft) ≡ Err fault → object_line w number draft ≡ Err fault
object_draft w number draft fault h0 h = behind (named 1 (owner_at w number)) _ fault h0 (λ me is0. first (named 2 (draft_at w draft)) _ fault h)

pub object_room : (w : World) (number draft : ℕ) (fault : WorldFault)
    → is_ok (named 1 (owner_at w number)) ≡ true → is_ok (named 2 (draft_at w draft)) ≡ true → room w ≡ Err fault → object_line w number draft ≡ Err fault
object_room w number draft fault h0 h1 h = behind (named 1 (owner_at w number)) _ fault h0 (λ me is0. behind (named 2 (draft_at w draft)) _ fault h1 (λ old is1. first (room w) _ fault h))

pub ruleset object_refusals = (object_owner, object_draft, object_room)

-- ---- `submit`

-- the draft is found at its place, and its owner at its own
pub submit_draft : (w : World) (draft : ℕ) (fault : WorldFault) → named 1 (draft_at w draft) ≡ Err fault → submit_line w draft ≡ Err fault
submit_draft w draft fault h = first (named 1 (draft_at w draft)) _ fault h

pub submit_owner : (w : World) (draft : ℕ) (found : Drafted) (fault : WorldFault) → draft_at w draft ≡ Some found → named 1 (owner_at w found.owner) ≡ Err fault → submit_line w draft ≡ Err fault
submit_owner w draft found fault there h = rw there (first (named 1 (owner_at w found.owner)) _ fault h)

pub submit_room : (w : World) (draft : ℕ) (found : Drafted) (fault : WorldFault) → draft_at w draft ≡ Some found → is_ok (named 1 (owner_at w found.owner)) ≡ true → room w ≡ Err fault
    → submit_line w draft ≡ Err fault
submit_room w draft found fault there o h = rw there (behind (named 1 (owner_at w found.owner)) _ fault o (λ me is. first (room w) _ fault h))

pub ruleset submit_refusals = (draft_is_at, submit_draft, submit_owner, submit_room)
