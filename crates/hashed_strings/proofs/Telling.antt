-- Each change of a log is told: it is in its ranges, and its name is among those of its changes.
use Rattle.std.proofs.Common.{◌≡◌, ℕ, List, [], ◌∷◌, ◌++◌, map, refl, sym, subst, inl, inr, get_or, length, ◌<◌, arith, suc, zero}
use Rattle.std.specs.Prelude.{All, flat_map}
use Rattle.ar_base.specs.Apart.{IsIn}
use Rattle.ar_base.proofs.Apart.{in_front, in_rest}
use Rattle.ar_cert.specs.Changes.{Change, IsChange}
use Rattle.epoch_log.specs.declared.entries.Ended.{Ended}
use Rattle.epoch_log.specs.declared.entries.Voted.{Voted}
use Rattle.hashed_strings.specs.Made.{EachTold, Tells, changes_in}

-- the name of a change is among those of all
named : (changes : List Change) (k : ℕ) (d : Change) → k < length changes → IsIn (map (λ c. c.cert.name) changes) (get_or changes k d).cert.name
named [] k d within = absurd (omega (arith, within))
named (c ∷ changes) zero d within = inl refl
named (c ∷ changes) (suc k) d within = inr (named changes k d (omega (arith, within)))

-- and of each element that has changes
pub all-tell : {X : Type 0} (changes : X → List Change) (xs : List X) (k : ℕ) (d : X) → k < length xs
    → (j : ℕ) (e : Change) → j < length (changes (get_or xs k d)) → IsIn (flat_map (λ x. map (λ c. c.cert.name) (changes x)) xs) (get_or (changes (get_or xs k d)) j e).cert.name
all-tell changes [] k d within j e less = absurd (omega (arith, within))
all-tell changes (x ∷ xs) zero d within j e less =
    in_front (map (λ c. c.cert.name) (changes x)) (flat_map (λ x. map (λ c. c.cert.name) (changes x)) xs) _ (named (changes x) j e less)
all-tell changes (x ∷ xs) (suc k) d within j e less =
    in_rest (map (λ c. c.cert.name) (changes x)) (flat_map (λ x. map (λ c. c.cert.name) (changes x)) xs) _ (all-tell changes xs k d (omega (arith, within)) j e less)

-- so each of them is told by all names
pub each-tells : {X : Type 0} (changes : X → List Change) (xs : List X) (names : List (List ℕ)) → All (λ x. All IsChange (changes x)) xs
    → ((name : List ℕ) → IsIn (flat_map (λ x. map (λ c. c.cert.name) (changes x)) xs) name → IsIn names name) → All (λ x. All (Tells names) (changes x)) xs
each-tells changes xs names are within k d less j e inside = (are k d less j e inside, within _ (all-tell changes xs k d less j e inside))

pub tell-ended : (names first : List (List ℕ)) (ended : List Ended) → All (λ x. All IsChange (changes_in x.how)) ended
    → names ≡ first ++ flat_map (λ x. map (λ c. c.cert.name) (changes_in x.how)) ended → EachTold names ended
tell-ended names first ended are is =
    each-tells (λ (x : Ended). changes_in x.how) ended names are (λ name there. subst (λ all. IsIn all name) (sym is) (in_rest first (flat_map (λ (x : Ended). map (λ c. c.cert.name) (changes_in x.how)) ended) name there))

pub tell-voted : (names first none rest : List (List ℕ)) (voted : List Voted) → All (λ v. All IsChange v.changes) voted
    → first ≡ none ++ flat_map (λ v. map (λ c. c.cert.name) v.changes) voted → names ≡ first ++ rest → All (λ v. All (Tells names) v.changes) voted
tell-voted names first none rest voted are is all =
    each-tells (λ (v : Voted). v.changes) voted names are (λ name there. subst (λ every. IsIn every name) (sym all)
    (in_front first rest name (subst (λ some. IsIn some name) (sym is) (in_rest none (flat_map (λ (v : Voted). map (λ c. c.cert.name) v.changes) voted) name there))))

pub ruleset tell_steps = (tell-ended, tell-voted)
