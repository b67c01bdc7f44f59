-- How many workers the words ask for: from 1 to 16.
use Rattle.std.proofs.Common.{◌≡◌, ℕ, ◌<◌, ◌≤◌, cond, Bool, true, false, if◌then◌else◌, List, [], ◌∷◌, codes, Option, Some, None, IfSome, refl, subst, sym, arith}
use Rattle.std.specs.Prelude.{option_map}
use Rattle.std.proofs.lemmas.Bool.Decides.{nat_tests}
use Rattle.std.proofs.lemmas.Map.Entries.{option_filter}
use Rattle.std.specs.Str.{bytes_eq}
use Rattle.ar_base.specs.Ranges.{is_from_to}
use Rattle.ar_lines.specs.Forms.{number_in, number_of}
use Rattle.crowd_run.specs.Program.{HasWorkers, request_of, workers_of}
use Rattle.crowd_run.specs.declared.request.Request.{Request}
use Rattle.crowd_run.specs.declared.request.Request.TheVariants.{Crowd, Serve}

kept_within : (n : ℕ) (b : Bool) → is_from_to 1 16 n ≡ b → IfSome (cond b (Some n) None) (λ workers. (0 < workers) × (workers ≤ 16))
kept_within n true e = (grind (arith, nat_tests), grind (arith, nat_tests))
kept_within n false e = tt

filtered_within : (number : Option ℕ) → IfSome (option_filter (is_from_to 1 16) number) (λ workers. (0 < workers) × (workers ≤ 16))
filtered_within None = tt
filtered_within (Some n) = kept_within n (is_from_to 1 16 n) refl

number_within : (word : List ℕ) → IfSome (workers_of word) (λ workers. (0 < workers) × (workers ≤ 16))
unfolding number_in
number_within word = filtered_within (number_of word)

asked_within : (asks : ℕ → Request) (number : Option ℕ) → ((n : ℕ) → (0 < n) × (n ≤ 16) → HasWorkers (asks n)) → IfSome number (λ workers. (0 < workers) × (workers ≤ 16))
    → IfSome (option_map asks number) HasWorkers
asked_within asks None has within = tt
asked_within asks (Some n) has within = has n within

two_within : (crowd serve : Bool) (word : List ℕ)
    → IfSome (if crowd then option_map Crowd (workers_of word) else (if serve then option_map Serve (workers_of word) else None)) HasWorkers
two_within true serve word = asked_within Crowd (workers_of word) (λ n within. within) (number_within word)
two_within false true word = asked_within Serve (workers_of word) (λ n within. within) (number_within word)
two_within false false word = tt

all_within : (words : List (List ℕ)) → IfSome (request_of words) HasWorkers
all_within [] = tt
all_within (name ∷ []) = tt
all_within (name ∷ number ∷ []) = two_within (bytes_eq name (codes "crowd")) (bytes_eq name (codes "serve")) number
all_within (name ∷ number ∷ next ∷ more) = tt

pub words_within : (words : List (List ℕ)) (result : Option Request) → result ≡ request_of words → IfSome result HasWorkers
words_within words result is = subst (λ r. IfSome r HasWorkers) (sym is) (all_within words)
