-- Lines of challenges, one after another.
use Rattle.std.proofs.Common.{◌≡◌, ℕ, ◌+◌, ◌-◌, ◌<◌, ◌≤◌, true, false, if◌then◌else◌, List, [], ◌∷◌, ◌++◌, codes, Result, Ok, Err, refl, sym, ap, ◌∙◌, append_assoc, add-one, arith}
use Rattle.ar_base.specs.Chaining.{◌>>=◌}
use Rattle.ar_base.specs.Gives.{with_error}
use Rattle.ar_lines.specs.Forms.{sized_of_hex}
use Rattle.ar_lines.specs.Readings.{LineCursor, spelled}
use Rattle.ar_lines.specs.Rows.{field_at}
use Rattle.ar_lines.specs.declared.refusal.LineFault.{LineFault}
use Rattle.ar_lines.specs.declared.refusal.LineFault.TheVariants.{Refused}
use Rattle.ar_lines.specs.declared.refusal.Refusal.{Refusal}
use Rattle.ar_lines.proofs.Faults.{GivesUp, gives_up-behind, gives_up-chained}
use Rattle.serve_run.specs.Reading.{are_none, bytes_at, challenges_at, most_challenges, one_too_many_at, service_at}
use Rattle.arpki_ask.specs.Inquiries.{name_at}

-- what is read behind the challenges in front
abbrev pub behind_front : List (List ℕ) → Result (List (List ℕ)) Refusal → Result (List (List ℕ)) Refusal
behind_front front read = read >>= λ others. Ok (front ++ others)

abbrev rest_at : ℕ → LineCursor → Result (List (List ℕ)) Refusal
rest_at more at = if are_none at.ahead then Ok [] else challenges_at more at

challenges-more : (count more : ℕ) (at : LineCursor) → count ≡ more + 1 → challenges_at count at ≡ (bytes_at (codes "challenge") at >>= λ challenge. behind_front (challenge.0 ∷ []) (rest_at more challenge.1))
unfolding challenges_at
challenges-more count more at e = rw (e, add-one) refl

challenges-none : (count : ℕ) (at : LineCursor) → count ≡ 0 → challenges_at count at ≡ one_too_many_at at
unfolding challenges_at
challenges-none count at e = rw e refl

front-front : (front more : List (List ℕ)) (read : Result (List (List ℕ)) Refusal) → behind_front front (behind_front more read) ≡ behind_front (front ++ more) read
front-front front more (Ok x) = ap Ok (sym (append_assoc front more x))
front-front front more (Err refusal) = refl

-- a reading that never gives anything is not changed by what is in front
front-refused : {A : Type 0} (front : List (List ℕ)) (r : Result A Refusal) (f : A → Result (List (List ℕ)) Refusal) → ((x : A) → behind_front front (f x) ≡ f x) → behind_front front (r >>= f) ≡ (r >>= f)
front-refused front (Ok x) f h = h x
front-refused front (Err refusal) f h = refl

too_many_alone : (front : List (List ℕ)) (at : LineCursor) → behind_front front (one_too_many_at at) ≡ one_too_many_at at
unfolding one_too_many_at
too_many_alone front at =
    front-refused front (field_at (codes "challenge") at) _ (λ field. front-refused front (spelled field.0 (sized_of_hex 32 field.0.text)) _ (λ challenge. refl))

-- the loop's next challenge, with lines behind it
pub challenge_more : (front : List (List ℕ)) (i : ℕ) (at new : LineCursor) (x : List ℕ) (all : Result (List (List ℕ)) Refusal) → i < 64 → bytes_at (codes "challenge") at ≡ Ok (x, new) → are_none new.ahead ≡ false → behind_front front (challenges_at (64 - i) at) ≡ all → behind_front (front ++ x ∷ []) (challenges_at (64 - (i + 1)) new) ≡ all
challenge_more front i at new x all lt read more so_far =
    let rest = challenges_at (64 - (i + 1)) new in
    let step = challenges-more (64 - i) (64 - (i + 1)) at (omega arith) in
    let here : challenges_at (64 - i) at ≡ behind_front (x ∷ []) rest = rw (step, read, more) refl in
    sym (front-front front (x ∷ []) rest) ∙ ap (λ (r : Result (List (List ℕ)) Refusal). behind_front front r) (sym here) ∙ so_far

-- the loop's last challenge
pub challenge_last : (front : List (List ℕ)) (i : ℕ) (at new : LineCursor) (x : List ℕ) (all : Result (List (List ℕ)) Refusal) → i < 64 → bytes_at (codes "challenge") at ≡ Ok (x, new) → are_none new.ahead ≡ true → behind_front front (challenges_at (64 - i) at) ≡ all → all ≡ Ok (front ++ x ∷ [])
challenge_last front i at new x all lt read none so_far =
    let step = challenges-more (64 - i) (64 - (i + 1)) at (omega arith) in
    let here : challenges_at (64 - i) at ≡ Ok (x ∷ []) = rw (step, read, none) refl in
    sym so_far ∙ ap (λ (r : Result (List (List ℕ)) Refusal). behind_front front r) here

-- the loop's challenge that is refused, or finds no memory
pub challenge_gives_up : (front : List (List ℕ)) (i : ℕ) (at : LineCursor) (fault : LineFault) (all : Result (List (List ℕ)) Refusal) → i < 64 → GivesUp fault (bytes_at (codes "challenge") at) → behind_front front (challenges_at (64 - i) at) ≡ all → GivesUp fault all
challenge_gives_up front i at fault all lt fails so_far =
    let step = challenges-more (64 - i) (64 - (i + 1)) at (omega arith) in
    gives_up-behind (bytes_at (codes "challenge") at) _ _ all fault fails (sym so_far ∙ ap (λ (r : Result (List (List ℕ)) Refusal). behind_front front r) step)

-- the loop's end: one challenge is too many
pub challenges_too_many : (front : List (List ℕ)) (i : ℕ) (at : LineCursor) (all : Result (List (List ℕ)) Refusal) → 64 ≤ i → behind_front front (challenges_at (64 - i) at) ≡ all → one_too_many_at at ≡ all
challenges_too_many front i at all le so_far =
    let here = challenges-none (64 - i) at (omega arith) in
    sym (too_many_alone front at) ∙ ap (λ (r : Result (List (List ℕ)) Refusal). behind_front front r) (sym here) ∙ so_far

pub ruleset challenge_lines = (challenge_more, challenge_last, challenge_gives_up, challenges_too_many)

-- what was read, where memory is taken for it
read_ok : {A : Type 0} (r : Result A Refusal) (x : A) → with_error Refused r ≡ Ok x → r ≡ Ok x
read_ok (Ok y) x e = cc
read_ok (Err refusal) x e = absurd cc

service_read : (at l1 l2 l3 : LineCursor) (secret name certificate : List ℕ) → bytes_at (codes "secret") at ≡ Ok (secret, l1) → with_error Refused (name_at l1) ≡ Ok (name, l2) → bytes_at (codes "certificate") l2 ≡ Ok (certificate, l3)
    → service_at at ≡ (challenges_at most_challenges l3 >>= λ challenges. Ok (record { secret = secret; name = name; certificate = certificate; challenges = challenges }))
unfolding service_at
service_read at l1 l2 l3 secret name certificate first second third =
    let named = read_ok (name_at l1) (name, l2) second in
    rw (first, named, third) refl

-- the whole service is read
pub service_ok : (at l1 l2 l3 : LineCursor) (secret name certificate : List ℕ) (challenges : List (List ℕ)) → bytes_at (codes "secret") at ≡ Ok (secret, l1) → with_error Refused (name_at l1) ≡ Ok (name, l2) → bytes_at (codes "certificate") l2 ≡ Ok (certificate, l3)
    → with_error Refused (challenges_at most_challenges l3) ≡ Ok challenges
    → with_error Refused (service_at at) ≡ Ok (record { secret = secret; name = name; certificate = certificate; challenges = challenges })
service_ok at l1 l2 l3 secret name certificate challenges first second third fourth =
    let front = service_read at l1 l2 l3 secret name certificate first second third in
    let last = read_ok (challenges_at most_challenges l3) challenges fourth in
    rw (front, last) refl

-- a challenge is refused, or finds no memory
pub service_gives_up : (at l1 l2 l3 : LineCursor) (secret name certificate : List ℕ) (fault : LineFault) → bytes_at (codes "secret") at ≡ Ok (secret, l1) → with_error Refused (name_at l1) ≡ Ok (name, l2) → bytes_at (codes "certificate") l2 ≡ Ok (certificate, l3)
    → GivesUp fault (challenges_at most_challenges l3) → GivesUp fault (service_at at)
service_gives_up at l1 l2 l3 secret name certificate fault first second third fails =
    let front = service_read at l1 l2 l3 secret name certificate first second third in
    rw front (gives_up-chained (challenges_at most_challenges l3) _ fault fails)
