-- Lines of keys, one after another.
use Rattle.std.proofs.Common.{◌≡◌, ℕ, ◌+◌, ◌-◌, ◌<◌, ◌≤◌, List, [], ◌∷◌, ◌++◌, Ok, Err, refl, sym, ap, ◌∙◌, append_assoc, add-one, arith}
use Rattle.std.proofs.lemmas.List.{append-nil}
use Rattle.lms_tree.specs.declared.public_key.LmsPublic.{LmsPublic}
use Rattle.arpki_ask.specs.Inquiries.{key_in_line, keys_at}
use Rattle.ar_base.specs.Chaining.{◌>>=◌}
use Rattle.ar_lines.specs.Readings.{LineCursor, LineReading}
use Rattle.ar_lines.specs.declared.refusal.LineFault.{LineFault}
use Rattle.ar_lines.proofs.Faults.{GivesUp, gives_up-behind}

-- what is read behind the keys in front
abbrev pub with_front : List LmsPublic → LineReading (List LmsPublic) → LineReading (List LmsPublic)
with_front front read = read >>= λ x. Ok (front ++ x.0, x.1)

keys-none : (count : ℕ) (at : LineCursor) → count ≡ 0 → keys_at count at ≡ Ok ([], at)
unfolding keys_at
keys-none count at e = rw e refl

keys-more : (count more : ℕ) (at : LineCursor) → count ≡ more + 1 → keys_at count at ≡ (key_in_line at >>= λ key. with_front (key.0 ∷ []) (keys_at more key.1))
unfolding keys_at
keys-more count more at e = rw (e, add-one) refl

with_front-front : (front more : List LmsPublic) (read : LineReading (List LmsPublic)) → with_front front (with_front more read) ≡ with_front (front ++ more) read
with_front-front front more (Ok x) = ap (λ l. Ok (l, x.1)) (sym (append_assoc front more x.0))
with_front-front front more (Err refusal) = refl

-- the loop's next key
pub key_more : (front : List LmsPublic) (count i : ℕ) (at new : LineCursor) (x : LmsPublic) (all : LineReading (List LmsPublic)) → i < count → key_in_line at ≡ Ok (x, new) → with_front front (keys_at (count - i) at) ≡ all → with_front (front ++ x ∷ []) (keys_at (count - (i + 1)) new) ≡ all
key_more front count i at new x all lt read so_far =
    let rest = keys_at (count - (i + 1)) new in
    let step = keys-more (count - i) (count - (i + 1)) at (omega arith) in
    let here : keys_at (count - i) at ≡ with_front (x ∷ []) rest = rw (step, read) refl in
    sym (with_front-front front (x ∷ []) rest) ∙ ap (λ (r : LineReading (List LmsPublic)). with_front front r) (sym here) ∙ so_far

-- the loop's key that is refused, or finds no memory
pub key_gives_up : (front : List LmsPublic) (count i : ℕ) (at : LineCursor) (fault : LineFault) (all : LineReading (List LmsPublic)) → i < count → GivesUp fault (key_in_line at) → with_front front (keys_at (count - i) at) ≡ all → GivesUp fault all
key_gives_up front count i at fault all lt fails so_far =
    let step = keys-more (count - i) (count - (i + 1)) at (omega arith) in
    gives_up-behind (key_in_line at) _ _ all fault fails (sym so_far ∙ ap (λ (r : LineReading (List LmsPublic)). with_front front r) step)

-- the loop's end
pub keys_all : (front : List LmsPublic) (count i : ℕ) (at : LineCursor) (all : LineReading (List LmsPublic)) → count ≤ i → with_front front (keys_at (count - i) at) ≡ all → all ≡ Ok (front, at)
keys_all front count i at all le so_far =
    let here = keys-none (count - i) at (omega arith) in
    sym so_far ∙ ap (λ (r : LineReading (List LmsPublic)). with_front front r) here ∙ ap (λ (l : List LmsPublic). Ok (l, at)) (append-nil front)

pub ruleset key_lines = (key_more, key_gives_up, keys_all)
