-- Lines that are put behind others, one after the other.
use Rattle.std.proofs.Common.{◌≡◌, inl, inr, ℕ, zero, suc, ◌+◌, ◌<◌, ◌≤◌, List, [], ◌∷◌, ◌++◌, Vec, Global, length, map, drop, refl, sym, ap, ◌∙◌, append_assoc, append-nil, arith, Option, Some, None}
use Rattle.std.specs.Prelude.{slice_get, slice_index_or}
use Rattle.std.specs.Option.{option_map}
use Rattle.std.proofs.lemmas.List.{map-append}
use Rattle.lms_tree.specs.declared.public_key.LmsPublic.{LmsPublic}
use Rattle.script_play.specs.ar_nodes.Pool.{Pooled, numbered}
use Rattle.ar_run.specs.Answers.{bytes_of}
use Rattle.script_play.specs.ar_world.declared.cause.Cause.{Cause}
use Rattle.script_play.specs.Played.{run_status}
use Rattle.run_messages.specs.Telling.{IsScriptStatus, first_line, first_lines, line_at, message_lines}

-- ---- one behind the others

pub one_behind : (before after : List (Vec ℕ Global)) (line : Vec ℕ Global) → after ≡ before ++ line ∷ []
    → map bytes_of after ≡ map bytes_of before ++ line.items ∷ []
one_behind before after line is = ap (map bytes_of) is ∙ map-append bytes_of before (line ∷ [])

-- what is behind what is behind the first
pub behind-two : {X : Type 0} (first some more between after : List X) → between ≡ first ++ some → after ≡ between ++ more → after ≡ first ++ (some ++ more)
behind-two first some more between after one two = two ∙ ap (λ xs. xs ++ more) one ∙ append_assoc first some more

-- what a directory puts, one behind the other
pub directory-told : {X : Type 0} (old first second third fourth some more : List X) (one other : X) → first ≡ old ++ one ∷ [] → second ≡ first ++ some
    → third ≡ second ++ other ∷ [] → fourth ≡ third ++ more → fourth ≡ old ++ (one ∷ (some ++ (other ∷ more)))
directory-told old first second third fourth some more one other a b c d =
    d ∙ ap (λ xs. xs ++ more) (c ∙ ap (λ xs. xs ++ other ∷ []) (b ∙ ap (λ xs. xs ++ some) a ∙ append_assoc old (one ∷ []) some))
    ∙ ap (λ xs. xs ++ more) (append_assoc old (one ∷ some) (other ∷ []))
    ∙ append_assoc old (one ∷ (some ++ other ∷ [])) more
    ∙ ap (λ xs. old ++ one ∷ xs) (append_assoc some (other ∷ []) more)

-- ---- the rest of a list

drop-all : {X : Type 0} (xs : List X) (k : ℕ) → length xs ≤ k → drop k xs ≡ []
drop-all [] zero le = refl
drop-all [] (suc k) le = refl
drop-all (x ∷ xs) zero le = absurd (omega (arith, le))
drop-all (x ∷ xs) (suc k) le = drop-all xs k (omega (arith, le))

-- what comes of one more, and then of the rest, behind what was there
on : {X : Type 0} (before after one rest whole : List X) → after ≡ before ++ one → one ++ rest ≡ whole → after ++ rest ≡ before ++ whole
on before after one rest whole is both = ap (λ xs. xs ++ rest) is ∙ append_assoc before one rest ∙ ap (λ xs. before ++ xs) both

-- ---- keys

key-at : (lists : List (List LmsPublic)) (place : ℕ) → place < length lists
    → first_line (slice_get (slice_index_or lists place []) 0) ++ first_lines (drop (suc place) lists) ≡ first_lines (drop place lists)
key-at [] place lt = absurd (omega (arith, lt))
key-at (keys ∷ lists) zero lt = refl
key-at (keys ∷ lists) (suc place) lt = key-at lists place (omega (arith, lt))

-- one party's line more
pub key-next : (lists : List (List LmsPublic)) (place : ℕ) (before after : List (List ℕ)) → place < length lists
    → after ≡ before ++ first_line (slice_get (slice_index_or lists place []) 0)
    → after ++ first_lines (drop (place + 1) lists) ≡ before ++ first_lines (drop place lists)
key-next lists place before after lt is =
    let one : place + 1 ≡ suc place = omega arith in
    on before after (first_line (slice_get (slice_index_or lists place []) 0)) (first_lines (drop (place + 1) lists)) (first_lines (drop place lists)) is
    (ap (λ n. first_line (slice_get (slice_index_or lists place []) 0) ++ first_lines (drop n lists)) one ∙ key-at lists place lt)

-- all of them
pub key-all : (lists : List (List LmsPublic)) (place : ℕ) (lines all : List (List ℕ)) → length lists ≤ place
    → lines ++ first_lines (drop place lists) ≡ all → lines ≡ all
key-all lists place lines all over is =
    sym (append-nil lines) ∙ ap (λ xs. lines ++ first_lines xs) (sym (drop-all lists place over)) ∙ is

pub ruleset key_laws = (key-next, key-all)

-- ---- messages

message-at : (pool : List Pooled) (place number : ℕ) → place < length pool
    → line_at number (option_map (λ p. p.bytes) (slice_get pool place)) ++ message_lines (number + 1) (drop (suc place) pool) ≡ message_lines number (drop place pool)
message-at [] place number lt = absurd (omega (arith, lt))
message-at (p ∷ pool) zero number lt = refl
message-at (p ∷ pool) (suc place) number lt = message-at pool place number (omega (arith, lt))

-- one message's line more
pub message-next : (pool : List Pooled) (place : ℕ) (before after : List (List ℕ)) → place < length pool
    → after ≡ before ++ line_at (place + 1) (option_map (λ p. p.bytes) (numbered pool (place + 1)))
    → after ++ message_lines (place + 1 + 1) (drop (place + 1) pool) ≡ before ++ message_lines (place + 1) (drop place pool)
message-next pool place before after lt is =
    let one : place + 1 ≡ suc place = omega arith in
    let line = λ (n : ℕ). line_at (place + 1) (option_map (λ p. p.bytes) (numbered pool n)) in
    on before after (line (suc place)) (message_lines (place + 1 + 1) (drop (place + 1) pool)) (message_lines (place + 1) (drop place pool))
    (is ∙ ap (λ n. before ++ line n) one)
    (ap (λ n. line (suc place) ++ message_lines (place + 1 + 1) (drop n pool)) one ∙ message-at pool place (place + 1) lt)

-- all of them
pub message-all : (pool : List Pooled) (place : ℕ) (lines all : List (List ℕ)) → length pool ≤ place
    → lines ++ message_lines (place + 1) (drop place pool) ≡ all → lines ≡ all
message-all pool place lines all over is =
    sym (append-nil lines) ∙ ap (λ xs. lines ++ message_lines (place + 1) xs) (sym (drop-all pool place over)) ∙ is

pub ruleset message_laws = (message-next, message-all)

-- ---- the status

pub script-status : (refused : Option (ℕ × Cause)) → IsScriptStatus (run_status refused)
script-status None = inl refl
script-status (Some refusal) = inr refl

pub ruleset behind_laws = (behind-two, script-status)
