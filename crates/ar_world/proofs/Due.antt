-- Which delivery is due next, found message by message and log by log.
use Rattle.std.proofs.Common.{◌≡◌, ℕ, ◌+◌, ◌-◌, ◌<◌, ◌≤◌, zero, suc, Bool, true, false, not, ◌&&◌, cond, List, [], ◌∷◌, drop, length, get_or, Option, Some, None, refl, sym, ap, ◌∙◌, arith}
use Rattle.std.specs.Prelude.{filter, find, map}
use Rattle.std.specs.List.{range_with_len}
use Rattle.ar_statement.specs.declared.party.Party.{Party}
use Rattle.ar_statement.specs.Claims.{log_party}
use Rattle.report_text.specs.declared.happening.Target.TheVariants.{Logs}
use Rattle.ar_world.specs.Delivering.{addressed, due_from, due_or, due_to, is_due, is_sender}
use Rattle.ar_nodes.specs.Pool.{Pooled}
use Rattle.ar_world.specs.State.{World}

-- ---- one party

-- a message is due once
pub had_already : (takes had : Bool) → had ≡ true → false ≡ (takes && not had)
had_already true true e = refl
had_already false true e = refl
had_already takes false e = absurd cc

pub never_had : (takes had result : Bool) → had ≡ false → result ≡ takes → result ≡ (takes && not had)
never_had true false result e is = is
never_had false false result e is = is
never_had takes true result e is = absurd cc

pub ruleset due_once = (had_already, never_had)

-- ---- messages

-- from one message on
due-here : (w : World) (n i : ℕ) (pool : List Pooled) (p : Pooled) → i < length pool → get_or pool i p ≡ p
    → due_from w n (drop i pool) ≡ due_or n (due_to w p) (due_from w (n + 1) (drop (i + 1) pool))
unfolding due_from
due-here w n i [] p inside is = absurd (omega (arith, inside))
due-here w n zero (q ∷ pool) p inside is =
    ap (λ (x : Pooled). due_or n (due_to w x) (due_from w (n + 1) pool)) is
    ∙ ap (λ j. due_or n (due_to w p) (due_from w (n + 1) (drop j (q ∷ pool)))) (let e : suc zero ≡ zero + 1 = omega arith in e)
due-here w n (suc i) (q ∷ pool) p inside is =
    due-here w n i pool p (omega (arith, inside)) is
    ∙ ap (λ j. due_or n (due_to w p) (due_from w (n + 1) (drop j (q ∷ pool)))) (let e : suc (i + 1) ≡ suc i + 1 = omega arith in e)

due-none : (w : World) (n i : ℕ) (pool : List Pooled) → length pool ≤ i → due_from w n (drop i pool) ≡ None
unfolding due_from
due-none w n zero [] past = refl
due-none w n (suc i) [] past = refl
due-none w n zero (q ∷ pool) past = absurd (omega (arith, past))
due-none w n (suc i) (q ∷ pool) past = due-none w n i pool (omega (arith, past))

-- the search for the first that is due, at a place up to which none is
pub due_found : (w : World) (i : ℕ) (pool : List Pooled) (p : Pooled) (who : Party) (first : Option (ℕ × Party)) → i < length pool → get_or pool i p ≡ p
    → due_from w (i + 1) (drop i pool) ≡ first → Some who ≡ due_to w p → Some (i + 1, who) ≡ first
due_found w i pool p who first inside is so due =
    ap (λ o. due_or (i + 1) o (due_from w (i + 1 + 1) (drop (i + 1) pool))) due ∙ sym (due-here w (i + 1) i pool p inside is) ∙ so

pub due_later : (w : World) (i : ℕ) (pool : List Pooled) (p : Pooled) (first : Option (ℕ × Party)) → i < length pool → get_or pool i p ≡ p
    → due_from w (i + 1) (drop i pool) ≡ first → None ≡ due_to w p → due_from w (i + 1 + 1) (drop (i + 1) pool) ≡ first
due_later w i pool p first inside is so due =
    ap (λ o. due_or (i + 1) o (due_from w (i + 1 + 1) (drop (i + 1) pool))) due ∙ sym (due-here w (i + 1) i pool p inside is) ∙ so

pub due_none : (w : World) (i : ℕ) (pool : List Pooled) (first : Option (ℕ × Party)) → length pool ≤ i → due_from w (i + 1) (drop i pool) ≡ first → None ≡ first
due_none w i pool first past so = sym (due-none w (i + 1) i pool past) ∙ so

pub ruleset due_messages = (due_found, due_later, due_none)

-- ---- logs

-- a message to all logs is due to this one, which did not send it
abbrev pub is_due_other : World → Pooled → Party → Bool
is_due_other w p who = not (is_sender p.from who) && is_due w p who

-- the first of so many logs to which it is due, of those from a number on
abbrev pub due_logs : World → Pooled → ℕ → ℕ → Option Party
due_logs w p i n = find (is_due w p) (filter (λ who. not (is_sender p.from who)) (map log_party (range_with_len i n)))

one-found : (d t : Party → Bool) (x : Party) (xs : List Party) → (t x && d x) ≡ true → find d (filter t (x ∷ xs)) ≡ Some x
one-found d t x xs e = at (t x) (d x) e refl refl where
  at : (a b : Bool) → (a && b) ≡ true → t x ≡ a → d x ≡ b → find d (cond (t x) (x ∷ filter t xs) (filter t xs)) ≡ Some x
  at true true e f g = ap (λ c. find d (cond c (x ∷ filter t xs) (filter t xs))) f ∙ ap (λ c. cond c (Some x) (find d (filter t xs))) g
  at true false e f g = absurd cc
  at false b e f g = absurd cc

one-skipped : (d t : Party → Bool) (x : Party) (xs : List Party) → (t x && d x) ≡ false → find d (filter t (x ∷ xs)) ≡ find d (filter t xs)
one-skipped d t x xs e = at (t x) (d x) e refl refl where
  at : (a b : Bool) → (a && b) ≡ false → t x ≡ a → d x ≡ b → find d (cond (t x) (x ∷ filter t xs) (filter t xs)) ≡ find d (filter t xs)
  at true true e f g = absurd cc
  at true false e f g = ap (λ c. find d (cond c (x ∷ filter t xs) (filter t xs))) f ∙ ap (λ c. cond c (Some x) (find d (filter t xs))) g
  at false b e f g = ap (λ c. find d (cond c (x ∷ filter t xs) (filter t xs))) f

-- the search, at a number below which none is
log-found : (w : World) (p : Pooled) (count i : ℕ) → i < count → is_due_other w p (log_party i) ≡ true → due_logs w p i (count - i) ≡ Some (log_party i)
log-found w p count i inside due =
    ap (due_logs w p i) (let e : count - i ≡ suc (count - (i + 1)) = omega (arith, inside) in e)
    ∙ one-found (is_due w p) (λ who. not (is_sender p.from who)) (log_party i) (map log_party (range_with_len (i + 1) (count - (i + 1)))) due

log-later : (w : World) (p : Pooled) (count i : ℕ) → i < count → is_due_other w p (log_party i) ≡ false → due_logs w p i (count - i) ≡ due_logs w p (i + 1) (count - (i + 1))
log-later w p count i inside due =
    ap (due_logs w p i) (let e : count - i ≡ suc (count - (i + 1)) = omega (arith, inside) in e)
    ∙ one-skipped (is_due w p) (λ who. not (is_sender p.from who)) (log_party i) (map log_party (range_with_len (i + 1) (count - (i + 1)))) due

pub log_found : (w : World) (p : Pooled) (count i : ℕ) (who : Party) → i < count → who ≡ log_party i → due_logs w p i (count - i) ≡ due_logs w p 0 count
    → is_due_other w p who ≡ true → Some who ≡ find (is_due w p) (addressed count p.from Logs)
log_found w p count i who inside is so due =
    ap (λ x. Some x) is ∙ sym (log-found w p count i inside (ap (is_due_other w p) (sym is) ∙ due)) ∙ so

pub log_later : (w : World) (p : Pooled) (count i : ℕ) (who : Party) → i < count → who ≡ log_party i → due_logs w p i (count - i) ≡ due_logs w p 0 count
    → is_due_other w p who ≡ false → due_logs w p (i + 1) (count - (i + 1)) ≡ due_logs w p 0 count
log_later w p count i who inside is so due = sym (log-later w p count i inside (ap (is_due_other w p) (sym is) ∙ due)) ∙ so

pub log_none : (w : World) (p : Pooled) (count i : ℕ) → count ≤ i → due_logs w p i (count - i) ≡ due_logs w p 0 count
    → None ≡ find (is_due w p) (addressed count p.from Logs)
log_none w p count i past so = sym (ap (due_logs w p i) (let e : count - i ≡ 0 = omega (arith, past) in e)) ∙ so

pub ruleset due_to_logs = (log_found, log_later, log_none)
