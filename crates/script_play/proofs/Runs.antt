-- The lines of a script, one after the other, and the line that is refused.
use Rattle.std.proofs.Common.{◌≡◌, ℕ, ◌+◌, ◌≤◌, ◌<◌, length, List, [], ◌∷◌, ◌++◌, map, refl, sym, ap, ◌∙◌, subst, arith, Option, Some, None, Result, Ok, Err}
use Rattle.std.specs.List.{concat}
use Rattle.std.specs.Option.{option_map}
use Rattle.std.proofs.lemmas.List.Folds.{concat-append}
use Rattle.ar_lines.specs.Lines.{lines_of}
use Rattle.ar_lines.specs.Readings.{LineCursor, WordAt, line_at, next_of}
use Rattle.ar_lines.specs.declared.refusal.Refusal.{Refusal}
use Rattle.ar_run.specs.declared.fault.Fault.{Fault}
use Rattle.owner_check.specs.declared.answer.Outcome.{Outcome}
use Rattle.owner_check.specs.declared.answer.Outcome.TheVariants.{Failed}
use Rattle.report_text.specs.Lines.{line_of}
use Rattle.ar_world.specs.ar_nodes.Parties.{CheckParts}
use Rattle.ar_world.specs.Run.{Progress, Run, Saying, at_line, line_taken, refused_lines, run_from, text_of_run, then_on}
use Rattle.ar_world.specs.State.{World}
use Rattle.ar_world.specs.declared.cause.Cause.{Cause}
use Rattle.script_play.specs.Counts.{counted_from, no_counts}
use Rattle.script_play.specs.Played.{Plays, run_with}
use Rattle.script_play.specs.Playing.{Played, PlaysAll, PlaysPart, PlaysSome, Stand, WritesUpTo, begun, refusal_told, told}
use Rattle.script_play.specs.declared.counts.Counts.{Counts}
use Rattle.script_play.proofs.Deliveries.{said-later, said-there, then-same, with_said_at}
use Rattle.script_play.proofs.Parts.{plays-nothing, then-broken, then-plays, then-refused}
use Rattle.script_play.proofs.Taking.{TakesText}
use Rattle.script_play.proofs.Written.{done, failing, written-answered, written-both, written-broken, written-failed}

-- ---- what follows depends on what is said later alone

run-same : (saying other : Saying) (number : ℕ) (texts : List (List ℕ)) → ((n : ℕ) → number ≤ n → saying n ≡ other n) → (w : World) → run_from saying number w texts ≡ run_from other number w texts
unfolding run_from
run-same saying other number [] same w = refl
run-same saying other number (text ∷ texts) same w =
    ap (λ (says : ℕ → Outcome). then_on (at_line number (line_taken says number w text)) (λ v. run_from saying (number + 1) v texts)) (same number (omega arith))
    ∙ then-same (at_line number (line_taken (other number) number w text)) (λ v. run_from saying (number + 1) v texts) (λ v. run_from other (number + 1) v texts)
    (run-same saying other (number + 1) texts (λ n later. same n (omega (arith, later))))

-- ---- lines

abbrev pub Lines : {K : Type 0} → (K → ℕ) → (K → List ℕ → Type 0) → K → K → Stand → Stand → ℕ → List (List ℕ) → Result (Option (ℕ × Cause)) Fault → Type 0
Lines faults wrote a b s t number texts result = PlaysSome faults wrote a b s t (λ (saying : Saying). run_from saying number s.world texts) result

-- no line is left
pub lines-end : {K : Type 0} (faults : K → ℕ) (wrote : K → List ℕ → Type 0) (a : K) (s : Stand) (number : ℕ) → Lines faults wrote a a s s number [] (Ok None)
unfolding run_from
lines-end faults wrote a s number = record { says = λ _ _. Failed; plays = plays-nothing faults wrote a s }

-- the answer to a line with this number
abbrev at_number : ℕ → Result (Option Cause) Fault → Result (Option (ℕ × Cause)) Fault
at_number number (Ok cause) = Ok (option_map (λ why. (number, why)) cause)
at_number number (Err fault) = Err fault

-- what was played of a text was played of the line with its number
pub line-plays : {K : Type 0} (faults : K → ℕ) (wrote : K → List ℕ → Type 0) (a b : K) (s t : Stand) (number : ℕ) (p : Progress) (result : Result (Option Cause) Fault)
    → PlaysPart faults wrote a b s t p result → PlaysPart faults wrote a b s t (at_line number p) (at_number number result)
line-plays faults wrote a b s t number p (Ok cause) plays = record {
  refused = ap (option_map (λ why. (number, why))) plays.refused;
  stands = plays.stands;
  written = written-answered faults wrote a b (told p.said) cause (option_map (λ why. (number, why)) cause) plays.written;
}
line-plays faults wrote a b s t number p (Err f) plays = record { refused = tt; stands = tt; written = written-failed faults wrote a b (told p.said) f plays.written }

-- a line that is refused ends them
pub lines-refused : {K : Type 0} (faults : K → ℕ) (wrote : K → List ℕ → Type 0) (a b : K) (s t : Stand) (number : ℕ) (text : List ℕ) (texts : List (List ℕ)) (cause : Cause)
    → TakesText faults wrote a b s t number text (Ok (Some cause)) → Lines faults wrote a b s t number (text ∷ texts) (Ok (Some (number, cause)))
unfolding run_from
lines-refused faults wrote a b s t number text texts cause first =
    let p = line_taken first.says number s.world text in
    record {
      says = λ _. first.says;
      plays = then-refused faults wrote a b s t (at_line number p) (λ v. run_from (λ _. first.says) (number + 1) v texts) (number, cause)
          (line-plays faults wrote a b s t number p (Ok (Some cause)) first.plays);
    }

-- one that breaks off too
pub lines-broken : {K : Type 0} (faults : K → ℕ) (wrote : K → List ℕ → Type 0) (a b : K) (s t : Stand) (number : ℕ) (text : List ℕ) (texts : List (List ℕ)) (f : Fault)
    → TakesText faults wrote a b s t number text (Err f) → Lines faults wrote a b s t number (text ∷ texts) (Err f)
unfolding run_from
lines-broken faults wrote a b s t number text texts f first =
    let p = line_taken first.says number s.world text in
    record {
      says = λ _. first.says;
      plays = then-broken faults wrote a b s t (at_line number p) (λ v. run_from (λ _. first.says) (number + 1) v texts) f
          (line-plays faults wrote a b s t number p (Err f) first.plays);
    }

-- one line more
pub lines-more : {K : Type 0} (faults : K → ℕ) (wrote : K → List ℕ → Type 0) (a b c : K) (s t u : Stand) (number : ℕ) (text : List ℕ) (texts : List (List ℕ)) (result : Result (Option (ℕ × Cause)) Fault)
    → TakesText faults wrote a b s t number text (Ok None) → Lines faults wrote b c t u (number + 1) texts result → Lines faults wrote a c s u number (text ∷ texts) result
unfolding run_from
lines-more faults wrote a b c s t u number text texts result first later =
    let saying = with_said_at number first.says later.says in
    let rest : run_from later.says (number + 1) t.world texts ≡ run_from saying (number + 1) t.world texts =
    run-same later.says saying (number + 1) texts (said-later number first.says later.says) t.world in
    record {
      says = saying;
      plays = subst (λ (says : ℕ → Outcome). PlaysPart faults wrote a c s u (then_on (at_line number (line_taken says number s.world text)) (λ v. run_from saying (number + 1) v texts)) result)
          (sym (said-there number first.says later.says))
          (then-plays faults wrote a b c s t u (at_line number (line_taken first.says number s.world text)) (λ v. run_from saying (number + 1) v texts) result
          (line-plays faults wrote a b s t number (line_taken first.says number s.world text) (Ok None) first.plays)
          (subst (λ (r : Run). PlaysPart faults wrote b c t u r result) rest later.plays));
    }

-- ---- lines that were taken so far

-- what takes the lines that are left from here on has taken all from the beginning
abbrev pub LinesOn : {K : Type 0} → (K → ℕ) → (K → List ℕ → Type 0) → K → K → Stand → Stand → LineCursor → LineCursor → Type 0
LinesOn {K} faults wrote begun here s t first at =
    (end : K) (u : Stand) (result : Result (Option (ℕ × Cause)) Fault) → Lines faults wrote here end t u at.next at.ahead result → Lines faults wrote begun end s u first.next first.ahead result

-- the number and the text of the line that was read, and where the lines stand then
pub record IsNext (at new : LineCursor) (number : ℕ) (text : List ℕ) : Type 0 where
  pub here : at.ahead ≡ text ∷ new.ahead
  pub after : new.next ≡ number + 1
  pub line : number ≡ at.next

next-there : (next : ℕ) (ahead : List (List ℕ)) (word : WordAt) (new : LineCursor) → next_of next ahead ≡ Ok (word, new) → IsNext (record { next = next; ahead = ahead }) new word.line word.text
next-there next [] word new is = absurd (cc)
next-there next (text ∷ ahead) word new is =
    let at : WordAt = record { line = next; number = 0; text = text } in
    let behind : LineCursor = record { next = next + 1; ahead = ahead } in
    let read : WordAt × LineCursor = (at, behind) in
    let given : WordAt × LineCursor = (word, new) in
    let both : read ≡ given = cc in
    record {
      here = ap (λ (p : WordAt × LineCursor). p.0.text ∷ p.1.ahead) both;
      after = ap (λ (p : WordAt × LineCursor). p.1.next) (sym both) ∙ ap (λ (p : WordAt × LineCursor). p.0.line + 1) both;
      line = ap (λ (p : WordAt × LineCursor). p.0.line) (sym both);
    }

pub line-there : (at new : LineCursor) (word : WordAt) (number : ℕ) (text : List ℕ) → line_at at ≡ Ok (word, new) → number ≡ word.line → text ≡ word.text → IsNext at new number text
unfolding line_at
line-there at new word number text is numbered says =
    subst (λ (n : ℕ). IsNext at new n text) (sym numbered) (subst (λ (t : List ℕ). IsNext at new word.line t) (sym says) (next-there at.next at.ahead word new is))

pub next-shorter : (at new : LineCursor) (number : ℕ) (text : List ℕ) → IsNext at new number text → length new.ahead < length at.ahead
next-shorter at new number text is = omega (arith, ap length is.here)

next-none : (next : ℕ) (ahead : List (List ℕ)) (refusal : Refusal) → next_of next ahead ≡ Err refusal → ahead ≡ []
next-none next [] refusal is = refl
next-none next (text ∷ ahead) refusal is = absurd (cc)

pub line-none : (at : LineCursor) (refusal : Refusal) → line_at at ≡ Err refusal → at.ahead ≡ []
unfolding line_at
line-none at refusal is = next-none at.next at.ahead refusal is

pub on-line : {K : Type 0} (faults : K → ℕ) (wrote : K → List ℕ → Type 0) (begun here next : K) (s t u : Stand) (first at new : LineCursor) (number : ℕ) (text : List ℕ)
    → LinesOn faults wrote begun here s t first at → IsNext at new number text → TakesText faults wrote here next t u number text (Ok None) → LinesOn faults wrote begun next s u first new
on-line faults wrote begun here next s t u first at new number text on is takes end v result later =
    let after = subst (λ (n : ℕ). Lines faults wrote next end u v n new.ahead result) is.after later in
    on end v result (subst (λ (n : ℕ). Lines faults wrote here end t v n at.ahead result) is.line
    (subst (λ (texts : List (List ℕ)). Lines faults wrote here end t v number texts result) (sym is.here)
    (lines-more faults wrote here next end t u v number text new.ahead result takes after)))

pub on-line-refused : {K : Type 0} (faults : K → ℕ) (wrote : K → List ℕ → Type 0) (begun here next : K) (s t u : Stand) (first at new : LineCursor) (number : ℕ) (text : List ℕ) (cause : Cause)
    → LinesOn faults wrote begun here s t first at → IsNext at new number text → TakesText faults wrote here next t u number text (Ok (Some cause))
    → Lines faults wrote begun next s u first.next first.ahead (Ok (Some (number, cause)))
on-line-refused faults wrote begun here next s t u first at new number text cause on is takes =
    let answer : Result (Option (ℕ × Cause)) Fault = Ok (Some (number, cause)) in
    on next u answer (subst (λ (n : ℕ). Lines faults wrote here next t u n at.ahead answer) is.line
    (subst (λ (texts : List (List ℕ)). Lines faults wrote here next t u number texts answer) (sym is.here)
    (lines-refused faults wrote here next t u number text new.ahead cause takes)))

pub on-line-broken : {K : Type 0} (faults : K → ℕ) (wrote : K → List ℕ → Type 0) (begun here next : K) (s t u : Stand) (first at new : LineCursor) (number : ℕ) (text : List ℕ) (f : Fault)
    → LinesOn faults wrote begun here s t first at → IsNext at new number text → TakesText faults wrote here next t u number text (Err f)
    → Lines faults wrote begun next s u first.next first.ahead (Err f)
on-line-broken faults wrote begun here next s t u first at new number text f on is takes =
    on next u (Err f) (subst (λ (n : ℕ). Lines faults wrote here next t u n at.ahead (Err f)) is.line
    (subst (λ (texts : List (List ℕ)). Lines faults wrote here next t u number texts (Err f)) (sym is.here)
    (lines-broken faults wrote here next t u number text new.ahead f takes)))

pub on-line-none : {K : Type 0} (faults : K → ℕ) (wrote : K → List ℕ → Type 0) (begun here : K) (s t : Stand) (first at : LineCursor)
    → LinesOn faults wrote begun here s t first at → at.ahead ≡ [] → Lines faults wrote begun here s t first.next first.ahead (Ok None)
on-line-none faults wrote begun here s t first at on none =
    on here t (Ok None) (subst (λ (texts : List (List ℕ)). Lines faults wrote here here t t at.next texts (Ok None)) (sym none) (lines-end faults wrote here t at.next))

-- ---- the line that is refused

written-so : (r : Run) → text_of_run r ≡ told r.said ++ concat (refused_lines r.refused)
written-so r = concat-append (map line_of r.said) (refused_lines r.refused)

written-all : {K T : Type 0} (faults : K → ℕ) (wrote : K → List ℕ → Type 0) (a b c : K) (r : Run) (refusal : Option (ℕ × Cause)) (result : Result T Fault)
    → refusal ≡ r.refused → WritesUpTo faults wrote a b (told r.said) (Ok refusal) → WritesUpTo faults wrote b c (refusal_told refusal) result
    → WritesUpTo faults wrote a c (text_of_run r) result
written-all faults wrote a b c r refusal result is first later =
    subst (λ (bytes : List ℕ). WritesUpTo faults wrote a c bytes result)
    (ap (λ (refused : Option (ℕ × Cause)). told r.said ++ concat (refused_lines refused)) is ∙ sym (written-so r))
    (written-both faults wrote a b c (told r.said) (refusal_told refusal) refusal result first later)

-- all lines, and the refused one, are told
pub all-told : {K S : Type 0} (faults : K → ℕ) (wrote : K → List ℕ → Type 0) (a b c : K) (s t : Stand) (run : S → Run) (refusal : Option (ℕ × Cause))
    → PlaysSome faults wrote a b s t run (Ok refusal) → WritesUpTo faults wrote b c (refusal_told refusal) done → PlaysAll faults wrote a c s t run (Ok refusal)
all-told faults wrote a b c s t run refusal lines later =
    let r = run lines.says in
    record {
      says = lines.says;
      plays = record {
        refused = lines.plays.refused;
        stands = lines.plays.stands;
        written = written-answered faults wrote a c (text_of_run r) (tt {0}) refusal (written-all faults wrote a b c r refusal done lines.plays.refused lines.plays.written later);
      };
    }

-- it broke off
failed-all : {K S : Type 0} (faults : K → ℕ) (wrote : K → List ℕ → Type 0) (a b : K) (s t : Stand) (run : S → Run) (says : S) (f : Fault)
    → WritesUpTo faults wrote a b (text_of_run (run says)) (failing (Option (ℕ × Cause)) f) → PlaysAll faults wrote a b s t run (Err f)
failed-all faults wrote a b s t run says f written = record { says = says; plays = record { refused = tt; stands = tt; written = written } }

pub all-untold : {K S : Type 0} (faults : K → ℕ) (wrote : K → List ℕ → Type 0) (a b c : K) (s t : Stand) (run : S → Run) (refusal : Option (ℕ × Cause)) (f : Fault)
    → PlaysSome faults wrote a b s t run (Ok refusal) → WritesUpTo faults wrote b c (refusal_told refusal) (failing (Unit {0}) f) → PlaysAll faults wrote a c s t run (Err f)
all-untold faults wrote a b c s t run refusal f lines later =
    let r = run lines.says in
    failed-all faults wrote a c s t run lines.says f
    (written-failed faults wrote a c (text_of_run r) f (written-all faults wrote a b c r refusal (failing (Unit {0}) f) lines.plays.refused lines.plays.written later))

pub all-broken : {K S : Type 0} (faults : K → ℕ) (wrote : K → List ℕ → Type 0) (a b : K) (s t : Stand) (run : S → Run) (f : Fault)
    → PlaysSome faults wrote a b s t run (Err f) → PlaysAll faults wrote a b s t run (Err f)
all-broken faults wrote a b s t run f lines =
    let r = run lines.says in
    failed-all faults wrote a b s t run lines.says f
    (subst (λ (bytes : List ℕ). WritesUpTo faults wrote a b bytes (failing (Option (ℕ × Cause)) f)) (sym (written-so r))
    (written-broken faults wrote a b (told r.said) (concat (refused_lines r.refused)) f (written-failed faults wrote a b (told r.said) f lines.plays.written)))

pub ruleset all_laws = (all-told, all-untold, all-broken)

-- ---- a script

-- these lines, the first of which has the number 1
abbrev pub from_first : World → List ℕ → Saying → Run
from_first w input saying = run_from saying 1 w (lines_of input)

pub script-done : {S : List ℕ → Type 0} (runs : (input : List ℕ) → S input → Run) {K : Type 0} (faults : K → ℕ) (wrote : K → List ℕ → Type 0) (a b : K) (s t : Stand) (input : List ℕ) (refused : Option (ℕ × Cause)) (p : Played)
    → s.counts ≡ no_counts → p ≡ record { world = t.world; counts = t.counts; refused = refused } → PlaysAll faults wrote a b s t (runs input) (Ok refused)
    → Plays runs faults wrote a b input (Ok p)
script-done runs faults wrote a b s t input refused p none is all =
    let r = runs input all.says in
    record {
      choice = all.says;
      played = is
          ∙ ap (λ (v : Stand). record { world = v.world; counts = v.counts; refused = refused }) all.plays.stands
          ∙ ap (λ (n : Counts). record { world = r.world; counts = counted_from n r.said; refused = refused }) none
          ∙ ap (λ (b : Option (ℕ × Cause)). record { world = r.world; counts = counted_from no_counts r.said; refused = b }) all.plays.refused;
      written = written-answered faults wrote a b (text_of_run r) refused p all.plays.written;
    }

pub script-broken : {S : List ℕ → Type 0} (runs : (input : List ℕ) → S input → Run) {K : Type 0} (faults : K → ℕ) (wrote : K → List ℕ → Type 0) (a b : K) (s t : Stand) (input : List ℕ) (f : Fault)
    → PlaysAll faults wrote a b s t (runs input) (Err f) → Plays runs faults wrote a b input (Err f)
script-broken runs faults wrote a b s t input f all =
    record { choice = all.says; played = tt; written = written-failed faults wrote a b (text_of_run (runs input all.says)) f all.plays.written }

-- the same where it began with the first world
pub play-done : {K : Type 0} (faults : K → ℕ) (wrote : K → List ℕ → Type 0) (a b : K) (checks : List CheckParts) (s t : Stand) (input : List ℕ) (refused : Option (ℕ × Cause)) (p : Played)
    → s ≡ begun checks → p ≡ record { world = t.world; counts = t.counts; refused = refused } → PlaysAll faults wrote a b s t (from_first s.world input) (Ok refused)
    → Plays (run_with checks) faults wrote a b input (Ok p)
play-done faults wrote a b checks s t input refused p first is all =
    let ok : Result (Option (ℕ × Cause)) Fault = Ok refused in
    script-done (run_with checks) faults wrote a b (begun checks) t input refused p refl is
    (subst (λ (v : Stand). PlaysAll faults wrote a b v t (from_first v.world input) ok) first all)

-- the same of the parts of where it stands
pub play-so : {K : Type 0} (faults : K → ℕ) (wrote : K → List ℕ → Type 0) (a b : K) (checks : List CheckParts) (s t v : Stand) (input : List ℕ) (refused : Option (ℕ × Cause))
    → s ≡ begun checks → v ≡ t → PlaysAll faults wrote a b s t (from_first s.world input) (Ok refused)
    → Plays (run_with checks) faults wrote a b input (Ok (record { world = v.world; counts = v.counts; refused = refused }))
play-so faults wrote a b checks s t v input refused first same all =
    play-done faults wrote a b checks s t input refused (record { world = v.world; counts = v.counts; refused = refused }) first
    (ap (λ (x : Stand). record { world = x.world; counts = x.counts; refused = refused }) same) all

pub play-broken : {K : Type 0} (faults : K → ℕ) (wrote : K → List ℕ → Type 0) (a b : K) (checks : List CheckParts) (s t : Stand) (input : List ℕ) (f : Fault)
    → s ≡ begun checks → PlaysAll faults wrote a b s t (from_first s.world input) (Err f) → Plays (run_with checks) faults wrote a b input (Err f)
play-broken faults wrote a b checks s t input f first all =
    let broken : Result (Option (ℕ × Cause)) Fault = Err f in
    script-broken (run_with checks) faults wrote a b (begun checks) t input f
    (subst (λ (v : Stand). PlaysAll faults wrote a b v t (from_first v.world input) broken) first all)

pub ruleset play_laws = (play-so, play-broken)
