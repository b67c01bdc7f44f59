-- The deliveries of a flush, one after the other.
use Rattle.std.proofs.Common.{◌≡◌, ℕ, zero, suc, ◌+◌, ◌-◌, ◌≤◌, ◌<◌, List, refl, sym, ap, ◌∙◌, subst, arith, Option, Some, None, Result, Ok, Err, IfOk}
use Rattle.std.specs.Prelude.{◌==◌, if◌then◌else◌}
use Rattle.std.proofs.lemmas.Bool.Decides.{nat_tests}
use Rattle.ar_run.specs.declared.fault.Fault.{Fault}
use Rattle.ar_statement.specs.declared.party.Party.{Party}
use Rattle.owner_check.specs.declared.answer.Outcome.{Outcome}
use Rattle.owner_check.specs.declared.answer.Outcome.TheVariants.{Failed}
use Rattle.ar_world.specs.Delivering.{NothingDue, deliver_line, next_due}
use Rattle.ar_world.specs.Run.{Course, Progress, printed_before, delivering, flushed, progress_of, then_if, then_on}
use Rattle.ar_world.specs.State.{World}
use Rattle.ar_world.specs.declared.cause.Cause.{Cause}
use Rattle.ar_world.specs.Finding.{Effect}
use Rattle.ar_world.proofs.Searched.{delivered-leaves}
use Rattle.script_play.specs.Playing.{PlaysPart, PlaysSome, Stand}
use Rattle.script_play.proofs.Parts.{plays-nothing, then-broken, then-plays, then-refused}

-- ---- what checks say

-- what is said at a number, and what is said elsewhere
abbrev pub with_said_at : {S : Type 0} → ℕ → S → (ℕ → S) → ℕ → S
with_said_at number it says j = if j == number then it else says j

pub said-there : {S : Type 0} (number : ℕ) (it : S) (says : ℕ → S) → with_said_at number it says number ≡ it
said-there number it says = grind (arith, nat_tests)

pub said-later : {S : Type 0} (number : ℕ) (it : S) (says : ℕ → S) (j : ℕ) → number + 1 ≤ j → says j ≡ with_said_at number it says j
said-later number it says j later = grind (arith, nat_tests)

-- ---- what follows depends on what is said later alone

if-same : {C : Type 0} (cause : Option C) (p : Course C) (next other : World → Course C) → ((v : World) → next v ≡ other v) → then_if cause p next ≡ then_if cause p other
if-same None p next other same = ap (printed_before p.said) (same p.world)
if-same (Some cause) p next other same = refl

pub then-same : {C : Type 0} (p : Course C) (next other : World → Course C) → ((v : World) → next v ≡ other v) → then_on p next ≡ then_on p other
then-same p next other same = if-same p.refused p next other same

delivering-same : (says : Outcome) (w : World) (due : Option (ℕ × Party)) (next other : World → Progress) → ((v : World) → next v ≡ other v) → delivering says w due next ≡ delivering says w due other
delivering-same says w None next other same = refl
delivering-same says w (Some due) next other same = then-same (progress_of w (deliver_line says w due.0 due.1)) next other same

flushed-same : (most : ℕ) (says other : ℕ → Outcome) (number : ℕ) → ((j : ℕ) → number ≤ j → says j ≡ other j) → (w : World) → flushed most says number w ≡ flushed most other number w
unfolding flushed
flushed-same zero says other number same w = refl
flushed-same (suc more) says other number same w =
    ap (λ (it : Outcome). delivering it w (next_due w) (flushed more says (number + 1))) (same number (omega arith))
    ∙ delivering-same (other number) w (next_due w) (flushed more says (number + 1)) (flushed more other (number + 1))
    (flushed-same more says other (number + 1) (λ j later. same j (omega (arith, later))))

-- ---- a flush

-- so many deliveries are made from one with this number on
abbrev pub Flushes : {K : Type 0} → (K → ℕ) → (K → List ℕ → Type 0) → K → K → Stand → Stand → ℕ → ℕ → Result (Option Cause) Fault → Type 0
Flushes faults wrote a b s t most number result = PlaysSome faults wrote a b s t (λ (says : ℕ → Outcome). flushed most says number s.world) result

-- one delivery is made
abbrev pub Delivers : {K : Type 0} → (K → ℕ) → (K → List ℕ → Type 0) → K → K → Stand → Stand → ℕ → Party → Result (Option Cause) Fault → Type 0
Delivers faults wrote a b s t message party result = PlaysSome faults wrote a b s t (λ (says : Outcome). progress_of s.world (deliver_line says s.world message party)) result

-- none is due, or none may follow
pub flush-done : {K : Type 0} (faults : K → ℕ) (wrote : K → List ℕ → Type 0) (a : K) (s : Stand) (most number : ℕ) → next_due s.world ≡ None → Flushes faults wrote a a s s most number (Ok None)
unfolding flushed
flush-done faults wrote a s zero number none = record { says = λ _. Failed; plays = plays-nothing faults wrote a s }
flush-done faults wrote a s (suc more) number none = record {
  says = λ _. Failed;
  plays = subst (λ (due : Option (ℕ × Party)). PlaysPart faults wrote a a s s (delivering Failed s.world due (flushed more (λ _. Failed) (number + 1))) (Ok None))
      (sym none) (plays-nothing faults wrote a s);
}

pub flush-full : {K : Type 0} (faults : K → ℕ) (wrote : K → List ℕ → Type 0) (a : K) (s : Stand) (number : ℕ) → Flushes faults wrote a a s s 0 number (Ok None)
unfolding flushed
flush-full faults wrote a s number = record { says = λ _. Failed; plays = plays-nothing faults wrote a s }

-- one delivery more
flushed-due : (more : ℕ) (says : ℕ → Outcome) (number : ℕ) (w : World) (message : ℕ) (party : Party) (it : Outcome) → next_due w ≡ Some (message, party) → says number ≡ it
    → flushed (suc more) says number w ≡ then_on (progress_of w (deliver_line it w message party)) (flushed more says (number + 1))
unfolding flushed
flushed-due more says number w message party it due said =
    ap (λ (d : Option (ℕ × Party)). delivering (says number) w d (flushed more says (number + 1))) due
    ∙ ap (λ (o : Outcome). then_on (progress_of w (deliver_line o w message party)) (flushed more says (number + 1))) said

pub flush-more : {K : Type 0} (faults : K → ℕ) (wrote : K → List ℕ → Type 0) (a b c : K) (s t u : Stand) (more number message : ℕ) (party : Party) (result : Result (Option Cause) Fault)
    → next_due s.world ≡ Some (message, party) → Delivers faults wrote a b s t message party (Ok None) → Flushes faults wrote b c t u more (number + 1) result
    → Flushes faults wrote a c s u (suc more) number result
flush-more faults wrote a b c s t u more number message party result due first later =
    let says = with_said_at number first.says later.says in
    let made = progress_of s.world (deliver_line first.says s.world message party) in
    let rest : flushed more later.says (number + 1) t.world ≡ flushed more says (number + 1) t.world =
    flushed-same more later.says says (number + 1) (said-later number first.says later.says) t.world in
    let whole : flushed (suc more) says number s.world ≡ then_on made (flushed more says (number + 1)) =
    flushed-due more says number s.world message party first.says due (said-there number first.says later.says) in
    record {
      says = says;
      plays = subst (λ (p : Progress). PlaysPart faults wrote a c s u p result) (sym whole)
          (then-plays faults wrote a b c s t u made (flushed more says (number + 1)) result first.plays
          (subst (λ (p : Progress). PlaysPart faults wrote b c t u p result) rest later.plays));
    }

-- one that is refused, or breaks off
pub flush-refused : {K : Type 0} (faults : K → ℕ) (wrote : K → List ℕ → Type 0) (a b : K) (s t : Stand) (more number message : ℕ) (party : Party) (cause : Cause)
    → next_due s.world ≡ Some (message, party) → Delivers faults wrote a b s t message party (Ok (Some cause)) → Flushes faults wrote a b s t (suc more) number (Ok (Some cause))
flush-refused faults wrote a b s t more number message party cause due first =
    let says : ℕ → Outcome = λ _. first.says in
    let made = progress_of s.world (deliver_line first.says s.world message party) in
    record {
      says = says;
      plays = subst (λ (p : Progress). PlaysPart faults wrote a b s t p (Ok (Some cause))) (sym (flushed-due more says number s.world message party first.says due refl))
          (then-refused faults wrote a b s t made (flushed more says (number + 1)) cause first.plays);
    }

pub flush-broken : {K : Type 0} (faults : K → ℕ) (wrote : K → List ℕ → Type 0) (a b : K) (s t : Stand) (more number message : ℕ) (party : Party) (f : Fault)
    → next_due s.world ≡ Some (message, party) → Delivers faults wrote a b s t message party (Err f) → Flushes faults wrote a b s t (suc more) number (Err f)
flush-broken faults wrote a b s t more number message party f due first =
    let says : ℕ → Outcome = λ _. first.says in
    let made = progress_of s.world (deliver_line first.says s.world message party) in
    record {
      says = says;
      plays = subst (λ (p : Progress). PlaysPart faults wrote a b s t p (Err f)) (sym (flushed-due more says number s.world message party first.says due refl))
          (then-broken faults wrote a b s t made (flushed more says (number + 1)) f first.plays);
    }

-- ---- a flush that has come so far

-- what makes the deliveries that are left from here on has made all from the beginning
abbrev pub FlushesOn : {K : Type 0} → (K → ℕ) → (K → List ℕ → Type 0) → K → K → Stand → Stand → ℕ → ℕ → ℕ → Type 0
FlushesOn {K} faults wrote begun here s t most left number =
    (end : K) (u : Stand) (result : Result (Option Cause) Fault) → Flushes faults wrote here end t u left number result → Flushes faults wrote begun end s u most 0 result

pub on-more : {K : Type 0} (faults : K → ℕ) (wrote : K → List ℕ → Type 0) (begun here next : K) (s t u : Stand) (most left more number message : ℕ) (party : Party)
    → FlushesOn faults wrote begun here s t most left number → left ≡ suc more → next_due t.world ≡ Some (message, party) → Delivers faults wrote here next t u message party (Ok None)
    → FlushesOn faults wrote begun next s u most more (number + 1)
on-more faults wrote begun here next s t u most left more number message party on is due first end v result later =
    on end v result (subst (λ (n : ℕ). Flushes faults wrote here end t v n number result) (sym is) (flush-more faults wrote here next end t u v more number message party result due first later))

pub on-refused : {K : Type 0} (faults : K → ℕ) (wrote : K → List ℕ → Type 0) (begun here next : K) (s t u : Stand) (most left more number message : ℕ) (party : Party) (cause : Cause)
    → FlushesOn faults wrote begun here s t most left number → left ≡ suc more → next_due t.world ≡ Some (message, party) → Delivers faults wrote here next t u message party (Ok (Some cause))
    → Flushes faults wrote begun next s u most 0 (Ok (Some cause))
on-refused faults wrote begun here next s t u most left more number message party cause on is due first =
    on next u (Ok (Some cause)) (subst (λ (n : ℕ). Flushes faults wrote here next t u n number (Ok (Some cause))) (sym is) (flush-refused faults wrote here next t u more number message party cause due first))

pub on-broken : {K : Type 0} (faults : K → ℕ) (wrote : K → List ℕ → Type 0) (begun here next : K) (s t u : Stand) (most left more number message : ℕ) (party : Party) (f : Fault)
    → FlushesOn faults wrote begun here s t most left number → left ≡ suc more → next_due t.world ≡ Some (message, party) → Delivers faults wrote here next t u message party (Err f)
    → Flushes faults wrote begun next s u most 0 (Err f)
on-broken faults wrote begun here next s t u most left more number message party f on is due first =
    on next u (Err f) (subst (λ (n : ℕ). Flushes faults wrote here next t u n number (Err f)) (sym is) (flush-broken faults wrote here next t u more number message party f due first))

pub on-done : {K : Type 0} (faults : K → ℕ) (wrote : K → List ℕ → Type 0) (begun here : K) (s t : Stand) (most left number : ℕ)
    → FlushesOn faults wrote begun here s t most left number → next_due t.world ≡ None → Flushes faults wrote begun here s t most 0 (Ok None)
on-done faults wrote begun here s t most left number on none = on here t (Ok None) (flush-done faults wrote here t left number none)

pub on-full : {K : Type 0} (faults : K → ℕ) (wrote : K → List ℕ → Type 0) (begun here : K) (s t : Stand) (most left number : ℕ)
    → FlushesOn faults wrote begun here s t most left number → left ≡ 0 → Flushes faults wrote begun here s t most 0 (Ok None)
on-full faults wrote begun here s t most left number on is =
    on here t (Ok None) (subst (λ (n : ℕ). Flushes faults wrote here here t t n number (Ok None)) (sym is) (flush-full faults wrote here t number))

pub left-more : (most number : ℕ) → number < most → most - number ≡ suc (most - (number + 1))
left-more most number lt = omega arith

-- ---- what a flush searches

-- where a line was not refused, what was made of it stands
not-refused : (w : World) (made : Effect) (P : World → Type 0) → None ≡ (progress_of w made).refused → IfOk made (λ m. P m.0) → P (progress_of w made).world
not-refused w (Ok m) P none holds = holds
not-refused w (Err why) P none holds = absurd cc

-- behind a delivery that is due nothing is due before its message
pub nothing-before : {K : Type 0} (faults : K → ℕ) (wrote : K → List ℕ → Type 0) (a b : K) (s t : Stand) (message : ℕ) (party : Party) → next_due s.world ≡ Some (message, party)
    → Delivers faults wrote a b s t message party (Ok None) → NothingDue t.world (message - 1)
nothing-before faults wrote a b s t message party due is =
    let made : Effect = deliver_line is.says s.world message party in
    subst (λ (u : Stand). NothingDue u.world (message - 1)) (sym is.plays.stands)
    (not-refused s.world made (λ v. NothingDue v (message - 1)) is.plays.refused (delivered-leaves is.says s.world (message, party) due))
