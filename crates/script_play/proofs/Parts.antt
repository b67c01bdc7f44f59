-- Parts of a script that are played one after the other.
use Rattle.std.proofs.Common.{◌≡◌, inl, inr, ℕ, List, refl, sym, ap, ◌∙◌, subst, Option, Some, None, Result, Ok, Err}
use Rattle.ar_run.specs.declared.fault.Fault.{Fault}
use Rattle.ar_run.specs.declared.fault.Fault.TheVariants as fault
use Rattle.report_text.specs.declared.happening.Happening.{Happening}
use Rattle.ar_world.specs.Finding.{Effect}
use Rattle.ar_world.specs.Run.{Course, Progress, printed_before, progress_of, then_if, then_on, unmoved}
use Rattle.ar_world.specs.State.{World}
use Rattle.ar_world.specs.Step.{StepsBy, StepsBySome}
use Rattle.ar_world.specs.declared.cause.Cause.{Cause}
use Rattle.ar_world.specs.declared.cause.Cause.TheVariants.{Untaken}
use Rattle.ar_world.specs.ar_nodes.declared.fault.WorldFault.{WorldFault}
use Rattle.ar_world.specs.ar_nodes.declared.fault.WorldFault.TheVariants as world_fault
use Rattle.owner_check.specs.declared.answer.Outcome.{Outcome}
use Rattle.script_play.specs.Counts.{counted_from}
use Rattle.script_play.specs.Playing.{PlaysPart, PlaysSome, Stand, WritesUpTo, refused_by, told}
use Rattle.script_play.specs.declared.counts.Counts.{Counts}
use Rattle.script_play.proofs.Written.{counted-append, done, failing, told-append, wrote-no_more, wrote-nothing, written-answered, written-both, written-broken, written-failed}

-- ---- no part

-- a part that does nothing
pub plays-nothing : {K C : Type 0} (faults : K → ℕ) (wrote : K → List ℕ → Type 0) (k : K) (s : Stand) → PlaysPart {C = C} faults wrote k k s s (unmoved s.world) (Ok None)
unfolding counted_from
plays-nothing faults wrote k s = record { refused = refl; stands = refl; written = wrote-nothing faults wrote k None }

-- memory runs out before a part
pub plays-no_more : {K : Type 0} (faults : K → ℕ) (wrote : K → List ℕ → Type 0) (k : K) (s t : Stand) (p : Progress) → PlaysPart faults wrote k k s t p (Err fault.Memory)
plays-no_more faults wrote k s t p = record { refused = tt; stands = tt; written = wrote-no_more faults wrote k (told p.said) }

-- ---- one call of a world

-- what it made happen was written
pub made-taken : {K : Type 0} (faults : K → ℕ) (wrote : K → List ℕ → Type 0) (a b : K) (c d : Counts) (said : List Happening) (old new : World) (effect : Effect)
    → WritesUpTo faults wrote a b (told said) done → d ≡ counted_from c said → effect ≡ Ok (new, said)
    → PlaysPart faults wrote a b (record { world = old; counts = c }) (record { world = new; counts = d }) (progress_of old effect) (Ok None)
made-taken faults wrote a b c d said old new effect written counted is =
    let done : PlaysPart faults wrote a b (record { world = old; counts = c }) (record { world = new; counts = d }) (progress_of old (Ok (new, said))) (Ok None) =
    record { refused = refl; stands = ap (λ (n : Counts). record { world = new; counts = n }) counted; written = written-answered faults wrote a b (told said) (tt {0}) None written } in
    subst (λ (e : Effect). PlaysPart faults wrote a b (record { world = old; counts = c }) (record { world = new; counts = d }) (progress_of old e) (Ok None)) (sym is) done

-- a write failed, or memory ran out
pub made-untold : {K : Type 0} (faults : K → ℕ) (wrote : K → List ℕ → Type 0) (a b : K) (s t : Stand) (said : List Happening) (old new : World) (effect : Effect) (f : Fault)
    → WritesUpTo faults wrote a b (told said) (failing (Unit {0}) f) → effect ≡ Ok (new, said)
    → PlaysPart faults wrote a b s t (progress_of old effect) (Err f)
made-untold faults wrote a b s t said old new effect f written is =
    subst (λ (e : Effect). PlaysPart faults wrote a b s t (progress_of old e) (Err f)) (sym is)
    (record { refused = tt; stands = tt; written = written-failed faults wrote a b (told said) f written })

refused-so : {K : Type 0} (faults : K → ℕ) (wrote : K → List ℕ → Type 0) (a : K) (c : Counts) (old new : World) (why : WorldFault) → new ≡ old
    → PlaysPart faults wrote a a (record { world = old; counts = c }) (record { world = new; counts = c }) (progress_of old (Err why)) (Ok (Some (Untaken why)))
unfolding counted_from
refused-so faults wrote a c old new why stays = record {
  refused = refl;
  stands = ap (λ (w : World). record { world = w; counts = c }) stays;
  written = wrote-nothing faults wrote a (Some (Untaken why));
}

untaken-so : {K : Type 0} (faults : K → ℕ) (wrote : K → List ℕ → Type 0) (a : K) (c : Counts) (old new : World) (effect : Effect) (why : WorldFault)
    → new ≡ old → effect ≡ Err why → PlaysPart faults wrote a a (record { world = old; counts = c }) (record { world = new; counts = c }) (progress_of old effect) (Ok (Some (Untaken why)))
untaken-so faults wrote a c old new effect why stays gives =
    subst (λ (e : Effect). PlaysPart faults wrote a a (record { world = old; counts = c }) (record { world = new; counts = c }) (progress_of old e) (Ok (Some (Untaken why))))
    (sym gives) (refused-so faults wrote a c old new why stays)

untaken-by : {K : Type 0} (faults : K → ℕ) (wrote : K → List ℕ → Type 0) (a : K) (c : Counts) (old new : World) (effect : Effect) (why : WorldFault)
    → StepsBy (Err why) old new effect → PlaysPart faults wrote a a (record { world = old; counts = c }) (record { world = new; counts = c }) (progress_of old effect) (refused_by why)
untaken-by faults wrote a c old new effect world_fault.Memory steps = plays-no_more faults wrote a _ _ (progress_of old effect)
untaken-by faults wrote a c old new effect world_fault.Order steps = elim steps.1 [ inl memory ↦ absurd (cc) | inr gives ↦ untaken-so faults wrote a c old new effect world_fault.Order steps.0 gives ]
untaken-by faults wrote a c old new effect (world_fault.Absent word) steps = elim steps.1 [ inl memory ↦ absurd (cc) | inr gives ↦ untaken-so faults wrote a c old new effect (world_fault.Absent word) steps.0 gives ]
untaken-by faults wrote a c old new effect world_fault.Limit steps = elim steps.1 [ inl memory ↦ absurd (cc) | inr gives ↦ untaken-so faults wrote a c old new effect world_fault.Limit steps.0 gives ]

-- the world did not take it
pub made-untaken : {K : Type 0} (faults : K → ℕ) (wrote : K → List ℕ → Type 0) (a : K) (c : Counts) (old new : World) (effect : Effect) (made : Result (List Happening) WorldFault) (why : WorldFault)
    → StepsBy made old new effect → made ≡ Err why
    → PlaysPart faults wrote a a (record { world = old; counts = c }) (record { world = new; counts = c }) (progress_of old effect) (refused_by why)
made-untaken faults wrote a c old new effect made why steps is =
    untaken-by faults wrote a c old new effect why (subst (λ (m : Result (List Happening) WorldFault). StepsBy m old new effect) is steps)

pub ruleset made_laws = (made-taken, made-untold, made-untaken)

-- ---- one part behind another

behind-plays : {K C : Type 0} (faults : K → ℕ) (wrote : K → List ℕ → Type 0) (a b c : K) (s t u : Stand) (p q : Course C) (result : Result (Option C) Fault)
    → PlaysPart faults wrote a b s t p (Ok None) → PlaysPart faults wrote b c t u q result → PlaysPart faults wrote a c s u (printed_before p.said q) result
behind-plays faults wrote a b c s t u p q (Ok refused) first later = record {
  refused = later.refused;
  stands = later.stands ∙ ap (λ (n : Counts). record { world = q.world; counts = n })
      (ap (λ (v : Stand). counted_from v.counts q.said) first.stands ∙ sym (counted-append p.said q.said s.counts));
  written = subst (λ (bytes : List ℕ). WritesUpTo faults wrote a c bytes (Ok refused)) (sym (told-append p.said q.said))
      (written-both faults wrote a b c (told p.said) (told q.said) None (Ok refused) first.written later.written);
}
behind-plays {C = C} faults wrote a b c s t u p q (Err f) first later = record {
  refused = tt;
  stands = tt;
  written = subst (λ (bytes : List ℕ). WritesUpTo faults wrote a c bytes (failing (Option C) f)) (sym (told-append p.said q.said))
      (written-both faults wrote a b c (told p.said) (told q.said) None (failing (Option C) f) first.written later.written);
}

-- where the first part is not refused, the next follows
pub then-plays : {K C : Type 0} (faults : K → ℕ) (wrote : K → List ℕ → Type 0) (a b c : K) (s t u : Stand) (p : Course C) (next : World → Course C) (result : Result (Option C) Fault)
    → PlaysPart faults wrote a b s t p (Ok None) → PlaysPart faults wrote b c t u (next t.world) result → PlaysPart faults wrote a c s u (then_on p next) result
then-plays {C = C} faults wrote a b c s t u p next result first later =
    let taken : then_on p next ≡ then_if None p next = ap (λ (cause : Option C). then_if cause p next) (sym first.refused) in
    let there : next t.world ≡ next p.world = ap (λ (v : Stand). next v.world) first.stands in
    subst (λ (q : Course C). PlaysPart faults wrote a c s u q result) (ap (printed_before p.said) there ∙ sym taken)
    (behind-plays faults wrote a b c s t u p (next t.world) result first later)

-- where it is refused, nothing follows
pub then-refused : {K C : Type 0} (faults : K → ℕ) (wrote : K → List ℕ → Type 0) (a b : K) (s t : Stand) (p : Course C) (next : World → Course C) (cause : C)
    → PlaysPart faults wrote a b s t p (Ok (Some cause)) → PlaysPart faults wrote a b s t (then_on p next) (Ok (Some cause))
then-refused {C = C} faults wrote a b s t p next cause first =
    let stays : then_on p next ≡ p = ap (λ (why : Option C). then_if why p next) (sym first.refused) in
    subst (λ (q : Course C). PlaysPart faults wrote a b s t q (Ok (Some cause))) (sym stays) first

broken-so : {K C : Type 0} (faults : K → ℕ) (wrote : K → List ℕ → Type 0) (a b : K) (cause : Option C) (p : Course C) (next : World → Course C) (f : Fault)
    → WritesUpTo faults wrote a b (told p.said) (failing (Option C) f) → WritesUpTo faults wrote a b (told (then_if cause p next).said) (failing (Option C) f)
broken-so {C = C} faults wrote a b None p next f written =
    subst (λ (bytes : List ℕ). WritesUpTo faults wrote a b bytes (failing (Option C) f)) (sym (told-append p.said (next p.world).said))
    (written-broken faults wrote a b (told p.said) (told (next p.world).said) f written)
broken-so faults wrote a b (Some cause) p next f written = written

-- where it breaks off, so does the whole
pub then-broken : {K C : Type 0} (faults : K → ℕ) (wrote : K → List ℕ → Type 0) (a b : K) (s t : Stand) (p : Course C) (next : World → Course C) (f : Fault)
    → PlaysPart faults wrote a b s t p (Err f) → PlaysPart faults wrote a b s t (then_on p next) (Err f)
then-broken faults wrote a b s t p next f first = record { refused = tt; stands = tt; written = broken-so faults wrote a b p.refused p next f first.written }

-- ---- for something that a check says

-- a call of a world, and what is told of it
pub some-made : {K : Type 0} (faults : K → ℕ) (wrote : K → List ℕ → Type 0) (a b : K) (s t : Stand) (made : Result (List Happening) WorldFault) (new : World) (effect : Outcome → Effect) (result : Result (Option Cause) Fault)
    → StepsBySome made s.world new effect → ((e : Effect) → StepsBy made s.world new e → PlaysPart faults wrote a b s t (progress_of s.world e) result)
    → PlaysSome faults wrote a b s t (λ (says : Outcome). progress_of s.world (effect says)) result
some-made faults wrote a b s t made new effect result steps plays = record { says = steps.says; plays = plays (effect steps.says) steps.steps }

pub ruleset some_laws = (some-made)
