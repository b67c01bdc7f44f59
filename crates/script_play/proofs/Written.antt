-- What several calls write together, of which the last may break off.
use Rattle.std.proofs.Common.{◌≡◌, ◌≢◌, ℕ, List, [], ◌∷◌, ◌++◌, length, ◌+◌, ◌<◌, get_or, drop, drop-cons, add-one, refl, sym, ap, ◌∙◌, subst, append_assoc, append-nil, arith, Result, Ok, Err, OnOk}
use Rattle.ar_base.specs.Faults.{HasRisen}
use Rattle.ar_io.specs.Wrote.{Appended, AppendedFront}
use Rattle.ar_io.proofs.WroteLemmas.{Appended-trans}
use Rattle.ar_run.specs.Writing.{Writes}
use Rattle.ar_run.specs.declared.fault.Fault.{Fault}
use Rattle.ar_run.specs.declared.fault.Fault.TheVariants as fault
use Rattle.report_text.specs.Lines.{line_of}
use Rattle.report_text.specs.declared.happening.Happening.{Happening}
use Rattle.script_play.specs.Counts.{counted_from, with_happening}
use Rattle.script_play.specs.Playing.{AppendedUpTo, Blames, WritesUpTo, told}
use Rattle.script_play.specs.declared.counts.Counts.{Counts}

-- a call of any kind that fails
abbrev pub failing : (T : Type 0) → Fault → Result T Fault
failing T f = Err f

same-fault : {T U : Type 0} (f g : Fault) → failing T f ≡ failing T g → failing U f ≡ failing U g
same-fault {T} {U} f g e = let is : f ≡ g = cc in ap (failing U) is

-- ---- nothing

appended-nothing : {K : Type 0} (wrote : K → List ℕ → Type 0) (k : K) → Appended wrote k k []
appended-nothing wrote k before h = rw append-nil h

quiet : {K T : Type 0} (faults : K → ℕ) (k : K) (result : Result T Fault) → result ≢ Err fault.Sink → result ≢ Err fault.Source → Blames faults k k result
quiet faults k result sink source = record { sink = λ e. absurd (sink e); source = source; uncounted = λ _. refl; rises = omega arith }

-- nothing is written, and all is well
pub wrote-nothing : {K T : Type 0} (faults : K → ℕ) (wrote : K → List ℕ → Type 0) (k : K) (value : T) → WritesUpTo faults wrote k k [] (Ok value)
wrote-nothing faults wrote k value = record {
  whole = appended-nothing wrote k;
  broken = tt;
  blames = quiet faults k (Ok value) (λ e. absurd (cc)) (λ e. absurd (cc));
}

-- memory runs out before the first byte
pub wrote-no_more : {K T : Type 0} (faults : K → ℕ) (wrote : K → List ℕ → Type 0) (k : K) (bytes : List ℕ) → WritesUpTo faults wrote k k bytes (failing T fault.Memory)
wrote-no_more {K} {T} faults wrote k bytes = record {
  whole = tt;
  broken = record { front = []; rest = bytes; cut = refl; wrote_front = appended-nothing wrote k };
  blames = quiet faults k (failing T fault.Memory) (λ e. absurd (cc)) (λ e. absurd (cc));
}

-- ---- a line

up-to : {K : Type 0} (wrote : K → List ℕ → Type 0) (old new : K) (bytes : List ℕ) → AppendedFront wrote old new bytes → AppendedUpTo wrote old new bytes
up-to wrote old new bytes cut = record { front = cut.0; rest = cut.1.0; cut = cut.1.1; wrote_front = cut.1.3 }

pub line-written : {K T : Type 0} (faults : K → ℕ) (wrote : K → List ℕ → Type 0) (old new : K) (bytes : List ℕ) (result : Result T Fault)
    → Writes faults wrote old new bytes result → WritesUpTo faults wrote old new bytes result
line-written faults wrote old new bytes (Ok value) w = record {
  whole = w.all;
  broken = tt;
  blames = record { sink = λ e. absurd (cc); source = λ e. absurd (cc); uncounted = λ _. w.uncounted; rises = w.rises };
}
line-written faults wrote old new bytes (Err f) w = record {
  whole = tt;
  broken = up-to wrote old new bytes w.front.1;
  blames = record {
    sink = λ _. w.front.0;
    source = λ e. let is = w.only_sink in absurd (cc);
    uncounted = λ ne. absurd (ne (ap Err w.only_sink));
    rises = w.rises;
  };
}

-- ---- one behind the other

blames-both : {K T U : Type 0} (faults : K → ℕ) (a b c : K) (value : T) (result : Result U Fault)
    → Blames faults a b (Ok value) → Blames faults b c result → Blames faults a c result
blames-both faults a b c value result p q =
    let same : faults b ≡ faults a = p.uncounted (λ e. absurd (cc)) in
    record {
      sink = λ e. subst (λ count. HasRisen count (faults c)) same (q.sink e);
      source = q.source;
      uncounted = λ ne. q.uncounted ne ∙ same;
      rises = omega (arith, q.rises);
    }

pub written-both : {K T U : Type 0} (faults : K → ℕ) (wrote : K → List ℕ → Type 0) (a b c : K) (first second : List ℕ) (value : T) (result : Result U Fault)
    → WritesUpTo faults wrote a b first (Ok value) → WritesUpTo faults wrote b c second result → WritesUpTo faults wrote a c (first ++ second) result
written-both faults wrote a b c first second value (Ok last) p q = record {
  whole = Appended-trans wrote a b c first second p.whole q.whole;
  broken = tt;
  blames = blames-both faults a b c value (Ok last) p.blames q.blames;
}
written-both faults wrote a b c first second value (Err f) p q =
    let broken = q.broken in
    record {
      whole = tt;
      broken = record {
        front = first ++ broken.front;
        rest = broken.rest;
        cut = ap (λ bytes. first ++ bytes) broken.cut ∙ sym (append_assoc first broken.front broken.rest);
        wrote_front = Appended-trans wrote a b c first broken.front p.whole broken.wrote_front;
      };
      blames = blames-both faults a b c value (Err f) p.blames q.blames;
    }

-- the same fault of a call of another kind
pub written-failed : {K T U : Type 0} (faults : K → ℕ) (wrote : K → List ℕ → Type 0) (a b : K) (bytes : List ℕ) (f : Fault)
    → WritesUpTo faults wrote a b bytes (failing T f) → WritesUpTo faults wrote a b bytes (failing U f)
written-failed {K} {T} {U} faults wrote a b bytes f p = record {
  whole = tt;
  broken = p.broken;
  blames = record {
    sink = λ e. p.blames.sink (same-fault f fault.Sink e);
    source = λ e. p.blames.source (same-fault f fault.Source e);
    uncounted = λ ne. p.blames.uncounted (λ e. ne (same-fault f fault.Sink e));
    rises = p.blames.rises;
  };
}

-- a call that breaks off, with what it does not come to
pub written-broken : {K T : Type 0} (faults : K → ℕ) (wrote : K → List ℕ → Type 0) (a b : K) (first second : List ℕ) (f : Fault)
    → WritesUpTo faults wrote a b first (failing T f) → WritesUpTo faults wrote a b (first ++ second) (failing T f)
written-broken faults wrote a b first second f p =
    let broken = p.broken in
    record {
      whole = tt;
      broken = record {
        front = broken.front;
        rest = broken.rest ++ second;
        cut = ap (λ bytes. bytes ++ second) broken.cut ∙ append_assoc broken.front broken.rest second;
        wrote_front = broken.wrote_front;
      };
      blames = p.blames;
    }

-- what is answered where all was written
pub written-answered : {K T U : Type 0} (faults : K → ℕ) (wrote : K → List ℕ → Type 0) (a b : K) (bytes : List ℕ) (value : T) (other : U)
    → WritesUpTo faults wrote a b bytes (Ok value) → WritesUpTo faults wrote a b bytes (Ok other)
written-answered faults wrote a b bytes value other p = record {
  whole = p.whole;
  broken = tt;
  blames = record {
    sink = λ e. absurd (cc);
    source = λ e. absurd (cc);
    uncounted = λ _. p.blames.uncounted (λ e. absurd (cc));
    rises = p.blames.rises;
  };
}

-- ---- what happens

pub told-append : (some more : List Happening) → told (some ++ more) ≡ told some ++ told more
told-append [] more = refl
told-append (happening ∷ some) more =
    ap (λ rest. line_of happening ++ rest) (told-append some more) ∙ sym (append_assoc (line_of happening) (told some) (told more))

pub counted-append : (some more : List Happening) (n : Counts) → counted_from n (some ++ more) ≡ counted_from (counted_from n some) more
unfolding counted_from
counted-append [] more n = refl
counted-append (happening ∷ some) more n = counted-append some more (with_happening n happening)

-- so much was told and counted
abbrev pub Tells : {K : Type 0} → (K → ℕ) → (K → List ℕ → Type 0) → K → K → Counts → Counts → List Happening → Result (Unit {0}) Fault → Type 0
Tells faults wrote a b before after said result = WritesUpTo faults wrote a b (told said) result × OnOk result (after ≡ counted_from before said)

-- what tells the rest from here on has told all from the beginning
abbrev pub TellsOn : {K : Type 0} → (K → ℕ) → (K → List ℕ → Type 0) → K → K → Counts → Counts → List Happening → List Happening → Type 0
TellsOn {K} faults wrote begun here counts so_far all rest =
    (end : K) (after : Counts) (result : Result (Unit {0}) Fault) → Tells faults wrote here end so_far after rest result → Tells faults wrote begun end counts after all result

-- the call is done
abbrev pub done : Result (Unit {0}) Fault
done = Ok tt

-- the next happening, and those behind it
pub drop-item : (said : List Happening) (i : ℕ) (item : Happening) → i < length said → item ≡ get_or said i item → drop i said ≡ item ∷ drop (i + 1) said
drop-item said i item lt is =
    let first : drop i said ≡ get_or said i item ∷ drop (i + 1) said = rw (add-one, drop-cons said i item) in
    first ∙ ap (λ (x : Happening). x ∷ drop (i + 1) said) (sym is)

pub tells-more : {K : Type 0} (faults : K → ℕ) (wrote : K → List ℕ → Type 0) (begun here next : K) (counts so_far : Counts) (all rest : List Happening) (happening : Happening) (more : List Happening)
    → TellsOn faults wrote begun here counts so_far all rest → rest ≡ happening ∷ more → WritesUpTo faults wrote here next (line_of happening) done
    → TellsOn faults wrote begun next counts (with_happening so_far happening) all more
unfolding counted_from
tells-more faults wrote begun here next counts so_far all rest happening more on is first end after result later =
    on end after result (subst (λ (l : List Happening). Tells faults wrote here end so_far after l result) (sym is)
    (written-both faults wrote here next end (line_of happening) (told more) tt result first later.0, later.1))

pub tells-broken : {K : Type 0} (faults : K → ℕ) (wrote : K → List ℕ → Type 0) (begun here next : K) (counts so_far after : Counts) (all rest : List Happening) (happening : Happening) (more : List Happening) (f : Fault)
    → TellsOn faults wrote begun here counts so_far all rest → rest ≡ happening ∷ more → WritesUpTo faults wrote here next (line_of happening) (failing (Unit {0}) f)
    → Tells faults wrote begun next counts after all (Err f)
tells-broken faults wrote begun here next counts so_far after all rest happening more f on is first =
    on next after (Err f) (subst (λ (l : List Happening). Tells faults wrote here next so_far after l (Err f)) (sym is)
    (written-broken faults wrote here next (line_of happening) (told more) f first, tt))

pub tells-none : {K : Type 0} (faults : K → ℕ) (wrote : K → List ℕ → Type 0) (begun here : K) (counts so_far : Counts) (all rest : List Happening)
    → TellsOn faults wrote begun here counts so_far all rest → rest ≡ [] → Tells faults wrote begun here counts so_far all done
unfolding counted_from
tells-none faults wrote begun here counts so_far all rest on is =
    on here so_far done (subst (λ (l : List Happening). Tells faults wrote here here so_far so_far l done) (sym is) (wrote-nothing faults wrote here tt, refl))

pub ruleset written_laws = (wrote-nothing, wrote-no_more, line-written, written-both, written-failed, written-broken, written-answered)
