-- The lines of a script with bursts, one after the other, each passed in some way.
use Rattle.std.proofs.Common.{◌≡◌, ℕ, ◌+◌, ◌<◌, true, false, ◌⊎◌, inl, inr, List, [], ◌∷◌, refl, sym, ap, ◌∙◌, subst, Option, Some, None, Result, Ok, Err}
use Rattle.ar_lines.specs.Lines.{lines_of}
use Rattle.ar_lines.specs.Readings.{LineCursor, line_at, next_of}
use Rattle.ar_lines.specs.declared.refusal.Reason.{Reason}
use Rattle.ar_lines.specs.declared.refusal.Reason.TheVariants.{Words}
use Rattle.ar_lines.specs.declared.refusal.Refusal.{Refusal}
use Rattle.script_play.specs.ar_nodes.Parties.{CheckParts}
use Rattle.script_play.specs.ar_nodes.declared.fault.WorldFault.{WorldFault}
use Rattle.script_play.specs.ar_nodes.declared.fault.WorldFault.TheVariants.{Order}
use Rattle.ar_run.specs.declared.fault.Fault.{Fault}
use Rattle.ar_run.specs.declared.fault.Fault.TheVariants as fault
use Rattle.script_play.specs.ar_world.Run.{Progress, at_line, progress_of, refusing, taken_as}
use Rattle.script_play.specs.ar_world.State.{World}
use Rattle.script_play.specs.ar_world.Step.{step}
use Rattle.script_play.specs.ar_world.declared.cause.Cause.{Cause}
use Rattle.script_play.specs.ar_world.declared.cause.Cause.TheVariants.{Unread, Untaken}
use Rattle.burst_run.specs.Bursts.{AreOrders, Sequence, burst_made, may_join}
use Rattle.burst_run.specs.Stations.{Deliveries}
use Rattle.owner_check.specs.declared.answer.Outcome.{Outcome}
use Rattle.owner_check.specs.declared.answer.Outcome.TheVariants.{Failed}
use Rattle.report_text.specs.declared.happening.Happening.{Happening}
use Rattle.script_play.specs.Counts.{counted_from}
use Rattle.script_play.specs.Played.{Plays}
use Rattle.script_play.specs.Playing.{PlaysAll, PlaysPart, PlaysSome, Stand, WritesUpTo, begun, line_read, told}
use Rattle.script_play.specs.declared.counts.Counts.{Counts}
use Rattle.script_play.proofs.Parts.{made-taken, made-untold, plays-no_more, plays-nothing, then-broken, then-plays, then-refused}
use Rattle.script_play.proofs.Runs.{IsNext, line-none, line-plays, script-broken, script-done}
use Rattle.script_play.proofs.Written.{done, failing, wrote-nothing}
use Rattle.script_text.specs.declared.line.EventLine.{EventLine}
use Rattle.script_text.specs.declared.line.EventLine.TheVariants as event
use Rattle.script_text.specs.declared.line.Line.{Line}
use Rattle.script_text.specs.declared.line.Line.TheVariants as line
use Rattle.script_text.specs.declared.line.SetupLine.{SetupLine}
use Rattle.crowd_run.specs.Passing.{LinePasses}
use Rattle.crowd_run.specs.Scripts.{OpenBurst, LineRead, Way, AllWays, crowd_from, crowd_with, script_end, is_burst, joins_burst, open_behind, passed_inside, passed_so}
use Rattle.crowd_run.proofs.Plain.{plain_opens, plain_passes}
use Rattle.crowd_run.proofs.SomeWays.{some_way, some_ways}

-- the line that is missing is the next
next_missing : (next : ℕ) (ahead : List (List ℕ)) (refusal : Refusal) → next_of next ahead ≡ Err refusal → refusal.line ≡ next
next_missing next [] refusal is =
    let missing : Refusal = record { line = next; reason = Words } in
    let same : missing ≡ refusal = cc in
    sym (ap (λ (r : Refusal). r.line) same)
next_missing next (text ∷ ahead) refusal is = absurd (cc)

number_missing : (at : LineCursor) (refusal : Refusal) → line_at at ≡ Err refusal → refusal.line ≡ at.next
unfolding line_at
number_missing at refusal is = next_missing at.next at.ahead refusal is

-- what is open behind a line where no burst was
burst_there : (read : LineRead) → is_burst read ≡ true → read ≡ Ok (Some line.Burst)
burst_there (Ok (Some line.Burst)) is = refl
burst_there (Ok (Some _)) is = absurd (cc)
burst_there (Ok None) is = absurd (cc)
burst_there (Err why) is = absurd (cc)

pub burst_opens : (burst : OpenBurst) (read : LineRead) → is_burst read ≡ true → burst ≡ Some [] → burst ≡ open_behind None read
burst_opens burst read is begun = begun ∙ ap (λ (r : LineRead). open_behind None r) (sym (burst_there read is))

pub other_opens : (burst : OpenBurst) (read : LineRead) → is_burst read ≡ false → burst ≡ None → burst ≡ open_behind None read
other_opens burst read other none = none ∙ sym (plain_opens read other)

module _ {K : Type 0} (faults : K → ℕ) (wrote : K → List ℕ → Type 0) where
  -- ---- a line where no burst is open

  -- the line `burst`
  pub burst_passed : (a b : K) (workers : ℕ) (s t : Stand) (result : Result (Option Cause) Fault)
      → PlaysSome faults wrote a b s t (λ (says : Outcome). progress_of s.world (step says s.world (line.Event event.Flush))) result
      → LinePasses faults wrote a b workers s t None (Ok (Some line.Burst)) result
  burst_passed a b workers s t result plays = record { says = record { says = λ _. plays.says; orders = []; ordered = tt }; plays = plays.plays }

  abbrev plain_way : {workers : ℕ} {read : LineRead} → (ℕ → Outcome) → Way workers None read
  plain_way says = record { says = says; orders = []; ordered = tt }

  -- one that is read as `burst`
  pub burst_read_passed : (a b : K) (workers : ℕ) (s t : Stand) (read : LineRead) (result : Result (Option Cause) Fault) → is_burst read ≡ true
      → LinePasses faults wrote a b workers s t None (Ok (Some line.Burst)) result → LinePasses faults wrote a b workers s t None read result
  burst_read_passed a b workers s t read result is passes = subst (λ (r : LineRead). LinePasses faults wrote a b workers s t None r result) (sym (burst_there read is)) passes

  -- any other
  pub other_passed : (a b : K) (workers : ℕ) (s t : Stand) (read : LineRead) (result : Result (Option Cause) Fault) → is_burst read ≡ false
      → PlaysSome faults wrote a b s t (λ (says : ℕ → Outcome). taken_as says s.world read) result → LinePasses faults wrote a b workers s t None read result
  other_passed a b workers s t read result other plays = record {
    says = plain_way plays.says;
    plays = subst (λ (p : Progress). PlaysPart faults wrote a b s t p result) (sym (plain_passes plays.says s.world read other)) plays.plays;
  }

  -- ---- a line of an open burst

  refused_part : (a : K) (s : Stand) (cause : Cause) → PlaysPart faults wrote a a s s (refusing s.world cause) (Ok (Some cause))
  unfolding counted_from
  refused_part a s cause = record { refused = refl; stands = refl; written = wrote-nothing faults wrote a (Some cause) }

  -- an event: a delivery joins the burst, unless it may not, and no other may come
  joined_part : (a : K) (s : Stand) (cause : Option Cause) (may : Result (Unit {0}) WorldFault) → cause ≡ (progress_of s.world (joins_burst s.world may)).refused
      → PlaysPart faults wrote a a s s (progress_of s.world (joins_burst s.world may)) (Ok cause)
  joined_part a s cause (Ok free) none = subst (λ (c : Option Cause). PlaysPart faults wrote a a s s (progress_of s.world (joins_burst s.world (Ok free))) (Ok c)) (sym none) (plays-nothing faults wrote a s)
  joined_part a s cause (Err why) some = subst (λ (c : Option Cause). PlaysPart faults wrote a a s s (progress_of s.world (joins_burst s.world (Err why))) (Ok c)) (sym some) (refused_part a s (Untaken why))

  event_part : (a : K) (s : Stand) (deliveries : Deliveries) (e : EventLine) (cause : Option Cause) → cause ≡ (passed_inside [] s.world deliveries (line.Event e)).refused
      → PlaysPart faults wrote a a s s (passed_inside [] s.world deliveries (line.Event e)) (Ok cause)
  event_part a s deliveries (event.Deliver message party) cause is = joined_part a s cause (may_join s.world deliveries message party) is
  event_part a s deliveries _ cause is = subst (λ (c : Option Cause). PlaysPart faults wrote a a s s (refusing s.world (Untaken Order)) (Ok c)) (sym is) (refused_part a s (Untaken Order))

  pub event_passed : (a : K) (workers : ℕ) (s : Stand) (deliveries : Deliveries) (l : Line) (e : EventLine) (cause : Option Cause) → l ≡ line.Event e
      → cause ≡ (passed_inside [] s.world deliveries (line.Event e)).refused → LinePasses faults wrote a a workers s s (Some deliveries) (Ok (Some l)) (Ok cause)
  event_passed a workers s deliveries l e cause there is =
      let passes : LinePasses faults wrote a a workers s s (Some deliveries) (Ok (Some (line.Event e))) (Ok cause) =
      record { says = record { says = λ _. Failed; orders = []; ordered = tt }; plays = event_part a s deliveries e cause is } in
      subst (λ (x : Line). LinePasses faults wrote a a workers s s (Some deliveries) (Ok (Some x)) (Ok cause)) (sym there) passes

  -- memory is wanting
  pub passed_no_more : (a : K) (workers : ℕ) (s t : Stand) (burst : OpenBurst) (read : LineRead) → 0 < workers → LinePasses faults wrote a a workers s t burst read (Err fault.Memory)
  passed_no_more a workers s t burst read some =
      let way = some_way workers some burst read in
      record { says = way; plays = plays-no_more faults wrote a s t (passed_so workers s.world burst read way) }

  -- a burst ends: all is told, or not
  pub end_told : (a b : K) (workers : ℕ) (c d : Counts) (old new : World) (deliveries : Deliveries) (orders : List Sequence) (said : List Happening)
      → AreOrders workers deliveries orders → burst_made deliveries old orders ≡ (new, said) → WritesUpTo faults wrote a b (told said) done → d ≡ counted_from c said
      → LinePasses faults wrote a b workers (record { world = old; counts = c }) (record { world = new; counts = d }) (Some deliveries) (Ok (Some line.End)) (Ok None)
  end_told a b workers c d old new deliveries orders said are made written counted = record {
    says = record { says = λ _. Failed; orders = orders; ordered = are };
    plays = made-taken faults wrote a b c d said old new (Ok (burst_made deliveries old orders)) written counted (ap Ok made);
  }

  pub end_untold : (a b : K) (workers : ℕ) (s t : Stand) (new : World) (deliveries : Deliveries) (orders : List Sequence) (said : List Happening) (f : Fault)
      → AreOrders workers deliveries orders → burst_made deliveries s.world orders ≡ (new, said) → WritesUpTo faults wrote a b (told said) (failing (Unit {0}) f)
      → LinePasses faults wrote a b workers s t (Some deliveries) (Ok (Some line.End)) (Err f)
  end_untold a b workers s t new deliveries orders said f are made written = record {
    says = record { says = λ _. Failed; orders = orders; ordered = are };
    plays = made-untold faults wrote a b s t said s.world new (Ok (burst_made deliveries s.world orders)) f written (ap Ok made);
  }

  -- a line of another kind
  plain_part : (a : K) (workers : ℕ) (s : Stand) (deliveries : Deliveries) (l : Line) → ((x : SetupLine) × (l ≡ line.Setup x)) ⊎ (l ≡ line.Burst)
      → (way : Way workers (Some deliveries) (Ok (Some l))) → PlaysPart faults wrote a a s s (passed_so workers s.world (Some deliveries) (Ok (Some l)) way) (Ok (Some (Untaken Order)))
  plain_part a workers s deliveries (line.Setup x) other way = refused_part a s (Untaken Order)
  plain_part a workers s deliveries line.Burst other way = refused_part a s (Untaken Order)
  plain_part a workers s deliveries (line.Event e) (inl setup) way = absurd (let is = setup.1 in cc)
  plain_part a workers s deliveries (line.Event e) (inr burst) way = absurd (cc)
  plain_part a workers s deliveries line.End (inl setup) way = absurd (let is = setup.1 in cc)
  plain_part a workers s deliveries line.End (inr burst) way = absurd (cc)

  pub plain_passed : (a : K) (workers : ℕ) → 0 < workers → (s : Stand) (deliveries : Deliveries) (l : Line) → ((x : SetupLine) × (l ≡ line.Setup x)) ⊎ (l ≡ line.Burst)
      → LinePasses faults wrote a a workers s s (Some deliveries) (Ok (Some l)) (Ok (Some (Untaken Order)))
  plain_passed a workers some s deliveries l other =
      let way = some_way workers some (Some deliveries) (Ok (Some l)) in
      record { says = way; plays = plain_part a workers s deliveries l other way }

  pub inside_skipped : (a : K) (workers : ℕ) (s : Stand) (deliveries : Deliveries) (read : LineRead) → read ≡ Ok None → LinePasses faults wrote a a workers s s (Some deliveries) read (Ok None)
  inside_skipped a workers s deliveries read is =
      let passes : LinePasses faults wrote a a workers s s (Some deliveries) (Ok None) (Ok None) =
      record { says = record { says = λ _. Failed; orders = []; ordered = tt }; plays = plays-nothing faults wrote a s } in
      subst (λ (r : LineRead). LinePasses faults wrote a a workers s s (Some deliveries) r (Ok None)) (sym is) passes

  pub inside_unread : (a : K) (workers : ℕ) (s : Stand) (deliveries : Deliveries) (read : LineRead) (why : Reason) → read ≡ Err why
      → LinePasses faults wrote a a workers s s (Some deliveries) read (Ok (Some (Unread why)))
  inside_unread a workers s deliveries read why is =
      let passes : LinePasses faults wrote a a workers s s (Some deliveries) (Err why) (Ok (Some (Unread why))) =
      record { says = record { says = λ _. Failed; orders = []; ordered = tt }; plays = refused_part a s (Unread why) } in
      subst (λ (r : LineRead). LinePasses faults wrote a a workers s s (Some deliveries) r (Ok (Some (Unread why)))) (sym is) passes

  -- ---- lines

  abbrev pub Crowds : K → K → ℕ → Stand → Stand → ℕ → OpenBurst → List (List ℕ) → Result (Option (ℕ × Cause)) Fault → Type 0
  Crowds a b workers s t number burst texts result = PlaysSome faults wrote a b s t (crowd_from workers number s.world burst texts) result

  -- none is left
  pub crowd_end : (a : K) (workers : ℕ) (s : Stand) (number : ℕ) (burst : OpenBurst) → Crowds a a workers s s number burst [] (Ok (script_end number s.world burst).refused)
  unfolding crowd_from counted_from
  crowd_end a workers s number None = record { says = tt; plays = plays-nothing faults wrote a s }
  crowd_end a workers s number (Some deliveries) =
      record { says = tt; plays = line-plays faults wrote a a s s number (refusing s.world (Untaken Order)) (Ok (Some (Untaken Order))) (refused_part a s (Untaken Order)) }

  -- one that is refused ends them
  pub crowd_refused : (a b : K) (workers : ℕ) → 0 < workers → (s t : Stand) (number : ℕ) (burst : OpenBurst) (text : List ℕ) (texts : List (List ℕ)) (cause : Cause)
      → LinePasses faults wrote a b workers s t burst (line_read number text) (Ok (Some cause)) → Crowds a b workers s t number burst (text ∷ texts) (Ok (Some (number, cause)))
  unfolding crowd_from
  crowd_refused a b workers some s t number burst text texts cause first =
      let read = line_read number text in
      let made = passed_so workers s.world burst read first.says in
      let rest = some_ways workers some (number + 1) made.world (open_behind burst read) texts in
      record {
        says = (first.says, rest);
        plays = then-refused faults wrote a b s t (at_line number made) (λ later. crowd_from workers (number + 1) made.world (open_behind burst read) texts rest) (number, cause)
            (line-plays faults wrote a b s t number made (Ok (Some cause)) first.plays);
      }

  -- and one that breaks off
  pub crowd_broken : (a b : K) (workers : ℕ) → 0 < workers → (s t : Stand) (number : ℕ) (burst : OpenBurst) (text : List ℕ) (texts : List (List ℕ)) (f : Fault)
      → LinePasses faults wrote a b workers s t burst (line_read number text) (Err f) → Crowds a b workers s t number burst (text ∷ texts) (Err f)
  unfolding crowd_from
  crowd_broken a b workers some s t number burst text texts f first =
      let read = line_read number text in
      let made = passed_so workers s.world burst read first.says in
      let rest = some_ways workers some (number + 1) made.world (open_behind burst read) texts in
      record {
        says = (first.says, rest);
        plays = then-broken faults wrote a b s t (at_line number made) (λ later. crowd_from workers (number + 1) made.world (open_behind burst read) texts rest) f
            (line-plays faults wrote a b s t number made (Err f) first.plays);
      }

  -- one line more
  pub crowd_more : (a b c : K) (workers : ℕ) (s t u : Stand) (number : ℕ) (burst : OpenBurst) (text : List ℕ) (texts : List (List ℕ)) (result : Result (Option (ℕ × Cause)) Fault)
      → LinePasses faults wrote a b workers s t burst (line_read number text) (Ok None)
      → Crowds b c workers t u (number + 1) (open_behind burst (line_read number text)) texts result
      → Crowds a c workers s u number burst (text ∷ texts) result
  unfolding crowd_from
  crowd_more a b c workers s t u number burst text texts result first later =
      let read = line_read number text in
      let made = passed_so workers s.world burst read first.says in
      let On : World → Type 0 = λ w. (ways : AllWays workers (number + 1) w (open_behind burst read) texts)
      × PlaysPart faults wrote b c t u (crowd_from workers (number + 1) w (open_behind burst read) texts ways) result in
      let rest : On made.world = subst On (ap (λ (x : Stand). x.world) first.plays.stands) (later.says, later.plays) in
      record {
        says = (first.says, rest.0);
        plays = then-plays faults wrote a b c s t u (at_line number made) (λ next. crowd_from workers (number + 1) made.world (open_behind burst read) texts rest.0) result
            (line-plays faults wrote a b s t number made (Ok None) first.plays) rest.1;
      }

  -- ---- lines that were taken so far

  -- what takes the lines that are left from here on has taken all from the beginning
  abbrev pub CrowdsOn : K → K → ℕ → Stand → Stand → OpenBurst → LineCursor → LineCursor → Type 0
  CrowdsOn begun here workers s t burst first at =
      (end : K) (u : Stand) (result : Result (Option (ℕ × Cause)) Fault) → Crowds here end workers t u at.next burst at.ahead result → Crowds begun end workers s u first.next None first.ahead result

  pub on_line : (begun here next : K) (workers : ℕ) (s t u : Stand) (burst new_open : OpenBurst) (first at new : LineCursor) (number : ℕ) (text : List ℕ)
      → CrowdsOn begun here workers s t burst first at → IsNext at new number text → LinePasses faults wrote here next workers t u burst (line_read number text) (Ok None)
      → new_open ≡ open_behind burst (line_read number text) → CrowdsOn begun next workers s u new_open first new
  on_line begun here next workers s t u burst new_open first at new number text on is passes opens end v result later =
      let after = subst (λ (n : ℕ). Crowds next end workers u v n new_open new.ahead result) is.after later in
      let opened = subst (λ (o : OpenBurst). Crowds next end workers u v (number + 1) o new.ahead result) opens after in
      on end v result (subst (λ (n : ℕ). Crowds here end workers t v n burst at.ahead result) is.line
      (subst (λ (texts : List (List ℕ)). Crowds here end workers t v number burst texts result) (sym is.here)
      (crowd_more here next end workers t u v number burst text new.ahead result passes opened)))

  pub on_refused : (begun here next : K) (workers : ℕ) → 0 < workers → (s t u : Stand) (burst : OpenBurst) (first at new : LineCursor) (number : ℕ) (text : List ℕ) (cause : Cause)
      → CrowdsOn begun here workers s t burst first at → IsNext at new number text → LinePasses faults wrote here next workers t u burst (line_read number text) (Ok (Some cause))
      → Crowds begun next workers s u first.next None first.ahead (Ok (Some (number, cause)))
  on_refused begun here next workers some s t u burst first at new number text cause on is passes =
      let answer : Result (Option (ℕ × Cause)) Fault = Ok (Some (number, cause)) in
      on next u answer (subst (λ (n : ℕ). Crowds here next workers t u n burst at.ahead answer) is.line
      (subst (λ (texts : List (List ℕ)). Crowds here next workers t u number burst texts answer) (sym is.here)
      (crowd_refused here next workers some t u number burst text new.ahead cause passes)))

  pub on_broken : (begun here next : K) (workers : ℕ) → 0 < workers → (s t u : Stand) (burst : OpenBurst) (first at new : LineCursor) (number : ℕ) (text : List ℕ) (f : Fault)
      → CrowdsOn begun here workers s t burst first at → IsNext at new number text → LinePasses faults wrote here next workers t u burst (line_read number text) (Err f)
      → Crowds begun next workers s u first.next None first.ahead (Err f)
  on_broken begun here next workers some s t u burst first at new number text f on is passes =
      on next u (Err f) (subst (λ (n : ℕ). Crowds here next workers t u n burst at.ahead (Err f)) is.line
      (subst (λ (texts : List (List ℕ)). Crowds here next workers t u number burst texts (Err f)) (sym is.here)
      (crowd_broken here next workers some t u number burst text new.ahead f passes)))

  pub on_end : (begun here : K) (workers : ℕ) (s t : Stand) (burst : OpenBurst) (first at : LineCursor)
      → CrowdsOn begun here workers s t burst first at → at.ahead ≡ [] → Crowds begun here workers s t first.next None first.ahead (Ok (script_end at.next t.world burst).refused)
  on_end begun here workers s t burst first at on none =
      let answer : Result (Option (ℕ × Cause)) Fault = Ok (script_end at.next t.world burst).refused in
      on here t answer (subst (λ (texts : List (List ℕ)). Crowds here here workers t t at.next burst texts answer) (sym none) (crowd_end here workers t at.next burst))

  -- behind the last line
  pub on_missing : (begun here : K) (workers : ℕ) (s t : Stand) (burst : OpenBurst) (first at : LineCursor) (refusal : Refusal) (refused : Option (ℕ × Cause))
      → CrowdsOn begun here workers s t burst first at → line_at at ≡ Err refusal → refused ≡ (script_end refusal.line t.world burst).refused
      → Crowds begun here workers s t first.next None first.ahead (Ok refused)
  on_missing begun here workers s t burst first at refusal refused on is told =
      let Ends : Option (ℕ × Cause) → Type 0 = λ r. Crowds begun here workers s t first.next None first.ahead (Ok r) in
      subst Ends (sym (told ∙ ap (λ (n : ℕ). (script_end n t.world burst).refused) (number_missing at refusal is)))
      (on_end begun here workers s t burst first at on (line-none at refusal is))

-- ---- a script

pub crowd_played : {K : Type 0} (faults : K → ℕ) (wrote : K → List ℕ → Type 0) (a b : K) (workers : ℕ) (checks : List CheckParts) (s t v : Stand) (input : List ℕ) (refused : Option (ℕ × Cause))
    → s ≡ begun checks → v ≡ t → PlaysAll faults wrote a b s t (crowd_from workers 1 s.world None (lines_of input)) (Ok refused)
    → Plays (crowd_with workers checks) faults wrote a b input (Ok (record { world = v.world; counts = v.counts; refused = refused }))
crowd_played faults wrote a b workers checks s t v input refused first same all =
    let ok : Result (Option (ℕ × Cause)) Fault = Ok refused in
    script-done (crowd_with workers checks) faults wrote a b (begun checks) t input refused (record { world = v.world; counts = v.counts; refused = refused }) refl
    (ap (λ (x : Stand). record { world = x.world; counts = x.counts; refused = refused }) same)
    (subst (λ (x : Stand). PlaysAll faults wrote a b x t (crowd_from workers 1 x.world None (lines_of input)) ok) first all)

pub crowd_broke : {K : Type 0} (faults : K → ℕ) (wrote : K → List ℕ → Type 0) (a b : K) (workers : ℕ) (checks : List CheckParts) (s t : Stand) (input : List ℕ) (f : Fault)
    → s ≡ begun checks → PlaysAll faults wrote a b s t (crowd_from workers 1 s.world None (lines_of input)) (Err f) → Plays (crowd_with workers checks) faults wrote a b input (Err f)
crowd_broke faults wrote a b workers checks s t input f first all =
    let broken : Result (Option (ℕ × Cause)) Fault = Err f in
    script-broken (crowd_with workers checks) faults wrote a b (begun checks) t input f
    (subst (λ (x : Stand). PlaysAll faults wrote a b x t (crowd_from workers 1 x.world None (lines_of input)) broken) first all)
