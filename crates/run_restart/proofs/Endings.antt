-- What comes of a log that restarts, or of a line that is refused.
use Rattle.std.proofs.Common.{◌≡◌, ℕ, ◌<◌, ◌≤◌, Bool, true, false, nat_lt, if◌then◌else◌, List, [], ◌∷◌, length, map, refl, sym, ap, ◌∙◌, subst, arith, Option, None, Some, Result, Ok, Err, IfOk}
use Rattle.std.specs.Option.{option_map}
use Rattle.std.specs.declared.alloc.AllocError.{AllocError}
use Rattle.std.proofs.lemmas.Bool.Decides.{nat_tests}
use Rattle.std.proofs.lemmas.List.{length-map}
use Rattle.std.proofs.lemmas.Option.{same_Some}
use Rattle.script_play.specs.ar_nodes.Parties.{LogNode}
use Rattle.script_play.specs.ar_nodes.declared.event.LogEvent.{LogEvent}
use Rattle.script_play.specs.ar_nodes.declared.fault.WorldFault.TheVariants.{Absent, Limit}
use Rattle.ar_run.specs.Answers.{Answer}
use Rattle.script_play.specs.ar_world.Finding.{log_at}
use Rattle.script_play.specs.ar_world.Records.{HasParties, taken_at}
use Rattle.script_play.specs.ar_world.State.{World}
use Rattle.script_play.specs.ar_world.declared.cause.Cause.{Cause}
use Rattle.script_play.specs.ar_world.declared.cause.Cause.TheVariants.{Untaken}
use Rattle.kept_journal.specs.Replays.{ReachesBy}
use Rattle.key_roll.specs.Book.{RollBook}
use Rattle.lms_tree.specs.KeyParts.{KeyParts}
use Rattle.log_core.specs.Inputs.{input_of}
use Rattle.log_core.specs.declared.step.LogInput.{LogInput}
use Rattle.run_replays.specs.log_journal.Steps.{LogStanding, takes}
use Rattle.log_restart.specs.Inputs.{most_input_bytes, text_of, texts_of, total_len}
use Rattle.log_restart.specs.Restarted.{AreRestarted, recovered_of, told_of}
use Rattle.log_restart.specs.declared.disks.Disks.{Disks}
use Rattle.log_restart.specs.declared.told.RestartReport.{RestartReport}
use Rattle.run_replays.specs.Inputs.{first_key_of}
use Rattle.run_replays.specs.Replayed.{IsNewestKey, first_standing, standing_in}
use Rattle.run_restart.specs.Answers.{refusing, restart_line, telling, telling_few, telling_log}
use Rattle.run_restart.specs.Asking.{asked_from, input_in, texts_in, texts_of_log}
use Rattle.run_restart.specs.Ending.{AreMade, DidSo, EachReplayed, IsEnded}
use Rattle.run_restart.specs.declared.asking.Asked.{Asked}
use Rattle.run_restart.specs.declared.command.Restart.{Restart}
use Rattle.run_restart.specs.declared.ended.Ended.{Ended}
use Rattle.run_restart.proofs.Inputs.{inputs-texts}

-- what two facts on what was answered make
both : {P Q R : Ended → Type 0} (result : Result Ended AllocError) → ((ended : Ended) → P ended → Q ended → R ended) → IfOk result P → IfOk result Q → IfOk result R
both (Ok ended) so p q = so ended p q
both (Err e) so p q = tt

-- ---- a line that is refused

refused-is : (refusal : ℕ × Cause) (texts : List (List ℕ)) (calls : ℕ) (ended : Ended) → ended.answer ≡ refusing refusal → ended.disks ≡ None
    → IsEnded (refusing refusal) texts calls ended
refused-is refusal texts calls ended answer none = record {
  answered = answer;
  made = subst (AreMade 3 texts calls) (sym none) refl;
}

pub refused-ended : (refusal : ℕ × Cause) (texts : List (List ℕ)) (calls : ℕ) (result : Result Ended AllocError)
    → IfOk result (λ ended. ended.answer ≡ refusing refusal) → IfOk result (λ ended. ended.disks ≡ None) → IfOk result (IsEnded (refusing refusal) texts calls)
refused-ended refusal texts calls result answer none = both result (refused-is refusal texts calls) answer none

pub ruleset refused_laws = (refused-ended)

-- ---- two runs

abbrev line_of : Restart → RestartReport → Answer
line_of asked told = record { lines = restart_line asked told ∷ []; status = 0 }

told-is : (asked : Restart) (inputs : List LogInput) (book : RollBook) (told : RestartReport) (disks : Disks) (ended : Ended)
    → told ≡ told_of (recovered_of (length inputs) asked.calls) (length inputs) book → AreRestarted (texts_of inputs) asked.calls disks.before disks.after
    → ended.answer ≡ record { lines = restart_line asked told ∷ []; status = 0 } → ended.disks ≡ Some disks
    → IsEnded (telling asked (texts_of inputs) book) (texts_of inputs) asked.calls ended
told-is asked inputs book told disks ended told_is are answer made =
    let many : length (texts_of inputs) ≡ length inputs = length-map inputs text_of in
    record {
      answered = answer ∙ ap (line_of asked) told_is ∙ ap (λ (n : ℕ). line_of asked (told_of (recovered_of n asked.calls) n book)) (sym many);
      made = subst (AreMade 0 (texts_of inputs) asked.calls) (sym made) (refl, are);
    }

pub told-ended : (asked : Restart) (inputs : List LogInput) (book : RollBook) (told : RestartReport) (disks : Disks) (result : Result Ended AllocError)
    → told ≡ told_of (recovered_of (length inputs) asked.calls) (length inputs) book → AreRestarted (texts_of inputs) asked.calls disks.before disks.after
    → IfOk result (λ ended. ended.answer ≡ record { lines = restart_line asked told ∷ []; status = 0 }) → IfOk result (λ ended. ended.disks ≡ Some disks)
    → IfOk result (IsEnded (telling asked (texts_of inputs) book) (texts_of inputs) asked.calls)
told-ended asked inputs book told disks result is are answer made = both result (λ ended a m. told-is asked inputs book told disks ended is are a m) answer made

-- ---- few inputs, or too many

module _ (asked : Restart) (behind : ℕ) (texts : List (List ℕ)) (book : RollBook) where
  few-same : total_len texts ≤ most_input_bytes → telling asked texts book ≡ telling_few asked behind texts book
  few-same few =
      let so : nat_lt most_input_bytes (total_len texts) ≡ false = grind (arith, nat_tests) in
      ap (λ (b : Bool). if b then refusing (behind, Untaken Limit) else telling asked texts book) (sym so)

  many-same : most_input_bytes < total_len texts → refusing (behind, Untaken Limit) ≡ telling_few asked behind texts book
  many-same many =
      let so : nat_lt most_input_bytes (total_len texts) ≡ true = grind (arith, nat_tests) in
      ap (λ (b : Bool). if b then refusing (behind, Untaken Limit) else telling asked texts book) (sym so)

  pub few-ended : (calls : ℕ) (result : Result Ended AllocError) → total_len texts ≤ most_input_bytes → IfOk result (IsEnded (telling asked texts book) texts calls)
      → IfOk result (IsEnded (telling_few asked behind texts book) texts calls)
  few-ended calls result few ended = subst (λ (a : Answer). IfOk result (IsEnded a texts calls)) (few-same few) ended

  pub many-ended : (calls : ℕ) (result : Result Ended AllocError) → most_input_bytes < total_len texts → IfOk result (λ ended. ended.answer ≡ refusing (behind, Untaken Limit))
      → IfOk result (λ ended. ended.disks ≡ None) → IfOk result (IsEnded (telling_few asked behind texts book) texts calls)
  many-ended calls result many answer none =
      subst (λ (a : Answer). IfOk result (IsEnded a texts calls)) (many-same many) (refused-ended (behind, Untaken Limit) texts calls result answer none)

pub ruleset few_laws = (few-ended, many-ended)

-- ---- a log of a world

module _ (asked : Restart) (w : World) (taken : List LogEvent) (ring : List KeyParts) (all : List Asked) (inputs : List LogInput) (did : DidSo w asked.log taken)
    (begins : ring ≡ first_key_of w asked.log ∷ []) (were : (newest : KeyParts) → IsNewestKey ring newest → all ≡ asked_from newest taken)
    (same : map input_of inputs ≡ map (input_in w.pool) all) where
  -- its texts are those of the run
  log-texts : texts_of inputs ≡ texts_of_log w asked.log (Some did.node)
  log-texts =
      let first = first_key_of w asked.log in
      let newest : IsNewestKey ring first = subst (λ (ks : List KeyParts). IsNewestKey ks first) (sym begins) refl in
      inputs-texts w asked.log did.node all inputs (were first newest ∙ ap (asked_from first) did.did) same

  -- it takes them again
  log-replays : ReachesBy takes (first_standing w asked.log) (texts_of inputs) (standing_in did.node)
  log-replays = subst (λ (ts : List (List ℕ)). ReachesBy takes (first_standing w asked.log) ts (standing_in did.node)) (sym log-texts) did.replayed.replays

  pub log-takes : (last : LogStanding) × ReachesBy takes (first_standing w asked.log) (texts_of inputs) last
  log-takes = (standing_in did.node, log-replays)

  -- what comes of it
  pub log-told : (behind : ℕ) (result : Result Ended AllocError)
      → ((last : LogStanding) → ReachesBy takes (first_standing w asked.log) (texts_of inputs) last
      → IfOk result (IsEnded (telling_few asked behind (texts_of inputs) last.core.log.past.signed) (texts_of inputs) asked.calls))
      → IfOk result (IsEnded (telling_log asked behind w (log_at w asked.log)) (texts_in w asked.log) asked.calls)
  log-told behind result ended =
      let RestartReport = λ (ts : List (List ℕ)). IfOk result (IsEnded (telling_few asked behind ts did.node.core.log.past.signed) ts asked.calls) in
      let There = λ (n : Option LogNode). IfOk result (IsEnded (telling_log asked behind w n) (texts_of_log w asked.log n) asked.calls) in
      subst There (sym did.there) (subst RestartReport log-texts (ended (standing_in did.node) log-replays))

pub log-late : (w : World) (number : ℕ) (taken : List LogEvent) → DidSo w number taken → HasParties w
log-late w number taken did = did.replayed.late

pub ruleset log_laws = (log-late)

-- ---- whether it is there

did-at : (w : World) (number : ℕ) (taken : List LogEvent) (node : Option LogNode) → log_at w number ≡ node → Some taken ≡ option_map (λ n. n.taken) node
    → EachReplayed w number → DidSo w number taken
did-at w number taken None at is each = absurd cc
did-at w number taken (Some node) at is each = record { node = node; there = at; did = same_Some taken node.taken is; replayed = each node at }

pub did-so : (w : World) (number : ℕ) (taken : List LogEvent) → Some taken ≡ taken_at w number → EachReplayed w number → DidSo w number taken
did-so w number taken is each = did-at w number taken (log_at w number) refl is each

none-at : (node : Option LogNode) → None ≡ option_map (λ (n : LogNode). n.taken) node → node ≡ None
none-at None is = refl
none-at (Some node) is = absurd cc

pub none-ended : (asked : Restart) (behind : ℕ) (w : World) (result : Result Ended AllocError) → None ≡ taken_at w asked.log
    → IfOk result (λ ended. ended.answer ≡ refusing (behind, Untaken (Absent 1))) → IfOk result (λ ended. ended.disks ≡ None)
    → IfOk result (IsEnded (telling_log asked behind w (log_at w asked.log)) (texts_in w asked.log) asked.calls)
none-ended asked behind w result is answer none =
    subst (λ (n : Option LogNode). IfOk result (IsEnded (telling_log asked behind w n) (texts_of_log w asked.log n) asked.calls)) (sym (none-at (log_at w asked.log) is))
    (refused-ended (behind, Untaken (Absent 1)) [] asked.calls result answer none)

pub ruleset there_laws = (did-so, none-ended)
