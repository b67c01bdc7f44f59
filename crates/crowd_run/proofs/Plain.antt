-- A script without a burst comes to what it comes to where it is played.
use Rattle.std.proofs.Common.{◌≡◌, ℕ, ◌+◌, ◌≤◌, List, [], ◌∷◌, refl, sym, ap, ◌∙◌, arith, Bool, true, false, nat_lt, Option, Some, None, Ok, Err}
use Rattle.std.specs.Prelude.{if◌then◌else◌}
use Rattle.std.specs.List.{AllByRecursion}
use Rattle.ar_lines.specs.Lines.{lines_of}
use Rattle.ar_lines.specs.declared.refusal.Reason.{Reason}
use Rattle.ar_lines.specs.declared.refusal.Reason.TheVariants as reason
use Rattle.script_play.specs.ar_nodes.Parties.{CheckParts}
use Rattle.script_play.specs.ar_world.Run.{Run, Saying, at_line, printed_before, line_taken, most_lines, run, run_from, taken_as, then_if, then_on}
use Rattle.script_play.specs.ar_world.State.{World, first_world}
use Rattle.script_play.specs.ar_world.declared.cause.Cause.{Cause}
use Rattle.burst_run.specs.Stations.{Deliveries}
use Rattle.owner_check.specs.declared.answer.Outcome.{Outcome}
use Rattle.owner_check.specs.declared.answer.Outcome.TheVariants.{Failed}
use Rattle.script_play.specs.Playing.{line_read}
use Rattle.script_play.proofs.Deliveries.{said-later, said-there, then-same, with_said_at}
use Rattle.script_play.proofs.Taking.{taken-as-read}
use Rattle.script_text.specs.Rows.{read_of}
use Rattle.script_text.specs.declared.line.Line.{Line}
use Rattle.script_text.specs.declared.line.Line.TheVariants as line
use Rattle.crowd_run.specs.Scripts.{AllWays, InputWays, LineRead, OpenBurst, crowd_from, crowd_with, is_burst, open_behind, passed_outside, passed_so}

-- ---- a line that is no `burst`

read_plain : (number : ℕ) (text : List ℕ) → is_burst (read_of text) ≡ false → is_burst (line_read number text) ≡ false
read_plain number text plain = by (nat_lt most_lines number)
  where
    by : (b : Bool) → is_burst (if b then Err reason.Limit else read_of text) ≡ false
    by true = refl
    by false = plain

pub plain_opens : (read : LineRead) → is_burst read ≡ false → open_behind None read ≡ None
plain_opens (Ok (Some line.Burst)) plain = absurd (cc)
plain_opens (Ok (Some _)) plain = refl
plain_opens (Ok None) plain = refl
plain_opens (Err why) plain = refl

pub plain_passes : (says : ℕ → Outcome) (w : World) (read : LineRead) → is_burst read ≡ false → passed_outside says w read ≡ taken_as says w read
plain_passes says w (Ok (Some line.Burst)) plain = absurd (cc)
plain_passes says w (Ok (Some _)) plain = refl
plain_passes says w (Ok None) plain = refl
plain_passes says w (Err why) plain = refl

-- ---- lines

-- what lines come to depends on what is said at their numbers alone
said_alike : (saying other : Saying) (number : ℕ) (texts : List (List ℕ)) → ((n : ℕ) → number ≤ n → saying n ≡ other n) → (w : World)
    → run_from saying number w texts ≡ run_from other number w texts
unfolding run_from
said_alike saying other number [] same w = refl
said_alike saying other number (text ∷ texts) same w =
    ap (λ (says : ℕ → Outcome). then_on (at_line number (line_taken says number w text)) (λ v. run_from saying (number + 1) v texts)) (same number (omega arith))
    ∙ then-same (at_line number (line_taken (other number) number w text)) (λ v. run_from saying (number + 1) v texts) (λ v. run_from other (number + 1) v texts)
    (said_alike saying other (number + 1) texts (λ n later. same n (omega (arith, later))))

-- what follows is asked for the world that is there
there_if : (cause : Option (ℕ × Cause)) (p rest : Run) (next : World → Run) → rest ≡ next p.world → then_if cause p (λ later. rest) ≡ then_if cause p next
there_if None p rest next is = ap (printed_before p.said) is
there_if (Some cause) p rest next is = refl

-- what lines come to that are no bursts, in these ways
abbrev Played : (workers number : ℕ) (w : World) (burst : OpenBurst) (texts : List (List ℕ)) → AllWays workers number w burst texts → Type 0
Played workers number w burst texts ways = (saying : Saying) × (crowd_from workers number w burst texts ways ≡ run_from saying number w texts)

plain_from : (workers number : ℕ) (w : World) (burst : OpenBurst) (texts : List (List ℕ)) (ways : AllWays workers number w burst texts) → burst ≡ None
    → AllByRecursion (λ text. is_burst (read_of text) ≡ false) texts → Played workers number w burst texts ways
unfolding crowd_from run_from
plain_from workers number w (Some deliveries) texts ways none plain = absurd (cc)
plain_from workers number w None [] ways none plain = (λ _ _. Failed, refl)
plain_from workers number w None (text ∷ texts) ways none plain =
    let read = line_read number text in
    let other = read_plain number text plain.0 in
    let made = passed_so workers w None read ways.0 in
    let rest = crowd_from workers (number + 1) made.world (open_behind None read) texts ways.1 in
    let later = plain_from workers (number + 1) made.world (open_behind None read) texts ways.1 (plain_opens read other) plain.1 in
    let saying = with_said_at number ways.0.says later.0 in
    let next : World → Run = λ v. run_from saying (number + 1) v texts in
    let same : rest ≡ next made.world = later.1 ∙ said_alike later.0 saying (number + 1) texts (said-later number ways.0.says later.0) made.world in
    let taken : made ≡ line_taken (saying number) number w text =
    plain_passes ways.0.says w read other ∙ sym (taken-as-read ways.0.says number w text)
    ∙ ap (λ (says : ℕ → Outcome). line_taken says number w text) (sym (said-there number ways.0.says later.0)) in
    (saying, there_if (at_line number made).refused (at_line number made) rest next same ∙ ap (λ p. then_on (at_line number p) next) taken)

-- ---- a script

pub plain_run : (workers : ℕ) (checks : List CheckParts) (input : List ℕ) (ways : InputWays workers checks input)
    → AllByRecursion (λ text. is_burst (read_of text) ≡ false) (lines_of input) → (saying : Saying) × (crowd_with workers checks input ways ≡ run saying checks input)
plain_run workers checks input ways plain = plain_from workers 1 (first_world checks) None (lines_of input) ways refl plain
