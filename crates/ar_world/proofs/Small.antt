-- What is written of small scripts.
use Rattle.std.specs.Prelude.{◌≡◌, refl, List}
use Rattle.std.specs.Fmt.{digits}
use Rattle.ar_lines.specs.Lines.{lines_of, parts_of}
use Rattle.ar_lines.specs.Forms.{number_in}
use Rattle.ar_lines.specs.Parties.{party_of}
use Rattle.script_text.specs.Forms.{lms_of, number_with, ots_of, party_count_of, quorum_of}
use Rattle.script_text.specs.Rows.{read_of}
use Rattle.ar_world.specs.Examples.{Example, no_logs, told_twice, too_early, unread}
use Rattle.ar_nodes.specs.Parties.{CheckParts}
use Rattle.ar_world.specs.Run.{Saying, line_taken, lines_of_run, run, run_from}
use Rattle.ar_world.specs.Step.{event_effect, setup_effect}

abbrev Writes : Saying → List CheckParts → Example → Type 0
Writes saying checks e = lines_of_run (run saying checks e.script) ≡ e.written

pub writes-early : (saying : Saying) (checks : List CheckParts) → Writes saying checks too_early
unfolding digits run_from line_taken lines_of parts_of read_of event_effect setup_effect number_with party_of number_in
writes-early saying checks = refl

pub writes-twice : (saying : Saying) (checks : List CheckParts) → Writes saying checks told_twice
unfolding digits run_from line_taken lines_of parts_of read_of event_effect setup_effect lms_of ots_of
writes-twice saying checks = refl

pub writes-no_logs : (saying : Saying) (checks : List CheckParts) → Writes saying checks no_logs
unfolding digits run_from line_taken lines_of parts_of read_of event_effect setup_effect party_count_of
writes-no_logs saying checks = refl

pub writes-unread : (saying : Saying) (checks : List CheckParts) → Writes saying checks unread
unfolding digits run_from line_taken lines_of parts_of read_of event_effect setup_effect lms_of ots_of party_count_of quorum_of
writes-unread saying checks = refl
