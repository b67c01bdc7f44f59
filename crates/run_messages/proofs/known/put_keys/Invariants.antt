-- The lines so far, and those of the keys that are left, are all lines.
use Rattle.std.proofs.Common.{◌≡◌, ◌++◌, drop, map}
use Rattle.ar_run.specs.Answers.{bytes_of}
use Rattle.party_keys.specs.Directory.{role_keys}
use Rattle.run_messages.specs.Telling.{first_lines}
use Rattle.run_messages.proofs.known.put_keys.Given as goal

abbrev pub invariant-loop-number : goal.invariant-loop-number
invariant-loop-number l =
    map bytes_of l.lines.items ++ first_lines (drop l.number (role_keys l.directory l.role)) ≡ map bytes_of l.initial.lines.items ++ first_lines (role_keys l.directory l.role)
