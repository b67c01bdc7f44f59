-- The commands by their names.
use Rattle.std.specs.Prelude.{ℕ, if◌then◌else◌, List, codes, Option, Some, None}
use Rattle.std.specs.Str.{bytes_eq}
use Rattle.arpki_ask.specs.declared.command.Command.{Command}
use Rattle.arpki_ask.specs.declared.command.Command.TheVariants.{Sig, Check}

-- the command of a name
abbrev pub command_named : List ℕ → Option Command
command_named word =
    if bytes_eq word (codes "sig") then Some Sig else (if bytes_eq word (codes "check") then Some Check else None)
