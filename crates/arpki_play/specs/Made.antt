-- What `make <number> run` writes, and with which status.
use Rattle.std.specs.Prelude.{ℕ, List, [], ◌∷◌, ◌++◌, codes, length, Option, Some, None}
use Rattle.std.specs.Fmt.{decimal}
use Rattle.hex.specs.Hex.{encode_lower}
use Rattle.sha2.specs.Sha256.{sha256}
use Rattle.ar_run.specs.Answers.{Answer}
use Rattle.script_play.specs.ar_nodes.Parties.{CheckParts}
use Rattle.script_play.specs.ar_world.Run as world
use Rattle.script_make.specs.Script.{last_script_epoch, script}
use Rattle.script_play.specs.ar_world.declared.cause.Cause.{Cause}
use Rattle.script_play.specs.Playing.{Played, played_of}
use Rattle.script_play.specs.declared.counts.Counts.{Counts}

-- how many domains, messages and epochs there are, how many judgements accept, hold that there is no certificate, and refuse, and
-- the digest of all that is written where the script is played; a line with its newline
abbrev pub summary_line : ℕ → ℕ → Counts → List ℕ → List ℕ
summary_line domains messages n output =
    codes "domains " ++ (decimal domains ++ (codes " messages " ++ (decimal messages ++ (codes " epochs "
    ++ (decimal (last_script_epoch domains) ++ (codes " accepted " ++ (decimal n.accepted ++ (codes " absent " ++ (decimal n.absent
    ++ (codes " refused " ++ (decimal n.refused ++ (codes " output " ++ (encode_lower output ++ codes "\n")))))))))))))

-- the summary of what a script came to, where this is the digest of what is written of it, or the line that is refused
abbrev pub summed : ℕ → Played → List ℕ → Option (ℕ × Cause) → Answer
summed domains p output None = record { lines = summary_line domains (length p.world.pool) p.counts output ∷ []; status = 0 }
summed domains p output (Some refusal) = record { lines = world.refused_text refusal ∷ []; status = 3 }

-- what is answered where this script for so many domains is played
abbrev pub made_of : world.Saying → List CheckParts → ℕ → List ℕ → Answer
made_of saying checks domains text =
    let r = world.run saying checks text
    in summed domains (played_of r) (sha256 (world.text_of_run r)) r.refused

-- what is answered where the script for so many domains is made and played
abbrev pub made_answer : world.Saying → List CheckParts → ℕ → Answer
made_answer saying checks domains = made_of saying checks domains (script domains)
