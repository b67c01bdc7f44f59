-- What is written of a run: the first keys of its parties, its messages by number, and which line was refused, if one was; each
-- line with its newline.
use Rattle.std.specs.Prelude.{◌≡◌, ◌⊎◌, ℕ, ◌+◌, if◌then◌else◌, List, [], ◌∷◌, ◌++◌, codes, length, slice_get, Option, Some, None}
use Rattle.std.specs.Fmt.{decimal}
use Rattle.hex.specs.Hex.{encode_lower}
use Rattle.lms_tree.specs.PublicKey.{key_text}
use Rattle.lms_tree.specs.declared.public_key.LmsPublic.{LmsPublic}
use Rattle.script_play.specs.ar_nodes.Pool.{Pooled}
use Rattle.ar_run.specs.Answers.{Answer}
use Rattle.script_play.specs.ar_world.Founding.{is_peopled}
use Rattle.script_play.specs.ar_world.Run.{refused_lines}
use Rattle.script_play.specs.ar_world.State.{World}
use Rattle.party_keys.specs.Directory.{Directory}
use Rattle.script_play.specs.Played.{run_status}
use Rattle.script_play.specs.Playing.{Played}

-- ---- the directory, in the lines that `check` and `audit` read

-- `key <hex>`
abbrev pub key_line : LmsPublic → List ℕ
key_line key = codes "key " ++ (encode_lower (key_text key) ++ codes "\n")

-- the line of a party's first key
abbrev pub first_line : Option LmsPublic → List (List ℕ)
first_line None = []
first_line (Some key) = key_line key ∷ []

-- the lines of the first keys of parties, of each of which there are the keys from generation 0 on
abbrev pub first_lines : List (List LmsPublic) → List (List ℕ)
first_lines [] = []
first_lines (keys ∷ more) = first_line (slice_get keys 0) ++ first_lines more

-- `logs <N> <q>`
abbrev pub logs_line : Directory → List ℕ
logs_line keys = codes "logs " ++ (decimal (length keys.logs) ++ (codes " " ++ (decimal keys.quorum ++ codes "\n")))

-- `authorities <M>`
abbrev pub authorities_line : Directory → List ℕ
authorities_line keys = codes "authorities " ++ (decimal (length keys.authorities) ++ codes "\n")

-- how many logs and authorities there are, how many logs are a quorum, and the first key of each
abbrev pub directory_lines : Directory → List (List ℕ)
directory_lines keys =
    logs_line keys ∷ (first_lines keys.logs ++ (authorities_line keys ∷ first_lines keys.authorities))

-- the directory that clients know, from the line `authorities` on
abbrev pub known_lines : World → List (List ℕ)
known_lines w = if is_peopled w.phase then directory_lines w.clients else []

-- ---- messages

-- `m<number> <hex>`
abbrev pub message_line : ℕ → List ℕ → List ℕ
message_line number bytes = codes "m" ++ (decimal number ++ (codes " " ++ (encode_lower bytes ++ codes "\n")))

-- the line of the message with this number, where there is one
abbrev pub line_at : ℕ → Option (List ℕ) → List (List ℕ)
line_at number None = []
line_at number (Some bytes) = message_line number bytes ∷ []

-- the lines of messages, the first of which has this number
abbrev pub message_lines : ℕ → List Pooled → List (List ℕ)
message_lines number [] = []
message_lines number (p ∷ more) = message_line number p.bytes ∷ message_lines (number + 1) more

-- ---- a run

-- a status that a run has
abbrev pub IsScriptStatus : ℕ → Type 0
IsScriptStatus status = (status ≡ 0) ⊎ (status ≡ 3)

-- what is written of what a script came to, and the status
abbrev pub told_of : Played → Answer
told_of p = record {
  lines = known_lines p.world ++ (message_lines 1 p.world.pool ++ refused_lines p.refused);
  status = run_status p.refused;
}
