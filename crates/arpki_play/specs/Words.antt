-- The words that the program is called with, after its own name.
use Rattle.std.specs.Prelude.{ℕ, ◌&&◌, if◌then◌else◌, List, [], ◌∷◌, codes, map, Option, Some, None, String, string_bytes, option_map}
use Rattle.std.specs.Option.{option_or}
use Rattle.std.specs.Str.{bytes_eq}
use Rattle.std.specs.declared.alloc.Global.{Global}
use Rattle.ar_lines.specs.Forms.{number_in}
use Rattle.ar_run.specs.Answers.{Answer as Written, one_line}
use Rattle.arpki_ask.specs.Commands.{command_named}
use Rattle.review.specs.Reviews.{review_named}
use Rattle.run_restart.specs.Asking.{restart_of}
use Rattle.arpki_play.specs.declared.request.Request.{Request}
use Rattle.arpki_play.specs.declared.request.Request.TheVariants.{Answer, Make, Play, Restart, Review, Run}

-- the bytes of each word
abbrev pub texts : List (String Global) → List (List ℕ)
texts words = map string_bytes words

-- how many domains a word says that a script is for: 1 to 400
abbrev pub domains_of : List ℕ → Option ℕ
domains_of word = number_in 1 400 word

-- what one word asks for: to play, the answer of a command, or a review
unfoldable pub request_named : List ℕ → Option Request
request_named word =
    if bytes_eq word (codes "play") then Some Play else
    option_or (option_map Answer (command_named word)) (option_map Review (review_named word))

-- what three words ask for: `make`, a number of domains and `run`, or `restart`, a log and how many calls of its disk pass
abbrev pub request_of_three : List ℕ → List ℕ → List ℕ → Option Request
request_of_three name number last =
    if bytes_eq name (codes "restart") then option_map Restart (restart_of number last) else
    (if bytes_eq name (codes "make") && bytes_eq last (codes "run") then option_map Run (domains_of number) else None)

-- what the words ask for, where they are of a form: `play`, the answer of a command, a review, `make` with a number of domains,
-- and with the word `run` behind it, or `restart` with a log and a number of calls
abbrev pub request_of : List (List ℕ) → Option Request
request_of [] = None
request_of (name ∷ []) = request_named name
request_of (name ∷ number ∷ []) = if bytes_eq name (codes "make") then option_map Make (domains_of number) else None
request_of (name ∷ number ∷ last ∷ []) = request_of_three name number last
request_of (name ∷ number ∷ last ∷ next ∷ more) = None

-- the words are of no form: the usage line
abbrev pub usage : Written
usage = one_line (codes "usage: arpki play | check | sig | make <number> [run] | restart <log> <k> | audit | follow") 2
