-- What the program answers, where it is called with what it is given here.
use Rattle.std.proofs.Common.{◌≡◌, ℕ, List, [], replicate, Option, Some, subst}
use Rattle.arpki_play.specs.Program.{Answers}
use Rattle.arpki_play.specs.Words.{request_of}
use Rattle.log_restart.specs.declared.disks.Disks.{Disks}
use Rattle.owner_check.specs.Answers.{Booked}
use Rattle.script_play.specs.ar_nodes.Parties.{CheckParts, checks_told}
use Rattle.arpki_page.specs.Called.{HasKept, KeptBytes, Program, empty_checks, nothing_kept}

-- the checks of these books
abbrev pub checks_of : List Booked → List CheckParts
checks_of books = checks_told {C = Booked} (λ check. Some (record { book = check.book; fails = [] })) (λ check. check.answers) books

-- an answer to what is equal to these words, checks, input and sink is the program's answer to them
pub program_answers : (texts words : List (List ℕ)) (books : List Booked) (source input : List ℕ) (left : Option (List ℕ)) (kept written : KeptBytes) (before after : Disks) (status : ℕ)
    → Answers (checks_of books) (request_of texts) (Some source) left HasKept kept written before after status
    → texts ≡ words → books ≡ replicate 16 (record { book = []; answers = [] }) → source ≡ input → kept ≡ nothing_kept
    → Program words input written status
program_answers texts words books source input left kept written before after status answers texts-are books-are source-is kept-is =
    let asked = subst (λ (t : List (List ℕ)). Answers (checks_of books) (request_of t) (Some source) left HasKept kept written before after status) texts-are answers in
    let checked = subst (λ (b : List Booked). Answers (checks_of b) (request_of words) (Some source) left HasKept kept written before after status) books-are asked in
    let given = subst (λ (s : List ℕ). Answers empty_checks (request_of words) (Some s) left HasKept kept written before after status) source-is checked in
    record {
      left = left;
      before = before;
      after = after;
      answers = subst (λ (k : KeptBytes). Answers empty_checks (request_of words) (Some input) left HasKept k written before after status) kept-is given;
    }
