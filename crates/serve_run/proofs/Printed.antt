-- The lines of replies, one after another.
use Rattle.std.proofs.Common.{◌≡◌, ℕ, ◌+◌, ◌<◌, List, [], ◌∷◌, ◌++◌, length, map, drop, get_or, sym, ap, ◌∙◌}
use Rattle.std.proofs.lemmas.List.{append-nil, drop_more}
use Rattle.std.proofs.Math.Seq.{drop-length}
use Rattle.serve_run.specs.Answers.{reply_line, reply_lines}
use Rattle.serve_run.specs.declared.reply.Reply.{Reply}
use Rattle.serve_run.proofs.Bringing.{map_front}

-- one line more
pub lines_next : {A : Type 0} (f : A → List ℕ) (lines : List A) (line : A) (number : ℕ) (replies : List Reply) (reply : Reply) → number < length replies → f line ≡ reply_line number reply → reply ≡ get_or replies number reply
    → map f (lines ++ line ∷ []) ++ reply_lines (number + 1) (drop (number + 1) replies) ≡ map f lines ++ reply_lines number (drop number replies)
lines_next f lines line number replies reply lt is at =
    map_front f lines line _
    ∙ ap (λ l. map f lines ++ l ∷ reply_lines (number + 1) (drop (number + 1) replies)) (is ∙ ap (reply_line number) at)
    ∙ ap (λ l. map f lines ++ l) (sym (ap (reply_lines number) (drop_more replies number reply lt)))

-- all lines
pub lines_all : {A : Type 0} (f : A → List ℕ) (lines : List A) (number : ℕ) (replies : List Reply) → number ≡ length replies → map f lines ++ reply_lines number (drop number replies) ≡ map f lines
lines_all f lines number replies end = ap (λ l. map f lines ++ reply_lines number l) (ap (λ n. drop n replies) end ∙ drop-length replies) ∙ append-nil (map f lines)
