-- The lines of a directory stand behind the others, one behind the other.
use Rattle.std.proofs.Common.{[], ◌∷◌, ◌++◌, ap, ◌∙◌, map}
use Rattle.ar_run.specs.Answers.{bytes_of}
use Rattle.run_messages.proofs.Behind.{directory-told}
use Rattle.run_messages.proofs.known.put_directory.Goals as goal

pub returns : goal.returns
returns c =
    directory-told (map bytes_of c.args.lines.now.items) _ _ _ _ _ _ _ _
    (c.in_ok-put_line.ensures ∙ ap (λ line. map bytes_of c.args.lines.now.items ++ line ∷ []) c.in_ok-logs_line.ensures)
    c.in_ok-put_keys.ensures
    (c.in_ok-put_line-2.ensures ∙ ap (λ line. map bytes_of c.put_keys.new.lines.items ++ line ∷ []) c.in_ok-authorities_line.ensures)
    c.in_ok-put_keys-2.ensures
