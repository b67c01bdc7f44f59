use Rattle.std.proofs.Common.{rules, ◌≡◌, ◌++◌, ℕ, List, inr, refl, length, take, drop, ap, ◌∙◌, arith}
use Rattle.chained_journal.proofs.opening.check_header.Goals as goal

pub returns-then-not-begins-2-clause-refused : goal.returns-then-not-begins-2-clause-refused
returns-then-not-begins-2-clause-refused c =
    let behind : List ℕ = drop (length c.split_at.result.0.now) c.args.file.now in
    let marked : c.args.file.now ≡ take 8 c.args.title.now.header ++ behind =
    c.begins.ensures.yes (search rules) ∙ ap (λ (l : List ℕ). l ++ behind) c.split_at.ensures.front in
    inr (inr (inr (refl, record { long = omega arith; behind = behind; marked = marked; other = c.begins-2.ensures.no (search rules) })))
