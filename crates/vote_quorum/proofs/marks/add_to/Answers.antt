use Rattle.std.proofs.Common.{ℕ, List, ◌+◌, get_or, set, sym, ap, ◌∙◌, subst, arith}
use Rattle.std.proofs.lemmas.List.{length-map}
use Rattle.std.proofs.lemmas.Result.{err_from_is_err_and}
use Rattle.vote_quorum.specs.declared.marks.Candidate.{Candidate}
use Rattle.vote_quorum.specs.Ballots.{Ballot}
use Rattle.vote_quorum.specs.Marks.{IsTally, ballots_of, values_of, value_at}
use Rattle.vote_quorum.proofs.Adding.{adds_again, adds_new, adds_err}
use Rattle.vote_quorum.proofs.Grown.{tally_known, ballots_known}
use Rattle.vote_quorum.proofs.Kept.{counted_at, told_by_mark}
use Rattle.vote_quorum.proofs.Places.{nobody, value_at-candidate, log_count-le}
use Rattle.vote_quorum.proofs.marks.add_to.Goals as goal

-- the candidate at a place, and with one log more
abbrev before : List Candidate → ℕ → Candidate
before cs place = get_or cs place (record { value = nobody; logs = 0 })

abbrev after : List Candidate → ℕ → Candidate
after cs place = record { value = (before cs place).value; logs = (before cs place).logs + 1 }

pub returns-then-is_marked-clause-adds : goal.returns-then-is_marked-clause-adds
returns-then-is_marked-clause-adds c =
    adds_again _ _
    (told_by_mark c.args.candidates.now c.args.marks.now.items c.deref.result.now c.args.log c.args.place c.is_marked.result c.requires.tally c.requires.place c.deref.ensures.value c.is_marked.ensures
    ∙ c.if-is_marked.true)

pub returns-in_err-push-clause-adds : goal.returns-in_err-push-clause-adds
returns-in_err-push-clause-adds c =
    let p = err_from_is_err_and c.from_residual.result c.from_residual.ensures.1 in
    rw p.1
    (adds_err _ _ _ _
    (told_by_mark c.args.candidates.now c.args.marks.now.items c.deref.result.now c.args.log c.args.place c.is_marked.result c.requires.tally c.requires.place c.deref.ensures.value c.is_marked.ensures
    ∙ c.if-is_marked.false)
    (ap (ballots_of (values_of c.args.candidates.now)) c.in_err-push.ensures.items))

pub overflow_add-candidates : goal.overflow_add-candidates
overflow_add-candidates c =
    omega (
      arith,
      counted_at c.args.candidates.now c.args.marks.now.items c.args.place (record { value = nobody; logs = 0 }) c.requires.tally c.requires.place,
      log_count-le (ballots_of (values_of c.args.candidates.now) c.args.marks.now.items) (value_at (values_of c.args.candidates.now) c.args.place),
      length-map {B = Ballot} c.args.marks.now.items (λ m. (m.log, value_at (values_of c.args.candidates.now) m.candidate)),
      c.in_ok-push.ensures.len,
      c.in_ok-push.ensures.upper_bound,
    )

pub returns-clause-tally : goal.returns-clause-tally
returns-clause-tally c =
    subst (IsTally (set c.args.candidates.now c.args.place (after c.args.candidates.now c.args.place))) (sym c.in_ok-push.ensures.items)
    (tally_known c.args.candidates.now c.args.marks.now.items c.args.log c.args.place _ c.requires.tally c.requires.place
    (told_by_mark c.args.candidates.now c.args.marks.now.items c.deref.result.now c.args.log c.args.place c.is_marked.result c.requires.tally c.requires.place c.deref.ensures.value c.is_marked.ensures
    ∙ c.if-is_marked.false)
    (sym (value_at-candidate c.args.candidates.now c.args.place (record { value = nobody; logs = 0 }) c.requires.place))
    (ap (λ n. n + 1) (counted_at c.args.candidates.now c.args.marks.now.items c.args.place (record { value = nobody; logs = 0 }) c.requires.tally c.requires.place)))

pub returns-clause-adds : goal.returns-clause-adds
returns-clause-adds c =
    adds_new _ _ _
    (told_by_mark c.args.candidates.now c.args.marks.now.items c.deref.result.now c.args.log c.args.place c.is_marked.result c.requires.tally c.requires.place c.deref.ensures.value c.is_marked.ensures
    ∙ c.if-is_marked.false)
    (ap (ballots_of (values_of (set c.args.candidates.now c.args.place (after c.args.candidates.now c.args.place)))) c.in_ok-push.ensures.items
    ∙ ballots_known c.args.candidates.now c.args.marks.now.items c.args.log c.args.place _ c.requires.place
    (sym (value_at-candidate c.args.candidates.now c.args.place (record { value = nobody; logs = 0 }) c.requires.place)))
