use Rattle.std.proofs.Common.{rules, ◌≡◌, List, [], ◌∷◌, ◌++◌, length, sym, ap, ◌∙◌, subst}
use Rattle.std.proofs.lemmas.Result.{err_from_is_err_and}
use Rattle.vote_quorum.specs.declared.marks.Candidate.{Candidate}
use Rattle.vote_quorum.specs.Marks.{IsTally, ballots_of, values_of}
use Rattle.vote_quorum.proofs.Adding.{adds_new, adds_err}
use Rattle.vote_quorum.proofs.Grown.{tally_new, ballots_new}
use Rattle.vote_quorum.proofs.Kept.{ballot_elsewhere}
use Rattle.vote_quorum.proofs.marks.add_with.Goals as goal

pub returns-in_err-reserve-clause-adds : goal.returns-in_err-reserve-clause-adds
returns-in_err-reserve-clause-adds c =
    let p = err_from_is_err_and c.from_residual.result c.from_residual.ensures.1 in
    rw p.1
    (adds_err _ _ _ _ (ballot_elsewhere c.args.candidates.now.items c.args.marks.now.items c.args.log c.args.value c.requires.tally c.requires.new)
    (ap (λ cs. ballots_of (values_of cs) c.args.marks.now.items) c.in_err-reserve.ensures.items))

pub returns-in_err-push-clause-adds : goal.returns-in_err-push-clause-adds
returns-in_err-push-clause-adds c =
    let p = err_from_is_err_and c.from_residual-in_err-push.result c.from_residual-in_err-push.ensures.1 in
    rw p.1
    (adds_err _ _ _ _ (ballot_elsewhere c.args.candidates.now.items c.args.marks.now.items c.args.log c.args.value c.requires.tally c.requires.new)
    (ap (λ cs. ballots_of (values_of cs) c.push.new.self.items) c.in_ok-reserve.ensures.items
    ∙ ap (ballots_of (values_of c.args.candidates.now.items)) c.in_err-push.ensures.items))

candidates_after : (c : goal.After-push_reserved) → c.push_reserved.new.self.items ≡ c.args.candidates.now.items ++ record { value = c.args.value; logs = 1 } ∷ []
candidates_after c =
    c.push_reserved.ensures.items ∙ ap (λ cs. cs ++ record { value = c.args.value; logs = 1 } ∷ []) c.in_ok-reserve.ensures.items

marks_after : (c : goal.After-push_reserved) → c.push.new.self.items ≡ c.args.marks.now.items ++ record { log = c.args.log; candidate = length c.args.candidates.now.items } ∷ []
marks_after c =
    let place : c.len.result ≡ length c.args.candidates.now.items = search rules in
    c.in_ok-push.ensures.items
    ∙ ap (λ n. c.args.marks.now.items ++ record { log = c.args.log; candidate = n } ∷ []) place

pub returns-clause-tally : goal.returns-clause-tally
returns-clause-tally c =
    let P : List Candidate → Type 0 = λ cs. IsTally cs c.push.new.self.items in
    subst P (sym (candidates_after c))
    (subst (IsTally (c.args.candidates.now.items ++ record { value = c.args.value; logs = 1 } ∷ [])) (sym (marks_after c))
    (tally_new c.args.candidates.now.items c.args.marks.now.items c.args.log c.args.value c.requires.tally c.requires.new))

pub returns-clause-adds : goal.returns-clause-adds
returns-clause-adds c =
    adds_new _ _ _ (ballot_elsewhere c.args.candidates.now.items c.args.marks.now.items c.args.log c.args.value c.requires.tally c.requires.new)
    (ap (λ cs. ballots_of (values_of cs) c.push.new.self.items) (candidates_after c)
    ∙ ap (ballots_of (values_of (c.args.candidates.now.items ++ record { value = c.args.value; logs = 1 } ∷ []))) (marks_after c)
    ∙ ballots_new c.args.candidates.now.items c.args.marks.now.items c.args.log c.args.value c.requires.tally)
