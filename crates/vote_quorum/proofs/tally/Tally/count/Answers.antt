use Rattle.std.proofs.Common.{◌≡◌, sym, ap, ◌∙◌, Some, None}
use Rattle.std.specs.Prelude.{position}
use Rattle.vote_quorum.specs.Ballots.{is_same, log_count}
use Rattle.vote_quorum.specs.Marks.{value_at, values_of}
use Rattle.vote_quorum.proofs.Kept.{counted_at, count_elsewhere}
use Rattle.vote_quorum.proofs.Places.{found_at, not_found}
use Rattle.vote_quorum.proofs.tally.Tally.count.Goals as goal

pub returns-in-Some : goal.returns-in-Some
returns-in-Some c =
    let found : position (λ d. is_same d.value c.args.value.now) c.self.inside.candidates.items ≡ Some c.in-Some.place =
    ap (position (λ d. is_same d.value c.args.value.now)) (sym c.deref.ensures.value) ∙ sym c.place_of.ensures ∙ c.in-Some.is in
    let at = found_at c.args.value.now c.self.inside.candidates.items c.in-Some.place found in
    ap (λ d. d.logs) c.index.ensures
    ∙ counted_at c.self.inside.candidates.items c.self.inside.marks.items c.in-Some.place c.index.result.now c.self.invariant at.0
    ∙ ap (λ bs. log_count bs (value_at (values_of c.self.inside.candidates.items) c.in-Some.place)) c.self.view_is
    ∙ ap (log_count c.args.self.now) at.1

pub returns-in-None : goal.returns-in-None
returns-in-None c =
    let missing : position (λ d. is_same d.value c.args.value.now) c.self.inside.candidates.items ≡ None =
    ap (position (λ d. is_same d.value c.args.value.now)) (sym c.deref.ensures.value) ∙ sym c.place_of.ensures ∙ c.in-None.is in
    sym (ap (λ bs. log_count bs c.args.value.now) (sym c.self.view_is)
    ∙ count_elsewhere c.self.inside.candidates.items c.self.inside.marks.items c.args.value.now c.self.invariant
    (not_found c.args.value.now c.self.inside.candidates.items missing))
