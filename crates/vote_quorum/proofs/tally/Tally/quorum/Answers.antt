use Rattle.std.proofs.Common.{ap, ◌∙◌, leb}
use Rattle.std.specs.List.{find}
use Rattle.std.specs.Option.{option_map}
use Rattle.vote_quorum.specs.Ballots.{quorum_of}
use Rattle.vote_quorum.proofs.Kept.{first_with-quorum}
use Rattle.vote_quorum.proofs.tally.Tally.quorum.Goals as goal

pub returns : goal.returns
returns c =
    c.first_with.ensures
    ∙ ap (λ cs. option_map (λ c. c.value) (find (λ c'. leb c.args.q c'.logs) cs)) c.deref.ensures.value
    ∙ first_with-quorum c.self.inside.candidates.items c.self.inside.marks.items c.args.q c.self.invariant
    ∙ ap (λ bs. quorum_of bs c.args.q) c.self.view_is
