use Rattle.std.proofs.Common.{◌≡◌, sym, ap, ◌∙◌, Some}
use Rattle.std.specs.Prelude.{position}
use Rattle.std.specs.Vec.{with_items}
use Rattle.std.proofs.lemmas.List.{with_items_is}
use Rattle.std.proofs.lemmas.Result.{on_ok_weaker}
use Rattle.vote_quorum.specs.Ballots.{Adds, is_same}
use Rattle.vote_quorum.specs.Marks.{ballots_of, values_of}
use Rattle.vote_quorum.proofs.Kept.{adds_moved}
use Rattle.vote_quorum.proofs.Places.{found_at, not_found}
use Rattle.vote_quorum.proofs.tally.Tally.add.Goals as goal

pub add_with-requires-clause-new : goal.add_with-requires-clause-new
add_with-requires-clause-new c =
    not_found c.args.value c.self.inside.candidates.items
    (ap (position (λ d. is_same d.value c.args.value)) (sym c.deref.ensures.value) ∙ sym c.place_of.ensures ∙ c.in-None.is)

-- what the call for a known value did
added : (c : goal.After-self-1) → Adds (c.args.log, c.args.value) c.add_to.result c.args.self.now (ballots_of (values_of c.add_to.new.candidates) c.add_to.new.marks.items)
added c =
    let found : position (λ d. is_same d.value c.args.value) c.self.inside.candidates.items ≡ Some c.in-Some.place =
    ap (position (λ d. is_same d.value c.args.value)) (sym c.deref.ensures.value) ∙ sym c.place_of.ensures ∙ c.in-Some.is in
    let at = found_at c.args.value c.self.inside.candidates.items c.in-Some.place found in
    adds_moved c.self.inside.candidates.items c.deref_mut.result.now c.self.inside.marks.items c.args.log c.in-Some.place c.args.value c.add_to.result
    c.args.self.now (ballots_of (values_of c.add_to.new.candidates) c.add_to.new.marks.items)
    c.deref_mut.ensures.value c.self.view_is at.1 c.add_to.ensures.adds

-- the candidates that it left
left : (c : goal.After-self-1) → (with_items c.self.inside.candidates c.add_to.new.candidates).items ≡ c.add_to.new.candidates
left c = with_items_is c.self.inside.candidates c.add_to.new.candidates (c.add_to.auto.candidates ∙ c.deref_mut.ensures.len)

pub returns-in-Some-clause-again : goal.returns-in-Some-clause-again
returns-in-Some-clause-again c = (added c).again

pub returns-in-Some-clause-new : goal.returns-in-Some-clause-new
returns-in-Some-clause-new c = λ h. ap (λ cs. ballots_of (values_of cs) c.add_to.new.marks.items) (left c) ∙ (added c).appended h

pub returns-in-Some-clause-ballots : goal.returns-in-Some-clause-ballots
returns-in-Some-clause-ballots c =
    on_ok_weaker c.add_to.result (λ h. ap (λ cs. ballots_of (values_of cs) c.add_to.new.marks.items) (left c) ∙ h) (added c).ballots
