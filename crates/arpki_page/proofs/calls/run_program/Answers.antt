-- What the program answers to these words and this input.
use Rattle.std.proofs.Common.{ap, arith, ◌∙◌}
use Rattle.arpki_play.specs.Words.{texts}
use Rattle.arpki_page.proofs.Called.{program_answers}
use Rattle.arpki_page.proofs.calls.run_program.Goals as goal

pub returns-clause-answered : goal.returns-clause-answered
returns-clause-answered c =
    program_answers _ _ _ _ _ _ _ _ _ _ _ (c.arpki_main-status.ensures.answered (omega (arith, c.if-status-gt3.false)))
    (ap texts c.deref.ensures.value ∙ c.in_ok-words.ensures) c.in_ok-checks.ensures
    (c.new-source.ensures ∙ c.in_ok-from_slice.ensures.items) c.in_ok-kept.ensures
