-- What a check learns and forgets, and the end of one.
use Rattle.std.proofs.Common.{◌≡◌, ◌∙◌, ap, refl, subst, sym, ℕ, List, true, false, is_none, Option, None, Some, Result, Ok, Err}
use Rattle.std.specs.Prelude.{OnOk, is_some}
use Rattle.std.specs.Option.{option_map}
use Rattle.std.proofs.lemmas.Option.{same_Some}
use Rattle.ar_message.specs.Filling.{nothing}
use Rattle.ar_message.specs.declared.sent.Sent.{Sent}
use Rattle.authority_core.specs.Checked.{KeepsAnswers, TellsBy}
use Rattle.authority_core.specs.State.{AuthorityState}
use Rattle.lms_tree.specs.KeyParts.{KeyParts}
use Rattle.owner_check.specs.Answers.{Booked, Told, forgotten, learnt}
use Rattle.owner_check.specs.declared.answer.CheckAnswer.{CheckAnswer}
use Rattle.owner_check.specs.declared.pair.Pair.{Pair}
use Rattle.authority_keeper.proofs.Answered.{answers_of, clash, told_of}
use Rattle.authority_keeper.specs.Checks.{HasLetGo, book_of}
use Rattle.authority_keeper.specs.Inputs.{retires}
use Rattle.authority_keeper.specs.Keeping.{AuthorityStanding, Steps}
use Rattle.authority_keeper.specs.Said.{lesson_input, taught}
use Rattle.authority_keeper.specs.declared.text.Lesson.{Lesson}
use Rattle.authority_keeper.specs.declared.text.Lesson.TheVariants as lessons

-- ---- the book

-- what a lesson makes of what a check tells
abbrev pub lesson_of : Lesson → List ℕ → List ℕ → Told → Told
lesson_of lessons.Learn name key = learnt name key
lesson_of lessons.Forget name key = forgotten name key

-- a book before a lesson, and what it is behind it
abbrev pub Teaches : Lesson → List ℕ → List ℕ → Option (List Pair) → Option (List Pair) → Type 0
Teaches lesson name key old new = (book : List Pair) × ((old ≡ Some book) × (new ≡ Some (taught lesson book name key)))

pub taught_so : (lesson : Lesson) (name key : List ℕ) (old new : Option Booked) → is_some old ≡ true → is_none new ≡ is_none old
    → TellsBy (option_map (lesson_of lesson name key)) told_of old new → Teaches lesson name key (book_of old) (book_of new)
taught_so lesson name key None new there same told = clash (sym there)
taught_so lesson name key (Some old) None there same told = clash same
taught_so lessons.Learn name key (Some old) (Some new) there same told = (old.book, (refl, ap Some (ap (λ (t : Told). t.book) (same_Some _ _ told))))
taught_so lessons.Forget name key (Some old) (Some new) there same told = (old.book, (refl, ap Some (ap (λ (t : Told). t.book) (same_Some _ _ told))))

-- a check whose list of answers is as before has let go of them where it had
pub stays_gone : (old new : Option Booked) → is_none new ≡ is_none old → KeepsAnswers answers_of old new → HasLetGo old → HasLetGo new
stays_gone None None there kept gone = refl
stays_gone None (Some new) there kept gone = clash (sym there)
stays_gone (Some old) None there kept gone = clash there
stays_gone (Some old) (Some new) there kept gone =
    ap (λ (l : List CheckAnswer). Some (record new { answers = l })) (kept ∙ ap (λ (c : Booked). c.answers) (same_Some _ _ gone))

-- ---- where the authority stands

abbrev pub standing : AuthorityState → List KeyParts → Option (List Pair) → AuthorityStanding
standing state keys book = record { state = state; keys = keys; book = book }

pub same_standing : (state later : AuthorityState) (keys more : List KeyParts) (book other : Option (List Pair)) → later ≡ state → more ≡ keys → other ≡ book
    → standing later more other ≡ standing state keys book
same_standing state later keys more book other states same books =
    ap (λ (s : AuthorityState). standing s more other) states ∙ ap (λ (k : List KeyParts). standing state k other) same ∙ ap (standing state keys) books

-- what a lesson makes of where an authority stands
abbrev pub Taught : Lesson → List ℕ → List ℕ → AuthorityStanding → AuthorityStanding → Type 0
Taught lesson name key old new = (book : List Pair) × (old.book ≡ Some book) × (new ≡ record old { book = Some (taught lesson book name key) })

pub taught_standing : (lesson same : Lesson) (name key : List ℕ) (state later : AuthorityState) (keys more : List KeyParts) (check behind : Option Booked) → lesson ≡ same → later ≡ state
    → more ≡ keys → is_some check ≡ true → is_none behind ≡ is_none check → TellsBy (option_map (lesson_of same name key)) told_of check behind
    → Taught lesson name key (standing state keys (book_of check)) (standing later more (book_of behind))
taught_standing lesson same name key state later keys more check behind is states sames there stays told =
    let t = taught_so same name key check behind there stays told in
    subst (λ (l : Lesson). Taught l name key (standing state keys (book_of check)) (standing later more (book_of behind))) (sym is)
    (t.0, t.1.0, same_standing state later keys more (Some (taught same t.0 name key)) (book_of behind) states sames t.1.1)

pub taught_on_ok : {A E : Type 0} (result : Result A E) (lesson same : Lesson) (name key : List ℕ) (state later : AuthorityState) (keys more : List KeyParts) (check behind : Option Booked)
    → lesson ≡ same → later ≡ state → more ≡ keys → is_some check ≡ true → is_none behind ≡ is_none check
    → OnOk result (TellsBy (option_map (lesson_of same name key)) told_of check behind)
    → OnOk result (Taught lesson name key (standing state keys (book_of check)) (standing later more (book_of behind)))
taught_on_ok (Ok done) lesson same name key state later keys more check behind is states sames there stays told =
    taught_standing lesson same name key state later keys more check behind is states sames there stays told
taught_on_ok (Err error) lesson same name key state later keys more check behind is states sames there stays told = tt

-- a lesson is taken
pub lesson_taken : (lesson : Lesson) (name key : List ℕ) (old new : AuthorityStanding) (book : List Pair) (sent : Sent) → old.book ≡ Some book
    → new ≡ record old { book = Some (taught lesson book name key) } → sent ≡ nothing.sent → Steps old (lesson_input lesson name key) sent new
lesson_taken lessons.Learn name key old new book sent had is silent = (book, record { had = had; is = is; silent = silent })
lesson_taken lessons.Forget name key old new book sent had is silent = (book, record { had = had; is = is; silent = silent })

-- an authority that retired takes none
no-book : (book : Option (List Pair)) (had : List Pair) → book ≡ None → ¬ (book ≡ Some had)
no-book book had none some = let never : ◌≡◌ {A = Option (List Pair)} (Some had) None = sym some ∙ none in absurd cc

pub no_lesson : (lesson : Lesson) (name key : List ℕ) (old : AuthorityStanding) → old.book ≡ None → (sent : Sent) (later : AuthorityStanding)
    → ¬ Steps old (lesson_input lesson name key) sent later
no_lesson lessons.Learn name key old none sent later step = no-book old.book step.0 none step.1.had
no_lesson lessons.Forget name key old none sent later step = no-book old.book step.0 none step.1.had

-- and retires no more
pub no_retirement : (old : AuthorityStanding) → old.book ≡ None → (sent : Sent) (later : AuthorityStanding) → ¬ Steps old retires sent later
no_retirement old none sent later step = no-book old.book step.0 none step.1.had

-- the check that is there goes
pub retired_so : (check : Option Booked) (old new : AuthorityStanding) (sent : Sent) → is_none check ≡ false → old.book ≡ book_of check → new ≡ record old { book = None }
    → sent ≡ nothing.sent → Steps old retires sent new
retired_so None old new sent there had is silent = clash there
retired_so (Some check) old new sent there had is silent = (check.book, record { had = had; is = is; silent = silent })
