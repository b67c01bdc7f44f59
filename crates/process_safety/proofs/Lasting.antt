-- What a party sent in some life of its file stands in its book in each later life.
use Rattle.std.proofs.Common.{◌≡◌, ◌∙◌, ℕ, zero, suc, List, [], ◌∷◌, ◌++◌, refl, sym, ap, subst, arith, Option, Some, None, Ok, is_none}
use Rattle.std.specs.Prelude.{All, Contains, map, slice_get}
use Rattle.std.specs.List.{AllByRecursion}
use Rattle.std.proofs.lemmas.List.Elements.{All-cons, All-nil}
use Rattle.std.proofs.lemmas.Option.{same_Some}
use Rattle.ar_message.specs.Filling.{nothing}
use Rattle.ar_message.specs.Messages.{message_in}
use Rattle.ar_message.specs.declared.unsigned.Blank.{Blank}
use Rattle.ar_message.specs.declared.unsigned.Unsigned.{Unsigned}
use Rattle.ar_message.specs.declared.sent.Sent.{Sent}
use Rattle.authority_core.proofs.Later.{grows_on as authority_grows_on, rolling_step, row_step, same_record as same_authority}
use Rattle.authority_core.proofs.Later as authority_later
use Rattle.authority_core.specs.Later.{AuthorityGrows}
use Rattle.authority_core.specs.RollRows.{roll_row}
use Rattle.authority_core.specs.Row.{asked_in}
use Rattle.authority_keeper.specs.Determined as authority_determined
use Rattle.authority_keeper.specs.Inputs as authority_inputs
use Rattle.authority_keeper.specs.Keeping as authority_keeping
use Rattle.authority_keeper.specs.Keeping.{AuthorityStanding, answer_to, says_to}
use Rattle.epoch_log.proofs.Later.{grows_on, same_record}
use Rattle.epoch_log.specs.Later.{LogGrows}
use Rattle.kept_journal.specs.Replays.{ReachesBy}
use Rattle.kept_party.proofs.Kept.{done_kept, replays_keep}
use Rattle.kept_party.specs.Taking.{Becomes}
use Rattle.key_roll.proofs.Later.{served_on}
use Rattle.key_roll.specs.Book.{RollBook, texts_of}
use Rattle.key_roll.specs.Due.{DueParts}
use Rattle.key_roll.specs.Later.{IsLaterBook, IsServed}
use Rattle.key_roll.specs.declared.signed.SignedText.{SignedText}
use Rattle.lms_tree.specs.Key.{public_of}
use Rattle.log_core.proofs.Later.{IsServedIn, row-adds, row-served}
use Rattle.log_core.specs.Row.{row}
use Rattle.log_core.specs.State.{CoreState, Input, LogAnswer, LogStep}
use Rattle.log_journal.specs.Steps.{LogStanding}
use Rattle.log_keeper.specs.Determined as log_determined
use Rattle.log_keeper.specs.Keeping as log_keeping
use Rattle.owner_check.specs.declared.pair.Pair.{Pair}
use Rattle.process_safety.specs.Lasting.{AreSignedIn, AuthoritySends, LogSends, TookOnce}
use Rattle.process_safety.proofs.Authorities.{answered}
use Rattle.process_safety.proofs.Logs.{keeper-steps}

-- ---- a book

-- what a leaf serves stands in the book
text-there : (list : List SignedText) (place : ℕ) (s : SignedText) → slice_get list place ≡ Some s → Contains (map (λ (x : SignedText). x.text) list) s.text
text-there [] place s there = absurd cc
text-there (x ∷ list) zero s there = (0, omega arith, ap (λ (y : SignedText). y.text) (same_Some x s there))
text-there (x ∷ list) (suc place) s there = let r = text-there list place s there in (suc r.0, omega (arith, r.1), r.2)

served-there : (book : RollBook) (due : DueParts) → IsServed book due → Contains (texts_of book) due.text
served-there book due is =
    subst (Contains (texts_of book)) is.serves.2.2 (text-there book.list is.serves.0 is.serves.1 is.serves.2.0)

-- of each that is due
all-signed : (book later : RollBook) (blanks : List Blank) → IsLaterBook book later → AllByRecursion (λ (blank : Blank). IsServed book blank.due) blanks
    → All (λ (blank : Blank). IsServed later blank.due × Contains (texts_of later) blank.due.text) blanks
all-signed book later [] on all = All-nil (λ (blank : Blank). IsServed later blank.due × Contains (texts_of later) blank.due.text)
all-signed book later (blank ∷ blanks) on all =
    let served : IsServed later blank.due = served_on book later blank.due on all.0 in
    All-cons (λ (blank : Blank). IsServed later blank.due × Contains (texts_of later) blank.due.text) blank blanks (served, served-there later blank.due served)
    (all-signed book later blanks on all.1)

-- ---- logs

log-text-grows : (old new : LogStanding) (text : List ℕ) → Becomes log_keeping.takes old text new → LogGrows old.core.log.past new.core.log.past
log-text-grows old new text becomes =
    let step = keeper-steps old new text becomes.0 becomes.1 in
    subst (λ (c : CoreState). LogGrows old.core.log.past c.log.past) (sym step.core_is) (row-adds old.core becomes.1.input step.reply step.row_is)

same-reply : (a b : LogStep) → ◌≡◌ {A = LogAnswer} (Ok a) (Ok b) → a ≡ b
same-reply a b e = cc

-- what is due of what it sends it signed in the book behind it
log-served : (before after : LogStanding) (text : List ℕ) (sent : Sent) (unsigned : Unsigned) (taken : log_keeping.takes before text sent after) → LogSends before taken.input unsigned
    → AllByRecursion (λ (blank : Blank). IsServed after.core.log.past.signed blank.due) unsigned.blanks
log-served before after text sent unsigned taken sends =
    let step = keeper-steps before after text sent taken in
    let same : step.reply ≡ sends.0 = same-reply step.reply sends.0 (sym step.row_is ∙ sends.1.0) in
    let core : after.core ≡ sends.0.after = step.core_is ∙ ap (λ (r : LogStep). r.after) same in
    subst (λ (c : CoreState). AllByRecursion (IsServedIn c.log.past.signed) unsigned.blanks) (sym core)
    (subst (λ (u : Unsigned). AllByRecursion (IsServedIn sends.0.after.log.past.signed) u.blanks) (sym sends.1.1) (row-served before.core taken.input sends.0 sends.1.0))

pub log-sent-stays : (mark : List ℕ) (first before after last : LogStanding) (text : List ℕ) (sent : Sent) (unsigned : Unsigned) (final : List (List ℕ))
    → TookOnce (Becomes log_keeping.takes) mark first before text final → (taken : log_keeping.takes before text sent after) → LogSends before taken.input unsigned
    → ReachesBy (Becomes log_keeping.takes) first final last → LogGrows after.core.log.past last.core.log.past × AreSignedIn last.core.log.past.signed unsigned
log-sent-stays mark first before after last text sent unsigned final once taken sends leads =
    let since = done_kept log_keeping.takes log_determined.one_standing mark first before after last once.texts once.answered once.since text sent once.left once.lives final once.marked
    once.stood taken once.lead leads in
    let grows : LogGrows after.core.log.past last.core.log.past =
    replays_keep (Becomes log_keeping.takes) (λ (a b : LogStanding). LogGrows a.core.log.past b.core.log.past) (λ a. same_record a.core.log.past)
    (λ a b c first second. grows_on a.core.log.past b.core.log.past c.core.log.past first second) (λ a b text becomes. log-text-grows a b text becomes) since.0 after last since.1 in
    (grows, all-signed after.core.log.past.signed last.core.log.past.signed unsigned.blanks grows.signed (log-served before after text sent unsigned taken sends))

-- ---- authorities

-- a step grows, and signs in the book behind it
record IsDone (old new : AuthorityStanding) (unsigned : Unsigned) : Type 0 where
  grows : AuthorityGrows old.state.past new.state.past
  served : AllByRecursion (λ (blank : Blank). IsServed new.state.past.signed blank.due) unsigned.blanks

taught : (old new : AuthorityStanding) (unsigned : Unsigned) (after : Option (List Pair)) → new ≡ record old { book = after } → unsigned ≡ nothing → IsDone old new unsigned
taught old new unsigned after is none =
    subst (λ (s : AuthorityStanding). IsDone old s unsigned) (sym is)
    (subst (IsDone old (record old { book = after })) (sym none) (record { grows = same_authority old.state.past; served = tt }))

did : (old new : AuthorityStanding) (input : authority_inputs.Input) (sent : Sent) (unsigned : Unsigned) → authority_keeping.Steps old input sent new → AuthoritySends old input new unsigned → IsDone old new unsigned
did old new (authority_inputs.takes bytes) sent unsigned step sends =
    let s = row_step old.state (is_none old.book) (message_in bytes) (says_to old.book (asked_in (message_in bytes))) new.state unsigned sends in
    record { grows = s.grows; served = s.served }
did old new (authority_inputs.rolls key) sent unsigned step sends =
    let s = rolling_step old.state key new.state unsigned sends in record { grows = s.grows; served = s.served }
did old new (authority_inputs.learns name key) sent unsigned step sends = taught old new unsigned _ step.1.is sends
did old new (authority_inputs.forgets name key) sent unsigned step sends = taught old new unsigned _ step.1.is sends
did old new authority_inputs.retires sent unsigned step sends = taught old new unsigned None step.1.is sends

step-grows : (old new : AuthorityStanding) (input : authority_inputs.Input) (sent : Sent) → authority_keeping.Steps old input sent new → AuthorityGrows old.state.past new.state.past
step-grows old new (authority_inputs.takes bytes) sent step =
    let a = answered old.keys (answer_to old bytes) new.state sent step.0 in (did old new (authority_inputs.takes bytes) sent a.unsigned step a.row_is).grows
step-grows old new (authority_inputs.rolls key) sent step =
    let next = step.0 in
    let a = answered (old.keys ++ next ∷ []) (roll_row old.state (public_of next)) new.state sent step.1.1.answer in
    (rolling_step old.state (public_of next) new.state a.unsigned a.row_is).grows
step-grows old new (authority_inputs.learns name key) sent step = (did old new (authority_inputs.learns name key) sent nothing step refl).grows
step-grows old new (authority_inputs.forgets name key) sent step = (did old new (authority_inputs.forgets name key) sent nothing step refl).grows
step-grows old new authority_inputs.retires sent step = (did old new authority_inputs.retires sent nothing step refl).grows

pub authority-sent-stays : (mark : List ℕ) (first before after last : AuthorityStanding) (text : List ℕ) (sent : Sent) (unsigned : Unsigned) (final : List (List ℕ))
    → TookOnce (Becomes authority_keeping.takes) mark first before text final → (taken : authority_keeping.takes before text sent after) → AuthoritySends before taken.input after unsigned
    → ReachesBy (Becomes authority_keeping.takes) first final last → AuthorityGrows after.state.past last.state.past × AreSignedIn last.state.past.signed unsigned
authority-sent-stays mark first before after last text sent unsigned final once taken sends leads =
    let since = done_kept authority_keeping.takes authority_determined.one_standing mark first before after last once.texts once.answered once.since text sent once.left once.lives final once.marked
    once.stood taken once.lead leads in
    let grows : AuthorityGrows after.state.past last.state.past =
    replays_keep (Becomes authority_keeping.takes) (λ (a b : AuthorityStanding). AuthorityGrows a.state.past b.state.past) (λ a. same_authority a.state.past)
    (λ a b c first second. authority_grows_on a.state.past b.state.past c.state.past first second) (λ a b text becomes. step-grows a b becomes.1.input becomes.0 becomes.1.steps) since.0 after last since.1 in
    (grows, all-signed after.state.past.signed last.state.past.signed unsigned.blanks grows.signed (did before after taken.input sent unsigned taken.steps sends).served)
