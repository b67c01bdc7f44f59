-- What a file keeps over its lives.
use Rattle.std.proofs.Common.{◌≡◌, ℕ, List, [], ◌∷◌, ◌++◌, refl, sym, ◌∙◌, ap, subst, append_assoc, ⊎_elim, Ok}
use Rattle.std.proofs.lemmas.List.{append-nil}
use Rattle.std.specs.List.{AllByRecursion}
use Rattle.ar_base.specs.Prefixes.{BeginsWith}
use Rattle.ar_base.proofs.Prefixes.{begins_itself, begins_on}
use Rattle.ar_message.specs.declared.unsigned.Blank.{Blank}
use Rattle.epoch_log.specs.Later.{LogGrows}
use Rattle.epoch_log.proofs.Later.{grows_on, same_record}
use Rattle.key_roll.proofs.Later.{served_on}
use Rattle.key_roll.specs.Book.{RollBook}
use Rattle.key_roll.specs.Later.{IsLaterBook}
use Rattle.kept_journal.proofs.Rereading.{stands_recovered}
use Rattle.kept_journal.specs.Journal.{recovered}
use Rattle.kept_journal.specs.Replays.{ReachesBy}
use Rattle.log_core.proofs.Later.{IsServedIn, row-adds, row-served}
use Rattle.log_core.specs.Row.{row}
use Rattle.log_core.specs.State.{LogAnswer, Input, LogStep}
use Rattle.log_journal.specs.Determined.{one_standing}
use Rattle.log_journal.specs.Inputs.{IsWhole, input_text, mark}
use Rattle.log_journal.specs.Lives.{Lead, LeavesFile, Life}
use Rattle.log_journal.specs.Steps.{LogStanding, TakesInput, takes}
use Rattle.log_journal.proofs.Spelled.{says_it}

-- ---- texts

life-begins : (texts : List (List ℕ)) (life : Life) → LeavesFile texts life → BeginsWith (recovered life.left) (texts ++ life.answered)
life-begins texts life leaves = ⊎_elim
    (λ stands. ([], stands_recovered mark life.left (texts ++ life.answered) refl stands ∙ sym (append-nil (texts ++ life.answered))))
    (λ more. (more.0 ∷ [], stands_recovered mark life.left ((texts ++ life.answered) ++ more.0 ∷ []) refl more.1))
    leaves

lead-begins : (lives : List Life) (texts last : List (List ℕ)) → Lead texts lives last → BeginsWith last texts
lead-begins [] texts last lead = subst (λ (l : List (List ℕ)). BeginsWith l texts) (sym lead) (begins_itself texts)
lead-begins (life ∷ lives) texts last lead =
    let one = life-begins texts life lead.0 in
    let mine : BeginsWith (recovered life.left) texts =
    (life.answered ++ one.0, one.1 ∙ append_assoc texts life.answered one.0) in
    begins_on texts (recovered life.left) last (lead-begins lives (recovered life.left) last lead.1) mine

pub answered_kept : (texts answered last : List (List ℕ)) (left : List ℕ) (lives : List Life)
    → Lead texts (record { answered = answered; left = left } ∷ lives) last → BeginsWith last (texts ++ answered)
answered_kept texts answered last left lives lead =
    begins_on (texts ++ answered) (recovered left) last (lead-begins lives (recovered left) last lead.1)
    (life-begins texts (record { answered = answered; left = left }) lead.0)

-- ---- logs

replays-split : (xs ys : List (List ℕ)) (first last : LogStanding) → ReachesBy takes first (xs ++ ys) last
    → (mid : LogStanding) × ReachesBy takes first xs mid × ReachesBy takes mid ys last
replays-split [] ys first last replays = (first, refl, replays)
replays-split (x ∷ xs) ys first last replays =
    let rest = replays-split xs ys replays.0 last replays.2 in
    (rest.0, (replays.0, replays.1, rest.1), rest.2)

one-replay : (xs : List (List ℕ)) (first one other : LogStanding) → ReachesBy takes first xs one → ReachesBy takes first xs other → one ≡ other
one-replay [] first one other a b = a ∙ sym b
one-replay (x ∷ xs) first one other a b =
    let mid : a.0 ≡ b.0 = one_standing first a.0 b.0 x a.1 b.1 in
    one-replay xs b.0 one other (subst (λ (p : LogStanding). ReachesBy takes p xs one) mid a.2) b.2

step-grows : (first last : LogStanding) (input : Input) → TakesInput first input last → LogGrows first.core.log.past last.core.log.past
step-grows first last input step =
    subst (λ c. LogGrows first.core.log.past c.log.past) (sym step.core_is) (row-adds first.core input step.reply step.row_is)

replay-grows : (texts : List (List ℕ)) (first last : LogStanding) → ReachesBy takes first texts last → LogGrows first.core.log.past last.core.log.past
replay-grows [] first last replays = subst (λ (p : LogStanding). LogGrows first.core.log.past p.core.log.past) (sym replays) (same_record first.core.log.past)
replay-grows (text ∷ texts) first last replays =
    grows_on first.core.log.past replays.0.core.log.past last.core.log.past (step-grows first replays.0 replays.1.input replays.1.steps)
    (replay-grows texts replays.0 last replays.2)

-- ---- what was signed

each-served : (book later : RollBook) (blanks : List Blank) → IsLaterBook book later → AllByRecursion (IsServedIn book) blanks → AllByRecursion (IsServedIn later) blanks
each-served book later [] is all = tt
each-served book later (blank ∷ blanks) is all = (served_on book later blank.due is all.0, each-served book later blanks is all.1)

-- the log that is opened at the end went on from the one that took the input
goes-on-from : (first before after last : LogStanding) (front more final : List (List ℕ)) (input : Input) → ReachesBy takes first front before
    → TakesInput before input after → IsWhole input → BeginsWith final (front ++ (input_text input ∷ more)) → ReachesBy takes first final last
    → LogGrows after.core.log.past last.core.log.past
goes-on-from first before after last front more final input replays step whole begins at_end =
    let text = input_text input in
    let is : final ≡ front ++ (text ∷ (more ++ begins.0)) = begins.1 ∙ append_assoc front (text ∷ more) begins.0 in
    let split = replays-split front (text ∷ (more ++ begins.0)) first last (subst (λ (ts : List (List ℕ)). ReachesBy takes first ts last) is at_end) in
    let same : split.0 ≡ before = one-replay front first split.0 before split.1 replays in
    let there : takes before text split.2.0 = subst (λ (p : LogStanding). takes p text split.2.0) same split.2.1 in
    let here : takes before text after = record { input = input; says = says_it input whole; steps = step } in
    let next : split.2.0 ≡ after = one_standing before split.2.0 after text there here in
    replay-grows (more ++ begins.0) after last (subst (λ (p : LogStanding). ReachesBy takes p (more ++ begins.0) last) next split.2.2)

pub signed_kept : (first before after last : LogStanding) (texts answered more : List (List ℕ)) (input : Input) (reply : LogStep)
    (left : List ℕ) (lives : List Life) (final : List (List ℕ)) → ReachesBy takes first (texts ++ answered) before → TakesInput before input after
    → row before.core input ≡ Ok reply → IsWhole input → Lead texts (record { answered = answered ++ (input_text input ∷ more); left = left } ∷ lives) final
    → ReachesBy takes first final last → LogGrows after.core.log.past last.core.log.past × AllByRecursion (IsServedIn last.core.log.past.signed) reply.unsigned.blanks
signed_kept first before after last texts answered more input reply left lives final replays step answer whole lead at_end =
    let begins = answered_kept texts (answered ++ (input_text input ∷ more)) final left lives lead in
    let grows = goes-on-from first before after last (texts ++ answered) more final input replays step whole
    (begins.0, begins.1 ∙ ap (λ (ts : List (List ℕ)). ts ++ begins.0) (sym (append_assoc texts answered (input_text input ∷ more)))) at_end in
    let reply_is : step.reply ≡ reply = cc-reply step.reply reply (sym step.row_is ∙ answer) in
    let after_is : after.core ≡ reply.after = step.core_is ∙ ap (λ (r : LogStep). r.after) reply_is in (
      grows,
      each-served after.core.log.past.signed last.core.log.past.signed reply.unsigned.blanks grows.signed
          (subst (λ c. AllByRecursion (IsServedIn c.log.past.signed) reply.unsigned.blanks) (sym after_is) (row-served before.core input reply answer)),
    )
  where
    cc-reply : (a b : LogStep) → ◌≡◌ {A = LogAnswer} (Ok a) (Ok b) → a ≡ b
    cc-reply a b e = cc
