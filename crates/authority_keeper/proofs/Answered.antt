-- What an authority answers to a message, by the book of its check.
use Rattle.std.proofs.Common.{◌≡◌, ◌≢◌, ◌⊎◌, ◌∙◌, ap, refl, subst, sym, arith, inl, inr, ⊎_elim, ℕ, ◌≤◌, List, [], length, nat_lt, Bool, true, false, cond, is_none, Option, None, Some, Result, Ok, Err}
use Rattle.std.specs.Prelude.{IfSome, is_some}
use Rattle.std.specs.Option.{option_map}
use Rattle.std.proofs.lemmas.Option.{same_Some}
use Rattle.ar_base.proofs.Places.{not-less}
use Rattle.ar_bytes.specs.Reading.{whole}
use Rattle.ar_message.specs.Messages.{longest, message_at, message_in}
use Rattle.ar_message.specs.declared.message.Message.{Message}
use Rattle.ar_message.specs.declared.message.Message.TheVariants.{EndorseAsk, Endorsed, Submit, Propose, Ballot, StatusNote, Decision, SkipNote, ConfirmAsk, LogConfirmed, HalfConfirmed, Confirmation, RollNote}
use Rattle.ar_message.specs.declared.sent.Sent.{Sent}
use Rattle.ar_message.specs.declared.unsigned.Unsigned.{Unsigned}
use Rattle.authority_core.specs.Checked.{IsAsTold, TellsAsBefore}
use Rattle.authority_core.specs.EndorseRow.{SaysAsTold, asked_of, endorsing, outcome_by}
use Rattle.authority_core.specs.Keyed.{SendsBy}
use Rattle.authority_core.specs.Row.{asked_in, message_row, row}
use Rattle.authority_core.specs.State.{AuthorityAnswer, AuthorityState}
use Rattle.authority_core.specs.declared.entries.Approved.{Approved}
use Rattle.authority_core.specs.declared.refusal.AuthorityRefusal.{AuthorityRefusal}
use Rattle.authority_core.specs.declared.refusal.AuthorityRefusal.TheVariants as refusals
use Rattle.lms_tree.specs.KeyParts.{KeyParts}
use Rattle.owner_check.specs.Answers.{Booked, Told}
use Rattle.owner_check.specs.Book.{has_pair}
use Rattle.owner_check.specs.declared.answer.CheckAnswer.{CheckAnswer}
use Rattle.owner_check.specs.declared.answer.Outcome.{Outcome}
use Rattle.owner_check.specs.declared.answer.Outcome.TheVariants.{No, Yes}
use Rattle.owner_check.specs.declared.pair.Pair.{Pair}
use Rattle.authority_keeper.specs.Checks.{book_of, without_answers}
use Rattle.authority_keeper.specs.Inputs.{takes}
use Rattle.authority_keeper.specs.Keeping.{AuthorityStanding, Sends, Steps, answer_to, says_to}

-- ---- checks by a book

abbrev pub told_of : Booked → Option Told
told_of check = Some (record { book = check.book; fails = [] })

abbrev pub answers_of : Booked → List CheckAnswer
answers_of check = check.answers

pub clash : {A : Type 0} → true ≡ false → A
clash e = absurd cc

-- a check that tells what it told has the book that it had
pub same_book : (old new : Option Booked) → is_none new ≡ is_none old → TellsAsBefore told_of old new → book_of new ≡ book_of old
same_book None None there told = refl
same_book None (Some new) there told = clash (sym there)
same_book (Some old) None there told = clash there
same_book (Some old) (Some new) there told = ap Some (ap (λ (t : Told). t.book) (same_Some _ _ told))

-- what lets go of its answers keeps its book
pub gone_book : (check : Option Booked) → book_of (option_map without_answers check) ≡ book_of check
gone_book None = refl
gone_book (Some check) = refl

pub gone_twice : (check : Option Booked) → option_map without_answers check ≡ option_map without_answers (option_map without_answers check)
gone_twice None = refl
gone_twice (Some check) = refl

pub none_there : (check : Option Booked) → is_none check ≡ true → book_of check ≡ None
none_there None e = refl
none_there (Some check) e = clash (sym e)

pub some_there : (check : Option Booked) → is_none check ≡ false → is_some check ≡ true
some_there None e = clash e
some_there (Some check) e = refl

-- ---- what the check said

-- the check said this of what it was asked, where it was
abbrev pub AsBooked : Outcome → Option Booked → Option Approved → Type 0
AsBooked says check asked = IfSome check (λ c. IfSome asked (λ a. says ≡ cond (has_pair c.book a.name a.key) Yes No))

said-so : (check : Booked) (a : Approved) (result : Result Sent AuthorityRefusal) → result ≢ Err refusals.Memory → SaysAsTold (told_of check) check.answers a result
    → outcome_by result ≡ cond (has_pair check.book a.name a.key) Yes No
said-so check a (Ok sent) other said = said
said-so check a (Err (refusals.Form place)) other said = said
said-so check a (Err refusals.NotForAuthority) other said = said
said-so check a (Err (refusals.Unknown party)) other said = said
said-so check a (Err (refusals.BadSignature party number)) other said = said
said-so check a (Err (refusals.FewVotes count)) other said = said
said-so check a (Err refusals.BadPath) other said = said
said-so check a (Err refusals.SameAuthority) other said = said
said-so check a (Err refusals.CheckFault) other said = said
said-so check a (Err refusals.NotOwner) other said = said
said-so check a (Err refusals.Spent) other said = said
said-so check a (Err (refusals.OtherRoll party generation)) other said = said
said-so check a (Err refusals.LastGeneration) other said = said
said-so check a (Err refusals.Memory) other said = absurd (other refl)

booked-so : (check : Option Booked) (asked : Option Approved) (result : Result Sent AuthorityRefusal) → result ≢ Err refusals.Memory → IsAsTold told_of answers_of check asked result
    → AsBooked (outcome_by result) check asked
booked-so None asked result other said = tt
booked-so (Some check) None result other said = tt
booked-so (Some check) (Some a) result other said = said-so check a result other said

-- the row by what the check said is that by its book
by-book : (s : AuthorityState) (m : Result Message ℕ) (check : Option Booked) (says : Outcome) → AsBooked says check (asked_in m)
    → row s (is_none check) m says ≡ row s (is_none (book_of check)) m (says_to (book_of check) (asked_in m))
unfolding message_row
by-book s (Ok (EndorseAsk owner cert)) None says said = refl
by-book s (Ok (EndorseAsk owner cert)) (Some check) says said = ap (λ (o : Outcome). endorsing s owner (asked_of cert) o) said
by-book s (Ok (Endorsed owner authority certificate signature)) check says said = refl
by-book s (Ok (Submit change)) check says said = refl
by-book s (Ok (Propose log epoch base root changes signature)) check says said = refl
by-book s (Ok (Ballot log epoch base root signature)) check says said = refl
by-book s (Ok (StatusNote log epoch value signature)) check says said = refl
by-book s (Ok (Decision epoch base root changes votes)) check says said = refl
by-book s (Ok (SkipNote epoch statuses)) check says said = refl
by-book s (Ok (ConfirmAsk client name first second)) check says said = refl
by-book s (Ok (LogConfirmed part)) check says said = refl
by-book s (Ok (HalfConfirmed part first_signature)) check says said = refl
by-book s (Ok (Confirmation client epoch name root body log log_signature first first_signature second second_signature)) check says said = refl
by-book s (Ok (RollNote party generation key signature)) check says said = refl
by-book s (Err place) check says said = refl

-- a refusal of the call
abbrev refusing : AuthorityRefusal → Result Sent AuthorityRefusal
refusing refusal = Err refusal

same-fault : (a b : AuthorityRefusal) → refusing a ≡ refusing b → a ≡ b
same-fault a b e = cc

abbrev Refuses : AuthorityState → Option Booked → Result Message ℕ → AuthorityRefusal → Type 0
Refuses s check m r = (r ≡ refusals.Memory) ⊎ (row s (is_none (book_of check)) m (says_to (book_of check) (asked_in m)) ≡ Err r)

known : (s : AuthorityState) (check : Option Booked) (m : Result Message ℕ) (r : AuthorityRefusal) → r ≢ refusals.Memory
    → IsAsTold told_of answers_of check (asked_in m) (refusing r) → row s (is_none check) m (outcome_by (refusing r)) ≡ Err r → Refuses s check m r
known s check m r other said is =
    inr (sym (by-book s m check (outcome_by (refusing r)) (booked-so check (asked_in m) (refusing r) (λ e. other (same-fault r refusals.Memory e)) said)) ∙ is)

refused-so : (s : AuthorityState) (check : Option Booked) (m : Result Message ℕ) (r : AuthorityRefusal) → IsAsTold told_of answers_of check (asked_in m) (refusing r)
    → row s (is_none check) m (outcome_by (refusing r)) ≡ Err r → Refuses s check m r
refused-so s check m refusals.Memory said is = inl refl
refused-so s check m (refusals.Form place) said is = known s check m (refusals.Form place) (λ e. absurd cc) said is
refused-so s check m refusals.NotForAuthority said is = known s check m refusals.NotForAuthority (λ e. absurd cc) said is
refused-so s check m (refusals.Unknown party) said is = known s check m (refusals.Unknown party) (λ e. absurd cc) said is
refused-so s check m (refusals.BadSignature party number) said is = known s check m (refusals.BadSignature party number) (λ e. absurd cc) said is
refused-so s check m (refusals.FewVotes count) said is = known s check m (refusals.FewVotes count) (λ e. absurd cc) said is
refused-so s check m refusals.BadPath said is = known s check m refusals.BadPath (λ e. absurd cc) said is
refused-so s check m refusals.SameAuthority said is = known s check m refusals.SameAuthority (λ e. absurd cc) said is
refused-so s check m refusals.CheckFault said is = known s check m refusals.CheckFault (λ e. absurd cc) said is
refused-so s check m refusals.NotOwner said is = known s check m refusals.NotOwner (λ e. absurd cc) said is
refused-so s check m refusals.Spent said is = known s check m refusals.Spent (λ e. absurd cc) said is
refused-so s check m (refusals.OtherRoll party generation) said is = known s check m (refusals.OtherRoll party generation) (λ e. absurd cc) said is
refused-so s check m refusals.LastGeneration said is = known s check m refusals.LastGeneration (λ e. absurd cc) said is

-- so is the answer
pub answered : (keys : List KeyParts) (old new : AuthorityState) (check : Option Booked) (m : Result Message ℕ) (result : Result Sent AuthorityRefusal)
    → IsAsTold told_of answers_of check (asked_in m) result → SendsBy keys result old new (row old (is_none check) m (outcome_by result))
    → SendsBy keys result old new (row old (is_none (book_of check)) m (says_to (book_of check) (asked_in m)))
answered keys old new check m (Ok sent) said h =
    subst (SendsBy keys (Ok sent) old new) (by-book old m check Yes (booked-so check (asked_in m) (Ok sent) (λ e. absurd cc) said)) h
answered keys old new check m (Err refusal) said h = (h.0, ⊎_elim (λ memory. inl memory) (λ is. refused-so old check m refusal said is) h.1)

-- ---- what an answer says of the message

-- an answer that was signed is one of the row
pub reply_of : (keys : List KeyParts) (answer : AuthorityAnswer) (sent : Sent) (after : AuthorityState) → Sends keys answer sent after → (reply : AuthorityState × Unsigned) × (answer ≡ Ok reply)
reply_of keys (Ok reply) sent after e = (reply, refl)
reply_of keys (Err refusal) sent after e = absurd cc

-- what is refused is not sent
pub not_sent : (keys : List KeyParts) (answer : AuthorityAnswer) (refusal : AuthorityRefusal) (sent : Sent) (after : AuthorityState) → answer ≡ Err refusal → ¬ Sends keys answer sent after
not_sent keys answer refusal sent after is e =
    let r = reply_of keys answer sent after e in let never : ◌≡◌ {A = AuthorityAnswer} (Ok r.0) (Err refusal) = sym r.1 ∙ is in absurd cc

-- a message that is answered is short enough for a record
pub short : (s : AuthorityState) (retired : Bool) (bytes : List ℕ) (says : Outcome) (reply : AuthorityState × Unsigned) → row s retired (message_in bytes) says ≡ Ok reply
    → length bytes ≤ longest
unfolding message_in
short s retired bytes says reply answer = by (nat_lt longest (length bytes)) refl answer
  where
    by : (long : Bool) → nat_lt longest (length bytes) ≡ long → row s retired (cond long (Err longest) (whole message_at bytes)) says ≡ Ok reply → length bytes ≤ longest
    by true e answer = absurd cc
    by false e answer = omega (arith, not-less longest (length bytes) e)

-- a book has the pair of a request to endorse
abbrev HasPair : Option (List Pair) → Approved → Type 0
HasPair had asked = (book : List Pair) × ((had ≡ Some book) × (has_pair book asked.name asked.key ≡ true))

yes-alone : (s : AuthorityState) (owner : ℕ) (a : Approved) (b : Bool) (reply : AuthorityState × Unsigned) → endorsing s owner a (cond b Yes No) ≡ Ok reply → b ≡ true
unfolding endorsing
yes-alone s owner a true reply answer = refl
yes-alone s owner a false reply answer = absurd cc

booked-row : (s : AuthorityState) (had : Option (List Pair)) (asked : Approved) (m : Result Message ℕ) → asked_in m ≡ Some asked → (reply : AuthorityState × Unsigned)
    → row s (is_none had) m (says_to had (asked_in m)) ≡ Ok reply → HasPair had asked
unfolding message_row
booked-row s None asked (Ok (EndorseAsk owner cert)) e reply answer = absurd cc
booked-row s (Some book) asked (Ok (EndorseAsk owner cert)) e reply answer =
    subst (λ (a : Approved). HasPair (Some book) a) (same_Some (asked_of cert) asked e)
    (book, (refl, yes-alone s owner (asked_of cert) (has_pair book (asked_of cert).name (asked_of cert).key) reply answer))
booked-row s had asked (Ok (Endorsed owner authority certificate signature)) e reply answer = absurd cc
booked-row s had asked (Ok (Submit change)) e reply answer = absurd cc
booked-row s had asked (Ok (Propose log epoch base root changes signature)) e reply answer = absurd cc
booked-row s had asked (Ok (Ballot log epoch base root signature)) e reply answer = absurd cc
booked-row s had asked (Ok (StatusNote log epoch value signature)) e reply answer = absurd cc
booked-row s had asked (Ok (Decision epoch base root changes votes)) e reply answer = absurd cc
booked-row s had asked (Ok (SkipNote epoch statuses)) e reply answer = absurd cc
booked-row s had asked (Ok (ConfirmAsk client name first second)) e reply answer = absurd cc
booked-row s had asked (Ok (LogConfirmed part)) e reply answer = absurd cc
booked-row s had asked (Ok (HalfConfirmed part first_signature)) e reply answer = absurd cc
booked-row s had asked (Ok (Confirmation client epoch name root body log log_signature first first_signature second second_signature)) e reply answer = absurd cc
booked-row s had asked (Ok (RollNote party generation key signature)) e reply answer = absurd cc
booked-row s had asked (Err place) e reply answer = absurd cc

-- a request to endorse is answered where the book has the pair alone
pub in_book : (old new : AuthorityStanding) (bytes : List ℕ) (asked : Approved) (sent : Sent) → asked_in (message_in bytes) ≡ Some asked → Steps old (takes bytes) sent new
    → (book : List Pair) × ((old.book ≡ Some book) × (has_pair book asked.name asked.key ≡ true))
in_book old new bytes asked sent is steps =
    let r = reply_of old.keys (answer_to old bytes) sent new.state steps.0 in booked-row old.state old.book asked (message_in bytes) is r.0 r.1
