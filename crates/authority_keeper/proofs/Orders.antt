-- What was done has a text, which is taken; and texts that are taken again.
use Rattle.std.proofs.Common.{◌≡◌, ◌∙◌, ap, refl, subst, sym, ℕ, List, [], ◌∷◌, ◌++◌, length, Option, None, Some, Result, Ok, Err}
use Rattle.std.specs.Prelude.{IfOk, IfSome}
use Rattle.std.proofs.lemmas.Option.{same_Some}
use Rattle.ar_message.specs.Filling.{nothing}
use Rattle.ar_message.specs.declared.sent.Sent.{Sent}
use Rattle.ar_names.specs.Names.{IsName}
use Rattle.authority_core.specs.Keyed.{SendsBy}
use Rattle.authority_core.specs.RollRows.{roll_row}
use Rattle.kept_journal.specs.declared.fault.ReplayFault.{ReplayFault}
use Rattle.kept_party.specs.declared.done.Done.{Done}
use Rattle.key_roll.specs.Ring.{IsNext, IsOfNext}
use Rattle.lms_tree.specs.Key.{public_of}
use Rattle.lms_tree.specs.KeyParts.{KeyParts}
use Rattle.lms_tree.specs.PublicKey.{HasWidths}
use Rattle.lms_tree.specs.declared.public_key.LmsPublic.{LmsPublic}
use Rattle.owner_check.specs.declared.pair.Pair.{Pair}
use Rattle.authority_keeper.proofs.Lessons.{lesson_taken}
use Rattle.authority_keeper.proofs.Spelled.{says_it}
use Rattle.authority_keeper.specs.Inputs.{Input, IsWhole, input_in, input_text, key_len, retires, rolls, takes}
use Rattle.authority_keeper.specs.Keeping.{AuthorityStanding, DoneBy, Sends, Steps, answer_to}
use Rattle.authority_keeper.specs.Keeping as keeping
use Rattle.authority_keeper.specs.Said.{lesson_input, taught}
use Rattle.authority_keeper.specs.declared.refusal.AuthorityOrderRefusal.{AuthorityOrderRefusal}
use Rattle.authority_keeper.specs.declared.text.Lesson.{Lesson}
use Rattle.authority_keeper.specs.declared.text.Lesson.TheVariants as lessons

-- ---- what was done

abbrev pub done_with : Sent → List ℕ → Done Sent
done_with reply text = record { reply = reply; text = Some text }

-- a message was answered
pub message_done : (old new : AuthorityStanding) (bytes text : List ℕ) (sent : Sent) → text ≡ input_text (takes bytes) → Sends old.keys (answer_to old bytes) sent new.state
    → new.keys ≡ old.keys → new.book ≡ old.book → DoneBy old (takes bytes) (done_with sent text) new
message_done old new bytes text sent spelled answer keys book =
    (ap Some spelled, record { input = takes bytes; says = refl; steps = (answer, (keys, book)) })

-- it went on to its next key
pub roll_done_by : (old new : AuthorityStanding) (key : LmsPublic) (text : List ℕ) (sent : Sent) (of : IsOfNext old.keys key) → HasWidths key → text ≡ input_text (rolls key)
    → ((next : KeyParts) → IsNext old.keys next → SendsBy (old.keys ++ next ∷ []) (Ok sent) old.state new.state (roll_row old.state (public_of next)))
    → ((next : KeyParts) → IsNext old.keys next → new.keys ≡ old.keys ++ next ∷ []) → new.book ≡ old.book
    → (next : KeyParts) × (IsNext old.keys next × DoneBy old (rolls (public_of next)) (done_with sent text) new)
roll_done_by old new key text sent of widths spelled sends behind book = (
  of.next,
  (
    of.is_next,
    (
      ap Some (spelled ∙ ap (λ (k : LmsPublic). input_text (rolls k)) of.is),
      record {
        input = rolls (public_of of.next);
        says = says_it (rolls (public_of of.next)) (subst HasWidths of.is widths);
        steps = (
          of.next,
          (
            refl,
            record {
              next = of.is_next;
              answer = sends of.next of.is_next;
              keys = behind of.next of.is_next;
              book = book;
            },
          ),
        );
      },
    ),
  ),
)

-- a lesson was taken
lesson-whole : (lesson : Lesson) (name key : List ℕ) → length key ≡ key_len → IsName name → IsWhole (lesson_input lesson name key)
lesson-whole lessons.Learn name key len is = (len, is)
lesson-whole lessons.Forget name key len is = (len, is)

pub lesson_done : (lesson : Lesson) (name key : List ℕ) (old new : AuthorityStanding) (text : List ℕ) (book : List Pair) (sent : Sent) → length key ≡ key_len → IsName name
    → text ≡ input_text (lesson_input lesson name key) → old.book ≡ Some book → new ≡ record old { book = Some (taught lesson book name key) } → sent ≡ nothing.sent
    → DoneBy old (lesson_input lesson name key) (done_with sent text) new
lesson_done lesson name key old new text book sent len is spelled had becomes silent = (
  ap Some spelled,
  record {
    input = lesson_input lesson name key;
    says = says_it (lesson_input lesson name key) (lesson-whole lesson name key len is);
    steps = lesson_taken lesson name key old new book sent had becomes silent;
  },
)

-- the check went
pub retirement_done : (old new : AuthorityStanding) (text : List ℕ) (sent : Sent) → text ≡ input_text retires → Steps old retires sent new → DoneBy old retires (done_with sent text) new
retirement_done old new text sent spelled steps = (ap Some spelled, record { input = retires; says = refl; steps = steps })

-- ---- orders

-- what is known of the text is known of the one that there is
of-text : {A : Type 0} (P : A → Type 0) (text : Option A) (is : A) → text ≡ Some is → P is → IfSome text P
of-text P text is e p = subst (λ o. IfSome o P) (sym e) p

-- what was done has a text, which is taken
pub done_so : (old new : AuthorityStanding) (input : Input) (words : List ℕ → Type 0) → words (input_text input) → (result : Result (Done Sent) AuthorityOrderRefusal)
    → IfOk result (λ done. DoneBy old input done new) → IfOk result (λ done. IfSome done.text (λ text. keeping.takes old text done.reply new × words text))
done_so old new input words spelled (Ok done) by = of-text (λ text. keeping.takes old text done.reply new × words text) done.text (input_text input) by.0 (by.1, spelled)
done_so old new input words spelled (Err refusal) by = tt

-- so nothing is told without one
pub not_told : (old new : AuthorityStanding) (input : Input) (X : Done Sent → Type 0) (result : Result (Done Sent) AuthorityOrderRefusal) → IfOk result (λ done. DoneBy old input done new)
    → IfOk result (λ done. done.text ≡ None → X done)
not_told old new input X (Ok done) by = λ none. let never : ◌≡◌ {A = Option (List ℕ)} (Some (input_text input)) None = sym by.0 ∙ none in absurd cc
not_told old new input X (Err refusal) by = tt

-- a roll to a next key
abbrev pub RollsTo : AuthorityStanding → Done Sent → AuthorityStanding → Type 0
RollsTo old done new = (next : KeyParts) × (IsNext old.keys next × DoneBy old (rolls (public_of next)) done new)

pub roll_done : (old new : AuthorityStanding) (result : Result (Done Sent) AuthorityOrderRefusal) → IfOk result (λ done. RollsTo old done new)
    → IfOk result (λ done. IfSome done.text (λ text. keeping.takes old text done.reply new
    × ((next : KeyParts) × (IsNext old.keys next × (text ≡ input_text (rolls (public_of next)))))))
roll_done old new (Ok done) by =
    of-text (λ text. keeping.takes old text done.reply new × ((next : KeyParts) × (IsNext old.keys next × (text ≡ input_text (rolls (public_of next)))))) done.text
    (input_text (rolls (public_of by.0))) by.1.1.0 (by.1.1.1, (by.0, (by.1.0, refl)))
roll_done old new (Err refusal) by = tt

pub roll_not_told : (old new : AuthorityStanding) (X : Done Sent → Type 0) (result : Result (Done Sent) AuthorityOrderRefusal) → IfOk result (λ done. RollsTo old done new)
    → IfOk result (λ done. done.text ≡ None → X done)
roll_not_told old new X (Ok done) by = λ none. let never : ◌≡◌ {A = Option (List ℕ)} (Some (input_text (rolls (public_of by.0)))) None = sym by.1.1.0 ∙ none in absurd cc
roll_not_told old new X (Err refusal) by = tt

-- ---- texts that are taken again

pub recalled : (old new : AuthorityStanding) (text : List ℕ) (input : Input) (result : Result Sent ReplayFault) → input_in text ≡ Some input
    → IfOk result (λ sent. Steps old input sent new) → IfOk result (λ sent. keeping.takes old text sent new)
recalled old new text input (Ok sent) says by = record { input = input; says = says; steps = by }
recalled old new text input (Err fault) says by = tt

pub stuck_so : (old : AuthorityStanding) (text : List ℕ) (input : Input) → input_in text ≡ Some input → ((sent : Sent) (later : AuthorityStanding) → ¬ Steps old input sent later)
    → (sent : Sent) (later : AuthorityStanding) → ¬ keeping.takes old text sent later
stuck_so old text input says never sent later t =
    never sent later (subst (λ (i : Input). Steps old i sent later) (same_Some t.input input (sym t.says ∙ says)) t.steps)

pub nothing_said : (old : AuthorityStanding) (text : List ℕ) → input_in text ≡ None → (sent : Sent) (later : AuthorityStanding) → ¬ keeping.takes old text sent later
nothing_said old text none sent later t = let never : ◌≡◌ {A = Option Input} (Some t.input) None = sym t.says ∙ none in absurd cc
