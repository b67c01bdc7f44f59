-- What is prepared for a confirmation, and what it makes of the log, is its row.
use Rattle.std.proofs.Common.{◌≡◌, ◌⊎◌, inl, inr, ℕ, List, [], ◌∷◌, refl, sym, ap, ◌∙◌, subst, Bool, true, false, Option, Some, None}
use Rattle.std.specs.Prelude.{IfSome, IsOk, IsSome, OnErr, OnOk, Result, Ok, Err}
use Rattle.ar_base.specs.Chaining.{need}
use Rattle.ar_base.specs.Gives.{GivesOrWants}
use Rattle.ar_message.specs.Lists.{AreVotes}
use Rattle.ar_message.specs.declared.unsigned.Unsigned.{Unsigned}
use Rattle.ar_names.specs.Names.{IsName}
use Rattle.key_roll.specs.Book.{RollBook}
use Rattle.key_roll.specs.Due.{DueParts}
use Rattle.key_roll.specs.Entry.{entered}
use Rattle.key_roll.specs.Rolls.{is_roll}
use Rattle.ar_statement.specs.declared.fault.BookFault.{BookFault}
use Rattle.ar_statement.specs.declared.fault.BookFault.TheVariants as book_fault
use Rattle.ar_statement.specs.Claims.{authority_party}
use Rattle.epoch_log.proofs.Leaves.{enters, spent}
use Rattle.epoch_log.proofs.Texts.{plain-confirm}
use Rattle.epoch_log.specs.Answers.{confirmed}
use Rattle.epoch_log.specs.Calls.{after_confirm, confirmation_text, confirmed_of}
use Rattle.epoch_log.specs.Log.{LogParts, moved}
use Rattle.epoch_log.specs.declared.entries.Newest.{Newest}
use Rattle.ar_council.specs.Room.{has_leaves}
use Rattle.log_sending.specs.Checks.{Check, book_refusal, has_decision, leaves_left}
use Rattle.log_core.specs.Steps.{IsStep, given}
use Rattle.log_core.specs.Replies.{open_reply}
use Rattle.log_core.specs.Confirming.{ConfirmQuestion, confirm_reply, confirm_row, confirmation_by, confirmation_prepared, confirmed_draft, leaf_to_confirm}
use Rattle.log_core.specs.Kept.{IsKeptCore}
use Rattle.log_sending.specs.Sendable.{AreVoices}
use Rattle.log_sending.specs.Sending.{Composed, none_composed, sealed, sent_votes, with_draft}
use Rattle.log_sending.specs.Signers.{known}
use Rattle.log_core.specs.State.{LogAnswer, CoreState, LogStep}
use Rattle.log_sending.specs.declared.refusal.LogRefusal.{LogRefusal}
use Rattle.log_sending.specs.declared.refusal.LogRefusal.TheVariants as refusals
use Rattle.log_core.proofs.KeptEndings.{kept-confirm}
use Rattle.log_sending.proofs.Sealing.{sealed-drafts}
use Rattle.log_sending.proofs.Sendable.{votes-sent}
use Rattle.log_core.proofs.Stepping.{core-with, log-in}
use Rattle.log_core.proofs.Submitted.{given-holds}
use Rattle.log_core.proofs.Replies.{made}

-- ---- what is prepared

-- the votes of the newest decision fit into a message
pub its-votes : (s : CoreState) (w : Newest) → IsKeptCore s → s.log.newest ≡ Some w → AreVotes (sent_votes s.signature_len w.votes)
its-votes s w kept is =
    votes-sent s.signature_len w.votes kept.len (subst (λ (o : Option Newest). IfSome o (λ d. AreVoices d.votes)) is kept.sendable.newest)

-- the authorities are known
abbrev knows : CoreState → ConfirmQuestion → Check
knows s asked = known s.keys (authority_party asked.first ∷ authority_party asked.second ∷ [])

prepared-by : (one other : Check) (value composed : Composed) → given (one ∷ other ∷ []) value ≡ Ok composed → (one ≡ Ok tt) × (other ≡ Ok tt) × (value ≡ composed)
prepared-by (Ok u) (Ok v) value composed is = (refl, refl, (given-holds (Ok tt) value composed is).1)
prepared-by (Ok u) (Err refusal) value composed is = absurd cc
prepared-by (Err refusal) other value composed is = absurd cc

prepared-holds : (s : CoreState) (asked : ConfirmQuestion) (composed : Composed) → confirmation_prepared s asked ≡ Ok composed
    → (knows s asked ≡ Ok tt) × (has_decision s.log s.log.newest ≡ Ok tt) × (confirmation_by s s.log.newest asked ≡ composed)
unfolding confirmation_prepared
prepared-holds s asked composed is =
    prepared-by (knows s asked) (has_decision s.log s.log.newest) (confirmation_by s s.log.newest asked) composed is

decided-by : (s : CoreState) (newest : Option Newest) → has_decision s.log newest ≡ Ok tt → (w : Newest) × (newest ≡ Some w)
decided-by s None is = absurd cc
decided-by s (Some w) is = (w, refl)

-- the decision by which the log confirms
pub its-decision : (s : CoreState) (asked : ConfirmQuestion) (composed : Composed) → confirmation_prepared s asked ≡ Ok composed → (w : Newest) × (s.log.newest ≡ Some w)
its-decision s asked composed is = decided-by s s.log.newest (prepared-holds s asked composed is).1

some-is : (newest : Option Newest) (w : Newest) → newest ≡ Some w → IsSome newest
some-is newest w is = subst IsSome (sym is) refl

pub has-newest : (s : CoreState) (asked : ConfirmQuestion) (composed : Composed) → confirmation_prepared s asked ≡ Ok composed → IsSome s.log.newest
has-newest s asked composed is = let d = its-decision s asked composed is in some-is s.log.newest d.0 d.1

abbrev answer-of : Result Composed LogRefusal → LogStep → LogAnswer
answer-of (Ok composed) reply = Ok reply
answer-of (Err refusal) reply = Err refusal

refused-by : (one other leaf : Check) (value : Composed) (reply : LogStep) (refusal : LogRefusal) → given (one ∷ other ∷ []) value ≡ Err refusal
    → given (one ∷ other ∷ leaf ∷ []) reply ≡ Err refusal
refused-by (Ok u) (Ok v) leaf value reply refusal is = absurd cc
refused-by (Ok u) (Err other) leaf value reply refusal is = ap (λ (r : Result Composed LogRefusal). answer-of r reply) is
refused-by (Err one) other leaf value reply refusal is = ap (λ (r : Result Composed LogRefusal). answer-of r reply) is

pub confirm-refused : (s : CoreState) (asked : ConfirmQuestion) (refusal : LogRefusal) → (refusal ≡ refusals.Memory) ⊎ (confirmation_prepared s asked ≡ Err refusal)
    → IsStep (Err refusal) s s (confirm_row s asked)
unfolding confirmation_prepared confirm_row
confirm-refused s asked refusal (inl wants) = (refl, inl wants)
confirm-refused s asked refusal (inr is) = (
  refl,
  inr (refused-by (knows s asked) (has_decision s.log s.log.newest) (leaf_to_confirm s s.log.newest asked.name) (confirmation_by s s.log.newest asked)
      (confirm_reply s s.log.newest asked) refusal is),
)

-- ---- the leaf

is-plain : (s : CoreState) (w : Newest) (name : List ℕ) → is_roll (confirmation_text s.log w name) ≡ false
is-plain s w name = let c = confirmed_of s.log w name in plain-confirm s.log.me c.epoch c.name c.certificate c.root

-- there is a leaf exactly where the confirmation is signed
leaf-there : (s : CoreState) (w : Newest) (name : List ℕ) (due : DueParts) → IsKeptCore s → confirmed s.log w name ≡ Ok due
    → leaves_left s.log.past.signed (confirmation_text s.log w name ∷ []) ≡ Ok tt
leaf-there s w name due kept is = by (has_leaves book (text ∷ [])) refl
  where
    book : RollBook
    book = s.log.past.signed

    text : List ℕ
    text = confirmation_text s.log w name

    by : (b : Bool) → has_leaves book (text ∷ []) ≡ b → need (has_leaves book (text ∷ [])) refusals.Spent ≡ Ok tt
    by true was = ap (λ (b : Bool). need b refusals.Spent) was
    by false was =
        let none : entered book text ≡ Err book_fault.Spent = spent book text kept.log.honest.signs_what_it_tells.sound was in
        let bad = sym is ∙ none in absurd cc

none-left : (s : CoreState) (w : Newest) (name : List ℕ) → IsKeptCore s → confirmed s.log w name ≡ Err book_fault.Spent
    → leaves_left s.log.past.signed (confirmation_text s.log w name ∷ []) ≡ Err refusals.Spent
none-left s w name kept is = by (has_leaves book (text ∷ [])) refl
  where
    book : RollBook
    book = s.log.past.signed

    text : List ℕ
    text = confirmation_text s.log w name

    by : (b : Bool) → has_leaves book (text ∷ []) ≡ b → need (has_leaves book (text ∷ [])) refusals.Spent ≡ Err refusals.Spent
    by false was = ap (λ (b : Bool). need b refusals.Spent) was
    by true was =
        let some : IsOk (entered book text) = enters book text kept.log.honest.signs_what_it_tells.sound (is-plain s w name) was in
        let bad : IsOk {T = DueParts} {E = BookFault} (Err book_fault.Spent) = subst (λ (r : Result DueParts BookFault). IsOk r) is some in absurd cc

-- ---- the step

row-is : (s : CoreState) (asked : ConfirmQuestion) (w : Newest) → knows s asked ≡ Ok tt → s.log.newest ≡ Some w
    → confirm_row s asked ≡ given (leaves_left s.log.past.signed (confirmation_text s.log w asked.name ∷ []) ∷ [])
    (open_reply s (after_confirm s.log w asked.name) (confirmed_draft s w asked ∷ []))
unfolding confirm_row
row-is s asked w known-all decided =
    ap (λ (c : Check). given (c ∷ has_decision s.log s.log.newest ∷ leaf_to_confirm s s.log.newest asked.name ∷ []) (confirm_reply s s.log.newest asked)) known-all
    ∙ ap (λ (o : Option Newest). given (Ok tt ∷ has_decision s.log o ∷ leaf_to_confirm s o asked.name ∷ []) (confirm_reply s o asked)) decided

-- what the log is behind the confirmation
abbrev log-confirmed : CoreState → Newest → List ℕ → LogParts
log-confirmed s w name = moved (log-in s) (after_confirm s.log w name)

row-made : (s : CoreState) (asked : ConfirmQuestion) (composed : Composed) (w : Newest) (due : DueParts) → IsKeptCore s → confirmation_prepared s asked ≡ Ok composed
    → s.log.newest ≡ Some w → confirmed s.log w asked.name ≡ Ok due
    → confirm_row s asked ≡ Ok (open_reply s (after_confirm s.log w asked.name) (confirmed_draft s w asked ∷ []))
row-made s asked composed w due kept prepared decided due-is =
    row-is s asked w (prepared-holds s asked composed prepared).0 decided
    ∙ ap (λ (c : Check). given (c ∷ []) (open_reply s (after_confirm s.log w asked.name) (confirmed_draft s w asked ∷ []))) (leaf-there s w asked.name due kept due-is)

made-by : (s : CoreState) (asked : ConfirmQuestion) (composed : Composed) (w : Newest) (due : DueParts) (new : LogParts) (unsigned : Unsigned) → IsKeptCore s
    → confirmation_prepared s asked ≡ Ok composed → s.log.newest ≡ Some w → confirmed s.log w asked.name ≡ Ok due → new ≡ log-confirmed s w asked.name
    → unsigned ≡ sealed new.state.past.signed composed None → confirm_row s asked ≡ Ok (record { unsigned = unsigned; after = core-with s new })
made-by s asked composed w due new unsigned kept prepared decided due-is news sends =
    row-made s asked composed w due kept prepared decided due-is
    ∙ sym (ap (λ (u : Unsigned). made u (core-with s new)) all ∙ ap (λ (n : LogParts). made reply.unsigned (core-with s n)) news)
  where
    reply : LogStep
    reply = open_reply s (after_confirm s.log w asked.name) (confirmed_draft s w asked ∷ [])

    book : RollBook
    book = (after_confirm s.log w asked.name).past.signed

    what : with_draft none_composed (confirmed_draft s w asked) ≡ composed
    what = sym (ap (λ (o : Option Newest). confirmation_by s o asked) decided) ∙ (prepared-holds s asked composed prepared).2

    all : unsigned ≡ reply.unsigned
    all =
        sends ∙ ap (λ (n : LogParts). sealed n.state.past.signed composed None) news
        ∙ ap (λ (c : Composed). sealed book c None) (sym what) ∙ sealed-drafts book (confirmed_draft s w asked ∷ []) None

pub confirm-made : (s : CoreState) (asked : ConfirmQuestion) (composed : Composed) (due : DueParts) (new : LogParts) (unsigned : Unsigned) → IsKeptCore s
    → confirmation_prepared s asked ≡ Ok composed → IfSome s.log.newest (λ w. confirmed s.log w asked.name ≡ Ok due)
    → IfSome s.log.newest (λ w. new ≡ log-confirmed s w asked.name) → unsigned ≡ sealed new.state.past.signed composed None
    → confirm_row s asked ≡ Ok (record { unsigned = unsigned; after = core-with s new })
confirm-made s asked composed due new unsigned kept prepared gives news sends =
    let d = its-decision s asked composed prepared in
    made-by s asked composed d.0 due new unsigned kept prepared d.1 (subst (λ (o : Option Newest). IfSome o (λ w. confirmed s.log w asked.name ≡ Ok due)) d.1 gives)
    (subst (λ (o : Option Newest). IfSome o (λ w. new ≡ log-confirmed s w asked.name)) d.1 news) sends

-- what a confirmation that is not signed answers
abbrev WasNotSigned : BookFault → Result DueParts BookFault → Type 0
WasNotSigned fault answer = ((fault ≡ book_fault.Memory) × IsOk answer) ⊎ (answer ≡ Err fault)

spent-row : (s : CoreState) (asked : ConfirmQuestion) (composed : Composed) (w : Newest) (fault : BookFault) → IsKeptCore s → confirmation_prepared s asked ≡ Ok composed
    → s.log.newest ≡ Some w → WasNotSigned fault (confirmed s.log w asked.name) → (book_refusal fault ≡ refusals.Memory) ⊎ (confirm_row s asked ≡ Err (book_refusal fault))
spent-row s asked composed w fault kept prepared decided (inl wants) = inl (ap book_refusal wants.0)
spent-row s asked composed w book_fault.Memory kept prepared decided (inr is) = inl refl
spent-row s asked composed w book_fault.Spent kept prepared decided (inr is) =
    inr (row-is s asked w (prepared-holds s asked composed prepared).0 decided
    ∙ ap (λ (c : Check). given (c ∷ []) (open_reply s (after_confirm s.log w asked.name) (confirmed_draft s w asked ∷ []))) (none-left s w asked.name kept is))

pub confirm-spent : (s : CoreState) (asked : ConfirmQuestion) (composed : Composed) (fault : BookFault) (new : LogParts) → IsKeptCore s → confirmation_prepared s asked ≡ Ok composed
    → IfSome s.log.newest (λ w. WasNotSigned fault (confirmed s.log w asked.name)) → new ≡ log-in s
    → IsStep (Err (book_refusal fault)) s (core-with s new) (confirm_row s asked)
confirm-spent s asked composed fault new kept prepared gives err =
    let d = its-decision s asked composed prepared in (
      ap (λ (n : LogParts). core-with s n) err,
      spent-row s asked composed d.0 fault kept prepared d.1 (subst (λ (o : Option Newest). IfSome o (λ w. WasNotSigned fault (confirmed s.log w asked.name))) d.1 gives),
    )

-- what is kept behind the step
pub confirm-keeps : (s : CoreState) (asked : ConfirmQuestion) (composed : Composed) (r : Result DueParts BookFault) (new : LogParts) → IsKeptCore s → IsName asked.name
    → confirmation_prepared s asked ≡ Ok composed → IfSome s.log.newest (λ w. GivesOrWants book_fault.Memory (λ (due : DueParts). due) r (confirmed s.log w asked.name))
    → OnOk r (IfSome s.log.newest (λ w. new ≡ log-confirmed s w asked.name)) → OnErr r (new ≡ log-in s) → IsKeptCore (core-with s new)
confirm-keeps s asked composed (Ok due) new kept named prepared gives ok err =
    let d = its-decision s asked composed prepared in
    subst (λ (n : LogParts). IsKeptCore (core-with s n)) (sym (subst (λ (o : Option Newest). IfSome o (λ w. new ≡ log-confirmed s w asked.name)) d.1 ok))
    (kept-confirm s asked (open_reply s (after_confirm s.log d.0 asked.name) (confirmed_draft s d.0 asked ∷ [])) kept named
    (row-made s asked composed d.0 due kept prepared d.1 (subst (λ (o : Option Newest). IfSome o (λ w. confirmed s.log w asked.name ≡ Ok due)) d.1 gives)))
confirm-keeps s asked composed (Err fault) new kept named prepared gives ok err = subst (λ (n : LogParts). IsKeptCore (core-with s n)) (sym err) kept
