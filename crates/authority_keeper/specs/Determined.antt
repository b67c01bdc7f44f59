-- There is one thing that an authority sends for a text of its journal, and one that it becomes.
use Rattle.std.proofs.Common.{◌≡◌, ℕ, List, ◌∷◌, [], ◌++◌, sym, ◌∙◌, ap, subst, Option, None, Some, Ok, Result}
use Rattle.ar_message.specs.declared.sent.Sent.{Sent}
use Rattle.authority_core.specs.RollRows.{roll_row}
use Rattle.authority_core.specs.State.{AuthorityAnswer, AuthorityState}
use Rattle.authority_core.specs.declared.refusal.AuthorityRefusal.{AuthorityRefusal}
use Rattle.key_roll.specs.Ring.{IsNext, next_key}
use Rattle.lms_tree.specs.Key.{public_of}
use Rattle.lms_tree.specs.KeyParts.{KeyParts}
use Rattle.owner_check.specs.Book.{with_pair, without_pair}
use Rattle.owner_check.specs.declared.pair.Pair.{Pair}
use Rattle.authority_keeper.specs.Inputs.{Input, forgets, learns, retires, rolls, takes}
use Rattle.authority_keeper.specs.Keeping.{AuthorityStanding, ChangesBook, Sends, Steps, Turns}
use Rattle.authority_keeper.specs.Keeping as keeping

abbrev standing : AuthorityState → List KeyParts → Option (List Pair) → AuthorityStanding
standing state keys book = record { state = state; keys = keys; book = book }

abbrev Same : AuthorityStanding → AuthorityStanding → Sent → Sent → Type 0
Same one other reply said = (reply ≡ said) × (one ≡ other)

same-pair : (a b : AuthorityState × Sent) → ◌≡◌ {A = Result (AuthorityState × Sent) AuthorityRefusal} (Ok a) (Ok b) → a ≡ b
same-pair a b e = cc

same-input : (a b : Input) → Some a ≡ Some b → a ≡ b
same-input a b e = cc

same-book : (a b : List Pair) → Some a ≡ Some b → a ≡ b
same-book a b e = cc

-- one answer, signed with the same keys, and the same keys and book behind it
answered : (keys : List KeyParts) (answer : AuthorityAnswer) (one other : AuthorityStanding) (reply said : Sent) → Sends keys answer reply one.state → Sends keys answer said other.state
    → one.keys ≡ other.keys → one.book ≡ other.book → Same one other reply said
answered keys answer one other reply said a b same book =
    let pair : (one.state, reply) ≡ (other.state, said) = same-pair (one.state, reply) (other.state, said) (sym a ∙ b) in (
      ap (λ (p : AuthorityState × Sent). p.1) pair,
      ap (λ (p : AuthorityState × Sent). standing p.0 one.keys one.book) pair
          ∙ ap (λ (k : List KeyParts). standing other.state k one.book) same ∙ ap (standing other.state other.keys) book,
    )

-- there is one next key
one-next : (keys : List KeyParts) (a b : KeyParts) → IsNext keys a → IsNext keys b → a ≡ b
one-next keys a b one other =
    let same : one.newest ≡ other.newest = same-key one.newest other.newest (sym one.last ∙ other.last) in
    one.is ∙ ap next_key same ∙ sym other.is
  where
    same-key : (x y : KeyParts) → Some x ≡ Some y → x ≡ y
    same-key x y e = cc

turned : (old one other : AuthorityStanding) (key next : KeyParts) (reply said : Sent) → key ≡ next → Turns old key reply one → Turns old next said other → Same one other reply said
turned old one other key next reply said same a b =
    let answer : Sends (old.keys ++ key ∷ []) (roll_row old.state (public_of key)) said other.state =
    subst (λ (k : KeyParts). Sends (old.keys ++ k ∷ []) (roll_row old.state (public_of k)) said other.state) (sym same) b.answer in
    answered (old.keys ++ key ∷ []) (roll_row old.state (public_of key)) one other reply said a.answer answer
    (a.keys ∙ ap (λ (k : KeyParts). old.keys ++ k ∷ []) same ∙ sym b.keys) (a.book ∙ sym b.book)

book_changed : (old one other : AuthorityStanding) (after : List Pair → Option (List Pair)) (reply said : Sent) → (a : (book : List Pair) × ChangesBook old book (after book) reply one)
    → (b : (book : List Pair) × ChangesBook old book (after book) said other) → Same one other reply said
book_changed old one other after reply said a b =
    let book : a.0 ≡ b.0 = same-book a.0 b.0 (sym a.1.had ∙ b.1.had) in
    (a.1.silent ∙ sym b.1.silent, a.1.is ∙ ap (λ (k : List Pair). record old { book = after k }) book ∙ sym b.1.is)

by : (input : Input) (old one other : AuthorityStanding) (reply said : Sent) → Steps old input reply one → Steps old input said other → Same one other reply said
by (takes bytes) old one other reply said a b =
    answered old.keys (keeping.answer_to old bytes) one other reply said a.0 b.0 (a.1.0 ∙ sym b.1.0) (a.1.1 ∙ sym b.1.1)
by (rolls key) old one other reply said a b = turned old one other a.0 b.0 reply said (one-next old.keys a.0 b.0 a.1.1.next b.1.1.next) a.1.1 b.1.1
by (learns name key) old one other reply said a b = book_changed old one other (λ book. Some (with_pair book name key)) reply said a b
by (forgets name key) old one other reply said a b = book_changed old one other (λ book. Some (without_pair book name key)) reply said a b
by retires old one other reply said a b = book_changed old one other (λ book. None) reply said a b

pub one_standing : (party one other : AuthorityStanding) (text : List ℕ) (reply said : Sent) → keeping.takes party text reply one → keeping.takes party text said other
    → (reply ≡ said) × (one ≡ other)
one_standing party one other text reply said a b =
    let same : a.input ≡ b.input = same-input a.input b.input (sym a.says ∙ b.says) in
    by a.input party one other reply said a.steps (subst (λ (i : Input). Steps party i said other) (sym same) b.steps)
