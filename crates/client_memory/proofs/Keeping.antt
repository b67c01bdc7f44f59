-- What is kept behind calls, one after the other.
use Rattle.std.proofs.Common.{◌≡◌, ℕ, Bool, true, false, cond, not, if◌then◌else◌, List, [], ◌∷◌, ◌++◌, length, Some, is_some, Result, Ok, Err, refl, sym, ap, ◌∙◌, subst}
use Rattle.std.specs.Prelude.{All, find}
use Rattle.std.specs.Option.{option_map}
use Rattle.std.specs.List.{AllByRecursion}
use Rattle.std.specs.Str.{bytes_eq}
use Rattle.std.proofs.lemmas.List.Elements.{All-from_recursion}
use Rattle.ar_base.specs.Chaining.{◌>>=◌}
use Rattle.ar_base.specs.Gives.{with_error}
use Rattle.ar_base.specs.Prefixes.{BeginsWith}
use Rattle.ar_base.proofs.Prefixes.{begins_itself, begins_on}
use Rattle.ar_cert.specs.Certificate.{Certificate}
use Rattle.ar_cert.specs.Changes.{Change}
use Rattle.cert_policy.specs.declared.refusal.PolicyRefusal.{PolicyRefusal}
use Rattle.client_rule.specs.Rule.{Asked, judgement}
use Rattle.client_rule.specs.declared.judgement.Judgement.{Judgement}
use Rattle.client_rule.specs.declared.judgement.Judgement.TheVariants as judged
use Rattle.party_keys.specs.Directory.{Directory}
use Rattle.client_memory.specs.declared.answers.AddFault.{AddFault}
use Rattle.client_memory.specs.declared.answers.AddFault.TheVariants as add_fault
use Rattle.client_memory.specs.declared.answers.Pinned.{Pinned}
use Rattle.client_memory.specs.declared.answers.Pinned.TheVariants as pinned
use Rattle.client_memory.specs.Answers.{added, answer_to, chained, first_change, kept_with, pinned_on}
use Rattle.client_memory.specs.Book.{Pin, has_room, is_of, last_behind, newest_of, newest_pinned, pinned_chain, with_links, with_pin, without}
use Rattle.client_memory.specs.Calls.{Call, IsKeptChain, Spares, adds, after_call, after_calls, changes_of, forgets, judges, kept_of, unless_refused}
use Rattle.client_memory.specs.Links.{AllFollow, followed}
use Rattle.client_memory.proofs.Answering.{moved-behind}
use Rattle.client_memory.proofs.Books.{other-out}
use Rattle.client_memory.proofs.Chains.{all-follow, follow-on, linked-follows}

-- ---- each chain is one

longer : (chain links : List Change) → IsKeptChain chain → ((newest : Certificate) → newest_of chain ≡ Some newest → AllFollow newest links) → IsKeptChain (chain ++ links)
longer [] links kept follows = absurd kept
longer (change ∷ chain) links kept follows = follow-on change.cert chain links kept (follows (last_behind change.cert chain) refl)

kept-links : (book : List Pin) (name : List ℕ) (links : List Change) → AllByRecursion (λ pin. IsKeptChain pin.chain) book
    → ((newest : Certificate) → newest_pinned book name ≡ Some newest → AllFollow newest links)
    → AllByRecursion (λ pin. IsKeptChain pin.chain) (with_links book name links)
unfolding with_links
kept-links [] name links all follows = tt
kept-links (pin ∷ book) name links all follows = by (bytes_eq pin.name name) refl (kept-links book name links all.1)
  where
    by : (b : Bool) → bytes_eq pin.name name ≡ b
        → (((newest : Certificate) → newest_pinned book name ≡ Some newest → AllFollow newest links)
        → AllByRecursion (λ p. IsKeptChain p.chain) (with_links book name links))
        → AllByRecursion (λ p. IsKeptChain p.chain) (cond b (record { name = pin.name; chain = pin.chain ++ links } ∷ book) (pin ∷ with_links book name links))
    by true e rest = (longer pin.chain links all.0 (λ newest is. follows newest (rw e is)), all.1)
    by false e rest = (all.0, rest (λ newest is. follows newest (rw e is)))

kept-pin : (book : List Pin) (name : List ℕ) (chain : List Change) → AllByRecursion (λ pin. IsKeptChain pin.chain) book → IsKeptChain chain
    → AllByRecursion (λ pin. IsKeptChain pin.chain) (with_pin book name chain)
kept-pin [] name chain all one = (one, tt)
kept-pin (pin ∷ book) name chain all one = (all.0, kept-pin book name chain all.1 one)

kept-out : (book : List Pin) (name : List ℕ) → AllByRecursion (λ pin. IsKeptChain pin.chain) book → AllByRecursion (λ pin. IsKeptChain pin.chain) (without book name)
kept-out [] name all = tt
kept-out (pin ∷ book) name all = by (not (bytes_eq pin.name name)) (kept-out book name all.1)
  where
    by : (b : Bool) → AllByRecursion (λ p. IsKeptChain p.chain) (without book name)
        → AllByRecursion (λ p. IsKeptChain p.chain) (cond b (pin ∷ without book name) (without book name))
    by true rest = (all.0, rest)
    by false rest = rest

kept-with : (keys : Directory) (book : List Pin) (name : List ℕ) (this : Certificate) (links : List Change) (answer : Pinned)
    → answer_to keys book (newest_pinned book name) this links ≡ answer
    → AllByRecursion (λ pin. IsKeptChain pin.chain) book
    → AllByRecursion (λ pin. IsKeptChain pin.chain) (kept_with this book name links answer)
kept-with keys book name this links (pinned.Refused k) e all = all
kept-with keys book name this links pinned.Gone e all = all
kept-with keys book name this links pinned.Absent e all = all
kept-with keys book name this links pinned.Same e all = all
kept-with keys book name this links pinned.Long e all = all
kept-with keys book name this links pinned.Full e all = all
kept-with keys book name this links pinned.First e all = kept-pin book this.name (first_change this ∷ []) all tt
kept-with keys book name this links pinned.NoLinks e all = all
kept-with keys book name this links (pinned.Link place f) e all = all
kept-with keys book name this links pinned.WrongEnd e all = all
kept-with keys book name this links (pinned.Moved count) e all =
    kept-links book name links all (λ newest was.
    let answer : answer_to keys book (Some newest) this links ≡ pinned.Moved count = ap (λ o. answer_to keys book o this links) (sym was) ∙ e in
    linked-follows keys newest links (moved-behind keys book newest this links count answer).linked)

kept-judged : (asked : Asked) (book : List Pin) (links : List Change) (j : Judgement) → AllByRecursion (λ pin. IsKeptChain pin.chain) book
    → AllByRecursion (λ pin. IsKeptChain pin.chain) (pinned_on j book asked links).1
kept-judged asked book links (judged.Refused k) all = all
kept-judged asked book links (judged.Absent epoch root) all = all
kept-judged asked book links (judged.Accepted this digest epoch root) all =
    kept-with asked.keys book asked.name this links (answer_to asked.keys book (newest_pinned book asked.name) this links) refl all

-- a chain that is added is one
one-chain : (chain : List Change) → chained chain ≡ Ok tt → IsKeptChain chain
one-chain [] h = absurd (cc)
one-chain (first ∷ later) h = by (followed 0 first.cert later) refl h
  where
    by : (r : Result (Unit {0}) (ℕ × PolicyRefusal)) → followed 0 first.cert later ≡ r
        → with_error (λ why. add_fault.Link why.0 why.1) r ≡ Ok tt → AllFollow first.cert later
    by (Ok u) e h = all-follow 0 first.cert later e
    by (Err f) e h = absurd (cc)

kept-added : (book : List Pin) (name : List ℕ) (chain : List Change) → AllByRecursion (λ pin. IsKeptChain pin.chain) book
    → AllByRecursion (λ pin. IsKeptChain pin.chain) (unless_refused book (added book name chain))
kept-added book name chain all = by (is_some (pinned_chain book name)) (has_room book (length chain)) (chained chain) refl
  where
    by : (there room : Bool) (r : Result (Unit {0}) AddFault) → chained chain ≡ r
        → AllByRecursion (λ pin. IsKeptChain pin.chain) (unless_refused book (if there then Err add_fault.Pinned else
        (if room then (r >>= λ u. Ok (with_pin book name chain)) else Err add_fault.Full)))
    by true room r e = all
    by false false r e = all
    by false true (Err f) e = all
    by false true (Ok u) e = kept-pin book name chain all (one-chain chain e)

kept-call : (book : List Pin) (call : Call) → AllByRecursion (λ pin. IsKeptChain pin.chain) book → AllByRecursion (λ pin. IsKeptChain pin.chain) (after_call book call)
kept-call book (judges asked bytes links) all = kept-judged asked book links (judgement asked bytes) all
kept-call book (forgets name) all = kept-out book name all
kept-call book (adds name chain) all = kept-added book name chain all

kept-calls : (book : List Pin) (calls : List Call) → AllByRecursion (λ pin. IsKeptChain pin.chain) book → AllByRecursion (λ pin. IsKeptChain pin.chain) (after_calls book calls)
kept-calls book [] all = all
kept-calls book (call ∷ calls) all = kept-calls (after_call book call) calls (kept-call book call all)

pub all-kept : (calls : List Call) → All (λ pin. IsKeptChain pin.chain) (after_calls [] calls)
all-kept calls = All-from_recursion (λ pin. IsKeptChain pin.chain) (after_calls [] calls) (kept-calls [] calls tt)

-- ---- each chain only grows

unchanged : (xs ys : List Change) → xs ≡ ys → BeginsWith xs ys
unchanged xs ys same = subst (λ (l : List Change). BeginsWith l ys) (sym same) (begins_itself ys)

grows-links : (book : List Pin) (name other : List ℕ) (links : List Change) → BeginsWith (kept_of (with_links book name links) other) (kept_of book other)
unfolding with_links
grows-links [] name other links = begins_itself []
grows-links (pin ∷ book) name other links = by (bytes_eq pin.name name) (bytes_eq pin.name other) refl (grows-links book name other links)
  where
    by : (b o : Bool) → bytes_eq pin.name other ≡ o → BeginsWith (kept_of (with_links book name links) other) (kept_of book other)
        → BeginsWith (kept_of (cond b (record { name = pin.name; chain = pin.chain ++ links } ∷ book) (pin ∷ with_links book name links)) other)
        (changes_of (option_map (λ p. p.chain) (cond o (Some pin) (find (is_of other) book))))
    by true true e rest = rw e (links, refl)
    by true false e rest = rw e (begins_itself (kept_of book other))
    by false true e rest = rw e (begins_itself pin.chain)
    by false false e rest = rw e rest

grows-pin : (book : List Pin) (name other : List ℕ) (chain : List Change) → BeginsWith (kept_of (with_pin book name chain) other) (kept_of book other)
grows-pin [] name other chain = (kept_of (with_pin [] name chain) other, refl)
grows-pin (pin ∷ book) name other chain = by (bytes_eq pin.name other) (grows-pin book name other chain)
  where
    by : (o : Bool) → BeginsWith (kept_of (with_pin book name chain) other) (kept_of book other)
        → BeginsWith (changes_of (option_map (λ p. p.chain) (cond o (Some pin) (find (is_of other) (with_pin book name chain)))))
        (changes_of (option_map (λ p. p.chain) (cond o (Some pin) (find (is_of other) book))))
    by true rest = begins_itself pin.chain
    by false rest = rest

grows-with : (this : Certificate) (book : List Pin) (name other : List ℕ) (links : List Change) (answer : Pinned)
    → BeginsWith (kept_of (kept_with this book name links answer) other) (kept_of book other)
grows-with this book name other links (pinned.Refused k) = begins_itself (kept_of book other)
grows-with this book name other links pinned.Gone = begins_itself (kept_of book other)
grows-with this book name other links pinned.Absent = begins_itself (kept_of book other)
grows-with this book name other links pinned.Same = begins_itself (kept_of book other)
grows-with this book name other links pinned.Long = begins_itself (kept_of book other)
grows-with this book name other links pinned.Full = begins_itself (kept_of book other)
grows-with this book name other links pinned.First = grows-pin book this.name other (first_change this ∷ [])
grows-with this book name other links pinned.NoLinks = begins_itself (kept_of book other)
grows-with this book name other links (pinned.Link place f) = begins_itself (kept_of book other)
grows-with this book name other links pinned.WrongEnd = begins_itself (kept_of book other)
grows-with this book name other links (pinned.Moved count) = grows-links book name other links

grows-judged : (asked : Asked) (book : List Pin) (links : List Change) (other : List ℕ) (j : Judgement)
    → BeginsWith (kept_of (pinned_on j book asked links).1 other) (kept_of book other)
grows-judged asked book links other (judged.Refused k) = begins_itself (kept_of book other)
grows-judged asked book links other (judged.Absent epoch root) = begins_itself (kept_of book other)
grows-judged asked book links other (judged.Accepted this digest epoch root) =
    grows-with this book asked.name other links (answer_to asked.keys book (newest_pinned book asked.name) this links)

grows-added : (book : List Pin) (name other : List ℕ) (chain : List Change) → BeginsWith (kept_of (unless_refused book (added book name chain)) other) (kept_of book other)
grows-added book name other chain = by (is_some (pinned_chain book name)) (has_room book (length chain)) (chained chain)
  where
    by : (there room : Bool) (r : Result (Unit {0}) AddFault)
        → BeginsWith (kept_of (unless_refused book (if there then Err add_fault.Pinned else
        (if room then (r >>= λ u. Ok (with_pin book name chain)) else Err add_fault.Full))) other) (kept_of book other)
    by true room r = begins_itself (kept_of book other)
    by false false r = begins_itself (kept_of book other)
    by false true (Err f) = begins_itself (kept_of book other)
    by false true (Ok u) = grows-pin book name other chain

grows-call : (book : List Pin) (call : Call) (name : List ℕ) → Spares name call → BeginsWith (kept_of (after_call book call) name) (kept_of book name)
grows-call book (judges asked bytes links) name spares = grows-judged asked book links name (judgement asked bytes)
grows-call book (forgets other) name spares =
    unchanged (kept_of (without book other) name) (kept_of book name) (ap changes_of (other-out book other name spares))
grows-call book (adds other chain) name spares = grows-added book other name chain

pub grows : (book : List Pin) (calls : List Call) (name : List ℕ) → AllByRecursion (Spares name) calls
    → BeginsWith (kept_of (after_calls book calls) name) (kept_of book name)
grows book [] name all = begins_itself (kept_of book name)
grows book (call ∷ calls) name all =
    begins_on (kept_of book name) (kept_of (after_call book call) name) (kept_of (after_calls (after_call book call) calls) name)
    (grows (after_call book call) calls name all.1) (grows-call book call name all.0)
