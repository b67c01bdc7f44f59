-- The bytes that a caller keeps of a name make the book that the calls made.
use Rattle.std.proofs.Common.{◌≡◌, ◌==◌, ℕ, suc, ◌+◌, ◌≤◌, nat_lt, Bool, true, false, if◌then◌else◌, List, [], ◌∷◌, ◌++◌, length, take, drop, Option, Some, None, is_some, Result, Ok, Err, refl, sym, ap, subst, ◌∙◌, arith}
use Rattle.std.specs.List.{AllByRecursion, flat_map}
use Rattle.std.specs.Prelude.{replicate}
use Rattle.std.specs.Str.{bytes_eq}
use Rattle.std.proofs.lemmas.Bool.{le-leb, leb-true}
use Rattle.std.proofs.lemmas.Grind.{flat_map-append}
use Rattle.std.proofs.lemmas.List.{append-nil, length-append}
use Rattle.std.proofs.lemmas.Option.{same_Some}
use Rattle.std.proofs.lemmas.Slice.Eq.{bytes_eq-Decides}
use Rattle.std.proofs.Math.Seq.{take-append_seam}
use Rattle.ar_base.specs.Bytes.{AreBytes}
use Rattle.ar_base.specs.Chaining.{◌>>=◌}
use Rattle.ar_base.specs.Gives.{with_error}
use Rattle.ar_base.proofs.Shown.{bind_ok, ok_is}
use Rattle.ar_bytes.specs.Reading.{start_of}
use Rattle.ar_cert.specs.Certificate.{Certificate, IsCertificate}
use Rattle.ar_cert.specs.Changes.{Change, IsChange, change_text}
use Rattle.ar_cert.proofs.ChangeLaws.{only_text}
use Rattle.ar_message.specs.Confirmation.{IsBody, IsConfirmation, confirmation_at, confirmation_text}
use Rattle.ar_message.proofs.ConfirmationLaws.{confirmation_again, confirmation_pass}
use Rattle.cert_policy.specs.declared.refusal.PolicyRefusal.{PolicyRefusal}
use Rattle.client_memory.specs.Answers.{answer_to, chained, first_change, is_this, kept_with, moved_to, pinned_by, pinned_on}
use Rattle.client_memory.specs.Book.{Pin, has_room, last_behind, newest_pinned, pinned_chain, with_links, with_pin}
use Rattle.client_memory.specs.Links.{AllFollow, followed, linked}
use Rattle.client_memory.specs.declared.answers.AddFault.{AddFault}
use Rattle.client_memory.specs.declared.answers.AddFault.TheVariants as add_fault
use Rattle.client_memory.specs.declared.answers.LinkFault.{LinkFault}
use Rattle.client_memory.specs.declared.answers.LinkFault.TheVariants as link_fault
use Rattle.client_memory.specs.declared.answers.Pinned.{Pinned}
use Rattle.client_memory.specs.declared.answers.Pinned.TheVariants as pinned
use Rattle.client_memory.proofs.Answering.{moved, own-name}
use Rattle.client_memory.proofs.Chains.{all-follow, follow-on, linked-follows}
use Rattle.client_rule.specs.Rule.{Asked, judgement}
use Rattle.client_rule.specs.declared.judgement.Judgement.{Judgement}
use Rattle.client_rule.specs.declared.judgement.Judgement.TheVariants as judged
use Rattle.client_rule.proofs.Meanings.{accepted}
use Rattle.party_keys.specs.Directory.{Directory}
use Rattle.arpki_c.specs.Following.{at_front, first_text, following, keeping_pin}
use Rattle.arpki_c.specs.Stored.{book_stored, book_with, changes_in, name_among}
use Rattle.arpki_c.specs.declared.pins.PinFault.{PinFault}
use Rattle.arpki_c.specs.declared.pins.PinFault.TheVariants as pin_fault
use Rattle.arpki_c.proofs.Runs.{has-some, run_again, run_spelled, some-text}

-- ---- lists

both-all : (P : Change → Type 0) (xs ys : List Change) → AllByRecursion P xs → AllByRecursion P ys → AllByRecursion P (xs ++ ys)
both-all P [] ys one other = other
both-all P (x ∷ xs) ys one other = (one.0, both-all P xs ys one.1 other)

still-some : (xs ys : List ℕ) → (length xs == 0) ≡ false → (length (xs ++ ys) == 0) ≡ false
still-some [] ys e = absurd cc
still-some (x ∷ xs) ys e = has-some (suc (length (xs ++ ys))) (omega arith)

-- ---- chains

follows-all : (place : ℕ) (old : Certificate) (links : List Change) → AllFollow old links → followed place old links ≡ Ok tt
unfolding followed
follows-all place old [] all = refl
follows-all place old (link ∷ links) all = rw all.0 (follows-all (place + 1) link.cert links all.1)

chain-made : (first : Change) (later : List Change) → AllFollow first.cert later → chained (first ∷ later) ≡ Ok tt
chain-made first later all = rw (follows-all 0 first.cert later all) refl

chain-follows : (first : Change) (later : List Change) → chained (first ∷ later) ≡ Ok tt → AllFollow first.cert later
chain-follows first later h = by (followed 0 first.cert later) refl h
  where
    by : (r : Result (Unit {0}) (ℕ × PolicyRefusal)) → followed 0 first.cert later ≡ r
        → with_error (λ why. add_fault.Link why.0 why.1) r ≡ Ok tt → AllFollow first.cert later
    by (Ok u) e h = all-follow 0 first.cert later e
    by (Err f) e h = absurd cc

-- ---- the book that bytes make

abbrev one_pin : List ℕ → List Change → List Pin
one_pin name chain = record { name = name; chain = chain } ∷ []

-- what is pinned, where something is
record Parts (name pin : List ℕ) (book : List Pin) : Type 0 where
  first : Change
  later : List Change
  read : changes_in pin_fault.Form pin ≡ Ok (first ∷ later)
  own : first.cert.name ≡ name
  follows : chained (first ∷ later) ≡ Ok tt
  is : book ≡ one_pin first.cert.name (first ∷ later)

with-chain : (own : List ℕ) (chain : List Change) (book : List Pin) → book_with own chain ≡ Ok book → (chained chain ≡ Ok tt) × (book ≡ one_pin own chain)
with-chain own chain book h = by (has_room [] (length chain)) (chained chain) refl h
  where
    by : (room : Bool) (r : Result (Unit {0}) AddFault) → chained chain ≡ r
        → with_error (λ why. pin_fault.Chain) (if room then (r >>= λ u. Ok (with_pin [] own chain)) else Err add_fault.Full) ≡ Ok book
        → (chained chain ≡ Ok tt) × (book ≡ one_pin own chain)
    by true (Ok u) e h = (e, sym (ok_is {A = List Pin} {E = PinFault} (one_pin own chain) book h))
    by true (Err f) e h = absurd cc
    by false r e h = absurd cc

own-among : (name : List ℕ) (first : Change) (later : List Change) (own : List ℕ) → name_among name (first ∷ later) ≡ Ok own
    → (first.cert.name ≡ name) × (first.cert.name ≡ own)
own-among name first later own h = by (bytes_eq first.cert.name name) refl h
  where
    by : (b : Bool) → bytes_eq first.cert.name name ≡ b → (if b then Ok first.cert.name else Err pin_fault.Name) ≡ Ok own
        → (first.cert.name ≡ name) × (first.cert.name ≡ own)
    by true e h = ((bytes_eq-Decides first.cert.name name).0 e, ok_is {A = List ℕ} {E = PinFault} first.cert.name own h)
    by false e h = absurd cc

stored-parts : (name pin : List ℕ) (book : List Pin) → (length pin == 0) ≡ false → book_stored name pin ≡ Ok book → Parts name pin book
unfolding book_stored
stored-parts name pin book some stored =
    let read : (changes_in pin_fault.Form pin >>= λ chain. (name_among name chain >>= λ own. book_with own chain)) ≡ Ok book =
    subst (λ (b : Bool). (if b then Ok [] else (changes_in pin_fault.Form pin >>= λ chain. (name_among name chain >>= λ own. book_with own chain))) ≡ Ok book) some stored in
    let a = bind_ok (changes_in pin_fault.Form pin) (λ chain. (name_among name chain >>= λ own. book_with own chain)) book read in
    by a.0 a.1 a.2
  where
    by : (chain : List Change) → changes_in pin_fault.Form pin ≡ Ok chain → (name_among name chain >>= λ own. book_with own chain) ≡ Ok book → Parts name pin book
    by [] e h = absurd cc
    by (first ∷ later) e h =
        let b = bind_ok (name_among name (first ∷ later)) (λ own. book_with own (first ∷ later)) book h in
        let named = own-among name first later b.0 b.1 in
        let made = with-chain b.0 (first ∷ later) book b.2 in
        record {
          first = first;
          later = later;
          read = e;
          own = named.0;
          follows = made.0;
          is = made.1 ∙ ap (λ (n : List ℕ). one_pin n (first ∷ later)) (sym named.1);
        }

none-stored : (name pin : List ℕ) (book : List Pin) → (length pin == 0) ≡ true → book_stored name pin ≡ Ok book → book ≡ []
unfolding book_stored
none-stored name pin book none stored =
    sym (ok_is {A = List Pin} {E = PinFault} [] book
    (subst (λ (b : Bool). (if b then Ok [] else (changes_in pin_fault.Form pin >>= λ chain. (name_among name chain >>= λ own. book_with own chain))) ≡ Ok book) none stored))

book-made : (own : List ℕ) (chain : List Change) → has_room [] (length chain) ≡ true → chained chain ≡ Ok tt → book_with own chain ≡ Ok (one_pin own chain)
book-made own chain room follows = rw (room, follows) refl

stored-again : (name pin : List ℕ) (first : Change) (later : List Change) → (length pin == 0) ≡ false → changes_in pin_fault.Form pin ≡ Ok (first ∷ later)
    → first.cert.name ≡ name → has_room [] (length (first ∷ later)) ≡ true → chained (first ∷ later) ≡ Ok tt
    → book_stored name pin ≡ Ok (one_pin first.cert.name (first ∷ later))
unfolding book_stored
stored-again name pin first later some read own room follows =
    rw (some, read, (bytes_eq-Decides first.cert.name name).1 own) (book-made first.cert.name (first ∷ later) room follows)

-- ---- the newest that is pinned

newest-is : (name : List ℕ) (first : Change) (later : List Change) → first.cert.name ≡ name
    → newest_pinned (one_pin first.cert.name (first ∷ later)) name ≡ Some (last_behind first.cert later)
newest-is name first later own = rw ((bytes_eq-Decides first.cert.name name).1 own) refl

-- where none is, nothing is stored
nothing-pinned : (name pin : List ℕ) (book : List Pin) → book_stored name pin ≡ Ok book → newest_pinned book name ≡ None → book ≡ []
nothing-pinned name pin book stored none = by (length pin == 0) refl
  where
    by : (b : Bool) → (length pin == 0) ≡ b → book ≡ []
    by true e = none-stored name pin book e stored
    by false e =
        let s = stored-parts name pin book e stored in
        let wrong : None ≡ Some (last_behind s.first.cert s.later) =
        sym none ∙ ap (λ (b : List Pin). newest_pinned b name) s.is ∙ newest-is name s.first s.later s.own in
        absurd cc

-- where one is, something is stored
something-pinned : (name pin : List ℕ) (book : List Pin) (newest : Certificate) → book_stored name pin ≡ Ok book → newest_pinned book name ≡ Some newest
    → (length pin == 0) ≡ false
something-pinned name pin book newest stored was = by (length pin == 0) refl
  where
    by : (b : Bool) → (length pin == 0) ≡ b → b ≡ false
    by false e = refl
    by true e =
        let wrong : Some newest ≡ None = sym was ∙ ap (λ (b : List Pin). newest_pinned b name) (none-stored name pin book e stored) in
        absurd cc

-- ---- a certificate that is pinned first

accepted-is : (asked : Asked) (bytes : List ℕ) (this : Certificate) (digest : List ℕ) (epoch : ℕ) (root : List ℕ) → AreBytes bytes
    → judgement asked bytes ≡ judged.Accepted this digest epoch root → IsCertificate this
accepted-is asked bytes this digest epoch root are is =
    let facts = (accepted asked bytes this digest epoch root).0 is in
    let c : IsConfirmation facts.confirmation =
    ((only_text confirmation_at confirmation_text IsConfirmation confirmation_again confirmation_pass bytes facts.confirmation are).0 facts.passes.is_read).0 in
    subst (λ b. IsBody b) facts.body c.body

first-is : (this : Certificate) → IsCertificate this → IsChange (first_change this)
first-is this is = record { cert = is; endorsements = (omega arith, tt); handover = tt; objection = tt; alone = tt }

first-chained : (this : Certificate) → chained (first_change this ∷ []) ≡ Ok tt
first-chained this = chain-made (first_change this) [] tt

first-read : (this : Certificate) → IsCertificate this → changes_in pin_fault.Form (first_text this) ≡ Ok (first_change this ∷ [])
first-read this is =
    run_again pin_fault.Form 4096 [] (first_change this ∷ []) (start_of (first_text this)) (sym (append-nil (first_text this)))
    (first-is this is, tt) (omega arith)

first-stored : (name : List ℕ) (this : Certificate) → IsCertificate this → this.name ≡ name
    → book_stored name (first_text this) ≡ Ok (one_pin this.name (first_change this ∷ []))
first-stored name this is own =
    stored-again name (first_text this) (first_change this) [] (some-text (first_change this)) (first-read this is) own
    (le-leb (0 + 1) 4096 (omega arith)) (first-chained this)

-- ---- links that are put behind

room-for : (keys : Directory) (book : List Pin) (newest this : Certificate) (links : List Change) (count : ℕ)
    → answer_to keys book (Some newest) this links ≡ pinned.Moved count → has_room book (length links) ≡ true
room-for keys book newest this links count h =
    by (is_this newest this) (nat_lt 64 (length links)) (has_room book (length links)) refl (length links == 0) h
  where
    by : (same long room : Bool) → has_room book (length links) ≡ room → (none : Bool)
        → (if same then pinned.Same else (if long then pinned.Long else (if room then
        (if none then pinned.NoLinks else moved_to this (length links) (linked keys 0 newest links)) else pinned.Full))) ≡ pinned.Moved count
        → has_room book (length links) ≡ true
    by true long room e none h = absurd cc
    by false true room e none h = absurd cc
    by false false false e none h = absurd cc
    by false false true e none h = e

-- so many changes of one pin and of links may be kept
few-enough : (name : List ℕ) (chain links : List Change) → has_room (one_pin name chain) (length links) ≡ true → length (chain ++ links) ≤ 4096
few-enough name chain links h =
    omega (arith, leb-true (length chain + 0 + length links) 4096 h, length-append chain links)

both-read : (wrong : PinFault) (pin links : List ℕ) (chain changes : List Change) → AreBytes pin → AreBytes links
    → changes_in pin_fault.Form pin ≡ Ok chain → changes_in wrong links ≡ Ok changes → length (chain ++ changes) ≤ 4096
    → changes_in pin_fault.Form (pin ++ links) ≡ Ok (chain ++ changes)
both-read wrong pin links chain changes are_pin are_links read_pin read_links few =
    let a = run_spelled pin_fault.Form 4096 [] (start_of pin) chain are_pin read_pin in
    let b = run_spelled wrong 4096 [] (start_of links) changes are_links read_links in
    let same : a.changes ++ b.changes ≡ chain ++ changes =
    ap (λ (l : List Change). l ++ b.changes) (sym a.all_are) ∙ ap (λ (l : List Change). chain ++ l) (sym b.all_are) in
    let ahead : pin ++ links ≡ flat_map change_text (a.changes ++ b.changes) =
    sym (flat_map-append change_text a.changes b.changes ∙ ap (λ (t : List ℕ). t ++ flat_map change_text b.changes) a.spelled
    ∙ ap (λ (t : List ℕ). pin ++ t) b.spelled) in
    run_again pin_fault.Form 4096 [] (a.changes ++ b.changes) (start_of (pin ++ links)) ahead (both-all IsChange a.changes b.changes a.each b.each)
    (subst (λ (l : List Change). length l ≤ 4096) (sym same) few)
    ∙ ap Ok same

links-behind : (name : List ℕ) (chain links : List Change) (own : List ℕ) → own ≡ name → with_links (one_pin own chain) name links ≡ one_pin own (chain ++ links)
unfolding with_links
links-behind name chain links own is = rw ((bytes_eq-Decides own name).1 is) refl

moved-stored : (keys : Directory) (name pin links : List ℕ) (book : List Pin) (changes : List Change) (newest : Certificate) → AreBytes pin → AreBytes links
    → Parts name pin book → (length pin == 0) ≡ false → changes_in pin_fault.Links links ≡ Ok changes → newest_pinned book name ≡ Some newest
    → AllFollow newest changes → has_room book (length changes) ≡ true
    → book_stored name (pin ++ links) ≡ Ok (with_links book name changes)
moved-stored keys name pin links book changes newest are_pin are_links s some read was follows room =
    let chain : List Change = s.first ∷ s.later in
    let here : has_room (one_pin s.first.cert.name chain) (length changes) ≡ true =
    subst (λ (b : List Pin). has_room b (length changes) ≡ true) s.is room in
    let few = few-enough s.first.cert.name chain changes here in
    let last : newest ≡ last_behind s.first.cert s.later =
    same_Some newest (last_behind s.first.cert s.later)
    (sym was ∙ ap (λ (b : List Pin). newest_pinned b name) s.is ∙ newest-is name s.first s.later s.own) in
    let all = follow-on s.first.cert s.later changes (chain-follows s.first s.later s.follows)
    (subst (λ (c : Certificate). AllFollow c changes) last follows) in
    stored-again name (pin ++ links) s.first (s.later ++ changes) (still-some pin links some)
    (both-read pin_fault.Links pin links chain changes are_pin are_links s.read read few) s.own
    (le-leb (0 + length (chain ++ changes)) 4096 (omega (arith, few))) (chain-made s.first (s.later ++ changes) all)
    ∙ ap Ok (sym (ap (λ (b : List Pin). with_links b name changes) s.is ∙ links-behind name chain changes s.first.cert.name s.own))

-- ---- a call

never-moved : (room : Bool) (count : ℕ) → (if room then pinned.First else pinned.Full) ≡ pinned.Moved count → ⊥
never-moved true count h = cc
never-moved false count h = cc

never-first : (keys : Directory) (book : List Pin) (newest this : Certificate) (links : List Change) → answer_to keys book (Some newest) this links ≡ pinned.First → ⊥
never-first keys book newest this links h =
    by (is_this newest this) (nat_lt 64 (length links)) (has_room book (length links)) (length links == 0) (linked keys 0 newest links) h
  where
    ended : (same : Bool) → (if same then pinned.Moved (length links) else pinned.WrongEnd) ≡ pinned.First → ⊥
    ended true h = cc
    ended false h = cc

    by : (same long room none : Bool) (r : Result Certificate (ℕ × LinkFault)) → (if same then pinned.Same else (if long then pinned.Long else (if room then
        (if none then pinned.NoLinks else moved_to this (length links) r) else pinned.Full))) ≡ pinned.First → ⊥
    by true long room none r h = cc
    by false true room none r h = cc
    by false false false none r h = cc
    by false false true true r h = cc
    by false false true false (Ok last) h = ended (is_this last this) h
    by false false true false (Err f) h = cc

first-kept : (asked : Asked) (confirmation pin links : List ℕ) (book : List Pin) (changes : List Change) (this : Certificate) (digest : List ℕ) (epoch : ℕ) (root : List ℕ)
    → AreBytes confirmation → book_stored asked.name pin ≡ Ok book → judgement asked confirmation ≡ judged.Accepted this digest epoch root
    → (newest : Option Certificate) → newest_pinned book asked.name ≡ newest → answer_to asked.keys book newest this changes ≡ pinned.First
    → book_stored asked.name (take (length (first_text this)) (at_front (first_text this))) ≡ Ok (with_pin book this.name (first_change this ∷ []))
first-kept asked confirmation pin links book changes this digest epoch root are stored is (Some newest) was h =
    absurd (never-first asked.keys book newest this changes h)
first-kept asked confirmation pin links book changes this digest epoch root are stored is None was h =
    let text : List ℕ = first_text this in
    let own = own-name asked confirmation this digest epoch root is in
    let none = nothing-pinned asked.name pin book stored was in
    ap (λ (t : List ℕ). book_stored asked.name t) (take-append_seam text (drop (length text) (replicate 412 0)))
    ∙ first-stored asked.name this (accepted-is asked confirmation this digest epoch root are is) own
    ∙ ap (λ (b : List Pin). Ok (with_pin b this.name (first_change this ∷ []))) (sym none)

moved-kept : (asked : Asked) (confirmation pin links : List ℕ) (book : List Pin) (changes : List Change) (this : Certificate) (digest : List ℕ) (epoch : ℕ) (root : List ℕ) (count : ℕ)
    → AreBytes pin → AreBytes links → book_stored asked.name pin ≡ Ok book → changes_in pin_fault.Links links ≡ Ok changes
    → judgement asked confirmation ≡ judged.Accepted this digest epoch root
    → answer_to asked.keys book (newest_pinned book asked.name) this changes ≡ pinned.Moved count
    → book_stored asked.name (pin ++ links) ≡ Ok (with_links book asked.name changes)
moved-kept asked confirmation pin links book changes this digest epoch root count are_pin are_links stored read is h =
    let later : List Pin = with_links book asked.name changes in
    let pair : pinned_by book asked confirmation changes ≡ (pinned.Moved count, later) =
    ap (λ (j : Judgement). pinned_on j book asked changes) is ∙ ap (λ (a : Pinned). (a, kept_with this book asked.name changes a)) h in
    let m = moved asked confirmation book changes count later pair in
    let some = something-pinned asked.name pin book m.newest stored m.was in
    let answer : answer_to asked.keys book (Some m.newest) this changes ≡ pinned.Moved count =
    ap (λ (o : Option Certificate). answer_to asked.keys book o this changes) (sym m.was) ∙ h in
    moved-stored asked.keys asked.name pin links book changes m.newest are_pin are_links (stored-parts asked.name pin book some stored) some read m.was
    (linked-follows asked.keys m.newest changes m.linked) (room-for asked.keys book m.newest this changes count answer)

pub kept_pin : (asked : Asked) (confirmation pin links : List ℕ) (book : List Pin) (changes : List Change)
    → AreBytes confirmation → AreBytes pin → AreBytes links
    → book_stored asked.name pin ≡ Ok book → changes_in pin_fault.Links links ≡ Ok changes
    → book_stored asked.name (keeping_pin pin links (following (pinned_by book asked confirmation changes).0 (judgement asked confirmation)))
    ≡ Ok (pinned_by book asked confirmation changes).1
kept_pin asked confirmation pin links book changes are are_pin are_links stored read = on (judgement asked confirmation) refl
  where
    absent : (b : Bool) (epoch : ℕ) (root : List ℕ)
        → book_stored asked.name (keeping_pin pin links (following (if b then pinned.Gone else pinned.Absent) (judged.Absent epoch root))) ≡ Ok book
    absent true epoch root = stored
    absent false epoch root = stored

    answered : (this : Certificate) (digest : List ℕ) (epoch : ℕ) (root : List ℕ) → judgement asked confirmation ≡ judged.Accepted this digest epoch root
        → (a : Pinned) → answer_to asked.keys book (newest_pinned book asked.name) this changes ≡ a
        → book_stored asked.name (keeping_pin pin links (following a (judged.Accepted this digest epoch root)))
        ≡ Ok (kept_with this book asked.name changes a)
    answered this digest epoch root is (pinned.Refused k) h = stored
    answered this digest epoch root is pinned.Gone h = stored
    answered this digest epoch root is pinned.Absent h = stored
    answered this digest epoch root is pinned.Same h = stored
    answered this digest epoch root is pinned.Long h = stored
    answered this digest epoch root is pinned.Full h = stored
    answered this digest epoch root is pinned.First h =
        first-kept asked confirmation pin links book changes this digest epoch root are stored is (newest_pinned book asked.name) refl h
    answered this digest epoch root is pinned.NoLinks h = stored
    answered this digest epoch root is (pinned.Link place (link_fault.Endorsement a)) h = stored
    answered this digest epoch root is (pinned.Link place (link_fault.Policy r)) h = stored
    answered this digest epoch root is pinned.WrongEnd h = stored
    answered this digest epoch root is (pinned.Moved count) h =
        moved-kept asked confirmation pin links book changes this digest epoch root count are_pin are_links stored read is h

    on : (j : Judgement) → judgement asked confirmation ≡ j
        → book_stored asked.name (keeping_pin pin links (following (pinned_on j book asked changes).0 j)) ≡ Ok (pinned_on j book asked changes).1
    on (judged.Refused k) is = stored
    on (judged.Absent epoch root) is = absent (is_some (pinned_chain book asked.name)) epoch root
    on (judged.Accepted this digest epoch root) is =
        answered this digest epoch root is (answer_to asked.keys book (newest_pinned book asked.name) this changes) refl
