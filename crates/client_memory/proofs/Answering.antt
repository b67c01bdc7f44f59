-- What holds where a certificate is pinned, and where links are taken.
use Rattle.std.proofs.Common.{◌≡◌, ◌≢◌, ℕ, ◌==◌, nat_lt, Bool, true, false, if◌then◌else◌, List, [], ◌∷◌, length, Option, Some, None, is_some, Result, Ok, Err, refl, sym, ap, ◌∙◌, subst}
use Rattle.std.proofs.lemmas.Slice.Eq.{bytes_eq-Decides}
use Rattle.ar_cert.specs.Certificate.{Certificate, certificate_text}
use Rattle.ar_cert.specs.Changes.{Change}
use Rattle.client_rule.specs.Meaning.{IsShown}
use Rattle.client_rule.specs.Rule.{Asked, judgement}
use Rattle.client_rule.specs.declared.judgement.Judgement.{Judgement}
use Rattle.client_rule.specs.declared.judgement.Judgement.TheVariants as judged
use Rattle.client_rule.proofs.Meanings.{accepted}
use Rattle.party_keys.specs.Directory.{Directory}
use Rattle.client_memory.specs.declared.answers.LinkFault.{LinkFault}
use Rattle.client_memory.specs.declared.answers.Pinned.{Pinned}
use Rattle.client_memory.specs.declared.answers.Pinned.TheVariants as pinned
use Rattle.client_memory.specs.Answers.{answer_to, ends_in, first_change, is_this, kept_with, moved_to, pinned_by, pinned_on}
use Rattle.client_memory.specs.Book.{Pin, has_room, last_behind, newest_pinned, pinned_chain, with_links, with_pin}
use Rattle.client_memory.specs.Links.{AllLinked, linked}
use Rattle.client_memory.specs.Meaning.{Moves, PinsFirst, Vouched}
use Rattle.client_memory.proofs.Books.{other-links, other-pin, own-links, own-pin}
use Rattle.client_memory.proofs.Chains.{all-linked}

-- the certificate that is accepted is of the name that was asked for
pub own-name : (asked : Asked) (bytes : List ℕ) (this : Certificate) (digest : List ℕ) (epoch : ℕ) (root : List ℕ)
    → judgement asked bytes ≡ judged.Accepted this digest epoch root → this.name ≡ asked.name
own-name asked bytes this digest epoch root h =
    let facts = (accepted asked bytes this digest epoch root).0 h in
    let c = facts.confirmation in
    let shown = subst (λ b. IsShown c.about b c.steps) facts.body facts.passes.holds.1.1.1.1.1.0 in
    shown.0 ∙ facts.passes.holds.0

-- ---- links

-- what the answer `Moved` tells
pub record Taken (keys : Directory) (newest this : Certificate) (links : List Change) (count : ℕ) : Type 0 where
  pub linked : AllLinked keys newest links
  pub ends : certificate_text (last_behind newest links) ≡ certificate_text this
  pub count_is : length links ≡ count

ended : (this last : Certificate) (n count : ℕ) → ends_in this n last ≡ pinned.Moved count
    → (certificate_text last ≡ certificate_text this) × (n ≡ count)
ended this last n count h = by (is_this last this) refl h
  where
    by : (b : Bool) → is_this last this ≡ b → (if b then pinned.Moved n else pinned.WrongEnd) ≡ pinned.Moved count
        → (certificate_text last ≡ certificate_text this) × (n ≡ count)
    by true e h =
        let same : n ≡ count = cc in
        ((bytes_eq-Decides (certificate_text last) (certificate_text this)).0 e, same)
    by false e h = absurd (cc)

taken-by : (keys : Directory) (newest this : Certificate) (links : List Change) (count : ℕ) (r : Result Certificate (ℕ × LinkFault))
    → linked keys 0 newest links ≡ r → moved_to this (length links) r ≡ pinned.Moved count → Taken keys newest this links count
taken-by keys newest this links count (Err f) e h = absurd (cc)
taken-by keys newest this links count (Ok last) e h =
    let all = all-linked keys 0 newest links last e in
    let end = ended this last (length links) count h in
    record { linked = all.0; ends = ap certificate_text all.1 ∙ end.0; count_is = end.1 }

pub moved-behind : (keys : Directory) (book : List Pin) (newest this : Certificate) (links : List Change) (count : ℕ)
    → answer_to keys book (Some newest) this links ≡ pinned.Moved count → Taken keys newest this links count
moved-behind keys book newest this links count h =
    by (is_this newest this) (nat_lt 64 (length links)) (has_room book (length links)) (length links == 0) h
  where
    by : (same long room none : Bool)
        → (if same then pinned.Same else (if long then pinned.Long else (if room then
        (if none then pinned.NoLinks else moved_to this (length links) (linked keys 0 newest links)) else pinned.Full))) ≡ pinned.Moved count
        → Taken keys newest this links count
    by true long room none h = absurd (cc)
    by false true room none h = absurd (cc)
    by false false false none h = absurd (cc)
    by false false true true h = absurd (cc)
    by false false true false h = taken-by keys newest this links count (linked keys 0 newest links) refl h

moved-new : (b : Bool) (count : ℕ) → (if b then pinned.First else pinned.Full) ≡ pinned.Moved count → ⊥
moved-new true count h = cc
moved-new false count h = cc

moved-absent : (b : Bool) (count : ℕ) → (if b then pinned.Gone else pinned.Absent) ≡ pinned.Moved count → ⊥
moved-absent true count h = cc
moved-absent false count h = cc

moved-accepted : (asked : Asked) (bytes : List ℕ) (book : List Pin) (links : List Change) (count : ℕ) (this : Certificate)
    → Vouched asked bytes this → (newest : Option Certificate) → newest_pinned book asked.name ≡ newest
    → answer_to asked.keys book newest this links ≡ pinned.Moved count
    → Moves asked bytes links count book (with_links book asked.name links)
moved-accepted asked bytes book links count this vouched None was h = absurd (moved-new (has_room book 1) count h)
moved-accepted asked bytes book links count this vouched (Some newest) was h =
    let t = moved-behind asked.keys book newest this links count h in
    record {
      this = this;
      vouched = vouched;
      newest = newest;
      was = was;
      linked = t.linked;
      ends = t.ends;
      count_is = t.count_is;
      kept = λ chain is. own-links book asked.name links chain is;
      others = λ other differ. other-links book asked.name other links differ;
    }

moved-on : (asked : Asked) (bytes : List ℕ) (book : List Pin) (links : List Change) (count : ℕ) (later : List Pin) (j : Judgement)
    → judgement asked bytes ≡ j → pinned_on j book asked links ≡ (pinned.Moved count, later) → Moves asked bytes links count book later
moved-on asked bytes book links count later (judged.Refused k) is h =
    let same : pinned.Refused k ≡ pinned.Moved count = ap (λ (p : Pinned × List Pin). p.0) h in
    absurd (cc)
moved-on asked bytes book links count later (judged.Absent epoch root) is h =
    absurd (moved-absent (is_some (pinned_chain book asked.name)) count (ap (λ (p : Pinned × List Pin). p.0) h))
moved-on asked bytes book links count later (judged.Accepted this digest epoch root) is h =
    let answer : answer_to asked.keys book (newest_pinned book asked.name) this links ≡ pinned.Moved count = ap (λ (p : Pinned × List Pin). p.0) h in
    let kept : with_links book asked.name links ≡ later = sym (ap (kept_with this book asked.name links) answer) ∙ ap (λ (p : Pinned × List Pin). p.1) h in
    let vouched : Vouched asked bytes this = record { digest = digest; epoch = epoch; root = root; accepted = is } in
    subst (Moves asked bytes links count book) kept (moved-accepted asked bytes book links count this vouched (newest_pinned book asked.name) refl answer)

pub moved : (asked : Asked) (bytes : List ℕ) (book : List Pin) (links : List Change) (count : ℕ) (later : List Pin)
    → pinned_by book asked bytes links ≡ (pinned.Moved count, later) → Moves asked bytes links count book later
moved asked bytes book links count later h = moved-on asked bytes book links count later (judgement asked bytes) refl h

-- ---- the first certificate

ended-first : (this last : Certificate) (n : ℕ) → ends_in this n last ≡ pinned.First → ⊥
ended-first this last n h = by (is_this last this) h
  where
    by : (b : Bool) → (if b then pinned.Moved n else pinned.WrongEnd) ≡ pinned.First → ⊥
    by true h = cc
    by false h = cc

taken-first : (this : Certificate) (n : ℕ) (r : Result Certificate (ℕ × LinkFault)) → moved_to this n r ≡ pinned.First → ⊥
taken-first this n (Err f) h = cc
taken-first this n (Ok last) h = ended-first this last n h

first-behind : (keys : Directory) (book : List Pin) (newest this : Certificate) (links : List Change)
    → answer_to keys book (Some newest) this links ≡ pinned.First → ⊥
first-behind keys book newest this links h =
    by (is_this newest this) (nat_lt 64 (length links)) (has_room book (length links)) (length links == 0) h
  where
    by : (same long room none : Bool)
        → (if same then pinned.Same else (if long then pinned.Long else (if room then
        (if none then pinned.NoLinks else moved_to this (length links) (linked keys 0 newest links)) else pinned.Full))) ≡ pinned.First
        → ⊥
    by true long room none h = cc
    by false true room none h = cc
    by false false false none h = cc
    by false false true true h = cc
    by false false true false h = taken-first this (length links) (linked keys 0 newest links) h

first-absent : (b : Bool) → (if b then pinned.Gone else pinned.Absent) ≡ pinned.First → ⊥
first-absent true h = cc
first-absent false h = cc

first-accepted : (asked : Asked) (bytes : List ℕ) (book : List Pin) (links : List Change) (this : Certificate)
    → Vouched asked bytes this → (newest : Option Certificate) → newest_pinned book asked.name ≡ newest
    → answer_to asked.keys book newest this links ≡ pinned.First
    → PinsFirst asked bytes book (with_pin book this.name (first_change this ∷ []))
first-accepted asked bytes book links this vouched (Some newest) was h = absurd (first-behind asked.keys book newest this links h)
first-accepted asked bytes book links this vouched None was h =
    let name = own-name asked bytes this vouched.digest vouched.epoch vouched.root vouched.accepted in
    let chain : List Change = first_change this ∷ [] in
    record {
      this = this;
      vouched = vouched;
      name = name;
      was = was;
      kept = λ none. subst (λ (n : List ℕ). pinned_chain (with_pin book n chain) asked.name ≡ Some chain) (sym name) (own-pin book asked.name chain none);
      others = λ other differ. subst (λ (n : List ℕ). pinned_chain (with_pin book n chain) other ≡ pinned_chain book other) (sym name) (other-pin book asked.name other chain differ);
    }

first-on : (asked : Asked) (bytes : List ℕ) (book : List Pin) (links : List Change) (later : List Pin) (j : Judgement)
    → judgement asked bytes ≡ j → pinned_on j book asked links ≡ (pinned.First, later) → PinsFirst asked bytes book later
first-on asked bytes book links later (judged.Refused k) is h =
    let same : pinned.Refused k ≡ pinned.First = ap (λ (p : Pinned × List Pin). p.0) h in
    absurd (cc)
first-on asked bytes book links later (judged.Absent epoch root) is h =
    absurd (first-absent (is_some (pinned_chain book asked.name)) (ap (λ (p : Pinned × List Pin). p.0) h))
first-on asked bytes book links later (judged.Accepted this digest epoch root) is h =
    let answer : answer_to asked.keys book (newest_pinned book asked.name) this links ≡ pinned.First = ap (λ (p : Pinned × List Pin). p.0) h in
    let kept : with_pin book this.name (first_change this ∷ []) ≡ later = sym (ap (kept_with this book asked.name links) answer) ∙ ap (λ (p : Pinned × List Pin). p.1) h in
    let vouched : Vouched asked bytes this = record { digest = digest; epoch = epoch; root = root; accepted = is } in
    subst (PinsFirst asked bytes book) kept (first-accepted asked bytes book links this vouched (newest_pinned book asked.name) refl answer)

pub first : (asked : Asked) (bytes : List ℕ) (book : List Pin) (links : List Change) (later : List Pin)
    → pinned_by book asked bytes links ≡ (pinned.First, later) → PinsFirst asked bytes book later
first asked bytes book links later h = first-on asked bytes book links later (judgement asked bytes) refl h

-- ---- all other answers

-- an answer that changes nothing
abbrev pub LeavesAll : Pinned → Type 0
LeavesAll answer = (answer ≡ pinned.First → ⊥) × ((count : ℕ) → answer ≡ pinned.Moved count → ⊥)

stays-with : (this : Certificate) (book : List Pin) (name : List ℕ) (links : List Change) (answer : Pinned) → LeavesAll answer
    → kept_with this book name links answer ≡ book
stays-with this book name links (pinned.Refused k) differ = refl
stays-with this book name links pinned.Gone differ = refl
stays-with this book name links pinned.Absent differ = refl
stays-with this book name links pinned.Same differ = refl
stays-with this book name links pinned.Long differ = refl
stays-with this book name links pinned.Full differ = refl
stays-with this book name links pinned.First differ = absurd (differ.0 refl)
stays-with this book name links pinned.NoLinks differ = refl
stays-with this book name links (pinned.Link place f) differ = refl
stays-with this book name links pinned.WrongEnd differ = refl
stays-with this book name links (pinned.Moved count) differ = absurd (differ.1 count refl)

stays-on : (asked : Asked) (book : List Pin) (links : List Change) (j : Judgement) → LeavesAll (pinned_on j book asked links).0
    → (pinned_on j book asked links).1 ≡ book
stays-on asked book links (judged.Refused k) differ = refl
stays-on asked book links (judged.Absent epoch root) differ = refl
stays-on asked book links (judged.Accepted this digest epoch root) differ = stays-with this book asked.name links (answer_to asked.keys book (newest_pinned book asked.name) this links) differ

pub stays : (asked : Asked) (bytes : List ℕ) (book : List Pin) (links : List Change)
    → ((pinned_by book asked bytes links).0 ≢ pinned.First) → ((count : ℕ) → (pinned_by book asked bytes links).0 ≢ pinned.Moved count)
    → (pinned_by book asked bytes links).1 ≡ book
stays asked bytes book links first moved = stays-on asked book links (judgement asked bytes) (first, moved)
