-- A file is read in one way.
use Rattle.std.proofs.Common.{◌≡◌, ◌≢◌, ℕ, ◌<◌, ◌≤◌, List, [], ◌∷◌, ◌++◌, length, refl, sym, ◌∙◌, ap, subst, arith, append_assoc, length-append}
use Rattle.std.proofs.lemmas.List.{append_cancel_left}
use Rattle.chained_journal.specs.Journal.{AreShort, HasNoRecord, IsShort, IsTornEnd, IsUnsure, Stands, chained, journal, link, open_gate, record_text, records, shut_gate, start}
use Rattle.chained_journal.specs.declared.title.Title.{Title}
use Rattle.chained_journal.proofs.Splits.{fronts, one_record, rests}

-- no whole record stands here behind an open gate
abbrev pub Ends : List ℕ → List ℕ → Type 0
Ends chain bytes = (text rest : List ℕ) → IsShort text → 8 ≤ length rest → bytes ≢ open_gate ++ (record_text chain text ++ rest)

pub record OneReading (ones others : List (List ℕ)) (behind back : List ℕ) : Type 0 where
  pub texts : ones ≡ others
  pub rest : behind ≡ back

pub behind-open : (a b : List ℕ) → open_gate ++ a ≡ open_gate ++ b → a ≡ b
behind-open a b is = append_cancel_left open_gate a b is

pub some_behind : (chain : List ℕ) (texts : List (List ℕ)) (rest : List ℕ) → 8 ≤ length rest → 8 ≤ length (records chain texts ++ rest)
some_behind chain texts rest some = omega (arith, length-append (records chain texts) rest)

pub more-parts : (chain text : List ℕ) (texts : List (List ℕ)) (rest : List ℕ)
    → records chain (text ∷ texts) ++ rest ≡ open_gate ++ (record_text chain text ++ (records (link chain text) texts ++ rest))
more-parts chain text texts rest =
    ap (λ (l : List ℕ). open_gate ++ l) (append_assoc (record_text chain text) (records (link chain text) texts) rest)

pub one_reading : (chain : List ℕ) (texts others : List (List ℕ)) (rest back : List ℕ) → AreShort texts → AreShort others → 8 ≤ length rest → 8 ≤ length back
    → Ends (chained chain texts) rest → Ends (chained chain others) back → records chain texts ++ rest ≡ records chain others ++ back → OneReading texts others rest back
one_reading chain [] [] rest back short fits some more ends stops is = record { texts = refl; rest = is }
one_reading chain [] (u ∷ us) rest back short fits some more ends stops is =
    absurd (ends u (records (link chain u) us ++ back) fits.0 (some_behind (link chain u) us back more) (is ∙ more-parts chain u us back))
one_reading chain (t ∷ ts) [] rest back short fits some more ends stops is =
    absurd (stops t (records (link chain t) ts ++ rest) short.0 (some_behind (link chain t) ts rest some) (sym is ∙ more-parts chain t ts rest))
one_reading chain (t ∷ ts) (u ∷ us) rest back short fits some more ends stops is =
    let tails : record_text chain t ++ (records (link chain t) ts ++ rest) ≡ record_text chain u ++ (records (link chain u) us ++ back) =
    behind-open _ _ (sym (more-parts chain t ts rest) ∙ is ∙ more-parts chain u us back) in
    let same = one_record chain t u (records (link chain t) ts ++ rest) (records (link chain u) us ++ back) short.0 fits.0 tails in
    let on : records (link chain t) ts ++ rest ≡ records (link chain t) us ++ back =
    same.rest ∙ ap (λ (x : List ℕ). records (link chain x) us ++ back) (sym same.text) in
    let stops_on : Ends (chained (link chain t) us) back = subst (λ (x : List ℕ). Ends (chained (link chain x) us) back) (sym same.text) stops in
    let later = one_reading (link chain t) ts us rest back short.1 fits.1 some more ends stops_on on in
    record { texts = ap (λ (x : List ℕ). x ∷ ts) same.text ∙ ap (λ (xs : List (List ℕ)). u ∷ xs) later.texts; rest = later.rest }

-- ---- what ends a reading

-- no open gate stands here
pub closed_ends : (chain bytes : List ℕ) → ((behind : List ℕ) → bytes ≢ open_gate ++ behind) → Ends chain bytes
closed_ends chain bytes not_open text rest short some is = not_open (record_text chain text ++ rest) is

pub shut_ends : (chain behind : List ℕ) → Ends chain (shut_gate ++ behind)
shut_ends chain behind text rest short some is = absurd cc

pub torn_ends : (chain behind : List ℕ) → HasNoRecord chain behind → Ends chain (open_gate ++ behind)
torn_ends chain behind none text rest short some is = none text rest short some (behind-open behind (record_text chain text ++ rest) is)

pub unsure_ends : (chain gate behind : List ℕ) → IsUnsure gate → Ends chain (gate ++ behind)
unsure_ends chain gate behind unsure text rest short some is =
    unsure.not_open (fronts gate open_gate behind (record_text chain text ++ rest) unsure.size is)

-- ---- a file stands for one list of texts

pub whole_gate : (behind : List ℕ) → 8 ≤ length (shut_gate ++ behind)
whole_gate behind = omega arith

-- the records of two journals in one file
pub in_journal : (title : Title) (texts others : List (List ℕ)) (rest back file : List ℕ) → file ≡ journal title texts rest → file ≡ journal title others back
    → records (start title) texts ++ rest ≡ records (start title) others ++ back
in_journal title texts others rest back file one other =
    append_cancel_left title.header (records (start title) texts ++ rest) (records (start title) others ++ back) (sym one ∙ other)

pub stands_once : (title : Title) (texts others : List (List ℕ)) (file : List ℕ) → Stands title texts file → Stands title others file → texts ≡ others
stands_once title texts others file one other =
    (one_reading (start title) texts others (shut_gate ++ one.behind) (shut_gate ++ other.behind) one.short other.short (whole_gate one.behind) (whole_gate other.behind)
    (shut_ends (chained (start title) texts) one.behind) (shut_ends (chained (start title) others) other.behind)
    (in_journal title texts others (shut_gate ++ one.behind) (shut_gate ++ other.behind) file one.is other.is)).texts

-- ---- a front is seen

-- Of a journal that ends with its shut gate no proper front stands for texts.
pub no_front : (title : Title) (texts others : List (List ℕ)) (front more : List ℕ) → AreShort texts → front ++ more ≡ journal title texts shut_gate → 0 < length more
    → ¬ Stands title others front
no_front title texts others front more short whole some stands =
    let again : front ++ more ≡ journal title others (shut_gate ++ (stands.behind ++ more)) =
    ap (λ (l : List ℕ). l ++ more) stands.is
    ∙ append_assoc title.header (records (start title) others ++ (shut_gate ++ stands.behind)) more
    ∙ ap (λ (l : List ℕ). title.header ++ l) (append_assoc (records (start title) others) (shut_gate ++ stands.behind) more) in
    let one = one_reading (start title) texts others shut_gate (shut_gate ++ (stands.behind ++ more)) short stands.short (whole_gate []) (whole_gate (stands.behind ++ more))
    (shut_ends (chained (start title) texts) []) (shut_ends (chained (start title) others) (stands.behind ++ more))
    (in_journal title texts others shut_gate (shut_gate ++ (stands.behind ++ more)) (front ++ more) whole again) in
    absurd (omega (arith, ap length one.rest, length-append stands.behind more, some))

-- ---- the one torn end

pub not_torn : (title : Title) (texts others : List (List ℕ)) (text file : List ℕ) → Stands title texts file → ¬ IsTornEnd title others text file
not_torn title texts others text file stands torn =
    let behind : List ℕ = record_text (chained (start title) others) text ++ shut_gate in
    let one = one_reading (start title) texts others (shut_gate ++ stands.behind) (torn.gate ++ behind) stands.short torn.short (whole_gate stands.behind)
    (omega (arith, torn.unsure.size, length-append torn.gate behind))
    (shut_ends (chained (start title) texts) stands.behind) (unsure_ends (chained (start title) others) torn.gate behind torn.unsure)
    (in_journal title texts others (shut_gate ++ stands.behind) (torn.gate ++ behind) file stands.is torn.is) in
    torn.unsure.not_shut (fronts torn.gate shut_gate behind stands.behind torn.unsure.size (sym one.rest))

pub one_torn_end : (title : Title) (texts others : List (List ℕ)) (text other file : List ℕ) → IsTornEnd title texts text file → IsTornEnd title others other file
    → (texts ≡ others) × (text ≡ other)
one_torn_end title texts others text other file torn again =
    let behind : List ℕ = record_text (chained (start title) texts) text ++ shut_gate in
    let back : List ℕ = record_text (chained (start title) others) other ++ shut_gate in
    let one = one_reading (start title) texts others (torn.gate ++ behind) (again.gate ++ back) torn.short again.short
    (omega (arith, torn.unsure.size, length-append torn.gate behind)) (omega (arith, again.unsure.size, length-append again.gate back))
    (unsure_ends (chained (start title) texts) torn.gate behind torn.unsure) (unsure_ends (chained (start title) others) again.gate back again.unsure)
    (in_journal title texts others (torn.gate ++ behind) (again.gate ++ back) file torn.is again.is) in
    let records_are : behind ≡ back = rests torn.gate again.gate behind back (torn.unsure.size ∙ sym again.unsure.size) one.rest in
    let same : behind ≡ record_text (chained (start title) texts) other ++ shut_gate =
    records_are ∙ ap (λ (ts : List (List ℕ)). record_text (chained (start title) ts) other ++ shut_gate) (sym one.texts) in
    (one.texts, (one_record (chained (start title) texts) text other shut_gate shut_gate torn.fits again.fits same).text)
