-- The directory of a party that is made has its first key, and no other of it.
use Rattle.std.proofs.Common.{◌≡◌, ℕ, Bool, true, false, if◌then◌else◌, ◌||◌, List, [], ◌∷◌, length, map, Option, Some, Result, Ok, Err, refl, sym, ap, ◌∙◌, arith}
use Rattle.std.proofs.lemmas.Bool.{lt-ltb}
use Rattle.std.proofs.lemmas.Slice.Eq.{bytes_eq-Decides}
use Rattle.std.specs.List.{list_any}
use Rattle.std.specs.Prelude.{slice_get}
use Rattle.std.specs.Str.{bytes_eq}
use Rattle.ar_base.proofs.Shown.{bind_ok}
use Rattle.ar_base.specs.Gives.{with_error}
use Rattle.ar_base.specs.Prefixes.{BeginsWith}
use Rattle.ar_statement.specs.Claims.{party}
use Rattle.ar_statement.specs.Ranges.{is_witness}
use Rattle.ar_statement.specs.declared.party.Role.{Role}
use Rattle.ar_statement.specs.declared.party.Role.TheVariants.{LogServer, Authority, Owner, Client}
use Rattle.lms_tree.specs.Key.{public_of}
use Rattle.lms_tree.proofs.KeyLemmas.{key_of_text-key_text}
use Rattle.lms_tree.specs.PublicKey.{HasWidths, key_of_text, key_text}
use Rattle.lms_tree.specs.declared.public_key.LmsPublic.{LmsPublic}
use Rattle.party_keys.specs.Directory.{Directory, keys_of}
use Rattle.arpki_party.proofs.LaterKeys.{any_at}
use Rattle.arpki_party.specs.FirstKeys.{begins_with, has_later, may_have, says_later}
use Rattle.arpki_party.specs.Made.{directory_said, directory_taken, key_taken, parts_taken}
use Rattle.arpki_party.specs.Marks.{mark_of}
use Rattle.arpki_party.specs.declared.not_opened.NotOpened.TheVariants as why
use Rattle.arpki_party.specs.declared.opening.Parts.{Parts}

-- where a test answers with a value, it was passed
passed : {T E : Type 0} (b : Bool) (x y : T) (e : E) → ◌≡◌ {A = Result T E} (if b then Ok x else Err e) (Ok y) → (b ≡ true) × (x ≡ y)
passed true x y e h = (refl, cc)
passed false x y e h = absurd cc

not-passed : {T E : Type 0} (b : Bool) (x y : T) (e : E) → ◌≡◌ {A = Result T E} (if b then Err e else Ok x) (Ok y) → (b ≡ false) × (x ≡ y)
not-passed true x y e h = absurd cc
not-passed false x y e h = (refl, cc)

-- of two tests that both fail none is passed
none-left : (a b : Bool) → (a || b) ≡ false → a ≡ true → ⊥
none-left true b h is = absurd cc
none-left false b h is = absurd cc

none-right : (a b : Bool) → (a || b) ≡ false → b ≡ true → ⊥
none-right true b h is = absurd cc
none-right false true h is = absurd cc
none-right false false h is = absurd cc

-- no party has a next key
none-later : (keys : Directory) (role : Role) (number : ℕ) → says_later keys ≡ false → has_later (keys_of keys (party role number)) ≡ false
none-later keys role number none = by role (has_later (keys_of keys (party role number))) refl
  where
    by : (role : Role) (b : Bool) → has_later (keys_of keys (party role number)) ≡ b → has_later (keys_of keys (party role number)) ≡ false
    by role false is = is
    by LogServer true is =
        absurd (none-left (list_any has_later keys.logs) (list_any has_later keys.authorities) none (any_at keys.logs number is))
    by Authority true is =
        absurd (none-right (list_any has_later keys.logs) (list_any has_later keys.authorities) none (any_at keys.authorities number is))
    by Owner true is = refl
    by Client true is = refl

-- a directory that is taken says no next key
taken-first : (text : List ℕ) (keys : Directory) → directory_taken text ≡ Ok keys → says_later keys ≡ false
taken-first text keys h =
    let said = bind_ok (with_error why.Line (directory_said text)) _ keys h in
    let none = not-passed (says_later said.0) said.0 keys why.Rolled said.2 in
    ap says_later (sym none.1) ∙ none.0

-- one key alone has this text
text-alone : (keys : List LmsPublic) (key : LmsPublic) → begins_with keys key ≡ true → has_later keys ≡ false → map key_text keys ≡ key_text key ∷ []
text-alone [] key h one = absurd cc
text-alone (first ∷ []) key h one = ap (λ (t : List ℕ). t ∷ []) ((bytes_eq-Decides (key_text first) (key_text key)).0 h)
text-alone (first ∷ next ∷ later) key h one =
    let more = lt-ltb 1 (length (first ∷ next ∷ later)) (omega arith) in
    absurd cc

-- and where it is that key, it is it alone
key-alone : (keys : List LmsPublic) (key : LmsPublic) → BeginsWith keys (key ∷ []) → has_later keys ≡ false → keys ≡ key ∷ []
key-alone keys key begins one = begins.1 ∙ ap (λ (ks : List LmsPublic). key ∷ ks) (no-more begins.0 (ap has_later (sym begins.1) ∙ one))
  where
    no-more : (rest : List LmsPublic) → has_later (key ∷ rest) ≡ false → rest ≡ []
    no-more [] h = refl
    no-more (next ∷ later) h =
        let more = lt-ltb 1 (length (key ∷ next ∷ later)) (omega arith) in
        absurd cc

-- keys of one text are one key
pub same_key : (one other : LmsPublic) → HasWidths one → HasWidths other → bytes_eq (key_text one) (key_text other) ≡ true → one ≡ other
same_key one other a b same =
    let text : key_text one ≡ key_text other = (bytes_eq-Decides (key_text one) (key_text other)).0 same in
    let read : ◌≡◌ {A = Option LmsPublic} (Some one) (Some other) = sym (key_of_text-key_text one a) ∙ ap key_of_text text ∙ key_of_text-key_text other b in
    cc

-- the key that is known first
pub begins_here : (keys : List LmsPublic) (known key : LmsPublic) → slice_get keys 0 ≡ Some known → known ≡ key → BeginsWith keys (key ∷ [])
begins_here [] known key h is = absurd cc
begins_here (first ∷ later) known key h is =
    let same : first ≡ key = cc in
    (later, ap (λ (k : LmsPublic). k ∷ later) same)

-- what parts are made of
record MadeOf (role : Role) (number : ℕ) (parts : Parts) : Type 0 where
  first : says_later parts.directory ≡ false
  may : may_have parts.directory (party role number) (public_of parts.key) ≡ true

made-of : (role : Role) (number : ℕ) (directory secret : List ℕ) (parts : Parts) → parts_taken role number directory secret ≡ Ok parts → MadeOf role number parts
made-of role number directory secret parts h =
    let keys = bind_ok (directory_taken directory) _ parts h in
    let key = bind_ok (key_taken role number secret) _ parts keys.2 in
    let here : Parts = record { number = number; directory = keys.0; key = key.0; mark = mark_of (party role number) (public_of key.0) directory } in
    let made = passed (may_have keys.0 (party role number) (public_of key.0)) here parts why.OtherKey key.2 in
    record {
      first = ap (λ (p : Parts). says_later p.directory) (sym made.1) ∙ taken-first directory keys.0 keys.1;
      may = ap (λ (p : Parts). may_have p.directory (party role number) (public_of p.key)) (sym made.1) ∙ made.0;
    }

-- the directory says the text of its first key, and no other
pub first_said : (role : Role) (number : ℕ) (directory secret : List ℕ) (parts : Parts) → is_witness role ≡ true → parts_taken role number directory secret ≡ Ok parts
    → map key_text (keys_of parts.directory (party role number)) ≡ key_text (public_of parts.key) ∷ []
first_said role number directory secret parts witness h =
    let m = made-of role number directory secret parts h in
    let keys = keys_of parts.directory (party role number) in
    let begins : begins_with keys (public_of parts.key) ≡ true =
    ap (λ (b : Bool). if b then begins_with keys (public_of parts.key) else true) (sym witness) ∙ m.may in
    text-alone keys (public_of parts.key) begins (none-later parts.directory role number m.first)

-- and where the directory begins with that key, it has it alone
pub first_alone : (role : Role) (number : ℕ) (text : List ℕ) (keys : Directory) (key : LmsPublic) → directory_taken text ≡ Ok keys
    → BeginsWith (keys_of keys (party role number)) (key ∷ []) → keys_of keys (party role number) ≡ key ∷ []
first_alone role number text keys key taken begins =
    key-alone (keys_of keys (party role number)) key begins (none-later keys role number (taken-first text keys taken))
