-- The claims of a text of a journal are those of the message that it has, whose bytes are some of the text's.
use Rattle.std.proofs.Common.{◌≡◌, ℕ, zero, suc, ◌<◌, List, [], ◌∷◌, length, get_or, refl, sym, subst, arith, Bool, true, false, cond, Option, Some, None}
use Rattle.std.specs.Prelude.{Contains, drop, flat_map, take, ◌==◌}
use Rattle.std.specs.Option.{option_map}
use Rattle.std.proofs.lemmas.List.Elements.{Contains-append_left, Contains-append_right}
use Rattle.ar_base.specs.Bytes.{AreBytes}
use Rattle.ar_claims.specs.Claimed.{claimed_in_bytes}
use Rattle.ar_names.specs.Names.{is_name}
use Rattle.authority_keeper.specs.Inputs as authority_inputs
use Rattle.lms_tree.specs.PublicKey.{key_of_text}
use Rattle.lms_tree.specs.declared.public_key.LmsPublic.{LmsPublic}
use Rattle.log_core.specs.Claimed.{claims_of}
use Rattle.log_core.specs.State as log_state
use Rattle.log_journal.specs.Inputs as log_inputs
use Rattle.party_keys.specs.Signers.{Claimed}
use Rattle.process_safety.specs.Unforged.{authority_bytes, authority_messages, log_bytes, log_messages}

-- ---- lists of lists

pub in-flat_map : {X Y : Type 0} (f : X → List Y) (xs : List X) (x : X) (y : Y) → Contains xs x → Contains (f x) y → Contains (flat_map f xs) y
in-flat_map {X} {Y} f xs x y there has = at xs there.0 there.1 there.2
  where
    at : (xs : List X) (k : ℕ) → k < length xs → get_or xs k x ≡ x → Contains (flat_map f xs) y
    at [] k less same = absurd (omega (arith, less))
    at (z ∷ more) zero less same = Contains-append_left (f z) (flat_map f more) y (subst (λ (w : X). Contains (f w) y) (sym same) has)
    at (z ∷ more) (suc k) less same = Contains-append_right (f z) (flat_map f more) y (at more k (omega (arith, less)) same)

nothing-there : {X : Type 0} (x : X) → Contains [] x → ⊥
nothing-there x has = omega (arith, has.1)

-- ---- logs

-- the claims of what a text says
abbrev pub claims_of_log : Option log_state.Input → List Claimed
claims_of_log None = []
claims_of_log (Some input) = claims_of input

-- they stand in messages of the journal
pub log-claims : (texts : List (List ℕ)) (text : List ℕ) (c : Claimed) → Contains texts text → Contains (claims_of_log (log_inputs.input_in text)) c
    → (bytes : List ℕ) × Contains (log_messages texts) bytes × Contains (claimed_in_bytes bytes) c
log-claims texts text c there has =
    let m = by (log_inputs.input_in text) has in
    (m.0, in-flat_map (λ (t : List ℕ). log_bytes (log_inputs.input_in t)) texts text m.0 there m.1, m.2)
  where
    by : (o : Option log_state.Input) → Contains (claims_of_log o) c → (bytes : List ℕ) × Contains (log_bytes o) bytes × Contains (claimed_in_bytes bytes) c
    by None has = absurd (nothing-there c has)
    by (Some (log_state.takes bytes)) has = (bytes, (0, omega arith, refl), has)
    by (Some log_state.proposes) has = absurd (nothing-there c has)
    by (Some log_state.passes) has = absurd (nothing-there c has)
    by (Some (log_state.rolls key)) has = absurd (nothing-there c has)

-- ---- authorities

abbrev pub claims_of_authority : Option authority_inputs.Input → List Claimed
claims_of_authority None = []
claims_of_authority (Some (authority_inputs.takes bytes)) = claimed_in_bytes bytes
claims_of_authority (Some (authority_inputs.rolls key)) = []
claims_of_authority (Some (authority_inputs.learns name key)) = []
claims_of_authority (Some (authority_inputs.forgets name key)) = []
claims_of_authority (Some authority_inputs.retires) = []

pub authority-claims : (texts : List (List ℕ)) (text : List ℕ) (c : Claimed) → Contains texts text → Contains (claims_of_authority (authority_inputs.input_in text)) c
    → (bytes : List ℕ) × Contains (authority_messages texts) bytes × Contains (claimed_in_bytes bytes) c
authority-claims texts text c there has =
    let m = by (authority_inputs.input_in text) has in
    (m.0, in-flat_map (λ (t : List ℕ). authority_bytes (authority_inputs.input_in t)) texts text m.0 there m.1, m.2)
  where
    by : (o : Option authority_inputs.Input) → Contains (claims_of_authority o) c → (bytes : List ℕ) × Contains (authority_bytes o) bytes × Contains (claimed_in_bytes bytes) c
    by None has = absurd (nothing-there c has)
    by (Some (authority_inputs.takes bytes)) has = (bytes, (0, omega arith, refl), has)
    by (Some (authority_inputs.rolls key)) has = absurd (nothing-there c has)
    by (Some (authority_inputs.learns name key)) has = absurd (nothing-there c has)
    by (Some (authority_inputs.forgets name key)) has = absurd (nothing-there c has)
    by (Some authority_inputs.retires) has = absurd (nothing-there c has)

-- ---- bytes

behind-kind : (kind : ℕ) (rest : List ℕ) → AreBytes (kind ∷ rest) → AreBytes rest
behind-kind kind rest are i = are (suc i)

-- the bytes of a message that a log's text has
pub log-message-bytes : (text bytes : List ℕ) → AreBytes text → log_inputs.input_in text ≡ Some (log_state.takes bytes) → AreBytes bytes
log-message-bytes [] bytes are is = absurd cc
log-message-bytes (kind ∷ rest) bytes are is = subst AreBytes (by (kind == 1) (kind == 2) (kind == 3) (kind == 4) is) (behind-kind kind rest are)
  where
    Is : Option log_state.Input → Type 0
    Is o = o ≡ Some (log_state.takes bytes)

    alone-not : (rest : List ℕ) (input : log_state.Input) → (Some input ≡ Some (log_state.takes bytes) → ⊥) → Is (log_inputs.alone rest input) → ⊥
    alone-not [] input not h = not h
    alone-not (byte ∷ more) input not h = cc

    rolls-not : (o : Option LmsPublic) → Is (option_map log_state.rolls o) → ⊥
    rolls-not None h = cc
    rolls-not (Some key) h = cc

    by : (b1 b2 b3 b4 : Bool)
        → Is (cond b1 (Some (log_state.takes rest)) (cond b2 (log_inputs.alone rest log_state.proposes) (cond b3 (log_inputs.alone rest log_state.passes) (cond b4 (option_map log_state.rolls (key_of_text rest)) None))))
        → rest ≡ bytes
    by true b2 b3 b4 h = cc
    by false true b3 b4 h = absurd (alone-not rest log_state.proposes (λ e. cc) h)
    by false false true b4 h = absurd (alone-not rest log_state.passes (λ e. cc) h)
    by false false false true h = absurd (rolls-not (key_of_text rest) h)
    by false false false false h = absurd cc

-- and that an authority's has
pub authority-message-bytes : (text bytes : List ℕ) → AreBytes text → authority_inputs.input_in text ≡ Some (authority_inputs.takes bytes) → AreBytes bytes
authority-message-bytes [] bytes are is = absurd cc
authority-message-bytes (kind ∷ rest) bytes are is = subst AreBytes (by (kind == 1) (kind == 2) (kind == 3) (kind == 4) (kind == 5) is) (behind-kind kind rest are)
  where
    Is : Option authority_inputs.Input → Type 0
    Is o = o ≡ Some (authority_inputs.takes bytes)

    lesson-not : (b : Bool) (input : authority_inputs.Input) → (Some input ≡ Some (authority_inputs.takes bytes) → ⊥) → Is (cond b (Some input) None) → ⊥
    lesson-not true input not h = not h
    lesson-not false input not h = cc

    rolls-not : (o : Option LmsPublic) → Is (option_map authority_inputs.rolls o) → ⊥
    rolls-not None h = cc
    rolls-not (Some key) h = cc

    retired-not : (rest : List ℕ) → Is (authority_inputs.retired_in rest) → ⊥
    retired-not [] h = cc
    retired-not (byte ∷ more) h = cc

    by : (b1 b2 b3 b4 b5 : Bool)
        → Is (cond b1 (Some (authority_inputs.takes rest)) (cond b2 (option_map authority_inputs.rolls (key_of_text rest)) (cond b3 (authority_inputs.lesson_in authority_inputs.learns rest)
        (cond b4 (authority_inputs.lesson_in authority_inputs.forgets rest) (cond b5 (authority_inputs.retired_in rest) None)))))
        → rest ≡ bytes
    by true b2 b3 b4 b5 h = cc
    by false true b3 b4 b5 h = absurd (rolls-not (key_of_text rest) h)
    by false false true b4 b5 h = absurd (lesson-not (is_name (drop 56 rest)) (authority_inputs.learns (drop 56 rest) (take 56 rest)) (λ e. cc) h)
    by false false false true b5 h = absurd (lesson-not (is_name (drop 56 rest)) (authority_inputs.forgets (drop 56 rest) (take 56 rest)) (λ e. cc) h)
    by false false false false true h = absurd (retired-not rest h)
    by false false false false false h = absurd cc
