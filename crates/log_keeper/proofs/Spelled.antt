-- The text of an input is the only one that says it.
use Rattle.std.proofs.Common.{◌≡◌, ap, refl, subst, sym, ℕ, suc, List, [], ◌∷◌, Bool, true, false, cond, eqb, Option, None, Some}
use Rattle.std.specs.Option.{option_map}
use Rattle.std.proofs.lemmas.Bool.{eqb-true}
use Rattle.std.proofs.lemmas.Option.{same_Some}
use Rattle.ar_base.proofs.Shown.{mapped}
use Rattle.ar_base.specs.Bytes.{AreBytes}
use Rattle.lms_tree.proofs.KeyLemmas.{key_text-key_of_text}
use Rattle.lms_tree.specs.PublicKey.{key_of_text}
use Rattle.log_core.specs.State.{Input, passes, proposes, rolls, takes}
use Rattle.log_journal.specs.Inputs.{alone, input_in, input_of_kind, input_text}

-- behind its kind a text is the input's
abbrev IsBehind : ℕ → List ℕ → Input → Type 0
IsBehind kind rest input = kind ∷ rest ≡ input_text input

of-alone : (kind : ℕ) (own : Input) → input_text own ≡ kind ∷ [] → (rest : List ℕ) (input : Input) → alone rest own ≡ Some input → IsBehind kind rest input
of-alone kind own spelled [] input e = subst (IsBehind kind []) (same_Some own input e) (sym spelled)
of-alone kind own spelled (byte ∷ rest) input e = absurd cc

abbrev roll-in : List ℕ → Option Input
roll-in rest = option_map rolls (key_of_text rest)

of-roll : (rest : List ℕ) (input : Input) → AreBytes rest → roll-in rest ≡ Some input → IsBehind 4 rest input
of-roll rest input bytes e =
    let read = mapped rolls (key_of_text rest) input e in
    subst (IsBehind 4 rest) read.2 (ap (λ (r : List ℕ). 4 ∷ r) (sym (key_text-key_of_text rest read.0 bytes read.1).0))

of-kind : (kind : ℕ) (rest : List ℕ) (input : Input) → AreBytes rest → input_of_kind kind rest ≡ Some input → IsBehind kind rest input
of-kind kind rest input bytes e = one (eqb kind 1) refl e
  where
    at : (n : ℕ) → eqb kind n ≡ true → IsBehind n rest input → IsBehind kind rest input
    at n is h = subst (λ (k : ℕ). IsBehind k rest input) (sym (eqb-true kind n is)) h

    four : (b : Bool) → eqb kind 4 ≡ b → cond b (roll-in rest) None ≡ Some input → IsBehind kind rest input
    four false is h = absurd cc
    four true is h = at 4 is (of-roll rest input bytes h)

    three : (b : Bool) → eqb kind 3 ≡ b → cond b (alone rest passes) (cond (eqb kind 4) (roll-in rest) None) ≡ Some input → IsBehind kind rest input
    three false is h = four (eqb kind 4) refl h
    three true is h = at 3 is (of-alone 3 passes refl rest input h)

    two : (b : Bool) → eqb kind 2 ≡ b → cond b (alone rest proposes) (cond (eqb kind 3) (alone rest passes) (cond (eqb kind 4) (roll-in rest) None)) ≡ Some input → IsBehind kind rest input
    two false is h = three (eqb kind 3) refl h
    two true is h = at 2 is (of-alone 2 proposes refl rest input h)

    one : (b : Bool) → eqb kind 1 ≡ b
        → cond b (Some (takes rest)) (cond (eqb kind 2) (alone rest proposes) (cond (eqb kind 3) (alone rest passes) (cond (eqb kind 4) (roll-in rest) None))) ≡ Some input
        → IsBehind kind rest input
    one false is h = two (eqb kind 2) refl h
    one true is h = at 1 is (subst (IsBehind 1 rest) (same_Some (takes rest) input h) refl)

pub one_text : (text : List ℕ) (input : Input) → AreBytes text → input_in text ≡ Some input → text ≡ input_text input
one_text [] input bytes e = absurd cc
one_text (kind ∷ rest) input bytes e = of-kind kind rest input (λ i. bytes (suc i)) e
