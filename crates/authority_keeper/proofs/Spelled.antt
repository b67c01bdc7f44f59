-- The text of an input says it, and is the only one that does.
use Rattle.std.proofs.Common.{◌≡◌, ◌∙◌, ap, refl, subst, sym, ℕ, suc, ◌≤◌, List, [], ◌∷◌, ◌++◌, length, take, drop, Bool, true, false, cond, eqb, is_none, None, Some}
use Rattle.std.specs.Option.{option_map}
use Rattle.std.proofs.lemmas.Bool.{eqb-true}
use Rattle.std.proofs.lemmas.List.{drop_all, drop_at, take-append-drop, take_at}
use Rattle.std.proofs.lemmas.Option.{same_Some}
use Rattle.ar_base.proofs.Shown.{mapped}
use Rattle.ar_base.specs.Bytes.{AreBytes}
use Rattle.ar_names.specs.Names.{IsName, first_fault_of, is_name, is_open}
use Rattle.lms_tree.proofs.KeyLemmas.{key_of_text-key_text, key_text-key_of_text}
use Rattle.lms_tree.specs.PublicKey.{key_of_text}
use Rattle.authority_keeper.specs.Inputs.{Input, IsWhole, forgets, input_in, input_of_kind, input_text, key_len, learns, lesson_in, retired_in, retires, rolled_in, rolls, takes}

-- ---- what a text says

lesson_again : (lesson : List ℕ → List ℕ → Input) (name key : List ℕ) → length key ≡ key_len → IsName name → lesson_in lesson (key ++ name) ≡ Some (lesson name key)
lesson_again lesson name key len is =
    let behind : drop key_len (key ++ name) ≡ name = drop_at key name key_len len in
    let front : take key_len (key ++ name) ≡ key = take_at key name key_len len in
    let test : is_name name ≡ true = ap is_none is in
    rw (behind, front, test) refl

pub says_it : (input : Input) → IsWhole input → input_in (input_text input) ≡ Some input
says_it (takes bytes) whole = refl
says_it (rolls key) whole = ap (λ o. option_map rolls o) (key_of_text-key_text key whole)
says_it (learns name key) whole = lesson_again learns name key whole.0 whole.1
says_it (forgets name key) whole = lesson_again forgets name key whole.0 whole.1
says_it retires whole = refl

-- ---- which text says it

-- behind its kind a text is the input's
abbrev IsBehind : ℕ → List ℕ → Input → Type 0
IsBehind kind rest input = kind ∷ rest ≡ input_text input

of-roll : (rest : List ℕ) (input : Input) → AreBytes rest → rolled_in rest ≡ Some input → IsBehind 2 rest input
of-roll rest input bytes e =
    let read = mapped rolls (key_of_text rest) input e in
    subst (IsBehind 2 rest) read.2 (ap (λ (r : List ℕ). 2 ∷ r) (sym (key_text-key_of_text rest read.0 bytes read.1).0))

of-lesson : (kind : ℕ) (lesson : List ℕ → List ℕ → Input) → ((name key : List ℕ) → input_text (lesson name key) ≡ kind ∷ (key ++ name)) → (rest : List ℕ) (input : Input)
    → lesson_in lesson rest ≡ Some input → IsBehind kind rest input
of-lesson kind lesson spelled rest input e = by (is_name (drop key_len rest)) e
  where
    by : (is : Bool) → cond is (Some (lesson (drop key_len rest) (take key_len rest))) None ≡ Some input → IsBehind kind rest input
    by false h = absurd cc
    by true h =
        subst (IsBehind kind rest) (same_Some (lesson (drop key_len rest) (take key_len rest)) input h)
        (ap (λ (r : List ℕ). kind ∷ r) (sym (take-append-drop key_len rest)) ∙ sym (spelled (drop key_len rest) (take key_len rest)))

of-retired : (rest : List ℕ) (input : Input) → retired_in rest ≡ Some input → IsBehind 5 rest input
of-retired [] input e = subst (IsBehind 5 []) (same_Some retires input e) refl
of-retired (byte ∷ rest) input e = absurd cc

of-kind : (kind : ℕ) (rest : List ℕ) (input : Input) → AreBytes rest → input_of_kind kind rest ≡ Some input → IsBehind kind rest input
of-kind kind rest input bytes e = one (eqb kind 1) refl e
  where
    at : (n : ℕ) → eqb kind n ≡ true → IsBehind n rest input → IsBehind kind rest input
    at n is h = subst (λ (k : ℕ). IsBehind k rest input) (sym (eqb-true kind n is)) h

    five : (b : Bool) → eqb kind 5 ≡ b → cond b (retired_in rest) None ≡ Some input → IsBehind kind rest input
    five false is h = absurd cc
    five true is h = at 5 is (of-retired rest input h)

    four : (b : Bool) → eqb kind 4 ≡ b → cond b (lesson_in forgets rest) (cond (eqb kind 5) (retired_in rest) None) ≡ Some input → IsBehind kind rest input
    four false is h = five (eqb kind 5) refl h
    four true is h = at 4 is (of-lesson 4 forgets (λ name key. refl) rest input h)

    three : (b : Bool) → eqb kind 3 ≡ b → cond b (lesson_in learns rest) (cond (eqb kind 4) (lesson_in forgets rest) (cond (eqb kind 5) (retired_in rest) None)) ≡ Some input
        → IsBehind kind rest input
    three false is h = four (eqb kind 4) refl h
    three true is h = at 3 is (of-lesson 3 learns (λ name key. refl) rest input h)

    two : (b : Bool) → eqb kind 2 ≡ b
        → cond b (rolled_in rest) (cond (eqb kind 3) (lesson_in learns rest) (cond (eqb kind 4) (lesson_in forgets rest) (cond (eqb kind 5) (retired_in rest) None))) ≡ Some input
        → IsBehind kind rest input
    two false is h = three (eqb kind 3) refl h
    two true is h = at 2 is (of-roll rest input bytes h)

    one : (b : Bool) → eqb kind 1 ≡ b
        → cond b (Some (takes rest)) (cond (eqb kind 2) (rolled_in rest) (cond (eqb kind 3) (lesson_in learns rest)
        (cond (eqb kind 4) (lesson_in forgets rest) (cond (eqb kind 5) (retired_in rest) None)))) ≡ Some input
        → IsBehind kind rest input
    one false is h = two (eqb kind 2) refl h
    one true is h = at 1 is (subst (IsBehind 1 rest) (same_Some (takes rest) input h) refl)

pub one_text : (text : List ℕ) (input : Input) → AreBytes text → input_in text ≡ Some input → text ≡ input_text input
one_text [] input bytes e = absurd cc
one_text (kind ∷ rest) input bytes e = of-kind kind rest input (λ i. bytes (suc i)) e

-- ---- texts that are too short

-- no name is empty
no-name : is_name [] ≡ false
unfolding first_fault_of is_open
no-name = refl

-- what is shorter than a key says no lesson
pub too_short : (lesson : List ℕ → List ℕ → Input) (bytes : List ℕ) → length bytes ≤ key_len → lesson_in lesson bytes ≡ None
too_short lesson bytes short =
    let behind : drop key_len bytes ≡ [] = drop_all key_len bytes short in
    ap (λ (rest : List ℕ). cond (is_name rest) (Some (lesson rest (take key_len bytes))) None) behind ∙ rw no-name refl
