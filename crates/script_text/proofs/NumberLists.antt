-- A list of numbers, as it is read from its first number on: those that were read and those that are read from
-- what is left are together those that are read.
use Rattle.std.proofs.Common.{◌≡◌, ℕ, ◌<◌, ◌≤◌, true, leb, List, [], ◌∷◌, ◌++◌, length, Option, Some, None, refl, sym, ap, ◌∙◌, arith, length-append, append-nil, append_assoc}
use Rattle.std.specs.Prelude.{option_map, nat_le}
use Rattle.std.proofs.lemmas.Bool.{le-leb, lt-leb}
use Rattle.std.proofs.lemmas.Map.Entries.{option_filter}
use Rattle.ar_lines.specs.Forms.{number_in}
use Rattle.script_text.specs.Forms.{each_of, list_of}
use Rattle.ar_lines.specs.Lines.{parts_of}

-- the numbers, before others
abbrev pub before : List ℕ → Option (List ℕ) → Option (List ℕ)
before numbers others = option_map (λ (more : List ℕ). numbers ++ more) others

more_before : (numbers : List ℕ) (n : ℕ) (others : Option (List ℕ)) → before numbers (option_map (λ (more : List ℕ). n ∷ more) others) ≡ before (numbers ++ (n ∷ [])) others
more_before numbers n (Some more) = ap Some (sym (append_assoc numbers (n ∷ []) more))
more_before numbers n None = refl

pub one_more : (most : ℕ) (numbers : List ℕ) (word : List ℕ) (words : List (List ℕ)) (n : ℕ) → number_in 0 most word ≡ Some n → before numbers (each_of (number_in 0 most) (word ∷ words)) ≡ before (numbers ++ (n ∷ [])) (each_of (number_in 0 most) words)
one_more most numbers word words n h = rw h (more_before numbers n (each_of (number_in 0 most) words))

pub one_fails : (most : ℕ) (numbers : List ℕ) (word : List ℕ) (words : List (List ℕ)) → number_in 0 most word ≡ None → before numbers (each_of (number_in 0 most) (word ∷ words)) ≡ None
one_fails most numbers word words h = rw h refl

-- at most so many
abbrev pub fitting : ℕ → Option (List ℕ) → Option (List ℕ)
fitting count numbers = option_filter (λ ns. nat_le (length ns) count) numbers

longer : (count : ℕ) (numbers more : List ℕ) (n : ℕ) → count ≤ length numbers → count < length ((numbers ++ (n ∷ [])) ++ more)
longer count numbers more n h = simp length-append (omega arith)

full_before : (count : ℕ) (numbers : List ℕ) (n : ℕ) (others : Option (List ℕ)) → count ≤ length numbers → fitting count (before (numbers ++ (n ∷ [])) others) ≡ None
full_before count numbers n None h = refl
full_before count numbers n (Some more) h =
    rw (lt-leb (length ((numbers ++ (n ∷ [])) ++ more)) count (longer count numbers more n h)) refl

pub one_too_many : (count most : ℕ) (numbers : List ℕ) (word : List ℕ) (words : List (List ℕ)) (n : ℕ) → number_in 0 most word ≡ Some n → count ≤ length numbers → fitting count (before numbers (each_of (number_in 0 most) (word ∷ words))) ≡ None
one_too_many count most numbers word words n h full = rw (one_more most numbers word words n h) (full_before count numbers n (each_of (number_in 0 most) words) full)

fits : (count : ℕ) (numbers : List ℕ) → length numbers ≤ count → leb (length numbers) count ≡ true
fits count numbers h = le-leb (length numbers) count h

-- the numbers of a word, where none is left
pub all_read : (count : ℕ) (numbers : List ℕ) → length numbers ≤ count → fitting count (before numbers (Some [])) ≡ Some numbers
all_read count numbers h = rw (append-nil numbers, fits count numbers h) refl

-- the numbers of a word
pub list_of-is : (count most : ℕ) (word : List ℕ) → list_of count most word ≡ fitting count (each_of (number_in 0 most) (parts_of 44 word))
unfolding list_of
list_of-is count most word = refl

-- ---- how a reading ends, where what was read stands before what is read of the parts that are left

-- a part is no number
pub number_fails : (count most : ℕ) (word numbers part : List ℕ) (left more : List (List ℕ)) → each_of (number_in 0 most) (parts_of 44 word) ≡ before numbers (each_of (number_in 0 most) left) → left ≡ part ∷ more → number_in 0 most part ≡ None → list_of count most word ≡ None
number_fails count most word numbers part left more all here none =
    list_of-is count most word
    ∙ ap (fitting count) (all ∙ ap (λ (l : List (List ℕ)). before numbers (each_of (number_in 0 most) l)) here ∙ one_fails most numbers part more none)

-- a number is one too many
pub number_over : (count most : ℕ) (word numbers part : List ℕ) (left more : List (List ℕ)) (n : ℕ) → each_of (number_in 0 most) (parts_of 44 word) ≡ before numbers (each_of (number_in 0 most) left) → left ≡ part ∷ more → number_in 0 most part ≡ Some n → count ≤ length numbers → list_of count most word ≡ None
number_over count most word numbers part left more n all here some full =
    list_of-is count most word
    ∙ ap (fitting count) (all ∙ ap (λ (l : List (List ℕ)). before numbers (each_of (number_in 0 most) l)) here)
    ∙ one_too_many count most numbers part more n some full

-- no part is left
pub numbers_end : (count most : ℕ) (word numbers : List ℕ) (left : List (List ℕ)) → each_of (number_in 0 most) (parts_of 44 word) ≡ before numbers (each_of (number_in 0 most) left) → left ≡ [] → length numbers ≤ count → list_of count most word ≡ Some numbers
numbers_end count most word numbers left all here fit =
    list_of-is count most word
    ∙ ap (fitting count) (all ∙ ap (λ (l : List (List ℕ)). before numbers (each_of (number_in 0 most) l)) here)
    ∙ all_read count numbers fit
