-- The text of a book, entry by entry.
use Rattle.std.proofs.Common.{◌≡◌, ℕ, ◌+◌, ◌<◌, List, [], ◌∷◌, ◌++◌, length, take, drop, get_or, refl, sym, ◌∙◌, ap, subst, append_assoc, append-nil, arith, Option}
use Rattle.std.specs.Int.{w16, w32, w64, to_be_bytes}
use Rattle.std.specs.Prelude.{IfSome, slice_get}
use Rattle.std.proofs.lemmas.List.{length-take-le, take_more}
use Rattle.std.proofs.lemmas.Option.{slice_get_read}
use Rattle.ar_bytes.specs.RoundTrip.{number_text}
use Rattle.key_roll.specs.Book.{RollBook}
use Rattle.key_roll.specs.Entry.{leaf_of}
use Rattle.key_roll.specs.declared.signed.SignedText.{SignedText}
use Rattle.log_restart.specs.Books.{entries_from, entry_text}

-- the two lowest bytes of a length are those of its number in two bytes
pub low_bytes : (text bytes : List ℕ) → bytes ≡ to_be_bytes w64 (length text) → take 2 (drop 6 bytes) ≡ number_text w16 (length text)
unfolding number_text
low_bytes text bytes is = ap (λ (l : List ℕ). take 2 (drop 6 l)) is

-- what is put behind others for one entry
pub entry_put : (out one two three four : List ℕ) (generation leaf : ℕ) (len text : List ℕ) → len ≡ number_text w16 (length text)
    → one ≡ out ++ number_text w32 generation → two ≡ one ++ number_text w32 leaf → three ≡ two ++ len → four ≡ three ++ text
    → four ≡ out ++ entry_text generation leaf text
entry_put out one two three four generation leaf len text is a b c d =
    d ∙ ap (λ (l : List ℕ). l ++ text) (c ∙ ap (λ (l : List ℕ). two ++ l) is ∙ ap (λ (l : List ℕ). l ++ number_text w16 (length text)) (b ∙ ap (λ (l : List ℕ). l ++ number_text w32 leaf) a))
    ∙ append_assoc ((out ++ number_text w32 generation) ++ number_text w32 leaf) (number_text w16 (length text)) text
    ∙ append_assoc (out ++ number_text w32 generation) (number_text w32 leaf) (number_text w16 (length text) ++ text)
    ∙ append_assoc out (number_text w32 generation) (number_text w32 leaf ++ (number_text w16 (length text) ++ text))

abbrev text_at : RollBook → ℕ → SignedText → List ℕ
text_at book place s = entry_text s.generation (leaf_of book place s) s.text

entries-push : (book : RollBook) (place : ℕ) (list : List SignedText) (s : SignedText)
    → entries_from book place (list ++ s ∷ []) ≡ entries_from book place list ++ text_at book (place + length list) s
entries-push book place [] s =
    append-nil (text_at book place s) ∙ ap (λ (n : ℕ). text_at book n s) (omega arith)
entries-push book place (e ∷ list) s =
    ap (λ (l : List ℕ). text_at book place e ++ l)
    (entries-push book (place + 1) list s ∙ ap (λ (n : ℕ). entries_from book (place + 1) list ++ text_at book n s) (omega arith))
    ∙ sym (append_assoc (text_at book place e) (entries_from book (place + 1) list) (text_at book (place + length (e ∷ list)) s))

-- the leaf of the entry at a place
pub leaf_is : (book : RollBook) (place : ℕ) (s : SignedText) (leaf : ℕ) → place < length book.list → s ≡ get_or book.list place s
    → IfSome (slice_get book.list place) (λ e. leaf ≡ leaf_of book place e) → leaf ≡ leaf_of book place s
leaf_is book place s leaf within is told =
    subst (λ (o : Option SignedText). IfSome o (λ e. leaf ≡ leaf_of book place e)) (slice_get_read book.list (length book.list) place s refl within is) told

-- one entry more
pub entries_more : (book : RollBook) (list : List SignedText) (i : ℕ) (s : SignedText) (out new : List ℕ) (leaf : ℕ) (text : List ℕ) → i < length list → s ≡ get_or list i s
    → leaf ≡ leaf_of book i s → text ≡ s.text → out ≡ entries_from book 0 (take i list) → new ≡ out ++ entry_text s.generation leaf text
    → new ≡ entries_from book 0 (take (i + 1) list)
entries_more book list i s out new leaf text within is leaf_same text_same so_far put =
    let long : length (take i list) ≡ i = length-take-le i list (omega (arith, within)) in
    put ∙ ap (λ (l : List ℕ). l ++ entry_text s.generation leaf text) so_far
    ∙ ap (λ (t : List ℕ). entries_from book 0 (take i list) ++ entry_text s.generation leaf t) text_same
    ∙ ap (λ (n : ℕ). entries_from book 0 (take i list) ++ entry_text s.generation n s.text) leaf_same
    ∙ ap (λ (n : ℕ). entries_from book 0 (take i list) ++ text_at book n s) (omega (arith, long))
    ∙ sym (entries-push book 0 (take i list) s)
    ∙ ap (λ (l : List SignedText). entries_from book 0 l) (sym (take_more list i s within ∙ ap (λ (x : SignedText). take i list ++ x ∷ []) (sym is)))
