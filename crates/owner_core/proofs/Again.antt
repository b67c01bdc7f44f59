-- What was signed is signed again as the same bytes.
use Rattle.std.proofs.Common.{◌≡◌, ℕ, List, ◌++◌, Result, Ok, Err, refl, ap, sym, ◌∙◌}
use Rattle.sign_book.specs.Book.{Book, IsSignBook}
use Rattle.sign_book.specs.Entry.{after_entry, leaf_of}
use Rattle.ar_statement.specs.declared.fault.BookFault.{BookFault}
use Rattle.ar_statement.specs.Claims.{Claim, text_of}
use Rattle.lms_tree.specs.Key.{signature_of}
use Rattle.owner_core.specs.declared.refusal.OwnerRefusal.{OwnerRefusal}
use Rattle.owner_core.specs.State.{Owner}
use Rattle.owner_core.specs.Signing.{after_signing, signed_by_owner, signed_at}

-- a book keeps the leaf of a text: what `a_statement_keeps_its_leaf` says
abbrev pub Keeps : Type 0
Keeps = (book later : Book) (more : List (List ℕ)) (text : List ℕ) (leaf : ℕ) → IsSignBook later → leaf_of book text ≡ Ok leaf
    → later.texts ≡ (after_entry book text).texts ++ more → (leaf_of later text ≡ Ok leaf) × (after_entry later text ≡ later)

-- what a row gives, where it gives
abbrev okay : List ℕ × Owner → Result (List ℕ × Owner) OwnerRefusal
okay p = Ok p

abbrev given_or : List ℕ × Owner → Result (List ℕ × Owner) OwnerRefusal → List ℕ × Owner
given_or other (Ok p) = p
given_or other (Err refusal) = other

-- the signature is again that of the leaf, and the owner stays
again : (after : Owner) (text bytes : List ℕ) (leaf : ℕ) → leaf_of after.book text ≡ Ok leaf → after_entry after.book text ≡ after.book
    → bytes ≡ signature_of after.key leaf text → signed_at after text (leaf_of after.book text) ≡ Ok (bytes, after)
again after text bytes leaf here stays are =
    ap (signed_at after text) here
    ∙ ap okay (ap (λ book. (signature_of after.key leaf text, record after { book = book })) stays ∙ ap (λ (b : List ℕ). (b, after)) (sym are))

pub handed : Keeps → (me later after : Owner) (more : List (List ℕ)) (claim : Claim) (bytes : List ℕ) → IsSignBook after.book → after.key ≡ me.key
    → signed_by_owner me claim ≡ Ok (bytes, later) → after.book.texts ≡ later.book.texts ++ more → signed_by_owner after claim ≡ Ok (bytes, after)
handed keeps me later after more claim bytes sound key e grown = at (leaf_of me.book (text_of claim)) refl where
  at : (answer : Result ℕ BookFault) → leaf_of me.book (text_of claim) ≡ answer → signed_by_owner after claim ≡ Ok (bytes, after)
  at (Err fault) is =
      let no : signed_at me (text_of claim) (Err fault) ≡ Ok (bytes, later) = sym (ap (signed_at me (text_of claim)) is) ∙ e in
      cc
  at (Ok leaf) is =
      let text : List ℕ = text_of claim in
      let was : signed_at me text (Ok leaf) ≡ Ok (bytes, later) = sym (ap (signed_at me text) is) ∙ e in
      let pair : (signature_of me.key leaf text, after_signing me text) ≡ (bytes, later) = ap (given_or (bytes, later)) was in
      let are : bytes ≡ signature_of me.key leaf text = sym (ap (λ (p : List ℕ × Owner). p.0) pair) in
      let then : later ≡ after_signing me text = sym (ap (λ (p : List ℕ × Owner). p.1) pair) in
      let texts : later.book.texts ≡ (after_entry me.book text).texts = ap (λ (o : Owner). o.book.texts) then in
      let there : after.book.texts ≡ (after_entry me.book text).texts ++ more = grown ∙ ap (λ ts. ts ++ more) texts in
      let both : (leaf_of after.book text ≡ Ok leaf) × (after_entry after.book text ≡ after.book) = keeps me.book after.book more text leaf sound is there in
      again after text bytes leaf both.0 both.1 (are ∙ ap (λ k. signature_of k leaf text) (sym key))
