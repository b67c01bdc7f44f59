-- What an owner signs, and at which leaf.
use Rattle.std.specs.Prelude.{ℕ, List, Result, Ok, Err}
use Rattle.ar_statement.specs.Claims.{Claim, text_of}
use Rattle.lms_tree.specs.Key.{signature_of}
use Rattle.sign_book.specs.Entry.{after_entry, leaf_of}
use Rattle.ar_statement.specs.declared.fault.BookFault.{BookFault}
use Rattle.owner_core.specs.State.{Owner}
use Rattle.owner_core.specs.declared.refusal.OwnerRefusal.{OwnerRefusal}
use Rattle.owner_core.specs.declared.refusal.OwnerRefusal.TheVariants.{Spent}

-- the owner after its book gave a leaf to a text
abbrev pub after_signing : Owner → List ℕ → Owner
after_signing me text = record me { book = after_entry me.book text }

-- the signature at the leaf that the book gives to the text; none is left
abbrev pub signed_at : Owner → List ℕ → Result ℕ BookFault → Result (List ℕ × Owner) OwnerRefusal
signed_at me text (Ok leaf) = Ok (signature_of me.key leaf text, after_signing me text)
signed_at me text (Err fault) = Err Spent

-- The owner signs a statement: by the leaf that serves it, or by the next one where it has none yet.
abbrev pub signed_by_owner : Owner → Claim → Result (List ℕ × Owner) OwnerRefusal
signed_by_owner me claim = signed_at me (text_of claim) (leaf_of me.book (text_of claim))
