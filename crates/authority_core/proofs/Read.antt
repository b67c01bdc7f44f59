-- What an honest authority signed is told by its entries.
use Rattle.std.proofs.Common.{ℕ, List, Option, Some, None}
use Rattle.std.specs.Prelude.{Contains}
use Rattle.std.proofs.lemmas.List.Elements.{All-contains}
use Rattle.ar_statement.specs.Claims.{Claim, authority_party, confirmation_by, endorse, text_of}
use Rattle.ar_statement.specs.Ranges.{IsTextOf, IsValid}
use Rattle.ar_statement.proofs.OneText.{text_is}
use Rattle.key_roll.specs.Book.{texts_of}
use Rattle.ar_council.specs.Council.{Council}
use Rattle.authority_core.specs.Honest.{HasAsked, HasKept, IsOfHonestAuthority, ToldBy}
use Rattle.authority_core.specs.Record.{AuthorityRecord}

signed-told : (council : Council) (me : ℕ) (r : AuthorityRecord) (claim : Claim) → IsOfHonestAuthority council me r → IsValid claim → Contains (texts_of r.signed) (text_of claim)
    → ToldBy council me r.seen r.asked r.kept claim
signed-told council me r claim h valid there =
    text_is (ToldBy council me r.seen r.asked r.kept) claim valid.held
    (All-contains (IsTextOf (ToldBy council me r.seen r.asked r.kept)) (texts_of r.signed) (text_of claim) h.told there)

told-asked : (council : Council) (me : ℕ) (r : AuthorityRecord) (certificate : List ℕ) → ToldBy council me r.seen r.asked r.kept (endorse me certificate) → HasAsked r.asked certificate
unfolding ToldBy
told-asked council me r certificate t = t.1

told-kept : (council : Council) (me : ℕ) (r : AuthorityRecord) (epoch : ℕ) (name : List ℕ) (certificate : Option (List ℕ)) (root : List ℕ)
    → ToldBy council me r.seen r.asked r.kept (confirmation_by (authority_party me) epoch name certificate root) → HasKept council r.seen r.kept epoch name certificate root
unfolding ToldBy
told-kept council me r epoch name None root t = t.1
told-kept council me r epoch name (Some certificate) root t = t.1

pub endorsed-asked : (council : Council) (me : ℕ) (r : AuthorityRecord) (certificate : List ℕ) → IsOfHonestAuthority council me r → IsValid (endorse me certificate)
    → Contains (texts_of r.signed) (text_of (endorse me certificate)) → HasAsked r.asked certificate
endorsed-asked council me r certificate h valid there = told-asked council me r certificate (signed-told council me r (endorse me certificate) h valid there)

pub confirmed-kept : (council : Council) (me : ℕ) (r : AuthorityRecord) (epoch : ℕ) (name : List ℕ) (certificate : Option (List ℕ)) (root : List ℕ)
    → IsOfHonestAuthority council me r → IsValid (confirmation_by (authority_party me) epoch name certificate root)
    → Contains (texts_of r.signed) (text_of (confirmation_by (authority_party me) epoch name certificate root)) → HasKept council r.seen r.kept epoch name certificate root
confirmed-kept council me r epoch name certificate root h valid there =
    told-kept council me r epoch name certificate root (signed-told council me r (confirmation_by (authority_party me) epoch name certificate root) h valid there)
