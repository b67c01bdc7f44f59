-- What an item shows that stands in a book where its signature says.
use Rattle.std.proofs.Common.{◌≡◌, ℕ, ◌<◌, ◌-◌, ◌==◌, List, length, refl, sym, ap, ◌∙◌, subst, true, Option, Some, None, Result, Ok, Err}
use Rattle.std.specs.Prelude.{All, Contains, slice_get}
use Rattle.std.proofs.lemmas.Bool.{and_parts, eqb-true}
use Rattle.std.proofs.lemmas.List.{length-map, get_or-map}
use Rattle.std.proofs.lemmas.List.Elements.{All-contains}
use Rattle.std.proofs.lemmas.Option.{get_or_from_slice_get, same_Some, slice_get_within}
use Rattle.ar_base.proofs.Shown.{ok_is}
use Rattle.ar_statement.specs.declared.party.Party.{Party}
use Rattle.ar_statement.specs.Claims.{Claim, roll, signer_of, text_of}
use Rattle.ar_statement.specs.Ranges.{IsTextOf, IsValid}
use Rattle.party_keys.specs.Directory.{Directory}
use Rattle.party_keys.specs.Signatures.{claim_in, verified}
use Rattle.party_keys.specs.declared.fault.VerifyFault.{VerifyFault}
use Rattle.party_keys.proofs.Claims.{one_claim}
use Rattle.key_roll.specs.Book.{IsRollBook, RollBook, texts_of}
use Rattle.key_roll.specs.Entry.{LeafServes}
use Rattle.key_roll.specs.Rolls.{is_roll, named_generation}
use Rattle.key_roll.specs.declared.signed.SignedText.{SignedText}
use Rattle.key_roll.proofs.Books.{is_roll-kind, leaf-roll, named-roll, one_text}
use Rattle.monitor.specs.declared.item.Item.{Item}
use Rattle.monitor.specs.Items.{Sworn, sworn_as, sworn_by, sworn_if, sworn_in}
use Rattle.monitor.specs.Rules.{are_rolls, have_one_leaf}
use Rattle.monitor.specs.Standing.{StandsAt}
use Rattle.monitor.proofs.Shown.{a-roll, both}

-- ---- what an item is that is evidence

-- its text says its claim, and its signature is that of the claim's signer
pub sworn-is : (keys : Directory) (i : Item) (s : Sworn) → sworn_in keys i ≡ Ok s
    → (claim : Claim) × (claim_in i.text ≡ Some claim) × (verified keys (signer_of claim) i.text i.signature ≡ Ok tt) × (s ≡ sworn_as i claim)
unfolding sworn_in
sworn-is keys i s e = by (claim_in i.text) refl e
  where
    by-verified : (claim : Claim) (v : Result (Unit {0}) VerifyFault) → sworn_if v i claim ≡ Ok s → (v ≡ Ok tt) × (s ≡ sworn_as i claim)
    by-verified claim (Ok u) is = (refl, sym (ok_is (sworn_as i claim) s is))
    by-verified claim (Err fault) is = absurd cc

    by : (o : Option Claim) → claim_in i.text ≡ o → sworn_by keys i o ≡ Ok s
        → (claim : Claim) × (claim_in i.text ≡ Some claim) × (verified keys (signer_of claim) i.text i.signature ≡ Ok tt) × (s ≡ sworn_as i claim)
    by None is e = absurd cc
    by (Some claim) is e =
        let v = by-verified claim (verified keys (signer_of claim) i.text i.signature) e in
        (claim, is, v.0, v.1)

pub sworn-says : (keys : Directory) (i : Item) (s : Sworn) → sworn_in keys i ≡ Ok s → claim_in s.text ≡ Some s.claim
sworn-says keys i s e =
    let is = sworn-is keys i s e in
    let same : s ≡ sworn_as i is.0 = is.3 in
    ap (λ (x : Sworn). claim_in x.text) same ∙ is.1 ∙ ap (λ (x : Sworn). Some x.claim) (sym same)

-- ---- what stands in a book

-- a text that a leaf serves is in the book
pub served : (book : RollBook) (g leaf : ℕ) (text : List ℕ) → LeafServes book g leaf text → Contains (texts_of book) text
served book g leaf text (place, s, facts) =
    let at : slice_get book.list place ≡ Some s = facts.0 in
    let within = slice_get_within book.list place s at in
    let same : length (texts_of book) ≡ length book.list = length-map book.list (λ (x : SignedText). x.text) in
    let there : Contains (texts_of book) s.text = (
      place,
      subst (λ n. place < n) (sym same) within,
      get_or-map (λ (x : SignedText). x.text) book.list place s s.text within ∙ ap (λ (x : SignedText). x.text) (get_or_from_slice_get book.list place s s at),
    ) in
    subst (Contains (texts_of book)) facts.2 there

-- what holds of the statement of each text of a book holds of what a text says that stands in it
pub stood : (P : Claim → Type 0) (book : RollBook) (text : List ℕ) (claim : Claim) (g leaf : ℕ) → All (IsTextOf P) (texts_of book) → LeafServes book g leaf text → claim_in text ≡ Some claim
    → IsValid claim × (P claim × (text_of claim ≡ text))
stood P book text claim g leaf all serves is =
    let t : IsTextOf P text = All-contains (IsTextOf P) (texts_of book) text all (served book g leaf text serves) in
    let same : t.claim ≡ claim = same_Some t.claim claim (sym (one_claim text t.claim t.valid t.is) ∙ is) in
    (subst IsValid same t.valid, (subst P same t.holds, ap text_of (sym same) ∙ t.is))

-- ---- leaves

-- two statements of one leaf have one text
pub one-leaf : (book : RollBook) (s t : Sworn) → IsRollBook book → StandsAt book s → StandsAt book t → have_one_leaf s t ≡ true → s.text ≡ t.text
one-leaf book s t sound (g, l, gen-s, leaf-s, at) (h, m, gen-t, leaf-t, there) e =
    let parts = and_parts _ _ e in
    let generations = both (λ a b. a == b) s.generation t.generation parts.0 in
    let leaves = both (λ a b. a == b) s.leaf t.leaf parts.1 in
    let same-g : g ≡ h = same_Some g h (sym gen-s ∙ generations.2 ∙ ap (λ n. Some n) (eqb-true generations.0 generations.1 generations.4) ∙ sym generations.3 ∙ gen-t) in
    let same-l : l ≡ m = same_Some l m (sym leaf-s ∙ leaves.2 ∙ ap (λ n. Some n) (eqb-true leaves.0 leaves.1 leaves.4) ∙ sym leaves.3 ∙ leaf-t) in
    one_text book h m s.text t.text sound (subst (λ n. LeafServes book n m s.text) same-g (subst (λ n. LeafServes book g n s.text) same-l at)) there

-- a Roll that stands in a book has the last leaf of the generation that it names
roll-leaf : (book : RollBook) (text : List ℕ) (claim : Claim) (g leaf named : ℕ) → IsRollBook book → IsValid claim → text_of claim ≡ text
    → (signer : Party) × (key : List ℕ) × (claim ≡ roll signer named key) → LeafServes book g leaf text → LeafServes book named (book.leaves - 1) text
roll-leaf book text claim g leaf named sound valid is (signer, key, says) (place, s, facts) =
    let text-is : s.text ≡ text_of (roll signer named key) = facts.2 ∙ sym is ∙ ap text_of says in
    let held = (subst IsValid says valid).held in
    let rolls : is_roll s.text ≡ true = ap is_roll text-is ∙ is_roll-kind (roll signer named key) in
    let names : named_generation s.text ≡ named = ap named_generation text-is ∙ named-roll signer named key held.fields.0 in
    let generation : s.generation ≡ named = sym (All-at rolls) ∙ names in
    (place, s, (facts.0, generation, facts.2, leaf-roll book place s rolls))
  where
    All-at : is_roll s.text ≡ true → named_generation s.text ≡ s.generation
    All-at rolls =
        All-contains (λ (x : SignedText). is_roll x.text ≡ true → named_generation x.text ≡ x.generation) book.list s sound.named
        (place, slice_get_within book.list place s facts.0, get_or_from_slice_get book.list place s s facts.0) rolls

-- two Rolls of one generation have one text
pub one-roll : (book : RollBook) (s t : Sworn) → IsRollBook book → IsValid s.claim → IsValid t.claim → text_of s.claim ≡ s.text → text_of t.claim ≡ t.text
    → StandsAt book s → StandsAt book t → are_rolls s.claim t.claim ≡ true → s.text ≡ t.text
one-roll book s t sound valid-s valid-t is-s is-t (g, l, gen-s, leaf-s, at) (h, m, gen-t, leaf-t, there) e =
    let rolls = both (λ a b. a == b) _ _ e in
    let same : rolls.0 ≡ rolls.1 = eqb-true rolls.0 rolls.1 rolls.4 in
    let first = roll-leaf book s.text s.claim g l rolls.0 sound valid-s is-s (a-roll s.claim rolls.0 rolls.2) at in
    let second = roll-leaf book t.text t.claim h m rolls.1 sound valid-t is-t (a-roll t.claim rolls.1 rolls.3) there in
    one_text book rolls.1 (book.leaves - 1) s.text t.text sound (subst (λ n. LeafServes book n (book.leaves - 1) s.text) same first) second
