-- What is known of an honest party stays real, where none is forged: a key that is learnt of it is its own next one.
use Rattle.std.proofs.Common.{◌≡◌, ◌≢◌, ◌∙◌, ℕ, zero, suc, ◌+◌, ◌<◌, ◌^◌, List, [], ◌∷◌, ◌++◌, append_assoc, length, take, drop, refl, sym, ap, subst, arith, Bool, true, false, nat_lt, Option, Some, None, Result, Ok, Err}
use Rattle.std.specs.Prelude.{Contains, IsTrue, map, slice_get, if◌then◌else◌, ◌&&◌, ◌==◌}
use Rattle.std.proofs.lemmas.Bool.{and_parts, eqb-true, ltb-true}
use Rattle.std.proofs.lemmas.List.{length-take-le, take-append-drop}
use Rattle.std.proofs.lemmas.Option.{same_Some, slice_get_within}
use Rattle.ar_base.proofs.Lists.{get-more}
use Rattle.ar_base.proofs.Prefixes.{begins_on}
use Rattle.ar_base.specs.Prefixes.{BeginsWith}
use Rattle.ar_claims.specs.Verified.{IsVerifiedIn}
use Rattle.ar_council.proofs.Readable.{readable}
use Rattle.ar_council.proofs.Seeing.{one_party}
use Rattle.ar_statement.proofs.Statements.{is_party-self}
use Rattle.ar_statement.specs.Claims.{Claim, is_party, roll, text_of}
use Rattle.ar_statement.specs.Ranges.{IsValid, is_witness}
use Rattle.ar_statement.specs.declared.party.Party.{Party}
use Rattle.ar_statement.specs.declared.text.SeenText.{SeenText}
use Rattle.key_roll.specs.Book.{texts_of}
use Rattle.lms_tree.proofs.KeyLemmas.{one-text-one-key}
use Rattle.lms_tree.specs.Key.{public_of}
use Rattle.lms_tree.specs.KeyParts.{KeyParts}
use Rattle.lms_tree.specs.PublicKey.{key_text}
use Rattle.lms_tree.specs.Validity.{verdict_of}
use Rattle.lms_tree.specs.declared.public_key.LmsPublic.{LmsPublic}
use Rattle.lms_tree.specs.declared.validity.Verdict.{Verdict}
use Rattle.lms_tree.specs.declared.validity.Verdict.TheVariants.{Invalid, Valid}
use Rattle.party_keys.proofs.Claims.{one_claim}
use Rattle.party_keys.proofs.Touching.{adopting_stays, learning_stays, new_is_last, own_is_next}
use Rattle.party_keys.proofs.Growing.{new_has_none, past}
use Rattle.party_keys.specs.Directory.{Directory, keys_of}
use Rattle.party_keys.specs.Learning.{Announced, after_adopting, after_learning, learned, learning, next_behind, roll_claim, with_next}
use Rattle.party_keys.specs.Seen.{seen_of}
use Rattle.party_keys.specs.Signatures.{answer_at, answer_by, answer_of, answer_under, behind_generation, generation_of, is_in_place, is_last_leaf, leaf_of, roll_in, verified}
use Rattle.party_keys.specs.Signers.{Claimed}
use Rattle.party_keys.specs.declared.fault.LearnFault.{LearnFault}
use Rattle.party_keys.specs.declared.learning.Learned.{Learned}
use Rattle.party_keys.specs.declared.learning.Learned.TheVariants.{Again, New}
use Rattle.run_safety.specs.Own.{HonestParties, IsNoted, IsOwned, KnowsReal, NoneForged, PartyParts, real_keys}
use Rattle.run_safety.proofs.Rings.{public-text, public-widths}
use Rattle.run_safety.proofs.RollTexts.{rolled-is-next}

-- ---- signatures under more keys

by-more : (known : Option LmsPublic) (keys more : List LmsPublic) (g : ℕ) (text signature : List ℕ) → slice_get keys g ≡ known → answer_by known g text signature ≡ Ok tt
    → answer_by (slice_get (keys ++ more) g) g text signature ≡ Ok tt
by-more None keys more g text signature there is = absurd cc
by-more (Some key) keys more g text signature there is = ap (λ (known : Option LmsPublic). answer_by known g text signature) (get-more keys more g key there) ∙ is

at-more : (g : Option ℕ) (keys more : List LmsPublic) (text signature : List ℕ) → answer_at g keys text signature ≡ Ok tt → answer_at g (keys ++ more) text signature ≡ Ok tt
at-more None keys more text signature is = absurd cc
at-more (Some g) keys more text signature is = by-more (slice_get keys g) keys more g text (behind_generation signature) refl is

under-more : (keys more : List LmsPublic) (party : Party) (text signature : List ℕ) → answer_under keys party text signature ≡ Ok tt → answer_under (keys ++ more) party text signature ≡ Ok tt
under-more [] more party text signature is = absurd cc
under-more (first ∷ later) more party text signature is = at-more (generation_of signature) (first ∷ later) more text signature is

-- what is valid under keys that real ones begin with is valid under the real ones
pub under-real : (real known : List LmsPublic) (party : Party) (text signature : List ℕ) → BeginsWith real known → answer_under known party text signature ≡ Ok tt → answer_under real party text signature ≡ Ok tt
under-real real known party text signature begins is =
    subst (λ (keys : List LmsPublic). answer_under keys party text signature ≡ Ok tt) (sym begins.1) (under-more known begins.0 party text signature is)

-- so what is verified of an honest party, where none is forged, stands in its book
pub claim-signed : (own : HonestParties) (all claims : List Claimed) (keys : Directory) (t : SeenText) (p : PartyParts) → NoneForged own all → ((c : Claimed) → Contains claims c → Contains all c)
    → KnowsReal own keys → own t.party ≡ Some p → IsVerifiedIn keys claims t → Contains (texts_of p.book) t.text
unfolding verified
claim-signed own all claims keys t p none within knows is v =
    none (record { party = t.party; text = t.text; signature = v.0 }) p is (within (record { party = t.party; text = t.text; signature = v.0 }) v.1)
    (under-real (real_keys p) (keys_of keys t.party) t.party t.text v.0 (knows t.party p is) v.2)

-- ---- the generation that a Roll names is known

placed-last : (v : Verdict) (placed : Bool) → answer_of v placed ≡ Ok tt → placed ≡ true
placed-last (Invalid k) placed is = absurd cc
placed-last Valid false is = absurd cc
placed-last Valid true is = refl

named-known : (known : Option LmsPublic) (keys : List LmsPublic) (g named : ℕ) (text signature : List ℕ) → slice_get keys g ≡ known → roll_in text ≡ Some named
    → answer_by known g text signature ≡ Ok tt → named < length keys
named-known None keys g named text signature there rolls is = absurd cc
named-known (Some key) keys g named text signature there rolls is =
    let last : Bool = is_last_leaf key (leaf_of signature) in
    let placed : is_in_place (roll_in text) g last ≡ true = placed-last (verdict_of key text signature) (is_in_place (roll_in text) g last) is in
    let both : (last && (named == g)) ≡ true = ap (λ o. is_in_place o g last) (sym rolls) ∙ placed in
    let same : named ≡ g = eqb-true named g (and_parts last (named == g) both).1 in
    let within = slice_get_within keys g key there in
    omega (arith, same, within)

named-at : (g : Option ℕ) (keys : List LmsPublic) (named : ℕ) (text signature : List ℕ) → roll_in text ≡ Some named → answer_at g keys text signature ≡ Ok tt → named < length keys
named-at None keys named text signature rolls is = absurd cc
named-at (Some g) keys named text signature rolls is = named-known (slice_get keys g) keys g named text (behind_generation signature) refl rolls is

named-under : (keys : List LmsPublic) (party : Party) (named : ℕ) (text signature : List ℕ) → roll_in text ≡ Some named → answer_under keys party text signature ≡ Ok tt → named < length keys
named-under [] party named text signature rolls is = absurd cc
named-under (first ∷ later) party named text signature rolls is = named-at (generation_of signature) (first ∷ later) named text signature rolls is

-- ---- one key more

-- what stands behind the known ones is the next of the real ones
next-behind-known : (known rest : List LmsPublic) (key : LmsPublic) → slice_get (known ++ rest) (length known) ≡ Some key → (more : List LmsPublic) × (rest ≡ key ∷ more)
next-behind-known [] [] key is = absurd cc
next-behind-known [] (x ∷ more) key is = (more, ap (λ k. k ∷ more) (same_Some x key is))
next-behind-known (k ∷ known) rest key is = next-behind-known known rest key is

begins-next : (real known : List LmsPublic) (key : LmsPublic) → BeginsWith real known → slice_get real (length known) ≡ Some key → BeginsWith real (known ++ key ∷ [])
begins-next real known key begins there =
    let next = next-behind-known known begins.0 key (ap (λ (keys : List LmsPublic). slice_get keys (length known)) (sym begins.1) ∙ there) in
    (next.0, begins.1 ∙ ap (λ (rest : List LmsPublic). known ++ rest) next.1 ∙ sym (append_assoc known (key ∷ []) next.0))

real-at : (ring : List KeyParts) (k : ℕ) (key : KeyParts) → slice_get ring k ≡ Some key → slice_get (map public_of ring) k ≡ Some (public_of key)
real-at [] k key is = absurd cc
real-at (x ∷ ring) zero key is = ap (λ o. Some (public_of o)) (same_Some x key is)
real-at (x ∷ ring) (suc k) key is = real-at ring k key is

front-of : (real known : List LmsPublic) (n : ℕ) → BeginsWith real known → BeginsWith real (take n known)
front-of real known n begins = begins_on (take n known) known real begins (drop n known, sym (take-append-drop n known))

-- ---- what is learnt

-- a Roll of the party's own next key names its generation
own-roll-in : (party : Party) (g : ℕ) (key : KeyParts) (text : List ℕ) → party.number < 2 ^ 16 → IsTrue (is_witness party.role) → g < 2 ^ 32
    → text_of (roll party g (key_text (public_of key))) ≡ text → roll_in text ≡ Some g
own-roll-in party g key text number witness small is =
    let claim : Claim = roll party g (key_text (public_of key)) in
    let reads : is_witness party.role ≡ true = witness in
    let valid : IsValid claim = record {
      held = record { signer = number; fields = (small, public-text key) };
      ranges = rw (reads, readable (public_of key) (public-widths key)) refl;
    } in
    rw (one_claim text claim valid is) refl

-- the key that a directory learns of an honest party is the party's own next one
pub learnt-next : (a : Announced) (p : PartyParts) → IsNoted a → IsOwned a.party p → Contains (texts_of p.book) (text_of (roll_claim a)) → (next : KeyParts) × (slice_get p.ring (a.generation + 1) ≡ Some next) × (a.key ≡ public_of next)
learnt-next a p noted owned has =
    let n = rolled-is-next a.party p a.generation (key_text a.key) owned.sound owned.many owned.rolls noted.generation has in
    (n.next, n.there, one-text-one-key a.key (public_of n.next) noted.widths (public-widths n.next) n.is)

new-real : (keys : Directory) (a : Announced) (p : PartyParts) (signature : List ℕ) → IsNoted a → IsOwned a.party p → Contains (texts_of p.book) (text_of (roll_claim a))
    → answer_under (keys_of keys a.party) a.party (text_of (roll_claim a)) signature ≡ Ok tt → BeginsWith (real_keys p) (keys_of keys a.party) → learned keys a ≡ Ok New
    → BeginsWith (real_keys p) (keys_of (after_learning keys a) a.party)
new-real keys a p signature noted owned has valid begins new =
    let known : List LmsPublic = keys_of keys a.party in
    let n = learnt-next a p noted owned has in
    let same : text_of (roll a.party a.generation (key_text (public_of n.0))) ≡ text_of (roll_claim a) =
    ap (λ (k : LmsPublic). text_of (roll a.party a.generation (key_text k))) (sym n.2) in
    let within = named-under known a.party a.generation (text_of (roll_claim a)) signature
    (own-roll-in a.party a.generation n.0 (text_of (roll_claim a)) noted.number noted.witness noted.generation same) valid in
    let most = past known (a.generation + 1) (new_has_none keys a new) in
    let place : length known ≡ a.generation + 1 = omega (arith, within, most) in
    let there : slice_get (real_keys p) (length known) ≡ Some a.key =
    ap (slice_get (real_keys p)) place ∙ real-at p.ring (a.generation + 1) n.0 n.1 ∙ ap Some (sym n.2) in
    subst (BeginsWith (real_keys p)) (sym (new_is_last keys a new)) (begins-next (real_keys p) known a.key begins there)

-- whether two parties are one
pub other-party : (one other : Party) → is_party one other ≡ false → one ≢ other
other-party one other not same =
    let e : false ≡ true = sym not ∙ ap (is_party one) (sym same) ∙ is_party-self one in
    absurd cc

-- what a directory learns, of whomever, leaves it real, where an honest party signed what says so of it
pub signed-real : (own : HonestParties) (claims : List Claimed) (keys : Directory) (a : Announced) → ((p : PartyParts) → own a.party ≡ Some p → Contains (texts_of p.book) (text_of (roll_claim a)))
    → ((party : Party) (p : PartyParts) → own party ≡ Some p → IsOwned party p) → IsNoted a → IsVerifiedIn keys claims (seen_of a.party (roll_claim a)) → KnowsReal own keys
    → KnowsReal own (after_learning keys a)
unfolding verified
signed-real own claims keys a signed each noted v knows party p is = by (is_party party a.party) refl
  where
    Real : Directory → Party → Type 0
    Real directory who = BeginsWith (real_keys p) (keys_of directory who)

    learns : own a.party ≡ Some p → (r : Result Learned LearnFault) → learned keys a ≡ r → BeginsWith (real_keys p) (keys_of keys a.party) → Real (learning r keys a) a.party
    learns its (Ok New) at begins =
        let has = signed p its in
        subst (λ (r : Result Learned LearnFault). Real (learning r keys a) a.party) at (new-real keys a p v.0 noted (each a.party p its) has v.2 begins at)
    learns its (Ok Again) at begins = begins
    learns its (Err fault) at begins = begins

    by : (b : Bool) → is_party party a.party ≡ b → Real (after_learning keys a) party
    by false not = subst (BeginsWith (real_keys p)) (sym (learning_stays keys a party (other-party party a.party not))) (knows party p is)
    by true same =
        let one : party ≡ a.party = one_party party a.party same in
        let its : own a.party ≡ Some p = ap own (sym one) ∙ is in
        subst (Real (after_learning keys a)) (sym one) (learns its (learned keys a) refl (knows a.party p its))

-- so where no claim is forged
pub learning-real : (own : HonestParties) (all claims : List Claimed) (keys : Directory) (a : Announced) → NoneForged own all → ((c : Claimed) → Contains claims c → Contains all c)
    → ((party : Party) (p : PartyParts) → own party ≡ Some p → IsOwned party p) → IsNoted a → IsVerifiedIn keys claims (seen_of a.party (roll_claim a)) → KnowsReal own keys
    → KnowsReal own (after_learning keys a)
learning-real own all claims keys a none within each noted v knows =
    signed-real own claims keys a (λ p its. claim-signed own all claims keys (seen_of a.party (roll_claim a)) p none within knows its v) each noted v knows

-- ---- what a party takes as its own next key

pub adopting-real : (own : HonestParties) (keys : Directory) (who : Party) (g : ℕ) (key : KeyParts) → ((p : PartyParts) → own who ≡ Some p → slice_get p.ring (g + 1) ≡ Some key) → KnowsReal own keys
    → KnowsReal own (after_adopting keys who g (public_of key))
adopting-real own keys who g key next knows party p is = by (is_party party who) refl
  where
    now : Directory
    now = after_adopting keys who g (public_of key)

    known : List LmsPublic
    known = keys_of keys who

    front : g < length known → BeginsWith (real_keys p) known → own who ≡ Some p → BeginsWith (real_keys p) (next_behind g (public_of key) known)
    front less begins its =
        let long : length (take (g + 1) known) ≡ g + 1 = length-take-le (g + 1) known (omega (arith, less)) in
        begins-next (real_keys p) (take (g + 1) known) (public_of key) (front-of (real_keys p) known (g + 1) begins)
        (ap (slice_get (real_keys p)) long ∙ real-at p.ring (g + 1) key (next p its))

    adopts : (b : Bool) → nat_lt g (length known) ≡ b → own who ≡ Some p → BeginsWith (real_keys p) (keys_of now who)
    adopts true less its =
        let within : g < length known = ltb-true g (length known) less in
        subst (BeginsWith (real_keys p)) (sym (own_is_next keys who g (public_of key) within)) (front within (knows who p its) its)
    adopts false not its =
        subst (λ (b : Bool). BeginsWith (real_keys p) (keys_of (if b then with_next keys who g (public_of key) else keys) who)) (sym not) (knows who p its)

    by : (b : Bool) → is_party party who ≡ b → BeginsWith (real_keys p) (keys_of now party)
    by false not = subst (BeginsWith (real_keys p)) (sym (adopting_stays keys who party g (public_of key) (other-party party who not))) (knows party p is)
    by true same =
        let one : party ≡ who = one_party party who same in
        subst (λ (q : Party). BeginsWith (real_keys p) (keys_of now q)) (sym one) (adopts (nat_lt g (length known)) refl (ap own (sym one) ∙ is))
