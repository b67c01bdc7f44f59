-- What a step makes of an honest party: what it has only grows, what it newly sees was claimed, and its directory learns at most
-- one Roll that was claimed, or takes the party's own next key. So what it knows and saw stays real, where none is forged.
use Rattle.std.proofs.Common.{◌≡◌, ◌∙◌, ◌⊎◌, inl, inr, ℕ, ◌+◌, List, [], ◌∷◌, ◌++◌, length, refl, sym, ap, subst, Some}
use Rattle.std.specs.Prelude.{Contains, slice_get}
use Rattle.ar_base.proofs.Lists.{get-more}
use Rattle.ar_base.proofs.Prefixes.{begins_itself, begins_on}
use Rattle.ar_claims.specs.Verified.{IsVerifiedIn}
use Rattle.ar_statement.specs.Claims.{text_of}
use Rattle.ar_statement.specs.declared.party.Party.{Party}
use Rattle.ar_statement.specs.declared.text.SeenText.{SeenText}
use Rattle.key_roll.proofs.Later.{later_on, same_book}
use Rattle.key_roll.specs.Book.{texts_of}
use Rattle.lms_tree.specs.Key.{public_of}
use Rattle.lms_tree.specs.KeyParts.{KeyParts}
use Rattle.party_keys.specs.Directory.{Directory}
use Rattle.party_keys.specs.Learning.{Announced, after_adopting, after_learning, roll_claim}
use Rattle.party_keys.specs.Seen.{seen_of}
use Rattle.party_keys.specs.Signers.{Claimed}
use Rattle.run_safety.specs.Own.{Grows, HonestParties, IsNoted, IsOwned, KnowsReal, NoneForged, PartyParts, SawSigned}
use Rattle.run_safety.proofs.RealKeys.{adopting-real, claim-signed, learning-real}
use Rattle.run_safety.proofs.RollTexts.{texts-later}

-- ---- a party that grows

pub same-party : (p : PartyParts) → Grows p p
same-party p = record { book = same_book p.book; ring = begins_itself p.ring; saw = begins_itself p.saw }

pub later-party : (old mid new : PartyParts) → Grows old mid → Grows mid new → Grows old new
later-party old mid new first second = record {
  book = later_on old.book mid.book new.book first.book second.book;
  ring = begins_on old.ring mid.ring new.ring second.ring first.ring;
  saw = begins_on old.saw mid.saw new.saw second.saw first.saw;
}

-- ---- what a directory takes

-- a Roll that is one of the claims, and that was verified under the keys
pub record Learns (claims : List Claimed) (keys later : Directory) : Type 0 where
  pub note : Announced
  pub is : later ≡ after_learning keys note
  pub noted : IsNoted note
  pub claimed : IsVerifiedIn keys claims (seen_of note.party (roll_claim note))

-- the same by more claims
pub learns-more : (claims more : List Claimed) (keys later : Directory) → ((c : Claimed) → Contains claims c → Contains more c) → Learns claims keys later → Learns more keys later
learns-more claims more keys later within l = record {
  note = l.note;
  is = l.is;
  noted = l.noted;
  claimed = (l.claimed.0, within (record { party = l.note.party; text = text_of (roll_claim l.note); signature = l.claimed.0 }) l.claimed.1, l.claimed.2);
}

-- the last of a list with one more
pub get-last : {X : Type 0} (xs : List X) (x : X) → slice_get (xs ++ x ∷ []) (length xs) ≡ Some x
get-last [] x = refl
get-last (y ∷ xs) x = get-last xs x

-- the party's own next key, which stands in its ring
pub record Adopts (party : Party) (keys : Directory) (new : PartyParts) : Type 0 where
  pub generation : ℕ
  pub key : KeyParts
  pub there : slice_get new.ring (generation + 1) ≡ Some key
  pub is : new.knows ≡ after_adopting keys party generation (public_of key)

-- a step of a party, by which it is the new one
pub record Steps (party : Party) (claims : List Claimed) (old new : PartyParts) : Type 0 where
  pub grows : Grows old new
  pub sees : (t : SeenText) → Contains new.saw t → Contains old.saw t ⊎ (((t.party ≡ party) × Contains (texts_of new.book) t.text) ⊎ IsVerifiedIn old.knows claims t)
  pub knows : (new.knows ≡ old.knows) ⊎ (Learns claims old.knows new.knows ⊎ Adopts party old.knows new)

pub still-steps : (party : Party) (claims : List Claimed) (p : PartyParts) → Steps party claims p p
still-steps party claims p = record { grows = same-party p; sees = λ t there. inl there; knows = inl refl }

-- ---- what stays real

-- all that a party knows and saw is real
pub record IsReal (own : HonestParties) (p : PartyParts) : Type 0 where
  pub knows : KnowsReal own p.knows
  pub saw : SawSigned own p.saw

-- who is honest in the end, whose claims are not forged
pub record IsEnd (own : HonestParties) (all : List Claimed) : Type 0 where
  pub none : NoneForged own all
  pub each : (party : Party) (p : PartyParts) → own party ≡ Some p → IsOwned party p

pub learns-real : (own : HonestParties) (all claims : List Claimed) (keys later : Directory) → IsEnd own all → ((c : Claimed) → Contains claims c → Contains all c) → Learns claims keys later
    → KnowsReal own keys → KnowsReal own later
learns-real own all claims keys later end within l knows =
    subst (KnowsReal own) (sym l.is) (learning-real own all claims keys l.note end.none within end.each l.noted l.claimed knows)

pub steps-real : (own : HonestParties) (all claims : List Claimed) (party : Party) (old new : PartyParts) → IsEnd own all → ((c : Claimed) → Contains claims c → Contains all c) → Steps party claims old new
    → ((p : PartyParts) → own party ≡ Some p → Grows new p) → IsReal own old → IsReal own new
steps-real own all claims party old new end within step later real = record {
  knows = knows step.knows;
  saw = λ t p is there. saw t p is (step.sees t there);
}
  where
    knows : (new.knows ≡ old.knows) ⊎ (Learns claims old.knows new.knows ⊎ Adopts party old.knows new) → KnowsReal own new.knows
    knows (inl same) = subst (KnowsReal own) (sym same) real.knows
    knows (inr (inl l)) = learns-real own all claims old.knows new.knows end within l real.knows
    knows (inr (inr a)) =
        subst (KnowsReal own) (sym a.is)
        (adopting-real own old.knows party a.generation a.key
        (λ p is. let on = (later p is).ring in ap (λ (ring : List KeyParts). slice_get ring (a.generation + 1)) on.1 ∙ get-more new.ring on.0 (a.generation + 1) a.key a.there) real.knows)

    saw : (t : SeenText) (p : PartyParts) → own t.party ≡ Some p
        → Contains old.saw t ⊎ (((t.party ≡ party) × Contains (texts_of new.book) t.text) ⊎ IsVerifiedIn old.knows claims t) → Contains (texts_of p.book) t.text
    saw t p is (inl before) = real.saw t p is before
    saw t p is (inr (inl its)) = texts-later new.book p.book t.text (later p (ap own (sym its.0) ∙ is)).book its.1
    saw t p is (inr (inr v)) = claim-signed own all claims old.knows t p end.none within real.knows is v
