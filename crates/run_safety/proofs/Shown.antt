-- What was seen and accepted stands in the messages, with signatures that are valid under what is known: each step keeps that.
use Rattle.std.proofs.Common.{◌≡◌, ◌≢◌, ◌∙◌, ◌⊎◌, inl, inr, ℕ, List, [], ◌∷◌, refl, sym, ap, subst, arith, Bool, true, false, Some, Ok}
use Rattle.std.specs.Prelude.{Contains, flat_map, nat_le}
use Rattle.std.proofs.lemmas.List.Elements.{Contains-append_left}
use Rattle.std.proofs.lemmas.Grind.{flat_map-append}
use Rattle.ar_base.specs.Prefixes.{BeginsWith}
use Rattle.ar_claims.specs.Claimed.{claimed_in_bytes}
use Rattle.ar_claims.specs.Verified.{IsVerifiedIn}
use Rattle.ar_council.proofs.Seeing.{one_party}
use Rattle.ar_world.specs.ar_nodes.Parties.{CheckParts}
use Rattle.ar_safety.specs.Held.{AcceptedBytes}
use Rattle.ar_statement.specs.Claims.{is_party, party}
use Rattle.ar_statement.specs.declared.party.Party.{Party}
use Rattle.ar_statement.specs.declared.party.Role.{Role}
use Rattle.ar_statement.specs.declared.party.Role.TheVariants as role
use Rattle.ar_statement.specs.declared.text.SeenText.{SeenText}
use Rattle.ar_world.specs.Founding.{place_of}
use Rattle.ar_world.specs.Records.{HasParties}
use Rattle.ar_world.specs.State.{World, first_world, no_directory}
use Rattle.key_roll.specs.Book.{texts_of}
use Rattle.lms_tree.specs.Key.{public_of}
use Rattle.lms_tree.specs.declared.public_key.LmsPublic.{LmsPublic}
use Rattle.party_keys.proofs.Growing.{lasts}
use Rattle.party_keys.proofs.Touching.{adopting_stays}
use Rattle.party_keys.specs.Directory.{Directory, keys_of}
use Rattle.party_keys.specs.Learning.{after_adopting, roll_claim}
use Rattle.party_keys.specs.Seen.{seen_of}
use Rattle.party_keys.specs.Signatures.{IsVerified, answer_under, verified}
use Rattle.party_keys.specs.Signers.{Claimed}
use Rattle.run_safety.specs.Own.{PartyParts}
use Rattle.run_safety.specs.Unforged.{SawShown, messages_of, parts_in, shown}
use Rattle.run_safety.proofs.Founds.{Founds}
use Rattle.run_safety.proofs.Moves.{CameFrom, Moves}
use Rattle.run_safety.proofs.PartySteps.{Adopts, Learns, Steps}
use Rattle.run_safety.proofs.RealKeys.{other-party}

-- before the line `authorities`
abbrev pub IsEarly : World → Type 0
IsEarly w = nat_le 4 (place_of w.phase) ≡ false

-- ---- messages of a later world

-- the claims of a world are among those of a later one
pub shown-later : (w f : World) → BeginsWith (messages_of f.pool) (messages_of w.pool) → (c : Claimed) → Contains (shown w) c → Contains (shown f) c
shown-later w f begins c has =
    subst (λ (lists : List (List ℕ)). Contains (flat_map claimed_in_bytes lists) c) (sym begins.1)
    (subst (λ (claims : List Claimed). Contains claims c) (sym (flat_map-append claimed_in_bytes (messages_of w.pool) begins.0))
    (Contains-append_left (shown w) (flat_map claimed_in_bytes begins.0) c has))

pub bytes-later : (w f : World) (bytes : List ℕ) → BeginsWith (messages_of f.pool) (messages_of w.pool) → Contains (messages_of w.pool) bytes → Contains (messages_of f.pool) bytes
bytes-later w f bytes begins has =
    subst (λ (lists : List (List ℕ)). Contains lists bytes) (sym begins.1) (Contains-append_left (messages_of w.pool) begins.0 bytes has)

-- ---- what is verified stays so

-- by more claims, and keys that verify as much
pub still-verified : (keys later : Directory) (claims more : List Claimed) (t : SeenText) → ((c : Claimed) → Contains claims c → Contains more c)
    → ((signature : List ℕ) → IsVerified keys t.party t.text signature → IsVerified later t.party t.text signature) → IsVerifiedIn keys claims t → IsVerifiedIn later more t
still-verified keys later claims more t within on v = (v.0, within (record { party = t.party; text = t.text; signature = v.0 }) v.1, on v.0 v.2)

learnt-verifies : (claims : List Claimed) (keys later : Directory) (t : SeenText) (signature : List ℕ) → Learns claims keys later → IsVerified keys t.party t.text signature → IsVerified later t.party t.text signature
learnt-verifies claims keys later t signature l is =
    subst (λ (d : Directory). IsVerified d t.party t.text signature) (sym l.is) (lasts keys (l.note ∷ []) t.party t.text signature (Ok tt) tt is)

-- of others than who takes its own next key
adopted-verifies : (keys : Directory) (who : Party) (generation : ℕ) (key : LmsPublic) (t : SeenText) (signature : List ℕ) → t.party ≢ who
    → IsVerified keys t.party t.text signature → IsVerified (after_adopting keys who generation key) t.party t.text signature
unfolding verified
adopted-verifies keys who generation key t signature other is =
    ap (λ (known : List LmsPublic). answer_under known t.party t.text signature) (adopting_stays keys who t.party generation key other) ∙ is

-- under the keys of nobody nothing is
pub nothing-known : (r : Role) (number : ℕ) → keys_of no_directory (party r number) ≡ []
nothing-known role.LogServer number = refl
nothing-known role.Authority number = refl
nothing-known role.Owner number = refl
nothing-known role.Client number = refl

nothing-verified : (claims : List Claimed) (t : SeenText) → IsVerifiedIn no_directory claims t → ⊥
unfolding verified
nothing-verified claims t v =
    let e : answer_under [] t.party t.text v.0 ≡ Ok tt =
    subst (λ (known : List LmsPublic). answer_under known t.party t.text v.0 ≡ Ok tt) (nothing-known t.party.role t.party.number) v.2 in
    absurd cc

-- ---- a step of a party

steps-shown : (who : Party) (claims more : List Claimed) (old new : PartyParts) → ((c : Claimed) → Contains claims c → Contains more c) → Steps who claims old new → SawShown who claims old
    → SawShown who more new
steps-shown who claims more old new within step saw t there = by (is_party t.party who) refl
  where
    knows : (signature : List ℕ) → t.party ≢ who → IsVerified old.knows t.party t.text signature → (new.knows ≡ old.knows) ⊎ (Learns claims old.knows new.knows ⊎ Adopts who old.knows new)
        → IsVerified new.knows t.party t.text signature
    knows signature other is (inl same) = subst (λ (d : Directory). IsVerified d t.party t.text signature) (sym same) is
    knows signature other is (inr (inl l)) = learnt-verifies claims old.knows new.knows t signature l is
    knows signature other is (inr (inr a)) =
        subst (λ (d : Directory). IsVerified d t.party t.text signature) (sym a.is) (adopted-verifies old.knows who a.generation (public_of a.key) t signature other is)

    on : t.party ≢ who → IsVerifiedIn old.knows claims t → IsVerifiedIn new.knows more t
    on other v = still-verified old.knows new.knows claims more t within (λ signature is. knows signature other is step.knows) v

    again : t.party ≢ who → (t.party ≡ who) ⊎ IsVerifiedIn old.knows claims t → (t.party ≡ who) ⊎ IsVerifiedIn new.knows more t
    again other (inl its) = inl its
    again other (inr v) = inr (on other v)

    seen : t.party ≢ who → Contains old.saw t ⊎ (((t.party ≡ who) × Contains (texts_of new.book) t.text) ⊎ IsVerifiedIn old.knows claims t) → (t.party ≡ who) ⊎ IsVerifiedIn new.knows more t
    seen other (inl before) = again other (saw t before)
    seen other (inr (inl its)) = inl its.0
    seen other (inr (inr v)) = inr (on other v)

    by : (b : Bool) → is_party t.party who ≡ b → (t.party ≡ who) ⊎ IsVerifiedIn new.knows more t
    by true same = inl (one_party t.party who same)
    by false not = seen (other-party t.party who not) (step.sees t there)

-- ---- a step of a world

-- what was seen of others, learnt and accepted stands in the messages; and before the line `authorities` clients know no keys
pub record Seen (w : World) : Type 0 where
  pub bare : IsEarly w → w.clients ≡ no_directory
  pub learned : (t : SeenText) → Contains w.learned t → IsVerifiedIn w.clients (shown w) t
  pub judged : (t : AcceptedBytes) → Contains w.judged t → Contains (messages_of w.pool) t.bytes
  pub parties : (r : Role) (number : ℕ) (p : PartyParts) → parts_in w r number ≡ Some p → SawShown (party r number) (shown w) p

pub moves-seen : (w v : World) → (IsEarly v → IsEarly w) → Moves w v → Seen w → Seen v
moves-seen w v stays moves s = record {
  bare = λ before. none before moves.clients;
  learned = λ t there. elim (moves.learned t there) [
    | inl before ↦ on t (s.learned t before)
    | inr verified ↦ on t verified
  ];
  judged = λ t there. elim (moves.judged t there) [
    | inl before ↦ bytes-later w v t.bytes moves.messages (s.judged t before)
    | inr has ↦ bytes-later w v t.bytes moves.messages has
  ];
  parties = λ r number new is.
      let came : CameFrom w r number new = moves.parties r number new is in
      steps-shown (party r number) (shown w) (shown v) came.old new within came.step (s.parties r number came.old came.there);
}
  where
    within : (c : Claimed) → Contains (shown w) c → Contains (shown v) c
    within = shown-later w v moves.messages

    knows : (t : SeenText) (signature : List ℕ) → IsVerified w.clients t.party t.text signature → (v.clients ≡ w.clients) ⊎ Learns (shown w) w.clients v.clients → IsVerified v.clients t.party t.text signature
    knows t signature is (inl same) = subst (λ (d : Directory). IsVerified d t.party t.text signature) (sym same) is
    knows t signature is (inr l) = learnt-verifies (shown w) w.clients v.clients t signature l is

    on : (t : SeenText) → IsVerifiedIn w.clients (shown w) t → IsVerifiedIn v.clients (shown v) t
    on t its = still-verified w.clients v.clients (shown w) (shown v) t within (λ signature is. knows t signature is moves.clients) its

    none : IsEarly v → (v.clients ≡ w.clients) ⊎ Learns (shown w) w.clients v.clients → v.clients ≡ no_directory
    none before (inl same) = same ∙ s.bare (stays before)
    none before (inr l) =
        absurd (nothing-verified (shown w) (seen_of l.note.party (roll_claim l.note))
        (subst (λ (d : Directory). IsVerifiedIn d (shown w) (seen_of l.note.party (roll_claim l.note))) (s.bare (stays before)) l.claimed))

pub founds-seen : (w v : World) → IsEarly w → HasParties v → Founds w v → Seen w → Seen v
founds-seen w v before late founds s = record {
  bare = λ early. let e : true ≡ false = sym late ∙ early in absurd cc;
  learned = λ t there.
      absurd (nothing-verified (shown w) t (subst (λ (d : Directory). IsVerifiedIn d (shown w) t) (s.bare before)
      (s.learned t (subst (λ (seen : List SeenText). Contains seen t) founds.learned there))));
  judged = λ t there. bytes-later w v t.bytes founds.messages (s.judged t (subst (λ (taken : List AcceptedBytes). Contains taken t) founds.judged there));
  parties = λ r number p is t there.
      let none : Contains [] t = subst (λ (seen : List SeenText). Contains seen t) (founds.saw r number p is) there in
      absurd (omega (arith, none.1));
}

pub first-seen : (checks : List CheckParts) → Seen (first_world checks)
first-seen checks = record {
  bare = λ before. refl;
  learned = λ t there. absurd (omega (arith, there.1));
  judged = λ t there. absurd (omega (arith, there.1));
  parties = nobody;
}
  where
    nobody : (r : Role) (number : ℕ) (p : PartyParts) → parts_in (first_world checks) r number ≡ Some p → SawShown (party r number) (shown (first_world checks)) p
    nobody role.LogServer number p is = absurd cc
    nobody role.Authority number p is = absurd cc
    nobody role.Owner number p is = absurd cc
    nobody role.Client number p is = absurd cc
