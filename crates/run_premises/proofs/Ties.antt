-- The premise on forgery of a run, which speaks of honest parties' own keys, and what is told of the keys that clients know.
use Rattle.std.proofs.Common.{◌≡◌, ◌∙◌, inl, inr, ℕ, zero, suc, ◌+◌, ◌<◌, ◌≤◌, List, [], ◌∷◌, ◌++◌, append-nil, length, length-append, refl, sym, ap, subst, arith, Option, Some, None}
use Rattle.std.specs.Prelude.{Contains, flat_map, is_none}
use Rattle.std.specs.Option.{option_map}
use Rattle.std.proofs.lemmas.List.Elements.{Contains-append_cases}
use Rattle.std.proofs.lemmas.List.{length-map}
use Rattle.std.proofs.lemmas.Option.{same_Some, slice_get_within}
use Rattle.ar_base.specs.Prefixes.{BeginsWith}
use Rattle.ar_claims.specs.Claimed.{claimed_in_bytes}
use Rattle.run_safety.specs.ar_nodes.Finding.{honest_in}
use Rattle.run_safety.specs.ar_nodes.Parties.{AuthorityNode, CheckParts, LogNode}
use Rattle.ar_safety.specs.Held.{records_of}
use Rattle.ar_safety.specs.Records.{IsHonest, signed_by}
use Rattle.ar_statement.specs.Claims.{authority_party, log_party, party}
use Rattle.ar_statement.specs.declared.party.Party.{Party}
use Rattle.ar_statement.specs.declared.party.Role.{Role}
use Rattle.ar_statement.specs.declared.party.Role.TheVariants as role
use Rattle.run_safety.specs.ar_world.Finding.{authority_at, log_at}
use Rattle.run_safety.specs.ar_world.Records.{held_of}
use Rattle.run_safety.specs.ar_world.Run.{Saying, run}
use Rattle.run_safety.specs.ar_world.State.{World}
use Rattle.key_roll.specs.Book.{texts_of}
use Rattle.lms_tree.specs.Key.{public_of}
use Rattle.lms_tree.specs.declared.public_key.LmsPublic.{LmsPublic}
use Rattle.party_keys.specs.Directory.{keys_of}
use Rattle.party_keys.specs.Signatures.{verified}
use Rattle.party_keys.specs.Signers.{Claimed}
use Rattle.run_premises.specs.Books.{NoneForgedIn}
use Rattle.run_premises.specs.Known.{KnowAsMany, NoneRolled}
use Rattle.run_safety.specs.Own.{PartyParts, real_keys}
use Rattle.run_safety.specs.Seats.{IsSeated}
use Rattle.run_safety.specs.Unforged.{Unforged, authority_parts, log_parts, messages_of, parts_in, parts_of}
use Rattle.run_safety.proofs.Forged.{all-real, owned-in, signer-in}
use Rattle.run_safety.proofs.Held.{authorities-known, logs-known}
use Rattle.run_safety.proofs.KeptLines.{run-kept}
use Rattle.run_safety.proofs.KnownKeys.{IsFair, fair-knows}
use Rattle.run_safety.proofs.Lasting.{genesis-knows}
use Rattle.run_safety.proofs.Moves.{claims-within}
use Rattle.run_safety.proofs.RealKeys.{under-real}
use Rattle.run_safety.proofs.Runs.{run-seated}

-- ---- what the premise says of known keys

pub premise-finds-none : (saying : Saying) (checks : List CheckParts) (input : List ℕ) → Unforged (run saying checks input).world
    → NoneForgedIn (held_of (run saying checks input).world) (messages_of (run saying checks input).world.pool)
unfolding verified
premise-finds-none saying checks input unforged bytes c there claimed honest valid =
    let f : World = (run saying checks input).world in
    let s = signer-in f (run-seated saying checks input) c.party.role c.party.number honest in
    let real = (all-real saying checks input unforged).clients c.party s.parts s.there in
    subst (λ (texts : List (List ℕ)). Contains texts c.text) s.signed
    (unforged c s.parts s.there (claims-within (messages_of f.pool) bytes there c claimed)
    (under-real (real_keys s.parts) (keys_of f.clients c.party) c.party c.text c.signature real valid))

-- ---- who is honest

within-list : {X : Type 0} (xs : List (Option X)) (n : ℕ) (x : X) → honest_in xs n ≡ Some x → n < length xs
within-list [] n x is = absurd cc
within-list (o ∷ xs) zero x is = omega arith
within-list (o ∷ xs) (suc n) x is = let less = within-list xs n x is in omega (arith, less)

honest-of : (f : World) → IsSeated f → (r : Role) (number : ℕ) (p : PartyParts) → parts_in f r number ≡ Some p → IsHonest (records_of (held_of f)) (party r number)
honest-of f seated role.LogServer number p is = by (log_at f number) refl is
  where
    by : (o : Option LogNode) → log_at f number ≡ o → option_map log_parts o ≡ Some p → IsHonest (records_of (held_of f)) (log_party number)
    by None there e = absurd cc
    by (Some node) there e =
        let less = within-list f.logs number node there in
        let all = seated.logs.all in
        let known = logs-known f seated in
        let here : number < length f.genesis.logs = omega (arith, less, all) in
        record {
          known = omega (arith, here, known);
          honest = sym (seated.logs.empty number here) ∙ ap is_none there;
        }
honest-of f seated role.Authority number p is = by (authority_at f number) refl is
  where
    by : (o : Option AuthorityNode) → authority_at f number ≡ o → option_map authority_parts o ≡ Some p → IsHonest (records_of (held_of f)) (authority_party number)
    by None there e = absurd cc
    by (Some node) there e =
        let less = within-list f.authorities number node there in
        let all = seated.authorities.all in
        let known = authorities-known f seated in
        let here : number < length f.genesis.authorities = omega (arith, less, all) in
        record {
          known = omega (arith, here, known);
          honest = sym (seated.authorities.empty number here) ∙ ap is_none there;
        }
honest-of f seated role.Owner number p is = absurd cc
honest-of f seated role.Client number p is = absurd cc

-- ---- where clients know all keys

-- a message in which a claim stands
message-of : (lists : List (List ℕ)) (c : Claimed) → Contains (flat_map claimed_in_bytes lists) c → (bytes : List ℕ) × (Contains lists bytes × Contains (claimed_in_bytes bytes) c)
message-of [] c has = absurd (omega (arith, has.1))
message-of (bytes ∷ lists) c has =
    elim (Contains-append_cases (claimed_in_bytes bytes) (flat_map claimed_in_bytes lists) c has) [
      | inl here ↦ (bytes, ((0, omega arith, refl), here))
      | inr later ↦
          let m = message-of lists c later in
          (m.0, ((suc m.1.0.0, (let less = m.1.0.1 in omega (arith, less)), m.1.0.2), m.1.1))
    ]

-- what stands in the book of an honest party of the records stands in its own
its-book : (f : World) → IsSeated f → (who : Party) (p : PartyParts) (text : List ℕ) → parts_of f who ≡ Some p → IsHonest (records_of (held_of f)) who
    → Contains (signed_by (records_of (held_of f)) who) text → Contains (texts_of p.book) text
its-book f seated who p text is honest signed =
    let s = signer-in f seated who.role who.number honest in
    subst (λ (q : PartyParts). Contains (texts_of q.book) text) (same_Some s.parts p (sym s.there ∙ is))
    (subst (λ (texts : List (List ℕ)). Contains texts text) (sym s.signed) signed)

-- so no claim is forged by the keys that clients know at the end
fair-end : (saying : Saying) (checks : List CheckParts) (input : List ℕ)
    → NoneForgedIn (held_of (run saying checks input).world) (messages_of (run saying checks input).world.pool) → IsFair (run saying checks input).world
unfolding verified
fair-end saying checks input none = record {
  seated = run-seated saying checks input;
  each = λ who p is. owned-in f (run-kept saying checks input) (run-seated saying checks input) who.role who.number p is;
  fair = λ c p is has valid.
      let honest = honest-of f (run-seated saying checks input) c.party.role c.party.number p is in
      let m = message-of (messages_of f.pool) c has in
      its-book f (run-seated saying checks input) c.party p c.text is honest (none m.0 c m.1.0 m.1.1 honest valid);
}
  where
    f : World
    f = (run saying checks input).world

-- of two lists the one of which begins the other and has as many, each begins the other
as-many : (real known : List LmsPublic) → BeginsWith real known → length real ≤ length known → BeginsWith known real
as-many real known begins many = by begins.0 begins.1
  where
    by : (rest : List LmsPublic) → real ≡ known ++ rest → BeginsWith known real
    by [] is = ([], sym (append-nil real ∙ is ∙ append-nil known))
    by (key ∷ rest) is =
        let long : length real ≡ length known + length (key ∷ rest) = ap (λ (keys : List LmsPublic). length keys) is ∙ length-append known (key ∷ rest) in
        absurd (omega (arith, long, many))

pub none-found-meets : (saying : Saying) (checks : List CheckParts) (input : List ℕ) → KnowAsMany (run saying checks input).world
    → NoneForgedIn (held_of (run saying checks input).world) (messages_of (run saying checks input).world.pool) → Unforged (run saying checks input).world
none-found-meets saying checks input many none c p is has valid =
    let f : World = (run saying checks input).world in
    let fair = fair-end saying checks input none in
    let long : length (real_keys p) ≤ length (keys_of f.clients c.party) =
    (let same = length-map p.ring public_of in let most = many c.party p is in omega (arith, same, most)) in
    let all = as-many (real_keys p) (keys_of f.clients c.party) (fair-knows saying checks input fair c.party p is) long in
    fair.fair c p is has (under-real (keys_of f.clients c.party) (real_keys p) c.party c.text c.signature all valid)

-- ---- where each party has its first key alone

pub first-keys-known : (saying : Saying) (checks : List CheckParts) (input : List ℕ) → NoneRolled (run saying checks input).world → KnowAsMany (run saying checks input).world
first-keys-known saying checks input one who p is =
    let f : World = (run saying checks input).world in
    let seated = run-seated saying checks input in
    let knows = genesis-knows f who.role who.number p seated is in
    let within = slice_get_within (keys_of f.clients who) 0 (public_of knows.first) (seated.known who (public_of knows.first) knows.same) in
    let single = one who p is in
    omega (arith, within, single)
