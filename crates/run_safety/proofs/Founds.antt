-- The line `authorities`: all begin with one directory, which knows one key of each, and saw nothing.
use Rattle.std.proofs.Common.{◌≡◌, ◌∙◌, ℕ, zero, suc, ◌+◌, ◌≤◌, List, [], ◌∷◌, length, refl, sym, ap, subst, arith, Option, Some, None}
use Rattle.std.specs.Prelude.{map, slice_get}
use Rattle.std.specs.Option.{option_map}
use Rattle.std.proofs.lemmas.Option.{same_Some}
use Rattle.ar_base.proofs.Prefixes.{begins_itself}
use Rattle.ar_base.specs.Prefixes.{BeginsWith}
use Rattle.ar_world.specs.ar_founding.FirstKeys.{key_for, keys_for}
use Rattle.ar_world.specs.ar_founding.Founding.{fresh_log, genesis_of, founded_authority}
use Rattle.ar_world.specs.ar_nodes.Finding.{honest_in}
use Rattle.ar_world.specs.ar_nodes.Parties.{AuthorityNode, LogNode}
use Rattle.ar_statement.specs.declared.party.Party.{Party}
use Rattle.ar_statement.specs.declared.party.Role.{Role}
use Rattle.ar_statement.specs.declared.party.Role.TheVariants as role
use Rattle.ar_world.specs.Founding.{peopled}
use Rattle.ar_world.specs.State.{World}
use Rattle.lms_tree.specs.Key.{public_of}
use Rattle.lms_tree.specs.KeyParts.{KeyParts}
use Rattle.lms_tree.specs.declared.public_key.LmsPublic.{LmsPublic}
use Rattle.party_keys.specs.Directory.{Directory, directory_with, first_keys, keys_at, keys_of}
use Rattle.run_safety.specs.Own.{PartyParts}
use Rattle.run_safety.specs.Seats.{KnowsFirst}
use Rattle.run_safety.specs.Unforged.{authority_parts, log_parts, messages_of, parts_in}
use Rattle.run_safety.proofs.Founded.{made-of, made-there}

-- what the line makes of a world
pub record Founds (w v : World) : Type 0 where
  pub messages : BeginsWith (messages_of v.pool) (messages_of w.pool)
  pub clients : v.clients ≡ v.genesis
  pub learned : v.learned ≡ w.learned
  pub judged : v.judged ≡ w.judged
  pub one : (party : Party) → length (keys_of v.genesis party) ≤ 1
  pub knows : (r : Role) (number : ℕ) (p : PartyParts) → parts_in v r number ≡ Some p → p.knows ≡ v.genesis
  pub saw : (r : Role) (number : ℕ) (p : PartyParts) → parts_in v r number ≡ Some p → p.saw ≡ []

first-one : (keys : List LmsPublic) (n : ℕ) → length (keys_at (first_keys keys) n) ≤ 1
first-one [] n = omega arith
first-one (key ∷ keys) zero = omega arith
first-one (key ∷ keys) (suc n) = first-one keys n

one-each : (logs authorities : List LmsPublic) (q : ℕ) (party : Party) → length (keys_of (directory_with logs authorities q) party) ≤ 1
one-each logs authorities q party = by party.role
  where
    by : (r : Role) → length (keys_of (directory_with logs authorities q) (record { role = r; number = party.number })) ≤ 1
    by role.LogServer = first-one logs party.number
    by role.Authority = first-one authorities party.number
    by role.Owner = omega arith
    by role.Client = omega arith

-- who was made so stands there
some-made : {X : Type 0} (parts : X → PartyParts) (f : ℕ → X) (o : Option X) (place : ℕ) (p : PartyParts) → ((x : X) → o ≡ Some x → x ≡ f place) → option_map parts o ≡ Some p → parts (f place) ≡ p
some-made parts f None place p made is = absurd cc
some-made parts f (Some x) place p made is = ap parts (sym (made x refl)) ∙ same_Some (parts x) p is

pub peopled-founds : (w : World) (count : ℕ) (genesis : Directory) → genesis_of w.setup count ≡ Some genesis → Founds w (peopled w count genesis).0
peopled-founds w count genesis made =
    let is = made-of (map public_of (keys_for w.setup role.LogServer w.setup.logs)) (map public_of (keys_for w.setup role.Authority count)) w.setup.quorum genesis made in
    record {
      messages = begins_itself (messages_of w.pool);
      clients = refl;
      learned = refl;
      judged = refl;
      one = λ party. subst (λ (d : Directory). length (keys_of d party) ≤ 1) is
          (one-each (map public_of (keys_for w.setup role.LogServer w.setup.logs)) (map public_of (keys_for w.setup role.Authority count)) w.setup.quorum party);
      knows = λ r number p there. ap (λ (x : PartyParts). x.knows) (sym (its r number p there).1) ∙ (its r number p there).2;
      saw = λ r number p there. ap (λ (x : PartyParts). x.saw) (sym (its r number p there).1) ∙ (its r number p there).3;
    }
  where
    log : ℕ → LogNode
    log number = fresh_log genesis number (key_for w.setup role.LogServer number)

    authority : ℕ → AuthorityNode
    authority number = founded_authority genesis number (key_for w.setup role.Authority number) (slice_get w.checks number)

    its : (r : Role) (number : ℕ) (p : PartyParts) → parts_in (peopled w count genesis).0 r number ≡ Some p → (x : PartyParts) × (x ≡ p) × (x.knows ≡ genesis) × (x.saw ≡ [])
    its role.LogServer number p there =
        (log_parts (log (0 + number)), some-made log_parts log (honest_in (peopled w count genesis).0.logs number) (0 + number) p (λ x at. made-there log 0 w.setup.logs number x at) there, refl, refl)
    its role.Authority number p there =
        (authority_parts (authority (0 + number)), some-made authority_parts authority (honest_in (peopled w count genesis).0.authorities number) (0 + number) p (λ x at. made-there authority 0 count number x at) there, refl, refl)
    its role.Owner number p there = absurd cc
    its role.Client number p there = absurd cc

-- one key of a party, the first of its own, begins its real ones
pub first-begins : (known : List LmsPublic) (ring : List KeyParts) → length known ≤ 1 → KnowsFirst known ring → BeginsWith (map public_of ring) known
first-begins [] ring one first = (map public_of ring, refl)
first-begins (k ∷ more) [] one first = let e = first.is in absurd cc
first-begins (k ∷ []) (key ∷ ring) one first =
    let its : key ≡ first.first = same_Some key first.first first.is in
    let known : k ≡ public_of first.first = same_Some k (public_of first.first) first.same in
    (map public_of ring, ap (λ (x : LmsPublic). x ∷ map public_of ring) (ap public_of its ∙ sym known))
first-begins (k ∷ j ∷ more) (key ∷ ring) one first = absurd (omega (arith, one))
