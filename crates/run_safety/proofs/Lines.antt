-- What each line makes keeps who sits where and what clients hold.
use Rattle.std.proofs.Common.{◌≡◌, ◌∙◌, ◌≤◌, ℕ, zero, suc, ◌+◌, List, [], ◌∷◌, ◌++◌, append-nil, arith, refl, sym, ap, subst, true, false, Option, Some, None, IfOk, get_or}
use Rattle.std.specs.Prelude.{◌==◌, length, map, nat_le, position, slice_set}
use Rattle.std.proofs.lemmas.Bool.{and_parts, leb-true}
use Rattle.std.proofs.lemmas.List.{length-append, map-append, length-set}
use Rattle.std.proofs.lemmas.List.Quantifiers.{position-Some}
use Rattle.std.proofs.lemmas.Option.{option_and_then_some}
use Rattle.ar_council.proofs.Seeing.{one_party}
use Rattle.ar_message.specs.Messages.{message_in}
use Rattle.ar_statement.specs.Claims.{authority_party, log_party, party}
use Rattle.ar_statement.specs.declared.party.Party.{Party}
use Rattle.ar_statement.specs.declared.party.Role.{Role}
use Rattle.ar_statement.specs.declared.party.Role.TheVariants as role
use Rattle.ar_world.specs.Delivering.{Taker, a_log, an_authority, an_owner, delivery, taker_in}
use Rattle.ar_world.specs.Finding.{authority_at, log_at, with_forger}
use Rattle.ar_world.specs.ar_nodes.Finding.{is_forger, set_if}
use Rattle.ar_world.specs.ar_nodes.Forging.{forged}
use Rattle.ar_world.specs.Founding.{honest_key, may_come, place_of, turned}
use Rattle.ar_world.specs.Records.{HasParties}
use Rattle.ar_world.specs.ar_founding.FirstKeys.{first_key, keys_made}
use Rattle.client_rule.specs.Notes.{note_of}
use Rattle.ar_world.specs.ar_nodes.Parties.{AuthorityNode, Forger, LogNode}
use Rattle.ar_world.specs.ar_nodes.Pool.{raw}
use Rattle.ar_world.specs.State.{World, with_messages}
use Rattle.ar_world.specs.Step.{event_effect, leads_to, setup_effect}
use Rattle.ar_world.specs.ar_nodes.declared.event.LogEvent.TheVariants as events
use Rattle.ar_world.specs.declared.phase.Phase.{Phase}
use Rattle.ar_world.specs.declared.phase.Phase.TheVariants as phase
use Rattle.lms_tree.specs.KeyParts.{KeyParts}
use Rattle.ar_world.specs.log_core.State as log_input
use Rattle.owner_check.specs.declared.answer.Outcome.{Outcome}
use Rattle.party_keys.specs.Directory.{is_party_count}
use Rattle.report_text.specs.declared.happening.Happening.TheVariants.{Dishonest}
use Rattle.report_text.specs.declared.happening.Target.TheVariants.{Nobody}
use Rattle.report_text.specs.declared.happening.What.TheVariants as whats
use Rattle.script_text.specs.declared.line.EventLine.{EventLine}
use Rattle.script_text.specs.declared.line.SetupLine.{SetupLine}
use Rattle.run_safety.specs.Seats.{IsAuthorityOf, IsLogOf, honest_count}
use Rattle.ar_world.proofs.EachLine.{EachLine, EachSetup, event-each, setup-each, with_drafts}
use Rattle.ar_world.proofs.FirstParties.{came}
use Rattle.ar_world.proofs.Sends.{authority-takes, log-takes}
use Rattle.run_safety.proofs.Clients.{judging-makes, learning-makes}
use Rattle.run_safety.proofs.Founded.{keys-quiet, peopled-makes}
use Rattle.run_safety.proofs.Nodes.{authority-delivered-makes, authority-put, authority-rolled-makes, entries-quiet, log-delivered-makes, log-rolled-makes, obeyed-makes, owner-delivered-makes, owner-makes, posted-makes}
use Rattle.run_safety.proofs.Parts.{Goes, Makes, Part, SeatedIn, behind, counts, part_of, still, told_in}
use Rattle.run_safety.proofs.Places.{seated-beside, seated-without, count-without}

-- ---- the setup

count-most : (count : ℕ) → is_party_count count ≡ true → count ≤ 16
count-most count counted = leb-true count 16 (and_parts (nat_le 3 count) (nat_le count 16) counted).1

-- ---- who becomes dishonest

-- a world in which one more is dishonest, and nothing is told otherwise
turns : (w : World) (who : Party) (key : KeyParts) (logs : List (Option LogNode)) (authorities : List (Option AuthorityNode)) → HasParties w
    → (SeatedIn (part_of w) → SeatedIn (record (part_of w) { logs = logs; authorities = authorities; dishonest = (part_of w).dishonest ++ who ∷ [] }))
    → Goes (part_of w) (part_of (record w { logs = logs; authorities = authorities; forgers = w.forgers ++ record { party = who; key = key; next = 0 } ∷ [] })) (Dishonest who ∷ [])
turns w who key logs authorities late sits =
    let now : List Party → Part = λ dishonest. record (part_of w) { logs = logs; authorities = authorities; dishonest = dishonest } in
    subst (λ dishonest. Goes (part_of w) (now dishonest) (Dishonest who ∷ [])) (sym (map-append (λ (f : Forger). f.party) w.forgers (record { party = who; key = key; next = 0 } ∷ []))) (record {
      phase = refl;
      keeps = record {
        stands = λ s. record { seated = sits s.seated; bare = λ early. let e : true ≡ false = sym late ∙ early in absurd cc; counted = s.counted; founded = s.founded };
        told = λ s. append-nil (told_in (part_of w));
        named = refl;
      };
    })

-- one more is dishonest where one less is honest
less-one : (dishonest : List Party) (who : Party) (was now others all : ℕ) → suc now ≡ was → length dishonest + (was + others) ≡ all → length (dishonest ++ who ∷ []) + (now + others) ≡ all
less-one dishonest who was now others all less sum =
    let more : length (dishonest ++ who ∷ []) ≡ length dishonest + 1 = length-append dishonest (who ∷ []) in
    omega (arith, less, sum, more)

less-other : (dishonest : List Party) (who : Party) (was now others all : ℕ) → suc now ≡ was → length dishonest + (others + was) ≡ all → length (dishonest ++ who ∷ []) + (others + now) ≡ all
less-other dishonest who was now others all less sum =
    let more : length (dishonest ++ who ∷ []) ≡ length dishonest + 1 = length-append dishonest (who ∷ []) in
    omega (arith, less, sum, more)

turned-makes : (w : World) (r : Role) (number : ℕ) (key : KeyParts) → HasParties w → honest_key w r number ≡ Some key
    → Makes w (turned w (party r number) key, Dishonest (party r number) ∷ [])
turned-makes w role.LogServer number key late there =
    option_and_then_some (λ (node : LogNode). first_key node.keys) (log_at w number) key there (λ node is has.
    turns w (log_party number) key (slice_set w.logs number None) w.authorities late (λ s. record {
      council = s.council;
      known = s.known;
      logs = seated-without role.LogServer _ _ (IsLogOf w.genesis) w.logs number node (λ m. refl) is s.logs;
      authorities = seated-beside authority_party (log_party number) _ _ (IsAuthorityOf w.genesis) w.authorities (λ m. refl) s.authorities;
      whole = less-one (part_of w).dishonest (log_party number) (honest_count w.logs) (honest_count (slice_set w.logs number None)) (honest_count w.authorities) (length w.logs + length w.authorities)
          (count-without w.logs number node is) s.whole ∙ ap (λ n. n + length w.authorities) (sym (length-set w.logs number None));
      taken = s.taken;
    }))
turned-makes w role.Authority number key late there =
    option_and_then_some (λ (node : AuthorityNode). first_key node.keys) (authority_at w number) key there (λ node is has.
    turns w (authority_party number) key w.logs (slice_set w.authorities number None) late (λ s. record {
      council = s.council;
      known = s.known;
      logs = seated-beside log_party (authority_party number) _ _ (IsLogOf w.genesis) w.logs (λ m. refl) s.logs;
      authorities = seated-without role.Authority _ _ (IsAuthorityOf w.genesis) w.authorities number node (λ m. refl) is s.authorities;
      whole = less-other (part_of w).dishonest (authority_party number) (honest_count w.authorities) (honest_count (slice_set w.authorities number None)) (honest_count w.logs)
          (length w.logs + length w.authorities) (count-without w.authorities number node is) s.whole
          ∙ ap (λ n. length w.logs + n) (sym (length-set w.authorities number None));
      taken = s.taken;
    }))
turned-makes w role.Owner number key late there = absurd cc
turned-makes w role.Client number key late there = absurd cc

-- before the line `authorities` all is bare
pub early : (p : Phase) → (place_of p == 3) ≡ true → nat_le 4 (place_of p) ≡ false
early phase.Beginning h = absurd cc
early phase.SecretTold h = absurd cc
early phase.KeysTold h = absurd cc
early phase.LogsMade h = refl
early phase.AuthoritiesMade h = absurd cc
early phase.DishonestTold h = absurd cc
early phase.Running h = absurd cc

setup-change-makes : (w : World) → EachSetup w (λ next m. may_come w.phase next ≡ true → Makes w m)
setup-change-makes w = record {
  secret = λ secret comes. still _ _ [] refl refl;
  types = λ tree one comes. still _ _ [] refl refl;
  counts = λ count quorum counted comes.
      counts (part_of w) count (keys_made w.setup role.LogServer count) (count-most count counted) (keys-quiet w.setup role.LogServer count);
  founds = λ count genesis made comes. peopled-makes w count genesis made (λ s. s.bare (early w.phase comes));
  turns = λ who key honest comes. turned-makes w who.role who.number key (came w.phase comes) honest;
}

pub setup-makes : (w : World) (l : SetupLine) → IfOk (setup_effect w l) (λ m. may_come w.phase (leads_to l) ≡ true → Makes w m)
setup-makes w = setup-each w (λ next m. may_come w.phase next ≡ true → Makes w m) (setup-change-makes w)

-- ---- deliveries

pub delivery-makes : (says : Outcome) (w : World) (message : ℕ) (r : Role) (number : ℕ) (taker : Taker) → taker_in w r number ≡ Some taker
    → Makes w (delivery says w message number taker)
delivery-makes says w message r number (a_log node) there = log-delivered-makes w message number node (log-takes w r number node there)
delivery-makes says w message r number (an_authority node) there = authority-delivered-makes says w message number node (authority-takes w r number node there)
delivery-makes says w message r number (an_owner me) there = owner-delivered-makes w message number me

-- ---- other lines

-- the same party stands in the place of a dishonest one
set-party : (fs : List Forger) (place : ℕ) (new other : Forger) → new.party ≡ (get_or fs place other).party → map (λ (f : Forger). f.party) (slice_set fs place new) ≡ map (λ (f : Forger). f.party) fs
set-party [] place new other same = refl
set-party (f ∷ fs) zero new other same = ap (λ p. p ∷ map (λ (f : Forger). f.party) fs) same
set-party (f ∷ fs) (suc place) new other same = ap (λ ps. f.party ∷ ps) (set-party fs place new other same)

still-dishonest : (fs : List Forger) (new : Forger) (place : Option ℕ) → position (is_forger new.party) fs ≡ place → map (λ (f : Forger). f.party) (set_if fs place new) ≡ map (λ (f : Forger). f.party) fs
still-dishonest fs new None is = refl
still-dishonest fs new (Some place) is =
    set-party fs place new new (one_party new.party (get_or fs place new).party (position-Some (is_forger new.party) fs place new is).1)

signed-makes : (w : World) (forger : Forger) (text : List ℕ)
    → Makes w (with_messages (with_forger w (record forger { next = forger.next + 1 })) (raw (Some forger.party) Nobody (forged forger text) ∷ []))
signed-makes w forger text =
    let new : Forger = record forger { next = forger.next + 1 } in
    still _ _ _ (ap (λ dishonest. record (part_of w) { dishonest = dishonest }) (still-dishonest w.forgers new (position (is_forger forger.party) w.forgers) refl))
    (entries-quiet (length w.pool + 1) (raw (Some forger.party) Nobody (forged forger text) ∷ []))

change-makes : (w : World) → HasParties w → EachLine w (Makes w)
change-makes w late = record {
  quiet = λ owners drafts said is. still _ _ said refl is.marked;
  posts = λ owners drafts front who sent is. behind _ _ front _ is.marked (posted-makes (with_drafts w owners drafts) who sent);
  signs = signed-makes w;
  injects = λ to bytes. still _ _ _ refl (entries-quiet (length w.pool + 1) (raw None to bytes ∷ []));
  acts = owner-makes w w.pool;
  proposes = λ number node there. obeyed-makes w number w.pool whats.Propose events.Propose log_input.proposes node there;
  passes = λ number node there. obeyed-makes w number w.pool whats.Pass events.Pass log_input.passes node there;
  log_rolls = λ number node next there is. log-rolled-makes w number next node there;
  authority_rolls = λ number node next there is. authority-rolled-makes w number next node there;
  delivers = λ says message p who taker has takes. delivery-makes says w message who.role who.number taker takes;
  checks = λ number node check said there is. authority-put w number node (record node { check = check }) said there (refl, refl) (λ first is. is) is.marked;
  learns = λ message p has. learning-makes w message (note_of (message_in p.bytes));
  judges = λ message p name now age has. judging-makes w message (record { name = name; now = now; age = age; bytes = p.bytes }) late;
}

pub event-makes : (says : Outcome) (w : World) (l : EventLine) → HasParties w → IfOk (event_effect says w l) (Makes w)
event-makes says w l late = event-each w (Makes w) (change-makes w late) says l
