-- Where no claim of a run is forged, all that is known of honest parties is real, and the theorem's premise on forgery holds.
use Rattle.std.proofs.Common.{◌≡◌, ◌∙◌, ℕ, suc, ◌<◌, List, [], ◌∷◌, ◌++◌, length, refl, sym, ap, subst, arith, Option, Some, None, Result, Ok}
use Rattle.std.specs.Prelude.{All, Contains}
use Rattle.std.specs.List.{cons_option, filter_map}
use Rattle.std.specs.Option.{option_map}
use Rattle.std.specs.Result.{result_ok}
use Rattle.std.proofs.lemmas.List.Elements.{All-cons, All-contains, All-nil}
use Rattle.std.proofs.lemmas.Option.{same_Some}
use Rattle.ar_base.specs.Bytes.{AreBytes}
use Rattle.ar_bytes.specs.Reading.{whole}
use Rattle.ar_claims.specs.Claimed.{claimed_in_bytes}
use Rattle.ar_claims.specs.Verified.{IsVerifiedIn}
use Rattle.ar_council.specs.Council.{council_of}
use Rattle.ar_message.specs.Confirmation.{Confirmation, confirmation_at}
use Rattle.ar_world.specs.ar_nodes.Parties.{AuthorityNode, CheckParts, LogNode}
use Rattle.ar_safety.proofs.Held.{own-record}
use Rattle.ar_safety.specs.Held.{IsAccepting, AcceptedBytes, asked_by, judged_in, record_at, records_of, verdict_on}
use Rattle.ar_safety.specs.Records.{AreSigned, IsHonest, AcceptedConfirmation, carried, seen_by, signed_by}
use Rattle.ar_safety.specs.Theorem.{NoForgery}
use Rattle.ar_statement.specs.Claims.{authority_party, log_party, party}
use Rattle.ar_statement.specs.declared.party.Party.{Party}
use Rattle.ar_statement.specs.declared.party.Role.{Role}
use Rattle.ar_statement.specs.declared.party.Role.TheVariants as role
use Rattle.ar_statement.specs.declared.text.SeenText.{SeenText}
use Rattle.ar_world.specs.Finding.{authority_at, log_at}
use Rattle.ar_world.specs.Records.{held_of}
use Rattle.ar_world.specs.Run.{Saying, run}
use Rattle.ar_world.specs.State.{World, first_world}
use Rattle.authority_core.specs.Calls.{fresh_authority}
use Rattle.authority_core.specs.Record.{AuthorityRecord}
use Rattle.client_rule.proofs.Claiming.{first-claims, log-claims, second-claims}
use Rattle.client_rule.proofs.Meanings.{absence, accepted}
use Rattle.client_rule.specs.Meaning.{PassesChecks}
use Rattle.client_rule.specs.Rule.{claim_on}
use Rattle.client_rule.specs.declared.judgement.Judgement.{Judgement}
use Rattle.client_rule.specs.declared.judgement.Judgement.TheVariants.{Absent, Accepted, Refused}
use Rattle.epoch_log.specs.Calls.{fresh}
use Rattle.epoch_log.specs.Record.{LogRecord}
use Rattle.key_roll.specs.Book.{texts_of}
use Rattle.party_keys.specs.Directory.{Directory}
use Rattle.party_keys.specs.Seen.{seen_of}
use Rattle.run_safety.specs.Kept.{KeepsAuthority, KeepsLog, KeepsWorld}
use Rattle.run_safety.specs.Own.{HasRolls, IsOwned, PartyParts, SawSigned, real_keys}
use Rattle.run_safety.specs.Seats.{IsAuthorityOf, IsLogOf, IsSeated}
use Rattle.run_safety.specs.Unforged.{AllReal, AllShown, Unforged, authority_parts, log_parts, messages_of, parts_in, parts_of, shown}
use Rattle.run_safety.proofs.Held.{authorities-known, authority-records, authority_past, log-records, log_past, logs-known, record_or, sits-there}
use Rattle.run_safety.proofs.KeptLines.{authority-at-kept, log-at-kept}
use Rattle.run_safety.proofs.Lasting.{Goes, Holds, IsFinal, Real, later-itself, run-goes}
use Rattle.run_safety.proofs.Moves.{claims-within}
use Rattle.run_safety.proofs.Parts.{seated}
use Rattle.run_safety.proofs.PartySteps.{IsReal}
use Rattle.run_safety.proofs.RealKeys.{claim-signed}
use Rattle.run_safety.proofs.Shown.{Seen, first-seen, nothing-known, still-verified}

-- ---- the honest parties of the end

pub owned-in : (f : World) → KeepsWorld f → IsSeated f → (r : Role) (number : ℕ) (p : PartyParts) → parts_in f r number ≡ Some p → IsOwned (party r number) p
owned-in f kept seated role.LogServer number p is = by (log_at f number) refl is
  where
    by : (o : Option LogNode) → log_at f number ≡ o → option_map log_parts o ≡ Some p → IsOwned (log_party number) p
    by None there e = absurd cc
    by (Some node) there e =
        let keeps : KeepsLog node = log-at-kept f number node kept there in
        let me : node.core.log.me ≡ number = (seated.logs.own number node there).number in
        subst (IsOwned (log_party number)) (same_Some (log_parts node) p e) (record {
          sound = keeps.core.log.honest.signs_what_it_tells.sound;
          many = keeps.book.many;
          rolls = subst (λ n. HasRolls (log_party n) node.core.log.past.signed node.keys) me keeps.rolls;
        })
owned-in f kept seated role.Authority number p is = by (authority_at f number) refl is
  where
    by : (o : Option AuthorityNode) → authority_at f number ≡ o → option_map authority_parts o ≡ Some p → IsOwned (authority_party number) p
    by None there e = absurd cc
    by (Some node) there e =
        let keeps : KeepsAuthority node = authority-at-kept f number node kept there in
        let me : node.state.me ≡ number = (seated.authorities.own number node there).number in
        subst (IsOwned (authority_party number)) (same_Some (authority_parts node) p e) (record {
          sound = keeps.state.honest.sound;
          many = keeps.book.many;
          rolls = subst (λ n. HasRolls (authority_party n) node.state.past.signed node.keys) me keeps.rolls;
        })
owned-in f kept seated role.Owner number p is = absurd cc
owned-in f kept seated role.Client number p is = absurd cc

-- who sits where in a world that holds what is needed
pub seated-now : (f : World) → Holds f → IsSeated f
seated-now f h = seated f h.stands.seated

final-of : (f : World) → KeepsWorld f → IsSeated f → Unforged f → IsFinal f
final-of f kept seated unforged = record {
  seated = seated;
  end = record { none = unforged; each = λ who p is. owned-in f kept seated who.role who.number p is };
}

-- ---- the beginning

pub first-real : (f : World) (checks : List CheckParts) → Real f (first_world checks)
first-real f checks = record {
  clients = λ who p is. (real_keys p, ap (λ keys. keys ++ real_keys p) (sym (nothing-known who.role who.number)));
  learned = λ t p is there. absurd (omega (arith, there.1));
  judged = λ t there. absurd (omega (arith, there.1));
  parties = nobody;
}
  where
    nobody : (r : Role) (number : ℕ) (p : PartyParts) → parts_in (first_world checks) r number ≡ Some p → IsReal (parts_of f) p
    nobody role.LogServer number p is = absurd cc
    nobody role.Authority number p is = absurd cc
    nobody role.Owner number p is = absurd cc
    nobody role.Client number p is = absurd cc

-- all is real in a world to which the first one went
goes-real : (checks : List CheckParts) (f : World) → Goes (first_world checks) f → Unforged f → Real f f
goes-real checks f goes unforged = goes.real f (final-of f goes.held.kept (seated-now f goes.held) unforged) (later-itself f) (first-real f checks)

pub goes-all-real : (checks : List CheckParts) (f : World) → Goes (first_world checks) f → Unforged f → AllReal f
goes-all-real checks f goes unforged =
    let real = goes-real checks f goes unforged in
    record {
      clients = real.clients;
      learned = real.learned;
      knows = λ who p is. (real.parties who.role who.number p is).knows;
      saw = λ who p is. (real.parties who.role who.number p is).saw;
    }

pub all-real : (saying : Saying) (checks : List CheckParts) (input : List ℕ) → Unforged (run saying checks input).world → AllReal (run saying checks input).world
all-real saying checks input = goes-all-real checks (run saying checks input).world (run-goes saying checks input)

-- ---- the theorem's records

-- an honest party of the records is one of the world, with the record's book and what it saw
pub record Signer (f : World) (who : Party) : Type 0 where
  pub parts : PartyParts
  pub there : parts_of f who ≡ Some parts
  pub signed : texts_of parts.book ≡ signed_by (records_of (held_of f)) who
  pub saw : parts.saw ≡ seen_by (records_of (held_of f)) who

pub signer-in : (f : World) → IsSeated f → (r : Role) (number : ℕ) → IsHonest (records_of (held_of f)) (party r number) → Signer f (party r number)
signer-in f seated role.LogServer n is =
    let dishonest : List Party = (held_of f).dishonest in
    let none : LogRecord = (fresh 0 (council_of f.clients) 1).past in
    let there = sits-there log_party dishonest (length f.genesis.logs) (IsLogOf f.genesis) f.logs n seated.logs
    (let known = is.known in let e = logs-known f seated in omega (arith, known, e)) is.honest in
    let node : LogNode = there.0 in
    let its : (records_of (held_of f)).logs n ≡ node.core.log.past =
    ap (λ (xs : List LogRecord). record_at log_party dishonest xs none n) (log-records f seated)
    ∙ own-record log_party dishonest (log_past f) none (length f.clients.logs) n is.known is.honest
    ∙ ap (record_or (λ (node : LogNode). node.core.log.past) none) there.1 in
    record {
      parts = log_parts node;
      there = ap (option_map log_parts) there.1;
      signed = ap (λ (x : LogRecord). texts_of x.signed) (sym its);
      saw = ap (λ (x : LogRecord). x.seen) (sym its);
    }
signer-in f seated role.Authority n is =
    let dishonest : List Party = (held_of f).dishonest in
    let none : AuthorityRecord = fresh_authority 1 in
    let there = sits-there authority_party dishonest (length f.genesis.authorities) (IsAuthorityOf f.genesis) f.authorities n seated.authorities
    (let known = is.known in let e = authorities-known f seated in omega (arith, known, e)) is.honest in
    let node : AuthorityNode = there.0 in
    let its : (records_of (held_of f)).authorities n ≡ node.state.past =
    ap (λ (xs : List AuthorityRecord). record_at authority_party dishonest xs none n) (authority-records f seated)
    ∙ own-record authority_party dishonest (authority_past f) none (length f.clients.authorities) n is.known is.honest
    ∙ ap (record_or (λ (node : AuthorityNode). node.state.past) none) there.1 in
    record {
      parts = authority_parts node;
      there = ap (option_map authority_parts) there.1;
      signed = ap (λ (x : AuthorityRecord). texts_of x.signed) (sym its);
      saw = ap (λ (x : AuthorityRecord). x.seen) (sym its);
    }
signer-in f seated role.Owner n is = absurd (let none : n < 0 = is.known in omega (arith, none))
signer-in f seated role.Client n is = absurd (let none : n < 0 = is.known in omega (arith, none))

saw-signed : (f : World) (seen : List SeenText) → IsSeated f → SawSigned (parts_of f) seen → AreSigned (records_of (held_of f)) seen
saw-signed f seen seated saw who text honest has =
    let s = signer-in f seated who.role who.number honest in
    subst (λ (texts : List (List ℕ)). Contains texts text) s.signed (saw (record { party = who; text = text }) s.parts s.there has)

-- ---- what clients accepted

-- what a list's items give has the property that each gives
all-taken : {X Y : Type 0} (f : X → Option Y) (P : Y → Type 0) (xs : List X) → ((x : X) → Contains xs x → (y : Y) → f x ≡ Some y → P y) → All P (filter_map f xs)
all-taken f P [] each = All-nil P
all-taken {X} {Y} f P (x ∷ xs) each = by (f x) refl (all-taken f P xs (λ z there. each z (later z there)))
  where
    later : (z : X) → Contains xs z → Contains (x ∷ xs) z
    later z there = (suc there.0, omega (arith, there.1), there.2)

    by : (o : Option Y) → f x ≡ o → All P (filter_map f xs) → All P (filter_map f (x ∷ xs))
    by None is rest = subst (λ o. All P (cons_option o (filter_map f xs))) (sym is) rest
    by (Some y) is rest = subst (λ o. All P (cons_option o (filter_map f xs))) (sym is) (All-cons P y (filter_map f xs) (each x (0, omega arith, refl) y is) rest)

-- an accepted judgement was read, and passes
record WasRead (directory : Directory) (t : AcceptedBytes) : Type 0 where
  confirmation : Confirmation
  passes : PassesChecks (asked_by directory t) t.bytes confirmation

read-of : (directory : Directory) (t : AcceptedBytes) (v : Judgement) → verdict_on directory t ≡ v → IsAccepting v → WasRead directory t
read-of directory t (Accepted certificate digest epoch root) is taken =
    let a = (accepted (asked_by directory t) t.bytes certificate digest epoch root).0 is in record { confirmation = a.confirmation; passes = a.passes }
read-of directory t (Absent epoch root) is taken =
    let a = (absence (asked_by directory t) t.bytes epoch root).0 is in record { confirmation = a.confirmation; passes = a.passes }
read-of directory t (Refused number) is taken = absurd taken

abbrev as_judged : Directory → AcceptedBytes → Confirmation → AcceptedConfirmation
as_judged directory t c = record { asked = asked_by directory t; bytes = t.bytes; confirmation = c }

judged-is : (directory : Directory) (t : AcceptedBytes) (c : Confirmation) → whole confirmation_at t.bytes ≡ Ok c → judged_in directory t ≡ Some (as_judged directory t c)
judged-is directory t c is = ap (λ (r : Result Confirmation ℕ). option_map (as_judged directory t) (result_ok r)) is

-- a text of an honest party stands in its book
abbrev StandsInBook : World → SeenText → Type 0
StandsInBook f t = (p : PartyParts) → parts_of f t.party ≡ Some p → Contains (texts_of p.book) t.text

-- each of the three statements of a confirmation that was accepted
carried-signed : (f : World) (t : AcceptedBytes) (c : Confirmation) → IsFinal f → Real f f → AreBytes t.bytes → Contains f.judged t → PassesChecks (asked_by f.clients t) t.bytes c → SawSigned (parts_of f) (carried c)
carried-signed f t c final real are there passes x p is has = All-contains (StandsInBook f) (carried c) x all has p is
  where
    one : (who : Party) → IsVerifiedIn f.clients (claimed_in_bytes t.bytes) (seen_of who (claim_on c.about c.body who)) → StandsInBook f (seen_of who (claim_on c.about c.body who))
    one who verified q its =
        claim-signed (parts_of f) (shown f) (claimed_in_bytes t.bytes) f.clients (seen_of who (claim_on c.about c.body who)) q final.end.none
        (claims-within (messages_of f.pool) t.bytes (real.judged t there)) real.clients its verified

    text : Party → SeenText
    text who = seen_of who (claim_on c.about c.body who)

    first : Party
    first = authority_party c.first.number

    second : Party
    second = authority_party c.second.number

    all : All (StandsInBook f) (carried c)
    all = All-cons (StandsInBook f) (text (log_party c.log.number)) (text first ∷ text second ∷ []) (one (log_party c.log.number) (log-claims (asked_by f.clients t) t.bytes c are passes))
        (All-cons (StandsInBook f) (text first) (text second ∷ []) (one first (first-claims (asked_by f.clients t) t.bytes c are passes))
        (All-cons (StandsInBook f) (text second) [] (one second (second-claims (asked_by f.clients t) t.bytes c are passes)) (All-nil (StandsInBook f))))

judged-signed : (f : World) → KeepsWorld f → IsFinal f → Real f f → All (λ (j : AcceptedConfirmation). AreSigned (records_of (held_of f)) (carried j.confirmation)) (records_of (held_of f)).judged
judged-signed f kept final real =
    all-taken (judged_in f.clients) (λ (j : AcceptedConfirmation). AreSigned (records_of (held_of f)) (carried j.confirmation)) f.judged (λ t there j gives.
    let are : AreBytes t.bytes = All-contains (λ (x : AcceptedBytes). AreBytes x.bytes) f.judged t kept.each_judged there in
    let taken : IsAccepting (verdict_on f.clients t) = All-contains (λ (x : AcceptedBytes). IsAccepting (verdict_on f.clients x)) f.judged t final.seated.taken there in
    let was : WasRead f.clients t = read-of f.clients t (verdict_on f.clients t) refl taken in
    let same : as_judged f.clients t was.confirmation ≡ j = same_Some _ _ (sym (judged-is f.clients t was.confirmation was.passes.is_read) ∙ gives) in
    subst (λ (x : AcceptedConfirmation). AreSigned (records_of (held_of f)) (carried x.confirmation)) same
    (saw-signed f (carried was.confirmation) final.seated (carried-signed f t was.confirmation final real are there was.passes)))

-- ---- the theorem's premise

none-forged : (f : World) → KeepsWorld f → IsFinal f → Real f f → NoForgery (records_of (held_of f))
none-forged f kept final real = record {
  logs = λ log is.
      let s = signer-in f final.seated role.LogServer log is in
      subst (AreSigned (records_of (held_of f))) s.saw (saw-signed f s.parts.saw final.seated (real.parties role.LogServer log s.parts s.there).saw);
  authorities = λ authority is.
      let s = signer-in f final.seated role.Authority authority is in
      subst (AreSigned (records_of (held_of f))) s.saw (saw-signed f s.parts.saw final.seated (real.parties role.Authority authority s.parts s.there).saw);
  judged = judged-signed f kept final real;
  learned = saw-signed f f.learned final.seated real.learned;
}

pub goes-unforged : (checks : List CheckParts) (f : World) → Goes (first_world checks) f → Unforged f → NoForgery (records_of (held_of f))
goes-unforged checks f goes unforged =
    none-forged f goes.held.kept (final-of f goes.held.kept (seated-now f goes.held) unforged) (goes-real checks f goes unforged)

pub run-unforged : (saying : Saying) (checks : List CheckParts) (input : List ℕ) → Unforged (run saying checks input).world → NoForgery (records_of (held_of (run saying checks input).world))
run-unforged saying checks input = goes-unforged checks (run saying checks input).world (run-goes saying checks input)

-- ---- what was taken of others

-- each of the three statements of a confirmation that was accepted is one of the claims of the messages
carried-shown : (f : World) (t : AcceptedBytes) (c : Confirmation) → Contains (messages_of f.pool) t.bytes → AreBytes t.bytes → PassesChecks (asked_by f.clients t) t.bytes c
    → All (IsVerifiedIn f.clients (shown f)) (carried c)
carried-shown f t c there are passes =
    All-cons (IsVerifiedIn f.clients (shown f)) (text log) (text first ∷ text second ∷ []) (one log (log-claims (asked_by f.clients t) t.bytes c are passes))
    (All-cons (IsVerifiedIn f.clients (shown f)) (text first) (text second ∷ []) (one first (first-claims (asked_by f.clients t) t.bytes c are passes))
    (All-cons (IsVerifiedIn f.clients (shown f)) (text second) [] (one second (second-claims (asked_by f.clients t) t.bytes c are passes)) (All-nil (IsVerifiedIn f.clients (shown f)))))
  where
    text : Party → SeenText
    text who = seen_of who (claim_on c.about c.body who)

    log : Party
    log = log_party c.log.number

    first : Party
    first = authority_party c.first.number

    second : Party
    second = authority_party c.second.number

    one : (who : Party) → IsVerifiedIn f.clients (claimed_in_bytes t.bytes) (text who) → IsVerifiedIn f.clients (shown f) (text who)
    one who verified =
        still-verified f.clients f.clients (claimed_in_bytes t.bytes) (shown f) (text who) (claims-within (messages_of f.pool) t.bytes there) (λ signature is. is) verified

judged-shown : (f : World) → KeepsWorld f → IsSeated f → Seen f → (t : AcceptedBytes) (c : Confirmation) → Contains f.judged t → whole confirmation_at t.bytes ≡ Ok c
    → (s : SeenText) → Contains (carried c) s → IsVerifiedIn f.clients (shown f) s
judged-shown f kept seated seen t c there is s has =
    let are : AreBytes t.bytes = All-contains (λ (x : AcceptedBytes). AreBytes x.bytes) f.judged t kept.each_judged there in
    let taken : IsAccepting (verdict_on f.clients t) = All-contains (λ (x : AcceptedBytes). IsAccepting (verdict_on f.clients x)) f.judged t seated.taken there in
    let was : WasRead f.clients t = read-of f.clients t (verdict_on f.clients t) refl taken in
    let same : was.confirmation ≡ c = same_Some was.confirmation c (ap result_ok (sym was.passes.is_read ∙ is)) in
    All-contains (IsVerifiedIn f.clients (shown f)) (carried c) s
    (carried-shown f t c (seen.judged t there) are (subst (PassesChecks (asked_by f.clients t) t.bytes) same was.passes)) has

pub goes-shown : (checks : List CheckParts) (f : World) → Goes (first_world checks) f → AllShown f
goes-shown checks f goes =
    let seen : Seen f = goes.seen (first-seen checks) in
    record {
      saw = λ who p is. seen.parties who.role who.number p is;
      learned = seen.learned;
      judged = judged-shown f goes.held.kept (seated-now f goes.held) seen;
    }

pub run-shown : (saying : Saying) (checks : List CheckParts) (input : List ℕ) → AllShown (run saying checks input).world
run-shown saying checks input = goes-shown checks (run saying checks input).world (run-goes saying checks input)
