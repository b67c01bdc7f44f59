-- Where no claim of a network is forged, all that is known of honest parties is real, and the theorem's premise on forgery holds.
use Rattle.std.proofs.Common.{◌≡◌, ◌∙◌, ◌⊎◌, ℕ, ◌≤◌, zero, suc, ◌+◌, ◌<◌, List, [], ◌∷◌, ◌++◌, length, refl, sym, ap, subst, arith, Bool, true, false, cond, inl, inr, Option, Some, None, Result, Ok}
use Rattle.std.specs.Prelude.{All, Contains, flat_map, map}
use Rattle.std.specs.List.{cons_option, filter_map}
use Rattle.std.specs.Option.{option_map}
use Rattle.std.specs.Result.{result_ok}
use Rattle.std.proofs.lemmas.Bool.{cases_lt}
use Rattle.std.proofs.lemmas.List.Elements.{All-cons, All-contains, All-head, All-nil, All-tail, Contains-append_left, Contains-append_right, Contains-push}
use Rattle.std.proofs.lemmas.Option.{same_Some}
use Rattle.ar_base.specs.Bytes.{AreBytes}
use Rattle.ar_base.specs.Prefixes.{BeginsWith}
use Rattle.ar_bytes.specs.Reading.{whole}
use Rattle.ar_claims.specs.Claimed.{claimed_in_bytes}
use Rattle.ar_claims.specs.Verified.{IsVerifiedIn}
use Rattle.ar_message.specs.Confirmation.{Confirmation, confirmation_at}
use Rattle.ar_safety.proofs.Held.{run-safe}
use Rattle.ar_safety.specs.Held.{AcceptedBytes, AreSafe, IsAccepting, asked_by, honest_records, judged_in, records_of, verdict_on}
use Rattle.ar_safety.specs.Records.{AcceptedConfirmation, AreSigned, IsHonest, carried, seen_by, signed_by}
use Rattle.ar_safety.specs.Theorem.{Few, NoCollision, NoForgery}
use Rattle.ar_statement.specs.Claims.{authority_party, has_party, log_party, party}
use Rattle.ar_statement.specs.declared.party.Party.{Party}
use Rattle.ar_statement.specs.declared.party.Role.{Role}
use Rattle.ar_statement.specs.declared.party.Role.TheVariants as role
use Rattle.ar_statement.specs.declared.text.SeenText.{SeenText}
use Rattle.authority_core.specs.Record.{AuthorityRecord}
use Rattle.authority_keeper.specs.Inputs as authority_inputs
use Rattle.authority_keeper.specs.Keeping as authority_keeping
use Rattle.authority_keeper.specs.Keeping.{AuthorityStanding}
use Rattle.client_rule.proofs.Claiming.{first-claims, log-claims as log-carried, second-claims}
use Rattle.client_rule.proofs.Meanings.{absence, accepted}
use Rattle.client_rule.specs.Meaning.{PassesChecks}
use Rattle.client_rule.specs.Rule.{claim_on}
use Rattle.client_rule.specs.declared.judgement.Judgement.{Judgement}
use Rattle.client_rule.specs.declared.judgement.Judgement.TheVariants.{Absent, Accepted, Refused}
use Rattle.epoch_log.specs.Record.{LogRecord}
use Rattle.kept_party.specs.Taking.{Becomes}
use Rattle.key_roll.specs.Book.{texts_of}
use Rattle.lms_tree.specs.Key.{public_of}
use Rattle.lms_tree.specs.KeyParts.{KeyParts}
use Rattle.log_journal.specs.Inputs as log_inputs
use Rattle.log_journal.specs.Steps.{LogStanding}
use Rattle.log_journal.specs.Steps as log_standings
use Rattle.log_keeper.specs.Keeping as log_keeping
use Rattle.party_keys.specs.Directory.{Directory, keys_of}
use Rattle.party_keys.specs.Seen.{seen_of}
use Rattle.party_keys.specs.Signers.{Claimed}
use Rattle.run_safety.specs.Own.{Grows, HasRolls, IsOwned, KnowsReal, PartyParts, SawSigned, real_keys}
use Rattle.run_safety.proofs.PartySteps.{IsEnd, IsReal, same-party}
use Rattle.run_safety.proofs.RealKeys.{claim-signed}
use Rattle.process_safety.specs.Network.{IsNetwork, Network, bytes_of_act, clients_in, held_in, is_honest_in, new_clients}
use Rattle.process_safety.specs.Unforged.{IsRealIn, NoneForgedIn, authority_has, authority_messages, claims_in, honest_at, honest_of, if_honest, log_has, log_messages, taken_in}
use Rattle.process_safety.proofs.Along.{grows-along, real-along}
use Rattle.process_safety.proofs.Authorities.{KeepsAuthorityAs, authority-text-kept, authority-text-steps}
use Rattle.process_safety.proofs.Claims.{authority-claims, claims_of_authority, claims_of_log, in-flat_map, log-claims}
use Rattle.process_safety.proofs.Clients.{AreReal, acts-real}
use Rattle.process_safety.proofs.Kept.{authority-kept, authority-record, clients-kept, honest-of-records, honest-there, log-kept, log-record, network-kept, new-authority, new-log}
use Rattle.process_safety.proofs.Logs.{KeepsLogAs, log-text-kept, log-text-steps}

-- ---- the honest parties

-- an honest log is told of by its standing
log-is : (n : Network) (number : ℕ) (p : PartyParts) → honest_at n role.LogServer number ≡ Some p → (is_honest_in n (log_party number) ≡ true) × (log_has (n.logs number).standing ≡ p)
log-is n number p is = by (is_honest_in n (log_party number)) refl is
  where
    by : (b : Bool) → is_honest_in n (log_party number) ≡ b → if_honest b (log_has (n.logs number).standing) ≡ Some p
        → (is_honest_in n (log_party number) ≡ true) × (log_has (n.logs number).standing ≡ p)
    by true honest e = (honest, same_Some (log_has (n.logs number).standing) p e)
    by false honest e = absurd cc

authority-is : (n : Network) (number : ℕ) (p : PartyParts) → honest_at n role.Authority number ≡ Some p
    → (is_honest_in n (authority_party number) ≡ true) × (authority_has (n.authorities number).standing ≡ p)
authority-is n number p is = by (is_honest_in n (authority_party number)) refl is
  where
    by : (b : Bool) → is_honest_in n (authority_party number) ≡ b → if_honest b (authority_has (n.authorities number).standing) ≡ Some p
        → (is_honest_in n (authority_party number) ≡ true) × (authority_has (n.authorities number).standing ≡ p)
    by true honest e = (honest, same_Some (authority_has (n.authorities number).standing) p e)
    by false honest e = absurd cc

owned-at : (n : Network) → IsNetwork n → (r : Role) (number : ℕ) (p : PartyParts) → honest_at n r number ≡ Some p → IsOwned (party r number) p
owned-at n is role.LogServer number p there =
    let h = log-is n number p there in
    let kept = log-kept n number is h.0 in
    let s : LogStanding = (n.logs number).standing in
    subst (IsOwned (log_party number)) h.1 (record {
      sound = kept.keeps.core.log.honest.signs_what_it_tells.sound;
      many = kept.keeps.book.many;
      rolls = subst (λ m. HasRolls (log_party m) s.core.log.past.signed s.keys) kept.number_is kept.keeps.rolls;
    })
owned-at n is role.Authority number p there =
    let h = authority-is n number p there in
    let kept = authority-kept n number is h.0 in
    let s : AuthorityStanding = (n.authorities number).standing in
    subst (IsOwned (authority_party number)) h.1 (record {
      sound = kept.keeps.state.honest.sound;
      many = kept.keeps.book.many;
      rolls = subst (λ m. HasRolls (authority_party m) s.state.past.signed s.keys) kept.number_is kept.keeps.rolls;
    })
owned-at n is role.Owner number p there = absurd cc
owned-at n is role.Client number p there = absurd cc

end-of : (n : Network) → IsNetwork n → NoneForgedIn n → IsEnd (honest_of n) (claims_in n)
end-of n is none = record { none = none; each = λ who p there. owned-at n is who.role who.number p there }

-- ---- what the first directory knows

log-grows : (n : Network) (number : ℕ) → IsNetwork n → is_honest_in n (log_party number) ≡ true
    → Grows (log_has (log_standings.new_standing number n.directory (n.logs number).key)) (log_has (n.logs number).standing)
log-grows n number is honest =
    let h = is.logs number honest in
    grows-along (Becomes log_keeping.takes) (KeepsLogAs n.directory number) (log-text-kept n.directory number) log_has (log_party number)
    (λ (text : List ℕ). claims_of_log (log_inputs.input_in text)) (log-text-steps n.directory number) (n.logs number).texts
    (log_standings.new_standing number n.directory (n.logs number).key) (n.logs number).standing h.bytes h.leads (new-log n number is honest)

authority-grows : (n : Network) (number : ℕ) → IsNetwork n → is_honest_in n (authority_party number) ≡ true
    → Grows (authority_has (authority_keeping.new_standing number n.directory (n.authorities number).key)) (authority_has (n.authorities number).standing)
authority-grows n number is honest =
    let h = is.authorities number honest in
    grows-along (Becomes authority_keeping.takes) (KeepsAuthorityAs n.directory number) (authority-text-kept n.directory number) authority_has (authority_party number)
    (λ (text : List ℕ). claims_of_authority (authority_inputs.input_in text)) (authority-text-steps n.directory number) (n.authorities number).texts
    (authority_keeping.new_standing number n.directory (n.authorities number).key) (n.authorities number).standing h.bytes h.leads (new-authority n number is honest)

-- the public keys of a ring that begins with a key begin with its public key
first-public : (key : KeyParts) (ring : List KeyParts) → BeginsWith ring (key ∷ []) → BeginsWith (map public_of ring) (public_of key ∷ [])
first-public key ring begins = (map public_of begins.0, ap (map public_of) begins.1)

-- what all began with is real
pub first-known : (n : Network) → IsNetwork n → KnowsReal (honest_of n) n.directory
first-known n is who p there = by who.role who.number p there
  where
    by : (r : Role) (number : ℕ) (p : PartyParts) → honest_at n r number ≡ Some p → BeginsWith (real_keys p) (keys_of n.directory (party r number))
    by role.LogServer number p there =
        let h = log-is n number p there in
        subst (BeginsWith (real_keys p)) (sym (is.logs number h.0).first)
        (first-public (n.logs number).key p.ring (subst (λ (q : PartyParts). BeginsWith q.ring ((n.logs number).key ∷ [])) h.1 (log-grows n number is h.0).ring))
    by role.Authority number p there =
        let h = authority-is n number p there in
        subst (BeginsWith (real_keys p)) (sym (is.authorities number h.0).first)
        (first-public (n.authorities number).key p.ring (subst (λ (q : PartyParts). BeginsWith q.ring ((n.authorities number).key ∷ [])) h.1 (authority-grows n number is h.0).ring))
    by role.Owner number p there = absurd cc
    by role.Client number p there = absurd cc

-- ---- what stands in messages

-- what an honest party has is among what the honest ones have
among-honest : {X : Type 0} (party : ℕ → Party) (dishonest : List Party) (of : ℕ → X) (count number : ℕ) → number < count → has_party dishonest (party number) ≡ false
    → Contains (honest_records party dishonest of count) (of number)
unfolding honest_records
among-honest party dishonest of zero number less honest = absurd (omega (arith, less))
among-honest {X} party dishonest of (suc count) number less honest =
    by (cases_lt number count) (λ before. among-honest party dishonest of count number before honest)
  where
    front : List X
    front = honest_records party dishonest of count

    last : (b : Bool) → b ≡ false → Contains (front ++ cond b [] (of count ∷ [])) (of count)
    last true e = absurd cc
    last false e = Contains-push front (of count)

    by : (number < count) ⊎ (count ≤ number) → (number < count → Contains front (of number)) → Contains (front ++ cond (has_party dishonest (party count)) [] (of count ∷ [])) (of number)
    by (inl before) there = Contains-append_left front _ (of number) (there before)
    by (inr least) there =
        let same : number ≡ count = omega (arith, less, least) in
        subst (λ (m : ℕ). Contains (front ++ cond (has_party dishonest (party count)) [] (of count ∷ [])) (of m)) (sym same)
        (last (has_party dishonest (party count)) (ap (λ (m : ℕ). has_party dishonest (party m)) (sym same) ∙ honest))

claims-within : (n : Network) (bytes : List ℕ) → Contains (taken_in n) bytes → (c : Claimed) → Contains (claimed_in_bytes bytes) c → Contains (claims_in n) c
claims-within n bytes there c has = in-flat_map claimed_in_bytes (taken_in n) bytes c there has

-- what stands in the journals of honest logs, and of honest authorities
abbrev of_logs : Network → List (List ℕ)
of_logs n = flat_map log_messages (honest_records log_party n.dishonest (λ (number : ℕ). (n.logs number).texts) (length n.directory.logs))

abbrev of_authorities : Network → List (List ℕ)
of_authorities n = flat_map authority_messages (honest_records authority_party n.dishonest (λ (number : ℕ). (n.authorities number).texts) (length n.directory.authorities))

log-within : (n : Network) (number : ℕ) → is_honest_in n (log_party number) ≡ true → (text : List ℕ) → Contains (n.logs number).texts text
    → (c : Claimed) → Contains (claims_of_log (log_inputs.input_in text)) c → Contains (claims_in n) c
log-within n number honest text there c has =
    let m = log-claims (n.logs number).texts text c there has in
    let h = honest-there n (log_party number) honest in
    let each : List (List (List ℕ)) = honest_records log_party n.dishonest (λ (k : ℕ). (n.logs k).texts) (length n.directory.logs) in
    let mine : Contains each (n.logs number).texts =
    among-honest log_party n.dishonest (λ (k : ℕ). (n.logs k).texts) (length n.directory.logs) number h.0 h.1 in
    claims-within n m.0 (Contains-append_left (of_logs n) (of_authorities n ++ map bytes_of_act n.acts) m.0 (in-flat_map log_messages each (n.logs number).texts m.0 mine m.1)) c m.2

authority-within : (n : Network) (number : ℕ) → is_honest_in n (authority_party number) ≡ true → (text : List ℕ) → Contains (n.authorities number).texts text
    → (c : Claimed) → Contains (claims_of_authority (authority_inputs.input_in text)) c → Contains (claims_in n) c
authority-within n number honest text there c has =
    let m = authority-claims (n.authorities number).texts text c there has in
    let h = honest-there n (authority_party number) honest in
    let each : List (List (List ℕ)) = honest_records authority_party n.dishonest (λ (k : ℕ). (n.authorities k).texts) (length n.directory.authorities) in
    let mine : Contains each (n.authorities number).texts =
    among-honest authority_party n.dishonest (λ (k : ℕ). (n.authorities k).texts) (length n.directory.authorities) number h.0 h.1 in
    claims-within n m.0 (Contains-append_right (of_logs n) (of_authorities n ++ map bytes_of_act n.acts) m.0
    (Contains-append_left (of_authorities n) (map bytes_of_act n.acts) m.0 (in-flat_map authority_messages each (n.authorities number).texts m.0 mine m.1))) c m.2

act-there : (n : Network) (bytes : List ℕ) → Contains (map bytes_of_act n.acts) bytes → Contains (taken_in n) bytes
act-there n bytes there =
    Contains-append_right (of_logs n) (of_authorities n ++ map bytes_of_act n.acts) bytes
    (Contains-append_right (of_authorities n) (map bytes_of_act n.acts) bytes there)

-- ---- what is known is real

log-real : (n : Network) (number : ℕ) → IsNetwork n → NoneForgedIn n → is_honest_in n (log_party number) ≡ true → IsReal (honest_of n) (log_has (n.logs number).standing)
log-real n number is none honest =
    let h = is.logs number honest in
    let first : LogStanding = log_standings.new_standing number n.directory (n.logs number).key in
    real-along (Becomes log_keeping.takes) (KeepsLogAs n.directory number) (log-text-kept n.directory number) log_has (log_party number)
    (λ (text : List ℕ). claims_of_log (log_inputs.input_in text)) (log-text-steps n.directory number) (honest_of n) (claims_in n) (n.logs number).texts
    first (n.logs number).standing (end-of n is none) (log-within n number honest)
    (λ p there. subst (Grows (log_has (n.logs number).standing)) (log-is n number p there).1 (same-party (log_has (n.logs number).standing)))
    h.bytes h.leads (new-log n number is honest)
    (record { knows = first-known n is; saw = λ t p there has. absurd (omega (arith, has.1)) })

authority-real : (n : Network) (number : ℕ) → IsNetwork n → NoneForgedIn n → is_honest_in n (authority_party number) ≡ true → IsReal (honest_of n) (authority_has (n.authorities number).standing)
authority-real n number is none honest =
    let h = is.authorities number honest in
    let first : AuthorityStanding = authority_keeping.new_standing number n.directory (n.authorities number).key in
    real-along (Becomes authority_keeping.takes) (KeepsAuthorityAs n.directory number) (authority-text-kept n.directory number) authority_has (authority_party number)
    (λ (text : List ℕ). claims_of_authority (authority_inputs.input_in text)) (authority-text-steps n.directory number) (honest_of n) (claims_in n) (n.authorities number).texts
    first (n.authorities number).standing (end-of n is none) (authority-within n number honest)
    (λ p there. subst (Grows (authority_has (n.authorities number).standing)) (authority-is n number p there).1 (same-party (authority_has (n.authorities number).standing)))
    h.bytes h.leads (new-authority n number is honest)
    (record { knows = first-known n is; saw = λ t p there has. absurd (omega (arith, has.1)) })

real-at : (n : Network) → IsNetwork n → NoneForgedIn n → (r : Role) (number : ℕ) (p : PartyParts) → honest_at n r number ≡ Some p → IsReal (honest_of n) p
real-at n is none role.LogServer number p there = let h = log-is n number p there in subst (IsReal (honest_of n)) h.1 (log-real n number is none h.0)
real-at n is none role.Authority number p there = let h = authority-is n number p there in subst (IsReal (honest_of n)) h.1 (authority-real n number is none h.0)
real-at n is none role.Owner number p there = absurd cc
real-at n is none role.Client number p there = absurd cc

clients-real : (n : Network) → IsNetwork n → NoneForgedIn n → AreReal (honest_of n) (taken_in n) (clients_in n)
clients-real n is none =
    acts-real (honest_of n) (claims_in n) (taken_in n) n.acts (new_clients n.directory) (end-of n is none) is.acts (act-there n) (claims-within n) (record {
      knows = first-known n is;
      learned = λ t p there has. absurd (omega (arith, has.1));
      judged = All-nil (λ (t : AcceptedBytes). Contains (taken_in n) t.bytes);
    })

pub network-real : (n : Network) → IsNetwork n → NoneForgedIn n → IsRealIn n
network-real n is none =
    let clients = clients-real n is none in
    record {
      clients = clients.knows;
      learned = clients.learned;
      knows = λ who p there. (real-at n is none who.role who.number p there).knows;
      saw = λ who p there. (real-at n is none who.role who.number p there).saw;
    }

-- ---- the theorem's records

-- an honest party of the records is one of the network, with the record's book and what it saw
record Signs (n : Network) (who : Party) : Type 0 where
  parts : PartyParts
  there : honest_of n who ≡ Some parts
  signed : texts_of parts.book ≡ signed_by (records_of (held_in n)) who
  saw : parts.saw ≡ seen_by (records_of (held_in n)) who

signs-at : (n : Network) → IsNetwork n → (r : Role) (number : ℕ) → IsHonest (records_of (held_in n)) (party r number) → Signs n (party r number)
signs-at n is role.LogServer number h =
    let honest = honest-of-records n (log_party number) is h in
    let its = log-record n number honest in
    record {
      parts = log_has (n.logs number).standing;
      there = ap (λ (b : Bool). if_honest b (log_has (n.logs number).standing)) honest;
      signed = ap (λ (x : LogRecord). texts_of x.signed) (sym its);
      saw = ap (λ (x : LogRecord). x.seen) (sym its);
    }
signs-at n is role.Authority number h =
    let honest = honest-of-records n (authority_party number) is h in
    let its = authority-record n number honest in
    record {
      parts = authority_has (n.authorities number).standing;
      there = ap (λ (b : Bool). if_honest b (authority_has (n.authorities number).standing)) honest;
      signed = ap (λ (x : AuthorityRecord). texts_of x.signed) (sym its);
      saw = ap (λ (x : AuthorityRecord). x.seen) (sym its);
    }
signs-at n is role.Owner number h = absurd (let none : number < 0 = h.known in omega (arith, none))
signs-at n is role.Client number h = absurd (let none : number < 0 = h.known in omega (arith, none))

saw-signed : (n : Network) (seen : List SeenText) → IsNetwork n → SawSigned (honest_of n) seen → AreSigned (records_of (held_in n)) seen
saw-signed n seen is saw who text honest has =
    let s = signs-at n is who.role who.number honest in
    subst (λ (texts : List (List ℕ)). Contains texts text) s.signed (saw (record { party = who; text = text }) s.parts s.there has)

-- ---- what clients accepted

-- what the items of a list give has the property that each gives
all-given : {X Y : Type 0} (f : X → Option Y) (P : X → Type 0) (Q : Y → Type 0) (xs : List X) → All P xs → ((x : X) → P x → (y : Y) → f x ≡ Some y → Q y) → All Q (filter_map f xs)
all-given f P Q [] all each = All-nil Q
all-given {X} {Y} f P Q (x ∷ xs) all each = by (f x) refl (all-given f P Q xs (All-tail P x xs all) each)
  where
    by : (o : Option Y) → f x ≡ o → All Q (filter_map f xs) → All Q (filter_map f (x ∷ xs))
    by None is rest = subst (λ (o : Option Y). All Q (cons_option o (filter_map f xs))) (sym is) rest
    by (Some y) is rest = subst (λ (o : Option Y). All Q (cons_option o (filter_map f xs))) (sym is) (All-cons Q y (filter_map f xs) (each x (All-head P x xs all) y is) rest)

-- an accepted judgement was read, and passes
record WasRead (directory : Directory) (t : AcceptedBytes) : Type 0 where
  confirmation : Confirmation
  passes : PassesChecks (asked_by directory t) t.bytes confirmation

read-of : (directory : Directory) (t : AcceptedBytes) (v : Judgement) → verdict_on directory t ≡ v → IsAccepting v → WasRead directory t
read-of directory t (Accepted certificate digest epoch root) is taken =
    let a = (accepted (asked_by directory t) t.bytes certificate digest epoch root).0 is in record { confirmation = a.confirmation; passes = a.passes }
read-of directory t (Absent epoch root) is taken =
    let a = (absence (asked_by directory t) t.bytes epoch root).0 is in record { confirmation = a.confirmation; passes = a.passes }
read-of directory t (Refused number) is taken = absurd taken

abbrev as_judged : Directory → AcceptedBytes → Confirmation → AcceptedConfirmation
as_judged directory t c = record { asked = asked_by directory t; bytes = t.bytes; confirmation = c }

judged-is : (directory : Directory) (t : AcceptedBytes) (c : Confirmation) → whole confirmation_at t.bytes ≡ Ok c → judged_in directory t ≡ Some (as_judged directory t c)
judged-is directory t c is = ap (λ (r : Result Confirmation ℕ). option_map (as_judged directory t) (result_ok r)) is

-- a text of an honest party stands in its book
abbrev StandsInBook : Network → SeenText → Type 0
StandsInBook n t = (p : PartyParts) → honest_of n t.party ≡ Some p → Contains (texts_of p.book) t.text

-- each of the three statements of a confirmation that was accepted
carried-signed : (n : Network) (t : AcceptedBytes) (c : Confirmation) → IsNetwork n → NoneForgedIn n → AreBytes t.bytes → Contains (taken_in n) t.bytes
    → PassesChecks (asked_by (clients_in n).directory t) t.bytes c → SawSigned (honest_of n) (carried c)
carried-signed n t c is none are there passes x p its has = All-contains (StandsInBook n) (carried c) x all has p its
  where
    keys : Directory
    keys = (clients_in n).directory

    text : Party → SeenText
    text who = seen_of who (claim_on c.about c.body who)

    one : (who : Party) → IsVerifiedIn keys (claimed_in_bytes t.bytes) (text who) → StandsInBook n (text who)
    one who verified q its =
        claim-signed (honest_of n) (claims_in n) (claimed_in_bytes t.bytes) keys (text who) q none (claims-within n t.bytes there) (clients-real n is none).knows its verified

    first : Party
    first = authority_party c.first.number

    second : Party
    second = authority_party c.second.number

    all : All (StandsInBook n) (carried c)
    all = All-cons (StandsInBook n) (text (log_party c.log.number)) (text first ∷ text second ∷ []) (one (log_party c.log.number) (log-carried (asked_by keys t) t.bytes c are passes))
        (All-cons (StandsInBook n) (text first) (text second ∷ []) (one first (first-claims (asked_by keys t) t.bytes c are passes))
        (All-cons (StandsInBook n) (text second) [] (one second (second-claims (asked_by keys t) t.bytes c are passes)) (All-nil (StandsInBook n))))

-- what is known of each judgement that is held
record IsHeld (n : Network) (t : AcceptedBytes) : Type 0 where
  taken : IsAccepting (verdict_on (clients_in n).directory t)
  bytes : AreBytes t.bytes
  there : Contains (taken_in n) t.bytes

all-held : (n : Network) (judged : List AcceptedBytes) → All (λ (t : AcceptedBytes). IsAccepting (verdict_on (clients_in n).directory t)) judged → All (λ (t : AcceptedBytes). AreBytes t.bytes) judged
    → All (λ (t : AcceptedBytes). Contains (taken_in n) t.bytes) judged → All (IsHeld n) judged
all-held n [] taken bytes there = All-nil (IsHeld n)
all-held n (t ∷ more) taken bytes there =
    let Taken : AcceptedBytes → Type 0 = λ t. IsAccepting (verdict_on (clients_in n).directory t) in
    let Bytes : AcceptedBytes → Type 0 = λ t. AreBytes t.bytes in
    let There : AcceptedBytes → Type 0 = λ t. Contains (taken_in n) t.bytes in
    All-cons (IsHeld n) t more (record { taken = All-head Taken t more taken; bytes = All-head Bytes t more bytes; there = All-head There t more there })
    (all-held n more (All-tail Taken t more taken) (All-tail Bytes t more bytes) (All-tail There t more there))

judged-signed : (n : Network) → IsNetwork n → NoneForgedIn n → All (λ (j : AcceptedConfirmation). AreSigned (records_of (held_in n)) (carried j.confirmation)) (records_of (held_in n)).judged
judged-signed n is none =
    let keys : Directory = (clients_in n).directory in
    let kept = clients-kept n is in
    all-given (judged_in keys) (IsHeld n) (λ (j : AcceptedConfirmation). AreSigned (records_of (held_in n)) (carried j.confirmation)) (clients_in n).judged
    (all-held n (clients_in n).judged kept.taken kept.bytes (clients-real n is none).judged) (λ t h j gives.
    let was : WasRead keys t = read-of keys t (verdict_on keys t) refl h.taken in
    let same : as_judged keys t was.confirmation ≡ j = same_Some _ _ (sym (judged-is keys t was.confirmation was.passes.is_read) ∙ gives) in
    subst (λ (x : AcceptedConfirmation). AreSigned (records_of (held_in n)) (carried x.confirmation)) same
    (saw-signed n (carried was.confirmation) is (carried-signed n t was.confirmation is none h.bytes h.there was.passes)))

-- ---- the theorem's premise, and the theorem

pub network-unforged : (n : Network) → IsNetwork n → NoneForgedIn n → NoForgery (records_of (held_in n))
network-unforged n is none = record {
  logs = λ log h.
      let s = signs-at n is role.LogServer log h in
      subst (AreSigned (records_of (held_in n))) s.saw (saw-signed n s.parts.saw is (real-at n is none role.LogServer log s.parts s.there).saw);
  authorities = λ authority h.
      let s = signs-at n is role.Authority authority h in
      subst (AreSigned (records_of (held_in n))) s.saw (saw-signed n s.parts.saw is (real-at n is none role.Authority authority s.parts s.there).saw);
  judged = judged-signed n is none;
  learned = saw-signed n (clients_in n).learned is (clients-real n is none).learned;
}

pub network-safe : (n : Network) → IsNetwork n → Few (records_of (held_in n)) → NoneForgedIn n → NoCollision (records_of (held_in n)) → AreSafe (held_in n)
network-safe n is few none clean = run-safe (held_in n) (network-kept n is) few (network-unforged n is none) clean
