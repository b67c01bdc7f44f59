-- What seated parties hold is what the theorem speaks of.
use Rattle.std.proofs.Common.{◌≡◌, ◌∙◌, ◌<◌, ◌≤◌, ℕ, zero, suc, List, [], ◌∷◌, ◌++◌, arith, refl, sym, ap, subst, Bool, true, false, Option, Some, None, is_none}
use Rattle.std.specs.Prelude.{if◌then◌else◌, length, take}
use Rattle.std.specs.List.{filter_map, list_any}
use Rattle.std.specs.Option.{option_map}
use Rattle.std.proofs.lemmas.List.{take_all}
use Rattle.std.proofs.lemmas.List.Elements.{filter_map-append}
use Rattle.ar_council.specs.Council.{Council, council_of}
use Rattle.ar_safety.proofs.Held.{honest-count, own-record}
use Rattle.ar_safety.specs.Held.{AreKept, honest_records, record_at, records_of}
use Rattle.ar_safety.specs.Records.{IsHonest, IsHonestLog}
use Rattle.ar_statement.specs.Claims.{authority_party, is_party, log_party}
use Rattle.ar_statement.specs.declared.party.Party.{Party}
use Rattle.ar_world.specs.ar_nodes.Finding.{honest_in}
use Rattle.ar_world.specs.ar_nodes.Parties.{AuthorityNode, LogNode}
use Rattle.ar_world.specs.Records.{KeepsRecords, held_of}
use Rattle.ar_world.specs.State.{World}
use Rattle.authority_core.specs.Calls.{fresh_authority}
use Rattle.authority_core.specs.Honest.{IsOfHonestAuthority}
use Rattle.authority_core.specs.Record.{AuthorityRecord}
use Rattle.epoch_log.specs.Calls.{fresh}
use Rattle.epoch_log.specs.Honest.{IsOfHonestLog}
use Rattle.epoch_log.specs.Record.{LogRecord}
use Rattle.run_safety.specs.Seats.{AreSeated, IsAuthorityOf, IsLogOf, IsSeated}

-- ---- the records of those who sit

-- the record of whoever sits there, or none's
abbrev pub record_or : {X Y : Type 0} → (X → Y) → Y → Option X → Y
record_or record_of none (Some node) = record_of node
record_or record_of none None = none

-- the first of a list with one more
one-more : {X : Type 0} (parties : List (Option X)) (n : ℕ) → n < length parties → take (suc n) parties ≡ take n parties ++ honest_in parties n ∷ []
one-more [] n less = absurd (omega (arith, less))
one-more (p ∷ more) zero less = refl
one-more (p ∷ more) (suc n) less = ap (λ rest. p ∷ rest) (one-more more n (omega (arith, less)))

-- what is kept of the first of a list is what the honest ones among them have
first-records : {X Y : Type 0} (party : ℕ → Party) (dishonest : List Party) (record_of : X → Y) (none : Y) (parties : List (Option X)) (n : ℕ) → n ≤ length parties
    → ((k : ℕ) → k < length parties → is_none (honest_in parties k) ≡ list_any (is_party (party k)) dishonest)
    → filter_map (option_map record_of) (take n parties) ≡ honest_records party dishonest (λ k. record_or record_of none (honest_in parties k)) n
unfolding honest_records
first-records party dishonest record_of none parties zero within empty = refl
first-records {X} {Y} party dishonest record_of none parties (suc n) within empty =
    let less : n < length parties = omega (arith, within) in
    ap (filter_map (option_map record_of)) (one-more parties n less)
    ∙ filter_map-append (option_map record_of) (take n parties) (honest_in parties n ∷ [])
    ∙ ap (λ xs. xs ++ filter_map (option_map record_of) (honest_in parties n ∷ [])) (first-records party dishonest record_of none parties n (omega (arith, within)) empty)
    ∙ ap (λ xs. honest_records party dishonest (λ k. record_or record_of none (honest_in parties k)) n ++ xs) (by (honest_in parties n) (list_any (is_party (party n)) dishonest) (empty n less))
  where
    by : (o : Option X) (b : Bool) → is_none o ≡ b → filter_map (option_map record_of) (o ∷ []) ≡ (if b then [] else record_or record_of none o ∷ [])
    by None true e = refl
    by None false e = absurd cc
    by (Some x) true e = absurd cc
    by (Some x) false e = refl

-- of all of them
all-records : {X Y : Type 0} (party : ℕ → Party) (dishonest : List Party) (count : ℕ) (sits : ℕ → X → Type 0) (record_of : X → Y) (none : Y) (parties : List (Option X))
    → AreSeated party dishonest count sits parties
    → filter_map (option_map record_of) parties ≡ honest_records party dishonest (λ k. record_or record_of none (honest_in parties k)) count
all-records party dishonest count sits record_of none parties seated =
    let most : count ≤ length parties = let e = seated.all in omega (arith, e) in
    sym (ap (filter_map (option_map record_of)) (take_all count parties (let e = seated.all in omega (arith, e))))
    ∙ first-records party dishonest record_of none parties count most (λ k less. seated.empty k (let e = seated.all in omega (arith, e, less)))

-- who is not dishonest sits in its place
pub sits-there : {X : Type 0} (party : ℕ → Party) (dishonest : List Party) (count : ℕ) (sits : ℕ → X → Type 0) (parties : List (Option X)) (n : ℕ)
    → AreSeated party dishonest count sits parties → n < count → list_any (is_party (party n)) dishonest ≡ false → (node : X) × (honest_in parties n ≡ Some node)
sits-there {X} party dishonest count sits parties n seated less honest = by (honest_in parties n) refl (seated.empty n less ∙ honest)
  where
    by : (o : Option X) → honest_in parties n ≡ o → is_none o ≡ false → (node : X) × (honest_in parties n ≡ Some node)
    by None is none = absurd cc
    by (Some node) is none = (node, is)

-- ---- logs

-- the record of the log in a place
abbrev pub log_past : World → ℕ → LogRecord
log_past w n = record_or (λ (node : LogNode). node.core.log.past) (fresh 0 (council_of w.clients) 1).past (honest_in w.logs n)

-- so many logs as the clients know
pub logs-known : (w : World) → IsSeated w → length w.genesis.logs ≡ length w.clients.logs
logs-known w seated = ap (λ (c : Council). c.logs) (sym seated.council)

pub log-records : (w : World) → IsSeated w → (held_of w).logs ≡ honest_records log_party (held_of w).dishonest (log_past w) (length w.clients.logs)
log-records w seated =
    all-records log_party (held_of w).dishonest (length w.genesis.logs) (IsLogOf w.genesis) (λ (node : LogNode). node.core.log.past)
    (fresh 0 (council_of w.clients) 1).past w.logs seated.logs
    ∙ ap (honest_records log_party (held_of w).dishonest (log_past w)) (logs-known w seated)

-- the theorem's record of an honest log is its own
honest-log : (w : World) → IsSeated w → KeepsRecords w → (n : ℕ) → IsHonestLog (records_of (held_of w)) n
    → IsOfHonestLog (council_of w.clients) n ((records_of (held_of w)).logs n)
honest-log w seated keeps n is =
    let dishonest : List Party = (held_of w).dishonest in
    let none : LogRecord = (fresh 0 (council_of w.clients) 1).past in
    let there = sits-there log_party dishonest (length w.genesis.logs) (IsLogOf w.genesis) w.logs n seated.logs
    (let known = is.known in let e = logs-known w seated in omega (arith, known, e)) is.honest in
    let node : LogNode = there.0 in
    let own : IsLogOf w.genesis n node = seated.logs.own n node there.1 in
    let its : (records_of (held_of w)).logs n ≡ node.core.log.past =
    ap (λ (xs : List LogRecord). record_at log_party dishonest xs none n) (log-records w seated)
    ∙ own-record log_party dishonest (log_past w) none (length w.clients.logs) n is.known is.honest
    ∙ ap (record_or (λ (node : LogNode). node.core.log.past) none) there.1 in
    subst (IsOfHonestLog (council_of w.clients) n) (sym its)
    (subst (λ (m : ℕ). IsOfHonestLog (council_of w.clients) m node.core.log.past) own.number
    (subst (λ (c : Council). IsOfHonestLog c node.core.log.me node.core.log.past) (own.council ∙ sym seated.council) (keeps.logs n node there.1)))

-- ---- authorities

abbrev pub authority_past : World → ℕ → AuthorityRecord
authority_past w n = record_or (λ (node : AuthorityNode). node.state.past) (fresh_authority 1) (honest_in w.authorities n)

pub authorities-known : (w : World) → IsSeated w → length w.genesis.authorities ≡ length w.clients.authorities
authorities-known w seated = ap (λ (c : Council). c.authorities) (sym seated.council)

pub authority-records : (w : World) → IsSeated w
    → (held_of w).authorities ≡ honest_records authority_party (held_of w).dishonest (authority_past w) (length w.clients.authorities)
authority-records w seated =
    all-records authority_party (held_of w).dishonest (length w.genesis.authorities) (IsAuthorityOf w.genesis) (λ (node : AuthorityNode). node.state.past)
    (fresh_authority 1) w.authorities seated.authorities
    ∙ ap (honest_records authority_party (held_of w).dishonest (authority_past w)) (authorities-known w seated)

honest-authority : (w : World) → IsSeated w → KeepsRecords w → (n : ℕ) → IsHonest (records_of (held_of w)) (authority_party n)
    → IsOfHonestAuthority (council_of w.clients) n ((records_of (held_of w)).authorities n)
honest-authority w seated keeps n is =
    let dishonest : List Party = (held_of w).dishonest in
    let none : AuthorityRecord = fresh_authority 1 in
    let there = sits-there authority_party dishonest (length w.genesis.authorities) (IsAuthorityOf w.genesis) w.authorities n seated.authorities
    (let known = is.known in let e = authorities-known w seated in omega (arith, known, e)) is.honest in
    let node : AuthorityNode = there.0 in
    let own : IsAuthorityOf w.genesis n node = seated.authorities.own n node there.1 in
    let its : (records_of (held_of w)).authorities n ≡ node.state.past =
    ap (λ (xs : List AuthorityRecord). record_at authority_party dishonest xs none n) (authority-records w seated)
    ∙ own-record authority_party dishonest (authority_past w) none (length w.clients.authorities) n is.known is.honest
    ∙ ap (record_or (λ (node : AuthorityNode). node.state.past) none) there.1 in
    subst (IsOfHonestAuthority (council_of w.clients) n) (sym its)
    (subst (λ (m : ℕ). IsOfHonestAuthority (council_of w.clients) m node.state.past) own.number
    (subst (λ (c : Council). IsOfHonestAuthority c node.state.me node.state.past) (own.council ∙ sym seated.council) (keeps.authorities n node there.1)))

-- ---- all that is kept

pub seated-kept : (w : World) → IsSeated w → KeepsRecords w → AreKept (held_of w)
seated-kept w seated keeps = record {
  is_directory = keeps.directory;
  all_logs = ap length (log-records w seated) ∙ honest-count log_party (held_of w).dishonest (log_past w) (length w.clients.logs);
  all_authorities = ap length (authority-records w seated) ∙ honest-count authority_party (held_of w).dishonest (authority_past w) (length w.clients.authorities);
  logs = honest-log w seated keeps;
  authorities = honest-authority w seated keeps;
  bytes = keeps.bytes;
  taken = seated.taken;
}
