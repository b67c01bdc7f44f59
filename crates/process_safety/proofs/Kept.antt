-- Whatever the histories of a network's parties, it has the records of which the theorem speaks.
use Rattle.std.proofs.Common.{◌≡◌, ◌∙◌, ℕ, ◌<◌, ◌≤◌, ◌^◌, List, [], ◌∷◌, length, refl, sym, ap, subst, arith, Bool, true, false, nat_lt, Some}
use Rattle.std.specs.Prelude.{All, not, slice_get}
use Rattle.std.proofs.lemmas.Bool.{and_parts, lt-ltb, ltb-true, not-true}
use Rattle.std.proofs.lemmas.List.Elements.{All-nil}
use Rattle.ar_base.specs.Bytes.{AreBytes}
use Rattle.ar_council.specs.Council.{Council, council_of, count_of}
use Rattle.ar_safety.proofs.Held.{honest-count, own-record}
use Rattle.ar_safety.specs.Held.{AcceptedBytes, AreKept, IsAccepting, honest_below, records_of, verdict_on}
use Rattle.ar_safety.specs.Records.{IsHonest, IsHonestLog}
use Rattle.ar_statement.specs.Claims.{authority_party, has_party, log_party, most_parties}
use Rattle.ar_statement.specs.declared.party.Party.{Party}
use Rattle.authority_core.specs.Calls.{fresh_authority}
use Rattle.authority_core.specs.Honest.{IsOfHonestAuthority}
use Rattle.authority_keeper.specs.Keeping as authority_keeping
use Rattle.authority_keeper.specs.Keeping.{AuthorityStanding}
use Rattle.epoch_log.specs.Calls.{fresh}
use Rattle.epoch_log.specs.Honest.{IsOfHonestLog}
use Rattle.kept_party.specs.Taking.{Becomes}
use Rattle.lms_tree.specs.Key.{public_of}
use Rattle.lms_tree.specs.declared.public_key.LmsPublic.{LmsPublic}
use Rattle.log_journal.specs.Steps.{LogStanding}
use Rattle.log_journal.specs.Steps as log_standings
use Rattle.log_keeper.specs.Keeping as log_keeping
use Rattle.party_keys.specs.Directory.{keys_of}
use Rattle.process_safety.specs.Network.{IsNetwork, Network, clients_in, held_in, is_honest_in, new_clients}
use Rattle.process_safety.proofs.Along.{kept-along}
use Rattle.process_safety.proofs.Authorities.{KeepsAuthorityAs, authority-text-kept, new-authority-as}
use Rattle.process_safety.proofs.Clients.{AreClients, acts-kept}
use Rattle.process_safety.proofs.Logs.{KeepsLogAs, log-text-kept, new-log-kept}

-- ---- clients

pub clients-kept : (n : Network) → IsNetwork n → AreClients n.directory (clients_in n)
clients-kept n is =
    acts-kept n.directory n.acts (new_clients n.directory) is.acts (record {
      is_directory = is.is_directory;
      council = refl;
      taken = All-nil (λ (t : AcceptedBytes). IsAccepting (verdict_on n.directory t));
      bytes = All-nil (λ (t : AcceptedBytes). AreBytes t.bytes);
    })

-- ---- who is honest

pub honest-there : (n : Network) (party : Party) → is_honest_in n party ≡ true → (party.number < count_of (council_of n.directory) party.role) × (has_party n.dishonest party ≡ false)
honest-there n party is =
    let both = and_parts (nat_lt party.number (count_of (council_of n.directory) party.role)) (not (has_party n.dishonest party)) is in
    (ltb-true party.number (count_of (council_of n.directory) party.role) both.0, not-true (has_party n.dishonest party) both.1)

pub there-honest : (n : Network) (party : Party) → party.number < count_of (council_of n.directory) party.role → has_party n.dishonest party ≡ false → is_honest_in n party ≡ true
there-honest n party member honest = let less : nat_lt party.number (count_of (council_of n.directory) party.role) ≡ true = lt-ltb party.number (count_of (council_of n.directory) party.role) member in rw (less, honest) refl

-- whom the theorem's records know to be honest
pub honest-of-records : (n : Network) (party : Party) → IsNetwork n → IsHonest (records_of (held_in n)) party → is_honest_in n party ≡ true
honest-of-records n party is h =
    there-honest n party (subst (λ (c : Council). party.number < count_of c party.role) (clients-kept n is).council h.known) h.honest

-- ---- logs

-- there are few of them
small : (m count : ℕ) → m < count → count ≤ most_parties → m < 2 ^ 16
small m count less most = omega (arith, less, most)

pub new-log : (n : Network) (number : ℕ) → IsNetwork n → is_honest_in n (log_party number) ≡ true
    → KeepsLogAs n.directory number (log_standings.new_standing number n.directory (n.logs number).key)
new-log n number is honest =
    new-log-kept n.directory number (n.logs number).key is.is_directory
    (small number (length n.directory.logs) (honest-there n (log_party number) honest).0 is.is_directory.logs_most)

pub log-kept : (n : Network) (number : ℕ) → IsNetwork n → is_honest_in n (log_party number) ≡ true → KeepsLogAs n.directory number (n.logs number).standing
log-kept n number is honest =
    let h = is.logs number honest in
    kept-along (Becomes log_keeping.takes) (KeepsLogAs n.directory number) (log-text-kept n.directory number) (n.logs number).texts
    (log_standings.new_standing number n.directory (n.logs number).key) (n.logs number).standing h.bytes h.leads (new-log n number is honest)

-- the theorem's record of an honest log is what its journal leaves
pub log-record : (n : Network) (number : ℕ) → is_honest_in n (log_party number) ≡ true → (records_of (held_in n)).logs number ≡ (n.logs number).standing.core.log.past
log-record n number honest =
    let there = honest-there n (log_party number) honest in
    own-record log_party n.dishonest (λ (k : ℕ). (n.logs k).standing.core.log.past) (fresh 0 (council_of (clients_in n).directory) 1).past (length n.directory.logs) number there.0 there.1

honest-log : (n : Network) → IsNetwork n → (number : ℕ) → IsHonestLog (records_of (held_in n)) number
    → IsOfHonestLog (council_of (clients_in n).directory) number ((records_of (held_in n)).logs number)
honest-log n is number h =
    let honest = honest-of-records n (log_party number) is h in
    let kept = log-kept n number is honest in
    let s : LogStanding = (n.logs number).standing in
    let council : s.core.log.council ≡ council_of (clients_in n).directory = kept.council ∙ sym (clients-kept n is).council in
    subst (IsOfHonestLog (council_of (clients_in n).directory) number) (sym (log-record n number honest))
    (subst (λ (m : ℕ). IsOfHonestLog (council_of (clients_in n).directory) m s.core.log.past) kept.number_is
    (subst (λ (c : Council). IsOfHonestLog c s.core.log.me s.core.log.past) council kept.keeps.core.log.honest))

-- ---- authorities

first-key : (keys : List LmsPublic) (key : LmsPublic) → keys ≡ key ∷ [] → slice_get keys 0 ≡ Some key
first-key keys key is = ap (λ (ks : List LmsPublic). slice_get ks 0) is

pub new-authority : (n : Network) (number : ℕ) → IsNetwork n → is_honest_in n (authority_party number) ≡ true
    → KeepsAuthorityAs n.directory number (authority_keeping.new_standing number n.directory (n.authorities number).key)
new-authority n number is honest =
    new-authority-as n.directory number (n.authorities number).key
    (small number (length n.directory.authorities) (honest-there n (authority_party number) honest).0 is.is_directory.authorities_most)
    (first-key (keys_of n.directory (authority_party number)) (public_of (n.authorities number).key) (is.authorities number honest).first)

pub authority-kept : (n : Network) (number : ℕ) → IsNetwork n → is_honest_in n (authority_party number) ≡ true → KeepsAuthorityAs n.directory number (n.authorities number).standing
authority-kept n number is honest =
    let h = is.authorities number honest in
    kept-along (Becomes authority_keeping.takes) (KeepsAuthorityAs n.directory number) (authority-text-kept n.directory number) (n.authorities number).texts
    (authority_keeping.new_standing number n.directory (n.authorities number).key) (n.authorities number).standing h.bytes h.leads (new-authority n number is honest)

pub authority-record : (n : Network) (number : ℕ) → is_honest_in n (authority_party number) ≡ true → (records_of (held_in n)).authorities number ≡ (n.authorities number).standing.state.past
authority-record n number honest =
    let there = honest-there n (authority_party number) honest in
    own-record authority_party n.dishonest (λ (k : ℕ). (n.authorities k).standing.state.past) (fresh_authority 1) (length n.directory.authorities) number there.0 there.1

honest-authority : (n : Network) → IsNetwork n → (number : ℕ) → IsHonest (records_of (held_in n)) (authority_party number)
    → IsOfHonestAuthority (council_of (clients_in n).directory) number ((records_of (held_in n)).authorities number)
honest-authority n is number h =
    let honest = honest-of-records n (authority_party number) is h in
    let kept = authority-kept n number is honest in
    let s : AuthorityStanding = (n.authorities number).standing in
    let council : council_of s.state.keys ≡ council_of (clients_in n).directory = kept.council ∙ sym (clients-kept n is).council in
    subst (IsOfHonestAuthority (council_of (clients_in n).directory) number) (sym (authority-record n number honest))
    (subst (λ (m : ℕ). IsOfHonestAuthority (council_of (clients_in n).directory) m s.state.past) kept.number_is
    (subst (λ (c : Council). IsOfHonestAuthority c s.state.me s.state.past) council kept.keeps.state.honest))

-- ---- all that is kept

pub network-kept : (n : Network) → IsNetwork n → AreKept (held_in n)
network-kept n is =
    let clients = clients-kept n is in
    record {
      is_directory = clients.is_directory;
      all_logs = honest-count log_party n.dishonest (λ (k : ℕ). (n.logs k).standing.core.log.past) (length n.directory.logs)
          ∙ ap (λ (c : Council). honest_below log_party n.dishonest c.logs) (sym clients.council);
      all_authorities = honest-count authority_party n.dishonest (λ (k : ℕ). (n.authorities k).standing.state.past) (length n.directory.authorities)
          ∙ ap (λ (c : Council). honest_below authority_party n.dishonest c.authorities) (sym clients.council);
      logs = honest-log n is;
      authorities = honest-authority n is;
      bytes = clients.bytes;
      taken = clients.taken;
    }
