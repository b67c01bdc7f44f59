-- An honest authority votes for nothing and states nothing, and its confirmations are of no log.
use Rattle.std.proofs.Common.{◌≡◌, ℕ, ◌==◌, ap, subst, true, false, not, ◌&&◌, Option}
use Rattle.std.proofs.lemmas.Bool.{and_parts}
use Rattle.ar_statement.specs.Claims.{Claim, authority_party, role_number, signer_of, status, vote}
use Rattle.ar_statement.specs.declared.party.Party.{Party}
use Rattle.ar_council.specs.Council.{Council}
use Rattle.authority_core.specs.Honest.{ToldBy}
use Rattle.authority_core.specs.Record.{AuthorityRecord}
use Rattle.vote_quorum.specs.declared.value.Value.{Value}
use Rattle.monitor.specs.Rules.{are_confirmations, are_statuses, are_votes, is_denied, is_of_log, is_value, status_in, vote_in}
use Rattle.monitor.proofs.Shown.{a-status, a-vote, both}

no-vote : (council : Council) (me : ℕ) (r : AuthorityRecord) (claim : Claim) (log epoch : ℕ) (value : Value) → claim ≡ vote log epoch value.base value.root
    → ToldBy council me r.seen r.asked r.kept claim → ⊥
unfolding ToldBy
no-vote council me r claim log epoch value is told = subst (ToldBy council me r.seen r.asked r.kept) is told

no-state : (council : Council) (me : ℕ) (r : AuthorityRecord) (claim : Claim) (log epoch : ℕ) (value : Option Value) → claim ≡ status log epoch value
    → ToldBy council me r.seen r.asked r.kept claim → ⊥
unfolding ToldBy
no-state council me r claim log epoch value is told = subst (ToldBy council me r.seen r.asked r.kept) is told

pub no-ballot : (council : Council) (me : ℕ) (r : AuthorityRecord) (one other : Claim) → ToldBy council me r.seen r.asked r.kept one → are_votes one other ≡ true → ⊥
no-ballot council me r one other told e =
    let found = both (λ (v w : ℕ × Value). v.0 == w.0) (vote_in one) (vote_in other) e in
    let is = a-vote one found.0 found.2 in
    no-vote council me r one is.0 found.0.0 found.0.1 is.1 told

pub no-status : (council : Council) (me : ℕ) (r : AuthorityRecord) (one other : Claim) → ToldBy council me r.seen r.asked r.kept one → is_denied one other ≡ true → ⊥
no-status council me r one other told e =
    let found = both (λ (v : ℕ × Value) (s : ℕ × Option Value). v.0 == s.0 && not (is_value s.1 v.1)) (vote_in one) (status_in other) e in
    let is = a-vote one found.0 found.2 in
    no-vote council me r one is.0 found.0.0 found.0.1 is.1 told

pub no-status-pair : (council : Council) (me : ℕ) (r : AuthorityRecord) (one other : Claim) → ToldBy council me r.seen r.asked r.kept one → are_statuses one other ≡ true → ⊥
no-status-pair council me r one other told e =
    let found = both (λ (s t : ℕ × Option Value). s.0 == t.0) (status_in one) (status_in other) e in
    let is = a-status one found.0 found.2 in
    no-state council me r one is.0 found.0.0 found.0.1 is.1 told

pub no-answer : (me : ℕ) (one other : Claim) → signer_of one ≡ authority_party me → are_confirmations one other ≡ true → ⊥
no-answer me one other signer e =
    let log : is_of_log one ≡ true = (and_parts (is_of_log one) _ e).0 in
    let no : is_of_log one ≡ false = ap (λ (p : Party). role_number p.role == 1) signer in
    cc
