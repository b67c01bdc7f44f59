-- Votes that were verified are verified.
use Rattle.std.proofs.Common.{◌≡◌, ℕ, zero, suc, ◌==◌, Bool, true, false, ◌&&◌, List, [], ◌∷◌, ◌++◌, Result, Ok, drop, take, map, refl, sym, ap, ◌∙◌}
use Rattle.std.specs.Result.{result_and}
use Rattle.std.specs.Str.{bytes_eq}
use Rattle.std.proofs.lemmas.Bool.{and_parts, eqb-true}
use Rattle.std.proofs.lemmas.Slice.Eq.{bytes_eq-Decides}
use Rattle.std.proofs.lemmas.List.{map-append}
use Rattle.ar_base.specs.FirstFailing.{first_error, first_failing}
use Rattle.ar_base.specs.Gives.{with_error}
use Rattle.ar_base.proofs.Failing.{error-append}
use Rattle.ar_base.proofs.Giving.{no-error, order-first, order-then}
use Rattle.ar_message.specs.declared.lists.Vote.{Vote}
use Rattle.ar_message.specs.declared.message.Confirming.{Confirming}
use Rattle.ar_statement.specs.declared.party.Party.{Party}
use Rattle.ar_statement.specs.declared.text.SeenText.{SeenText}
use Rattle.party_keys.specs.Directory.{Directory}
use Rattle.party_keys.specs.Signers.{Claimed, all_known, all_signed, seen_in, signed_as, signers_answer}
use Rattle.vote_quorum.specs.declared.value.Value.{Value}
use Rattle.authority_core.specs.ConfirmRows.{half_claims, log_claims}
use Rattle.authority_core.specs.Confirming.{confirmed_by, confirming_checks, content_tests, log_claimed, parties_of, votes_claimed}
use Rattle.authority_core.specs.Refusals.{of_signers}
use Rattle.authority_core.specs.State.{AuthorityState}
use Rattle.authority_core.specs.Verifying.{AreVerified, are_of, are_same_votes, kept_claims, is_same_vote}
use Rattle.authority_core.specs.declared.verifying.VerifiedVotes.{VerifiedVotes}
use Rattle.authority_core.proofs.Keeping.{Passed, behind-first}
use Rattle.ar_statement.specs.Claims.{authority_party}

-- ---- the same votes

same-vote : (v w : Vote) → is_same_vote v w ≡ true → v ≡ w
same-vote v w is =
    let parts = and_parts (v.log == w.log) (bytes_eq v.signature w.signature) is in
    let log : v.log ≡ w.log = eqb-true v.log w.log parts.0 in
    let signature : v.signature ≡ w.signature = (bytes_eq-Decides v.signature w.signature).0 parts.1 in
    λ i. record { log = log i; signature = signature i }

same-votes : (vs ws : List Vote) → are_same_votes vs ws ≡ true → vs ≡ ws
same-votes [] [] is = refl
same-votes [] (w ∷ ws) is = absurd cc
same-votes (v ∷ vs) [] is = absurd cc
same-votes (v ∷ vs) (w ∷ ws) is =
    let parts = and_parts (is_same_vote v w) (are_same_votes vs ws) is in
    ap (λ (x : Vote). x ∷ vs) (same-vote v w parts.0) ∙ ap (λ (xs : List Vote). w ∷ xs) (same-votes vs ws parts.1)

-- what is claimed of votes that are those of a confirmation
claimed-same : (v : VerifiedVotes) (part : Confirming) → are_of v part ≡ true → kept_claims v.epoch v.value v.votes.items ≡ votes_claimed part
claimed-same v part is =
    let same_votes : Bool = are_same_votes v.votes.items part.votes in
    let first = and_parts (v.epoch == part.epoch) (bytes_eq v.value.base part.base && (bytes_eq v.value.root part.root && same_votes)) is in
    let second = and_parts (bytes_eq v.value.base part.base) (bytes_eq v.value.root part.root && same_votes) first.1 in
    let third = and_parts (bytes_eq v.value.root part.root) same_votes second.1 in
    let epoch : v.epoch ≡ part.epoch = eqb-true v.epoch part.epoch first.0 in
    let base : v.value.base ≡ part.base = (bytes_eq-Decides v.value.base part.base).0 second.0 in
    let root : v.value.root ≡ part.root = (bytes_eq-Decides v.value.root part.root).0 third.0 in
    let votes : v.votes.items ≡ part.votes = same-votes v.votes.items part.votes third.1 in
    λ i. kept_claims (epoch i) (record { base = base i; root = root i }) (votes i)

-- ---- claims in front of them

-- where those behind a place are signed, all are where those in front are
front-signed : (keys : Directory) (front : ℕ) (claims : List Claimed) → all_signed keys (drop front claims) ≡ Ok tt → all_signed keys (take front claims) ≡ all_signed keys claims
front-signed keys zero claims is = sym is
front-signed keys (suc front) [] is = refl
front-signed keys (suc front) (c ∷ more) is = ap (result_and (signed_as keys c)) (front-signed keys front more is)

-- votes that are kept need no second look
pub passed-over : (keys : Directory) (v : VerifiedVotes) (part : Confirming) (front : ℕ) (claims : List Claimed) → AreVerified keys v → are_of v part ≡ true → drop front claims ≡ votes_claimed part
    → all_signed keys (take front claims) ≡ all_signed keys claims
passed-over keys v part front claims verified is votes =
    front-signed keys front claims (ap (all_signed keys) (votes ∙ sym (claimed-same v part is)) ∙ verified)

-- ---- votes that were checked

signed-append : (keys : Directory) (front votes : List Claimed) → all_signed keys (front ++ votes) ≡ result_and (all_signed keys front) (all_signed keys votes)
signed-append keys front votes = ap first_error (map-append (signed_as keys) front votes) ∙ error-append (map (signed_as keys) front) (map (signed_as keys) votes)

passed-voted : (s : AuthorityState) (chosen : ℕ) (parties : List Party) (front votes : List Claimed) (part : Confirming) → Passed s chosen parties (front ++ votes) part
    → all_signed s.keys votes ≡ Ok tt
passed-voted s chosen parties front votes part is =
    let signed : signers_answer s.keys parties (front ++ votes) ≡ Ok tt =
    no-error of_signers (signers_answer s.keys parties (front ++ votes)) tt
    (order-first (with_error of_signers (signers_answer s.keys parties (front ++ votes))) (first_failing (content_tests s.keys.quorum part)) tt
    (behind-first s chosen parties (front ++ votes) part is)) in
    let claims : all_signed s.keys (front ++ votes) ≡ Ok tt = order-then (all_known s.keys parties) (all_signed s.keys (front ++ votes)) tt signed in
    order-then (all_signed s.keys front) (all_signed s.keys votes) tt (sym (signed-append s.keys front votes) ∙ claims)

-- those of a log's confirmation that passed its checks, and of one that a first authority confirmed too
pub log-voted : (s : AuthorityState) (part : Confirming) (seen : List SeenText)
    → result_and (confirming_checks s part.first (parties_of part part.second) (log_claims part) part) (Ok (map seen_in (log_claims part))) ≡ Ok seen
    → all_signed s.keys (votes_claimed part) ≡ Ok tt
log-voted s part seen is =
    passed-voted s part.first (parties_of part part.second) (log_claimed part ∷ []) (votes_claimed part) part
    (order-first (confirming_checks s part.first (parties_of part part.second) (log_claims part) part) (Ok (map seen_in (log_claims part))) seen is)

pub half-voted : (s : AuthorityState) (part : Confirming) (first_signature : List ℕ) (seen : List SeenText)
    → result_and (confirming_checks s part.second (parties_of part part.first) (half_claims part first_signature) part) (Ok (map seen_in (half_claims part first_signature))) ≡ Ok seen
    → all_signed s.keys (votes_claimed part) ≡ Ok tt
half-voted s part first_signature seen is =
    passed-voted s part.second (parties_of part part.first) (log_claimed part ∷ (confirmed_by part (authority_party part.first) first_signature ∷ [])) (votes_claimed part) part
    (order-first (confirming_checks s part.second (parties_of part part.first) (half_claims part first_signature) part) (Ok (map seen_in (half_claims part first_signature))) seen is)
