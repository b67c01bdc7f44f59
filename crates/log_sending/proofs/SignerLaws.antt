-- Who signed a message is of the council, where its signers hold.
use Rattle.std.proofs.Common.{◌≡◌, ℕ, ◌<◌, List, [], ◌∷◌, length, refl, sym, ap, ◌∙◌, Bool, true, false, cond}
use Rattle.std.specs.Prelude.{All, Ok, Err, flat_map, map}
use Rattle.std.specs.Result.{result_and}
use Rattle.std.specs.List.{AllByRecursion}
use Rattle.std.proofs.lemmas.List.Elements.{All-from_recursion}
use Rattle.ar_cert.specs.Changes.{Change, Endorsement}
use Rattle.ar_cert.specs.Certificate.{digest_of}
use Rattle.ar_cert.specs.Judging.{endorsers_of}
use Rattle.ar_message.specs.declared.lists.LogStatus.{LogStatus}
use Rattle.ar_message.specs.declared.lists.Vote.{Vote}
use Rattle.ar_statement.specs.Claims.{authority_party, endorse, log_party}
use Rattle.party_keys.specs.Directory.{Directory}
use Rattle.party_keys.specs.Signers.{Claimed, all_known, all_signed, is_known, signed_by}
use Rattle.party_keys.specs.declared.fault.SignerFault.TheVariants as signer_fault
use Rattle.vote_quorum.specs.declared.value.Value.{Value}
use Rattle.ar_council.proofs.Members.{member}
use Rattle.ar_council.specs.Council.{council_of}
use Rattle.epoch_log.specs.Calls.{AreEndorsers}
use Rattle.ar_claims.specs.Lists.{endorsements_in, claimed_statuses, claimed_votes}
use Rattle.log_sending.specs.Signers.{of_signers, signers}
use Rattle.ar_base.proofs.Lists.{of-both-lists}
use Rattle.ar_base.proofs.Giving.{no-error, order-first}

none-unknown : (keys : Directory) (claims : List Claimed) → all_known keys (map (λ c. c.party) claims) ≡ Ok tt → AllByRecursion (λ c. is_known keys c.party ≡ true) claims
none-unknown keys [] is = tt
none-unknown keys (c ∷ claims) is = by (is_known keys c.party) refl is (none-unknown keys claims)
  where
    by : (b : Bool) → is_known keys c.party ≡ b → cond b (all_known keys (map (λ c. c.party) claims)) (Err (signer_fault.Unknown c.party)) ≡ Ok tt
        → (all_known keys (map (λ c. c.party) claims) ≡ Ok tt → AllByRecursion (λ c. is_known keys c.party ≡ true) claims)
        → (is_known keys c.party ≡ true) × AllByRecursion (λ c. is_known keys c.party ≡ true) claims
    by true was fine rest = (was, rest fine)
    by false was fine rest = absurd cc

-- each signer is known
pub each-known : (keys : Directory) (claims : List Claimed) → signers keys claims ≡ Ok tt → AllByRecursion (λ c. is_known keys c.party ≡ true) claims
each-known keys claims is =
    let known = all_known keys (map (λ c. c.party) claims) in
    none-unknown keys claims (order-first known (all_signed keys claims) tt (no-error of_signers (result_and known (all_signed keys claims)) tt is))

-- a log that is known is one of the council
pub a-log : (keys : Directory) (log : ℕ) → is_known keys (log_party log) ≡ true → log < length keys.logs
a-log keys log is = member keys (log_party log) is

pub an-authority : (keys : Directory) (authority : ℕ) → is_known keys (authority_party authority) ≡ true → authority < length keys.authorities
an-authority keys authority is = member keys (authority_party authority) is

-- the first of a message's signers
pub first-log : (keys : Directory) (log : ℕ) (signed : Claimed) (rest : List Claimed) → signed.party ≡ log_party log
    → signers keys (signed ∷ rest) ≡ Ok tt → log < length keys.logs
first-log keys log signed rest same is =
    a-log keys log (ap (λ p. is_known keys p) (sym same) ∙ (each-known keys (signed ∷ rest) is).0)

endorsers : (keys : Directory) (cert : List ℕ) (es : List Endorsement)
    → AllByRecursion (λ s. is_known keys s.party ≡ true) (map (λ (e : Endorsement). signed_by (authority_party e.authority) (endorse e.authority cert) e.signature) es)
    → AllByRecursion (λ a. a < length keys.authorities) (map (λ (e : Endorsement). e.authority) es)
endorsers keys cert [] all = tt
endorsers keys cert (e ∷ es) all = (an-authority keys e.authority all.0, endorsers keys cert es all.1)

-- the endorsers of a change are authorities of the council
pub its-endorsers : (keys : Directory) (change : Change) → AllByRecursion (λ s. is_known keys s.party ≡ true) (endorsements_in change)
    → AreEndorsers (council_of keys) change
its-endorsers keys change all =
    All-from_recursion (λ a. a < length keys.authorities) (endorsers_of change) (endorsers keys (digest_of change.cert) change.endorsements all)

each-endorsed : (keys : Directory) (changes : List Change) → AllByRecursion (λ s. is_known keys s.party ≡ true) (flat_map endorsements_in changes)
    → AllByRecursion (AreEndorsers (council_of keys)) changes
each-endorsed keys [] all = tt
each-endorsed keys (change ∷ changes) all =
    let parts = of-both-lists (λ (s : Claimed). is_known keys s.party ≡ true) (endorsements_in change) (flat_map endorsements_in changes) all in
    (its-endorsers keys change parts.0, each-endorsed keys changes parts.1)

pub all-endorsers : (keys : Directory) (changes : List Change) → AllByRecursion (λ s. is_known keys s.party ≡ true) (flat_map endorsements_in changes)
    → All (AreEndorsers (council_of keys)) changes
all-endorsers keys changes all = All-from_recursion (AreEndorsers (council_of keys)) changes (each-endorsed keys changes all)

-- who votes is a log of the council
pub voters : (keys : Directory) (epoch : ℕ) (value : Value) (votes : List Vote) → AllByRecursion (λ s. is_known keys s.party ≡ true) (claimed_votes epoch value votes)
    → AllByRecursion (λ (v : Vote). v.log < length keys.logs) votes
voters keys epoch value [] all = tt
voters keys epoch value (v ∷ votes) all = (a-log keys v.log all.0, voters keys epoch value votes all.1)

-- who states something is a log of the council
pub staters : (keys : Directory) (epoch : ℕ) (statuses : List LogStatus) → AllByRecursion (λ s. is_known keys s.party ≡ true) (claimed_statuses epoch statuses)
    → AllByRecursion (λ (s : LogStatus). s.log < length keys.logs) statuses
staters keys epoch [] all = tt
staters keys epoch (s ∷ statuses) all = (a-log keys s.log all.0, staters keys epoch statuses all.1)
