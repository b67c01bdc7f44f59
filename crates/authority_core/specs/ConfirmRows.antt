-- The rows of a confirmation by a log, and of one that a first authority confirmed too.
use Rattle.std.specs.Prelude.{ℕ, List, ◌∷◌, map}
use Rattle.std.specs.Result.{result_and}
use Rattle.ar_statement.specs.Claims.{authority_party, client_party}
use Rattle.ar_message.specs.declared.address.Address.TheVariants.{One}
use Rattle.ar_message.specs.declared.message.Confirming.{Confirming}
use Rattle.ar_message.specs.declared.message.Message.{Message}
use Rattle.ar_message.specs.declared.message.Message.TheVariants.{Confirmation, HalfConfirmed}
use Rattle.party_keys.specs.Signers.{Claimed, seen_in}
use Rattle.authority_core.specs.Confirming.{confirmed_by, confirming_checks, confirming_too, kept_of, log_claimed, parties_of, votes_claimed}
use Rattle.authority_core.specs.State.{AuthorityAnswer, AuthorityState}

-- ---- the first of two authorities

abbrev pub log_claims : Confirming → List Claimed
log_claims part = log_claimed part ∷ votes_claimed part

unfoldable pub log_confirmed_row : AuthorityState → Confirming → AuthorityAnswer
log_confirmed_row s part =
    result_and (confirming_checks s part.first (parties_of part part.second) (log_claims part) part)
    (confirming_too s (map seen_in (log_claims part)) (kept_of part) (One (authority_party part.second)) (λ signature. HalfConfirmed part signature))

-- ---- the second

abbrev pub half_claims : Confirming → List ℕ → List Claimed
half_claims part first_signature =
    log_claimed part ∷ (confirmed_by part (authority_party part.first) first_signature ∷ votes_claimed part)

-- what the client gets
abbrev pub confirmation_with : Confirming → List ℕ → List ℕ → Message
confirmation_with part first_signature signature =
    Confirmation part.client part.epoch part.name part.root part.body part.log part.signature part.first first_signature part.second signature

unfoldable pub half_confirmed_row : AuthorityState → Confirming → List ℕ → AuthorityAnswer
half_confirmed_row s part first_signature =
    result_and (confirming_checks s part.second (parties_of part part.first) (half_claims part first_signature) part)
    (confirming_too s (map seen_in (half_claims part first_signature)) (kept_of part) (One (client_party part.client)) (confirmation_with part first_signature))
