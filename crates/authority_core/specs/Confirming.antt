-- What an authority checks of a confirmation that a log made, and what it does where it confirms it too. Two rows share it:
-- that of the first of two authorities, and that of the second.
use Rattle.std.specs.Prelude.{ℕ, ◌==◌, nat_le, Bool, not, List, [], ◌∷◌, ◌++◌, map, Result}
use Rattle.std.specs.Result.{result_and}
use Rattle.tree_proof.specs.Fold.{digests_in}
use Rattle.ar_base.specs.FirstFailing.{first_failing}
use Rattle.ar_base.specs.Gives.{with_error}
use Rattle.ar_statement.specs.declared.party.Party.{Party}
use Rattle.ar_statement.specs.declared.text.SeenText.{SeenText}
use Rattle.ar_statement.specs.Claims.{authority_party, log_party}
use Rattle.ar_council.specs.Values.{vote_claim}
use Rattle.ar_message.specs.Shown.{shows}
use Rattle.ar_message.specs.Confirmation.{bottom_in, digest_in}
use Rattle.ar_message.specs.Messages.{message_text, path_in, shown_in}
use Rattle.ar_message.specs.declared.address.Address.{Address}
use Rattle.ar_message.specs.declared.lists.Vote.{Vote}
use Rattle.ar_message.specs.declared.message.Confirming.{Confirming}
use Rattle.ar_message.specs.declared.message.Message.{Message}
use Rattle.ar_message.specs.Filling.{zeros}
use Rattle.party_keys.specs.Signers.{Claimed, signed_by, signers_answer}
use Rattle.vote_quorum.specs.Numbers.{distinct_count}
use Rattle.vote_quorum.specs.declared.value.Value.{Value}
use Rattle.authority_core.specs.Calls.{confirming, kept_claim}
use Rattle.authority_core.specs.Refusals.{of_signers}
use Rattle.authority_core.specs.State.{AuthorityAnswer, AuthorityState, Prepared, entering, if_due, prepared, sent_with}
use Rattle.authority_core.specs.declared.entries.Kept.{Kept}
use Rattle.authority_core.specs.declared.refusal.AuthorityRefusal.{AuthorityRefusal}
use Rattle.authority_core.specs.declared.refusal.AuthorityRefusal.TheVariants.{BadPath, FewVotes, NotForAuthority, SameAuthority}

-- ---- what the confirmation says

-- what the votes are for
abbrev pub value_of : Confirming → Value
value_of part = record { base = part.base; root = part.root }

-- the logs that voted for it
abbrev pub voters_of : Confirming → List ℕ
voters_of part = map (λ v. v.log) part.votes

-- what is kept of it
abbrev pub kept_of : Confirming → Kept
kept_of part = record {
  epoch = part.epoch;
  name = part.name;
  certificate = digest_in (shown_in part.body);
  base = part.base;
  root = part.root;
  bottom = bottom_in (shown_in part.body);
  steps = digests_in (path_in part.body);
}

-- ---- who signed

-- a party is said to have confirmed it
abbrev pub confirmed_by : Confirming → Party → List ℕ → Claimed
confirmed_by part party signature = signed_by party (kept_claim party (kept_of part)) signature

-- a log is said to have voted for it
abbrev pub voted_by : Confirming → Vote → Claimed
voted_by part v = signed_by (log_party v.log) (vote_claim v.log part.epoch (value_of part)) v.signature

abbrev pub log_claimed : Confirming → Claimed
log_claimed part = confirmed_by part (log_party part.log) part.signature

abbrev pub votes_claimed : Confirming → List Claimed
votes_claimed part = map (voted_by part) part.votes

-- the log, the logs that voted, and an authority
abbrev pub parties_of : Confirming → ℕ → List Party
parties_of part authority = log_party part.log ∷ (map (λ v. log_party v.log) part.votes ++ authority_party authority ∷ [])

-- ---- checks

-- how many logs voted
abbrev pub vote_count : Confirming → ℕ
vote_count part = distinct_count (voters_of part)

-- it is for this authority
abbrev pub meant_for : ℕ → ℕ → List (AuthorityRefusal × Bool)
meant_for me chosen = (NotForAuthority, chosen == me) ∷ []

-- a quorum voted, the path leads to the root, and the authorities are two
abbrev pub content_tests : ℕ → Confirming → List (AuthorityRefusal × Bool)
content_tests quorum part =
    (FewVotes (vote_count part), nat_le quorum (vote_count part))
    ∷ (BadPath, shows part)
    ∷ (SameAuthority, not (part.first == part.second))
    ∷ []

-- The checks in order: the message is for the authority that is `chosen`; the parties are known; the signatures are
-- accepted; and the content.
unfoldable pub confirming_checks : AuthorityState → ℕ → List Party → List Claimed → Confirming → Result (Unit {0}) AuthorityRefusal
confirming_checks s chosen parties claims part =
    result_and (first_failing (meant_for s.me chosen))
    (result_and (with_error of_signers (signers_answer s.keys parties claims)) (first_failing (content_tests s.keys.quorum part)))

-- ---- what the authority does

-- it confirms it too, by what it saw, and sends what was prepared
unfoldable pub confirming_with : AuthorityState → List SeenText → Kept → Prepared → AuthorityAnswer
confirming_with s seen k p =
    if_due (entering s.past (kept_claim (authority_party s.me) k))
    (λ due. (record s { past = confirming s.me s.past seen k }, sent_with p due))

-- the same with this message, whose last field is its signature
abbrev pub confirming_too : AuthorityState → List SeenText → Kept → Address → (List ℕ → Message) → AuthorityAnswer
confirming_too s seen k to message =
    confirming_with s seen k (prepared s.signature_len to (message_text (message (zeros s.signature_len))))
