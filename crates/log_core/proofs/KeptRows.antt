-- Each row keeps what is kept of a core.
use Rattle.std.proofs.Common.{◌≡◌, ℕ, ◌+◌, ◌<◌, List, [], ◌∷◌, ◌++◌, refl, sym, ap, subst, arith, Bool, true, false, cond, Option, Some, None}
use Rattle.std.specs.Prelude.{All, Contains, Ok, IfSome, unwrap_or}
use Rattle.std.specs.List.{AllByRecursion}
use Rattle.std.proofs.lemmas.Nat.{mod_below}
use Rattle.std.proofs.lemmas.List.{length-append}
use Rattle.std.proofs.lemmas.List.Elements.{All-from_recursion, All-push, recursion_from_All, All-weaker}
use Rattle.ar_cert.specs.Certificate.{digest_of}
use Rattle.ar_cert.specs.Changes.{Change, IsChange, IsSignature}
use Rattle.ar_cert.specs.Judging.{endorsers_of}
use Rattle.ar_message.specs.Lists.{AreChanges}
use Rattle.ar_statement.specs.declared.text.SeenText.{SeenText}
use Rattle.ar_statement.specs.Claims.{authority_party, endorse, log_party}
use Rattle.party_keys.specs.Signers.{is_known, signed_by}
use Rattle.vote_quorum.specs.declared.value.Value.{Value}
use Rattle.domain_table.specs.Applying.{apply, ripen}
use Rattle.domain_table.specs.Tables.{Table}
use Rattle.domain_table.specs.Tree.{root_of}
use Rattle.domain_table.proofs.Trees.{root-digest}
use Rattle.ar_council.proofs.Lists.{All-unmap, Within}
use Rattle.ar_council.proofs.Seeing.{seen-has, seen-keeps}
use Rattle.ar_council.specs.Council.{Council, council_of}
use Rattle.ar_council.specs.Seen.{seen_after}
use Rattle.party_keys.specs.Seen.{seen_of}
use Rattle.ar_council.specs.Values.{status_claim, vote_claim}
use Rattle.ar_statement.specs.Ranges.{IsValue}
use Rattle.epoch_log.proofs.Called.{kept-ballot, kept-endorsed, kept-propose, kept-state, kept-status, kept-vote}
use Rattle.epoch_log.specs.Calls.{AreEndorsers, IsProposed, IsTurn, MayVote, after_endorsed, after_state, after_status_seen, after_vote, casting, counting_own, counting_status, counting_vote, endorsements_of, is_turn, own_status_text, own_value, own_vote_text, proposal_of, proposal_texts, proposing, seeing, stating, vote_of}
use Rattle.epoch_log.specs.Right.{SawEndorsements}
use Rattle.epoch_log.specs.State.{LogState, epoch_of, table_of}
use Rattle.epoch_log.specs.declared.entries.Closing.{Closing}
use Rattle.epoch_log.specs.declared.entries.Closing.TheVariants as closings
use Rattle.log_core.specs.Balloted.{ballot_checks, ballot_reply, ballot_row}
use Rattle.log_sending.specs.Checks.{has_place, turn_of}
use Rattle.log_core.specs.Passing.{passing_checks, passing_reply, passing_row, status_drafts}
use Rattle.log_core.specs.Proposed.{Proposal, ballot_draft, proposal_signers, proposed_checks, proposed_reply, proposed_row}
use Rattle.log_core.specs.Proposing.{proposal, proposal_draft, proposed_value, proposing_checks, proposing_reply, proposing_row}
use Rattle.ar_claims.specs.Lists.{endorsements_in}
use Rattle.log_core.specs.Stated.{status_checks, status_reply, status_row}
use Rattle.log_core.specs.Kept.{IsKeptCore, WasQueued}
use Rattle.log_core.specs.State.{CoreState, LogStep}
use Rattle.log_sending.specs.Queued.{is_queued}
use Rattle.log_core.specs.Submit.{queueing, submit_checks, submit_reply, submit_row}
use Rattle.log_sending.specs.Walk.{most_change_bytes, most_changes}
use Rattle.log_sending.proofs.Checked.{a-place, its-base, its-turn, none-stated, none-voted, room}
use Rattle.log_core.proofs.Passed.{passed}
use Rattle.log_sending.proofs.Judged.{applied}
use Rattle.log_core.proofs.KeptCore.{closed-kept, closed-same, closing-kept, core-kept, open-kept, saw-more}
use Rattle.log_sending.proofs.SignerLaws.{a-log, all-endorsers, each-known, first-log, its-endorsers}
use Rattle.log_sending.proofs.Sendable.{casting-can, own-can, proposing-can, seeing-can, state-can, status-can, vote-can}
use Rattle.log_core.proofs.OwnProposal.{proposal-fits}
use Rattle.log_core.proofs.Replies.{KeepsReply}
use Rattle.log_sending.proofs.Taken.{walk-all, walk-applies}

-- a fact of the directory's council is one of the log's
pub of-council : (P : Council → Type 0) (s : CoreState) → IsKeptCore s → P (council_of s.keys) → P s.log.council
of-council P s kept fact = subst P (sym kept.council) fact

-- ---- Submit

pub kept-submit : (s : CoreState) (change : Change) (reply : LogStep) → IsKeptCore s → IsChange change → submit_row s change ≡ Ok reply → IsKeptCore reply.after
unfolding submit_row
kept-submit s change reply kept is-change answer = subst KeepsReply h.1 (by (is_queued s.queue change) h.0.1.1.0)
  where
    h : AllByRecursion (λ c. c ≡ Ok tt) (submit_checks s change) × (submit_reply s change ≡ reply)
    h = passed (submit_checks s change) (submit_reply s change) reply answer

    more : List SeenText
    more = endorsements_of change

    later : List SeenText
    later = seen_after s.log.past.seen more

    are : AreEndorsers s.log.council change
    are = of-council (λ c. AreEndorsers c change) s kept (its-endorsers s.keys change (each-known s.keys (endorsements_in change) h.0.0))

    saw : SawEndorsements later change
    saw = All-unmap (Contains later) (λ a. seen_of (authority_party a) (endorse a (digest_of change.cert))) (endorsers_of change) (seen-has more s.log.past.seen)

    by : (b : Bool) → cond b (Ok tt) (has_place s.queue) ≡ Ok tt → IsKeptCore (cond b s (queueing s change))
    by true fits = kept
    by false fits =
        core-kept s (after_endorsed s.log change) (s.queue ++ change ∷ []) kept (kept-endorsed s.log change kept.log are) (seeing-can s.log more kept.sendable) refl
        (All-push (SawEndorsements later) s.queue change (saw-more s.log.past.seen later (seen-keeps more s.log.past.seen) s.queue kept.endorsed) saw)
        (All-push (WasQueued s.keys) s.queue change kept.queued (record { is_change = is-change; verified = h.0.0 }))
        (omega (arith, length-append s.queue (change ∷ []), a-place s.queue fits))

-- ---- Ballot

pub kept-ballot_row : (s : CoreState) (log epoch : ℕ) (value : Value) (signature : List ℕ) (reply : LogStep) → IsKeptCore s → IsSignature signature
    → ballot_row s log epoch value signature ≡ Ok reply → IsKeptCore reply.after
unfolding ballot_row
kept-ballot_row s log epoch value signature reply kept fits answer =
    let h = passed (ballot_checks s log epoch value signature) (ballot_reply s log value signature) reply answer in
    let more : List SeenText = seen_of (log_party log) (vote_claim log (epoch_of s.log) value) ∷ [] in
    let member : log < s.log.council.logs =
    of-council (λ c. log < c.logs) s kept (first-log s.keys log (signed_by (log_party log) (vote_claim log epoch value) signature) [] refl h.0.0) in
    subst KeepsReply h.1
    (closed-kept s s.log [] (counting_vote (seeing s.log more) (log, value, Some signature)) kept (kept-ballot s.log log value signature kept.log member)
    (vote-can (seeing s.log more) (log, value, Some signature) (seeing-can s.log more kept.sendable) member fits) refl
    (seen-keeps more s.log.past.seen))

-- ---- StatusNote

pub kept-status_row : (s : CoreState) (log epoch : ℕ) (value : Option Value) (signature : List ℕ) (reply : LogStep) → IsKeptCore s → IfSome value IsValue → IsSignature signature
    → status_row s log epoch value signature ≡ Ok reply → IsKeptCore reply.after
unfolding status_row
kept-status_row s log epoch value signature reply kept are fits answer =
    let h = passed (status_checks s log epoch value signature) (status_reply s log value signature) reply answer in
    let more : List SeenText = seen_of (log_party log) (status_claim log (epoch_of s.log) value) ∷ [] in
    let member : log < s.log.council.logs =
    of-council (λ c. log < c.logs) s kept (first-log s.keys log (signed_by (log_party log) (status_claim log epoch value) signature) [] refl h.0.0) in
    subst KeepsReply h.1
    (closed-kept s s.log [] (counting_status (seeing s.log more) (log, value, Some signature)) kept (kept-status s.log log value (Some signature) kept.log member are)
    (status-can (seeing s.log more) (log, value, Some signature) (seeing-can s.log more kept.sendable) (member, are, fits)) refl
    (seen-keeps more s.log.past.seen))

-- ---- the order to pass

-- the log behind its own status has the same council, and saw no less
abbrev Grows : LogState → LogState × Closing → Type 0
Grows s x = (x.0.council ≡ s.council) × Within s.past.seen x.0.past.seen

state-grows : (s : LogState) → Grows s (after_state s)
state-grows s = by (is_turn s.council s.me (epoch_of s + 1))
  where
    more : List SeenText
    more = seen_of (log_party s.me) (status_claim s.me (epoch_of s) (own_value s)) ∷ []

    counted : LogState
    counted = counting_status (seeing (stating s) more) (s.me, own_value s, None)

    by : (b : Bool) → Grows s (cond {A = LogState × Closing} b (after_status_seen (stating s) s.me (own_value s) None) (stating s, closings.Open))
    by true =
        let rule = closed-same counted in
        (rule.0, subst (Within s.past.seen) (sym rule.1) (seen-keeps more s.past.seen))
    by false = (refl, λ x there. there)

pub kept-passing : (s : CoreState) (reply : LogStep) → IsKeptCore s → passing_row s ≡ Ok reply → IsKeptCore reply.after
unfolding passing_row
kept-passing s reply kept answer =
    let h = passed (passing_checks s) (passing_reply s) reply answer in
    let grows = state-grows s.log in
    subst KeepsReply h.1
    (closing-kept s s.log (status_drafts s) (after_state s.log) kept
    (kept-state s.log kept.log (none-stated s.log h.0.0) (room s.log.past.signed (own_status_text s.log ∷ []) h.0.1.0)) (state-can s.log kept.sendable kept.log).0 grows.0 grows.1)

-- ---- the order to propose

pub kept-proposing : (s : CoreState) (reply : LogStep) → IsKeptCore s → proposing_row s ≡ Ok reply → IsKeptCore reply.after
unfolding proposing_row
kept-proposing s reply kept answer =
    subst KeepsReply h.1
    (closed-kept s s.log (proposal_draft s value changes ∷ []) (counting_own (casting (proposing s.log value) (vote_of s.log value changes)) value) kept
    (kept-propose s.log value changes kept.log turn may saw (room s.log.past.signed (proposal_texts s.log value) h.0.1.1.1.0))
    (own-can (casting (proposing s.log value) (vote_of s.log value changes)) value
    (casting-can (proposing s.log value) (vote_of s.log value changes) (proposing-can s.log value kept.sendable) few) turn.0) refl
    (seen-keeps more s.log.past.seen))
  where
    h : AllByRecursion (λ c. c ≡ Ok tt) (proposing_checks s) × (proposing_reply s ≡ reply)
    h = passed (proposing_checks s) (proposing_reply s) reply answer

    value : Value
    value = proposed_value s

    changes : List Change
    changes = proposal s

    more : List SeenText
    more = seen_of (log_party s.log.me) (vote_claim s.log.me (epoch_of s.log) value) ∷ []

    table : Table
    table = table_of s.log

    walked : (after : Table) × (apply table (epoch_of s.log) changes ≡ Some after)
    walked = walk-applies s.queue (epoch_of s.log) most_changes most_change_bytes (ripen table (epoch_of s.log))

    mine : s.log.me ≡ turn_of s.log.council (epoch_of s.log)
    mine = its-turn s.log.council (epoch_of s.log) s.log.me h.0.0

    turn : IsTurn s.log.council s.log.me (epoch_of s.log)
    turn = (subst (λ n. n < s.log.council.logs) (sym mine) (mod_below (epoch_of s.log) s.log.council.logs kept.logs), sym mine)

    saw : All (SawEndorsements s.log.past.seen) changes
    saw = All-from_recursion (SawEndorsements s.log.past.seen) changes
        (walk-all (SawEndorsements s.log.past.seen) s.queue (epoch_of s.log) most_changes most_change_bytes (ripen table (epoch_of s.log))
        (recursion_from_All (SawEndorsements s.log.past.seen) s.queue kept.endorsed))

    changes-queued : All IsChange s.queue
    changes-queued = All-weaker (WasQueued s.keys) IsChange (λ (change : Change) was. was.is_change) s.queue kept.queued

    each : AllByRecursion IsChange changes
    each = walk-all IsChange s.queue (epoch_of s.log) most_changes most_change_bytes (ripen table (epoch_of s.log)) (recursion_from_All IsChange s.queue changes-queued)

    are : All IsChange changes
    are = All-from_recursion IsChange changes each

    few : AreChanges changes
    few = ((proposal-fits s).0, each)

    may : MayVote s.log value changes
    may = record {
      open_to = record {
        not_voted = none-voted s.log h.0.1.0;
        not_stated = none-stated s.log h.0.1.1.0;
        from_base = refl;
        reaches = record { table = walked.0; applied = walked.1; is_root = sym (ap (λ o. root_of (unwrap_or o table)) walked.1) };
      };
      are_changes = are;
      are_digests = record { base = root-digest table; root = root-digest (unwrap_or (apply table (epoch_of s.log) changes) table) };
    }

-- ---- Propose

-- where no check refuses a proposal, it is one of a log of the council, with endorsers of it
pub proposed-is : (s : CoreState) (p : Proposal) → IsKeptCore s → AllByRecursion (λ c. c ≡ Ok tt) (proposed_checks s p) → IsProposed s.log p.log p.changes
proposed-is s p kept hold = record {
  is_log = of-council (λ c. p.log < c.logs) s kept (a-log s.keys p.log knows.0);
  endorsers = of-council (λ c. All (AreEndorsers c) p.changes) s kept (all-endorsers s.keys p.changes knows.1);
}
  where
    knows : AllByRecursion (λ x. is_known s.keys x.party ≡ true) (proposal_signers p)
    knows = each-known s.keys (proposal_signers p) hold.0

-- and the log may vote for it
pub proposed-may : (s : CoreState) (p : Proposal) → IsValue p.value → All IsChange p.changes → AllByRecursion (λ c. c ≡ Ok tt) (proposed_checks s p)
    → MayVote s.log p.value p.changes
proposed-may s p digests are hold = record {
  open_to = record {
    not_voted = none-voted s.log hold.1.1.1.0;
    not_stated = none-stated s.log hold.1.1.1.1.0;
    from_base = its-base s.log p.value.base hold.1.1.1.1.1.0;
    reaches = record { table = leads.0; applied = leads.1.0; is_root = leads.1.1 };
  };
  are_changes = are;
  are_digests = digests;
}
  where
    leads : (after : Table) × ((apply (table_of s.log) (epoch_of s.log) p.changes ≡ Some after) × (root_of after ≡ p.value.root))
    leads = applied (table_of s.log) (epoch_of s.log) p.changes p.value.root hold.1.1.1.1.1.1.0 hold.1.1.1.1.1.1.1.0

pub kept-proposed : (s : CoreState) (p : Proposal) (reply : LogStep) → IsKeptCore s → IsValue p.value → AreChanges p.changes → proposed_row s p ≡ Ok reply
    → IsKeptCore reply.after
unfolding proposed_row
kept-proposed s p reply kept digests are answer =
    let h = passed (proposed_checks s p) (proposed_reply s p) reply answer in
    subst KeepsReply h.1
    (open-kept s (after_vote s.log p.log p.value p.changes) (ballot_draft s p.value ∷ []) kept
    (kept-vote s.log p.log p.value p.changes kept.log (proposed-may s p digests (All-from_recursion IsChange p.changes are.1) h.0) (proposed-is s p kept h.0)
    (room s.log.past.signed (own_vote_text s.log p.value ∷ []) h.0.1.1.1.1.1.1.1.1.0))
    (casting-can (seeing s.log (proposal_of s.log p.log p.value p.changes)) (vote_of s.log p.value p.changes)
    (seeing-can s.log (proposal_of s.log p.log p.value p.changes) kept.sendable) are) refl
    (seen-keeps (proposal_of s.log p.log p.value p.changes) s.log.past.seen))
