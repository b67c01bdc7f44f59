use Rattle.std.proofs.Common.{◌≡◌, ap, subst, ◌∙◌, ℕ, List, [], ◌∷◌, Err}
use Rattle.std.specs.Prelude.{IfErr, IsOk, OnOk}
use Rattle.ar_council.specs.Room.{HasRoom}
use Rattle.ar_council.specs.Values.{vote_claim}
use Rattle.ar_statement.specs.Claims.{Claim, claim_of, propose, text_of}
use Rattle.key_roll.specs.Rolls.{is_roll}
use Rattle.epoch_log.specs.Answers.{first_entered}
use Rattle.epoch_log.specs.Calls.{own_vote_text, propose_claim}
use Rattle.epoch_log.specs.Log.{state_in}
use Rattle.epoch_log.proofs.Texts.{plain-propose}
use Rattle.epoch_log.proofs.parts.Parts.proposal_leaves.Goals as goal

pub leaves_for-requires-clause-plain : goal.leaves_for-requires-clause-plain
leaves_for-requires-clause-plain c =
    ap (λ (k : Claim). is_roll (text_of k)) c.propose_statement-proposal.ensures ∙ plain-propose c.args.self.now.number c.epoch-epoch.result c.args.value.now.base c.args.value.now.root

-- the texts of the two statements
first : (c : goal.After-leaves_for) → text_of (claim_of c.propose_statement-proposal.result) ≡ text_of (propose_claim (state_in c.args.self.now) c.args.value.now)
first c = ap text_of (c.propose_statement-proposal.ensures ∙ ap (λ (e : ℕ). propose c.args.self.now.number e c.args.value.now.base c.args.value.now.root) c.epoch-epoch.ensures)

second : (c : goal.After-leaves_for) → text_of (claim_of c.vote_statement-vote.result) ≡ own_vote_text (state_in c.args.self.now) c.args.value.now
second c = ap text_of (c.vote_statement-vote.ensures ∙ ap (λ (e : ℕ). vote_claim c.args.self.now.number e c.args.value.now) c.epoch-epoch.ensures)

pub returns-clause-room : goal.returns-clause-room
returns-clause-room c =
    subst (λ (t : List ℕ). OnOk c.leaves_for.result (HasRoom c.args.self.now.past.signed.book (t ∷ (own_vote_text (state_in c.args.self.now) c.args.value.now ∷ [])))) (first c)
    (subst (λ (t : List ℕ). OnOk c.leaves_for.result (HasRoom c.args.self.now.past.signed.book (text_of (claim_of c.propose_statement-proposal.result) ∷ (t ∷ [])))) (second c)
    c.leaves_for.ensures.room)

pub returns-clause-some : goal.returns-clause-some
returns-clause-some c =
    subst (λ (t : List ℕ). OnOk c.leaves_for.result (IsOk (first_entered c.args.self.now.past.signed.book t (own_vote_text (state_in c.args.self.now) c.args.value.now)))) (first c)
    (subst (λ (t : List ℕ). OnOk c.leaves_for.result (IsOk (first_entered c.args.self.now.past.signed.book (text_of (claim_of c.propose_statement-proposal.result)) t))) (second c)
    c.leaves_for.ensures.some)

pub returns-clause-none : goal.returns-clause-none
returns-clause-none c =
    subst (λ (t : List ℕ). IfErr c.leaves_for.result (λ fault. first_entered c.args.self.now.past.signed.book t (own_vote_text (state_in c.args.self.now) c.args.value.now) ≡ Err fault)) (first c)
    (subst (λ (t : List ℕ). IfErr c.leaves_for.result (λ fault. first_entered c.args.self.now.past.signed.book (text_of (claim_of c.propose_statement-proposal.result)) t ≡ Err fault)) (second c)
    c.leaves_for.ensures.none)
