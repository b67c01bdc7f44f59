use Rattle.std.proofs.Common.{◌≡◌, ap, subst, sym, ◌∙◌, ℕ, List, [], ◌∷◌}
use Rattle.ar_council.proofs.Books.{second-room}
use Rattle.ar_council.specs.Room.{HasRoom}
use Rattle.ar_council.specs.Values.{vote_claim}
use Rattle.ar_statement.specs.Claims.{Claim, claim_of, propose, text_of}
use Rattle.key_roll.specs.Book.{RollBook}
use Rattle.key_roll.specs.Entry.{after_entry}
use Rattle.key_roll.specs.Rolls.{is_roll}
use Rattle.epoch_log.specs.Calls.{own_vote_text, propose_claim}
use Rattle.epoch_log.specs.Log.{state_in}
use Rattle.epoch_log.specs.State.{epoch_of}
use Rattle.epoch_log.specs.Told.{value_of}
use Rattle.epoch_log.proofs.Texts.{plain-propose, plain-vote}
use Rattle.epoch_log.proofs.parts.Parts.put_proposal.Goals as goal

pub sign-due-requires-clause-plain : goal.sign-due-requires-clause-plain
sign-due-requires-clause-plain c =
    ap (λ (k : Claim). is_roll (text_of k)) c.propose_statement-proposal.ensures ∙ plain-propose c.args.self.now.number c.args.vote.epoch c.value-value.result.base c.value-value.result.root

pub sign-requires-clause-plain : goal.sign-requires-clause-plain
sign-requires-clause-plain c =
    ap (λ (k : Claim). is_roll (text_of k)) c.vote_statement-statement.ensures ∙ plain-vote c.args.self.now.number c.args.vote.epoch c.value-value.result

pub sign-requires-clause-leaf : goal.sign-requires-clause-leaf
sign-requires-clause-leaf c =
    let first : text_of (claim_of c.propose_statement-proposal.result) ≡ text_of (propose_claim (state_in c.args.self.now) (value_of c.args.vote)) =
    ap text_of (c.propose_statement-proposal.ensures ∙ ap (λ (e : ℕ). propose c.args.self.now.number e c.value-value.result.base c.value-value.result.root) c.requires.epoch
    ∙ ap (propose_claim (state_in c.args.self.now)) c.value-value.ensures) in
    let second : text_of (claim_of c.vote_statement-statement.result) ≡ own_vote_text (state_in c.args.self.now) (value_of c.args.vote) =
    ap text_of (c.vote_statement-statement.ensures ∙ ap (λ (e : ℕ). vote_claim c.args.self.now.number e c.value-value.result) c.requires.epoch
    ∙ ap (vote_claim c.args.self.now.number (epoch_of (state_in c.args.self.now))) c.value-value.ensures) in
    subst (λ (b : RollBook). HasRoom b (text_of (claim_of c.vote_statement-statement.result) ∷ [])) (sym (c.sign-due.ensures.book ∙ ap (after_entry c.args.self.now.past.signed.book) first))
    (subst (λ (t : List ℕ). HasRoom (after_entry c.args.self.now.past.signed.book (text_of (propose_claim (state_in c.args.self.now) (value_of c.args.vote)))) (t ∷ [])) (sym second)
    (second-room c.args.self.now.past.signed.book (text_of (propose_claim (state_in c.args.self.now) (value_of c.args.vote))) (own_vote_text (state_in c.args.self.now) (value_of c.args.vote)) c.requires.leaves))
