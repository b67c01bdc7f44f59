use Rattle.std.proofs.Common.{◌≡◌, ap, refl, subst, sym, ◌∙◌, ℕ, List, None, Ok, Some, Option}
use Rattle.std.specs.Prelude.{All}
use Rattle.ar_statement.specs.Claims.{text_of}
use Rattle.ar_cert.specs.Changes.{Change}
use Rattle.domain_table.specs.Tables.{Table}
use Rattle.epoch_log.specs.Answers.{beside, first_entered}
use Rattle.epoch_log.specs.Calls.{after_propose, casting, own_vote_text, propose_claim, proposing, vote_of, log_with_ballot, with_vote}
use Rattle.epoch_log.specs.Ending.{closed, own_vote}
use Rattle.epoch_log.specs.Log.{LogParts, moved, parts_of, state_in}
use Rattle.epoch_log.specs.Plans.{IsPlan, IsPlanIn}
use Rattle.epoch_log.specs.Right.{SawEndorsements}
use Rattle.epoch_log.specs.State.{LogState, ballots_of, epoch_of, reports_of}
use Rattle.epoch_log.specs.declared.entries.Voted.{Voted}
use Rattle.epoch_log.proofs.Tried.{own-told, own-tried}
use Rattle.epoch_log.proofs.parts.Parts.propose_with.Goals as goal

pub take_proposal-due-requires-clause-endorsed : goal.take_proposal-due-requires-clause-endorsed
take_proposal-due-requires-clause-endorsed c =
    subst (λ (l : List Change). All (SawEndorsements c.reserve.new.self.past.seen.items) l) (sym c.from_vec.ensures)
    (subst (λ (s : LogState). All (SawEndorsements s.past.seen) c.args.changes.items) (sym (ap (λ (l : LogParts). l.state) c.in_ok-reserve.ensures.same)) c.requires.endorsed)

pub finish-requires-clause-plan : goal.finish-requires-clause-plan
finish-requires-clause-plan c =
    let s : LogState = state_in c.args.self.now in
    let vote : Voted = vote_of s c.args.value c.args.changes.items in
    let told_by : Voted = record { epoch = c.epoch.result; base = c.args.value.base; changes = c.from_vec.result; root = c.args.value.root } in
    let same : told_by ≡ vote =
    ap (λ (e : ℕ). record { epoch = e; base = c.args.value.base; changes = c.from_vec.result; root = c.args.value.root }) c.epoch.ensures
    ∙ ap (λ (cs : List Change). vote_of s c.args.value cs) c.from_vec.ensures in
    let counted : LogState = log_with_ballot (casting (proposing s c.args.value) vote) c.args.self.now.number c.args.value None in
    let there : parts_of c.take_ballot.new.self ≡ moved (parts_of c.args.self.now) counted =
    c.take_ballot.ensures.counted.parts ∙ ap (λ (l : LogParts). moved l (log_with_ballot l.state c.args.self.now.number c.args.value None)) c.take_proposal-due.ensures.signed.parts
    ∙ ap (λ (l : LogParts). moved l (log_with_ballot (casting (proposing l.state c.args.value) told_by) c.args.self.now.number c.args.value None)) c.in_ok-reserve.ensures.same
    ∙ ap (λ (v : Voted). moved (parts_of c.args.self.now) (log_with_ballot (casting (proposing s c.args.value) v) c.args.self.now.number c.args.value None)) same in
    let told : IsPlanIn counted c.in_ok-plan.plan =
    subst (λ (t : Option Table). IsPlan s.council (epoch_of s) (own_vote counted.past.voted (epoch_of s)) t (ballots_of (with_vote s.votes (s.me, c.args.value, None))) (reports_of s.statuses) c.in_ok-plan.plan)
    (sym (own-tried s counted vote c.args.tried refl refl refl c.requires.may.open_to.not_voted c.requires.tried))
    (subst (λ (o : Option Voted). IsPlan s.council (epoch_of s) o (Some c.args.tried) (ballots_of (with_vote s.votes (s.me, c.args.value, None))) (reports_of s.statuses) c.in_ok-plan.plan)
    (sym (own-told s.past.voted vote c.requires.may.open_to.not_voted))
    (subst (λ (v : Voted). IsPlan s.council (epoch_of s) (Some v) (Some c.args.tried) (ballots_of (with_vote s.votes (s.me, c.args.value, None))) (reports_of s.statuses) c.in_ok-plan.plan)
    same c.in_ok-plan.ensures)) in
    subst (λ (x : LogState). IsPlanIn x c.in_ok-plan.plan) (sym (ap (λ (l : LogParts). l.state) there)) told

-- what it answers is told of the log as it was
pub returns-clause-answer : goal.returns-clause-answer
returns-clause-answer c =
    let s : LogState = state_in c.args.self.now in
    let vote : Voted = vote_of s c.args.value c.args.changes.items in
    let told_by : Voted = record { epoch = c.epoch.result; base = c.args.value.base; changes = c.from_vec.result; root = c.args.value.root } in
    let same : told_by ≡ vote =
    ap (λ (e : ℕ). record { epoch = e; base = c.args.value.base; changes = c.from_vec.result; root = c.args.value.root }) c.epoch.ensures
    ∙ ap (λ (cs : List Change). vote_of s c.args.value cs) c.from_vec.ensures in
    let there : parts_of c.take_ballot.new.self ≡ moved (parts_of c.args.self.now) (log_with_ballot (casting (proposing s c.args.value) vote) c.args.self.now.number c.args.value None) =
    c.take_ballot.ensures.counted.parts ∙ ap (λ (l : LogParts). moved l (log_with_ballot l.state c.args.self.now.number c.args.value None)) c.take_proposal-due.ensures.signed.parts
    ∙ ap (λ (l : LogParts). moved l (log_with_ballot (casting (proposing l.state c.args.value) told_by) c.args.self.now.number c.args.value None)) c.in_ok-reserve.ensures.same
    ∙ ap (λ (v : Voted). moved (parts_of c.args.self.now) (log_with_ballot (casting (proposing s c.args.value) v) c.args.self.now.number c.args.value None)) same in
    let leaf : first_entered s.past.signed (text_of (propose_claim s c.args.value)) (own_vote_text s c.args.value) ≡ Ok c.take_proposal-due.result =
    sym (ap (λ (l : LogParts). first_entered l.state.past.signed (text_of (propose_claim l.state c.args.value)) (own_vote_text l.state c.args.value)) c.in_ok-reserve.ensures.same)
    ∙ c.take_proposal-due.ensures.signed.due in
    ap (beside (after_propose s c.args.value c.args.changes.items).1) leaf
    ∙ ap (λ x. Ok (c.take_proposal-due.result, x)) (sym (c.finish.ensures.answer ∙ ap (λ (l : LogParts). (closed l.state).1) there))
