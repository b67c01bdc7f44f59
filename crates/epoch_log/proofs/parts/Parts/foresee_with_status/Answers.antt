use Rattle.std.proofs.Common.{ap, ◌∙◌, List, ℕ, Option}
use Rattle.std.specs.Option.{option_map}
use Rattle.ar_council.specs.Council.{council_of}
use Rattle.epoch_log.specs.Calls.{with_status}
use Rattle.epoch_log.specs.Log.{state_in}
use Rattle.epoch_log.specs.State.{CountedStatus, ballots_of, epoch_of, reports_of}
use Rattle.epoch_log.specs.declared.foreseeing.Foreseen.TheVariants as foreseen
use Rattle.epoch_log.proofs.Foretold.{foretold-decided, foretold-open, foretold-skipped, own-foretold}
use Rattle.epoch_log.proofs.parts.Parts.foresee_with_status.Goals as goal

pub decided_by_own-requires : goal.decided_by_own-requires
decided_by_own-requires c =
    let signature : Option (List ℕ) = option_map (λ s. s.now) c.args.signature in
    own-foretold (council_of c.args.self.now.directory) (epoch_of (state_in c.args.self.now)) (option_map (λ v. v.now) c.args.own)
    (ballots_of c.args.self.now.votes.items) (reports_of (with_status c.args.self.now.statuses.items (c.args.log, c.args.value.now, signature)))
    c.in_ok-verdict_with_status.field-0 (c.in_ok-verdict_with_status.ensures signature) c.in-Decided.is

pub returns-in-Open : goal.returns-in-Open
returns-in-Open c =
    let signature : Option (List ℕ) = option_map (λ s. s.now) c.args.signature in
    foretold-open (council_of c.args.self.now.directory) (epoch_of (state_in c.args.self.now)) (option_map (λ v. v.now) c.args.own)
    c.args.self.now.votes.items (with_status c.args.self.now.statuses.items (c.args.log, c.args.value.now, signature))
    c.in_ok-verdict_with_status.field-0 (c.in_ok-verdict_with_status.ensures signature) c.in-Open.is

pub returns-in_ok-counted-in-Decided : goal.returns-in_ok-counted-in-Decided
returns-in_ok-counted-in-Decided c =
    let signature : Option (List ℕ) = option_map (λ s. s.now) c.args.signature in
    foretold-decided (council_of c.args.self.now.directory) (epoch_of (state_in c.args.self.now)) (option_map (λ v. v.now) c.args.own)
    c.args.self.now.votes.items (with_status c.args.self.now.statuses.items (c.args.log, c.args.value.now, signature))
    c.in_ok-verdict_with_status.field-0 c.epoch.result c.in_ok-counted-in-Decided.counted.items c.decided_by_own.result
    (c.in_ok-verdict_with_status.ensures signature) c.in-Decided.is
    (own-foretold (council_of c.args.self.now.directory) (epoch_of (state_in c.args.self.now)) (option_map (λ v. v.now) c.args.own)
    (ballots_of c.args.self.now.votes.items) (reports_of (with_status c.args.self.now.statuses.items (c.args.log, c.args.value.now, signature)))
    c.in_ok-verdict_with_status.field-0 (c.in_ok-verdict_with_status.ensures signature) c.in-Decided.is)
    c.epoch.ensures
    (c.in_ok-counted-in-Decided.ensures ∙ c.deref.ensures.value)
    c.decided_by_own.ensures

pub returns-in_ok-counted-in-Skipped : goal.returns-in_ok-counted-in-Skipped
returns-in_ok-counted-in-Skipped c =
    let signature : Option (List ℕ) = option_map (λ s. s.now) c.args.signature in
    ap foreseen.Skipped (c.from_vec.ensures ∙ c.in_ok-counted-in-Skipped.ensures ∙ ap (λ (l : List CountedStatus). with_status l (c.args.log, c.args.value.now, signature)) c.deref-in-Skipped.ensures.value)
    ∙ foretold-skipped (council_of c.args.self.now.directory) (epoch_of (state_in c.args.self.now)) (option_map (λ v. v.now) c.args.own)
    c.args.self.now.votes.items (with_status c.args.self.now.statuses.items (c.args.log, c.args.value.now, signature))
    c.in_ok-verdict_with_status.field-0 (c.in_ok-verdict_with_status.ensures signature) c.in-Skipped.is
