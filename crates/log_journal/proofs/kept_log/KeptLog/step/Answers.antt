use Rattle.std.proofs.Common.{rules, ◌≡◌, ◌+◌, ◌++◌, ◌∷◌, [], ◌∙◌, ℕ, List, length, Ok, true, false, ap, subst}
use Rattle.ar_base.specs.Faults.{HasRisen}
use Rattle.kept_disk.specs.Moments.{LeavesOnly}
use Rattle.kept_journal.specs.Appending.{SpendsAll, WantsAll, staged_text}
use Rattle.kept_journal.specs.Journal.{IsBeforeOrAfter, Stands}
use Rattle.log_core.specs.Inputs.{input_of}
use Rattle.log_core.specs.Keyed.{AreBehind, signed_answer}
use Rattle.log_core.specs.Row.{row}
use Rattle.log_journal.specs.Inputs.{input_text, mark}
use Rattle.log_journal.proofs.Accepted.{sent_short, step_moment, taken}
use Rattle.log_journal.proofs.kept_log.KeptLog.step.Goals as goal

pub returns-in-Ok-append-clause-texts : goal.returns-in-Ok-append-clause-texts
returns-in-Ok-append-clause-texts g c =
    let answer : signed_answer c.answer.new.log.ring.keys (row c.args.self.now.log.core (input_of c.args.input.now)) ≡ Ok (c.answer.new.log.core, c.in-Ok.sent) = search rules in
    let is : c.in_ok-record.record ≡ input_text (input_of c.args.input.now) =
    c.in_ok-record.ensures (sent_short c.answer.new.log.ring.keys c.args.self.now.log.core c.answer.new.log.core (input_of c.args.input.now) c.in-Ok.sent answer) in
    let plain : c.append.new.self.texts ≡ c.args.self.now.journal.texts ++ c.in_ok-record.record ∷ [] = search rules in
    let texts : c.append.new.self.texts ≡ c.args.self.now.journal.texts ++ (input_text (input_of c.args.input.now)) ∷ [] = plain ∙ ap (λ (t : List ℕ). c.args.self.now.journal.texts ++ t ∷ []) is in
    let count : c.append.new.self.count ≡ c.args.self.now.journal.count + 1 = search rules in
    let stopped : c.append.new.self.stopped ≡ false = search rules in
    (texts, count, stopped)

pub returns-in-Ok-append-clause-durable : goal.returns-in-Ok-append-clause-durable
returns-in-Ok-append-clause-durable g c file left =
    let answer : signed_answer c.answer.new.log.ring.keys (row c.args.self.now.log.core (input_of c.args.input.now)) ≡ Ok (c.answer.new.log.core, c.in-Ok.sent) = search rules in
    let is : c.in_ok-record.record ≡ input_text (input_of c.args.input.now) =
    c.in_ok-record.ensures (sent_short c.answer.new.log.ring.keys c.args.self.now.log.core c.answer.new.log.core (input_of c.args.input.now) c.in-Ok.sent answer) in
    let plain : c.append.new.self.texts ≡ c.args.self.now.journal.texts ++ c.in_ok-record.record ∷ [] = search rules in
    let texts : c.append.new.self.texts ≡ c.args.self.now.journal.texts ++ (input_text (input_of c.args.input.now)) ∷ [] = plain ∙ ap (λ (t : List ℕ). c.args.self.now.journal.texts ++ t ∷ []) is in
    let marked : c.append.new.self.mark ≡ mark = search rules in
    subst (λ (m : List ℕ). Stands m (c.args.self.now.journal.texts ++ (input_text (input_of c.args.input.now)) ∷ []) file) marked
    (subst (λ (ts : List (List ℕ)). Stands c.append.new.self.mark ts file) texts (c.told.ensures.crash file left))

pub returns-in-Ok-append-clause-any_moment : goal.returns-in-Ok-append-clause-any_moment
returns-in-Ok-append-clause-any_moment g c =
    let answer : signed_answer c.answer.new.log.ring.keys (row c.args.self.now.log.core (input_of c.args.input.now)) ≡ Ok (c.answer.new.log.core, c.in-Ok.sent) = search rules in
    let is : c.in_ok-record.record ≡ input_text (input_of c.args.input.now) =
    c.in_ok-record.ensures (sent_short c.answer.new.log.ring.keys c.args.self.now.log.core c.answer.new.log.core (input_of c.args.input.now) c.in-Ok.sent answer) in
    let marked : c.args.self.now.journal.mark ≡ mark = search rules in
    let run : LeavesOnly g.K.Disk.moment g.K.Disk.left_since c.args.self.now.journal.disk c.append.new.self.disk (IsBeforeOrAfter c.args.self.now.journal.mark c.args.self.now.journal.texts c.in_ok-record.record) = search rules in
    step_moment g.K.Disk.moment g.K.Disk.left_since g.K.Disk.may_leave c.args.self.now.journal.disk c.append.new.self.disk c.args.self.now.journal.mark c.args.self.now.journal.texts c.in_ok-record.record (input_text (input_of c.args.input.now)) marked is run

pub returns-in-Ok-append-clause-spends : goal.returns-in-Ok-append-clause-spends
returns-in-Ok-append-clause-spends g c =
    let answer : signed_answer c.answer.new.log.ring.keys (row c.args.self.now.log.core (input_of c.args.input.now)) ≡ Ok (c.answer.new.log.core, c.in-Ok.sent) = search rules in
    let is : c.in_ok-record.record ≡ input_text (input_of c.args.input.now) =
    c.in_ok-record.ensures (sent_short c.answer.new.log.ring.keys c.args.self.now.log.core c.answer.new.log.core (input_of c.args.input.now) c.in-Ok.sent answer) in
    let plain : SpendsAll (g.K.Disk.fuel c.args.self.now.journal.disk) (g.K.Disk.fuel c.append.new.self.disk) 4 (length (staged_text c.in_ok-record.record) + 1) 4 = search rules in
    subst (λ (t : List ℕ). SpendsAll (g.K.Disk.fuel c.args.self.now.journal.disk) (g.K.Disk.fuel c.append.new.self.disk) 4 (length (staged_text t) + 1) 4) is plain

pub returns-in-Ok-clause-any_moment : goal.returns-in-Ok-clause-any_moment
returns-in-Ok-clause-any_moment g c =
    let answer : signed_answer c.answer.new.log.ring.keys (row c.args.self.now.log.core (input_of c.args.input.now)) ≡ Ok (c.answer.new.log.core, c.in-Ok.sent) = search rules in
    let is : c.in_ok-record.record ≡ input_text (input_of c.args.input.now) =
    c.in_ok-record.ensures (sent_short c.answer.new.log.ring.keys c.args.self.now.log.core c.answer.new.log.core (input_of c.args.input.now) c.in-Ok.sent answer) in
    let marked : c.args.self.now.journal.mark ≡ mark = search rules in
    let run : LeavesOnly g.K.Disk.moment g.K.Disk.left_since c.args.self.now.journal.disk c.append.new.self.disk (IsBeforeOrAfter c.args.self.now.journal.mark c.args.self.now.journal.texts c.in_ok-record.record) = search rules in
    step_moment g.K.Disk.moment g.K.Disk.left_since g.K.Disk.may_leave c.args.self.now.journal.disk c.append.new.self.disk c.args.self.now.journal.mark c.args.self.now.journal.texts c.in_ok-record.record (input_text (input_of c.args.input.now)) marked is run

pub returns-in-Ok-clause-fault : goal.returns-in-Ok-clause-fault
returns-in-Ok-clause-fault g c failed =
    let answer : signed_answer c.answer.new.log.ring.keys (row c.args.self.now.log.core (input_of c.args.input.now)) ≡ Ok (c.answer.new.log.core, c.in-Ok.sent) = search rules in
    let marked : c.args.self.now.journal.mark ≡ mark = search rules in
    let stopped : c.append.new.self.stopped ≡ true = search rules in
    let risen : HasRisen (g.K.Disk.faults c.args.self.now.journal.disk) (g.K.Disk.faults c.append.new.self.disk) = search rules in
    let held : Stands c.args.self.now.journal.mark c.args.self.now.journal.texts (g.K.Disk.held c.append.new.self.disk) = search rules in
    let count : c.append.new.self.count ≡ c.args.self.now.journal.count = search rules in
    let behind : AreBehind (input_of c.args.input.now) c.args.self.now.log.ring.keys c.answer.new.log.ring.keys = search rules in (
      stopped,
      risen,
      subst (λ (m : List ℕ). Stands m c.args.self.now.journal.texts (g.K.Disk.held c.append.new.self.disk)) marked held,
      count,
      taken c.args.self.now.log c.answer.new.log (input_of c.args.input.now) c.in-Ok.sent c.input_told.ensures c.requires answer behind,
    )

pub returns-in-Ok-clause-wants : goal.returns-in-Ok-clause-wants
returns-in-Ok-clause-wants g c failed =
    let answer : signed_answer c.answer.new.log.ring.keys (row c.args.self.now.log.core (input_of c.args.input.now)) ≡ Ok (c.answer.new.log.core, c.in-Ok.sent) = search rules in
    let is : c.in_ok-record.record ≡ input_text (input_of c.args.input.now) =
    c.in_ok-record.ensures (sent_short c.answer.new.log.ring.keys c.args.self.now.log.core c.answer.new.log.core (input_of c.args.input.now) c.in-Ok.sent answer) in
    let plain : WantsAll (g.K.Disk.fuel c.args.self.now.journal.disk) 4 (length (staged_text c.in_ok-record.record) + 1) 4 = search rules in
    subst (λ (t : List ℕ). WantsAll (g.K.Disk.fuel c.args.self.now.journal.disk) 4 (length (staged_text t) + 1) 4) is plain

pub returns-in-Ok-append-clause-taken : goal.returns-in-Ok-append-clause-taken
returns-in-Ok-append-clause-taken g c =
    let answer : signed_answer c.answer.new.log.ring.keys (row c.args.self.now.log.core (input_of c.args.input.now)) ≡ Ok (c.answer.new.log.core, c.in-Ok.sent) = search rules in
    let behind : AreBehind (input_of c.args.input.now) c.args.self.now.log.ring.keys c.answer.new.log.ring.keys = search rules in
    taken c.args.self.now.log c.answer.new.log (input_of c.args.input.now) c.in-Ok.sent c.input_told.ensures c.requires answer behind
