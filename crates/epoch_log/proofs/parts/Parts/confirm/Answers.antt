use Rattle.std.proofs.Common.{◌≡◌, ap, ◌∙◌, ℕ, List, [], ◌∷◌, subst, Ok, Err}
use Rattle.ar_base.specs.Gives.{GivesOrWants}
use Rattle.ar_statement.specs.Claims.{Claim, text_of}
use Rattle.ar_council.specs.Room.{HasRoom}
use Rattle.ar_council.specs.Values.{confirm_claim}
use Rattle.key_roll.specs.Due.{DueParts}
use Rattle.key_roll.specs.Entry.{entered}
use Rattle.ar_statement.specs.declared.fault.BookFault.TheVariants as book_fault
use Rattle.key_roll.specs.Rolls.{is_roll}
use Rattle.epoch_log.specs.Told.{confirmation_claim}
use Rattle.epoch_log.specs.Calls.{confirming}
use Rattle.epoch_log.specs.Log.{moved, parts_of, state_in}
use Rattle.epoch_log.specs.Right.{newest_digest}
use Rattle.epoch_log.specs.declared.entries.Confirmed.{Confirmed}
use Rattle.epoch_log.proofs.Affirmed.{at-newest, by_newest, log-confirmed}
use Rattle.epoch_log.proofs.Texts.{plain-confirm}
use Rattle.epoch_log.proofs.parts.Parts.confirm.Goals as goal

pub affirm-requires-clause-plain : goal.affirm-requires-clause-plain
affirm-requires-clause-plain c =
    ap (λ (k : Claim). is_roll (text_of k)) c.confirm_statement-statement.ensures
    ∙ plain-confirm c.args.self.now.number c.in-Some.newest.epoch c.view.result c.newest_digest-certificate.result c.in-Some.newest.root

pub returns-in-Ok-clause-answer : goal.returns-in-Ok-clause-answer
returns-in-Ok-clause-answer c =
    at-newest c.args.self.now c.in-Some.newest c.args.name.now c.newest_digest-certificate.result
    (λ (k : Confirmed). entered (state_in c.args.self.now).past.signed (text_of (confirmation_claim c.args.self.now.number k)) ≡ Ok c.in-Ok.due)
    c.in-Some.is c.requires.kept (c.newest_digest-certificate.ensures ∙ ap (newest_digest c.args.self.now.tables.base) c.text-text.ensures.text)
    (subst (λ (k : Claim). entered (state_in c.args.self.now).past.signed (text_of k) ≡ Ok c.in-Ok.due) (c.confirm_statement-statement.ensures ∙ ap (λ (n : List ℕ). confirm_claim c.args.self.now.number c.in-Some.newest.epoch n c.newest_digest-certificate.result c.in-Some.newest.root) c.view.ensures) c.in-Ok.ensures.answer)

pub returns-in-Ok-clause-ok : goal.returns-in-Ok-clause-ok
returns-in-Ok-clause-ok c =
    at-newest c.args.self.now c.in-Some.newest c.args.name.now c.newest_digest-certificate.result
    (λ (k : Confirmed). parts_of c.affirm.new.self ≡ moved (parts_of c.args.self.now) (confirming (state_in c.args.self.now) (text_of (confirmation_claim c.args.self.now.number k)) k))
    c.in-Some.is c.requires.kept (c.newest_digest-certificate.ensures ∙ ap (newest_digest c.args.self.now.tables.base) c.text-text.ensures.text)
    (subst (λ (k : Claim). parts_of c.affirm.new.self ≡ moved (parts_of c.args.self.now) (confirming (state_in c.args.self.now) (text_of k) (by_newest c.in-Some.newest c.args.name.now c.newest_digest-certificate.result))) (c.confirm_statement-statement.ensures ∙ ap (λ (n : List ℕ). confirm_claim c.args.self.now.number c.in-Some.newest.epoch n c.newest_digest-certificate.result c.in-Some.newest.root) c.view.ensures) c.in-Ok.ensures.ok)

pub returns-in-Ok-clause-kept : goal.returns-in-Ok-clause-kept
returns-in-Ok-clause-kept c =
    log-confirmed c.args.self.now c.affirm.new.self c.in-Some.newest c.args.name.now c.newest_digest-certificate.result c.in-Some.is c.requires.kept
    (c.newest_digest-certificate.ensures ∙ ap (newest_digest c.args.self.now.tables.base) c.text-text.ensures.text) c.text-text.ensures.name c.some_digest_told.ensures
    c.digest_told.ensures (subst (λ (k : Claim). HasRoom (state_in c.args.self.now).past.signed (text_of k ∷ [])) (c.confirm_statement-statement.ensures ∙ ap (λ (n : List ℕ). confirm_claim c.args.self.now.number c.in-Some.newest.epoch n c.newest_digest-certificate.result c.in-Some.newest.root) c.view.ensures) c.in-Ok.ensures.leaf)
    (subst (λ (k : Claim). parts_of c.affirm.new.self ≡ moved (parts_of c.args.self.now) (confirming (state_in c.args.self.now) (text_of k) (by_newest c.in-Some.newest c.args.name.now c.newest_digest-certificate.result))) (c.confirm_statement-statement.ensures ∙ ap (λ (n : List ℕ). confirm_claim c.args.self.now.number c.in-Some.newest.epoch n c.newest_digest-certificate.result c.in-Some.newest.root) c.view.ensures) c.in-Ok.ensures.ok) c.affirm.ensures.tables

pub returns-in-Err-clause-answer : goal.returns-in-Err-clause-answer
returns-in-Err-clause-answer c =
    at-newest c.args.self.now c.in-Some.newest c.args.name.now c.newest_digest-certificate.result
    (λ (k : Confirmed). GivesOrWants {T = DueParts} {V = DueParts} book_fault.Memory (λ d. d) (Err c.in-Err.fault)
    (entered (state_in c.args.self.now).past.signed (text_of (confirmation_claim c.args.self.now.number k))))
    c.in-Some.is c.requires.kept (c.newest_digest-certificate.ensures ∙ ap (newest_digest c.args.self.now.tables.base) c.text-text.ensures.text)
    (subst (λ (k : Claim). GivesOrWants {T = DueParts} {V = DueParts} book_fault.Memory (λ d. d) (Err c.in-Err.fault) (entered (state_in c.args.self.now).past.signed (text_of k))) (c.confirm_statement-statement.ensures ∙ ap (λ (n : List ℕ). confirm_claim c.args.self.now.number c.in-Some.newest.epoch n c.newest_digest-certificate.result c.in-Some.newest.root) c.view.ensures) c.in-Err.ensures.answer)
