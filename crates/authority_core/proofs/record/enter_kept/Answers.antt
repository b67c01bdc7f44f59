use Rattle.std.proofs.Common.{◌≡◌, ℕ, List, Option, Some, None, OnOk, false, sym, subst, ap, ◌∙◌}
use Rattle.ar_base.specs.Gives.{GivesUnless, with_error}
use Rattle.ar_statement.specs.Claims.{Claim, confirm, confirm_absent, confirmation_by, text_of}
use Rattle.ar_statement.specs.declared.party.Party.{Party}
use Rattle.key_roll.specs.Entry.{after_entry, entered}
use Rattle.key_roll.specs.Rolls.{is_roll}
use Rattle.key_roll.proofs.Books.{is_roll-kind}
use Rattle.authority_core.specs.Calls.{kept_claim}
use Rattle.authority_core.specs.Refusals.{of_book}
use Rattle.authority_core.specs.declared.refusal.AuthorityRefusal.TheVariants as refusal
use Rattle.authority_core.proofs.record.enter_kept.Goals as goal

-- a confirmation is no Roll
plain : (party : Party) (epoch : ℕ) (name : List ℕ) (certificate : Option (List ℕ)) (root : List ℕ) → is_roll (text_of (confirmation_by party epoch name certificate root)) ≡ false
plain party epoch name None root = is_roll-kind (confirm_absent party epoch name root)
plain party epoch name (Some certificate) root = is_roll-kind (confirm party epoch name certificate root)

pub enter-requires : goal.enter-requires
enter-requires c =
    subst (λ (claim : Claim). is_roll (text_of claim) ≡ false) (sym c.kept_statement-statement.ensures)
    (plain _ c.args.kept.now.epoch c.args.kept.now.name c.args.kept.now.certificate c.args.kept.now.root)

pub returns-clause-answer : goal.returns-clause-answer
returns-clause-answer c =
    subst (λ (claim : Claim). GivesUnless refusal.Memory (λ due. due) c.enter.result (with_error of_book (entered c.args.signed.now.book (text_of claim))))
    (c.kept_statement-statement.ensures ∙ ap (λ (p : Party). kept_claim p c.args.kept.now) c.party.ensures) c.enter.ensures.answer

pub returns-clause-ok : goal.returns-clause-ok
returns-clause-ok c =
    subst (λ (claim : Claim). OnOk c.enter.result (c.enter.new.signed.book ≡ after_entry c.args.signed.now.book (text_of claim)))
    (c.kept_statement-statement.ensures ∙ ap (λ (p : Party). kept_claim p c.args.kept.now) c.party.ensures) c.enter.ensures.ok
