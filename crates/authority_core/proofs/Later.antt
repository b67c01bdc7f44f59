-- An authority's record only grows, whatever the authority does; what a row signs is of the book behind it.
use Rattle.std.proofs.Common.{◌≡◌, ℕ, List, [], ◌∷◌, Bool, Result, Ok}
use Rattle.std.specs.Prelude.{map}
use Rattle.std.specs.List.{AllByRecursion}
use Rattle.ar_base.proofs.Giving.{no-error}
use Rattle.ar_base.proofs.Prefixes.{begins_itself, begins_on}
use Rattle.ar_council.proofs.Lists.{one-begins}
use Rattle.ar_council.proofs.Seeing.{seen-begins}
use Rattle.ar_message.specs.declared.address.Address.{Address}
use Rattle.ar_message.specs.declared.address.Address.TheVariants.{One}
use Rattle.ar_message.specs.declared.message.Confirming.{Confirming}
use Rattle.ar_message.specs.declared.message.Message.{Message}
use Rattle.ar_message.specs.declared.message.Message.TheVariants.{HalfConfirmed}
use Rattle.ar_message.specs.declared.unsigned.Blank.{Blank}
use Rattle.ar_message.specs.declared.unsigned.Unsigned.{Unsigned}
use Rattle.ar_statement.specs.Claims.{Claim, authority_party, client_party, endorse, roll, text_of}
use Rattle.ar_statement.specs.declared.text.SeenText.{SeenText}
use Rattle.key_roll.specs.Due.{DueParts}
use Rattle.key_roll.specs.Entry.{after_entry, entered, roll_text}
use Rattle.key_roll.specs.Later.{IsServed}
use Rattle.key_roll.proofs.Books.{is_roll-kind}
use Rattle.key_roll.proofs.Later.{entered_is_served, entry_later, later_on, roll_later, rolled_is_served, same_book}
use Rattle.lms_tree.specs.PublicKey.{key_text}
use Rattle.lms_tree.specs.declared.public_key.LmsPublic.{LmsPublic}
use Rattle.owner_check.specs.declared.answer.Outcome.{Outcome}
use Rattle.party_keys.specs.Learning.{Announced, roll_claim}
use Rattle.party_keys.specs.Seen.{seen_of}
use Rattle.party_keys.specs.Signers.{Claimed, seen_in}
use Rattle.authority_core.specs.Calls.{after_endorse, after_half_confirmed, after_learn, after_log_confirmed, after_roll, confirming, is_same_asked, is_same_kept, kept_claim, seen_of_half, seen_of_log}
use Rattle.authority_core.specs.ConfirmRows.{confirmation_with, half_claims, log_claims}
use Rattle.authority_core.specs.Confirming.{kept_of}
use Rattle.authority_core.specs.EndorseRow.{asked_of}
use Rattle.authority_core.specs.Later.{AuthorityGrows}
use Rattle.authority_core.specs.Record.{AuthorityRecord}
use Rattle.authority_core.specs.Refusals.{of_book}
use Rattle.authority_core.specs.RollRows.{roll_row}
use Rattle.authority_core.specs.Row.{row}
use Rattle.authority_core.specs.State.{AuthorityAnswer, AuthorityState, entering}
use Rattle.authority_core.specs.declared.entries.Approved.{Approved}
use Rattle.authority_core.specs.declared.entries.Kept.{Kept}
use Rattle.authority_core.proofs.EachRow.{AnswersWith, confirmed_by, confirmed_out, endorsed_by, endorsed_out, rolled-with, row-gives}

-- ---- calls

pub same_record : (r : AuthorityRecord) → AuthorityGrows r r
same_record r = record { seen = begins_itself r.seen; signed = same_book r.signed; asked = begins_itself r.asked; kept = begins_itself r.kept }

pub grows_on : (r later last : AuthorityRecord) → AuthorityGrows r later → AuthorityGrows later last → AuthorityGrows r last
grows_on r later last one two = record {
  seen = begins_on r.seen later.seen last.seen two.seen one.seen;
  signed = later_on r.signed later.signed last.signed one.signed two.signed;
  asked = begins_on r.asked later.asked last.asked two.asked one.asked;
  kept = begins_on r.kept later.kept last.kept two.kept one.kept;
}

pub endorse_adds : (me : ℕ) (r : AuthorityRecord) (a : Approved) → AuthorityGrows r (after_endorse me r a)
endorse_adds me r a = record {
  seen = begins_itself r.seen;
  signed = entry_later r.signed (text_of (endorse me a.certificate));
  asked = one-begins is_same_asked r.asked a;
  kept = begins_itself r.kept;
}

confirming_adds : (me : ℕ) (r : AuthorityRecord) (more : List SeenText) (k : Kept) → AuthorityGrows r (confirming me r more k)
confirming_adds me r more k = record {
  seen = seen-begins more r.seen;
  signed = entry_later r.signed (text_of (kept_claim (authority_party me) k));
  asked = begins_itself r.asked;
  kept = one-begins is_same_kept r.kept k;
}

pub log_confirmed_adds : (me : ℕ) (r : AuthorityRecord) (log : ℕ) (voters : List ℕ) (k : Kept) → AuthorityGrows r (after_log_confirmed me r log voters k)
log_confirmed_adds me r log voters k = confirming_adds me r (seen_of_log log voters k) k

pub half_confirmed_adds : (me : ℕ) (r : AuthorityRecord) (log : ℕ) (voters : List ℕ) (first : ℕ) (k : Kept) → AuthorityGrows r (after_half_confirmed me r log voters first k)
half_confirmed_adds me r log voters first k = confirming_adds me r (seen_of_half log voters first k) k

pub learn_adds : (r : AuthorityRecord) (a : Announced) → AuthorityGrows r (after_learn r a)
learn_adds r a = record {
  seen = seen-begins (seen_of a.party (roll_claim a) ∷ []) r.seen;
  signed = same_book r.signed;
  asked = begins_itself r.asked;
  kept = begins_itself r.kept;
}

pub roll_adds : (me : ℕ) (r : AuthorityRecord) (key : List ℕ) → AuthorityGrows r (after_roll me r key)
roll_adds me r key = record {
  seen = begins_itself r.seen;
  signed = roll_later r.signed (text_of (roll (authority_party me) r.signed.newest key));
  asked = begins_itself r.asked;
  kept = begins_itself r.kept;
}

-- ---- what a step does

-- a blank is of a leaf that serves its text in the book
abbrev pub IsServedIn : AuthorityState → Blank → Type 0
IsServedIn s blank = IsServed s.past.signed blank.due

-- A step only adds to the record, and signs by the book behind it.
pub record IsStepOf (s later : AuthorityState) (sent : Unsigned) : Type 0 where
  pub grows : AuthorityGrows s.past later.past
  pub served : AllByRecursion (IsServedIn later) sent.blanks

abbrev pub StepsOf : AuthorityState → AuthorityAnswer → Type 0
StepsOf s answer = AnswersWith (IsStepOf s) answer

-- a statement is entered, and signed
entered_of : (r : AuthorityRecord) (claim : Claim) (due : DueParts) → entering r claim ≡ Ok due → IsServed (after_entry r.signed (text_of claim)) due
entered_of r claim due e = entered_is_served r.signed (text_of claim) due (no-error of_book (entered r.signed (text_of claim)) due e)

endorsed_step : (s : AuthorityState) (owner : ℕ) (a : Approved) (due : DueParts) → entering s.past (endorse s.me a.certificate) ≡ Ok due
    → IsStepOf s (endorsed_by s a) (endorsed_out s owner a due)
endorsed_step s owner a due e = record { grows = endorse_adds s.me s.past a; served = (entered_of s.past (endorse s.me a.certificate) due e, tt) }

confirmed_step : (s : AuthorityState) (claims : List Claimed) (part : Confirming) (to : Address) (message : List ℕ → Message) (due : DueParts)
    → entering s.past (kept_claim (authority_party s.me) (kept_of part)) ≡ Ok due → IsStepOf s (confirmed_by s claims part) (confirmed_out s to message due)
confirmed_step s claims part to message due e = record {
  grows = confirming_adds s.me s.past (map seen_in claims) (kept_of part);
  served = (entered_of s.past (kept_claim (authority_party s.me) (kept_of part)) due e, tt);
}

pub row_step : (s : AuthorityState) (retired : Bool) (m : Result Message ℕ) (said : Outcome) → StepsOf s (row s retired m said)
row_step s retired m said = row-gives (λ read. IsStepOf s) s retired m said (record {
  endorses = λ owner cert due stays yes entered. endorsed_step s owner (asked_of cert) due entered;
  first = λ part due passed entered. confirmed_step s (log_claims part) part (One (authority_party part.second)) (λ signature. HalfConfirmed part signature) due entered;
  second = λ part signature due passed entered. confirmed_step s (half_claims part signature) part (One (client_party part.client)) (confirmation_with part signature) due entered;
  notes = λ a how learnt. record { grows = learn_adds s.past a; served = tt };
})

pub rolling_step : (s : AuthorityState) (next : LmsPublic) → StepsOf s (roll_row s next)
rolling_step s next = rolled-with (IsStepOf s) s next (λ due rolls. record {
  grows = roll_adds s.me s.past (key_text next);
  served = (rolled_is_served s.past.signed (roll_text (authority_party s.me) s.past.signed.newest next) due (is_roll-kind (roll (authority_party s.me) s.past.signed.newest (key_text next))) rolls, tt);
})
