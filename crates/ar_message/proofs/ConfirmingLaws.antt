-- A confirmation on its way: what was put is read again, and what is read is spelled so.
use Rattle.std.proofs.Common.{◌≡◌, ℕ, ◌^◌, ◌<◌, Bool, List, ◌++◌, Ok, refl, sym, ap, subst}
use Rattle.std.specs.Int.{w16}
use Rattle.ar_base.specs.Bytes.{AreBytes, IsDigest}
use Rattle.ar_base.specs.Chaining.{◌>>=◌}
use Rattle.ar_base.proofs.Shown.{ok_is}
use Rattle.ar_bytes.specs.Reading.{Cursor, Reading, number_at}
use Rattle.ar_bytes.specs.RoundTrip.{Passes, ReadsBack, IsSpelledBy, number_text}
use Rattle.ar_bytes.proofs.Steps.{Passes-then, split, next}
use Rattle.ar_bytes.proofs.Passing.{number_again, number_pass, wide16}
use Rattle.ar_statement.specs.Fields.{digest_at}
use Rattle.ar_statement.proofs.FieldLaws.{digest_again, digest_pass}
use Rattle.ar_message.specs.declared.lists.Vote.{Vote}
use Rattle.ar_message.specs.declared.message.Body.{Body}
use Rattle.ar_message.specs.declared.message.Body.TheVariants.{Present, Absent}
use Rattle.ar_message.specs.declared.message.Confirming.{Confirming}
use Rattle.ar_message.specs.Confirmation as confirmation
use Rattle.ar_message.specs.Confirmation.{AreSteps, IsBody, IsSigned, IsSubject, Signed, Subject, body_at, body_text, form_at, form_text, is_present, path_at, path_text, signed_at, signed_text, subject_at, subject_text}
use Rattle.ar_message.specs.Lists.{AreVotes, votes_at, votes_text}
use Rattle.ar_message.specs.Messages.{IsConfirming, about_in, body_with, confirmation_in, confirmed_text, confirming_at, confirming_text, path_in, shown_in, signed_in, vouched_text}
use Rattle.ar_message.proofs.ConfirmationLaws.{body_again, body_pass, form_again, form_pass, path_again, path_pass, signed_again, signed_pass, subject_again, subject_pass}
use Rattle.ar_message.proofs.ListLaws.{votes_again, votes_pass}

-- ---- what the table has for a name, with its path

-- what was put together is taken apart again
pub shown-with : (shown : confirmation.Body) (path : List ℕ) → shown_in (body_with shown path) ≡ shown
shown-with (confirmation.present certificate) path = refl
shown-with (confirmation.absent bottom) path = refl

pub path-with : (shown : confirmation.Body) (path : List ℕ) → path_in (body_with shown path) ≡ path
path-with (confirmation.present certificate) path = refl
path-with (confirmation.absent bottom) path = refl

-- and what was taken apart is put together again
pub with-parts : (body : Body) → body_with (shown_in body) (path_in body) ≡ body
with-parts (Present certificate path) = refl
with-parts (Absent bottom path) = refl

-- the confirmation of a confirmation's own fields
pub whole-with : (c : confirmation.Confirmation)
    → confirmation_in c.about.client c.about.epoch c.about.name c.about.root (body_with c.body c.steps) c.log.number c.log.signature c.first.number c.first.signature c.second.number c.second.signature ≡ c
whole-with c = rw (shown-with c.body c.steps, path-with c.body c.steps) refl

-- ---- what two kinds share

pub confirming_again : (part : Confirming) → IsConfirming part → ReadsBack confirming_at part (confirming_text part)
unfolding confirming_at confirming_text
confirming_again part h at new p =
    let shown = shown_in part.body in
    let path = path_in part.body in
    let parts = split at new (confirmed_text part) (vouched_text part) p in
    let front = parts.0 in
    let form = split at front (form_text (is_present shown)) _ parts.1 in
    let about = split form.0 front (subject_text (about_in part)) _ form.2 in
    let base = split about.0 front part.base _ about.2 in
    let body = split base.0 front (body_text shown) (path_text path) base.2 in
    let votes = split front new (votes_text part.votes) _ parts.2 in
    let log = split votes.0 new (signed_text (signed_in part.log part.signature)) _ votes.2 in
    let first = split log.0 new (number_text w16 part.first) (number_text w16 part.second) log.2 in
    rw (
      form_again (is_present shown) at form.0 form.1,
      subject_again (about_in part) h.about form.0 about.0 about.1,
      digest_again part.base h.base about.0 base.0 base.1,
      body_again shown h.shown base.0 body.0 body.1,
      path_again path h.path body.0 front body.2,
      votes_again part.votes h.votes front votes.0 votes.1,
      signed_again (signed_in part.log part.signature) h.log votes.0 log.0 log.1,
      number_again w16 (2 ^ 16) wide16 part.first h.first log.0 first.0 first.1,
      number_again w16 (2 ^ 16) wide16 part.second h.second first.0 new first.2,
      with-parts part.body,
    ) refl

-- what vouches for a confirmation: the votes, the log with its signature, and who is asked too
abbrev vouching_text : List Vote → Signed → ℕ → ℕ → List ℕ
vouching_text votes log first second = votes_text votes ++ (signed_text log ++ (number_text w16 first ++ number_text w16 second))

-- what is read of that behind the path, and what is made of it
abbrev vouching_at : (List Vote → Signed → ℕ → ℕ → Confirming) → Cursor → Reading Confirming
vouching_at make at =
    votes_at at >>= λ votes. signed_at votes.1 >>= λ log. number_at w16 log.1 >>= λ first. number_at w16 first.1 >>= λ second. Ok (make votes.0 log.0 first.0 second.0, second.1)

record Vouching (make : List Vote → Signed → ℕ → ℕ → Confirming) (at new : Cursor) (part : Confirming) : Type 0 where
  votes : List Vote
  log : Signed
  first : ℕ
  second : ℕ
  passes : Passes at (vouching_text votes log first second) new
  are_votes : AreVotes votes
  is_log : IsSigned log
  is_first : first < 2 ^ 16
  is_second : second < 2 ^ 16
  made : make votes log first second ≡ part

vouching_pass : (make : List Vote → Signed → ℕ → ℕ → Confirming) (at new : Cursor) (part : Confirming) → AreBytes at.ahead → vouching_at make at ≡ Ok (part, new) → Vouching make at new part
vouching_pass make at new part bytes e =
    let votes = next votes_at votes_text AreVotes votes_pass _ at (part, new) bytes e in
    let log = next signed_at signed_text IsSigned signed_pass _ votes.1 (part, new) votes.4 votes.5 in
    let first = next (number_at w16) (number_text w16) (λ n. n < 2 ^ 16) (number_pass w16 (2 ^ 16) wide16) _ log.1 (part, new) log.4 log.5 in
    let second = next (number_at w16) (number_text w16) (λ n. n < 2 ^ 16) (number_pass w16 (2 ^ 16) wide16) _ first.1 (part, new) first.4 first.5 in
    let is = ok_is (make votes.0 log.0 first.0 second.0, second.1) (part, new) second.5 in
    let asked = Passes-then log.1 first.1 second.1 (number_text w16 first.0) (number_text w16 second.0) first.2 second.2 in
    let logs = Passes-then votes.1 log.1 second.1 (signed_text log.0) (number_text w16 first.0 ++ number_text w16 second.0) log.2 asked in
    let all = Passes-then at votes.1 second.1 (votes_text votes.0) (signed_text log.0 ++ (number_text w16 first.0 ++ number_text w16 second.0)) votes.2 logs in
    record {
      votes = votes.0;
      log = log.0;
      first = first.0;
      second = second.0;
      passes = subst (λ (x : Confirming × Cursor). Passes at (vouching_text votes.0 log.0 first.0 second.0) x.1) is all;
      are_votes = votes.3;
      is_log = log.3;
      is_first = first.3;
      is_second = second.3;
      made = ap (λ (x : Confirming × Cursor). x.0) is;
    }

-- what stands in front of that, and what is confirmed by it
abbrev confirming_of : Subject → List ℕ → confirmation.Body → List ℕ → List Vote → Signed → ℕ → ℕ → Confirming
confirming_of about base shown path votes log first second = record { client = about.client; epoch = about.epoch; name = about.name; root = about.root; base = base; body = body_with shown path; votes = votes; log = log.number; signature = log.signature; first = first; second = second }

abbrev shown_text : Subject → List ℕ → confirmation.Body → List ℕ → List ℕ
shown_text about base shown path = form_text (is_present shown) ++ (subject_text about ++ (base ++ (body_text shown ++ path_text path)))

-- what was read has the parts that it was made of
made_of : (about : Subject) (base : List ℕ) (shown : confirmation.Body) (path : List ℕ) (votes : List Vote) (log : Signed) (first second : ℕ) (at mid new : Cursor)
    → IsSubject about → IsDigest base → IsBody shown → AreSteps path → AreVotes votes → IsSigned log → first < 2 ^ 16 → second < 2 ^ 16
    → Passes at (shown_text about base shown path) mid → Passes mid (vouching_text votes log first second) new
    → Passes at (confirming_text (confirming_of about base shown path votes log first second)) new × IsConfirming (confirming_of about base shown path votes log first second)
unfolding confirming_text
made_of about base shown path votes log first second at mid new is_about is_base is_shown is_path are_votes is_log is_first is_second front back =
    let all = Passes-then at mid new (shown_text about base shown path) (vouching_text votes log first second) front back in (
      rw (shown-with shown path, path-with shown path) all,
      record {
        about = is_about;
        base = is_base;
        shown = subst IsBody (sym (shown-with shown path)) is_shown;
        path = subst AreSteps (sym (path-with shown path)) is_path;
        votes = are_votes;
        log = is_log;
        first = is_first;
        second = is_second;
      },
    )

pub confirming_pass : IsSpelledBy confirming_at confirming_text IsConfirming
unfolding confirming_at
confirming_pass at new part bytes e =
    let form = next form_at form_text (λ _. Unit {0}) form_pass _ at (part, new) bytes e in
    let about = next subject_at subject_text IsSubject subject_pass _ form.1 (part, new) form.4 form.5 in
    let base = next digest_at (λ d. d) IsDigest (λ a n x. digest_pass a n x) _ about.1 (part, new) about.4 about.5 in
    let shown = next (body_at form.0) body_text (λ b. IsBody b × (is_present b ≡ form.0)) (body_pass form.0) _ base.1 (part, new) base.4 base.5 in
    let path = next path_at path_text AreSteps path_pass _ shown.1 (part, new) shown.4 shown.5 in
    let v : Vouching (confirming_of about.0 base.0 shown.0 path.0) path.1 new part = vouching_pass (confirming_of about.0 base.0 shown.0 path.0) path.1 new part path.4 path.5 in
    let formed = subst (λ (b : Bool). Passes at (form_text b) form.1) (sym shown.3.1) form.2 in
    let bodies = Passes-then base.1 shown.1 path.1 (body_text shown.0) (path_text path.0) shown.2 path.2 in
    let bases = Passes-then about.1 base.1 path.1 base.0 (body_text shown.0 ++ path_text path.0) base.2 bodies in
    let abouts = Passes-then form.1 about.1 path.1 (subject_text about.0) (base.0 ++ (body_text shown.0 ++ path_text path.0)) about.2 bases in
    let front = Passes-then at form.1 path.1 (form_text (is_present shown.0)) (subject_text about.0 ++ (base.0 ++ (body_text shown.0 ++ path_text path.0))) formed abouts in
    subst (λ (x : Confirming). Passes at (confirming_text x) new × IsConfirming x) v.made
    (made_of about.0 base.0 shown.0 path.0 v.votes v.log v.first v.second at path.1 new about.3 base.3 shown.3.0 path.3 v.are_votes v.is_log v.is_first v.is_second front v.passes)
