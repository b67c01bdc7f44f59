-- No honest party is named.
use Rattle.std.proofs.Common.{◌≡◌, ℕ, List, sym, ap, ◌∙◌, true, false}
use Rattle.std.specs.Str.{bytes_eq}
use Rattle.std.proofs.lemmas.Slice.Eq.{bytes_eq-Decides}
use Rattle.ar_statement.specs.Claims.{Claim, authority_party, log_party, signer_of, text_of}
use Rattle.ar_statement.specs.Ranges.{IsValid}
use Rattle.ar_council.specs.Council.{Council}
use Rattle.party_keys.specs.Directory.{Directory}
use Rattle.key_roll.specs.Book.{RollBook}
use Rattle.epoch_log.specs.Honest.{IsOfHonestLog}
use Rattle.epoch_log.specs.Record.{LogRecord}
use Rattle.epoch_log.specs.Told.{ToldByLog}
use Rattle.authority_core.specs.Honest.{IsOfHonestAuthority, ToldBy}
use Rattle.authority_core.specs.Record.{AuthorityRecord}
use Rattle.monitor.specs.declared.item.Item.{Item}
use Rattle.monitor.specs.Items.{Sworn}
use Rattle.monitor.specs.Standing.{IsSwornIn, StandIn, StandsAt}
use Rattle.monitor.specs.Reports.{Names, report_of}
use Rattle.monitor.proofs.Authorities.{no-answer, no-ballot, no-status, no-status-pair}
use Rattle.monitor.proofs.Logs.{not-denied, one-answer, one-ballot, one-status}
use Rattle.monitor.proofs.Pairs.{named}
use Rattle.monitor.proofs.Shown.{fitted, one-text, ruled}
use Rattle.monitor.proofs.Stood.{one-leaf, one-roll, stood, sworn-says}

-- what stands in a book of texts of which P holds
record ToldByLog-of (P : Claim → Type 0) (book : RollBook) (s : Sworn) : Type 0 where
  at : StandsAt book s
  valid : IsValid s.claim
  holds : P s.claim
  is : text_of s.claim ≡ s.text

-- texts that differ are of different statements
apart : (s t : Sworn) → text_of s.claim ≡ s.text → text_of t.claim ≡ t.text → bytes_eq s.text t.text ≡ false → s.claim ≡ t.claim → ⊥
apart s t is-s is-t differ same =
    let yes : bytes_eq s.text t.text ≡ true = (bytes_eq-Decides s.text t.text).1 (sym is-s ∙ ap text_of same ∙ is-t) in
    cc

pub honest-log : (keys : Directory) (items : List Item) (council : Council) (me : ℕ) (r : LogRecord) → IsOfHonestLog council me r
    → StandIn r.signed keys items (log_party me) → ¬ Names (report_of keys items) (log_party me)
honest-log keys items council me r h stand names =
    let pair = named keys items (log_party me) names in
    let one = told-of pair.s pair.shown pair.signer in
    let two = told-of pair.t pair.shown_later pair.signer_later in
    let is = ruled pair.s pair.t pair.rule pair.rule_is in
    let differ = apart pair.s pair.t one.is two.is is.0 in
    fitted pair.s pair.t pair.rule is.1 (record {
      votes = λ e. differ (one-ballot council me r pair.s.claim pair.t.claim h one.holds two.holds e);
      denied = not-denied council me r pair.s.claim pair.t.claim h one.holds two.holds;
      denies = not-denied council me r pair.t.claim pair.s.claim h two.holds one.holds;
      statuses = λ e. differ (one-status council me r pair.s.claim pair.t.claim h one.holds two.holds e);
      confirmations = λ e. differ (one-answer council me r pair.s.claim pair.t.claim h one.holds two.holds e);
      rolls = λ e. one-text pair.s pair.t is.0 (one-roll r.signed pair.s pair.t h.signs_what_it_tells.sound one.valid two.valid one.is two.is one.at two.at e);
      leaves = λ e. one-text pair.s pair.t is.0 (one-leaf r.signed pair.s pair.t h.signs_what_it_tells.sound one.at two.at e);
    })
  where
    P : Claim → Type 0
    P = ToldByLog me r.voted r.stated r.confirmed

    told-of : (s : Sworn) → IsSwornIn keys items s → signer_of s.claim ≡ log_party me → ToldByLog-of P r.signed s
    told-of s (i, has, is) signer =
        let at = stand s (i, has, is) signer in
        let what = stood P r.signed s.text s.claim at.0 at.1 h.signs_what_it_tells.told at.4 (sworn-says keys i s is) in
        record { at = at; valid = what.0; holds = what.1.0; is = what.1.1 }

pub honest-authority : (keys : Directory) (items : List Item) (council : Council) (me : ℕ) (r : AuthorityRecord) → IsOfHonestAuthority council me r
    → StandIn r.signed keys items (authority_party me) → ¬ Names (report_of keys items) (authority_party me)
honest-authority keys items council me r h stand names =
    let pair = named keys items (authority_party me) names in
    let one = told-of pair.s pair.shown pair.signer in
    let two = told-of pair.t pair.shown_later pair.signer_later in
    let is = ruled pair.s pair.t pair.rule pair.rule_is in
    fitted pair.s pair.t pair.rule is.1 (record {
      votes = no-ballot council me r pair.s.claim pair.t.claim one.holds;
      denied = no-status council me r pair.s.claim pair.t.claim one.holds;
      denies = no-status council me r pair.t.claim pair.s.claim two.holds;
      statuses = no-status-pair council me r pair.s.claim pair.t.claim one.holds;
      confirmations = no-answer me pair.s.claim pair.t.claim pair.signer;
      rolls = λ e. one-text pair.s pair.t is.0 (one-roll r.signed pair.s pair.t h.sound one.valid two.valid one.is two.is one.at two.at e);
      leaves = λ e. one-text pair.s pair.t is.0 (one-leaf r.signed pair.s pair.t h.sound one.at two.at e);
    })
  where
    P : Claim → Type 0
    P = ToldBy council me r.seen r.asked r.kept

    told-of : (s : Sworn) → IsSwornIn keys items s → signer_of s.claim ≡ authority_party me → ToldByLog-of P r.signed s
    told-of s (i, has, is) signer =
        let at = stand s (i, has, is) signer in
        let what = stood P r.signed s.text s.claim at.0 at.1 h.told at.4 (sworn-says keys i s is) in
        record { at = at; valid = what.0; holds = what.1.0; is = what.1.1 }
