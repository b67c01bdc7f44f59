use Rattle.std.proofs.Common.{◌≡◌, ◌∙◌, List, ap, length, subst, sym}
use Rattle.ar_statement.specs.Claims.{authority_party, log_party}
use Rattle.ar_council.specs.Council.{council_of}
use Rattle.epoch_log.specs.Record.{LogRecord}
use Rattle.authority_core.specs.Record.{AuthorityRecord}
use Rattle.epoch_log.specs.Calls.{fresh}
use Rattle.authority_core.specs.Calls.{fresh_authority}
use Rattle.ar_safety.specs.Held.{record_at}
use Rattle.ar_safety.proofs.Held.{honest-count, judged-there, own-record}
use Rattle.ar_safety.proofs.laws.the_records_leave_nothing_out.Goals as goal

pub returns : goal.returns
returns c = record {
  logs = λ h states all log is.
      subst (λ records. record_at log_party h.dishonest records (fresh 0 (council_of h.directory) 1).past log ≡ (states log).past) (sym all)
      (own-record log_party h.dishonest (λ k. (states k).past) (fresh 0 (council_of h.directory) 1).past (length h.directory.logs) log is.known is.honest);
  authorities = λ h of all authority is.
      subst (λ records. record_at authority_party h.dishonest records (fresh_authority 1) authority ≡ of authority) (sym all)
      (own-record authority_party h.dishonest of (fresh_authority 1) (length h.directory.authorities) authority is.known is.honest);
  log_count = λ h states all. ap (λ (rs : List LogRecord). length rs) all ∙ honest-count log_party h.dishonest (λ k. (states k).past) (length h.directory.logs);
  authority_count = λ h of all. ap (λ (rs : List AuthorityRecord). length rs) all ∙ honest-count authority_party h.dishonest of (length h.directory.authorities);
  judged = judged-there;
}
