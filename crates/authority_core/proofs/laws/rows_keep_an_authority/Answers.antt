use Rattle.authority_core.proofs.Rows.{message-keeps, read-keeps, roll-row-keeps}
use Rattle.authority_core.proofs.laws.rows_keep_an_authority.Goals as goal

pub returns : goal.returns
returns c = record {
  message = λ s retired m said later sent is range e. message-keeps s retired m said is range later sent e;
  bytes = λ s retired bytes said later sent is are e. read-keeps s retired bytes said is are later sent e;
  roll = λ s next later sent is text widths e. roll-row-keeps s next is text widths later sent e;
}
