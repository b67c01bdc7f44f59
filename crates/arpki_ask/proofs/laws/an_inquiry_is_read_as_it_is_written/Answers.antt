use Rattle.arpki_ask.proofs.Readings.{inquiry_reads}
use Rattle.arpki_ask.proofs.laws.an_inquiry_is_read_as_it_is_written.Goals as goal

pub returns : goal.returns
returns c = inquiry_reads
