use Rattle.arpki_ask.proofs.Writings.{inquiry_alone}
use Rattle.arpki_ask.proofs.laws.only_written_inquiries_are_read.Goals as goal

pub returns : goal.returns
returns c = inquiry_alone
