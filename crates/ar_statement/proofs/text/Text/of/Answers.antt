use Rattle.ar_statement.specs.Claims.{claim_of, text_of}
use Rattle.ar_statement.specs.Padding.{padded}
use Rattle.ar_statement.proofs.text.Text.of.Goals as goal

pub invariant_of-result : goal.invariant_of-result
invariant_of-result c =
    let e = c.write_into-len.ensures in
    padded c.write_into-len.result (text_of (claim_of c.args.statement.now)) c.write_into-len.new.out e.within e.len e.text
