use Rattle.std.proofs.Common.{take, length, ap, arith, length-append, ◌++◌}
use Rattle.std.specs.Int.{w16}
use Rattle.ar_bytes.specs.RoundTrip.{number_text}
use Rattle.ar_bytes.proofs.Passing.{length-number_text}
use Rattle.ar_cert.specs.Certificate.{certificate_text}
use Rattle.ar_cert.specs.Changes.{Change}
use Rattle.ar_cert.proofs.Lengths.{length-change_text}
use Rattle.ar_cert.proofs.parts.ChangeParts.write.Goals as goal

pub append_consents-requires : goal.append_consents-requires
append_consents-requires c =
    let cert = take c.put-len.result c.put-len.new.out in
    let size = number_text w16 (length cert) in
    omega (
      arith,
      length-change_text c.args.self.now,
      ap (λ (r : Change). length (certificate_text r.cert)) c.self.view_is,
      c.len_with.ensures,
      c.in_ok-reserve.ensures.ok,
      ap length c.append_counted.ensures.text,
      length-append c.reserve.new.self.items (size ++ cert),
      length-append size cert,
      length-number_text w16 (length cert),
      ap length c.put-len.ensures.text,
      c.append_counted.ensures.capacity,
    )
