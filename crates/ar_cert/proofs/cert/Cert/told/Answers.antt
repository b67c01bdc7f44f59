use Rattle.std.proofs.Common.{subst, arith}
use Rattle.ar_cert.specs.Certificate.{IsCertificate}
use Rattle.ar_cert.proofs.cert.Cert.told.Goals as goal

pub returns : goal.returns
returns c =
    subst IsCertificate c.self.view_is (record {
      name = c.text-name.ensures.name;
      serial = omega arith;
      previous = record { len = omega arith; bytes = c.are_bytes.ensures };
      subject = (omega arith, omega arith);
      policy = c.told.ensures;
    })
