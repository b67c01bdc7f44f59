use Rattle.std.proofs.Common.{rules}
use Rattle.std.specs.Prelude.{replicate}
use Rattle.arpki_c.proofs.Firsts.{first_written}
use Rattle.arpki_c.proofs.followed.first_text.Goals as goal

pub returns-clause-bytes : goal.returns-clause-bytes
returns-clause-bytes c =
    (first_written c.args.certificate.now (replicate 412 0) c.write_u16-place.new.out c.write_bytes-place.new.out c.write_u8-place.new.out c.write_u8-place-2.new.out
    c.write_u16-place.result c.write_bytes-place.result c.write_u8-place.result c.write_u8-place-2.result
    (search rules) (search rules) (search rules) (search rules) (search rules) (search rules)
    (search rules) (search rules) (search rules) (search rules) (search rules) (search rules)).0

pub returns-clause-len : goal.returns-clause-len
returns-clause-len c =
    (first_written c.args.certificate.now (replicate 412 0) c.write_u16-place.new.out c.write_bytes-place.new.out c.write_u8-place.new.out c.write_u8-place-2.new.out
    c.write_u16-place.result c.write_bytes-place.result c.write_u8-place.result c.write_u8-place-2.result
    (search rules) (search rules) (search rules) (search rules) (search rules) (search rules)
    (search rules) (search rules) (search rules) (search rules) (search rules) (search rules)).1
