use Rattle.std.proofs.Common.{◌++◌, ◌∷◌, [], ◌∙◌, ap}
use Rattle.std.specs.Int.{to_be_bytes, w64}
use Rattle.hashed_strings.proofs.TreeLists.{on-ok, three}
use Rattle.hashed_strings.proofs.table_strings.put_pending.Goals as goal

pub returns : goal.returns
returns c =
    on-ok c.put_cert.result _ _
    (three c.args.strings.now.items c.put_text.new.strings.items c.put_numbered.new.strings.items c.put_cert.new.strings.items _ _ _ c.in_ok-put_text.ensures
    (c.in_ok-put_numbered.ensures ∙ ap (λ digest. c.put_text.new.strings.items ++ (0x04 ∷ to_be_bytes w64 c.args.since ++ digest) ∷ []) c.digest.ensures))
    c.put_cert.ensures
