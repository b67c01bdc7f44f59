use Rattle.std.proofs.lemmas.Result.{on_ok_weaker}
use Rattle.log_restart.proofs.Booked.{entry_put, low_bytes}
use Rattle.log_restart.proofs.books.put_entry.Goals as goal

pub returns : goal.returns
returns c =
    on_ok_weaker c.put_bytes-2.result
    (λ put. entry_put c.args.out.now.items c.put_u32.new.out.items c.put_u32-2.new.out.items c.put_bytes.new.out.items c.put_bytes-2.new.out.items
    c.args.generation c.args.leaf _ c.args.text.now (low_bytes c.args.text.now c.to_be_bytes-len.result c.to_be_bytes-len.ensures)
    c.in_ok-put_u32.ensures.appends.ok c.in_ok-put_u32-2.ensures.appends.ok c.in_ok-put_bytes.ensures.appends.ok put)
    c.put_bytes-2.ensures.appends.ok
