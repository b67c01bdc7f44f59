use Rattle.std.proofs.Common.{List, ◌++◌, ◌-◌, length, take, drop, ap, ◌∙◌}
use Rattle.ar_message.specs.declared.unsigned.Blank.{Blank}
use Rattle.key_roll.specs.Book.{RollBook}
use Rattle.log_sending.specs.Sending.{blanks_in}
use Rattle.log_sending.proofs.Sealing.{blanks_empty, blanks_first}
use Rattle.log_sending.proofs.sending.+add_blanks.Goals as goal

pub returns-in-empty : goal.returns-in-empty
returns-in-empty t c = blanks_empty c.args.log.now.state.past.signed c.args.places.now c.args.blanks.now.items c.in-empty.len_below

pub returns-in-len1-up : goal.returns-in-len1-up
returns-in-len1-up t c =
    let book : RollBook = c.args.log.now.state.past.signed in
    c.add_blanks.ensures ∙ ap (λ (blanks : List Blank). blanks ++ blanks_in book (take (length c.args.places.now - 1) (drop 1 c.args.places.now))) c.add_blank.ensures.added
    ∙ blanks_first book c.args.places.now c.place-item.result c.args.blanks.now.items c.in-len1-up.len_at_least c.place-item.is
