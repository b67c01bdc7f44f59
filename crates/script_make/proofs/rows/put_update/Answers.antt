use Rattle.script_make.proofs.rows.put_update.Goals as goal

pub returns : goal.returns
returns c = rw (← c.trusted_list-trusted.ensures) c.append.ensures.appends
