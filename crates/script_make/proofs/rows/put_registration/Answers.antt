use Rattle.script_make.proofs.rows.put_registration.Goals as goal

pub returns : goal.returns
returns c = rw (← c.trusted_list-trusted.ensures) (rw (← c.keyed_word-keyed.ensures) c.append.ensures.appends)
