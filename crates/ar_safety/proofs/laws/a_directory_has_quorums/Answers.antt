use Rattle.ar_safety.proofs.laws.a_directory_has_quorums.Goals as goal

pub returns : goal.returns
returns c = λ keys is. record { wide = is.quorum_least; few = is.logs_most; few_authorities = is.authorities_most }
