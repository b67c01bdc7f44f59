-- Lists that begin with others.
use Rattle.std.proofs.Common.{List, [], ◌++◌, append_assoc, ap, sym, ◌∙◌}
use Rattle.std.proofs.lemmas.List.{append-nil}
use Rattle.ar_base.specs.Prefixes.{BeginsWith}

module _ {A : Type 0} where
  pub begins_itself : (xs : List A) → BeginsWith xs xs
  begins_itself xs = ([], sym (append-nil xs))

  pub begins_on : (xs ys zs : List A) → BeginsWith zs ys → BeginsWith ys xs → BeginsWith zs xs
  begins_on xs ys zs one two = (two.0 ++ one.0, one.1 ∙ ap (λ w. w ++ one.0) two.1 ∙ append_assoc xs two.0 one.0)

  -- a list that is begun by the whole goes on
  pub begins_more : (whole front more : List A) → BeginsWith whole front → BeginsWith (whole ++ more) front
  begins_more whole front more begins = (begins.0 ++ more, ap (λ w. w ++ more) begins.1 ∙ append_assoc front begins.0 more)
