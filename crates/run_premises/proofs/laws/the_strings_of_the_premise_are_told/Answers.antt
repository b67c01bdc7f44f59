use Rattle.ar_base.proofs.Apart.{apart}
use Rattle.ar_safety.specs.Hashed.{hashed}
use Rattle.run_premises.proofs.Collisions.{collide}
use Rattle.run_premises.proofs.laws.the_strings_of_the_premise_are_told.Goals as goal

pub returns : goal.returns
returns c = record {
  apart = λ r told. apart (hashed r) told;
  collide = λ r told. collide (hashed r) told;
  needed = λ r clean. clean.strings;
  enough = λ r told alike. record { strings = told; asked = alike };
}
