-- The premises of the law can be met: by a table whose parties have done nothing yet.
use Rattle.std.proofs.Common.{◌≡◌, ℕ, [], ◌∷◌, refl, arith}
use Rattle.std.proofs.lemmas.List.Elements.{All-nil}
use Rattle.ar_base.specs.Apart.{none_collide}
use Rattle.ar_council.specs.Council.{council_of}
use Rattle.party_keys.specs.Directory.{IsDirectory}
use Rattle.party_keys.proofs.Bounds.{made_keeps}
use Rattle.ar_safety.specs.RegisteredRun.{all_five, directory_of_five, publics_of}
use Rattle.ar_statement.specs.declared.party.Role.TheVariants.{LogServer, Authority}
use Rattle.ar_safety.specs.Theorem.{AreHonest, Few, NoCollision, NoForgery}
use Rattle.ar_safety.specs.Records.{fresh_records}
use Rattle.ar_safety.proofs.Fresh.{fresh-honest, fresh-premises}
use Rattle.map_safety.specs.Example.{fresh_map}
use Rattle.map_safety.specs.World.{IsAcceptance, IsTable, MapAcceptance, NoMapCollision, records_in}

five-directory : IsDirectory directory_of_five
five-directory = made_keeps (publics_of LogServer all_five) (publics_of Authority (0 ∷ (1 ∷ (2 ∷ [])))) 4 directory_of_five refl

five-honest : AreHonest (fresh_records (council_of directory_of_five) 32)
five-honest = fresh-honest (council_of directory_of_five) 32
    (record { wide = five-directory.quorum_least; few = five-directory.logs_most; few_authorities = five-directory.authorities_most }) (omega arith)

pub fresh-table : IsTable fresh_map 0
fresh-table = record {
  few_bits = omega arith;
  placed = record { steps = refl; shown = (refl, (omega arith, refl)) };
  directory = five-directory;
  council = refl;
  logs = five-honest.logs;
  authorities = five-honest.authorities;
  accepted = All-nil (IsAcceptance fresh_map.of_map 0);
}

pub fresh-apart : NoMapCollision fresh_map 0
fresh-apart = All-nil _

pub fresh-met : Few (records_in fresh_map 0) × NoForgery (records_in fresh_map 0) × NoCollision (records_in fresh_map 0)
fresh-met = fresh-premises (council_of directory_of_five) 32
