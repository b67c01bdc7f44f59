use Rattle.map_safety.proofs.Tables.{by-directory, honest-of}
use Rattle.map_safety.proofs.laws.a_client_of_a_map_goes_by_the_names_directory.Goals as goal

pub returns : goal.returns
returns c = record { directory = by-directory; honest = honest-of }
