use Rattle.ar_names.proofs.Least.{fault_is_least, least_is_fault, name_is_right, no_fault}
use Rattle.ar_names.proofs.laws.the_first_fault_is_least.Goals as goal

pub returns-clause-found : goal.returns-clause-found
returns-clause-found c = fault_is_least

pub returns-clause-only : goal.returns-clause-only
returns-clause-only c = least_is_fault

pub returns-clause-no_fault : goal.returns-clause-no_fault
returns-clause-no_fault c = name_is_right

pub returns-clause-name : goal.returns-clause-name
returns-clause-name c = no_fault
