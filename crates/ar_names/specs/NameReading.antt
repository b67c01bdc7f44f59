-- What reading a text as a name gives.
use Rattle.std.specs.Prelude.{ℕ, List, Option, Some, None, Result, Ok, Err}
use Rattle.ar_names.specs.declared.fault.NameFault.{NameFault}
use Rattle.ar_names.specs.declared.fault.NameFault.TheVariants.{Refused}
use Rattle.ar_names.specs.Names.{first_fault_of}

-- the text, or the place of the fault where there is one
abbrev pub unless_faulty : List ℕ → Option ℕ → Result (List ℕ) NameFault
unless_faulty text None = Ok text
unless_faulty text (Some place) = Err (Refused place)

-- the name with this text, or its first fault
abbrev pub name_in : List ℕ → Result (List ℕ) NameFault
name_in text = unless_faulty text (first_fault_of text)
