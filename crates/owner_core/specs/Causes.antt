-- What the faults of the layers below are to an owner.
use Rattle.ar_message.specs.declared.fault.MessageFault.{MessageFault}
use Rattle.ar_message.specs.declared.fault.MessageFault.TheVariants as message_fault
use Rattle.ar_statement.specs.declared.fault.BookFault.{BookFault}
use Rattle.ar_statement.specs.declared.fault.BookFault.TheVariants as book_fault
use Rattle.owner_core.specs.declared.refusal.OwnerRefusal.{OwnerRefusal}
use Rattle.owner_core.specs.declared.refusal.OwnerRefusal.TheVariants.{Form, Spent, Memory}

-- bytes that are no message
abbrev pub of_message : MessageFault → OwnerRefusal
of_message (message_fault.Form place) = Form place
of_message message_fault.Memory = Memory

-- a book that has no leaf left
abbrev pub of_book : BookFault → OwnerRefusal
of_book book_fault.Spent = Spent
of_book book_fault.Memory = Memory
