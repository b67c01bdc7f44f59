-- What an authority's refusal is where a call below refuses.
use Rattle.std.specs.Prelude.{ℕ}
use Rattle.ar_statement.specs.declared.party.Party.{Party}
use Rattle.ar_message.specs.declared.fault.MessageFault.{MessageFault}
use Rattle.ar_message.specs.declared.fault.MessageFault.TheVariants as message
use Rattle.ar_statement.specs.declared.fault.BookFault.{BookFault}
use Rattle.ar_statement.specs.declared.fault.BookFault.TheVariants as book
use Rattle.key_roll.specs.declared.fault.RollFault.{RollFault}
use Rattle.key_roll.specs.declared.fault.RollFault.TheVariants as roll
use Rattle.owner_check.specs.declared.fault.AskFault.{AskFault}
use Rattle.owner_check.specs.declared.fault.AskFault.TheVariants as ask
use Rattle.party_keys.specs.declared.fault.SignerFault.{SignerFault}
use Rattle.party_keys.specs.declared.fault.SignerFault.TheVariants as signer
use Rattle.party_keys.specs.declared.fault.LearnFault.{LearnFault}
use Rattle.party_keys.specs.declared.fault.LearnFault.TheVariants as learn
use Rattle.authority_core.specs.declared.refusal.AuthorityRefusal.{AuthorityRefusal}
use Rattle.authority_core.specs.declared.refusal.AuthorityRefusal.TheVariants as refusal

abbrev pub of_message : MessageFault → AuthorityRefusal
of_message (message.Form place) = refusal.Form place
of_message message.Memory = refusal.Memory

abbrev pub of_signers : SignerFault → AuthorityRefusal
of_signers (signer.Unknown party) = refusal.Unknown party
of_signers (signer.Bad party k) = refusal.BadSignature party k

abbrev pub of_book : BookFault → AuthorityRefusal
of_book book.Spent = refusal.Spent
of_book book.Memory = refusal.Memory

abbrev pub of_ask : AskFault → AuthorityRefusal
of_ask ask.Failed = refusal.CheckFault
of_ask ask.Memory = refusal.Memory

abbrev pub of_roll : RollFault → AuthorityRefusal
of_roll roll.Last = refusal.LastGeneration
of_roll roll.Memory = refusal.Memory

-- of a party's Roll that was not learnt; the generation is the one that it names
abbrev pub of_learning : Party → ℕ → LearnFault → AuthorityRefusal
of_learning party generation learn.Unknown = refusal.Unknown party
of_learning party generation (learn.Bad k) = refusal.BadSignature party k
of_learning party generation learn.Other = refusal.OtherRoll party generation
of_learning party generation learn.Memory = refusal.Memory
