-- What each row of an owner has, what it does with each message has.
use Rattle.std.specs.Prelude.{ℕ, List, Err}
use Rattle.ar_message.specs.declared.message.Message.{Message}
use Rattle.ar_message.specs.declared.message.Message.TheVariants.{EndorseAsk, Endorsed, Submit, Propose, Ballot, StatusNote, Decision, SkipNote, ConfirmAsk, LogConfirmed, HalfConfirmed, Confirmation, RollNote}
use Rattle.ar_message.specs.declared.sent.Sent.{Sent}
use Rattle.owner_core.specs.Rows.{OwnerAnswer, endorsed_row, message_row, roll_row}
use Rattle.owner_core.specs.State.{Owner}
use Rattle.owner_core.specs.declared.refusal.OwnerRefusal.TheVariants.{NotForOwner}
use Rattle.party_keys.specs.Learning.{Announced}

-- a property of what an owner does, which each row has
pub record EachRow (P : (Owner → OwnerAnswer Sent) → Type 0) : Type 0 where
  pub endorsed : (owner authority : ℕ) (certificate signature : List ℕ) → P (λ me. endorsed_row me owner authority certificate signature)
  pub roll : (a : Announced) → P (λ me. roll_row me a)
  pub other : P (λ me. Err NotForOwner)

pub message-has : (P : (Owner → OwnerAnswer Sent) → Type 0) → EachRow P → (m : Message) → P (λ me. message_row me m)
message-has P each (Endorsed owner authority certificate signature) = each.endorsed owner authority certificate signature
message-has P each (RollNote party generation key signature) = each.roll (record { party = party; generation = generation; key = key; signature = signature })
message-has P each (EndorseAsk owner cert) = each.other
message-has P each (Submit change) = each.other
message-has P each (Propose log epoch base root changes signature) = each.other
message-has P each (Ballot log epoch base root signature) = each.other
message-has P each (StatusNote log epoch value signature) = each.other
message-has P each (Decision epoch base root changes votes) = each.other
message-has P each (SkipNote epoch statuses) = each.other
message-has P each (ConfirmAsk client name first second) = each.other
message-has P each (LogConfirmed part) = each.other
message-has P each (HalfConfirmed part first_signature) = each.other
message-has P each (Confirmation client epoch name root body log log_signature first first_signature second second_signature) = each.other
