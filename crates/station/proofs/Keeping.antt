-- A station stays one, and its keys can sign what it replies.
use Rattle.std.proofs.Common.{◌≡◌, List, [], ◌∷◌, ◌++◌, is_none, Option, Ok, Err, refl}
use Rattle.std.specs.Prelude.{unwrap_or}
use Rattle.ar_base.specs.Bytes.{AreBytes}
use Rattle.ar_message.specs.Messages.{message_in}
use Rattle.authority_core.specs.Row.{asked_in}
use Rattle.authority_core.specs.State as authority
use Rattle.authority_core.proofs.Rows.{read-keeps}
use Rattle.authority_core.proofs.Signing as authority_signing
use Rattle.lms_tree.specs.KeyParts.{KeyParts}
use Rattle.log_core.specs.Row.{row}
use Rattle.log_core.specs.State as log
use Rattle.log_core.proofs.KeptEndings.{kept-row}
use Rattle.log_core.proofs.Keyed as log_signing
use Rattle.node_core.specs.History.{IsLegal, reply_after, state_after}
use Rattle.node_core.proofs.Histories.{kept_after, legal_parts}
use Rattle.owner_check.specs.declared.answer.Outcome.{Outcome}
use Rattle.owner_check.specs.declared.answer.Outcome.TheVariants.{No}
use Rattle.ar_nodes.specs.Authorities.{authority_reply, check_after, says_to}
use Rattle.ar_nodes.specs.Parties.{CheckParts}
use Rattle.station.specs.Kept.{CanSign, IsStation}
use Rattle.station.specs.Station.{IsNoted, StationState, Unfilled, a_log, an_authority, authority_replied, log_replied, replied_at}
use Rattle.station.specs.declared.delivery.Delivery.{Delivery}

-- a reply, and the station behind it
record IsSigned (keys : List KeyParts) (made : Unfilled × StationState) : Type 0 where
  signs : CanSign keys made.0
  stays : IsStation made.1 keys

log-step : (s : log.CoreState) (keys : List KeyParts) (d : Delivery) → IsStation (a_log s) keys → AreBytes d.bytes → IsSigned keys (log_replied s (row s (log.takes d.bytes)))
log-step s keys d is are = by (row s (log.takes d.bytes)) refl
  where
    by : (a : log.LogAnswer) → row s (log.takes d.bytes) ≡ a → IsSigned keys (log_replied s a)
    by (Ok reply) at =
        let keyed = log_signing.plain-signs s (log.takes d.bytes) keys reply.after reply.unsigned is.0 are tt is.1 at in
        record { signs = keyed.fills; stays = (kept-row s (log.takes d.bytes) reply is.0 are at, keyed.stays) }
    by (Err refusal) at = record { signs = tt; stays = is }

authority-step : (s : authority.AuthorityState) (check : Option CheckParts) (keys : List KeyParts) (d : Delivery) (note : Option Outcome) → IsStation (an_authority s check) keys → AreBytes d.bytes
    → IsSigned keys (replied_at (an_authority s check) d note)
authority-step s check keys d note is are = by (authority_reply says s check (message_in d.bytes)) refl
  where
    says : Outcome
    says = unwrap_or note No

    by : (a : authority.AuthorityAnswer) → authority_reply says s check (message_in d.bytes) ≡ a
        → IsSigned keys (authority_replied s (check_after check (message_in d.bytes) a) a)
    by (Ok made) at =
        let said : Outcome = says_to says check (asked_in (message_in d.bytes)) in
        let keyed = authority_signing.row-signs s keys (is_none check) (message_in d.bytes) said is.1 is.0.honest.sound made.0 made.1 at in
        record {
          signs = keyed.fills;
          stays = (read-keeps s (is_none check) d.bytes said is.0 are made.0 made.1 at, authority_signing.keys-stay s made.0 keys is.1 keyed.stays);
        }
    by (Err refusal) at = record { signs = tt; stays = is }

step : (s : StationState) (keys : List KeyParts) (d : Delivery) (note : Option Outcome) → IsStation s keys → IsNoted s d note → IsSigned keys (replied_at s d note)
step (a_log s) keys d _ is noted = log-step s keys d is noted.0
step (an_authority s check) keys d note is noted = authority-step s check keys d note is noted.0

pub stays : (s : StationState) (keys : List KeyParts) (d : Delivery) (note : Option Outcome) → IsStation s keys → IsNoted s d note → IsStation (replied_at s d note).1 keys
stays s keys d note is noted = (step s keys d note is noted).stays

pub signs : (s : StationState) (keys : List KeyParts) (d : Delivery) (note : Option Outcome) → IsStation s keys → IsNoted s d note → CanSign keys (replied_at s d note).0
signs s keys d note is noted = (step s keys d note is noted).signs

pub stays-after : (s : StationState) (keys : List KeyParts) (calls : List (Delivery × Option Outcome)) → IsStation s keys → IsLegal replied_at IsNoted s calls
    → IsStation (state_after replied_at s calls) keys
stays-after s keys calls is legally =
    kept_after replied_at IsNoted (λ (t : StationState). IsStation t keys) (λ t d note kept noted. stays t keys d note kept noted) s calls is legally

pub signs-after : (s : StationState) (keys : List KeyParts) (before : List (Delivery × Option Outcome)) (d : Delivery) (note : Option Outcome) → IsStation s keys
    → IsLegal replied_at IsNoted s (before ++ (d, note) ∷ []) → CanSign keys (reply_after replied_at s before d note)
signs-after s keys before d note is legally =
    let parts = legal_parts replied_at IsNoted s before d note legally in
    signs (state_after replied_at s before) keys d note (stays-after s keys before is parts.0) parts.1
