-- When a connection with a staple is open.
use Rattle.std.proofs.Common.{◌≡◌, ◌↔◌, ℕ, ◌<◌, ◌^◌, List, refl, sym, ap, ◌∙◌, subst}
use Rattle.std.specs.Result.{result_ok}
use Rattle.ar_bytes.specs.Reading.{whole}
use Rattle.ar_cert.specs.Certificate.{Certificate}
use Rattle.ar_message.specs.Confirmation.{confirmation_at}
use Rattle.bound_challenge.specs.Challenges.{staple_challenge}
use Rattle.client_rule.specs.Meaning.{Accepts}
use Rattle.client_rule.specs.Rule.{Asked}
use Rattle.lms_tree.specs.Key.{public_of, signature_of}
use Rattle.lms_tree.specs.LmsKind.{height_of}
use Rattle.lms_tree.specs.declared.validity.Verdict.TheVariants.{Valid}
use Rattle.possession.specs.Answering.{Server, answer_text}
use Rattle.possession.specs.Connections.{Shows, connection_of, epoch_in, epoch_of_read, stapled_connection_of}
use Rattle.possession.specs.declared.connection.Connection.TheVariants as connection
use Rattle.possession.proofs.Opened.{answer_opens, is_open}

-- the epoch that is accepted is the one that the bytes have
its_epoch : (asked : Asked) (confirmation : List ℕ) (certificate : Certificate) (digest : List ℕ) (epoch : ℕ) (root : List ℕ)
    → Accepts asked confirmation certificate digest epoch root → epoch_in confirmation ≡ epoch
its_epoch asked confirmation certificate digest epoch root accepts = ap (λ r. epoch_of_read (result_ok r)) accepts.passes.is_read ∙ sym accepts.epoch_is

pub is_open_stapled : (asked : Asked) (confirmation channel staple : List ℕ) (certificate : Certificate) (digest : List ℕ) (epoch : ℕ) (root : List ℕ)
    → (stapled_connection_of asked confirmation channel staple ≡ connection.Open certificate digest epoch root)
    ↔ Shows asked confirmation (staple_challenge epoch channel) staple certificate digest epoch root Valid
is_open_stapled asked confirmation channel staple certificate digest epoch root = (forth, back) where
  at : ℕ → Type 0
  at e = Shows asked confirmation (staple_challenge e channel) staple certificate digest epoch root Valid

  forth : stapled_connection_of asked confirmation channel staple ≡ connection.Open certificate digest epoch root → at epoch
  forth h =
      let shows = (is_open asked confirmation (staple_challenge (epoch_in confirmation) channel) staple certificate digest epoch root).0 h in
      subst at (its_epoch asked confirmation certificate digest epoch root shows.accepts) shows

  back : at epoch → stapled_connection_of asked confirmation channel staple ≡ connection.Open certificate digest epoch root
  back shows =
      (is_open asked confirmation (staple_challenge (epoch_in confirmation) channel) staple certificate digest epoch root).1
      (subst at (sym (its_epoch asked confirmation certificate digest epoch root shows.accepts)) shows)

pub staple_opens : (server : Server) (asked : Asked) (confirmation channel : List ℕ) (leaf : ℕ) (certificate : Certificate) (epoch : ℕ) (root : List ℕ)
    → leaf < 2 ^ height_of server.key.lms
    → certificate.subject ≡ public_of server.key
    → asked.name ≡ server.name
    → Accepts asked confirmation certificate server.certificate epoch root
    → stapled_connection_of asked confirmation channel (signature_of server.key leaf (answer_text server.name server.certificate (staple_challenge epoch channel)))
    ≡ connection.Open certificate server.certificate epoch root
staple_opens server asked confirmation channel leaf certificate epoch root below subject name accepts =
    let staple = signature_of server.key leaf (answer_text server.name server.certificate (staple_challenge epoch channel)) in
    let opened = answer_opens server asked confirmation (staple_challenge epoch channel) leaf certificate epoch root below subject name accepts in
    (is_open_stapled asked confirmation channel staple certificate server.certificate epoch root).1
    ((is_open asked confirmation (staple_challenge epoch channel) staple certificate server.certificate epoch root).0 opened)
