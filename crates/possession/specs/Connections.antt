-- What a client makes of a server that shows a confirmation, and answers its challenge.
use Rattle.std.specs.Prelude.{ℕ, ◌≡◌, List, Option, None, Some}
use Rattle.std.specs.Result.{result_ok}
use Rattle.ar_bytes.specs.Reading.{whole}
use Rattle.ar_cert.specs.Certificate.{Certificate}
use Rattle.ar_message.specs.Confirmation.{Confirmation, confirmation_at}
use Rattle.bound_challenge.specs.Challenges.{staple_challenge}
use Rattle.client_rule.specs.Meaning.{Accepts}
use Rattle.client_rule.specs.Rule.{judgement as judgement_of, Asked}
use Rattle.client_rule.specs.declared.judgement.Judgement.{Judgement}
use Rattle.client_rule.specs.declared.judgement.Judgement.TheVariants as judgement
use Rattle.lms_tree.specs.Validity.{verdict_of}
use Rattle.lms_tree.specs.declared.validity.Verdict.{Verdict}
use Rattle.lms_tree.specs.declared.validity.Verdict.TheVariants as verdict
use Rattle.possession.specs.Answering.{answer_text}
use Rattle.possession.specs.declared.connection.Connection.{Connection}
use Rattle.possession.specs.declared.connection.Connection.TheVariants as connection

-- the connection to who may have the key of a certificate, by the verdict on the answer
abbrev pub possessed : Certificate → List ℕ → ℕ → List ℕ → Verdict → Connection
possessed certificate digest epoch root verdict.Valid = connection.Open certificate digest epoch root
possessed certificate digest epoch root (verdict.Invalid k) = connection.NoPossession k

-- The connection by what the client's rule makes of the confirmation: where it accepts a certificate of the name,
-- the answer is judged under the subject key of this certificate, as that to this challenge.
unfoldable pub connected : List ℕ → List ℕ → List ℕ → Judgement → Connection
connected name challenge answer (judgement.Accepted certificate digest epoch root) =
    possessed certificate digest epoch root (verdict_of certificate.subject (answer_text name digest challenge) answer)
connected name challenge answer (judgement.Absent epoch root) = connection.Absent epoch root
connected name challenge answer (judgement.Refused k) = connection.Refused k

-- the connection for what a client asks, by the confirmation that it is shown, its challenge and the answer
abbrev pub connection_of : Asked → List ℕ → List ℕ → List ℕ → Connection
connection_of asked confirmation challenge answer =
    connected asked.name challenge answer (judgement_of asked confirmation)

-- the epoch of what was read, 0 where that is no confirmation
abbrev pub epoch_of_read : Option Confirmation → ℕ
epoch_of_read None = 0
epoch_of_read (Some c) = c.about.epoch

-- the epoch of the confirmation that has these bytes
abbrev pub epoch_in : List ℕ → ℕ
epoch_in confirmation = epoch_of_read (result_ok (whole confirmation_at confirmation))

-- The connection for what a client asks, by the confirmation and the staple that it is shown, and the channel that it sees: the
-- staple answers the challenge of the confirmation's own epoch and of this channel.
abbrev pub stapled_connection_of : Asked → List ℕ → List ℕ → List ℕ → Connection
stapled_connection_of asked confirmation channel staple =
    connection_of asked confirmation (staple_challenge (epoch_in confirmation) channel) staple

-- The confirmation is accepted, and shows this certificate of the name; and the answer to the challenge has this
-- verdict under the certificate's subject key.
pub record Shows (asked : Asked) (confirmation challenge answer : List ℕ) (certificate : Certificate) (digest : List ℕ) (epoch : ℕ) (root : List ℕ) (verdict : Verdict) : Type 0 where
  pub accepts : Accepts asked confirmation certificate digest epoch root
  pub judged : verdict_of certificate.subject (answer_text asked.name digest challenge) answer ≡ verdict

-- a confirmation is accepted, and the answer fails by condition k of a signature under the subject key that it shows
pub record LacksKey (asked : Asked) (confirmation challenge answer : List ℕ) (k : ℕ) : Type 0 where
  pub certificate : Certificate
  pub digest : List ℕ
  pub epoch : ℕ
  pub root : List ℕ
  pub shows : Shows asked confirmation challenge answer certificate digest epoch root (verdict.Invalid k)
