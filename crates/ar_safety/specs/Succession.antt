-- How what clients accepted of one name stands to each other: of one epoch it is the same, and of a later one it is no older.
use Rattle.std.specs.Prelude.{◌≡◌, ◌⊎◌, ℕ, ◌<◌, List, Option, Some, None}
use Rattle.ar_cert.specs.Certificate.{Certificate}
use Rattle.ar_message.specs.Confirmation.{certificate_in}
use Rattle.client_rule.specs.declared.judgement.Judgement.{Judgement}
use Rattle.client_rule.specs.declared.judgement.Judgement.TheVariants.{Accepted, Absent, Refused}
use Rattle.ar_safety.specs.Records.{AcceptedConfirmation}

-- what was accepted of a name: of which epoch, the certificate or that there is none, and under which root
pub record AcceptedOf : Type 0 where
  pub epoch : ℕ
  pub certificate : Option Certificate
  pub root : List ℕ

-- what a client accepted
abbrev pub accepted_by : AcceptedConfirmation → AcceptedOf
accepted_by j = record {
  epoch = j.confirmation.about.epoch;
  certificate = certificate_in j.confirmation.body;
  root = j.confirmation.about.root;
}

-- what a verdict accepts, if it refuses nothing
abbrev pub accepted_of : Judgement → Option AcceptedOf
accepted_of (Accepted certificate digest epoch root) = Some (record { epoch = epoch; certificate = Some certificate; root = root })
accepted_of (Absent epoch root) = Some (record { epoch = epoch; certificate = None; root = root })
accepted_of (Refused number) = None

-- what there is later is no older: where there was a certificate, there is it, or one with a higher serial number
abbrev pub IsNoOlder : Option Certificate → Option Certificate → Type 0
IsNoOlder None later = Unit {0}
IsNoOlder (Some one) None = ⊥
IsNoOlder (Some one) (Some later) = (later ≡ one) ⊎ (one.serial < later.serial)

-- of one epoch both are the same, under one root; and what is of a later epoch is no older
pub record AreInOrder (one other : AcceptedOf) : Type 0 where
  pub same : one.epoch ≡ other.epoch → (one.certificate ≡ other.certificate) × (one.root ≡ other.root)
  pub later : one.epoch < other.epoch → IsNoOlder one.certificate other.certificate
