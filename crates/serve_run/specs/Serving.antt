-- What workers reply to the challenges of a service, and by which leaves.
use Rattle.std.specs.Prelude.{ℕ, ◌≡◌, ◌<◌, ◌+◌, ◌%◌, ◌==◌, if◌then◌else◌, min, List, [], ◌∷◌, length}
use Rattle.std.specs.List.{AllZip}
use Rattle.sha2.specs.Sha256.{sha256}
use Rattle.ar_seats.specs.Numbers.{HasEachBelow, IsBelowEach}
use Rattle.ar_statement.specs.declared.party.Role.TheVariants.{Owner}
use Rattle.lm_ots.specs.declared.ots_type.OtsType.TheVariants.{W4}
use Rattle.lms_tree.specs.Key.{signature_of}
use Rattle.lms_tree.specs.KeyParts.{KeyParts}
use Rattle.lms_tree.specs.LmsKind.{leaves_of}
use Rattle.lms_tree.specs.declared.lms_type.LmsType.TheVariants.{H5}
use Rattle.party_keys.specs.Seeds.{seed_of}
use Rattle.possession.specs.Answering.{Server, answer_text}
use Rattle.serve_run.specs.Reading.{Service}
use Rattle.serve_run.specs.declared.reply.Reply.{Reply}
use Rattle.serve_run.specs.declared.reply.Reply.TheVariants.{Signed, Exhausted}

-- ---- one reply

-- the key that serves: that of owner 0 under the secret, of the types 5 and 3
abbrev pub serving_key : List ℕ → KeyParts
serving_key secret = record { seed = seed_of secret Owner 0; lms = H5; ots = W4 }

-- how many leaves it has
abbrev pub serving_leaves : ℕ
serving_leaves = leaves_of H5

-- The reply to a challenge: a leaf, with the digest of the signature at this leaf of the answer to this challenge; or that no leaf
-- was left.
abbrev pub IsReply : Service → List ℕ → Reply → Type 0
IsReply service challenge (Signed leaf digest) =
    digest ≡ sha256 (signature_of (serving_key service.secret) leaf (answer_text service.name service.certificate challenge))
IsReply service challenge Exhausted = Unit {0}

-- ---- the leaves

-- the leaves of some replies, in order
abbrev pub drawn_in : List Reply → List ℕ
drawn_in [] = []
drawn_in (Signed leaf digest ∷ replies) = leaf ∷ drawn_in replies
drawn_in (Exhausted ∷ replies) = drawn_in replies

-- the leaves ascend, and where no leaf was left none comes behind
abbrev pub IsInTurn : List Reply → Type 0
IsInTurn [] = Unit {0}
IsInTurn (Signed leaf digest ∷ replies) = IsBelowEach leaf (drawn_in replies) × IsInTurn replies
IsInTurn (Exhausted ∷ replies) = drawn_in replies ≡ []

-- ---- the workers

-- Of things that are numbered one after another, the first by this number, those of one worker: each whose number leaves the
-- worker's own where it is divided by the number of workers.
abbrev pub dealt : {A : Type 0} → ℕ → ℕ → ℕ → List A → List A
dealt workers worker number [] = []
dealt workers worker number (thing ∷ things) =
    if number % workers == worker then thing ∷ dealt workers worker (number + 1) things
    else dealt workers worker (number + 1) things

-- Replies to all challenges, in order, of so many workers. The leaves are the numbers below the lesser of how many challenges and
-- how many leaves there are, each once. Those of one worker ascend, and where no leaf was left for it none comes behind.
pub record IsServed (service : Service) (workers : ℕ) (replies : List Reply) : Type 0 where
  pub signed : AllZip (IsReply service) service.challenges replies
  pub leaves : HasEachBelow (min (length service.challenges) serving_leaves) (drawn_in replies)
  pub turns : (worker : ℕ) → worker < workers → IsInTurn (dealt workers worker 0 replies)

-- a server of the service: with its key and all leaves of it, its name and the digest of its certificate
pub record IsServerOf (service : Service) (server : Server) : Type 0 where
  pub key : server.key ≡ serving_key service.secret
  pub leaves : server.book.leaves ≡ serving_leaves
  pub name : server.name ≡ service.name
  pub certificate : server.certificate ≡ service.certificate
