-- Whatever a log newly sees it verified, or it is its own.
use Rattle.std.proofs.Common.{◌≡◌, ◌⊎◌, ℕ, List, inl, inr}
use Rattle.std.specs.Prelude.{Contains, Ok}
use Rattle.ar_claims.specs.Verified.{IsVerifiedIn}
use Rattle.ar_statement.specs.declared.text.SeenText.{SeenText}
use Rattle.key_roll.specs.Book.{RollBook}
use Rattle.party_keys.specs.Directory.{Directory}
use Rattle.party_keys.specs.Signers.{Claimed}
use Rattle.log_core.specs.Claimed.{IsOwnSigned, claims_of}
use Rattle.log_core.specs.Row.{row}
use Rattle.log_core.specs.Sees.{IsOwnOrVerified, SeesVerified}
use Rattle.log_core.specs.State.{CoreState, Input, LogStep}
use Rattle.log_core.proofs.Claiming.{input-sees}

was-verified : (keys : Directory) (me : ℕ) (signed : RollBook) (claims : List Claimed) (before : List SeenText) (t : SeenText)
    → Contains before t ⊎ (IsOwnSigned me signed t ⊎ IsVerifiedIn keys claims t) → Contains before t ⊎ IsOwnOrVerified keys me t
was-verified keys me signed claims before t (inl old) = inl old
was-verified keys me signed claims before t (inr (inl own)) = inr (inl own.0)
was-verified keys me signed claims before t (inr (inr claimed)) = inr (inr (claimed.0, claimed.2))

pub row-sees : (s : CoreState) (input : Input) (reply : LogStep) → row s input ≡ Ok reply → SeesVerified s.keys s.log.me s.log.past.seen reply.after.log.past.seen
row-sees s input reply answer t there =
    was-verified s.keys s.log.me reply.after.log.past.signed (claims_of input) s.log.past.seen t (input-sees s input reply answer t there)
