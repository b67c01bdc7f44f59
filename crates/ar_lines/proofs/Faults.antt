-- What an input is not read for: a refused line, or want of memory.
use Rattle.std.proofs.Common.{◌≡◌, ◌⊎◌, inl, inr, Result, Ok, Err, ap}
use Rattle.ar_base.specs.Chaining.{◌>>=◌}
use Rattle.ar_base.specs.Gives.{with_error}
use Rattle.ar_lines.specs.declared.refusal.LineFault.{LineFault}
use Rattle.ar_lines.specs.declared.refusal.LineFault.TheVariants.{Memory, Refused}
use Rattle.ar_lines.specs.declared.refusal.Refusal.{Refusal}

-- the fault is want of memory, or the refusal of the reading
abbrev pub GivesUp : {V : Type 0} → LineFault → Result V Refusal → Type 0
GivesUp fault reading = (fault ≡ Memory) ⊎ (with_error Refused reading ≡ Err fault)

-- what refuses a first reading refuses what is read with it
pub gives_up-chained : {A B : Type 0} (r : Result A Refusal) (f : A → Result B Refusal) (fault : LineFault) → GivesUp fault r → GivesUp fault (r >>= f)
gives_up-chained (Ok x) f fault (inl e) = inl e
gives_up-chained (Ok x) f fault (inr e) = absurd cc
gives_up-chained (Err refusal) f fault (inl e) = inl e
gives_up-chained (Err refusal) f fault (inr e) = let same : Refused refusal ≡ fault = cc in inr (ap Err same)

-- and what is read behind two readings
pub gives_up-behind : {A B C : Type 0} (r : Result A Refusal) (f : A → Result B Refusal) (g : B → Result C Refusal) (all : Result C Refusal) (fault : LineFault) → GivesUp fault r → all ≡ ((r >>= f) >>= g) → GivesUp fault all
gives_up-behind r f g all fault e same = rw same (gives_up-chained (r >>= f) g fault (gives_up-chained r f fault e))
