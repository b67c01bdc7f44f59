use Rattle.std.proofs.Common.{refl, ◌∷◌, ◌++◌, []}
use Rattle.authority_core.proofs.Signing.{IsSignedBy, keys-stay, rolled-signs, row-signs}
use Rattle.authority_core.proofs.laws.each_step_can_be_signed.Goals as goal

pub returns-clause-step : goal.returns-clause-step
returns-clause-step c s keys retired m said later sent is are at =
    let signs : IsSignedBy s keys later sent = row-signs s keys retired m said are is.honest.sound later sent at in
    (signs.fills, keys-stay s later keys are signs.stays)

pub returns-clause-roll : goal.returns-clause-roll
returns-clause-roll c s keys next later sent are is at =
    let signs = rolled-signs s keys (keys ++ next ∷ []) next later sent are is refl at in
    (signs.fills, signs.stays)
