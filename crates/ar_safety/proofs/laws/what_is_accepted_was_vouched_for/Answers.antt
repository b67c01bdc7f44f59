use Rattle.ar_safety.proofs.Succession.{accepted-vouched}
use Rattle.ar_safety.proofs.laws.what_is_accepted_was_vouched_for.Goals as goal

pub returns : goal.returns
returns c = λ r safe j certificate there is.
    let v = accepted-vouched r safe j certificate there is in
    (v.authority, v.vouches.asked, v.honest, v.vouches.was_asked, v.vouches.is_name.1, v.vouches.is_key, v.vouches.is_digest)
