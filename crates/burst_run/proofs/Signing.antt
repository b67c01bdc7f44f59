-- What a station replies can be signed by the keys that it had at first.
use Rattle.std.proofs.Common.{List, sym, subst}
use Rattle.lms_tree.specs.KeyParts.{KeyParts}
use Rattle.node_crowd.specs.Bringing.{IsReplied}
use Rattle.station.specs.Kept.{CanSign, IsStation}
use Rattle.station.specs.Station.{IsNoted, Unfilled, replied_at}
use Rattle.station.proofs.Keeping.{signs-after}

pub can_sign : (keys : List KeyParts) (reply : Unfilled) → IsReplied replied_at IsNoted (λ first. IsStation first keys) reply → CanSign keys reply
can_sign keys reply replied =
    subst (CanSign keys) (sym replied.reply_is) (signs-after replied.first keys replied.before replied.input replied.note replied.fits replied.legally)
