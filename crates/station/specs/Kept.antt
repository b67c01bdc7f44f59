-- What is true of a station and of the keys of the party, whatever was brought to it.
use Rattle.std.specs.Prelude.{List, Result, Ok, Err}
use Rattle.std.specs.Result.{result_map_both}
use Rattle.ar_message.specs.Filling.{CanFill, filled}
use Rattle.ar_message.specs.declared.sent.Sent.{Sent}
use Rattle.authority_core.specs.Keyed as authority
use Rattle.authority_core.specs.State.{IsAuthority}
use Rattle.lms_tree.specs.KeyParts.{KeyParts}
use Rattle.log_core.specs.Keyed as log
use Rattle.log_core.specs.Kept.{IsKeptCore}
use Rattle.report_text.specs.declared.happening.Code.{Code}
use Rattle.station.specs.Station.{StationState, Unfilled, a_log, an_authority}

-- the log or authority is an honest one's, and these are its keys: those of its book
abbrev pub IsStation : StationState → List KeyParts → Type 0
IsStation (a_log s) keys = IsKeptCore s × log.IsRingOf s keys
IsStation (an_authority s check) keys = IsAuthority s × authority.IsRingOf s keys

-- these keys can sign what is sent, where the station does not refuse
abbrev pub CanSign : List KeyParts → Unfilled → Type 0
CanSign keys (Ok unsigned) = CanFill keys unsigned
CanSign keys (Err code) = Unit {0}

-- the reply, signed with these keys
abbrev pub signed_reply : List KeyParts → Unfilled → Result Sent Code
signed_reply keys reply = result_map_both (filled keys) (λ code. code) reply
