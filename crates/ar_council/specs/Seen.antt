-- Statements of parties, as they are kept by those who saw them.
use Rattle.std.specs.Prelude.{All, Bool, ◌&&◌, List, fold}
use Rattle.std.specs.Str.{bytes_eq}
use Rattle.ar_base.specs.Adding.{with_one}
use Rattle.ar_statement.specs.declared.text.SeenText.{SeenText}
use Rattle.ar_statement.specs.Claims.{is_party}
use Rattle.ar_council.specs.Council.{Council, IsMember}

-- whether two are one text of one party
abbrev pub is_same_seen : SeenText → SeenText → Bool
is_same_seen s other = is_party s.party other.party && bytes_eq s.text other.text

-- what was seen with one more behind it, unless it is among them
abbrev pub with_seen : List SeenText → SeenText → List SeenText
with_seen = with_one is_same_seen

-- the same with each of a list
abbrev pub seen_after : List SeenText → List SeenText → List SeenText
seen_after seen more = fold with_seen seen more

-- what was seen is of logs and authorities of the council
abbrev pub SeesMembers : Council → List SeenText → Type 0
SeesMembers council seen = All (λ s. IsMember council s.party) seen
