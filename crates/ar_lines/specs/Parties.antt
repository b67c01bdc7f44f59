-- The words of parties: the letter of the role, and the number.
use Rattle.std.specs.Prelude.{ℕ, ◌==◌, if◌then◌else◌, List, [], ◌∷◌, Option, Some, None, option_and_then, option_map}
use Rattle.std.specs.Fmt.{decimal}
use Rattle.ar_lines.specs.Forms.{number_in}
use Rattle.ar_statement.specs.Claims.{party}
use Rattle.ar_statement.specs.declared.party.Party.{Party}
use Rattle.ar_statement.specs.declared.party.Role.{Role}
use Rattle.ar_statement.specs.declared.party.Role.TheVariants.{LogServer, Authority, Owner, Client}

-- ---- as they are written

-- the letter of a role: L, A, D or C
abbrev pub letter_of : Role → ℕ
letter_of LogServer = 76
letter_of Authority = 65
letter_of Owner = 68
letter_of Client = 67

-- the party of a role with this number
abbrev pub member_word : Role → ℕ → List ℕ
member_word role number = letter_of role ∷ decimal number

-- a party
abbrev pub party_word : Party → List ℕ
party_word party = member_word party.role party.number

-- ---- as they are read

-- the role that a letter stands for
abbrev pub role_of : ℕ → Option Role
role_of letter =
    if letter == 76 then Some LogServer
    else if letter == 65 then Some Authority
    else if letter == 68 then Some Owner
    else if letter == 67 then Some Client
    else None

-- the letter of a role, and its number, which is below 65536
abbrev pub party_in : List ℕ → Option Party
party_in [] = None
party_in (letter ∷ digits) = option_and_then (λ role. option_map (party role) (number_in 0 65535 digits)) (role_of letter)

-- the party that a word spells
unfoldable pub party_of : List ℕ → Option Party
party_of word = party_in word
