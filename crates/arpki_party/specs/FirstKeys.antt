-- What a directory has to say of the keys of a party that is opened with it.
use Rattle.std.specs.Prelude.{Bool, true, false, nat_lt, ◌||◌, if◌then◌else◌, List, [], ◌∷◌, length}
use Rattle.std.specs.List.{list_any}
use Rattle.ar_statement.specs.Ranges.{is_witness}
use Rattle.ar_statement.specs.declared.party.Party.{Party}
use Rattle.lms_tree.specs.declared.public_key.LmsPublic.{LmsPublic}
use Rattle.party_keys.specs.Directory.{Directory, keys_of}
use Rattle.party_keys.specs.Learning.{is_key}

-- the first of these keys is this one
abbrev pub begins_with : List LmsPublic → LmsPublic → Bool
begins_with [] key = false
begins_with (first ∷ later) key = is_key first key

-- The party may have this as its first key: a log or an authority where the directory says so. Of an owner it says nothing.
abbrev pub may_have : Directory → Party → LmsPublic → Bool
may_have keys party key = if is_witness party.role then begins_with (keys_of keys party) key else true

-- there is a next key behind the first
abbrev pub has_later : List LmsPublic → Bool
has_later keys = nat_lt 1 (length keys)

-- a directory says a next key of a log or an authority
abbrev pub says_later : Directory → Bool
says_later keys = list_any has_later keys.logs || list_any has_later keys.authorities
