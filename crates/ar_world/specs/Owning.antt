-- The lines on owners, and on what authorities know of them: `owner`, `teach`, `forget` and `retire`.
use Rattle.std.specs.Prelude.{ℕ, List, [], ◌∷◌, ◌++◌, None, is_none, Ok}
use Rattle.ar_base.specs.Chaining.{◌>>=◌, need}
use Rattle.ar_statement.specs.declared.party.Role.TheVariants as role
use Rattle.lms_tree.specs.KeyParts.{KeyParts}
use Rattle.owner_check.specs.Answers.{Told}
use Rattle.owner_core.specs.Rows.{first_owner}
use Rattle.owner_core.specs.State.{Owner}
use Rattle.report_text.specs.declared.happening.Happening.{Happening}
use Rattle.report_text.specs.declared.happening.Happening.TheVariants.{Retired}
use Rattle.ar_nodes.specs.Finding.{named}
use Rattle.ar_nodes.specs.Owners.{known_key}
use Rattle.ar_statement.specs.Claims.{owner_party}
use Rattle.lms_tree.specs.LmsKind.{leaves_of}
use Rattle.ar_nodes.specs.Teaching.{retold, told_behind, lesson_said}
use Rattle.ar_nodes.specs.declared.fault.WorldFault.TheVariants.{Absent}
use Rattle.ar_nodes.specs.declared.lesson.Lesson.{Lesson}
use Rattle.ar_founding.specs.FirstKeys.{key_for, key_made, plain_setup}
use Rattle.ar_world.specs.Finding.{Effect, checking_at, owner_at}
use Rattle.ar_world.specs.State.{World, with_authority}

-- ---- `owner`

-- the key of an owner, which has the types 5 and 3 of the plain setup, whatever the setup says
abbrev pub owner_key : List ℕ → ℕ → KeyParts
owner_key secret number = key_for (record plain_setup { secret = secret }) role.Owner number

-- an owner that has done nothing yet, and knows the first keys of logs and authorities
abbrev pub new_owner : World → ℕ → Owner
new_owner w number =
    let key = owner_key w.setup.secret number
    in first_owner number w.genesis key (leaves_of key.lms)

-- word 1 names no owner that is there
abbrev pub owner_line : World → ℕ → Effect
owner_line w number = do
  free ← need (is_none (owner_at w number)) (Absent 1)
  Ok (record w { owners = w.owners ++ new_owner w number ∷ [] }, key_made (owner_party number) (owner_key w.setup.secret number) ∷ [])

-- ---- `teach` and `forget`

-- Word 1 names an honest authority that has not retired, and word 3 an owner; the check does this with the owner's key.
abbrev pub check_line : World → ℕ → ℕ → (List ℕ → Told → Told) → Happening → Effect
check_line w authority owner tells said = do
  found ← named 1 (checking_at w authority)
  holder ← named 3 (owner_at w owner)
  Ok (with_authority w authority (retold (tells (known_key holder)) found), said ∷ [])

-- the check takes a lesson on the name: that it is the owner's, or no longer
abbrev pub lesson_line : World → Lesson → ℕ → List ℕ → ℕ → Effect
lesson_line w l authority name owner = check_line w authority owner (told_behind l name) (lesson_said l authority)

-- ---- `retire`

-- word 1 names an honest authority that has not retired; it drops its check
abbrev pub retire_line : World → ℕ → Effect
retire_line w authority = do
  found ← named 1 (checking_at w authority)
  Ok (with_authority w authority (record found.0 { check = None }), Retired authority ∷ [])
