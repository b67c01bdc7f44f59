-- The codes that are printed of refusals: whose rule it is, its number, and the values that belong to it.
use Rattle.std.specs.Prelude.{ℕ, List, Option, Some, None}
use Rattle.ar_statement.specs.declared.party.Role.{Role}
use Rattle.ar_statement.specs.declared.party.Role.TheVariants as roles
use Rattle.authority_core.specs.declared.refusal.AuthorityRefusal.{AuthorityRefusal}
use Rattle.authority_core.specs.declared.refusal.AuthorityRefusal.TheVariants as authority
use Rattle.cert_policy.specs.Refusals.{number_of}
use Rattle.domain_table.specs.declared.refusal.ChangeRefusal.{ChangeRefusal}
use Rattle.domain_table.specs.declared.refusal.ChangeRefusal.TheVariants as change
use Rattle.log_core.below.log_sending.specs.declared.refusal.LogRefusal.{LogRefusal}
use Rattle.log_core.below.log_sending.specs.declared.refusal.LogRefusal.TheVariants as log
use Rattle.owner_core.specs.declared.refusal.OwnerRefusal.{OwnerRefusal}
use Rattle.owner_core.specs.declared.refusal.OwnerRefusal.TheVariants as owner
use Rattle.report_text.specs.declared.happening.Code.{Code}
use Rattle.report_text.specs.declared.happening.CodeValue.{CodeValue}
use Rattle.report_text.specs.declared.happening.CodeValue.TheVariants.{Digest, Full, NoRoot, Number, Party}
use Rattle.report_text.specs.declared.happening.Values.{Values}
use Rattle.report_text.specs.declared.happening.Values.TheVariants.{Nothing, One, Two}

-- a code of a role's rule
abbrev pub code : Role → ℕ → Values → Code
code role number values = record { role = role; number = number; values = values }

-- why a change is refused: the number of a clause of the policy rule, or that the table is full
abbrev pub change_shown : ChangeRefusal → CodeValue
change_shown (change.Policy refusal) = Number (number_of refusal)
change_shown change.Full = Full

-- a root, or that there is none
abbrev pub root_shown : Option (List ℕ) → CodeValue
root_shown None = NoRoot
root_shown (Some root) = Digest root

-- the code of a log's refusal; want of memory is none of a row, and has the number 0
abbrev pub log_code : LogRefusal → Code
log_code (log.Form place) = code roles.LogServer 1 (One (Number place))
log_code log.NotForLog = code roles.LogServer 2 Nothing
log_code (log.Unknown party) = code roles.LogServer 3 (One (Party party))
log_code (log.BadSignature party condition) = code roles.LogServer 4 (Two (Party party) (Number condition))
log_code (log.WrongEpoch epoch) = code roles.LogServer 5 (One (Number epoch))
log_code (log.NotCoordinator turn) = code roles.LogServer 6 (One (Number turn))
log_code (log.AlreadyVoted root) = code roles.LogServer 7 (One (Digest root))
log_code log.AlreadyStated = code roles.LogServer 8 Nothing
log_code (log.WrongBase base) = code roles.LogServer 9 (One (Digest base))
log_code (log.BadChange index refusal) = code roles.LogServer 10 (Two (Number index) (change_shown refusal))
log_code (log.WrongRoot root) = code roles.LogServer 11 (One (Digest root))
log_code (log.FewVotes count) = code roles.LogServer 12 (One (Number count))
log_code log.QueueFull = code roles.LogServer 13 Nothing
log_code log.Spent = code roles.LogServer 14 Nothing
log_code (log.CouldBeDecided root count) = code roles.LogServer 15 (Two (root_shown root) (Number count))
log_code (log.OtherRoll party generation) = code roles.LogServer 16 (Two (Party party) (Number generation))
log_code log.LastGeneration = code roles.LogServer 17 Nothing
log_code log.Memory = code roles.LogServer 0 Nothing

-- the code of an authority's refusal
abbrev pub authority_code : AuthorityRefusal → Code
authority_code (authority.Form place) = code roles.Authority 1 (One (Number place))
authority_code authority.NotForAuthority = code roles.Authority 2 Nothing
authority_code (authority.Unknown party) = code roles.Authority 3 (One (Party party))
authority_code (authority.BadSignature party condition) = code roles.Authority 4 (Two (Party party) (Number condition))
authority_code (authority.FewVotes count) = code roles.Authority 5 (One (Number count))
authority_code authority.BadPath = code roles.Authority 6 Nothing
authority_code authority.SameAuthority = code roles.Authority 7 Nothing
authority_code authority.CheckFault = code roles.Authority 8 Nothing
authority_code authority.NotOwner = code roles.Authority 9 Nothing
authority_code authority.Spent = code roles.Authority 10 Nothing
authority_code (authority.OtherRoll party generation) = code roles.Authority 11 (Two (Party party) (Number generation))
authority_code authority.LastGeneration = code roles.Authority 12 Nothing
authority_code authority.Memory = code roles.Authority 0 Nothing

-- the code of an owner's refusal
abbrev pub owner_code : OwnerRefusal → Code
owner_code (owner.Form place) = code roles.Owner 1 (One (Number place))
owner_code owner.NotForOwner = code roles.Owner 2 Nothing
owner_code (owner.Unknown party) = code roles.Owner 3 (One (Party party))
owner_code (owner.BadSignature party condition) = code roles.Owner 4 (Two (Party party) (Number condition))
owner_code owner.NoDraft = code roles.Owner 5 Nothing
owner_code owner.Full = code roles.Owner 6 Nothing
owner_code owner.Spent = code roles.Owner 7 Nothing
owner_code (owner.OtherRoll party generation) = code roles.Owner 8 (Two (Party party) (Number generation))
owner_code owner.Memory = code roles.Owner 0 Nothing
