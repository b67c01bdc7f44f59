-- What the types keep of a happening: numbers in their ranges, digests of 32 bytes, and names.
use Rattle.std.specs.Prelude.{ℕ, ◌<◌, ◌^◌, IfSome}
use Rattle.std.specs.List.{AllByRecursion}
use Rattle.ar_base.specs.Bytes.{IsDigest}
use Rattle.ar_names.specs.Names.{IsName}
use Rattle.ar_statement.specs.declared.party.Party.{Party}
use Rattle.report_text.specs.declared.happening.Code.{Code}
use Rattle.report_text.specs.declared.happening.Happening.{Happening}
use Rattle.report_text.specs.declared.happening.Happening.TheVariants as happening
use Rattle.report_text.specs.declared.happening.Said.{Said}
use Rattle.report_text.specs.declared.happening.Said.TheVariants as said
use Rattle.report_text.specs.declared.happening.CodeValue.{CodeValue}
use Rattle.report_text.specs.declared.happening.CodeValue.TheVariants as shown
use Rattle.report_text.specs.declared.happening.Target.{Target}
use Rattle.report_text.specs.declared.happening.Target.TheVariants as target
use Rattle.report_text.specs.declared.happening.Unlearnt.{Unlearnt}
use Rattle.report_text.specs.declared.happening.Unlearnt.TheVariants as unlearnt
use Rattle.report_text.specs.declared.happening.Values.{Values}
use Rattle.report_text.specs.declared.happening.Values.TheVariants as values
use Rattle.report_text.specs.declared.happening.What.{What}
use Rattle.report_text.specs.declared.happening.What.TheVariants as what

-- a number of at most 64 bits
abbrev pub IsNumber : ℕ → Type 0
IsNumber n = n < 2 ^ 64

abbrev pub IsParty : Party → Type 0
IsParty party = IsNumber party.number

abbrev pub IsCodeValue : CodeValue → Type 0
IsCodeValue (shown.Number number) = IsNumber number
IsCodeValue (shown.Party party) = IsParty party
IsCodeValue (shown.Digest digest) = IsDigest digest
IsCodeValue shown.Full = Unit {0}
IsCodeValue shown.NoRoot = Unit {0}

abbrev pub AreValues : Values → Type 0
AreValues values.Nothing = Unit {0}
AreValues (values.One value) = IsCodeValue value
AreValues (values.Two first second) = IsCodeValue first × IsCodeValue second

abbrev pub IsCode : Code → Type 0
IsCode code = IsNumber code.number × AreValues code.values

abbrev pub IsWhat : What → Type 0
IsWhat (what.Take message) = IsNumber message
IsWhat what.Propose = Unit {0}
IsWhat what.Pass = Unit {0}
IsWhat what.Roll = Unit {0}
IsWhat (what.Submit draft) = IsNumber draft
IsWhat (what.Handover draft) = IsNumber draft
IsWhat (what.Object draft) = IsNumber draft

abbrev pub IsUnlearnt : Unlearnt → Type 0
IsUnlearnt unlearnt.Form = Unit {0}
IsUnlearnt unlearnt.Unknown = Unit {0}
IsUnlearnt (unlearnt.Bad condition) = IsNumber condition
IsUnlearnt unlearnt.Other = Unit {0}

abbrev pub IsTarget : Target → Type 0
IsTarget target.Nobody = Unit {0}
IsTarget target.Logs = Unit {0}
IsTarget (target.One party) = IsParty party

abbrev pub IsSaid : Said → Type 0
IsSaid (said.Accepted name serial epoch root certificate) =
    IsName name × IsNumber serial × IsNumber epoch × IsDigest root × IsDigest certificate
IsSaid (said.Absent name epoch root) = IsName name × IsNumber epoch × IsDigest root
IsSaid (said.Refused check) = IsNumber check

-- a happening of the program
abbrev pub IsHappening : Happening → Type 0
IsHappening (happening.Made party digest) = IsParty party × IsDigest digest
IsHappening (happening.Dishonest party) = IsParty party
IsHappening (happening.Taught authority) = IsNumber authority
IsHappening (happening.Forgot authority) = IsNumber authority
IsHappening (happening.Retired authority) = IsNumber authority
IsHappening (happening.Draft draft digest) = IsNumber draft × IsDigest digest
IsHappening (happening.Step party what refused) = IsParty party × IsWhat what × IfSome refused IsCode
IsHappening (happening.Ended log epoch root) = IsNumber log × IsNumber epoch × IfSome root IsDigest
IsHappening (happening.Learnt message refused) = IsNumber message × IfSome refused IsUnlearnt
IsHappening (happening.Entered message kind from to length digest) =
    IsNumber message × IfSome from IsParty × IsTarget to × IsNumber length × IsDigest digest
IsHappening (happening.SignRefused party) = IsParty party
IsHappening (happening.Judged message said) = IsNumber message × IsSaid said
IsHappening (happening.Order party taken) = IsParty party × AllByRecursion IsNumber taken
