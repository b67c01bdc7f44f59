-- What is promised of a run.
use Rattle.std.specs.Prelude.{◌≡◌, ◌++◌, ◌∷◌, [], ℕ, List, map}
use Rattle.std.specs.List.{concat, filter_map}
use Rattle.std.specs.Prelude.{Option, Some, None}
use Rattle.report_text.specs.declared.happening.Happening.{Happening}
use Rattle.report_text.specs.declared.happening.Happening.TheVariants.{Dishonest, Judged}
use Rattle.report_text.specs.declared.happening.Said.{Said}
use Rattle.report_text.specs.declared.happening.Said.TheVariants.{Absent, Accepted, Refused}
use Rattle.ar_base.specs.Prefixes.{BeginsWith}
use Rattle.ar_statement.specs.declared.party.Party.{Party}
use Rattle.ar_safety.specs.Held.{AreKept, AreSafe, Held, AcceptedBytes, records_of, verdict_on}
use Rattle.ar_safety.specs.Theorem.{Few, NoCollision, NoForgery}
use Rattle.report_text.specs.Lines.{line_of}
use Rattle.report_text.specs.Verdicts.{said_of}
use Rattle.ar_world.specs.Records.{HasParties, held_of}
use Rattle.ar_world.specs.Run.{Run, refused_lines, text_of_run}
use Rattle.ar_world.specs.State.{World}
use Rattle.run_safety.specs.Unforged.{AllReal, AllShown, Unforged}

-- ---- what is written of clients

-- what a verdict says, where it accepts a certificate, or that there is none
abbrev pub said_accepted : Said → Option Said
said_accepted (Accepted name serial epoch root certificate) = Some (Accepted name serial epoch root certificate)
said_accepted (Absent name epoch root) = Some (Absent name epoch root)
said_accepted (Refused check) = None

-- the same of what is written
abbrev pub accepted_in : Happening → Option Said
accepted_in (Judged message said) = said_accepted said
accepted_in _ = None

-- whom a line tells to be dishonest
abbrev pub dishonest_in : Happening → Option Party
dishonest_in (Dishonest who) = Some who
dishonest_in _ = None

-- what is written of a judgement that is held
abbrev pub said_by : Held → AcceptedBytes → Said
said_by h t = said_of t.name (verdict_on h.directory t)

-- ---- what is written, byte by byte

-- the bytes begin the line of what happened next, and are not all of it; behind all that happened they begin what tells which line
-- was refused
abbrev pub IsPartOfNext : List (List ℕ) → List Happening → List ℕ → Type 0
IsPartOfNext refusal [] part = BeginsWith (concat refusal) part
IsPartOfNext refusal (next ∷ more) part = (byte : ℕ) × ((others : List ℕ) × (line_of next ≡ part ++ byte ∷ others))

-- Some bytes are the lines of a front of what happened, all of them whole, and a part of the next one's line.
pub record IsCut (said : List Happening) (refusal : List (List ℕ)) (bytes : List ℕ) : Type 0 where
  pub front : List Happening
  pub rest : List Happening
  pub part : List ℕ
  pub happened : said ≡ front ++ rest
  pub is : bytes ≡ concat (map line_of front) ++ part
  pub next : IsPartOfNext refusal rest part

-- ---- the promise

-- With at most two dishonest parties, where no signature that is valid under an honest party's own key stands in a message but on
-- what that party signed, and no hashes collide, all that the theorem says is true of what the parties hold.
abbrev pub IsSafeWorld : World → Type 0
IsSafeWorld w = Few (records_of (held_of w)) → Unforged w → NoCollision (records_of (held_of w)) → AreSafe (held_of w)

-- Of a run: from the line `authorities` on, what its parties hold are the records of all honest ones, each an honest one's, and
-- its parties are safe so. Whatever was taken from others stands in messages, with a signature that was verified. Where none was
-- forged, all that is known of honest parties is real, and the theorem's own premise on forgery, which speaks of the records
-- alone, holds. What is written as accepted, a certificate or that there is none, is what clients hold, each by its verdict, in
-- order; and in a front of what happened it begins that. Where it was broken off, what was written is the lines of such a front,
-- and a part of the next line. And the lines `dishonest` that are written tell who is dishonest, each once, in order.
pub record IsSafeRun (r : Run) : Type 0 where
  pub kept : HasParties r.world → AreKept (held_of r.world)
  pub safe : HasParties r.world → IsSafeWorld r.world
  pub taken : AllShown r.world
  pub real : Unforged r.world → AllReal r.world
  pub unforged : Unforged r.world → NoForgery (records_of (held_of r.world))
  pub written : filter_map accepted_in r.said ≡ map (said_by (held_of r.world)) (held_of r.world).judged
  pub fronts : (front rest : List Happening) → r.said ≡ front ++ rest → BeginsWith (map (said_by (held_of r.world)) (held_of r.world).judged) (filter_map accepted_in front)
  pub dishonest : filter_map dishonest_in r.said ≡ (held_of r.world).dishonest
  pub cut : (bytes others : List ℕ) → text_of_run r ≡ bytes ++ others → IsCut r.said (refused_lines r.refused) bytes
