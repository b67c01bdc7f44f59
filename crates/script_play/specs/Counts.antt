-- What is counted of a script that is played.
use Rattle.std.specs.Prelude.{List, fold}
use Rattle.ar_base.specs.Faults.{one_more}
use Rattle.report_text.specs.declared.happening.Happening.{Happening}
use Rattle.report_text.specs.declared.happening.Happening.TheVariants.{Judged}
use Rattle.report_text.specs.declared.happening.Said.{Said}
use Rattle.report_text.specs.declared.happening.Said.TheVariants as said
use Rattle.script_play.specs.declared.counts.Counts.{Counts}

-- no judgement
abbrev pub no_counts : Counts
no_counts = record { accepted = 0; absent = 0; refused = 0 }

-- one judgement more, each count up to the greatest number of 64 bits
abbrev pub with_said : Counts → Said → Counts
with_said n (said.Accepted name serial epoch root certificate) = record n { accepted = one_more n.accepted }
with_said n (said.Absent name epoch root) = record n { absent = one_more n.absent }
with_said n (said.Refused check) = record n { refused = one_more n.refused }

-- what happened more
abbrev pub with_happening : Counts → Happening → Counts
with_happening n (Judged message said) = with_said n said
with_happening n _ = n

-- what was counted before, with the judgements among these
unfoldable pub counted_from : Counts → List Happening → Counts
counted_from n happenings = fold with_happening n happenings
