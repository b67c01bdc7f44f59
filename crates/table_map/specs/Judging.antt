-- What a client does with a confirmation under a map: the directory that is shown has to be that of the name's table; then the
-- client's rule judges by it.
use Rattle.std.specs.Prelude.{ℕ, ◌==◌, if◌then◌else◌, List}
use Rattle.client_rule.specs.Rule.{Asked, judgement}
use Rattle.table_map.specs.Maps.{TableMap, is_placed}
use Rattle.table_map.specs.Tables.{table_of}
use Rattle.table_map.specs.declared.judging.MapJudgement.{MapJudgement}
use Rattle.table_map.specs.declared.judging.MapJudgement.TheVariants.{Judged, OtherTable, OtherRoot}

-- what is asked, with the directory that was shown as that of the table with this number, by this path
unfoldable pub judgement_in : TableMap → ℕ → List ℕ → Asked → List ℕ → MapJudgement
judgement_in m table path asked bytes =
    if table == table_of m.bits asked.name then
    (if is_placed m table asked.keys path then Judged (judgement asked bytes)
    else OtherRoot) else OtherTable
