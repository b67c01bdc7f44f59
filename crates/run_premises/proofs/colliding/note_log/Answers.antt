-- The record at the place is that of the log.
use Rattle.std.proofs.Common.{rules, ◌≡◌, ◌++◌, ◌∙◌, List, ℕ, ap, false, subst}
use Rattle.std.specs.Prelude.{OnOk, flat_map}
use Rattle.ar_safety.specs.Held.{Held, honest_below}
use Rattle.ar_statement.specs.Claims.{has_party, log_party}
use Rattle.domain_table.specs.Tables.{Table}
use Rattle.domain_table.specs.Tree.{table_strings}
use Rattle.epoch_log.specs.Log.{record_of}
use Rattle.hashed_strings.specs.Index.{AreNoted}
use Rattle.run_premises.proofs.Hashing.{found-tables, missing-tables}
use Rattle.run_premises.proofs.colliding.note_log.Goals as goal

pub returns-in-Some : goal.returns-in-Some
returns-in-Some c =
    let who = ap (λ (h : Held). h.dishonest) c.records.view_is in
    let honest : has_party c.args.records.now.dishonest (log_party c.args.number) ≡ false = search rules in
    let same = c.honest_below-place.ensures ∙ ap (λ dishonest. honest_below log_party dishonest c.args.number) (c.deref-2.ensures.value ∙ who) in
    subst (λ (tables : List Table). OnOk c.note_log.result ((others : List (List ℕ)) → AreNoted c.args.noted.now others → AreNoted c.note_log.new.self (flat_map table_strings tables ++ others)))
    (found-tables c.args.records.now c.args.number c.honest_below-place.result (record_of c.in-Some.record.now) honest same c.in-Some.ensures) c.note_log.ensures

pub returns-in-None : goal.returns-in-None
returns-in-None c = λ others noted.
    let who = ap (λ (h : Held). h.dishonest) c.records.view_is in
    let honest : has_party c.args.records.now.dishonest (log_party c.args.number) ≡ false = search rules in
    let same = c.honest_below-place.ensures ∙ ap (λ dishonest. honest_below log_party dishonest c.args.number) (c.deref-2.ensures.value ∙ who) in
    subst (λ (tables : List Table). AreNoted c.args.noted.now (flat_map table_strings tables ++ others))
    (missing-tables c.args.records.now c.args.number c.honest_below-place.result honest same c.in-None.ensures) noted
