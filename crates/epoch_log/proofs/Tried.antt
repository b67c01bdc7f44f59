-- Which table a log has tried: that of its own vote of the current epoch, and none where an epoch begins.
use Rattle.std.proofs.Common.{◌≡◌, ◌≢◌, ℕ, ◌+◌, ◌<◌, List, [], ◌∷◌, ◌++◌, length, get_or, refl, sym, ap, ◌∙◌, subst, arith, false, cond, ◌==◌, eqb, Option, Some, None}
use Rattle.std.specs.Prelude.{All, option_and_then}
use Rattle.std.proofs.lemmas.Bool.{eq-eqb, ne_eqb}
use Rattle.std.proofs.lemmas.List.{length-append}
use Rattle.std.proofs.lemmas.List.Elements.{All-head, All-tail, recursion_from_All}
use Rattle.ar_cert.specs.Changes.{Change}
use Rattle.ar_council.proofs.Lists.{find-none}
use Rattle.vote_quorum.specs.Statuses.{Status}
use Rattle.vote_quorum.specs.declared.value.Value.{Value}
use Rattle.domain_table.specs.Applying.{apply}
use Rattle.domain_table.specs.Tables.{Table}
use Rattle.epoch_log.specs.Ending.{decided, own_table, own_vote, skipped}
use Rattle.epoch_log.specs.Honest.{EndsInOrder, VotesOnce}
use Rattle.epoch_log.specs.Log.{standing_tables, untried}
use Rattle.epoch_log.specs.Record.{base_of, current}
use Rattle.epoch_log.specs.State.{LogState, epoch_of, table_of}
use Rattle.epoch_log.specs.declared.entries.Ended.{Ended}
use Rattle.epoch_log.specs.declared.entries.How.{How}
use Rattle.epoch_log.specs.declared.entries.How.TheVariants.{Decided, Skipped}
use Rattle.epoch_log.specs.declared.entries.Voted.{Voted}
use Rattle.epoch_log.specs.declared.parts.Tables.{Tables}
use Rattle.epoch_log.proofs.Endings.{with}
use Rattle.epoch_log.proofs.Read.{table-decided, table-skipped}

-- ---- the own vote

-- where there was none the vote that is told is the own one
pub own-told : (voted : List Voted) (v : Voted) → All (λ (w : Voted). w.epoch ≢ v.epoch) voted → own_vote (voted ++ v ∷ []) v.epoch ≡ Some v
own-told [] v none = ap (λ b. cond b (Some v) None) (eq-eqb v.epoch v.epoch refl)
own-told (w ∷ voted) v none =
    let other : eqb w.epoch v.epoch ≡ false = ne_eqb w.epoch v.epoch (All-head (λ (w : Voted). w.epoch ≢ v.epoch) w voted none) in
    ap (λ b. cond b (Some w) (own_vote (voted ++ v ∷ []) v.epoch)) other ∙ own-told voted v (All-tail (λ (w : Voted). w.epoch ≢ v.epoch) w voted none)

-- and the table to which its changes lead is the own one
pub own-tried : (s later : LogState) (v : Voted) (tried : Table) → later.past.ended ≡ s.past.ended → later.past.voted ≡ s.past.voted ++ v ∷ [] → v.epoch ≡ epoch_of s
    → All (λ (w : Voted). w.epoch ≢ epoch_of s) s.past.voted → apply (table_of s) (epoch_of s) v.changes ≡ Some tried → own_table later ≡ Some tried
own-tried s later v tried ended voted epoch none leads =
    let told : own_vote (s.past.voted ++ v ∷ []) (epoch_of s) ≡ Some v =
    subst (λ e. own_vote (s.past.voted ++ v ∷ []) e ≡ Some v) epoch (own-told s.past.voted v (subst (λ e. All (λ (w : Voted). w.epoch ≢ e) s.past.voted) (sym epoch) none)) in
    ap (λ (x : List Ended). option_and_then (λ (w : Voted). apply (base_of x (current x)) (current x) w.changes) (own_vote later.past.voted (current x))) ended
    ∙ ap (λ (l : List Voted). option_and_then (λ (w : Voted). apply (table_of s) (epoch_of s) w.changes) (own_vote l (epoch_of s))) voted
    ∙ ap (option_and_then (λ (w : Voted). apply (table_of s) (epoch_of s) w.changes)) told ∙ leads

-- ---- the epoch that begins

-- no vote is of an epoch behind all that were voted in
own-none : (voted : List Voted) (epoch : ℕ) → All (λ (v : Voted). v.epoch < epoch) voted → own_vote voted epoch ≡ None
own-none voted epoch below =
    find-none (λ (v : Voted). v.epoch == epoch) voted (recursion_from_All (λ (v : Voted). eqb v.epoch epoch ≡ false) voted
    (λ k d within. ne_eqb (get_or voted k d).epoch epoch (λ same. omega (arith, same, below k d within))))

-- so nothing is tried where an epoch begins
tried-none : (s later : LogState) (how : How) → VotesOnce s.past.ended s.past.voted → later.past.ended ≡ with s.past.ended (epoch_of s) how → later.past.voted ≡ s.past.voted
    → own_table later ≡ None
tried-none s later how once ended voted =
    let next : epoch_of later ≡ epoch_of s + 1 = ap (λ (l : List Ended). length l + 1) ended ∙ omega (arith, length-append s.past.ended (record { epoch = epoch_of s; how = how } ∷ [])) in
    let none : own_vote s.past.voted (epoch_of s + 1) ≡ None = own-none s.past.voted (epoch_of s + 1) (λ k d within. omega (arith, (once.up_to_now k d within).1)) in
    ap (option_and_then (λ (v : Voted). apply (table_of later) (epoch_of later) v.changes)) (ap (λ (l : List Voted). own_vote l (epoch_of later)) voted ∙ ap (own_vote s.past.voted) next ∙ none)

pub tables-decided : (s : LogState) (changes : List Change) (value : Value) (votes : List (ℕ × Option (List ℕ))) (table : Table) → EndsInOrder s.past.ended → VotesOnce s.past.ended s.past.voted
    → apply (table_of s) (epoch_of s) changes ≡ Some table → standing_tables (decided s changes value votes) ≡ untried table
tables-decided s changes value votes table order once is =
    ap (λ (t : Table). let made : Tables = record { base = t; tried = own_table (decided s changes value votes) } in made) (table-decided s changes value votes table order is)
    ∙ ap (λ (o : Option Table). let made : Tables = record { base = table; tried = o } in made) (tried-none s (decided s changes value votes) (Decided changes value.root) once refl refl)

pub tables-skipped : (s : LogState) (statuses : List Status) → EndsInOrder s.past.ended → VotesOnce s.past.ended s.past.voted → standing_tables (skipped s statuses) ≡ untried (table_of s)
tables-skipped s statuses order once =
    ap (λ (t : Table). let made : Tables = record { base = t; tried = own_table (skipped s statuses) } in made) (table-skipped s statuses order)
    ∙ ap (λ (o : Option Table). let made : Tables = record { base = table_of s; tried = o } in made) (tried-none s (skipped s statuses) (Skipped statuses) once refl refl)
