-- What a judgement under a map means, and what is learnt does to it.
use Rattle.std.proofs.Common.{◌≡◌, ◌≢◌, ◌↔◌, ◌==◌, ◌&&◌, ◌*◌, ℕ, Bool, true, false, if◌then◌else◌, List, length, refl, sym, ap, ◌∙◌}
use Rattle.std.proofs.lemmas.Bool.{eqb-true, eq-eqb}
use Rattle.client_rule.specs.Rule.{Asked, judgement}
use Rattle.client_rule.specs.Meaning.{learnt}
use Rattle.client_rule.specs.declared.judgement.Judgement.{Judgement}
use Rattle.party_keys.specs.Directory.{IsDirectory}
use Rattle.party_keys.specs.Learning.{Announced, after_all}
use Rattle.tree_proof.specs.Membership.{is_on}
use Rattle.table_map.specs.Maps.{IsPlaced, TableMap, is_placed}
use Rattle.table_map.specs.Tables.{table_key, table_of}
use Rattle.table_map.specs.Judging.{judgement_in}
use Rattle.table_map.specs.declared.judging.MapJudgement.{MapJudgement}
use Rattle.table_map.specs.declared.judging.MapJudgement.TheVariants.{Judged, OtherTable, OtherRoot}
use Rattle.table_map.proofs.Learning.{digest-stays}
use Rattle.table_map.proofs.Placing.{is_placed-Decides}

-- ---- what is answered by the two tests

says-judged : (a b : Bool) (v w : Judgement) → (if a then (if b then Judged v else OtherRoot) else OtherTable) ≡ Judged w → (a ≡ true) × (b ≡ true) × (v ≡ w)
says-judged true true v w e = (refl, refl, cc)
says-judged true false v w e = absurd cc
says-judged false b v w e = absurd cc

says-table : (a b : Bool) (v : Judgement) → (if a then (if b then Judged v else OtherRoot) else OtherTable) ≡ OtherTable → a ≡ false
says-table true true v e = absurd cc
says-table true false v e = absurd cc
says-table false b v e = refl

says-root : (a b : Bool) (v : Judgement) → (if a then (if b then Judged v else OtherRoot) else OtherTable) ≡ OtherRoot → (a ≡ true) × (b ≡ false)
says-root true true v e = absurd cc
says-root true false v e = (refl, refl)
says-root false b v e = absurd cc

pub judged-means : (m : TableMap) (table : ℕ) (path : List ℕ) (asked : Asked) (bytes : List ℕ) (v : Judgement) → judgement_in m table path asked bytes ≡ Judged v
    → (table ≡ table_of m.bits asked.name) × IsPlaced m table asked.keys path × (judgement asked bytes ≡ v)
unfolding judgement_in
judged-means m table path asked bytes v e =
    let s = says-judged (table == table_of m.bits asked.name) (is_placed m table asked.keys path) (judgement asked bytes) v e in
    (eqb-true _ _ s.0, (is_placed-Decides m table asked.keys path).0 s.1, s.2)

pub judged-where : (m : TableMap) (table : ℕ) (path : List ℕ) (asked : Asked) (bytes : List ℕ) → table ≡ table_of m.bits asked.name → IsPlaced m table asked.keys path
    → judgement_in m table path asked bytes ≡ Judged (judgement asked bytes)
unfolding judgement_in
judged-where m table path asked bytes own is =
    let a : (table == table_of m.bits asked.name) ≡ true = eq-eqb _ _ own in
    let b : is_placed m table asked.keys path ≡ true = (is_placed-Decides m table asked.keys path).1 is in
    λ i. if a i then (if b i then Judged (judgement asked bytes) else OtherRoot) else OtherTable

pub table-means : (m : TableMap) (table : ℕ) (path : List ℕ) (asked : Asked) (bytes : List ℕ) → judgement_in m table path asked bytes ≡ OtherTable → table ≢ table_of m.bits asked.name
unfolding judgement_in
table-means m table path asked bytes e same =
    let no : (table == table_of m.bits asked.name) ≡ false = says-table (table == table_of m.bits asked.name) (is_placed m table asked.keys path) (judgement asked bytes) e in
    let yes : (table == table_of m.bits asked.name) ≡ true = eq-eqb _ _ same in
    let bad : true ≡ false = sym yes ∙ no in
    absurd cc

pub root-means : (m : TableMap) (table : ℕ) (path : List ℕ) (asked : Asked) (bytes : List ℕ) → judgement_in m table path asked bytes ≡ OtherRoot
    → (table ≡ table_of m.bits asked.name) × (IsPlaced m table asked.keys path → ⊥)
unfolding judgement_in
root-means m table path asked bytes e =
    let s = says-root (table == table_of m.bits asked.name) (is_placed m table asked.keys path) (judgement asked bytes) e in
    (eqb-true _ _ s.0, λ is. let bad : true ≡ false = sym ((is_placed-Decides m table asked.keys path).1 is) ∙ s.1 in absurd cc)

pub placed-learnt : (m : TableMap) (table : ℕ) (path : List ℕ) (asked : Asked) (announced : List Announced) → IsDirectory asked.keys
    → is_placed m table (learnt asked announced).keys path ≡ is_placed m table asked.keys path
unfolding is_placed
placed-learnt m table path asked announced is =
    ap (λ digest. (length path == 32 * m.bits) && is_on (table_key m.bits table) digest path m.root) (digest-stays asked.keys announced is)
