-- The small runs meet what they are said to meet.
use Rattle.std.proofs.Common.{◌≡◌, ℕ, zero, suc, ◌+◌, ◌<◌, ◌≤◌, ◌⊎◌, inl, inr, List, [], ◌∷◌, get_or, refl, ap, ◌∙◌, subst, arith, Bool, true, false, cond, ◌==◌, Some, None}
use Rattle.std.specs.Prelude.{All, Contains, flat_map, map}
use Rattle.std.proofs.lemmas.List.Elements.{All-append, All-cons, All-contains, All-map, All-nil}
use Rattle.ar_base.specs.Apart.{IsIn}
use Rattle.ar_base.proofs.Apart.{in_both}
use Rattle.ar_statement.specs.Claims.{Claim, log_party, text_of}
use Rattle.ar_statement.specs.declared.party.Party.{Party}
use Rattle.ar_statement.specs.declared.text.SeenText.{SeenText}
use Rattle.vote_quorum.specs.Numbers.{distinct_count}
use Rattle.vote_quorum.proofs.Counting.{among, distinct_count-cons}
use Rattle.domain_table.specs.Tables.{Table, no_table}
use Rattle.domain_table.specs.Tree.{root_of, table_strings}
use Rattle.party_keys.specs.Seen.{seen_of}
use Rattle.ar_council.specs.Values.{status_claim, vote_claim}
use Rattle.epoch_log.specs.Calls.{fresh}
use Rattle.epoch_log.specs.Honest.{IsOfHonestLog}
use Rattle.epoch_log.specs.Record.{ending}
use Rattle.epoch_log.specs.declared.entries.How.{How}
use Rattle.epoch_log.specs.declared.entries.How.TheVariants.{Decided, Skipped}
use Rattle.ar_safety.specs.Agreed.{Agreed, Backed, Backs}
use Rattle.ar_safety.specs.Examples.{decided_run, deciding_log, five, forged_run, seen_statuses, seen_votes, skipping_log, split_run, unchanged}
use Rattle.ar_safety.specs.Hashed.{hashed, judged_strings, log_tables, tables_below}
use Rattle.ar_safety.specs.Records.{AreQuorums, AreSigned, IsHonest, IsHonestLog, Records, is_dishonest, signed_by}
use Rattle.ar_safety.specs.Theorem.{AreHonest, Few, NoCollision, NoForgery, Safe}
use Rattle.ar_safety.proofs.Confirming.{backed-agreed}
use Rattle.epoch_log.proofs.Called.{kept-fresh}
use Rattle.authority_core.proofs.Growing.{honest-fresh}
use Rattle.ar_safety.proofs.Empty.{applied-none, one-apart, own-string, tables-string}
use Rattle.ar_safety.proofs.ExampleLogs.{base-one, deciding-honest, first-ending, four-below, only, skipping-honest}

-- ---- what both runs have

-- how many distinct numbers a list has with one more in front
pub one-more : (k : ℕ) (ks : List ℕ) → among k ks ≡ false → distinct_count (k ∷ ks) ≡ distinct_count ks + 1
one-more k ks new = distinct_count-cons k ks ∙ ap (λ b. cond b (distinct_count ks) (distinct_count ks + 1)) new

four-many : 4 ≤ distinct_count (0 ∷ 1 ∷ 2 ∷ 3 ∷ [])
four-many = omega (arith, one-more 0 (1 ∷ 2 ∷ 3 ∷ []) refl, one-more 1 (2 ∷ 3 ∷ []) refl, one-more 2 (3 ∷ []) refl, one-more 3 [] refl)

pub five-many : 4 ≤ distinct_count (0 ∷ 1 ∷ 2 ∷ 3 ∷ 4 ∷ [])
five-many = omega (arith, one-more 0 (1 ∷ 2 ∷ 3 ∷ 4 ∷ []) refl, one-more 1 (2 ∷ 3 ∷ 4 ∷ []) refl, one-more 2 (3 ∷ 4 ∷ []) refl, one-more 3 (4 ∷ []) refl)

pub five-quorums : AreQuorums five
five-quorums = record { wide = omega arith; few = omega arith; few_authorities = omega arith }

-- where each log's tables are the one without names, no strings collide
pub none-below : (r : Records) → ((log : ℕ) → All (λ t. t ≡ no_table) (log_tables (r.logs log))) → (n : ℕ) → All (λ t. t ≡ no_table) (tables_below r n)
unfolding tables_below
none-below r each zero = All-nil (λ t. t ≡ no_table)
none-below r each (suc n) =
    All-append (λ t. t ≡ no_table) (cond (is_dishonest r (log_party n)) [] (log_tables (r.logs n))) (tables_below r n) (by (is_dishonest r (log_party n))) (none-below r each n)
  where
    by : (b : Bool) → All (λ t. t ≡ no_table) (cond b [] (log_tables (r.logs n)))
    by true = All-nil (λ t. t ≡ no_table)
    by false = each n

clean-of : (r : Records) → r.judged ≡ [] → ((log : ℕ) → All (λ t. t ≡ no_table) (log_tables (r.logs log))) → ((authority : ℕ) → (r.authorities authority).asked ≡ []) → NoCollision r
clean-of r judged each asked = record {
  strings = one-apart own-string (hashed r) (λ x is. elim (in_both (flat_map table_strings (tables_below r r.council.logs)) (flat_map judged_strings r.judged) x is) [
    | inl table ↦ tables-string (tables_below r r.council.logs) (none-below r each r.council.logs) x table
    | inr client ↦ absurd (subst (λ js. IsIn (flat_map judged_strings js) x) judged client)
  ]);
  asked = λ authority is a there. let none = subst (λ l. Contains l a) (asked authority) there in absurd (omega (arith, none.1));
}

pub deciding-tables : (voters : List ℕ) (me : ℕ) → All (λ t. t ≡ no_table) (log_tables (deciding_log voters me))
deciding-tables voters me = rw (base-one (Decided [] (root_of no_table))) (rw applied-none (All-cons (λ t. t ≡ no_table) no_table (no_table ∷ []) refl (only (λ t. t ≡ no_table) no_table refl)))

-- of each honest party whose statement was seen, the statement is in its book
pub signed-of : (r : Records) (seen : List SeenText) → All (λ s. IsHonest r s.party → Contains (signed_by r s.party) s.text) seen → AreSigned r seen
signed-of r seen all party text honest there =
    All-contains (λ (s : SeenText). IsHonest r s.party → Contains (signed_by r s.party) s.text) seen (record { party = party; text = text }) all there honest

-- ---- the run in which an epoch is decided

pub all-below : All (λ k. k < 5) (0 ∷ 1 ∷ 2 ∷ 3 ∷ 4 ∷ [])
all-below = All-cons (λ k. k < 5) 0 (1 ∷ 2 ∷ 3 ∷ 4 ∷ []) (omega arith) (four-below 1 2 3 4 5 (omega arith) (omega arith) (omega arith) (omega arith))

pub decided-honest : (dishonest : List Party) → AreHonest (decided_run dishonest)
decided-honest dishonest = record {
  quorums = five-quorums;
  logs = λ log is. deciding-honest (0 ∷ 1 ∷ 2 ∷ 3 ∷ 4 ∷ []) log is.known all-below five-many;
  authorities = λ authority is. honest-fresh five authority 32 (omega arith);
  judged = λ k d less. absurd (omega (arith, less));
}

pub decided-unforged : (dishonest : List Party) → NoForgery (decided_run dishonest)
decided-unforged dishonest = record {
  logs = λ log is. signed-of r (seen_votes (0 ∷ 1 ∷ 2 ∷ 3 ∷ 4 ∷ []))
      (All-map (λ (s : SeenText). IsHonest r s.party → Contains (signed_by r s.party) s.text) (λ k. seen_of (log_party k) (vote_claim k 1 unchanged)) (0 ∷ 1 ∷ 2 ∷ 3 ∷ 4 ∷ []) (λ k d less honest. (0, omega arith, refl)));
  authorities = λ authority is party text good there. absurd (omega (arith, there.1));
  judged = λ k d less. absurd (omega (arith, less));
  learned = λ party text good there. absurd (omega (arith, there.1));
} where
  r : Records
  r = decided_run dishonest

pub decided-clean : (dishonest : List Party) → NoCollision (decided_run dishonest)
decided-clean dishonest = clean-of (decided_run dishonest) refl (λ log. deciding-tables (0 ∷ 1 ∷ 2 ∷ 3 ∷ 4 ∷ []) log) (λ authority. refl)

pub decided-ended : (dishonest : List Party) (log : ℕ) → IsHonestLog (decided_run dishonest) log → ending ((decided_run dishonest).logs log).ended 1 ≡ Some (Decided [] (root_of no_table))
decided-ended dishonest log is = first-ending (Decided [] (root_of no_table))

decided-backed : (dishonest : List Party) → Backed (decided_run dishonest) 1 (root_of no_table)
decided-backed dishonest = record {
  numbers = 0 ∷ 1 ∷ 2 ∷ 3 ∷ 4 ∷ [];
  many = five-many;
  below = all-below;
  each = λ k d less. backs (get_or (0 ∷ 1 ∷ 2 ∷ 3 ∷ 4 ∷ []) k d) (all-below k d less) (is_dishonest (decided_run dishonest) (log_party (get_or (0 ∷ 1 ∷ 2 ∷ 3 ∷ 4 ∷ []) k d))) refl;
} where
  backs : (log : ℕ) → log < 5 → (b : Bool) → is_dishonest (decided_run dishonest) (log_party log) ≡ b → Backs (decided_run dishonest) 1 (root_of no_table) log
  backs log less true is = inl is
  backs log less false is = inr (record { known = less; honest = is }, (root_of no_table, (record { epoch = 1; base = root_of no_table; changes = []; root = root_of no_table }, ((0, omega arith, refl), refl, refl))))

pub decided-agreed : (dishonest : List Party) → Few (decided_run dishonest) → (table : Table) × Agreed (decided_run dishonest) 1 table
decided-agreed dishonest few =
    let a = backed-agreed (decided_run dishonest) (decided-honest dishonest) few 1 (root_of no_table) (decided-backed dishonest) in
    (a.table, a.agreed)

-- ---- the run with three dishonest logs

-- the honest logs are 3 and 4
split-logs : (log : ℕ) → IsHonestLog split_run log → (log ≡ 3) ⊎ (log ≡ 4)
split-logs zero is = let bad = is.honest in absurd cc
split-logs (suc zero) is = let bad = is.honest in absurd cc
split-logs (suc (suc zero)) is = let bad = is.honest in absurd cc
split-logs (suc (suc (suc zero))) is = inl refl
split-logs (suc (suc (suc (suc zero)))) is = inr refl
split-logs (suc (suc (suc (suc (suc log))))) is = absurd (omega (arith, is.known))

honest-3 : IsHonestLog split_run 3
honest-3 = record { known = omega arith; honest = refl }

honest-4 : IsHonestLog split_run 4
honest-4 = record { known = omega arith; honest = refl }

pub split-honest : AreHonest split_run
split-honest = record {
  quorums = five-quorums;
  logs = λ log is. by log (split-logs log is);
  authorities = λ authority is. honest-fresh five authority 32 (omega arith);
  judged = λ k d less. absurd (omega (arith, less));
} where
  by : (log : ℕ) → (log ≡ 3) ⊎ (log ≡ 4) → IsOfHonestLog five log (split_run.logs log)
  by log (inl is) = rw is (deciding-honest (0 ∷ 1 ∷ 2 ∷ 3 ∷ []) 3 (omega arith) (four-below 0 1 2 3 5 (omega arith) (omega arith) (omega arith) (omega arith)) four-many)
  by log (inr is) = rw is skipping-honest

-- a statement that was seen of an honest party, of three dishonest ones and one more
four-signed : (f : ℕ → Claim) (k : ℕ) → (IsHonest split_run (log_party k) → Contains (signed_by split_run (log_party k)) (text_of (f k)))
    → All (λ s. IsHonest split_run s.party → Contains (signed_by split_run s.party) s.text) (map (λ log. seen_of (log_party log) (f log)) (0 ∷ 1 ∷ 2 ∷ k ∷ []))
four-signed f k last =
    All-map (λ (s : SeenText). IsHonest split_run s.party → Contains (signed_by split_run s.party) s.text) (λ log. seen_of (log_party log) (f log)) (0 ∷ 1 ∷ 2 ∷ k ∷ [])
    (All-cons P 0 (1 ∷ 2 ∷ k ∷ []) (λ is. let bad = is.honest in absurd cc)
    (All-cons P 1 (2 ∷ k ∷ []) (λ is. let bad = is.honest in absurd cc)
    (All-cons P 2 (k ∷ []) (λ is. let bad = is.honest in absurd cc) (only P k last))))
  where
    P : ℕ → Type 0
    P log = IsHonest split_run (log_party log) → Contains (signed_by split_run (log_party log)) (text_of (f log))

pub split-unforged : NoForgery split_run
split-unforged = record {
  logs = λ log is. by log (split-logs log is);
  authorities = λ authority is party text good there. absurd (omega (arith, there.1));
  judged = λ k d less. absurd (omega (arith, less));
  learned = λ party text good there. absurd (omega (arith, there.1));
} where
  by : (log : ℕ) → (log ≡ 3) ⊎ (log ≡ 4) → AreSigned split_run (split_run.logs log).seen
  by log (inl is) = rw is (signed-of split_run (seen_votes (0 ∷ 1 ∷ 2 ∷ 3 ∷ [])) (four-signed (λ k. vote_claim k 1 unchanged) 3 (λ honest. (0, omega arith, refl))))
  by log (inr is) = rw is (signed-of split_run (seen_statuses (0 ∷ 1 ∷ 2 ∷ 4 ∷ [])) (four-signed (λ k. status_claim k 1 None) 4 (λ honest. (0, omega arith, refl))))

pub split-clean : NoCollision split_run
split-clean = clean-of split_run refl (λ log. by log (log == 4)) (λ authority. refl)
  where
    by : (log : ℕ) (b : Bool) → All (λ t. t ≡ no_table) (log_tables (cond b (skipping_log (0 ∷ 1 ∷ 2 ∷ 4 ∷ []) log) (deciding_log (0 ∷ 1 ∷ 2 ∷ 3 ∷ []) log)))
    by log true = All-nil (λ t. t ≡ no_table)
    by log false = deciding-tables (0 ∷ 1 ∷ 2 ∷ 3 ∷ []) log

-- one of two honest logs decided the first epoch, and the other skipped it
pub split-unsafe : Safe split_run → ⊥
split-unsafe safe =
    let skip : How = Skipped (map (λ log. (log, None)) (0 ∷ 1 ∷ 2 ∷ 4 ∷ [])) in
    let decide : How = Decided [] (root_of no_table) in
    (safe.agree.one_ending 3 4 honest-3 honest-4 1 decide skip (first-ending decide) (first-ending skip)).0

-- ---- the run with forged statements

pub forged-honest : AreHonest forged_run
forged-honest = record {
  quorums = five-quorums;
  logs = λ log is. by log is.known;
  authorities = λ authority is. honest-fresh five authority 32 (omega arith);
  judged = λ k d less. absurd (omega (arith, less));
} where
  by : (log : ℕ) → log < 5 → IsOfHonestLog five log (forged_run.logs log)
  by zero less = (kept-fresh 0 five 32 (omega arith) (omega arith)).honest
  by (suc zero) less = (kept-fresh 1 five 32 (omega arith) (omega arith)).honest
  by (suc (suc zero)) less = (kept-fresh 2 five 32 (omega arith) (omega arith)).honest
  by (suc (suc (suc zero))) less =
      deciding-honest (0 ∷ 1 ∷ 2 ∷ 3 ∷ []) 3 (omega arith) (four-below 0 1 2 3 5 (omega arith) (omega arith) (omega arith) (omega arith)) four-many
  by (suc (suc (suc (suc zero)))) less = skipping-honest
  by (suc (suc (suc (suc (suc log))))) less = absurd (omega (arith, less))

pub forged-clean : NoCollision forged_run
forged-clean = clean-of forged_run refl (λ log. by log (log == 4) (log == 3)) (λ authority. refl)
  where
    by : (log : ℕ) (b c : Bool)
        → All (λ t. t ≡ no_table) (log_tables (cond b (skipping_log (0 ∷ 1 ∷ 2 ∷ 4 ∷ []) log) (cond c (deciding_log (0 ∷ 1 ∷ 2 ∷ 3 ∷ []) log) (fresh log five 32).past)))
    by log true c = All-nil (λ t. t ≡ no_table)
    by log false true = deciding-tables (0 ∷ 1 ∷ 2 ∷ 3 ∷ []) log
    by log false false = All-nil (λ t. t ≡ no_table)

pub forged-unsafe : Safe forged_run → ⊥
forged-unsafe safe =
    let skip : How = Skipped (map (λ log. (log, None)) (0 ∷ 1 ∷ 2 ∷ 4 ∷ [])) in
    let decide : How = Decided [] (root_of no_table) in
    let one : IsHonestLog forged_run 3 = record { known = omega arith; honest = refl } in
    let other : IsHonestLog forged_run 4 = record { known = omega arith; honest = refl } in
    (safe.agree.one_ending 3 4 one other 1 decide skip (first-ending decide) (first-ending skip)).0
