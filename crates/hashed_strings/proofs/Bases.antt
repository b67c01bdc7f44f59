-- The tables of a log are sound, and each of their names is the name of one of its changes.
use Rattle.std.proofs.Common.{◌≡◌, ℕ, Bool, true, false, zero, suc, ◌+◌, ◌-◌, ◌^◌, ◌<◌, ◌≤◌, List, [], ◌∷◌, ◌++◌, length, get_or, drop, refl, sym, ap, ◌∙◌, subst, arith, Option, Some, None}
use Rattle.std.specs.Prelude.{All, Err, flat_map, if◌then◌else◌, option_and_then, unwrap_or}
use Rattle.std.specs.List.{cons_option, filter_map}
use Rattle.std.specs.FinMap.{get, get-empty}
use Rattle.std.proofs.lemmas.Grind.{flat_map-append}
use Rattle.std.proofs.lemmas.List.{append_assoc, drop_more}
use Rattle.std.proofs.lemmas.Option.{same_Some}
use Rattle.ar_base.specs.Apart.{IsIn}
use Rattle.ar_cert.specs.Changes.{Change, IsChange}
use Rattle.ar_safety.specs.Hashed.{ended_table, log_tables, voted_table}
use Rattle.ar_safety.proofs.Listed.{ended-entry}
use Rattle.domain_table.specs.Applying.{after_answer, apply, apply_each, judge, ripen}
use Rattle.domain_table.specs.Sound.{IsSound}
use Rattle.domain_table.specs.Tables.{Table, no_table}
use Rattle.domain_table.specs.Tree.{table_strings}
use Rattle.domain_table.specs.declared.refusal.ChangeRefusal.{ChangeRefusal}
use Rattle.domain_table.proofs.Applied.{applied, none_sound}
use Rattle.domain_table.proofs.Once.{one_by_one}
use Rattle.domain_table.proofs.Steps.{Holds}
use Rattle.epoch_log.proofs.Applying.{IsBetween, all-applied}
use Rattle.epoch_log.specs.Record.{LogRecord, after_ending, base_of, ending}
use Rattle.epoch_log.specs.declared.entries.Ended.{Ended}
use Rattle.epoch_log.specs.declared.entries.How.{How}
use Rattle.epoch_log.specs.declared.entries.How.TheVariants.{Decided, Skipped}
use Rattle.epoch_log.specs.declared.entries.Voted.{Voted}
use Rattle.hash_tree.specs.Entries.{key_cmp}
use Rattle.std.proofs.Math.ListN.{drop_of_length-le}
use Rattle.hashed_strings.specs.Index.{IsIndex}
use Rattle.hashed_strings.specs.Made.{EachTold, Tells, changes_in, decided_at, decided_in, strings_made}
use Rattle.hashed_strings.specs.Named.{AreAll, IsTold, strings_told}
use Rattle.hashed_strings.proofs.Index.{same-front}
use Rattle.hashed_strings.proofs.Names.{hashed-told, told-hashed}

-- ---- one epoch

-- that each name of a table is told, as of each change that it has
holds-of : (names : List (List ℕ)) (t : Table) → AreAll names t → Holds (λ name c. IsIn names name) t
holds-of names t all = record {
  chains = λ name chain there k d within. all.chains name chain there;
  waiting = λ name p there. all.waiting name p there;
}

told-of : (names : List (List ℕ)) (t : Table) → IsSound t → Holds (λ name c. IsIn names name) t → IsTold names t
told-of names t sound holds = record {
  sound = sound;
  all = record {
    chains = λ name chain there. by name chain there (sound.chains name chain there).chain.some;
    waiting = λ name p there. holds.waiting name p there;
  };
}
  where
    by : (name : List ℕ) (chain : List Change) → get t.chains name ≡ Some chain → 0 < length chain → IsIn names name
    by name [] there some = absurd (omega (arith, some))
    by name (c ∷ chain) there some = holds.chains name (c ∷ chain) there 0 c (omega arith)

pub told-applied : (names : List (List ℕ)) (t u : Table) (e : ℕ) (changes : List Change) → e < 2 ^ 64 → IsTold names t → All (Tells names) changes → apply t e changes ≡ Some u → IsTold names u
told-applied names t u e changes low told tells is =
    let after = applied (λ name c. IsIn names name) changes e t u low is told.sound (holds-of names t told.all) (λ k d within. (tells k d within).0) (λ k d within. (tells k d within).1) in
    told-of names u after.sound after.holds

-- ---- all epochs

none-told : (names : List (List ℕ)) → IsTold names no_table
none-told names = record {
  sound = none_sound;
  all = record {
    chains = λ name chain there. let none : None ≡ Some chain = sym (get-empty key_cmp name) ∙ there in absurd (cc);
    waiting = λ name p there. let none : None ≡ Some p = sym (get-empty key_cmp name) ∙ there in absurd (cc);
  };
}

told-ending : (names : List (List ℕ)) (e : ℕ) (t : Table) (o : Option How) → ((how : How) → o ≡ Some how → All (Tells names) (changes_in how)) → e < 2 ^ 64 → IsTold names t
    → IsTold names (after_ending e o t)
told-ending names e t None each low told = told
told-ending names e t (Some (Skipped statuses)) each low told = told
told-ending names e t (Some (Decided changes root)) each low told = by (apply t e changes) refl
  where
    by : (after : Option Table) → apply t e changes ≡ after → IsTold names (unwrap_or after t)
    by None is = told
    by (Some u) is = told-applied names t u e changes low told (each (Decided changes root) refl) is

-- what an ending has is told
pub ending-told : (names : List (List ℕ)) (ended : List Ended) → EachTold names ended → (e : ℕ) (how : How) → ending ended e ≡ Some how → All (Tells names) (changes_in how)
ending-told names ended each e how is =
    let x = ended-entry ended e how is in
    let entry = x.1.0 in
    subst (λ h. All (Tells names) (changes_in h)) (ap (λ (y : Ended). y.how) entry.2 ∙ x.1.2) (each entry.0 x.0 entry.1)

pub base-told : (names : List (List ℕ)) (ended : List Ended) → EachTold names ended → (e : ℕ) → e < 2 ^ 64 → IsTold names (base_of ended e)
unfolding base_of
base-told names ended each zero low = none-told names
base-told names ended each (suc e) low =
    told-ending names e (base_of ended e) (ending ended e) (λ how is. ending-told names ended each e how is) (omega (arith, low)) (base-told names ended each e (omega (arith, low)))

-- what an epoch was decided by is told
pub decided-told : (names : List (List ℕ)) (ended : List Ended) → EachTold names ended → (e : ℕ) (changes : List Change) → Some changes ≡ decided_at ended e → All (Tells names) changes
decided-told names ended each e changes is = by (ending ended e) refl is
  where
    by : (o : Option How) → ending ended e ≡ o → Some changes ≡ option_and_then decided_in o → All (Tells names) changes
    by None was same = absurd (cc)
    by (Some (Skipped statuses)) was same = absurd (cc)
    by (Some (Decided found root)) was same =
        subst (All (Tells names)) (sym (same_Some changes found same)) (ending-told names ended each e (Decided found root) was)

-- the ranges alone
pub in-ranges : (names : List (List ℕ)) (changes : List Change) → All (Tells names) changes → All IsChange changes
in-ranges names changes told k d within = (told k d within).0

-- ---- the step of a base

-- what stands behind an epoch that was not decided, and behind one that was
pub behind-none : (ended : List Ended) (e : ℕ) (t : Table) → None ≡ decided_at ended e → t ≡ after_ending e (ending ended e) t
behind-none ended e t is = by (ending ended e) is
  where
    by : (o : Option How) → None ≡ option_and_then decided_in o → t ≡ after_ending e o t
    by None same = refl
    by (Some (Skipped statuses)) same = refl
    by (Some (Decided changes root)) same = absurd (cc)

pub behind-some : (ended : List Ended) (e : ℕ) (t after : Table) (changes : List Change) → Some changes ≡ decided_at ended e → Some after ≡ apply t e changes
    → after ≡ after_ending e (ending ended e) t
behind-some ended e t after changes is made = by (ending ended e) is
  where
    by : (o : Option How) → Some changes ≡ option_and_then decided_in o → after ≡ after_ending e o t
    by None same = absurd (cc)
    by (Some (Skipped statuses)) same = absurd (cc)
    by (Some (Decided found root)) same = ap (λ (o : Option Table). unwrap_or o t) (made ∙ ap (apply t e) (same_Some changes found same))

pub behind-refused : (ended : List Ended) (e : ℕ) (t : Table) (changes : List Change) → Some changes ≡ decided_at ended e → None ≡ apply t e changes → t ≡ after_ending e (ending ended e) t
behind-refused ended e t changes is made = by (ending ended e) is
  where
    by : (o : Option How) → Some changes ≡ option_and_then decided_in o → t ≡ after_ending e o t
    by None same = absurd (cc)
    by (Some (Skipped statuses)) same = absurd (cc)
    by (Some (Decided found root)) same = ap (λ (o : Option Table). unwrap_or o t) (made ∙ ap (apply t e) (same_Some changes found same))

pub base-start : (ended : List Ended) (t : Table) → t ≡ no_table → t ≡ base_of ended 0
unfolding base_of
base-start ended t is = is

pub base-next : (ended : List Ended) (e : ℕ) (t u : Table) → t ≡ base_of ended e → u ≡ after_ending e (ending ended e) t → u ≡ base_of ended (e + 1)
unfolding base_of
base-next ended e t u is made =
    let one : e + 1 ≡ suc e = omega arith in
    made ∙ ap (after_ending e (ending ended e)) is ∙ ap (base_of ended) (sym one)

-- the base of an epoch is sound, and what is applied to it has names that are told
pub base-sound : (names : List (List ℕ)) (ended : List Ended) (e : ℕ) (t : Table) → EachTold names ended → e < 2 ^ 64 → t ≡ base_of ended e → IsSound t
base-sound names ended e t each low is = subst IsSound (sym is) (base-told names ended each e low).sound

pub all-named : (names : List (List ℕ)) (ended : List Ended) (e : ℕ) (base t : Table) (changes : List Change) → EachTold names ended → e < 2 ^ 64 → All (Tells names) changes → base ≡ base_of ended e
    → Some t ≡ apply base e changes → AreAll names t
all-named names ended e base t changes each low told is made =
    (told-applied names base t e changes low (subst (IsTold names) (sym is) (base-told names ended each e low)) told (sym made)).all

-- the ranges of what an epoch was decided by
pub decided-ranges : (names : List (List ℕ)) (ended : List Ended) (e : ℕ) (changes : List Change) → EachTold names ended → Some changes ≡ decided_at ended e → All IsChange changes
decided-ranges names ended e changes each is = in-ranges names changes (decided-told names ended each e changes is)

pub ruleset base_steps = (behind-none, behind-some, behind-refused, base-start, base-next, base-sound, all-named, in-ranges, decided-ranges)

-- ---- a refused change

pub refused-alone : (t : Table) (e : ℕ) (c : Change) (rest : List Change) (refusal : ChangeRefusal) → judge t e c ≡ Err refusal → apply t e (c ∷ rest) ≡ None
unfolding apply_each
refused-alone t e c rest refusal is = ap (λ answer. option_and_then (λ u. apply_each u e rest) (after_answer (ripen t e) e c answer)) is

-- ---- strings of tables, one by one

-- in front of the strings of other tables stand those of one more, if there is one
pub one-more : (o : Option Table) (tables : List Table) (others : List (List ℕ)) → strings_made o ++ (flat_map table_strings tables ++ others) ≡ flat_map table_strings (cons_option o tables) ++ others
one-more None tables others = refl
one-more (Some t) tables others = sym (append_assoc (table_strings t) (flat_map table_strings tables) others)

-- the strings of the element at a place, in front of those of the elements behind it
pub from-here : {X : Type 0} (at : List ℕ → Option (List ℕ)) (so_far : Bool) (f : X → Option Table) (xs : List X) (i : ℕ) (x : X) (others : List (List ℕ)) → i < length xs → get_or xs i x ≡ x
    → IsIndex at so_far (strings_made (f x) ++ (flat_map table_strings (filter_map f (drop (i + 1) xs)) ++ others))
    → IsIndex at so_far (flat_map table_strings (filter_map f (drop i xs)) ++ others)
from-here at so_far f xs i x others within is index =
    let longer : drop i xs ≡ x ∷ drop (i + 1) xs = drop_more xs i x within ∙ ap (λ y. y ∷ drop (i + 1) xs) is in
    subst (IsIndex at so_far) (one-more (f x) (filter_map f (drop (i + 1) xs)) others ∙ ap (λ ys. flat_map table_strings (filter_map f ys) ++ others) (sym longer)) index

-- behind the last there is none
pub from-end : {X : Type 0} (at : List ℕ → Option (List ℕ)) (so_far : Bool) (f : X → Option Table) (xs : List X) (n : ℕ) (others : List (List ℕ)) → length xs ≤ n → IsIndex at so_far others
    → IsIndex at so_far (flat_map table_strings (filter_map f (drop n xs)) ++ others)
from-end at so_far f xs n others end index = subst (λ ys. IsIndex at so_far (flat_map table_strings (filter_map f ys) ++ others)) (sym (drop_of_length-le xs end)) index

-- from the first on there are all
pub from-first : {X : Type 0} (at : List ℕ → Option (List ℕ)) (so_far : Bool) (f : X → Option Table) (xs : List X) (n : ℕ) (others : List (List ℕ)) → n ≡ 0
    → IsIndex at so_far (flat_map table_strings (filter_map f (drop n xs)) ++ others) → IsIndex at so_far (flat_map table_strings (filter_map f xs) ++ others)
from-first at so_far f xs n others first index = subst (λ k. IsIndex at so_far (flat_map table_strings (filter_map f (drop k xs)) ++ others)) first index

-- the strings of the tables of two lists
pub both-lists : (at : List ℕ → Option (List ℕ)) (so_far : Bool) (one other : List Table) (others : List (List ℕ))
    → IsIndex at so_far (flat_map table_strings one ++ (flat_map table_strings other ++ others)) → IsIndex at so_far (flat_map table_strings (one ++ other) ++ others)
both-lists at so_far one other others index =
    subst (IsIndex at so_far) (sym (append_assoc (flat_map table_strings one) (flat_map table_strings other) others) ∙ ap (λ strings. strings ++ others) (sym (flat_map-append table_strings one other))) index

-- of a table, whose names are all told
pub of-table : (at : List ℕ → Option (List ℕ)) (so_far : Bool) (names : List (List ℕ)) (t : Table) (strings others : List (List ℕ)) → strings ≡ strings_told t names → AreAll names t
    → IsIndex at so_far (strings ++ others) → IsIndex at so_far (table_strings t ++ others)
of-table at so_far names t strings others are all index =
    same-front at so_far (strings_told t names) (table_strings t) others (told-hashed t names) (hashed-told t names all) (subst (λ ys. IsIndex at so_far (ys ++ others)) are index)

-- of a table, if there is one
pub of-some : (at : List ℕ → Option (List ℕ)) (so_far : Bool) (t : Table) (o : Option Table) (others : List (List ℕ)) → Some t ≡ o → IsIndex at so_far (table_strings t ++ others) → IsIndex at so_far (strings_made o ++ others)
of-some at so_far t o others is index = subst (λ made. IsIndex at so_far (strings_made made ++ others)) is index

pub of-none : (at : List ℕ → Option (List ℕ)) (so_far : Bool) (o : Option Table) (others : List (List ℕ)) → None ≡ o → IsIndex at so_far others → IsIndex at so_far (strings_made o ++ others)
of-none at so_far o others is index = subst (λ made. IsIndex at so_far (strings_made made ++ others)) is index

-- ---- an epoch that ended

pub ended-some : (ended : List Ended) (e : ℕ) (how : How) (changes : List Change) → Some changes ≡ decided_in how → ended_table ended e how ≡ apply (base_of ended e) e changes
ended-some ended e (Skipped statuses) changes is = absurd (cc)
ended-some ended e (Decided found root) changes is = ap (apply (base_of ended e) e) (sym (same_Some changes found is))

pub ended-none : (ended : List Ended) (e : ℕ) (how : How) → None ≡ decided_in how → ended_table ended e how ≡ None
ended-none ended e (Skipped statuses) is = refl
ended-none ended e (Decided found root) is = absurd (cc)

pub tells-some : (names : List (List ℕ)) (how : How) (changes : List Change) → Some changes ≡ decided_in how → All (Tells names) (changes_in how) → All (Tells names) changes
tells-some names (Skipped statuses) changes is told = absurd (cc)
tells-some names (Decided found root) changes is told = subst (All (Tells names)) (sym (same_Some changes found is)) told

-- where one of the changes is refused, so are all
pub refused-here : (e : ℕ) (first : Table) (changes : List Change) (i : ℕ) (so_far : Table) (d : Change) → i < length changes → IsBetween e first changes i so_far
    → None ≡ apply so_far e (get_or changes i d ∷ []) → apply first e changes ≡ None
refused-here e first changes i so_far d lt between none =
    between.leads ∙ ap (apply so_far e) (drop_more changes i d lt) ∙ one_by_one so_far e (get_or changes i d) (drop (i + 1) changes) between.sound
    ∙ ap (option_and_then (λ u. apply u e (drop (i + 1) changes))) (sym none)

pub ruleset table_steps = (from-here, from-end, from-first, both-lists, of-table, of-some, of-none, ended-some, ended-none, tells-some)

-- ---- one change after another

pub taken-on : (is_taken : Bool) (after : Table) (o : Option Table) → is_taken ≡ true → (if is_taken then Some after else None) ≡ o → Some after ≡ o
taken-on true after o is same = same
taken-on false after o is same = absurd (cc)

pub taken-off : (is_taken : Bool) (after : Table) (o : Option Table) → is_taken ≡ false → (if is_taken then Some after else None) ≡ o → None ≡ o
taken-off false after o is same = same
taken-off true after o is same = absurd (cc)

pub between-start : (e : ℕ) (first : Table) (changes : List Change) (so_far : Table) → so_far ≡ first → IsSound first → IsBetween e first changes 0 so_far
between-start e first changes so_far is sound = record { leads = ap (λ t. apply t e changes) (sym is); sound = subst IsSound (sym is) sound }

pub refused-now : (e : ℕ) (first : Table) (changes : List Change) (i : ℕ) (so_far after : Table) (x d : Change) (is_taken : Bool) → i < length changes → IsBetween e first changes i so_far
    → x ≡ get_or changes i d → is_taken ≡ false → (if is_taken then Some after else None) ≡ apply so_far e (x ∷ []) → None ≡ apply first e changes
refused-now e first changes i so_far after x d is_taken lt between same off is =
    sym (refused-here e first changes i so_far d lt between (taken-off is_taken after (apply so_far e (x ∷ [])) off is ∙ ap (λ (y : Change). apply so_far e (y ∷ [])) same))

pub done-now : (e : ℕ) (first : Table) (changes : List Change) (i : ℕ) (so_far ripe : Table) → i ≡ length changes → IsBetween e first changes i so_far → ripe ≡ ripen so_far e → Some ripe ≡ apply first e changes
done-now e first changes i so_far ripe all between is = ap (λ (t : Table). Some t) is ∙ sym (all-applied e first changes i so_far all between)

pub ruleset apply_steps = (between-start, refused-now, done-now)

-- the strings of the element before a place, in front of those of the elements from there on
pub from-before : {X : Type 0} (at : List ℕ → Option (List ℕ)) (so_far : Bool) (f : X → Option Table) (xs : List X) (i : ℕ) (x : X) (others : List (List ℕ)) → 0 < i → i ≤ length xs → get_or xs (i - 1) x ≡ x
    → IsIndex at so_far (strings_made (f x) ++ (flat_map table_strings (filter_map f (drop i xs)) ++ others))
    → IsIndex at so_far (flat_map table_strings (filter_map f (drop (i - 1) xs)) ++ others)
from-before at so_far f xs i x others some within is index =
    let back : i ≡ (i - 1) + 1 = omega (arith, some) in
    from-here at so_far f xs (i - 1) x others (omega (arith, some, within)) is
    (subst (λ k. IsIndex at so_far (strings_made (f x) ++ (flat_map table_strings (filter_map f (drop k xs)) ++ others))) back index)

-- of a vote, whose changes are these
pub vote-before : (at : List ℕ → Option (List ℕ)) (so_far : Bool) (ended : List Ended) (voted : List Voted) (i : ℕ) (v : Voted) (changes : List Change) (others : List (List ℕ)) → 0 < i → i ≤ length voted
    → get_or voted (i - 1) v ≡ v → changes ≡ v.changes
    → IsIndex at so_far (strings_made (apply (base_of ended v.epoch) v.epoch changes) ++ (flat_map table_strings (filter_map (voted_table ended) (drop i voted)) ++ others))
    → IsIndex at so_far (flat_map table_strings (filter_map (voted_table ended) (drop (i - 1) voted)) ++ others)
vote-before at so_far ended voted i v changes others some within is same index =
    from-before at so_far (voted_table ended) voted i v others some within is
    (subst (λ (cs : List Change). IsIndex at so_far (strings_made (apply (base_of ended v.epoch) v.epoch cs) ++ (flat_map table_strings (filter_map (voted_table ended) (drop i voted)) ++ others))) same index)

-- of the table to which changes lead from the base of an epoch, and of one that they do not lead to
pub of-applied : (at : List ℕ → Option (List ℕ)) (so_far : Bool) (ended : List Ended) (e : ℕ) (base t : Table) (changes : List Change) (others : List (List ℕ)) → base ≡ base_of ended e → Some t ≡ apply base e changes
    → IsIndex at so_far (table_strings t ++ others) → IsIndex at so_far (strings_made (apply (base_of ended e) e changes) ++ others)
of-applied at so_far ended e base t changes others based made =
    of-some at so_far t (apply (base_of ended e) e changes) others (made ∙ ap (λ (b : Table). apply b e changes) based)

pub of-refused : (at : List ℕ → Option (List ℕ)) (so_far : Bool) (ended : List Ended) (e : ℕ) (base : Table) (changes : List Change) (others : List (List ℕ)) → base ≡ base_of ended e → None ≡ apply base e changes
    → IsIndex at so_far others → IsIndex at so_far (strings_made (apply (base_of ended e) e changes) ++ others)
of-refused at so_far ended e base changes others based made =
    of-none at so_far (apply (base_of ended e) e changes) others (made ∙ ap (λ (b : Table). apply b e changes) based)

-- of all tables of a log
pub of-log : (at : List ℕ → Option (List ℕ)) (so_far : Bool) (l : LogRecord) (first ended : List Ended) (voted : List Voted) (others : List (List ℕ)) → first ≡ l.ended → ended ≡ l.ended → voted ≡ l.voted
    → IsIndex at so_far (flat_map table_strings (filter_map (voted_table first) voted) ++ (flat_map table_strings (filter_map (λ x. ended_table ended x.epoch x.how) ended) ++ others))
    → IsIndex at so_far (flat_map table_strings (log_tables l) ++ others)
of-log at so_far l first ended voted others one two votes index =
    both-lists at so_far (filter_map (voted_table l.ended) l.voted) (filter_map (λ (x : Ended). ended_table l.ended x.epoch x.how) l.ended) others
    (subst (λ (xs : List Ended). IsIndex at so_far (flat_map table_strings (filter_map (voted_table l.ended) l.voted) ++ (flat_map table_strings (filter_map (λ (x : Ended). ended_table xs x.epoch x.how) xs) ++ others))) two
    (subst (λ (vs : List Voted). IsIndex at so_far (flat_map table_strings (filter_map (voted_table l.ended) vs) ++ (flat_map table_strings (filter_map (λ (x : Ended). ended_table ended x.epoch x.how) ended) ++ others))) votes
    (subst (λ (xs : List Ended). IsIndex at so_far (flat_map table_strings (filter_map (voted_table xs) voted) ++ (flat_map table_strings (filter_map (λ (x : Ended). ended_table ended x.epoch x.how) ended) ++ others))) one index)))
