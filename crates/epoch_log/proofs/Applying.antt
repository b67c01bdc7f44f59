-- The changes of an epoch are applied one by one to where all lead.
use Rattle.std.proofs.Common.{◌≡◌, ℕ, ◌+◌, ◌<◌, ◌^◌, List, [], ◌∷◌, length, get_or, drop, sym, ap, ◌∙◌, Some}
use Rattle.std.specs.Prelude.{All, option_and_then}
use Rattle.std.proofs.Math.Seq.{drop-length}
use Rattle.std.proofs.lemmas.List.Elements.{All-cons, All-nil}
use Rattle.std.proofs.lemmas.List.{drop_more}
use Rattle.ar_cert.specs.Changes.{Change, IsChange}
use Rattle.domain_table.specs.Applying.{apply, apply_each, ripen}
use Rattle.domain_table.specs.Sound.{IsSound}
use Rattle.domain_table.specs.Tables.{Table}
use Rattle.domain_table.proofs.Applied.{applied}
use Rattle.domain_table.proofs.Once.{one_by_one}

-- the changes that are left lead from the table so far to where all lead
pub record IsBetween (e : ℕ) (first : Table) (changes : List Change) (i : ℕ) (so_far : Table) : Type 0 where
  pub leads : apply first e changes ≡ apply so_far e (drop i changes)
  pub sound : IsSound so_far

-- what changes make of a sound table is sound
pub sound-applied : (t u : Table) (e : ℕ) (changes : List Change) → e < 2 ^ 64 → IsSound t → All IsChange changes → apply t e changes ≡ Some u → IsSound u
sound-applied t u e changes low sound are is =
    (applied (λ name c. Unit {0}) changes e t u low is sound (record { chains = λ name chain there k d within. tt; waiting = λ name p there. tt }) are (λ k d within. tt)).sound

-- the table behind a change that is taken is between too
pub next-between : (e : ℕ) (first : Table) (changes : List Change) (i : ℕ) (so_far after : Table) (d : Change) → e < 2 ^ 64 → i < length changes → IsBetween e first changes i so_far
    → IsChange (get_or changes i d) → Some after ≡ apply so_far e (get_or changes i d ∷ []) → IsBetween e first changes (i + 1) after
next-between e first changes i so_far after d low lt between is_change is = record {
  leads = between.leads ∙ ap (apply so_far e) (drop_more changes i d lt) ∙ one_by_one so_far e (get_or changes i d) (drop (i + 1) changes) between.sound
      ∙ ap (option_and_then (λ u. apply u e (drop (i + 1) changes))) (sym is);
  sound = sound-applied so_far after e (get_or changes i d ∷ []) low between.sound (All-cons IsChange (get_or changes i d) [] is_change (All-nil IsChange)) (sym is);
}

-- behind the last change there is nothing but to ripen
pub all-applied : (e : ℕ) (first : Table) (changes : List Change) (i : ℕ) (so_far : Table) → i ≡ length changes → IsBetween e first changes i so_far
    → apply first e changes ≡ Some (ripen so_far e)
unfolding apply_each
all-applied e first changes i so_far all between =
    between.leads ∙ ap (λ n. apply so_far e (drop n changes)) all ∙ ap (apply so_far e) (drop-length changes)
