-- Epochs one behind another: what they make of the table without names.
use Rattle.std.proofs.Common.{◌≡◌, ℕ, List, [], ◌∷◌, ◌++◌, refl, subst, Option, Some, None}
use Rattle.std.specs.Prelude.{All, Contains, option_and_then}
use Rattle.std.proofs.lemmas.List.Elements.{All-head, All-tail, All-nil, All-cons, All-weaker, All-contains_itself, Contains-append_left, Contains-append_right}
use Rattle.ar_cert.specs.Changes.{Change}
use Rattle.domain_table.specs.Tables.{Table, no_table}
use Rattle.domain_table.specs.Applying.{Epoch, apply, after_epochs, changes_of}
use Rattle.domain_table.specs.Sound.{IsSound, IsEpochOf, IsAmong, AllCameBy}
use Rattle.domain_table.proofs.Steps.{Holds, Follows, follows_itself, follows_on}
use Rattle.domain_table.proofs.Applied.{applied, none_sound, none_holds}

-- the changes of each epoch have the property, each for the name of its certificate
abbrev pub EachHas : (List ℕ → Change → Type 0) → List Epoch → Type 0
EachHas P epochs = All (λ e. All (λ c. P c.cert.name c) e.1) epochs

pub after_each : (P : List ℕ → Change → Type 0) (epochs : List Epoch) (t u : Table) → after_epochs t epochs ≡ Some u → IsSound t → Holds P t → All IsEpochOf epochs → EachHas P epochs → Follows P t u
unfolding after_epochs
after_each P [] t u is sound holds are each =
    let same : t ≡ u = cc in
    subst (Follows P t) same (follows_itself P t sound holds)
after_each P (e ∷ epochs) t u is sound holds are each =
    by (apply t e.0 e.1) refl is (λ v. after_each P epochs v u) where
      by : (o : Option Table) → apply t e.0 e.1 ≡ o → option_and_then (λ v. after_epochs v epochs) o ≡ Some u
          → ((v : Table) → after_epochs v epochs ≡ Some u → IsSound v → Holds P v → All IsEpochOf epochs → EachHas P epochs → Follows P v u) → Follows P t u
      by None answers rest next = absurd (cc)
      by (Some v) answers rest next =
          let epoch : IsEpochOf e = All-head IsEpochOf e epochs are in
          let first : Follows P t v = applied P e.1 e.0 t v epoch.number answers sound holds epoch.changes (All-head (λ x. All (λ c. P c.cert.name c) x.1) e epochs each) in
          follows_on P t v u first (next v rest first.sound first.holds (All-tail IsEpochOf e epochs are) (All-tail (λ x. All (λ c. P c.cert.name c) x.1) e epochs each))

-- each change is among those of all epochs
among : (epochs : List Epoch) → All (λ e. All (Contains (changes_of epochs)) e.1) epochs
among [] = All-nil (λ e. All (Contains []) e.1)
among (e ∷ epochs) =
    All-cons (λ x. All (Contains (e.1 ++ changes_of epochs)) x.1) e epochs
    (All-weaker (Contains e.1) (Contains (e.1 ++ changes_of epochs)) (λ c i. Contains-append_left e.1 (changes_of epochs) c i) e.1 (All-contains_itself e.1))
    (All-weaker (λ (x : Epoch). All (Contains (changes_of epochs)) x.1) (λ (x : Epoch). All (Contains (e.1 ++ changes_of epochs)) x.1)
    (λ x all. All-weaker (Contains (changes_of epochs)) (Contains (e.1 ++ changes_of epochs)) (λ c i. Contains-append_right e.1 (changes_of epochs) c i) x.1 all) epochs (among epochs))

-- the table after epochs is sound
pub sound_after : (epochs : List Epoch) (table : Table) → All IsEpochOf epochs → after_epochs no_table epochs ≡ Some table → IsSound table
sound_after epochs table are is =
    (after_each (λ name c. Unit {0}) epochs no_table table is none_sound (none_holds (λ name c. Unit {0})) are (λ k d l j c m. tt)).sound

-- and each of its changes came by one of them
pub came_by : (epochs : List Epoch) (table : Table) → All IsEpochOf epochs → after_epochs no_table epochs ≡ Some table → AllCameBy (changes_of epochs) table
came_by epochs table are is =
    let all = (after_each (IsAmong (changes_of epochs)) epochs no_table table is none_sound (none_holds (IsAmong (changes_of epochs))) are
    (λ k d l j c m. (among epochs k d l j c m, refl))).holds in
    record { chains = all.chains; waits = all.waiting }
