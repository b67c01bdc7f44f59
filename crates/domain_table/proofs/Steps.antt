-- One relation between two tables carries all that applying does: each chain stays or grows by one accepted
-- change, and what waits is what waited behind the same chain, or may follow the newest certificate.
use Rattle.std.proofs.Common.{◌≡◌, ℕ, List, [], ◌∷◌, ◌++◌, refl, sym, ap, ◌∙◌, subst, ◌⊎◌, ⊎_elim, Option, Some, None, append_assoc}
use Rattle.std.specs.Prelude.{unwrap_or, All}
use Rattle.std.specs.FinMap.{get}
use Rattle.std.proofs.lemmas.List.{append-nil}
use Rattle.std.proofs.lemmas.List.Elements.{All-push, All-nil}
use Rattle.std.proofs.lemmas.Option.{same_Some}
use Rattle.ar_base.specs.Prefixes.{BeginsWith}
use Rattle.ar_cert.specs.Changes.{Change, IsChange}
use Rattle.ar_cert.specs.Judging.{IsAccepted}
use Rattle.ar_cert.proofs.Accepted.{one_is_chain, more_is_chain}
use Rattle.domain_table.specs.Tables.{Pending, Table, chain_of, newest}
use Rattle.domain_table.specs.Sound.{IsChainOf, Waits, IsSound}
use Rattle.domain_table.proofs.Newest.{newest_is}

-- a change may stand behind a chain of the name, and has the property
pub record Fits (P : List ℕ → Change → Type 0) (name : List ℕ) (chain : List Change) (c : Change) : Type 0 where
  pub accepted : IsAccepted (newest chain) c
  pub change : IsChange c
  pub named : c.cert.name ≡ name
  pub holds : P name c

-- a chain stays, or has one more change that fits
abbrev pub Grows : (List ℕ → Change → Type 0) → List ℕ → Option (List Change) → Option (List Change) → Type 0
Grows P name before after =
    (after ≡ before) ⊎ ((c : Change) × (after ≡ Some (unwrap_or before [] ++ c ∷ [])) × Fits P name (unwrap_or before []) c)

-- what begins to wait may follow the newest certificate, and has the property
pub record Begun (P : List ℕ → Change → Type 0) (u : Table) (name : List ℕ) (p : Pending) : Type 0 where
  pub waits : Waits name (chain_of u name) p
  pub holds : P name p.change

-- what waited before behind the same chain
pub record Stayed (t u : Table) (name : List ℕ) (p : Pending) : Type 0 where
  pub waited : get t.waiting name ≡ Some p
  pub behind : get u.chains name ≡ get t.chains name

pub record Steps (P : List ℕ → Change → Type 0) (t u : Table) : Type 0 where
  pub chains : (name : List ℕ) → Grows P name (get t.chains name) (get u.chains name)
  pub waiting : (name : List ℕ) (p : Pending) → get u.waiting name ≡ Some p → Stayed t u name p ⊎ Begun P u name p

-- each change of a table has the property
pub record Holds (P : List ℕ → Change → Type 0) (t : Table) : Type 0 where
  pub chains : (name : List ℕ) (chain : List Change) → get t.chains name ≡ Some chain → All (P name) chain
  pub waiting : (name : List ℕ) (p : Pending) → get t.waiting name ≡ Some p → P name p.change

-- what a table keeps when another follows it
pub record Follows (P : List ℕ → Change → Type 0) (t u : Table) : Type 0 where
  pub sound : IsSound u
  pub holds : Holds P u
  pub begins : (name : List ℕ) → BeginsWith (chain_of u name) (chain_of t name)

-- the chain of a name after a step
grown : (P : List ℕ → Change → Type 0) (name : List ℕ) (before : Option (List Change)) (c : Change) (chain : List Change)
    → ((old : List Change) → before ≡ Some old → IsChainOf name old) → Some chain ≡ Some (unwrap_or before [] ++ c ∷ []) → Fits P name (unwrap_or before []) c → IsChainOf name chain
grown P name None c chain sound e fits =
    subst (IsChainOf name) (sym (same_Some chain (c ∷ []) e)) (record {
      chain = one_is_chain c fits.accepted;
      each = All-push IsChange [] c (All-nil IsChange) fits.change;
      named = All-push (λ r. r.cert.name ≡ name) [] c (All-nil (λ r. r.cert.name ≡ name)) fits.named;
    })
grown P name (Some old) c chain sound e fits =
    let is : IsChainOf name old = sound old refl in
    subst (IsChainOf name) (sym (same_Some chain (old ++ c ∷ []) e)) (record {
      chain = more_is_chain old c is.chain (λ k d at. subst (λ o. IsAccepted o c) (newest_is old k d at) fits.accepted);
      each = All-push IsChange old c is.each fits.change;
      named = All-push (λ r. r.cert.name ≡ name) old c is.named fits.named;
    })

grown_holds : (P : List ℕ → Change → Type 0) (name : List ℕ) (before : Option (List Change)) (c : Change) (chain : List Change)
    → ((old : List Change) → before ≡ Some old → All (P name) old) → Some chain ≡ Some (unwrap_or before [] ++ c ∷ []) → Fits P name (unwrap_or before []) c → All (P name) chain
grown_holds P name None c chain holds e fits = subst (All (P name)) (sym (same_Some chain (c ∷ []) e)) (All-push (P name) [] c (All-nil (P name)) fits.holds)
grown_holds P name (Some old) c chain holds e fits = subst (All (P name)) (sym (same_Some chain (old ++ c ∷ []) e)) (All-push (P name) old c (holds old refl) fits.holds)

pub steps_on : (P : List ℕ → Change → Type 0) (t u : Table) → Steps P t u → IsSound t → Holds P t → Follows P t u
steps_on P t u steps sound holds = record {
  sound = record {
    chains = λ name chain e.
        ⊎_elim (λ (same : get u.chains name ≡ get t.chains name). sound.chains name chain (sym same ∙ e))
        (λ (more : (c : Change) × (get u.chains name ≡ Some (chain_of t name ++ c ∷ [])) × Fits P name (chain_of t name) c).
        grown P name (get t.chains name) more.0 chain (sound.chains name) (sym e ∙ more.1) more.2)
        (steps.chains name);
    waits = λ name p e.
        ⊎_elim (λ (stayed : Stayed t u name p). subst (λ o. Waits name (unwrap_or o []) p) (sym stayed.behind) (sound.waits name p stayed.waited))
        (λ (begun : Begun P u name p). begun.waits)
        (steps.waiting name p e);
  };
  holds = record {
    chains = λ name chain e.
        ⊎_elim (λ (same : get u.chains name ≡ get t.chains name). holds.chains name chain (sym same ∙ e))
        (λ (more : (c : Change) × (get u.chains name ≡ Some (chain_of t name ++ c ∷ [])) × Fits P name (chain_of t name) c).
        grown_holds P name (get t.chains name) more.0 chain (holds.chains name) (sym e ∙ more.1) more.2)
        (steps.chains name);
    waiting = λ name p e.
        ⊎_elim (λ (stayed : Stayed t u name p). holds.waiting name p stayed.waited)
        (λ (begun : Begun P u name p). begun.holds)
        (steps.waiting name p e);
  };
  begins = λ name.
      ⊎_elim (λ (same : get u.chains name ≡ get t.chains name). ([], ap (λ o. unwrap_or o []) same ∙ sym (append-nil (chain_of t name))))
      (λ (more : (c : Change) × (get u.chains name ≡ Some (chain_of t name ++ c ∷ [])) × Fits P name (chain_of t name) c).
      (more.0 ∷ [], ap (λ o. unwrap_or o []) more.1))
      (steps.chains name);
}

-- a table follows itself, and what follows a table that follows follows
pub follows_itself : (P : List ℕ → Change → Type 0) (t : Table) → IsSound t → Holds P t → Follows P t t
follows_itself P t sound holds = record { sound = sound; holds = holds; begins = λ name. ([], sym (append-nil (chain_of t name))) }

pub follows_on : (P : List ℕ → Change → Type 0) (t u v : Table) → Follows P t u → Follows P u v → Follows P t v
follows_on P t u v first second = record {
  sound = second.sound;
  holds = second.holds;
  begins = λ name.
      let a = first.begins name in
      let b = second.begins name in
      (a.0 ++ b.0, b.1 ∙ ap (λ xs. xs ++ b.0) a.1 ∙ append_assoc (chain_of t name) a.0 b.0);
}

-- a property that says nothing
pub unit_holds : (t : Table) → Holds (λ name c. Unit {0}) t
unit_holds t = record { chains = λ name chain there k d l. tt; waiting = λ name p there. tt }
