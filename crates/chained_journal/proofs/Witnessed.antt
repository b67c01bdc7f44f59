-- What a changed byte shows, and what a witness does.
use Rattle.std.proofs.Common.{◌≡◌, ◌⊎◌, inl, inr, ⊎_elim, ℕ, List, ◌∷◌, ◌++◌, length, take, drop, refl, sym, ◌∙◌, ap, subst, arith, length-append, take-append-drop}
use Rattle.ar_base.specs.Apart.{IsIn}
use Rattle.ar_base.specs.Prefixes.{BeginsWith}
use Rattle.chained_journal.specs.Damage.{Collide, IsChanged, strings_of}
use Rattle.chained_journal.specs.Journal.{AreShort, Stands, chained, journal, records, shut_gate, start}
use Rattle.chained_journal.specs.Refusals.{BearsOut}
use Rattle.chained_journal.specs.declared.title.Title.{Title}
use Rattle.chained_journal.specs.declared.title.Witness.{Witness}
use Rattle.chained_journal.proofs.Chains.{in-front, one_history}
use Rattle.chained_journal.proofs.Changed.{changed_records, in_back, in_front, not_itself, split}

pub changed_seen : (title : Title) (texts others : List (List ℕ)) (file : List ℕ) → AreShort texts → IsChanged (journal title texts shut_gate) file → Stands title others file
    → Collide (strings_of title texts) (strings_of title others)
changed_seen title texts others file short changed stands =
    let inside : IsChanged (title.header ++ (records (start title) texts ++ shut_gate)) (title.header ++ (records (start title) others ++ (shut_gate ++ stands.behind))) =
    subst (λ (f : List ℕ). IsChanged (journal title texts shut_gate) f) stands.is changed in
    elim (split title.header title.header (records (start title) texts ++ shut_gate) (records (start title) others ++ (shut_gate ++ stands.behind)) refl inside) [
      | in_front first same ↦ absurd (not_itself title.header title.header refl first)
      | in_back same later ↦
          let c = changed_records (start title) texts others stands.behind short stands.short later in
          record { one = c.one; other = c.other; in_ones = inr c.in_ones; in_others = inr c.in_others; apart = c.apart; same = c.same }
    ]

pub begins_witnessed : (title : Title) (witness : Witness) (texts others : List (List ℕ)) → witness.count ≡ length texts → witness.chain ≡ chained (start title) texts
    → BearsOut title witness others → BeginsWith others texts ⊎ Collide (strings_of title texts) (strings_of title others)
begins_witnessed title witness texts others counts chain borne =
    let front : List (List ℕ) = take witness.count others in
    let more : List (List ℕ) = drop witness.count others in
    let whole : front ++ more ≡ others = take-append-drop witness.count others in
    ⊎_elim
    (λ (e : texts ≡ front). inl (more, sym whole ∙ ap (λ (ts : List (List ℕ)). ts ++ more) (sym e)))
    (λ (c : Collide (strings_of title texts) (strings_of title front)). inr (wider front more others whole c))
    (one_history title texts front (sym chain ∙ sym borne.chain_is))
  where
    within : (front more : List (List ℕ)) (x : List ℕ) → IsIn (strings_of title front) x → IsIn (strings_of title (front ++ more)) x
    within front more x (inl is) = inl is
    within front more x (inr is) = inr (in-front (start title) front more x is)

    wider : (front more all : List (List ℕ)) → front ++ more ≡ all → Collide (strings_of title texts) (strings_of title front) → Collide (strings_of title texts) (strings_of title all)
    wider front more all whole c = subst (λ (ts : List (List ℕ)). Collide (strings_of title texts) (strings_of title ts)) whole
        (record { one = c.one; other = c.other; in_ones = c.in_ones; in_others = within front more c.other c.in_others; apart = c.apart; same = c.same })

pub not_older_borne : (title : Title) (witness : Witness) (front more : List (List ℕ)) (text : List ℕ) → witness.count ≡ length (front ++ text ∷ more) → ¬ BearsOut title witness front
not_older_borne title witness front more text counts borne = absurd (omega (arith, counts, borne.enough, length-append front (text ∷ more)))
