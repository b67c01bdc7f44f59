use Rattle.std.proofs.Common.{rules, ◌≡◌, ◌≢◌, ◌-◌, ◌≤◌, ◌++◌, [], ◌∷◌, List, ℕ, length, take, drop, reverse, sym, ◌∙◌, ap, subst, arith, length-drop}
use Rattle.std.proofs.lemmas.List.{take_all}
use Rattle.kept_disk.specs.Memory.{over_in, over_of, synced, undone, with_bytes}
use Rattle.kept_disk.specs.declared.past.DiskChange.{DiskChange}
use Rattle.kept_disk.specs.declared.past.DiskChange.TheVariants.{Synced}
use Rattle.kept_disk.proofs.Events.{last-fits, not-synced, split-back}
use Rattle.kept_disk.proofs.past.Past.synced.Goals as goal

pub returns-then-is_sync : goal.returns-then-is_sync
returns-then-is_sync c =
    let one : c.loop-change.changes.now ≡ c.in-Some.earlier.now ++ c.in-Some.change.now ∷ [] = search rules in
    let is : c.in-Some.change.now ≡ Synced = search rules in
    let split = split-back c.loop-change.changes.now c.in-Some.earlier.now c.in-Some.change.now c.loop-change.over.now one c.loop-change.invariant.all in
    let from = length c.loop-change.over.now - over_of c.in-Some.change.now in
    let here : synced c.loop-change.image.items (reverse (with_bytes c.loop-change.changes.now c.loop-change.over.now)) ≡ c.loop-change.image.items =
    ap (synced c.loop-change.image.items) split.1
    ∙ ap (λ (x : DiskChange). synced c.loop-change.image.items ((x, drop from c.loop-change.over.now) ∷ reverse (with_bytes c.in-Some.earlier.now (take from c.loop-change.over.now)))) is in
    sym here ∙ c.loop-change.invariant.image

pub overflow_sub-from : goal.overflow_sub-from
overflow_sub-from c =
    let one : c.loop-change.changes.now ≡ c.in-Some.earlier.now ++ c.in-Some.change.now ∷ [] = search rules in
    let fits = last-fits c.loop-change.changes.now c.in-Some.earlier.now c.in-Some.change.now c.loop-change.over.now one c.loop-change.invariant.all in
    subst (λ (n : ℕ). n ≤ length c.loop-change.over.now) (sym c.over_of.ensures) fits

pub loop-change-preserved : goal.loop-change-preserved
loop-change-preserved c =
    let one : c.loop-change.changes.now ≡ c.in-Some.earlier.now ++ c.in-Some.change.now ∷ [] = search rules in
    let other : c.in-Some.change.now ≢ Synced = search rules in
    let split = split-back c.loop-change.changes.now c.in-Some.earlier.now c.in-Some.change.now c.loop-change.over.now one c.loop-change.invariant.all in
    let n : c.over_of.result ≡ over_of c.in-Some.change.now = c.over_of.ensures in
    let from = length c.loop-change.over.now - c.over_of.result in
    let part : take (length c.loop-change.over.now - from) (drop from c.loop-change.over.now) ≡ drop from c.loop-change.over.now =
    take_all _ _ (omega (arith, length-drop from c.loop-change.over.now)) in
    let old : c.in_ok-image-2.image.items ≡ undone c.loop-change.image.items (c.in-Some.change.now, drop from c.loop-change.over.now) =
    c.in_ok-image-2.ensures ∙ ap (λ (f : List ℕ). undone f (c.in-Some.change.now, take (length c.loop-change.over.now - from) (drop from c.loop-change.over.now))) c.deref.ensures.value
    ∙ ap (λ (l : List ℕ). undone c.loop-change.image.items (c.in-Some.change.now, l)) part in
    let all : over_in c.in-Some.earlier.now ≡ length (take from c.loop-change.over.now) =
    subst (λ (k : ℕ). over_in c.in-Some.earlier.now ≡ length (take (length c.loop-change.over.now - k) c.loop-change.over.now)) (sym n) split.0 in
    let events : reverse (with_bytes c.loop-change.changes.now c.loop-change.over.now)
    ≡ (c.in-Some.change.now, drop from c.loop-change.over.now) ∷ reverse (with_bytes c.in-Some.earlier.now (take from c.loop-change.over.now)) =
    subst (λ (k : ℕ). reverse (with_bytes c.loop-change.changes.now c.loop-change.over.now)
    ≡ (c.in-Some.change.now, drop (length c.loop-change.over.now - k) c.loop-change.over.now)
    ∷ reverse (with_bytes c.in-Some.earlier.now (take (length c.loop-change.over.now - k) c.loop-change.over.now))) (sym n) split.1 in
    let es = reverse (with_bytes c.in-Some.earlier.now (take from c.loop-change.over.now)) in
    record {
      all = all;
      image = ap (λ (f : List ℕ). synced f es) old
          ∙ sym (not-synced c.loop-change.image.items c.in-Some.change.now (drop from c.loop-change.over.now) es other)
          ∙ ap (synced c.loop-change.image.items) (sym events) ∙ c.loop-change.invariant.image;
    }
