-- The events of a disk in memory: one more, and what a crash might have left before it.
use Rattle.std.proofs.Common.{◌≡◌, ◌≢◌, inl, inr, ⊎_elim, ℕ, ◌+◌, ◌-◌, ◌≤◌, List, [], ◌∷◌, ◌++◌, length, take, drop, reverse, refl, sym, ◌∙◌, ap, subst, arith, length-append, length-drop, take-append-drop}
use Rattle.std.proofs.lemmas.List.{reverse-append, take_all, take-append-le, drop-append-le}
use Rattle.kept_disk.specs.Memory.{Event, LeftSince, MayLeave, over_in, over_of, synced, undone, with_bytes}
use Rattle.kept_disk.specs.Moments.{Elapses}
use Rattle.kept_disk.specs.Past.{PastState}
use Rattle.kept_disk.specs.declared.past.DiskChange.{DiskChange}
use Rattle.kept_disk.specs.declared.past.DiskChange.TheVariants as changes

pub over_in-push : (cs : List DiskChange) (c : DiskChange) → over_in (cs ++ c ∷ []) ≡ over_in cs + over_of c
over_in-push [] c = omega arith
over_in-push (x ∷ cs) c = omega (arith, over_in-push cs c)

-- one change more, with its bytes behind those of the others
with_bytes-push : (cs : List DiskChange) (bytes : List ℕ) (c : DiskChange) (b : List ℕ) → over_in cs ≡ length bytes → over_of c ≡ length b
    → with_bytes (cs ++ c ∷ []) (bytes ++ b) ≡ with_bytes cs bytes ++ (c, b) ∷ []
with_bytes-push [] [] c b all own = ap (λ (l : List ℕ). (c, l) ∷ []) (take_all (over_of c) b (omega (arith, own)))
with_bytes-push [] (x ∷ bytes) c b all own = absurd (omega (arith, all))
with_bytes-push (d ∷ cs) bytes c b all own =
    let front : take (over_of d) (bytes ++ b) ≡ take (over_of d) bytes = take-append-le (over_of d) bytes b (omega (arith, all)) in
    let back : drop (over_of d) (bytes ++ b) ≡ drop (over_of d) bytes ++ b = drop-append-le (over_of d) bytes b (omega (arith, all)) in
    ap (λ (l : List ℕ). (d, l) ∷ with_bytes (cs ++ c ∷ []) (drop (over_of d) (bytes ++ b))) front
    ∙ ap (λ (l : List ℕ). (d, take (over_of d) bytes) ∷ with_bytes (cs ++ c ∷ []) l) back
    ∙ ap (λ (l : List Event). (d, take (over_of d) bytes) ∷ l)
    (with_bytes-push cs (drop (over_of d) bytes) c b (omega (arith, all, length-drop (over_of d) bytes)) own)

-- it is the newest
pub newest : (cs : List DiskChange) (bytes : List ℕ) (c : DiskChange) (b : List ℕ) → over_in cs ≡ length bytes → over_of c ≡ length b
    → reverse (with_bytes (cs ++ c ∷ []) (bytes ++ b)) ≡ (c, b) ∷ reverse (with_bytes cs bytes)
newest cs bytes c b all own = ap reverse (with_bytes-push cs bytes c b all own) ∙ reverse-append (with_bytes cs bytes) ((c, b) ∷ [])

-- one event more: what a crash might have left is what it might have left before, or what it may leave now
pub elapses-event : (old new : List ℕ) (es : List Event) (e : Event) → undone new e ≡ old
    → Elapses (length es) (length (e ∷ es)) (LeftSince old es) (LeftSince new (e ∷ es)) (MayLeave new (e ∷ es))
elapses-event old new es e is = record {
  later = omega arith;
  nothing_else = λ t c le left. ⊎_elim (λ now. inr now) (λ before. inl (subst (λ (f : List ℕ). LeftSince f es t c) is before.1)) left;
  keeps = λ t c le past. inr (le, subst (λ (f : List ℕ). LeftSince f es t c) (sym is) past);
}

-- no event: nothing changes
pub elapses-look : (file : List ℕ) (es : List Event) → Elapses (length es) (length es) (LeftSince file es) (LeftSince file es) (MayLeave file es)
elapses-look file es = record { later = omega arith; nothing_else = λ t c le left. inl left; keeps = λ t c le past. past }

-- the events behind one more change, and that they still stand over all bytes
pub grown : (cs later : List DiskChange) (over more : List ℕ) (c : DiskChange) (b : List ℕ) → later ≡ cs ++ c ∷ [] → more ≡ over ++ b
    → over_in cs ≡ length over → over_of c ≡ length b
    → (over_in later ≡ length more) × (reverse (with_bytes later more) ≡ (c, b) ∷ reverse (with_bytes cs over))
grown cs later over more c b one next all own = (
  ap over_in one ∙ over_in-push cs c ∙ omega (arith, all, own, length-append over b) ∙ ap length (sym next),
  ap (λ (l : List DiskChange). reverse (with_bytes l more)) one ∙ ap (λ (l : List ℕ). reverse (with_bytes (cs ++ c ∷ []) l)) next ∙ newest cs over c b all own,
)

-- what contracts see behind one more event
pub pushed : (old : PastState) (es events : List Event) (e : Event) (room changes n : ℕ) → ◌≡◌ {A = PastState} old (record { events = es; room = room; changes = changes })
    → events ≡ e ∷ es
    → ◌≡◌ {A = PastState} (record { events = events; room = room - n; changes = changes - 1 }) (record { events = e ∷ old.events; room = old.room - n; changes = old.changes - 1 })
pushed old es events e room changes n is one = rw (is, one) refl

-- the change that undoes itself by these bytes, and what stands before it
pub one-back : (cs earlier : List DiskChange) (over front back : List ℕ) (c : DiskChange) → cs ≡ earlier ++ c ∷ [] → over ≡ front ++ back
    → over_in cs ≡ length over → over_of c ≡ length back
    → (over_in earlier ≡ length front) × (reverse (with_bytes cs over) ≡ (c, back) ∷ reverse (with_bytes earlier front))
one-back cs earlier over front back c one next all own =
    let before : over_in earlier ≡ length front =
    omega (arith, sym (ap over_in one) ∙ all, over_in-push earlier c, ap length next, length-append front back, own) in
    (before, (grown earlier cs front over c back one next before own).1)

-- the newest has its bytes at the end
pub last-fits : (cs earlier : List DiskChange) (c : DiskChange) (over : List ℕ) → cs ≡ earlier ++ c ∷ [] → over_in cs ≡ length over → over_of c ≤ length over
last-fits cs earlier c over one all = omega (arith, sym (ap over_in one) ∙ all, over_in-push earlier c)

-- the events behind the last change of these, and the bytes that are left to undo them
pub split-back : (cs earlier : List DiskChange) (c : DiskChange) (over : List ℕ) → cs ≡ earlier ++ c ∷ [] → over_in cs ≡ length over
    → (over_in earlier ≡ length (take (length over - over_of c) over))
    × (reverse (with_bytes cs over) ≡ (c, drop (length over - over_of c) over) ∷ reverse (with_bytes earlier (take (length over - over_of c) over)))
split-back cs earlier c over one all =
    let fits = last-fits cs earlier c over one all in
    one-back cs earlier over (take (length over - over_of c) over) (drop (length over - over_of c) over) c one
    (sym (take-append-drop (length over - over_of c) over)) all (omega (arith, fits, length-drop (length over - over_of c) over))

-- what was kept is found behind any event that is no sync
pub not-synced : (file : List ℕ) (c : DiskChange) (bytes : List ℕ) (es : List Event) → c ≢ changes.Synced → synced file ((c, bytes) ∷ es) ≡ synced (undone file (c, bytes)) es
not-synced file (changes.Wrote at count over) bytes es other = refl
not-synced file (changes.Cut taken) bytes es other = refl
not-synced file changes.Synced bytes es other = absurd (other refl)
