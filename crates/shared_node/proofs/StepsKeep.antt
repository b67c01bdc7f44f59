-- Each kind of step keeps the rule of a node.
use Rattle.std.proofs.Common.{◌≡◌, ℕ, ◌+◌, ◌%◌, ◌^◌, ◌<◌, ◌==◌, true, false, Option, Some, None, List, [], ◌∷◌, ◌++◌, map, set, length, slice_index, slice_set, ⊎_elim, ap, sym, refl, subst, ◌∙◌, length-append, arith}
use Rattle.std.proofs.Math.Nat.{mod-eq_of_lt}
use Rattle.std.proofs.lemmas.Bool.{eq-eqb, ne_eqb}
use mathlib.Core.Option.{some, none, some-ne-none}
use mathlib.Core.Option as home
use mathlib.Core.Logic.{dite}
use native.Mathlib.Decide.{dec_lt, ℕ_discrete}
use prog.Atomic.{either}
use lib.ListN.{get_elem?}
use Rattle.ar_seats.specs.Shares.{whole}
use Rattle.ar_base.specs.Counting.{one_if}
use Rattle.ar_seats.specs.Numbers.{HasEachBelow, times, once_below}
use Rattle.ar_base.specs.Prefixes.{BeginsWith}
use Rattle.ar_seats.proofs.TotalsLemmas.{one-le-total}
use Rattle.ar_seats.proofs.NumbersLemmas.{times-append, once_below-suc, once_below-le}
use Rattle.ar_seats.proofs.RisingLemmas.{rising_snoc}
use Rattle.ar_base.proofs.Prefixes.{begins_itself, begins_on}
use Rattle.atomic_table.proofs.Lists.{at_snoc}
use Rattle.atomic_table.specs.Table.{Allows, Final, Seen, opening}
use Rattle.atomic_table.specs.Table.Act.{keeps, takes, gives}
use Rattle.node_core.specs.History.{IsLegal, Replays, state_after}
use Rattle.shared_node.specs.Rule.{Fits, IsHome, Keeps, IsKept}
use Rattle.shared_node.specs.Steps.{Mine, Looks, Compares, Counts, LeavesSeat, Enters, first_view}
use Rattle.shared_node.specs.declared.held.Held.{Held}
use Rattle.shared_node.specs.declared.node.Node.{Node}
use Rattle.shared_node.proofs.Keeping.{keeps_changed, other_is_free, whole_has_each, whole_is_home}

single_set : {A : Type 0} (hs : List A) (x : A) → length hs ≡ 1 → set hs 0 x ≡ x ∷ []
single_set [] x one = absurd (omega arith)
single_set (h ∷ []) x one = refl
single_set (h ∷ (k ∷ ks)) x one = absurd (omega arith)

module _ {C S I N R : Type 0} (state : C → S) (next : S → I → N → R × S) (legal : S → I → N → Type 0) (first : S) where
  -- a core that is home is the one after the history
  home_replays : (history : List (I × N)) (slots : List (home.Option (Option (Node C I N)))) (is_home : IsHome state next legal first history slots) → IsLegal next legal first history
      → Replays next legal first is_home.node.history.items (state is_home.node.core)
  home_replays history slots is_home legally =
      let now : Replays next legal first history (state is_home.node.core) = record { legally = legally; state = is_home.state_is } in
      subst (λ h. Replays next legal first h (state is_home.node.core)) (sym is_home.history_is) now

  -- a step that sees the length
  pub look_keeps : (slots id : ℕ) (me : Mine C S I N) → Allows (IsKept state next legal first) slots id me 0 (λ n. n) (Looks me)
  look_keeps slots id me s kept homes at small =
      let history : List (I × N) = kept.0 in
      let fits : Fits first history me.0 = kept.3.fits id me.0 at in
      let w : Held S I N = record me.0 { seen = history } in
      let fits' : Fits first history w = record {
        node = fits.node;
        seen = begins_itself history;
        shorter = begins_on me.0.shorter me.0.seen history fits.seen fits.shorter;
        rising = fits.rising;
        holding = λ holds. refl;
        idle = fits.idle;
      } in (
        w,
        keeps,
        tt,
        (
          history,
          kept.1,
          ap (λ (ws : List ℕ). slice_set ws 0 (slice_index ws 0)) kept.2,
          keeps_changed state next legal first history history kept.1 kept.1 s.homes s.homes s.views id me.0 w kept.3 at kept.3.legally (begins_itself history)
              (λ j u apart there. (kept.3.fits j u there).holding) refl fits' (λ place. refl) refl kept.3.one kept.3.slot kept.3.home,
        ),
        record { length_is = sym (ap (λ (ws : List ℕ). slice_index ws 0) kept.2); later = fits.seen; seat = refl; slots = refl },
      )

  -- a view that stays
  stays : (history : List (I × N)) (holders : ℕ) (slots : List (home.Option (Option (Node C I N)))) (seats : List (Held S I N)) (i : ℕ) (v : Held S I N)
      → Keeps state next legal first history holders slots seats → get_elem? seats i ≡ some v → Keeps state next legal first history holders slots (set seats i v)
  stays history holders slots seats i v kept at =
      keeps_changed state next legal first history history holders holders slots slots seats i v v kept at kept.legally (begins_itself history)
      (λ j u apart there. (kept.fits j u there).holding) refl (kept.fits i v at) (λ place. refl) refl kept.one kept.slot kept.home

  -- a step that compares, and leaves the view
  pub compare_keeps : (slots id : ℕ) (me : Mine C S I N) → Allows (IsKept state next legal first) slots id me 0 (λ n. n) (Compares me)
  compare_keeps slots id me s kept homes at small = (
    me.0,
    keeps,
    tt,
    (kept.0, kept.1, ap (λ (ws : List ℕ). slice_set ws 0 (slice_index ws 0)) kept.2, stays kept.0 kept.1 s.homes s.views id me.0 kept.3 at),
    record {
      same = refl;
      share = let one = one-le-total (λ (seat : Held S I N). seat.share) s.views id me.0 at in let all = kept.3.shares in omega arith;
      rising = (kept.3.fits id me.0 at).rising;
      both = (kept.3.fits id me.0 at).shorter;
    },
  )

  -- an exchange that takes the core out where it is home
  pub enter_keeps : (slots id : ℕ) (me : Mine C S I N) → me.0.holds ≡ false → 0 < me.0.share → me.0.first ≡ Some first
      → Allows (IsKept state next legal first) slots id me 1 (λ n. either (n == 0) 1 n) (Enters state next legal me)
  enter_keeps slots id me free some_share node_is s kept homes at small =
      let history : List (I × N) = kept.0 in
      let n : ℕ = slice_index s.words 1 in
      let holders_is : n ≡ kept.1 = ap (λ (ws : List ℕ). slice_index ws 1) kept.2 in
      let fits : Fits first history me.0 = kept.3.fits id me.0 at in
      dite (ℕ_discrete n 0)
      (λ (nobody : n ≡ 0).
      let hit : (n == 0) ≡ true = eq-eqb n 0 nobody in
      let is_home : IsHome state next legal first history s.homes = kept.3.home (sym holders_is ∙ nobody) in
      let node : Node C I N = is_home.node in
      let w : Held S I N = record me.0 { seen = node.history.items; holds = true } in
      let fits' : Fits first history w = record {
        node = fits.node;
        seen = subst (λ h. BeginsWith history h) (sym is_home.history_is) (begins_itself history);
        shorter = subst (λ h. BeginsWith h me.0.shorter) (sym is_home.history_is) (begins_on me.0.shorter me.0.seen history fits.seen fits.shorter);
        rising = fits.rising;
        holding = λ holds. is_home.history_is;
        idle = λ none. absurd (omega arith);
      } in
      let out : set s.homes 0 none ≡ none ∷ [] = single_set s.homes none kept.3.slot in (
        w,
        takes 0 (Some node),
        ap (λ (hs : List (home.Option (Option (Node C I N)))). get_elem? hs 0) is_home.there,
        (
          history,
          1,
          rw hit (ap (λ (ws : List ℕ). slice_set ws 1 1) kept.2),
          keeps_changed state next legal first history history kept.1 1 s.homes (set s.homes 0 none) s.views id me.0 w kept.3 at kept.3.legally (begins_itself history)
              (λ j u apart there. (kept.3.fits j u there).holding) refl fits' (λ place. refl)
              (let none_held = ap one_if free in omega arith)
              (omega arith)
              (ap length out)
              (λ none. absurd (omega arith)),
        ),
        record {
          taken = λ zero. record {
            node = node;
            later = subst (λ h. BeginsWith h me.0.seen) (sym is_home.history_is) fits.seen;
            replays = λ other same.
                let first_is : other ≡ first = cc in
                subst (λ f. Replays next legal f node.history.items (state node.core)) (sym first_is) (home_replays history s.homes is_home kept.3.legally);
            after_is = refl;
          };
          none = λ other. absurd (other nobody);
        },
      ))
      (λ somebody.
      let miss : (n == 0) ≡ false = ne_eqb n 0 somebody in (
        me.0,
        keeps,
        tt,
        (
          history,
          kept.1,
          rw miss (ap (λ (ws : List ℕ). slice_set ws 1 (slice_index ws 1)) kept.2),
          stays history kept.1 s.homes s.views id me.0 kept.3 at,
        ),
        record { taken = λ zero. absurd (somebody zero); none = λ other. refl },
      ))

  -- the seat that has the core is one of the holders
  holds_one : (history : List (I × N)) (holders : ℕ) (slots : List (home.Option (Option (Node C I N)))) (seats : List (Held S I N)) (i : ℕ) (v : Held S I N)
      → Keeps state next legal first history holders slots seats → get_elem? seats i ≡ some v → v.holds ≡ true → holders ≡ 1
  holds_one history holders slots seats i v kept at holds =
      let some_held = one-le-total (λ (seat : Held S I N). one_if seat.holds) seats i v at in
      let this = ap one_if holds in
      let all = kept.held in
      let most = kept.one in
      omega arith

  -- an addition by the seat that has the core, with one more call beside it
  pub count_keeps : (slots id : ℕ) (v : Held S I N) (node : Node C I N) (call : I × N) → v.holds ≡ true → 0 < v.share → node.history.items ≡ v.seen ++ call ∷ []
      → IsLegal next legal first node.history.items → length node.history.items < 2 ^ 64
      → Allows (IsKept state next legal first) slots id (v, (0, Some node) ∷ []) 0 (λ n. (n + 1) % 2 ^ 64) (Counts (v, (0, Some node) ∷ []))
  count_keeps slots id v node call holds some_share more legally fit s kept homes at small =
      let history : List (I × N) = kept.0 in
      let after : List (I × N) = node.history.items in
      let n : ℕ = slice_index s.words 0 in
      let n_is : n ≡ length history = ap (λ (ws : List ℕ). slice_index ws 0) kept.2 in
      let fits : Fits first history v = kept.3.fits id v at in
      let seen_is : v.seen ≡ history = fits.holding holds in
      let on : after ≡ history ++ call ∷ [] = more ∙ ap (λ h. h ++ call ∷ []) seen_is in
      let len : length after ≡ length history + 1 = omega (arith, ap length on, length-append history (call ∷ [])) in
      let next_is : (n + 1) % 2 ^ 64 ≡ length after = mod-eq_of_lt (omega arith) ∙ (omega arith) in
      let w : Held S I N = record v { seen = after; own = v.own ++ n ∷ [] } in
      let fits' : Fits first after w = record {
        node = fits.node;
        seen = begins_itself after;
        shorter = begins_on v.shorter v.seen after (call ∷ [], more) fits.shorter;
        rising = rising_snoc n v.own fits.rising (λ x stands.
            let all = one-le-total (λ (seat : Held S I N). times x seat.own) s.views id v at in
            let placed = kept.3.once x in
            dite (dec_lt x n) (λ below. below) (λ above. absurd (omega (arith, once_below-le (length history) x (omega arith)))));
        holding = λ held. refl;
        idle = λ none. absurd (omega arith);
      } in (
        w,
        keeps,
        tt,
        (
          after,
          kept.1,
          ap (λ (ws : List ℕ). slice_set ws 0 ((n + 1) % 2 ^ 64)) kept.2 ∙ ap (λ (k : ℕ). k ∷ (kept.1 ∷ [])) next_is,
          keeps_changed state next legal first history after kept.1 kept.1 s.homes s.homes s.views id v w kept.3 at legally (call ∷ [], on)
              (λ j u apart there too. absurd (other_is_free state next legal first history kept.1 s.homes s.views id j v u kept.3 at holds apart there too))
              refl fits'
              (λ place. omega (arith, times-append place v.own (n ∷ []), once_below-suc (length history) place, ap (λ (k : ℕ). once_below k place) len, ap (λ (k : ℕ). times place (k ∷ [])) n_is))
              refl kept.3.one kept.3.slot
              (λ nobody. let one = holds_one history kept.1 s.homes s.views id v kept.3 at holds in absurd (omega arith)),
        ),
        record { found_is = n_is ∙ ap length (sym seen_is); after_is = refl },
      )

  -- a store by which the seat that has the core gives it back
  pub leave_keeps : (slots id : ℕ) (v : Held S I N) (node : Node C I N) → v.holds ≡ true → 0 < v.share → node.history.items ≡ v.seen
      → Replays next legal first node.history.items (state node.core)
      → Allows (IsKept state next legal first) slots id (v, (0, Some node) ∷ []) 1 (λ n. 0) (λ n. LeavesSeat (v, (0, Some node) ∷ []) 0)
  leave_keeps slots id v node holds some_share seen_it replays s kept homes at small =
      let history : List (I × N) = kept.0 in
      let fits : Fits first history v = kept.3.fits id v at in
      let all_is : node.history.items ≡ history = seen_it ∙ fits.holding holds in
      let w : Held S I N = record v { holds = false } in
      let fits' : Fits first history w = record {
        node = fits.node;
        seen = fits.seen;
        shorter = fits.shorter;
        rising = fits.rising;
        holding = λ held. cc;
        idle = λ none. absurd (omega arith);
      } in
      let back : home.Option (Option (Node C I N)) = some (Some node) in
      let is_home : IsHome state next legal first history (set s.homes 0 back) = record {
        node = node;
        there = single_set s.homes back kept.3.slot;
        history_is = all_is;
        state_is = subst (λ h. state_after next first h ≡ state node.core) all_is replays.state;
      } in
      let one = holds_one history kept.1 s.homes s.views id v kept.3 at holds in (
        w,
        gives,
        tt,
        (
          history,
          0,
          ap (λ (ws : List ℕ). slice_set ws 1 0) kept.2,
          keeps_changed state next legal first history history kept.1 0 s.homes (set s.homes 0 back) s.views id v w kept.3 at kept.3.legally (begins_itself history)
              (λ j u apart there. (kept.3.fits j u there).holding) refl fits' (λ place. refl)
              (let held = ap one_if holds in omega arith)
              (omega arith)
              (ap length (single_set s.homes back kept.3.slot))
              (λ nobody. is_home),
        ),
        refl,
      )

  -- what a seat with all shares finds at the end
  pub closed : (id : ℕ) (v : Held S I N) (words : List ℕ) (slots : List (Option (Node C I N))) → Final (Seen (IsKept state next legal first) id v) words slots → v.share ≡ whole → v.holds ≡ false
      → (node : Node C I N) × (get_elem? slots 0 ≡ some (Some node)) × Replays next legal first node.history.items (state node.core)
      × BeginsWith node.history.items v.seen × HasEachBelow (length node.history.items) v.own
  closed id v words slots final all free =
      let s = final.0 in
      let kept : IsKept state next legal first s = final.1.0 in
      let at = final.1.1 in
      let is_home = whole_is_home state next legal first kept.0 kept.1 s.homes s.views id v kept.3 at all free in (
        is_home.node,
        final.4 0 (Some is_home.node) (ap (λ (hs : List (home.Option (Option (Node C I N)))). get_elem? hs 0) is_home.there),
        home_replays kept.0 s.homes is_home kept.3.legally,
        subst (λ h. BeginsWith h v.seen) (sym is_home.history_is) (kept.3.fits id v at).seen,
        subst (λ h. HasEachBelow (length h) v.own) (sym is_home.history_is) (whole_has_each state next legal first kept.0 kept.1 s.homes s.views id v kept.3 at all),
      )

  -- the same of the core that is found in the slot
  pub closed_with : (id : ℕ) (v : Held S I N) (words : List ℕ) (slots : List (Option (Node C I N))) (found : Node C I N) → Final (Seen (IsKept state next legal first) id v) words slots → v.share ≡ whole → v.holds ≡ false
      → get_elem? slots 0 ≡ some (Some found)
      → Replays next legal first found.history.items (state found.core) × BeginsWith found.history.items v.seen × HasEachBelow (length found.history.items) v.own
  closed_with id v words slots found final all free at =
      let last = closed id v words slots final all free in
      let there = last.1 in
      let same : last.0 ≡ found = cc in
      subst (λ (node : Node C I N). Replays next legal first node.history.items (state node.core) × BeginsWith node.history.items v.seen × HasEachBelow (length node.history.items) v.own)
      same (last.2, last.3, last.4)

  -- and one is found there
  pub closed_has_core : (id : ℕ) (v : Held S I N) (words : List ℕ) (slots : List (Option (Node C I N))) → Final (Seen (IsKept state next legal first) id v) words slots → v.share ≡ whole → v.holds ≡ false
      → get_elem? slots 0 ≡ some None → ⊥
  closed_has_core id v words slots final all free at =
      let there = (closed id v words slots final all free).1 in
      cc

  -- a table with a core that answered nothing yet
  pub opens : (slots : List (Option (Node C I N))) (node : Node C I N) → slots ≡ Some node ∷ [] → node.history.items ≡ [] → first ≡ state node.core
      → IsKept state next legal first (opening (0 ∷ (0 ∷ [])) slots (first_view first))
  opens slots node slot empty first_is =
      let view : Held S I N = first_view first in
      let view_fits : Fits first [] view = record {
        node = λ some_share. refl;
        seen = ([], refl);
        shorter = ([], refl);
        rising = tt;
        holding = λ holds. cc;
        idle = λ none. absurd (omega arith);
      } in (
        [],
        0,
        refl,
        record {
          legally = tt;
          shares = omega arith;
          fits = λ place seat at. ⊎_elim
              (λ nowhere. absurd (some-ne-none seat (sym nowhere)))
              (λ (same : view ≡ seat). subst (Fits first []) same view_fits)
              (at_snoc [] view seat place at);
          once = λ place. omega (arith, once_below-le 0 place (omega arith));
          held = omega arith;
          one = omega arith;
          slot = ap (λ (xs : List (Option (Node C I N))). length (map some xs)) slot;
          home = λ nobody. record {
            node = node;
            there = ap (λ (xs : List (Option (Node C I N))). map some xs) slot;
            history_is = empty;
            state_is = first_is;
          };
        },
      )
