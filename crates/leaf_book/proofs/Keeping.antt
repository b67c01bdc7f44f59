-- Each kind of step keeps the rule of a book.
use Rattle.std.proofs.Common.{◌≡◌, ◌≢◌, ℕ, ◌+◌, ◌%◌, ◌^◌, ◌<◌, ◌≤◌, ◌⊎◌, inl, inr, ⊎_elim, min, List, [], ◌∷◌, ◌++◌, set, slice_index, slice_set, Contains, ap, sym, refl, subst, ◌∙◌, arith}
use Rattle.std.proofs.lemmas.Bool.{lt-ltb, le-ltb}
use Rattle.std.proofs.Math.Nat.{mod-eq_of_lt}
use mathlib.Core.Option.{some, some-injective}
use mathlib.Core.Logic.{dite}
use native.Mathlib.Decide.{dec_lt}
use lib.ListN.{get_elem?}
use Rattle.ar_seats.specs.Shares.{whole}
use Rattle.ar_seats.specs.Numbers.{times, once_below, HasEachBelow}
use Rattle.ar_seats.proofs.TotalsLemmas.{total-set, total_split, total_join, total_le, one-le-total, two-le-total, one_of_total, total_owner}
use Rattle.ar_seats.proofs.NumbersLemmas.{times-append, once_below-lt, once_below-le, once_below-suc, once_below-le-1, times_of_place, place_of_times}
use Rattle.atomic_table.specs.Table.{State, Me, Allows, Splits, Joins, Final, Seen}
use Rattle.atomic_table.specs.Table.Act.{keeps}
use Rattle.atomic_table.proofs.Lists.{at_set, at_snoc}
use Rattle.leaf_book.specs.Book.{AreApart}
use Rattle.leaf_book.specs.Rule.{Fits, Keeps, IsKept}
use Rattle.leaf_book.specs.Steps.{looks, draws, compares, after_draw, left_view, given_view, joined_view, spent_view}
use Rattle.leaf_book.specs.declared.held.Held.{Held}

-- what fits a word fits a later one
fits_later : (leaves word after : ℕ) (seat : Held) → word ≤ after → Fits leaves word seat → Fits leaves after seat
fits_later leaves word after seat le fits = record {
  book = fits.book;
  seen = let before = fits.seen in omega arith;
  over = fits.over;
  spent = fits.spent;
  idle = fits.idle;
}

-- one view changes with the word
pub keeps_changed : (leaves word after : ℕ) (seats : List Held) (i : ℕ) (v w : Held)
    → Keeps leaves word seats → get_elem? seats i ≡ some v → word ≤ after → w.share ≡ v.share → Fits leaves after w
    → ((leaf : ℕ) → times leaf w.drawn + once_below (min word leaves) leaf ≡ times leaf v.drawn + once_below (min after leaves) leaf)
    → ((after ≤ leaves) ⊎ (after + v.over ≤ word + w.over))
    → Keeps leaves after (set seats i w)
keeps_changed leaves word after seats i v w kept at le share fits drawn bound = record {
  few = kept.few;
  shares = omega (arith, kept.shares, total-set (λ (s : Held). s.share) seats i v w at);
  fits = λ j u there. ⊎_elim
      (λ (here : (j ≡ i) × (w ≡ u)). subst (λ s. Fits leaves after s) here.1 fits)
      (λ (else : (j ≢ i) × (get_elem? seats j ≡ some u)). fits_later leaves word after u le (kept.fits j u else.1))
      (at_set seats i j w u there);
  once = λ leaf. omega (arith, kept.once leaf, drawn leaf, total-set (λ (s : Held). times leaf s.drawn) seats i v w at);
  bound = ⊎_elim
      (λ (few : after ≤ leaves). omega arith)
      (λ (more : after + v.over ≤ word + w.over). omega (arith, kept.bound, total-set (λ (s : Held). s.over) seats i v w at))
      bound;
}

-- the number in the one word
word_is : (leaves : ℕ) (s : State (Unit {0}) Held) (kept : IsKept leaves s) → slice_index s.words 0 ≡ kept.0
word_is leaves s kept = ap (λ (ws : List ℕ). slice_index ws 0) kept.1

keeps_here : (leaves : ℕ) (s : State (Unit {0}) Held) → IsKept leaves s → Keeps leaves (slice_index s.words 0) s.views
keeps_here leaves s kept = subst (λ n. Keeps leaves n s.views) (sym (word_is leaves s kept)) kept.2

-- the word stays far from its end
pub word_small : (leaves word : ℕ) (seats : List Held) → Keeps leaves word seats → word < 2 ^ 33
word_small leaves word seats kept =
    let over = total_le (λ (s : Held). s.share) (λ (s : Held). s.over) seats (λ i v at. (kept.fits i v at).over) in
    omega (arith, kept.bound, kept.few, kept.shares)

-- a step that sees the word and changes nothing
pub look_keeps : (leaves slots id : ℕ) (me : Me (Unit {0}) Held) → Allows (IsKept leaves) slots id me 0 (λ n. n) (looks me)
look_keeps leaves slots id me s kept homes at small =
    let n : ℕ = slice_index s.words 0 in
    let here : Keeps leaves n s.views = keeps_here leaves s kept in
    let fits : Fits leaves n me.0 = here.fits id me.0 at in
    let w : Held = record me.0 { seen = n } in
    let fits' : Fits leaves n w = record {
      book = fits.book;
      seen = omega arith;
      over = fits.over;
      spent = λ over. let past : leaves ≤ me.0.seen = fits.spent over in let seen = fits.seen in omega arith;
      idle = fits.idle;
    } in (
      w,
      keeps,
      tt,
      (n, ap (λ (ws : List ℕ). slice_set ws 0 n) kept.1, keeps_changed leaves n n s.views id me.0 w here at (omega arith) refl fits' (λ leaf. refl) (inr (omega arith))),
      (fits.seen, refl),
    )

after_below : (v : Held) (n : ℕ) → n < v.leaves → after_draw v n ≡ record v { drawn = v.drawn ++ n ∷ []; seen = n + 1 }
after_below v n below = rw (lt-ltb n v.leaves below)

after_past : (v : Held) (n : ℕ) → v.leaves ≤ n → after_draw v n ≡ record v { over = v.over + 1; seen = n }
after_past v n past = rw (le-ltb n v.leaves past)

-- an addition by a seat that saw a leaf left
pub draw_keeps : (leaves slots id : ℕ) (me : Me (Unit {0}) Held)
    → 0 < me.0.share → me.0.leaves ≡ leaves → me.0.seen < leaves
    → Allows (IsKept leaves) slots id me 0 (λ n. (n + 1) % 2 ^ 64) (draws me)
draw_keeps leaves slots id me some_share book left s kept homes at small =
    let v : Held = me.0 in
    let n : ℕ = slice_index s.words 0 in
    let here : Keeps leaves n s.views = keeps_here leaves s kept in
    let fits : Fits leaves n v = here.fits id v at in
    let below : n < 2 ^ 33 = word_small leaves n s.views here in
    let next : (n + 1) % 2 ^ 64 ≡ n + 1 = mod-eq_of_lt (omega arith) in
    let words : slice_set s.words 0 ((n + 1) % 2 ^ 64) ≡ (n + 1) ∷ [] = ap (λ (ws : List ℕ). slice_set ws 0 ((n + 1) % 2 ^ 64)) kept.1 ∙ ap (λ (k : ℕ). k ∷ []) next in
    let none_over : v.over ≡ 0 = dite (dec_lt 0 v.over) (λ some_over. let past = fits.spent some_over in absurd (omega arith)) (λ none. omega arith) in
    dite (dec_lt n leaves)
    (λ (leaf_left : n < leaves).
    let w : Held = record v { drawn = v.drawn ++ n ∷ []; seen = n + 1 } in
    let fits' : Fits leaves (n + 1) w = record {
      book = fits.book;
      seen = omega arith;
      over = fits.over;
      spent = λ over. omega arith;
      idle = λ idle. absurd (omega arith);
    } in
    let before : min n leaves ≡ n = omega arith in
    let behind : min (n + 1) leaves ≡ n + 1 = omega arith in (
      w,
      keeps,
      tt,
      (
        n + 1,
        words,
        keeps_changed leaves n (n + 1) s.views id v w here at (omega arith) refl fits'
            (λ leaf. rw (before, behind) (omega (arith, times-append leaf v.drawn (n ∷ []), once_below-suc n leaf)))
            (inl (omega arith)),
      ),
      (fits.seen, ap (λ (u : Held). (u, me.1)) (sym (after_below v n (omega arith)))),
    ))
    (λ gone.
    let past : leaves ≤ n = omega arith in
    let w : Held = record v { over = v.over + 1; seen = n } in
    let fits' : Fits leaves (n + 1) w = record {
      book = fits.book;
      seen = omega arith;
      over = omega arith;
      spent = λ over. past;
      idle = fits.idle;
    } in
    let before : min n leaves ≡ leaves = omega arith in
    let behind : min (n + 1) leaves ≡ leaves = omega arith in (
      w,
      keeps,
      tt,
      (
        n + 1,
        words,
        keeps_changed leaves n (n + 1) s.views id v w here at (omega arith) refl fits'
            (λ leaf. rw (before, behind) refl)
            (inr (omega arith)),
      ),
      (fits.seen, ap (λ (u : Held). (u, me.1)) (sym (after_past v n (omega arith)))),
    ))

-- what the rule says of one view
pub sound : (leaves word : ℕ) (seats : List Held) (i : ℕ) (v : Held) → Keeps leaves word seats → get_elem? seats i ≡ some v
    → (v.share ≤ whole) × ((leaf : ℕ) → times leaf v.drawn ≤ 1)
sound leaves word seats i v kept at = (
  (let one = one-le-total (λ (s : Held). s.share) seats i v at in let all = kept.shares in omega arith),
  (λ leaf. omega (arith, one-le-total (λ (s : Held). times leaf s.drawn) seats i v at, kept.once leaf, once_below-le-1 (min word leaves) leaf)),
)

-- a step that sees the word, and leaves the view
pub compare_keeps : (leaves slots id : ℕ) (me : Me (Unit {0}) Held) → Allows (IsKept leaves) slots id me 0 (λ n. n) (compares me)
compare_keeps leaves slots id me s kept homes at small =
    let n : ℕ = slice_index s.words 0 in
    let here : Keeps leaves n s.views = keeps_here leaves s kept in
    let fits : Fits leaves n me.0 = here.fits id me.0 at in
    let told = sound leaves n s.views id me.0 here at in (
      me.0,
      keeps,
      tt,
      (n, ap (λ (ws : List ℕ). slice_set ws 0 n) kept.1, keeps_changed leaves n n s.views id me.0 me.0 here at (omega arith) refl fits (λ leaf. refl) (inr (omega arith))),
      (refl, told.0, told.1),
    )

-- a split of a share above 1
pub halve_keeps : (leaves id : ℕ) (v : Held) → 1 < v.share → Splits (IsKept leaves) id v (left_view v) (given_view v)
halve_keeps leaves id v wide s kept at =
    let word : ℕ = kept.0 in
    let keeps = kept.2 in
    let fits : Fits leaves word v = keeps.fits id v at in
    let left : Held = left_view v in
    let given : Held = given_view v in
    let left_fits : Fits leaves word left = record {
      book = λ some_share. fits.book (omega arith);
      seen = fits.seen;
      over = omega arith;
      spent = λ over. fits.spent (omega arith);
      idle = λ idle. absurd (omega arith);
    } in
    let given_fits : Fits leaves word given = record {
      book = λ some_share. fits.book (omega arith);
      seen = fits.seen;
      over = let over = fits.over in omega arith;
      spent = λ over. fits.spent (omega arith);
      idle = λ idle. refl;
    } in (
      word,
      kept.1,
      record {
        few = keeps.few;
        shares = omega (arith, keeps.shares, total_split (λ (u : Held). u.share) s.views id v left given at);
        fits = λ j u there. ⊎_elim
            (λ old. ⊎_elim
            (λ (here : (j ≡ id) × (left ≡ u)). subst (λ k. Fits leaves word k) here.1 left_fits)
            (λ (else : (j ≢ id) × (get_elem? s.views j ≡ some u)). keeps.fits j u else.1)
            (at_set s.views id j left u old))
            (λ (new : given ≡ u). subst (λ k. Fits leaves word k) new given_fits)
            (at_snoc (set s.views id left) given u j there);
        once = λ leaf. omega (arith, keeps.once leaf, total_split (λ (u : Held). times leaf u.drawn) s.views id v left given at);
        bound = omega (arith, keeps.bound, total_split (λ (u : Held). u.over) s.views id v left given at);
      },
    )

-- a join of two views, one with a share of this book
pub unite_keeps : (leaves id : ℕ) (v : Held) (other : ℕ) (w : Held) → v.leaves ≡ leaves → Joins (IsKept leaves) id v other w (joined_view v w) spent_view
unite_keeps leaves id v other w book s kept at apart there =
    let word : ℕ = kept.0 in
    let keeps = kept.2 in
    let both : Held = joined_view v w in
    let there' : get_elem? s.views other ≡ some w = ⊎_elim
    (λ (here : (other ≡ id) × (both ≡ w)). absurd (apart here.0))
    (λ (else : (other ≢ id) × (get_elem? s.views other ≡ some w)). else.1)
    (at_set s.views id other both w there) in
    let fits : Fits leaves word v = keeps.fits id v at in
    let others : Fits leaves word w = keeps.fits other w there' in
    let both_fits : Fits leaves word both = record {
      book = λ some_share. book;
      seen = let one = fits.seen in let two = others.seen in omega arith;
      over = let one = fits.over in let two = others.over in omega arith;
      spent = λ over. dite (dec_lt 0 v.over)
          (λ first. let past = fits.spent first in omega arith)
          (λ second. let past = others.spent (omega arith) in omega arith);
      idle = λ idle. rw (fits.idle (omega arith), others.idle (omega arith)) refl;
    } in
    let spent_fits : Fits leaves word spent_view = record {
      book = λ some_share. absurd (omega arith);
      seen = omega arith;
      over = omega arith;
      spent = λ over. absurd (omega arith);
      idle = λ idle. refl;
    } in
    let sum = λ (f : Held → ℕ). total_join f s.views id other v w both spent_view at there in (
      word,
      kept.1,
      record {
        few = keeps.few;
        shares = omega (arith, keeps.shares, sum (λ (u : Held). u.share));
        fits = λ j u at_j. ⊎_elim
            (λ (here : (j ≡ other) × (spent_view ≡ u)). subst (λ k. Fits leaves word k) here.1 spent_fits)
            (λ (else : (j ≢ other) × (get_elem? (set s.views id both) j ≡ some u)). ⊎_elim
            (λ (here : (j ≡ id) × (both ≡ u)). subst (λ k. Fits leaves word k) here.1 both_fits)
            (λ (old : (j ≢ id) × (get_elem? s.views j ≡ some u)). keeps.fits j u old.1)
            (at_set s.views id j both u else.1))
            (at_set (set s.views id both) other j spent_view u at_j);
        once = λ leaf. omega (arith, keeps.once leaf, sum (λ (u : Held). times leaf u.drawn), times-append leaf v.drawn w.drawn);
        bound = omega (arith, keeps.bound, sum (λ (u : Held). u.over));
      },
    )

-- a seat with all shares has each leaf
pub whole_has_each : (leaves word : ℕ) (seats : List Held) (i : ℕ) (v : Held) → Keeps leaves word seats → get_elem? seats i ≡ some v → v.share ≡ whole
    → HasEachBelow (min word leaves) v.drawn
whole_has_each leaves word seats i v kept at all leaf =
    let owner = total_owner (λ (s : Held). s.share) (λ (s : Held). times leaf s.drawn) seats i v at (kept.shares ∙ sym all)
    (λ j w there none. ap (times leaf) ((kept.fits j w there).idle none)) in
    sym owner ∙ kept.once leaf

-- the same of the last state
pub closed_has_each : (leaves id : ℕ) (v : Held) (words : List ℕ) (slots : List (Unit {0})) (word : ℕ)
    → Final (Seen (IsKept leaves) id v) words slots → get_elem? words 0 ≡ some word → v.share ≡ whole
    → HasEachBelow (min word leaves) v.drawn
closed_has_each leaves id v words slots word final at all =
    let kept : IsKept leaves final.0 = final.1.0 in
    let same : kept.0 ≡ word = some-injective kept.0 word (ap (λ (ws : List ℕ). get_elem? ws 0) (sym kept.1 ∙ final.2) ∙ at) in
    subst (λ n. HasEachBelow (min n leaves) v.drawn) same (whole_has_each leaves kept.0 final.0.views id v kept.2 final.1.1 all)

-- where no number stands twice in two lists together, none stands in both
pub apart_of_once : (leaves others both : List ℕ) → both ≡ leaves ++ others → ((leaf : ℕ) → times leaf both ≤ 1) → AreApart leaves others
apart_of_once leaves others both is once leaf here there =
    let one = times_of_place leaves here.0 leaf here.1 here.2 in
    let two = times_of_place others there.0 leaf there.1 there.2 in
    omega (arith, once leaf, ap (times leaf) is, times-append leaf leaves others)

pub apart_by_rule : (leaves word : ℕ) (seats : List Held) (one two : ℕ) (seat other : Held)
    → Keeps leaves word seats → one ≢ two → get_elem? seats one ≡ some seat → get_elem? seats two ≡ some other → AreApart seat.drawn other.drawn
apart_by_rule leaves word seats one two seat other kept apart at there =
    apart_of_once seat.drawn other.drawn (seat.drawn ++ other.drawn) refl
    (λ leaf. omega (arith, times-append leaf seat.drawn other.drawn, two-le-total (λ (s : Held). times leaf s.drawn) seats one two seat other apart at there, kept.once leaf, once_below-le-1 (min word leaves) leaf))

pub drawn_is_below : (leaves word : ℕ) (seats : List Held) (place : ℕ) (seat : Held) (leaf : ℕ)
    → Keeps leaves word seats → get_elem? seats place ≡ some seat → Contains seat.drawn leaf → (leaf < leaves) × (leaf < word)
drawn_is_below leaves word seats place seat leaf kept at drawn =
    let some_times = times_of_place seat.drawn drawn.0 leaf drawn.1 drawn.2 in
    let all = one-le-total (λ (s : Held). times leaf s.drawn) seats place seat at in
    let below : leaf < min word leaves = dite (dec_lt leaf (min word leaves)) (λ below. below)
    (λ above. absurd (omega (arith, kept.once leaf, once_below-le (min word leaves) leaf (omega arith)))) in
    (omega arith, omega arith)

pub some_seat_has : (leaves word : ℕ) (seats : List Held) (leaf : ℕ) → Keeps leaves word seats → leaf < leaves → leaf < word
    → (place : ℕ) × (seat : Held) × (get_elem? seats place ≡ some seat) × Contains seat.drawn leaf
some_seat_has leaves word seats leaf kept few passed =
    let one = once_below-lt (min word leaves) leaf (omega arith) in
    let there = one_of_total (λ (s : Held). times leaf s.drawn) seats (omega (arith, kept.once leaf)) in
    (there.0, there.1, there.2, place_of_times there.1.drawn leaf there.3)

pub other_is_joined : (leaves word : ℕ) (seats : List Held) (place there : ℕ) (seat other : Held)
    → Keeps leaves word seats → get_elem? seats place ≡ some seat → seat.share ≡ whole → get_elem? seats there ≡ some other → there ≢ place
    → (other.share ≡ 0) × (other.drawn ≡ [])
other_is_joined leaves word seats place there seat other kept at all at_there apart =
    let none : other.share ≡ 0 = omega (arith, two-le-total (λ (s : Held). s.share) seats there place other seat apart at_there at, kept.shares) in
    (none, (kept.fits there other at_there).idle none)
