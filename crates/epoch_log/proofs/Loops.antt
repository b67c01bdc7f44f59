-- What a loop that goes on has done: one more of a list.
use Rattle.std.proofs.Common.{◌≡◌, ℕ, ◌+◌, ◌<◌, true, false, cond, Option, List, [], ◌∷◌, ◌++◌, length, get_or, drop, sym, ap, ◌∙◌}
use Rattle.std.specs.Prelude.{filter, map}
use Rattle.std.specs.List.{flat_map}
use Rattle.std.proofs.lemmas.List.{append_assoc, drop_more}
use Rattle.ar_statement.specs.declared.text.SeenText.{SeenText}
use Rattle.vote_quorum.specs.Ballots.{is_same}
use Rattle.vote_quorum.specs.declared.value.Value.{Value}
use Rattle.ar_council.specs.Seen.{seen_after, with_seen}
use Rattle.epoch_log.specs.Ending.{votes_for}
use Rattle.epoch_log.specs.State.{CountedVote}

-- those that are left are seen behind one more
pub seen-next : (seen more : List SeenText) (i : ℕ) (d : SeenText) → i < length more → seen_after (with_seen seen (get_or more i d)) (drop (i + 1) more) ≡ seen_after seen (drop i more)
seen-next seen more i d lt = ap (seen_after seen) (sym (drop_more more i d lt))

-- those of the changes that are left stand behind those of one more
pub flat-next : {A B : Type 0} (f : A → List B) (list : List B) (xs : List A) (i : ℕ) (d : A) → i < length xs → (list ++ f (get_or xs i d)) ++ flat_map f (drop (i + 1) xs) ≡ list ++ flat_map f (drop i xs)
flat-next f list xs i d lt = append_assoc list (f (get_or xs i d)) (flat_map f (drop (i + 1) xs)) ∙ ap (λ l. list ++ flat_map f l) (sym (drop_more xs i d lt))

-- ---- votes

pub votes-next : (list : List (ℕ × Option (List ℕ))) (v : CountedVote) (rest : List CountedVote) (value : Value) → is_same v.1 value ≡ true
    → (list ++ (v.0, v.2) ∷ []) ++ votes_for rest value ≡ list ++ votes_for (v ∷ rest) value
votes-next list v rest value is =
    append_assoc list ((v.0, v.2) ∷ []) (votes_for rest value)
    ∙ ap (λ b. list ++ map (λ (w : CountedVote). (w.0, w.2)) (cond b (v ∷ filter (λ (w : CountedVote). is_same w.1 value) rest) (filter (λ (w : CountedVote). is_same w.1 value) rest))) (sym is)

pub votes-other : (v : CountedVote) (rest : List CountedVote) (value : Value) → is_same v.1 value ≡ false → votes_for rest value ≡ votes_for (v ∷ rest) value
votes-other v rest value other =
    ap (λ b. map (λ (w : CountedVote). (w.0, w.2)) (cond b (v ∷ filter (λ (w : CountedVote). is_same w.1 value) rest) (filter (λ (w : CountedVote). is_same w.1 value) rest))) (sym other)
