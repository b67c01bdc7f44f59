-- What a log becomes by texts, of which it took some before.
use Rattle.std.proofs.Common.{◌≡◌, ℕ, List, [], ◌∷◌, ◌++◌, refl, sym, ◌∙◌, subst}
use Rattle.kept_journal.specs.Replays.{ReachesBy}
use Rattle.log_journal.specs.Determined.{one_standing}
use Rattle.log_journal.specs.Steps.{LogStanding, takes}

-- what took the first takes the others
pub rest_replays : (first here last : LogStanding) (front back : List (List ℕ)) → ReachesBy takes first (front ++ back) last → ReachesBy takes first front here
    → ReachesBy takes here back last
rest_replays first here last [] back all part = subst (λ (s : LogStanding). ReachesBy takes s back last) (sym part) all
rest_replays first here last (text ∷ front) back all part =
    let same : all.0 ≡ part.0 = one_standing first all.0 part.0 text all.1 part.1 in
    rest_replays part.0 here last front back (subst (λ (s : LogStanding). ReachesBy takes s (front ++ back) last) same all.2) part.2

-- the first can be taken
pub front_replays : (first last : LogStanding) (front back : List (List ℕ)) → ReachesBy takes first (front ++ back) last
    → (here : LogStanding) × ReachesBy takes first front here
front_replays first last [] back all = (first, refl)
front_replays first last (text ∷ front) back all = let more = front_replays all.0 last front back all.2 in (more.0, (all.0, all.1, more.1))

-- there is one thing that it becomes
pub one_last : (first one other : LogStanding) (texts : List (List ℕ)) → ReachesBy takes first texts one → ReachesBy takes first texts other → one ≡ other
one_last first one other [] a b = a ∙ sym b
one_last first one other (text ∷ texts) a b =
    let same : b.0 ≡ a.0 = one_standing first b.0 a.0 text b.1 a.1 in
    one_last a.0 one other texts a.2 (subst (λ (s : LogStanding). ReachesBy takes s texts other) same b.2)
