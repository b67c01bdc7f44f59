-- What a file is for a party that remembers its last reply, and for the party alone.
use Rattle.std.proofs.Common.{◌≡◌, ◌++◌, ◌∷◌, [], ℕ, List, Option, None, Some, ap, append_assoc, refl, subst, sym}
use Rattle.std.proofs.lemmas.List.{append-nil}
use Rattle.kept_journal.proofs.Loading.{replays-push}
use Rattle.kept_journal.specs.Journal.{record_in}
use Rattle.kept_journal.specs.Replays.{IsBad, IsStuck, ReachesBy}
use Rattle.kept_party.specs.Recalled.{Recalls}
use Rattle.kept_party.specs.Taking.{Becomes, EndsWith, RepliesLast}
use Rattle.kept_party.specs.declared.recalling.Recalling.{Recalling}

module _ {P R : Type 0} (takes : P → List ℕ → R → P → Type 0) where
  -- the texts make of the party what they make of it that remembers
  pub replays_party : (texts : List (List ℕ)) (first last : Recalling P R) → ReachesBy (Recalls takes) first texts last → ReachesBy (Becomes takes) first.party texts last.party
  replays_party [] first last replays = ap (λ (r : Recalling P R). r.party) replays
  replays_party (text ∷ texts) first last replays =
      (replays.0.party, (replays.1.0, replays.1.1), replays_party texts replays.0 last replays.2)

  goes-on : (texts : List (List ℕ)) (first : P) (front : List (List ℕ)) (at last : Recalling P R) → ReachesBy (Becomes takes) first front at.party
      → RepliesLast takes first front at.last at.party → ReachesBy (Recalls takes) at texts last → RepliesLast takes first (front ++ texts) last.last last.party
  goes-on [] first front at last led told replays =
      subst (λ (xs : List (List ℕ)). RepliesLast takes first xs last.last last.party) (sym (append-nil front))
      (subst (λ (r : Recalling P R). RepliesLast takes first front r.last r.party) (sym replays) told)
  goes-on (text ∷ texts) first front at last led told replays =
      let mid : Recalling P R = replays.0 in
      let ends : EndsWith takes first (front ++ text ∷ []) replays.1.0 mid.party = record {
        front = front;
        text = text;
        before = at.party;
        are = refl;
        replays = led;
        taken = replays.1.1;
      } in
      let now : RepliesLast takes first (front ++ text ∷ []) mid.last mid.party =
      subst (λ (o : Option R). RepliesLast takes first (front ++ text ∷ []) o mid.party) (sym replays.1.2) ends in
      subst (λ (xs : List (List ℕ)). RepliesLast takes first xs last.last last.party) (append_assoc front (text ∷ []) texts)
      (goes-on texts first (front ++ text ∷ []) mid last (replays-push (Becomes takes) first front text at.party mid.party led (replays.1.0, replays.1.1)) now replays.2)

  -- what it remembers then is the reply to the last of them
  pub replies_last : (texts : List (List ℕ)) (first last : Recalling P R) → first.last ≡ None → ReachesBy (Recalls takes) first texts last
      → RepliesLast takes first.party texts last.last last.party
  replies_last texts first last none replays =
      goes-on texts first.party [] first last refl (subst (λ (o : Option R). RepliesLast takes first.party [] o first.party) (sym none) refl) replays

  stuck-party : (record_here : Option (List ℕ × List ℕ)) (at : Recalling P R) → IsStuck (Recalls takes) at record_here → IsStuck (Becomes takes) at.party record_here
  stuck-party None at stuck = tt
  stuck-party (Some r) at stuck = λ later becomes. stuck (record { party = later; last = Some becomes.0 }) (becomes.0, becomes.1, refl)

  -- a record that it cannot take and remember it cannot take
  pub bad_party : (mark file : List ℕ) (first : Recalling P R) (place : ℕ) → IsBad (Recalls takes) mark first file place → IsBad (Becomes takes) mark first.party file place
  bad_party mark file first place bad = record {
    texts = bad.texts;
    behind = bad.behind;
    party = bad.party.party;
    long = bad.long;
    short = bad.short;
    is = bad.is;
    place_is = bad.place_is;
    reached = replays_party bad.texts first bad.party bad.reached;
    stuck = stuck-party (record_in bad.behind) bad.party bad.stuck;
  }
