-- What a crash left in the turns so far, and in one turn more.
use Rattle.std.proofs.Common.{◌⊎◌, inl, inr, ℕ, List, ◌∷◌, ◌++◌, ap, ◌∙◌, append_assoc, ⊎_elim}
use Rattle.std.specs.Prelude.{Option}
use Rattle.std.specs.Io.KnownBytes.{Consumes}
use Rattle.std.proofs.KnownBytes.{Consumes-trans}
use Rattle.kept_disk.specs.Moments.{LeavesOnly}
use Rattle.kept_journal.proofs.Moments.{started, then_only, weaker}
use Rattle.kept_journal.specs.Journal.{Stands}
use Rattle.desk_run.proofs.Fronts.{front_more}
use Rattle.desk_run.specs.Answers.{AnswersFront, Kept}
use Rattle.desk_run.specs.Crashes.{LeavesFront, LeavesLine, LeavesOne}
use Rattle.desk_run.specs.Lines.{CutsAt}
use Rattle.party_desk.specs.Asking.{Wanted}

module _ {P Order Reply : Type 0} (asked : P → List ℕ → Wanted Order) (says : P → Order → List ℕ → Type 0) (takes : P → List ℕ → Reply → P → Type 0)
    (answers : P → ℕ → List ℕ → List ℕ → Kept → P → Type 0) where
  -- the line that an input begins with is that of a longer one
  leaves_more : (party : P) (input more mark : List ℕ) (texts : Kept) (file : List ℕ) → LeavesOne asked says takes party input mark texts file
      → LeavesOne asked says takes party (input ++ more) mark texts file
  leaves_more party input more mark texts file left = ⊎_elim
      (λ stands. inl stands)
      (λ line. inr (line.0, (line.1.0 ++ more, ((ap (λ xs. xs ++ more) line.1.1.0.0 ∙ append_assoc line.0 (10 ∷ line.1.0) more, line.1.1.0.1), line.1.1.1))))
      left

  -- more came of the source
  front_left : (old : P) (first mid last : Option (List ℕ)) (taken mark : List ℕ) (texts : Kept) (file : List ℕ) → Consumes mid last taken
      → LeavesFront asked says takes answers old first mid mark texts file → LeavesFront asked says takes answers old first last mark texts file
  front_left old first mid last taken mark texts file came f = record {
    input = f.input ++ taken;
    came = Consumes-trans first mid last f.input taken f.came came;
    behind = f.behind ++ taken;
    written = f.written;
    more = f.more;
    mid = f.mid;
    front = front_more answers old f.mid f.input f.behind f.written taken f.more f.front;
    left = leaves_more f.mid f.behind taken mark (texts ++ f.more) file f.left;
  }

  module _ {K : Type 0} (moment : K → ℕ) (left_since : K → ℕ → List ℕ → Type 0) (may_leave : K → List ℕ → Type 0) where
    -- what a crash leaves in the turns so far
    abbrev pub LeavesSoFar : P → Option (List ℕ) → Option (List ℕ) → List ℕ → Kept → K → K → Type 0
    LeavesSoFar old first last mark texts disk later =
        LeavesOnly moment left_since disk later (λ c. may_leave disk c ⊎ LeavesFront asked says takes answers old first last mark texts c)

    -- what it leaves in a turn
    abbrev pub LeavesInTurn : P → Option (List ℕ) → Option (List ℕ) → List ℕ → List ℕ → Kept → K → K → Type 0
    LeavesInTurn party first last ahead mark texts disk later = LeavesOnly moment left_since disk later
        (λ c. may_leave disk c ⊎ ((taken : List ℕ) × Consumes first last taken × LeavesOne asked says takes party (ahead ++ taken) mark texts c))

    -- in the turn of a line
    pub in_turn : (party : P) (first last : Option (List ℕ)) (ahead taken line behind mark : List ℕ) (texts : Kept) (disk later : K) → Consumes first last taken → CutsAt (ahead ++ taken) line behind
        → LeavesOnly moment left_since disk later (λ c. may_leave disk c ⊎ LeavesLine asked says takes party line mark texts c)
        → LeavesInTurn party first last ahead mark texts disk later
    in_turn party first last ahead taken line behind mark texts disk later came cut run =
        weaker moment left_since disk later (λ c. may_leave disk c ⊎ LeavesLine asked says takes party line mark texts c)
        (λ c. may_leave disk c ⊎ ((taken : List ℕ) × Consumes first last taken × LeavesOne asked says takes party (ahead ++ taken) mark texts c)) run
        (λ c. ⊎_elim (λ left. inl left) (λ one. inr (taken, came, inr (line, (behind, (cut, one))))))

    -- before the first turn
    pub no_turn : (old : P) (first last : Option (List ℕ)) (mark : List ℕ) (texts : Kept) (disk : K)
        → ((c : List ℕ) → left_since disk (moment disk) c → may_leave disk c) → LeavesSoFar old first last mark texts disk disk
    no_turn old first last mark texts disk now =
        started moment left_since disk (λ c. may_leave disk c ⊎ LeavesFront asked says takes answers old first last mark texts c) (λ c left. inl (now c left))

    -- one turn more
    pub turn_more : (old party : P) (first mid last : Option (List ℕ)) (input behind written taken mark : List ℕ) (texts more : Kept) (disk later latest : K)
        → AnswersFront answers old input behind written more party → Consumes first mid input → Consumes mid last taken
        → ((c : List ℕ) → may_leave later c → may_leave disk c ⊎ Stands mark (texts ++ more) c)
        → LeavesSoFar old first mid mark texts disk later → LeavesInTurn party mid last behind mark (texts ++ more) later latest
        → LeavesSoFar old first last mark texts disk latest
    turn_more old party first mid last input behind written taken mark texts more disk later latest front came next durable so_far turn =
        let P : List ℕ → Type 0 = λ c. may_leave disk c ⊎ LeavesFront asked says takes answers old first last mark texts c in
        let Q : List ℕ → Type 0 = λ c. may_leave later c ⊎ ((taken : List ℕ) × Consumes mid last taken × LeavesOne asked says takes party (behind ++ taken) mark (texts ++ more) c) in
        let here : (c : List ℕ) (taken : List ℕ) → Consumes mid last taken → LeavesOne asked says takes party (behind ++ taken) mark (texts ++ more) c → P c =
        λ c taken next left. inr (record {
          input = input ++ taken;
          came = Consumes-trans first mid last input taken came next;
          behind = behind ++ taken;
          written = written;
          more = more;
          mid = party;
          front = front_more answers old party input behind written taken more front;
          left = left;
        }) in
        let before : LeavesOnly moment left_since disk later P =
        weaker moment left_since disk later (λ c. may_leave disk c ⊎ LeavesFront asked says takes answers old first mid mark texts c) P so_far
        (λ c. ⊎_elim (λ left. inl left) (λ left. inr (front_left old first mid last taken mark texts c next left))) in
        then_only moment left_since disk later latest P Q before turn
        (λ c. ⊎_elim (λ left. ⊎_elim (λ early. inl early) (λ stands. here c taken next (inl stands)) (durable c left)) (λ one. here c one.0 one.1 one.2))
