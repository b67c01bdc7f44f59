-- What a run that stopped answered and wrote.
use Rattle.std.proofs.Common.{ℕ, ◌+◌, List, [], ◌∷◌, ◌++◌, length, refl, sym, ap, ◌∙◌, subst, append_assoc, ⊎_elim}
use Rattle.std.specs.Prelude.{Option}
use Rattle.std.proofs.lemmas.List.{append-nil}
use Rattle.desk_run.proofs.Fronts.{answers_one, has_one}
use Rattle.desk_run.specs.Answers.{AnswersAtMostOne, AnswersFront, Kept}
use Rattle.desk_run.specs.Runs.{AppendedAtMost, AppendedWithFront, HasAnsweredFront, HasStopped}
use Rattle.desk_run.specs.declared.stop.Stop.{Stop}
use Rattle.kept_party.specs.Parts.{WithJournal}

module _ {W : Type 0} (wrote : W → List ℕ → Type 0) where
  -- a front of the first is one of both
  first_alone : (before after : W) (first second : List ℕ) → AppendedAtMost wrote before after first → AppendedAtMost wrote before after (first ++ second)
  first_alone before after first second p =
      (p.0, (p.1.0 ++ second, (ap (λ xs. xs ++ second) p.1.1.0 ∙ append_assoc p.0 p.1.0 second, p.1.1.1)))

  -- and so is all of the first with a front of the second
  first_and_front : (before after : W) (first second : List ℕ) → AppendedWithFront wrote before after first second → AppendedAtMost wrote before after (first ++ second)
  first_and_front before after first second p =
      (first ++ p.0, (p.1.0, (ap (λ xs. first ++ xs) p.1.1.0 ∙ sym (append_assoc first p.0 p.1.0), p.1.1.1)))

module _ {P : Type 0} (answers : P → ℕ → List ℕ → List ℕ → Kept → P → Type 0) where
  -- at most one line more was answered
  front_at_most : (old mid new : P) (input rest written behind late : List ℕ) (more one : Kept) (f : AnswersFront answers old input rest written more mid)
      → AnswersAtMostOne answers mid (1 + length f.lines) rest behind late one new → AnswersFront answers old input behind (written ++ late) (more ++ one) new
  front_at_most old mid new input rest written behind late more one f its = ⊎_elim
      (λ none. rw (none.0, none.1.0, none.1.1.0, none.1.1.1, append-nil written, append-nil more) f)
      (λ line. record {
        lines = f.lines ++ line.0 ∷ [];
        has = has_one f.lines input rest line.0 behind f.has line.1.0;
        answered = answers_one answers f.lines old mid new 1 (1 + length f.lines) line.0 written late more one refl f.answered line.1.1;
      })
      its

-- what was written is a front of the answers to the lines that were answered
pub front_of_answers : {P K W : Type 0} (answers : P → ℕ → List ℕ → List ℕ → Kept → P → Type 0) (wrote : W → List ℕ → Type 0) (held : K → List ℕ) (old new : WithJournal P K)
    (first last : Option (List ℕ)) (before after : W) (opening : List ℕ) (stop : Stop)
    → HasStopped answers wrote held old new first last before after opening stop → HasAnsweredFront answers wrote old.party first last before after opening
front_of_answers answers wrote held old new first last before after opening stop s = record {
  input = s.input;
  came = s.came;
  behind = s.behind;
  written = s.written ++ s.late;
  more = s.more ++ s.one;
  mid = s.final;
  front = front_at_most answers old.party s.mid s.final s.input s.rest s.written s.behind s.late s.more s.one s.front s.its;
  sent = ⊎_elim
      (λ none. first_alone wrote before after opening (s.written ++ s.late) none.1)
      (λ all. subst (AppendedAtMost wrote before after) (append_assoc opening s.written s.late) (first_and_front wrote before after (opening ++ s.written) s.late all))
      s.sent;
}
