-- The texts that a run took make of the party what it is, so what a crash leaves can be opened again.
use Rattle.std.proofs.Common.{◌≡◌, ℕ, ◌+◌, List, [], ◌∷◌, ◌++◌, Option, Some, Ok, None, Err, refl, sym, subst, ⊎_elim}
use Rattle.kept_journal.proofs.Loading.{replays-push}
use Rattle.kept_journal.proofs.Rereading.{stands_marked}
use Rattle.kept_journal.specs.Journal.{IsNoJournal, Stands, recovered}
use Rattle.kept_journal.specs.Replays.{IsBad, ReachesBy}
use Rattle.kept_party.proofs.Kept.{file_not_bad}
use Rattle.kept_party.specs.Taking.{Becomes}
use Rattle.desk_run.specs.Answers.{AnswersLine, AnswersLines, Does, DoesAsked, Kept, asked_of}
use Rattle.desk_run.specs.Crashes.{LeavesOne}
use Rattle.desk_run.specs.Opened.{LeavesRun}
use Rattle.party_desk.specs.Asking.{Wanted}

-- it becomes by texts what it becomes by some, and then by the others
replays-both : {P : Type 0} (takes : P → List ℕ → P → Type 0) (xs ys : Kept) (first mid last : P) → ReachesBy takes first xs mid → ReachesBy takes mid ys last
    → ReachesBy takes first (xs ++ ys) last
replays-both takes [] ys first mid last a b = subst (λ p. ReachesBy takes p ys last) a b
replays-both takes (x ∷ xs) ys first mid last a b = (a.0, a.1, replays-both takes xs ys a.0 mid last a.2 b)

module _ {P Order Reply Refusal : Type 0}
    (asked : P → List ℕ → Wanted Order)
    (says : P → Order → List ℕ → Type 0)
    (takes : P → List ℕ → Reply → P → Type 0)
    (tells : P → Order → Reply → Type 0)
    (refuses : P → Order → Refusal → Type 0)
    (sent_text : Reply → List ℕ)
    (told_text : P → ℕ → Order → Reply → List ℕ)
    (refused_text : P → ℕ → Order → Refusal → Option (List ℕ)) where
  abbrev Answers : P → ℕ → List ℕ → List ℕ → Kept → P → Type 0
  Answers = AnswersLine asked says takes tells refuses sent_text told_text refused_text

  abbrev Reaches : P → Kept → P → Type 0
  Reaches = ReachesBy (Becomes takes)

  by-order : (old : P) (number : ℕ) (order : Order) (written : List ℕ) (kept : Kept) (new : P)
      → Does asked says takes tells refuses sent_text told_text refused_text old number order written kept new → Reaches old kept new
  by-order old number order written kept new = ⊎_elim
      (λ t. subst (λ ts. Reaches old ts new) (sym t.1.0) (new, (t.1.1.reply, t.1.1.taken), refl))
      (λ t. subst (λ ts. Reaches old ts new) (sym t.0) t.1.0)

  by-wanted : (old : P) (number : ℕ) (w : Wanted Order) (written : List ℕ) (kept : Kept) (new : P)
      → DoesAsked asked says takes tells refuses sent_text told_text refused_text old number w written kept new → Reaches old kept new
  by-wanted old number (Err why) written kept new d = subst (λ ts. Reaches old ts new) (sym d.1.0) d.1.1
  by-wanted old number (Ok None) written kept new d = subst (λ ts. Reaches old ts new) (sym d.1.0) d.1.1
  by-wanted old number (Ok (Some order)) written kept new d = by-order old number order written kept new d

  -- the texts of lines, one behind the other
  pub replays_lines : (old new : P) (number : ℕ) (lines : List (List ℕ)) (written : List ℕ) (more : Kept) → AnswersLines Answers old number lines written more new
      → Reaches old more new
  replays_lines old new number [] written more a = subst (λ ts. Reaches old ts new) (sym a.1.0) a.1.1
  replays_lines old new number (line ∷ lines) written more a =
      let mid = a.0 in
      let first = a.1.0 in
      let rest = a.1.1.0 in
      let one = a.1.1.1.0 in
      let others = a.1.1.1.1.0 in
      let its = a.1.1.1.1.1 in
      let here : Reaches old one mid = by-wanted old number (asked_of asked old line) first one mid its.0 in
      let there : Reaches mid others new = replays_lines mid new (number + 1) lines rest others its.1.0 in
      subst (λ ts. Reaches old ts new) (sym its.1.1.1) (replays-both (Becomes takes) one others old mid new here there)

  -- there are texts for which a file stands, and which this party can take
  abbrev CanBeTaken : List ℕ → P → List ℕ → Type 0
  CanBeTaken mark new file = (texts : Kept) × (last : P) × Stands mark texts file × Reaches new texts last

  one-left : (new mid : P) (behind mark : List ℕ) (texts : Kept) (file : List ℕ) → Reaches new texts mid → LeavesOne asked says takes mid behind mark texts file
      → CanBeTaken mark new file
  one-left new mid behind mark texts file led = ⊎_elim
      (λ stands. (texts, mid, stands, led))
      (λ line. let l = line.1.1.1 in ⊎_elim
      (λ stands. (texts, mid, stands, led))
      (λ stands. (texts ++ l.text ∷ [], l.later, stands, replays-push (Becomes takes) new texts l.text mid l.later led (l.reply, l.taken)))
      l.stands)

  run-left : (mark file left : List ℕ) (new : P) (first last : Option (List ℕ)) → LeavesRun takes Answers asked says mark file new first last left → CanBeTaken mark new left
  run-left mark file left new first last r =
      let f = r.front in
      let led = replays-both (Becomes takes) (recovered file) f.more new r.opened f.mid r.replays
      (replays_lines r.opened f.mid 1 f.front.lines f.written f.more f.front.answered) in
      one-left new f.mid f.behind mark (recovered file ++ f.more) left led f.left

  module _ (determined : (party one other : P) (text : List ℕ) (reply said : Reply) → takes party text reply one → takes party text said other → (reply ≡ said) × (one ≡ other)) where
    -- such a file is refused by neither its mark nor a record
    pub opened_again : (mark file left : List ℕ) (new : P) (first last : Option (List ℕ)) → LeavesRun takes Answers asked says mark file new first last left
        → (¬ IsNoJournal mark left) × ((place : ℕ) → ¬ IsBad (Becomes takes) mark new left place)
    opened_again mark file left new first last r =
        let c = run-left mark file left new first last r in (
          stands_marked mark left c.0 c.2,
          λ place. file_not_bad takes determined mark left c.0 new c.1 place c.2 c.3,
        )
