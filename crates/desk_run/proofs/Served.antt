-- The turns so far, and one more.
use Rattle.std.proofs.Common.{◌≡◌, ◌≢◌, ◌⊎◌, inl, inr, ℕ, ◌+◌, ◌-◌, ◌≤◌, List, [], ◌++◌, false, length, refl, sym, ap, ◌∙◌, subst, arith, append_assoc, length-append, ⊎_elim}
use Rattle.std.specs.Prelude.{◌^◌, Option}
use Rattle.std.specs.Io.KnownBytes.{Consumes}
use Rattle.std.proofs.KnownBytes.{Consumes-nil, Consumes-trans}
use Rattle.std.proofs.lemmas.List.{append-nil}
use Rattle.ar_io.specs.Wrote.{Appended, AppendedFront, Unchanged}
use Rattle.desk_run.proofs.Fronts.{front_more, front_none, has_more, lines_within, numbered}
use Rattle.desk_run.proofs.Crashed.{LeavesInTurn, LeavesSoFar, turn_more}
use Rattle.desk_run.specs.Answers.{AnswersAtMostOne, AnswersFront, Kept}
use Rattle.desk_run.specs.Runs.{AppendedAtMost, HasAnswered, HasEnded, HasNotTurned, HasOverrun, HasStopped, HasTurned}
use Rattle.desk_run.specs.Stops.{HasDone}
use Rattle.desk_run.specs.declared.stop.Stop.{Stop}
use Rattle.desk_run.specs.declared.stop.Stop.TheVariants.{Disk, Memory, Sink, Source}
use Rattle.kept_journal.specs.Journal.{Stands}
use Rattle.kept_party.specs.Parts.{WithJournal}
use Rattle.party_desk.specs.Asking.{Wanted}

-- ---- what a sink wrote

module _ {W : Type 0} (wrote : W → List ℕ → Type 0) where
  pub behind_it : (a b c : W) (first second : List ℕ) → Appended wrote a b first → Appended wrote b c second → Appended wrote a c (first ++ second)
  behind_it a b c first second p q before h = subst (wrote c) (append_assoc before first second) (q (before ++ first) (p before h))

  pub nothing : (a : W) → Appended wrote a a []
  nothing a before h = subst (wrote a) (sym (append-nil before)) h

  pub all_of_it : (a b : W) (bytes : List ℕ) → Appended wrote a b bytes → AppendedAtMost wrote a b bytes
  all_of_it a b bytes p = (bytes, ([], (sym (append-nil bytes), p)))

  pub none_of_it : (a : W) (bytes : List ℕ) → AppendedAtMost wrote a a bytes
  none_of_it a bytes = ([], (bytes, (refl, nothing a)))

  pub front_of_it : (a b : W) (bytes : List ℕ) → AppendedFront wrote a b bytes → AppendedAtMost wrote a b bytes
  front_of_it a b bytes p = (p.0, (p.1.0, (p.1.1, p.1.3)))

-- ---- what was done where it stops

pub done_none : {P K : Type 0} (held : K → List ℕ) (old : WithJournal P K) (stop : Stop) → stop ≢ Disk → HasDone held old old old.party [] stop
done_none held old stop other = record {
  reached = λ _. refl;
  texts = λ _. sym (append-nil old.journal.texts);
  runs = λ _ goes. goes;
  stopped = λ is. absurd (other is);
  file = λ is. absurd (other is);
  mark = refl;
}

pub done_all : {P K : Type 0} (held : K → List ℕ) (old new : WithJournal P K) (more : Kept) (stop : Stop) → stop ≢ Disk
    → new.journal.texts ≡ old.journal.texts ++ more → (old.journal.stopped ≡ false → new.journal.stopped ≡ false) → new.journal.mark ≡ old.journal.mark
    → HasDone held old new new.party more stop
done_all held old new more stop other texts runs mark = record {
  reached = λ _. refl;
  texts = λ _. texts;
  runs = λ _. runs;
  stopped = λ is. absurd (other is);
  file = λ is. absurd (other is);
  mark = mark;
}

pub done_behind : {P K : Type 0} (held : K → List ℕ) (old mid new : WithJournal P K) (party : P) (more one : Kept) (stop : Stop)
    → mid.journal.texts ≡ old.journal.texts ++ more → mid.journal.mark ≡ old.journal.mark → (old.journal.stopped ≡ false → mid.journal.stopped ≡ false)
    → HasDone held mid new party one stop → HasDone held old new party (more ++ one) stop
done_behind held old mid new party more one stop texts mark runs d =
    let same : mid.journal.texts ++ one ≡ old.journal.texts ++ (more ++ one) = ap (λ xs. xs ++ one) texts ∙ append_assoc old.journal.texts more one in
    record {
      reached = d.reached;
      texts = λ other. d.texts other ∙ same;
      runs = λ other goes. d.runs other (runs goes);
      stopped = d.stopped;
      file = λ is goes. subst (λ m. Stands m (old.journal.texts ++ (more ++ one)) (held new.journal.disk)) mark
          (subst (λ ts. Stands mid.journal.mark ts (held new.journal.disk)) same (d.file is (runs goes)));
      mark = d.mark ∙ mark;
    }

-- other stops than those of the disk
no_disk : (stop : Stop) → stop ≡ Sink → stop ≢ Disk
no_disk stop sink disk = absurd cc

no_disk_either : (stop : Stop) → stop ≡ Memory → stop ≢ Disk
no_disk_either stop memory disk = absurd cc

-- or of the source
no_read : (stop : Stop) → stop ≡ Sink → stop ≢ Source
no_read stop sink source = absurd cc

no_read_either : (stop : Stop) → stop ≡ Memory → stop ≢ Source
no_read_either stop memory source = absurd cc

no_source : (stop : Stop) → (stop ≡ Sink) ⊎ (stop ≡ Memory) → stop ≢ Source
no_source stop is = ⊎_elim (λ sink. no_read stop sink) (λ memory. no_read_either stop memory) is

-- ---- the turns so far

module _ {P K W : Type 0} (answers : P → ℕ → List ℕ → List ℕ → Kept → P → Type 0) (wrote : W → List ℕ → Type 0) (held : K → List ℕ) (may_leave : K → List ℕ → Type 0)
    (old : WithJournal P K) (first : Option (List ℕ)) (before : W) (opening : List ℕ) where
  -- It answered a front of what came; the next line has this number, and this is held ahead of it.
  pub record IsServed (new : WithJournal P K) (last : Option (List ℕ)) (after : W) (ahead : List ℕ) (number : ℕ) : Type 0 where
    pub input : List ℕ
    pub came : Consumes first last input
    pub written : List ℕ
    pub more : Kept
    pub front : AnswersFront answers old.party input ahead written more new.party
    pub number_is : number ≡ 1 + length front.lines
    pub texts : new.journal.texts ≡ old.journal.texts ++ more
    pub sent : Appended wrote before after (opening ++ written)
    pub mark : new.journal.mark ≡ old.journal.mark
    pub runs : old.journal.stopped ≡ false → new.journal.stopped ≡ false
    pub durable : (c : List ℕ) → may_leave new.journal.disk c → may_leave old.journal.disk c ⊎ Stands old.journal.mark new.journal.texts c

  -- before the first
  pub begun : (after : W) (ahead : List ℕ) → ahead ≡ [] → Appended wrote before after opening → IsServed old first after ahead 1
  begun after ahead none sent = record {
    input = [];
    came = Consumes-nil first;
    written = [];
    more = [];
    front = record { lines = []; has = sym none; answered = (refl, (refl, refl)) };
    number_is = refl;
    texts = sym (append-nil old.journal.texts);
    sent = subst (Appended wrote before after) (sym (append-nil opening)) sent;
    mark = refl;
    runs = λ stopped. stopped;
    durable = λ c left. inl left;
  }

  -- one line more
  pub turned : (mid new : WithJournal P K) (last latest : Option (List ℕ)) (after next_sink : W) (ahead later : List ℕ) (number : ℕ) (s : IsServed mid last after ahead number)
      → HasTurned answers wrote mid new last latest after next_sink ahead later number → new.journal.mark ≡ mid.journal.mark
      → (mid.journal.stopped ≡ false → new.journal.stopped ≡ false)
      → ((new.journal ≡ mid.journal) ⊎ ((c : List ℕ) → may_leave new.journal.disk c → Stands mid.journal.mark new.journal.texts c))
      → IsServed new latest next_sink later (number + 1)
  turned mid new last latest after next_sink ahead later number s t mark runs durable =
      let n = numbered answers old.party mid.party new.party s.input ahead s.written t.taken later t.written s.more t.one number s.front s.number_is t.its in
      record {
        input = s.input ++ t.taken;
        came = Consumes-trans first last latest s.input t.taken s.came t.came;
        written = s.written ++ t.written;
        more = s.more ++ t.one;
        front = n.0;
        number_is = n.1;
        texts = t.texts ∙ ap (λ xs. xs ++ t.one) s.texts ∙ append_assoc old.journal.texts s.more t.one;
        sent = subst (Appended wrote before next_sink) (append_assoc opening s.written t.written) (behind_it wrote before after next_sink (opening ++ s.written) t.written s.sent t.sent);
        mark = mark ∙ s.mark;
        runs = λ now. runs (s.runs now);
        durable = ⊎_elim
            (λ same c left. subst (λ j. may_leave j.disk c → may_leave old.journal.disk c ⊎ Stands old.journal.mark j.texts c) (sym same) (s.durable c) left)
            (λ is c left. inr (subst (λ m. Stands m new.journal.texts c) s.mark (is c left)))
            durable;
      }

  -- there was none
  pub ended : (mid new : WithJournal P K) (last latest : Option (List ℕ)) (after next_sink : W) (ahead : List ℕ) (number : ℕ) (s : IsServed mid last after ahead number)
      → HasEnded answers wrote mid new last latest after next_sink ahead → HasAnswered answers wrote old new first latest before next_sink opening
  ended mid new last latest after next_sink ahead number s e = record {
    input = s.input ++ e.taken;
    came = Consumes-trans first last latest s.input e.taken s.came e.came;
    at_end = e.at_end;
    behind = ahead ++ e.taken;
    uncut = e.uncut;
    written = s.written;
    more = s.more;
    front = subst (λ k. AnswersFront answers old.party (s.input ++ e.taken) (ahead ++ e.taken) s.written s.more k.party) (sym e.same)
        (front_more answers old.party mid.party s.input ahead s.written e.taken s.more s.front);
    texts = ap (λ k. k.journal.texts) e.same ∙ s.texts;
    mark = ap (λ k. k.journal.mark) e.same ∙ s.mark;
    runs = λ now. ap (λ k. k.journal.stopped) e.same ∙ s.runs now;
    sent = λ b h. e.silent (b ++ (opening ++ s.written)) (s.sent b h);
  }

  -- it stopped in the next
  pub stopped : (mid new : WithJournal P K) (last latest : Option (List ℕ)) (after next_sink : W) (ahead : List ℕ) (number : ℕ) (stop : Stop) (s : IsServed mid last after ahead number)
      → HasNotTurned answers wrote held mid new last latest after next_sink ahead number stop → HasStopped answers wrote held old new first latest before next_sink opening stop
  stopped mid new last latest after next_sink ahead number stop s n = record {
    input = s.input ++ n.taken;
    came = Consumes-trans first last latest s.input n.taken s.came n.came;
    rest = ahead ++ n.taken;
    written = s.written;
    more = s.more;
    mid = mid.party;
    front = record { lines = s.front.lines; has = has_more s.front.lines s.input ahead n.taken s.front.has; answered = s.front.answered };
    behind = n.behind;
    late = n.written;
    one = n.one;
    final = n.mid;
    its = subst (λ at. AnswersAtMostOne answers mid.party at (ahead ++ n.taken) n.behind n.written n.one n.mid) s.number_is n.its;
    done = done_behind held old mid new n.mid s.more n.one stop s.texts s.mark s.runs n.done;
    sent = inr (n.sent.0, (n.sent.1.0, (n.sent.1.1.0, behind_it wrote before after next_sink (opening ++ s.written) n.sent.0 s.sent n.sent.1.1.1)));
    unsent = λ memory. inr (λ b h. n.unsent memory (b ++ (opening ++ s.written)) (s.sent b h));
    all_sent = λ sink memory. behind_it wrote before after next_sink (opening ++ s.written) n.written s.sent (n.all_sent sink memory);
    uncut = n.uncut;
  }

  -- it stopped between two
  pub stopped_here : (new : WithJournal P K) (last : Option (List ℕ)) (after : W) (ahead : List ℕ) (number : ℕ) (stop : Stop) → stop ≢ Disk → stop ≢ Source → IsServed new last after ahead number
      → HasStopped answers wrote held old new first last before after opening stop
  stopped_here new last after ahead number stop other unread s =
      let all : Appended wrote before after ((opening ++ s.written) ++ []) = subst (Appended wrote before after) (sym (append-nil (opening ++ s.written))) s.sent in
      record {
        input = s.input;
        came = s.came;
        rest = ahead;
        written = s.written;
        more = s.more;
        mid = new.party;
        front = s.front;
        behind = ahead;
        late = [];
        one = [];
        final = new.party;
        its = inl (refl, (refl, (refl, refl)));
        done = done_all held old new (s.more ++ []) stop other (s.texts ∙ ap (λ xs. old.journal.texts ++ xs) (sym (append-nil s.more))) s.runs s.mark;
        sent = inr ([], ([], (refl, all)));
        unsent = λ _. inr s.sent;
        all_sent = λ _ _. all;
        uncut = λ is. absurd (unread is);
      }

  -- more lines came than are counted
  pub lines_overran : (new : WithJournal P K) (last : Option (List ℕ)) (after : W) (ahead : List ℕ) (number : ℕ) → IsServed new last after ahead number → 2 ^ 64 - 1 ≤ number
      → HasOverrun first last
  lines_overran new last after ahead number s many =
      (s.input, s.came, omega (arith, many, s.number_is, lines_within s.front.lines s.input ahead s.front.has))

  -- more pieces came in the next
  pub pieces_overran : (new : WithJournal P K) (last latest : Option (List ℕ)) (after : W) (ahead : List ℕ) (number : ℕ) → IsServed new last after ahead number → HasOverrun last latest
      → HasOverrun first latest
  pieces_overran new last latest after ahead number s more =
      (s.input ++ more.0, Consumes-trans first last latest s.input more.0 s.came more.1, omega (arith, more.2, length-append s.input more.0))

  -- it stopped before the first
  pub unstarted : (after : W) (stop : Stop) → (stop ≡ Sink) ⊎ (stop ≡ Memory) → AppendedAtMost wrote before after opening
      → (stop ≡ Memory → Unchanged wrote before after ⊎ Appended wrote before after opening) → HasStopped answers wrote held old old first first before after opening stop
  unstarted after stop is sent unsent = record {
    input = [];
    came = Consumes-nil first;
    rest = [];
    written = [];
    more = [];
    mid = old.party;
    front = front_none answers old.party;
    behind = [];
    late = [];
    one = [];
    final = old.party;
    its = inl (refl, (refl, (refl, refl)));
    done = done_none held old stop (⊎_elim (λ sink. no_disk stop sink) (λ memory. no_disk_either stop memory) is);
    sent = inl (refl, sent);
    unsent = λ memory. ⊎_elim (λ none. inl (refl, none)) (λ all. inr (subst (Appended wrote before after) (sym (append-nil opening)) all)) (unsent memory);
    all_sent = λ sink memory. ⊎_elim (λ is. absurd (sink is)) (λ is. absurd (memory is)) is;
    uncut = λ source. absurd (no_source stop is source);
  }

  module _ {Order Reply : Type 0} (asked : P → List ℕ → Wanted Order) (says : P → Order → List ℕ → Type 0) (takes : P → List ℕ → Reply → P → Type 0) (moment : K → ℕ) (left_since : K → ℕ → List ℕ → Type 0) where
    -- what a crash leaves up to the end of the next
    pub crashed : (mid : WithJournal P K) (disk : K) (last latest : Option (List ℕ)) (after : W) (ahead taken : List ℕ) (number : ℕ) (s : IsServed mid last after ahead number)
        → Consumes last latest taken
        → LeavesSoFar asked says takes answers moment left_since may_leave old.party first last old.journal.mark old.journal.texts old.journal.disk mid.journal.disk
        → LeavesInTurn asked says takes answers moment left_since may_leave mid.party last latest ahead mid.journal.mark mid.journal.texts mid.journal.disk disk
        → LeavesSoFar asked says takes answers moment left_since may_leave old.party first latest old.journal.mark old.journal.texts old.journal.disk disk
    crashed mid disk last latest after ahead taken number s came so_far turn =
        let InTurn = LeavesInTurn asked says takes answers moment left_since may_leave mid.party last latest ahead in
        turn_more asked says takes answers moment left_since may_leave old.party mid.party first last latest s.input ahead s.written taken old.journal.mark old.journal.texts s.more
        old.journal.disk mid.journal.disk disk s.front s.came came
        (λ c left. ⊎_elim (λ early. inl early) (λ stands. inr (subst (λ ts. Stands old.journal.mark ts c) s.texts stands)) (s.durable c left))
        so_far
        (subst (λ m. InTurn m (old.journal.texts ++ s.more) mid.journal.disk disk) s.mark (subst (λ ts. InTurn mid.journal.mark ts mid.journal.disk disk) s.texts turn))
