-- One turn.
use Rattle.std.proofs.Common.{◌≡◌, ◌≢◌, inl, inr, ℕ, List, [], ◌++◌, false, refl, sym, subst, ⊎_elim}
use Rattle.std.specs.Prelude.{Option}
use Rattle.std.specs.Io.KnownBytes.{Consumes}
use Rattle.ar_io.specs.Wrote.{Appended, AppendedFront}
use Rattle.desk_run.proofs.Served.{done_all, done_none, front_of_it, none_of_it, nothing}
use Rattle.desk_run.specs.Answers.{Kept}
use Rattle.desk_run.specs.Lines.{CutsAt, IsUncut}
use Rattle.desk_run.specs.Runs.{HasDoneLine, HasNotDoneLine, HasNotTurned, HasTurned}
use Rattle.desk_run.specs.declared.stop.Stop.{Stop}
use Rattle.desk_run.specs.declared.stop.Stop.TheVariants.{Disk, Memory, Sink, Source}
use Rattle.kept_party.specs.Parts.{WithJournal}

-- a write that failed is no call of the disk
sink_not_disk : (stop : Stop) → stop ≡ Sink → stop ≢ Disk
sink_not_disk stop sink disk = absurd cc

-- and no want of memory
pub sink_not_memory : (stop : Stop) → stop ≡ Sink → stop ≢ Memory
sink_not_memory stop sink memory = absurd cc

-- and no read
sink_not_source : (stop : Stop) → stop ≡ Sink → stop ≢ Source
sink_not_source stop sink source = absurd cc

module _ {P K W : Type 0} (answers : P → ℕ → List ℕ → List ℕ → Kept → P → Type 0) (wrote : W → List ℕ → Type 0) (held : K → List ℕ) where
  -- no line came
  pub not_begun : (old : WithJournal P K) (first last : Option (List ℕ)) (sink : W) (ahead taken : List ℕ) (number : ℕ) (stop : Stop) → stop ≢ Disk → Consumes first last taken
      → (stop ≡ Source → IsUncut (ahead ++ taken)) → HasNotTurned answers wrote held old old first last sink sink ahead number stop
  not_begun old first last sink ahead taken number stop other came uncut = record {
    taken = taken;
    came = came;
    behind = ahead ++ taken;
    written = [];
    one = [];
    mid = old.party;
    its = inl (refl, (refl, (refl, refl)));
    done = done_none held old stop other;
    sent = none_of_it wrote sink [];
    unsent = λ _ _ before. before;
    all_sent = λ _ _. nothing wrote sink;
    uncut = uncut;
  }

  -- it has no answer
  pub not_answered : (old new : WithJournal P K) (first last : Option (List ℕ)) (sink : W) (ahead taken line later : List ℕ) (number : ℕ) (stop : Stop) → stop ≢ Source → Consumes first last taken
      → CutsAt (ahead ++ taken) line later → HasNotDoneLine answers held old new number line stop → HasNotTurned answers wrote held old new first last sink sink ahead number stop
  not_answered old new first last sink ahead taken line later number stop other came cut d =
      let silent : stop ≢ Sink → stop ≢ Memory → Appended wrote sink sink d.written =
      λ _ memory. subst (λ (w : List ℕ). Appended wrote sink sink w) (sym (d.told memory)) (nothing wrote sink) in
      ⊎_elim
      (λ none. record { taken = taken; came = came; behind = ahead ++ taken; written = d.written; one = d.one; mid = d.mid; its = inl (refl, none); done = d.done; sent = none_of_it wrote sink d.written; unsent = λ _ _ before. before; all_sent = silent; uncut = λ is. absurd (other is) })
      (λ its. record { taken = taken; came = came; behind = later; written = d.written; one = d.one; mid = d.mid; its = inr (line, (cut, its)); done = d.done; sent = none_of_it wrote sink d.written; unsent = λ _ _ before. before; all_sent = silent; uncut = λ is. absurd (other is) })
      d.its

  -- its answer was not written, or not all of it
  pub not_written : (old new : WithJournal P K) (first last : Option (List ℕ)) (before after : W) (ahead taken line later written : List ℕ) (number : ℕ) (stop : Stop) → stop ≡ Sink → Consumes first last taken
      → CutsAt (ahead ++ taken) line later → HasDoneLine answers old new number line written → (old.journal.stopped ≡ false → new.journal.stopped ≡ false)
      → new.journal.mark ≡ old.journal.mark → AppendedFront wrote before after written → HasNotTurned answers wrote held old new first last before after ahead number stop
  not_written old new first last before after ahead taken line later written number stop is came cut d runs mark sent = record {
    taken = taken;
    came = came;
    behind = later;
    written = written;
    one = d.one;
    mid = new.party;
    its = inr (line, (cut, d.its));
    done = done_all held old new d.one stop (sink_not_disk stop is) d.texts runs mark;
    sent = front_of_it wrote before after written sent;
    unsent = λ memory. absurd (sink_not_memory stop is memory);
    all_sent = λ other. absurd (other is);
    uncut = λ source. absurd (sink_not_source stop is source);
  }

module _ {P K W : Type 0} (answers : P → ℕ → List ℕ → List ℕ → Kept → P → Type 0) (wrote : W → List ℕ → Type 0) where
  -- it has an answer, which was written
  pub answered : (old new : WithJournal P K) (first last : Option (List ℕ)) (before after : W) (ahead taken line later written : List ℕ) (number : ℕ) → Consumes first last taken
      → CutsAt (ahead ++ taken) line later → HasDoneLine answers old new number line written → Appended wrote before after written
      → HasTurned answers wrote old new first last before after ahead later number
  answered old new first last before after ahead taken line later written number came cut d sent = record {
    taken = taken;
    came = came;
    written = written;
    one = d.one;
    its = (line, (cut, d.its));
    texts = d.texts;
    sent = sent;
  }
