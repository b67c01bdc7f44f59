-- A log that is kept takes what it has to take, one thing behind the other, or its disk fails.
use Rattle.std.proofs.Common.{◌≡◌, ◌≤◌, ◌⊎◌, inl, inr, ℕ, ◌+◌, ◌*◌, false, List, [], ◌∷◌, ◌++◌, length, take, refl, sym, ◌∙◌, ap, subst, arith, append_assoc, append-nil, length-append, Option, Some, Err}
use Rattle.std.proofs.Math.Seq.{take-append-add, take-append_seam}
use Rattle.std.proofs.lemmas.List.Sums.{sum_by-append}
use Rattle.ar_base.specs.Faults.{HasRisen}
use Rattle.kept_disk.specs.Fuel.{Fuel}
use Rattle.kept_journal.specs.Appending.{SpendsAll, WantsAll, staged_text}
use Rattle.kept_disk.specs.Moments.{LeavesOnly}
use Rattle.kept_journal.specs.Journal.{IsBeforeOrAfter, Stands}
use Rattle.kept_journal.specs.Replays.{ReachesBy}
use Rattle.kept_journal.proofs.Loading.{replays-push}
use Rattle.kept_journal.proofs.Spending.{none_spent, then_spent, then_wants}
use Rattle.log_core.specs.Keyed.{IsOwn}
use Rattle.log_core.specs.Row.{row}
use Rattle.log_core.specs.State.{Input}
use Rattle.log_journal.specs.Inputs.{IsWhole, input_text, mark}
use Rattle.log_journal.specs.Kept.{KeptParts}
use Rattle.log_journal.specs.Steps.{LogStanding, TakesInput, standing_of, takes}
use Rattle.log_journal.proofs.Replayed.{no_step}
use Rattle.log_journal.proofs.Spelled.{says_it}
use Rattle.log_restart.specs.Inputs.{record_cost, records_cost}
use Rattle.log_restart.specs.Running.{FailedAt, Fails, Took, TookAll}
use Rattle.log_restart.proofs.Costs.{staged_cost}
use Rattle.log_restart.proofs.Replaying.{rest_replays}
use Rattle.log_core.below.log_sending.specs.declared.refusal.LogRefusal.{LogRefusal}

-- ---- what it has to take

same-input : (a b : Input) → Some a ≡ Some b → a ≡ b
same-input a b e = cc

-- what the text of an input is taken as is that input
pub steps_here : (here later : LogStanding) (input : Input) → IsWhole input → takes here (input_text input) later → TakesInput here input later
steps_here here later input whole step =
    subst (λ (i : Input). TakesInput here i later) (same-input step.input input (sym step.says ∙ says_it input whole)) step.steps

pub own_here : (here later : LogStanding) (input : Input) → IsWhole input → takes here (input_text input) later → IsOwn here.keys input
own_here here later input whole step = (steps_here here later input whole step).own

-- it is not refused
pub not_refused : (here later : LogStanding) (input : Input) (refusal : LogRefusal) → IsWhole input → takes here (input_text input) later
    → ¬ (row here.core input ≡ Err refusal)
not_refused here later input refusal whole step answer = no_step here input refusal answer later (steps_here here later input whole step)

-- ---- the next one

-- what took those before it has to take it
pub takes_next : (first here last : LogStanding) (front back all : List (List ℕ)) (text : List ℕ) → all ≡ front ++ text ∷ back
    → ReachesBy takes first all last → ReachesBy takes first front here → (later : LogStanding) × takes here text later
takes_next first here last front back all text is replays part =
    let rest = rest_replays first here last front (text ∷ back) (subst (λ (ts : List (List ℕ)). ReachesBy takes first ts last) is replays) part in
    (rest.0, rest.1)

-- ---- what comes of it

module _ {D : Type 0} (seen held : D → List ℕ) (may_leave : D → List ℕ → Type 0) (fuel : D → Option Fuel) (faults : D → ℕ) where
  pub took_none : (old : KeptParts D) → old.journal.stopped ≡ false → Took fuel faults old old []
  took_none old going = record {
    going = going;
    stand = sym (append-nil old.journal.texts);
    became = refl;
    spent = none_spent (fuel old.journal.disk);
    uncounted = refl;
  }

  pub took_one : (old new : KeptParts D) (text : List ℕ) → new.journal.stopped ≡ false → new.journal.texts ≡ old.journal.texts ++ text ∷ []
      → takes (standing_of old.log) text (standing_of new.log)
      → SpendsAll (fuel old.journal.disk) (fuel new.journal.disk) 4 (length (staged_text text) + 1) 4
      → faults new.journal.disk ≡ faults old.journal.disk → Took fuel faults old new (text ∷ [])
  took_one old new text going stand step spent uncounted = record {
    going = going;
    stand = stand;
    became = (standing_of new.log, step, refl);
    spent = then_spent (fuel old.journal.disk) (fuel old.journal.disk) (fuel new.journal.disk) 0 0 0 4 (length (staged_text text) + 1) 4
        (4 * length (text ∷ [])) (records_cost (text ∷ [])) (4 * length (text ∷ [])) (none_spent (fuel old.journal.disk)) spent
        (omega arith) (omega (arith, staged_cost text)) (omega arith);
    uncounted = uncounted;
  }

  -- what may be left from before stands for the texts from before
  before_or_after : (old new : KeptParts D) (text : List ℕ) → ((c : List ℕ) → may_leave old.journal.disk c → Stands mark old.journal.texts c)
      → may_leave old.journal.disk (seen new.journal.disk) ⊎ IsBeforeOrAfter mark old.journal.texts text (seen new.journal.disk)
      → IsBeforeOrAfter mark old.journal.texts text (seen new.journal.disk)
  before_or_after old new text crash (inl left) = inl (crash (seen new.journal.disk) left)
  before_or_after old new text crash (inr is) = is

  -- what a read gives now is what a crash now may leave
  pub given_now : (moment : D → ℕ) (left_since : D → ℕ → List ℕ → Type 0) (old new : KeptParts D) (text : List ℕ)
      → ((c : List ℕ) → may_leave old.journal.disk c → Stands mark old.journal.texts c)
      → LeavesOnly moment left_since old.journal.disk new.journal.disk (λ c. may_leave old.journal.disk c ⊎ IsBeforeOrAfter mark old.journal.texts text c)
      → ((disk : D) (t : ℕ) (c : List ℕ) → t ≤ moment disk → may_leave disk c → left_since disk t c)
      → may_leave new.journal.disk (seen new.journal.disk) → IsBeforeOrAfter mark old.journal.texts text (seen new.journal.disk)
  given_now moment left_since old new text crash leaves counts now =
      before_or_after old new text crash
      (leaves.each (seen new.journal.disk) (counts new.journal.disk (moment old.journal.disk) (seen new.journal.disk) leaves.later now))

  pub fails_one : (old new : KeptParts D) (text : List ℕ) → Stands mark old.journal.texts (held new.journal.disk)
      → IsBeforeOrAfter mark old.journal.texts text (seen new.journal.disk)
      → WantsAll (fuel old.journal.disk) 4 (length (staged_text text) + 1) 4 → HasRisen (faults old.journal.disk) (faults new.journal.disk)
      → Fails seen held fuel faults old new text
  fails_one old new text kept given wanting risen = record {
    kept = kept;
    given = given;
    wanting = then_wants (fuel old.journal.disk) (fuel old.journal.disk) 0 0 0 4 (length (staged_text text) + 1) 4 4 (record_cost text) 4
        (none_spent (fuel old.journal.disk)) wanting (omega arith) (omega (arith, staged_cost text)) (omega arith);
    risen = risen;
  }

  pub took_more : (old mid new : KeptParts D) (front all : List (List ℕ)) (text : List ℕ) → all ≡ front ++ text ∷ [] → Took fuel faults old mid front
      → Took fuel faults mid new (text ∷ []) → Took fuel faults old new all
  took_more old mid new front all text is first second = record {
    going = second.going;
    stand = second.stand ∙ ap (λ (ts : List (List ℕ)). ts ++ text ∷ []) first.stand ∙ append_assoc old.journal.texts front (text ∷ [])
        ∙ ap (λ (ts : List (List ℕ)). old.journal.texts ++ ts) (sym is);
    became = subst (λ (ts : List (List ℕ)). ReachesBy takes (standing_of old.log) ts (standing_of new.log)) (sym is)
        (replays-push takes (standing_of old.log) front text (standing_of mid.log) (standing_of new.log) first.became
        (subst (λ (s : LogStanding). takes (standing_of mid.log) text s) (sym second.became.2) second.became.1));
    spent = then_spent (fuel old.journal.disk) (fuel mid.journal.disk) (fuel new.journal.disk)
        (4 * length front) (records_cost front) (4 * length front) (4 * length (text ∷ [])) (records_cost (text ∷ [])) (4 * length (text ∷ []))
        (4 * length all) (records_cost all) (4 * length all) first.spent second.spent
        (omega (arith, ap length is, length-append front (text ∷ [])))
        (ap records_cost is ∙ sum_by-append record_cost front (text ∷ []))
        (omega (arith, ap length is, length-append front (text ∷ [])));
    uncounted = second.uncounted ∙ first.uncounted;
  }

  pub took_all : (old new : KeptParts D) (texts all : List (List ℕ)) → texts ≡ all → Took fuel faults old new texts
      → ((c : List ℕ) → may_leave new.journal.disk c → Stands mark new.journal.texts c)
      → may_leave new.journal.disk (seen new.journal.disk) → may_leave new.journal.disk (held new.journal.disk) → TookAll seen held fuel faults old new all
  took_all old new texts all is took crash now kept =
      let went : Took fuel faults old new all = subst (λ (ts : List (List ℕ)). Took fuel faults old new ts) is took in
      record {
        took = went;
        whole = subst (λ (ts : List (List ℕ)). Stands mark ts (seen new.journal.disk)) went.stand (crash (seen new.journal.disk) now);
        kept = subst (λ (ts : List (List ℕ)). Stands mark ts (held new.journal.disk)) went.stand (crash (held new.journal.disk) kept);
      }

  -- what a file stands for behind the first texts of all
  given_at : (old mid new : KeptParts D) (front all : List (List ℕ)) (text : List ℕ) → take (length front) all ≡ front → take (length front + 1) all ≡ front ++ text ∷ []
      → mid.journal.texts ≡ old.journal.texts ++ front → IsBeforeOrAfter mark mid.journal.texts text (seen new.journal.disk)
      → Stands mark (old.journal.texts ++ take (length front) all) (seen new.journal.disk)
      ⊎ Stands mark (old.journal.texts ++ take (length front + 1) all) (seen new.journal.disk)
  given_at old mid new front all text taken more stand (inl is) =
      inl (subst (λ (ts : List (List ℕ)). Stands mark ts (seen new.journal.disk)) (stand ∙ ap (λ (ts : List (List ℕ)). old.journal.texts ++ ts) (sym taken)) is)
  given_at old mid new front all text taken more stand (inr is) =
      inr (subst (λ (ts : List (List ℕ)). Stands mark ts (seen new.journal.disk))
      (ap (λ (ts : List (List ℕ)). ts ++ text ∷ []) stand ∙ append_assoc old.journal.texts front (text ∷ []) ∙ ap (λ (ts : List (List ℕ)). old.journal.texts ++ ts) (sym more)) is)

  pub failed_at : (old mid new : KeptParts D) (front back all : List (List ℕ)) (text : List ℕ) → all ≡ front ++ text ∷ back → Took fuel faults old mid front
      → Fails seen held fuel faults mid new text → FailedAt seen held fuel faults old new all
  failed_at old mid new front back all text is took fails =
      let taken : take (length front) all ≡ front = ap (λ (ts : List (List ℕ)). take (length front) ts) is ∙ take-append_seam front (text ∷ back) in
      let more : take (length front + 1) all ≡ front ++ text ∷ [] =
      ap (λ (ts : List (List ℕ)). take (length front + 1) ts) is ∙ take-append-add front (text ∷ back) 1 in
      record {
        many = length front;
        some_left = omega (arith, ap length is, length-append front (text ∷ back));
        kept = subst (λ (ts : List (List ℕ)). Stands mark ts (held new.journal.disk))
            (took.stand ∙ ap (λ (ts : List (List ℕ)). old.journal.texts ++ ts) (sym taken)) fails.kept;
        given = given_at old mid new front all text taken more took.stand fails.given;
        left = fuel mid.journal.disk;
        spent = subst (λ (ts : List (List ℕ)). SpendsAll (fuel old.journal.disk) (fuel mid.journal.disk) (4 * length front) (records_cost ts) (4 * length front))
            (sym taken) took.spent;
        wanting = then_wants (fuel old.journal.disk) (fuel mid.journal.disk) (4 * length front) (records_cost front) (4 * length front)
            4 (record_cost text) 4 (4 * (length front + 1)) (records_cost (take (length front + 1) all)) (4 * (length front + 1)) took.spent fails.wanting
            (omega arith) (omega (arith, ap records_cost more, sum_by-append record_cost front (text ∷ []))) (omega arith);
        risen = subst (λ (n : ℕ). HasRisen n (faults new.journal.disk)) took.uncounted fails.risen;
      }
