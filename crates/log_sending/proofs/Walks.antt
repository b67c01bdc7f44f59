-- A walk over the queue goes on as it is defined, on a table that ripens once.
use Rattle.std.proofs.Common.{◌≡◌, ℕ, zero, suc, ◌+◌, ◌-◌, ◌<◌, ◌≤◌, ◌^◌, List, [], ◌∷◌, ◌++◌, length, refl, sym, ap, ◌∙◌, subst, arith, append_assoc, false, cond, eqb, Some}
use Rattle.std.specs.Prelude.{IsOk, OnOk, Result, Ok, Err, option_and_then, unwrap_or}
use Rattle.std.specs.declared.alloc.AllocError.{AllocError}
use Rattle.std.proofs.lemmas.Bool.{le-leb, ne_eqb, lt-leb}
use Rattle.std.proofs.lemmas.List.{append-nil}
use Rattle.std.proofs.lemmas.List.Elements.{All-cons, All-nil}
use Rattle.cert_policy.specs.declared.manner.Manner.{Manner}
use Rattle.ar_cert.specs.Changes.{Change, IsChange, change_text}
use Rattle.domain_table.specs.declared.refusal.ChangeRefusal.{ChangeRefusal}
use Rattle.domain_table.specs.Applying.{after_answer, answer_of, apply, apply_each, judge, judge_ripe, ripen, taking_change}
use Rattle.domain_table.specs.Sound.{IsSound}
use Rattle.domain_table.specs.Tables.{Table}
use Rattle.domain_table.specs.Tree.{root_of}
use Rattle.domain_table.proofs.Judged.{judged}
use Rattle.domain_table.proofs.Once.{one_by_one, ripen_none, ripened_once, still_none}
use Rattle.epoch_log.proofs.Applying.{sound-applied}
use Rattle.log_sending.specs.Walk.{IsStepOver, left_of, most_change_bytes, most_changes, taken_first, walk}
use Rattle.log_sending.specs.declared.walking.Walker.{Walker}

-- ---- one step of the definition

eqb-some : (n : ℕ) → 0 < n → eqb n 0 ≡ false
eqb-some n some = ne_eqb n 0 (λ same. omega (arith, same, some))

walk-none : (epoch : ℕ) (table : Table) (many left : ℕ) (queue : List Change) → many ≡ 0 → walk epoch table many left queue ≡ []
unfolding walk
walk-none epoch table many left [] none = refl
walk-none epoch table many left (change ∷ queue) none =
    ap (λ n. cond (eqb n 0) [] (taken_first (judge_ripe table change) change left (walk epoch table many left queue)
    (λ manner. walk epoch (taking_change table epoch change manner) (many - 1) (left - length (change_text change)) queue))) none

-- by how the first change is judged, where one more may be taken
walk-first : (epoch : ℕ) (table : Table) (many left : ℕ) (change : Change) (queue : List Change) (answer : Result Manner ChangeRefusal) → 0 < many
    → judge_ripe table change ≡ answer
    → walk epoch table many left (change ∷ queue)
    ≡ taken_first answer change left (walk epoch table many left queue) (λ manner. walk epoch (taking_change table epoch change manner) (many - 1) (left - length (change_text change)) queue)
unfolding walk
walk-first epoch table many left change queue answer some is =
    ap (λ b. cond b [] (taken_first (judge_ripe table change) change left (walk epoch table many left queue)
    (λ manner. walk epoch (taking_change table epoch change manner) (many - 1) (left - length (change_text change)) queue))) (eqb-some many some)
    ∙ ap (λ a. taken_first a change left (walk epoch table many left queue)
    (λ manner. walk epoch (taking_change table epoch change manner) (many - 1) (left - length (change_text change)) queue)) is

walk-over : (epoch : ℕ) (table : Table) (many left : ℕ) (change : Change) (queue : List Change) (refusal : ChangeRefusal) → judge_ripe table change ≡ Err refusal
    → walk epoch table many left (change ∷ queue) ≡ walk epoch table many left queue
walk-over epoch table zero left change queue refusal is = walk-none epoch table zero left (change ∷ queue) refl ∙ sym (walk-none epoch table zero left queue refl)
walk-over epoch table (suc many) left change queue refusal is = walk-first epoch table (suc many) left change queue (Err refusal) (omega arith) is

walk-stop : (epoch : ℕ) (table : Table) (many left : ℕ) (change : Change) (queue : List Change) (manner : Manner) → 0 < many → left < length (change_text change)
    → judge_ripe table change ≡ Ok manner → walk epoch table many left (change ∷ queue) ≡ []
walk-stop epoch table many left change queue manner some long is =
    walk-first epoch table many left change queue (Ok manner) some is
    ∙ ap (λ b. cond b (change ∷ walk epoch (taking_change table epoch change manner) (many - 1) (left - length (change_text change)) queue) []) (lt-leb (length (change_text change)) left long)

walk-take : (epoch : ℕ) (table : Table) (many left : ℕ) (change : Change) (queue : List Change) (manner : Manner) → 0 < many → length (change_text change) ≤ left
    → judge_ripe table change ≡ Ok manner
    → walk epoch table many left (change ∷ queue) ≡ change ∷ walk epoch (taking_change table epoch change manner) (many - 1) (left - length (change_text change)) queue
walk-take epoch table many left change queue manner some short is =
    walk-first epoch table many left change queue (Ok manner) some is
    ∙ ap (λ b. cond b (change ∷ walk epoch (taking_change table epoch change manner) (many - 1) (left - length (change_text change)) queue) []) (le-leb (length (change_text change)) left short)

-- ---- a step of the walk

stays : (w : Walker) (change : Change) → IsSound w.table → ((queue : List Change) → left_of w queue ≡ left_of w (change ∷ queue)) → IsStepOver change w w
stays w change sound same = record {
  epoch = refl;
  sound = sound;
  takes = λ queue. ap (λ l. w.taken.items ++ l) (same queue);
  leads = λ queue. ap (apply w.table w.epoch) (same queue);
}

-- where no more may be taken, or the change is refused, the walk stands as it did
pub over-none : (w : Walker) (change : Change) → IsSound w.table → w.many ≡ 0 → IsStepOver change w w
over-none w change sound none = stays w change sound (λ queue.
    walk-none w.epoch (ripen w.table w.epoch) w.many w.left queue none ∙ sym (walk-none w.epoch (ripen w.table w.epoch) w.many w.left (change ∷ queue) none))

over-answer : (w : Walker) (change : Change) (answer : Result Manner ChangeRefusal) (refusal : ChangeRefusal) → IsSound w.table → judge w.table w.epoch change ≡ answer
    → Err refusal ≡ answer_of answer → IsStepOver change w w
over-answer w change (Ok manner) refusal sound is bad = absurd cc
over-answer w change (Err refused) refusal sound is bad = stays w change sound (λ queue. sym (walk-over w.epoch (ripen w.table w.epoch) w.many w.left change queue refused is))

pub over-refused : (w : Walker) (change : Change) (refusal : ChangeRefusal) → IsSound w.table → Err refusal ≡ answer_of (judge w.table w.epoch change) → IsStepOver change w w
over-refused w change refusal sound is = over-answer w change (judge w.table w.epoch change) refusal sound refl is

-- the same of a walk that stands so, where applying the change left the table as it was
pub over-refused-by : (w : Walker) (table : Table) (change : Change) (refusal : ChangeRefusal) → IsSound w.table → table ≡ w.table → judge w.table w.epoch change ≡ Err refusal
    → IsStepOver change w (record { epoch = w.epoch; table = table; taken = w.taken; many = w.many; left = w.left })
over-refused-by w table change refusal sound same is =
    subst (λ (t : Table). IsStepOver change w (record { epoch = w.epoch; table = t; taken = w.taken; many = w.many; left = w.left })) (sym same)
    (over-refused w change refusal sound (sym (ap answer_of is)))

-- an answer that is not refused
pub accepted : (answer : Result Manner ChangeRefusal) → Ok tt ≡ answer_of answer → IsOk answer
accepted (Ok manner) is = refl
accepted (Err refusal) is = absurd cc

manner-in : (answer : Result Manner ChangeRefusal) → IsOk answer → (manner : Manner) × (answer ≡ Ok manner)
manner-in (Ok manner) ok = (manner, refl)
manner-in (Err refusal) ok = absurd cc

-- one that is too long ends the walk
pub over-long : (w after : Walker) (change : Change) → IsSound w.table → 0 < w.many → w.left < length (change_text change) → IsOk (judge w.table w.epoch change)
    → after.epoch ≡ w.epoch → after.table ≡ w.table → after.taken ≡ w.taken → after.many ≡ 0 → IsStepOver change w after
over-long w after change sound some long ok epochs tables took none =
    let m = manner-in (judge w.table w.epoch change) ok in
    let nothing : (queue : List Change) → left_of after queue ≡ left_of w (change ∷ queue) = λ queue.
    walk-none after.epoch (ripen after.table after.epoch) after.many after.left queue none
    ∙ sym (walk-stop w.epoch (ripen w.table w.epoch) w.many w.left change queue m.0 some long m.1) in
    record {
      epoch = epochs;
      sound = subst IsSound (sym tables) sound;
      takes = λ queue. ap (λ l. after.taken.items ++ l) (nothing queue) ∙ ap (λ t. t.items ++ left_of w (change ∷ queue)) took;
      leads = λ queue. ap (apply after.table after.epoch) (nothing queue) ∙ ap (λ t. apply t after.epoch (left_of w (change ∷ queue))) tables ∙ ap (λ e. apply w.table e (left_of w (change ∷ queue))) epochs;
    }

taken-alone : (t after : Table) (e : ℕ) (change : Change) (manner : Manner) → judge t e change ≡ Ok manner → Some after ≡ apply t e (change ∷ []) → after ≡ taking_change (ripen t e) e change manner
unfolding apply_each
taken-alone t after e change manner is behind =
    ap (λ o. unwrap_or o after) (behind ∙ ap (λ answer. option_and_then (λ u. apply_each u e []) (after_answer (ripen t e) e change answer)) is)

-- what leads to a table was taken
taken-ok : (t after : Table) (e : ℕ) (change : Change) → Some after ≡ apply t e (change ∷ []) → IsOk (judge t e change)
unfolding apply_each
taken-ok t after e change behind = by (judge t e change) behind
  where
    by : (answer : Result Manner ChangeRefusal) → Some after ≡ option_and_then (λ u. apply_each u e []) (after_answer (ripen t e) e change answer) → IsOk answer
    by (Ok manner) is = refl
    by (Err refusal) is = absurd cc

sound-ripe : (t : Table) (e : ℕ) → e < 2 ^ 64 → IsSound t → IsSound (ripen t e)
unfolding apply_each
sound-ripe t e low sound = sound-applied t (ripen t e) e [] low sound (All-nil IsChange) refl

-- what is taken has nothing more to ripen
ripe-still : (t : Table) (e : ℕ) (change : Change) (manner : Manner) → e < 2 ^ 64 → IsSound t → judge t e change ≡ Ok manner
    → ripen (taking_change (ripen t e) e change manner) e ≡ taking_change (ripen t e) e change manner
ripe-still t e change manner low sound is =
    ripen_none (taking_change (ripen t e) e change manner) e
    (still_none (ripen t e) e change manner (sound-ripe t e low sound) (judged (ripen t e) change manner is) (ripened_once t e))

-- one that is taken
pub over-taken : (w after : Walker) (change : Change) (len : ℕ) → w.epoch < 2 ^ 64 → IsSound w.table → IsChange change → len ≡ length (change_text change)
    → 0 < w.many → len ≤ w.left → IsOk (judge w.table w.epoch change)
    → after.epoch ≡ w.epoch → Some after.table ≡ apply w.table w.epoch (change ∷ []) → after.taken.items ≡ w.taken.items ++ change ∷ []
    → after.many + 1 ≡ w.many → after.left + len ≡ w.left → IsStepOver change w after
over-taken w after change len low sound is-change size some short ok epochs behind took fewer less =
    let e : ℕ = w.epoch in
    let m = manner-in (judge w.table e change) ok in
    let ripe : Table = taking_change (ripen w.table e) e change m.0 in
    let table : after.table ≡ ripe = taken-alone w.table after.table e change m.0 m.1 behind in
    let still : ripen after.table after.epoch ≡ ripe = ap (ripen after.table) epochs ∙ ap (λ t. ripen t e) table ∙ ripe-still w.table e change m.0 low sound m.1 in
    let many : after.many ≡ w.many - 1 = omega (arith, fewer) in
    let left : after.left ≡ w.left - length (change_text change) = omega (arith, less, size) in
    let rest : (queue : List Change) → left_of w (change ∷ queue) ≡ change ∷ left_of after queue = λ queue.
    walk-take e (ripen w.table e) w.many w.left change queue m.0 some (omega (arith, short, size)) m.1
    ∙ sym (ap (λ n. change ∷ walk n (ripen after.table after.epoch) after.many after.left queue) epochs
    ∙ ap (λ t. change ∷ walk e t after.many after.left queue) still
    ∙ ap (λ n. change ∷ walk e ripe n after.left queue) many
    ∙ ap (λ n. change ∷ walk e ripe (w.many - 1) n queue) left) in
    record {
      epoch = epochs;
      sound = sound-applied w.table after.table e (change ∷ []) low sound (All-cons IsChange change [] is-change (All-nil IsChange)) (sym behind);
      takes = λ queue. ap (λ l. l ++ left_of after queue) took ∙ append_assoc w.taken.items (change ∷ []) (left_of after queue) ∙ ap (λ l. w.taken.items ++ l) (sym (rest queue));
      leads = λ queue. ap (λ n. apply after.table n (left_of after queue)) epochs
          ∙ ap (option_and_then (λ u. apply u e (left_of after queue))) behind
          ∙ sym (one_by_one w.table e change (left_of after queue) sound) ∙ ap (apply w.table e) (sym (rest queue));
    }

-- the table behind a change that it took is the one to which the change alone leads
pub over-taken-ok : (w after : Walker) (taken : Table) (change : Change) (len : ℕ) (r : Result (Unit {0}) AllocError) → w.epoch < 2 ^ 64 → IsSound w.table → IsChange change → len ≡ length (change_text change)
    → 0 < w.many → len ≤ w.left → Some taken ≡ apply w.table w.epoch (change ∷ [])
    → OnOk r (after.epoch ≡ w.epoch) → OnOk r (after.table ≡ taken) → OnOk r (after.taken.items ≡ w.taken.items ++ change ∷ [])
    → OnOk r (after.many + 1 ≡ w.many) → OnOk r (after.left + len ≡ w.left) → OnOk r (IsStepOver change w after)
over-taken-ok w after taken change len (Ok u) low sound is-change size some short behind epochs table took fewer less =
    over-taken w after change len low sound is-change size some short (taken-ok w.table taken w.epoch change behind) epochs (ap (λ t. Some t) table ∙ behind) took fewer less
over-taken-ok w after taken change len (Err error) low sound is-change size some short behind epochs table took fewer less = tt

-- ---- the whole walk

-- behind the last change nothing more is taken, and the table only ripens
pub over-end : (w : Walker) (queue : List Change) → length queue < 1
    → (w.taken.items ≡ w.taken.items ++ left_of w queue) × (apply w.table w.epoch (left_of w queue) ≡ Some (ripen w.table w.epoch))
unfolding walk apply_each
over-end w [] none = (sym (append-nil w.taken.items), refl)
over-end w (change ∷ queue) none = absurd (omega (arith, none))

pub over-rest : (w next last : Walker) (change : Change) (queue : List Change) → IsStepOver change w next
    → last.taken.items ≡ next.taken.items ++ left_of next queue → apply next.table next.epoch (left_of next queue) ≡ Some (ripen last.table next.epoch)
    → (last.taken.items ≡ w.taken.items ++ left_of w (change ∷ queue)) × (apply w.table w.epoch (left_of w (change ∷ queue)) ≡ Some (ripen last.table w.epoch))
over-rest w next last change queue step took leads =
    (took ∙ step.takes queue, sym (step.leads queue) ∙ leads ∙ ap (λ e. Some (ripen last.table e)) step.epoch)

-- the whole walk, from a table on which nothing is taken yet
pub walked : (w last : Walker) (queue : List Change) (after : Table) → w.taken.items ≡ [] → w.many ≡ most_changes → w.left ≡ most_change_bytes
    → last.taken.items ≡ w.taken.items ++ left_of w queue → apply w.table w.epoch (left_of w queue) ≡ Some (ripen last.table w.epoch)
    → after ≡ ripen last.table w.epoch
    → (last.taken.items ≡ walk w.epoch (ripen w.table w.epoch) most_changes most_change_bytes queue)
    × (root_of after ≡ root_of (unwrap_or (apply w.table w.epoch last.taken.items) w.table))
walked w last queue after none many left took leads behind =
    let mine : last.taken.items ≡ left_of w queue = took ∙ ap (λ l. l ++ left_of w queue) none in (
      mine ∙ ap (λ n. walk w.epoch (ripen w.table w.epoch) n w.left queue) many ∙ ap (λ n. walk w.epoch (ripen w.table w.epoch) most_changes n queue) left,
      sym (ap (λ l. root_of (unwrap_or (apply w.table w.epoch l) w.table)) mine ∙ ap (λ o. root_of (unwrap_or o w.table)) leads ∙ ap root_of (sym behind)),
    )
