-- What each thing that a log signs keeps of where it stands.
use Rattle.std.proofs.Common.{◌≡◌, ◌≢◌, ℕ, suc, ◌+◌, ◌-◌, List, [], ◌∷◌, length, get_or, refl, sym, ap, ◌∙◌, subst, arith, true, ◌==◌, eqb, Option, Some, None}
use Rattle.std.specs.Prelude.{All, IfSome}
use Rattle.std.specs.Option.{option_map}
use Rattle.std.proofs.lemmas.Bool.{eq-eqb, eqb-true}
use Rattle.std.proofs.lemmas.List.Elements.{All-contains}
use Rattle.key_roll.specs.Entry.{MayRoll}
use Rattle.ar_cert.specs.Changes.{Change}
use Rattle.vote_quorum.specs.declared.value.Value.{Value}
use Rattle.ar_council.proofs.Lists.{find-nothing, find-some}
use Rattle.ar_council.specs.Room.{HasRoom}
use Rattle.ar_statement.specs.Ranges.{IsValue}
use Rattle.epoch_log.specs.Calls.{MayConfirm, MayState, after_confirm, after_roll, casting, confirmation_text, confirmed_of, own_status_text, own_value, own_vote_text, proposing, stating, vote_of}
use Rattle.epoch_log.specs.Ending.{own_vote}
use Rattle.epoch_log.specs.Record.{base_of}
use Rattle.epoch_log.specs.Right.{FitsVotes, IsRightConfirmation, IsRightVote, newest_digest}
use Rattle.epoch_log.specs.State.{IsKeptLog, KeepsNewest, IsNewestDecision, LogState, epoch_of, table_of}
use Rattle.epoch_log.specs.Told.{value_of}
use Rattle.epoch_log.specs.declared.entries.How.TheVariants.{Decided}
use Rattle.epoch_log.specs.declared.entries.Newest.{Newest}
use Rattle.epoch_log.specs.declared.entries.Voted.{Voted}
use Rattle.epoch_log.proofs.Closings.{honest-confirming}
use Rattle.epoch_log.proofs.Endings.{base-newest, ending-within}
use Rattle.epoch_log.proofs.Growing.{honest-casting, honest-proposing, honest-rolling, honest-stating}
use Rattle.epoch_log.proofs.Texts.{a-roll, names-generation, plain-confirm, plain-propose, plain-status, plain-vote, valid-confirm, valid-propose, valid-roll, valid-status, valid-vote}

pub kept-casting : (s : LogState) (value : Value) (changes : List Change) → IsKeptLog s → All (λ w. w.epoch ≢ epoch_of s) s.past.voted → All (λ t. t.epoch ≢ epoch_of s) s.past.stated
    → IsRightVote s.past.seen s.past.ended (vote_of s value changes) → HasRoom s.past.signed (own_vote_text s value ∷ []) → IsKeptLog (casting s (vote_of s value changes))
kept-casting s value changes kept not-voted not-stated right room = record {
  number = kept.number;
  honest = honest-casting s.council s.me s.past (vote_of s value changes) kept.honest refl not-voted not-stated right
      (valid-vote s.me (length s.past.ended) value kept.number kept.honest.ends_in_order.in_range right.are_digests) (plain-vote s.me (epoch_of s) value) room;
  votes = kept.votes;
  statuses = kept.statuses;
  newest = kept.newest;
}

pub kept-proposing : (s : LogState) (value : Value) → IsKeptLog s → IsValue value → IsKeptLog (proposing s value)
kept-proposing s value kept are = record {
  number = kept.number;
  honest = honest-proposing s.council s.me s.past (epoch_of s) value.base value.root kept.honest
      (valid-propose s.me (length s.past.ended) value kept.number kept.honest.ends_in_order.in_range are) (plain-propose s.me (epoch_of s) value.base value.root);
  votes = kept.votes;
  statuses = kept.statuses;
  newest = kept.newest;
}

-- what the log states of the epoch fits its votes, and is of digests
own-fits : (s : LogState) (own : Option Voted) → own_vote s.past.voted (epoch_of s) ≡ own → FitsVotes s.past.voted (epoch_of s) (option_map value_of own)
own-fits s None is = λ k d less same.
    let fails = find-nothing (λ (v : Voted). v.epoch == epoch_of s) s.past.voted is k d less in
    let passes : eqb (get_or s.past.voted k d).epoch (epoch_of s) ≡ true = eq-eqb (get_or s.past.voted k d).epoch (epoch_of s) same in absurd cc
own-fits s (Some v) is =
    let there = find-some (λ (w : Voted). w.epoch == epoch_of s) s.past.voted v is in
    (v, (there.0, eqb-true v.epoch (epoch_of s) there.1, refl, refl))

own-digests : (s : LogState) → IsKeptLog s → (own : Option Voted) → own_vote s.past.voted (epoch_of s) ≡ own → IfSome (option_map value_of own) IsValue
own-digests s kept None is = tt
own-digests s kept (Some v) is =
    let there = find-some (λ (w : Voted). w.epoch == epoch_of s) s.past.voted v is in
    (All-contains (IsRightVote s.past.seen s.past.ended) s.past.voted v kept.honest.votes_rightly there.0).are_digests

pub own-value : (s : LogState) → IsKeptLog s → IfSome (own_value s) IsValue
own-value s kept = own-digests s kept (own_vote s.past.voted (epoch_of s)) refl

pub kept-stating : (s : LogState) → IsKeptLog s → MayState s → HasRoom s.past.signed (own_status_text s ∷ []) → IsKeptLog (stating s)
kept-stating s kept may room = record {
  number = kept.number;
  honest = honest-stating s.council s.me s.past (record { epoch = epoch_of s; value = own_value s }) kept.honest refl may (own-fits s (own_vote s.past.voted (epoch_of s)) refl)
      (valid-status s.me (length s.past.ended) (own_value s) kept.number kept.honest.ends_in_order.in_range (own-value s kept)) (plain-status s.me (epoch_of s) (own_value s)) room;
  votes = kept.votes;
  statuses = kept.statuses;
  newest = kept.newest;
}

right-confirmation : (s : LogState) (w : Newest) (name : List ℕ) → IsKeptLog s → IsNewestDecision s.council s.past.seen s.past.ended w → IsRightConfirmation s.past.ended (confirmed_of s w name)
right-confirmation s w name kept is =
    let within = ending-within s.past.ended kept.honest.ends_in_order w.epoch (Decided is.changes w.root) is.decided in
    let n : ℕ = length s.past.ended - w.epoch in
    let now : suc w.epoch + n ≡ epoch_of s = omega (arith, within.1) in
    let next : suc w.epoch ≡ w.epoch + 1 = omega arith in
    let same : table_of s ≡ base_of s.past.ended (w.epoch + 1) = ap (base_of s.past.ended) (sym now) ∙ base-newest s.past.ended w.epoch n is.last ∙ ap (base_of s.past.ended) next in
    record { changes = is.changes; decided = is.decided; newest = ap (λ t. newest_digest t name) same }

pub kept-confirming : (s : LogState) (w : Newest) (name : List ℕ) → IsKeptLog s → MayConfirm s w name → HasRoom s.past.signed (confirmation_text s w name ∷ []) → IsKeptLog (after_confirm s w name)
kept-confirming s w name kept may room =
    let is : IsNewestDecision s.council s.past.seen s.past.ended w = subst (KeepsNewest s.council s.past.seen s.past.ended) may.is_newest kept.newest in
    let within = ending-within s.past.ended kept.honest.ends_in_order w.epoch (Decided is.changes w.root) is.decided in
    let certificate : Option (List ℕ) = newest_digest (table_of s) name in
    record {
      number = kept.number;
      honest = honest-confirming s.council s.me s.past (confirmed_of s w name) kept.honest (right-confirmation s w name kept is)
          (valid-confirm s.me w.epoch name certificate w.root kept.number within.0 (omega (arith, within.1, kept.honest.ends_in_order.in_range)) may.is_name may.certificate may.root)
          (plain-confirm s.me w.epoch name certificate w.root) room;
      votes = kept.votes;
      statuses = kept.statuses;
      newest = kept.newest;
    }

pub kept-rolling : (s : LogState) (key : List ℕ) → IsKeptLog s → MayRoll s.past.signed key → IsKeptLog (after_roll s key)
kept-rolling s key kept may = record {
  number = kept.number;
  honest = honest-rolling s.council s.me s.past key kept.honest (valid-roll s.me s.past.signed.newest key kept.number may.not_last may.is_key may.readable)
      (a-roll s.me s.past.signed.newest key) (names-generation s.me s.past.signed.newest key may.not_last) may.not_last;
  votes = kept.votes;
  statuses = kept.statuses;
  newest = kept.newest;
}
