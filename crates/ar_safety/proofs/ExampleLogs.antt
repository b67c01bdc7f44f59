-- The records of the small runs' logs are honest.
use Rattle.std.proofs.Common.{◌≡◌, ◌≢◌, ℕ, zero, suc, ◌+◌, ◌<◌, ◌≤◌, inl, List, [], ◌∷◌, refl, sym, ap, ◌∙◌, subst, arith, false, Some, None}
use Rattle.std.specs.Prelude.{All, AllPairs, Contains, IfSome, map, slice_get, slice_index}
use Rattle.std.proofs.lemmas.List.Elements.{All-cons, All-map, All-nil}
use Rattle.ar_cert.specs.Changes.{IsChange}
use Rattle.ar_statement.specs.Claims.{Claim, log_party, text_of}
use Rattle.ar_statement.specs.Ranges.{IsTextOf, IsValue}
use Rattle.ar_statement.specs.declared.text.SeenText.{SeenText}
use Rattle.key_roll.specs.Book.{IsRollBook, empty_book}
use Rattle.key_roll.specs.Rolls.{is_roll}
use Rattle.key_roll.proofs.Books.{after_entry_keeps}
use Rattle.party_keys.specs.Seen.{Saw, seen_of}
use Rattle.vote_quorum.specs.Numbers.{distinct_count}
use Rattle.vote_quorum.specs.Statuses.{Status}
use Rattle.domain_table.specs.Tables.{no_table}
use Rattle.domain_table.specs.Tree.{root_of}
use Rattle.domain_table.proofs.Trees.{root-digest}
use Rattle.ar_council.proofs.Books.{empty-book}
use Rattle.ar_council.proofs.Texts.{own-text}
use Rattle.ar_council.specs.Council.{IsMember}
use Rattle.ar_council.specs.Values.{status_claim, vote_claim}
use Rattle.ar_council.specs.Votes.{SawVotes}
use Rattle.epoch_log.specs.Honest.{EndsInOrder, IsOfHonestLog}
use Rattle.epoch_log.specs.Record.{base_of, ending}
use Rattle.epoch_log.specs.Right.{FitsVotes, IsRightDecision, IsRightSkip, IsRightVote, LeadsTo}
use Rattle.epoch_log.specs.Told.{ToldByLog}
use Rattle.epoch_log.specs.declared.entries.Ended.{Ended}
use Rattle.epoch_log.specs.declared.entries.How.{How}
use Rattle.epoch_log.specs.declared.entries.How.TheVariants.{Decided, Skipped}
use Rattle.epoch_log.specs.declared.entries.Stated.{Stated}
use Rattle.epoch_log.specs.declared.entries.Voted.{Voted}
use Rattle.epoch_log.proofs.Endings.{ending-within}
use Rattle.epoch_log.proofs.Texts.{plain-status, plain-vote, valid-status, valid-vote}
use Rattle.authority_core.proofs.Growing.{map-has}
use Rattle.ar_safety.specs.Examples.{book_with, deciding_log, five, seen_statuses, seen_votes, skipping_log, unchanged}
use Rattle.ar_safety.proofs.Empty.{applied-none}

-- ---- one log

pub only : {X : Type 0} (P : X → Type 0) (x : X) → P x → All P (x ∷ [])
only P x p = All-cons P x [] p (All-nil P)

pub single : {X : Type 0} (R : X → X → Type 0) (x : X) → AllPairs R (x ∷ [])
single R x = λ i j d before within. absurd (omega (arith, before, within))

pub one-book : (claim : Claim) → is_roll (text_of claim) ≡ false → IsRollBook (book_with claim)
one-book claim plain = after_entry_keeps (empty_book 32) (text_of claim) (empty-book 32 (omega arith)) (inl plain)

pub value-fits : IsValue unchanged
value-fits = record { base = root-digest no_table; root = root-digest no_table }

-- the first epoch alone has ended
pub first-order : (how : How) → EndsInOrder (record { epoch = 1; how = how } ∷ [])
first-order how = record {
  in_order = λ k x at. by k x at;
  in_range = omega arith;
} where
  by : (k : ℕ) (x : Ended) → slice_get (record { epoch = 1; how = how } ∷ []) k ≡ Some x → x.epoch ≡ k + 1
  by zero x at = let same : record { epoch = 1; how = how } ≡ x = cc in sym (ap (λ (y : Ended). y.epoch) same)
  by (suc k) x at = absurd cc

pub first-ending : (how : How) → ending (record { epoch = 1; how = how } ∷ []) 1 ≡ Some how
unfolding ending
first-ending how = refl

pub first-is : (how other : How) (epoch : ℕ) → ending (record { epoch = 1; how = how } ∷ []) epoch ≡ Some other → (epoch ≡ 1) × (other ≡ how)
first-is how other epoch is =
    let within = ending-within (record { epoch = 1; how = how } ∷ []) (first-order how) epoch other is in
    let now : epoch ≡ 1 = omega (arith, within.0, within.1) in
    let same : Some other ≡ Some how = sym (subst (λ e. ending (record { epoch = 1; how = how } ∷ []) e ≡ Some other) now is) ∙ first-ending how in
    (now, cc)

pub base-one : (how : How) → base_of (record { epoch = 1; how = how } ∷ []) 1 ≡ no_table
unfolding base_of ending
base-one how = refl

-- ---- a log that decided

leads-none : (seen : List SeenText) (how : How) → LeadsTo seen 1 (base_of (record { epoch = 1; how = how } ∷ []) 1) [] (root_of no_table)
leads-none seen how = subst (λ t. LeadsTo seen 1 t [] (root_of no_table)) (sym (base-one how)) (record {
  reaches = record { table = no_table; applied = applied-none; is_root = refl };
  are_changes = All-nil IsChange;
  endorsed = λ k d less. absurd (omega (arith, less));
})

pub deciding-honest : (voters : List ℕ) (me : ℕ) → me < 5 → All (λ k. k < 5) voters → 4 ≤ distinct_count voters → IsOfHonestLog five me (deciding_log voters me)
unfolding ToldByLog
deciding-honest voters me small below many = record {
  ends_in_order = first-order end;
  votes_once = record { once = single (λ v w. v.epoch ≢ w.epoch) own; up_to_now = only (λ v. (1 ≤ v.epoch) × (v.epoch ≤ 2)) own (omega arith, omega arith) };
  states_its_vote = record { once = λ i j d before within. absurd (omega (arith, within)); up_to_now = λ k d less. absurd (omega (arith, less)); fits = λ k d less. absurd (omega (arith, less)) };
  votes_rightly = only (IsRightVote seen ended) own (record { are_digests = value-fits; from_base = ap root_of (sym (base-one end)); leads = leads-none seen end });
  decides_rightly = λ epoch changes to is.
      let f = first-is end (Decided changes to) epoch is in
      let same-changes : changes ≡ [] = cc in
      let same-root : to ≡ root_of no_table = cc in
      rw f.0 (rw same-changes (rw same-root right));
  skips_rightly = λ epoch statuses is. let f = first-is end (Skipped statuses) epoch is in absurd cc;
  confirms_rightly = λ k d less. absurd (omega (arith, less));
  signs_what_it_tells = record {
    sound = one-book (vote_claim me 1 unchanged) (plain-vote me 1 unchanged);
    told = only (IsTextOf (ToldByLog me (own ∷ []) [] [])) (text_of (vote_claim me 1 unchanged))
        (own-text (ToldByLog me (own ∷ []) [] []) (vote_claim me 1 unchanged) (valid-vote me 0 unchanged (omega (arith, small)) (omega arith) value-fits) (refl, (own, ((0, omega arith, refl), refl, refl))));
    votes = only (λ v. Contains (text_of (vote_claim me 1 unchanged) ∷ []) (text_of (vote_claim me v.epoch (record { base = v.base; root = v.root })))) own (0, omega arith, refl);
    statuses = λ k d less. absurd (omega (arith, less));
    confirmations = λ k d less. absurd (omega (arith, less));
  };
  sees_members = All-map (λ (s : SeenText). IsMember five s.party) (λ k. seen_of (log_party k) (vote_claim k 1 unchanged)) voters below;
} where
  end : How
  end = Decided [] (root_of no_table)

  own : Voted
  own = record { epoch = 1; base = root_of no_table; changes = []; root = root_of no_table }

  ended : List Ended
  ended = record { epoch = 1; how = end } ∷ []

  seen : List SeenText
  seen = seen_votes voters

  votes : SawVotes five seen 1 unchanged
  votes = record { numbers = voters; many = many; below = below; each = map-has (λ k. seen_of (log_party k) (vote_claim k 1 unchanged)) voters }

  right : IsRightDecision five seen ended 1 [] (root_of no_table)
  right = record {
    leads = leads-none seen end;
    votes = subst (λ t. SawVotes five seen 1 (record { base = root_of t; root = root_of no_table })) (sym (base-one end)) votes;
  }

-- ---- a log that skipped

pub four-below : (a b c d n : ℕ) → a < n → b < n → c < n → d < n → All (λ k. k < n) (a ∷ b ∷ c ∷ d ∷ [])
four-below a b c d n w x y z =
    All-cons (λ k. k < n) a (b ∷ c ∷ d ∷ []) w (All-cons (λ k. k < n) b (c ∷ d ∷ []) x (All-cons (λ k. k < n) c (d ∷ []) y (only (λ k. k < n) d z)))

right-skip : IsRightSkip five (seen_statuses (0 ∷ 1 ∷ 2 ∷ 4 ∷ [])) 1 (map (λ log. (log, None)) (0 ∷ 1 ∷ 2 ∷ 4 ∷ []))
right-skip = record {
  are_seen = record {
    of_logs = record { ascending = rises; below = four-below 0 1 2 4 5 (omega arith) (omega arith) (omega arith) (omega arith) };
    values = All-map (λ (s : Status). IfSome s.1 IsValue) (λ log. (log, None)) (0 ∷ 1 ∷ 2 ∷ 4 ∷ []) (λ k d less. tt);
    saw = All-map (λ (s : Status). Saw (seen_statuses (0 ∷ 1 ∷ 2 ∷ 4 ∷ [])) (log_party s.0) (status_claim s.0 1 s.1)) (λ log. (log, None)) (0 ∷ 1 ∷ 2 ∷ 4 ∷ [])
        (map-has (λ log. seen_of (log_party log) (status_claim log 1 None)) (0 ∷ 1 ∷ 2 ∷ 4 ∷ []));
  };
  excludes = λ to. omega arith;
} where
  rises : (k : ℕ) → k + 1 < 4 → slice_index (0 ∷ 1 ∷ 2 ∷ 4 ∷ []) k < slice_index (0 ∷ 1 ∷ 2 ∷ 4 ∷ []) (k + 1)
  rises zero less = omega arith
  rises (suc zero) less = omega arith
  rises (suc (suc zero)) less = omega arith
  rises (suc (suc (suc k))) less = absurd (omega (arith, less))

pub skipping-honest : IsOfHonestLog five 4 (skipping_log (0 ∷ 1 ∷ 2 ∷ 4 ∷ []) 4)
unfolding ToldByLog
skipping-honest = record {
  ends_in_order = first-order end;
  votes_once = record { once = λ i j d before within. absurd (omega (arith, within)); up_to_now = λ k d less. absurd (omega (arith, less)) };
  states_its_vote = record {
    once = single (λ s t. s.epoch ≢ t.epoch) own;
    up_to_now = only (λ s. (1 ≤ s.epoch) × (s.epoch ≤ 2)) own (omega arith, omega arith);
    fits = only (λ s. FitsVotes [] s.epoch s.value) own (λ k d less. absurd (omega (arith, less)));
  };
  votes_rightly = λ k d less. absurd (omega (arith, less));
  decides_rightly = λ epoch changes to is. let f = first-is end (Decided changes to) epoch is in absurd cc;
  skips_rightly = λ epoch others is.
      let f = first-is end (Skipped others) epoch is in
      let same : others ≡ map (λ log. (log, None)) (0 ∷ 1 ∷ 2 ∷ 4 ∷ []) = cc in
      rw f.0 (rw same right-skip);
  confirms_rightly = λ k d less. absurd (omega (arith, less));
  signs_what_it_tells = record {
    sound = one-book (status_claim 4 1 None) (plain-status 4 1 None);
    told = only (IsTextOf (ToldByLog 4 [] (own ∷ []) [])) (text_of (status_claim 4 1 None))
        (own-text (ToldByLog 4 [] (own ∷ []) []) (status_claim 4 1 None) (valid-status 4 0 None (omega arith) (omega arith) tt) (refl, (0, omega arith, refl)));
    votes = λ k d less. absurd (omega (arith, less));
    statuses = only (λ (s : Stated). Contains (text_of (status_claim 4 1 None) ∷ []) (text_of (status_claim 4 s.epoch s.value))) own (0, omega arith, refl);
    confirmations = λ k d less. absurd (omega (arith, less));
  };
  sees_members = All-map (λ (s : SeenText). IsMember five s.party) (λ log. seen_of (log_party log) (status_claim log 1 None)) (0 ∷ 1 ∷ 2 ∷ 4 ∷ [])
      (four-below 0 1 2 4 5 (omega arith) (omega arith) (omega arith) (omega arith));
} where
  end : How
  end = Skipped (map (λ log. (log, None)) (0 ∷ 1 ∷ 2 ∷ 4 ∷ []))

  own : Stated
  own = record { epoch = 1; value = None }
