-- Two statements of an honest log contradict each other by none of the rules.
use Rattle.std.proofs.Common.{◌≡◌, ℕ, ◌+◌, ◌==◌, List, refl, sym, ap, ◌∙◌, subst, Bool, true, false, not, ◌&&◌, ◌||◌, Option, Some, None}
use Rattle.std.specs.Str.{bytes_eq}
use Rattle.std.proofs.lemmas.Bool.{and_parts, eqb-true}
use Rattle.std.proofs.lemmas.List.Elements.{All-contains}
use Rattle.std.proofs.lemmas.Option.{same_Some}
use Rattle.std.proofs.lemmas.Slice.Eq.{bytes_eq-Decides}
use Rattle.ar_statement.specs.declared.party.Party.{Party}
use Rattle.ar_statement.specs.Claims.{Claim, confirmation_by, log_party, status, vote}
use Rattle.vote_quorum.specs.declared.value.Value.{Value}
use Rattle.ar_council.specs.Council.{Council}
use Rattle.epoch_log.specs.Honest.{IsOfHonestLog}
use Rattle.epoch_log.specs.Record.{LogRecord, base_of, ending}
use Rattle.epoch_log.specs.Right.{IsRightConfirmation, newest_digest}
use Rattle.epoch_log.specs.Told.{HasConfirmed, HasStated, HasVoted, ToldByLog}
use Rattle.epoch_log.specs.declared.entries.How.{How}
use Rattle.epoch_log.specs.declared.entries.How.TheVariants.{Decided}
use Rattle.epoch_log.specs.declared.entries.Stated.{Stated}
use Rattle.epoch_log.proofs.Read.{one-of, one-vote, status-is-vote}
use Rattle.monitor.specs.Rules.{are_confirmations, are_statuses, are_votes, confirmation_in, is_denied, is_of_log, is_value, status_in, vote_in}
use Rattle.monitor.proofs.Shown.{a-confirmation, a-status, a-vote, both}

-- ---- what the record tells of a statement

told-vote : (me : ℕ) (r : LogRecord) (claim : Claim) (log epoch : ℕ) (value : Value) → claim ≡ vote log epoch value.base value.root → ToldByLog me r.voted r.stated r.confirmed claim
    → (log ≡ me) × HasVoted r.voted epoch value
unfolding ToldByLog
told-vote me r claim log epoch value is t = subst (ToldByLog me r.voted r.stated r.confirmed) is t

told-status : (me : ℕ) (r : LogRecord) (claim : Claim) (log epoch : ℕ) (value : Option Value) → claim ≡ status log epoch value → ToldByLog me r.voted r.stated r.confirmed claim
    → (log ≡ me) × HasStated r.stated epoch value
unfolding ToldByLog
told-status me r claim log epoch value is t = subst (ToldByLog me r.voted r.stated r.confirmed) is t

told-confirmation : (me : ℕ) (r : LogRecord) (claim : Claim) (signer : Party) (epoch : ℕ) (name : List ℕ) (certificate : Option (List ℕ)) (root : List ℕ)
    → claim ≡ confirmation_by signer epoch name certificate root → ToldByLog me r.voted r.stated r.confirmed claim
    → (signer ≡ log_party me) × HasConfirmed r.confirmed epoch name certificate root
unfolding ToldByLog
told-confirmation me r claim signer epoch name None root is t = subst (ToldByLog me r.voted r.stated r.confirmed) is t
told-confirmation me r claim signer epoch name (Some certificate) root is t = subst (ToldByLog me r.voted r.stated r.confirmed) is t

-- ---- votes and statuses

-- two votes of one epoch are one
pub one-ballot : (council : Council) (me : ℕ) (r : LogRecord) (one other : Claim) → IsOfHonestLog council me r → ToldByLog me r.voted r.stated r.confirmed one → ToldByLog me r.voted r.stated r.confirmed other
    → are_votes one other ≡ true → one ≡ other
one-ballot council me r one other h told told-other e =
    let found = both (λ (v w : ℕ × Value). v.0 == w.0) (vote_in one) (vote_in other) e in
    let v : ℕ × Value = found.0 in
    let w : ℕ × Value = found.1 in
    let is-v = a-vote one v found.2 in
    let is-w = a-vote other w found.3 in
    let epoch : v.0 ≡ w.0 = eqb-true v.0 w.0 found.4 in
    let has-v = told-vote me r one is-v.0 v.0 v.1 is-v.1 told in
    let has-w = told-vote me r other is-w.0 w.0 w.1 is-w.1 told-other in
    let log : is-v.0 ≡ is-w.0 = has-v.0 ∙ sym has-w.0 in
    let value : v.1 ≡ w.1 = one-vote council me r w.0 v.1 w.1 h (subst (λ k. HasVoted r.voted k v.1) epoch has-v.1) has-w.1 in
    let base : v.1.base ≡ w.1.base = ap (λ (x : Value). x.base) value in
    let root : v.1.root ≡ w.1.root = ap (λ (x : Value). x.root) value in
    let same : vote is-v.0 v.0 v.1.base v.1.root ≡ vote is-w.0 w.0 w.1.base w.1.root = λ i. vote (log i) (epoch i) (base i) (root i) in
    is-v.1 ∙ same ∙ sym is-w.1

-- a status of an epoch says what the vote of the epoch is for
pub not-denied : (council : Council) (me : ℕ) (r : LogRecord) (one other : Claim) → IsOfHonestLog council me r → ToldByLog me r.voted r.stated r.confirmed one → ToldByLog me r.voted r.stated r.confirmed other
    → is_denied one other ≡ true → ⊥
not-denied council me r one other h told told-other e =
    let found = both (λ (v : ℕ × Value) (s : ℕ × Option Value). v.0 == s.0 && not (is_value s.1 v.1)) (vote_in one) (status_in other) e in
    let v : ℕ × Value = found.0 in
    let s : ℕ × Option Value = found.1 in
    let is-v = a-vote one v found.2 in
    let is-s = a-status other s found.3 in
    let parts = and_parts (v.0 == s.0) (not (is_value s.1 v.1)) found.4 in
    let epoch : v.0 ≡ s.0 = eqb-true v.0 s.0 parts.0 in
    let has-v = told-vote me r one is-v.0 v.0 v.1 is-v.1 told in
    let has-s = told-status me r other is-s.0 s.0 s.1 is-s.1 told-other in
    let value : s.1 ≡ Some v.1 =
    status-is-vote council me r s.0 s.1 v.1 h has-s.1 (subst (λ k. HasVoted r.voted k v.1) epoch has-v.1) in
    by s.1 v.1 value parts.1
  where
    by : (o : Option Value) (voted : Value) → o ≡ Some voted → not (is_value o voted) ≡ true → ⊥
    by None voted is e = absurd cc
    by (Some x) voted is e =
        let same : x ≡ voted = same_Some x voted is in
        let base : bytes_eq x.base voted.base ≡ true = (bytes_eq-Decides x.base voted.base).1 (ap (λ (y : Value). y.base) same) in
        let root : bytes_eq x.root voted.root ≡ true = (bytes_eq-Decides x.root voted.root).1 (ap (λ (y : Value). y.root) same) in
        let no : not (true && true) ≡ true = subst (λ b. not (b && true) ≡ true) base (subst (λ b. not (bytes_eq x.base voted.base && b) ≡ true) root e) in
        cc

-- two statuses of one epoch are one
pub one-status : (council : Council) (me : ℕ) (r : LogRecord) (one other : Claim) → IsOfHonestLog council me r → ToldByLog me r.voted r.stated r.confirmed one → ToldByLog me r.voted r.stated r.confirmed other
    → are_statuses one other ≡ true → one ≡ other
one-status council me r one other h told told-other e =
    let found = both (λ (s t : ℕ × Option Value). s.0 == t.0) (status_in one) (status_in other) e in
    let s : ℕ × Option Value = found.0 in
    let t : ℕ × Option Value = found.1 in
    let is-s = a-status one s found.2 in
    let is-t = a-status other t found.3 in
    let epoch : s.0 ≡ t.0 = eqb-true s.0 t.0 found.4 in
    let has-s = told-status me r one is-s.0 s.0 s.1 is-s.1 told in
    let has-t = told-status me r other is-t.0 t.0 t.1 is-t.1 told-other in
    let log : is-s.0 ≡ is-t.0 = has-s.0 ∙ sym has-t.0 in
    let entry-s : Stated = record { epoch = s.0; value = s.1 } in
    let entry-t : Stated = record { epoch = t.0; value = t.1 } in
    let entry : entry-s ≡ entry-t = one-of (λ (x : Stated). x.epoch) r.stated entry-s entry-t h.states_its_vote.once has-s.1 has-t.1 epoch in
    let value : s.1 ≡ t.1 = ap (λ (x : Stated). x.value) entry in
    let same : status is-s.0 s.0 s.1 ≡ status is-t.0 t.0 t.1 = λ i. status (log i) (epoch i) (value i) in
    is-s.1 ∙ same ∙ sym is-t.1

-- ---- confirmations

-- two confirmations for one epoch have one root, and those of one name are one
pub one-answer : (council : Council) (me : ℕ) (r : LogRecord) (one other : Claim) → IsOfHonestLog council me r → ToldByLog me r.voted r.stated r.confirmed one → ToldByLog me r.voted r.stated r.confirmed other
    → are_confirmations one other ≡ true → one ≡ other
one-answer council me r one other h told told-other e =
    let found = both differ (confirmation_in one) (confirmation_in other) (and_parts (is_of_log one) _ e).1 in
    let c = found.0 in
    let d = found.1 in
    let is-c = a-confirmation one c found.2 in
    let is-d = a-confirmation other d found.3 in
    let parts = and_parts (c.0 == d.0) (not (bytes_eq c.1.1 d.1.1) || bytes_eq c.1.0 d.1.0) found.4 in
    let epoch : c.0 ≡ d.0 = eqb-true c.0 d.0 parts.0 in
    let has-c = told-confirmation me r one is-c.0 c.0 c.1.0 is-c.1 c.1.1 is-c.2 told in
    let has-d = told-confirmation me r other is-d.0 d.0 d.1.0 is-d.1 d.1.1 is-d.2 told-other in
    let right-c = right c.0 c.1.0 is-c.1 c.1.1 has-c.1 in
    let right-d = right d.0 d.1.0 is-d.1 d.1.1 has-d.1 in
    let decided : Decided right-c.changes c.1.1 ≡ Decided right-d.changes d.1.1 =
    same_Some {A = How} (Decided right-c.changes c.1.1) (Decided right-d.changes d.1.1) (sym right-c.decided ∙ ap (ending r.ended) epoch ∙ right-d.decided) in
    let root : c.1.1 ≡ d.1.1 = cc in
    let name : c.1.0 ≡ d.1.0 = (bytes_eq-Decides c.1.0 d.1.0).0 (named (bytes_eq c.1.1 d.1.1) (bytes_eq c.1.0 d.1.0) ((bytes_eq-Decides c.1.1 d.1.1).1 root) parts.1) in
    let certificate : is-c.1 ≡ is-d.1 = right-c.newest ∙ (λ i. newest_digest (base_of r.ended (epoch i + 1)) (name i)) ∙ sym right-d.newest in
    let signer : is-c.0 ≡ is-d.0 = has-c.0 ∙ sym has-d.0 in
    let same : confirmation_by is-c.0 c.0 c.1.0 is-c.1 c.1.1 ≡ confirmation_by is-d.0 d.0 d.1.0 is-d.1 d.1.1 =
    λ i. confirmation_by (signer i) (epoch i) (name i) (certificate i) (root i) in
    is-c.2 ∙ same ∙ sym is-d.2
  where
    differ : ℕ × (List ℕ × List ℕ) → ℕ × (List ℕ × List ℕ) → Bool
    differ c d = c.0 == d.0 && (not (bytes_eq c.1.1 d.1.1) || bytes_eq c.1.0 d.1.0)

    named : (root name : Bool) → root ≡ true → (not root || name) ≡ true → name ≡ true
    named true name is e = e
    named false name is e = absurd cc

    right : (epoch : ℕ) (name : List ℕ) (certificate : Option (List ℕ)) (root : List ℕ) → HasConfirmed r.confirmed epoch name certificate root
        → IsRightConfirmation r.ended (record { epoch = epoch; name = name; certificate = certificate; root = root })
    right epoch name certificate root has =
        All-contains (IsRightConfirmation r.ended) r.confirmed (record { epoch = epoch; name = name; certificate = certificate; root = root }) h.confirms_rightly has
