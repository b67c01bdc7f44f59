-- Each thing that a record gets keeps it honest: what is seen, a vote, a status, an ending, a confirmation, a
-- proposal, a Roll.
use Rattle.std.proofs.Common.{◌≡◌, ◌≢◌, ℕ, ◌<◌, inl, List, [], ◌∷◌, ◌++◌, refl, sym, ap, ◌∙◌, subst, arith, true, false, Option, Some, None}
use Rattle.std.specs.Prelude.{All, Contains}
use Rattle.std.proofs.lemmas.List.Elements.{All-push, All-weaker, Contains-push}
use Rattle.std.proofs.lemmas.List.Quantifiers.{all_pairs_push}
use Rattle.ar_cert.specs.Certificate.{digest_of}
use Rattle.ar_cert.specs.Changes.{Change}
use Rattle.ar_cert.specs.Judging.{endorsers_of}
use Rattle.ar_statement.specs.Claims.{Claim, authority_party, endorse, handover, log_party, propose, vote, confirm, confirm_absent, answer, status, roll, object, text_of}
use Rattle.ar_statement.specs.Ranges.{IsTextOf, IsValid}
use Rattle.ar_statement.specs.declared.text.SeenText.{SeenText}
use Rattle.key_roll.specs.Book.{RollBook, texts_of}
use Rattle.key_roll.specs.Entry.{after_entry, with_roll}
use Rattle.key_roll.specs.Rolls.{is_roll, named_generation}
use Rattle.key_roll.proofs.Books.{after_entry_keeps, roll_keeps}
use Rattle.party_keys.specs.Seen.{Saw}
use Rattle.vote_quorum.specs.Statuses.{Status}
use Rattle.vote_quorum.specs.declared.value.Value.{Value}
use Rattle.domain_table.specs.Tables.{Table}
use Rattle.domain_table.specs.Tree.{root_of}
use Rattle.ar_council.proofs.Books.{entry-all, entry-has, entry-keeps, roll-all, roll-keeps}
use Rattle.ar_council.proofs.Lists.{Within, pushed-within, same-within}
use Rattle.ar_council.proofs.Seeing.{seen-all, seen-keeps}
use Rattle.ar_council.specs.Council.{Council, IsMember}
use Rattle.ar_council.specs.Room.{HasRoom}
use Rattle.ar_council.specs.Seen.{seen_after}
use Rattle.ar_council.specs.Values.{confirm_claim, status_claim, vote_claim}
use Rattle.ar_council.proofs.Votes.{votes-more}
use Rattle.ar_council.proofs.Texts.{own-text}
use Rattle.epoch_log.specs.Honest.{IsOfHonestLog, IsUpToNow, SignsWhatItTells}
use Rattle.epoch_log.specs.Record.{LogRecord, base_of, current}
use Rattle.epoch_log.specs.Right.{AreSeen, FitsVotes, IsRightVote, LeadsTo, SawEndorsements}
use Rattle.epoch_log.specs.Told.{ToldByLog, value_of}
use Rattle.epoch_log.specs.declared.entries.Confirmed.{Confirmed}
use Rattle.epoch_log.specs.declared.entries.Stated.{Stated}
use Rattle.epoch_log.specs.declared.entries.Voted.{Voted}

-- ---- more is seen

endorsements-more : (seen later : List SeenText) → Within seen later → (change : Change) → SawEndorsements seen change → SawEndorsements later change
endorsements-more seen later within change all =
    All-weaker (λ a. Saw seen (authority_party a) (endorse a (digest_of change.cert))) (λ a. Saw later (authority_party a) (endorse a (digest_of change.cert)))
    (λ a saw. within (record { party = authority_party a; text = text_of (endorse a (digest_of change.cert)) }) saw)
    (endorsers_of change) all

pub leads-more : (seen later : List SeenText) → Within seen later → (epoch : ℕ) (before : Table) (changes : List Change) (to : List ℕ)
    → LeadsTo seen epoch before changes to → LeadsTo later epoch before changes to
leads-more seen later within epoch before changes to leads = record {
  reaches = leads.reaches;
  are_changes = leads.are_changes;
  endorsed = All-weaker (SawEndorsements seen) (SawEndorsements later) (endorsements-more seen later within) changes leads.endorsed;
}

pub statuses-more : (council : Council) (seen later : List SeenText) → Within seen later → (epoch : ℕ) (statuses : List Status) → AreSeen council seen epoch statuses → AreSeen council later epoch statuses
statuses-more council seen later within epoch statuses are = record {
  of_logs = are.of_logs;
  values = are.values;
  saw = All-weaker (λ s. Saw seen (log_party s.0) (status_claim s.0 epoch s.1)) (λ s. Saw later (log_party s.0) (status_claim s.0 epoch s.1))
      (λ s one. within (record { party = log_party s.0; text = text_of (status_claim s.0 epoch s.1) }) one) statuses are.saw;
}

pub honest-seeing : (council : Council) (me : ℕ) (past : LogRecord) (more : List SeenText) → IsOfHonestLog council me past → All (λ s. IsMember council s.party) more
    → IsOfHonestLog council me (record past { seen = seen_after past.seen more })
honest-seeing council me past more h members =
    let later : List SeenText = seen_after past.seen more in
    let within : Within past.seen later = seen-keeps more past.seen in
    record {
      ends_in_order = h.ends_in_order;
      votes_once = h.votes_once;
      states_its_vote = h.states_its_vote;
      votes_rightly = All-weaker (IsRightVote past.seen past.ended) (IsRightVote later past.ended)
          (λ v right. record { are_digests = right.are_digests; from_base = right.from_base; leads = leads-more past.seen later within v.epoch (base_of past.ended v.epoch) v.changes v.root right.leads })
          past.voted h.votes_rightly;
      decides_rightly = λ epoch changes to is.
          let right = h.decides_rightly epoch changes to is in
          record {
            leads = leads-more past.seen later within epoch (base_of past.ended epoch) changes to right.leads;
            votes = votes-more council past.seen later within epoch (record { base = root_of (base_of past.ended epoch); root = to }) right.votes;
          };
      skips_rightly = λ epoch statuses is.
          let right = h.skips_rightly epoch statuses is in
          record { are_seen = statuses-more council past.seen later within epoch statuses right.are_seen; excludes = right.excludes };
      confirms_rightly = h.confirms_rightly;
      signs_what_it_tells = h.signs_what_it_tells;
      sees_members = seen-all (λ s. IsMember council s.party) more past.seen h.sees_members members;
    }

-- ---- more is told

told-more : (me : ℕ) (voted voted' : List Voted) (stated stated' : List Stated) (confirmed confirmed' : List Confirmed) → Within voted voted' → Within stated stated' → Within confirmed confirmed'
    → (claim : Claim) → ToldByLog me voted stated confirmed claim → ToldByLog me voted' stated' confirmed' claim
unfolding ToldByLog
told-more me voted voted' stated stated' confirmed confirmed' v s c (endorse a d) t = t
told-more me voted voted' stated stated' confirmed confirmed' v s c (handover d) t = t
told-more me voted voted' stated stated' confirmed confirmed' v s c (propose log epoch base root) t = t
told-more me voted voted' stated stated' confirmed confirmed' v s c (vote log epoch base root) t = (t.0, (t.1.0, (v t.1.0 t.1.1.0, t.1.1.1, t.1.1.2)))
told-more me voted voted' stated stated' confirmed confirmed' v s c (confirm signer epoch name certificate root) t =
    (t.0, c (record { epoch = epoch; name = name; certificate = Some certificate; root = root }) t.1)
told-more me voted voted' stated stated' confirmed confirmed' v s c (confirm_absent signer epoch name root) t =
    (t.0, c (record { epoch = epoch; name = name; certificate = None; root = root }) t.1)
told-more me voted voted' stated stated' confirmed confirmed' v s c (answer name certificate challenge) t = t
told-more me voted voted' stated stated' confirmed confirmed' v s c (status log epoch value) t = (t.0, s (record { epoch = epoch; value = _ }) t.1)
told-more me voted voted' stated stated' confirmed confirmed' v s c (roll signer generation key) t = t
told-more me voted voted' stated stated' confirmed confirmed' v s c (object d) t = t

texts-more : (P Q : Claim → Type 0) → ((claim : Claim) → P claim → Q claim) → (texts : List (List ℕ)) → All (IsTextOf P) texts → All (IsTextOf Q) texts
texts-more P Q weaker texts all =
    All-weaker (IsTextOf P) (IsTextOf Q) (λ text t. record { claim = t.claim; valid = t.valid; holds = weaker t.claim t.holds; is = t.is }) texts all

-- what the book of a record tells, where a text was entered and the entries are more
pub signs-more : (me : ℕ) (book : RollBook) (text : List ℕ) (voted voted' : List Voted) (stated stated' : List Stated) (confirmed confirmed' : List Confirmed)
    → Within voted voted' → Within stated stated' → Within confirmed confirmed'
    → SignsWhatItTells me book voted stated confirmed → IsTextOf (ToldByLog me voted' stated' confirmed') text
    → All (IsTextOf (ToldByLog me voted' stated' confirmed')) (texts_of (after_entry book text))
signs-more me book text voted voted' stated stated' confirmed confirmed' v s c signs new =
    entry-all (IsTextOf (ToldByLog me voted' stated' confirmed')) book text
    (texts-more (ToldByLog me voted stated confirmed) (ToldByLog me voted' stated' confirmed') (told-more me voted voted' stated stated' confirmed confirmed' v s c) (texts_of book) signs.told)
    new

abbrev pub has_vote : ℕ → List (List ℕ) → Voted → Type 0
has_vote me texts v = Contains texts (text_of (vote_claim me v.epoch (value_of v)))

abbrev pub has_status : ℕ → List (List ℕ) → Stated → Type 0
has_status me texts s = Contains texts (text_of (status_claim me s.epoch s.value))

abbrev pub has_confirmation : ℕ → List (List ℕ) → Confirmed → Type 0
has_confirmation me texts c = Contains texts (text_of (confirm_claim me c.epoch c.name c.certificate c.root))

pub votes-kept : (me : ℕ) (book later : RollBook) → Within (texts_of book) (texts_of later) → (voted : List Voted) → All (has_vote me (texts_of book)) voted → All (has_vote me (texts_of later)) voted
votes-kept me book later within voted all =
    All-weaker (has_vote me (texts_of book)) (has_vote me (texts_of later)) (λ v has. within (text_of (vote_claim me v.epoch (value_of v))) has) voted all

pub statuses-kept : (me : ℕ) (book later : RollBook) → Within (texts_of book) (texts_of later) → (stated : List Stated) → All (has_status me (texts_of book)) stated → All (has_status me (texts_of later)) stated
statuses-kept me book later within stated all =
    All-weaker (has_status me (texts_of book)) (has_status me (texts_of later)) (λ s has. within (text_of (status_claim me s.epoch s.value)) has) stated all

pub confirmations-kept : (me : ℕ) (book later : RollBook) → Within (texts_of book) (texts_of later) → (confirmed : List Confirmed) → All (has_confirmation me (texts_of book)) confirmed → All (has_confirmation me (texts_of later)) confirmed
confirmations-kept me book later within confirmed all =
    All-weaker (has_confirmation me (texts_of book)) (has_confirmation me (texts_of later)) (λ c has. within (text_of (confirm_claim me c.epoch c.name c.certificate c.root)) has) confirmed all

-- ---- a vote

fits-more : (voted : List Voted) (v : Voted) (epoch : ℕ) (value : Option Value) → epoch ≢ v.epoch → FitsVotes voted epoch value → FitsVotes (voted ++ v ∷ []) epoch value
fits-more voted v epoch None other fits = All-push (λ w. w.epoch ≢ epoch) voted v fits (λ e. other (sym e))
fits-more voted v epoch (Some value) other fits = (fits.0, (pushed-within voted v fits.0 fits.1.0, fits.1.1, fits.1.2, fits.1.3))

told-vote : (me : ℕ) (past : LogRecord) (v : Voted) → ToldByLog me (past.voted ++ v ∷ []) past.stated past.confirmed (vote_claim me v.epoch (value_of v))
unfolding ToldByLog
told-vote me past v = (refl, (v, (Contains-push past.voted v, refl, refl)))

pub honest-casting : (council : Council) (me : ℕ) (past : LogRecord) (v : Voted) → IsOfHonestLog council me past
    → v.epoch ≡ current past.ended → All (λ w. w.epoch ≢ v.epoch) past.voted → All (λ t. t.epoch ≢ v.epoch) past.stated
    → IsRightVote past.seen past.ended v → IsValid (vote_claim me v.epoch (value_of v))
    → is_roll (text_of (vote_claim me v.epoch (value_of v))) ≡ false
    → HasRoom past.signed (text_of (vote_claim me v.epoch (value_of v)) ∷ [])
    → IsOfHonestLog council me (record past { voted = past.voted ++ v ∷ []; signed = after_entry past.signed (text_of (vote_claim me v.epoch (value_of v))) })
honest-casting council me past v h now not-voted not-stated right valid plain room =
    let text : List ℕ = text_of (vote_claim me v.epoch (value_of v)) in
    let later : RollBook = after_entry past.signed text in
    let voted' : List Voted = past.voted ++ v ∷ [] in
    let kept : Within (texts_of past.signed) (texts_of later) = entry-keeps past.signed text in
    record {
      ends_in_order = h.ends_in_order;
      votes_once = record {
        once = all_pairs_push (λ a b. a.epoch ≢ b.epoch) past.voted v h.votes_once.once not-voted;
        up_to_now = All-push (λ w. IsUpToNow past.ended w.epoch) past.voted v h.votes_once.up_to_now (omega (arith, now), omega (arith, now));
      };
      states_its_vote = record {
        once = h.states_its_vote.once;
        up_to_now = h.states_its_vote.up_to_now;
        fits = λ k d less. fits-more past.voted v _ _ (not-stated k d less) (h.states_its_vote.fits k d less);
      };
      votes_rightly = All-push (IsRightVote past.seen past.ended) past.voted v h.votes_rightly right;
      decides_rightly = h.decides_rightly;
      skips_rightly = h.skips_rightly;
      confirms_rightly = h.confirms_rightly;
      signs_what_it_tells = record {
        sound = after_entry_keeps past.signed text h.signs_what_it_tells.sound (inl plain);
        told = signs-more me past.signed text past.voted voted' past.stated past.stated past.confirmed past.confirmed
            (pushed-within past.voted v) (same-within past.stated) (same-within past.confirmed) h.signs_what_it_tells
            (own-text (ToldByLog me voted' past.stated past.confirmed) (vote_claim me v.epoch (value_of v)) valid (told-vote me past v));
        votes = All-push (has_vote me (texts_of later)) past.voted v (votes-kept me past.signed later kept past.voted h.signs_what_it_tells.votes) (entry-has past.signed text room);
        statuses = statuses-kept me past.signed later kept past.stated h.signs_what_it_tells.statuses;
        confirmations = confirmations-kept me past.signed later kept past.confirmed h.signs_what_it_tells.confirmations;
      };
      sees_members = h.sees_members;
    }

-- ---- a status

told-status : (me : ℕ) (past : LogRecord) (s : Stated) → ToldByLog me past.voted (past.stated ++ s ∷ []) past.confirmed (status_claim me s.epoch s.value)
unfolding ToldByLog
told-status me past s = (refl, Contains-push past.stated s)

pub honest-stating : (council : Council) (me : ℕ) (past : LogRecord) (s : Stated) → IsOfHonestLog council me past
    → s.epoch ≡ current past.ended → All (λ t. t.epoch ≢ s.epoch) past.stated → FitsVotes past.voted s.epoch s.value
    → IsValid (status_claim me s.epoch s.value) → is_roll (text_of (status_claim me s.epoch s.value)) ≡ false
    → HasRoom past.signed (text_of (status_claim me s.epoch s.value) ∷ [])
    → IsOfHonestLog council me (record past { stated = past.stated ++ s ∷ []; signed = after_entry past.signed (text_of (status_claim me s.epoch s.value)) })
honest-stating council me past s h now not-stated fits valid plain room =
    let text : List ℕ = text_of (status_claim me s.epoch s.value) in
    let later : RollBook = after_entry past.signed text in
    let stated' : List Stated = past.stated ++ s ∷ [] in
    let kept : Within (texts_of past.signed) (texts_of later) = entry-keeps past.signed text in
    record {
      ends_in_order = h.ends_in_order;
      votes_once = h.votes_once;
      states_its_vote = record {
        once = all_pairs_push (λ a b. a.epoch ≢ b.epoch) past.stated s h.states_its_vote.once not-stated;
        up_to_now = All-push (λ t. IsUpToNow past.ended t.epoch) past.stated s h.states_its_vote.up_to_now (omega (arith, now), omega (arith, now));
        fits = All-push (λ t. FitsVotes past.voted t.epoch t.value) past.stated s h.states_its_vote.fits fits;
      };
      votes_rightly = h.votes_rightly;
      decides_rightly = h.decides_rightly;
      skips_rightly = h.skips_rightly;
      confirms_rightly = h.confirms_rightly;
      signs_what_it_tells = record {
        sound = after_entry_keeps past.signed text h.signs_what_it_tells.sound (inl plain);
        told = signs-more me past.signed text past.voted past.voted past.stated stated' past.confirmed past.confirmed
            (same-within past.voted) (pushed-within past.stated s) (same-within past.confirmed) h.signs_what_it_tells
            (own-text (ToldByLog me past.voted stated' past.confirmed) (status_claim me s.epoch s.value) valid (told-status me past s));
        votes = votes-kept me past.signed later kept past.voted h.signs_what_it_tells.votes;
        statuses = All-push (has_status me (texts_of later)) past.stated s (statuses-kept me past.signed later kept past.stated h.signs_what_it_tells.statuses) (entry-has past.signed text room);
        confirmations = confirmations-kept me past.signed later kept past.confirmed h.signs_what_it_tells.confirmations;
      };
      sees_members = h.sees_members;
    }

-- ---- a proposal, of which the record has no entry

told-propose : (me : ℕ) (past : LogRecord) (epoch : ℕ) (base root : List ℕ) → ToldByLog me past.voted past.stated past.confirmed (propose me epoch base root)
unfolding ToldByLog
told-propose me past epoch base root = refl

pub honest-proposing : (council : Council) (me : ℕ) (past : LogRecord) (epoch : ℕ) (base root : List ℕ) → IsOfHonestLog council me past
    → IsValid (propose me epoch base root) → is_roll (text_of (propose me epoch base root)) ≡ false
    → IsOfHonestLog council me (record past { signed = after_entry past.signed (text_of (propose me epoch base root)) })
honest-proposing council me past epoch base root h valid plain =
    let text : List ℕ = text_of (propose me epoch base root) in
    let later : RollBook = after_entry past.signed text in
    let kept : Within (texts_of past.signed) (texts_of later) = entry-keeps past.signed text in
    record {
      ends_in_order = h.ends_in_order;
      votes_once = h.votes_once;
      states_its_vote = h.states_its_vote;
      votes_rightly = h.votes_rightly;
      decides_rightly = h.decides_rightly;
      skips_rightly = h.skips_rightly;
      confirms_rightly = h.confirms_rightly;
      signs_what_it_tells = record {
        sound = after_entry_keeps past.signed text h.signs_what_it_tells.sound (inl plain);
        told = signs-more me past.signed text past.voted past.voted past.stated past.stated past.confirmed past.confirmed
            (same-within past.voted) (same-within past.stated) (same-within past.confirmed) h.signs_what_it_tells
            (own-text (ToldByLog me past.voted past.stated past.confirmed) (propose me epoch base root) valid (told-propose me past epoch base root));
        votes = votes-kept me past.signed later kept past.voted h.signs_what_it_tells.votes;
        statuses = statuses-kept me past.signed later kept past.stated h.signs_what_it_tells.statuses;
        confirmations = confirmations-kept me past.signed later kept past.confirmed h.signs_what_it_tells.confirmations;
      };
      sees_members = h.sees_members;
    }

-- ---- a Roll

told-roll : (me : ℕ) (past : LogRecord) (generation : ℕ) (key : List ℕ) → ToldByLog me past.voted past.stated past.confirmed (roll (log_party me) generation key)
unfolding ToldByLog
told-roll me past generation key = refl

pub honest-rolling : (council : Council) (me : ℕ) (past : LogRecord) (key : List ℕ) → IsOfHonestLog council me past
    → IsValid (roll (log_party me) past.signed.newest key)
    → is_roll (text_of (roll (log_party me) past.signed.newest key)) ≡ true
    → named_generation (text_of (roll (log_party me) past.signed.newest key)) ≡ past.signed.newest
    → past.signed.newest < 999
    → IsOfHonestLog council me (record past { signed = with_roll past.signed (text_of (roll (log_party me) past.signed.newest key)) })
honest-rolling council me past key h valid is-roll named before =
    let text : List ℕ = text_of (roll (log_party me) past.signed.newest key) in
    let later : RollBook = with_roll past.signed text in
    let kept : Within (texts_of past.signed) (texts_of later) = roll-keeps past.signed text in
    record {
      ends_in_order = h.ends_in_order;
      votes_once = h.votes_once;
      states_its_vote = h.states_its_vote;
      votes_rightly = h.votes_rightly;
      decides_rightly = h.decides_rightly;
      skips_rightly = h.skips_rightly;
      confirms_rightly = h.confirms_rightly;
      signs_what_it_tells = record {
        sound = roll_keeps past.signed text h.signs_what_it_tells.sound is-roll named before;
        told = roll-all (IsTextOf (ToldByLog me past.voted past.stated past.confirmed)) past.signed text h.signs_what_it_tells.told
            (own-text (ToldByLog me past.voted past.stated past.confirmed) (roll (log_party me) past.signed.newest key) valid (told-roll me past past.signed.newest key));
        votes = votes-kept me past.signed later kept past.voted h.signs_what_it_tells.votes;
        statuses = statuses-kept me past.signed later kept past.stated h.signs_what_it_tells.statuses;
        confirmations = confirmations-kept me past.signed later kept past.confirmed h.signs_what_it_tells.confirmations;
      };
      sees_members = h.sees_members;
    }
