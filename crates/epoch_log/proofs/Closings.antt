-- An epoch that ends, and a confirmation, keep a record honest.
use Rattle.std.proofs.Common.{◌≡◌, ℕ, ◌+◌, ◌<◌, ◌^◌, inl, inr, List, [], ◌∷◌, length, get_or, refl, sym, ap, ◌∙◌, subst, arith, true, false, ◌&&◌, eqb, Option, Some, None}
use Rattle.std.specs.Prelude.{bytes_eq}
use Rattle.std.proofs.lemmas.Bool.{and_parts, cases_eq, eqb-true}
use Rattle.std.proofs.lemmas.List.{length-append}
use Rattle.std.proofs.lemmas.Slice.Eq.{bytes_eq-Decides}
use Rattle.ar_base.specs.Adding.{with_one}
use Rattle.ar_base.proofs.Adding.{one-all, one-has, one-keeps}
use Rattle.ar_cert.specs.Changes.{Change}
use Rattle.ar_statement.specs.Claims.{text_of}
use Rattle.ar_statement.specs.Ranges.{IsValid}
use Rattle.ar_statement.specs.declared.text.SeenText.{SeenText}
use Rattle.key_roll.specs.Book.{RollBook, texts_of}
use Rattle.key_roll.specs.Entry.{after_entry}
use Rattle.key_roll.specs.Rolls.{is_roll}
use Rattle.key_roll.proofs.Books.{after_entry_keeps}
use Rattle.vote_quorum.specs.Statuses.{Status}
use Rattle.domain_table.specs.Tree.{root_of}
use Rattle.ar_council.proofs.Books.{entry-has, entry-keeps}
use Rattle.ar_council.proofs.Lists.{Within, same-within}
use Rattle.ar_council.proofs.Texts.{own-text}
use Rattle.ar_council.proofs.Values.{one_digest}
use Rattle.ar_council.specs.Council.{Council}
use Rattle.ar_council.specs.Room.{HasRoom}
use Rattle.ar_council.specs.Values.{confirm_claim, is_same_digest}
use Rattle.ar_council.specs.Votes.{SawVotes}
use Rattle.epoch_log.specs.Calls.{is_same_confirmation}
use Rattle.epoch_log.specs.Ending.{with_ending}
use Rattle.epoch_log.specs.Honest.{EndsInOrder, IsOfHonestLog}
use Rattle.epoch_log.specs.Record.{LogRecord, base_of, current, ending}
use Rattle.epoch_log.specs.Right.{IsRightConfirmation, IsRightDecision, IsRightSkip, IsRightVote, LeadsTo, newest_digest}
use Rattle.epoch_log.specs.Told.{HasConfirmed, ToldByLog}
use Rattle.epoch_log.specs.declared.entries.Confirmed.{Confirmed}
use Rattle.epoch_log.specs.declared.entries.Ended.{Ended}
use Rattle.epoch_log.specs.declared.entries.How.{How}
use Rattle.epoch_log.specs.declared.entries.How.TheVariants.{Decided, Skipped}
use Rattle.epoch_log.specs.declared.entries.Voted.{Voted}
use Rattle.epoch_log.proofs.Endings.{base-stays, ending-here, ending-other, ending-within, order-kept, with}
use Rattle.epoch_log.proofs.Growing.{confirmations-kept, has_confirmation, signs-more, statuses-kept, votes-kept}

-- ---- an ending

-- what an ending has to meet
pub record Closes (council : Council) (seen : List SeenText) (ended : List Ended) (how : How) : Type 0 where
  pub decided : (changes : List Change) (to : List ℕ) → how ≡ Decided changes to → IsRightDecision council seen ended (current ended) changes to
  pub skipped : (statuses : List Status) → how ≡ Skipped statuses → IsRightSkip council seen (current ended) statuses

decision-on : (council : Council) (seen : List SeenText) (ended later : List Ended) (epoch : ℕ) (changes : List Change) (to : List ℕ) → base_of later epoch ≡ base_of ended epoch
    → IsRightDecision council seen ended epoch changes to → IsRightDecision council seen later epoch changes to
decision-on council seen ended later epoch changes to same right = record {
  leads = subst (λ t. LeadsTo seen epoch t changes to) (sym same) right.leads;
  votes = subst (λ t. SawVotes council seen epoch (record { base = root_of t; root = to })) (sym same) right.votes;
}

vote-on : (seen : List SeenText) (ended later : List Ended) (v : Voted) → base_of later v.epoch ≡ base_of ended v.epoch → IsRightVote seen ended v → IsRightVote seen later v
vote-on seen ended later v same right = record {
  are_digests = right.are_digests;
  from_base = right.from_base ∙ ap root_of (sym same);
  leads = subst (λ t. LeadsTo seen v.epoch t v.changes v.root) (sym same) right.leads;
}

pub honest-ending : (council : Council) (me : ℕ) (past : LogRecord) (how : How) → IsOfHonestLog council me past → current past.ended < 2 ^ 63
    → Closes council past.seen past.ended how → IsOfHonestLog council me (with_ending past how)
honest-ending council me past how h room closes =
    let ended : List Ended = past.ended in
    let e : ℕ = current ended in
    let later : List Ended = with ended e how in
    let order : EndsInOrder ended = h.ends_in_order in
    let more : length later ≡ length ended + 1 = length-append ended (record { epoch = e; how = how } ∷ []) in
    let here : ending later e ≡ Some how = ending-here ended how order in
    record {
      ends_in_order = order-kept ended how order room;
      votes_once = record {
        once = h.votes_once.once;
        up_to_now = λ k d less. let up = h.votes_once.up_to_now k d less in (up.0, omega (arith, up.1, more));
      };
      states_its_vote = record {
        once = h.states_its_vote.once;
        up_to_now = λ k d less. let up = h.states_its_vote.up_to_now k d less in (up.0, omega (arith, up.1, more));
        fits = h.states_its_vote.fits;
      };
      votes_rightly = λ k d less.
          let v : Voted = get_or past.voted k d in
          let up = h.votes_once.up_to_now k d less in
          vote-on past.seen ended later v (base-stays ended e how v.epoch up.1) (h.votes_rightly k d less);
      decides_rightly = λ epoch changes to is. elim (cases_eq e epoch) [
        | inl now ↦
            let both : Some how ≡ Some (Decided changes to) = sym here ∙ ap (ending later) now ∙ is in
            let this : how ≡ Decided changes to = cc in
            decision-on council past.seen ended later epoch changes to (base-stays ended e how epoch (omega (arith, now)))
            (subst (λ n. IsRightDecision council past.seen ended n changes to) now (closes.decided changes to this))
        | inr other ↦
            let old : ending ended epoch ≡ Some (Decided changes to) = sym (ending-other ended e how epoch other) ∙ is in
            let within = ending-within ended order epoch (Decided changes to) old in
            decision-on council past.seen ended later epoch changes to (base-stays ended e how epoch (omega (arith, within.1))) (h.decides_rightly epoch changes to old)
      ];
      skips_rightly = λ epoch statuses is. elim (cases_eq e epoch) [
        | inl now ↦
            let both : Some how ≡ Some (Skipped statuses) = sym here ∙ ap (ending later) now ∙ is in
            let this : how ≡ Skipped statuses = cc in
            subst (λ n. IsRightSkip council past.seen n statuses) now (closes.skipped statuses this)
        | inr other ↦ h.skips_rightly epoch statuses (sym (ending-other ended e how epoch other) ∙ is)
      ];
      confirms_rightly = λ k d less.
          let c : Confirmed = get_or past.confirmed k d in
          let right = h.confirms_rightly k d less in
          let within = ending-within ended order c.epoch (Decided right.changes c.root) right.decided in
          record {
            changes = right.changes;
            decided = ending-other ended e how c.epoch (λ same. omega (arith, same, within.1)) ∙ right.decided;
            newest = right.newest ∙ ap (λ t. newest_digest t c.name) (sym (base-stays ended e how (c.epoch + 1) (omega (arith, within.1))));
          };
      signs_what_it_tells = h.signs_what_it_tells;
      sees_members = h.sees_members;
    }

-- ---- a confirmation

one_confirmation : (c d : Confirmed) → is_same_confirmation c d ≡ true → c ≡ d
one_confirmation c d e =
    let first = and_parts (eqb c.epoch d.epoch) (bytes_eq c.name d.name && (is_same_digest c.certificate d.certificate && bytes_eq c.root d.root)) e in
    let second = and_parts (bytes_eq c.name d.name) (is_same_digest c.certificate d.certificate && bytes_eq c.root d.root) first.1 in
    let third = and_parts (is_same_digest c.certificate d.certificate) (bytes_eq c.root d.root) second.1 in
    let epoch : c.epoch ≡ d.epoch = eqb-true c.epoch d.epoch first.0 in
    let name : c.name ≡ d.name = (bytes_eq-Decides c.name d.name).0 second.0 in
    let certificate : c.certificate ≡ d.certificate = one_digest c.certificate d.certificate third.0 in
    let root : c.root ≡ d.root = (bytes_eq-Decides c.root d.root).0 third.1 in
    λ i. record { epoch = epoch i; name = name i; certificate = certificate i; root = root i }

told-confirmed : (me : ℕ) (past : LogRecord) (confirmed : List Confirmed) (epoch : ℕ) (name : List ℕ) (certificate : Option (List ℕ)) (root : List ℕ)
    → HasConfirmed confirmed epoch name certificate root → ToldByLog me past.voted past.stated confirmed (confirm_claim me epoch name certificate root)
unfolding ToldByLog
told-confirmed me past confirmed epoch name None root has = (refl, has)
told-confirmed me past confirmed epoch name (Some certificate) root has = (refl, has)

pub honest-confirming : (council : Council) (me : ℕ) (past : LogRecord) (c : Confirmed) → IsOfHonestLog council me past
    → IsRightConfirmation past.ended c
    → IsValid (confirm_claim me c.epoch c.name c.certificate c.root)
    → is_roll (text_of (confirm_claim me c.epoch c.name c.certificate c.root)) ≡ false
    → HasRoom past.signed (text_of (confirm_claim me c.epoch c.name c.certificate c.root) ∷ [])
    → IsOfHonestLog council me (record past {
      confirmed = with_one is_same_confirmation past.confirmed c;
      signed = after_entry past.signed (text_of (confirm_claim me c.epoch c.name c.certificate c.root));
    })
honest-confirming council me past c h right valid plain room =
    let text : List ℕ = text_of (confirm_claim me c.epoch c.name c.certificate c.root) in
    let later : RollBook = after_entry past.signed text in
    let confirmed' : List Confirmed = with_one is_same_confirmation past.confirmed c in
    let kept : Within (texts_of past.signed) (texts_of later) = entry-keeps past.signed text in
    record {
      ends_in_order = h.ends_in_order;
      votes_once = h.votes_once;
      states_its_vote = h.states_its_vote;
      votes_rightly = h.votes_rightly;
      decides_rightly = h.decides_rightly;
      skips_rightly = h.skips_rightly;
      confirms_rightly = one-all (IsRightConfirmation past.ended) is_same_confirmation past.confirmed c h.confirms_rightly right;
      signs_what_it_tells = record {
        sound = after_entry_keeps past.signed text h.signs_what_it_tells.sound (inl plain);
        told = signs-more me past.signed text past.voted past.voted past.stated past.stated past.confirmed confirmed'
            (same-within past.voted) (same-within past.stated) (one-keeps is_same_confirmation past.confirmed c) h.signs_what_it_tells
            (own-text (ToldByLog me past.voted past.stated confirmed') (confirm_claim me c.epoch c.name c.certificate c.root) valid
            (told-confirmed me past confirmed' c.epoch c.name c.certificate c.root (one-has is_same_confirmation past.confirmed c (λ d. one_confirmation d c))));
        votes = votes-kept me past.signed later kept past.voted h.signs_what_it_tells.votes;
        statuses = statuses-kept me past.signed later kept past.stated h.signs_what_it_tells.statuses;
        confirmations = one-all (has_confirmation me (texts_of later)) is_same_confirmation past.confirmed c
            (confirmations-kept me past.signed later kept past.confirmed h.signs_what_it_tells.confirmations) (entry-has past.signed text room);
      };
      sees_members = h.sees_members;
    }
