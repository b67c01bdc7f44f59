-- What a row leaves is an honest authority's.
use Rattle.std.proofs.Common.{◌≡◌, ℕ, ◌≤◌, ◌<◌, ◌^◌, ◌-◌, ◌==◌, ◌&&◌, not, List, [], ◌∷◌, ◌++◌, map, nat_le, Bool, true, false, cond, Result, Ok, Err, refl, sym, ap, subst, ◌∙◌, arith}
use Rattle.std.specs.Prelude.{All}
use Rattle.std.specs.Result.{result_and}
use Rattle.std.proofs.lemmas.Bool.{le-leb, leb-true}
use Rattle.std.proofs.lemmas.Bool.Decides.{nat_tests}
use Rattle.std.proofs.lemmas.List.Elements.{All-head, All-map, All-tail}
use Rattle.ar_base.specs.Bytes.{IsDigest}
use Rattle.ar_base.specs.FirstFailing.{first_failing}
use Rattle.ar_base.specs.Gives.{with_error}
use Rattle.ar_base.proofs.Failing.{first-holds}
use Rattle.ar_base.proofs.Giving.{no-error, order-first, order-then}
use Rattle.ar_cert.proofs.Digests.{digest-fits-if-there}
use Rattle.ar_council.specs.Council.{Council, IsMember, council_of}
use Rattle.ar_council.proofs.Lists.{All-unmap, all-left, all-right}
use Rattle.ar_council.proofs.Members.{all-members, council-adopting, council-learning, member, note-known}
use Rattle.ar_council.proofs.Readable.{readable}
use Rattle.ar_message.specs.Confirmation as confirmation
use Rattle.ar_message.specs.Messages.{IsConfirming, shown_in}
use Rattle.ar_message.specs.declared.lists.Vote.{Vote}
use Rattle.ar_message.specs.declared.message.Confirming.{Confirming}
use Rattle.ar_message.specs.declared.unsigned.Unsigned.{Unsigned}
use Rattle.ar_statement.specs.declared.party.Party.{Party}
use Rattle.ar_statement.specs.declared.text.SeenText.{SeenText}
use Rattle.ar_statement.specs.Fields.{is_epoch}
use Rattle.ar_statement.specs.Ranges.{IsKeyText}
use Rattle.key_roll.specs.Due.{DueParts}
use Rattle.key_roll.specs.Entry.{roll_text, rolled}
use Rattle.key_roll.specs.declared.fault.RollFault.TheVariants.{Last}
use Rattle.lms_tree.specs.PublicKey.{HasWidths, key_text}
use Rattle.lms_tree.specs.declared.public_key.LmsPublic.{LmsPublic}
use Rattle.party_keys.specs.Directory.{Directory}
use Rattle.party_keys.specs.Learning.{Announced, learned}
use Rattle.party_keys.specs.declared.learning.Learned.{Learned}
use Rattle.ar_statement.specs.Claims.{authority_party, log_party}
use Rattle.party_keys.specs.Signers.{Claimed, all_known, all_signed, seen_in, signers_answer}
use Rattle.authority_core.specs.Calls.{MayConfirm, after_endorse, after_learn, after_roll, confirming, seen_of_half, seen_of_log, seen_of_votes}
use Rattle.authority_core.specs.ConfirmRows.{half_claims, log_claims}
use Rattle.ar_message.specs.Shown.{shows}
use Rattle.authority_core.specs.Confirming.{confirmed_by, confirming_checks, content_tests, kept_of, log_claimed, meant_for, parties_of, vote_count, voted_by, voters_of}
use Rattle.authority_core.specs.Honest.{IsOfHonestAuthority}
use Rattle.authority_core.specs.Refusals.{of_signers}
use Rattle.authority_core.specs.State.{AuthorityAnswer, AuthorityState, IsAuthority, if_due}
use Rattle.authority_core.specs.declared.refusal.AuthorityRefusal.{AuthorityRefusal}
use Rattle.authority_core.specs.declared.refusal.AuthorityRefusal.TheVariants.{BadPath, FewVotes, SameAuthority}
use Rattle.authority_core.specs.RollRows.{learning, rolling}
use Rattle.authority_core.specs.declared.entries.Approved.{Approved}
use Rattle.authority_core.proofs.Growing.{honest-endorse, honest-first, honest-learn, honest-roll, honest-second}

-- ---- answers

-- where two equal answers leave the authority
pub same-state : (one other : AuthorityState × Unsigned) → (let answer : AuthorityAnswer = Ok one in answer) ≡ Ok other → other.0 ≡ one.0
same-state one other is = let same : other ≡ one = cc in ap (λ (p : AuthorityState × Unsigned). p.0) same

-- where the authority stands behind an answer that something is due
pub due-state : (e : Result DueParts AuthorityRefusal) (next : AuthorityState) (send : DueParts → Unsigned) (later : AuthorityState) (sent : Unsigned)
    → if_due {A = AuthorityState × Unsigned} e (λ due. (next, send due)) ≡ Ok (later, sent) → later ≡ next
due-state (Ok due) next send later sent is = same-state (next, send due) (later, sent) is
due-state (Err refusal) next send later sent is = absurd cc

second-holds : (refusal other : AuthorityRefusal) (before test : Bool) (tests : List (AuthorityRefusal × Bool)) → first_failing ((refusal, before) ∷ ((other, test) ∷ tests)) ≡ Ok tt → test ≡ true
second-holds refusal other true test tests is = first-holds other test tests is
second-holds refusal other false test tests is = absurd cc

-- ---- what the checks show

abbrev pub Passed : AuthorityState → ℕ → List Party → List Claimed → Confirming → Type 0
Passed s chosen parties claims part = confirming_checks s chosen parties claims part ≡ Ok tt

pub behind-first : (s : AuthorityState) (chosen : ℕ) (parties : List Party) (claims : List Claimed) (part : Confirming) → Passed s chosen parties claims part
    → result_and (with_error of_signers (signers_answer s.keys parties claims)) (first_failing (content_tests s.keys.quorum part)) ≡ Ok tt
unfolding confirming_checks
behind-first s chosen parties claims part is = order-then (first_failing (meant_for s.me chosen)) _ tt is

passed-members : (s : AuthorityState) (chosen : ℕ) (parties : List Party) (claims : List Claimed) (part : Confirming) → Passed s chosen parties claims part
    → All (IsMember (council_of s.keys)) parties
passed-members s chosen parties claims part is =
    all-members s.keys parties
    (order-first (all_known s.keys parties) (all_signed s.keys claims) tt
    (no-error of_signers (signers_answer s.keys parties claims) tt
    (order-first (with_error of_signers (signers_answer s.keys parties claims)) (first_failing (content_tests s.keys.quorum part)) tt (behind-first s chosen parties claims part is))))

-- the tests of the content behind the first
abbrev later-tests : Confirming → List (AuthorityRefusal × Bool)
later-tests part = (BadPath, shows part) ∷ ((SameAuthority, not (part.first == part.second)) ∷ [])

pub passed-many : (s : AuthorityState) (chosen : ℕ) (parties : List Party) (claims : List Claimed) (part : Confirming) → Passed s chosen parties claims part → s.keys.quorum ≤ vote_count part
passed-many s chosen parties claims part is =
    leb-true s.keys.quorum (vote_count part)
    (first-holds (FewVotes (vote_count part)) (nat_le s.keys.quorum (vote_count part)) (later-tests part)
    (order-then (with_error of_signers (signers_answer s.keys parties claims)) (first_failing (content_tests s.keys.quorum part)) tt (behind-first s chosen parties claims part is)))

pub passed-shown : (s : AuthorityState) (chosen : ℕ) (parties : List Party) (claims : List Claimed) (part : Confirming) → Passed s chosen parties claims part
    → shows part ≡ true
passed-shown s chosen parties claims part is =
    second-holds (FewVotes (vote_count part)) BadPath (nat_le s.keys.quorum (vote_count part)) (shows part) ((SameAuthority, not (part.first == part.second)) ∷ [])
    (order-then (with_error of_signers (signers_answer s.keys parties claims)) (first_failing (content_tests s.keys.quorum part)) tt (behind-first s chosen parties claims part is))

-- ---- a confirmation may be confirmed

-- the test of an epoch
pub epoch-test : (epoch : ℕ) → 1 ≤ epoch → epoch ≤ 2 ^ 63 → is_epoch epoch ≡ true
epoch-test epoch least most = ap (λ (b : Bool). b && nat_le epoch (2 ^ 63)) (le-leb 1 epoch least) ∙ le-leb epoch (2 ^ 63) most

members-voted : (council : Council) (votes : List Vote) → All (IsMember council) (map (λ v. log_party v.log) votes) → All (λ voter. voter < council.logs) (map (λ v. v.log) votes)
members-voted council votes all =
    All-map (λ voter. voter < council.logs) (λ (v : Vote). v.log) votes (All-unmap (IsMember council) (λ (v : Vote). log_party v.log) votes all)

may-confirm : (keys : Directory) (part : Confirming) (authority : ℕ) → IsConfirming part → All (IsMember (council_of keys)) (parties_of part authority) → keys.quorum ≤ vote_count part
    → MayConfirm (council_of keys) part.log (voters_of part) (kept_of part)
may-confirm keys part authority is members many =
    let rest = All-tail (IsMember (council_of keys)) (log_party part.log) (map (λ (v : Vote). log_party v.log) part.votes ++ authority_party authority ∷ []) members in
    record {
      known = All-head (IsMember (council_of keys)) (log_party part.log) (map (λ (v : Vote). log_party v.log) part.votes ++ authority_party authority ∷ []) members;
      voted = members-voted (council_of keys) part.votes (all-left (IsMember (council_of keys)) (map (λ (v : Vote). log_party v.log) part.votes) (authority_party authority ∷ []) rest);
      many = many;
      epoch = epoch-test part.epoch is.about.epoch.0 is.about.epoch.1;
      name = is.about.name;
      certificate = digest-fits-if-there (confirmation.certificate_in (shown_in part.body));
      value = record { base = is.base; root = is.about.root };
    }

authority-member : (council : Council) (part : Confirming) (authority : ℕ) → All (IsMember council) (parties_of part authority) → authority < council.authorities
authority-member council part authority members =
    All-head (IsMember council) (authority_party authority) []
    (all-right (IsMember council) (map (λ (v : Vote). log_party v.log) part.votes) (authority_party authority ∷ [])
    (All-tail (IsMember council) (log_party part.log) (map (λ (v : Vote). log_party v.log) part.votes ++ authority_party authority ∷ []) members))

-- ---- what is seen

votes-seen : (part : Confirming) (votes : List Vote) → map seen_in (map (voted_by part) votes) ≡ seen_of_votes (map (λ v. v.log) votes) (kept_of part)
votes-seen part [] = refl
votes-seen part (v ∷ votes) = ap (λ (rest : List SeenText). seen_in (voted_by part v) ∷ rest) (votes-seen part votes)

pub log-seen : (part : Confirming) → map seen_in (log_claims part) ≡ seen_of_log part.log (voters_of part) (kept_of part)
log-seen part = ap (λ (rest : List SeenText). seen_in (log_claimed part) ∷ rest) (votes-seen part part.votes)

pub half-seen : (part : Confirming) (first_signature : List ℕ) → map seen_in (half_claims part first_signature) ≡ seen_of_half part.log (voters_of part) part.first (kept_of part)
half-seen part first_signature =
    ap (λ (rest : List SeenText). seen_in (log_claimed part) ∷ (seen_in (confirmed_by part (authority_party part.first) first_signature) ∷ rest)) (votes-seen part part.votes)

-- ---- the rows of confirmations

pub log-keeps : (s : AuthorityState) (part : Confirming) → IsAuthority s → IsConfirming part → Passed s part.first (parties_of part part.second) (log_claims part) part
    → IsAuthority (record s { past = confirming s.me s.past (map seen_in (log_claims part)) (kept_of part) })
log-keeps s part is confirming-is passed =
    let members = passed-members s part.first (parties_of part part.second) (log_claims part) part passed in
    let may = may-confirm s.keys part part.second confirming-is members (passed-many s part.first (parties_of part part.second) (log_claims part) part passed) in
    record {
      number = is.number;
      bytes = is.bytes;
      honest = subst (λ (seen : List SeenText). IsOfHonestAuthority (council_of s.keys) s.me (confirming s.me s.past seen (kept_of part))) (sym (log-seen part))
          (honest-first (council_of s.keys) s.me s.past part.log (voters_of part) (kept_of part) is.honest is.number may);
    }

pub half-keeps : (s : AuthorityState) (part : Confirming) (first_signature : List ℕ) → IsAuthority s → IsConfirming part
    → Passed s part.second (parties_of part part.first) (half_claims part first_signature) part
    → IsAuthority (record s { past = confirming s.me s.past (map seen_in (half_claims part first_signature)) (kept_of part) })
half-keeps s part first_signature is confirming-is passed =
    let members = passed-members s part.second (parties_of part part.first) (half_claims part first_signature) part passed in
    let may = may-confirm s.keys part part.first confirming-is members (passed-many s part.second (parties_of part part.first) (half_claims part first_signature) part passed) in
    record {
      number = is.number;
      bytes = is.bytes;
      honest = subst (λ (seen : List SeenText). IsOfHonestAuthority (council_of s.keys) s.me (confirming s.me s.past seen (kept_of part))) (sym (half-seen part first_signature))
          (honest-second (council_of s.keys) s.me s.past part.log (voters_of part) part.first (kept_of part) is.honest is.number may
          (authority-member (council_of s.keys) part part.first members));
    }

-- ---- an endorsement

pub endorse-keeps : (s : AuthorityState) (a : Approved) → IsAuthority s → IsDigest a.certificate → IsAuthority (record s { past = after_endorse s.me s.past a })
endorse-keeps s a is digest =
    record { number = is.number; bytes = is.bytes; honest = honest-endorse (council_of s.keys) s.me s.past a is.honest is.number digest }

-- ---- Rolls

pub note-keeps : (s : AuthorityState) (a : Announced) (l : Learned) → IsAuthority s → learned s.keys a ≡ Ok l → IsAuthority (learning s a)
note-keeps s a l is e = record {
  number = is.number;
  bytes = is.bytes;
  honest = subst (λ (council : Council). IsOfHonestAuthority council s.me (after_learn s.past a)) (sym (council-learning s.keys a))
      (honest-learn (council_of s.keys) s.me s.past a is.honest (member s.keys a.party (note-known s.keys a l e)));
}

not-last : (n : ℕ) → (n == 999) ≡ false → n ≤ 999 → n < 999
not-last n other most = grind (arith, nat_tests)

roll-room : (s : AuthorityState) (next : LmsPublic) (due : DueParts) → IsAuthority s → rolled s.past.signed (roll_text (authority_party s.me) s.past.signed.newest next) ≡ Ok due → s.past.signed.newest < 999
roll-room s next due is e = by (s.past.signed.newest == 999) refl e
  where
    by : (b : Bool) → (s.past.signed.newest == 999) ≡ b
        → cond b (Err Last) (Ok (record { generation = s.past.signed.newest; leaf = s.past.signed.leaves - 1; text = roll_text (authority_party s.me) s.past.signed.newest next; leaves = s.past.signed.leaves })) ≡ Ok due
        → s.past.signed.newest < 999
    by true at h = absurd cc
    by false at h = not-last s.past.signed.newest at is.honest.sound.last

pub roll-keeps : (s : AuthorityState) (next : LmsPublic) (due : DueParts) → IsAuthority s → rolled s.past.signed (roll_text (authority_party s.me) s.past.signed.newest next) ≡ Ok due
    → IsKeyText (key_text next) → HasWidths next → IsAuthority (rolling s next)
roll-keeps s next due is e text widths = record {
  number = is.number;
  bytes = is.bytes;
  honest = subst (λ (council : Council). IsOfHonestAuthority council s.me (after_roll s.me s.past (key_text next))) (sym (council-adopting s.keys (authority_party s.me) s.past.signed.newest next))
      (honest-roll (council_of s.keys) s.me s.past (key_text next) is.honest is.number
      (record { not_last = roll-room s next due is e; is_key = text; readable = readable next widths }));
}
