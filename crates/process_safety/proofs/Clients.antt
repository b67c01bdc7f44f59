-- What each act keeps of what clients have, and what they learn and accept.
use Rattle.std.proofs.Common.{◌≡◌, ◌∙◌, inl, inr, ℕ, zero, suc, ◌<◌, List, [], ◌∷◌, ◌++◌, get_or, refl, sym, subst, arith, Option, Some, None, Result, Ok, Err}
use Rattle.std.specs.Prelude.{All, Contains, map}
use Rattle.std.proofs.lemmas.List.Elements.{All-head, All-push, All-tail, All-weaker, Contains-append_left, Contains-push}
use Rattle.ar_base.specs.Bytes.{AreBytes}
use Rattle.ar_claims.specs.Claimed.{claimed_in_bytes}
use Rattle.ar_claims.specs.Verified.{IsVerifiedIn}
use Rattle.ar_council.proofs.Members.{council-learning}
use Rattle.ar_council.proofs.Seeing.{seen-exactly}
use Rattle.ar_council.specs.Council.{council_of}
use Rattle.ar_message.specs.Messages.{message_in}
use Rattle.ar_safety.specs.Held.{AcceptedBytes, IsAccepting, asked_by, verdict_on}
use Rattle.ar_statement.specs.declared.text.SeenText.{SeenText}
use Rattle.run_safety.specs.ar_world.Judging.{accepted_with}
use Rattle.run_safety.specs.ar_world.Learning.{knows_by, rolls_by, rolls_with}
use Rattle.client_rule.proofs.Claiming.{roll-claims}
use Rattle.client_rule.proofs.Learning.{still_absent, still_accepted}
use Rattle.client_rule.specs.Notes.{note_of}
use Rattle.client_rule.specs.declared.judgement.Judgement.{Judgement}
use Rattle.client_rule.specs.declared.judgement.Judgement.TheVariants.{Absent, Accepted, Refused}
use Rattle.key_roll.specs.Book.{texts_of}
use Rattle.party_keys.specs.Directory.{Directory, IsDirectory}
use Rattle.party_keys.specs.Learning.{Announced, after_learning, learned, learning, roll_claim}
use Rattle.party_keys.specs.Seen.{seen_of}
use Rattle.party_keys.specs.Signers.{Claimed}
use Rattle.party_keys.specs.declared.fault.LearnFault.{LearnFault}
use Rattle.party_keys.specs.declared.learning.Learned.{Learned}
use Rattle.run_safety.specs.Own.{HonestParties, KnowsReal, PartyParts, SawSigned}
use Rattle.run_safety.proofs.Learns.{knows-directory}
use Rattle.run_safety.proofs.Notes.{noted-of}
use Rattle.run_safety.proofs.PartySteps.{IsEnd, Learns, learns-real}
use Rattle.run_safety.proofs.RealKeys.{claim-signed}
use Rattle.process_safety.specs.Network.{ClientAct, ClientParts, after_act, after_acts, bytes_of_act, judges, learns_from}
use Rattle.process_safety.proofs.Along.{contains-behind}

-- ---- what was accepted stays accepted

abbrev IsTaken : Directory → AcceptedBytes → Type 0
IsTaken directory t = IsAccepting (verdict_on directory t)

-- by a directory that learnt the verdict is the same
same-verdict : (keys : Directory) (a : Announced) (t : AcceptedBytes) (v : Judgement) → verdict_on keys t ≡ v → IsAccepting v → verdict_on (after_learning keys a) t ≡ v
same-verdict keys a t (Accepted certificate digest epoch root) is taken = still_accepted (asked_by keys t) (a ∷ []) t.bytes certificate digest epoch root is
same-verdict keys a t (Absent epoch root) is taken = still_absent (asked_by keys t) (a ∷ []) t.bytes epoch root is
same-verdict keys a t (Refused number) is taken = absurd taken

still-taken : (keys : Directory) (note : Option Announced) (t : AcceptedBytes) → IsTaken keys t → IsTaken (knows_by keys note) t
still-taken keys None t taken = taken
still-taken keys (Some a) t taken = subst IsAccepting (sym (same-verdict keys a t (verdict_on keys t) refl taken)) taken

-- ---- what an act keeps

-- the directory is one, of the council with which all began; what is held are bytes, which it accepts
pub record AreClients (directory : Directory) (c : ClientParts) : Type 0 where
  pub is_directory : IsDirectory c.directory
  pub council : council_of c.directory ≡ council_of directory
  pub taken : All (λ (t : AcceptedBytes). IsAccepting (verdict_on c.directory t)) c.judged
  pub bytes : All (λ (t : AcceptedBytes). AreBytes t.bytes) c.judged

same-council : (keys : Directory) (note : Option Announced) → council_of (knows_by keys note) ≡ council_of keys
same-council keys None = refl
same-council keys (Some a) = council-learning keys a

-- with what is judged
judged-all : (P : AcceptedBytes → Type 0) (judged : List AcceptedBytes) (t : AcceptedBytes) (v : Judgement) → All P judged → (IsAccepting v → P t) → All P (accepted_with judged t v)
judged-all P judged t (Accepted certificate digest epoch root) all new = All-push P judged t all (new tt)
judged-all P judged t (Absent epoch root) all new = All-push P judged t all (new tt)
judged-all P judged t (Refused number) all new = all

act-kept : (directory : Directory) (c : ClientParts) (act : ClientAct) → AreBytes (bytes_of_act act) → AreClients directory c → AreClients directory (after_act c act)
act-kept directory c (learns_from bytes) are kept =
    let note = note_of (message_in bytes) in
    record {
      is_directory = knows-directory c.directory note kept.is_directory;
      council = same-council c.directory note ∙ kept.council;
      taken = All-weaker (IsTaken c.directory) (IsTaken (knows_by c.directory note)) (still-taken c.directory note) c.judged kept.taken;
      bytes = kept.bytes;
    }
act-kept directory c (judges t) are kept = record {
  is_directory = kept.is_directory;
  council = kept.council;
  taken = judged-all (IsTaken c.directory) c.judged t (verdict_on c.directory t) kept.taken (λ accepts. accepts);
  bytes = judged-all (λ (x : AcceptedBytes). AreBytes x.bytes) c.judged t (verdict_on c.directory t) kept.bytes (λ accepts. are);
}

pub acts-kept : (directory : Directory) (acts : List ClientAct) (c : ClientParts) → All (λ (act : ClientAct). AreBytes (bytes_of_act act)) acts → AreClients directory c → AreClients directory (after_acts c acts)
acts-kept directory [] c are kept = kept
acts-kept directory (act ∷ acts) c are kept =
    let Is : ClientAct → Type 0 = λ act. AreBytes (bytes_of_act act) in
    acts-kept directory acts (after_act c act) (All-tail Is act acts are) (act-kept directory c act (All-head Is act acts are) kept)

-- ---- what clients know is real

-- what they know of honest parties is real, the Rolls that they learnt stand in their parties' books, and what they accepted is a
-- message of these
pub record AreReal (own : HonestParties) (messages : List (List ℕ)) (c : ClientParts) : Type 0 where
  pub knows : KnowsReal own c.directory
  pub learned : SawSigned own c.learned
  pub judged : All (λ (t : AcceptedBytes). Contains messages t.bytes) c.judged

-- what they know behind a note
note-real : (own : HonestParties) (all : List Claimed) (keys : Directory) (bytes : List ℕ) (note : Option Announced) → IsEnd own all → AreBytes bytes → ((c : Claimed) → Contains (claimed_in_bytes bytes) c → Contains all c)
    → note_of (message_in bytes) ≡ note → KnowsReal own keys → KnowsReal own (knows_by keys note)
note-real own all keys bytes None end are within is real = real
note-real own all keys bytes (Some a) end are within is real = by (learned keys a) refl
  where
    by : (r : Result Learned LearnFault) → learned keys a ≡ r → KnowsReal own (after_learning keys a)
    by (Ok how) at = learns-real own all (claimed_in_bytes bytes) keys (after_learning keys a) end within
        (record { note = a; is = refl; noted = noted-of bytes a are is; claimed = roll-claims keys bytes a how is at }) real
    by (Err fault) at = subst (λ (r : Result Learned LearnFault). KnowsReal own (learning r keys a)) (sym at) real

only-one : (x t : SeenText) → Contains (x ∷ []) t → x ≡ t
only-one x t has = at has.0 has.1 has.2
  where
    at : (k : ℕ) → k < 1 → get_or (x ∷ []) k t ≡ t → x ≡ t
    at zero less same = same
    at (suc k) less same = absurd (omega (arith, less))

-- and the Rolls that they learnt
rolls-real : (own : HonestParties) (all : List Claimed) (keys : Directory) (rolls : List SeenText) (bytes : List ℕ) (note : Option Announced) → IsEnd own all → ((c : Claimed) → Contains (claimed_in_bytes bytes) c → Contains all c)
    → note_of (message_in bytes) ≡ note → KnowsReal own keys → SawSigned own rolls → SawSigned own (rolls_by keys rolls note)
rolls-real own all keys rolls bytes None end within is real saw = saw
rolls-real own all keys rolls bytes (Some a) end within is real saw = λ t p its there. by t p its (learned keys a) refl there
  where
    new : SeenText
    new = seen_of a.party (roll_claim a)

    by : (t : SeenText) (p : PartyParts) → own t.party ≡ Some p → (r : Result Learned LearnFault) → learned keys a ≡ r → Contains (rolls_with rolls new r) t → Contains (texts_of p.book) t.text
    by t p its (Err why) at there = saw t p its there
    by t p its (Ok how) at there = elim ((seen-exactly rolls (new ∷ []) t).0 there) [
      | inl before ↦ saw t p its before
      | inr one ↦
          let v : IsVerifiedIn keys (claimed_in_bytes bytes) t = subst (IsVerifiedIn keys (claimed_in_bytes bytes)) (only-one new t one) (roll-claims keys bytes a how is at) in
          claim-signed own all (claimed_in_bytes bytes) keys t p end.none within real its v
    ]

act-real : (own : HonestParties) (all : List Claimed) (messages : List (List ℕ)) (c : ClientParts) (act : ClientAct) → IsEnd own all → AreBytes (bytes_of_act act)
    → Contains messages (bytes_of_act act) → ((x : Claimed) → Contains (claimed_in_bytes (bytes_of_act act)) x → Contains all x) → AreReal own messages c → AreReal own messages (after_act c act)
act-real own all messages c (learns_from bytes) end are there within real = record {
  knows = note-real own all c.directory bytes (note_of (message_in bytes)) end are within refl real.knows;
  learned = rolls-real own all c.directory c.learned bytes (note_of (message_in bytes)) end within refl real.knows real.learned;
  judged = real.judged;
}
act-real own all messages c (judges t) end are there within real = record {
  knows = real.knows;
  learned = real.learned;
  judged = judged-all (λ (x : AcceptedBytes). Contains messages x.bytes) c.judged t (verdict_on c.directory t) real.judged (λ accepts. there);
}

pub acts-real : (own : HonestParties) (all : List Claimed) (messages : List (List ℕ)) (acts : List ClientAct) (c : ClientParts) → IsEnd own all
    → All (λ (act : ClientAct). AreBytes (bytes_of_act act)) acts → ((bytes : List ℕ) → Contains (map bytes_of_act acts) bytes → Contains messages bytes)
    → ((bytes : List ℕ) → Contains messages bytes → (x : Claimed) → Contains (claimed_in_bytes bytes) x → Contains all x)
    → AreReal own messages c → AreReal own messages (after_acts c acts)
acts-real own all messages [] c end are there within real = real
acts-real own all messages (act ∷ acts) c end are there within real =
    let Is : ClientAct → Type 0 = λ act. AreBytes (bytes_of_act act) in
    let mine : Contains messages (bytes_of_act act) = there (bytes_of_act act) (0, omega arith, refl) in
    acts-real own all messages acts (after_act c act) end (All-tail Is act acts are)
    (λ bytes has. there bytes (contains-behind (bytes_of_act act) bytes (map bytes_of_act acts) has)) within
    (act-real own all messages c act end (All-head Is act acts are) mine (within (bytes_of_act act) mine) real)

-- ---- what clients accepted is held

-- the verdict by which an act accepted is that by the directory behind all acts
pub verdict-lasts : (acts : List ClientAct) (c : ClientParts) (t : AcceptedBytes) → IsAccepting (verdict_on c.directory t) → verdict_on (after_acts c acts).directory t ≡ verdict_on c.directory t
verdict-lasts [] c t taken = refl
verdict-lasts (learns_from bytes ∷ acts) c t taken =
    let note = note_of (message_in bytes) in
    let same = by note in
    verdict-lasts acts (after_act c (learns_from bytes)) t (subst IsAccepting (sym same) taken) ∙ same
  where
    by : (note : Option Announced) → verdict_on (knows_by c.directory note) t ≡ verdict_on c.directory t
    by None = refl
    by (Some a) = same-verdict c.directory a t (verdict_on c.directory t) refl taken
verdict-lasts (judges u ∷ acts) c t taken = verdict-lasts acts (after_act c (judges u)) t taken

-- what is held stays held
more-judged : (judged : List AcceptedBytes) (u t : AcceptedBytes) (v : Judgement) → Contains judged t → Contains (accepted_with judged u v) t
more-judged judged u t (Accepted certificate digest epoch root) there = Contains-append_left judged (u ∷ []) t there
more-judged judged u t (Absent epoch root) there = Contains-append_left judged (u ∷ []) t there
more-judged judged u t (Refused number) there = there

judged-lasts : (acts : List ClientAct) (c : ClientParts) (t : AcceptedBytes) → Contains c.judged t → Contains (after_acts c acts).judged t
judged-lasts [] c t there = there
judged-lasts (learns_from bytes ∷ acts) c t there = judged-lasts acts (after_act c (learns_from bytes)) t there
judged-lasts (judges u ∷ acts) c t there = judged-lasts acts (after_act c (judges u)) t (more-judged c.judged u t (verdict_on c.directory u) there)

acts-append : (front rest : List ClientAct) (c : ClientParts) → after_acts c (front ++ rest) ≡ after_acts (after_acts c front) rest
acts-append [] rest c = refl
acts-append (act ∷ front) rest c = acts-append front rest (after_act c act)

now-judged : (judged : List AcceptedBytes) (t : AcceptedBytes) (v : Judgement) → IsAccepting v → Contains (accepted_with judged t v) t
now-judged judged t (Accepted certificate digest epoch root) taken = Contains-push judged t
now-judged judged t (Absent epoch root) taken = Contains-push judged t
now-judged judged t (Refused number) taken = absurd taken

-- so what an act accepts is held in the end, with the verdict by which it was accepted
pub accepted-held : (front rest : List ClientAct) (c : ClientParts) (t : AcceptedBytes) → IsAccepting (verdict_on (after_acts c front).directory t)
    → Contains (after_acts c (front ++ (judges t ∷ rest))).judged t
    × (verdict_on (after_acts c (front ++ (judges t ∷ rest))).directory t ≡ verdict_on (after_acts c front).directory t)
accepted-held front rest c t taken =
    let then : ClientParts = after_acts c front in
    subst (λ (d : ClientParts). Contains d.judged t × (verdict_on d.directory t ≡ verdict_on then.directory t)) (sym (acts-append front (judges t ∷ rest) c)) (
      judged-lasts rest (after_act then (judges t)) t (now-judged then.judged t (verdict_on then.directory t) taken),
      verdict-lasts rest (after_act then (judges t)) t taken,
    )
