-- What a client takes was claimed by the bytes that it took, and verified.
use Rattle.std.proofs.Common.{◌≡◌, ℕ, List, Some, Result, Ok, Err, sym, subst}
use Rattle.std.specs.Prelude.{Contains}
use Rattle.std.specs.List.{AllByRecursion}
use Rattle.std.proofs.lemmas.List.Elements.{All-contains_itself, recursion_from_All}
use Rattle.ar_base.specs.Bytes.{AreBytes}
use Rattle.ar_claims.specs.Claimed.{claimed_by, claimed_in_bytes, claimed_on}
use Rattle.ar_claims.specs.Verified.{IsVerifiedIn}
use Rattle.ar_claims.proofs.Shown.{confirmation-claims}
use Rattle.ar_claims.proofs.Verified.{announced_in, learnt-claimed}
use Rattle.ar_message.specs.Confirmation.{Confirmation}
use Rattle.ar_message.specs.Messages.{message_in}
use Rattle.ar_message.specs.declared.message.Message.{Message}
use Rattle.ar_message.specs.declared.message.Message.TheVariants as messages
use Rattle.ar_message.specs.declared.message.Message.TheVariants.{EndorseAsk, Endorsed, Submit, Propose, Ballot, StatusNote, Decision, SkipNote, ConfirmAsk, LogConfirmed, HalfConfirmed, RollNote}
use Rattle.ar_statement.specs.Claims.{authority_party, log_party}
use Rattle.ar_statement.specs.declared.party.Party.{Party}
use Rattle.ar_statement.specs.declared.text.SeenText.{SeenText}
use Rattle.party_keys.specs.Directory.{Directory}
use Rattle.party_keys.specs.Learning.{Announced, learned, roll_claim}
use Rattle.party_keys.specs.Seen.{seen_of}
use Rattle.party_keys.specs.Signers.{Claimed}
use Rattle.party_keys.specs.declared.learning.Learned.{Learned}
use Rattle.client_rule.specs.Meaning.{PassesChecks}
use Rattle.client_rule.specs.Notes.{note_of}
use Rattle.client_rule.specs.Rule.{Asked, claim_on}

-- ---- a confirmation

-- a party's statement in a confirmation is a claim of the bytes
abbrev Claims : Asked → List ℕ → Confirmation → Party → Type 0
Claims asked bytes c party = IsVerifiedIn asked.keys (claimed_in_bytes bytes) (seen_of party (claim_on c.about c.body party))

-- each claim of a confirmation is one of them
all-there : (c : Confirmation) → AllByRecursion (Contains (claimed_on c)) (claimed_on c)
all-there c = recursion_from_All (Contains (claimed_on c)) (claimed_on c) (All-contains_itself (claimed_on c))

-- what is one of the claims of a confirmation is one of those of the bytes
of-bytes : (asked : Asked) (bytes : List ℕ) (c : Confirmation) (t : SeenText) → AreBytes bytes → PassesChecks asked bytes c → IsVerifiedIn asked.keys (claimed_on c) t
    → IsVerifiedIn asked.keys (claimed_in_bytes bytes) t
of-bytes asked bytes c t are p there = subst (λ (l : List Claimed). IsVerifiedIn asked.keys l t) (sym (confirmation-claims bytes c are p.is_read)) there

pub log-claims : (asked : Asked) (bytes : List ℕ) (c : Confirmation) → AreBytes bytes → PassesChecks asked bytes c → Claims asked bytes c (log_party c.log.number)
log-claims asked bytes c are p =
    let party = log_party c.log.number in
    of-bytes asked bytes c (seen_of party (claim_on c.about c.body party)) are p (c.log.signature, (all-there c).0, p.holds.1.1.0)

pub first-claims : (asked : Asked) (bytes : List ℕ) (c : Confirmation) → AreBytes bytes → PassesChecks asked bytes c → Claims asked bytes c (authority_party c.first.number)
first-claims asked bytes c are p =
    let party = authority_party c.first.number in
    of-bytes asked bytes c (seen_of party (claim_on c.about c.body party)) are p (c.first.signature, (all-there c).1.0, p.holds.1.1.1.0)

pub second-claims : (asked : Asked) (bytes : List ℕ) (c : Confirmation) → AreBytes bytes → PassesChecks asked bytes c → Claims asked bytes c (authority_party c.second.number)
second-claims asked bytes c are p =
    let party = authority_party c.second.number in
    of-bytes asked bytes c (seen_of party (claim_on c.about c.body party)) are p (c.second.signature, (all-there c).1.1.0, p.holds.1.1.1.1.0)

-- ---- the note of a Roll

same-claims : (b a : Announced) → Some b ≡ Some a → announced_in b ≡ announced_in a
same-claims b a is = let same : b ≡ a = cc in λ i. announced_in (same i)

-- the claims of the note are those of what it announces
note-claims : (read : Result Message ℕ) (a : Announced) → note_of read ≡ Some a → claimed_by read ≡ announced_in a
note-claims (Ok (RollNote party generation key signature)) a is = same-claims (record { party = party; generation = generation; key = key; signature = signature }) a is
note-claims (Ok (EndorseAsk owner cert)) a is = absurd cc
note-claims (Ok (Endorsed owner authority certificate signature)) a is = absurd cc
note-claims (Ok (Submit change)) a is = absurd cc
note-claims (Ok (Propose log epoch base root changes signature)) a is = absurd cc
note-claims (Ok (Ballot log epoch base root signature)) a is = absurd cc
note-claims (Ok (StatusNote log epoch value signature)) a is = absurd cc
note-claims (Ok (Decision epoch base root changes votes)) a is = absurd cc
note-claims (Ok (SkipNote epoch statuses)) a is = absurd cc
note-claims (Ok (ConfirmAsk client name first second)) a is = absurd cc
note-claims (Ok (LogConfirmed part)) a is = absurd cc
note-claims (Ok (HalfConfirmed part first_signature)) a is = absurd cc
note-claims (Ok (messages.Confirmation client epoch name root body log log_signature first first_signature second second_signature)) a is = absurd cc
note-claims (Err place) a is = absurd cc

pub roll-claims : (keys : Directory) (bytes : List ℕ) (a : Announced) (how : Learned) → note_of (message_in bytes) ≡ Some a → learned keys a ≡ Ok how
    → IsVerifiedIn keys (claimed_in_bytes bytes) (seen_of a.party (roll_claim a))
unfolding claimed_in_bytes
roll-claims keys bytes a how is learnt =
    subst (λ (l : List Claimed). IsVerifiedIn keys l (seen_of a.party (roll_claim a))) (sym (note-claims (message_in bytes) a is)) (learnt-claimed keys a how learnt)
