-- Each signature of a message's lists stands in a claim of the message.
use Rattle.std.proofs.Common.{ℕ, List, [], ◌∷◌}
use Rattle.std.specs.Prelude.{All, Contains, flat_map, map}
use Rattle.std.proofs.lemmas.List.Elements.{All-cons, All-contains, All-contains_itself, All-nil, Contains-append_left, Contains-append_right}
use Rattle.ar_cert.specs.Certificate.{digest_of}
use Rattle.ar_cert.specs.Changes.{Change, Endorsement}
use Rattle.ar_claims.specs.Claimed.{claimed_in, confirmed_claim, votes_behind}
use Rattle.ar_claims.specs.Lists.{endorsements_in, claimed_statuses, claimed_votes}
use Rattle.ar_council.proofs.Lists.{All-unmap, Contains-later, all-left, all-right}
use Rattle.ar_council.specs.Values.{status_claim}
use Rattle.ar_message.specs.declared.lists.LogStatus.{LogStatus}
use Rattle.ar_message.specs.declared.lists.Vote.{Vote}
use Rattle.ar_message.specs.declared.message.Confirming.{Confirming}
use Rattle.ar_message.specs.declared.message.Message.TheVariants.{Decision, HalfConfirmed, LogConfirmed, Propose, SkipNote, Submit}
use Rattle.ar_statement.specs.Claims.{authority_party, endorse, log_party, propose, status, value_with, vote}
use Rattle.party_keys.specs.Signers.{Claimed, signed_by}

-- ---- lists

mapped : {X Y : Type 0} (f : X → Y) (xs : List X) (x : X) → Contains xs x → Contains (map f xs) (f x)
mapped f xs x there =
    All-contains (λ y. Contains (map f xs) (f y)) xs x (All-unmap (Contains (map f xs)) f xs (All-contains_itself (map f xs))) there

flat-each : {X Y : Type 0} (f : X → List Y) (whole : List Y) (xs : List X) → All (Contains whole) (flat_map f xs) → All (λ x. All (Contains whole) (f x)) xs
flat-each f whole [] all = All-nil (λ x. All (Contains whole) (f x))
flat-each f whole (x ∷ xs) all =
    All-cons (λ y. All (Contains whole) (f y)) x xs (all-left (Contains whole) (f x) (flat_map f xs) all)
    (flat-each f whole xs (all-right (Contains whole) (f x) (flat_map f xs) all))

in-flat : {X Y : Type 0} (f : X → List Y) (xs : List X) (x : X) (y : Y) → Contains xs x → Contains (f x) y → Contains (flat_map f xs) y
in-flat f xs x y outer inner =
    let whole = flat_map f xs in
    All-contains (Contains whole) (f x) y (All-contains (λ z. All (Contains whole) (f z)) xs x (flat-each f whole xs (All-contains_itself whole)) outer) inner

-- ---- endorsements

-- the claim of an endorsement of a change
abbrev endorsed : Change → Endorsement → Claimed
endorsed change e = signed_by (authority_party e.authority) (endorse e.authority (digest_of change.cert)) e.signature

pub submitted : (change : Change) (e : Endorsement) → Contains change.endorsements e → Contains (claimed_in (Submit change)) (endorsed change e)
submitted change e there = mapped (endorsed change) change.endorsements e there

pub proposed : (log epoch : ℕ) (base root : List ℕ) (changes : List Change) (signature : List ℕ) (change : Change) (e : Endorsement) → Contains changes change
    → Contains change.endorsements e → Contains (claimed_in (Propose log epoch base root changes signature)) (endorsed change e)
proposed log epoch base root changes signature change e outer inner =
    Contains-later (signed_by (log_party log) (propose log epoch base root) signature) (flat_map endorsements_in changes) (endorsed change e)
    (in-flat endorsements_in changes change (endorsed change e) outer (submitted change e inner))

pub decided : (epoch : ℕ) (base root : List ℕ) (changes : List Change) (votes : List Vote) (change : Change) (e : Endorsement) → Contains changes change
    → Contains change.endorsements e → Contains (claimed_in (Decision epoch base root changes votes)) (endorsed change e)
decided epoch base root changes votes change e outer inner =
    Contains-append_right (claimed_votes epoch (value_with base root) votes) (flat_map endorsements_in changes) (endorsed change e)
    (in-flat endorsements_in changes change (endorsed change e) outer (submitted change e inner))

-- ---- votes and statuses

-- the claim of a vote
abbrev voted : ℕ → List ℕ → List ℕ → Vote → Claimed
voted epoch base root v = signed_by (log_party v.log) (vote v.log epoch base root) v.signature

pub votes : (epoch : ℕ) (base root : List ℕ) (changes : List Change) (all : List Vote) (v : Vote) → Contains all v
    → Contains (claimed_in (Decision epoch base root changes all)) (voted epoch base root v)
votes epoch base root changes all v there =
    Contains-append_left (claimed_votes epoch (value_with base root) all) (flat_map endorsements_in changes) (voted epoch base root v)
    (mapped (voted epoch base root) all v there)

pub statuses : (epoch : ℕ) (all : List LogStatus) (x : LogStatus) → Contains all x
    → Contains (claimed_in (SkipNote epoch all)) (signed_by (log_party x.log) (status x.log epoch x.value) x.signature)
statuses epoch all x there =
    mapped (λ (y : LogStatus). signed_by (log_party y.log) (status_claim y.log epoch y.value) y.signature) all x there

pub behind-log : (part : Confirming) (v : Vote) → Contains part.votes v → Contains (claimed_in (LogConfirmed part)) (voted part.epoch part.base part.root v)
behind-log part v there =
    Contains-later (confirmed_claim part (log_party part.log) part.signature) (votes_behind part) (voted part.epoch part.base part.root v)
    (mapped (voted part.epoch part.base part.root) part.votes v there)

pub behind-half : (part : Confirming) (first_signature : List ℕ) (v : Vote) → Contains part.votes v
    → Contains (claimed_in (HalfConfirmed part first_signature)) (voted part.epoch part.base part.root v)
behind-half part first_signature v there =
    let c : Claimed = voted part.epoch part.base part.root v in
    let first : Claimed = confirmed_claim part (authority_party part.first) first_signature in
    Contains-later (confirmed_claim part (log_party part.log) part.signature) (first ∷ votes_behind part) c
    (Contains-later first (votes_behind part) c (mapped (voted part.epoch part.base part.root) part.votes v there))
