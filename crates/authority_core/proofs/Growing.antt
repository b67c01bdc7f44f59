-- A record stays an honest authority's when more is seen, asked, kept or signed.
use Rattle.std.proofs.Common.{◌≡◌, ℕ, ◌<◌, ◌^◌, inl, List, [], ◌∷◌, ◌++◌, refl, sym, subst, arith, true, false, ◌&&◌, ◌==◌, Option, Some, None}
use Rattle.std.specs.Prelude.{All, Contains, IfSome, map, nat_le}
use Rattle.std.specs.Str.{bytes_eq}
use Rattle.std.proofs.lemmas.Bool.{and_parts, eqb-true, leb-true}
use Rattle.std.proofs.lemmas.List.Elements.{All-cons, All-contains, All-contains_itself, All-map, All-nil, All-weaker, Contains-append_right}
use Rattle.std.proofs.lemmas.Slice.Eq.{bytes_eq-Decides}
use Rattle.ar_base.specs.Bytes.{IsDigest}
use Rattle.ar_base.specs.Adding.{with_one}
use Rattle.ar_base.proofs.Adding.{one-keeps, one-some}
use Rattle.ar_names.specs.Names.{IsName}
use Rattle.ar_statement.specs.declared.text.SeenText.{SeenText}
use Rattle.ar_statement.specs.Claims.{Claim, answer, authority_party, confirm, confirm_absent, confirmation_by, endorse, handover, log_party, object, propose, roll, status, text_of, vote}
use Rattle.ar_statement.specs.Fields.{is_epoch}
use Rattle.ar_statement.specs.Ranges.{IsTextOf, IsValid}
use Rattle.key_roll.specs.Book.{texts_of}
use Rattle.key_roll.specs.Entry.{MayRoll, after_entry}
use Rattle.key_roll.specs.Rolls.{is_roll}
use Rattle.key_roll.proofs.Books.{after_entry_keeps, is_roll-kind, named-roll, roll_keeps}
use Rattle.party_keys.specs.Seen.{Saw, seen_of}
use Rattle.party_keys.specs.Learning.{Announced, roll_claim}
use Rattle.ar_council.proofs.Books.{empty-book, entry-all, entry-has, roll-all}
use Rattle.ar_council.proofs.Lists.{All-unmap, Within, same-within}
use Rattle.ar_council.proofs.Seeing.{seen-all, seen-has, seen-keeps}
use Rattle.ar_council.proofs.Texts.{own-text}
use Rattle.ar_council.specs.Council.{Council, IsMember}
use Rattle.ar_council.specs.Room.{HasRoom}
use Rattle.ar_council.specs.Seen.{seen_after}
use Rattle.ar_council.specs.Values.{is_same_digest, vote_claim}
use Rattle.ar_council.proofs.Votes.{votes-more}
use Rattle.ar_council.proofs.Values.{one_digest}
use Rattle.ar_council.specs.Votes.{SawVotes}
use Rattle.authority_core.specs.Calls.{MayConfirm, after_endorse, after_half_confirmed, after_learn, after_log_confirmed, after_roll, confirming, fresh_authority, is_same_asked, is_same_kept, is_same_path, kept_claim, kept_value, seen_of_half, seen_of_log, seen_confirmed, seen_of_votes}
use Rattle.authority_core.specs.Honest.{HasAsked, HasKept, IsOfHonestAuthority, ToldBy}
use Rattle.authority_core.specs.Record.{AuthorityRecord}
use Rattle.authority_core.specs.declared.entries.Approved.{Approved}
use Rattle.authority_core.specs.declared.entries.Kept.{Kept}

-- ---- what is told stays told

kept-more : (council : Council) (seen seen' : List SeenText) (kept kept' : List Kept) → Within seen seen' → Within kept kept' → (epoch : ℕ) (name : List ℕ) (certificate : Option (List ℕ)) (root : List ℕ)
    → HasKept council seen kept epoch name certificate root → HasKept council seen' kept' epoch name certificate root
kept-more council seen seen' kept kept' s k epoch name certificate root has =
    (has.0, (k has.0 has.1.0, has.1.1, has.1.2, has.1.3, has.1.4, has.1.5, votes-more council seen seen' s epoch (record { base = has.0.base; root = root }) has.1.6))

told-more : (council : Council) (me : ℕ) (seen seen' : List SeenText) (asked asked' : List Approved) (kept kept' : List Kept) → Within seen seen' → Within asked asked' → Within kept kept' → (claim : Claim)
    → ToldBy council me seen asked kept claim → ToldBy council me seen' asked' kept' claim
unfolding ToldBy
told-more council me seen seen' asked asked' kept kept' s a k (endorse authority certificate) t = (t.0, (t.1.0, (a t.1.0 t.1.1.0, t.1.1.1)))
told-more council me seen seen' asked asked' kept kept' s a k (confirm signer epoch name certificate root) t =
    (t.0, kept-more council seen seen' kept kept' s k epoch name (Some certificate) root t.1)
told-more council me seen seen' asked asked' kept kept' s a k (confirm_absent signer epoch name root) t =
    (t.0, kept-more council seen seen' kept kept' s k epoch name None root t.1)
told-more council me seen seen' asked asked' kept kept' s a k (roll signer generation key) t = t
told-more council me seen seen' asked asked' kept kept' s a k (handover certificate) t = t
told-more council me seen seen' asked asked' kept kept' s a k (propose log epoch base root) t = t
told-more council me seen seen' asked asked' kept kept' s a k (vote log epoch base root) t = t
told-more council me seen seen' asked asked' kept kept' s a k (answer name certificate challenge) t = t
told-more council me seen seen' asked asked' kept kept' s a k (status log epoch value) t = t
told-more council me seen seen' asked asked' kept kept' s a k (object certificate) t = t

texts-more : (council : Council) (me : ℕ) (r : AuthorityRecord) (seen' : List SeenText) (asked' : List Approved) (kept' : List Kept) → Within r.seen seen' → Within r.asked asked' → Within r.kept kept'
    → IsOfHonestAuthority council me r → All (IsTextOf (ToldBy council me seen' asked' kept')) (texts_of r.signed)
texts-more council me r seen' asked' kept' s a k h =
    All-weaker (IsTextOf (ToldBy council me r.seen r.asked r.kept)) (IsTextOf (ToldBy council me seen' asked' kept'))
    (λ text t. record { claim = t.claim; valid = t.valid; holds = told-more council me r.seen seen' r.asked asked' r.kept kept' s a k t.claim t.holds; is = t.is }) (texts_of r.signed) h.told

-- one more statement, of which the entries tell
honest-signing : (council : Council) (me : ℕ) (r : AuthorityRecord) (more : List SeenText) (asked' : List Approved) (kept' : List Kept) (claim : Claim) → IsOfHonestAuthority council me r
    → All (λ s. IsMember council s.party) more → Within r.asked asked' → Within r.kept kept' → IsValid claim → is_roll (text_of claim) ≡ false
    → ToldBy council me (seen_after r.seen more) asked' kept' claim
    → IsOfHonestAuthority council me (record { seen = seen_after r.seen more; signed = after_entry r.signed (text_of claim); asked = asked'; kept = kept' })
honest-signing council me r more asked' kept' claim h members a k valid plain told =
    let P : Claim → Type 0 = ToldBy council me (seen_after r.seen more) asked' kept' in
    record {
      sound = after_entry_keeps r.signed (text_of claim) h.sound (inl plain);
      told = entry-all (IsTextOf P) r.signed (text_of claim) (texts-more council me r (seen_after r.seen more) asked' kept' (seen-keeps more r.seen) a k h) (own-text P claim valid told);
      sees_members = seen-all (λ (s : SeenText). IsMember council s.party) more r.seen h.sees_members members;
    }

-- ---- lists with one more

pub asked-has : (asked : List Approved) (a : Approved) → HasAsked (with_one is_same_asked asked a) a.certificate
asked-has asked a = one-some (λ b. b.certificate ≡ a.certificate) is_same_asked asked a refl same
  where
    same : (b : Approved) → is_same_asked b a ≡ true → b.certificate ≡ a.certificate
    same b is =
        let two = and_parts (bytes_eq b.name a.name) (bytes_eq b.key a.key && bytes_eq b.certificate a.certificate) is in
        let rest = and_parts (bytes_eq b.key a.key) (bytes_eq b.certificate a.certificate) two.1 in
        (bytes_eq-Decides b.certificate a.certificate).0 rest.1

-- an entry says of its name what another does, and votes for that were seen
abbrev SaysFor : Council → List SeenText → Kept → Kept → Type 0
SaysFor council seen k l =
    (l.epoch ≡ k.epoch) × (l.name ≡ k.name) × (l.certificate ≡ k.certificate) × (l.root ≡ k.root)
    × IsDigest l.base × SawVotes council seen k.epoch (record { base = l.base; root = k.root })

kept-has : (council : Council) (seen : List SeenText) (kept : List Kept) (k : Kept) → IsDigest k.base → SawVotes council seen k.epoch (kept_value k)
    → HasKept council seen (with_one is_same_kept kept k) k.epoch k.name k.certificate k.root
kept-has council seen kept k base saw =
    let l = one-some (SaysFor council seen k) is_same_kept kept k (refl, refl, refl, refl, base, saw) same in
    (l.0, (l.1.0, l.1.1.0, l.1.1.1, l.1.1.2, l.1.1.3, l.1.1.4, l.1.1.5))
  where
    same : (l : Kept) → is_same_kept l k ≡ true → SaysFor council seen k l
    same l is =
        let epoch = and_parts (l.epoch == k.epoch) (bytes_eq l.name k.name && (is_same_digest l.certificate k.certificate && (bytes_eq l.base k.base && (bytes_eq l.root k.root && is_same_path l k)))) is in
        let name = and_parts (bytes_eq l.name k.name) (is_same_digest l.certificate k.certificate && (bytes_eq l.base k.base && (bytes_eq l.root k.root && is_same_path l k))) epoch.1 in
        let certificate = and_parts (is_same_digest l.certificate k.certificate) (bytes_eq l.base k.base && (bytes_eq l.root k.root && is_same_path l k)) name.1 in
        let roots = and_parts (bytes_eq l.base k.base) (bytes_eq l.root k.root && is_same_path l k) certificate.1 in
        let root = and_parts (bytes_eq l.root k.root) (is_same_path l k) roots.1 in
        let base_is : l.base ≡ k.base = (bytes_eq-Decides l.base k.base).0 roots.0 in (
          eqb-true l.epoch k.epoch epoch.0,
          (bytes_eq-Decides l.name k.name).0 name.0,
          one_digest l.certificate k.certificate certificate.0,
          (bytes_eq-Decides l.root k.root).0 root.0,
          subst IsDigest (sym base_is) base,
          subst (λ b. SawVotes council seen k.epoch (record { base = b; root = k.root })) (sym base_is) saw,
        )

-- ---- what an authority does

pub honest-fresh : (council : Council) (me leaves : ℕ) → 0 < leaves → IsOfHonestAuthority council me (fresh_authority leaves)
honest-fresh council me leaves some =
    record { sound = empty-book leaves some; told = λ k d less. absurd (omega (arith, less)); sees_members = λ k d less. absurd (omega (arith, less)) }

pub honest-endorse : (council : Council) (me : ℕ) (r : AuthorityRecord) (a : Approved) → IsOfHonestAuthority council me r → me < 2 ^ 16 → IsDigest a.certificate → IsOfHonestAuthority council me (after_endorse me r a)
unfolding ToldBy
honest-endorse council me r a h small digest =
    honest-signing council me r [] (with_one is_same_asked r.asked a) r.kept (endorse me a.certificate) h (All-nil (λ (s : SeenText). IsMember council s.party)) (one-keeps is_same_asked r.asked a) (same-within r.kept)
    (record { held = record { signer = small; fields = digest }; ranges = refl }) (is_roll-kind (endorse me a.certificate)) (refl, asked-has r.asked a)

claim-valid : (me : ℕ) (epoch : ℕ) (name : List ℕ) (certificate : Option (List ℕ)) (root : List ℕ) → me < 2 ^ 16 → is_epoch epoch ≡ true → IsName name → IfSome certificate IsDigest → IsDigest root
    → IsValid (confirmation_by (authority_party me) epoch name certificate root)
claim-valid me epoch name None root small is is-name are digest = record {
  held = record { signer = small; fields = (omega (arith, leb-true epoch (2 ^ 63) (and_parts (nat_le 1 epoch) (nat_le epoch (2 ^ 63)) is).1), (is-name, digest)) };
  ranges = is;
}
claim-valid me epoch name (Some certificate) root small is is-name are digest = record {
  held = record { signer = small; fields = (omega (arith, leb-true epoch (2 ^ 63) (and_parts (nat_le 1 epoch) (nat_le epoch (2 ^ 63)) is).1), (is-name, (are, digest))) };
  ranges = is;
}

claim-plain : (me : ℕ) (epoch : ℕ) (name : List ℕ) (certificate : Option (List ℕ)) (root : List ℕ) → is_roll (text_of (confirmation_by (authority_party me) epoch name certificate root)) ≡ false
claim-plain me epoch name None root = is_roll-kind (confirmation_by (authority_party me) epoch name None root)
claim-plain me epoch name (Some certificate) root = is_roll-kind (confirmation_by (authority_party me) epoch name (Some certificate) root)

claim-told : (council : Council) (me : ℕ) (seen : List SeenText) (asked : List Approved) (kept : List Kept) (epoch : ℕ) (name : List ℕ) (certificate : Option (List ℕ)) (root : List ℕ)
    → HasKept council seen kept epoch name certificate root → ToldBy council me seen asked kept (confirmation_by (authority_party me) epoch name certificate root)
unfolding ToldBy
claim-told council me seen asked kept epoch name None root has = (refl, has)
claim-told council me seen asked kept epoch name (Some certificate) root has = (refl, has)

-- it confirms where the votes are among what it sees
honest-confirming : (council : Council) (me : ℕ) (r : AuthorityRecord) (log : ℕ) (voters : List ℕ) (k : Kept) (more : List SeenText) → IsOfHonestAuthority council me r → me < 2 ^ 16
    → MayConfirm council log voters k → All (λ s. IsMember council s.party) more → All (λ voter. Saw more (log_party voter) (vote_claim voter k.epoch (kept_value k))) voters
    → IsOfHonestAuthority council me (confirming me r more k)
honest-confirming council me r log voters k more h small may members votes =
    let later : List SeenText = seen_after r.seen more in
    let saw : SawVotes council later k.epoch (kept_value k) = record {
      numbers = voters;
      many = may.many;
      below = may.voted;
      each = All-weaker (λ voter. Saw more (log_party voter) (vote_claim voter k.epoch (kept_value k))) (λ voter. Saw later (log_party voter) (vote_claim voter k.epoch (kept_value k)))
          (λ voter there. All-contains (Contains later) more (seen_of (log_party voter) (vote_claim voter k.epoch (kept_value k))) (seen-has more r.seen) there) voters votes;
    } in
    honest-signing council me r more r.asked (with_one is_same_kept r.kept k) (kept_claim (authority_party me) k) h members (same-within r.asked) (one-keeps is_same_kept r.kept k)
    (claim-valid me k.epoch k.name k.certificate k.root small may.epoch may.name may.certificate may.value.root) (claim-plain me k.epoch k.name k.certificate k.root)
    (claim-told council me later r.asked (with_one is_same_kept r.kept k) k.epoch k.name k.certificate k.root (kept-has council later r.kept k may.value.base saw))

pub map-has : {X Y : Type 0} (f : X → Y) (xs : List X) → All (λ x. Contains (map f xs) (f x)) xs
map-has f xs = All-unmap (Contains (map f xs)) f xs (All-contains_itself (map f xs))

vote-members : (council : Council) (log : ℕ) (voters : List ℕ) (k : Kept) → MayConfirm council log voters k → All (λ s. IsMember council s.party) (seen_of_votes voters k)
vote-members council log voters k may =
    All-map (λ (s : SeenText). IsMember council s.party) (λ voter. seen_of (log_party voter) (vote_claim voter k.epoch (kept_value k))) voters may.voted

log-members : (council : Council) (log : ℕ) (voters : List ℕ) (k : Kept) → MayConfirm council log voters k → All (λ s. IsMember council s.party) (seen_of_log log voters k)
log-members council log voters k may =
    All-cons (λ (s : SeenText). IsMember council s.party) (seen_confirmed (log_party log) k) (seen_of_votes voters k) may.known
    (vote-members council log voters k may)

half-members : (council : Council) (log : ℕ) (voters : List ℕ) (first : ℕ) (k : Kept) → MayConfirm council log voters k → first < council.authorities
    → All (λ s. IsMember council s.party) (seen_of_half log voters first k)
half-members council log voters first k may known =
    let own : SeenText = seen_confirmed (authority_party first) k in
    All-cons (λ (s : SeenText). IsMember council s.party) (seen_confirmed (log_party log) k) (own ∷ seen_of_votes voters k) may.known
    (All-cons (λ (s : SeenText). IsMember council s.party) own (seen_of_votes voters k) known (vote-members council log voters k may))

-- the votes are seen where they stand behind something else
votes-behind : (front : List SeenText) (voters : List ℕ) (k : Kept) → All (λ voter. Saw (front ++ seen_of_votes voters k) (log_party voter) (vote_claim voter k.epoch (kept_value k))) voters
votes-behind front voters k =
    let f : ℕ → SeenText = λ voter. seen_of (log_party voter) (vote_claim voter k.epoch (kept_value k)) in
    All-weaker (λ voter. Contains (map f voters) (f voter)) (λ voter. Saw (front ++ seen_of_votes voters k) (log_party voter) (vote_claim voter k.epoch (kept_value k)))
    (λ voter there. Contains-append_right front (map f voters) (f voter) there) voters (map-has f voters)

pub honest-first : (council : Council) (me : ℕ) (r : AuthorityRecord) (log : ℕ) (voters : List ℕ) (k : Kept) → IsOfHonestAuthority council me r → me < 2 ^ 16 → MayConfirm council log voters k
    → IsOfHonestAuthority council me (after_log_confirmed me r log voters k)
honest-first council me r log voters k h small may =
    honest-confirming council me r log voters k (seen_of_log log voters k) h small may (log-members council log voters k may)
    (votes-behind (seen_confirmed (log_party log) k ∷ []) voters k)

pub honest-second : (council : Council) (me : ℕ) (r : AuthorityRecord) (log : ℕ) (voters : List ℕ) (first : ℕ) (k : Kept) → IsOfHonestAuthority council me r → me < 2 ^ 16 → MayConfirm council log voters k
    → first < council.authorities → IsOfHonestAuthority council me (after_half_confirmed me r log voters first k)
honest-second council me r log voters first k h small may known =
    honest-confirming council me r log voters k (seen_of_half log voters first k) h small may (half-members council log voters first k may known)
    (votes-behind (seen_confirmed (log_party log) k ∷ (seen_confirmed (authority_party first) k ∷ [])) voters k)

pub honest-learn : (council : Council) (me : ℕ) (r : AuthorityRecord) (a : Announced) → IsOfHonestAuthority council me r → IsMember council a.party
    → IsOfHonestAuthority council me (after_learn r a)
honest-learn council me r a h member =
    let more : List SeenText = seen_of a.party (roll_claim a) ∷ [] in
    record {
      sound = h.sound;
      told = texts-more council me r (seen_after r.seen more) r.asked r.kept (seen-keeps more r.seen) (same-within r.asked) (same-within r.kept) h;
      sees_members = seen-all (λ (s : SeenText). IsMember council s.party) more r.seen h.sees_members
          (All-cons (λ (s : SeenText). IsMember council s.party) (seen_of a.party (roll_claim a)) [] member (All-nil (λ (s : SeenText). IsMember council s.party)));
    }

pub honest-roll : (council : Council) (me : ℕ) (r : AuthorityRecord) (key : List ℕ) → IsOfHonestAuthority council me r → me < 2 ^ 16 → MayRoll r.signed key → IsOfHonestAuthority council me (after_roll me r key)
unfolding ToldBy
honest-roll council me r key h small may =
    let claim : Claim = roll (authority_party me) r.signed.newest key in
    let valid : IsValid claim = record { held = record { signer = small; fields = (omega (arith, may.not_last), may.is_key) }; ranges = may.readable } in
    record {
      sound = roll_keeps r.signed (text_of claim) h.sound (is_roll-kind claim) (named-roll (authority_party me) r.signed.newest key (omega (arith, may.not_last))) may.not_last;
      told = roll-all (IsTextOf (ToldBy council me r.seen r.asked r.kept)) r.signed (text_of claim) h.told (own-text (ToldBy council me r.seen r.asked r.kept) claim valid refl);
      sees_members = h.sees_members;
    }

pub endorse-signed : (me : ℕ) (r : AuthorityRecord) (a : Approved) → HasRoom r.signed (text_of (endorse me a.certificate) ∷ []) → Contains (texts_of (after_endorse me r a).signed) (text_of (endorse me a.certificate))
endorse-signed me r a room = entry-has r.signed (text_of (endorse me a.certificate)) room

pub confirm-signed : (me : ℕ) (r : AuthorityRecord) (log : ℕ) (voters : List ℕ) (k : Kept) → HasRoom r.signed (text_of (kept_claim (authority_party me) k) ∷ [])
    → Contains (texts_of (after_log_confirmed me r log voters k).signed) (text_of (kept_claim (authority_party me) k))
confirm-signed me r log voters k room = entry-has r.signed (text_of (kept_claim (authority_party me) k)) room
