-- What each thing that an authority does makes of its record, and when it may do so.
use Rattle.std.specs.Prelude.{ℕ, ◌<◌, ◌≤◌, ◌==◌, Bool, true, false, ◌&&◌, List, [], ◌∷◌, map, All, Option, Some, None, IfSome, IsTrue}
use Rattle.std.specs.Str.{bytes_eq}
use Rattle.ar_base.specs.Adding.{with_one}
use Rattle.ar_base.specs.Bytes.{IsDigest}
use Rattle.ar_names.specs.Names.{IsName}
use Rattle.ar_statement.specs.declared.party.Party.{Party}
use Rattle.ar_statement.specs.declared.text.SeenText.{SeenText}
use Rattle.ar_statement.specs.Claims.{Claim, authority_party, confirmation_by, endorse, log_party, roll, text_of}
use Rattle.ar_statement.specs.Fields.{is_epoch}
use Rattle.key_roll.specs.Book.{empty_book}
use Rattle.key_roll.specs.Entry.{after_entry, with_roll}
use Rattle.hash_tree.specs.declared.bottom.Bottom.{Bottom}
use Rattle.hash_tree.specs.declared.bottom.Bottom.TheVariants.{Empty, Other}
use Rattle.vote_quorum.specs.Numbers.{distinct_count}
use Rattle.vote_quorum.specs.declared.value.Value.{Value}
use Rattle.ar_council.specs.Council.{Council}
use Rattle.ar_council.specs.Seen.{seen_after}
use Rattle.party_keys.specs.Learning.{Announced, roll_claim}
use Rattle.party_keys.specs.Seen.{seen_of}
use Rattle.ar_council.specs.Values.{is_same_digest, vote_claim}
use Rattle.ar_statement.specs.Ranges.{IsValue}
use Rattle.authority_core.specs.Record.{AuthorityRecord}
use Rattle.authority_core.specs.declared.entries.Approved.{Approved}
use Rattle.authority_core.specs.declared.entries.Kept.{Kept}

-- an authority that has done nothing yet, whose keys have this many leaves
abbrev pub fresh_authority : ℕ → AuthorityRecord
fresh_authority leaves = record { seen = []; signed = empty_book leaves; asked = []; kept = [] }

-- ---- an endorsement

abbrev pub is_same_asked : Approved → Approved → Bool
is_same_asked a b = bytes_eq a.name b.name && (bytes_eq a.key b.key && bytes_eq a.certificate b.certificate)

-- the check said yes, and the authority endorses the certificate
abbrev pub after_endorse : ℕ → AuthorityRecord → Approved → AuthorityRecord
after_endorse me r a = record {
  seen = r.seen;
  signed = after_entry r.signed (text_of (endorse me a.certificate));
  asked = with_one is_same_asked r.asked a;
  kept = r.kept;
}

-- ---- a confirmation

-- a party confirms what is kept
abbrev pub kept_claim : Party → Kept → Claim
kept_claim party k = confirmation_by party k.epoch k.name k.certificate k.root

-- what the votes are for
abbrev pub kept_value : Kept → Value
kept_value k = record { base = k.base; root = k.root }

-- both feet of paths, or none, are the same
abbrev pub is_same_bottom : Option Bottom → Option Bottom → Bool
is_same_bottom None None = true
is_same_bottom None (Some b) = false
is_same_bottom (Some a) None = false
is_same_bottom (Some Empty) (Some Empty) = true
is_same_bottom (Some Empty) (Some (Other key value)) = false
is_same_bottom (Some (Other key value)) (Some Empty) = false
is_same_bottom (Some (Other key value)) (Some (Other other_key other_value)) = bytes_eq key other_key && bytes_eq value other_value

-- both lists of digests are the same
abbrev pub are_same : List (List ℕ) → List (List ℕ) → Bool
are_same [] [] = true
are_same [] (y ∷ ys) = false
are_same (x ∷ xs) [] = false
are_same (x ∷ xs) (y ∷ ys) = bytes_eq x y && are_same xs ys

-- both paths are the same
abbrev pub is_same_path : Kept → Kept → Bool
is_same_path k l = is_same_bottom k.bottom l.bottom && are_same k.steps l.steps

-- both are the same in all that they say
abbrev pub is_same_kept : Kept → Kept → Bool
is_same_kept k l =
    (k.epoch == l.epoch)
    && (bytes_eq k.name l.name
    && (is_same_digest k.certificate l.certificate && (bytes_eq k.base l.base && (bytes_eq k.root l.root && is_same_path k l))))

-- the votes for it, as they are seen
abbrev pub seen_of_votes : List ℕ → Kept → List SeenText
seen_of_votes voters k = map (λ voter. seen_of (log_party voter) (vote_claim voter k.epoch (kept_value k))) voters

-- the party's confirmation of it, as it is seen
abbrev pub seen_confirmed : Party → Kept → SeenText
seen_confirmed party k = seen_of party (kept_claim party k)

-- of a log's confirmation that statement and the votes are seen
abbrev pub seen_of_log : ℕ → List ℕ → Kept → List SeenText
seen_of_log log voters k = seen_confirmed (log_party log) k ∷ seen_of_votes voters k

-- and of one that a first authority confirmed, that authority's statement too
abbrev pub seen_of_half : ℕ → List ℕ → ℕ → Kept → List SeenText
seen_of_half log voters first k =
    seen_confirmed (log_party log) k ∷ (seen_confirmed (authority_party first) k ∷ seen_of_votes voters k)

-- The authority may confirm what a log says: the log and those that voted are of the council, they are a quorum, and the
-- values are in their ranges. (That the path leads to the root it checks too; no clause of its record speaks of that.)
pub record MayConfirm (council : Council) (log : ℕ) (voters : List ℕ) (k : Kept) : Type 0 where
  pub known : log < council.logs
  pub voted : All (λ voter. voter < council.logs) voters
  pub many : council.quorum ≤ distinct_count voters
  pub epoch : IsTrue (is_epoch k.epoch)
  pub name : IsName k.name
  pub certificate : IfSome k.certificate IsDigest
  pub value : IsValue (kept_value k)

-- these are seen, the confirmation is kept, and the authority confirms it too
abbrev pub confirming : ℕ → AuthorityRecord → List SeenText → Kept → AuthorityRecord
confirming me r more k = record {
  seen = seen_after r.seen more;
  signed = after_entry r.signed (text_of (kept_claim (authority_party me) k));
  asked = r.asked;
  kept = with_one is_same_kept r.kept k;
}

-- the first of two authorities confirms what a log says
abbrev pub after_log_confirmed : ℕ → AuthorityRecord → ℕ → List ℕ → Kept → AuthorityRecord
after_log_confirmed me r log voters k = confirming me r (seen_of_log log voters k) k

-- the second confirms it, by what the log and the first say
abbrev pub after_half_confirmed : ℕ → AuthorityRecord → ℕ → List ℕ → ℕ → Kept → AuthorityRecord
after_half_confirmed me r log voters first k = confirming me r (seen_of_half log voters first k) k

-- ---- Rolls

-- a party's Roll is seen
abbrev pub after_learn : AuthorityRecord → Announced → AuthorityRecord
after_learn r a = record r { seen = seen_after r.seen (seen_of a.party (roll_claim a) ∷ []) }

-- its own Roll is signed, and the book is at the next generation
abbrev pub after_roll : ℕ → AuthorityRecord → List ℕ → AuthorityRecord
after_roll me r key = record r { signed = with_roll r.signed (text_of (roll (authority_party me) r.signed.newest key)) }
