-- Who sits where in a world and what its clients hold, and what is kept of that from one world to a later one.
use Rattle.std.proofs.Common.{◌≡◌, ◌+◌, ◌≤◌, List, [], ◌++◌, All, append-nil, append_assoc, refl, sym, ap, ◌∙◌, subst, false, Option}
use Rattle.std.specs.Prelude.{filter, ℕ, length, map, nat_le, slice_get, Some}
use Rattle.std.specs.List.{filter_map}
use Rattle.std.proofs.lemmas.List.Elements.{filter_map-append}
use Rattle.ar_council.specs.Council.{council_of}
use Rattle.ar_safety.specs.Held.{IsAccepting, AcceptedBytes, verdict_on}
use Rattle.ar_statement.specs.declared.party.Party.{Party}
use Rattle.ar_world.specs.Founding.{place_of}
use Rattle.report_text.specs.Verdicts.{said_of}
use Rattle.ar_world.specs.ar_nodes.Parties.{AuthorityNode, LogNode}
use Rattle.ar_world.specs.State.{Moved, World}
use Rattle.ar_world.specs.declared.phase.Phase.{Phase}
use Rattle.lms_tree.specs.declared.public_key.LmsPublic.{LmsPublic}
use Rattle.party_keys.specs.Directory.{Directory, keys_of}
use Rattle.ar_statement.specs.Claims.{authority_party, log_party}
use Rattle.report_text.specs.declared.happening.Happening.{Happening}
use Rattle.report_text.specs.declared.happening.Said.{Said}
use Rattle.run_safety.specs.Headline.{accepted_in, dishonest_in}
use Rattle.ar_world.proofs.EachLine.{is_marked}
use Rattle.run_safety.proofs.Quiet.{quiet}
use Rattle.run_safety.specs.Seats.{AreSeated, IsAuthorityOf, IsLogOf, IsSeated, honest_count}

-- ---- what is told of a world

-- what is told here of a world; the count is that of the line `logs`
pub record Part : Type 0 where
  pub phase : Phase
  pub count : ℕ
  pub logs : List (Option LogNode)
  pub authorities : List (Option AuthorityNode)
  pub dishonest : List Party
  pub genesis : Directory
  pub clients : Directory
  pub judged : List AcceptedBytes

abbrev pub part_of : World → Part
part_of w = record {
  phase = w.phase;
  count = w.setup.logs;
  logs = w.logs;
  authorities = w.authorities;
  dishonest = map (λ forger. forger.party) w.forgers;
  genesis = w.genesis;
  clients = w.clients;
  judged = w.judged;
}

-- all are seated, of what is told
pub record SeatedIn (p : Part) : Type 0 where
  pub council : council_of p.clients ≡ council_of p.genesis
  pub known : (who : Party) (key : LmsPublic) → slice_get (keys_of p.genesis who) 0 ≡ Some key → slice_get (keys_of p.clients who) 0 ≡ Some key
  pub logs : AreSeated log_party p.dishonest (length p.genesis.logs) (IsLogOf p.genesis) p.logs
  pub authorities : AreSeated authority_party p.dishonest (length p.genesis.authorities) (IsAuthorityOf p.genesis) p.authorities
  pub whole : length p.dishonest + (honest_count p.logs + honest_count p.authorities) ≡ length p.logs + length p.authorities
  pub taken : All (λ t. IsAccepting (verdict_on p.clients t)) p.judged

pub seated : (w : World) → SeatedIn (part_of w) → IsSeated w
seated w s = record { council = s.council; known = s.known; logs = s.logs; authorities = s.authorities; whole = s.whole; taken = s.taken }

-- nobody is dishonest yet, and no client accepted anything
pub record Bare (p : Part) : Type 0 where
  pub dishonest : p.dishonest ≡ []
  pub judged : p.judged ≡ []

-- all are seated; before the line `authorities` all is bare; and there are at most 16 logs, told by the line `logs` and founded
pub record Stands (p : Part) : Type 0 where
  pub seated : SeatedIn p
  pub bare : nat_le 4 (place_of p.phase) ≡ false → Bare p
  pub counted : p.count ≤ 16
  pub founded : length p.genesis.logs ≤ 16

-- what clients hold, as it is written
abbrev pub told_by : Directory → AcceptedBytes → Said
told_by clients t = said_of t.name (verdict_on clients t)

abbrev pub told_in : Part → List Said
told_in p = map (told_by p.clients) p.judged

-- ---- from one world to a later one

-- All that stood stands; and what clients hold, as it is written, is what they held, and what is printed as accepted. So it is
-- of who is dishonest.
pub record Keeps (p q : Part) (said : List Happening) : Type 0 where
  pub stands : Stands p → Stands q
  pub told : Stands p → told_in p ++ filter_map accepted_in said ≡ told_in q
  pub named : p.dishonest ++ filter_map dishonest_in said ≡ q.dishonest

-- the same without another phase
pub record Goes (p q : Part) (said : List Happening) : Type 0 where
  pub phase : q.phase ≡ p.phase
  pub keeps : Keeps p q said

-- of what a line makes, before it leads to its phase
abbrev pub Makes : World → Moved → Type 0
Makes w made = Goes (part_of w) (part_of made.0) made.1

-- nothing that is told changes, and nothing is printed as accepted or of who is dishonest
pub still : (p q : Part) (said : List Happening) → q ≡ p → filter is_marked said ≡ [] → Goes p q said
still p q said same none = record {
  phase = ap (λ (r : Part). r.phase) same;
  keeps = record {
    stands = λ s. subst Stands (sym same) s;
    told = λ s. ap (λ xs. told_in p ++ xs) (quiet said none).0 ∙ append-nil (told_in p) ∙ ap told_in (sym same);
    named = ap (λ xs. p.dishonest ++ xs) (quiet said none).1 ∙ append-nil p.dishonest ∙ ap (λ (r : Part). r.dishonest) (sym same);
  };
}

-- one thing behind another
pub both : (p m q : Part) (said later : List Happening) → Keeps p m said → Keeps m q later → Keeps p q (said ++ later)
both p m q said later first second = record {
  stands = λ s. second.stands (first.stands s);
  told = λ s. ap (λ xs. told_in p ++ xs) (filter_map-append accepted_in said later)
      ∙ sym (append_assoc (told_in p) (filter_map accepted_in said) (filter_map accepted_in later))
      ∙ ap (λ xs. xs ++ filter_map accepted_in later) (first.told s) ∙ second.told (first.stands s);
  named = ap (λ xs. p.dishonest ++ xs) (filter_map-append dishonest_in said later)
      ∙ sym (append_assoc p.dishonest (filter_map dishonest_in said) (filter_map dishonest_in later))
      ∙ ap (λ xs. xs ++ filter_map dishonest_in later) first.named ∙ second.named;
}

-- what is printed before tells of nothing accepted
pub behind : (p q : Part) (front said : List Happening) → filter is_marked front ≡ [] → Goes p q said → Goes p q (front ++ said)
behind p q front said none goes = record { phase = goes.phase; keeps = both p p q front said (still p p front refl none).keeps goes.keeps }

-- Parties change, who are seated there too; who is dishonest, and what clients know and hold, stays.
pub moves : (p : Part) (logs : List (Option LogNode)) (authorities : List (Option AuthorityNode)) (said : List Happening)
    → (SeatedIn p → SeatedIn (record p { logs = logs; authorities = authorities })) → filter is_marked said ≡ []
    → Goes p (record p { logs = logs; authorities = authorities }) said
moves p logs authorities said sits none = record {
  phase = refl;
  keeps = record {
    stands = λ s. record { seated = sits s.seated; bare = λ early. record { dishonest = (s.bare early).dishonest; judged = (s.bare early).judged }; counted = s.counted; founded = s.founded };
    told = λ s. ap (λ xs. told_in p ++ xs) (quiet said none).0 ∙ append-nil (told_in p);
    named = ap (λ xs. p.dishonest ++ xs) (quiet said none).1 ∙ append-nil p.dishonest;
  };
}

-- So many logs are to be made; all else stays.
pub counts : (p : Part) (count : ℕ) (said : List Happening) → count ≤ 16 → filter is_marked said ≡ [] → Goes p (record p { count = count }) said
counts p count said few none = record {
  phase = refl;
  keeps = record {
    stands = λ s. record {
      seated = record {
        council = s.seated.council;
        known = s.seated.known;
        logs = s.seated.logs;
        authorities = s.seated.authorities;
        whole = s.seated.whole;
        taken = s.seated.taken;
      };
      bare = λ early. record { dishonest = (s.bare early).dishonest; judged = (s.bare early).judged };
      counted = few;
      founded = s.founded;
    };
    told = λ s. ap (λ xs. told_in p ++ xs) (quiet said none).0 ∙ append-nil (told_in p);
    named = ap (λ xs. p.dishonest ++ xs) (quiet said none).1 ∙ append-nil p.dishonest;
  };
}
