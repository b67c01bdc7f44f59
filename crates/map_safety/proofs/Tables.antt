-- Each table of a map has honest records, by the directory under the map's root, and is safe.
use Rattle.std.proofs.Common.{◌≡◌, ℕ, ◌≤◌, List, ◌∷◌, ◌++◌, get_or, map, Result, Ok, refl, sym, ap, ◌∙◌, subst}
use Rattle.std.specs.Prelude.{All, Contains, IsTrue}
use Rattle.std.proofs.lemmas.List.Elements.{All-contains, All-map}
use Rattle.ar_base.specs.Apart.{none_collide}
use Rattle.ar_bytes.specs.Reading.{whole}
use Rattle.ar_cert.specs.Certificate.{Certificate}
use Rattle.ar_council.specs.Council.{Council, council_of}
use Rattle.ar_message.specs.Confirmation.{Confirmation, absent, confirmation_at, present}
use Rattle.authority_core.proofs.Growing.{map-has}
use Rattle.client_rule.specs.Meaning.{IsTimely, PassesChecks}
use Rattle.client_rule.specs.Rule.{Asked, judgement}
use Rattle.client_rule.specs.declared.judgement.Judgement.{Judgement}
use Rattle.client_rule.specs.declared.judgement.Judgement.TheVariants.{Absent, Accepted, Refused}
use Rattle.client_rule.proofs.Meanings.{absence, accepted}
use Rattle.hash_tree.specs.declared.bottom.Bottom.{Bottom}
use Rattle.party_keys.specs.Directory.{Directory}
use Rattle.ar_safety.specs.Agreed.{HasNewest, HasNone}
use Rattle.ar_safety.specs.Held.{IsAccepting}
use Rattle.ar_safety.specs.Records.{AcceptedConfirmation, AreQuorums, IsJudged}
use Rattle.ar_safety.specs.Succession.{AreInOrder, accepted_by}
use Rattle.ar_safety.specs.Theorem.{AreHonest, Few, NoCollision, NoForgery, Safe}
use Rattle.ar_safety.proofs.Succession.{judged-in-order}
use Rattle.ar_safety.proofs.Whole.{agree}
use Rattle.table_map.specs.Digests.{directory_text}
use Rattle.table_map.specs.Maps.{IsPlaced, placed_strings}
use Rattle.table_map.specs.Tables.{table_of}
use Rattle.table_map.proofs.Answering.{judged-means}
use Rattle.table_map.proofs.Placing.{one-directory}
use Rattle.map_safety.specs.World.{IsAcceptance, IsTable, MapAcceptance, MapRecords, NoMapCollision, confirmed_by, records_in}

-- ---- what is accepted

-- what a judgement accepts was read, and passes
passes-of : (asked : Asked) (bytes : List ℕ) (v : Judgement) → judgement asked bytes ≡ v → IsAccepting v → (c : Confirmation) × PassesChecks asked bytes c
passes-of asked bytes (Accepted certificate digest epoch root) is taken =
    let a = (accepted asked bytes certificate digest epoch root).0 is in (a.confirmation, a.passes)
passes-of asked bytes (Absent epoch root) is taken =
    let a = (absence asked bytes epoch root).0 is in (a.confirmation, a.passes)
passes-of asked bytes (Refused number) is taken = absurd taken

same-read : (c d : Confirmation) (r : Result Confirmation ℕ) → r ≡ Ok c → r ≡ Ok d → c ≡ d
same-read c d r one other = let e : ◌≡◌ {A = Result Confirmation ℕ} (Ok c) (Ok d) = sym one ∙ other in cc

accepted-passes : (r : MapRecords) (t : ℕ) (a : MapAcceptance) → IsAcceptance r.of_map t a → PassesChecks a.asked a.bytes a.confirmation
accepted-passes r t a is =
    let means = judged-means r.of_map a.table a.path a.asked a.bytes is.verdict is.judged in
    let passes = passes-of a.asked a.bytes is.verdict means.2 is.accepts in
    let same : passes.0 ≡ a.confirmation = same-read passes.0 a.confirmation (whole confirmation_at a.bytes) passes.1.is_read is.read in
    subst (λ (c : Confirmation). PassesChecks a.asked a.bytes c) same passes.1

-- ---- the directory

abbrev Clean : MapRecords → ℕ → MapAcceptance → Type 0
Clean r t a = IsTrue (none_collide (placed_strings r.of_map.bits t (r.directories t) (r.paths t) ++ placed_strings r.of_map.bits t a.asked.keys a.path))

one-text : (r : MapRecords) (t : ℕ) (a : MapAcceptance) → IsTable r t → IsAcceptance r.of_map t a → Clean r t a → directory_text (r.directories t) ≡ directory_text a.asked.keys
one-text r t a table is clean =
    let means = judged-means r.of_map a.table a.path a.asked a.bytes is.verdict is.judged in
    let own : t ≡ table_of r.of_map.bits a.asked.name = sym is.name in
    let here = subst (λ n. IsPlaced r.of_map n (r.directories t) (r.paths t)) own table.placed in
    let there = subst (λ n. IsPlaced r.of_map n a.asked.keys a.path) means.0 means.1 in
    let apart = subst (λ n. IsTrue (none_collide (placed_strings r.of_map.bits n (r.directories t) (r.paths t) ++ placed_strings r.of_map.bits n a.asked.keys a.path))) own clean in
    (one-directory r.of_map r.of_map a.asked.name (r.directories t) a.asked.keys (r.paths t) a.path table.few_bits table.few_bits refl here there apart).1

-- directories with one text have one council
same-council : (keys others : Directory) → directory_text keys ≡ directory_text others → council_of keys ≡ council_of others
same-council keys others same =
    let quorum = ap (λ xs. get_or xs 0 0) same in
    let logs = ap (λ xs. get_or xs 1 0) same in
    let authorities = ap (λ xs. get_or xs 2 0) same in
    λ i. record { logs = logs i; authorities = authorities i; quorum = quorum i }

judged-of : (r : MapRecords) (t : ℕ) (a : MapAcceptance) → IsTable r t → IsAcceptance r.of_map t a → Clean r t a → IsJudged (r.tables t).council (confirmed_by a)
judged-of r t a table is clean = record {
  bytes = is.bytes;
  passes = accepted-passes r t a is;
  same_council = same-council a.asked.keys (r.directories t) (sym (one-text r t a table is clean)) ∙ table.council;
}

-- ---- the laws

pub by-directory : (r : MapRecords) (t : ℕ) (a : MapAcceptance) → IsTable r t → NoMapCollision r t → Contains (r.accepted t) a → directory_text a.asked.keys ≡ directory_text (r.directories t)
by-directory r t a table clean there =
    sym (one-text r t a table (All-contains (IsAcceptance r.of_map t) (r.accepted t) a table.accepted there) (All-contains (Clean r t) (r.accepted t) a clean there))

pub honest-of : (r : MapRecords) (t : ℕ) → IsTable r t → NoMapCollision r t → AreHonest (records_in r t)
honest-of r t table clean = record {
  quorums = subst AreQuorums table.council (record { wide = table.directory.quorum_least; few = table.directory.logs_most; few_authorities = table.directory.authorities_most });
  logs = table.logs;
  authorities = table.authorities;
  judged = All-map (IsJudged (r.tables t).council) confirmed_by (r.accepted t)
      (λ k d less. judged-of r t _ table (table.accepted k d less) (clean k d less));
}

pub table-safe : (r : MapRecords) (t : ℕ) → IsTable r t → NoMapCollision r t → Few (records_in r t) → NoForgery (records_in r t) → NoCollision (records_in r t) → Safe (records_in r t)
table-safe r t table clean few forged apart = agree (records_in r t) (honest-of r t table clean) few forged apart

in-records : (r : MapRecords) (t : ℕ) (a : MapAcceptance) → Contains (r.accepted t) a → Contains (records_in r t).judged (confirmed_by a)
in-records r t a there =
    All-contains (λ (x : MapAcceptance). Contains (map confirmed_by (r.accepted t)) (confirmed_by x)) (r.accepted t) a (map-has confirmed_by (r.accepted t)) there

pub newest-of : (r : MapRecords) (t : ℕ) (a : MapAcceptance) (certificate : Certificate) → Safe (records_in r t) → Contains (r.accepted t) a → a.confirmation.body ≡ present certificate
    → HasNewest (records_in r t) a.asked.name a.confirmation.about.epoch a.confirmation.about.root certificate × IsTimely a.asked a.confirmation.about.epoch a.confirmation.body
newest-of r t a certificate safe there is = safe.newest (confirmed_by a) certificate (in-records r t a there) is

pub absence-of : (r : MapRecords) (t : ℕ) (a : MapAcceptance) (bottom : Bottom) → Safe (records_in r t) → Contains (r.accepted t) a → a.confirmation.body ≡ absent bottom
    → HasNone (records_in r t) a.asked.name a.confirmation.about.epoch a.confirmation.about.root × IsTimely a.asked a.confirmation.about.epoch a.confirmation.body
absence-of r t a bottom safe there is = safe.absence (confirmed_by a) bottom (in-records r t a there) is

pub order-of : (r : MapRecords) (t : ℕ) (one other : MapAcceptance) → Safe (records_in r t) → Contains (r.accepted t) one → Contains (r.accepted t) other → one.asked.name ≡ other.asked.name
    → AreInOrder (accepted_by (confirmed_by one)) (accepted_by (confirmed_by other))
order-of r t one other safe here there same =
    judged-in-order (records_in r t) safe (confirmed_by one) (confirmed_by other) (in-records r t one here) (in-records r t other there) same
