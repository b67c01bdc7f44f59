-- Under one root a name has one directory, or two strings collide.
use Rattle.std.proofs.Common.{◌≡◌, ℕ, zero, suc, ◌+◌, ◌*◌, ◌/◌, ◌<◌, ◌≤◌, List, [], ◌∷◌, ◌++◌, length, drop, refl, sym, ap, ◌∙◌, subst, inl, inr, arith}
use Rattle.std.specs.Prelude.{IsTrue}
use Rattle.std.specs.Bool.{Decides}
use Rattle.std.specs.Simd.{first_chunks}
use Rattle.std.proofs.lemmas.Bool.Decides.{Decides-and, Decides-eqb}
use Rattle.sha2.specs.Sha256.{sha256}
use Rattle.sha2.proofs.Facts256.{length-sha256}
use Rattle.ar_base.specs.Apart.{Apart, IsIn, none_collide}
use Rattle.ar_base.proofs.Apart.{apart, in_front, in_rest}
use Rattle.hash_tree.specs.Entries.{bit}
use Rattle.hash_tree.specs.Strings.{entry_string}
use Rattle.tree_proof.specs.Fold.{digests_in, path_value}
use Rattle.tree_proof.proofs.Down.{length-turned, path_value-down, strings_down, strings_down-above, turned, value_down}
use Rattle.tree_proof.proofs.Lands.{same_parts_from_end}
use Rattle.tree_proof.proofs.Tested.{is_on-Decides}
use Rattle.party_keys.specs.Directory.{Directory}
use Rattle.table_map.specs.Digests.{directory_digest, directory_string, directory_text}
use Rattle.table_map.specs.Maps.{IsPlaced, TableMap, is_placed, placed_strings}
use Rattle.table_map.specs.Tables.{table_key, table_of}
use Rattle.table_map.proofs.Bits.{key-agrees}
use Rattle.table_map.proofs.OneFoot.{one-foot}

pub is_placed-Decides : (m : TableMap) (table : ℕ) (keys : Directory) (path : List ℕ) → Decides (is_placed m table keys path) (IsPlaced m table keys path)
unfolding is_placed
is_placed-Decides m table keys path =
    let both = Decides-and _ _ (Decides-eqb (length path) (32 * m.bits)) (is_on-Decides (table_key m.bits table) (directory_digest keys) path m.root) in
    (λ h. let b = both.0 h in record { steps = b.0; shown = b.1 }, λ is. both.1 (is.steps, is.shown))

chunk-count : (k : ℕ) (bytes : List ℕ) → length (first_chunks 32 k bytes) ≡ k
chunk-count zero bytes = refl
chunk-count (suc k) bytes = ap suc (chunk-count k (drop 32 bytes))

-- the path of a table has a step for each bit
step-count : (m : TableMap) (table : ℕ) (keys : Directory) (path : List ℕ) → IsPlaced m table keys path → length (turned (digests_in path)) ≡ m.bits
step-count m table keys path is =
    let whole : length path / 32 ≡ m.bits = omega (arith, is.steps) in
    length-turned (digests_in path) ∙ chunk-count (length path / 32) path ∙ whole

digest-length : (keys : Directory) → length (directory_digest keys) ≡ 32
unfolding directory_digest
digest-length keys = length-sha256 _

one-text : (keys others : Directory) (strings : List (List ℕ)) → Apart strings → IsIn strings (directory_string keys) → IsIn strings (directory_string others)
    → directory_digest keys ≡ directory_digest others → directory_text keys ≡ directory_text others
unfolding directory_digest
one-text keys others strings apart here there same = ap (drop 1) (apart (directory_string keys) (directory_string others) here there same)

pub one-directory : (one other : TableMap) (name : List ℕ) (keys others : Directory) (path way : List ℕ) → one.bits ≤ 24 → other.bits ≤ 24 → one.root ≡ other.root
    → IsPlaced one (table_of one.bits name) keys path → IsPlaced other (table_of other.bits name) others way
    → IsTrue (none_collide (placed_strings one.bits (table_of one.bits name) keys path ++ placed_strings other.bits (table_of other.bits name) others way))
    → (one.bits ≡ other.bits) × (directory_text keys ≡ directory_text others)
one-directory one other name keys others path way few little root is are clean =
    let key = table_key one.bits (table_of one.bits name) in
    let lock = table_key other.bits (table_of other.bits name) in
    let first : List (List ℕ) = placed_strings one.bits (table_of one.bits name) keys path in
    let second : List (List ℕ) = placed_strings other.bits (table_of other.bits name) others way in
    let strings : List (List ℕ) = first ++ second in
    let none : Apart strings = apart strings clean in
    let steps = digests_in path in
    let stairs = digests_in way in
    let foot = key ++ directory_digest keys in
    let sole = lock ++ directory_digest others in
    let count = step-count one (table_of one.bits name) keys path is in
    let number = step-count other (table_of other.bits name) others way are in
    let up : path_value key (sha256 (1 ∷ foot)) steps ≡ one.root = is.shown.1.1 in
    let high : path_value lock (sha256 (1 ∷ sole)) stairs ≡ other.root = are.shown.1.1 in
    let tops : value_down 0 key (sha256 (1 ∷ foot)) (turned steps) ≡ value_down 0 lock (sha256 (1 ∷ sole)) (turned stairs) =
    sym (path_value-down key (sha256 (1 ∷ foot)) steps) ∙ up ∙ root ∙ sym high ∙ path_value-down lock (sha256 (1 ∷ sole)) stairs in
    let bits : (t : ℕ) → t < 0 + length (turned steps) → t < 0 + length (turned stairs) → bit key t ≡ bit lock t =
    λ t l m. key-agrees one.bits name few t (omega (arith, l, count)) ∙ sym (key-agrees other.bits name little t (omega (arith, m, number))) in
    let both = one-foot (turned steps) (turned stairs) 0 key lock foot sole strings none
    (λ x i. in_front first second x (inr (inr (strings_down-above key (sha256 (1 ∷ foot)) steps x i))))
    (λ x i. in_rest first second x (inr (inr (strings_down-above lock (sha256 (1 ∷ sole)) stairs x i))))
    (in_front first second (1 ∷ foot) (inr (inl refl))) (in_rest first second (1 ∷ sole) (inr (inl refl))) bits tops in
    let values : directory_digest keys ≡ directory_digest others =
    (same_parts_from_end key (directory_digest keys) lock (directory_digest others) both.same_foot (digest-length keys ∙ sym (digest-length others))).1 in (
      sym count ∙ both.same_length ∙ number,
      one-text keys others strings none (in_front first second (directory_string keys) (inl refl)) (in_rest first second (directory_string others) (inl refl)) values,
    )
