-- What the logs and authorities are made of.
use Rattle.std.proofs.Common.{arith, refl, ap, subst, ◌∙◌, sym, ◌≡◌, ℕ, zero, suc, ◌+◌, ◌<◌, ◌≤◌, ◌^◌, List, [], ◌∷◌, ◌++◌, append_assoc, length, drop}
use Rattle.std.specs.Prelude.{Bool, true, false, nat_le, if◌then◌else◌, map, option_to_list, slice_get, Option, Some, None, Err, Ok, Result}
use Rattle.std.specs.List.{range_with_len}
use Rattle.std.specs.Option.{option_map}
use Rattle.std.specs.Result.{result_ok}
use Rattle.std.proofs.lemmas.List.FromFn.{map-range_with_len_more, length-map-range_with_len}
use Rattle.std.proofs.lemmas.List.{drop-drop, length-map, map_push}
use Rattle.std.proofs.lemmas.Bool.{and_parts}
use Rattle.std.proofs.lemmas.Bool.Decides.{nat_tests}
use Rattle.std.proofs.lemmas.List.Elements.{All-cons, All-nil}
use Rattle.ar_base.specs.Chaining.{◌>>=◌}
use Rattle.ar_statement.specs.declared.party.Role.{Role}
use Rattle.ar_statement.specs.declared.party.Role.TheVariants.{LogServer, Authority}
use Rattle.ar_nodes.specs.authority_core.State.{AuthorityState}
use Rattle.key_roll.specs.Book.{empty_book}
use Rattle.key_roll.specs.Ring.{AreKeysOf, RingParts, ring_signature_len}
use Rattle.lms_tree.specs.Key.{public_of}
use Rattle.lms_tree.specs.KeyParts.{KeyParts}
use Rattle.lms_tree.specs.LmsKind.{leaves_of}
use Rattle.lms_tree.specs.declared.public_key.LmsPublic.{LmsPublic}
use Rattle.ar_nodes.specs.log_core.State.{CoreState}
use Rattle.party_keys.specs.Directory.{Directory, directory_of, directory_with, is_party_count, is_quorum}
use Rattle.party_keys.specs.declared.fault.DirectoryFault.{DirectoryFault}
use Rattle.party_keys.specs.declared.fault.DirectoryFault.TheVariants.{Logs, Authorities, Quorum}
use Rattle.ar_nodes.specs.Finding.{named}
use Rattle.ar_nodes.specs.Parties.{AuthorityNode, CheckParts, LogNode}
use Rattle.ar_nodes.specs.declared.fault.WorldFault.{WorldFault}
use Rattle.ar_nodes.specs.declared.fault.WorldFault.TheVariants.{Absent}
use Rattle.ar_founding.specs.FirstKeys.{FirstKeys, first_of, first_ring, with_first, Setup, key_for, keys_for}
use Rattle.ar_founding.specs.Founded.{AreOwn, EachHasRing, Founded, IsAuthorityRing, IsLogRing, authorities_of, founded_of, founded_with, logs_of}
use Rattle.ar_founding.specs.Founding.{authority_node, fresh_core, fresh_log, fresh_state, genesis_of, log_node, founded_authority}

more-first : (setup : Setup) (role : Role) (n : ℕ) → first_of (keys_for setup role (n + 1)) ≡ with_first (first_of (keys_for setup role n)) (key_for setup role n)
more-first setup role n =
    ap first_of (map-range_with_len_more (key_for setup role) 0 n n (omega arith)) ∙ simp map_push

pub grown : {X : Type 0} (f : ℕ → X) (n : ℕ) (before after : List X) (x : X) → before ≡ map f (range_with_len 0 n) → x ≡ f n → after ≡ before ++ x ∷ [] → after ≡ map f (range_with_len 0 (n + 1))
grown f n before after x before-is x-is after-is =
    after-is ∙ ap (λ (xs : List _). xs ++ x ∷ []) before-is ∙ ap (λ (y : _). map f (range_with_len 0 n) ++ y ∷ []) x-is ∙ sym (map-range_with_len_more f 0 n n (omega arith))

pub first-grown : (setup : Setup) (role : Role) (n : ℕ) (before after : FirstKeys) (key : KeyParts) → before ≡ first_of (keys_for setup role n) → key ≡ key_for setup role n → after ≡ with_first before key
    → after ≡ first_of (keys_for setup role (n + 1))
first-grown setup role n before after key before-is key-is after-is =
    after-is ∙ ap (λ (f : FirstKeys). with_first f key) before-is ∙ ap (with_first (first_of (keys_for setup role n))) key-is ∙ sym (more-first setup role n)

-- the keys of the logs once their number is told
pub logs-kept : (setup later : Setup) (count quorum : ℕ) (keys : FirstKeys) → keys ≡ first_of (keys_for setup LogServer count) → later ≡ record setup { logs = count; quorum = quorum }
    → keys ≡ first_of (keys_for later LogServer later.logs)
logs-kept setup later count quorum keys are is = are ∙ ap (λ (s : Setup). first_of (keys_for s LogServer s.logs)) (sym is)

-- what is put into an empty list
pub put-first : {X : Type 0} (before after more : List X) → before ≡ [] → after ≡ before ++ more → after ≡ more
put-first before after more none is = is ∙ ap (λ (xs : List _). xs ++ more) none

-- ---- too few or too many parties

no-directory : (logs authorities : List LmsPublic) (q : ℕ) → is_party_count (length authorities) ≡ false → result_ok (directory_of logs authorities q) ≡ None
no-directory logs authorities q few = by (is_party_count (length logs)) (is_party_count (length authorities)) few
  where
    by : (many some : Bool) → some ≡ false
        → result_ok {E = DirectoryFault} (if many then (if some then (if is_quorum q (length logs) then Ok (directory_with logs authorities q) else Err Quorum) else Err Authorities) else Err Logs) ≡ None
    by many true is = absurd cc
    by true false is = refl
    by false false is = refl

pub few-parties : (setup : Setup) (count : ℕ) → is_party_count count ≡ false → founded_of setup count ≡ Err (Absent 1)
few-parties setup count few =
    let publics : List LmsPublic = map public_of (keys_for setup Authority count) in
    let long : length publics ≡ count = length-map (keys_for setup Authority count) public_of ∙ length-map-range_with_len (key_for setup Authority) 0 count in
    let none : genesis_of setup count ≡ None = no-directory (map public_of (keys_for setup LogServer setup.logs)) publics setup.quorum (ap is_party_count long ∙ few) in
    ap (λ (g : Option Directory). named 1 g >>= (λ genesis. Ok (founded_with setup count genesis))) none

pub ruleset few_parties = (few-parties)

-- ---- one party at a time

pub first-taken : {X : Type 0} (old new : List X) (found : Option X) → old ≡ option_to_list found ++ new → new ≡ drop 1 old → found ≡ slice_get old 0
first-taken old new (Some x) is rest = rw is refl
first-taken [] new None is rest = refl
first-taken (x ∷ xs) new None is rest =
    let same : suc (length xs) ≡ length xs = ap length is ∙ ap length rest in
    absurd (omega arith)

pub ruleset first_taken = (first-taken)

pub log-joined : (before after : List (Option LogNode)) (cores later : List CoreState) (rings more : List RingParts) (core : CoreState) (ring : RingParts)
    → cores ≡ core ∷ later → rings ≡ ring ∷ more → after ≡ before ++ Some (log_node core ring) ∷ []
    → after ++ logs_of later more ≡ before ++ logs_of cores rings
log-joined before after cores later rings more core ring cores-are rings-are after-is = rw (cores-are, rings-are, after-is, append_assoc)

pub first-own : {X : Type 0} (own : X → RingParts → Type 0) (xs later : List X) (rings more : List RingParts) (x : X) (ring : RingParts)
    → xs ≡ x ∷ later → rings ≡ ring ∷ more → EachHasRing own xs rings → own x ring × EachHasRing own later more
first-own {X} own xs later rings more x ring xs-are rings-are each =
    subst (λ (rs : List RingParts). EachHasRing own (x ∷ later) rs) rings-are (subst (λ (ys : List X). EachHasRing own ys rings) xs-are each)

pub authority-joined : {C : Type 0} (parts : C → CheckParts) (before after : List (Option AuthorityNode)) (states later : List AuthorityState) (rings more : List RingParts) (checks left : List C)
    (state : AuthorityState) (ring : RingParts) (check : Option C)
    → states ≡ state ∷ later → rings ≡ ring ∷ more → check ≡ slice_get checks 0 → left ≡ drop 1 checks
    → after ≡ before ++ Some (authority_node state ring (option_map parts check)) ∷ []
    → after ++ authorities_of later more (map parts left) ≡ before ++ authorities_of states rings (map parts checks)
authority-joined parts before after states later rings more [] left state ring check states-are rings-are first rest after-is =
    rw (states-are, rings-are, after-is, first, rest, append_assoc)
authority-joined parts before after states later rings more (one ∷ checks) left state ring check states-are rings-are first rest after-is =
    rw (states-are, rings-are, after-is, first, rest, append_assoc)

-- ---- all parties

-- a new book has the one key
book-own : (key : KeyParts) → AreKeysOf (empty_book (leaves_of key.lms)) (ring_signature_len key) (key ∷ [])
book-own key = record {
  many = refl;
  leaves = All-cons (λ (k : KeyParts). leaves_of key.lms ≡ leaves_of k.lms) key [] refl (All-nil (λ (k : KeyParts). leaves_of key.lms ≡ leaves_of k.lms));
  bytes = All-cons (λ (k : KeyParts). ring_signature_len key ≡ ring_signature_len k) key [] refl (All-nil (λ (k : KeyParts). ring_signature_len key ≡ ring_signature_len k));
}

-- so each has its first ring
rings-own : {X : Type 0} (own : X → RingParts → Type 0) (fresh : ℕ → X) (key : ℕ → KeyParts) → ((number : ℕ) → own (fresh number) (first_ring (key number))) → (a n : ℕ)
    → EachHasRing own (map fresh (range_with_len a n)) (map first_ring (map key (range_with_len a n)))
rings-own own fresh key each a zero = tt
rings-own own fresh key each a (suc n) = (each a, rings-own own fresh key each (a + 1) n)

pub logs-from : (setup : Setup) (genesis : Directory) (a n : ℕ)
    → logs_of (map (λ number. fresh_core genesis number (key_for setup LogServer number)) (range_with_len a n)) (map first_ring (map (key_for setup LogServer) (range_with_len a n)))
    ≡ map (λ number. Some (fresh_log genesis number (key_for setup LogServer number))) (range_with_len a n)
logs-from setup genesis a zero = refl
logs-from setup genesis a (suc n) = ap (λ (more : List (Option LogNode)). Some (fresh_log genesis a (key_for setup LogServer a)) ∷ more) (logs-from setup genesis (a + 1) n)

get-drop : (a : ℕ) (checks : List CheckParts) → slice_get (drop a checks) 0 ≡ slice_get checks a
get-drop zero checks = refl
get-drop (suc a) [] = refl
get-drop (suc a) (check ∷ checks) = get-drop a checks

pub authorities-from : (setup : Setup) (genesis : Directory) (checks : List CheckParts) (a n : ℕ)
    → authorities_of (map (λ number. fresh_state genesis number (key_for setup Authority number)) (range_with_len a n)) (map first_ring (map (key_for setup Authority) (range_with_len a n))) (drop a checks)
    ≡ map (λ number. Some (founded_authority genesis number (key_for setup Authority number) (slice_get checks number))) (range_with_len a n)
authorities-from setup genesis checks a zero = refl
authorities-from setup genesis checks a (suc n) =
    ap (λ (check : Option CheckParts). Some (founded_authority genesis a (key_for setup Authority a) check) ∷ authorities_of states rings (drop 1 (drop a checks))) (get-drop a checks)
    ∙ ap (λ (left : List CheckParts). Some (founded_authority genesis a (key_for setup Authority a) (slice_get checks a)) ∷ authorities_of states rings left) (drop-drop 1 a checks)
    ∙ ap (λ (more : List (Option AuthorityNode)). Some (founded_authority genesis a (key_for setup Authority a) (slice_get checks a)) ∷ more) (authorities-from setup genesis checks (a + 1) n)
  where
    states : List AuthorityState
    states = map (λ number. fresh_state genesis number (key_for setup Authority number)) (range_with_len (a + 1) n)

    rings : List RingParts
    rings = map first_ring (map (key_for setup Authority) (range_with_len (a + 1) n))

logs-few : (logs authorities : List LmsPublic) (q : ℕ) (keys : Directory) → directory_of logs authorities q ≡ Ok keys → length logs ≤ 16
logs-few logs authorities q keys e = by (is_party_count (length logs)) refl e
  where
    at-most : (n : ℕ) → nat_le n 16 ≡ true → n ≤ 16
    at-most n most = grind (arith, nat_tests)

    by : (many : Bool) → is_party_count (length logs) ≡ many
        → (if many then (if is_party_count (length authorities) then (if is_quorum q (length logs) then Ok (directory_with logs authorities q) else Err Quorum) else Err Authorities) else Err Logs) ≡ Ok keys
        → length logs ≤ 16
    by true is made = at-most (length logs) (and_parts _ _ is).1
    by false is made = absurd cc

genesis-few : (setup : Setup) (count : ℕ) (genesis : Directory) → named 1 (genesis_of setup count) ≡ Ok genesis → setup.logs ≤ 16
genesis-few setup count genesis e = by (directory_of logs authorities setup.quorum) refl e
  where
    logs : List LmsPublic
    logs = map public_of (keys_for setup LogServer setup.logs)

    authorities : List LmsPublic
    authorities = map public_of (keys_for setup Authority count)

    long : length logs ≡ setup.logs
    long = length-map (keys_for setup LogServer setup.logs) public_of ∙ length-map-range_with_len (key_for setup LogServer) 0 setup.logs

    by : (r : Result Directory DirectoryFault) → directory_of logs authorities setup.quorum ≡ r → named 1 (result_ok r) ≡ Ok genesis → setup.logs ≤ 16
    by (Ok keys) is made = subst (λ (n : ℕ). n ≤ 16) long (logs-few logs authorities setup.quorum keys is)
    by (Err fault) is made = absurd cc

pub founded-own : (setup : Setup) (count : ℕ) (founded : Founded) → founded_of setup count ≡ Ok founded → AreOwn setup founded
founded-own setup count founded is = by (named 1 (genesis_of setup count)) refl is
  where
    own : (genesis : Directory) → setup.logs ≤ 16 → AreOwn setup (founded_with setup count genesis)
    own genesis most = record {
      logs = rings-own IsLogRing (λ number. fresh_core genesis number (key_for setup LogServer number)) (key_for setup LogServer) (λ number. book-own (key_for setup LogServer number)) 0 setup.logs;
      authorities = rings-own IsAuthorityRing (λ number. fresh_state genesis number (key_for setup Authority number)) (key_for setup Authority) (λ number. book-own (key_for setup Authority number)) 0 count;
      few = subst (λ (n : ℕ). n < 2 ^ 16) (sym (length-map-range_with_len (λ number. fresh_core genesis number (key_for setup LogServer number)) 0 setup.logs)) (omega arith);
    }

    by : (g : Result Directory WorldFault) → named 1 (genesis_of setup count) ≡ g → g >>= (λ genesis. Ok (founded_with setup count genesis)) ≡ Ok founded → AreOwn setup founded
    by (Ok genesis) was made = let same : founded_with setup count genesis ≡ founded = cc in subst (AreOwn setup) same (own genesis (genesis-few setup count genesis was))
    by (Err fault) was made = absurd cc

-- there are as many logs as cores at most
joined-few : (cores : List CoreState) (rings : List RingParts) → length (logs_of cores rings) ≤ length cores
joined-few [] rings = omega arith
joined-few (core ∷ cores) [] = omega arith
joined-few (core ∷ cores) (ring ∷ rings) =
    let less : length (logs_of cores rings) ≤ length cores = joined-few cores rings in
    omega arith

pub few-kept : (f told : Founded) (rings : List RingParts) (logs : List (Option LogNode)) → logs ≡ logs_of told.cores rings → told ≡ f → length f.cores < 2 ^ 16 → length logs < 2 ^ 16
few-kept f told rings logs logs-are is few =
    let many : length logs ≡ length (logs_of told.cores rings) = ap length logs-are in
    let less : length (logs_of told.cores rings) ≤ length told.cores = joined-few told.cores rings in
    let same : length told.cores ≡ length f.cores = ap (λ (x : Founded). length x.cores) is in
    omega arith
